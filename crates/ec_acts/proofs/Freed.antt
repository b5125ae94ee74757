-- Where the activation on top of a process has gone a block is free.
use Rattle.std.proofs.Common.{◌≡◌, ◌<◌, ℕ, ◌+◌, Bool, eq-eqb, List, [], ◌∷◌, ◌++◌, Some, refl, sym, ap, ◌∙◌, arith}
use Rattle.std.specs.Prelude.{if◌then◌else◌, length, slice_get, slice_set}
use Rattle.std.proofs.lemmas.Option.{same_Some}
use Rattle.ec_activations.specs.Frames.{frame_thing}
use Rattle.ec_cluster.specs.Cluster.{CodeWorld, Shows, frame_of, place, stores}
use Rattle.ec_cluster.specs.Images.{homes_on}
use Rattle.ec_cluster.specs.Steps.{Changes}
use Rattle.ec_cluster.specs.declared.cluster.Cluster.{Cluster}
use Rattle.ec_cluster.specs.declared.cluster.Images.{Images}
use Rattle.ec_cluster.specs.Frames.{with_stack}
use Rattle.ec_code.specs.declared.activation.CodeActivation.{CodeActivation}
use Rattle.ec_code.specs.declared.code.Parts.{Parts}
use Rattle.ec_cluster.specs.Whereabouts.{Traces, place_at}
use Rattle.ec_world.proofs.Procs.{total_push, total_set}
use Rattle.ec_world.specs.Held.{if_at, total}
use Rattle.ec_acts.proofs.Stacking.{at_node, get_at, stack_with}
use Rattle.ec_things.specs.Held.{Held, frame_weight, object_weight, process_weight}
use Rattle.ec_things.specs.Store.{Store}
use Rattle.ec_things.specs.Texts.{GetsTexts}
use Rattle.ec_world.specs.declared.process.Proc.{Proc}
use Rattle.ec_world.specs.declared.process.ProcStatus.{ProcStatus}

-- what is left of a room when one block less is held
one_more_free : (now was room kept after before stack rest below low here there top : ℕ) → now + (kept + after) ≡ room →
    was + (kept + before) ≡ room → after + stack ≡ before + rest → stack ≡ below + top → top ≡ 1 → below ≡ low + here → rest ≡ low + there →
    there ≡ here → 0 < now
one_more_free now was room kept after before stack rest below low here there top a b c d e f g h = omega arith

abbrev held_by : Parts → Images → Traces → ℕ → CodeWorld → ℕ
held_by parts images whereabouts k w = Held (frame_thing parts (homes_on images)) (place_at whereabouts) k w

held_moved : (c c' : Cluster) (w : CodeWorld) (k : ℕ) → c'.parts ≡ c.parts → c'.images ≡ c.images → c'.whereabouts ≡ c.whereabouts →
    Held (frame_of c') (place c') k w ≡ Held (frame_of c) (place c) k w
held_moved c c' w k parts images whereabouts =
    ap (λ (x : Parts). held_by x c'.images c'.whereabouts k w) parts
    ∙ ap (λ (x : Images). held_by c.parts x c'.whereabouts k w) images
    ∙ ap (λ (x : Traces). held_by c.parts c.images x k w) whereabouts

module _ (Added : ℕ → List ℕ → Type 0) (c c' : Cluster) (changes : Changes Added c c') (whereabouts : c'.whereabouts ≡ c.whereabouts)
    (w : CodeWorld) (shows : Shows c w) (p : ℕ) (proc : Proc CodeActivation) (is : slice_get w.processes p ≡ Some proc)
    (below low : List CodeActivation) (top a next : CodeActivation) (stack : proc.activations ≡ below ++ top ∷ [])
    (parts : below ≡ low ++ a ∷ []) (own : next.own ≡ a.own) (status : ProcStatus)
    (after : Shows c' (with_stack w p (low ++ next ∷ []) status)) where
  there : slice_get proc.activations (length below) ≡ Some top
  there = ap (λ (xs : List CodeActivation). slice_get xs (length below)) stack ∙ get_at below [] top

  pub block_free : (k : ℕ) (s : Store) → place c' top.own ≡ Some k → stores c' k ≡ Some s → 0 < s.free
  block_free k s at stands =
      let node = at_node c w shows p proc is (length below) top there in
      let here : place c top.own ≡ Some k = ap (λ (x : Traces). place_at x top.own) (sym whereabouts) ∙ at in
      let same : node.node ≡ k = same_Some node.node k (sym node.home ∙ here) in
      let was : stores c k ≡ Some node.store = ap (stores c) (sym same) ∙ node.there in
      let x = changes.each k node.store was in
      let gets : GetsTexts (Added k) node.store x.0 = x.2 in
      let now : x.0 ≡ s = same_Some x.0 s (sym x.1 ∙ stands) in
      let room : node.store.room ≡ s.room = sym gets.room ∙ ap (λ (y : Store). y.room) now in
      let later : CodeWorld = with_stack w p (low ++ next ∷ []) status in
      let held : s.free + Held (frame_of c) (place c) k later ≡ s.room =
      ap (λ n. s.free + n) (sym (held_moved c c' later k changes.parts changes.images whereabouts)) ∙ after.room k s stands in
      let before : node.store.free + Held (frame_of c) (place c) k w ≡ s.room = shows.room k node.store was ∙ room in
      let weight = frame_weight (frame_of c) (place c) k p in
      let all = process_weight (frame_of c) (place c) k in
      one_more_free s.free node.store.free s.room (total (object_weight (frame_of c) (place c) k) 0 w.common.objects)
      (total all 0 (slice_set w.processes p (stack_with (low ++ next ∷ []) status))) (total all 0 w.processes) (all p proc)
      (total weight 0 (low ++ next ∷ [])) (total weight 0 below) (total weight 0 low) (weight (length low) a) (weight (length low) next)
      (weight (length below) top) held before
      (total_set all 0 w.processes p p proc (stack_with (low ++ next ∷ []) status) is (omega arith))
      (ap (total weight 0) stack ∙ total_push weight 0 below (length below) top (omega arith))
      (ap (if_at k 1) here ∙ ap (λ (b : Bool). if b then 1 else 0) (eq-eqb k k refl))
      (ap (total weight 0) parts ∙ total_push weight 0 low (length low) a (omega arith))
      (total_push weight 0 low (length low) next (omega arith))
      (ap (λ o. if_at k 1 (place c o)) own)
