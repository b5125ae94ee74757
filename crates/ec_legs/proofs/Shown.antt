-- After a leg of native code at a node the nodes show the world in which the activation has gone on.
use Rattle.std.proofs.Common.{◌≡◌, ◌≢◌, ◌⊎◌, ℕ, suc, ◌+◌, List, length, Option, Some, refl, sym, ap, ◌∙◌, subst, inl, inr, ⊎_elim}
use Rattle.std.proofs.Common.{arith}
use Rattle.std.specs.Prelude.{slice_get, slice_set}
use Rattle.std.proofs.lemmas.Option.{same_Some}
use Rattle.ec_base.proofs.Lists.{get_set_same, get_within}
use Rattle.ec_cluster.proofs.Putting.{node_put, with_node}
use Rattle.ec_cluster.specs.Cluster.{CodeWorld, Shows, frame_of, place, stores, stores_of}
use Rattle.ec_cluster.specs.Images.{homes_on}
use Rattle.ec_cluster.specs.declared.cluster.Cluster.{Cluster}
use Rattle.ec_code.specs.Activations.{code_silent}
use Rattle.ec_code.specs.declared.activation.CodeActivation.{CodeActivation}
use Rattle.ec_machine_code.specs.declared.code.Code.{Code}
use Rattle.ec_legs.proofs.Tops.{set_end, there, went, with_top}
use Rattle.ec_legs.proofs.Touched.{HasShown, some_shown}
use Rattle.ec_legs.proofs.Walked.{OwnRan, silent_own, silent_ran}
use Rattle.ec_legs.specs.Going.{IsDoneTop}
use Rattle.ec_legs.specs.Legs.{Leg}
use Rattle.ec_world.proofs.Procs.{activation_here, get_end, total_set}
use Rattle.ec_world.specs.Held.{if_at, total}
use Rattle.ec_world.specs.Things.{blocks_of, class_blocks}
use Rattle.ec_world.specs.declared.key.Key.{Key}
use Rattle.ec_world.specs.declared.key.Key.TheVariants.{Frame, Object}
use Rattle.ec_stores.specs.Node.{NodeData, store_of}
use Rattle.ec_things.proofs.Put.{same_or_not}
use Rattle.ec_things.proofs.Ran.{ran_world, run_puts}
use Rattle.ec_things.proofs.Same.{restated}
use Rattle.ec_things.proofs.Touch.{NodeKept}
use Rattle.ec_things.proofs.World.{global_kept}
use Rattle.ec_things.specs.Held.{Held, frame_weight, object_weight, process_weight}
use Rattle.ec_things.specs.Shows.{GlobalStands}
use Rattle.ec_things.specs.Store.{Grown, Store, Tidy}
use Rattle.ec_things.specs.Things.{NodePut, Shown, ShowsThings, ThingsPut, frame_if, object_if, object_thing, things_of}
use Rattle.ec_world.specs.Objects.{object_at}
use Rattle.ec_world.specs.declared.common.Common.{Common}
use Rattle.ec_world.specs.declared.object.ObjectRec.{ObjectRec}
use Rattle.ec_world.specs.declared.process.Proc.{Proc}
use Rattle.ec_world.specs.declared.value.Value.{Value}

module _ (c : Cluster) (k : ℕ) (n n' : NodeData) (w : CodeWorld) (here : slice_get c.nodes k ≡ Some n) (shows : Shows c w) (p : ℕ)
    (below : List CodeActivation) (top : CodeActivation) (is : IsDoneTop w p below top) (at : place c top.own ≡ Some k) (i : ℕ)
    (own : top.own ≡ suc i) (o : ObjectRec) (object_is : slice_get w.common.objects i ≡ Some o) (code : Code) (count : ℕ)
    (leg : Leg code c.parts (homes_on c.images) w.common top (store_of n) (store_of n') p (length below) count) where
  abbrev x : Common × CodeActivation
  x = code_silent c.parts w.common top

  abbrev proc : Proc CodeActivation
  proc = is.is_top.proc

  abbrev proc' : Proc CodeActivation
  proc' = with_top below x.1

  ran : OwnRan i o w.common x.0
  ran = silent_ran c.parts w.common top i o object_is own

  -- the world with the own object and the activation changed, and all else as it was
  abbrev between : CodeWorld
  between = ran_world w i ran.object p proc'

  abbrev after : ℕ → Option Store
  after = stores_of (slice_set c.nodes k n')

  put : NodePut (stores c) after k (store_of n) (store_of n')
  put = node_put c.nodes k n n' here

  -- ---- things

  size : blocks_of ran.object ≡ blocks_of o
  size = ap (λ z. class_blocks z (length ran.object.fields)) ran.class ∙ ap (class_blocks o.class) ran.size

  abbrev Touched : Key → Type 0
  Touched key = (key ≡ Object (suc i)) ⊎ (key ≡ Frame p (length below))

  grown : Grown (store_of n) (store_of n')
  grown = record {
    kind = leg.kind;
    local = λ j oid e. leg.local j ∙ e;
    text = λ j t e. leg.text j ∙ e;
    global = leg.global;
    room = leg.room;
    text_room = leg.text_room;
  }

  kept : NodeKept Touched (store_of n) (store_of n')
  kept = record {
    grown = grown;
    rows = λ key h. leg.others key (λ e. h (inr e)) (λ e. h (inl (e ∙ ap Object own)));
  }

  puts : ThingsPut (place c) k Touched (things_of (frame_of c) w) (things_of (frame_of c) between)
  puts =
      run_puts (frame_of c) (place c) w i p (length below) k o ran.object proc proc' top x.1 object_is is.is_top.is (there w p below top is)
      (sym (ap (λ xs. slice_set xs (length below) x.1) is.is_top.stack ∙ set_end below top x.1)) own
      (silent_own c.parts w.common top ∙ own) (ap (place c) (sym own) ∙ at) size

  object_now : slice_get (slice_set w.common.objects i ran.object) i ≡ Some ran.object
  object_now = get_set_same w.common.objects i ran.object (get_within w.common.objects i o object_is)

  object_shown : HasShown (things_of (frame_of c) between) (store_of n') (Object (suc i))
  object_shown =
      let is_now : object_at x.0.objects (suc i) ≡ Some ran.object = ap (λ os. slice_get os i) ran.objects ∙ object_now in
      let same : leg.object.object ≡ ran.object =
      same_Some leg.object.object ran.object (sym leg.object.is ∙ ap (object_at x.0.objects) own ∙ is_now) in
      record {
        thing = object_thing (suc i) ran.object;
        is = ap (object_if (suc i)) object_now;
        shown =
            subst (λ z. Shown (store_of n') (Object z) (object_thing z ran.object)) own
            (subst (λ (z : ObjectRec). Shown (store_of n') (Object top.own) (object_thing top.own z)) same leg.object.shown);
      }

  frame_shown : HasShown (things_of (frame_of c) between) (store_of n') (Frame p (length below))
  frame_shown = record {
    thing = frame_of c p (length below) x.1;
    is =
        ap (frame_if (frame_of c) p (length below))
        (activation_here w.processes p (length below) proc' (get_within w.processes p proc is.is_top.is) ∙ get_end below x.1);
    shown = leg.frame;
  }

  things_stand : ShowsThings after (things_of (frame_of c) between) (place c)
  things_stand =
      some_shown (stores c) after (things_of (frame_of c) w) (things_of (frame_of c) between) (place c) k (store_of n) (store_of n')
      Touched shows.things_stand put kept puts
      (λ key t. ⊎_elim
      (λ (e : key ≡ Object (suc i)). subst (HasShown (things_of (frame_of c) between) (store_of n')) (sym e) object_shown)
      (λ (e : key ≡ Frame p (length below)). subst (HasShown (things_of (frame_of c) between) (store_of n')) (sym e) frame_shown)
      t)

  -- ---- constants, tables and room

  is_after : (j : ℕ) (y : Store) → after j ≡ Some y → j ≡ k → store_of n' ≡ y
  is_after j y e same = same_Some (store_of n') y (sym put.after ∙ ap after (sym same) ∙ e)

  was_before : (j : ℕ) (y : Store) → after j ≡ Some y → j ≢ k → stores c j ≡ Some y
  was_before j y e ne = sym (put.others j ne) ∙ e

  globals_stand : (j : ℕ) (y : Store) (m : ℕ) (v : Value) → after j ≡ Some y → slice_get w.common.globals m ≡ Some v → GlobalStands y m v
  globals_stand j y m v e f = ⊎_elim
      (λ (same : j ≡ k). subst (λ (z : Store). GlobalStands z m v) (is_after j y e same)
      (global_kept (store_of n) (store_of n') m v grown (shows.globals_stand k (store_of n) m v put.before f)))
      (λ (ne : j ≢ k). shows.globals_stand j y m v (was_before j y e ne) f)
      (same_or_not j k)

  tidy : (j : ℕ) (y : Store) → after j ≡ Some y → Tidy y
  tidy j y e = ⊎_elim
      (λ (same : j ≡ k). subst Tidy (is_after j y e same) leg.tidy)
      (λ (ne : j ≢ k). shows.tidy j y (was_before j y e ne))
      (same_or_not j k)

  held_same : (j : ℕ) → Held (frame_of c) (place c) j between ≡ Held (frame_of c) (place c) j w
  held_same j =
      let objects : total (object_weight (frame_of c) (place c) j) 0 (slice_set w.common.objects i ran.object)
      + object_weight (frame_of c) (place c) j i o ≡ total (object_weight (frame_of c) (place c) j) 0 w.common.objects
      + object_weight (frame_of c) (place c) j i ran.object =
      total_set (object_weight (frame_of c) (place c) j) 0 w.common.objects i i o ran.object object_is (omega arith) in
      let same_object : object_weight (frame_of c) (place c) j i ran.object ≡ object_weight (frame_of c) (place c) j i o =
      ap (λ z. if_at j z (place c (suc i))) size in
      let frames : process_weight (frame_of c) (place c) j p proc' + frame_weight (frame_of c) (place c) j p (length below) top
      ≡ process_weight (frame_of c) (place c) j p proc + frame_weight (frame_of c) (place c) j p (length below) x.1 =
      ap (λ z. total (frame_weight (frame_of c) (place c) j p) 0 z + frame_weight (frame_of c) (place c) j p (length below) top)
      (sym (ap (λ xs. slice_set xs (length below) x.1) is.is_top.stack ∙ set_end below top x.1))
      ∙ total_set (frame_weight (frame_of c) (place c) j p) 0 proc.activations (length below) (length below) top x.1
      (there w p below top is) (omega arith) in
      let same_frame : frame_weight (frame_of c) (place c) j p (length below) x.1 ≡ frame_weight (frame_of c) (place c) j p (length below)
      top =
      ap (λ z. if_at j 1 (place c z)) (silent_own c.parts w.common top) in
      let processes : total (process_weight (frame_of c) (place c) j) 0 (slice_set w.processes p proc')
      + process_weight (frame_of c) (place c) j p proc ≡ total (process_weight (frame_of c) (place c) j) 0 w.processes
      + process_weight (frame_of c) (place c) j p proc' =
      total_set (process_weight (frame_of c) (place c) j) 0 w.processes p p proc proc' is.is_top.is (omega arith) in
      omega (arith, objects, same_object, frames, same_frame, processes)

  room : (j : ℕ) (y : Store) → after j ≡ Some y → y.free + Held (frame_of c) (place c) j between ≡ y.room
  room j y e = ⊎_elim
      (λ (same : j ≡ k).
      let at_k : (store_of n').free + Held (frame_of c) (place c) k between ≡ (store_of n').room =
      (let h = held_same k in let r = shows.room k (store_of n) put.before in omega (arith, h, r, leg.free, leg.room)) in
      subst (λ (z : Store). z.free + Held (frame_of c) (place c) j between ≡ z.room) (is_after j y e same)
      (subst (λ z. (store_of n').free + Held (frame_of c) (place c) z between ≡ (store_of n').room) (sym same) at_k))
      (λ (ne : j ≢ k). let h = held_same j in let r = shows.room j y (was_before j y e ne) in omega (arith, h, r))
      (same_or_not j k)

  -- ---- the world

  pub went_shown : Shows (with_node c k n') (went w p below x)
  went_shown =
      restated (frame_of c) after between (went w p below x) (place c) ran.objects ran.globals refl (record {
        things_stand = things_stand;
        globals_stand = globals_stand;
        tidy = tidy;
        room = room;
      })
