-- How many blocks the first world, and each world on the way to it, has at a node.
use Rattle.std.proofs.Common.{◌≡◌, ◌≢◌, ℕ, zero, suc, ◌+◌, List, [], ◌∷◌, ◌++◌, Option, Some, None, refl, ap, arith}
use Rattle.std.specs.Prelude.{replicate}
use Rattle.std.proofs.lemmas.List.{length-replicate}
use Rattle.ec_activations.specs.Frames.{frame_thing}
use Rattle.ec_code.specs.declared.activation.CodeActivation.{CodeActivation}
use Rattle.ec_code.specs.declared.code.Parts.{Parts}
use Rattle.ec_machine_code.specs.declared.homes.Home.{Home}
use Rattle.ec_acts.specs.Worlds.{first_blocks, first_process, with_first, with_objects}
use Rattle.ec_world.proofs.Procs.{total_push}
use Rattle.ec_world.specs.Held.{if_at, total}
use Rattle.ec_things.proofs.World.{if_elsewhere, if_here, if_none}
use Rattle.ec_things.specs.Held.{Held, object_weight, process_weight}
use Rattle.ec_things.specs.Things.{Thing}
use Rattle.ec_world.specs.Run.{node_object, program_object}
use Rattle.ec_world.specs.declared.node.Kind.{Kind}
use Rattle.ec_world.specs.declared.object.ObjectRec.{ObjectRec}

no_blocks : (k : ℕ) (x : Option ℕ) → if_at k 0 x ≡ 0
no_blocks k None = refl
no_blocks k (Some j) = if_none k j

total_none : (f : ℕ → ObjectRec → ℕ) (o : ObjectRec) → ((i : ℕ) → f i o ≡ 0) → (from n : ℕ) → total f from (replicate n o) ≡ 0
total_none f o none from zero = refl
total_none f o none from (suc n) = let here = none from in let rest = total_none f o none (suc from) n in omega (arith, here, rest)

-- at node 0, or elsewhere
at_first : (k : ℕ) → if_at k 1 (Some 0) + if_at k 1 (Some 0) ≡ first_blocks k
at_first zero = let h = if_here 0 1 in omega (arith, h)
at_first (suc k) = let ne : suc k ≢ 0 = λ e. cc in let h = if_elsewhere (suc k) 0 1 ne in omega (arith, h)

module _ (p q : Parts) (homes : Kind → List (List Home)) (place : ℕ → Option ℕ) (k m n : ℕ) where
  abbrev frame : ℕ → ℕ → CodeActivation → Thing
  frame = frame_thing q homes

  nodes_weigh_nothing : total (object_weight frame place k) 0 (replicate n node_object) ≡ 0
  nodes_weigh_nothing = total_none (object_weight frame place k) node_object (λ i. no_blocks k (place (suc i))) 0 n

  pub held_nodes : Held frame place k (with_objects m p (replicate n node_object)) ≡ 0
  held_nodes = let none = nodes_weigh_nothing in omega (arith, none)

  module _ (at : place (suc n) ≡ Some 0) where
    objects_weigh : total (object_weight frame place k) 0 (replicate n node_object ++ program_object ∷ []) ≡ if_at k 1 (Some 0)
    objects_weigh =
        let push = total_push (object_weight frame place k) 0 (replicate n node_object) n program_object
        (let l = length-replicate n node_object in omega (arith, l)) in
        let none = nodes_weigh_nothing in
        let one : object_weight frame place k n program_object ≡ if_at k 1 (Some 0) = ap (if_at k 1) at in
        omega (arith, push, none, one)

    pub held_objects : Held frame place k (with_objects m p (replicate n node_object ++ program_object ∷ [])) ≡ if_at k 1 (Some 0)
    held_objects = let o = objects_weigh in omega (arith, o)

    pub held_first :
        Held frame place k (with_first (with_objects m p (replicate n node_object ++ program_object ∷ [])) (suc n)) ≡ first_blocks k
    held_first =
        let o = objects_weigh in
        let one : process_weight frame place k 0 (first_process (suc n)) ≡ if_at k 1 (Some 0) + 0 = ap (λ x. if_at k 1 x + 0) at in
        let both = at_first k in
        omega (arith, o, one, both)
