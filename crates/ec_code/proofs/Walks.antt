-- What each store into an own field keeps of the world beside its processes, silent steps keep.
use Rattle.std.proofs.Common.{ℕ, zero, suc, Bool, true, false, List, [], ◌∷◌, drop, Option, Some, None}
use Rattle.std.specs.Prelude.{option_map, slice_get}
use Rattle.ec_code.specs.Activations.{Arrived, code_if, code_silent, machine_behind, operation_at, resting, walk, walk_by}
use Rattle.ec_code.specs.Steps.{Done, Goes, Loops, Machine, NoCase, Rests, act, as_wanted, computed, decides, gives, on_numbers, on_two}
use Rattle.ec_code.specs.Steps.{operand_at, own_field, passes, rests, stores, tested, variables_at}
use Rattle.ec_code.specs.declared.activation.CodeActivation.{CodeActivation}
use Rattle.ec_code.specs.declared.code.Line.{Line}
use Rattle.ec_code.specs.declared.code.Op.{Op}
use Rattle.ec_code.specs.declared.code.Op.TheVariants as op
use Rattle.ec_code.specs.declared.code.Parts.{Parts}
use Rattle.ec_code.specs.declared.code.StopRow.{StopRow}
use Rattle.ec_code.specs.declared.code.Variable.{Variable}
use Rattle.ec_code.specs.declared.code.Variable.TheVariants.{Named, Temporary}
use Rattle.ec_world.specs.declared.common.Common.{Common}
use Rattle.ec_world.specs.declared.value.Value.{Value}
use Rattle.ec_world.specs.declared.value.Value.TheVariants.{Ref, Str}

module _ (Kept : Common → Type 0) where
  -- so it is where a step goes on
  abbrev pub Keeps : Done → Type 0
  Keeps (Goes new over) = Kept new.common
  Keeps (Rests row operands) = Unit {0}
  Keeps (Loops back) = Unit {0}
  Keeps NoCase = Unit {0}

  -- each store into a field of this object keeps it
  abbrev pub StoresKeep : ℕ → Type 0
  StoresKeep own = (m : Machine) (n : ℕ) (v : Value) → Kept m.common → Keeps (stores m own n (Some v))

  gives_keeps : (m : Machine) (to : Variable) (r : Option Value) → Kept m.common → Keeps (gives m to r)
  gives_keeps m to None h = tt
  gives_keeps m (Named n) (Some v) h = h
  gives_keeps m (Temporary n) (Some v) h = h

  decides_keeps : (m : Machine) (to : Variable) (r : Option Bool) → Kept m.common → Keeps (decides m to r)
  decides_keeps m to None h = tt
  decides_keeps m (Named n) (Some v) h = h
  decides_keeps m (Temporary n) (Some v) h = h

  passes_keeps : (m : Machine) (over : ℕ) (r : Option Bool) → Kept m.common → Keeps (passes m over r)
  passes_keeps m over None h = tt
  passes_keeps m over (Some true) h = h
  passes_keeps m over (Some false) h = h

  rests_keeps : (row : StopRow) (own : ℕ) (r : Option (List Value)) → Keeps (rests row own r)
  rests_keeps row own None = tt
  rests_keeps row own (Some vs) = tt

  step_keeps : (place : ℕ) (next : ℕ → Machine → Common × Option Arrived) (m : Machine) (done : Done) → Kept m.common → Keeps done →
      ((over : ℕ) (new : Machine) → Kept new.common → Kept (next over new).0) → Kept (walk_by place next m done).0
  step_keeps place next m (Goes new over) h k further = further over new k
  step_keeps place next m (Rests row operands) h k further = h
  step_keeps place next m (Loops back) h k further = h
  step_keeps place next m NoCase h k further = h

  resting_keeps : (a : CodeActivation) (x : Common × Option Arrived) → Kept x.0 → Kept (resting a x).0
  resting_keeps a (c, r) h = h

  module _ (literals : List (List ℕ)) (own : ℕ) (stored : StoresKeep own) where
    stores_keeps : (m : Machine) (n : ℕ) (r : Option Value) → Kept m.common → Keeps (stores m own n r)
    stores_keeps m n None h = tt
    stores_keeps m n (Some v) h = stored m n v h

    act_keeps : (m : Machine) (step : Op) → Kept m.common → Keeps (act literals own m step)
    act_keeps m (op.Copy to from) h = gives_keeps m to (operand_at m from) h
    act_keeps m (op.Literal to index) h = gives_keeps m to (option_map Str (slice_get literals index)) h
    act_keeps m (op.Itself to) h = gives_keeps m to (Some (Ref own)) h
    act_keeps m (op.Field to n) h = gives_keeps m to (own_field m.common own n) h
    act_keeps m (op.SetField n from) h = stores_keeps m n (operand_at m from) h
    act_keeps m (op.Constant to index) h = gives_keeps m to (slice_get m.common.globals index) h
    act_keeps m (op.Compute how to left right) h =
        gives_keeps m to (on_two (on_numbers (computed how)) (operand_at m left) (operand_at m right)) h
    act_keeps m (op.Decide to t wanted) h = decides_keeps m to (as_wanted wanted (tested m t)) h
    act_keeps m (op.Branch t wanted over) h = passes_keeps m over (as_wanted wanted (tested m t)) h
    act_keeps m (op.Jump over) h = h
    act_keeps m (op.Again back) h = tt
    act_keeps m (op.Rest row) h = rests_keeps row own (variables_at m row.operands)

    walk_keeps : (place : ℕ) (lines : List Line) (over : ℕ) (m : Machine) → Kept m.common → Kept (walk literals own place lines over m).0
    walk_keeps place [] over m h = h
    walk_keeps place (line ∷ rest) (suc over) m h = walk_keeps (suc place) rest over m h
    walk_keeps place (line ∷ rest) zero m h =
        step_keeps place (walk literals own (suc place) rest) m (act literals own m line.op) h (act_keeps m line.op h)
        (λ over new k. walk_keeps (suc place) rest over new k)

  pub silent_keeps : (p : Parts) (c : Common) (a : CodeActivation) → StoresKeep a.own → Kept c → Kept (code_silent p c a).0
  silent_keeps p c a stored h =
      resting_keeps a
      (walk p.literals a.own (suc a.at) (drop (suc a.at) (code_if (operation_at p a.operation))) 0 (machine_behind p c a))
      (walk_keeps p.literals a.own stored (suc a.at) (drop (suc a.at) (code_if (operation_at p a.operation))) 0 (machine_behind p c a) h)
