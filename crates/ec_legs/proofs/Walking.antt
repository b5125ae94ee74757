-- Silent steps leave the own object as it was, but for the values of its fields.
use Rattle.std.proofs.Common.{◌≡◌, ℕ, zero, suc, ◌-◌, Bool, true, false, List, [], ◌∷◌, length, Option, Some, None, refl, ap, ◌∙◌, arith}
use Rattle.std.specs.Prelude.{option_map, slice_get, slice_set}
use Rattle.ec_base.proofs.Lists.{get_set_same, get_within, length_set}
use Rattle.ec_code.specs.Activations.{Arrived, walk, walk_by}
use Rattle.ec_code.specs.Steps.{Done, Goes, Loops, Machine, NoCase, Rests, act, as_wanted, computed, decides, gives, on_numbers, on_two}
use Rattle.ec_code.specs.Steps.{operand_at, own_field, passes, rests, stores, tested, variables_at}
use Rattle.ec_code.specs.declared.code.Line.{Line}
use Rattle.ec_code.specs.declared.code.Op.{Op}
use Rattle.ec_code.specs.declared.code.Op.TheVariants as op
use Rattle.ec_code.specs.declared.code.StopRow.{StopRow}
use Rattle.ec_code.specs.declared.code.Variable.{Variable}
use Rattle.ec_code.specs.declared.code.Variable.TheVariants.{Named, Temporary}
use Rattle.ec_world.specs.Objects.{changed_if, changed_object, object_at}
use Rattle.ec_world.specs.Outcomes.{with_element}
use Rattle.ec_world.specs.declared.common.Common.{Common}
use Rattle.ec_world.specs.declared.object.ObjectRec.{ObjectRec}
use Rattle.ec_world.specs.declared.value.Value.{Value}
use Rattle.ec_world.specs.declared.value.Value.TheVariants.{Ref, Str}

object_changed : (objects : List ObjectRec) (oid : ℕ) (change : ObjectRec → ObjectRec) (o : ObjectRec) →
    object_at objects oid ≡ Some o → object_at (changed_object objects oid change) oid ≡ Some (change o)
object_changed objects zero change o e = absurd cc
object_changed objects (suc i) change o e =
    let before : suc i - 1 ≡ i = omega arith in
    ap (λ r. slice_get (changed_if objects (suc i) change r) i) e
    ∙ ap (λ j. slice_get (slice_set objects j (change o)) i) before
    ∙ get_set_same objects i (change o) (get_within objects i o e)

module _ (literals : List (List ℕ)) (own : ℕ) (o : ObjectRec) where
  -- the own object has the same class, the same monitor, and as many fields
  pub record HasOwn (c : Common) : Type 0 where
    pub object : ObjectRec
    pub is : object_at c.objects own ≡ Some object
    pub class : object.class ≡ o.class
    pub fixed : object.fixed ≡ o.fixed
    pub monitor : object.monitor ≡ o.monitor
    pub size : length object.fields ≡ length o.fields

  -- so it is where a step goes on
  abbrev Keeps : Done → Type 0
  Keeps (Goes new over) = HasOwn new.common
  Keeps (Rests row operands) = Unit {0}
  Keeps (Loops back) = Unit {0}
  Keeps NoCase = Unit {0}

  gives_keeps : (m : Machine) (to : Variable) (r : Option Value) → HasOwn m.common → Keeps (gives m to r)
  gives_keeps m to None h = tt
  gives_keeps m (Named n) (Some v) h = h
  gives_keeps m (Temporary n) (Some v) h = h

  decides_keeps : (m : Machine) (to : Variable) (r : Option Bool) → HasOwn m.common → Keeps (decides m to r)
  decides_keeps m to None h = tt
  decides_keeps m (Named n) (Some v) h = h
  decides_keeps m (Temporary n) (Some v) h = h

  passes_keeps : (m : Machine) (over : ℕ) (r : Option Bool) → HasOwn m.common → Keeps (passes m over r)
  passes_keeps m over None h = tt
  passes_keeps m over (Some true) h = h
  passes_keeps m over (Some false) h = h

  rests_keeps : (row : StopRow) (r : Option (List Value)) → Keeps (rests row own r)
  rests_keeps row None = tt
  rests_keeps row (Some vs) = tt

  stores_keeps : (m : Machine) (n : ℕ) (r : Option Value) → HasOwn m.common → Keeps (stores m own n r)
  stores_keeps m n None h = tt
  stores_keeps m n (Some v) h = record {
    object = with_element n v h.object;
    is = object_changed m.common.objects own (with_element n v) h.object h.is;
    class = h.class;
    fixed = h.fixed;
    monitor = h.monitor;
    size = length_set h.object.fields n v ∙ h.size;
  }

  act_keeps : (m : Machine) (step : Op) → HasOwn m.common → Keeps (act literals own m step)
  act_keeps m (op.Copy to from) h = gives_keeps m to (operand_at m from) h
  act_keeps m (op.Literal to index) h = gives_keeps m to (option_map Str (slice_get literals index)) h
  act_keeps m (op.Itself to) h = gives_keeps m to (Some (Ref own)) h
  act_keeps m (op.Field to n) h = gives_keeps m to (own_field m.common own n) h
  act_keeps m (op.SetField n from) h = stores_keeps m n (operand_at m from) h
  act_keeps m (op.Constant to index) h = gives_keeps m to (slice_get m.common.globals index) h
  act_keeps m (op.Compute how to left right) h =
      gives_keeps m to (on_two (on_numbers (computed how)) (operand_at m left) (operand_at m right)) h
  act_keeps m (op.Decide to t wanted) h = decides_keeps m to (as_wanted wanted (tested m t)) h
  act_keeps m (op.Branch t wanted over) h = passes_keeps m over (as_wanted wanted (tested m t)) h
  act_keeps m (op.Jump over) h = h
  act_keeps m (op.Again back) h = tt
  act_keeps m (op.Rest row) h = rests_keeps row (variables_at m row.operands)

  step_keeps : (place : ℕ) (next : ℕ → Machine → Common × Option Arrived) (m : Machine) (done : Done) → HasOwn m.common → Keeps done →
      ((over : ℕ) (new : Machine) → HasOwn new.common → HasOwn (next over new).0) → HasOwn (walk_by place next m done).0
  step_keeps place next m (Goes new over) h k further = further over new k
  step_keeps place next m (Rests row operands) h k further = h
  step_keeps place next m (Loops back) h k further = h
  step_keeps place next m NoCase h k further = h

  pub walk_keeps : (place : ℕ) (lines : List Line) (over : ℕ) (m : Machine) → HasOwn m.common →
      HasOwn (walk literals own place lines over m).0
  walk_keeps place [] over m h = h
  walk_keeps place (line ∷ rest) (suc over) m h = walk_keeps (suc place) rest over m h
  walk_keeps place (line ∷ rest) zero m h =
      step_keeps place (walk literals own (suc place) rest) m (act literals own m line.op) h (act_keeps m line.op h)
      (λ over new k. walk_keeps (suc place) rest over new k)

  pub own_kept : (c : Common) → object_at c.objects own ≡ Some o → HasOwn c
  own_kept c e = record { object = o; is = e; class = refl; fixed = refl; monitor = refl; size = refl }
