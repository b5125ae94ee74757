-- Values in range are those of machine words: the variables behind a stop, fields and constants.
use Rattle.std.proofs.Common.{◌≡◌, ℕ, zero, suc, ◌-◌, List, length, replicate, Some, subst}
use Rattle.std.specs.Prelude.{slice_get}
use Rattle.ec_code.specs.Activations.{machine_behind, opened, operation_at, variables_behind, variables_if}
use Rattle.ec_code.specs.Steps.{variable_at}
use Rattle.ec_code.specs.declared.activation.CodeActivation.{CodeActivation}
use Rattle.ec_code.specs.declared.code.Parts.{Parts}
use Rattle.ec_code.specs.declared.code.Variable.{Variable}
use Rattle.ec_machine_code.specs.Standing.{FitsWord}
use Rattle.ec_code.proofs.RangesSteps.{variable_ranged}
use Rattle.ec_code.specs.RangesValues.{AllInRange, GivenInRange, InRange}
use Rattle.ec_code.specs.Worlds.{RangedActivation, RangedCommon, RangedMachine, RangedObject}
use Rattle.ec_code.proofs.Carried.{each_append, each_get, each_object, each_replicate}
use Rattle.ec_world.specs.Objects.{object_at}
use Rattle.ec_world.specs.declared.common.Common.{Common}
use Rattle.ec_world.specs.declared.object.ObjectRec.{ObjectRec}
use Rattle.ec_world.specs.declared.value.Value.{Value}
use Rattle.ec_world.specs.declared.value.Value.TheVariants.{Int, Str, Ref, Nil, Bool as Truth}

pub fits_word : (v : Value) → InRange v → FitsWord v
fits_word (Int z) h = h
fits_word (Str s) h = tt
fits_word (Truth b) h = tt
fits_word (Ref o) h = tt
fits_word Nil h = tt

opened_ranged : (args : List Value) (count : ℕ) → AllInRange args → AllInRange (opened args count)
opened_ranged args count h =
    each_append InRange args (replicate (count - length args) Nil) h (each_replicate InRange (count - length args) Nil tt)

behind_ranged : (p : Parts) (a : CodeActivation) (at : ℕ) → AllInRange a.variables → AllInRange (variables_behind p a at)
behind_ranged p a zero h = opened_ranged a.variables (length (variables_if (operation_at p a.operation))) h
behind_ranged p a (suc at) h = h

machine_ranged : (p : Parts) (c : Common) (a : CodeActivation) → RangedCommon c → RangedActivation a → RangedMachine (machine_behind p c a)
machine_ranged p c a h r =
    record { common = h; variables = behind_ranged p a a.at r.variables; temporaries = r.temporaries }

-- the value of a variable behind a stop
pub variable_fits : (p : Parts) (c : Common) (a : CodeActivation) (x : Variable) (v : Value) → RangedCommon c → RangedActivation a →
    variable_at (machine_behind p c a) x ≡ Some v → FitsWord v
variable_fits p c a x v h r e =
    fits_word v
    (subst (λ y. GivenInRange y) e (variable_ranged (machine_behind p c a) (machine_ranged p c a h r) x))

pub field_fits : (c : Common) (oid : ℕ) (o : ObjectRec) (i : ℕ) (v : Value) → RangedCommon c → object_at c.objects oid ≡ Some o →
    slice_get o.fields i ≡ Some v → FitsWord v
field_fits c oid o i v h is e = fits_word v (each_get InRange o.fields i v (each_object RangedObject c.objects oid o h.objects is).values e)

pub constant_fits : (c : Common) (i : ℕ) (v : Value) → RangedCommon c → slice_get c.globals i ≡ Some v → FitsWord v
constant_fits c i v h e = fits_word v (each_get InRange c.globals i v h.constants e)
