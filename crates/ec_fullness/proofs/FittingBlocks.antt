-- The fields of an object have words in its blocks.
use Rattle.std.proofs.Common.{◌≡◌, ◌≤◌, ◌+◌, ◌*◌, ◌/◌, max, ℕ, List, length, drop}
use Rattle.std.proofs.Common.{arith, length-append, length-drop}
use Rattle.std.proofs.lemmas.List.{length-map}
use Rattle.ec_world.specs.Things.{class_blocks}
use Rattle.ec_world.specs.Values.{default_of, field_defaults, new_fields}
use Rattle.ec_world.specs.declared.class.ClassNo.TheVariants.{Made, Vector}
use Rattle.ec_world.specs.declared.class.FieldRec.{FieldRec}
use Rattle.ec_world.specs.declared.class.VectorType.{VectorType}
use Rattle.ec_world.specs.declared.value.Value.{Value}

enough : (n : ℕ) → n ≤ 128 * max 1 ((n + 127) / 128)
enough n = omega arith

pub vector_fits : (of : VectorType) (n : ℕ) → n ≤ 128 * class_blocks (Vector of) n
vector_fits of n = enough n

pub made_fits : (k n : ℕ) → n ≤ 128 * class_blocks (Made k) n
made_fits k n = enough n

-- a new object has its class's fields
pub new_length : (given : List Value) (fields : List FieldRec) → length given ≤ length fields →
    length (new_fields given fields) ≡ length fields
new_length given fields few =
    let joined = length-append given (field_defaults (drop (length given) fields)) in
    let mapped = length-map (drop (length given) fields) (λ (f : FieldRec). default_of f.of) in
    let dropped = length-drop (length given) fields in
    omega (arith, few, joined, mapped, dropped)
