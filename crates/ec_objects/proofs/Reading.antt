-- A word that stands for a value of a kind is read as this value.
use Rattle.std.proofs.Common.{◌≡◌, ℕ, zero, suc, ◌==◌, Bool, true, false, if◌then◌else◌, Option, Some, None, refl, ap, ◌∙◌}
use Rattle.std.proofs.lemmas.Int.{to_z-of_z}
use Rattle.std.specs.Int.{cast_signed, w32}
use Rattle.std.specs.Option.{option_map}
use Rattle.ec_objects.specs.Kinds.{IsOfKind}
use Rattle.ec_objects.specs.Values.{reference_of, value_of}
use Rattle.ec_things.specs.Store.{Stands, Store}
use Rattle.ec_world.specs.declared.value.Value.{Value}
use Rattle.ec_world.specs.declared.value.Value.TheVariants.{Int, Str, Ref, Nil, Bool as Truth}
use Rattle.ec_world.specs.declared.value.ValueType.{ValueType}
use Rattle.ec_world.specs.declared.value.ValueType.TheVariants.{Integer, Boolean, Bytes, Reference}

truth_back : (b : Bool) → ((if b then 1 else 0) == 1) ≡ b
truth_back true = refl
truth_back false = refl

-- 0 is no reference of a tidy node
reference_back : (local : ℕ → Option ℕ) (oid w : ℕ) → local 0 ≡ None → local w ≡ Some oid → reference_of local w ≡ Some (Ref oid)
reference_back local oid zero nil is = absurd cc
reference_back local oid (suc w) nil is = ap (option_map Ref) is

pub read_back : (s : Store) (kind : ValueType) (v : Value) (w : ℕ) → s.local 0 ≡ None → IsOfKind kind v → Stands s v w →
    value_of s kind w ≡ Some v
read_back s Integer (Int z) w nil is stands =
    ap (λ n. Some (Int (cast_signed w32 n))) stands ∙ ap (λ x. Some (Int x)) (to_z-of_z w32 z is)
read_back s Boolean (Truth b) w nil is stands = ap (λ n. Some (Truth (n == 1))) stands ∙ ap (λ x. Some (Truth x)) (truth_back b)
read_back s Bytes (Str t) w nil is stands = ap (option_map Str) stands
read_back s Reference (Ref oid) w nil is stands = reference_back s.local oid w nil stands
read_back s Reference Nil w nil is stands = ap (reference_of s.local) stands
read_back s Integer (Truth b) w nil is stands = absurd is
read_back s Integer (Str t) w nil is stands = absurd is
read_back s Integer (Ref oid) w nil is stands = absurd is
read_back s Integer Nil w nil is stands = absurd is
read_back s Boolean (Int z) w nil is stands = absurd is
read_back s Boolean (Str t) w nil is stands = absurd is
read_back s Boolean (Ref oid) w nil is stands = absurd is
read_back s Boolean Nil w nil is stands = absurd is
read_back s Bytes (Int z) w nil is stands = absurd is
read_back s Bytes (Truth b) w nil is stands = absurd is
read_back s Bytes (Ref oid) w nil is stands = absurd is
read_back s Bytes Nil w nil is stands = absurd is
read_back s Reference (Int z) w nil is stands = absurd is
read_back s Reference (Truth b) w nil is stands = absurd is
read_back s Reference (Str t) w nil is stands = absurd is
