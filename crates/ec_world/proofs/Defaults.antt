-- The defaults of fields, one by one.
use Rattle.std.proofs.Common.{◌≡◌, ℕ, zero, suc, ◌+◌, ◌≤◌, List, [], ◌∷◌, ◌++◌, length, drop, Some, refl, sym, ap, ◌∙◌, arith}
use Rattle.std.proofs.Common.{add-one, append_assoc}
use Rattle.std.specs.Prelude.{slice_get, replicate}
use Rattle.ec_base.proofs.Lists.{drop_at}
use Rattle.ec_world.specs.declared.value.Value.{Value}
use Rattle.ec_world.specs.declared.class.FieldRec.{FieldRec}
use Rattle.ec_world.specs.Values.{default_of, field_defaults}

pub default_step : (old new : List Value) (fields : List FieldRec) (i : ℕ) (f : FieldRec) → slice_get fields i ≡ Some f →
    new ≡ old ++ default_of f.of ∷ [] → new ++ field_defaults (drop (i + 1) fields) ≡ old ++ field_defaults (drop i fields)
default_step old new fields i f e n =
    ap (λ x. x ++ field_defaults (drop (i + 1) fields)) n
    ∙ append_assoc old (default_of f.of ∷ []) (field_defaults (drop (i + 1) fields))
    ∙ ap (λ x. old ++ field_defaults x) (sym (drop_at fields i f e))

pub defaults_over : (values : List Value) (fields : List FieldRec) (i : ℕ) → length fields ≤ i →
    values ++ field_defaults (drop i fields) ≡ values
defaults_over values fields i h = ap (λ x. values ++ field_defaults x) (drop_over fields i h) ∙ no_more values
  where
    drop_over : (xs : List FieldRec) (i : ℕ) → length xs ≤ i → drop i xs ≡ []
    drop_over [] zero h = refl
    drop_over [] (suc i) h = refl
    drop_over (x ∷ xs) zero h = absurd (omega arith)
    drop_over (x ∷ xs) (suc i) h = drop_over xs i (omega arith)

    no_more : (xs : List Value) → xs ++ [] ≡ xs
    no_more [] = refl
    no_more (x ∷ xs) = ap (λ r. x ∷ r) (no_more xs)

-- one more of the same
pub replicate_next : (n : ℕ) (v : Value) → replicate (n + 1) v ≡ replicate n v ++ v ∷ []
replicate_next n v = rw add-one (part n)
  where
    part : (n : ℕ) → replicate (suc n) v ≡ replicate n v ++ v ∷ []
    part zero = refl
    part (suc n) = ap (λ r. v ∷ r) (part n)
