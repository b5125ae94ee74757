-- The code of a loop from its end on: how far it leads back is known once its body is made.
use Rattle.std.proofs.Common.{◌≡◌, ℕ, suc, ◌+◌, ◌-◌, ◌<◌, List, [], ◌∷◌, ◌++◌, length, reverse, refl, sym, ap, ap₂, ◌∙◌}
use Rattle.std.proofs.Common.{append_assoc}
use Rattle.std.proofs.Common.{arith, length-append}
use Rattle.std.proofs.lemmas.List.{reverse-append, reverse-reverse, length-reverse}
use Rattle.std.specs.Prelude.{slice_set}
use Rattle.ec_code.specs.declared.code.Op.{Op}
use Rattle.ec_code.specs.declared.code.Op.TheVariants as op
use Rattle.ec_expressions.specs.Replacing.{with_other}
use Rattle.ec_emission.specs.Rows.{bare_row}
use Rattle.ec_world.specs.declared.stop.Stop.TheVariants as stop

set_at : (xs ys : List Op) (o p : Op) → slice_set (xs ++ o ∷ ys) (length xs) p ≡ xs ++ p ∷ ys
set_at [] ys o p = refl
set_at (x ∷ xs) ys o p = ap (λ zs. x ∷ zs) (set_at xs ys o p)

turned : (inner old : List Op) (o : Op) → reverse (inner ++ o ∷ old) ≡ reverse old ++ o ∷ reverse inner
turned inner old o =
    reverse-append inner (o ∷ old)
    ∙ ap (λ xs. xs ++ reverse inner) (reverse-append (o ∷ []) old)
    ∙ append_assoc (reverse old) (o ∷ []) (reverse inner)

-- a step with so many behind it is replaced
replaced : (inner old : List Op) (o p : Op) → with_other (inner ++ o ∷ old) (length old) p ≡ inner ++ p ∷ old
replaced inner old o p =
    ap (λ xs. reverse (slice_set xs (length old) p)) (turned inner old o)
    ∙ ap (λ k. reverse (slice_set (reverse old ++ o ∷ reverse inner) k p)) (sym (length-reverse old))
    ∙ ap reverse (set_at (reverse old) (reverse inner) o p)
    ∙ turned (reverse old) (reverse inner) p
    ∙ ap₂ (λ xs ys. xs ++ p ∷ ys) (reverse-reverse inner) (reverse-reverse old)

module _ (inner old first made : List Op) (end : ℕ)
    (e : end ≡ length old) (f : first ≡ op.Again 0 ∷ old) (g : made ≡ inner ++ first) where
  body : made ≡ inner ++ op.Again 0 ∷ old
  body = g ∙ ap (λ xs. inner ++ xs) f

  count : length made ≡ length inner + suc (length old)
  count = ap length body ∙ length-append inner (op.Again 0 ∷ old)

  pub stands_within : end < length made
  stands_within = let c = count in omega arith

  pub turned_back : (mended all : List Op) (back : ℕ) → back ≡ length made - end →
      mended ≡ with_other made end (op.Again back) → all ≡ op.Rest (bare_row stop.LoopTop) ∷ mended →
      all ≡ op.Rest (bare_row stop.LoopTop) ∷ ((inner ++ op.Again (suc (length inner)) ∷ []) ++ old)
  turned_back mended all back h k l =
      let c = count in
      let far : back ≡ suc (length inner) = omega arith in
      l
      ∙ ap (λ xs. op.Rest (bare_row stop.LoopTop) ∷ xs)
      (k
      ∙ ap₂ (λ xs n. with_other xs n (op.Again back)) body e
      ∙ replaced inner old (op.Again 0) (op.Again back)
      ∙ ap (λ n. inner ++ op.Again n ∷ old) far
      ∙ sym (append_assoc inner (op.Again (suc (length inner)) ∷ []) old))
