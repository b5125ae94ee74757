-- Variables that are opened one by one.
use Rattle.std.proofs.Common.{◌≡◌, ℕ, zero, suc, ◌+◌, ◌-◌, ◌<◌, List, [], ◌∷◌, ◌++◌, replicate, refl, ap, ◌∙◌, arith}
use Rattle.ec_world.specs.declared.value.Value.{Value}
use Rattle.ec_world.specs.declared.value.Value.TheVariants.{Nil}

one_front : (k : ℕ) → 0 < k → replicate k Nil ≡ Nil ∷ replicate (k - 1) Nil
one_front zero h = absurd (omega arith)
one_front (suc k) h = let e : k ≡ suc k - 1 = omega arith in ap (λ j. Nil ∷ replicate j Nil) e

pub moved : (vs : List Value) (v : Value) (ws : List Value) → vs ++ v ∷ ws ≡ (vs ++ v ∷ []) ++ ws
moved [] v ws = refl
moved (u ∷ vs) v ws = ap (λ r. u ∷ r) (moved vs v ws)

pub one_opened : (vs : List Value) (count n : ℕ) → n < count →
    vs ++ replicate (count - n) Nil ≡ (vs ++ Nil ∷ []) ++ replicate (count - (n + 1)) Nil
one_opened vs count n h =
    let some : 0 < count - n = omega (arith, h) in
    let less : (count - n) - 1 ≡ count - (n + 1) = omega arith in
    ap (λ r. vs ++ r) (one_front (count - n) some)
    ∙ ap (λ k. vs ++ Nil ∷ replicate k Nil) less
    ∙ moved vs Nil (replicate (count - (n + 1)) Nil)
