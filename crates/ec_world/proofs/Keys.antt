-- Two numbers, or two owners, are the same or not.
use Rattle.std.proofs.Common.{◌≡◌, ◌≢◌, ℕ, zero, suc, refl, ap, arith, ◌⊎◌, inl, inr, ⊎_elim}
use Rattle.ec_world.specs.declared.key.Key.{Key}
use Rattle.ec_world.specs.declared.key.Key.TheVariants.{Object, Frame}

pub same_or_not : (m n : ℕ) → (m ≡ n) ⊎ (m ≢ n)
same_or_not zero zero = inl refl
same_or_not zero (suc n) = inr (λ e. cc)
same_or_not (suc m) zero = inr (λ e. cc)
same_or_not (suc m) (suc n) = ⊎_elim (λ (e : m ≡ n). inl (ap suc e)) (λ (h : m ≢ n). inr (λ e. h (omega arith))) (same_or_not m n)

pub key_or_not : (a b : Key) → (a ≡ b) ⊎ (a ≢ b)
key_or_not (Object o) (Object u) = ⊎_elim (λ (e : o ≡ u). inl (ap Object e)) (λ (h : o ≢ u). inr (λ e. h cc)) (same_or_not o u)
key_or_not (Object o) (Frame q e) = inr (λ x. cc)
key_or_not (Frame p d) (Object o) = inr (λ x. cc)
key_or_not (Frame p d) (Frame q e) = ⊎_elim
    (λ (h : p ≡ q). ⊎_elim
    (λ (g : d ≡ e). inl cc)
    (λ (g : d ≢ e). inr (λ x. g cc))
    (same_or_not d e))
    (λ (h : p ≢ q). inr (λ x. h cc))
    (same_or_not p q)
