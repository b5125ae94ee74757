-- Sums over lists that have the same items.
use Rattle.std.proofs.Common.{◌≡◌, ◌≢◌, ℕ, zero, suc, ◌+◌, ◌≤◌, List, [], ◌∷◌, length, Some, refl, sym, ap}
use Rattle.std.proofs.Common.{◌∙◌, arith, ◌⊎◌, inl, inr, ⊎_elim}
use Rattle.std.specs.Prelude.{slice_get}
use Rattle.ec_world.specs.Words.{text_bytes}
use Rattle.ec_things.specs.Store.{Store}
use Rattle.ec_world.specs.Group.{Has}
use Rattle.ec_world.specs.Held.{Distinct}
use Rattle.ec_things.specs.Texts.{NewBytes}

module _ {A : Type 0} where
  abbrev pub summed : (A → ℕ) → List A → ℕ
  summed f [] = 0
  summed f (x ∷ xs) = f x + summed f xs

  abbrev without : List A → ℕ → List A
  without [] i = []
  without (x ∷ xs) zero = xs
  without (x ∷ xs) (suc i) = x ∷ without xs i

  summed_without : (f : A → ℕ) (xs : List A) (i : ℕ) (x : A) → slice_get xs i ≡ Some x → summed f (without xs i) + f x ≡ summed f xs
  summed_without f [] i x e = cc
  summed_without f (y ∷ ys) zero x e = let is : y ≡ x = cc in rw is (omega arith)
  summed_without f (y ∷ ys) (suc i) x e = let t : summed f (without ys i) + f x ≡ summed f ys = summed_without f ys i x e in omega arith

  has_without : (xs : List A) (i j : ℕ) (y : A) → slice_get xs j ≡ Some y → j ≢ i → Has (without xs i) y
  has_without [] i j y e h = cc
  has_without (x ∷ xs) zero zero y e h = absurd (h refl)
  has_without (x ∷ xs) zero (suc j) y e h = record { at = j; is = e }
  has_without (x ∷ xs) (suc i) zero y e h = record { at = 0; is = e }
  has_without (x ∷ xs) (suc i) (suc j) y e h = let t = has_without xs i j y e (λ q. h (ap suc q)) in record { at = suc t.at; is = t.is }

  -- each item of one list counts nothing or is in the other, where it counts as much
  pub summed_le : (f g : A → ℕ) (xs ys : List A) → Distinct xs → ((x : A) → Has xs x → (f x ≡ 0) ⊎ (Has ys x × (f x ≤ g x))) →
      summed f xs ≤ summed g ys
  summed_le f g [] ys once h = omega arith
  summed_le f g (x ∷ xs) ys once h = ⊎_elim
      (λ (none : f x ≡ 0). let t : summed f xs ≤ summed g ys =
      summed_le f g xs ys rest (λ y q. h y (record { at = suc q.at; is = q.is })) in omega arith)
      (λ (there : Has ys x × (f x ≤ g x)).
      let t : summed f xs ≤ summed g (without ys there.0.at) = summed_le f g xs (without ys there.0.at) rest (λ y q. ⊎_elim
      (λ (z : f y ≡ 0). inl z)
      (λ (z : Has ys y × (f y ≤ g y)). inr (
        has_without ys there.0.at z.0.at y z.0.is (λ same.
            let at : slice_get ys z.0.at ≡ Some x = ap (slice_get ys) same ∙ there.0.is in
            let is : x ≡ y = cc (z.0.is) in
            let bad : zero ≡ suc q.at = once.once zero (suc q.at) x refl (q.is ∙ ap Some (sym is)) in
            cc),
        z.1,
      ))
      (h y (record { at = suc q.at; is = q.is }))) in
      let u : summed g (without ys there.0.at) + g x ≡ summed g ys = summed_without g ys there.0.at x there.0.is in
      omega (arith, there.1))
      (h x (record { at = zero; is = refl }))
    where
      rest : Distinct xs
      rest = record { once = λ i j y a b. let e : suc i ≡ suc j = once.once (suc i) (suc j) y a b in omega arith }

text_sum : (xs : List (List ℕ)) → text_bytes xs ≡ summed length xs
text_sum [] = refl
text_sum (x ∷ xs) = ap (λ n. length x + n) (text_sum xs)

-- how many bytes are new depends on no order
pub new_bytes_once : (Wanted : List ℕ → Type 0) (s : Store) (n m : ℕ) → NewBytes Wanted s n → NewBytes Wanted s m → n ≡ m
new_bytes_once Wanted s n m a b =
    let there : summed length a.texts ≤ summed length b.texts =
    summed_le length length a.texts b.texts a.once (λ x h. inr ((b.these x).1 ((a.these x).0 h), omega arith)) in
    let back : summed length b.texts ≤ summed length a.texts =
    summed_le length length b.texts a.texts b.once (λ x h. inr ((a.these x).1 ((b.these x).0 h), omega arith)) in
    omega (arith, a.bytes, b.bytes, text_sum a.texts, text_sum b.texts)
