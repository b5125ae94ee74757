-- Lists in which no item stands twice.
use Rattle.std.proofs.Common.{◌≡◌, ◌≢◌, ◌⊎◌, ℕ, zero, suc, ◌+◌, ◌<◌, ◌≤◌, List, [], ◌∷◌, ◌++◌, length, refl, sym, ap, ◌∙◌, subst, inl, inr}
use Rattle.std.proofs.Common.{arith, ⊎_elim}
use Rattle.ec_code.specs.Fine.{IsIn}
use Rattle.ec_machine_code.specs.Once.{AreDifferent}

pub same_or_not : (x y : ℕ) → (x ≡ y) ⊎ (x ≢ y)
same_or_not zero zero = inl refl
same_or_not zero (suc y) = inr (λ e. (cc))
same_or_not (suc x) zero = inr (λ e. (cc))
same_or_not (suc x) (suc y) = ⊎_elim
    (λ (e : x ≡ y). inl (ap suc e))
    (λ (ne : x ≢ y). inr (λ (e : suc x ≡ suc y). ne (omega (arith, e))))
    (same_or_not x y)

-- ---- one list behind another

pub in_front : (k : ℕ) (xs ys : List ℕ) → IsIn k xs → IsIn k (xs ++ ys)
in_front k [] ys h = absurd h
in_front k (x ∷ xs) ys h = ⊎_elim (λ (e : k ≡ x). inl e) (λ (r : IsIn k xs). inr (in_front k xs ys r)) h

pub in_back : (k : ℕ) (xs ys : List ℕ) → IsIn k ys → IsIn k (xs ++ ys)
in_back k [] ys h = h
in_back k (x ∷ xs) ys h = inr (in_back k xs ys h)

pub in_either : (k : ℕ) (xs ys : List ℕ) → IsIn k (xs ++ ys) → IsIn k xs ⊎ IsIn k ys
in_either k [] ys h = inr h
in_either k (x ∷ xs) ys h = ⊎_elim
    (λ (e : k ≡ x). inl (inl e))
    (λ (r : IsIn k (xs ++ ys)). ⊎_elim (λ (a : IsIn k xs). inl (inr a)) (λ (b : IsIn k ys). inr b) (in_either k xs ys r))
    h

pub in_split : (k : ℕ) (all xs ys : List ℕ) → all ≡ xs ++ ys → IsIn k xs ⊎ IsIn k ys → IsIn k all
in_split k all xs ys e h =
    subst (λ zs. IsIn k zs) (sym e) (⊎_elim (λ (a : IsIn k xs). in_front k xs ys a) (λ (b : IsIn k ys). in_back k xs ys b) h)

pub different_behind : (xs ys : List ℕ) → AreDifferent (xs ++ ys) → AreDifferent ys
different_behind [] ys h = h
different_behind (x ∷ xs) ys h = different_behind xs ys h.1

pub different_apart : (k : ℕ) (xs ys : List ℕ) → AreDifferent (xs ++ ys) → IsIn k xs → IsIn k ys → ⊥
different_apart k [] ys h a b = a
different_apart k (x ∷ xs) ys h a b = ⊎_elim
    (λ (e : k ≡ x). h.0 (in_back x xs ys (subst (λ z. IsIn z ys) e b)))
    (λ (r : IsIn k xs). different_apart k xs ys h.1 r b)
    a

pub different_append : (xs ys : List ℕ) → AreDifferent xs → AreDifferent ys → ((k : ℕ) → IsIn k xs → IsIn k ys → ⊥) →
    AreDifferent (xs ++ ys)
different_append [] ys a b apart = b
different_append (x ∷ xs) ys a b apart = (
  λ h. ⊎_elim (λ (r : IsIn x xs). a.0 r) (λ (r : IsIn x ys). apart x (inl refl) r) (in_either x xs ys h),
  different_append xs ys a.1 b (λ k p q. apart k (inr p) q),
)

-- ---- numbers within a range that are different are few

record Without (k : ℕ) (is : List ℕ) : Type 0 where
  rest : List ℕ
  long : length is ≤ suc (length rest)
  different : AreDifferent rest
  among : (j : ℕ) → IsIn j rest → IsIn j is × (j ≢ k)

take_out : (k : ℕ) (is : List ℕ) → AreDifferent is → Without k is
take_out k [] h = record { rest = []; long = omega arith; different = tt; among = λ j e. absurd e }
take_out k (i ∷ is) h = ⊎_elim
    (λ (same : i ≡ k). record {
      rest = is;
      long = omega arith;
      different = h.1;
      among = λ j e. (inr e, λ (f : j ≡ k). h.0 (subst (λ z. IsIn z is) (f ∙ sym same) e));
    })
    (λ (ne : i ≢ k).
    let w = take_out k is h.1 in
    let long = w.long in
    record {
      rest = i ∷ w.rest;
      long = omega arith;
      different = (λ e. h.0 ((w.among i e).0), w.different);
      among = λ j e. ⊎_elim
          (λ (same : j ≡ i). (inl same, λ (f : j ≡ k). ne (sym same ∙ f)))
          (λ (there : IsIn j w.rest). let a = w.among j there in (inr a.0, a.1))
          e;
    })
    (same_or_not i k)

pub different_few : (n low : ℕ) (is : List ℕ) → AreDifferent is → ((i : ℕ) → IsIn i is → (low ≤ i) × (i < low + n)) → length is ≤ n
different_few zero low [] h within = omega arith
different_few zero low (i ∷ is) h within = let w = within i (inl refl) in absurd (omega (arith, w.0, w.1))
different_few (suc n) low is h within =
    let w = take_out (low + n) is h in
    let long = w.long in
    let less : (j : ℕ) → IsIn j w.rest → (low ≤ j) × (j < low + n) = λ j e.
    let a = w.among j e in
    let z = within j a.0 in
    let ne : j ≢ low + n = a.1 in
    (z.0, below j (low + n) (omega (arith, z.1)) ne) in
    let rest = different_few n low w.rest w.different less in
    omega (arith, long, rest)
  where
    below : (j k : ℕ) → j < suc k → j ≢ k → j < k
    below j k small ne = omega (arith, small, ne)
