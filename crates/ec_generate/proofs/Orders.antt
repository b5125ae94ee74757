-- Orders of steps: a permutation of their numbers is one.
use Rattle.std.proofs.Common.{◌≡◌, ◌≢◌, ℕ, zero, suc, ◌+◌, ◌<◌, ◌≤◌, List, [], ◌∷◌, ◌++◌, length, Some, refl, sym, ap, ◌∙◌, arith}
use Rattle.std.proofs.Common.{drop, inl, inr, subst, ⊎_elim}
use Rattle.ec_base.proofs.Lists.{drop_at}
use Rattle.std.specs.Prelude.{slice_get, sum_by, ◌==◌, if◌then◌else◌}
use Rattle.std.specs.List.Sorted.{IsPermutation}
use Rattle.std.proofs.lemmas.Bool.{cases_lt}
use Rattle.std.proofs.lemmas.List.Sorted.{sum_by-IsPermutation}
use Rattle.std.proofs.lemmas.List.Sums.{sum_by-cons}
use Rattle.std.proofs.lemmas.Option.{same_Some}
use Rattle.ec_code.specs.Fine.{IsIn}
use Rattle.ec_code.specs.declared.code.Operation.{Operation}
use Rattle.ec_machine_code.specs.Stops.{row_or_empty}
use Rattle.ec_machine_code.specs.Layout.{IsOrder, first_of}
use Rattle.ec_machine_code.specs.Once.{AreDifferent}
use Rattle.ec_machine_code.proofs.Different.{different_append, different_few, in_back, in_either, in_front, same_or_not}
use Rattle.ec_machine_code.proofs.LaidOutSizes.{other_test, same_test}
use Rattle.ec_generate.specs.Orders.{steps_below}

pub in_order : (xs : List ℕ) (k x : ℕ) → slice_get xs k ≡ Some x → IsIn x xs
in_order [] k x e = absurd cc
in_order (y ∷ ys) zero x e = let same : y ≡ x = cc in inl (sym same)
in_order (y ∷ ys) (suc k) x e = inr (in_order ys k x e)

below_within : (n p : ℕ) → IsIn p (steps_below n) → p < n
below_within zero p h = absurd h
below_within (suc n) p h = ⊎_elim
    (λ (a : IsIn p (steps_below n)). let lt = below_within n p a in omega (arith, lt))
    (λ (b : IsIn p (n ∷ [])). ⊎_elim (λ (e : p ≡ n). omega (arith, e)) (λ (none : ⊥). absurd none) b)
    (in_either p (steps_below n) (n ∷ []) h)

below_all : (n p : ℕ) → p < n → IsIn p (steps_below n)
below_all zero p lt = absurd (omega (arith, lt))
below_all (suc n) p lt = ⊎_elim
    (λ (less : p < n). in_front p (steps_below n) (n ∷ []) (below_all n p less))
    (λ (most : n ≤ p). in_back p (steps_below n) (n ∷ []) (inl (omega (arith, lt, most))))
    (cases_lt p n)

below_different : (n : ℕ) → AreDifferent (steps_below n)
below_different zero = tt
below_different (suc n) = different_append (steps_below n) (n ∷ []) (below_different n) ((λ h. h), tt)
    (λ k a b. ⊎_elim (λ (e : k ≡ n). let lt = below_within n k a in omega (arith, e, lt)) (λ (none : ⊥). none) b)

pub below_order : (n : ℕ) → IsOrder n (steps_below n)
below_order n = record { all = below_all n; within = below_within n; different = below_different n }

-- ---- how often a number stands in a list

abbrev one_if : ℕ → ℕ → ℕ
one_if p x = if x == p then 1 else 0

abbrev times : ℕ → List ℕ → ℕ
times p xs = sum_by (one_if p) xs

none_at_all : (p : ℕ) → times p [] ≡ 0
none_at_all p = refl

one_same : (p x : ℕ) → x ≡ p → one_if p x ≡ 1
one_same p x e = ap (λ b. if b then 1 else 0) (same_test x p e)

one_other : (p x : ℕ) → x ≢ p → one_if p x ≡ 0
one_other p x e = ap (λ b. if b then 1 else 0) (other_test x p e)

times_in : (p : ℕ) (xs : List ℕ) → IsIn p xs → 1 ≤ times p xs
times_in p [] h = absurd h
times_in p (x ∷ xs) h = ⊎_elim
    (λ (e : p ≡ x). omega (arith, sum_by-cons (one_if p) x xs, one_same p x (sym e)))
    (λ (r : IsIn p xs). omega (arith, sum_by-cons (one_if p) x xs, times_in p xs r))
    h

in_times : (p : ℕ) (xs : List ℕ) → 1 ≤ times p xs → IsIn p xs
in_times p [] h = absurd (omega (arith, h, none_at_all p))
in_times p (x ∷ xs) h = ⊎_elim
    (λ (e : x ≡ p). inl (sym e))
    (λ (ne : x ≢ p). inr (in_times p xs (omega (arith, h, sum_by-cons (one_if p) x xs, one_other p x ne))))
    (same_or_not x p)

none_times : (p : ℕ) (xs : List ℕ) → (IsIn p xs → ⊥) → times p xs ≡ 0
none_times p [] out = none_at_all p
none_times p (x ∷ xs) out =
    omega (
      arith,
      sum_by-cons (one_if p) x xs,
      one_other p x (λ e. out (inl (sym e))),
      none_times p xs (λ h. out (inr h)),
    )

one_time : (p : ℕ) (xs : List ℕ) → AreDifferent xs → times p xs ≤ 1
one_time p [] h = omega (arith, none_at_all p)
one_time p (x ∷ xs) h = ⊎_elim
    (λ (e : x ≡ p).
    omega (
      arith,
      sum_by-cons (one_if p) x xs,
      one_same p x e,
      none_times p xs (λ k. h.0 (subst (λ i. IsIn i xs) (sym e) k)),
    ))
    (λ (ne : x ≢ p). omega (arith, sum_by-cons (one_if p) x xs, one_other p x ne, one_time p xs h.1))
    (same_or_not x p)

different_times : (xs : List ℕ) → ((p : ℕ) → times p xs ≤ 1) → AreDifferent xs
different_times [] h = tt
different_times (x ∷ xs) h = (
  λ k. (omega (arith, sum_by-cons (one_if x) x xs, one_same x x refl, h x, times_in x xs k)),
  different_times xs (λ p. omega (arith, sum_by-cons (one_if p) x xs, h p)),
)

-- steps in another order are in one too
pub permuted : (n : ℕ) (xs ys : List ℕ) → IsPermutation xs ys → IsOrder n xs → IsOrder n ys
permuted n xs ys moved ordered = record {
  all = λ p lt. in_times p ys (omega (arith, sum_by-IsPermutation (one_if p) xs ys moved, times_in p xs (ordered.all p lt)));
  within = λ p h.
      ordered.within p (in_times p xs (omega (arith, sum_by-IsPermutation (one_if p) xs ys moved, times_in p ys h)));
  different = different_times ys
      (λ p. omega (arith, sum_by-IsPermutation (one_if p) xs ys moved, one_time p xs ordered.different));
}

-- there are no more spots than steps
pub as_many : (n : ℕ) (order : List ℕ) → IsOrder n order → length order ≤ n
as_many n order ordered = different_few n 0 order ordered.different (λ i h. (omega arith, omega (arith, ordered.within i h)))

-- ---- the first of those that are left

pub first_at : (n : ℕ) (order : List ℕ) (k x : ℕ) → slice_get order k ≡ Some x → x ≡ first_of n (drop k order)
first_at n order k x e = sym (ap (first_of n) (drop_at order k x e))

pub first_past : (n : ℕ) (order : List ℕ) (k : ℕ) → length order ≤ k → n ≡ first_of n (drop k order)
first_past n [] zero h = refl
first_past n [] (suc k) h = refl
first_past n (q ∷ qs) zero h = absurd (omega (arith, h))
first_past n (q ∷ qs) (suc k) h = first_past n qs k (omega (arith, h))

-- one order more
pub more_orders :
    (os : List Operation) (old new : List (List ℕ)) (order : List ℕ) (n : ℕ) (o : Operation) → new ≡ old ++ order ∷ [] →
    length old ≡ n → slice_get os n ≡ Some o → IsOrder (length o.code) order →
    ((k : ℕ) (p : Operation) → k < n → slice_get os k ≡ Some p → IsOrder (length p.code) (row_or_empty (slice_get old k))) →
    (k : ℕ) (p : Operation) → k < n + 1 → slice_get os k ≡ Some p → IsOrder (length p.code) (row_or_empty (slice_get new k))
more_orders os old new order n o is long there ordered each k p lt e = ⊎_elim
    (λ (same : k ≡ n).
    let one : o ≡ p = same_Some o p (sym there ∙ ap (slice_get os) (sym same) ∙ e) in
    let at : slice_get new k ≡ Some order =
    ap (λ l. slice_get l k) is ∙ ap (slice_get (old ++ order ∷ [])) (same ∙ sym long) ∙ last old order in
    subst (λ r. IsOrder (length p.code) (row_or_empty r)) (sym at) (subst (λ (x : Operation). IsOrder (length x.code) order) one ordered))
    (λ (ne : k ≢ n).
    let less : k < n = ⊎_elim (λ (l : k < n). l) (λ (ge : n ≤ k). absurd (ne (omega (arith, ge, lt)))) (cases_lt k n) in
    let at : slice_get new k ≡ slice_get old k = ap (λ l. slice_get l k) is ∙ front old order k (omega (arith, less, long)) in
    subst (λ r. IsOrder (length p.code) (row_or_empty r)) (sym at) (each k p less e))
    (same_or_not k n)
  where
    last : (xs : List (List ℕ)) (x : List ℕ) → slice_get (xs ++ x ∷ []) (length xs) ≡ Some x
    last [] x = refl
    last (y ∷ ys) x = last ys x

    front : (xs : List (List ℕ)) (x : List ℕ) (k : ℕ) → k < length xs → slice_get (xs ++ x ∷ []) k ≡ slice_get xs k
    front [] x k lt = absurd (omega (arith, lt))
    front (y ∷ ys) x zero lt = refl
    front (y ∷ ys) x (suc k) lt = front ys x k (omega (arith, lt))
