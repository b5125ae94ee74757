-- Of the variables of a kind, from a number on, those that are live at a place, by rising number.
use Rattle.std.proofs.Common.{◌≡◌, ℕ, zero, suc, ◌+◌, ◌<◌, ◌≤◌, Bool, true, false, inl, inr, ⊎_elim, List, [], ◌∷◌, refl, sym, ap, subst}
use Rattle.std.proofs.Common.{arith}
use Rattle.std.proofs.lemmas.Bool.{cases_eq}
use Rattle.ec_code.specs.Fine.{IsIn}
use Rattle.ec_code.specs.declared.code.Op.{Op}
use Rattle.ec_code.specs.declared.code.Variable.{Variable}
use Rattle.ec_code.proofs.Marking.{marks_of}
use Rattle.ec_code.specs.Live.{IsLive, IsBefore, InOrder}
use Rattle.ec_code.specs.Marks.{is_marked, AreLive}

-- Such a list of so many variables: `f` is the variable of a number.
pub record IsRun (code : List Op) (q : ℕ) (f : ℕ → Variable) (n count : ℕ) (xs : List Variable) : Type 0 where
  pub live : (x : Variable) → IsIn x xs → IsLive code q x
  pub number : (x : Variable) → IsIn x xs → (m : ℕ) × (n ≤ m) × (x ≡ f m)
  pub all : (m : ℕ) → n ≤ m → m < n + count → IsLive code q (f m) → IsIn (f m) xs
  pub in_order : InOrder xs

module _ (code : List Op) (q : ℕ) (f : ℕ → Variable) (rises : (m k : ℕ) → m < k → IsBefore (f m) (f k)) where
  number_from : (n : ℕ) (x : Variable) → (m : ℕ) × (suc n ≤ m) × (x ≡ f m) → (m : ℕ) × (n ≤ m) × (x ≡ f m)
  number_from n x h = (h.0, omega (arith, h.1), h.2)

  before : (n : ℕ) (x : Variable) → (m : ℕ) × (suc n ≤ m) × (x ≡ f m) → IsBefore (f n) x
  before n x h = subst (λ v. IsBefore (f n) v) (sym h.2) (rises n h.0 (omega (arith, h.1)))

  -- the variable of a number in front of the run behind it, where it is live
  with_first : (n count : ℕ) (rest : List Variable) → IsRun code q f (suc n) count rest → (marks : List Bool) → AreLive code (f n) marks →
      (b : Bool) → is_marked marks q ≡ b → (xs : List Variable) × IsRun code q f n (suc count) xs
  with_first n count rest h marks own true e = (
    f n ∷ rest,
    record {
      live = λ x i. ⊎_elim (λ (same : x ≡ f n). subst (λ v. IsLive code q v) (sym same) (own.only q e)) (λ j. h.live x j) i;
      number = λ x i. ⊎_elim (λ (same : x ≡ f n). (n, omega arith, same)) (λ j. number_from n x (h.number x j)) i;
      all = λ m low high l. ⊎_elim (λ (same : m ≡ n). inl (ap f same))
          (λ (other : m ≡ n → ⊥). inr (h.all m (omega arith) (omega arith) l)) (cases_eq m n);
      in_order = (λ x j. before n x (h.number x j), h.in_order);
    },
  )
  with_first n count rest h marks own false e = (
    rest,
    record {
      live = h.live;
      number = λ x i. number_from n x (h.number x i);
      all = λ m low high l. ⊎_elim (λ (same : m ≡ n). absurd (dead (subst (λ k. IsLive code q (f k)) same l)))
          (λ (other : m ≡ n → ⊥). h.all m (omega arith) (omega arith) l) (cases_eq m n);
      in_order = h.in_order;
    },
  )
    where
      dead : IsLive code q (f n) → ⊥
      dead l = let marked : is_marked marks q ≡ true = own.all q l in cc

  pub run_of : (count n : ℕ) → (xs : List Variable) × IsRun code q f n count xs
  run_of zero n = (
    [],
    record {
      live = λ x i. absurd i;
      number = λ x i. absurd i;
      all = λ m low high l. absurd (omega arith);
      in_order = tt;
    },
  )
  run_of (suc count) n =
      let marks = marks_of code (f n) in
      let rest = run_of count (suc n) in
      with_first n count rest.0 rest.1 marks.0 marks.1 (is_marked marks.0 q) refl
