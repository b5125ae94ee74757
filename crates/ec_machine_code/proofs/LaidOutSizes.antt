-- Steps in an order: how many words stand before each, and that each has its own.
use Rattle.std.proofs.Common.{◌≡◌, ◌≢◌, ◌⊎◌, ℕ, suc, ◌+◌, ◌≤◌, List, [], ◌∷◌, ◌++◌, length, length-append, Some, None, Option, refl, sym, ap}
use Rattle.std.proofs.Common.{◌∙◌, arith, inl, inr, ⊎_elim, subst, Bool, true, false, cond}
use Rattle.std.specs.Prelude.{slice_get, ◌==◌}
use Rattle.std.proofs.lemmas.Bool.Decides.{nat_tests}
use Rattle.ec_code.specs.Fine.{IsIn}
use Rattle.ec_code.specs.declared.code.Op.{Op}
use Rattle.ec_code.specs.declared.code.Variable.{Variable}
use Rattle.ec_machine_code.specs.declared.homes.Home.{Home}
use Rattle.ec_machine_code.specs.Layout.{before, branch_size, branch_words, ending_size, ending_words, first_of, next_of, on_size, on_words}
use Rattle.ec_machine_code.specs.Layout.{op_size, op_words, place, plain_size, size_at, size_if, size_of, words_from, words_if, words_of_steps}
use Rattle.ec_machine_code.specs.Lowering.{ending_of, opposite, steps_of}
use Rattle.ec_machine_code.specs.Once.{AreDifferent}
use Rattle.ec_machine_code.specs.Speaks.{Vocabulary}
use Rattle.ec_machine_code.specs.declared.step.Ending.{Ending}
use Rattle.ec_machine_code.specs.declared.step.Ending.TheVariants.{Again, Branch, Jump, Stop}
use Rattle.ec_machine_code.specs.declared.step.Question.{Question}
use Rattle.ec_machine_code.proofs.Different.{same_or_not}

pub same_test : (x y : ℕ) → x ≡ y → (x == y) ≡ true
same_test x y e = grind (arith, nat_tests)

pub other_test : (x y : ℕ) → x ≢ y → (x == y) ≡ false
other_test x y e = grind (arith, nat_tests)

pub is_same : (x y : ℕ) → (x == y) ≡ true → x ≡ y
is_same x y e = grind (arith, nat_tests)

-- ---- what stands next

module _ (count : ℕ) where
  pub next_here : (q p : ℕ) (qs : List ℕ) → q ≡ p → next_of count (q ∷ qs) p ≡ first_of count qs
  next_here q p qs e = ap (λ b. cond b (first_of count qs) (next_of count qs p)) (same_test q p e)

  pub next_there : (q p : ℕ) (qs : List ℕ) → q ≢ p → next_of count (q ∷ qs) p ≡ next_of count qs p
  next_there q p qs e = ap (λ b. cond b (first_of count qs) (next_of count qs p)) (other_test q p e)

  first_in : (qs : List ℕ) → IsIn (first_of count qs) qs ⊎ (first_of count qs ≡ count)
  first_in [] = inr refl
  first_in (q ∷ qs) = inl (inl refl)

  -- it is another step, or the end
  next_in : (qs : List ℕ) (p : ℕ) → IsIn (next_of count qs p) qs ⊎ (next_of count qs p ≡ count)
  next_in [] p = inr refl
  next_in (q ∷ qs) p = ⊎_elim
      (λ (e : q ≡ p). subst (λ n. IsIn n (q ∷ qs) ⊎ (n ≡ count)) (sym (next_here q p qs e))
      (⊎_elim (λ (h : IsIn (first_of count qs) qs). inl (inr h)) (λ h. inr h) (first_in qs)))
      (λ (ne : q ≢ p). subst (λ n. IsIn n (q ∷ qs) ⊎ (n ≡ count)) (sym (next_there q p qs ne))
      (⊎_elim (λ (h : IsIn (next_of count qs p) qs). inl (inr h)) (λ h. inr h) (next_in qs p)))
      (same_or_not q p)

pub in_rest : (q p : ℕ) (qs : List ℕ) → q ≢ p → IsIn p (q ∷ qs) → IsIn p qs
in_rest q p qs ne h = ⊎_elim (λ (e : p ≡ q). absurd (ne (sym e))) (λ (r : IsIn p qs). r) h

module _ (V : Vocabulary) (home : Variable → Home) (ops : List Op) where
  abbrev count : ℕ
  count = length ops

  -- how many words stand before the end of step p
  abbrev pub behind : List ℕ → ℕ → ℕ
  behind order p = before V home ops order p + size_if V home ops (next_of count order p) p (slice_get ops p)

  pub before_here : (q p : ℕ) (qs : List ℕ) → q ≡ p → before V home ops (q ∷ qs) p ≡ 0
  before_here q p qs e = ap (λ b. cond b 0 (size_at V home ops q qs + before V home ops qs p)) (same_test q p e)

  pub before_there :
      (q p : ℕ) (qs : List ℕ) → q ≢ p → before V home ops (q ∷ qs) p ≡ size_at V home ops q qs + before V home ops qs p
  before_there q p qs e = ap (λ b. cond b 0 (size_at V home ops q qs + before V home ops qs p)) (other_test q p e)

  behind_here : (q p : ℕ) (qs : List ℕ) → q ≡ p → behind (q ∷ qs) p ≡ size_at V home ops q qs
  behind_here q p qs e =
      let none = before_here q p qs e in
      let next = ap (λ n. size_if V home ops n p (slice_get ops p)) (next_here count q p qs e) in
      let same = ap (λ i. size_if V home ops (first_of count qs) i (slice_get ops i)) e in
      omega (arith, none, next, same)

  behind_there : (q p : ℕ) (qs : List ℕ) → q ≢ p → behind (q ∷ qs) p ≡ size_at V home ops q qs + behind qs p
  behind_there q p qs e =
      let more = before_there q p qs e in
      let next = ap (λ n. size_if V home ops n p (slice_get ops p)) (next_there count q p qs e) in
      omega (arith, more, next)

  pub before_within : (order : List ℕ) (p : ℕ) → before V home ops order p ≤ size_of V home ops order
  before_within [] p = omega arith
  before_within (q ∷ qs) p =
      let rest = before_within qs p in
      ⊎_elim
      (λ (e : q ≡ p). let none = before_here q p qs e in omega (arith, none))
      (λ (ne : q ≢ p). let more = before_there q p qs ne in omega (arith, more, rest))
      (same_or_not q p)

  pub behind_within : (order : List ℕ) (p : ℕ) → IsIn p order → behind order p ≤ size_of V home ops order
  behind_within [] p h = absurd h
  behind_within (q ∷ qs) p h = ⊎_elim
      (λ (e : q ≡ p). let here = behind_here q p qs e in omega (arith, here))
      (λ (ne : q ≢ p).
      let more = behind_there q p qs ne in
      let rest = behind_within qs p (in_rest q p qs ne h) in
      omega (arith, more, rest))
      (same_or_not q p)

  -- what is in no spot is behind all
  pub before_none : (order : List ℕ) (p : ℕ) → (IsIn p order → ⊥) → before V home ops order p ≡ size_of V home ops order
  before_none [] p out = refl
  before_none (q ∷ qs) p out =
      let more = before_there q p qs (λ e. out (inl (sym e))) in
      let rest = before_none qs p (λ h. out (inr h)) in
      omega (arith, more, rest)

  before_first : (qs : List ℕ) → (IsIn count qs → ⊥) → before V home ops qs (first_of count qs) ≡ 0
  before_first [] out = refl
  before_first (q ∷ qs) out = before_here q q qs refl

  -- where a step ends, the one begins that stands next
  pub next_begins :
      (order : List ℕ) (p : ℕ) → AreDifferent order → (IsIn count order → ⊥) → IsIn p order →
      before V home ops order (next_of count order p) ≡ behind order p
  next_begins [] p apart out h = absurd h
  next_begins (q ∷ qs) p apart out h = ⊎_elim
      (λ (e : q ≡ p).
      let here = behind_here q p qs e in
      let next = ap (before V home ops (q ∷ qs)) (next_here count q p qs e) in
      let other : q ≢ first_of count qs =
      λ same. ⊎_elim
      (λ (k : IsIn (first_of count qs) qs). apart.0 (subst (λ i. IsIn i qs) (sym same) k))
      (λ (k : first_of count qs ≡ count). out (inl (sym (same ∙ k))))
      (first_in count qs) in
      let more = before_there q (first_of count qs) qs other in
      let none = before_first qs (λ k. out (inr k)) in
      omega (arith, here, next, more, none))
      (λ (ne : q ≢ p).
      let there = behind_there q p qs ne in
      let next = ap (before V home ops (q ∷ qs)) (next_there count q p qs ne) in
      let other : q ≢ next_of count qs p =
      λ same. ⊎_elim
      (λ (k : IsIn (next_of count qs p) qs). apart.0 (subst (λ i. IsIn i qs) (sym same) k))
      (λ (k : next_of count qs p ≡ count). out (inl (sym (same ∙ k))))
      (next_in count qs p) in
      let more = before_there q (next_of count qs p) qs other in
      let rest = next_begins qs p apart.1 (λ k. out (inr k)) (in_rest q p qs ne h) in
      omega (arith, there, next, more, rest))
      (same_or_not q p)

  -- of two steps one ends before the other begins
  pub spots_apart :
      (order : List ℕ) (p r : ℕ) → IsIn p order → IsIn r order → p ≢ r →
      (behind order p ≤ before V home ops order r) ⊎ (behind order r ≤ before V home ops order p)
  spots_apart [] p r a b ne = absurd a
  spots_apart (q ∷ qs) p r a b ne = ⊎_elim
      (λ (e : q ≡ p).
      let here = behind_here q p qs e in
      let there = before_there q r qs (λ k. ne (sym e ∙ k)) in
      inl (omega (arith, here, there)))
      (λ (not_p : q ≢ p). ⊎_elim
      (λ (e : q ≡ r).
      let here = behind_here q r qs e in
      let there = before_there q p qs not_p in
      inr (omega (arith, here, there)))
      (λ (not_r : q ≢ r).
      let p_before = before_there q p qs not_p in
      let p_behind = behind_there q p qs not_p in
      let r_before = before_there q r qs not_r in
      let r_behind = behind_there q r qs not_r in
      ⊎_elim
      (λ (h : behind qs p ≤ before V home ops qs r). inl (omega (arith, h, p_behind, r_before)))
      (λ (h : behind qs r ≤ before V home ops qs p). inr (omega (arith, h, r_behind, p_before)))
      (spots_apart qs p r (in_rest q p qs not_p a) (in_rest q r qs not_r b) ne))
      (same_or_not q r))
      (same_or_not q p)

-- ---- as many words as are said

module _ (V : Vocabulary) (home : Variable → Home) (asks : (q : Question) (from to : ℕ) → length (V.ask_words q from to) ≡ V.ask_size q)
    (jumps : (from to : ℕ) → length (V.jump_words from to) ≡ V.jump_size) where
  module _ (place_of : ℕ → ℕ) (next p : ℕ) where
    pub on_long : (to from : ℕ) → length (on_words V place_of next to from) ≡ on_size V next to
    on_long to from = by (next == to)
      where
        by : (b : Bool) → length (cond b [] (V.jump_words from (place_of to))) ≡ cond b 0 V.jump_size
        by true = refl
        by false = jumps from (place_of to)

    branch_long : (q : Question) (over from : ℕ) → length (branch_words V place_of next p q over from) ≡ branch_size V next p q over
    branch_long q over from = by (next == suc (p + over))
      where
        first : List ℕ
        first = V.ask_words q from (place_of (suc (p + over)))

        on : List ℕ
        on = on_words V place_of next (suc p) (from + V.ask_size q)

        by :
            (b : Bool) → length (cond b (V.ask_words (opposite q) from (place_of (suc p))) (first ++ on))
            ≡ cond b (V.ask_size (opposite q)) (V.ask_size q + on_size V next (suc p))
        by true = asks (opposite q) from (place_of (suc p))
        by false =
            let one = length-append first on in
            let two = asks q from (place_of (suc (p + over))) in
            let three = on_long (suc p) (from + V.ask_size q) in
            omega (arith, one, two, three)

    pub ending_long : (from : ℕ) (e : Option Ending) → length (ending_words V place_of next p from e) ≡ ending_size V next p e
    ending_long from None = on_long (suc p) from
    ending_long from (Some (Branch q over)) = branch_long q over from
    ending_long from (Some (Jump over)) = on_long (suc (p + over)) from
    ending_long from (Some (Again back)) = on_long _ from
    ending_long from (Some Stop) = ap suc (on_long (suc p) (suc from))

    pub op_long : (from : ℕ) (o : Op) → length (op_words V home place_of next p from o) ≡ op_size V home next p o
    op_long from o =
        let ws = words_of_steps V (steps_of home o) in
        let ending = ending_words V place_of next p (from + plain_size V home o) (ending_of home o) in
        let one = length-append ws ending in
        let two = ending_long (from + plain_size V home o) (ending_of home o) in
        omega (arith, one, two)

    pub step_long :
        (ops : List Op) (from : ℕ) (o : Option Op) →
        length (words_if V home ops place_of next p from o) ≡ size_if V home ops next p o
    step_long ops from None = refl
    step_long ops from (Some o) = op_long from o

  pub from_long :
      (ops : List Op) (order : List ℕ) (start from : ℕ) (qs : List ℕ) →
      length (words_from V home ops order start from qs) ≡ size_of V home ops qs
  from_long ops order start from [] = refl
  from_long ops order start from (q ∷ qs) =
      let next = first_of (length ops) qs in
      let at = from + size_at V home ops q qs in
      let one = length-append (words_if V home ops (place V home ops order start) next q from (slice_get ops q))
      (words_from V home ops order start at qs) in
      let two = step_long (place V home ops order start) next q ops from (slice_get ops q) in
      let rest = from_long ops order start at qs in
      omega (arith, one, two, rest)
