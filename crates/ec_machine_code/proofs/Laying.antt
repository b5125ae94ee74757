-- The words of an operation: each stands where it should, and only a stop's is a stop word.
use Rattle.std.proofs.Common.{◌≡◌, ◌≢◌, ℕ, zero, suc, ◌+◌, ◌-◌, ◌≤◌, List, [], ◌∷◌, ◌++◌, length, Option, Some, None, refl, sym, ap}
use Rattle.std.proofs.Common.{◌∙◌, subst, arith, inl, inr, ⊎_elim, Bool, true, false, cond}
use Rattle.std.specs.Prelude.{slice_get, ◌==◌}
use Rattle.ec_base.proofs.Lists.{get_within}
use Rattle.ec_code.specs.Fine.{IsIn}
use Rattle.ec_code.specs.declared.code.Op.{Op}
use Rattle.ec_code.specs.declared.code.Op.TheVariants as op
use Rattle.ec_code.specs.declared.code.StopRow.{StopRow}
use Rattle.ec_code.specs.declared.code.Variable.{Variable}
use Rattle.ec_machine_code.specs.Machine.{MachineMeaning}
use Rattle.ec_machine_code.specs.declared.homes.Home.{Home}
use Rattle.ec_machine_code.specs.Layout.{IsOrder, before, branch_words, ending_words, first_of, next_of, on_words, op_words}
use Rattle.ec_machine_code.specs.Layout.{operation_words, place, plain_size, size_at, size_of, words_from, words_if, words_of_steps}
use Rattle.ec_machine_code.specs.Lowering.{branch_by, ending_of, known, opposite, question_of, steps_of}
use Rattle.ec_machine_code.specs.Once.{AreDifferent}
use Rattle.ec_machine_code.specs.Speaks.{HasAt, Speaks, Vocabulary, words_end}
use Rattle.ec_machine_code.specs.declared.step.Ending.{Ending}
use Rattle.ec_machine_code.specs.declared.step.Ending.TheVariants.{Again, Branch, Jump, Stop}
use Rattle.ec_machine_code.specs.declared.step.Question.{Question}
use Rattle.ec_machine_code.specs.declared.step.Step.{Step}
use Rattle.ec_machine_code.proofs.Different.{same_or_not}
use Rattle.ec_machine_code.proofs.LaidOutSizes.{before_here, before_there, from_long, in_rest, next_here, next_there, step_long}
use Rattle.ec_machine_code.proofs.Sites.{Laid}
use Rattle.ec_machine_code.proofs.Stretches.{get_append, has_back, has_front}

branch_no_stop : (k : Option Bool) (q : Question) (over : ℕ) → branch_by k q over ≢ Some Stop
branch_no_stop None q over e = cc
branch_no_stop (Some true) q over e = cc
branch_no_stop (Some false) q over e = cc

-- a step that ends with a stop is one
ends_with_stop : (home : Variable → Home) (o : Op) → ending_of home o ≡ Some Stop → (row : StopRow) × (o ≡ op.Rest row)
ends_with_stop home (op.Rest row) e = (row, refl)
ends_with_stop home (op.Copy to from) e = absurd cc
ends_with_stop home (op.Literal to index) e = absurd cc
ends_with_stop home (op.Itself to) e = absurd cc
ends_with_stop home (op.Field to n) e = absurd cc
ends_with_stop home (op.SetField n from) e = absurd cc
ends_with_stop home (op.Constant to index) e = absurd cc
ends_with_stop home (op.Compute how to left right) e = absurd cc
ends_with_stop home (op.Decide to t wanted) e = absurd cc
ends_with_stop home (op.Branch t wanted over) e =
    let q = question_of home t wanted in
    absurd (branch_no_stop (known q) q over e)
ends_with_stop home (op.Jump over) e = absurd cc
ends_with_stop home (op.Again back) e = absurd cc

module _ {S : Type 0} (M : MachineMeaning S) (V : Vocabulary) (K : Speaks M V) where
  none_in_steps : (ms : List Step) (i : ℕ) → slice_get (words_of_steps V ms) i ≡ Some M.stop_word → ⊥
  none_in_steps [] i e = absurd cc
  none_in_steps (m ∷ ms) i e = ⊎_elim
      (λ (h : slice_get (V.step_words m) i ≡ Some M.stop_word). K.no_step m i h)
      (λ (h : (k : ℕ) × (i ≡ length (V.step_words m) + k) × (slice_get (words_of_steps V ms) k ≡ Some M.stop_word)).
      none_in_steps ms h.0 h.2)
      (get_append (V.step_words m) (words_of_steps V ms) i M.stop_word e)

  module _ (home : Variable → Home) (ops : List Op) (order : List ℕ) (start : ℕ) where
    abbrev count : ℕ
    count = length ops

    abbrev place_of : ℕ → ℕ
    place_of = place V home ops order start

    pub all_long : length (operation_words V home ops order start) ≡ size_of V home ops order
    all_long = from_long V home K.asks_size K.jumps_size ops order start start order

    spot_long : (from q : ℕ) (qs : List ℕ) →
        length (words_if V home ops place_of (first_of count qs) q from (slice_get ops q)) ≡ size_at V home ops q qs
    spot_long from q qs =
        step_long V home K.asks_size K.jumps_size place_of (first_of count qs) q ops from (slice_get ops q)

    -- the words of one of the steps, by its spot among these
    op_there :
        (code : List ℕ) (from p : ℕ) (qs : List ℕ) (o : Op) → HasAt code from (words_from V home ops order start from qs) → IsIn p qs →
        slice_get ops p ≡ Some o →
        HasAt code (from + before V home ops qs p)
        (op_words V home place_of (next_of count qs p) p (from + before V home ops qs p) o)
    op_there code from p [] o has h e = absurd h
    op_there code from p (q ∷ qs) o has h e =
        let ws = words_if V home ops place_of (first_of count qs) q from (slice_get ops q) in
        let size = size_at V home ops q qs in
        let rest = words_from V home ops order start (from + size) qs in
        ⊎_elim
        (λ (same : q ≡ p).
        let none = before_here V home ops q p qs same in
        let here : from ≡ from + before V home ops (q ∷ qs) p = omega (arith, none) in
        let front = has_front code from ws rest has in
        let words : ws ≡ op_words V home place_of (next_of count (q ∷ qs) p) p from o =
        ap (λ i. words_if V home ops place_of (first_of count qs) i from (slice_get ops i)) same
        ∙ ap (words_if V home ops place_of (first_of count qs) p from) e
        ∙ ap (λ n. op_words V home place_of n p from o) (sym (next_here count q p qs same)) in
        subst (λ i. HasAt code i (op_words V home place_of (next_of count (q ∷ qs) p) p i o)) here
        (subst (HasAt code from) words front))
        (λ (ne : q ≢ p).
        let long = spot_long from q qs in
        let back = has_back code from ws rest has in
        let far = op_there code (from + size) p qs o (subst (λ n. HasAt code (from + n) rest) long back) (in_rest q p qs ne h) e in
        let more = before_there V home ops q p qs ne in
        let there : from + size + before V home ops qs p ≡ from + before V home ops (q ∷ qs) p = omega (arith, more) in
        subst (λ i. HasAt code i (op_words V home place_of (next_of count (q ∷ qs) p) p i o)) there
        (subst (λ n. HasAt code (from + size + before V home ops qs p) (op_words V home place_of n p (from + size + before V home ops qs p) o))
        (sym (next_there count q p qs ne)) far))
        (same_or_not q p)

    pub laid_is :
        (code : List ℕ) → IsOrder count order → HasAt code start (operation_words V home ops order start) →
        start + size_of V home ops order ≤ words_end → size_of V home ops order ≤ V.reach → Laid V home ops order code start
    laid_is code ordered has low near = record {
      ordered = ordered;
      stand = λ p o e. op_there code start p order o has (ordered.all p (get_within ops p o e)) e;
      low = low;
      near = near;
    }

    -- ---- stop words

    on_stop : (next to from k : ℕ) → slice_get (on_words V place_of next to from) k ≡ Some M.stop_word → ⊥
    on_stop next to from k e = by (next == to) e
      where
        by : (b : Bool) → slice_get (cond b [] (V.jump_words from (place_of to))) k ≡ Some M.stop_word → ⊥
        by true e = cc
        by false e = K.no_jump from (place_of to) k e

    branch_stop : (next p over from k : ℕ) (q : Question) → slice_get (branch_words V place_of next p q over from) k ≡ Some M.stop_word → ⊥
    branch_stop next p over from k q e = by (next == suc (p + over)) e
      where
        first : List ℕ
        first = V.ask_words q from (place_of (suc (p + over)))

        on : List ℕ
        on = on_words V place_of next (suc p) (from + V.ask_size q)

        by :
            (b : Bool) → slice_get (cond b (V.ask_words (opposite q) from (place_of (suc p))) (first ++ on)) k ≡ Some M.stop_word → ⊥
        by true e = K.no_ask (opposite q) from (place_of (suc p)) k e
        by false e = ⊎_elim
            (λ (h : slice_get first k ≡ Some M.stop_word). K.no_ask q from (place_of (suc (p + over))) k h)
            (λ (h : (j : ℕ) × (k ≡ length first + j) × (slice_get on j ≡ Some M.stop_word)).
            on_stop next (suc p) (from + V.ask_size q) h.0 h.2)
            (get_append first on k M.stop_word e)

    ending_stop :
        (next p from : ℕ) (e : Option Ending) (k : ℕ) → slice_get (ending_words V place_of next p from e) k ≡ Some M.stop_word →
        (e ≡ Some Stop) × (k ≡ 0)
    ending_stop next p from None k h = absurd (on_stop next (suc p) from k h)
    ending_stop next p from (Some (Branch q over)) k h = absurd (branch_stop next p over from k q h)
    ending_stop next p from (Some (Jump over)) k h = absurd (on_stop next (suc (p + over)) from k h)
    ending_stop next p from (Some (Again back)) k h = absurd (on_stop next (p - back) from k h)
    ending_stop next p from (Some Stop) zero h = (refl, refl)
    ending_stop next p from (Some Stop) (suc k) h = absurd (on_stop next (suc p) (suc from) k h)

    op_stop :
        (next p from : ℕ) (o : Op) (i : ℕ) → slice_get (op_words V home place_of next p from o) i ≡ Some M.stop_word →
        (row : StopRow) × (o ≡ op.Rest row) × (i ≡ 0)
    op_stop next p from o i e =
        let ws = words_of_steps V (steps_of home o) in
        let ending = ending_words V place_of next p (from + plain_size V home o) (ending_of home o) in
        ⊎_elim
        (λ (h : slice_get ws i ≡ Some M.stop_word). absurd (none_in_steps (steps_of home o) i h))
        (λ (h : (k : ℕ) × (i ≡ length ws + k) × (slice_get ending k ≡ Some M.stop_word)).
        let stop = ending_stop next p (from + plain_size V home o) (ending_of home o) h.0 h.2 in
        let rest = ends_with_stop home o stop.0 in
        let none : plain_size V home o ≡ 0 = ap (plain_size V home) rest.1 in
        let sum = h.1 in
        let first = stop.1 in
        (rest.0, rest.1, (omega (arith, none, sum, first))))
        (get_append ws ending i M.stop_word e)

    step_stop :
        (next p from : ℕ) (o : Option Op) (i : ℕ) → slice_get (words_if V home ops place_of next p from o) i ≡ Some M.stop_word →
        (row : StopRow) × (o ≡ Some (op.Rest row)) × (i ≡ 0)
    step_stop next p from None i e = absurd cc
    step_stop next p from (Some o) i e = let stop = op_stop next p from o i e in (stop.0, ap Some stop.1, stop.2)

    -- a stop word is that of a stop
    pub stop_found :
        (from : ℕ) (qs : List ℕ) (i : ℕ) → AreDifferent qs → slice_get (words_from V home ops order start from qs) i ≡ Some M.stop_word →
        (p : ℕ) × (row : StopRow) × (slice_get ops p ≡ Some (op.Rest row)) × (i ≡ before V home ops qs p) × IsIn p qs
    stop_found from [] i apart e = absurd cc
    stop_found from (q ∷ qs) i apart e =
        let next = first_of count qs in
        let ws = words_if V home ops place_of next q from (slice_get ops q) in
        let size = size_at V home ops q qs in
        let rest = words_from V home ops order start (from + size) qs in
        ⊎_elim
        (λ (h : slice_get ws i ≡ Some M.stop_word).
        let stop = step_stop next q from (slice_get ops q) i h in
        let none = before_here V home ops q q qs refl in
        let first = stop.2 in
        (q, stop.0, stop.1, omega (arith, none, first), inl refl))
        (λ (h : (k : ℕ) × (i ≡ length ws + k) × (slice_get rest k ≡ Some M.stop_word)).
        let far = stop_found (from + size) qs h.0 apart.1 h.2 in
        let long = spot_long from q qs in
        let sum = h.1 in
        let there = far.3 in
        let more = before_there V home ops q far.0 qs (λ same. apart.0 (subst (λ k. IsIn k qs) (sym same) far.4)) in
        (far.0, far.1, far.2, omega (arith, long, sum, there, more), inr far.4))
        (get_append ws rest i M.stop_word e)
