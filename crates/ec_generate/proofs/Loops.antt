-- What the loops keep that write code.
use Rattle.std.proofs.Common.{◌≡◌, ◌≢◌, ℕ, suc, ◌+◌, ◌<◌, ◌≤◌, List, [], ◌∷◌, ◌++◌, length, length-append, append_assoc, Some, None, Option}
use Rattle.std.proofs.Common.{refl}
use Rattle.std.proofs.Common.{sym, ap, ◌∙◌, arith, drop, inl, inr, map, subst, ⊎_elim}
use Rattle.std.specs.Prelude.{slice_get, slice_set, IsSome}
use Rattle.std.proofs.lemmas.Bool.{cases_lt}
use Rattle.ec_base.proofs.Lists.{drop_at, get_set_other, get_set_same, length_set}
use Rattle.ec_code.specs.Fine.{IsIn}
use Rattle.ec_code.specs.declared.code.Line.{Line}
use Rattle.ec_code.specs.declared.code.Op.{Op}
use Rattle.ec_code.specs.declared.code.StopRow.{StopRow}
use Rattle.ec_code.specs.declared.code.Variable.{Variable}
use Rattle.ec_machine_code.specs.Stops.{places_from, stop_of, with_place}
use Rattle.ec_generate.specs.Puts.{IsSized}
use Rattle.ec_machine_code.specs.declared.homes.Home.{Home}
use Rattle.ec_machine_code.specs.Layout.{IsOrder, before, ending_words, first_of, op_size, op_words, place, plain_size, size_at, size_if}
use Rattle.ec_machine_code.specs.Layout.{size_of, words_from, words_if, words_of_steps}
use Rattle.ec_machine_code.specs.Lowering.{ending_of, steps_of}
use Rattle.ec_machine_code.specs.Once.{AreDifferent}
use Rattle.ec_machine_code.specs.Speaks.{Vocabulary}
use Rattle.ec_machine_code.proofs.Different.{same_or_not}
use Rattle.ec_machine_code.proofs.LaidOutSizes.{before_here, before_none, before_there, in_rest, op_long}

-- the words of a step of three-address code: those of its steps on words, and behind them those that lead on
pub words_behind :
    (V : Vocabulary) (home : Variable → Home) (place_of : ℕ → ℕ) (next p : ℕ) (o : Op) (old mid new : List ℕ) →
    mid ≡ old ++ words_of_steps V (steps_of home o) →
    new ≡ mid ++ ending_words V place_of next p (length mid) (ending_of home o) →
    new ≡ old ++ op_words V home place_of next p (length old) o
words_behind V home place_of next p o old mid new first second =
    let ws = words_of_steps V (steps_of home o) in
    let from = length old + plain_size V home o in
    let ending = λ (n : ℕ). ending_words V place_of next p n (ending_of home o) in
    let long : length mid ≡ from = ap length first ∙ length-append old ws in
    second ∙ ap (λ n. mid ++ ending n) long ∙ ap (λ l. l ++ ending from) first ∙ append_assoc old ws (ending from)

-- Loops by what remains: what is there, and what is made of the rest, is all.
module _ (V : Vocabulary) (home : Variable → Home) (ops : List Op) (order : List ℕ) (start : ℕ) where
  abbrev next_at : ℕ → ℕ
  next_at k = first_of (length ops) (drop (k + 1) order)

  abbrev pub rest_words : ℕ → ℕ → List ℕ
  rest_words from k = words_from V home ops order start from (drop k order)

  -- how many words the steps have from a spot on
  abbrev pub rest_size : ℕ → ℕ
  rest_size k = size_of V home ops (drop k order)

  pub size_next : (k q : ℕ) → slice_get order k ≡ Some q → rest_size k ≡ size_at V home ops q (drop (k + 1) order) + rest_size (k + 1)
  size_next k q at = ap (size_of V home ops) (drop_at order k q at)

  pub size_here :
      (k q : ℕ) (o : Op) → slice_get order k ≡ Some q → slice_get ops q ≡ Some o →
      rest_size k ≡ op_size V home (next_at k) q o + rest_size (k + 1)
  size_here k q o at there =
      let one = ap (size_if V home ops (next_at k) q) there in
      let all = size_next k q at in
      omega (arith, one, all)

  module _ (sized : IsSized V) (k q : ℕ) (o : Op) (old new : List ℕ) (at : slice_get order k ≡ Some q) (there : slice_get ops q ≡ Some o)
      (is : new ≡ old ++ op_words V home (place V home ops order start) (next_at k) q (length old) o) where
    pub longer : length new ≡ length old + size_at V home ops q (drop (k + 1) order)
    longer =
        omega (
          arith,
          ap length is,
          length-append old (op_words V home (place V home ops order start) (next_at k) q (length old) o),
          op_long V home sized.asks sized.jumps (place V home ops order start) (next_at k) q (length old) o,
          ap (size_if V home ops (next_at k) q) there,
        )

    pub rest_next : (all : List ℕ) → old ++ rest_words (length old) k ≡ all → new ++ rest_words (length new) (k + 1) ≡ all
    rest_next all so_far =
        let qs : List ℕ = drop (k + 1) order in
        let ws : List ℕ = op_words V home (place V home ops order start) (next_at k) q (length old) o in
        let behind : List ℕ = words_from V home ops order start (length old + size_at V home ops q qs) qs in
        let one : rest_words (length old) k ≡ ws ++ behind =
        ap (words_from V home ops order start (length old)) (drop_at order k q at)
        ∙ ap (λ i. words_if V home ops (place V home ops order start) (next_at k) q (length old) i ++ behind) there in
        ap (λ l. l ++ rest_words (length new) (k + 1)) is ∙ append_assoc old ws (rest_words (length new) (k + 1))
        ∙ ap (λ n. old ++ (ws ++ words_from V home ops order start n qs)) longer ∙ sym (ap (λ l. old ++ l) one) ∙ so_far

    pub size_so_far : (all : ℕ) → length old + rest_size k ≡ all → length new + rest_size (k + 1) ≡ all
    size_so_far all so_far = omega (arith, longer, size_next k q at, so_far)

  nothing_behind : (qs : List ℕ) → drop (length qs) qs ≡ []
  nothing_behind [] = refl
  nothing_behind (q ∷ qs) = nothing_behind qs

  no_more : (ws : List ℕ) → ws ++ [] ≡ ws
  no_more [] = refl
  no_more (w ∷ ws) = ap (λ r. w ∷ r) (no_more ws)

  pub none_left : (k : ℕ) → k ≡ length order → drop k order ≡ []
  none_left k end = ap (λ i. drop i order) end ∙ nothing_behind order

  -- at the end all is there
  pub all_there : (k : ℕ) (old all : List ℕ) → k ≡ length order → old ++ rest_words (length old) k ≡ all → old ≡ all
  all_there k old all end there =
      sym (no_more old) ∙ sym (ap (λ r. old ++ words_from V home ops order start (length old) r) (none_left k end)) ∙ there

-- ---- the table of places

module _ (V : Vocabulary) (home : Variable → Home) (ops : List Op) where
  -- with the places of these steps, the first of which begins at a word
  abbrev pub filled : List ℕ → ℕ → List ℕ → List ℕ
  filled table at [] = table
  filled table at (q ∷ qs) = filled (slice_set table q at) (at + size_at V home ops q qs) qs

  filled_long : (table : List ℕ) (at : ℕ) (qs : List ℕ) → length (filled table at qs) ≡ length table
  filled_long table at [] = refl
  filled_long table at (q ∷ qs) =
      filled_long (slice_set table q at) (at + size_at V home ops q qs) qs ∙ length_set table q at

  filled_other : (table : List ℕ) (at : ℕ) (qs : List ℕ) (p : ℕ) → (IsIn p qs → ⊥) → slice_get (filled table at qs) p ≡ slice_get table p
  filled_other table at [] p out = refl
  filled_other table at (q ∷ qs) p out =
      filled_other (slice_set table q at) (at + size_at V home ops q qs) qs p (λ h. out (inr h))
      ∙ get_set_other table q p at (λ e. out (inl e))

  filled_is :
      (table : List ℕ) (at : ℕ) (qs : List ℕ) (p : ℕ) → AreDifferent qs → IsIn p qs → p < length table →
      slice_get (filled table at qs) p ≡ Some (at + before V home ops qs p)
  filled_is table at [] p apart h lt = absurd h
  filled_is table at (q ∷ qs) p apart h lt =
      let size = size_at V home ops q qs in
      ⊎_elim
      (λ (e : q ≡ p).
      let none = before_here V home ops q p qs e in
      let sum : at ≡ at + before V home ops (q ∷ qs) p = omega (arith, none) in
      filled_other (slice_set table q at) (at + size) qs p (λ k. apart.0 (subst (λ i. IsIn i qs) (sym e) k))
      ∙ ap (λ i. slice_get (slice_set table i at) p) e ∙ get_set_same table p at lt ∙ ap Some sum)
      (λ (ne : q ≢ p).
      let more = before_there V home ops q p qs ne in
      let sum : at + size + before V home ops qs p ≡ at + before V home ops (q ∷ qs) p = omega (arith, more) in
      let long = length_set table q at in
      filled_is (slice_set table q at) (at + size) qs p apart.1 (in_rest q p qs ne h) (omega (arith, long, lt)) ∙ ap Some sum)
      (same_or_not q p)

  module _ (order : List ℕ) (ordered : IsOrder (length ops) order) (table : List ℕ) (long : length table ≡ suc (length ops)) where
    pub last_long : length (slice_set (filled table 0 order) (length ops) (size_of V home ops order)) ≡ suc (length ops)
    last_long = length_set (filled table 0 order) (length ops) (size_of V home ops order) ∙ filled_long table 0 order ∙ long

    no_spot : IsIn (length ops) order → ⊥
    no_spot h = let lt = ordered.within (length ops) h in omega (arith, lt)

    pub last_each : (q : ℕ) → q ≤ length ops →
        slice_get (slice_set (filled table 0 order) (length ops) (size_of V home ops order)) q ≡ Some (before V home ops order q)
    last_each q h = ⊎_elim
        (λ (e : q ≡ length ops).
        let filled_size = filled_long table 0 order in
        ap (slice_get (slice_set (filled table 0 order) (length ops) (size_of V home ops order))) e
        ∙ get_set_same (filled table 0 order) (length ops) (size_of V home ops order) (omega (arith, filled_size, long))
        ∙ ap Some (sym (before_none V home ops order (length ops) no_spot)) ∙ ap (λ i. Some (before V home ops order i)) (sym e))
        (λ (ne : q ≢ length ops).
        let lt : q < length ops = not_equal q (length ops) h ne in
        get_set_other (filled table 0 order) (length ops) q (size_of V home ops order) ne
        ∙ filled_is table 0 order q ordered.different (ordered.all q lt) (omega (arith, long, lt))
        ∙ ap Some (let none : 0 + before V home ops order q ≡ before V home ops order q = omega arith in none))
        (same_or_not q (length ops))
      where
        not_equal : (a b : ℕ) → a ≤ b → a ≢ b → a < b
        not_equal a b le ne = ⊎_elim (λ (lt : a < b). lt) (λ (ge : b ≤ a). absurd (ne (omega (arith, le, ge)))) (cases_lt a b)

-- the addresses of the stops of what remains
module _ (address : ℕ → ℕ) where
  abbrev pub rest_stops : List Line → ℕ → List ℕ
  rest_stops code q = map address (places_from q (drop q code))

  module _ (code : List Line) (q : ℕ) (line : Line) (there : slice_get code q ≡ Some line) (old new all : List ℕ)
      (so_far : old ++ rest_stops code q ≡ all) where
    rest_is : rest_stops code q ≡ map address (places_from q (line ∷ drop (q + 1) code))
    rest_is = ap (λ ls. map address (places_from q ls)) (drop_at code q line there)

    suc_is : map address (places_from (suc q) (drop (q + 1) code)) ≡ rest_stops code (q + 1)
    suc_is = ap (λ k. map address (places_from k (drop (q + 1) code))) (let m : suc q ≡ q + 1 = omega arith in m)

    -- a line that is no stop
    pub stops_none : stop_of line.op ≡ None → new ≡ old → new ++ rest_stops code (q + 1) ≡ all
    stops_none none same =
        let e : map address (places_from q (line ∷ drop (q + 1) code)) ≡ rest_stops code (q + 1) = rw none suc_is in
        ap (λ l. l ++ rest_stops code (q + 1)) same ∙ sym (ap (λ l. old ++ l) (rest_is ∙ e)) ∙ so_far

    one_is : (o : Option StopRow) → IsSome o → (rest : List ℕ) → with_place q o rest ≡ q ∷ rest
    one_is None h rest = absurd cc
    one_is (Some row) h rest = refl

    -- a stop
    pub stops_one : (x : ℕ) → IsSome (stop_of line.op) → new ≡ old ++ x ∷ [] → x ≡ address q → new ++ rest_stops code (q + 1) ≡ all
    stops_one x some more same =
        let e : map address (places_from q (line ∷ drop (q + 1) code)) ≡ address q ∷ rest_stops code (q + 1) =
        ap (map address) (one_is (stop_of line.op) some (places_from (suc q) (drop (q + 1) code))) ∙ ap (λ l. address q ∷ l) suc_is in
        ap (λ l. l ++ rest_stops code (q + 1)) more ∙ append_assoc old (x ∷ []) (rest_stops code (q + 1))
        ∙ ap (λ y. old ++ y ∷ rest_stops code (q + 1)) same ∙ sym (ap (λ l. old ++ l) (rest_is ∙ e)) ∙ so_far
