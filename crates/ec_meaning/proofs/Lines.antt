-- The lines of a text up to a place in it.
use Rattle.std.proofs.Common.{◌≡◌, ◌≢◌, ℕ, suc, zero, ◌+◌, ◌<◌, ◌≤◌, List, [], ◌∷◌, ◌++◌, length, get_or, Some, true, false, refl}
use Rattle.std.proofs.Common.{ap, ◌∙◌, inl, inr, arith, length-append}
use Rattle.std.specs.Prelude.{slice_get}
use Rattle.std.proofs.lemmas.Bool.{cases_lt, eq-eqb, ne_eqb}
use Rattle.std.proofs.lemmas.List.Sums.{count_by_more_yes, count_by_more_no}
use Rattle.ec_meaning.specs.Programs.{line_of, is_line_feed}

-- the lines of a text up to a place, the last of which is this one
pub record LinesTo (text : List ℕ) (to : ℕ) (lines : List ℕ) (line : ℕ) : Type 0 where
  pub full : length lines ≡ to + 1
  pub each : (at : ℕ) → at ≤ to → slice_get lines at ≡ Some (line_of text at)
  pub last : line ≡ line_of text to
  pub low : line ≤ to + 1

-- one more line, and those before it
get_front : (xs : List ℕ) (y at : ℕ) → at < length xs → slice_get (xs ++ y ∷ []) at ≡ slice_get xs at
get_front [] y at lt = absurd (omega arith)
get_front (x ∷ xs) y zero lt = refl
get_front (x ∷ xs) y (suc at) lt = get_front xs y at (omega arith)

get_last : (xs : List ℕ) (y : ℕ) → slice_get (xs ++ y ∷ []) (length xs) ≡ Some y
get_last [] y = refl
get_last (x ∷ xs) y = get_last xs y

pub lines_next : (text : List ℕ) (to : ℕ) (lines : List ℕ) (line next : ℕ) (longer : List ℕ) → LinesTo text to lines line →
    next ≡ line_of text (to + 1) → next ≤ to + 1 + 1 → longer ≡ lines ++ next ∷ [] → LinesTo text (to + 1) longer next
lines_next text to lines line next longer r e low more = record {
  full = rw (more, length-append) (omega arith);
  each = λ at le. rw more (elim (cases_lt at (length lines)) [
    | inl lt ↦ get_front lines next at lt ∙ r.each at (omega (arith, r.full))
    | inr ge ↦
        let here : at ≡ length lines = omega (arith, r.full) in
        let there : to + 1 ≡ at = omega (arith, r.full) in
        rw here (get_last lines next) ∙ ap Some (e ∙ ap (line_of text) there)
  ]);
  last = e;
  low = low;
}

-- behind a line feed, and behind another byte
pub line_behind : (text : List ℕ) (at : ℕ) → at < length text → get_or text at 0 ≡ 10 → line_of text (at + 1) ≡ line_of text at + 1
line_behind text at lt is =
    let test : is_line_feed (get_or text at 0) ≡ true = eq-eqb (get_or text at 0) 10 is in
    omega (arith, count_by_more_yes is_line_feed text at 0 lt test)

pub line_same : (text : List ℕ) (at : ℕ) → at < length text → get_or text at 0 ≢ 10 → line_of text (at + 1) ≡ line_of text at
line_same text at lt is =
    let test : is_line_feed (get_or text at 0) ≡ false = ne_eqb (get_or text at 0) 10 is in
    omega (arith, count_by_more_no is_line_feed text at 0 lt test)
