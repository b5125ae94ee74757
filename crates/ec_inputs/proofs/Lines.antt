-- Lines, and the entries of lines when those of the first ones are known.
use Rattle.std.proofs.Common.{◌≡◌, refl, ap, ◌∙◌, sym, ◌+◌, ◌-◌, ◌==◌, ◌<◌, ◌≤◌, ℕ, Bool, true, false, not, cond, List, [], ◌∷◌}
use Rattle.std.proofs.Common.{◌++◌, length, take, drop, arith, length-drop}
use Rattle.std.specs.Prelude.{Result, Ok, Err}
use Rattle.std.specs.List.{slice_split, onto_first, position_or_len}
use Rattle.std.specs.Str.Lines.{lines, lines_of_parts, strip_carriage_return}
use Rattle.std.proofs.lemmas.List.Splits.{slice_split_first, slice_split-cons_no, slice_split-cons_yes}
use Rattle.std.proofs.lemmas.Bool.{ne_eqb}
use Rattle.ec_world.specs.declared.run.Entry.{Entry}
use Rattle.ec_inputs.specs.Schedules.{Text, Fault}

-- ---- lines

abbrev is_feed : ℕ → Bool
is_feed b = b == 10

-- a list of no less than its own length has no more behind it
all_taken : (xs : Text) → take (length xs) xs ≡ xs
all_taken [] = refl
all_taken (x ∷ xs) = ap (λ ys. x ∷ ys) (all_taken xs)

rest_taken : (k : ℕ) (xs : Text) → take (length xs - k) (drop k xs) ≡ drop k xs
rest_taken k xs = rw (← length-drop k xs) (all_taken (drop k xs))

-- where no byte is a line feed, there is one part
one_part : (xs : Text) → length xs ≤ position_or_len is_feed xs → slice_split is_feed xs ≡ xs ∷ []
one_part [] h = refl
one_part (x ∷ xs) h = go (λ k. one_part xs k) (is_feed x) refl h
  where
    go : (length xs ≤ position_or_len is_feed xs → slice_split is_feed xs ≡ xs ∷ []) → (b : Bool) → is_feed x ≡ b
        → length (x ∷ xs) ≤ cond (not (is_feed x)) (1 + position_or_len is_feed xs) 0 → slice_split is_feed (x ∷ xs) ≡ (x ∷ xs) ∷ []
    go more true e k = let z : length (x ∷ xs) ≤ 0 = rw e at k in absurd (omega arith)
    go more false e k =
        let z : length (x ∷ xs) ≤ 1 + position_or_len is_feed xs = rw e at k in
        slice_split-cons_no is_feed x xs e ∙ ap (onto_first x) (more (omega arith))

-- a part before a line feed is a line without its carriage return
with_part : (line more : Text) → lines_of_parts (line ∷ slice_split is_feed more) ≡ strip_carriage_return line ∷ lines more
with_part line more = go (slice_split is_feed more) (some more)
  where
    go : (parts : List Text) → 1 ≤ length parts → lines_of_parts (line ∷ parts) ≡ strip_carriage_return line ∷ lines_of_parts parts
    go [] h = absurd (omega arith)
    go (p ∷ ps) h = refl

    onto : (x : ℕ) (parts : List Text) → 1 ≤ length (onto_first x parts)
    onto x [] = omega arith
    onto x (p ∷ ps) = omega arith

    some : (xs : Text) → 1 ≤ length (slice_split is_feed xs)
    some [] = omega arith
    some (x ∷ xs) = by (is_feed x) refl
      where
        by : (b : Bool) → is_feed x ≡ b → 1 ≤ length (slice_split is_feed (x ∷ xs))
        by true e = rw (slice_split-cons_yes is_feed x xs e) (omega arith)
        by false e = rw (slice_split-cons_no is_feed x xs e) (onto x (slice_split is_feed xs))

pub line_before_feed : (bytes : Text) (k : ℕ) → k ≡ position_or_len is_feed bytes → k < length bytes →
    lines bytes ≡ strip_carriage_return (take k bytes) ∷ lines (take (length bytes - (k + 1)) (drop (k + 1) bytes))
line_before_feed bytes k e h =
    let first : slice_split is_feed bytes ≡ take k bytes ∷ slice_split is_feed (drop (k + 1) bytes) =
    rw e (slice_split_first is_feed bytes 0 (rw e at h)) in
    ap lines_of_parts first ∙ (with_part (take k bytes) (drop (k + 1) bytes)
    ∙ ap (λ rest. strip_carriage_return (take k bytes) ∷ lines rest) (sym (rest_taken (k + 1) bytes)))

pub last_line : (bytes : Text) (k : ℕ) → k ≡ position_or_len is_feed bytes → length bytes ≤ k → k ≤ length bytes → 0 < length bytes →
    lines bytes ≡ bytes ∷ lines (take (length bytes - k) (drop k bytes))
last_line [] k e h g some = absurd (omega arith)
last_line (b ∷ bs) k e h g some =
    let none : length (b ∷ bs) - k ≡ 0 = omega arith in
    let not_empty : (length (b ∷ bs) == 0) ≡ false = ne_eqb _ _ (λ z. omega arith) in
    ap lines_of_parts (one_part (b ∷ bs) (omega arith))
    ∙ (ap (λ t. cond t [] ((b ∷ bs) ∷ [])) not_empty ∙ ap (λ n. (b ∷ bs) ∷ lines (take n (drop k (b ∷ bs)))) (sym none))

-- ---- entries

-- entries, and then those that are still to come
abbrev pub after : List Entry → Result (List Entry) Fault → Result (List Entry) Fault
after es (Ok more) = Ok (es ++ more)
after es (Err fault) = Err fault
