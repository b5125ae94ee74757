-- What a schedule says.
use Rattle.std.specs.Prelude.{ℕ, ◌+◌, ◌==◌, ◌&&◌, ◌||◌, nat_le, not, Bool, false, List, [], ◌∷◌, length, Option, Some, None, Result}
use Rattle.std.specs.Prelude.{Ok, Err, codes, if◌then◌else◌}
use Rattle.std.specs.List.{list_all, before_first, filter, slice_split}
use Rattle.std.specs.Char.{is_ascii_digit}
use Rattle.std.specs.Str.{bytes_eq}
use Rattle.std.specs.Str.Lines.{lines}
use Rattle.std.specs.Str.Parse.{digits_value}
use Rattle.ec_world.specs.declared.run.Entry.{Entry}
use Rattle.ec_world.specs.declared.run.Entry.TheVariants as entry
use Rattle.ec_inputs.specs.declared.schedule.ScheduleRule.{ScheduleRule}
use Rattle.ec_inputs.specs.declared.schedule.ScheduleRule.TheVariants as rule
use Rattle.ec_inputs.specs.declared.schedule.ScheduleError.{ScheduleError}
use Rattle.ec_inputs.specs.declared.schedule.ScheduleError.TheVariants.{Refused, Memory}

abbrev pub Text : Type 0
Text = List ℕ

-- bytes of a file
abbrev pub longest : ℕ
longest = 1048576

-- ---- words of a line

-- `%` (37) starts a comment, up to the end of the line
abbrev pub before_comment : Text → Text
before_comment line = before_first (λ b. b == 37) line

-- a tab (9), a blank (32) or another byte up to `~` (126)
abbrev pub is_plain : ℕ → Bool
is_plain b = b == 9 || (nat_le 32 b && nat_le b 126)

abbrev pub is_blank : ℕ → Bool
is_blank b = b == 32 || b == 9

abbrev pub is_empty : Text → Bool
is_empty text = length text == 0

-- words stand between blanks and tabs
abbrev pub words : Text → List Text
words text = filter (λ part. not (is_empty part)) (slice_split is_blank text)

-- ---- what the words say

-- `0` (48) stands before another byte
abbrev pub has_leading_zero : Text → Bool
has_leading_zero (b ∷ c ∷ bs) = b == 48
has_leading_zero _ = false

-- decimal digits, and no zero before another digit
abbrev pub is_number : Text → Bool
is_number word = not (is_empty word) && not (has_leading_zero word) && list_all is_ascii_digit word

abbrev pub number : Text → ℕ
number word = digits_value 10 word

abbrev pub small_number : Text → Option ℕ
small_number word = if nat_le (number word) 4294967295 then Some (number word) else None

-- the turns of a process; at least one
abbrev pub turn_of : Option ℕ → Option ℕ → Result (Option Entry) ScheduleRule
turn_of (Some p) (Some n) = if nat_le 1 n then Ok (Some (entry.Turn p n)) else Err rule.Number
turn_of _ _ = Err rule.Number

-- `turn P times N`: that a number has another form comes before that it is too large
abbrev pub turn : (p n : Text) → Result (Option Entry) ScheduleRule
turn p n = if is_number p && is_number n then turn_of (small_number p) (small_number n) else Err rule.Form

abbrev pub move_of : Option ℕ → Option ℕ → Result (Option Entry) ScheduleRule
move_of (Some o) (Some k) = Ok (Some (entry.Move o k))
move_of _ _ = Err rule.Number

-- `move O to K`
abbrev pub move : (o k : Text) → Result (Option Entry) ScheduleRule
move o k = if is_number o && is_number k then move_of (small_number o) (small_number k) else Err rule.Form

-- behind the word `turn`: P, or P `times` N
abbrev pub turn_by : List Text → Result (Option Entry) ScheduleRule
turn_by (p ∷ []) = turn p (codes "1")
turn_by (p ∷ times ∷ n ∷ []) = if bytes_eq times (codes "times") then turn p n else Err rule.Form
turn_by _ = Err rule.Form

-- behind the word `move`: O `to` K
abbrev pub move_by : List Text → Result (Option Entry) ScheduleRule
move_by (o ∷ to ∷ k ∷ []) = if bytes_eq to (codes "to") then move o k else Err rule.Form
move_by _ = Err rule.Form

-- the forms of a line by its first word, one line each
abbrev pub entry_by : Text → List Text → Result (Option Entry) ScheduleRule
entry_by word more =
    if bytes_eq word (codes "turn") then turn_by more else
    (if bytes_eq word (codes "move") then move_by more else
    Err rule.Word)

-- what the words of a line say; no words say nothing
abbrev pub entry_of : List Text → Result (Option Entry) ScheduleRule
entry_of [] = Ok None
entry_of (word ∷ more) = entry_by word more

-- what a line says, or the least rule that it breaks
unfoldable pub entry_in : Text → Result (Option Entry) ScheduleRule
entry_in line = if list_all is_plain (before_comment line) then entry_of (words (before_comment line)) else Err rule.Byte

-- ---- the file

-- a rule, and the number of the line that breaks it, from 1; none where the file is too long
abbrev pub Fault : Type 0
Fault = ScheduleRule × Option ℕ

abbrev pub with_entry : Option Entry → Result (List Entry) Fault → Result (List Entry) Fault
with_entry None more = more
with_entry (Some e) (Ok es) = Ok (e ∷ es)
with_entry (Some e) (Err fault) = Err fault

abbrev pub with_line : ℕ → Result (Option Entry) ScheduleRule → Result (List Entry) Fault → Result (List Entry) Fault
with_line n (Ok said) more = with_entry said more
with_line n (Err r) more = Err (r, Some n)

-- the entries of lines, the first of which has this number, or the first line that breaks a rule
abbrev pub entries_from : ℕ → List Text → Result (List Entry) Fault
entries_from n [] = Ok []
entries_from n (line ∷ more) = with_line n (entry_in line) (entries_from (n + 1) more)

-- The entries of a schedule, or the first fault. Lines end at line feeds, and one carriage return before a line feed is
-- dropped.
unfoldable pub EntriesOf : Text → Result (List Entry) Fault
EntriesOf bytes = if nat_le (length bytes) longest then entries_from 1 (lines bytes) else Err (rule.Length, None)

-- a fact of the fault that an error names; none of want of memory
abbrev pub IfRefused : ScheduleError → (Fault → Type 0) → Type 0
IfRefused (Refused r line) P = P (r, line)
IfRefused Memory P = Unit {0}
