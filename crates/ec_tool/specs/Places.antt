-- The line and the column of a place in a text, both counted from 1. The place may be the end of the text.
use Rattle.std.specs.Prelude.{ℕ, ◌+◌, not, List, ◌++◌, take, codes}
use Rattle.std.specs.Fmt.{decimal}
use Rattle.std.specs.List.{suffix_len}
use Rattle.ec_meaning.specs.Programs.{is_line_feed, line_of}

-- the column: one more than how many bytes stand between the place and the last line feed before it, or the begin of the text
abbrev pub column_of : List ℕ → ℕ → ℕ
column_of text at = 1 + suffix_len (λ b. not (is_line_feed b)) (take at text)

-- `line 3 column 14`
abbrev pub place_text : List ℕ → ℕ → List ℕ
place_text text at = codes "line " ++ decimal (line_of text at) ++ codes " column " ++ decimal (column_of text at)
