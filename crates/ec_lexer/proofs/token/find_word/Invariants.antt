use Rattle.std.proofs.Common.{◌≡◌, length, map}
use Rattle.ec_lexer.specs.Words.{lookup_word}
use Rattle.ec_lexer.proofs.token.find_word.Given as goal

abbrev pub invariant-loop-table : goal.invariant-loop-table
invariant-loop-table l =
    lookup_word (map (λ row. (row.0.now, row.1)) l.table) l.word ≡ lookup_word (map (λ row. (row.0.now, row.1)) l.initial.table) l.word

abbrev pub decreases-loop-table : goal.decreases-loop-table
decreases-loop-table l = length l.table
