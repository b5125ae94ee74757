use Rattle.std.proofs.Common.{◌≡◌, length, map}
use Rattle.ec_lexer.specs.Words.{lookup_symbol}
use Rattle.ec_lexer.proofs.token.find_symbol.Given as goal

abbrev pub invariant-loop-table : goal.invariant-loop-table
invariant-loop-table l =
    lookup_symbol (map (λ row. (row.0.now, row.1)) l.table) l.bytes ≡ lookup_symbol
    (map (λ row. (row.0.now, row.1)) l.initial.table) l.bytes

abbrev pub decreases-loop-table : goal.decreases-loop-table
decreases-loop-table l = length l.table
