use Rattle.std.proofs.Common.{◌≡◌, ◌++◌, ◌-◌, length, take, drop}
use Rattle.ec_lexer.specs.Lexemes.{unescaped as unescaped_bytes}
use Rattle.ec_lexer.proofs.unescaped.Given as goal

abbrev pub invariant-loop-left : goal.invariant-loop-left
invariant-loop-left l = l.text ++ unescaped_bytes l.left ≡ unescaped_bytes (take (length l.literal - 2) (drop 1 l.literal))

abbrev pub decreases-loop-left : goal.decreases-loop-left
decreases-loop-left l = length l.left
