use Rattle.std.proofs.Common.{◌-◌, ◌≤◌, length}
use Rattle.ec_lexer.specs.Tokens.{longest_text}
use Rattle.ec_lexer.proofs.Reading.{Sofar}
use Rattle.ec_lexer.proofs.lex.Given as goal

abbrev pub invariant-reading : goal.invariant-reading
invariant-reading l = (l.at ≤ length l.text) × (length l.text ≤ longest_text) × Sofar l.text l.at l.found

abbrev pub decreases-reading : goal.decreases-reading
decreases-reading l = length l.text - l.at
