use Rattle.std.proofs.Common.{◌≡◌, ◌+◌, ◌≤◌, not, take}
use Rattle.std.specs.List.{suffix_len}
use Rattle.ec_meaning.specs.Programs.{is_line_feed}
use Rattle.ec_tool.proofs.place.column_of.Given as goal

abbrev pub invariant-loop-b : goal.invariant-loop-b
invariant-loop-b l = (l.column ≤ 1 + l.b-index) × (l.column ≡ 1 + suffix_len (λ b. not (is_line_feed b)) (take l.b-index l.b-items))
