use Rattle.std.proofs.Common.{◌≡◌, ◌+◌, take}
use Rattle.std.specs.List.{count_by}
use Rattle.ec_meaning.specs.Programs.{is_line_feed}
use Rattle.ec_tool.proofs.place.line_of.Given as goal

abbrev pub invariant-loop-b : goal.invariant-loop-b
invariant-loop-b l = l.line ≡ 1 + count_by is_line_feed (take l.b-index l.b-items)
