use Rattle.std.proofs.Common.{◌≡◌, drop, map}
use Rattle.ec_parser.specs.Choose as table
use Rattle.ec_parser.proofs.choose.Given as goal

abbrev pub invariant-loop-alternative : goal.invariant-loop-alternative
invariant-loop-alternative l = table.choose_from (map (λ r. r.now) (drop l.alternative-index l.alternative-items)) l.kind ≡
    table.choose l.fn.part l.kind
