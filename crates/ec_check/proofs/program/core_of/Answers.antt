use Rattle.std.proofs.Common.{ap}
use Rattle.ec_check.proofs.Programs.{core_made}
use Rattle.ec_check.proofs.program.core_of.Goals as goal

pub returns : goal.returns
returns c = record {
  core =
      core_made _ c.resolve_constants.new.r c.args.constants.now c.in_ok-found.found
      c.new.ensures c.new-2.ensures.numbers c.new-2.ensures.types c.new-3.ensures c.new-4.ensures c.in_ok-found.ensures.core
      c.in_ok-found.ensures.made;
  table = ap (λ env. env.scope.table) c.in_ok-found.ensures.made.place;
}
