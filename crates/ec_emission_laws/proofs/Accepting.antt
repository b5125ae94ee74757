-- Where its core is that of an accepted program, what lowering asks of a source holds.
use Rattle.std.proofs.Common.{sym, subst, All}
use Rattle.ec_ast.specs.declared.Program.{Program}
use Rattle.ec_check.specs.Accepted.{HasCore}
use Rattle.ec_core.specs.declared.Core.{Core}
use Rattle.ec_emission_laws.proofs.Dropping.{each_drops}
use Rattle.ec_core_laws.proofs.Exits.{each_exit_stands}
use Rattle.ec_core_laws.proofs.Headings.{each_fits}
use Rattle.ec_core_laws.specs.Headings.{HeadingFits}
use Rattle.ec_emission_laws.specs.Dropped.{DropsCalls}
use Rattle.ec_emission_laws.specs.Laws.{ExitsStandInLoops}
use Rattle.ec_emission_laws.specs.Lowerable.{IsLowerable}
use Rattle.ec_meaning.specs.Programs.{Source}

pub is_lowerable : (s : Source) (program : Program) → HasCore program s.table s.core → IsLowerable s
is_lowerable s program h = record {
  headings =
      subst (λ (core : Core). All HeadingFits core.operations) (sym h.resolved) (each_fits s.table program h.is_table h.accepted);
  exits = subst ExitsStandInLoops (sym h.resolved) (each_exit_stands s.table program h.is_table h.accepted);
  well_typed = h.well_typed;
  drops = subst DropsCalls (sym h.resolved) (each_drops s.table program h.is_table h.accepted);
}
