-- Each program that breaks no static rule has its core, so each text of a program has its meaning.
use Rattle.std.proofs.Common.{◌≡◌, ℕ, List, [], None, refl, sym, ap, ◌∙◌}
use Rattle.std.specs.Prelude.{slice_get}
use Rattle.ec_ast.specs.declared.Program.{Program}
use Rattle.ec_check.proofs.Acceptance.{has_core}
use Rattle.ec_check.specs.Accepted.{HasCore}
use Rattle.ec_check.specs.Program.{core_of, outermost}
use Rattle.ec_meaning.specs.Programs.{Source}
use Rattle.ec_rules.proofs.Order.{first_in_order}
use Rattle.ec_rules.specs.Faults.{StaticFaults, faults_of_program}
use Rattle.ec_rules.specs.Rules.{least_of}
use Rattle.ec_tool.specs.Sources.{IsChecked, IsMeant}
use Rattle.ec_types.specs.Declarations.{declarations_of}
use Rattle.ec_types.specs.Table.{Table, IsTable}

-- where there is no fault in the order of places, there is no least one
no_least : (table : Table) (program : Program) → StaticFaults table program ≡ [] → least_of None (faults_of_program table program) ≡ None
no_least table program none = sym (first_in_order (faults_of_program table program)) ∙ ap (λ faults. slice_get faults 0) none

core_there : (table : Table) (program : Program) → IsTable (declarations_of program) table → StaticFaults table program ≡ [] →
    HasCore program table (core_of table program)
core_there table program is_table none =
    let scope = outermost table program in
    has_core program table scope program.constants is_table refl refl (least_of None (faults_of_program table program)) refl
    (no_least table program none) scope refl (core_of table program) refl table refl

pub each_is_meant : (text : List ℕ) → IsChecked text → (meant : Source) × IsMeant text meant
each_is_meant text checked =
    let table = checked.is_program.is_accepted.0 in
    let core = core_of table checked.program in (
      record { text = text; table = table; core = core },
      record {
        tokens = checked.tokens;
        program = checked.program;
        is_program = checked.is_program;
        text_is = refl;
        has_core = core_there table checked.program checked.is_program.is_accepted.1 checked.is_program.is_accepted.2;
      },
    )
