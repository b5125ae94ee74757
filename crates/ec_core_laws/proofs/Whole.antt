-- The whole of the core of an accepted program of a text.
use Rattle.std.proofs.Common.{◌≡◌, ◌≤◌, List, [], length, arith}
use Rattle.ec_ast.specs.declared.Program.{Program}
use Rattle.ec_check.specs.Program.{core_of}
use Rattle.ec_types.specs.Table.{Table}
use Rattle.ec_core.specs.declared.Core.{Core}
use Rattle.ec_core_laws.proofs.CoreSizesTextPrograms.{nodes_fit}
use Rattle.ec_core_laws.proofs.Tied.{constants}
use Rattle.ec_core_laws.proofs.Weighed.{Weighed}
use Rattle.ec_core_laws.specs.Constants.{captures_of_constants, size_of_constants}
use Rattle.ec_core_laws.specs.Limits.{captured_by, captures_of_core, size_of_core}
use Rattle.ec_core_laws.specs.TreeNodes.{nodes_in_program}
use Rattle.ec_core_laws.proofs.CoreTiesPrograms.{program_tied}
use Rattle.ec_core_laws.proofs.CoreTiesTextPrograms.{text_has_targets}
use Rattle.ec_lexer.specs.declared.token.Token.{Token}
use Rattle.ec_parser.specs.HasTree.{HasTree}
use Rattle.ec_rules.specs.Faults.{StaticFaults}

module _ (table : Table) (tokens : List Token) (program : Program) (accepted : StaticFaults table program ≡ [])
    (tree : HasTree tokens program) where
  abbrev core : Core
  core = core_of table program

  weighed : Weighed (size_of_constants core.constants) (captures_of_constants core.constants)
      (record { classes = core.classes; operations = core.operations }) (nodes_in_program program)
  weighed = constants (program_tied table program accepted (text_has_targets tokens program tree))

  pub captured_once : captures_of_core (core_of table program) ≤ captured_by (core_of table program).classes
  captured_once = weighed.captured

  pub nodes_have_tokens : size_of_core (core_of table program) ≤ length tokens
  nodes_have_tokens =
      let n : size_of_core (core_of table program) ≤ nodes_in_program program = weighed.fits in
      let t : nodes_in_program program ≤ length tokens = nodes_fit tokens program tree in
      omega arith
