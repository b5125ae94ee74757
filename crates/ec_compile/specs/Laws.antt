-- How large the three-address code is that an accepted program is lowered to.
use Rattle.std.specs.Prelude.{◌+◌, ◌*◌, ◌≤◌, List, length}
use Rattle.ec_ast.specs.declared.Program.{Program}
use Rattle.ec_check.specs.Accepted.{HasCore}
use Rattle.ec_code.specs.declared.code.Operation.{Operation as Made}
use Rattle.ec_code.specs.declared.code.Parts.{Parts}
use Rattle.ec_code.specs.Fine.{IsIn}
use Rattle.ec_machine_code.specs.Limits.{HasLimits, steps_of}
use Rattle.ec_core.specs.declared.Operation.{Operation}
use Rattle.ec_core_laws.specs.Measures.{size_of_block}
use Rattle.ec_core_laws.specs.Captures.{captures_of_block}
use Rattle.ec_core_laws.specs.Constants.{captures_of_constants, size_of_constants}
use Rattle.ec_lexer.specs.Tokens.{HasTokens}
use Rattle.ec_lexer.specs.declared.token.Token.{Token}
use Rattle.ec_emission.specs.Lowered.{IsLowered, IsOperationOf, IsProgramOf}
use Rattle.ec_meaning.specs.Programs.{Source}
use Rattle.ec_parser.specs.HasTree.{HasTree}

-- At most two steps for each node of an operation, one for each value that an object constructor in it captures, one for each of its
-- variables, and two more: its entry and its end.
abbrev pub EachOperationIsShort : Type 0
EachOperationIsShort =
    (s : Source) (program : Program) (o : Operation) (made : Made) → HasCore program s.table s.core → IsIn o s.core.operations →
    IsOperationOf s o made →
    steps_of made ≤ ((2 * size_of_block o.block + captures_of_block o.block) + length o.variables) + 2

-- So many for the program's own operation, which has no variables.
abbrev pub ProgramIsShort : Type 0
ProgramIsShort =
    (s : Source) (program : Program) (made : Made) → HasCore program s.table s.core → IsProgramOf s made →
    steps_of made ≤ (2 * size_of_constants s.core.constants + captures_of_constants s.core.constants) + 2

-- The program that an accepted text is lowered to is within the limits of code.
abbrev pub CodeHasLimits : Type 0
CodeHasLimits =
    (s : Source) (tokens : List Token) (program : Program) (p : Parts) → HasTokens s.text tokens → HasTree tokens program →
    HasCore program s.table s.core → IsLowered s p → HasLimits p
