-- What the types that are read from tokens have to do with the tree, and with the code of the program.
use Rattle.std.specs.Prelude.{◌≡◌, List}
use Rattle.ec_ast.specs.declared.Program.{Program}
use Rattle.ec_ast.specs.declared.TypeName.{TypeName}
use Rattle.ec_check.specs.Accepted.{HasCore}
use Rattle.ec_code.specs.declared.code.Parts.{Parts}
use Rattle.ec_emission.specs.Lowered.{IsLowered}
use Rattle.ec_lexer.specs.declared.token.Token.{Token}
use Rattle.ec_meaning.specs.Programs.{Source}
use Rattle.ec_parcels.specs.Vectors.{each_once, numbered_types, vector_types}
use Rattle.ec_parser.specs.HasTree.{HasTree, IsType}
use Rattle.ec_types.specs.Names.{Text}
use Rattle.ec_types.specs.Types.{type_of}
use Rattle.ec_vector_types.specs.Written.{type_at, written_vectors}
use Rattle.ec_world.specs.Group.{Has}
use Rattle.ec_world.specs.declared.class.VectorType.{VectorType}

-- Where the grammar has a type, the type that is read there is the one that the static rules see.
abbrev pub TypesAreRead : Type 0
TypesAreRead =
    (names : List Text) (tokens rest : List Token) (written : TypeName) → IsType tokens rest written →
    type_at names tokens ≡ type_of names written

-- Code makes vectors of no type but those that the text writes.
abbrev pub CodeMakesWritten : Type 0
CodeMakesWritten =
    (tokens : List Token) (program : Program) (s : Source) (p : Parts) → HasTree tokens program → HasCore program s.table s.core →
    IsLowered s p → (of : VectorType) → Has (vector_types p) of → Has (written_vectors s.table.names tokens) of

-- So just the types that the text writes have numbers in parcels.
abbrev pub NumbersAreOfWritten : Type 0
NumbersAreOfWritten =
    (tokens : List Token) (program : Program) (s : Source) (p : Parts) → HasTree tokens program → HasCore program s.table s.core →
    IsLowered s p →
    numbered_types p (written_vectors s.table.names tokens) ≡ each_once (written_vectors s.table.names tokens)
