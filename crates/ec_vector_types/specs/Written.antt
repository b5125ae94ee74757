-- The vector types that are written in a text, by its tokens.
use Rattle.std.specs.Prelude.{Bool, true, false, if◌then◌else◌, List, [], ◌∷◌, ◌++◌}
use Rattle.ec_lexer.specs.declared.token.Reserved.{Reserved}
use Rattle.ec_lexer.specs.declared.token.Reserved.TheVariants as word
use Rattle.ec_lexer.specs.declared.token.Token.{Token}
use Rattle.ec_lexer.specs.declared.token.TokenKind.{TokenKind}
use Rattle.ec_lexer.specs.declared.token.TokenKind.TheVariants as kind
use Rattle.ec_meaning.specs.Types.{vector_type}
use Rattle.ec_types.specs.Names.{Text}
use Rattle.ec_types.specs.Types.{type_named, vector_of}
use Rattle.ec_types.specs.declared.conform.static_type.Plain.TheVariants.{Integer, Boolean, String, Any, Node}
use Rattle.ec_types.specs.declared.conform.static_type.StaticType.{StaticType}
use Rattle.ec_types.specs.declared.conform.static_type.StaticType.TheVariants.{Plain, Unknown}
use Rattle.ec_world.specs.declared.class.VectorType.{VectorType}

-- ---- the type that stands at a place

-- the types that have a reserved word
abbrev pub word_type : Reserved → StaticType
word_type word.Integer = Plain Integer
word_type word.Boolean = Plain Boolean
word_type word.String = Plain String
word_type word.Any = Plain Any
word_type word.Node = Plain Node
word_type _ = Unknown

-- A word that isn't reserved names the first of the program's types that is called so.
abbrev pub kind_type : List Text → TokenKind → StaticType
kind_type names (kind.Reserved word) = word_type word
kind_type names (kind.Name name) = type_named names name
kind_type names _ = Unknown

abbrev pub plain_at : List Text → Token → StaticType
plain_at names token = kind_type names token.kind

abbrev pub is_vector_kind : TokenKind → Bool
is_vector_kind (kind.Reserved word.Vector) = true
is_vector_kind _ = false

-- the word `vector`
abbrev pub is_vector : Token → Bool
is_vector token = is_vector_kind token.kind

-- The type that tokens begin with: the four tokens `vector.of[` and then the type of the elements, or one word.
abbrev pub type_at : List Text → List Token → StaticType
type_at names [] = Unknown
type_at names (first ∷ dot ∷ of ∷ bracket ∷ elements) =
    if is_vector first then vector_of (type_at names elements) else plain_at names first
type_at names (first ∷ rest) = plain_at names first

-- ---- all of a text

abbrev pub vectors_at : List Text → Token → List Token → List VectorType
vectors_at names first rest = if is_vector first then vector_type (type_at names (first ∷ rest)) ∷ [] else []

-- At each word `vector` a vector type begins. So they come in the order of the text, and an outer one before those within it.
abbrev pub written_vectors : List Text → List Token → List VectorType
written_vectors names [] = []
written_vectors names (first ∷ rest) = vectors_at names first rest ++ written_vectors names rest
