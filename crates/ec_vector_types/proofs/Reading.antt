-- Where the grammar has a type, that type is read.
use Rattle.std.proofs.Common.{◌≡◌, Bool, true, false, List, [], ◌∷◌, codes, refl, sym, ap, ◌∙◌}
use Rattle.std.specs.Prelude.{if◌then◌else◌}
use Rattle.std.specs.Str.{str_eq_ignore_ascii_case}
use Rattle.ec_ast.specs.declared.Name.{Name}
use Rattle.ec_ast.specs.declared.TypeName.{TypeName, fold-roll-TypeName}
use Rattle.ec_ast.specs.declared.TypeName.TheOpen.{TypeName-F}
use Rattle.ec_ast.specs.declared.TypeName.TheVariants as form
use Rattle.ec_ast.specs.declared.Span.{Span}
use Rattle.ec_lexer.specs.declared.token.Reserved.{Reserved}
use Rattle.ec_lexer.specs.declared.token.Reserved.TheVariants as word
use Rattle.ec_lexer.specs.declared.token.Symbol.{Symbol}
use Rattle.ec_lexer.specs.declared.token.Symbol.TheVariants as symbol
use Rattle.ec_lexer.specs.declared.token.Token.{Token}
use Rattle.ec_lexer.specs.declared.token.TokenKind.{TokenKind}
use Rattle.ec_lexer.specs.declared.token.TokenKind.TheVariants as kind
use Rattle.ec_parser.specs.HasTree.{Is, IsId, IsType}
use Rattle.ec_parser.specs.Terminals.{terminal_of_kind, terminal_of_name, terminal_of_symbol, terminal_of_word, text_in}
use Rattle.ec_parser.specs.declared.terminal.Terminal.{Terminal}
use Rattle.ec_parser.specs.declared.terminal.Terminal.TheVariants as t
use Rattle.ec_rules.proofs.Written.{written_any, written_integer, written_named, written_vector}
use Rattle.ec_types.specs.Names.{Text}
use Rattle.ec_types.specs.Types.{type_named, type_of, vector_of, written}
use Rattle.ec_types.specs.declared.conform.static_type.Plain.TheVariants.{Integer, Boolean, String, Any, Node}
use Rattle.ec_types.specs.declared.conform.static_type.StaticType.{StaticType}
use Rattle.ec_types.specs.declared.conform.static_type.StaticType.TheVariants.{Plain, Unknown}
use Rattle.ec_vector_types.specs.Written.{is_vector, is_vector_kind, kind_type, plain_at, type_at, word_type}

-- ---- words by their terminals

-- the type that the grammar has for one token
terminal_type : List Text → Terminal → Text → StaticType
terminal_type names t.Integer text = Plain Integer
terminal_type names t.Boolean text = Plain Boolean
terminal_type names t.String text = Plain String
terminal_type names t.Any text = Plain Any
terminal_type names t.Node text = Plain Node
terminal_type names t.Name text = type_named names text
terminal_type names t.Create text = type_named names text
terminal_type names t.Putstring text = type_named names text
terminal_type names t.Count text = type_named names text
terminal_type names _ text = Unknown

by_word : (names : List Text) (w : Reserved) → word_type w ≡ terminal_type names (terminal_of_word w) []
unfolding terminal_type
by_word names word.Integer = refl
by_word names _ = refl

by_symbol : (names : List Text) (s : Symbol) → Unknown ≡ terminal_type names (terminal_of_symbol s) []
unfolding terminal_type
by_symbol names symbol.Dot = refl
by_symbol names _ = refl

by_name : (names : List Text) (text : Text) → type_named names text ≡ terminal_type names (terminal_of_name text) text
unfolding terminal_type terminal_of_name
by_name names text = first (str_eq_ignore_ascii_case text (codes "create"))
  where
    third : (b : Bool) → type_named names text ≡ terminal_type names (if b then t.Count else t.Name) text
    third true = refl
    third false = refl

    second : (b : Bool) → type_named names text ≡ terminal_type names (if b then t.Putstring else
        (if str_eq_ignore_ascii_case text (codes "count") then t.Count else t.Name)) text
    second true = refl
    second false = third (str_eq_ignore_ascii_case text (codes "count"))

    first : (b : Bool) → type_named names text ≡ terminal_type names (if b then t.Create else
        (if str_eq_ignore_ascii_case text (codes "putstring") then t.Putstring else
        (if str_eq_ignore_ascii_case text (codes "count") then t.Count else t.Name))) text
    first true = refl
    first false = second (str_eq_ignore_ascii_case text (codes "putstring"))

by_kind : (names : List Text) (k : TokenKind) → kind_type names k ≡ terminal_type names (terminal_of_kind k) (text_in k)
unfolding terminal_type terminal_of_kind
by_kind names (kind.Reserved w) = by_word names w
by_kind names (kind.Name text) = by_name names text
by_kind names (kind.Integer n) = refl
by_kind names (kind.Literal text) = refl
by_kind names (kind.Symbol s) = by_symbol names s

-- ---- the word `vector`

is_vector_terminal : Terminal → Bool
is_vector_terminal t.Vector = true
is_vector_terminal _ = false

vector_word : (w : Reserved) → is_vector_kind (kind.Reserved w) ≡ is_vector_terminal (terminal_of_word w)
unfolding is_vector_terminal
vector_word word.Vector = refl
vector_word _ = refl

vector_symbol : (s : Symbol) → false ≡ is_vector_terminal (terminal_of_symbol s)
unfolding is_vector_terminal
vector_symbol symbol.Dot = refl
vector_symbol _ = refl

vector_name : (text : Text) → false ≡ is_vector_terminal (terminal_of_name text)
unfolding is_vector_terminal terminal_of_name
vector_name text = first (str_eq_ignore_ascii_case text (codes "create"))
  where
    third : (b : Bool) → false ≡ is_vector_terminal (if b then t.Count else t.Name)
    third true = refl
    third false = refl

    second : (b : Bool) → false ≡ is_vector_terminal (if b then t.Putstring else
        (if str_eq_ignore_ascii_case text (codes "count") then t.Count else t.Name))
    second true = refl
    second false = third (str_eq_ignore_ascii_case text (codes "count"))

    first : (b : Bool) → false ≡ is_vector_terminal (if b then t.Create else
        (if str_eq_ignore_ascii_case text (codes "putstring") then t.Putstring else
        (if str_eq_ignore_ascii_case text (codes "count") then t.Count else t.Name)))
    first true = refl
    first false = second (str_eq_ignore_ascii_case text (codes "putstring"))

vector_kind : (k : TokenKind) → is_vector_kind k ≡ is_vector_terminal (terminal_of_kind k)
unfolding is_vector_terminal terminal_of_kind
vector_kind (kind.Reserved w) = vector_word w
vector_kind (kind.Name text) = vector_name text
vector_kind (kind.Integer n) = refl
vector_kind (kind.Literal text) = refl
vector_kind (kind.Symbol s) = vector_symbol s

pub the_word : (a : Token) → Is t.Vector a → is_vector a ≡ true
unfolding is_vector_terminal
the_word a h = vector_kind a.kind ∙ ap is_vector_terminal h

-- ---- types of the tree

module _ (names : List Text) (at : Span) where
  tree_boolean : type_of names (form.Boolean at) ≡ Plain Boolean
  tree_boolean = ap (type_of names) (sym (form.rolls-Boolean at)) ∙ fold-roll-TypeName StaticType (written names) (TypeName-F.Boolean at)

  tree_string : type_of names (form.String at) ≡ Plain String
  tree_string = ap (type_of names) (sym (form.rolls-String at)) ∙ fold-roll-TypeName StaticType (written names) (TypeName-F.String at)

  tree_node : type_of names (form.Node at) ≡ Plain Node
  tree_node = ap (type_of names) (sym (form.rolls-Node at)) ∙ fold-roll-TypeName StaticType (written names) (TypeName-F.Node at)

-- ---- types

module _ (names : List Text) where
  -- a type of one token
  one : (a : Token) (us : List Token) → is_vector a ≡ false → type_at names (a ∷ us) ≡ plain_at names a
  one a [] e = refl
  one a (b ∷ []) e = refl
  one a (b ∷ c ∷ []) e = refl
  one a (b ∷ c ∷ d ∷ us) e = ap (λ v. if v then vector_of (type_at names us) else plain_at names a) e

  plain_read : (a : Token) (us : List Token) (k : Terminal) → terminal_of_kind a.kind ≡ k → is_vector_terminal k ≡ false →
      type_at names (a ∷ us) ≡ terminal_type names k (text_in a.kind)
  plain_read a us k is other =
      one a us (vector_kind a.kind ∙ ap is_vector_terminal is ∙ other)
      ∙ (by_kind names a.kind ∙ ap (λ x. terminal_type names x (text_in a.kind)) is)

  id_read : {a : Token} {name : Name} (us : List Token) → IsId a name → type_at names (a ∷ us) ≡ type_named names name.text
  unfolding terminal_type is_vector_terminal
  id_read us (IsId.other {a} h) = plain_read a us t.Name h refl
  id_read us (IsId.create {a} h) = plain_read a us t.Create h refl
  id_read us (IsId.putstring {a} h) = plain_read a us t.Putstring h refl
  id_read us (IsId.count {a} h) = plain_read a us t.Count h refl

  pub vector_read : (a b c d : Token) (ts : List Token) (of : StaticType) → is_vector a ≡ true → type_at names ts ≡ of →
      type_at names (a ∷ b ∷ c ∷ d ∷ ts) ≡ vector_of of
  vector_read a b c d ts of e same =
      ap (λ v. if v then vector_of (type_at names ts) else plain_at names a) e ∙ ap vector_of same

  pub read : {ts us : List Token} {x : TypeName} → IsType ts us x → type_at names ts ≡ type_of names x
  unfolding terminal_type is_vector_terminal
  read (IsType.integer {a} {us} h) = plain_read a us t.Integer h refl ∙ sym (written_integer names a.at)
  read (IsType.boolean {a} {us} h) = plain_read a us t.Boolean h refl ∙ sym (tree_boolean names a.at)
  read (IsType.string {a} {us} h) = plain_read a us t.String h refl ∙ sym (tree_string names a.at)
  read (IsType.any {a} {us} h) = plain_read a us t.Any h refl ∙ sym (written_any names a.at)
  read (IsType.node {a} {us} h) = plain_read a us t.Node h refl ∙ sym (tree_node names a.at)
  read (IsType.id {a} {us} {name} h) = id_read us h ∙ sym (written_named names name)
  read (IsType.vector {a} {b} {c} {d} {f} {ts} {us} {x} h1 h2 h3 h4 inner h5) =
      vector_read a b c d ts (type_of names x) (vector_kind a.kind ∙ ap is_vector_terminal h1) (read inner)
      ∙ sym (written_vector names x a.at)
