-- The programs as the parser reads them, and how a list of tokens fails to be one.
use Rattle.std.specs.Prelude.{◌≡◌, ℕ, ◌+◌, ◌<◌, ◌≤◌, List, [], ◌∷◌, ◌++◌, length, take}
use Rattle.ec_parser.specs.declared.grammar.Part.TheVariants as part
use Rattle.ec_lexer.specs.declared.token.Token.{Token as Word}
use Rattle.ec_parser.specs.declared.values.Values.{Values}
use Rattle.ec_parser.specs.declared.grammar.Symbol.TheVariants.{Part}
use Rattle.ec_parser.specs.declared.ParseError.{ParseError}
use Rattle.ec_parser.specs.declared.ParseError.TheVariants.{Syntax, Deep, Memory}
use Rattle.ec_parser.specs.Program.{AreShallow}
use Rattle.ec_parser.specs.Reads.{Reads}
use Rattle.ec_parser.specs.Values.{no_values}

-- the tokens are a program's, each at this nesting, and these values are made of it
abbrev pub IsProgram : List Word → List ℕ → Values → Type 0
IsProgram ts ns ws = Reads (Part part.Program ∷ []) no_values ts ns ws

-- some program begins with these tokens, none of them deep
pub record Begins (ts : List Word) : Type 0 where
  pub more : List Word
  pub nestings : List ℕ
  pub others : List ℕ
  pub values : Values
  pub long : length nestings ≡ length ts
  pub shallow : AreShallow nestings
  pub program : IsProgram (ts ++ more) (nestings ++ others) values

abbrev pub BeginsNone : List Word → Type 0
BeginsNone ts = (more : List Word) (ns : List ℕ) (ws : Values) → IsProgram (ts ++ more) ns ws → ⊥

-- The tokens before the place begin a program. Those up to it begin none, or at the end they are none.
pub record IsSyntax (ts : List Word) (place : ℕ) : Type 0 where
  pub within : place ≤ length ts
  pub before : Begins (take place ts)
  pub after : place < length ts → BeginsNone (take (place + 1) ts)
  pub no_program : (ns : List ℕ) (ws : Values) → IsProgram ts ns ws → ⊥

-- The tokens up to the place begin a program, in which the last of them is the first that is deep.
pub record IsDeep (ts : List Word) (place : ℕ) : Type 0 where
  pub within : place < length ts
  pub more : List Word
  pub nestings : List ℕ
  pub nesting : ℕ
  pub others : List ℕ
  pub values : Values
  pub long : length nestings ≡ place
  pub shallow : AreShallow nestings
  pub deep : 64 < nesting
  pub program : IsProgram (take (place + 1) ts ++ more) (nestings ++ nesting ∷ others) values

abbrev pub IsCause : List Word → ParseError → Type 0
IsCause ts (Syntax place) = IsSyntax ts place
IsCause ts (Deep place) = IsDeep ts place
IsCause ts Memory = Unit {0}
