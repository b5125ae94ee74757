-- How a list of symbols reads tokens. A part is read by one of its alternatives.
use Rattle.std.specs.Prelude.{◌≡◌, ℕ, List, [], ◌∷◌, ◌++◌, length}
use Rattle.ec_parser.specs.declared.terminal.Terminal.{Terminal}
use Rattle.ec_parser.specs.declared.grammar.Part.{Part as Part_of}
use Rattle.ec_parser.specs.declared.grammar.Act.{Act}
use Rattle.ec_parser.specs.declared.grammar.Opened.{Opened}
use Rattle.ec_parser.specs.declared.grammar.Bound.{Bound as Bound_of}
use Rattle.ec_parser.specs.declared.grammar.Bound.TheVariants.{Opens, Closes}
use Rattle.ec_parser.specs.Terminals.{terminal_of}
use Rattle.ec_lexer.specs.declared.token.Token.{Token as Word}
use Rattle.ec_parser.specs.declared.values.Values.{Values}
use Rattle.ec_parser.specs.declared.grammar.Symbol.{Symbol}
use Rattle.ec_parser.specs.declared.grammar.Symbol.TheVariants.{Token, Keep, Part, Bound, Do}
use Rattle.ec_parser.specs.Rules.{rules}
use Rattle.ec_parser.specs.Values.{act, keep as kept}

-- one of the alternatives
pub data IsRule (r : List Symbol) : List (List Symbol) → Type 0 where
  first : {rs : List (List Symbol)} → IsRule r (r ∷ rs)
  later : {q : List Symbol} {rs : List (List Symbol)} → IsRule r rs → IsRule r (q ∷ rs)

-- the nestings that are open before a list of symbols, the innermost first
abbrev pub rest : List Opened → List Opened
rest [] = []
rest (o ∷ os) = os

abbrev pub over : Bound_of → List Opened → List Opened
over (Opens o) os = rest os
over (Closes o) os = o ∷ os

abbrev pub opened : List Symbol → List Opened
opened [] = []
opened (Token k ∷ s) = opened s
opened (Keep k ∷ s) = opened s
opened (Part p ∷ s) = opened s
opened (Bound b ∷ s) = over b (opened s)
opened (Do a ∷ s) = opened s

-- how many they are
abbrev pub open_in : List Symbol → ℕ
open_in s = length (opened s)

-- The symbols read these tokens, each at this nesting, and make the second values of the first.
pub data Reads : List Symbol → Values → List Word → List ℕ → Values → Type 0 where
  finished : {vs : Values} → Reads [] vs [] [] vs
  token : {k : Terminal} {s : List Symbol} {vs ws : Values} {t : Word} {ts : List Word} {ns : List ℕ} →
      terminal_of t ≡ k → Reads s vs ts ns ws → Reads (Token k ∷ s) vs (t ∷ ts) (open_in s ∷ ns) ws
  keep : {k : Terminal} {s : List Symbol} {vs ws : Values} {t : Word} {ts : List Word} {ns : List ℕ} →
      terminal_of t ≡ k → Reads s (kept k t vs) ts ns ws → Reads (Keep k ∷ s) vs (t ∷ ts) (open_in s ∷ ns) ws
  part : {p : Part_of} {s : List Symbol} {vs ws : Values} {ts : List Word} {ns : List ℕ} →
      (r : List Symbol) → IsRule r (rules p) → Reads (r ++ s) vs ts ns ws → Reads (Part p ∷ s) vs ts ns ws
  bound : {o : Bound_of} {s : List Symbol} {vs ws : Values} {ts : List Word} {ns : List ℕ} →
      Reads s vs ts ns ws → Reads (Bound o ∷ s) vs ts ns ws
  made : {a : Act} {s : List Symbol} {vs ws : Values} {ts : List Word} {ns : List ℕ} →
      Reads s (act a vs) ts ns ws → Reads (Do a ∷ s) vs ts ns ws
