-- What may stand behind what in a list of symbols that is still to be read.
use Rattle.std.specs.Prelude.{◌≡◌, ℕ, ◌+◌, true, if◌then◌else◌, List, [], ◌∷◌, ◌++◌}
use Rattle.ec_parser.specs.declared.terminal.Terminal.{Terminal}
use Rattle.ec_parser.specs.declared.terminal.Terminal.TheVariants as kind
use Rattle.ec_parser.specs.declared.Next.{Next}
use Rattle.ec_parser.specs.declared.Next.TheVariants as next
use Rattle.ec_parser.specs.Terminals.{terminal_of, is_of_token}
use Rattle.ec_lexer.specs.declared.token.Token.{Token as Word}
use Rattle.ec_parser.specs.declared.values.Values.{Values}
use Rattle.ec_parser.specs.declared.grammar.Symbol.{Symbol}
use Rattle.ec_parser.specs.declared.grammar.Symbol.TheVariants.{Token, Keep, Part, Bound, Do}
use Rattle.ec_parser.specs.Choose.{has_kind}
use Rattle.ec_parser.specs.Sizes.{first, nullable, follow, weight}
use Rattle.ec_parser.specs.Reads.{Reads, open_in}
use Rattle.ec_parser.specs.Fits.{Fits}

-- the kinds that a list of symbols begins with, where those behind it begin with `behind`
abbrev pub starts_with : List Symbol → List Terminal → List Terminal
starts_with [] behind = behind
starts_with (Token k ∷ s) behind = k ∷ []
starts_with (Keep k ∷ s) behind = k ∷ []
starts_with (Part p ∷ s) behind = first p ++ (if nullable p then starts_with s behind else [])
starts_with (Bound o ∷ s) behind = starts_with s behind
starts_with (Do a ∷ s) behind = starts_with s behind

abbrev pub starts_of : List Symbol → List Terminal
starts_of s = starts_with s (kind.EndOfText ∷ [])

-- the weight of the symbols up to the first that has a token
abbrev pub weight_of : List Symbol → ℕ
weight_of [] = 0
weight_of (Token k ∷ s) = 1
weight_of (Keep k ∷ s) = 1
weight_of (Part p ∷ s) = if nullable p then weight p + weight_of s else weight p
weight_of (Bound o ∷ s) = weight_of s + 1
weight_of (Do a ∷ s) = weight_of s + 1

-- the kind of the first token, or Stop where there is none
abbrev pub head : List Word → Terminal
head [] = kind.EndOfText
head (t ∷ ts) = terminal_of t

-- a token can be of each kind in the list, and behind each part stands what may follow it
abbrev pub Follows : List Symbol → Type 0
Follows [] = Unit {0}
Follows (Token k ∷ s) = (is_of_token k ≡ true) × Follows s
Follows (Keep k ∷ s) = (is_of_token k ≡ true) × Follows s
Follows (Part p ∷ s) = ((k : Terminal) → has_kind k (starts_of s) ≡ true → has_kind k (follow p) ≡ true) × Follows s
Follows (Bound o ∷ s) = Follows s
Follows (Do a ∷ s) = Follows s

-- at tokens whose first is of this kind, the one reads what the other does
pub record Same (kind : Terminal) (s : List Symbol) (vs : Values) (s' : List Symbol) (vs' : Values) : Type 0 where
  pub forth : (ts : List Word) (ns : List ℕ) (ws : Values) → head ts ≡ kind → Reads s vs ts ns ws → Reads s' vs' ts ns ws
  pub back : (ts : List Word) (ns : List ℕ) (ws : Values) → head ts ≡ kind → Reads s' vs' ts ns ws → Reads s vs ts ns ws

abbrev pub ReadsNone : Terminal → List Symbol → Values → Type 0
ReadsNone kind s vs = (ts : List Word) (ns : List ℕ) (ws : Values) → head ts ≡ kind → Reads s vs ts ns ws → ⊥

-- what is next stands before the list
abbrev pub with_next : Next → List Symbol → List Symbol
with_next next.End s = []
with_next next.Stuck s = s
with_next (next.Token k) s = Token k ∷ s
with_next (next.Keep k) s = Keep k ∷ s

-- The list goes on with what is next, before the new list, or reads nothing that begins so.
abbrev pub Settles : Terminal → List Symbol → Values → Next → List Symbol → Values → Type 0
Settles kind s vs next.Stuck s' vs' = ReadsNone kind s vs
Settles kind s vs n s' vs' = Same kind s vs (with_next n s') vs' × Follows s' × Fits (with_next n s') vs'

-- the one list reads a token and then what the other does
pub record Goes (t : Word) (s : List Symbol) (vs : Values) (s' : List Symbol) (vs' : Values) : Type 0 where
  pub follows : Follows s'
  pub fits : Fits s' vs'
  pub forth : (ts : List Word) (ns : List ℕ) (ws : Values) → Reads s vs (t ∷ ts) ns ws →
      (ms : List ℕ) × (ns ≡ open_in s' ∷ ms) × Reads s' vs' ts ms ws
  pub back : (ts : List Word) (ns : List ℕ) (ws : Values) → Reads s' vs' ts ns ws → Reads s vs (t ∷ ts) (open_in s' ∷ ns) ws

-- nothing that is read begins with the token
abbrev pub Refuses : Word → List Symbol → Values → Type 0
Refuses t s vs = (ts : List Word) (ns : List ℕ) (ws : Values) → Reads s vs (t ∷ ts) ns ws → ⊥

-- without a token, the list makes these values and no others
pub record EndsWith (s : List Symbol) (vs vs' : Values) : Type 0 where
  pub fits : Fits [] vs'
  pub made : Reads s vs [] [] vs'
  pub only : (ns : List ℕ) (ws : Values) → Reads s vs [] ns ws → (ns ≡ []) × (ws ≡ vs')

abbrev pub EndsNowhere : List Symbol → Values → Type 0
EndsNowhere s vs = (ns : List ℕ) (ws : Values) → Reads s vs [] ns ws → ⊥
