-- Which alternative of a part goes on with a token of a kind.
use Rattle.std.specs.Prelude.{Bool, true, false, ◌||◌, ◌&&◌, if◌then◌else◌, List, [], ◌∷◌, Option, Some, None}
use denote.Enum.Bare.{sameb}
use Rattle.ec_parser.specs.contracts.terminal.Terminal.{the_type}
use Rattle.ec_parser.specs.declared.terminal.Terminal.{Terminal}
use Rattle.ec_parser.specs.declared.grammar.Part.{Part as Part_of}
use Rattle.ec_parser.specs.declared.grammar.Symbol.{Symbol}
use Rattle.ec_parser.specs.declared.grammar.Symbol.TheVariants.{Token, Keep, Part, Bound, Do}
use Rattle.ec_parser.specs.Rules.{rules}
use Rattle.ec_parser.specs.Sizes.{first, nullable}

abbrev pub same_kind : Terminal → Terminal → Bool
same_kind = sameb the_type

abbrev pub has_kind : Terminal → List Terminal → Bool
has_kind k [] = false
has_kind k (x ∷ xs) = same_kind k x || has_kind k xs

-- the alternative may begin with the token, or may have none
abbrev pub suits : Terminal → List Symbol → Bool
suits k [] = true
suits k (Token j ∷ s) = same_kind k j
suits k (Keep j ∷ s) = same_kind k j
suits k (Part p ∷ s) = has_kind k (first p) || (nullable p && suits k s)
suits k (Bound o ∷ s) = suits k s
suits k (Do a ∷ s) = suits k s

abbrev pub choose_from : List (List Symbol) → Terminal → Option (List Symbol)
choose_from [] k = None
choose_from (r ∷ rs) k = if suits k r then Some r else choose_from rs k

abbrev pub choose : Part_of → Terminal → Option (List Symbol)
choose p k = choose_from (rules p) k
