-- The test of the table: each alternative is the one that is chosen wherever it may go on, and what that needs.
use Rattle.std.specs.Prelude.{◌≡◌, ℕ, ◌+◌, ◌-◌, nat_lt, eqb, Bool, true, false, ◌&&◌, if◌then◌else◌, List, [], ◌∷◌, ◌++◌, refl}
use Rattle.ec_parser.specs.declared.terminal.Terminal.{Terminal}
use Rattle.ec_parser.specs.declared.grammar.Part.{Part as Part_of}
use Rattle.ec_parser.specs.declared.grammar.Part.TheVariants as part
use Rattle.ec_parser.specs.declared.grammar.Symbol.{Symbol}
use Rattle.ec_parser.specs.declared.grammar.Symbol.TheVariants.{Token, Keep, Part, Bound, Do}
use Rattle.ec_parser.specs.Terminals.{is_of_token}
use Rattle.ec_parser.specs.Rules.{rules}
use Rattle.ec_parser.specs.Choose.{has_kind, suits}
use Rattle.ec_parser.specs.Sizes.{first, nullable, follow, weight}
use Rattle.ec_parser.specs.Follow.{starts_with, weight_of}
use Rattle.ec_parser.proofs.Shortest.{rank, shortest}

abbrev pub implies : Bool → Bool → Bool
implies true b = b
implies false b = true

abbrev pub all_nullable : List Symbol → Bool
all_nullable [] = true
all_nullable (Token k ∷ s) = false
all_nullable (Keep k ∷ s) = false
all_nullable (Part p ∷ s) = nullable p && all_nullable s
all_nullable (Bound o ∷ s) = all_nullable s
all_nullable (Do a ∷ s) = all_nullable s

abbrev pub is_subset : List Terminal → List Terminal → Bool
is_subset [] ys = true
is_subset (x ∷ xs) ys = has_kind x ys && is_subset xs ys

-- the number of the alternative that is chosen
abbrev pub position : List (List Symbol) → Terminal → ℕ
position [] k = 0
position (r ∷ rs) k = if suits k r then 0 else position rs k + 1

-- the alternative of this number is chosen at each of these
abbrev pub chosen_at : List (List Symbol) → ℕ → List Terminal → Bool
chosen_at rs n [] = true
chosen_at rs n (k ∷ ks) = eqb (position rs k) n && chosen_at rs n ks

-- a token can be of each kind in a rule of p, and its parts are followed by what may follow them
abbrev pub follows_in : List Symbol → Part_of → Bool
follows_in [] p = true
follows_in (Token k ∷ s) p = is_of_token k && follows_in s p
follows_in (Keep k ∷ s) p = is_of_token k && follows_in s p
follows_in (Part q ∷ s) p = is_subset (starts_with s []) (follow q) && implies (all_nullable s) (is_subset (follow p) (follow q)) &&
    follows_in s p
follows_in (Bound o ∷ s) p = follows_in s p
follows_in (Do a ∷ s) p = follows_in s p

-- the parts in a list of symbols end in fewer steps than n
abbrev pub ends_below : ℕ → List Symbol → Bool
ends_below n [] = true
ends_below n (Token k ∷ s) = is_of_token k && ends_below n s
ends_below n (Keep k ∷ s) = is_of_token k && ends_below n s
ends_below n (Part q ∷ s) = nat_lt (rank q) n && ends_below n s
ends_below n (Bound o ∷ s) = ends_below n s
ends_below n (Do a ∷ s) = ends_below n s

abbrev pub lookahead : Part_of → List Symbol → List Terminal
lookahead p r = starts_with r [] ++ (if all_nullable r then follow p else [])

abbrev pub is_good : Part_of → List (List Symbol) → ℕ → List Symbol → Bool
is_good p rs n r = chosen_at rs n (lookahead p r) &&
    (is_subset (starts_with r []) (first p) &&
    (implies (all_nullable r) (nullable p) && (follows_in r p && nat_lt (weight_of r) (weight p))))

abbrev pub all_good : Part_of → List (List Symbol) → ℕ → List (List Symbol) → Bool
all_good p all n [] = true
all_good p all n (r ∷ rs) = is_good p all n r && all_good p all (n + 1) rs

pub good : (p : Part_of) → all_good p (rules p) 0 (rules p) ≡ true
good part.Program = refl
good _ = refl

abbrev pub ends_at : ℕ → ℕ → List (List Symbol) → Bool
ends_at n m [] = false
ends_at n m (r ∷ rs) = if eqb m 0 then ends_below n r else ends_at n (m - 1) rs

pub ends : (p : Part_of) → ends_at (rank p) (shortest p) (rules p) ≡ true
ends part.Program = refl
ends _ = refl
