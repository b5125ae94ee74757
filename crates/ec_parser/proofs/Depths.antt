-- The nestings of more tokens begin with those of the first.
use Rattle.std.proofs.Common.{◌≡◌, ℕ, suc, List, [], ◌∷◌, ◌++◌, length, drop, Some, slice_get, refl, ap, arith}
use Rattle.ec_lexer.specs.declared.token.Token.{Token}
use Rattle.ec_parser.specs.Terminals.{terminal_of}
use Rattle.ec_parser.specs.declared.grammar.Opened.{Opened}
use Rattle.ec_parser.specs.Nesting.{Behind, behind, open_at, nestings_from, nestings_of}

from_append : (os : List Opened) (b : Behind) (xs ys : List Token) →
    (zs : List ℕ) × (nestings_from os b (xs ++ ys) ≡ nestings_from os b xs ++ zs)
from_append os b [] ys = (nestings_from os b ys, refl)
from_append os b (t ∷ xs) ys =
    let r = from_append (open_at b (terminal_of t) os) (behind (terminal_of t)) xs ys in
    (r.0, ap (λ ns. length (open_at b (terminal_of t) os) ∷ ns) r.1)

from_length : (os : List Opened) (b : Behind) (xs : List Token) → length (nestings_from os b xs) ≡ length xs
from_length os b [] = refl
from_length os b (t ∷ xs) = ap suc (from_length (open_at b (terminal_of t) os) (behind (terminal_of t)) xs)

pub nestings_append : (xs ys : List Token) → (zs : List ℕ) × (nestings_of (xs ++ ys) ≡ nestings_of xs ++ zs)
unfolding nestings_of
nestings_append xs ys = from_append [] Behind.other xs ys

pub nestings_length : (xs : List Token) → length (nestings_of xs) ≡ length xs
unfolding nestings_of
nestings_length xs = from_length [] Behind.other xs

abbrev head_or : {A : Type 0} → A → List A → A
head_or a [] = a
head_or a (x ∷ xs) = x

-- fronts of one list that are as long are the same
pub fronts : {A : Type 0} (xs ys xs' ys' : List A) → length xs ≡ length xs' → xs ++ ys ≡ xs' ++ ys' → xs ≡ xs'
fronts [] ys [] ys' l e = refl
fronts [] ys (x' ∷ xs') ys' l e = absurd (omega (arith, l))
fronts (x ∷ xs) ys [] ys' l e = absurd (omega (arith, l))
fronts (x ∷ xs) ys (x' ∷ xs') ys' l e =
    let same : x ≡ x' = ap (head_or x) e in
    let more : xs ≡ xs' = fronts xs ys xs' ys' (omega (arith, l)) (ap (drop 1) e) in
    rw (same, more) refl

pub behind_front : {A : Type 0} (xs : List A) (y : A) (ys : List A) → slice_get (xs ++ y ∷ ys) (length xs) ≡ Some y
behind_front [] y ys = refl
behind_front (x ∷ xs) y ys = behind_front xs y ys
