-- Each text of a program's core is one of the program's literals, and so is the empty one.
use Rattle.std.proofs.Common.{◌≡◌, ℕ, Bool, true, false, ◌==◌, if◌then◌else◌, List, [], ◌∷◌, ◌++◌, refl, eq-eqb}
use Rattle.ec_core.specs.declared.Core.{Core}
use Rattle.ec_emission.proofs.Forms.{not_true}
use Rattle.ec_emission.specs.Expressions.{is_text, has_text}
use Rattle.ec_core.specs.Literals.{Texts}
use Rattle.ec_emission.specs.Literals.{with_new, literals_of, texts_of_constants, texts_of_operations}

-- each of these is one of those
abbrev pub AllAmong : Texts → Texts → Type 0
AllAmong ls [] = Unit {0}
AllAmong ls (t ∷ ts) = (has_text ls t ≡ true) × AllAmong ls ts

pub among_first : (ls xs ys : Texts) → AllAmong ls (xs ++ ys) → AllAmong ls xs
among_first ls [] ys h = tt
among_first ls (x ∷ xs) ys h = (h.0, among_first ls xs ys h.1)

pub among_second : (ls xs ys : Texts) → AllAmong ls (xs ++ ys) → AllAmong ls ys
among_second ls [] ys h = h
among_second ls (x ∷ xs) ys h = among_second ls xs ys h.1

same_first : (first : Bool) {rest : Bool} → first ≡ true → rest ≡ true → (if first then rest else false) ≡ true
same_first true e f = f
same_first false e f = e

is_itself : (text : List ℕ) → is_text text text ≡ true
is_itself [] = refl
is_itself (a ∷ text) = same_first (a == a) (eq-eqb a a refl) (is_itself text)

either : (first : Bool) {rest : Bool} → rest ≡ true → (if first then true else rest) ≡ true
either true e = refl
either false e = e

either_as : (first : Bool) {rest more : Bool} → (rest ≡ true → more ≡ true) → (if first then true else rest) ≡ true →
    (if first then true else more) ≡ true
either_as true k e = refl
either_as false k e = k e

has_first : (xs ys : Texts) (text : List ℕ) → has_text xs text ≡ true → has_text (xs ++ ys) text ≡ true
has_first [] ys text e = not_true e
has_first (x ∷ xs) ys text e = either_as (is_text x text) (has_first xs ys text) e

has_last : (xs : Texts) (text : List ℕ) → has_text (xs ++ text ∷ []) text ≡ true
has_last [] text = first_is (is_text text text) (is_itself text)
  where
    first_is : (b : Bool) → b ≡ true → (if b then true else false) ≡ true
    first_is true e = refl
    first_is false e = e
has_last (x ∷ xs) text = either (is_text x text) (has_last xs text)

-- ---- one text more

abbrev grown : Texts → List ℕ → Bool → Texts
grown there t b = if b then there else there ++ t ∷ []

grown_has : (there : Texts) (t text : List ℕ) (b : Bool) → has_text there text ≡ true → has_text (grown there t b) text ≡ true
grown_has there t text true e = e
grown_has there t text false e = has_first there (t ∷ []) text e

grown_itself : (there : Texts) (t : List ℕ) (b : Bool) → has_text there t ≡ b → has_text (grown there t b) t ≡ true
grown_itself there t true e = e
grown_itself there t false e = has_last there t

with_new_has : (there ts : Texts) (text : List ℕ) → has_text there text ≡ true → has_text (with_new there ts) text ≡ true
with_new_has there [] text e = e
with_new_has there (t ∷ ts) text e =
    with_new_has (grown there t (has_text there t)) ts text (grown_has there t text (has_text there t) e)

with_new_all : (there ts : Texts) → AllAmong (with_new there ts) ts
with_new_all there [] = tt
with_new_all there (t ∷ ts) = (
  with_new_has (grown there t (has_text there t)) ts t (grown_itself there t (has_text there t) refl),
  with_new_all (grown there t (has_text there t)) ts,
)

-- ---- a program's

pub texts_among : (core : Core) →
    AllAmong (literals_of core) (texts_of_constants core.constants ++ texts_of_operations core.operations)
texts_among core = with_new_all ([] ∷ []) (texts_of_constants core.constants ++ texts_of_operations core.operations)

pub empty_among : (core : Core) → has_text (literals_of core) [] ≡ true
empty_among core =
    with_new_has ([] ∷ []) (texts_of_constants core.constants ++ texts_of_operations core.operations) [] refl
