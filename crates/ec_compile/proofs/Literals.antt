-- The literals of a program are different texts.
use Rattle.std.proofs.Common.{◌≡◌, ℕ, zero, suc, ◌==◌, Bool, true, false, if◌then◌else◌, true≢false, List, [], ◌∷◌, ◌++◌}
use Rattle.std.proofs.Common.{Option, Some, refl}
use Rattle.std.proofs.Common.{sym, ap, ap₂, ◌∙◌, subst, eq-eqb, eqb-true}
use Rattle.std.specs.Prelude.{slice_get}
use Rattle.ec_core.specs.declared.Core.{Core}
use Rattle.ec_emission.specs.Expressions.{has_text, is_text}
use Rattle.ec_core.specs.Literals.{Texts}
use Rattle.ec_emission.specs.Literals.{literals_of, texts_of_constants, texts_of_operations, with_new}

-- ---- texts that are the same

both : (first rest : Bool) → first ≡ true → rest ≡ true → (if first then rest else false) ≡ true
both true rest e f = f
both false rest e f = e

is_itself : (t : List ℕ) → is_text t t ≡ true
is_itself [] = refl
is_itself (a ∷ t) = both (a == a) (is_text t t) (eq-eqb a a refl) (is_itself t)

split : (first rest : Bool) → (if first then rest else false) ≡ true → (first ≡ true) × (rest ≡ true)
split true rest e = (refl, e)
split false rest e = absurd (true≢false (sym e))

same_text : (s t : List ℕ) → is_text s t ≡ true → s ≡ t
same_text [] [] e = refl
same_text [] (b ∷ t) e = absurd (true≢false (sym e))
same_text (a ∷ s) [] e = absurd (true≢false (sym e))
same_text (a ∷ s) (b ∷ t) e =
    let h = split (a == b) (is_text s t) e in ap₂ (λ x xs. x ∷ xs) (eqb-true a b h.0) (same_text s t h.1)

turned : (s t : List ℕ) → is_text s t ≡ false → is_text t s ≡ false
turned s t e = by (is_text t s) refl
  where
    by : (b : Bool) → is_text t s ≡ b → is_text t s ≡ false
    by false f = f
    by true f = absurd (true≢false (sym (is_itself s) ∙ ap (is_text s) (sym (same_text t s f)) ∙ e))

-- ---- lists of different texts

neither : (first rest : Bool) → (if first then true else rest) ≡ false → (first ≡ false) × (rest ≡ false)
neither true rest e = absurd (true≢false e)
neither false rest e = (refl, e)

none_of : (first rest : Bool) → first ≡ false → rest ≡ false → (if first then true else rest) ≡ false
none_of true rest e f = e
none_of false rest e f = f

either : (first rest : Bool) → rest ≡ true → (if first then true else rest) ≡ true
either true rest e = refl
either false rest e = e

is_there : (ts : Texts) (i : ℕ) (t : List ℕ) → slice_get ts i ≡ Some t → has_text ts t ≡ true
is_there [] i t e = cc
is_there (l ∷ ls) zero t e =
    let is : l ≡ t = cc in
    subst (λ b. (if b then true else has_text ls t) ≡ true) (sym (ap (λ s. is_text s t) is ∙ is_itself t)) refl
is_there (l ∷ ls) (suc i) t e = either (is_text l t) (has_text ls t) (is_there ls i t e)

-- no text stands again behind its place
abbrev Differ : Texts → Type 0
Differ [] = Unit {0}
Differ (t ∷ ts) = (has_text ts t ≡ false) × Differ ts

one_place : (ts : Texts) → Differ ts → (i j : ℕ) (t : List ℕ) → slice_get ts i ≡ Some t → slice_get ts j ≡ Some t → i ≡ j
one_place [] h i j t e f = cc
one_place (l ∷ ls) h zero zero t e f = refl
one_place (l ∷ ls) h zero (suc j) t e f =
    let is : l ≡ t = cc in
    absurd (true≢false (sym (is_there ls j t f) ∙ subst (λ s. has_text ls s ≡ false) is h.0))
one_place (l ∷ ls) h (suc i) zero t e f =
    let is : l ≡ t = cc in
    absurd (true≢false (sym (is_there ls i t e) ∙ subst (λ s. has_text ls s ≡ false) is h.0))
one_place (l ∷ ls) h (suc i) (suc j) t e f = ap suc (one_place ls h.1 i j t e f)

not_behind : (ls : Texts) (l t : List ℕ) → has_text ls l ≡ false → is_text t l ≡ false → has_text (ls ++ t ∷ []) l ≡ false
not_behind [] l t e f = none_of (is_text t l) false f refl
not_behind (k ∷ ls) l t e f =
    let h = neither (is_text k l) (has_text ls l) e in
    none_of (is_text k l) (has_text (ls ++ t ∷ []) l) h.0 (not_behind ls l t h.1 f)

one_more : (ts : Texts) (t : List ℕ) → Differ ts → has_text ts t ≡ false → Differ (ts ++ t ∷ [])
one_more [] t h e = (refl, tt)
one_more (l ∷ ls) t h e =
    let n = neither (is_text l t) (has_text ls t) e in
    (not_behind ls l t h.0 (turned l t n.0), one_more ls t h.1 n.1)

grown : (there : Texts) (t : List ℕ) (b : Bool) → has_text there t ≡ b → Differ there → Differ (if b then there else there ++ t ∷ [])
grown there t true e h = h
grown there t false e h = one_more there t h e

new_differ : (there ts : Texts) → Differ there → Differ (with_new there ts)
new_differ there [] h = h
new_differ there (t ∷ ts) h =
    new_differ (if has_text there t then there else there ++ t ∷ []) ts (grown there t (has_text there t) refl h)

pub literals_differ : (core : Core) (i j : ℕ) (t : List ℕ) → slice_get (literals_of core) i ≡ Some t →
    slice_get (literals_of core) j ≡ Some t → i ≡ j
literals_differ core =
    one_place (literals_of core)
    (new_differ ([] ∷ []) (texts_of_constants core.constants ++ texts_of_operations core.operations) (refl, tt))
