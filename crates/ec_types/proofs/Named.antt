-- What a name means in a list, by the number of the first item with that name.
use Rattle.std.proofs.Common.{◌≡◌, ℕ, ◌+◌, true, false, List, [], ◌∷◌, ◌++◌, Option, Some, None, map, refl, sym, ap, ◌∙◌, add-one}
use Rattle.std.specs.Prelude.{if◌then◌else◌, option_map, slice_get}
use Rattle.ec_types.specs.Names.{Text, first_from, first_named, is_same}
use Rattle.ec_types.specs.Scopes.{entry_named, meaning_named}
use Rattle.ec_types.specs.declared.scopes.entries.Entry.{Entry}
use Rattle.ec_types.specs.declared.scopes.globals.Global.{Global}
use Rattle.ec_types.specs.declared.scopes.globals.Meaning.{Meaning}

-- the same place, one further on
abbrev next : Option ℕ → Option ℕ
next found = option_map (λ k. k + 1) found

first_from-next : (n : ℕ) (names : List Text) (name : Text) → first_from (n + 1) names name ≡ next (first_from n names name)
first_from-next n [] name = refl
first_from-next n (own ∷ names) name = elim (is_same own name)
    as (λ b. (if b then Some (n + 1) else first_from (n + 1 + 1) names name)
    ≡ next (if b then Some n else first_from (n + 1) names name))
    [ true ↦ refl | false ↦ first_from-next (n + 1) names name ]

-- the item at a place that was found
abbrev at_found : {A : Type 0} → List A → Option ℕ → Option A
at_found xs None = None
at_found xs (Some n) = slice_get xs n

at_found-next : {A : Type 0} (x : A) (xs : List A) (found : Option ℕ) → at_found (x ∷ xs) (next found) ≡ at_found xs found
at_found-next x xs None = refl
at_found-next x xs (Some n) = ap (slice_get (x ∷ xs)) (add-one n)

-- what stands behind the first item is found there without this
behind : {A : Type 0} (x : A) (xs : List A) (names : List Text) (name : Text)
    → at_found (x ∷ xs) (first_from 1 names name) ≡ at_found xs (first_named names name)
behind x xs names name =
    ap (at_found (x ∷ xs)) (first_from-next 0 names name) ∙ at_found-next x xs (first_named names name)

-- ---- entries

abbrev names_of : List Entry → List Text
names_of es = map (λ own. own.name) es

entry_at : (es : List Entry) (name : Text) → entry_named es name ≡ at_found es (first_named (names_of es) name)
entry_at [] name = refl
entry_at (e ∷ es) name = elim (is_same e.name name)
    as (λ b. (if b then Some e else entry_named es name)
    ≡ at_found (e ∷ es) (if b then Some 0 else first_from 1 (names_of es) name))
    [ true ↦ refl | false ↦ entry_at es name ∙ sym (behind e es (names_of es) name) ]

pub entry_found : (es : List Entry) (name : Text) (n : ℕ)
    → first_named (names_of es) name ≡ Some n → slice_get es n ≡ entry_named es name
entry_found es name n e = sym (entry_at es name ∙ ap (at_found es) e)

pub entry_missing : (es : List Entry) (name : Text) → first_named (names_of es) name ≡ None → entry_named es name ≡ None
entry_missing es name e = entry_at es name ∙ ap (at_found es) e

-- ---- entries behind others

pub entry_of_first : (es fs : List Entry) (name : Text) (found : Entry)
    → entry_named es name ≡ Some found → entry_named (es ++ fs) name ≡ Some found
entry_of_first [] fs name found h = cc
entry_of_first (e ∷ es) fs name found h = elim (is_same e.name name)
    as (λ b. (if b then Some e else entry_named es name) ≡ Some found
    → (if b then Some e else entry_named (es ++ fs) name) ≡ Some found)
    [ true ↦ λ g. g | false ↦ entry_of_first es fs name found ] h

pub entry_of_second : (es fs : List Entry) (name : Text)
    → entry_named es name ≡ None → entry_named (es ++ fs) name ≡ entry_named fs name
entry_of_second [] fs name h = refl
entry_of_second (e ∷ es) fs name h = elim (is_same e.name name)
    as (λ b. (if b then Some e else entry_named es name) ≡ None
    → (if b then Some e else entry_named (es ++ fs) name) ≡ entry_named fs name)
    [ true ↦ λ g. cc | false ↦ entry_of_second es fs name ] h

-- ---- constants

abbrev global_names : List Global → List Text
global_names gs = map (λ own. own.name) gs

abbrev meaning_in : Option Global → Option Meaning
meaning_in global = option_map (λ own. own.meaning) global

meaning_at : (gs : List Global) (name : Text)
    → meaning_named gs name ≡ meaning_in (at_found gs (first_named (global_names gs) name))
meaning_at [] name = refl
meaning_at (g ∷ gs) name = elim (is_same g.name name)
    as (λ b. (if b then Some g.meaning else meaning_named gs name)
    ≡ meaning_in (at_found (g ∷ gs) (if b then Some 0 else first_from 1 (global_names gs) name)))
    [ true ↦ refl | false ↦ meaning_at gs name ∙ sym (ap meaning_in (behind g gs (global_names gs) name)) ]

pub meaning_found : (gs : List Global) (name : Text) (n : ℕ)
    → first_named (global_names gs) name ≡ Some n → meaning_in (slice_get gs n) ≡ meaning_named gs name
meaning_found gs name n e = sym (meaning_at gs name ∙ ap (λ found. meaning_in (at_found gs found)) e)

pub meaning_missing : (gs : List Global) (name : Text) → first_named (global_names gs) name ≡ None → meaning_named gs name ≡ None
meaning_missing gs name e = meaning_at gs name ∙ ap (λ found. meaning_in (at_found gs found)) e
