-- The numbers by which locals, fields, captured names and constants are found, and the types of what has these numbers.
use Rattle.std.proofs.Common.{◌≡◌, ℕ, zero, suc, ◌+◌, Bool, true, false, List, [], ◌∷◌, ◌++◌, map, Option, Some, None, is_some}
use Rattle.std.proofs.Common.{refl, sym, ap, ◌∙◌, subst, if◌then◌else◌, option_map, slice_get, add-one}
use Rattle.ec_check.proofs.Every.{Where, not_both}
use Rattle.ec_check.proofs.FoundTypes.{find_same}
use Rattle.ec_check.proofs.WellParts.{AreNumbered, AreCaptured, AreFields, ValueIs, ValuesAre}
use Rattle.ec_check.specs.Places.{number_or, number_named, names_of, number_at_or, type_or, type_found}
use Rattle.ec_check.specs.WellTyped.{constant_type_at}
use Rattle.ec_types.specs.declared.conform.static_type.StaticType.{StaticType}
use Rattle.ec_core.specs.declared.Core.{Core}
use Rattle.ec_types.specs.Names.{Text, is_same, first_from, first_named, has_name}
use Rattle.ec_types.proofs.Named.{entry_found, entry_missing, entry_of_second}
use Rattle.ec_types.specs.declared.scopes.entries.Entry.{Entry}
use Rattle.ec_types.specs.declared.scopes.globals.Global.{Global}
use Rattle.ec_types.specs.declared.scopes.globals.Meaning.{Meaning}
use Rattle.ec_types.specs.declared.scopes.globals.Meaning.TheVariants as means
use Rattle.ec_types.specs.declared.scopes.scope.Scope.{Scope}
use Rattle.ec_types.specs.Scopes.{entry_named, meaning_named, find}

-- ---- the first entry with a name

entry_numbered : (es : List Entry) (name : Text) (x : Entry) → entry_named es name ≡ Some x → (o : Option ℕ) →
    first_named (names_of es) name ≡ o → slice_get es (number_or o) ≡ Some x
entry_numbered es name x e None f = let none : entry_named es name ≡ None = entry_missing es name f in cc
entry_numbered es name x e (Some n) f = entry_found es name n f ∙ e

-- it stands at the number of its name
pub entry_at : (es : List Entry) (name : Text) (x : Entry) → entry_named es name ≡ Some x →
    slice_get es (number_named (names_of es) name) ≡ Some x
entry_at es name x e = entry_numbered es name x e (first_named (names_of es) name) refl

among_first : (es fs : List Entry) (name : Text) (n : ℕ) → is_some (first_from n (names_of es) name) ≡ true →
    entry_named (es ++ fs) name ≡ entry_named es name
among_first [] fs name n h = not_both h
among_first (e ∷ es) fs name n h =
    here (is_same e.name name) h (among_first es fs name (n + 1))
  where
    here : (b : Bool) → is_some (if b then Some n else first_from (n + 1) (names_of es) name) ≡ true →
        (is_some (first_from (n + 1) (names_of es) name) ≡ true → entry_named (es ++ fs) name ≡ entry_named es name) →
        (if b then Some e else entry_named (es ++ fs) name) ≡ (if b then Some e else entry_named es name)
    here true h k = refl
    here false h k = k h

-- of a name among the first entries
pub entry_first : (es fs : List Entry) (name : Text) → has_name (names_of es) name ≡ true →
    entry_named (es ++ fs) name ≡ entry_named es name
entry_first es fs name h = among_first es fs name 0 h

missing_if : (es : List Entry) (name : Text) (o : Option ℕ) → first_named (names_of es) name ≡ o → is_some o ≡ false →
    entry_named es name ≡ None
missing_if es name None e h = entry_missing es name e
missing_if es name (Some n) e h = cc

-- of a name that is not among them
pub entry_second : (es fs : List Entry) (name : Text) → has_name (names_of es) name ≡ false →
    entry_named (es ++ fs) name ≡ entry_named fs name
entry_second es fs name h = entry_of_second es fs name (missing_if es name (first_named (names_of es) name) refl h)

-- ---- fields and locals

pub field_at : (es : List Entry) (ts : List StaticType) (n : ℕ) (x : Entry) → AreFields es ts → slice_get es n ≡ Some x →
    slice_get ts n ≡ Some (type_or x.of)
field_at [] ts n x h e = cc
field_at (y ∷ es) [] n x h e = absurd h
field_at (y ∷ es) (t ∷ ts) zero x h e = let s : y ≡ x = cc in ap Some (sym h.0 ∙ ap (λ (y : Entry). type_or y.of) s)
field_at (y ∷ es) (t ∷ ts) (suc n) x h e = field_at es ts n x h.1 e

pub local_at : (variables : List StaticType) (es : List Entry) (ns : List ℕ) (n : ℕ) (x : Entry) → AreNumbered variables es ns →
    slice_get es n ≡ Some x → slice_get variables (number_at_or ns n) ≡ Some (type_or x.of)
local_at variables [] ns n x h e = cc
local_at variables (y ∷ es) [] n x h e = absurd h
local_at variables (y ∷ es) (m ∷ ns) zero x h e =
    let s : y ≡ x = cc in h.0 ∙ ap (λ (y : Entry). Some (type_or y.of)) s
local_at variables (y ∷ es) (m ∷ ns) (suc n) x h e = local_at variables es ns n x h.1 e

-- ---- captured names

first_shifted : (n : ℕ) (names : List Text) (name : Text) → first_from (n + 1) names name ≡ option_map suc (first_from n names name)
first_shifted n [] name = refl
first_shifted n (own ∷ names) name =
    here (is_same own name) (first_shifted (n + 1) names name)
  where
    here : (b : Bool) → first_from (n + 1 + 1) names name ≡ option_map suc (first_from (n + 1) names name) →
        (if b then Some (n + 1) else first_from (n + 1 + 1) names name)
        ≡ option_map suc (if b then Some n else first_from (n + 1) names name)
    here true later = ap Some (add-one n)
    here false later = later

where_next : (P : ℕ → Type 0) (o : Option ℕ) → Where (λ n. P (suc n)) o → Where P (option_map suc o)
where_next P None h = tt
where_next P (Some n) h = h

-- the type that a class keeps at a number is that of the name outside
abbrev IsTypeAt : Scope → Text → List StaticType → ℕ → Type 0
IsTypeAt around name ts n = slice_get ts n ≡ Some (type_found (find around name))

captured_first : (around : Scope) (name own : Text) (names : List Text) (t : StaticType) (ts : List StaticType) →
    type_found (find around own) ≡ t → Where (IsTypeAt around name ts) (first_named names name) → (b : Bool) →
    is_same own name ≡ b → Where (IsTypeAt around name (t ∷ ts)) (if b then Some 0 else first_from 1 names name)
captured_first around name own names t ts h later true same =
    ap Some (sym h ∙ ap (λ f. type_found f) (find_same around own name same))
captured_first around name own names t ts h later false same =
    subst (Where (IsTypeAt around name (t ∷ ts))) (sym (first_shifted 0 names name))
    (where_next (IsTypeAt around name (t ∷ ts)) (first_named names name) later)

captured_among : (names : List Text) (ts : List StaticType) (around : Scope) (name : Text) → AreCaptured around names ts →
    Where (IsTypeAt around name ts) (first_named names name)
captured_among [] ts around name h = tt
captured_among (own ∷ names) [] around name h = absurd h
captured_among (own ∷ names) (t ∷ ts) around name h =
    captured_first around name own names t ts h.0 (captured_among names ts around name h.1) (is_same own name) refl

number_where : (P : ℕ → Type 0) (o : Option ℕ) → is_some o ≡ true → Where P o → P (number_or o)
number_where P None s h = not_both s
number_where P (Some n) s h = h

pub captured_at : (around : Scope) (names : List Text) (ts : List StaticType) (name : Text) → AreCaptured around names ts →
    has_name names name ≡ true → slice_get ts (number_named names name) ≡ Some (type_found (find around name))
captured_at around names ts name h there =
    number_where (IsTypeAt around name ts) (first_named names name) there (captured_among names ts around name h)

-- ---- constants

abbrev IsConstantAt : Core → Option StaticType → Option ℕ → Type 0
IsConstantAt core of o = constant_type_at core.constants (number_or o) ≡ Some (type_or of)

value_first : (core : Core) (of : Option StaticType) (n : ℕ) (m : Meaning) (later : Option Meaning) (first : Option ℕ) →
    ValueIs core n m → (b : Bool) → (if b then Some m else later) ≡ Some (means.Value of) →
    (later ≡ Some (means.Value of) → IsConstantAt core of first) → IsConstantAt core of (if b then Some n else first)
value_first core of n m later first h true e k = let s : m ≡ means.Value of = cc in subst (ValueIs core n) s h
value_first core of n m later first h false e k = k e

value_from : (gs : List Global) (core : Core) (of : Option StaticType) (n : ℕ) (name : Text) → ValuesAre core n gs →
    meaning_named gs name ≡ Some (means.Value of) → IsConstantAt core of (first_from n (map (λ g. g.name) gs) name)
value_from [] core of n name h e = cc
value_from (g ∷ gs) core of n name h e =
    value_first core of n g.meaning (meaning_named gs name) (first_from (n + 1) (map (λ g. g.name) gs) name) h.0
    (is_same g.name name) e (value_from gs core of (n + 1) name (subst (λ m. ValuesAre core m gs) (sym (add-one n)) h.1))

pub value_at : (core : Core) (gs : List Global) (name : Text) (of : Option StaticType) → ValuesAre core 0 gs →
    meaning_named gs name ≡ Some (means.Value of) →
    constant_type_at core.constants (number_named (map (λ g. g.name) gs) name) ≡ Some (type_or of)
value_at core gs name of h e = value_from gs core of 0 name h e
