-- The type with which a name is found: that of an entry of the own object, or of what is found outside of it, or of a constant.
-- Names that are the same but for their case are found as one.
use Rattle.std.proofs.Common.{◌≡◌, ℕ, suc, ◌≤◌, true, List, [], ◌∷◌, ◌++◌, length, Option, Some, None}
use Rattle.std.proofs.Common.{refl, ap, ◌∙◌, option_map, arith}
use Rattle.std.specs.Cmp.Lexicographic.{bytes_decides}
use Rattle.std.specs.Str.{str_to_ascii_lowercase}
use Rattle.ec_base.specs.Stack.{top_of, below_of}
use Rattle.ec_check.proofs.FoundPlaces.{held_out, never_held, AtLeast, at_least_held, own_entries}
use Rattle.ec_check.specs.Places.{type_or, type_found}
use Rattle.ec_types.specs.declared.conform.static_type.StaticType.{StaticType}
use Rattle.ec_types.specs.Names.{Text, is_same}
use Rattle.ec_types.specs.declared.scopes.entries.Entry.{Entry}
use Rattle.ec_types.specs.declared.scopes.globals.Global.{Global}
use Rattle.ec_types.specs.declared.scopes.globals.Meaning.{Meaning}
use Rattle.ec_types.specs.declared.scopes.globals.Meaning.TheVariants as means
use Rattle.ec_types.specs.declared.scopes.object.Object.{Object}
use Rattle.ec_types.specs.declared.scopes.scope.Found.{Found}
use Rattle.ec_types.specs.declared.scopes.scope.Found.TheVariants as found
use Rattle.ec_types.specs.declared.scopes.scope.Scope.{Scope}
use Rattle.ec_types.specs.Scopes.{entry_named, meaning_named, found_meaning, held_or, found_within, find, innermost, outside}

-- ---- what is the own object's is of the type of the first entry with its name

abbrev pub entry_type : Option Entry → Option StaticType
entry_type entry = option_map (λ e. type_or e.of) entry

last_type : (entry : Option Entry) (f : Found) → AtLeast 1 f → held_out (held_or 0 entry f) ≡ Some 0 →
    entry_type entry ≡ Some (type_found (held_or 0 entry f))
last_type None f h e = let l : 1 ≤ 0 = h 0 e in absurd (omega arith)
last_type (Some x) f h e = refl

own_type_in : (name : Text) (f : Found) (o : Object) (os : List Object) → AtLeast (suc (length os)) f →
    held_out (found_within name f (o ∷ os)) ≡ Some 0 →
    entry_type (entry_named (own_entries (top_of (o ∷ os))) name) ≡ Some (type_found (found_within name f (o ∷ os)))
own_type_in name f o [] h e = last_type (entry_named (o.locals ++ o.fields) name) f h e
own_type_in name f o (p ∷ os) h e =
    own_type_in name (held_or (length (p ∷ os)) (entry_named (o.locals ++ o.fields) name) f) p os
    (at_least_held (length (p ∷ os)) (entry_named (o.locals ++ o.fields) name) f h) e

own_type_among : (name : Text) (f : Found) (os : List Object) → held_out f ≡ None → held_out (found_within name f os) ≡ Some 0 →
    entry_type (entry_named (own_entries (top_of os)) name) ≡ Some (type_found (found_within name f os))
own_type_among name f [] n e = cc
own_type_among name f (o ∷ os) n e = own_type_in name f o os (λ k s. cc) e

pub own_type : (scope : Scope) (name : Text) → held_out (find scope name) ≡ Some 0 →
    entry_type (entry_named (own_entries (innermost scope)) name) ≡ Some (type_found (find scope name))
own_type scope name =
    own_type_among name (found_meaning (meaning_named scope.globals name)) scope.objects
    (never_held (meaning_named scope.globals name))

-- ---- what is further out is found outside with the same type

abbrev SameOutward : Found → Found → Type 0
SameOutward f g = (k : ℕ) → held_out f ≡ Some (suc k) → type_found f ≡ type_found g

same_held : (n m : ℕ) (entry : Option Entry) (f g : Found) → SameOutward f g → SameOutward (held_or n entry f) (held_or m entry g)
same_held n m None f g h = h
same_held n m (Some x) f g h = λ k s. refl

same_last : (entry : Option Entry) (f g : Found) → SameOutward f g → SameOutward (held_or 0 entry f) g
same_last None f g h = h
same_last (Some x) f g h = λ k s. let t : 0 ≡ suc k = cc in absurd (omega arith)

same_within : (name : Text) (f g : Found) (o : Object) (os : List Object) → SameOutward f g →
    SameOutward (found_within name f (o ∷ os)) (found_within name g (below_of (o ∷ os)))
same_within name f g o [] h = same_last (entry_named (o.locals ++ o.fields) name) f g h
same_within name f g o (p ∷ os) h =
    same_within name (held_or (length (p ∷ os)) (entry_named (o.locals ++ o.fields) name) f)
    (held_or (length (below_of (p ∷ os))) (entry_named (o.locals ++ o.fields) name) g) p os
    (same_held (length (p ∷ os)) (length (below_of (p ∷ os))) (entry_named (o.locals ++ o.fields) name) f g h)

same_among : (name : Text) (f : Found) (os : List Object) → held_out f ≡ None →
    SameOutward (found_within name f os) (found_within name f (below_of os))
same_among name f [] n = λ k s. refl
same_among name f (o ∷ os) n = same_within name f f o os (λ k s. refl)

pub outward_type : (scope : Scope) (name : Text) (k : ℕ) → held_out (find scope name) ≡ Some (suc k) →
    type_found (find scope name) ≡ type_found (find (outside scope) name)
outward_type scope name =
    same_among name (found_meaning (meaning_named scope.globals name)) scope.objects
    (never_held (meaning_named scope.globals name))

-- ---- names that are the same but for their case

entries_same : (es : List Entry) (a b : Text) → is_same a b ≡ true → entry_named es a ≡ entry_named es b
entries_same [] a b same = refl
entries_same (e ∷ es) a b same =
    let letters : str_to_ascii_lowercase a ≡ str_to_ascii_lowercase b = (bytes_decides _ _).0 same in
    rw (letters, entries_same es a b same) refl

meanings_same : (gs : List Global) (a b : Text) → is_same a b ≡ true → meaning_named gs a ≡ meaning_named gs b
meanings_same [] a b same = refl
meanings_same (g ∷ gs) a b same =
    let letters : str_to_ascii_lowercase a ≡ str_to_ascii_lowercase b = (bytes_decides _ _).0 same in
    rw (letters, meanings_same gs a b same) refl

within_same : (os : List Object) (f : Found) (a b : Text) → is_same a b ≡ true → found_within a f os ≡ found_within b f os
within_same [] f a b same = refl
within_same (o ∷ os) f a b same =
    ap (λ entry. found_within a (held_or (length os) entry f) os) (entries_same (o.locals ++ o.fields) a b same)
    ∙ within_same os (held_or (length os) (entry_named (o.locals ++ o.fields) b) f) a b same

pub find_same : (scope : Scope) (a b : Text) → is_same a b ≡ true → find scope a ≡ find scope b
find_same scope a b same =
    ap (λ m. found_within a (found_meaning m) scope.objects) (meanings_same scope.globals a b same)
    ∙ within_same scope.objects (found_meaning (meaning_named scope.globals b)) a b same

-- ---- what is found as a constant of the program is the value that its name means

value_held : (of : Option StaticType) (out : ℕ) (entry : Option Entry) (f : Found) → held_or out entry f ≡ found.Constant of →
    f ≡ found.Constant of
value_held of out None f e = e
value_held of out (Some x) f e = cc

value_within : (os : List Object) (name : Text) (of : Option StaticType) (f : Found) → found_within name f os ≡ found.Constant of →
    f ≡ found.Constant of
value_within [] name of f e = e
value_within (o ∷ os) name of f e =
    value_held of (length os) (entry_named (o.locals ++ o.fields) name) f
    (value_within os name of (held_or (length os) (entry_named (o.locals ++ o.fields) name) f) e)

value_meant : (of : Option StaticType) (m : Option Meaning) → found_meaning m ≡ found.Constant of → m ≡ Some (means.Value of)
value_meant of None e = cc
value_meant of (Some (means.Value other)) e = cc
value_meant of (Some (means.Class c)) e = cc
value_meant of (Some means.Typeobject) e = cc

pub found_value : (scope : Scope) (name : Text) (of : Option StaticType) → find scope name ≡ found.Constant of →
    meaning_named scope.globals name ≡ Some (means.Value of)
found_value scope name of e =
    value_meant of (meaning_named scope.globals name)
    (value_within scope.objects name of (found_meaning (meaning_named scope.globals name)) e)
