-- Names that are there stay there with one more, and the number of a name that is not among those before it.
use Rattle.std.proofs.Common.{◌≡◌, ◌+◌, Bool, true, false, ◌||◌, List, [], ◌∷◌, ◌++◌, length, Option, Some, None, refl, sym, ap}
use Rattle.std.proofs.Common.{◌∙◌, is_some, append_assoc, arith}
use Rattle.std.specs.Str.{str_to_ascii_lowercase}
use Rattle.std.specs.Cmp.Lexicographic.{bytes_decides}
use Rattle.std.proofs.lemmas.List.{length-map, map-append}
use Rattle.ec_check.proofs.WellValues.{first_of_two, second_of_two}
use Rattle.ec_check.specs.Places.{number_or, number_named, names_of}
use Rattle.ec_types.proofs.NamesLemmas.{first_kept, first_new, has_name_more}
use Rattle.ec_types.specs.Names.{Text, is_same, first_from, first_named, has_name}
use Rattle.ec_types.specs.declared.scopes.entries.Entry.{Entry}

-- ---- tests

or_false : (b : Bool) → b || false ≡ b
or_false true = refl
or_false false = refl

or_joined : (a b c : Bool) → a || (b || c) ≡ (a || b) || c
or_joined true b c = refl
or_joined false b c = refl

-- ---- whether a name is there

pub same_itself : (name : Text) → is_same name name ≡ true
same_itself name = let letters = str_to_ascii_lowercase name in (bytes_decides letters letters).1 refl

has_name_pushed : (names : List Text) (own name : Text) → has_name (names ++ own ∷ []) name ≡ has_name names name || is_same own name
has_name_pushed [] own name = has_name_more own [] name ∙ or_false (is_same own name)
has_name_pushed (n ∷ names) own name =
    has_name_more n (names ++ own ∷ []) name
    ∙ ap (λ b. is_same n name || b) (has_name_pushed names own name)
    ∙ or_joined (is_same n name) (has_name names name) (is_same own name)
    ∙ ap (λ b. b || is_same own name) (sym (has_name_more n names name))

-- what is there stays there
pub still_there : (names : List Text) (own name : Text) → has_name names name ≡ true → has_name (names ++ own ∷ []) name ≡ true
still_there names own name e = has_name_pushed names own name ∙ first_of_two (has_name names name) (is_same own name) e

pub last_there : (names : List Text) (name : Text) → has_name (names ++ name ∷ []) name ≡ true
last_there names name =
    has_name_pushed names name name ∙ second_of_two (has_name names name) (is_same name name) (same_itself name)

-- ---- the number of a name

none_if : {A : Type 0} (o : Option A) → is_some o ≡ false → o ≡ None
none_if None e = refl
none_if (Some x) e = cc

number_new : (before after : List Text) (name : Text) → has_name before name ≡ false →
    number_named (before ++ (name ∷ after)) name ≡ length before
number_new before after name e =
    let here : first_from 0 (before ++ name ∷ []) name ≡ Some (0 + length before) =
    first_new 0 before name (none_if (first_named before name) e) in
    let at : first_from 0 ((before ++ name ∷ []) ++ after) name ≡ Some (0 + length before) =
    first_kept 0 (before ++ name ∷ []) after name (0 + length before) here in
    let n : 0 + length before ≡ length before = omega arith in
    ap (λ names. number_named names name) (sym (append_assoc before (name ∷ []) after)) ∙ (ap number_or at ∙ n)

-- the number of an entry whose name is none of those before it
pub entry_number : (before after : List Entry) (entry : Entry) → has_name (names_of before) entry.name ≡ false →
    number_named (names_of (before ++ (entry ∷ after))) entry.name ≡ length before
entry_number before after entry e =
    ap (λ names. number_named names entry.name) (map-append (λ (x : Entry). x.name) before (entry ∷ after))
    ∙ (number_new (names_of before) (names_of after) entry.name e ∙ length-map before (λ (x : Entry). x.name))

pub names_pushed : (before : List Entry) (entry : Entry) → names_of (before ++ entry ∷ []) ≡ names_of before ++ entry.name ∷ []
names_pushed before entry = map-append (λ (x : Entry). x.name) before (entry ∷ [])
