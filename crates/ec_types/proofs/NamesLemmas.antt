-- Names and their numbers, and the operations that names find.
use Rattle.std.proofs.Common.{◌≡◌, ℕ, suc, ◌+◌, ◌≤◌, ◌==◌, Bool, true, false, ◌||◌, List, [], ◌∷◌, ◌++◌, length, Option, Some, None}
use Rattle.std.proofs.Common.{option_map, refl, sym, ap, ◌∙◌, arith}
use Rattle.std.specs.Str.{str_to_ascii_lowercase}
use Rattle.std.specs.Cmp.Lexicographic.{bytes_decides}
use Rattle.std.specs.Option.{is_some, option_and_then}
use Rattle.std.specs.List.{slice_get}
use Rattle.std.proofs.lemmas.Bool.{eq-eqb, ne_eqb, true≢false}
use Rattle.ec_types.specs.Names.{Text, is_same, first_from, first_named, has_name}
use Rattle.ec_types.specs.Types.{operation_names, operation_named}
use Rattle.ec_types.specs.declared.conform.operations.NamedOperation.{NamedOperation}

-- ---- names that are one

letters : (a b : Text) → is_same a b ≡ true → str_to_ascii_lowercase a ≡ str_to_ascii_lowercase b
letters a b same = (bytes_decides _ _).0 same

by_letters : (a b : Text) → str_to_ascii_lowercase a ≡ str_to_ascii_lowercase b → is_same a b ≡ true
by_letters a b e = (bytes_decides _ _).1 e

pub is_same_symmetric : (a b : Text) → is_same a b ≡ true → is_same b a ≡ true
is_same_symmetric a b same = by_letters b a (sym (letters a b same))

is_same_joined : (own a b : Text) → is_same own a ≡ true → is_same own b ≡ true → is_same a b ≡ true
is_same_joined own a b one other = by_letters a b (sym (letters own a one) ∙ letters own b other)

-- ---- the first of some names

-- the same name has the same first
first_same : (n : ℕ) (names : List Text) (a b : Text) → is_same a b ≡ true → first_from n names a ≡ first_from n names b
first_same n [] a b same = refl
first_same n (own ∷ names) a b same = rw (letters a b same, first_same (n + 1) names a b same) refl

first_least : (n : ℕ) (names : List Text) (name : Text) (i : ℕ) → first_from n names name ≡ Some i → n ≤ i
first_least n [] name i e = cc
first_least n (own ∷ names) name i e = by (first_least (n + 1) names name i) (is_same own name) refl
  where
    by : (first_from (n + 1) names name ≡ Some i → n + 1 ≤ i) → (b : Bool) → is_same own name ≡ b → n ≤ i
    by later true same =
        let there : Some n ≡ Some i = rw same at e in
        let at : n ≡ i = cc in
        omega arith
    by later false apart =
        let behind = later (rw apart at e) in
        omega arith

-- two names with one first are one
one_first : (n : ℕ) (names : List Text) (a b : Text) (i : ℕ) → first_from n names a ≡ Some i → first_from n names b ≡ Some i
    → is_same a b ≡ true
one_first n [] a b i e f = cc
one_first n (own ∷ names) a b i e f = by (one_first (n + 1) names a b i) (is_same own a) (is_same own b) refl refl
  where
    clash : (there other : Text) → first_from n (own ∷ names) there ≡ Some i → first_from n (own ∷ names) other ≡ Some i
        → is_same own there ≡ true → is_same own other ≡ false → ⊥
    clash there other e f same apart =
        let here : Some n ≡ Some i = rw same at e in
        let at : n ≡ i = cc in
        let behind = first_least (n + 1) names other i (rw apart at f) in
        omega arith

    by : (first_from (n + 1) names a ≡ Some i → first_from (n + 1) names b ≡ Some i → is_same a b ≡ true) → (x y : Bool)
        → is_same own a ≡ x → is_same own b ≡ y → is_same a b ≡ true
    by later true true one other = is_same_joined own a b one other
    by later true false one other = absurd (clash a b e f one other)
    by later false true one other = absurd (clash b a f e other one)
    by later false false one other = later (rw one at e) (rw other at f)

-- Two names are one exactly where their numbers are.
pub same_number : (names : List Text) (a b : Text) (i j : ℕ) → first_named names a ≡ Some i → first_named names b ≡ Some j
    → is_same a b ≡ (i == j)
same_number names a b i j e f = by (is_same a b) refl
  where
    by : (x : Bool) → is_same a b ≡ x → is_same a b ≡ (i == j)
    by true same =
        let there : Some i ≡ Some j = sym e ∙ first_same 0 names a b same ∙ f in
        same ∙ sym (eq-eqb i j cc)
    by false apart = apart ∙ sym (ne_eqb i j (λ at. true≢false (sym (one_first 0 names a b j (e ∙ ap Some at) f) ∙ apart)))

-- names that come behind change no first
pub first_kept : (n : ℕ) (names more : List Text) (name : Text) (i : ℕ) → first_from n names name ≡ Some i
    → first_from n (names ++ more) name ≡ Some i
first_kept n [] more name i e = cc
first_kept n (own ∷ names) more name i e = by (first_kept (n + 1) names more name i) (is_same own name) refl
  where
    by : (first_from (n + 1) names name ≡ Some i → first_from (n + 1) (names ++ more) name ≡ Some i) → (b : Bool)
        → is_same own name ≡ b → first_from n ((own ∷ names) ++ more) name ≡ Some i
    by later true same = rw same (rw same at e)
    by later false apart = rw apart (later (rw apart at e))

-- a name that was not there is the first of its letters
pub first_new : (n : ℕ) (names : List Text) (name : Text) → first_from n names name ≡ None
    → first_from n (names ++ name ∷ []) name ≡ Some (n + length names)
first_new n [] name e = rw (by_letters name name refl) (ap Some (omega arith))
first_new n (own ∷ names) name e = by (first_new (n + 1) names name) (is_same own name) refl
  where
    by : (first_from (n + 1) names name ≡ None → first_from (n + 1) (names ++ name ∷ []) name ≡ Some (n + 1 + length names))
        → (b : Bool) → is_same own name ≡ b
        → first_from n ((own ∷ names) ++ name ∷ []) name ≡ Some (n + length (own ∷ names))
    by later true same =
        let there : Some n ≡ None = rw same at e in
        cc
    by later false apart = rw apart (later (rw apart at e) ∙ ap Some (omega arith))

first_shifted : (n : ℕ) (names : List Text) (name : Text)
    → first_from (n + 1) names name ≡ option_map suc (first_from n names name)
first_shifted n [] name = refl
first_shifted n (own ∷ names) name = by (first_shifted (n + 1) names name) (is_same own name) refl
  where
    by : first_from (n + 1 + 1) names name ≡ option_map suc (first_from (n + 1) names name) → (b : Bool) → is_same own name ≡ b
        → first_from (n + 1) (own ∷ names) name ≡ option_map suc (first_from n (own ∷ names) name)
    by later true same = rw same (ap Some (omega arith))
    by later false apart = rw apart later

-- ---- whether a name is there

pub has_name_more : (own : Text) (names : List Text) (name : Text)
    → has_name (own ∷ names) name ≡ (is_same own name || has_name names name)
has_name_more own names name = by (is_same own name) refl
  where
    still : (found : Option ℕ) → is_some (option_map suc found) ≡ is_some found
    still None = refl
    still (Some i) = refl

    by : (b : Bool) → is_same own name ≡ b → has_name (own ∷ names) name ≡ (is_same own name || has_name names name)
    by true same = rw same refl
    by false apart = rw (apart, first_shifted 0 names name) (still (first_named names name))

pub has_name_same : (names : List Text) (a b : Text) → is_same a b ≡ true → has_name names a ≡ has_name names b
has_name_same names a b same = ap (λ found. is_some found) (first_same 0 names a b same)

-- ---- operations

-- an operation stands where its name does
pub named_at : (operations : List NamedOperation) (name : Text)
    → operation_named operations name ≡ option_and_then (slice_get operations) (first_named (operation_names operations) name)
named_at [] name = refl
named_at (o ∷ os) name = by (named_at os name) (is_same o.name name) refl
  where
    behind : (found : Option ℕ)
        → option_and_then (slice_get os) found ≡ option_and_then (slice_get (o ∷ os)) (option_map suc found)
    behind None = refl
    behind (Some i) = refl

    by : operation_named os name ≡ option_and_then (slice_get os) (first_named (operation_names os) name) → (b : Bool)
        → is_same o.name name ≡ b
        → operation_named (o ∷ os) name ≡ option_and_then (slice_get (o ∷ os)) (first_named (operation_names (o ∷ os)) name)
    by later true same = rw same refl
    by later false apart =
        rw (apart, first_shifted 0 (operation_names os) name) (later ∙ behind (first_named (operation_names os) name))
