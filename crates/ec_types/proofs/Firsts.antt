-- The first of some names when a name comes behind them, and the map that holds it.
use Rattle.std.proofs.Common.{◌≡◌, ◌≢◌, ℕ, ◌+◌, ◌<◌, Bool, true, false, true≢false, cond, eqb, List, [], ◌∷◌, ◌++◌, length, Some}
use Rattle.std.proofs.Common.{None, Option, Vec, BTreeMap, ⊎_elim, refl, sym, ap, ◌∙◌, arith}
use Rattle.std.specs.Str.{str_to_ascii_lowercase}
use Rattle.std.specs.Cmp.Lexicographic.{bytes_decides}
use Rattle.std.specs.Map.{lookup}
use Rattle.std.specs.BTreeMap.{IsUnchanged, Updates, get, is_at}
use Rattle.std.specs.Cmp.{nat_eq_equiv}
use Rattle.std.specs.Option.{option_eq, unwrap_or}
use Rattle.std.proofs.lemmas.Bool.{cases_eq, eqb-true}
use Rattle.std.proofs.lemmas.Map.Text.{is_eq-slice_cmp}
use Rattle.ec_types.specs.Firsts.{AreFirsts, by_letters}
use Rattle.ec_types.specs.Names.{Text, is_same, first_from, first_named}

-- the first of some names, or else the first of those behind them
abbrev or_behind : Option ℕ → Option ℕ → Option ℕ
or_behind (Some i) behind = Some i
or_behind None behind = behind

or_behind_none : (first : Option ℕ) → or_behind first None ≡ first
or_behind_none (Some i) = refl
or_behind_none None = refl

or_behind_some : (first : Option ℕ) (i : ℕ) → or_behind first (Some i) ≡ Some (unwrap_or first i)
or_behind_some (Some j) i = refl
or_behind_some None i = refl

-- the first of a name among one name alone, whose number is i
abbrev first_of_one : ℕ → Text → Text → Option ℕ
first_of_one i own name = cond (is_same own name) (Some i) None

-- the same name has the same first
first_from_same : (n : ℕ) (names : List Text) (a b : Text) → is_same a b ≡ true
    → first_from n names a ≡ first_from n names b
first_from_same n [] a b same = refl
first_from_same n (own ∷ names) a b same =
    let letters : str_to_ascii_lowercase a ≡ str_to_ascii_lowercase b = (bytes_decides _ _).0 same in
    rw (letters, first_from_same (n + 1) names a b same) refl

first_from_within : (n : ℕ) (names : List Text) (name : Text) (i : ℕ) → first_from n names name ≡ Some i
    → i < n + length names
first_from_within n [] name i e = cc
first_from_within n (own ∷ names) name i e = by (first_from_within (n + 1) names name i) (is_same own name) refl
  where
    by : (first_from (n + 1) names name ≡ Some i → i < n + 1 + length names) → (b : Bool) → is_same own name ≡ b
        → i < n + length (own ∷ names)
    by later true same =
        let there : Some n ≡ Some i = rw same at e in
        let at : n ≡ i = cc in
        omega arith
    by later false apart =
        let within = later (rw apart at e) in
        omega arith

first_from_push : (n : ℕ) (names : List Text) (own name : Text)
    → first_from n (names ++ own ∷ []) name ≡ or_behind (first_from n names name) (first_of_one (n + length names) own name)
first_from_push n [] own name = ap (λ i. first_of_one i own name) (omega arith)
first_from_push n (other ∷ names) own name = by (first_from_push (n + 1) names own name) (is_same other name) refl
  where
    later : Option ℕ
    later = first_from (n + 1) names name

    by : first_from (n + 1) (names ++ own ∷ []) name ≡ or_behind later (first_of_one (n + 1 + length names) own name)
        → (b : Bool) → is_same other name ≡ b
        → first_from n ((other ∷ names) ++ own ∷ []) name
        ≡ or_behind (first_from n (other ∷ names) name) (first_of_one (n + length (other ∷ names)) own name)
    by behind true same = rw same refl
    by behind false apart = rw apart (behind ∙ ap (λ i. or_behind later (first_of_one i own name)) (omega arith))

-- a name behind the others is the first of its letters, unless there is one
abbrev first_pushed : List Text → Text → Text → Option ℕ
first_pushed names own name =
    cond (is_same own name) (Some (unwrap_or (first_named names own) (length names))) (first_named names name)

first_named_push : (names : List Text) (own name : Text)
    → first_named (names ++ own ∷ []) name ≡ first_pushed names own name
first_named_push names own name =
    first_from_push 0 names own name ∙ ap (λ i. behind i) (omega arith) ∙ by (is_same own name) refl
  where
    behind : ℕ → Option ℕ
    behind i = or_behind (first_named names name) (first_of_one i own name)

    by : (b : Bool) → is_same own name ≡ b → behind (length names) ≡ first_pushed names own name
    by true same = rw (same, first_from_same 0 names own name same) (or_behind_some _ _)
    by false apart = rw apart (or_behind_none _)

-- a name that is there already changes no first
first_named_push_known : (names : List Text) (own name : Text) (i : ℕ) → first_named names own ≡ Some i
    → first_named (names ++ own ∷ []) name ≡ first_named names name
first_named_push_known names own name i known = first_named_push names own name ∙ by (is_same own name) refl
  where
    by : (b : Bool) → is_same own name ≡ b → first_pushed names own name ≡ first_named names name
    by true same = rw (same, known) (sym known ∙ first_from_same 0 names own name same)
    by false apart = rw apart refl

-- where the last is the first of its letters, none of the others has them
absent_before_last : (names : List Text) (own : Text) → first_named (names ++ own ∷ []) own ≡ Some (length names)
    → first_named names own ≡ None
absent_before_last names own last = by (first_named names own) refl
  where
    by : (first : Option ℕ) → first_named names own ≡ first → first_named names own ≡ None
    by None absent = absent
    by (Some i) known =
        let there : Some i ≡ Some (length names) = sym known ∙ sym (first_named_push_known names own own i known) ∙ last in
        let at : i ≡ length names = cc in
        let within = first_from_within 0 names own i known in
        absurd (omega arith)

-- the last is the first of its letters, or one of the others has them
known_before_last : (names : List Text) (own : Text) → first_named (names ++ own ∷ []) own ≢ Some (length names)
    → (i : ℕ) × (first_named names own ≡ Some i)
known_before_last names own doubled = by (first_named names own) refl
  where
    by : (first : Option ℕ) → first_named names own ≡ first → (i : ℕ) × (first_named names own ≡ Some i)
    by (Some i) known = (i, known)
    by None absent =
        let letters = str_to_ascii_lowercase own in
        let same : is_same own own ≡ true = (bytes_decides letters letters).1 refl in
        absurd (doubled (rw (same, absent) at (first_named_push names own own)))

module _ {Y : Type 0} where
  -- whether two keys are the same
  at_key : (own name : Text) (mine its : Vec ℕ Y) → mine.items ≡ str_to_ascii_lowercase own
      → its.items ≡ str_to_ascii_lowercase name → is_at (by_letters mine) its ≡ is_same own name
  at_key own name mine its folded folded_its = is_eq-slice_cmp mine.items its.items ∙ rw (folded, folded_its) refl

  -- a name comes
  pub are_firsts_entered : (old new : BTreeMap (Vec ℕ Y) ℕ) (names : List Text) (own : Text) (key : Vec ℕ Y) (number : ℕ)
      → key.items ≡ str_to_ascii_lowercase own → number ≡ length names
      → Updates by_letters old new key (Some (unwrap_or (get by_letters old key) number))
      → AreFirsts old names → AreFirsts new (names ++ own ∷ [])
  are_firsts_entered old new names own key number folded behind updates firsts = λ name its folded_its.
      let same = at_key own name key its folded folded_its in
      let pushed = first_named_push names own name in
      updates.0 its ∙ rw (same, firsts name its folded_its, firsts own key folded, behind) (sym pushed)

  -- the last name goes, of which there is another
  are_firsts_kept : (m : BTreeMap (Vec ℕ Y) ℕ) (names : List Text) (own : Text)
      → first_named (names ++ own ∷ []) own ≢ Some (length names) → AreFirsts m (names ++ own ∷ []) → AreFirsts m names
  are_firsts_kept m names own doubled firsts = λ name its folded_its.
      let known = known_before_last names own doubled in
      firsts name its folded_its ∙ first_named_push_known names own name known.0 known.1

  -- the last name goes, the only one with its letters
  are_firsts_removed : (old new : BTreeMap (Vec ℕ Y) ℕ) (names : List Text) (own : Text) (key : Vec ℕ Y)
      → key.items ≡ str_to_ascii_lowercase own → first_named (names ++ own ∷ []) own ≡ Some (length names)
      → Updates by_letters old new key None → AreFirsts old (names ++ own ∷ []) → AreFirsts new names
  are_firsts_removed old new names own key folded last updates firsts = λ name its folded_its.
      let same = at_key own name key its folded folded_its in
      let pushed = firsts name its folded_its ∙ first_named_push names own name in
      updates.0 its ∙ rw (same, pushed) (by name (is_same own name) refl)
    where
      absent : first_named names own ≡ None
      absent = absent_before_last names own last

      by : (name : Text) (b : Bool) → is_same own name ≡ b
          → cond (is_same own name) None (first_pushed names own name) ≡ first_named names name
      by name true same = rw same (sym absent ∙ first_from_same 0 names own name same)
      by name false apart = rw apart refl

  -- the last name goes
  pub are_firsts_left : (old new : BTreeMap (Vec ℕ Y) ℕ) (names : List Text) (own : Text) (key : Vec ℕ Y) (number : ℕ)
      → key.items ≡ str_to_ascii_lowercase own → number ≡ length names
      → (get by_letters old key ≡ Some number → Updates by_letters old new key None)
      → (get by_letters old key ≢ Some number → IsUnchanged old new)
      → AreFirsts old (names ++ own ∷ []) → AreFirsts new names
  are_firsts_left old new names own key number folded behind gone kept firsts = by (get by_letters old key) refl
    where
      here : get by_letters old key ≡ first_named (names ++ own ∷ []) own
      here = firsts own key folded

      alone : get by_letters old key ≡ Some number → AreFirsts new names
      alone last = are_firsts_removed old new names own key folded (sym here ∙ last ∙ ap Some behind) (gone last) firsts

      doubled : get by_letters old key ≢ Some number → AreFirsts new names
      doubled other =
          are_firsts_kept new names own (λ last. other (here ∙ last ∙ ap Some (sym behind)))
          (λ name its folded_its. ap (lookup (is_at (by_letters its))) (kept other) ∙ firsts name its folded_its)

      by : (first : Option ℕ) → get by_letters old key ≡ first → AreFirsts new names
      by None none = doubled (λ last. cc)
      by (Some i) some = ⊎_elim (λ same. alone (some ∙ ap Some same)) (λ apart. doubled (λ last. apart cc)) (cases_eq i number)

-- ---- a number that may be none, asked whether it is this number

pub is_number : (found : Option ℕ) (number : ℕ) → option_eq eqb found (Some number) ≡ true → found ≡ Some number
is_number None number e = cc
is_number (Some i) number e = ap Some (eqb-true i number e)

pub is_no_number : (found : Option ℕ) (number : ℕ) → option_eq eqb found (Some number) ≡ false → found ≢ Some number
is_no_number found number e same =
    let apart : eqb number number ≡ false = rw same at e in
    true≢false (sym (nat_eq_equiv.refl number) ∙ apart)
