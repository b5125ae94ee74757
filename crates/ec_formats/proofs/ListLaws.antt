-- The laws of values that may be missing, and of lists.
use Rattle.std.proofs.Common.{◌≡◌, ℕ, zero, suc, ◌^◌, ◌≤◌, true, ◌&&◌, ltb, List, [], ◌∷◌, ◌++◌, length, take, Option, Some, None, Ok, Err}
use Rattle.std.proofs.Common.{refl, sym, ap, subst, ◌∙◌, append_assoc, arith, inl, inr}
use Rattle.std.specs.Prelude.{slice_get}
use Rattle.std.proofs.lemmas.List.{append-nil}
use Rattle.ec_formats.specs.Format.{Format, IsBytes, Takes, IsLawful}
use Rattle.ec_formats.specs.Fields.{word, at_most, number_up_to}
use Rattle.ec_formats.specs.Lists.{optional_spell, optional_fits, flagged, optional, items_spell, items_fit, items_read, list}
use Rattle.ec_formats.proofs.Bytes.{Takes-then, Takes-behind, rest_within}
use Rattle.ec_formats.proofs.Steps.{bind_ok, bind_err, ok_is, both, first_of_both, second_of_both}
use Rattle.ec_formats.proofs.FieldLaws.{number_up_to_law}

-- values that may be missing

module _ {A : Type 0} (f : Format A) (law : IsLawful f) where
  abbrev Flagged : ℕ → List ℕ → Option A × List ℕ → Type 0
  Flagged b bytes y = Takes (b ∷ bytes) (optional_spell f y.0) y.1 × (optional_fits f y.0 ≡ true)

  flagged_takes : (b : ℕ) (bytes : List ℕ) (here : ℕ) (x : Option A × List ℕ) → IsBytes bytes → flagged f b bytes here ≡ Ok x
      → Flagged b bytes x
  flagged_takes zero bytes here x fits e =
      subst (λ (y : Option A × List ℕ). Flagged 0 bytes y) (ok_is (None, bytes) x e) (record { parts = refl; rest_fits = fits }, refl)
  flagged_takes (suc zero) bytes here x fits e =
      let a = bind_ok (f.read bytes) (λ y. Ok (Some y.0, y.1)) x e in
      let t = law.takes bytes a.0 fits a.1 in
      subst (λ (y : Option A × List ℕ). Flagged 1 bytes y) (ok_is (Some a.0.0, a.0.1) x a.2) (Takes-behind 1 bytes _ a.0.1 t.0, t.1)
  flagged_takes (suc (suc b)) bytes here x fits e = absurd cc

  optional_takes : (bytes : List ℕ) (x : Option A × List ℕ) → IsBytes bytes → (optional f).read bytes ≡ Ok x
      → Takes bytes (optional_spell f x.0) x.1 × (optional_fits f x.0 ≡ true)
  optional_takes [] x fits e = absurd cc
  optional_takes (b ∷ bytes) x fits e = flagged_takes b bytes _ x (λ i. fits (suc i)) e

  optional_again : (o : Option A) (rest : List ℕ) → optional_fits f o ≡ true → (optional f).read (optional_spell f o ++ rest) ≡ Ok (o, rest)
  optional_again None rest h = refl
  optional_again (Some a) rest h = rw (law.again a rest h) refl

  flagged_within : (b : ℕ) (bytes : List ℕ) (here left : ℕ) → IsBytes bytes → here ≡ suc (length bytes)
      → flagged f b bytes here ≡ Err left → left ≤ suc (length bytes)
  flagged_within zero bytes here left fits h e = absurd cc
  flagged_within (suc zero) bytes here left fits h e =
      elim (bind_err (f.read bytes) (λ y. Ok (Some y.0, y.1)) left e) [
        | inl at_value ↦ let there = law.within bytes left fits at_value in omega arith
        | inr a ↦ absurd cc
      ]
  flagged_within (suc (suc b)) bytes here left fits h e = let at_flag : here ≡ left = cc in omega arith

  optional_within : (bytes : List ℕ) (left : ℕ) → IsBytes bytes → (optional f).read bytes ≡ Err left → left ≤ length bytes
  optional_within [] left fits e = let none : 0 ≡ left = cc in omega arith
  optional_within (b ∷ bytes) left fits e = flagged_within b bytes _ left (λ i. fits (suc i)) refl e

  pub optional_law : IsLawful (optional f)
  optional_law = record { takes = optional_takes; again = optional_again; within = optional_within }

-- items that keep their rules

module _ {A : Type 0} (item : List A → Format A) where
  each_fits_behind : (before xs : List A) → items_fit item before xs ≡ true → (i : ℕ) (x : A) → slice_get xs i ≡ Some x
      → (item (before ++ take i xs)).fits x ≡ true
  each_fits_behind before [] h i x e = absurd cc
  each_fits_behind before (y ∷ ys) h zero x e =
      let same : y ≡ x = cc in
      let here : (item before).fits x ≡ true = subst (λ (z : A). (item before).fits z ≡ true) same (first_of_both _ _ h) in
      subst (λ (zs : List A). (item zs).fits x ≡ true) (sym (append-nil before)) here
  each_fits_behind before (y ∷ ys) h (suc i) x e =
      let there = each_fits_behind (before ++ y ∷ []) ys (second_of_both ((item before).fits y) _ h) i x e in
      subst (λ (zs : List A). (item zs).fits x ≡ true) (append_assoc before (y ∷ []) (take i ys)) there

  all_fit_behind : (before xs : List A) → ((i : ℕ) (x : A) → slice_get xs i ≡ Some x → (item (before ++ take i xs)).fits x ≡ true)
      → items_fit item before xs ≡ true
  all_fit_behind before [] each = refl
  all_fit_behind before (y ∷ ys) each =
      let here = subst (λ (zs : List A). (item zs).fits y ≡ true) (append-nil before) (each 0 y refl) in
      let regrouped = λ (i : ℕ). sym (append_assoc before (y ∷ []) (take i ys)) in
      both _ _ here (all_fit_behind (before ++ y ∷ []) ys
      (λ i x e. subst (λ (zs : List A). (item zs).fits x ≡ true) (regrouped i) (each (suc i) x e)))

  fits_behind : (before xs : List A) (x : A) → items_fit item before xs ≡ true → (item (before ++ xs)).fits x ≡ true
      → items_fit item before (xs ++ x ∷ []) ≡ true
  fits_behind before [] x h one =
      let here : (item before).fits x ≡ true = subst (λ (ys : List A). (item ys).fits x ≡ true) (append-nil before) one in
      both _ _ here refl
  fits_behind before (y ∷ ys) x h one =
      let regrouped = sym (append_assoc before (y ∷ []) ys) in
      let there = subst (λ (zs : List A). (item zs).fits x ≡ true) regrouped one in
      both _ _ (first_of_both _ _ h) (fits_behind (before ++ y ∷ []) ys x (second_of_both ((item before).fits y) _ h) there)

  -- each keeps the rules that it has behind those before it
  pub each_fits : (xs : List A) → items_fit item [] xs ≡ true → (i : ℕ) (x : A) → slice_get xs i ≡ Some x → (item (take i xs)).fits x ≡ true
  each_fits xs = each_fits_behind [] xs

  pub all_fit : (xs : List A) → ((i : ℕ) (x : A) → slice_get xs i ≡ Some x → (item (take i xs)).fits x ≡ true) → items_fit item [] xs ≡ true
  all_fit xs = all_fit_behind [] xs

  -- one more keeps the rules that it has behind them
  pub items_fit-push : (xs : List A) (x : A) → items_fit item [] xs ≡ true → (item xs).fits x ≡ true
      → items_fit item [] (xs ++ x ∷ []) ≡ true
  items_fit-push xs x h one = fits_behind [] xs x h one

-- items

module _ {A : Type 0} (item : List A → Format A) (law : (before : List A) → IsLawful (item before)) where
  -- what a reader of n items took, behind the items before them
  pub record TakesItems (before : List A) (n : ℕ) (bytes : List ℕ) (x : List A × List ℕ) : Type 0 where
    pub new : List A
    pub all : x.0 ≡ before ++ new
    pub count : length new ≡ n
    pub taken : Takes bytes (items_spell item before new) x.1
    pub fit : items_fit item before new ≡ true

  items_take : (before : List A) (n : ℕ) (bytes : List ℕ) (x : List A × List ℕ) → IsBytes bytes → items_read item before n bytes ≡ Ok x
      → TakesItems before n bytes x
  unfolding items_read
  items_take before zero bytes x fits e =
      subst (λ (y : List A × List ℕ). TakesItems before 0 bytes y) (ok_is (before, bytes) x e)
      (record { new = []; all = sym (append-nil before); count = refl; taken = record { parts = refl; rest_fits = fits }; fit = refl })
  items_take before (suc n) bytes x fits e =
      let a = bind_ok ((item before).read bytes) (λ y. items_read item (before ++ y.0 ∷ []) n y.1) x e in
      let t = (law before).takes bytes a.0 fits a.1 in
      let more = items_take (before ++ a.0.0 ∷ []) n a.0.1 x t.0.rest_fits a.2 in
      record {
        new = a.0.0 ∷ more.new;
        all = more.all ∙ append_assoc before (a.0.0 ∷ []) more.new;
        count = ap suc more.count;
        taken = Takes-then bytes ((item before).spell a.0.0) a.0.1 (items_spell item (before ++ a.0.0 ∷ []) more.new) x.1 t.0 more.taken;
        fit = both _ _ t.1 more.fit;
      }

  items_again : (before xs : List A) (rest : List ℕ) → items_fit item before xs ≡ true
      → items_read item before (length xs) (items_spell item before xs ++ rest) ≡ Ok (before ++ xs, rest)
  unfolding items_read
  items_again before [] rest h = ap (λ (ys : List A). Ok (ys, rest)) (sym (append-nil before))
  items_again before (x ∷ xs) rest h =
      let others_spelled = items_spell item (before ++ x ∷ []) xs in
      let regrouped : items_spell item before (x ∷ xs) ++ rest ≡ (item before).spell x ++ (others_spelled ++ rest) =
      append_assoc ((item before).spell x) others_spelled rest in
      let one = (law before).again x (others_spelled ++ rest) (first_of_both _ _ h) in
      let others = items_again (before ++ x ∷ []) xs rest (second_of_both _ _ h) in
      ap (items_read item before (suc (length xs))) regrouped
      ∙ rw (one, others) (ap (λ (ys : List A). Ok (ys, rest)) (append_assoc before (x ∷ []) xs))

  items_within : (before : List A) (n : ℕ) (bytes : List ℕ) (left : ℕ) → IsBytes bytes → items_read item before n bytes ≡ Err left
      → left ≤ length bytes
  unfolding items_read
  items_within before zero bytes left fits e = absurd cc
  items_within before (suc n) bytes left fits e =
      elim (bind_err ((item before).read bytes) (λ y. items_read item (before ++ y.0 ∷ []) n y.1) left e) [
        | inl at_item ↦ (law before).within bytes left fits at_item
        | inr a ↦
            let t = (law before).takes bytes a.0 fits a.1 in
            let shorter = rest_within bytes ((item before).spell a.0.0) a.0.1 t.0 in
            let there = items_within (before ++ a.0.0 ∷ []) n a.0.1 left t.0.rest_fits a.2 in
            omega arith
      ]

  -- lists

  pub list_law : (limit : ℕ) → IsLawful (list limit item)
  list_law limit =
      let counted = number_up_to_law limit in
      record {
        takes = λ bytes x fits e.
            let a = bind_ok ((number_up_to limit).read bytes) (λ n. items_read item [] n.0 n.1) x e in
            let t = counted.takes bytes a.0 fits a.1 in
            let more = items_take [] a.0.0 a.0.1 x t.0.rest_fits a.2 in
            let n : a.0.0 ≡ length x.0 = sym more.count ∙ ap length (sym more.all) in
            let second : Takes a.0.1 (items_spell item [] x.0) x.1 =
            subst (λ (ys : List A). Takes a.0.1 (items_spell item [] ys) x.1) (sym more.all) more.taken in
            let all = Takes-then bytes (word a.0.0) a.0.1 (items_spell item [] x.0) x.1 t.0 second in (
              subst (λ (k : ℕ). Takes bytes (word k ++ items_spell item [] x.0) x.1) n all,
              both _ _ (subst (λ (k : ℕ). (ltb k (2 ^ 32) && at_most limit k) ≡ true) n t.1)
                  (subst (λ (ys : List A). items_fit item [] ys ≡ true) (sym more.all) more.fit),
            );
        again = λ xs rest h.
            let one = counted.again (length xs) (items_spell item [] xs ++ rest) (first_of_both _ _ h) in
            let others = items_again [] xs rest (second_of_both _ _ h) in
            ap ((list limit item).read) (append_assoc (word (length xs)) (items_spell item [] xs) rest) ∙ rw (one, others) refl;
        within = λ bytes left fits e.
            elim (bind_err ((number_up_to limit).read bytes) (λ n. items_read item [] n.0 n.1) left e) [
              | inl at_count ↦ counted.within bytes left fits at_count
              | inr a ↦
                  let t = counted.takes bytes a.0 fits a.1 in
                  let shorter = rest_within bytes (word a.0.0) a.0.1 t.0 in
                  let there = items_within [] a.0.0 a.0.1 left t.0.rest_fits a.2 in
                  omega arith
            ];
      }
