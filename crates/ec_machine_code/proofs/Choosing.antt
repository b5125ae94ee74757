-- Homes that are chosen one after another are as they have to be.
use Rattle.std.proofs.Common.{◌≡◌, ◌≢◌, ℕ, zero, suc, ◌+◌, ◌-◌, ◌<◌, ◌≤◌, Bool, true, false, ◌⊎◌, inl, inr, ⊎_elim, List, [], ◌∷◌}
use Rattle.std.proofs.Common.{◌++◌, length, take, Some, slice_get, refl, sym, ap, subst, ◌∙◌, arith, lt-ltb, ltb-true}
use Rattle.std.specs.Prelude.{if◌then◌else◌, nat_lt}
use Rattle.ec_base.proofs.Lists.{get_within}
use Rattle.ec_code.specs.declared.code.Line.{Line}
use Rattle.ec_code.specs.declared.code.Variable.{Variable}
use Rattle.ec_code.specs.declared.code.Variable.TheVariants.{Named, Temporary}
use Rattle.ec_code.specs.Fine.{IsIn}
use Rattle.ec_machine_code.proofs.Marking.{row_has, row_only}
use Rattle.ec_machine_code.proofs.Swapping.{meet_swapped}
use Rattle.ec_machine_code.specs.Homes.{AreHomes, HasItsVariables, IsVariable, IsWithin, LivesIn, column}
use Rattle.ec_machine_code.specs.Meeting.{Meet, met_by}
use Rattle.ec_machine_code.specs.Rows.{IsChosen, row_of, variable_at}
use Rattle.ec_machine_code.specs.declared.homes.Home.{Home}
use Rattle.ec_machine_code.specs.declared.homes.Home.TheVariants.{Register, Slot}

-- ---- lists

module _ {A : Type 0} where
  taken_length : (xs : List A) (c : ℕ) → c ≤ length xs → length (take c xs) ≡ c
  taken_length xs zero h = refl
  taken_length [] (suc c) h = absurd (omega arith)
  taken_length (x ∷ xs) (suc c) h = ap suc (taken_length xs c (omega arith))

  taken_get : (xs : List A) (c d : ℕ) → d < c → slice_get (take c xs) d ≡ slice_get xs d
  taken_get xs zero d h = absurd (omega arith)
  taken_get [] (suc c) d h = refl
  taken_get (x ∷ xs) (suc c) zero h = refl
  taken_get (x ∷ xs) (suc c) (suc d) h = taken_get xs c d (omega arith)

  taken_below : (xs : List A) (c d : ℕ) (x : A) → slice_get (take c xs) d ≡ Some x → d < c
  taken_below xs zero d x e = cc
  taken_below [] (suc c) d x e = cc
  taken_below (y ∷ xs) (suc c) zero x e = omega arith
  taken_below (y ∷ xs) (suc c) (suc d) x e = let h = taken_below xs c d x e in omega arith

  append_last : (xs : List A) (y x : A) (c : ℕ) → slice_get (xs ++ y ∷ []) c ≡ Some x →
      ((c ≡ length xs) × (x ≡ y)) ⊎ ((c < length xs) × (slice_get xs c ≡ Some x))
  append_last [] y x zero e = inl (refl, cc)
  append_last [] y x (suc c) e = cc
  append_last (z ∷ xs) y x zero e = let h : 0 < suc (length xs) = omega arith in inr (h, e)
  append_last (z ∷ xs) y x (suc c) e = ⊎_elim (λ f. inl (ap suc f.0, f.1))
      (λ f. let h : suc c < suc (length xs) = omega (arith, f.0) in inr (h, f.1)) (append_last xs y x c e)

  append_taken : (xs : List A) (y : A) (c : ℕ) → c ≤ length xs → take c (xs ++ y ∷ []) ≡ take c xs
  append_taken xs y zero h = refl
  append_taken [] y (suc c) h = absurd (omega arith)
  append_taken (x ∷ xs) y (suc c) h = ap (λ r. x ∷ r) (append_taken xs y c (omega arith))

  all_taken : (xs : List A) → take (length xs) xs ≡ xs
  all_taken [] = refl
  all_taken (x ∷ xs) = ap (λ r. x ∷ r) (all_taken xs)

-- ---- columns

at_least : (a b : ℕ) → nat_lt (a + b) a ≡ false
at_least a b = by (nat_lt (a + b) a) refl
  where
    by : (t : Bool) → nat_lt (a + b) a ≡ t → nat_lt (a + b) a ≡ false
    by true e = let h = ltb-true (a + b) a e in absurd (omega (arith, h))
    by false e = e

less_than : (a b : ℕ) → (a + b) - a ≡ b
less_than a b = omega arith

if_true : (b : Bool) (x y : Variable) → b ≡ true → (if b then x else y) ≡ x
if_true true x y e = refl
if_true false x y e = absurd (let f : false ≡ true = e in cc)

if_false : (b : Bool) (x y : Variable) → b ≡ false → (if b then x else y) ≡ y
if_false true x y e = absurd (let f : true ≡ false = e in cc)
if_false false x y e = refl

variable_there : (named : ℕ) (x : Variable) → IsVariable named x → variable_at named (column named x) ≡ x
variable_there named (Named n) h = if_true (nat_lt n named) (Named n) (Temporary (n - named)) (lt-ltb n named h)
variable_there named (Temporary d) h =
    if_false (nat_lt (named + d) named) (Named (named + d)) (Temporary ((named + d) - named)) (at_least named d)
    ∙ ap Temporary (less_than named d)

column_of : (named : ℕ) (x y : Variable) → IsVariable named x → IsVariable named y → column named x ≡ column named y → x ≡ y
column_of named x y h k e =
    sym (variable_there named x h) ∙ ap (variable_at named) e ∙ variable_there named y k

less : (a b : ℕ) → (a < b) ⊎ (b ≤ a)
less a zero = let h : 0 ≤ a = omega arith in inr h
less zero (suc b) = let h : 0 < suc b = omega arith in inl h
less (suc a) (suc b) = ⊎_elim (λ h. let g : suc a < suc b = omega (arith, h) in inl g)
    (λ h. let g : suc b ≤ suc a = omega (arith, h) in inr g) (less a b)

least : (a b : ℕ) → a ≤ b → (a < b) ⊎ (a ≡ b)
least a b h = ⊎_elim (λ l. inl l) (λ g. let e : a ≡ b = omega (arith, h, g) in inr e) (less a b)

-- ---- homes, each chosen over those before it

module _ (named count registers : ℕ) (code : List Line) where
  abbrev row_at : ℕ → List Bool
  row_at c = row_of named count code (variable_at named c)

  abbrev pub AreChosen : List Home → Type 0
  AreChosen homes = (c : ℕ) (h : Home) → slice_get homes c ≡ Some h → IsChosen (row_at c) (take c homes) registers h

  pub none_chosen : AreChosen []
  none_chosen c h e = cc

  pub one_more : (homes : List Home) (h : Home) (n : ℕ) → n ≡ length homes → AreChosen homes → IsChosen (row_at n) homes registers h →
      AreChosen (homes ++ h ∷ [])
  one_more homes h n at all chosen c g e = ⊎_elim
      (λ (f : (c ≡ length homes) × (g ≡ h)).
      let same : take c (homes ++ h ∷ []) ≡ homes =
      append_taken homes h c (omega (arith, f.0)) ∙ ap (λ k. take k homes) f.0 ∙ all_taken homes in
      let here : c ≡ n = f.0 ∙ sym at in
      subst (λ l. IsChosen (row_at c) l registers g) (sym same)
      (subst (λ k. IsChosen (row_at k) homes registers g) (sym here)
      (subst (λ k. IsChosen (row_at n) homes registers k) (sym f.1) chosen)))
      (λ (f : (c < length homes) × (slice_get homes c ≡ Some g)).
      subst (λ l. IsChosen (row_at c) l registers g) (sym (append_taken homes h c (omega (arith, f.0)))) (all c g f.1))
      (append_last homes h g c e)

  module _ (homes : List Home) (chosen : AreChosen homes) (full : length homes ≡ count) where
    within_by : (c : ℕ) (h : Home) → c < length homes → IsChosen (row_at c) (take c homes) registers h → IsWithin registers count h
    within_by c (Register k) l i = i.0
    within_by c (Slot n) l i = let t = taken_length homes c (omega (arith, l)) in omega (arith, i.0, t, l, full)

    within : (c : ℕ) (h : Home) → slice_get homes c ≡ Some h → IsWithin registers count h
    within c h e = within_by c h (get_within homes c h e) (chosen c h e)

    -- the variable of a later column, which meets that of an earlier one, has another home
    later_by : (x y : Variable) (g h : Home) → IsIn y (met_by x code) → column named y < column named x → LivesIn named homes x g →
        LivesIn named homes y h → IsChosen (row_of named count code x) (take (column named x) homes) registers g → g ≢ h
    later_by x y (Register k) (Register j) i l a b c e =
        let there : column named y < count = omega (arith, get_within homes (column named y) (Register j) b.1, full) in
        let same : j ≡ k = cc in
        c.1 (column named y) j (row_has named count code x y i there)
        (taken_get homes (column named x) (column named y) l ∙ b.1) same
    later_by x y (Register k) (Slot m) i l a b c e = cc
    later_by x y (Slot n) (Register j) i l a b c e = cc
    later_by x y (Slot n) (Slot m) i l a b c e =
        let s = get_within homes (column named x) (Slot n) a.1 in
        let r = get_within homes (column named y) (Slot m) b.1 in
        let d = chosen (column named y) (Slot m) b.1 in
        let t = taken_length homes (column named x) (omega (arith, s)) in
        let u = taken_length homes (column named y) (omega (arith, r)) in
        let same : n ≡ m = cc in
        absurd (omega (arith, c.0, d.0, t, u, l, same))

    chosen_for : (x : Variable) (g : Home) → LivesIn named homes x g →
        IsChosen (row_of named count code x) (take (column named x) homes) registers g
    chosen_for x g a =
        subst (λ v. IsChosen (row_of named count code v) (take (column named x) homes) registers g) (variable_there named x a.0)
        (chosen (column named x) g a.1)

    later : (x y : Variable) (g h : Home) → Meet code x y → column named y < column named x → LivesIn named homes x g →
        LivesIn named homes y h → g ≢ h
    later x y g h m l a b = later_by x y g h m.1 l a b (chosen_for x g a)

    apart : (x y : Variable) (g h : Home) → Meet code x y → LivesIn named homes x g → LivesIn named homes y h → g ≢ h
    apart x y g h m a b e = ⊎_elim
        (λ (l : column named y < column named x). later x y g h m l a b e)
        (λ (f : column named x ≤ column named y). ⊎_elim
        (λ (l : column named x < column named y). later y x h g (meet_swapped x y code m) l b a (sym e))
        (λ (same : column named x ≡ column named y). m.0 (column_of named x y a.0 b.0 same)) (least (column named x) (column named y) f))
        (less (column named y) (column named x))

    needed : HasItsVariables named code → (x : Variable) (n k : ℕ) → LivesIn named homes x (Slot n) → k < registers →
        (y : Variable) × Meet code x y × LivesIn named homes y (Register k)
    needed has x n k a l =
        let i = chosen_for x (Slot n) a in
        let f = i.1 k l in
        let y = row_only named count code x f.0 f.1 in
        let below = taken_below homes (column named x) f.0 (Register k) f.2 in
        let there : slice_get homes f.0 ≡ Some (Register k) =
        sym (taken_get homes (column named x) f.0 below) ∙ f.2 in (
          y.0,
          ((λ e. let same : column named x ≡ column named y.0 = ap (column named) e in absurd (omega (arith, below, y.2, same))), y.1),
          ((has x y.0 y.1).1, subst (λ c. slice_get homes c ≡ Some (Register k)) y.2 there),
        )

    pub are_homes : HasItsVariables named code → AreHomes named count registers code homes
    are_homes has = record { all = full; within = within; apart = apart; needed = needed has }
