-- Values of a frame that have one word are one value.
use Rattle.std.proofs.Common.{◌≡◌, ◌≢◌, ℕ, ◌≤◌, inl, inr, ⊎_elim, Bool, true, false, List, [], ◌∷◌, map}
use Rattle.std.proofs.Common.{Option, Some, None, refl, sym, ap, ◌∙◌, subst, arith}
use Rattle.std.specs.Option.{option_map}
use Rattle.std.specs.Prelude.{if◌then◌else◌, slice_get}
use Rattle.std.proofs.lemmas.Option.{same_Some}
use Rattle.ec_activations.proofs.Stops.{in_list, mapped}
use Rattle.ec_activations.specs.Frames.{Held, held_in, value_in}
use Rattle.ec_code.specs.declared.activation.CodeActivation.{CodeActivation}
use Rattle.ec_code.specs.Fine.{IsIn}
use Rattle.ec_code.specs.declared.code.Line.{Line}
use Rattle.ec_code.specs.declared.code.Live.{Live}
use Rattle.ec_code.specs.declared.code.Parts.{Parts}
use Rattle.ec_code.specs.declared.code.Variable.{Variable}
use Rattle.ec_machine_code.specs.Frames.{home_word, own_reference}
use Rattle.ec_machine_code.specs.Limits.{HasColumn}
use Rattle.ec_types.specs.declared.conform.static_type.StaticType.{StaticType}
use Rattle.ec_machine_code.specs.Homes.{AreHomes, IsWithin, column}
use Rattle.ec_machine_code.specs.Meeting.{Meet}
use Rattle.ec_machine_code.specs.declared.homes.Home.{Home}
use Rattle.ec_machine_code.specs.declared.homes.Home.TheVariants.{Register, Slot}
use Rattle.ec_machine_code.proofs.Variables.{one_variable}
use Rattle.ec_code.specs.Marks.{is_same}
use Rattle.ec_generate.proofs.Homed.{has_home}
use Rattle.ec_generate.specs.Entries.{result_of, typed}

-- ---- words of homes

-- a register's saved word is none of the slots, where there are at most twenty of them
one_home : (g h : Home) (slots : ℕ) → IsWithin 20 slots g → IsWithin 20 slots h → home_word g ≡ home_word h → g ≡ h
one_home (Register k) (Register j) slots a b e = let same : k ≡ j = omega (arith, e) in ap Register same
one_home (Slot n) (Slot m) slots a b e = let same : n ≡ m = omega (arith, e) in ap Slot same
one_home (Register k) (Slot m) slots a b e = absurd (omega (arith, a, e))
one_home (Slot n) (Register j) slots a b e = absurd (omega (arith, b, e))

pub not_own : (h : Home) → home_word h ≢ own_reference
not_own (Register k) e = omega (arith, e)
not_own (Slot n) e = omega (arith, e)

within_twenty : (registers slots : ℕ) (h : Home) → registers ≤ 20 → IsWithin registers slots h → IsWithin 20 slots h
within_twenty registers slots (Register k) few w = omega (arith, w)
within_twenty registers slots (Slot n) few w = w

-- ---- variables that meet

module _ (p : Parts) (a : CodeActivation) (named registers : ℕ) (code : List Line) (row : List Home)
    (are : AreHomes named 100 registers code row) (few : registers ≤ 20) (S : Variable → Type 0)
    (columns : (x : Variable) → S x → HasColumn named x) (meet : (x y : Variable) → S x → S y → x ≢ y → Meet code x y) where
  abbrev word_here : Variable → Option ℕ
  word_here x = option_map home_word (slice_get row (column named x))

  -- what an activation holds at a stop
  abbrev pub IsHeldHere : Held → Type 0
  IsHeldHere h = (h.value ≡ value_in p a h.variable) × S h.variable

  pub has_word : (h : Held) → IsHeldHere h → (g : Home) × (word_here h.variable ≡ Some (home_word g))
  has_word h is = let g = has_home named registers code row are h.variable (columns h.variable is.1) in (g.0, ap (option_map home_word) g.1)

  pub one_value_here : (h k : Held) (at : ℕ) → IsHeldHere h → IsHeldHere k → word_here h.variable ≡ Some at →
      word_here k.variable ≡ Some at → h.value ≡ k.value
  one_value_here h k at is js e f = ⊎_elim
      (λ (same : h.variable ≡ k.variable). is.0 ∙ ap (value_in p a) same ∙ sym js.0)
      (λ (ne : h.variable ≢ k.variable).
      let c = columns h.variable is.1 in
      let b = columns k.variable js.1 in
      let g = has_home named registers code row are h.variable c in
      let j = has_home named registers code row are k.variable b in
      let first : home_word g.0 ≡ at = same_Some (home_word g.0) at (sym (ap (option_map home_word) g.1) ∙ e) in
      let second : home_word j.0 ≡ at = same_Some (home_word j.0) at (sym (ap (option_map home_word) j.1) ∙ f) in
      let homes : g.0 ≡ j.0 =
      one_home g.0 j.0 100 (within_twenty registers 100 g.0 few g.2) (within_twenty registers 100 j.0 few j.2) (first ∙ sym second) in
      absurd
      (are.apart h.variable k.variable g.0 j.0 (meet h.variable k.variable is.1 js.1 ne) (c.is_variable, g.1) (b.is_variable, j.1) homes))
      (one_variable h.variable k.variable)

-- ---- what is held at a stop

pub held_is : (p : Parts) (a : CodeActivation) (ls : List Live) (S : Variable → Type 0) → ((l : Live) → IsIn l ls → S l.variable) →
    (i : ℕ) (h : Held) → slice_get (held_in p a ls) i ≡ Some h → (h.value ≡ value_in p a h.variable) × S h.variable
held_is p a ls S each i h e =
    let m = mapped (λ (l : Live). record { variable = l.variable; value = value_in p a l.variable }) ls i h e in
    let variable : h.variable ≡ m.0.variable = ap (λ (k : Held). k.variable) m.2 in
    let value : h.value ≡ value_in p a m.0.variable = ap (λ (k : Held). k.value) m.2 in
    (value ∙ ap (value_in p a) (sym variable), subst S (sym variable) (each m.0 (in_list ls i m.0 m.1)))

pub typed_variable : (live : List Live) (x : Variable) → (typed live x).variable ≡ x
typed_variable [] x = refl
typed_variable (l ∷ ls) x = by (is_same l.variable x) refl (typed_variable ls x)
  where
    by : (b : Bool) → is_same l.variable x ≡ b → (typed ls x).variable ≡ x →
        (if b then record { variable = x; of = l.of } else typed ls x).variable ≡ x
    by true e r = refl
    by false e r = r

pub in_typed : (live : List Live) (xs : List Variable) (l : Live) → IsIn l (map (typed live) xs) → IsIn l.variable xs
in_typed live [] l h = absurd h
in_typed live (x ∷ xs) l (inl e) = inl (ap (λ (k : Live). k.variable) e ∙ typed_variable live x)
in_typed live (x ∷ xs) l (inr h) = inr (in_typed live xs l h)

-- the variable that takes what a stop gives
pub result_variable : (into : Option Variable) (given : Option StaticType) (l : Live) → result_of into given ≡ Some l →
    into ≡ Some l.variable
result_variable None None l e = absurd cc
result_variable None (Some t) l e = absurd cc
result_variable (Some x) None l e = absurd cc
result_variable (Some x) (Some t) l e =
    let same : record { variable = x; of = t } ≡ l = same_Some _ l e in ap (λ (k : Live). Some k.variable) same
