-- The parts of the wire form are lawful formats.
use Rattle.std.proofs.Common.{◌≡◌, ℕ, zero, suc, ◌+◌, ◌-◌, ◌≤◌, true, List, [], ◌∷◌, ◌++◌, length, Result, Ok, Err, refl, subst, arith, inl}
use Rattle.std.proofs.Common.{inr}
use Rattle.ec_base.specs.Stack.{top_of}
use Rattle.ec_world.specs.declared.value.Value.{Value}
use Rattle.ec_world.specs.declared.value.Value.TheVariants.{Int, Str, Ref, Nil, Bool as Truth}
use Rattle.ec_formats.specs.Format.{◌>>=◌, Format, Read, IsBytes, Takes, IsLawful, whole, placed}
use Rattle.ec_formats.specs.Fields.{number, number_from, integer, truth, text}
use Rattle.ec_formats.specs.Lists.{list_of}
use Rattle.ec_formats.proofs.Bytes.{Takes-behind}
use Rattle.ec_formats.proofs.Steps.{bind_ok, bind_err, ok_is}
use Rattle.ec_formats.proofs.CombinatorLaws.{such_that_law, pair_law, through_law}
use Rattle.ec_formats.proofs.FieldLaws.{mark_law, number_law, number_from_law, number_above_law, integer_law, truth_law, truth_fits}
use Rattle.ec_formats.proofs.FieldLaws.{text_law}
use Rattle.ec_formats.proofs.ListLaws.{optional_law, list_law}
use Rattle.ec_formats.proofs.Wholes.{whole_within}
use Rattle.ec_wire.specs.declared.parcel.ObjectPart.{ObjectPart}
use Rattle.ec_wire.specs.declared.parcel.MonitorPart.{MonitorPart}
use Rattle.ec_wire.specs.declared.parcel.ActivationPart.{ActivationPart}
use Rattle.ec_wire.specs.declared.parcel.Contents.{Contents}
use Rattle.ec_wire.specs.Laws.{FaultsWithin}
use Rattle.ec_wire.specs.WireForm.{value_spell, value_fits, tagged, value_read, value, last_number, object, hold, most, monitor_record}
use Rattle.ec_wire.specs.WireForm.{last_object, monitor, process_follows, depth_follows, activation, letters, version, parcel}

-- values

-- what stands behind a tag is spelled so
abbrev Tagged : ℕ → List ℕ → Value × List ℕ → Type 0
Tagged tag bytes x = Takes (tag ∷ bytes) (value_spell x.0) x.1 × (value_fits x.0 ≡ true)

tagged_takes : (tag : ℕ) (bytes : List ℕ) (here : ℕ) (x : Value × List ℕ) → IsBytes bytes → tagged tag bytes here ≡ Ok x
    → Tagged tag bytes x
unfolding value_fits
tagged_takes zero bytes here x fits e =
    subst (λ (y : Value × List ℕ). Tagged 0 bytes y) (ok_is (Nil, bytes) x e) (record { parts = refl; rest_fits = fits }, refl)
tagged_takes (suc zero) bytes here x fits e =
    let a = bind_ok (integer.read bytes) (λ z. Ok (Int z.0, z.1)) x e in
    let t = integer_law.takes bytes a.0 fits a.1 in
    subst (λ (y : Value × List ℕ). Tagged 1 bytes y) (ok_is (Int a.0.0, a.0.1) x a.2) (Takes-behind 1 bytes _ a.0.1 t.0, t.1)
tagged_takes (suc (suc zero)) bytes here x fits e =
    let a = bind_ok (truth.read bytes) (λ b. Ok (Truth b.0, b.1)) x e in
    let t = truth_law.takes bytes a.0 fits a.1 in
    subst (λ (y : Value × List ℕ). Tagged 2 bytes y) (ok_is (Truth a.0.0, a.0.1) x a.2) (Takes-behind 2 bytes _ a.0.1 t.0, refl)
tagged_takes (suc (suc (suc zero))) bytes here x fits e =
    let a = bind_ok ((text 65535).read bytes) (λ s. Ok (Str s.0, s.1)) x e in
    let t = (text_law 65535).takes bytes a.0 fits a.1 in
    subst (λ (y : Value × List ℕ). Tagged 3 bytes y) (ok_is (Str a.0.0, a.0.1) x a.2) (Takes-behind 3 bytes _ a.0.1 t.0, t.1)
tagged_takes (suc (suc (suc (suc zero)))) bytes here x fits e =
    let a = bind_ok ((number_from 1).read bytes) (λ o. Ok (Ref o.0, o.1)) x e in
    let t = (number_from_law 1).takes bytes a.0 fits a.1 in
    subst (λ (y : Value × List ℕ). Tagged 4 bytes y) (ok_is (Ref a.0.0, a.0.1) x a.2) (Takes-behind 4 bytes _ a.0.1 t.0, t.1)
tagged_takes (suc (suc (suc (suc (suc t))))) bytes here x fits e = absurd cc

value_takes : (bytes : List ℕ) (x : Value × List ℕ) → IsBytes bytes → value_read bytes ≡ Ok x
    → Takes bytes (value_spell x.0) x.1 × (value_fits x.0 ≡ true)
unfolding value_read
value_takes [] x fits e = absurd cc
value_takes (tag ∷ bytes) x fits e = tagged_takes tag bytes _ x (λ i. fits (suc i)) e

value_again : (v : Value) (rest : List ℕ) → value_fits v ≡ true → value_read (value_spell v ++ rest) ≡ Ok (v, rest)
unfolding value_read value_fits
value_again Nil rest h = refl
value_again (Int z) rest h = rw (integer_law.again z rest h) refl
value_again (Truth b) rest h = rw (truth_law.again b rest (truth_fits b)) refl
value_again (Str s) rest h = rw ((text_law 65535).again s rest h) refl
value_again (Ref o) rest h = rw ((number_from_law 1).again o rest h) refl

-- a value that is made of one that was read
abbrev made : {A B : Type 0} → Format A → (A → B) → List ℕ → Read B
made f make bytes = f.read bytes >>= λ a. Ok (make a.0, a.1)

within_made : {A B : Type 0} (f : Format A) → IsLawful f → (make : A → B) (bytes : List ℕ) (left : ℕ) → IsBytes bytes
    → made f make bytes ≡ Err left → left ≤ suc (length bytes)
within_made f law make bytes left fits e =
    elim (bind_err (f.read bytes) (λ a. Ok (make a.0, a.1)) left e) [
      | inl at_value ↦ let there = law.within bytes left fits at_value in omega arith
      | inr a ↦ absurd cc
    ]

tagged_within : (tag : ℕ) (bytes : List ℕ) (here left : ℕ) → IsBytes bytes → here ≡ suc (length bytes) → tagged tag bytes here ≡ Err left
    → left ≤ suc (length bytes)
tagged_within zero bytes here left fits h e = absurd cc
tagged_within (suc zero) bytes here left fits h e = within_made integer integer_law Int bytes left fits e
tagged_within (suc (suc zero)) bytes here left fits h e = within_made truth truth_law Truth bytes left fits e
tagged_within (suc (suc (suc zero))) bytes here left fits h e = within_made (text 65535) (text_law 65535) Str bytes left fits e
tagged_within (suc (suc (suc (suc zero)))) bytes here left fits h e = within_made (number_from 1) (number_from_law 1) Ref bytes left fits e
tagged_within (suc (suc (suc (suc (suc t))))) bytes here left fits h e = let at_tag : here ≡ left = cc in omega arith

value_within : (bytes : List ℕ) (left : ℕ) → IsBytes bytes → value_read bytes ≡ Err left → left ≤ length bytes
unfolding value_read
value_within [] left fits e = let none : 0 ≡ left = cc in omega arith
value_within (tag ∷ bytes) left fits e = tagged_within tag bytes _ left (λ i. fits (suc i)) refl e

pub value_law : IsLawful value
value_law = record { takes = value_takes; again = value_again; within = value_within }

pub values_law : (limit : ℕ) → IsLawful (list_of limit value)
values_law limit = list_law (λ _. value) (λ _. value_law) limit

-- objects

pub object_law : (before : List ObjectPart) → IsLawful (object before)
object_law before = through_law _ _ _ (λ x h. refl) (λ o. refl)
    (pair_law _ _ (number_above_law (last_number (top_of before))) (λ _. pair_law _ _ number_law (λ _. values_law 16384)))

-- monitors

pub hold_law : IsLawful hold
hold_law = through_law _ _ _ (λ x h. refl) (λ h. refl) (pair_law _ _ number_law (λ _. number_from_law 1))

holds_law : IsLawful (list_of most hold)
holds_law = list_law (λ _. hold) (λ _. hold_law) most

pub monitor_record_law : IsLawful monitor_record
monitor_record_law = through_law _ _ _ (λ x h. refl) (λ m. refl)
    (pair_law _ _ (optional_law hold hold_law) (λ _. pair_law _ _ (list_law (λ _. number) (λ _. number_law) most)
    (λ _. pair_law _ _ holds_law (λ _. list_law (λ _. list_of most hold) (λ _. holds_law) most))))

pub monitor_law : (before : List MonitorPart) → IsLawful (monitor before)
monitor_law before = through_law _ _ _ (λ x h. refl) (λ m. refl)
    (pair_law _ _ (number_above_law (last_object (top_of before))) (λ _. monitor_record_law))

-- activations

pub activation_law : (before : List ActivationPart) → IsLawful (activation before)
activation_law before = through_law _ _ _ (λ x h. refl) (λ a. refl)
    (pair_law _ _ (such_that_law number (process_follows (top_of before)) number_law) (λ process.
    pair_law _ _ (such_that_law number (depth_follows (top_of before) process) number_law)
    (λ _. pair_law _ _ number_law (λ _. pair_law _ _ number_law
    (λ _. pair_law _ _ truth_law (λ _. pair_law _ _ (number_from_law 1) (λ _. values_law 100)))))))

-- parcels

pub parcel_law : IsLawful parcel
parcel_law = through_law _ _ _ (λ x h. refl) (λ p. refl)
    (pair_law _ _ (mark_law letters) (λ _. pair_law _ _ (mark_law version)
    (λ _. pair_law _ _ (list_law object object_law most)
    (λ _. pair_law _ _ (list_law monitor monitor_law most) (λ _. list_law activation activation_law most)))))

-- a fault's place, and the bytes that are left there
placed_within : (bytes : List ℕ) (r : Result Contents ℕ) (at : ℕ) → ((left : ℕ) → r ≡ Err left → left ≤ length bytes)
    → placed (length bytes) r ≡ Err at
    → (left : ℕ) × (r ≡ Err left) × (at + left ≡ length bytes)
placed_within bytes (Ok p) at within e = absurd cc
placed_within bytes (Err left) at within e =
    let there = within left refl in
    let place : length bytes - left ≡ at = cc in
    (left, refl, omega arith)

pub faults_within : FaultsWithin
faults_within bytes at fits e = placed_within bytes (whole parcel bytes) at (λ left f. whole_within parcel parcel_law bytes left fits f) e
