-- One part more, one value or two, and what is told of room.
use Rattle.std.proofs.Common.{◌≡◌, ◌≢◌, ℕ, ◌+◌, ◌<◌, ◌==◌, Bool, true, false, List, [], ◌∷◌, Option, Some}
use Rattle.std.proofs.Common.{None, refl, sym, ap, ◌∙◌, subst, arith, ⊎_elim, ℤ, pos, negsuc}
use Rattle.std.proofs.lemmas.Bool.{eq-eqb, eqb-true}
use Rattle.std.proofs.lemmas.List.{append-nil}
use Rattle.std.proofs.lemmas.List.Sums.{sum_by-cons}
use Rattle.std.proofs.lemmas.Option.{same_Some}
use Rattle.std.specs.Prelude.{IfNone, IfSome, if◌then◌else◌, is_some, slice_get}
use Rattle.ec_objects.specs.Lacks.{HasRoomForAll, LacksRoom, needs_at}
use Rattle.ec_objects.specs.Values.{TextsFit}
use Rattle.ec_parcel_fits.specs.Unfitting.{RoomFails}
use Rattle.ec_parcels.specs.Classes.{ClassTable}
use Rattle.ec_parcels.specs.Owners.{all_blocks, all_values, blocks_in, values_in}
use Rattle.ec_things.specs.Store.{Store}
use Rattle.ec_things.specs.Texts.{NewBytes}
use Rattle.ec_wire.specs.declared.parcel.Contents.{Contents}
use Rattle.ec_world.proofs.Keys.{same_or_not}
use Rattle.ec_world.specs.Group.{Has}
use Rattle.ec_world.specs.Held.{Lacks}
use Rattle.ec_world.specs.Same.{are_same, is_same_number, is_same_text, is_same_truth}
use Rattle.ec_world.specs.declared.room.Lack.{Lack}
use Rattle.ec_world.specs.declared.room.Part.{Part}
use Rattle.ec_world.specs.declared.room.Part.TheVariants.{Blocks, Text}
use Rattle.ec_world.specs.declared.value.Value.{Value}
use Rattle.ec_world.specs.declared.value.Value.TheVariants.{Int, Str, Ref, Nil, Bool as Truth}

-- what holds of the first n holds of one more
pub next_too : {A : Type 0} (P : A → Type 0) (xs : List A) (n : ℕ) (y : A) → slice_get xs n ≡ Some y → P y →
    ((i : ℕ) (x : A) → i < n → slice_get xs i ≡ Some x → P x) → (i : ℕ) (x : A) → i < n + 1 → slice_get xs i ≡ Some x →
    P x
next_too P xs n y is here before i x lt e = ⊎_elim
    (λ (same : i ≡ n). subst P (same_Some y x (sym is ∙ ap (slice_get xs) (sym same) ∙ e)) here)
    (λ (ne : i ≢ n). before i x (omega (arith, lt, ne)) e)
    (same_or_not i n)

pub none_told : {A P : Type 0} (o : Option A) → ((x : A) → o ≡ Some x → ⊥) → IfNone o P → P
none_told None none told = told
none_told (Some x) none told = absurd (none x refl)

pub none_there : {A P : Type 0} (o : Option A) → is_some o ≡ false → IfNone o P → P
none_there None none told = told
none_there (Some x) none told = absurd cc

-- ---- values

one_number : (a b : ℤ) → is_same_number a b ≡ true → a ≡ b
one_number (pos a) (pos b) e = ap pos (eqb-true a b e)
one_number (negsuc a) (negsuc b) e = ap negsuc (eqb-true a b e)
one_number (pos a) (negsuc b) e = absurd cc
one_number (negsuc a) (pos b) e = absurd cc

same_number : (a : ℤ) → is_same_number a a ≡ true
same_number (pos a) = eq-eqb a a refl
same_number (negsuc a) = eq-eqb a a refl

one_truth : (a b : Bool) → is_same_truth a b ≡ true → a ≡ b
one_truth true true e = refl
one_truth false false e = refl
one_truth true false e = absurd cc
one_truth false true e = absurd cc

same_truth : (a : Bool) → is_same_truth a a ≡ true
same_truth true = refl
same_truth false = refl

text_step : (a b : ℕ) (s t : List ℕ) (q : Bool) → (a == b) ≡ q → (is_same_text s t ≡ true → s ≡ t) →
    (if q then is_same_text s t else false) ≡ true → a ∷ s ≡ b ∷ t
text_step a b s t true is same e = ap (λ n. n ∷ s) (eqb-true a b is) ∙ ap (λ r. b ∷ r) (same e)
text_step a b s t false is same e = absurd cc

one_text : (s t : List ℕ) → is_same_text s t ≡ true → s ≡ t
one_text [] [] e = refl
one_text [] (b ∷ t) e = absurd cc
one_text (a ∷ s) [] e = absurd cc
one_text (a ∷ s) (b ∷ t) e = text_step a b s t (a == b) refl (one_text s t) e

same_text : (s : List ℕ) → is_same_text s s ≡ true
same_text [] = refl
same_text (a ∷ s) = ap (λ q. if q then is_same_text s s else false) (eq-eqb a a refl) ∙ same_text s

one_value : (u v : Value) → are_same u v ≡ Some true → u ≡ v
one_value (Int a) (Int b) e = ap Int (one_number a b (same_Some (is_same_number a b) true e))
one_value (Truth a) (Truth b) e = ap Truth (one_truth a b (same_Some (is_same_truth a b) true e))
one_value (Str a) (Str b) e = ap Str (one_text a b (same_Some (is_same_text a b) true e))
one_value (Ref a) (Ref b) e = ap Ref (eqb-true a b (same_Some (a == b) true e))
one_value Nil Nil e = refl
one_value (Int a) (Truth b) e = absurd cc
one_value (Int a) (Str b) e = absurd cc
one_value (Int a) (Ref b) e = absurd cc
one_value (Int a) Nil e = absurd cc
one_value (Truth a) (Int b) e = absurd cc
one_value (Truth a) (Str b) e = absurd cc
one_value (Truth a) (Ref b) e = absurd cc
one_value (Truth a) Nil e = absurd cc
one_value (Str a) (Int b) e = absurd cc
one_value (Str a) (Truth b) e = absurd cc
one_value (Str a) (Ref b) e = absurd cc
one_value (Str a) Nil e = absurd cc
one_value (Ref a) (Int b) e = absurd cc
one_value (Ref a) (Truth b) e = absurd cc
one_value (Ref a) (Str b) e = absurd cc
one_value (Ref a) Nil e = absurd cc
one_value Nil (Int b) e = absurd cc
one_value Nil (Truth b) e = absurd cc
one_value Nil (Str b) e = absurd cc
one_value Nil (Ref b) e = absurd cc

same_value : (v : Value) → are_same v v ≡ Some true
same_value (Int z) = ap Some (same_number z)
same_value (Truth b) = ap Some (same_truth b)
same_value (Str t) = ap Some (same_text t)
same_value (Ref o) = ap Some (eq-eqb o o refl)
same_value Nil = refl

module _ (u v a b : Value) (r : Option Bool) (t : Bool) (first : u ≡ a) (second : v ≡ b) (is : r ≡ are_same u v)
    (told : r ≡ Some t) where
  same_told : are_same a b ≡ Some t
  same_told = ap (λ (x : Value). are_same a x) (sym second) ∙ ap (λ (x : Value). are_same x v) (sym first) ∙ sym is ∙ told

  pub one_told : t ≡ true → a ≡ b
  one_told e = one_value a b (same_told ∙ ap Some e)

  pub two_told : t ≡ false → a ≢ b
  two_told e same =
      let yes : are_same a b ≡ Some true = ap (are_same a) (sym same) ∙ same_value a in
      let no : are_same a b ≡ Some false = same_told ∙ ap Some e in
      cc

-- ---- room

module _ (table : ClassTable) (s : Store) (x : Contents) where
  one_sum : all_blocks table (x ∷ []) ≡ blocks_in table x
  one_sum = let sum = sum_by-cons (blocks_in table) x [] in omega (arith, sum)

  fails_so : (lack : Lack) (p : Part) → lack.part ≡ p →
      LacksRoom s 0 (all_blocks table (x ∷ [])) (all_values (x ∷ [])) lack → RoomFails table s x p
  fails_so lack Blocks is l =
      let told : Lacks Blocks (needs_at s (all_blocks table (x ∷ [])) l.bytes) lack.need lack.free =
      subst (λ p. Lacks p (needs_at s (all_blocks table (x ∷ [])) l.bytes) lack.need lack.free) is l.lacks in
      let more = told.2 in
      let sum = one_sum in
      omega (arith, more, sum)
  fails_so lack Text is l =
      let told : Lacks Text (needs_at s (all_blocks table (x ∷ [])) l.bytes) lack.need lack.free =
      subst (λ p. Lacks p (needs_at s (all_blocks table (x ∷ [])) l.bytes) lack.need lack.free) is l.lacks in (
        l.bytes,
        (
          subst (λ (vs : List Value). NewBytes (λ text. Has vs (Str text)) s l.bytes) (append-nil (values_in x)) l.new,
          told.3,
        ),
      )

  pub room_fails : (r : Option Lack) (lack : Lack) → r ≡ Some lack →
      IfSome r (λ l. LacksRoom s 0 (all_blocks table (x ∷ [])) (all_values (x ∷ [])) l) → RoomFails table s x lack.part
  room_fails None lack is told = absurd cc
  room_fails (Some l) lack is told =
      fails_so lack lack.part refl
      (subst (λ (y : Lack). LacksRoom s 0 (all_blocks table (x ∷ [])) (all_values (x ∷ [])) y) (same_Some l lack is) told)

  pub has_room : (r : Option Lack) → r ≡ None →
      IfNone r (HasRoomForAll s (all_blocks table (x ∷ [])) (all_values (x ∷ []))) →
      HasRoomForAll s (blocks_in table x) (values_in x)
  has_room (Some l) is told = absurd cc
  has_room None is told = record {
    blocks_fit = (let fit = told.blocks_fit in let sum = one_sum in omega (arith, fit, sum));
    texts_fit = subst (λ (vs : List Value). TextsFit s vs) (append-nil (values_in x)) told.texts_fit;
  }
