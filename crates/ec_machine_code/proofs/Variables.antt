-- Variables that are set, and fields of the own object that are stored.
use Rattle.std.proofs.Common.{◌≡◌, ◌≢◌, ℕ, zero, suc, ◌-◌, ◌<◌, ◌⊎◌, List, [], ◌∷◌, length, Option, Some, None, refl, sym, ap, ◌∙◌, arith}
use Rattle.std.proofs.Common.{inl, inr, ⊎_elim}
use Rattle.std.specs.Prelude.{slice_get, slice_set}
use Rattle.std.proofs.lemmas.Bool.{cases_eq}
use Rattle.std.proofs.lemmas.Option.{same_Some}
use Rattle.ec_base.proofs.Lists.{get_set_same, get_set_other, length_set, get_within}
use Rattle.ec_code.specs.Steps.{Machine, variable_at, put, with_variable, own_field, with_field, field_in}
use Rattle.ec_code.specs.declared.code.Variable.{Variable}
use Rattle.ec_code.specs.declared.code.Variable.TheVariants.{Named, Temporary}
use Rattle.ec_world.specs.Objects.{object_at, changed_if, changed_object}
use Rattle.ec_world.specs.Outcomes.{with_element}
use Rattle.ec_world.specs.declared.common.Common.{Common}
use Rattle.ec_world.specs.declared.object.ObjectRec.{ObjectRec}
use Rattle.ec_world.specs.declared.value.Value.{Value}

-- ---- variables

named_is : Variable → ℕ → ℕ
named_is (Named n) d = n
named_is (Temporary k) d = d

temporary_is : Variable → ℕ → ℕ
temporary_is (Named n) d = d
temporary_is (Temporary k) d = k

pub one_variable : (x y : Variable) → (x ≡ y) ⊎ (x ≢ y)
unfolding named_is temporary_is
one_variable (Named m) (Named n) = ⊎_elim
    (λ (e : m ≡ n). inl (ap Named e))
    (λ (ne : m ≢ n). inr (λ (e : Named m ≡ Named n). ne (ap (λ x. named_is x 0) e)))
    (cases_eq m n)
one_variable (Named m) (Temporary e) = inr (λ h. (cc))
one_variable (Temporary d) (Named n) = inr (λ h. (cc))
one_variable (Temporary d) (Temporary e) = ⊎_elim
    (λ (h : d ≡ e). inl (ap Temporary h))
    (λ (ne : d ≢ e). inr (λ (h : Temporary d ≡ Temporary e). ne (ap (λ x. temporary_is x 0) h)))
    (cases_eq d e)

put_same : (vs : List Value) (i : ℕ) (v : Value) → slice_get (put vs i v) i ≡ Some v
put_same [] zero v = refl
put_same [] (suc i) v = put_same [] i v
put_same (x ∷ xs) zero v = refl
put_same (x ∷ xs) (suc i) v = put_same xs i v

put_other : (vs : List Value) (i j : ℕ) (v u : Value) → j ≢ i → slice_get vs j ≡ Some u → slice_get (put vs i v) j ≡ Some u
put_other [] i j v u apart e = cc
put_other (x ∷ xs) zero zero v u apart e = absurd (apart refl)
put_other (x ∷ xs) zero (suc j) v u apart e = e
put_other (x ∷ xs) (suc i) zero v u apart e = e
put_other (x ∷ xs) (suc i) (suc j) v u apart e = put_other xs i j v u (λ s. apart (ap suc s)) e

-- a named variable is one of the first so many; each temporary may be set
abbrev pub IsThere : ℕ → Variable → Type 0
IsThere count (Named n) = n < count
IsThere count (Temporary k) = Unit {0}

pub set_same : (m : Machine) (x : Variable) (v : Value) → IsThere (length m.variables) x → variable_at (with_variable m x v) x ≡ Some v
set_same m (Named n) v h = get_set_same m.variables n v h
set_same m (Temporary k) v h = put_same m.temporaries k v

pub set_other :
    (m : Machine) (x y : Variable) (v u : Value) → y ≢ x → variable_at m y ≡ Some u → variable_at (with_variable m x v) y ≡ Some u
set_other m (Named n) (Named k) v u apart e = get_set_other m.variables n k v (λ s. apart (ap Named s)) ∙ e
set_other m (Named n) (Temporary k) v u apart e = e
set_other m (Temporary n) (Named k) v u apart e = e
set_other m (Temporary n) (Temporary k) v u apart e = put_other m.temporaries n k v u (λ s. apart (ap Temporary s)) e

pub same_common : (m : Machine) (x : Variable) (v : Value) → (with_variable m x v).common ≡ m.common
same_common m (Named n) v = refl
same_common m (Temporary k) v = refl

pub same_count : (m : Machine) (x : Variable) (v : Value) → length (with_variable m x v).variables ≡ length m.variables
same_count m (Named n) v = length_set m.variables n v
same_count m (Temporary k) v = refl

-- ---- fields

object_changed :
    (objects : List ObjectRec) (own : ℕ) (change : ObjectRec → ObjectRec) (r : ObjectRec) → object_at objects own ≡ Some r →
    object_at (changed_object objects own change) own ≡ Some (change r)
object_changed objects zero change r is = absurd cc
object_changed objects (suc i) change r is =
    let one : suc i - 1 ≡ i = omega arith in
    ap (λ (t : Option ObjectRec). slice_get (changed_if objects (suc i) change t) i) is
    ∙ ap (λ k. slice_get (slice_set objects k (change r)) i) one ∙ get_set_same objects i (change r) (get_within objects i r is)

-- the field that is stored, where it is there
pub stored_same : (c : Common) (own n : ℕ) (v u : Value) → own_field c own n ≡ Some u → own_field (with_field c own n v) own n ≡ Some v
stored_same c own n v u e = by (object_at c.objects own) refl e
  where
    by : (t : Option ObjectRec) → object_at c.objects own ≡ t → field_in t n ≡ Some u → own_field (with_field c own n v) own n ≡ Some v
    by None is e = absurd cc
    by (Some r) is e =
        ap (λ t. field_in t n) (object_changed c.objects own (with_element n v) r is)
        ∙ get_set_same r.fields n v (get_within r.fields n u e)

-- the other fields
pub stored_other : (c : Common) (own n i : ℕ) (v : Value) → i ≢ n → own_field (with_field c own n v) own i ≡ own_field c own i
stored_other c own n i v ne = by (object_at c.objects own) refl
  where
    by : (t : Option ObjectRec) → object_at c.objects own ≡ t → own_field (with_field c own n v) own i ≡ own_field c own i
    by None is = ap (λ t. field_in (object_at (changed_if c.objects own (with_element n v) t) own) i) is
    by (Some r) is =
        ap (λ t. field_in t i) (object_changed c.objects own (with_element n v) r is)
        ∙ get_set_other r.fields n i v ne ∙ sym (ap (λ t. field_in t i) is)

-- what is stored was there
pub is_stored : (c : Common) (own n i : ℕ) (v u w : Value) → own_field c own n ≡ Some w → own_field (with_field c own n v) own i ≡ Some u →
    ((i ≡ n) × (u ≡ v)) ⊎ ((i ≢ n) × (own_field c own i ≡ Some u))
is_stored c own n i v u w there e = ⊎_elim
    (λ (q : i ≡ n). inl (q, same_Some u v (sym e ∙ ap (own_field (with_field c own n v) own) q ∙ stored_same c own n v w there)))
    (λ (nq : i ≢ n). inr (nq, sym (stored_other c own n i v nq) ∙ e))
    (cases_eq i n)
