-- Items that store a value, and their code.
use Rattle.std.proofs.Common.{◌≡◌, ℕ, zero, suc, ◌+◌, ◌-◌, ◌≤◌, List, [], ◌∷◌, option_map, Option, Some, None, refl, sym, ap, ◌∙◌}
use Rattle.std.proofs.Common.{subst, arith}
use Rattle.std.specs.Prelude.{slice_get, slice_set}
use Rattle.ec_base.proofs.Lists.{get_set_same, get_within, length_set}
use Rattle.ec_code.specs.Steps as code_steps
use Rattle.ec_code.specs.Steps.{Machine, with_field, with_variable}
use Rattle.ec_code.specs.declared.code.Op.TheVariants as op
use Rattle.ec_code.specs.declared.code.Operand.{Operand}
use Rattle.ec_code.specs.declared.code.Variable.TheVariants as variable
use Rattle.ec_core.specs.declared.Place.{Place}
use Rattle.ec_core.specs.declared.Place.TheVariants as place
use Rattle.ec_meaning.specs.Programs.{Source}
use Rattle.ec_meaning.specs.Steps as steps
use Rattle.ec_meaning.specs.Steps.{Goes, captured_of, store, stored}
use Rattle.ec_meaning.specs.declared.item.Item.{Item}
use Rattle.ec_meaning.specs.declared.item.Item.TheVariants as i
use Rattle.ec_meaning.specs.declared.state.State.{State}
use Rattle.ec_emission.proofs.Holding.{said_is}
use Rattle.ec_emission.proofs.Meeting.{Fits, IsAt, Meets, Routine, goes, silent, top, under, walked}
use Rattle.ec_emission.proofs.Values.{ComesTo}
use Rattle.ec_emission.specs.Leaves.{Leaf, leaf_operand, said}
use Rattle.ec_emission.specs.Stands.{Hold, read}
use Rattle.ec_world.specs.declared.object.ObjectRec.{ObjectRec}
use Rattle.ec_world.specs.declared.value.Value.{Value}
use Rattle.ec_world.specs.declared.value.Value.TheVariants as value
use Rattle.ec_world.specs.Objects.{changed_if, object_at}
use Rattle.ec_world.specs.Outcomes.{with_element}

-- A store in a field keeps the object's class.
set_class : (s : Source) (objects : List ObjectRec) (own n : ℕ) (v : Value) (o : Option ObjectRec) → object_at objects own ≡ o →
    captured_of s (object_at (changed_if objects own (with_element n v) o) own) ≡ captured_of s o
set_class s objects own n v None e = ap (captured_of s) e
set_class s objects zero n v (Some o) e = cc
set_class s objects (suc k) n v (Some o) e =
    let f : suc k - 1 ≡ k = omega arith in
    ap (λ j. captured_of s (slice_get (slice_set objects j (with_element n v o)) k)) f
    ∙ ap (captured_of s) (get_set_same objects k (with_element n v o) (get_within objects k o e))

module _ (r : Routine) (own : ℕ) where
  fits_variable : (st : State) (m : Machine) (k : ℕ) (v : Value) → Fits r own [] st m →
      Fits r own [] (stored r.source own st (place.Variable k) v) (with_variable m (variable.Named k) v)
  fits_variable st m k v f = record {
    common = f.common;
    variables = ap (λ vs. slice_set vs k v) f.variables;
    many = subst (λ n. r.count ≤ n) (sym (length_set m.variables k v)) f.many;
    held = f.held;
    owns = f.owns;
  }

  fits_field : (st : State) (m : Machine) (k : ℕ) (v : Value) → Fits r own [] st m →
      Fits r own [] (stored r.source own st (place.Field k) v) (record m { common = with_field m.common own (r.captured + k) v })
  fits_field st m k v f = record {
    common = ap (λ w. steps.with_field w own (captured_of r.source (object_at w.objects own) + k) v) f.common
        ∙ ap (λ j. steps.with_field m.common own (j + k) v) f.owns;
    variables = f.variables;
    many = f.many;
    held = f.held;
    owns = set_class r.source m.common.objects own (r.captured + k) v (object_at m.common.objects own) refl ∙ f.owns;
  }

  pub stores_variable : (h : Hold) (q k : ℕ) (xs : List Item) (a : Operand) → read 0 h ≡ Some a → IsAt r q (op.Copy (variable.Named k) a) →
      Meets r own [] (suc q) xs → Meets r own (h ∷ []) q (i.Store (place.Variable k) ∷ xs)
  stores_variable h q k xs a g is n st m f =
      let t = top r own st m f in
      goes r own (i.Store (place.Variable k)) xs q (op.Copy (variable.Named k) a) [] st
      (stored r.source own (under st) (place.Variable k) t.value) m (with_variable m (variable.Named k) t.value)
      (t.is (store r.source own (place.Variable k))) is (ap (code_steps.gives m (variable.Named k)) (t.here a g))
      (fits_variable (under st) m k t.value t.fits) n

  pub stores_field : (h : Hold) (q k : ℕ) (xs : List Item) (a : Operand) → read 0 h ≡ Some a → IsAt r q (op.SetField (r.captured + k) a) →
      Meets r own [] (suc q) xs → Meets r own (h ∷ []) q (i.Store (place.Field k) ∷ xs)
  stores_field h q k xs a g is n st m f =
      let t = top r own st m f in
      goes r own (i.Store (place.Field k)) xs q (op.SetField (r.captured + k) a) [] st
      (stored r.source own (under st) (place.Field k) t.value) m (record m { common = with_field m.common own (r.captured + k) t.value })
      (t.is (store r.source own (place.Field k))) is (ap (code_steps.stores m own (r.captured + k)) (t.here a g))
      (fits_field (under st) m k t.value t.fits) n

  pub stores_nothing : (h : Hold) (q : ℕ) (p : Place) (xs : List Item) →
      ((st : State) (v : Value) → stored r.source own st p v ≡ st) → Meets r own [] q xs → Meets r own (h ∷ []) q (i.Store p ∷ xs)
  stores_nothing h q p xs e n st m f =
      let t = top r own st m f in
      silent r own st (i.Store p) xs (walked r own q m) (Goes (under st) [])
      (t.is (store r.source own p) ∙ ap (λ z. Goes z []) (e (under st) t.value)) (n (under st) m t.fits)

  pub resets : (q k : ℕ) (x : Item) (xs : List Item) (l : Leaf) (v : Value) → ((st : State) → said st.variables l ≡ Some v) →
      ComesTo r own x (λ st. Goes (stored r.source own st (place.Variable k) v) []) →
      IsAt r q (op.Copy (variable.Named k) (leaf_operand l)) → Meets r own [] (suc q) xs → Meets r own [] q (x ∷ xs)
  resets q k x xs l v g e is n st m f =
      goes r own x xs q (op.Copy (variable.Named k) (leaf_operand l)) [] st (stored r.source own st (place.Variable k) v) m
      (with_variable m (variable.Named k) v) (e st) is
      (ap (code_steps.gives m (variable.Named k)) (said_is own m l ∙ ap (λ vs. said vs l) (sym f.variables) ∙ g st))
      (fits_variable st m k v f) n

  pub resets_text : (q k index : ℕ) (x : Item) (xs : List Item) (text : List ℕ) →
      ComesTo r own x (λ st. Goes (stored r.source own st (place.Variable k) (value.Str text)) []) →
      slice_get r.literals index ≡ Some text → IsAt r q (op.Literal (variable.Named k) index) → Meets r own [] (suc q) xs →
      Meets r own [] q (x ∷ xs)
  resets_text q k index x xs text e g is n st m f =
      goes r own x xs q (op.Literal (variable.Named k) index) [] st (stored r.source own st (place.Variable k) (value.Str text)) m
      (with_variable m (variable.Named k) (value.Str text)) (e st) is
      (ap (λ t. code_steps.gives m (variable.Named k) (option_map value.Str t)) g) (fits_variable st m k (value.Str text) f) n
