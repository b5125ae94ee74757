-- Silent steps change the fields of the own object, and nothing else that the world has beside its processes.
use Rattle.std.proofs.Common.{◌≡◌, ℕ, zero, suc, ◌-◌, List, [], ◌∷◌, drop, length, Option, Some, None, refl, sym, ap, ◌∙◌}
use Rattle.std.proofs.Common.{arith, subst}
use Rattle.std.specs.Prelude.{slice_get, slice_set}
use Rattle.ec_base.proofs.Lists.{get_set_same, get_within, length_set, set_there}
use Rattle.ec_code.specs.Activations.{Arrived, code_if, code_silent, machine_behind, operation_at, resting, walk}
use Rattle.ec_code.specs.Steps.{Machine, stores}
use Rattle.ec_code.specs.declared.activation.CodeActivation.{CodeActivation}
use Rattle.ec_code.specs.declared.code.Parts.{Parts}
use Rattle.ec_code.proofs.Walks.{Keeps, StoresKeep, silent_keeps}
use Rattle.ec_world.specs.Objects.{changed_if, changed_object}
use Rattle.ec_world.specs.Outcomes.{with_element}
use Rattle.ec_world.specs.declared.common.Common.{Common}
use Rattle.ec_world.specs.declared.object.ObjectRec.{ObjectRec}
use Rattle.ec_world.specs.declared.value.Value.{Value}

pub set_again : {A : Type 0} (xs : List A) (i : ℕ) (x y : A) → slice_set (slice_set xs i x) i y ≡ slice_set xs i y
set_again [] i x y = refl
set_again (z ∷ zs) zero x y = refl
set_again (z ∷ zs) (suc i) x y = ap (λ r. z ∷ r) (set_again zs i x y)

-- Object i + 1 alone has changed: it is of the same class, and has as many fields.
pub record OwnRan (i : ℕ) (o : ObjectRec) (c e : Common) : Type 0 where
  pub object : ObjectRec
  pub objects : e.objects ≡ slice_set c.objects i object
  pub class : object.class ≡ o.class
  pub size : length object.fields ≡ length o.fields
  pub nodes : e.nodes ≡ c.nodes
  pub classes : e.classes ≡ c.classes
  pub globals : e.globals ≡ c.globals
  pub output : e.output ≡ c.output

module _ (i : ℕ) (o : ObjectRec) (c : Common) (is : slice_get c.objects i ≡ Some o) where
  changed_own : (e : Common) (change : ObjectRec → ObjectRec) (h : OwnRan i o c e) →
      changed_object e.objects (suc i) change ≡ slice_set c.objects i (change h.object)
  changed_own e change h =
      let there : slice_get e.objects i ≡ Some h.object =
      ap (λ os. slice_get os i) h.objects ∙ get_set_same c.objects i h.object (get_within c.objects i o is) in
      let before : suc i - 1 ≡ i = omega arith in
      ap (changed_if e.objects (suc i) change) there
      ∙ ap (λ j. slice_set e.objects j (change h.object)) before
      ∙ ap (λ os. slice_set os i (change h.object)) h.objects
      ∙ set_again c.objects i h.object (change h.object)

  own_stored : (m : Machine) (n : ℕ) (v : Value) → OwnRan i o c m.common → Keeps (OwnRan i o c) (stores m (suc i) n (Some v))
  own_stored m n v h = record {
    object = with_element n v h.object;
    objects = changed_own m.common (with_element n v) h;
    class = h.class;
    size = length_set h.object.fields n v ∙ h.size;
    nodes = h.nodes;
    classes = h.classes;
    globals = h.globals;
    output = h.output;
  }

  none_ran : OwnRan i o c c
  none_ran = record {
    object = o;
    objects = sym (set_there c.objects i o is);
    class = refl;
    size = refl;
    nodes = refl;
    classes = refl;
    globals = refl;
    output = refl;
  }

resting_own : (a : CodeActivation) (r : Common × Option Arrived) → (resting a r).1.own ≡ a.own
resting_own a (c, None) = refl
resting_own a (c, Some r) = refl

pub silent_ran : (p : Parts) (c : Common) (a : CodeActivation) (i : ℕ) (o : ObjectRec) → slice_get c.objects i ≡ Some o → a.own ≡ suc i →
    OwnRan i o c (code_silent p c a).0
silent_ran p c a i o is own =
    silent_keeps (OwnRan i o c) p c a (subst (StoresKeep (OwnRan i o c)) (sym own) (own_stored i o c is)) (none_ran i o c is)

pub silent_own : (p : Parts) (c : Common) (a : CodeActivation) → (code_silent p c a).1.own ≡ a.own
silent_own p c a =
    resting_own a
    (walk p.literals a.own (suc a.at) (drop (suc a.at) (code_if (operation_at p a.operation))) 0 (machine_behind p c a))
