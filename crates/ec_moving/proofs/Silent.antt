-- A store into a field moves nothing, and so no silent step of three-address code does.
use Rattle.std.proofs.Common.{◌≡◌, ◌∙◌, ℕ, length, map, refl}
use Rattle.ec_code.proofs.Walks.{silent_keeps}
use Rattle.ec_code.specs.Activations.{code_meaning, code_silent}
use Rattle.ec_code.specs.declared.activation.CodeActivation.{CodeActivation}
use Rattle.ec_code.specs.declared.code.Parts.{Parts}
use Rattle.ec_code.specs.Typing.{kind_of}
use Rattle.ec_moving.proofs.Objects.{changed_seen, length_changed}
use Rattle.ec_moving.proofs.Worlds.{nodes_stay}
use Rattle.ec_moving.specs.Code.{CodeKeepsPlaces, NodesStayInRuns}
use Rattle.ec_world.specs.declared.common.Common.{Common}
use Rattle.ec_world.specs.declared.value.Value.{Value}
use Rattle.ec_world.specs.Objects.{changed_object, fixed_if, object_at}
use Rattle.ec_world.specs.Outcomes.{with_element}
use Rattle.ec_world.specs.Sights.{class_of}

-- what is beside processes has come to this, with each object in its place
pub record InPlace (c d : Common) : Type 0 where
  pub nodes : d.nodes ≡ c.nodes
  pub events : d.events ≡ c.events
  pub count : length d.objects ≡ length c.objects
  pub classes : (x : ℕ) → class_of (object_at d.objects x) ≡ class_of (object_at c.objects x)
  pub flags : (x : ℕ) → fixed_if (object_at d.objects x) ≡ fixed_if (object_at c.objects x)

pub in_place : (c : Common) → InPlace c c
in_place c = record { nodes = refl; events = refl; count = refl; classes = λ x. refl; flags = λ x. refl }

-- the value of a field is another
abbrev pub set_field : Common → ℕ → ℕ → Value → Common
set_field c own n v = record c { objects = changed_object c.objects own (with_element n v) }

pub stored_in_place : (c d : Common) (own n : ℕ) (v : Value) → InPlace c d → InPlace c (set_field d own n v)
stored_in_place c d own n v h = record {
  nodes = h.nodes;
  events = h.events;
  count = length_changed d.objects (with_element n v) own (object_at d.objects own) ∙ h.count;
  classes = λ x. changed_seen class_of (with_element n v) (λ o. refl) d.objects own x ∙ h.classes x;
  flags = λ x. changed_seen fixed_if (with_element n v) (λ o. refl) d.objects own x ∙ h.flags x;
}

-- ---- three-address code

code_in_place : (p : Parts) (c : Common) (a : CodeActivation) → InPlace c (code_silent p c a).0
code_in_place p c a = silent_keeps (InPlace c) p c a (λ m n v h. stored_in_place c m.common a.own n v h) (in_place c)

pub code_keeps_places : CodeKeepsPlaces
code_keeps_places p = record {
  nodes = λ c a. (code_in_place p c a).nodes;
  events = λ c a. (code_in_place p c a).events;
  count = λ c a. (code_in_place p c a).count;
  classes = λ c a x. (code_in_place p c a).classes x;
  flags = λ c a x. (code_in_place p c a).flags x;
}

pub nodes_stay_in_runs : NodesStayInRuns
nodes_stay_in_runs p n entries =
    nodes_stay code_meaning (code_silent p) (code_keeps_places p) n p.classes (map kind_of p.constants) entries
