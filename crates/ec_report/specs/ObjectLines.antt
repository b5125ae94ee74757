-- How the lines of objects are written: one after the other, by their numbers, until there is no object of a number.
use Rattle.std.specs.Prelude.{◌≡◌, ℕ, suc, Bool, true, false, List, ◌++◌, drop, Some, None}
use Rattle.ec_world.specs.declared.class.ClassNo.{ClassNo}
use Rattle.ec_world.specs.declared.node.NodeSpec.{NodeSpec}
use Rattle.ec_world.specs.declared.object.ObjectRec.{ObjectRec}
use Rattle.ec_world.specs.declared.world.World.{World}
use Rattle.ec_world.specs.Objects.{object_at}
use Rattle.ec_world.specs.Places.{places, place_in}
use Rattle.ec_report.specs.Report.{node_at, object_line, object_lines}

-- a text grows by the line of the object of this number where it is there, and stays where it isn't
abbrev pub PushesObject : {A : Type 0} → (ClassNo → List ℕ) → World A → List NodeSpec → ℕ → List ℕ → List ℕ → Bool → Type 0
PushesObject name w specs oid old new true =
    (o : ObjectRec) × (object_at w.common.objects oid ≡ Some o) ×
    (new ≡ old ++ object_line oid (name o.class) (node_at specs (place_in (places w.common.nodes w.common.events) oid)) o.fixed)
PushesObject name w specs oid old new false = (object_at w.common.objects oid ≡ None) × (new ≡ old)

-- with the lines of the objects from number oid on, a text that was written so far is the whole one
pub record RestOfObjects {A : Type 0} (name : ClassNo → List ℕ) (w : World A) (specs : List NodeSpec) (oid : ℕ)
    (written whole : List ℕ) : Type 0 where
  pub before : ℕ
  pub oid_is : oid ≡ suc before
  pub rest : written ++ object_lines name specs (places w.common.nodes w.common.events) oid (drop before w.common.objects) ≡ whole
