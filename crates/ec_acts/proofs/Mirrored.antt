-- A system whose nodes and rows have changed mirrors a world with as many objects.
use Rattle.std.proofs.Common.{◌≡◌, ℕ, ◌-◌, List, [], ◌∷◌, Option, Some, None, refl, sym, ap, ◌∙◌}
use Rattle.std.specs.Prelude.{length, map}
use Rattle.ec_base.proofs.Lists.{length_set}
use Rattle.ec_cluster.specs.Cluster.{CodeWorld, Shows}
use Rattle.ec_cluster.specs.Steps.{Changes}
use Rattle.ec_code.specs.declared.activation.CodeActivation.{CodeActivation}
use Rattle.ec_code.specs.declared.code.Parts.{Parts}
use Rattle.ec_cluster.specs.Whereabouts.{made_count}
use Rattle.ec_monitors.specs.Monitors.{dropped}
use Rattle.ec_monitors.specs.declared.record.MonitorRec.{MonitorRec}
use Rattle.ec_cluster.specs.Systems.{Mirrors, row_of}
use Rattle.ec_cluster.specs.declared.system.System.{System}
use Rattle.ec_world.specs.Objects.{changed_if, object_at}
use Rattle.ec_world.specs.Outcomes.{by_holder, dropped_at, dropped_each, dropped_if, monitor_if}
use Rattle.ec_world.specs.World.{given_up}
use Rattle.ec_world.specs.declared.object.ObjectRec.{ObjectRec}
use Rattle.ec_world.specs.declared.process.Proc.{Proc}
use Rattle.ec_world.specs.declared.stop.Effect.{Effect}
use Rattle.ec_world.specs.declared.stop.Effect.TheVariants.{GoesOn, Calls, Leaves, Blocks, Ends, Fails}

-- ---- how many objects there are

changed_length : (objects : List ObjectRec) (oid : ℕ) (change : ObjectRec → ObjectRec) (x : Option ObjectRec) →
    length (changed_if objects oid change x) ≡ length objects
changed_length objects oid change None = refl
changed_length objects oid change (Some o) = length_set objects (oid - 1) (change o)

dropped_length : (objects : List ObjectRec) (p oid : ℕ) (m : Option MonitorRec) → length (dropped_if objects p oid m).0 ≡ length objects
dropped_length objects p oid None = refl
dropped_length objects p oid (Some m) =
    changed_length objects oid (λ (o : ObjectRec). record o { monitor = Some (by_holder p m (dropped m)).0 }) (object_at objects oid)

each_length : (p : ℕ) (oids : List ℕ) (objects : List ObjectRec) → length (dropped_each p oids objects).0 ≡ length objects
each_length p [] objects = refl
each_length p (oid ∷ oids) objects =
    each_length p oids (dropped_at objects p oid).0 ∙ dropped_length objects p oid (monitor_if (object_at objects oid))

pub given_length : (p : ℕ) (owns : List ℕ) (e : Effect) (objects : List ObjectRec) → length (given_up p owns e objects).0 ≡ length objects
given_length p owns (GoesOn given) objects = refl
given_length p owns (Calls op own args) objects = refl
given_length p owns (Leaves given) objects = refl
given_length p owns (Blocks queue oid) objects = refl
given_length p owns Ends objects = refl
given_length p owns (Fails why line) objects = each_length p owns objects

-- ---- the system

-- a world with other objects and processes
abbrev pub world_with : CodeWorld → List ObjectRec → List (Proc CodeActivation) → CodeWorld
world_with w objects processes = record { common = record w.common { objects = objects }; processes = processes }

pub mirrors_still : (Added : ℕ → List ℕ → Type 0) (s s' : System) (w : CodeWorld) (objects : List ObjectRec)
    (processes : List (Proc CodeActivation)) → Mirrors s w → Changes Added s.cluster s'.cluster →
    s'.cluster.whereabouts ≡ s.cluster.whereabouts → s'.output ≡ s.output → length objects ≡ length w.common.objects →
    Shows s'.cluster (world_with w objects processes) → s'.processes ≡ map row_of processes → Mirrors s' (world_with w objects processes)
mirrors_still Added s s' w objects processes m changes whereabouts output many shows rows = record {
  shows = shows;
  rows = rows;
  output = output ∙ m.output;
  nodes = m.nodes ∙ sym changes.nodes;
  classes = m.classes ∙ ap (λ (p : Parts). p.classes) (sym changes.parts);
  objects = many ∙ m.objects ∙ ap made_count (sym whereabouts);
  constants = m.constants ∙ ap (λ (p : Parts). length p.constants) (sym changes.parts);
}
