-- Objects of which an action changes flags and monitors alone.
use Rattle.std.proofs.Common.{◌≡◌, ℕ, zero, suc, List, [], ◌∷◌, map, Option, Some, None, refl, ap, ◌∙◌}
use Rattle.std.specs.Prelude.{slice_get, slice_set}
use Rattle.ec_cluster.proofs.Changing.{before_suc}
use Rattle.ec_fullness.proofs.Stacks.{map_set}
use Rattle.ec_monitors.specs.declared.record.MonitorRec.{MonitorRec}
use Rattle.ec_world.specs.Objects.{changed_if, changed_object, object_at}
use Rattle.ec_world.specs.Outcomes.{dropped_at, dropped_each, dropped_if, monitor_if}
use Rattle.ec_world.specs.World.{given_up}
use Rattle.ec_world.specs.declared.object.ObjectRec.{ObjectRec}
use Rattle.ec_world.specs.declared.stop.Effect.{Effect}
use Rattle.ec_world.specs.declared.stop.Effect.TheVariants.{GoesOn, Calls, Leaves, Blocks, Ends, Fails}

-- an object that changes looks the same
pub changed_same : {B : Type 0} (f : ObjectRec → B) (os : List ObjectRec) (oid : ℕ) (change : ObjectRec → ObjectRec) →
    ((o : ObjectRec) → f (change o) ≡ f o) → map f (changed_object os oid change) ≡ map f os
changed_same f os zero change same = refl
changed_same f os (suc i) change same = by (slice_get os i) refl
  where
    by : (x : Option ObjectRec) → slice_get os i ≡ x → map f (changed_if os (suc i) change x) ≡ map f os
    by None e = refl
    by (Some o) e = ap (λ n. map f (slice_set os n (change o))) (before_suc i) ∙ map_set f os i o (change o) e (same o)

module _ {B : Type 0} (f : ObjectRec → B) (blind : (o : ObjectRec) (m : Option MonitorRec) → f (record o { monitor = m }) ≡ f o) where
  dropped_same : (os : List ObjectRec) (p oid : ℕ) (m : Option MonitorRec) → map f (dropped_if os p oid m).0 ≡ map f os
  dropped_same os p oid None = refl
  dropped_same os p oid (Some m) = changed_same f os oid _ (λ o. blind o _)

  each_dropped : (p : ℕ) (oids : List ℕ) (os : List ObjectRec) → map f (dropped_each p oids os).0 ≡ map f os
  each_dropped p [] os = refl
  each_dropped p (oid ∷ oids) os =
      each_dropped p oids (dropped_at os p oid).0 ∙ dropped_same os p oid (monitor_if (object_at os oid))

  -- what a process gives up are monitors
  pub given_up_same : (p : ℕ) (owns : List ℕ) (effect : Effect) (os : List ObjectRec) → map f (given_up p owns effect os).0 ≡ map f os
  given_up_same p owns (GoesOn given) os = refl
  given_up_same p owns (Calls op own args) os = refl
  given_up_same p owns (Leaves given) os = refl
  given_up_same p owns (Blocks queue own) os = refl
  given_up_same p owns Ends os = refl
  given_up_same p owns (Fails why line) os = each_dropped p owns os
