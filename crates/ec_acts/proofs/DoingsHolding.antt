-- The monitor of an object at its node is that of the world that is shown.
use Rattle.std.proofs.Common.{◌≡◌, ◌<◌, ℕ, List, Option, Some, None, refl, sym, ap, ◌∙◌, arith, true, false}
use Rattle.std.proofs.lemmas.Option.{same_Some}
use Rattle.std.specs.Prelude.{Bool, IsSome, ◌&&◌, if◌then◌else◌, length, nat_lt}
use Rattle.ec_cluster.proofs.Changing.{object_shown}
use Rattle.ec_cluster.proofs.Putting.{shown_there}
use Rattle.ec_cluster.specs.Cluster.{CodeWorld, Shows}
use Rattle.ec_cluster.specs.Steps.{HasObject, MonitorThere}
use Rattle.ec_cluster.specs.declared.cluster.Cluster.{Cluster}
use Rattle.ec_acts.proofs.ObjectsLemmas.{changed_same}
use Rattle.ec_monitors.specs.Monitors.{Granting, is_held_by}
use Rattle.ec_monitors.specs.declared.record.MonitorRec.{MonitorRec}
use Rattle.ec_world.specs.declared.key.Key.TheVariants.{Object}
use Rattle.ec_stores.specs.Changes.{HasMonitor, HoldsMonitor, LacksMonitor, MonitorIs, WaitsAtMonitor}
use Rattle.ec_things.specs.Store.{Owned}
use Rattle.ec_things.specs.Things.{Shown, object_if, object_thing}
use Rattle.ec_world.specs.Objects.{object_at}
use Rattle.ec_world.specs.Outcomes.{at_condition, by_holder, monitor_if, monitor_of, with_monitor}
use Rattle.ec_world.specs.declared.common.Common.{Common}
use Rattle.ec_world.specs.declared.object.ObjectRec.{ObjectRec}

some_is : {A : Type 0} (x : Option A) → IsSome x → (a : A) × (x ≡ Some a)
some_is None h = absurd (let e = h in cc)
some_is (Some a) h = (a, refl)

module _ (c : Cluster) (w : CodeWorld) (oid : ℕ) (has : HasObject c oid) (shows : Shows c w) where
  -- what is kept beside an object tells the monitor that the object has
  shown_monitor : (r : Owned) → has.kept.store.row (Object oid) ≡ Some r → monitor_of w.common oid ≡ r.monitor
  shown_monitor r is =
      let o = object_shown c w oid has shows in
      let shown : Shown has.kept.store (Object oid) (object_thing oid o.0) =
      shown_there c w has.node has.kept.store (Object oid) (object_thing oid o.0) shows (ap (object_if oid) o.1) has.at has.kept.there in
      let row : shown.row ≡ r = same_Some shown.row r (sym shown.there ∙ is) in
      ap monitor_if o.1 ∙ sym shown.spells.monitor ∙ ap (λ (x : Owned). x.monitor) row

  pub monitor_shown : (m : MonitorRec) → MonitorThere c oid (λ s. MonitorIs s oid m) → monitor_of w.common oid ≡ Some m
  monitor_shown m there =
      let x = there has.node has.kept.store has.at has.kept.there in
      shown_monitor x.row x.there ∙ x.is

  pub lack_shown : MonitorThere c oid (λ s. LacksMonitor s oid) → monitor_of w.common oid ≡ None
  lack_shown there =
      let row = some_is (has.kept.store.row (Object oid)) has.kept.row in
      shown_monitor row.0 row.1 ∙ there has.node has.kept.store has.at has.kept.there row.0 row.1

-- ---- what acts ask for

module _ (c : Cluster) (oid : ℕ) (m : MonitorRec) (there : MonitorThere c oid (λ s. MonitorIs s oid m)) where
  pub has_monitor : MonitorThere c oid (λ s. HasMonitor s oid)
  has_monitor k s at is = (m, there k s at is)

  pub holds_monitor : (p : ℕ) → is_held_by m p ≡ true → MonitorThere c oid (λ s. HoldsMonitor s oid p)
  holds_monitor p holds k s at is = record { monitor = m; there = there k s at is; holds = holds }

  pub waits_at : (p condition : ℕ) → (is_held_by m p && nat_lt condition (length m.conditions)) ≡ true →
      MonitorThere c oid (λ s. WaitsAtMonitor s oid p condition)
  waits_at p condition may k s at is = record {
    monitor = m;
    there = there k s at is;
    holds = both_first (is_held_by m p) (nat_lt condition (length m.conditions)) may;
    within = less condition (length m.conditions) (both_second (is_held_by m p) (nat_lt condition (length m.conditions)) may);
  }
    where
      both_first : (a b : Bool) → (a && b) ≡ true → a ≡ true
      both_first true b e = refl
      both_first false b e = e

      both_second : (a b : Bool) → (a && b) ≡ true → b ≡ true
      both_second true b e = e
      both_second false b e = absurd cc

      less : (a b : ℕ) → nat_lt a b ≡ true → a < b
      less a b e = grind arith

-- ---- guards

module _ (m : MonitorRec) (p condition : ℕ) (act : Granting) where
  abbrev Guarded : Bool → Bool → Granting
  Guarded holds there = if holds then (if there then act else (m, None)) else (m, None)

  by_both : (holds there : Bool) → (holds && there) ≡ true → Guarded holds there ≡ act
  by_both true true e = refl
  by_both true false e = absurd cc
  by_both false there e = absurd cc

  by_neither : (holds there : Bool) → (holds && there) ≡ false → Guarded holds there ≡ (m, None)
  by_neither true true e = absurd cc
  by_neither true false e = refl
  by_neither false there e = refl

  -- the holder acts on a condition that is there
  pub guard_open : (is_held_by m p && nat_lt condition (length m.conditions)) ≡ true → by_holder p m (at_condition m condition act) ≡ act
  guard_open e = by_both (is_held_by m p) (nat_lt condition (length m.conditions)) e

  -- and nobody else does anything
  pub guard_shut : (is_held_by m p && nat_lt condition (length m.conditions)) ≡ false →
      by_holder p m (at_condition m condition act) ≡ (m, None)
  guard_shut e = by_neither (is_held_by m p) (nat_lt condition (length m.conditions)) e

module _ (m : MonitorRec) (p : ℕ) (act : Granting) where
  pub holder_acts : is_held_by m p ≡ true → by_holder p m act ≡ act
  holder_acts e = rw e refl

  pub other_acts : is_held_by m p ≡ false → by_holder p m act ≡ (m, None)
  other_acts e = rw e refl

-- the monitor that an object has, put again, changes nothing
pub monitor_again : (c : Common) (oid : ℕ) (m : MonitorRec) → monitor_of c oid ≡ Some m → with_monitor c oid m ≡ c
monitor_again c oid m is = of (object_at c.objects oid) refl
  where
    again : (o : ObjectRec) → monitor_of c oid ≡ o.monitor → record o { monitor = Some m } ≡ o
    again o e = ap (λ (x : Option MonitorRec). record o { monitor = x }) (sym is ∙ e)

    of : (x : Option ObjectRec) → object_at c.objects oid ≡ x → with_monitor c oid m ≡ c
    of None e = let none : monitor_of c oid ≡ None = ap monitor_if e in absurd cc
    of (Some o) e =
        ap (λ (x : List ObjectRec). record c { objects = x })
        (changed_same c.objects (λ (o : ObjectRec). record o { monitor = Some m }) oid o e (again o (ap monitor_if e)))
