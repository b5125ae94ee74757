-- The monitor that a node has for an object is that of the object in the world that is shown.
use Rattle.std.proofs.Common.{◌≡◌, ℕ, zero, suc, ◌-◌, Bool, true, false, List, Option, Some, None, refl, sym, ap, ◌∙◌, subst}
use Rattle.std.specs.Prelude.{MatchBool, if◌then◌else◌, is_some, option_map, slice_get, slice_set}
use Rattle.std.proofs.lemmas.Option.{same_Some}
use Rattle.ec_base.proofs.Lists.{set_there}
use Rattle.ec_cluster.proofs.Changing.{before_suc}
use Rattle.ec_cluster.proofs.Putting.{shown_there}
use Rattle.ec_cluster.specs.Cluster.{CodeWorld, Shows, frame_of, place, stores}
use Rattle.ec_cluster.specs.Steps.{HasObject, MonitorActs, MonitorThere}
use Rattle.ec_cluster.specs.declared.cluster.Cluster.{Cluster}
use Rattle.ec_monitors.specs.Monitors.{Granting, dropped, is_held_by}
use Rattle.ec_monitors.specs.declared.record.Granted.{Granted}
use Rattle.ec_monitors.specs.declared.record.MonitorRec.{MonitorRec}
use Rattle.ec_world.specs.declared.key.Key.TheVariants.{Object}
use Rattle.ec_acts.specs.Taking.{LeavesAlone, with_objects}
use Rattle.ec_stores.specs.Changes.{HoldsMonitor, LacksMonitor, MonitorIs}
use Rattle.ec_stores.specs.Node.{NodeData, store_of}
use Rattle.ec_things.specs.Store.{Owned, Store}
use Rattle.ec_things.specs.Things.{Shown, object_if, object_thing, things_of}
use Rattle.ec_world.specs.Objects.{changed_if, changed_object, object_at}
use Rattle.ec_world.specs.Outcomes.{dropped_at, dropped_if, monitor_if, monitor_of}
use Rattle.ec_world.specs.declared.object.ObjectRec.{ObjectRec}

-- ---- of a list of objects

module _ (objects : List ObjectRec) (p oid : ℕ) where
  pub without_monitor : monitor_if (object_at objects oid) ≡ None → LeavesAlone objects p oid
  without_monitor e = record {
    same = ap (λ (m : Option MonitorRec). (dropped_if objects p oid m).0) e;
    nobody = ap (λ (m : Option MonitorRec). (dropped_if objects p oid m).1) e;
  }

  -- an object's own monitor in its place changes nothing
  same_monitor : (m : MonitorRec) (x : Option ObjectRec) → object_at objects oid ≡ x → monitor_if x ≡ Some m →
      changed_if objects oid (λ o. record o { monitor = Some m }) x ≡ objects
  same_monitor m None e f = refl
  same_monitor m (Some o) e f =
      let own : ◌≡◌ {A = ObjectRec} (record o { monitor = Some m }) o =
      ap (λ (x : Option MonitorRec). record o { monitor = x }) (sym f) in
      ap (slice_set objects (oid - 1)) own ∙ set_there objects (oid - 1) o (by oid e)
    where
      by : (i : ℕ) → object_at objects i ≡ Some o → slice_get objects (i - 1) ≡ Some o
      by zero g = absurd cc
      by (suc i) g = ap (slice_get objects) (before_suc i) ∙ g

  module _ (m : MonitorRec) (is : monitor_if (object_at objects oid) ≡ Some m) where
    abbrev parts : Granting → List ObjectRec × Option Granted
    parts g = (changed_object objects oid (λ o. record o { monitor = Some g.0 }), g.1)

    abbrev held : Bool → Granting
    held b = if b then dropped m else (m, None)

    dropped_by : (b : Bool) → is_held_by m p ≡ b → dropped_at objects p oid ≡ parts (held b)
    dropped_by b h =
        ap (λ (x : Option MonitorRec). dropped_if objects p oid x) is ∙ ap (λ (x : Bool). parts (held x)) h

    pub not_held : is_held_by m p ≡ false → LeavesAlone objects p oid
    not_held h = record {
      same = ap (λ (x : List ObjectRec × Option Granted). x.0) (dropped_by false h)
          ∙ same_monitor m (object_at objects oid) refl is;
      nobody = ap (λ (x : List ObjectRec × Option Granted). x.1) (dropped_by false h);
    }

    pub is_held : is_held_by m p ≡ true → dropped_at objects p oid ≡ parts (dropped m)
    is_held h = dropped_by true h

-- ---- of nodes

module _ (c : Cluster) (w : CodeWorld) (shows : Shows c w) (oid : ℕ) where
  -- an object that wasn't noted
  pub nowhere : place c oid ≡ None → monitor_of w.common oid ≡ None
  nowhere none = by (object_at w.common.objects oid) refl
    where
      by : (x : Option ObjectRec) → object_at w.common.objects oid ≡ x → monitor_if x ≡ None
      by None e = refl
      by (Some o) e =
          let z = shows.things_stand.each (Object oid) (object_thing oid o) (ap (object_if oid) e) in
          let home : place c oid ≡ Some z.node = z.home in
          absurd cc

  -- an object at a node that isn't there
  pub no_node : (k : ℕ) → place c oid ≡ Some k → stores c k ≡ None → monitor_of w.common oid ≡ None
  no_node k at none = by (object_at w.common.objects oid) refl
    where
      by : (x : Option ObjectRec) → object_at w.common.objects oid ≡ x → monitor_if x ≡ None
      by None e = refl
      by (Some o) e =
          let z = shows.things_stand.each (Object oid) (object_thing oid o) (ap (object_if oid) e) in
          let home : place c oid ≡ Some z.node = z.home in
          let same : z.node ≡ k = same_Some z.node k (sym home ∙ at) in
          let there : stores c k ≡ Some z.store = ap (stores c) (sym same) ∙ z.there in
          absurd cc

  module _ (k : ℕ) (s : Store) (at : place c oid ≡ Some k) (there : stores c k ≡ Some s) where
    shown : (o : ObjectRec) → object_at w.common.objects oid ≡ Some o → Shown s (Object oid) (object_thing oid o)
    shown o e = shown_there c w k s (Object oid) (object_thing oid o) shows (ap (object_if oid) e) at there

    pub lacks : LacksMonitor s oid → monitor_of w.common oid ≡ None
    lacks none = by (object_at w.common.objects oid) refl
      where
        by : (x : Option ObjectRec) → object_at w.common.objects oid ≡ x → monitor_if x ≡ None
        by None e = refl
        by (Some o) e = let here = shown o e in sym here.spells.monitor ∙ none here.row here.there

    pub has : (m : MonitorRec) → MonitorIs s oid m → monitor_of w.common oid ≡ Some m
    has m is = by (object_at w.common.objects oid) refl
      where
        by : (x : Option ObjectRec) → object_at w.common.objects oid ≡ x → monitor_if x ≡ Some m
        by None e =
            let z = shows.things_stand.only k s (Object oid) is.row there is.there in
            let some : things_of (frame_of c) w (Object oid) ≡ Some z.0 = z.1 in
            let nothing : things_of (frame_of c) w (Object oid) ≡ None = ap (object_if oid) e in
            absurd cc
        by (Some o) e =
            let here = shown o e in
            let same : here.row ≡ is.row = same_Some here.row is.row (sym here.there ∙ is.there) in
            sym here.spells.monitor ∙ ap (λ (r : Owned). r.monitor) same ∙ is.is

-- ---- whether a process holds the monitor of an object

abbrev pub IsHeld : Cluster → ℕ → ℕ → Type 0
IsHeld c p oid = HasObject c oid × MonitorThere c oid (λ s. HoldsMonitor s oid p)

abbrev pub IsLeftAlone : Cluster → ℕ → ℕ → Type 0
IsLeftAlone c p oid = (w : CodeWorld) → Shows c w → LeavesAlone w.common.objects p oid

module _ (c : Cluster) (p oid k : ℕ) (n : NodeData) (at : place c oid ≡ Some k) (is : slice_get c.nodes k ≡ Some n) (m : MonitorRec)
    (its : MonitorIs (store_of n) oid m) where
  there : stores c k ≡ Some (store_of n)
  there = ap (option_map store_of) is

  holds_it : is_held_by m p ≡ true → IsHeld c p oid
  holds_it h = (
    record { node = k; at = at; kept = record { store = store_of n; there = there; row = ap is_some its.there } },
    λ j s e f.
        let node : j ≡ k = same_Some j k (sym e ∙ at) in
        let store : store_of n ≡ s = same_Some (store_of n) s (sym there ∙ ap (stores c) (sym node) ∙ f) in
        subst (λ (x : Store). HoldsMonitor x oid p) store (record { monitor = m; there = its; holds = h }),
  )

  pub held_or_not : (b : Bool) → b ≡ is_held_by m p → MatchBool b (IsHeld c p oid) (IsLeftAlone c p oid)
  held_or_not true e = holds_it (sym e)
  held_or_not false e =
      λ w shows. not_held w.common.objects p oid m (has c w shows oid k (store_of n) at there m its) (sym e)

-- ---- what is dropped

module _ (c c' : Cluster) (p oid : ℕ) (answer : Option Granted) (w : CodeWorld) (shows : Shows c w) where
  pub drops : IsHeld c p oid → MonitorActs c' w oid dropped answer → Shows c' (with_objects w (dropped_at w.common.objects p oid).0)
      × (answer ≡ (dropped_at w.common.objects p oid).1)
  drops held acts =
      let o = held.0 in
      let h = held.1 o.node o.kept.store o.at o.kept.there in
      let its : monitor_of w.common oid ≡ Some h.monitor = has c w shows oid o.node o.kept.store o.at o.kept.there h.monitor h.there in
      let same : acts.before ≡ h.monitor = same_Some acts.before h.monitor (sym acts.had ∙ its) in
      let holds : is_held_by acts.before p ≡ true = ap (λ (m : MonitorRec). is_held_by m p) same ∙ h.holds in
      let e = is_held w.common.objects p oid acts.before acts.had holds in (
        subst (λ (x : List ObjectRec × Option Granted). Shows c' (with_objects w x.0)) (sym e) acts.shown,
        sym acts.answers ∙ ap (λ (x : List ObjectRec × Option Granted). x.1) (sym e),
      )

  pub drops_nothing : IsLeftAlone c p oid → answer ≡ None → c' ≡ c → Shows c' (with_objects w (dropped_at w.common.objects p oid).0)
      × (answer ≡ (dropped_at w.common.objects p oid).1)
  drops_nothing alone none same =
      let x = alone w shows in (
        subst (λ (y : Cluster). Shows y (with_objects w (dropped_at w.common.objects p oid).0)) (sym same)
            (subst (λ (os : List ObjectRec). Shows c (with_objects w os)) (sym x.same) shows),
        none ∙ sym x.nobody,
      )
