-- What goes of members of a group, and of their monitors.
use Rattle.std.proofs.Common.{◌≡◌, ◌<◌, ◌≤◌, ◌^◌, ℕ, zero, suc, Bool, true, false, List, [], ◌∷◌, ◌++◌, length, Option, Some, None}
use Rattle.std.proofs.Common.{refl, sym, ap, ◌∙◌, subst, arith, ⊎_elim}
use Rattle.std.proofs.lemmas.List.{length-append, length-map}
use Rattle.std.proofs.lemmas.List.Elements.{recursion_from_All}
use Rattle.std.proofs.lemmas.Option.{same_Some}
use Rattle.std.specs.List.{flat_map}
use Rattle.std.specs.Prelude.{if◌then◌else◌, option_to_list, slice_get}
use Rattle.ec_base.proofs.Lists.{get_within}
use Rattle.ec_cluster.specs.Cluster.{CodeWorld}
use Rattle.ec_cluster.specs.declared.cluster.Cluster.{Cluster}
use Rattle.ec_code.specs.Fine.{IsFieldOf}
use Rattle.ec_machine_code.specs.Limits.{HasFewFields}
use Rattle.ec_code.specs.Typing.{Declared, DeclaredClass, element_static, fields_if as types_if}
use Rattle.ec_types.specs.declared.conform.static_type.StaticType.{StaticType}
use Rattle.ec_code.specs.Idle.{IsPlain}
use Rattle.ec_monitors.specs.declared.record.Hold.{Hold}
use Rattle.ec_monitors.specs.declared.record.MonitorRec.{MonitorRec}
use Rattle.ec_parcels.specs.Classes.{ClassTable, number_of}
use Rattle.ec_parcels.specs.Objects.{monitor_part_of, part_of}
use Rattle.ec_packing.proofs.Carrying.{IsGood}
use Rattle.ec_packing.proofs.Counting.{few_below}
use Rattle.ec_packing.proofs.Joining.{has_joined, joined_has}
use Rattle.ec_packing.proofs.Members.{class, goes, is_here_it, monitor_part_is, number, object, object_part_is}
use Rattle.ec_packing.proofs.Rules.{IsShort, NumberBefore, ObjectBefore}
use Rattle.ec_packing.proofs.Sorting.{Sorted, sorted_joined}
use Rattle.ec_packing.specs.Packing.{CanGo, is_here, monitor_goes, monitor_if, object_goes, object_if, with_number}
use Rattle.ec_parcels.specs.Parcels.{IsOfMonitor, IsOfObject, ObjectGoes}
use Rattle.ec_code.specs.RangesValues.{InRange}
use Rattle.ec_code.specs.Worlds.{FewElements, RangedObject}
use Rattle.ec_code.proofs.Carried.{all_two_length, each_get, each_object}
use Rattle.ec_code.specs.Sound.{FineFields, FineObject}
use Rattle.ec_code.specs.SoundValues.{HasType}
use Rattle.ec_cluster.specs.declared.system.System.{System}
use Rattle.ec_world.proofs.Queues.{queues_tell}
use Rattle.ec_world.specs.Waiting.{QueuesTell, in_conditions, processes_of, queued}
use Rattle.ec_wire.specs.declared.parcel.MonitorPart.{MonitorPart}
use Rattle.ec_wire.specs.declared.parcel.ObjectPart.{ObjectPart}
use Rattle.ec_world.proofs.Members.{has_either, has_first, has_none, has_one}
use Rattle.ec_world.specs.Agree.{AllTwo}
use Rattle.ec_world.specs.Group.{Has}
use Rattle.ec_world.specs.Objects.{object_at}
use Rattle.ec_world.specs.Outcomes.{monitor_if as monitor_in}
use Rattle.ec_world.specs.declared.class.ClassNo.{ClassNo}
use Rattle.ec_world.specs.declared.class.ClassNo.TheVariants.{Node, Program, Made, Vector}
use Rattle.ec_world.specs.declared.node.Kind.TheVariants.{Riscv}
use Rattle.ec_world.specs.declared.object.ObjectRec.{ObjectRec}
use Rattle.ec_world.specs.declared.value.Value.{Value}

-- ---- what is at a node

module _ {A : Type 0} where
  pub has_if : (b : Bool) (xs : List A) (x : A) → Has (if b then xs else []) x → Has xs x
  has_if true xs x h = h
  has_if false xs x h = absurd (has_none x h)

  pub sorted_if : (Before : A → A → Type 0) (b : Bool) (xs : List A) → Sorted Before xs → Sorted Before (if b then xs else [])
  sorted_if Before true xs s = s
  sorted_if Before false xs s = tt

  pub sorted_one : (Before : A → A → Type 0) (x : A) → Sorted Before (x ∷ [])
  sorted_one Before x = (λ y h. absurd (has_none y h), tt)

positive : (objects : List ObjectRec) (oid : ℕ) (o : ObjectRec) → object_at objects oid ≡ Some o → 0 < oid
positive objects zero o e = absurd cc
positive objects (suc i) o e = omega arith

-- ---- objects

-- the part of an object has its number
with_number_is : (oid : ℕ) (o : ObjectRec) (x : Option ℕ) (part : ObjectPart) → Has (with_number oid o x) part → part.number ≡ oid
with_number_is oid o None part h = absurd (has_none part h)
with_number_is oid o (Some n) part h = ap (λ (p : ObjectPart). p.number) (has_one (part_of oid n o) part h)

if_is : (table : ClassTable) (oid : ℕ) (x : Option ObjectRec) (part : ObjectPart) → Has (object_if table oid x) part → part.number ≡ oid
if_is table oid None part h = absurd (has_none part h)
if_is table oid (Some o) part h = with_number_is oid o (number_of table o.class) part h

sorted_number : (oid : ℕ) (o : ObjectRec) (x : Option ℕ) → Sorted NumberBefore (with_number oid o x)
sorted_number oid o None = tt
sorted_number oid o (Some n) = sorted_one NumberBefore (part_of oid n o)

sorted_object : (table : ClassTable) (oid : ℕ) (x : Option ObjectRec) → Sorted NumberBefore (object_if table oid x)
sorted_object table oid None = tt
sorted_object table oid (Some o) = sorted_number oid o (number_of table o.class)

-- ---- monitors

monitor_is : (oid : ℕ) (m : Option MonitorRec) (part : MonitorPart) → Has (option_to_list (monitor_part_of oid m)) part →
    (part.object ≡ oid) × (m ≡ Some part.monitor)
monitor_is oid None part h = absurd (has_none part h)
monitor_is oid (Some m) part h =
    let same : part ≡ record { object = oid; monitor = m } = has_one (record { object = oid; monitor = m }) part h in
    (ap (λ (p : MonitorPart). p.object) same, ap (λ (p : MonitorPart). Some p.monitor) (sym same))

monitor_if_is : (oid : ℕ) (x : Option ObjectRec) (part : MonitorPart) → Has (monitor_if oid x) part → part.object ≡ oid
monitor_if_is oid None part h = absurd (has_none part h)
monitor_if_is oid (Some o) part h = (monitor_is oid o.monitor part h).0

sorted_part : (oid : ℕ) (m : Option MonitorRec) → Sorted ObjectBefore (option_to_list (monitor_part_of oid m))
sorted_part oid None = tt
sorted_part oid (Some m) = sorted_one ObjectBefore (record { object = oid; monitor = m })

sorted_monitor : (oid : ℕ) (x : Option ObjectRec) → Sorted ObjectBefore (monitor_if oid x)
sorted_monitor oid None = tt
sorted_monitor oid (Some o) = sorted_part oid o.monitor

-- ---- the lists of a monitor

queue_within : (qs : List (List Hold)) (i : ℕ) (q : List Hold) → slice_get qs i ≡ Some q → length q ≤ length (in_conditions qs)
queue_within [] i q e = absurd cc
queue_within (r ∷ qs) zero q e =
    let parts = length-append (processes_of r) (in_conditions qs) in
    let many = length-map r (λ (h : Hold). h.process) in
    let same = ap length (same_Some r q e) in
    omega arith
queue_within (r ∷ qs) (suc i) q e =
    let parts = length-append (processes_of r) (in_conditions qs) in
    let l = queue_within qs i q e in
    omega arith

module _ (d : Declared) (s : System) (w : CodeWorld) (table : ClassTable) (members : List ℕ) (from : ℕ)
    (can : CanGo d s w table members from) where
  abbrev c : Cluster
  c = s.cluster

  abbrev pub object_parts : List ObjectPart
  object_parts = flat_map (object_goes table c w from) members

  abbrev pub monitor_parts : List MonitorPart
  monitor_parts = flat_map (monitor_goes c w from) members

  -- ---- they come in order

  pub objects_sorted : Sorted NumberBefore object_parts
  objects_sorted = sorted_joined NumberBefore (object_goes table c w from)
      (λ oid. sorted_if NumberBefore (is_here c from oid) (object_if table oid (object_at w.common.objects oid))
      (sorted_object table oid (object_at w.common.objects oid)))
      (λ i j x y l h g.
      let a = if_is table i (object_at w.common.objects i) x
      (has_if (is_here c from i) (object_if table i (object_at w.common.objects i)) x h) in
      let b = if_is table j (object_at w.common.objects j) y
      (has_if (is_here c from j) (object_if table j (object_at w.common.objects j)) y g) in
      omega arith)
      members can.rising

  pub monitors_sorted : Sorted ObjectBefore monitor_parts
  monitors_sorted = sorted_joined ObjectBefore (monitor_goes c w from)
      (λ oid. sorted_if ObjectBefore (is_here c from oid) (monitor_if oid (object_at w.common.objects oid))
      (sorted_monitor oid (object_at w.common.objects oid)))
      (λ i j x y l h g.
      let a = monitor_if_is i (object_at w.common.objects i) x
      (has_if (is_here c from i) (monitor_if i (object_at w.common.objects i)) x h) in
      let b = monitor_if_is j (object_at w.common.objects j) y
      (has_if (is_here c from j) (monitor_if j (object_at w.common.objects j)) y g) in
      omega arith)
      members can.rising

  -- ---- each is one that goes

  object_by : (oid : ℕ) → Has members oid → (b : Bool) → is_here c from oid ≡ b → (part : ObjectPart) →
      Has (if b then object_if table oid (object_at w.common.objects oid) else []) part → IsOfObject table c w members from part
  object_by oid member false here part h = absurd (has_none part h)
  object_by oid member true here part h =
      let o = object d s w table members from can oid member here in
      let n = class d s w table members from can oid member here in
      let is = object_part_is d s w table members from can oid member here in
      let list : Has (part_of oid n o ∷ []) part =
      subst (λ (xs : List ObjectPart). Has xs part)
      (sym (ap (λ b. if b then object_if table oid (object_at w.common.objects oid) else []) here) ∙ is) h in
      let same : part ≡ part_of oid n o = has_one (part_of oid n o) part list in
      subst (λ (x : ObjectPart). IsOfObject table c w members from x) (sym same) (record {
        object = o;
        class = n;
        goes = goes d s w table members from can oid member here;
        numbered = (number d s w table members from can oid member here).1;
        is = refl;
      })

  pub is_object : (part : ObjectPart) → Has object_parts part → IsOfObject table c w members from part
  is_object part h =
      let z = has_joined (object_goes table c w from) members part h in
      object_by z.0 z.1.0 (is_here c from z.0) refl part z.1.1

  pub has_object : (oid : ℕ) (o : ObjectRec) → ObjectGoes c w members from oid o →
      (part : ObjectPart) × (Has object_parts part × (part.number ≡ oid))
  has_object oid o g =
      let here = is_here_it c from oid g.at in
      let x = object d s w table members from can oid g.member here in
      let n = class d s w table members from can oid g.member here in
      let is = object_part_is d s w table members from can oid g.member here in (
        part_of oid n x,
        (
          joined_has (object_goes table c w from) members oid (part_of oid n x) g.member
              (subst (λ (xs : List ObjectPart). Has xs (part_of oid n x)) (sym is) (has_first (part_of oid n x) [])),
          refl,
        ),
      )

  monitor_by : (oid : ℕ) → Has members oid → (b : Bool) → is_here c from oid ≡ b → (part : MonitorPart) →
      Has (if b then monitor_if oid (object_at w.common.objects oid) else []) part → IsOfMonitor c w members from part
  monitor_by oid member false here part h = absurd (has_none part h)
  monitor_by oid member true here part h =
      let o = object d s w table members from can oid member here in
      let is = monitor_part_is d s w table members from can oid member here in
      let list : Has (option_to_list (monitor_part_of oid o.monitor)) part =
      subst (λ (xs : List MonitorPart). Has xs part)
      (sym (ap (λ b. if b then monitor_if oid (object_at w.common.objects oid) else []) here) ∙ is) h in
      let same = monitor_is oid o.monitor part list in
      record {
        object = o;
        goes =
            subst (λ n. ObjectGoes c w members from n o) (sym same.0) (goes d s w table members from can oid member here);
        has = same.1;
      }

  pub is_monitor : (part : MonitorPart) → Has monitor_parts part → IsOfMonitor c w members from part
  is_monitor part h =
      let z = has_joined (monitor_goes c w from) members part h in
      monitor_by z.0 z.1.0 (is_here c from z.0) refl part z.1.1

  pub has_monitor : (oid : ℕ) (o : ObjectRec) (m : MonitorRec) → ObjectGoes c w members from oid o → o.monitor ≡ Some m →
      Has monitor_parts (record { object = oid; monitor = m })
  has_monitor oid o m g e =
      let here = is_here_it c from oid g.at in
      let x = object d s w table members from can oid g.member here in
      let same : x ≡ o = same_Some x o (sym (goes d s w table members from can oid g.member here).is ∙ g.is) in
      let is = monitor_part_is d s w table members from can oid g.member here
      ∙ ap (λ (y : ObjectRec). option_to_list (monitor_part_of oid y.monitor)) same
      ∙ ap (λ (y : Option MonitorRec). option_to_list (monitor_part_of oid y)) e in
      joined_has (monitor_goes c w from) members oid (record { object = oid; monitor = m }) g.member
      (subst (λ (xs : List MonitorPart). Has xs (record { object = oid; monitor = m })) (sym is)
      (has_first (record { object = oid; monitor = m }) []))

  -- ---- objects keep rules

  pub object_positive : (part : ObjectPart) → Has object_parts part → 0 < part.number
  object_positive part h = let o = is_object part h in positive w.common.objects part.number o.object o.goes.is

  -- the fields of an object that goes
  module _ (oid : ℕ) (o : ObjectRec) (n : ℕ) (there : object_at w.common.objects oid ≡ Some o) (has : number_of table o.class ≡ Some n) where
    fields_fine : FineFields d c.parts w.common.objects o.class o.fields
    fields_fine =
        each_object (FineObject d c.parts w.common.objects) w.common.objects oid o can.runs.sound.common.objects there

    fields_ranged : RangedObject o
    fields_ranged = each_object RangedObject w.common.objects oid o can.runs.ranged.common.objects there

    good : (v : Value) (t : StaticType) (i : ℕ) → HasType d w.common.objects t v → slice_get o.fields i ≡ Some v →
        IsGood d w.common.objects v
    good v t i fits e = record { type = t; fits = fits; ranged = each_get InRange o.fields i v fields_ranged.values e }

    -- what stands on the left where something stands on the right
    left_of : (ts : List StaticType) (vs : List Value) (i : ℕ) (v : Value) → AllTwo (HasType d w.common.objects) ts vs →
        slice_get vs i ≡ Some v → (t : StaticType) × HasType d w.common.objects t v
    left_of [] [] i v all e = absurd cc
    left_of [] (u ∷ vs) i v all e = absurd all
    left_of (t ∷ ts) [] i v all e = absurd cc
    left_of (t ∷ ts) (u ∷ vs) zero v all e = (t, subst (λ (x : Value). HasType d w.common.objects t x) (same_Some u v e) all.0)
    left_of (t ∷ ts) (u ∷ vs) (suc i) v all e = left_of ts vs i v all.1 e

    no_fields : o.class ≡ Program → o.fields ≡ []
    no_fields e = each_object IsPlain w.common.objects oid o can.bare there e

    pub fields_good : (i : ℕ) (v : Value) → slice_get o.fields i ≡ Some v → IsGood d w.common.objects v
    fields_good i v e = by o.class refl fields_fine has
      where
        by : (class : ClassNo) → o.class ≡ class → FineFields d c.parts w.common.objects class o.fields → number_of table class ≡ Some n →
            IsGood d w.common.objects v
        by (Made k) is fine named = let t = left_of (types_if (slice_get d.classes k)) o.fields i v fine.1 e in good v t.0 i t.1 e
        by (Vector of) is fine named =
            good v (element_static of) i (each_get (HasType d w.common.objects (element_static of)) o.fields i v fine e) e
        by Program is fine named =
            let none : slice_get [] i ≡ Some v = subst (λ (vs : List Value). slice_get vs i ≡ Some v) (no_fields is) e in
            absurd cc
        by Node is fine named = absurd cc

    pub fields_few : length o.fields ≤ 16384
    fields_few = by o.class refl fields_fine fields_ranged.few has
      where
        made : (k : ℕ) (x : Option DeclaredClass) → slice_get d.classes k ≡ x → AllTwo (HasType d w.common.objects) (types_if x) o.fields →
            length o.fields ≤ 16384
        made k None e all = let same = all_two_length (HasType d w.common.objects) [] o.fields all in omega arith
        made k (Some t) e all =
            let class = can.runs.steady.fine.classes k t e in
            let many = all_two_length (HasType d w.common.objects) t.fields o.fields all in
            let same = all_two_length (IsFieldOf d c.parts) t.fields class.0.fields class.2.fields in
            let limits = (can.runs.steady.images Riscv).limits in
            let few : length class.0.fields ≤ 100 =
            each_get HasFewFields c.parts.classes k class.0 (recursion_from_All HasFewFields c.parts.classes limits.fields) class.1 in
            omega arith

        by : (class : ClassNo) → o.class ≡ class → FineFields d c.parts w.common.objects class o.fields → FewElements class o.fields →
            number_of table class ≡ Some n → length o.fields ≤ 16384
        by (Made k) is fine few named = made k (slice_get d.classes k) refl fine.1
        by (Vector of) is fine few named = few
        by Program is fine few named = let none = ap length (no_fields is) in omega arith
        by Node is fine few named = absurd cc

  -- ---- monitors keep rules

  pub monitor_positive : (part : MonitorPart) → Has monitor_parts part → 0 < part.object
  monitor_positive part h = let o = is_monitor part h in positive w.common.objects part.object o.object o.goes.is

  module _ (small : length w.processes < 2 ^ 32) (part : MonitorPart) (h : Has monitor_parts part) where
    of : IsOfMonitor c w members from part
    of = is_monitor part h

    tells : QueuesTell w part.object part.monitor
    tells = queues_tell w part.object part.monitor can.runs.sound.waiting (ap monitor_in of.goes.is ∙ of.has)

    waiting_below : (q : ℕ) → Has (queued part.monitor) q → q < length w.processes
    waiting_below q g = ⊎_elim
        (λ (e : Has part.monitor.entry q). let z = tells.entry q e in get_within w.processes q z.proc z.there)
        (λ (o : Has (processes_of part.monitor.urgent ++ in_conditions part.monitor.conditions) q). ⊎_elim
        (λ (u : Has (processes_of part.monitor.urgent) q). let z = tells.urgent q u in get_within w.processes q z.proc z.there)
        (λ (x : Has (in_conditions part.monitor.conditions) q). let z = tells.condition q x in get_within w.processes q z.proc z.there)
        (has_either q (processes_of part.monitor.urgent) (in_conditions part.monitor.conditions) o))
        (has_either q part.monitor.entry (processes_of part.monitor.urgent ++ in_conditions part.monitor.conditions) g)

    pub monitor_short : IsShort part.monitor
    monitor_short =
        let m = part.monitor in
        let all = few_below (queued m) (length w.processes) (record { once = tells.once }) waiting_below in
        let parts = length-append m.entry (processes_of m.urgent ++ in_conditions m.conditions) in
        let rest = length-append (processes_of m.urgent) (in_conditions m.conditions) in
        let urgent = length-map m.urgent (λ (x : Hold). x.process) in
        record {
          entry = omega arith;
          urgent = omega arith;
          conditions = (can.monitors part.object of.object m of.goes of.has).conditions;
          queues = λ i q e. let l = queue_within m.conditions i q e in omega arith;
        }
