-- A whole parcel: it holds what goes, and keeps the rules of the wire form.
use Rattle.std.proofs.Common.{◌≡◌, ◌<◌, ◌^◌, ℕ, true, List, length, sym, ap, ◌∙◌, arith}
use Rattle.std.specs.Prelude.{slice_get}
use Rattle.ec_cluster.specs.Cluster.{CodeWorld}
use Rattle.ec_code.specs.Typing.{Declared}
use Rattle.ec_formats.proofs.Steps.{both}
use Rattle.ec_formats.specs.Lists.{list}
use Rattle.ec_parcels.specs.Classes.{ClassTable}
use Rattle.ec_packing.proofs.ActivationParts.{activation_parts, activations_sorted, few_there, has_activation, is_activation}
use Rattle.ec_packing.proofs.ActivationParts.{own_positive, source, values_few, values_good}
use Rattle.ec_packing.proofs.Carrying.{IsGood}
use Rattle.ec_packing.proofs.Counting.{fewer_items}
use Rattle.ec_packing.proofs.ObjectParts.{fields_few, fields_good, has_monitor, has_object, is_monitor, is_object, monitor_parts}
use Rattle.ec_packing.proofs.ObjectParts.{monitor_positive, monitor_short, monitors_sorted, object_parts, object_positive, objects_sorted}
use Rattle.ec_packing.proofs.Rules.{NumberBefore, ObjectBefore, activations_keep, monitors_keep, objects_keep, value_keeps}
use Rattle.ec_packing.specs.Blocks.{HaveSmallBlocks}
use Rattle.ec_packing.specs.Narrow.{EachIs, IsNarrow, NarrowContents}
use Rattle.ec_packing.specs.Packing.{CanGo}
use Rattle.ec_parcels.specs.Parcels.{Packs}
use Rattle.ec_cluster.specs.declared.system.System.{System}
use Rattle.ec_things.specs.Store.{Store, Tidy}
use Rattle.ec_wire.specs.WireForm.{KeepsRules, activation, monitor, most, object, value_fits}
use Rattle.ec_wire.specs.declared.parcel.ActivationPart.{ActivationPart}
use Rattle.ec_wire.specs.declared.parcel.Contents.{Contents}
use Rattle.ec_wire.specs.declared.parcel.MonitorPart.{MonitorPart}
use Rattle.ec_wire.specs.declared.parcel.ObjectPart.{ObjectPart}
use Rattle.ec_world.specs.declared.value.Value.{Value}

module _ (d : Declared) (s : System) (w : CodeWorld) (table : ClassTable) (members : List ℕ) (from : ℕ)
    (can : CanGo d s w table members from) where
  abbrev objects : List ObjectPart
  objects = object_parts d s w table members from can

  abbrev monitors : List MonitorPart
  monitors = monitor_parts d s w table members from can

  abbrev activations : List ActivationPart
  activations = activation_parts d s w table members from can

  abbrev pub contents : Contents
  contents = record { objects = objects; monitors = monitors; activations = activations }

  pub packs : Packs table s.cluster w members from contents
  packs = record {
    objects = is_object d s w table members from can;
    each_object = has_object d s w table members from can;
    monitors = is_monitor d s w table members from can;
    each_monitor = has_monitor d s w table members from can;
    activations = is_activation d s w table members from can;
    each_activation = has_activation d s w table members from can;
  }

  -- good values of 32 bits fit
  values_keep : (vs : List Value) → EachIs (IsGood d w.common.objects) vs → EachIs IsNarrow vs → EachIs (λ v. value_fits v ≡ true) vs
  values_keep vs good narrow i v e = value_keeps d w.common.objects v (good i v e) (narrow i v e)

  module _ (narrow : NarrowContents contents) where
    few_objects : length objects < 2 ^ 32
    few_objects = fewer_items (λ (p : ObjectPart). p.number) NumberBefore objects (objects_sorted d s w table members from can)
        (λ x y h g before same. omega arith) (2 ^ 32) (λ x h. (narrow.objects h.at x h.is).number)
        (object_positive d s w table members from can) (omega arith)

    objects_fit : (list most object).fits objects ≡ true
    objects_fit = objects_keep objects (objects_sorted d s w table members from can) few_objects narrow.objects
        (λ i part e. object_positive d s w table members from can part (record { at = i; is = e }))
        (λ i part e.
        let o = is_object d s w table members from can part (record { at = i; is = e }) in
        let few = fields_few d s w table members from can part.number o.object o.class o.goes.is o.numbered in
        let same = ap (λ (p : ObjectPart). length p.values) o.is in
        omega (arith, few, same))
        (λ i part e.
        let o = is_object d s w table members from can part (record { at = i; is = e }) in
        let same = ap (λ (p : ObjectPart). p.values) o.is in
        values_keep part.values
        (λ j v f. fields_good d s w table members from can part.number o.object o.class o.goes.is o.numbered j v
        (ap (λ (vs : List Value). slice_get vs j) (sym same) ∙ f))
        (narrow.objects i part e).values)

    few_monitors : length monitors < 2 ^ 32
    few_monitors = fewer_items (λ (p : MonitorPart). p.object) ObjectBefore monitors (monitors_sorted d s w table members from can)
        (λ x y h g before same. omega arith) (2 ^ 32) (λ x h. (narrow.monitors h.at x h.is).object)
        (monitor_positive d s w table members from can) (omega arith)

    monitors_fit : length w.processes < 2 ^ 32 → (list most monitor).fits monitors ≡ true
    monitors_fit small = monitors_keep monitors (monitors_sorted d s w table members from can) few_monitors narrow.monitors
        (λ i part e. monitor_positive d s w table members from can part (record { at = i; is = e }))
        (λ i part e.
        let m = is_monitor d s w table members from can part (record { at = i; is = e }) in
        (can.monitors part.object m.object part.monitor m.goes m.has).depths)
        (λ i part e. monitor_short d s w table members from can small part (record { at = i; is = e }))

    activations_fit : length activations < 2 ^ 32 → (list most activation).fits activations ≡ true
    activations_fit few = activations_keep activations (activations_sorted d s w table members from can) few narrow.activations
        (λ i part e.
        let z = source d s w table members from can part (record { at = i; is = e }) in
        let same = ap (λ (p : ActivationPart). p.own) z.part_is.same in
        let own = own_positive d s w table members from can part.process part.depth z.activation z.is in
        omega (arith, same, own))
        (λ i part e.
        let z = source d s w table members from can part (record { at = i; is = e }) in
        let same = ap (λ (p : ActivationPart). length p.values) z.part_is.same in
        let all = values_few d s w table members from can part.process part.depth z.activation z.is z.part_is.goes in
        omega (arith, same, all))
        (λ i part e.
        let z = source d s w table members from can part (record { at = i; is = e }) in
        let same = ap (λ (p : ActivationPart). p.values) z.part_is.same in
        values_keep part.values
        (λ j v f. values_good d s w table members from can part.process part.depth z.activation z.is j v
        (ap (λ (vs : List Value). slice_get vs j) (sym same) ∙ f))
        (narrow.activations i part e).values)

    pub keeps : length w.processes < 2 ^ 32 → (t : Store) → Tidy t → HaveSmallBlocks t activations → KeepsRules contents
    keeps small t tidy have =
        let few = few_there t activations tidy have (activations_sorted d s w table members from can) in
        both _ _ objects_fit (both _ _ (monitors_fit small) (activations_fit (omega (arith, few))))
