-- What goes of a group from a node is the same once other nodes have sent theirs, and whichever objects are fixed.
use Rattle.std.proofs.Common.{◌≡◌, ◌∙◌, ℕ, zero, suc, Bool, List, Some, ap, arith, refl, subst, sym}
use Rattle.std.proofs.lemmas.Option.{same_Some}
use Rattle.ec_base.proofs.Lists.{get_there, get_within}
use Rattle.ec_cluster.specs.Cluster.{CodeWorld, place}
use Rattle.ec_cluster.specs.declared.cluster.Cluster.{Cluster}
use Rattle.ec_code.specs.declared.activation.CodeActivation.{CodeActivation}
use Rattle.ec_code.specs.declared.code.Parts.{Parts}
use Rattle.ec_gathering.specs.Gathering.{ButFixed}
use Rattle.ec_parcels.specs.Activations.{activation_part_of}
use Rattle.ec_parcels.specs.Classes.{ClassTable}
use Rattle.ec_node_frames.specs.Frames.{RestsAt}
use Rattle.ec_world.specs.Things.{activation_at}
use Rattle.ec_parcels.specs.Parcels.{ActivationGoes, IsOfActivation, IsOfMonitor, IsOfObject, ObjectGoes, Packs}
use Rattle.ec_wire.specs.declared.parcel.ActivationPart.{ActivationPart}
use Rattle.ec_wire.specs.declared.parcel.Contents.{Contents}
use Rattle.ec_wire.specs.declared.parcel.MonitorPart.{MonitorPart}
use Rattle.ec_wire.specs.declared.parcel.ObjectPart.{ObjectPart}
use Rattle.ec_world.specs.Group.{Has}
use Rattle.ec_world.specs.Objects.{object_at}
use Rattle.ec_world.specs.declared.object.ObjectRec.{ObjectRec}
use Rattle.ec_world.specs.declared.process.Proc.{Proc}

-- ---- objects that are the same but for whether they are fixed

pub object_then : (w w' : CodeWorld) → ButFixed w w' → (oid : ℕ) (o : ObjectRec) → object_at w.common.objects oid ≡ Some o →
    (fixed : Bool) × (object_at w'.common.objects oid ≡ Some (record o { fixed = fixed }))
object_then w w' but zero o is = absurd cc
object_then w w' but (suc i) o is = but.each i o is

-- so it is the other way round
pub but_back : (w w' : CodeWorld) → ButFixed w w' → ButFixed w' w
but_back w w' but = record {
  processes = sym but.processes;
  globals = sym but.globals;
  many = sym but.many;
  each = λ i o is.
      let l = get_within w'.common.objects i o is in
      let many = but.many in
      let was = get_there w.common.objects i (omega (arith, l, many)) in
      let then = but.each i was.0 was.1 in
      let same : record was.0 { fixed = then.0 } ≡ o = same_Some (record was.0 { fixed = then.0 }) o (sym then.1 ∙ is) in
      (was.0.fixed, was.1 ∙ ap (λ (x : ObjectRec). Some (record x { fixed = was.0.fixed })) same);
}

pub but_itself : (w : CodeWorld) → ButFixed w w
but_itself w = record { processes = refl; globals = refl; many = refl; each = λ i o is. (o.fixed, is) }

pub but_then : (w w1 w2 : CodeWorld) → ButFixed w w1 → ButFixed w1 w2 → ButFixed w w2
but_then w w1 w2 first second = record {
  processes = second.processes ∙ first.processes;
  globals = second.globals ∙ first.globals;
  many = second.many ∙ first.many;
  each = λ i o is. let x = first.each i o is in second.each i (record o { fixed = x.0 }) x.1;
}

-- ---- what goes from a node

-- the members at a node
abbrev pub SameHere : Cluster → Cluster → List ℕ → ℕ → Type 0
SameHere c c' members k = (oid : ℕ) → Has members oid → place c oid ≡ Some k → place c' oid ≡ Some k

module _ (c c' : Cluster) (w w' : CodeWorld) (members : List ℕ) (k : ℕ) (but : ButFixed w w') (stays : SameHere c c' members k) where
  object_along : (oid : ℕ) (o : ObjectRec) → ObjectGoes c w members k oid o →
      (fixed : Bool) × ObjectGoes c' w' members k oid (record o { fixed = fixed })
  object_along oid o goes =
      let x = object_then w w' but oid o goes.is in
      (x.0, record { member = goes.member; at = stays oid goes.member goes.at; is = x.1 })

  activation_along : (p d : ℕ) (a : CodeActivation) → ActivationGoes c w members k p d a → ActivationGoes c' w' members k p d a
  activation_along p d a goes = record {
    member = goes.member;
    at = stays a.own goes.member goes.at;
    is = ap (λ (ps : List (Proc CodeActivation)). activation_at ps p d) but.processes ∙ goes.is;
  }

module _ (table : ClassTable) (c c' : Cluster) (w w' : CodeWorld) (members : List ℕ) (k : ℕ) (but : ButFixed w w')
    (stays : SameHere c c' members k) (back : SameHere c' c members k) (parts : c'.parts ≡ c.parts) (x : Contents)
    (packs : Packs table c w members k x) where
  its_object : (part : ObjectPart) → IsOfObject table c w members k part → IsOfObject table c' w' members k part
  its_object part of =
      let o = object_along c c' w w' members k but stays part.number of.object of.goes in
      record { object = record of.object { fixed = o.0 }; class = of.class; goes = o.1; numbered = of.numbered; is = of.is }

  its_monitor : (part : MonitorPart) → IsOfMonitor c w members k part → IsOfMonitor c' w' members k part
  its_monitor part of =
      let o = object_along c c' w w' members k but stays part.object of.object of.goes in
      record { object = record of.object { fixed = o.0 }; goes = o.1; has = of.has }

  its_activation : (part : ActivationPart) → IsOfActivation c w members k part → IsOfActivation c' w' members k part
  its_activation part of = record {
    activation = of.activation;
    entry = of.entry;
    goes = activation_along c c' w w' members k but stays part.process part.depth of.activation of.goes;
    rests = subst (λ (p : Parts). RestsAt p of.activation of.entry) (sym parts) of.rests;
    is = of.is ∙ ap (λ (p : Parts). activation_part_of part.process part.depth p of.activation of.entry) (sym parts);
  }

  pub packs_along : Packs table c' w' members k x
  packs_along = record {
    objects = λ part h. its_object part (packs.objects part h);
    each_object = λ oid o goes.
        let was = object_along c' c w' w members k (but_back w w' but) back oid o goes in
        packs.each_object oid (record o { fixed = was.0 }) was.1;
    monitors = λ part h. its_monitor part (packs.monitors part h);
    each_monitor = λ oid o m goes has.
        let was = object_along c' c w' w members k (but_back w w' but) back oid o goes in
        packs.each_monitor oid (record o { fixed = was.0 }) m was.1 has;
    activations = λ part h. its_activation part (packs.activations part h);
    each_activation = λ p d a goes.
        packs.each_activation p d a (activation_along c' c w' w members k (but_back w w' but) back p d a goes);
  }
