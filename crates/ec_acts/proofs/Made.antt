-- A new object is one of the world that is shown.
use Rattle.std.proofs.Common.{◌≡◌, ℕ, suc, List, [], ◌∷◌, ◌++◌, Option, Some, None, refl, sym, ap, ◌∙◌, subst, arith, inl, length-append}
use Rattle.std.specs.Prelude.{IsSome, false, length, replicate}
use Rattle.ec_cluster.specs.Cluster.{CodeWorld, Shows}
use Rattle.ec_cluster.specs.Makings.{CanMake, Made}
use Rattle.ec_cluster.specs.Steps.{HasObject, WhereIs, with_common}
use Rattle.ec_cluster.specs.declared.cluster.Cluster.{Cluster}
use Rattle.ec_acts.proofs.Counting.{new_place, one_more}
use Rattle.ec_acts.proofs.Stepping.{done_there, with_cluster}
use Rattle.ec_cluster.specs.Whereabouts.{made_count}
use Rattle.ec_monitors.specs.declared.record.MonitorRec.{MonitorRec}
use Rattle.ec_world.proofs.Procs.{get_end}
use Rattle.ec_world.specs.declared.key.Key.TheVariants.{Object}
use Rattle.ec_cluster.specs.SystemSteps.{ByClass, Does}
use Rattle.ec_cluster.specs.Systems.{Mirrors, Strings}
use Rattle.ec_cluster.specs.declared.system.System.{System}
use Rattle.ec_things.specs.Things.{object_if, object_thing}
use Rattle.ec_world.specs.Group.{Has}
use Rattle.ec_world.specs.Objects.{class_at, element_kind, object_at}
use Rattle.ec_world.specs.Outcomes.{Done, done, made_object, monitor_for, only, with_object}
use Rattle.ec_world.specs.Values.{default_of, new_fields}
use Rattle.ec_world.specs.declared.class.ClassNo.{ClassNo}
use Rattle.ec_world.specs.declared.class.ClassNo.TheVariants.{Vector}
use Rattle.ec_world.specs.declared.class.ClassRec.{ClassRec}
use Rattle.ec_world.specs.declared.class.VectorType.{VectorType}
use Rattle.ec_world.specs.declared.doing.Doing.{Doing}
use Rattle.ec_world.specs.declared.doing.Doing.TheVariants.{Makes, MakesVector}
use Rattle.ec_world.specs.declared.doing.Outcome.{Outcome}
use Rattle.ec_world.specs.declared.object.ObjectRec.{ObjectRec}
use Rattle.ec_world.specs.declared.stop.Effect.TheVariants.{Calls, GoesOn}
use Rattle.ec_world.specs.declared.stop.Who.{Who}
use Rattle.ec_world.specs.declared.value.Value.{Value}
use Rattle.ec_world.specs.declared.value.Value.TheVariants.{Ref, Str}

-- ---- what the making asks for

-- a class by which something can be done is there
pub class_there : (x : Option ClassRec) (Can : ClassRec → Type 0) → ByClass x Can → IsSome x
class_there None Can can = absurd can
class_there (Some k) Can can = refl

pub class_is : (x : Option ClassRec) (k : ClassRec) (Can : ClassRec → Type 0) → x ≡ Some k → ByClass x Can → Can k
class_is x k Can is can = subst (λ y. ByClass y Can) is can

pub can_make : (c : Cluster) (maker oid : ℕ) (class : ClassNo) (fields wanted : List Value) → oid ≡ suc (made_count c.whereabouts) →
    fields ≡ wanted → CanMake c maker (suc (made_count c.whereabouts)) class wanted → CanMake c maker oid class fields
can_make c maker oid class fields wanted number are can =
    subst (λ x. CanMake c maker x class fields) (sym number)
    (subst (λ (x : List Value). CanMake c maker (suc (made_count c.whereabouts)) class x) (sym are) can)

pub can_make_object : (c : Cluster) (maker oid : ℕ) (class : ClassNo) (fields given : List Value) (k : ClassRec) →
    oid ≡ suc (made_count c.whereabouts) → class_at c.parts.classes class ≡ Some k → fields ≡ new_fields given k.fields →
    ByClass (class_at c.parts.classes class)
    (λ k. CanMake c maker (suc (made_count c.whereabouts)) class (new_fields given k.fields)) → CanMake c maker oid class fields
can_make_object c maker oid class fields given k number is are can =
    can_make c maker oid class fields (new_fields given k.fields) number are
    (class_is (class_at c.parts.classes class) k
    (λ k. CanMake c maker (suc (made_count c.whereabouts)) class (new_fields given k.fields)) is can)

-- ---- what has been made

module _ (s : System) (w : CodeWorld) (who : Who) (mirrors : Mirrors s w) (c' : Cluster) (oid : ℕ)
    (number : oid ≡ suc (made_count s.cluster.whereabouts)) (has : HasObject s.cluster who.own) where
  numbered : oid ≡ suc (length w.common.objects)
  numbered = number ∙ ap suc (sym mirrors.objects)

  module _ (o : ObjectRec) (made : Made s.cluster c' who.own oid o) where
    new_object : (i : ℕ) → i ≡ suc (length w.common.objects) → object_at (w.common.objects ++ o ∷ []) i ≡ Some o
    new_object i is = ap (object_at (w.common.objects ++ o ∷ [])) is ∙ get_end w.common.objects o

    -- its texts are those of its fields
    come : (k : ℕ) (text : List ℕ) → WhereIs s.cluster who.own (λ text. Has o.fields (Str text)) k text →
        Strings c' (with_common w (with_object w.common who o)) k text
    come k text x = inl (record {
      key = Object oid;
      thing = object_thing oid o;
      is = ap (object_if oid) (new_object oid numbered);
      at = new_place s.cluster c' who.own oid o made k x.0;
      has = x.1;
    })

    pub made_there : (doing : Doing) (result : Outcome) → done w.common who doing ≡ (with_object w.common who o, result) →
        Does s (with_cluster s c') w who doing result
    made_there doing result is =
        let shown : Shows c' (with_common w (with_object w.common who o)) = made.shown w mirrors.shows mirrors.objects in
        let more = one_more s.cluster c' who.own oid o made has in
        let many = mirrors.objects in
        let long = length-append w.common.objects (o ∷ []) in
        done_there s w who mirrors c' (with_object w.common who o) (WhereIs s.cluster who.own (λ text. Has o.fields (Str text))) doing
        result made.changes shown (record { nodes = refl; classes = refl; constants = refl }) refl
        (omega (arith, more, many, long)) come is

  pub object_made : (class : ClassNo) (given fields : List Value) (k : ClassRec) (monitor : Option MonitorRec) →
      class_at s.cluster.parts.classes class ≡ Some k → fields ≡ new_fields given k.fields → monitor ≡ monitor_for k →
      Made s.cluster c' who.own oid (record { class = class; fields = fields; fixed = false; monitor = monitor }) →
      Does s (with_cluster s c') w who (Makes class given) (only (Calls k.initial oid []))
  object_made class given fields k monitor is are monitor_is made =
      let tells : List Value → Option MonitorRec → ℕ → Done =
      λ fields monitor i. (
        with_object w.common who (record { class = class; fields = fields; fixed = false; monitor = monitor }),
        only (Calls k.initial i []),
      ) in
      made_there (record { class = class; fields = fields; fixed = false; monitor = monitor }) made (Makes class given)
      (only (Calls k.initial oid []))
      (ap (made_object w.common who class given) (ap (λ (x : List ClassRec). class_at x class) mirrors.classes ∙ is)
      ∙ ap (λ (x : List Value). tells x (monitor_for k) (suc (length w.common.objects))) (sym are)
      ∙ ap (λ (x : Option MonitorRec). tells fields x (suc (length w.common.objects))) (sym monitor_is)
      ∙ ap (tells fields monitor) (sym numbered))

  pub vector_made : (of : VectorType) (n : ℕ) (fields : List Value) → fields ≡ replicate n (default_of (element_kind of)) →
      Made s.cluster c' who.own oid (record { class = Vector of; fields = fields; fixed = false; monitor = None }) →
      Does s (with_cluster s c') w who (MakesVector of n) (only (GoesOn (Some (Ref oid))))
  vector_made of n fields are made =
      let tells : List Value → ℕ → Done =
      λ fields i. (
        with_object w.common who (record { class = Vector of; fields = fields; fixed = false; monitor = None }),
        only (GoesOn (Some (Ref i))),
      ) in
      made_there (record { class = Vector of; fields = fields; fixed = false; monitor = None }) made (MakesVector of n)
      (only (GoesOn (Some (Ref oid))))
      (ap (λ (x : List Value). tells x (suc (length w.common.objects))) (sym are) ∙ ap (tells fields) (sym numbered))
