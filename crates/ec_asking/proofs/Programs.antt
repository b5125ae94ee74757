-- A world that a system runs is one of its nodes' program.
use Rattle.std.proofs.Common.{◌≡◌, ℕ, zero, suc, ◌/◌, ◌%◌, List, [], ◌∷◌, length, Option, Some, None, refl, sym, ap, ◌∙◌, subst}
use Rattle.std.proofs.Common.{arith}
use Rattle.std.proofs.lemmas.Option.{same_Some}
use Rattle.std.specs.List.{AllByRecursion as Each}
use Rattle.std.specs.Prelude.{IsSome, option_map, slice_get}
use Rattle.ec_activations.proofs.Frames.{all_two_at}
use Rattle.ec_asking.proofs.OfKind.{element_same, of_kind}
use Rattle.ec_asking.specs.Bare.{HasBareProgram, IsBareProgram}
use Rattle.ec_code.specs.Idle.{IsPlain}
use Rattle.ec_cluster.specs.Cluster.{CodeWorld, Shows, place, stores}
use Rattle.ec_cluster.specs.declared.cluster.Cluster.{Cluster}
use Rattle.ec_code.specs.Fine.{Fine, IsFieldOf}
use Rattle.ec_code.specs.Typing.{Declared, DeclaredClass, element_static, fields_if as types_if, kind_of}
use Rattle.ec_code.specs.declared.code.Parts.{Parts}
use Rattle.ec_types.specs.declared.conform.static_type.StaticType.{StaticType}
use Rattle.ec_world.proofs.Procs.{get_past}
use Rattle.ec_world.specs.Things.{class_blocks}
use Rattle.ec_world.specs.declared.key.Key.TheVariants.{Object}
use Rattle.ec_objects.specs.Kinds.{IsOfKind}
use Rattle.ec_code.specs.RangesValues.{InRange}
use Rattle.ec_cluster.proofs.Reading.{all_can}
use Rattle.ec_cluster.specs.Kinds.{IsOfKindAt, kind_at}
use Rattle.ec_cluster.specs.Seeing.{CanBeSeen, ShowsProgram}
use Rattle.ec_code.proofs.Carried.{each_get, each_object}
use Rattle.ec_code.specs.Sound.{FineFields, FineObject}
use Rattle.ec_code.specs.SoundValues.{HasType}
use Rattle.ec_code.specs.Worlds.{RangedObject}
use Rattle.ec_cluster.specs.Systems.{Runs}
use Rattle.ec_cluster.specs.declared.system.System.{System}
use Rattle.ec_things.specs.Store.{Owned, Store, word_in, word_of}
use Rattle.ec_things.specs.Things.{ShownAt, Thing, object_if, object_thing}
use Rattle.ec_world.specs.Agree.{AllTwo}
use Rattle.ec_world.specs.Group.{fields_if}
use Rattle.ec_world.specs.Objects.{element_kind, object_at}
use Rattle.ec_world.specs.declared.class.ClassNo.{ClassNo}
use Rattle.ec_world.specs.declared.class.ClassNo.TheVariants.{Node, Program, Made, Vector}
use Rattle.ec_world.specs.declared.class.ClassRec.{ClassRec}
use Rattle.ec_world.specs.declared.class.FieldRec.{FieldRec}
use Rattle.ec_world.specs.declared.class.VectorType.{VectorType}
use Rattle.ec_world.specs.declared.object.ObjectRec.{ObjectRec}
use Rattle.ec_world.specs.declared.value.Value.{Value}
use Rattle.ec_world.specs.declared.value.ValueType.{ValueType}

-- what stands on the left where something stands on the right
left_of : {A B : Type 0} (R : A → B → Type 0) (xs : List A) (ys : List B) (i : ℕ) (y : B) → AllTwo R xs ys → slice_get ys i ≡ Some y →
    (x : A) × (slice_get xs i ≡ Some x) × R x y
left_of R [] [] i y all e = absurd cc
left_of R [] (z ∷ ys) i y all e = absurd all
left_of R (x ∷ xs) [] i y all e = absurd all
left_of R (x ∷ xs) (z ∷ ys) zero y all e = (x, refl, subst (λ w. R x w) (same_Some z y e) all.0)
left_of R (x ∷ xs) (z ∷ ys) (suc i) y all e = left_of R xs ys i y all.1 e

-- ---- fields by the class of their object

module _ (d : Declared) (p : Parts) (fine : Fine d p) (objects : List ObjectRec) where
  kind_there : (k i : ℕ) (class : ClassRec) (f : FieldRec) (t : StaticType) → slice_get p.classes k ≡ Some class →
      slice_get class.fields i ≡ Some f → f.of ≡ kind_of t → kind_at p.classes (Made k) i ≡ Some (kind_of t)
  kind_there k i class f t is there of =
      ap (λ (x : Option ClassRec). option_map (λ (g : FieldRec). g.of) (slice_get (fields_if x) i)) is
      ∙ ap (option_map (λ (g : FieldRec). g.of)) there ∙ ap Some of

  made_kind : (k i : ℕ) (v : Value) (x : Option DeclaredClass) (fields : List Value) → slice_get d.classes k ≡ x → IsSome x →
      AllTwo (HasType d objects) (types_if x) fields → InRange v → slice_get fields i ≡ Some v → IsOfKindAt p.classes (Made k) i v
  made_kind k i v None fields is some all r e = absurd cc
  made_kind k i v (Some t) fields is some all r e =
      let type = left_of (HasType d objects) t.fields fields i v all e in
      let class = fine.classes k t is in
      let field = all_two_at (IsFieldOf d p) t.fields class.0.fields i type.0 class.2.fields type.1 in
      record {
        kind = kind_of type.0;
        there = kind_there k i class.0 field.0 type.0 class.1 field.1 field.2.0;
        is = of_kind d objects type.0 v type.2 r;
      }

  element_of_kind : (of : VectorType) (i : ℕ) (v : Value) (fields : List Value) → Each (HasType d objects (element_static of)) fields →
      InRange v → slice_get fields i ≡ Some v → IsOfKindAt p.classes (Vector of) i v
  element_of_kind of i v fields all r e = record {
    kind = element_kind of;
    there = refl;
    is =
        subst (λ (k : ValueType). IsOfKind k v) (sym (element_same of))
        (of_kind d objects (element_static of) v (each_get (HasType d objects (element_static of)) fields i v all e) r);
  }

-- ---- objects without fields

no_word : (s : Store) (blocks : List ℕ) (at : ℕ) → length blocks ≡ 0 → word_of s blocks at ≡ None
no_word s blocks at none = ap (λ x. word_in s x (at % 128)) (get_past blocks (at / 128) (let n = none in omega (arith, n)))

nothing_there : (v : Value) (fields : List Value) (i : ℕ) → length fields ≡ 0 → slice_get fields i ≡ Some v → ⊥
nothing_there v fields i none e =
    let past : slice_get fields i ≡ None = get_past fields i (let n = none in omega (arith, n)) in
    let both : Some v ≡ None = sym e ∙ past in
    cc

module _ (c : Cluster) (w : CodeWorld) (shows : Shows c w) (oid : ℕ) (o : ObjectRec) (there : object_at w.common.objects oid ≡ Some o) where
  its_place : ShownAt (stores c) (place c) (Object oid) (object_thing oid o)
  its_place = shows.things_stand.each (Object oid) (object_thing oid o) (ap (object_if oid) there)

  -- the object of a node has no blocks, and so no fields
  node_has_none : (i : ℕ) (v : Value) → o.class ≡ Node → slice_get o.fields i ≡ Some v → ⊥
  node_has_none i v is e =
      let spells = its_place.shown.spells in
      let none : length its_place.shown.row.blocks ≡ 0 =
      spells.counted ∙ ap (λ (k : ClassNo). class_blocks k (length o.fields)) is in
      let x = spells.values i v e in
      let both : None ≡ Some x.2.word = sym (no_word its_place.store its_place.shown.row.blocks x.0 none) ∙ x.2.there in
      cc

  program_has_none : (i : ℕ) (v : Value) → HasBareProgram c → o.class ≡ Program → slice_get o.fields i ≡ Some v → ⊥
  program_has_none i v bare is e =
      let spells = its_place.shown.spells in
      let none = bare its_place.node oid its_place.store its_place.shown.row its_place.there its_place.shown.there
      (spells.class ∙ ap Some is) in
      nothing_there v o.fields i (sym spells.size ∙ none) e

-- a world whose program's object has no fields is shown by nodes on which it has none
pub bare_shown : (c : Cluster) (w : CodeWorld) → Shows c w → IsBareProgram w.common → HasBareProgram c
bare_shown c w shows bare k oid s r there row is =
    let only = shows.things_stand.only k s (Object oid) r there row in
    by (object_at w.common.objects oid) refl only
  where
    by : (x : Option ObjectRec) → object_at w.common.objects oid ≡ x →
        (t : Thing) × (object_if oid x ≡ Some t) × (place c t.home ≡ Some k) → r.size ≡ 0
    by None e only = absurd (let f = only.1 in cc)
    by (Some o) e only =
        let thing : object_thing oid o ≡ only.0 = same_Some (object_thing oid o) only.0 only.1 in
        let home : place c oid ≡ Some k = ap (λ (t : Thing). place c t.home) thing ∙ only.2 in
        let at = its_place c w shows oid o e in
        let node : at.node ≡ k = same_Some at.node k (sym at.home ∙ home) in
        let store : at.store ≡ s = same_Some at.store s (sym at.there ∙ ap (stores c) node ∙ there) in
        let same : at.shown.row ≡ r =
        same_Some at.shown.row r (sym at.shown.there ∙ ap (λ (x : Store). x.row (Object oid)) store ∙ row) in
        let class : o.class ≡ Program =
        same_Some o.class Program (sym at.shown.spells.class ∙ ap (λ (x : Owned). x.class) same ∙ is) in
        ap (λ (x : Owned). x.size) (sym same) ∙ at.shown.spells.size ∙ ap length (each_object IsPlain w.common.objects oid o bare e class)

-- ---- systems

module _ (d : Declared) (s : System) (w : CodeWorld) (runs : Runs d s w) (bare : HasBareProgram s.cluster) where
  field_kind : (oid i : ℕ) (o : ObjectRec) (v : Value) → object_at w.common.objects oid ≡ Some o → slice_get o.fields i ≡ Some v →
      IsOfKindAt s.cluster.parts.classes o.class i v
  field_kind oid i o v there e =
      by o.class refl (each_object (FineObject d s.cluster.parts w.common.objects) w.common.objects oid o runs.sound.common.objects there)
    where
      ranged : InRange v
      ranged =
          each_get InRange o.fields i v (each_object RangedObject w.common.objects oid o runs.ranged.common.objects there).values e

      by : (class : ClassNo) → o.class ≡ class → FineFields d s.cluster.parts w.common.objects class o.fields →
          IsOfKindAt s.cluster.parts.classes class i v
      by (Made k) is all =
          made_kind d s.cluster.parts runs.steady.fine w.common.objects k i v (slice_get d.classes k) o.fields refl all.0 all.1 ranged e
      by (Vector of) is all = element_of_kind d s.cluster.parts runs.steady.fine w.common.objects of i v o.fields all ranged e
      by Node is all = absurd (node_has_none s.cluster w runs.mirrors.shows oid o there i v is e)
      by Program is all = absurd (program_has_none s.cluster w runs.mirrors.shows oid o there i v bare is e)

  -- nodes show a world that their system runs as one of their program
  pub runs_program : ShowsProgram s.cluster w
  runs_program = record {
    shows = runs.mirrors.shows;
    classes = runs.mirrors.classes;
    nodes = runs.mirrors.nodes;
    objects = runs.mirrors.objects;
    constants = runs.mirrors.constants;
    kinds = field_kind;
  }

  pub runs_seen : CanBeSeen s.cluster
  runs_seen = all_can s.cluster w runs_program (let few = runs.steady.few_nodes in omega (arith, few))
