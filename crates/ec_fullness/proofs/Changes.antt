-- What actions bring that change elements and constants, make objects, or begin activations.
use Rattle.std.proofs.Common.{◌≡◌, ◌⊎◌, ◌+◌, ◌<◌, ℕ, zero, suc, inl, inr, ⊎_elim, List, [], ◌∷◌, ◌++◌, length}
use Rattle.std.proofs.Common.{Option, Some, None, refl, sym, ap, ◌∙◌, subst, arith, false}
use Rattle.std.specs.Prelude.{replicate, slice_get, slice_set}
use Rattle.std.proofs.lemmas.Option.{same_Some}
use Rattle.ec_base.proofs.Lists.{get_set_same, length_set}
use Rattle.ec_cluster.specs.Cluster.{CodeWorld, frame_of, place}
use Rattle.ec_cluster.specs.declared.cluster.Cluster.{Cluster}
use Rattle.ec_code.specs.Activations.{begun, code_meaning}
use Rattle.ec_code.specs.Typing.{Declared}
use Rattle.ec_code.specs.declared.activation.CodeActivation.{CodeActivation}
use Rattle.ec_machine_code.specs.Limits.{HasLimits}
use Rattle.ec_fullness.proofs.Begun.{no_text_begun}
use Rattle.ec_fullness.proofs.Blocks.{held_after, object_sum, objects_same, one}
use Rattle.ec_fullness.proofs.Doings.{then}
use Rattle.ec_fullness.proofs.Effects.{Brought, brought_now, calls_weight, goes_weight, wanted_before}
use Rattle.ec_fullness.proofs.Fields.{IsChanged, changed_either, changed_there, has_set, made_either}
use Rattle.ec_fullness.proofs.Needs.{Brings, ComesTo, same_then, then_new}
use Rattle.ec_fullness.proofs.Objects.{changed_same}
use Rattle.ec_fullness.proofs.Stacks.{after}
use Rattle.ec_fullness.proofs.Values.{none_taken, values_of}
use Rattle.ec_fullness.proofs.Waiting.{goer_waits}
use Rattle.ec_fullness.specs.Fullness.{Wants, place_then}
use Rattle.ec_node_frames.specs.Finishing.{IsTaken}
use Rattle.ec_code.specs.declared.code.Live.{Live}
use Rattle.ec_world.proofs.Procs.{get_end, total_push}
use Rattle.ec_world.specs.Held.{if_at}
use Rattle.ec_world.specs.Things.{blocks_of, class_blocks}
use Rattle.ec_world.specs.declared.key.Key.TheVariants.{Object}
use Rattle.ec_cluster.specs.Acting.{Asks}
use Rattle.ec_cluster.specs.Systems.{Runs}
use Rattle.ec_cluster.specs.declared.system.System.{System}
use Rattle.ec_things.proofs.Sums.{summed}
use Rattle.ec_things.proofs.World.{if_none}
use Rattle.ec_things.specs.Held.{object_weight}
use Rattle.ec_things.specs.Things.{object_if, object_thing}
use Rattle.ec_world.specs.Group.{Has}
use Rattle.ec_world.specs.Objects.{changed_object, class_at, element_kind, object_at}
use Rattle.ec_world.specs.Outcomes.{done, made_object, monitor_for, only, stored_in, with_element, with_object}
use Rattle.ec_world.specs.Values.{default_of, new_fields}
use Rattle.ec_world.specs.World.{changed}
use Rattle.ec_world.specs.declared.class.ClassNo.{ClassNo}
use Rattle.ec_world.specs.declared.class.ClassNo.TheVariants.{Vector}
use Rattle.ec_world.specs.declared.class.ClassRec.{ClassRec}
use Rattle.ec_world.specs.declared.class.VectorType.{VectorType}
use Rattle.ec_world.specs.declared.doing.Doing.{Doing}
use Rattle.ec_world.specs.declared.doing.Doing.TheVariants.{Defines, Invokes, Makes, MakesVector, Stores}
use Rattle.ec_world.specs.declared.node.Kind.TheVariants.{Riscv}
use Rattle.ec_world.specs.declared.object.ObjectRec.{ObjectRec}
use Rattle.ec_world.specs.declared.stop.Effect.{Effect}
use Rattle.ec_world.specs.declared.stop.Effect.TheVariants.{GoesOn, Calls}
use Rattle.ec_world.specs.declared.stop.Who.{Who}
use Rattle.ec_world.specs.declared.value.Value.{Value}
use Rattle.ec_world.specs.declared.value.Value.TheVariants.{Ref, Str}

if_at_both : (k m n : ℕ) (x : Option ℕ) → if_at k m x + if_at k n x ≡ if_at k (m + n) x
if_at_both k m n None = refl
if_at_both k m n (Some j) = grind arith

pub if_at_none : (k : ℕ) (x : Option ℕ) → if_at k 0 x ≡ 0
if_at_none k None = refl
if_at_none k (Some j) = if_none k j

one_value : (v : Value) (text : List ℕ) → Has (v ∷ []) (Str text) → v ≡ Str text
one_value v text h = by h.at h.is
  where
    by : (i : ℕ) → slice_get (v ∷ []) i ≡ Some (Str text) → v ≡ Str text
    by zero e = same_Some v (Str text) e
    by (suc i) e = absurd cc

has_one : (v : Value) (text : List ℕ) → v ≡ Str text → Has (v ∷ []) (Str text)
has_one v text e = record { at = 0; is = ap Some e }

-- a reference is no text
reference_taken : (r : Option Live) (oid : ℕ) (text : List ℕ) → IsTaken r (Some (Ref oid)) text → ⊥
reference_taken None oid text h = h
reference_taken (Some l) oid text h = absurd cc

module _ (d : Declared) (s : System) (w : CodeWorld) (below : List CodeActivation) (top : CodeActivation) (who : Who) (doing : Doing)
    (runs : Runs d s w) (asks : Asks w below top who doing) where
  abbrev c : Cluster
  c = s.cluster

  abbrev places : ℕ → Option ℕ
  places = place_then s.cluster who.own

  abbrev Came : Effect → ℕ → List ℕ → Type 0
  Came e = Brought s.cluster (place_then s.cluster who.own) below top e

  limits : HasLimits s.cluster.parts
  limits = (runs.steady.images Riscv).limits

  stack_same : (k : ℕ) → summed (one c places k) asks.is_top.proc.activations ≡ summed (one c places k) (below ++ top ∷ [])
  stack_same k = ap (summed (one c places k)) asks.is_top.stack

  -- nothing comes to an activation that goes on without a value
  goes_none : (k : ℕ) (text : List ℕ) → Came (GoesOn None) k text → ⊥
  goes_none k text t = none_taken t.waiting.entry.result text t.takes

  -- an object is where it was
  pub placed : (oid : ℕ) (o : ObjectRec) → object_at w.common.objects oid ≡ Some o → place_then s.cluster who.own oid ≡ place s.cluster oid
  placed oid o is =
      let z = runs.mirrors.shows.things_stand.each (Object oid) (object_thing oid o) (ap (object_if oid) is) in
      same_then c who.own oid z.node z.home

  -- a text of an object that was there was wanted before
  old_text : (k : ℕ) (text : List ℕ) (oid : ℕ) (o : ObjectRec) → object_at w.common.objects oid ≡ Some o →
      place_then s.cluster who.own oid ≡ Some k → Has o.fields (Str text) → Wants s.cluster (place_then s.cluster who.own) w k text
  old_text k text oid o is at has =
      inl (record { key = Object oid; thing = object_thing oid o; is = ap (object_if oid) is; at = at; has = has })

  -- ---- an element

  module _ (oid i : ℕ) (v : Value) (o : ObjectRec) (is : object_at w.common.objects oid ≡ Some o) (within : i < length o.fields) where
    abbrev objects : List ObjectRec
    objects = changed_object w.common.objects oid (with_element i v)

    same_blocks : (x : ObjectRec) → blocks_of (with_element i v x) ≡ blocks_of x
    same_blocks x = ap (class_blocks x.class) (length_set x.fields i v)

    element_before : (k : ℕ) (text : List ℕ) (at : ℕ) (x : ObjectRec) → object_at objects at ≡ Some x → places at ≡ Some k →
        Has x.fields (Str text) → Wants s.cluster (place_then s.cluster who.own) w k text ⊎ ComesTo s.cluster oid (v ∷ []) k text
    element_before k text at x there place has = ⊎_elim
        (λ (old : object_at w.common.objects at ≡ Some x). inl (old_text k text at x old place has))
        (λ (new : IsChanged w.common.objects oid (with_element i v) at x).
        let home : places oid ≡ Some k = ap places (sym new.same) ∙ place in
        ⊎_elim
        (λ (old : Has new.old.fields (Str text)). inl (old_text k text oid new.old new.there home old))
        (λ (e : v ≡ Str text). inr (sym (placed oid new.old new.there) ∙ home, has_one v text e))
        (has_set new.old.fields i v (Str text) (subst (λ (y : ObjectRec). Has y.fields (Str text)) new.is has)))
        (changed_either w.common.objects oid (with_element i v) at x there)

    pub stores_bring : Brings s.cluster (place_then s.cluster who.own) w
        (then d s w below top who doing runs asks (done w.common who (Stores oid i v))) (λ k. if_at k 0 (place s.cluster oid))
        (ComesTo s.cluster oid (v ∷ []))
    stores_bring = record {
      blocks = λ k.
          let e = held_after c places k w who.process below top (stored_in w.common oid i v) (only (GoesOn None)) (objects, [])
          asks.is_top.proc asks.is_top.is in
          let same = objects_same c places k w.common.objects objects (changed_same blocks_of w.common.objects oid (with_element i v)
          same_blocks) in
          let stack = stack_same k in
          let weight = goes_weight c places k below top None in
          let none = if_at_none k (place c oid) in
          omega (arith, e, same, stack, weight, none);
      before = λ k text h.
          wanted_before d c runs.steady.fine limits places w who.process below top asks.is_top.proc asks.is_top.is asks.is_top.stack k text
          inl (stored_in w.common oid i v) (only (GoesOn None)) (objects, [])
          (goer_waits d s w below top who doing runs asks places (GoesOn None)) (λ t. absurd (goes_none k text t)) (λ g. inl (inr g))
          (element_before k text) h;
      now = λ k text h. inl (record {
        key = Object oid;
        thing = object_thing oid (with_element i v o);
        is = ap (object_if oid) (changed_there w.common.objects oid (with_element i v) o is);
        at = placed oid o is ∙ h.0;
        has = record { at = i; is = get_set_same o.fields i v within ∙ ap Some (one_value v text h.1) };
      });
    }

  -- ---- a constant

  pub defines_bring : (index : ℕ) (v : Value) → index < length w.common.globals → Brings s.cluster (place_then s.cluster who.own) w
      (then d s w below top who doing runs asks (done w.common who (Defines index v))) (λ k. 0) (λ k text. Has (v ∷ []) (Str text))
  defines_bring index v within = record {
    blocks = λ k.
        let e = held_after c places k w who.process below top (record w.common { globals = slice_set w.common.globals index v })
        (only (GoesOn None)) (w.common.objects, []) asks.is_top.proc asks.is_top.is in
        let stack = stack_same k in
        let weight = goes_weight c places k below top None in
        omega (arith, e, stack, weight);
    before = λ k text h.
        wanted_before d c runs.steady.fine limits places w who.process below top asks.is_top.proc asks.is_top.is asks.is_top.stack k text
        inl (record w.common { globals = slice_set w.common.globals index v }) (only (GoesOn None)) (w.common.objects, [])
        (goer_waits d s w below top who doing runs asks places (GoesOn None)) (λ t. absurd (goes_none k text t))
        (λ g. ⊎_elim
        (λ (old : Has w.common.globals (Str text)). inl (inr old))
        (λ (e : v ≡ Str text). inr (has_one v text e))
        (has_set w.common.globals index v (Str text) g))
        (λ oid o is at has. inl (old_text k text oid o is at has)) h;
    now = λ k text h. inr (record {
      at = index;
      is = get_set_same w.common.globals index v within ∙ ap Some (one_value v text h);
    });
  }

  -- ---- an activation

  pub invokes_bring : (op own : ℕ) (args : List Value) → place_then s.cluster who.own own ≡ place s.cluster own →
      Brings s.cluster (place_then s.cluster who.own) w (then d s w below top who doing runs asks (done w.common who (Invokes op own args)))
      (λ k. if_at k 1 (place s.cluster own)) (ComesTo s.cluster own (values_of s.cluster.parts (begun op own args)))
  invokes_bring op own args same = record {
    blocks = λ k.
        let e = held_after c places k w who.process below top w.common (only (Calls op own args)) (w.common.objects, [])
        asks.is_top.proc asks.is_top.is in
        let stack = stack_same k in
        let weight = calls_weight c places k below top op own args in
        let its = ap (if_at k 1) same in
        omega (arith, e, stack, weight, its);
    before = λ k text h.
        wanted_before d c runs.steady.fine limits places w who.process below top asks.is_top.proc asks.is_top.is asks.is_top.stack k text
        inl w.common (only (Calls op own args)) (w.common.objects, [])
        (goer_waits d s w below top who doing runs asks places (Calls op own args)) (λ t. inr (sym same ∙ t.place, t.has)) (λ g. inl (inr
        g))
        (λ oid o is at has. inl (old_text k text oid o is at has)) h;
    now = λ k text h.
        brought_now d c runs.steady.fine limits places w who.process below top asks.is_top.proc asks.is_top.is asks.is_top.stack w.common
        (only (Calls op own args)) (w.common.objects, []) k text (Calls op own args) refl (record { place = same ∙ h.0; has = h.1 });
  }

  -- ---- an object

  abbrev new : ℕ
  new = suc (length w.common.objects)

  new_place : place_then s.cluster who.own (suc (length w.common.objects)) ≡ place s.cluster who.own
  new_place = then_new c who.own (suc (length w.common.objects)) (ap suc runs.mirrors.objects)

  made_brings : (o : ObjectRec) (e : Effect) (extra : ℕ) →
      ((k : ℕ) → summed (one c places k) (changed code_meaning below top e).activations
      ≡ summed (one c places k) (below ++ top ∷ []) + if_at k extra (places new)) →
      ((k : ℕ) (text : List ℕ) → Came e k text → ⊥) →
      Brings s.cluster (place_then s.cluster who.own) w
      (after w who.process below top (with_object w.common who o) (only e) (w.common.objects ++ o ∷ [], []))
      (λ k. if_at k (extra + blocks_of o) (place s.cluster who.own)) (ComesTo s.cluster who.own o.fields)
  made_brings o e extra weighs none = record {
    blocks = λ k.
        let held = held_after c places k w who.process below top (with_object w.common who o) (only e) (w.common.objects ++ o ∷ [], [])
        asks.is_top.proc asks.is_top.is in
        let stack = stack_same k in
        let weight = weighs k in
        let more : object_sum c places k (w.common.objects ++ o ∷ []) ≡ object_sum c places k w.common.objects
        + if_at k (blocks_of o) (places new) =
        total_push (object_weight (frame_of c) places k) 0 w.common.objects (length w.common.objects) o (omega arith) in
        let both = if_at_both k extra (blocks_of o) (places new) in
        let its = ap (if_at k (extra + blocks_of o)) new_place in
        omega (arith, held, stack, weight, more, both, its);
    before = λ k text h.
        wanted_before d c runs.steady.fine limits places w who.process below top asks.is_top.proc asks.is_top.is asks.is_top.stack k text
        inl (with_object w.common who o) (only e) (w.common.objects ++ o ∷ [], [])
        (goer_waits d s w below top who doing runs asks places e) (λ t. absurd (none k text t)) (λ g. inl (inr g))
        (λ oid x is at has. ⊎_elim
        (λ (old : object_at w.common.objects oid ≡ Some x). inl (old_text k text oid x old at has))
        (λ (it : (oid ≡ new) × (o ≡ x)).
        inr (sym new_place ∙ ap places (sym it.0) ∙ at, subst (λ (y : ObjectRec). Has y.fields (Str text)) (sym it.1) has))
        (made_either w.common.objects o oid x is)) h;
    now = λ k text h. inl (record {
      key = Object new;
      thing = object_thing new o;
      is = ap (object_if new) (get_end w.common.objects o);
      at = new_place ∙ h.0;
      has = h.1;
    });
  }

  pub vector_brings : (of : VectorType) (n : ℕ) →
      let elements : List Value = replicate n (default_of (element_kind of)) in
      Brings s.cluster (place_then s.cluster who.own) w (then d s w below top who doing runs asks (done w.common who (MakesVector of n)))
      (λ k. if_at k (class_blocks (Vector of) (length elements)) (place s.cluster who.own)) (ComesTo s.cluster who.own elements)
  vector_brings of n =
      let elements : List Value = replicate n (default_of (element_kind of)) in
      let made = made_brings (record { class = Vector of; fields = elements; fixed = false; monitor = None }) (GoesOn (Some (Ref new))) 0
      (λ k. let a = goes_weight c places k below top (Some (Ref new)) in let b = if_at_none k (places new) in omega (arith, a, b))
      (λ k text t. reference_taken t.waiting.entry.result new text t.takes) in
      record {
        blocks = λ k. made.blocks k ∙ ap (λ m. if_at k m (place s.cluster who.own)) (omega arith);
        before = made.before;
        now = made.now;
      }

  pub object_brings : (class : ClassNo) (given : List Value) (m : ClassRec) → class_at w.common.classes class ≡ Some m →
      let fields : List Value = new_fields given m.fields in
      Brings s.cluster (place_then s.cluster who.own) w (then d s w below top who doing runs asks (done w.common who (Makes class given)))
      (λ k. if_at k (suc (class_blocks class (length fields))) (place s.cluster who.own)) (ComesTo s.cluster who.own fields)
  object_brings class given m is =
      let o : ObjectRec = record { class = class; fields = new_fields given m.fields; fixed = false; monitor = monitor_for m } in
      let made = made_brings o (Calls m.initial new []) 1 (λ k. calls_weight c places k below top m.initial new [])
      (λ k text b. no_text_begun c.parts m.initial new text b.has) in
      subst (λ (x : Option ClassRec). Brings s.cluster (place_then s.cluster who.own) w
      (then d s w below top who doing runs asks (made_object w.common who class given x))
      (λ k. if_at k (suc (class_blocks class (length (new_fields given m.fields)))) (place s.cluster who.own))
      (ComesTo s.cluster who.own (new_fields given m.fields))) (sym is)
      (record {
        blocks = λ k. made.blocks k ∙ ap (λ n. if_at k n (place s.cluster who.own)) (omega arith);
        before = made.before;
        now = made.now;
      })
