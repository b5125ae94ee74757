-- Worlds that need as much of nodes, and worlds that are the same but for which objects are fixed.
use Rattle.std.proofs.Common.{◌≡◌, ℕ, zero, suc, inl, inr, ⊎_elim, List, [], ◌∷◌, length, map, Option, Some, Bool, refl, sym, ap}
use Rattle.std.proofs.Common.{◌∙◌, subst, arith}
use Rattle.std.proofs.lemmas.Option.{same_Some}
use Rattle.std.specs.Prelude.{slice_get}
use Rattle.ec_cluster.specs.Cluster.{CodeWorld, frame_of}
use Rattle.ec_cluster.specs.declared.cluster.Cluster.{Cluster}
use Rattle.ec_code.specs.declared.activation.CodeActivation.{CodeActivation}
use Rattle.ec_fullness.proofs.Blocks.{objects_same}
use Rattle.ec_fullness.proofs.Fields.{fields_of, had_fields}
use Rattle.ec_fullness.specs.Fullness.{EachFits, FitsAt, IsFull, NeedsAt, Wants}
use Rattle.ec_gathering.proofs.Things.{object_is}
use Rattle.ec_gathering.specs.Gathering.{ButFixed}
use Rattle.ec_world.specs.Held.{total}
use Rattle.ec_world.specs.Things.{activation_at, blocks_of}
use Rattle.ec_world.specs.declared.key.Key.{Key}
use Rattle.ec_world.specs.declared.key.Key.TheVariants.{Frame, Object}
use Rattle.ec_world.specs.declared.room.Needs.{Needs}
use Rattle.ec_world.specs.declared.room.Part.{Part}
use Rattle.ec_things.specs.Held.{Held, process_weight}
use Rattle.ec_things.specs.Store.{Store}
use Rattle.ec_things.specs.Texts.{IsHeld}
use Rattle.ec_things.specs.Things.{Thing, frame_if, object_if, object_thing, things_of}
use Rattle.ec_world.specs.Group.{Has}
use Rattle.ec_world.specs.declared.object.ObjectRec.{ObjectRec}
use Rattle.ec_world.specs.declared.process.Proc.{Proc}
use Rattle.ec_world.specs.declared.value.Value.{Value}
use Rattle.ec_world.specs.declared.value.Value.TheVariants.{Str}

-- ---- as much is needed

-- With objects at these places two worlds hold as many blocks at each node, and want the same texts there.
pub record SameNeeds (c : Cluster) (places : ℕ → Option ℕ) (w w' : CodeWorld) : Type 0 where
  pub blocks : (k : ℕ) → Held (frame_of c) places k w' ≡ Held (frame_of c) places k w
  pub before : (k : ℕ) (text : List ℕ) → Wants c places w' k text → Wants c places w k text
  pub now : (k : ℕ) (text : List ℕ) → Wants c places w k text → Wants c places w' k text

module _ (c : Cluster) (old w w' : CodeWorld) (places : ℕ → Option ℕ) (same : SameNeeds c places w w') where
  needs_same : (k : ℕ) (s : Store) (n : Needs) → NeedsAt c old w places k s n → NeedsAt c old w' places k s n
  needs_same k s n are = record {
    blocks = (let a = are.blocks in omega (arith, a, same.blocks k));
    bytes = record {
      texts = are.bytes.texts;
      once = are.bytes.once;
      these = λ text. (
        λ h. let x = (are.bytes.these text).0 h in (same.now k text x.0, x.1),
        λ h. (are.bytes.these text).1 (same.before k text h.0, h.1),
      );
      bytes = are.bytes.bytes;
    };
    free_blocks = are.free_blocks;
    free_bytes = are.free_bytes;
  }

  fits_same : (k : ℕ) (s : Store) → FitsAt c old w places k s → FitsAt c old w' places k s
  fits_same k s f = record { needs = f.needs; are = needs_same k s f.needs f.are; fits = f.fits }

  -- where one finds a node full, so does the other
  pub full_same : (node : ℕ) (part : Part) (need free : ℕ) → IsFull c old w places node part need free →
      IsFull c old w' places node part need free
  full_same node part need free f = record {
    store = f.store;
    there = f.there;
    needs = f.needs;
    are = needs_same node f.store f.needs f.are;
    lacks = f.lacks;
    first = λ k s low e. fits_same k s (f.first k s low e);
  }

  -- where there is room for one, there is room for the other
  pub each_same : EachFits c old w places → EachFits c old w' places
  each_same fits k s e = fits_same k s (fits k s e)

-- ---- the same but for which objects are fixed

-- a value of each object is the same in both lists
map_same : {A : Type 0} (f : ObjectRec → A) → ((o : ObjectRec) (fixed : Bool) → f (record o { fixed = fixed }) ≡ f o) →
    (os os' : List ObjectRec) → length os' ≡ length os →
    ((i : ℕ) (o : ObjectRec) → slice_get os i ≡ Some o → (fixed : Bool) × (slice_get os' i ≡ Some (record o { fixed = fixed }))) →
    map f os' ≡ map f os
map_same f keeps [] [] many each = refl
map_same f keeps [] (u ∷ us) many each = absurd (omega arith)
map_same f keeps (o ∷ os) [] many each = absurd (omega arith)
map_same {A = A} f keeps (o ∷ os) (u ∷ us) many each =
    let first = each zero o refl in
    let is : u ≡ record o { fixed = first.0 } = same_Some u (record o { fixed = first.0 }) first.1 in
    let here : f u ≡ f o = ap f is ∙ keeps o first.0 in
    let rest : map f us ≡ map f os = map_same f keeps os us (omega arith) (λ i x e. each (suc i) x e) in
    ap (λ (y : A). y ∷ map f us) here ∙ ap (λ (ys : List A). f o ∷ ys) rest

module _ (c : Cluster) (places : ℕ → Option ℕ) where
  -- a text of a world is one of another that has the same fields and activations
  text_same : (w w' : CodeWorld) → map fields_of w'.common.objects ≡ map fields_of w.common.objects → w'.processes ≡ w.processes →
      (k : ℕ) (text : List ℕ) → IsHeld (things_of (frame_of c) w') places k text → IsHeld (things_of (frame_of c) w) places k text
  text_same w w' fields processes k text h = by h.key h.thing h.is h.at h.has
    where
      by : (key : Key) (t : Thing) → things_of (frame_of c) w' key ≡ Some t → places t.home ≡ Some k → Has t.values (Str text) →
          IsHeld (things_of (frame_of c) w) places k text
      by (Object oid) t e at has =
          let o = object_is (frame_of c) w' oid t e in
          let x = had_fields w.common.objects w'.common.objects fields oid o.object o.there in
          record {
            key = Object oid;
            thing = object_thing oid x.object;
            is = ap (object_if oid) x.there;
            at = ap (λ (y : Thing). places y.home) o.is ∙ at;
            has = subst (λ (vs : List Value). Has vs (Str text)) (ap (λ (y : Thing). y.values) (sym o.is) ∙ sym x.same) has;
          }
      by (Frame p d) t e at has = record {
        key = Frame p d;
        thing = t;
        is = ap (λ (ps : List (Proc CodeActivation)). frame_if (frame_of c) p d (activation_at ps p d)) (sym processes) ∙ e;
        at = at;
        has = has;
      }

  wants_same : (w w' : CodeWorld) → map fields_of w'.common.objects ≡ map fields_of w.common.objects → w'.processes ≡ w.processes →
      w'.common.globals ≡ w.common.globals → (k : ℕ) (text : List ℕ) → Wants c places w' k text → Wants c places w k text
  wants_same w w' fields processes globals k text wants = ⊎_elim
      (λ (h : IsHeld (things_of (frame_of c) w') places k text). inl (text_same w w' fields processes k text h))
      (λ (g : Has w'.common.globals (Str text)). inr (subst (λ (vs : List Value). Has vs (Str text)) globals g))
      wants

  -- such worlds need as much
  pub fixed_needs : (w w' : CodeWorld) → ButFixed w w' → SameNeeds c places w w'
  fixed_needs w w' but =
      let fields : map fields_of w'.common.objects ≡ map fields_of w.common.objects =
      map_same fields_of (λ o fixed. refl) w.common.objects w'.common.objects but.many but.each in
      let sizes : map blocks_of w'.common.objects ≡ map blocks_of w.common.objects =
      map_same blocks_of (λ o fixed. refl) w.common.objects w'.common.objects but.many but.each in
      record {
        blocks = λ k.
            let objects = objects_same c places k w.common.objects w'.common.objects sizes in
            let frames = ap (λ (ps : List (Proc CodeActivation)). total (process_weight (frame_of c) places k) 0 ps) but.processes in
            omega (arith, objects, frames);
        before = wants_same w w' fields but.processes but.globals;
        now = wants_same w' w (sym fields) (sym but.processes) (sym but.globals);
      }
