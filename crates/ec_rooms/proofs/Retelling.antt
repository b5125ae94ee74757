-- What a world holds at a node and which texts it has there depend on where its things are, and not on the words that they have there.
use Rattle.std.proofs.Common.{◌≡◌, ℕ, inl, inr, ⊎_elim, List, [], Option, Some, None, refl, sym, ap, ◌∙◌, subst}
use Rattle.std.proofs.lemmas.Option.{same_Some}
use Rattle.std.specs.Prelude.{◌↔◌}
use Rattle.ec_activations.specs.Frames.{frame_thing}
use Rattle.ec_cluster.specs.Cluster.{CodeWorld, frame_of}
use Rattle.ec_cluster.specs.Images.{homes_on}
use Rattle.ec_cluster.specs.declared.cluster.Cluster.{Cluster}
use Rattle.ec_code.specs.declared.activation.CodeActivation.{CodeActivation}
use Rattle.ec_code.specs.declared.code.Parts.{Parts}
use Rattle.ec_fullness.proofs.Blocks.{held_moved}
use Rattle.ec_fullness.specs.Fullness.{Wants}
use Rattle.ec_machine_code.specs.declared.homes.Home.{Home}
use Rattle.ec_world.specs.Things.{activation_at}
use Rattle.ec_world.specs.declared.key.Key.{Key}
use Rattle.ec_world.specs.declared.key.Key.TheVariants.{Frame, Object}
use Rattle.ec_rooms.specs.Places.{place_of}
use Rattle.ec_rooms.specs.Rooms.{Strings, frame, held}
use Rattle.ec_things.specs.Held.{Held}
use Rattle.ec_things.specs.Texts.{IsHeld}
use Rattle.ec_things.specs.Things.{Thing, frame_if, things_of}
use Rattle.ec_world.specs.Group.{Has}
use Rattle.ec_world.specs.declared.node.Kind.{Kind}
use Rattle.ec_world.specs.declared.value.Value.{Value}
use Rattle.ec_world.specs.declared.value.Value.TheVariants.{Str}

-- ---- words elsewhere

-- the same thing, of which only the words may lie elsewhere
pub record Retold (p : Parts) (homes : Kind → List (List Home)) (w : CodeWorld) (key : Key) (t : Thing) : Type 0 where
  pub thing : Thing
  pub is : things_of (frame_thing p homes) w key ≡ Some thing
  pub home : thing.home ≡ t.home
  pub values : thing.values ≡ t.values

module _ (p : Parts) (homes homes' : Kind → List (List Home)) (w : CodeWorld) where
  pub retold : (key : Key) (t : Thing) → things_of (frame_thing p homes) w key ≡ Some t → Retold p homes' w key t
  retold (Object oid) t e = record { thing = t; is = e; home = refl; values = refl }
  retold (Frame q d) t e = by (activation_at w.processes q d) refl e
    where
      by : (x : Option CodeActivation) → activation_at w.processes q d ≡ x → frame_if (frame_thing p homes) q d x ≡ Some t →
          Retold p homes' w (Frame q d) t
      by None at e = absurd cc
      by (Some a) at e =
          let same : frame_thing p homes q d a ≡ t = same_Some (frame_thing p homes q d a) t e in
          record {
            thing = frame_thing p homes' q d a;
            is = ap (frame_if (frame_thing p homes') q d) at;
            home = ap (λ (x : Thing). x.home) same;
            values = ap (λ (x : Thing). x.values) same;
          }

  held_again : (places places' : ℕ → Option ℕ) (k : ℕ) (text : List ℕ) →
      ((key : Key) (t : Thing) → things_of (frame_thing p homes) w key ≡ Some t → places' t.home ≡ places t.home) →
      IsHeld (things_of (frame_thing p homes) w) places k text → IsHeld (things_of (frame_thing p homes') w) places' k text
  held_again places places' k text agree h =
      let r = retold h.key h.thing h.is in
      record {
        key = h.key;
        thing = r.thing;
        is = r.is;
        at = ap places' r.home ∙ agree h.key h.thing h.is ∙ h.at;
        has = subst (λ (vs : List Value). Has vs (Str text)) (sym r.values) h.has;
      }

-- ---- other places

-- places that have each thing of a world where its events have it
abbrev pub Agree : Cluster → CodeWorld → (ℕ → Option ℕ) → Type 0
Agree c w places = (key : Key) (t : Thing) → things_of (frame_of c) w key ≡ Some t → places t.home ≡ place_of w t.home

module _ (c : Cluster) (w : CodeWorld) (places : ℕ → Option ℕ) (agree : Agree c w places) where
  pub held_by : (k : ℕ) → Held (frame_of c) places k w ≡ held c.parts w k
  held_by k = held_moved c w (place_of w) places k agree

  agree_back : (key : Key) (t : Thing) → things_of (frame c.parts) w key ≡ Some t → places t.home ≡ place_of w t.home
  agree_back key t e =
      let r = retold c.parts (λ kind. []) (homes_on c.images) w key t e in
      ap places (sym r.home) ∙ agree key r.thing r.is ∙ ap (place_of w) r.home

  pub strings_by : (k : ℕ) (text : List ℕ) → Wants c places w k text ↔ Strings c.parts w k text
  strings_by k text = (
    λ h. ⊎_elim
        (λ (x : IsHeld (things_of (frame_of c) w) places k text).
        inl (held_again c.parts (homes_on c.images) (λ kind. []) w places (place_of w) k text (λ key t e. sym (agree key t e)) x))
        (λ (x : Has w.common.globals (Str text)). inr x)
        h,
    λ h. ⊎_elim
        (λ (x : IsHeld (things_of (frame c.parts) w) (place_of w) k text).
        inl (held_again c.parts (λ kind. []) (homes_on c.images) w (place_of w) places k text agree_back x))
        (λ (x : Has w.common.globals (Str text)). inr x)
        h,
  )
