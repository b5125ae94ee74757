-- Texts of worlds, and those that steps bring.
use Rattle.std.proofs.Common.{◌≡◌, ◌⊎◌, ℕ, List, Some, refl, sym, ap, ◌∙◌, subst, inl, inr, ⊎_elim}
use Rattle.ec_activations.specs.Frames.{frame_thing}
use Rattle.ec_cluster.proofs.Putting.{nothing_got}
use Rattle.ec_cluster.specs.Cluster.{CodeWorld, Shows, frame_of, place}
use Rattle.ec_cluster.specs.Images.{homes_on}
use Rattle.ec_cluster.specs.Steps.{Changes, Nothing}
use Rattle.ec_cluster.specs.declared.cluster.Cluster.{Cluster}
use Rattle.ec_cluster.specs.declared.cluster.Images.{Images}
use Rattle.ec_code.specs.declared.activation.CodeActivation.{CodeActivation}
use Rattle.ec_code.specs.declared.code.Parts.{Parts}
use Rattle.ec_cluster.specs.Whereabouts.{Traces, place_at}
use Rattle.ec_world.specs.Things.{activation_at}
use Rattle.ec_world.specs.declared.key.Key.{Key}
use Rattle.ec_world.specs.declared.key.Key.TheVariants.{Frame}
use Rattle.ec_cluster.proofs.Pools.{strings_come}
use Rattle.ec_cluster.specs.Systems.{Strings}
use Rattle.ec_things.specs.Texts.{GetsTexts, InPool, IsHeld}
use Rattle.ec_things.specs.Things.{Thing, frame_if, things_of}
use Rattle.ec_world.specs.Group.{Has}
use Rattle.ec_world.specs.declared.value.Value.{Value}
use Rattle.ec_world.specs.declared.value.Value.TheVariants.{Str}

-- ---- the texts of a world

abbrev strings_by : Parts → Images → Traces → CodeWorld → ℕ → List ℕ → Type 0
strings_by parts images whereabouts w k text =
    IsHeld (things_of (frame_thing parts (homes_on images)) w) (place_at whereabouts) k text ⊎ Has w.common.globals (Str text)

-- they are the same on other nodes of the program, where no object has gone anywhere
pub strings_moved : (c c' : Cluster) (w : CodeWorld) (k : ℕ) (text : List ℕ) → c'.parts ≡ c.parts → c'.images ≡ c.images →
    c'.whereabouts ≡ c.whereabouts → Strings c w k text → Strings c' w k text
strings_moved c c' w k text parts images whereabouts h =
    subst (λ (x : Parts). strings_by x c'.images c'.whereabouts w k text) (sym parts)
    (subst (λ (x : Images). strings_by c.parts x c'.whereabouts w k text) (sym images)
    (subst (λ (x : Traces). strings_by c.parts c.images x w k text) (sym whereabouts) h))

-- a world that keeps the things and the constants of another one has its texts
pub strings_kept : (c : Cluster) (w w' : CodeWorld) (k : ℕ) (text : List ℕ) →
    ((key : Key) (t : Thing) → things_of (frame_of c) w key ≡ Some t → things_of (frame_of c) w' key ≡ Some t) →
    w'.common.globals ≡ w.common.globals → Strings c w k text → Strings c w' k text
strings_kept c w w' k text keeps globals h = ⊎_elim
    (λ (held : IsHeld (things_of (frame_of c) w) (place c) k text). inl (record {
      key = held.key;
      thing = held.thing;
      is = keeps held.key held.thing held.is;
      at = held.at;
      has = held.has;
    }))
    (λ (has : Has w.common.globals (Str text)). inr (subst (λ (vs : List Value). Has vs (Str text)) (sym globals) has))
    h

-- a text that an activation holds
pub frame_string : (c : Cluster) (w : CodeWorld) (k p depth : ℕ) (a : CodeActivation) (text : List ℕ) →
    activation_at w.processes p depth ≡ Some a → place c a.own ≡ Some k → Has (frame_of c p depth a).values (Str text) → Strings c w k text
frame_string c w k p depth a text is at has = inl (record {
  key = Frame p depth;
  thing = frame_of c p depth a;
  is = ap (frame_if (frame_of c) p depth) is;
  at = at;
  has = has;
})

-- ---- the texts that come

pub nothing_changes : (c : Cluster) → Changes Nothing c c
nothing_changes c = record { parts = refl; images = refl; nodes = refl; each = λ k s e. (s, e, nothing_got s) }

-- those of two steps, one after the other
pub changes_join : (A B : ℕ → List ℕ → Type 0) (c c1 c2 : Cluster) → Changes A c c1 → Changes B c1 c2 →
    Changes (λ k text. A k text ⊎ B k text) c c2
changes_join A B c c1 c2 first second = record {
  parts = second.parts ∙ first.parts;
  images = second.images ∙ first.images;
  nodes = second.nodes ∙ first.nodes;
  each = λ k s e.
      let x = first.each k s e in
      let y = second.each k x.0 x.1 in
      let g : GetsTexts (A k) s x.0 = x.2 in
      let h : GetsTexts (B k) x.0 y.0 = y.2 in (
        y.0,
        y.1,
        record {
          kind = h.kind ∙ g.kind;
          room = h.room ∙ g.room;
          text_room = h.text_room ∙ g.text_room;
          count = h.count ∙ g.count;
          texts = λ text. (
            λ q. ⊎_elim
                (λ (old : InPool x.0 text). ⊎_elim
                (λ (o : InPool s text). inl o)
                (λ (a : A k text). inr (inl a))
                ((g.texts text).0 old))
                (λ (b : B k text). inr (inr b))
                ((h.texts text).0 q),
            λ q. (h.texts text).1 (⊎_elim
                (λ (o : InPool s text). inl ((g.texts text).1 (inl o)))
                (λ (n : A k text ⊎ B k text). ⊎_elim
                (λ (a : A k text). inl ((g.texts text).1 (inr a)))
                (λ (b : B k text). inr b)
                n)
                q),
          );
          stay = λ i text e. h.stay i text (g.stay i text e);
        },
      );
}

-- the same texts in other words
changes_as : (A B : ℕ → List ℕ → Type 0) (c c' : Cluster) → ((k : ℕ) (text : List ℕ) → A k text → B k text) →
    ((k : ℕ) (text : List ℕ) → B k text → A k text) → Changes A c c' → Changes B c c'
changes_as A B c c' there back changes = record {
  parts = changes.parts;
  images = changes.images;
  nodes = changes.nodes;
  each = λ k s e.
      let x = changes.each k s e in
      let g : GetsTexts (A k) s x.0 = x.2 in (
        x.0,
        x.1,
        record {
          kind = g.kind;
          room = g.room;
          text_room = g.text_room;
          count = g.count;
          texts = λ text. (
            λ q. ⊎_elim (λ (o : InPool s text). inl o) (λ (a : A k text). inr (there k text a)) ((g.texts text).0 q),
            λ q. (g.texts text).1 (⊎_elim (λ (o : InPool s text). inl o) (λ (b : B k text). inr (back k text b)) q),
          );
          stay = g.stay;
        },
      );
}

-- of a step behind one that brings none
pub nothing_join : (A : ℕ → List ℕ → Type 0) (c c1 c2 : Cluster) → Changes Nothing c c1 → Changes A c1 c2 → Changes A c c2
nothing_join A c c1 c2 first second =
    changes_as (λ k text. Nothing k text ⊎ A k text) A c c2
    (λ k text h. ⊎_elim (λ (n : ⊥). absurd n) (λ (a : A k text). a) h) (λ k text a. inr a)
    (changes_join Nothing A c c1 c2 first second)

-- of a step that brings none, in a world that is shown then
pub nothing_said : (c c' : Cluster) (w : CodeWorld) → Changes Nothing c c' → Shows c' w → Changes (Strings c' w) c c'
nothing_said c c' w changes shows = strings_come Nothing c c' w changes shows (λ k text n. absurd n)

-- of two steps, if each text that came is one of the world that is shown then
pub strings_join : (A B : ℕ → List ℕ → Type 0) (c c1 c2 : Cluster) (w : CodeWorld) → Changes A c c1 → Changes B c1 c2 → Shows c2 w →
    ((k : ℕ) (text : List ℕ) → A k text → Strings c2 w k text) → ((k : ℕ) (text : List ℕ) → B k text → Strings c2 w k text) →
    Changes (Strings c2 w) c c2
strings_join A B c c1 c2 w first second shows one two =
    strings_come (λ k text. A k text ⊎ B k text) c c2 w (changes_join A B c c1 c2 first second) shows
    (λ k text h. ⊎_elim (λ (a : A k text). one k text a) (λ (b : B k text). two k text b) h)
