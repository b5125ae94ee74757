-- The texts of a world that is shown are in the pools of nodes; so a step need only tell those that it brings.
use Rattle.std.proofs.Common.{◌≡◌, ℕ, List, Some, inl, inr, ⊎_elim}
use Rattle.ec_cluster.proofs.Putting.{shown_there}
use Rattle.ec_cluster.specs.Cluster.{CodeWorld, Shows, frame_of, place, stores}
use Rattle.ec_cluster.specs.Steps.{Changes}
use Rattle.ec_cluster.specs.declared.cluster.Cluster.{Cluster}
use Rattle.ec_cluster.specs.Systems.{Strings}
use Rattle.ec_things.proofs.Texts.{shown_text}
use Rattle.ec_things.specs.Store.{Store}
use Rattle.ec_things.specs.Texts.{GetsTexts, InPool, IsHeld}
use Rattle.ec_things.specs.Things.{things_of}
use Rattle.ec_world.specs.Group.{Has}
use Rattle.ec_world.specs.declared.value.Value.TheVariants.{Str}

pub strings_in_pool : (c : Cluster) (w : CodeWorld) (k : ℕ) (s : Store) (text : List ℕ) → Shows c w → stores c k ≡ Some s →
    Strings c w k text → InPool s text
strings_in_pool c w k s text shows there h = ⊎_elim
    (λ (held : IsHeld (things_of (frame_of c) w) (place c) k text).
    shown_text s held.key held.thing text (shown_there c w k s held.key held.thing shows held.is held.at there) held.has)
    (λ (has : Has w.common.globals (Str text)). let g = shows.globals_stand k s has.at (Str text) there has.is in (g.word, g.stands))
    h

-- The texts that came are those of the world that is shown, if each of them is one of these.
pub strings_come : (Added : ℕ → List ℕ → Type 0) (c c' : Cluster) (w : CodeWorld) → Changes Added c c' → Shows c' w →
    ((k : ℕ) (text : List ℕ) → Added k text → Strings c' w k text) → Changes (Strings c' w) c c'
strings_come Added c c' w changes shows each = record {
  parts = changes.parts;
  images = changes.images;
  nodes = changes.nodes;
  each = λ k s e.
      let x = changes.each k s e in
      let gets : GetsTexts (Added k) s x.0 = x.2 in (
        x.0,
        x.1,
        record {
          kind = gets.kind;
          room = gets.room;
          text_room = gets.text_room;
          count = gets.count;
          texts = λ text. (
            λ h. ⊎_elim (λ (old : InPool s text). inl old) (λ (a : Added k text). inr (each k text a)) ((gets.texts text).0 h),
            λ h. ⊎_elim (λ (old : InPool s text). (gets.texts text).1 (inl old))
                (λ (t : Strings c' w k text). strings_in_pool c' w k x.0 text shows x.1 t) h,
          );
          stay = gets.stay;
        },
      );
}
