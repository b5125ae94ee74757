-- What nodes need by the blocks and the texts that come to them.
use Rattle.std.proofs.Common.{◌≡◌, ◌≢◌, ◌⊎◌, ◌-◌, ◌<◌, ℕ, suc, inl, inr, ⊎_elim, List, [], Option, Some, None, refl, sym, ap, ◌∙◌}
use Rattle.std.proofs.Common.{arith}
use Rattle.std.specs.Prelude.{◌↔◌}
use Rattle.ec_cluster.proofs.Places.{none_next}
use Rattle.ec_cluster.specs.Cluster.{CodeWorld, Shows, frame_of, place, stores}
use Rattle.ec_cluster.specs.declared.cluster.Cluster.{Cluster}
use Rattle.ec_cluster.specs.Whereabouts.{made_count}
use Rattle.ec_fullness.proofs.Blocks.{held_moved}
use Rattle.ec_fullness.specs.Fullness.{EachFits, FitsAt, IsFull, NeedsAt, Wants, place_then}
use Rattle.ec_fullness.specs.Room.{HasRoomWith}
use Rattle.ec_fullness.specs.Told.{LacksAt, LacksFirst}
use Rattle.ec_objects.specs.Lacks.{HasRoomForAll, LacksRoom, needs_at}
use Rattle.ec_world.specs.Held.{if_at}
use Rattle.ec_world.specs.declared.key.Key.{Key}
use Rattle.ec_world.specs.declared.room.Lack.{Lack}
use Rattle.ec_objects.specs.Values.{TextsFit}
use Rattle.ec_cluster.proofs.Pools.{strings_in_pool}
use Rattle.ec_cluster.specs.Systems.{Strings}
use Rattle.ec_things.proofs.Put.{same_or_not}
use Rattle.ec_things.proofs.World.{if_elsewhere, if_here}
use Rattle.ec_things.specs.Held.{Held}
use Rattle.ec_things.specs.Store.{Store}
use Rattle.ec_things.specs.Texts.{InPool, IsHeld, NewBytes}
use Rattle.ec_things.specs.Things.{Thing, things_of}
use Rattle.ec_world.specs.Group.{Has}
use Rattle.ec_world.specs.declared.value.Value.{Value}
use Rattle.ec_world.specs.declared.value.Value.TheVariants.{Str}
use Rattle.std.specs.Option.{option_map}

-- World w' holds so many blocks more at each node than w, and the texts that it wants there are those that w wanted and those that came.
pub record Brings (c : Cluster) (places : ℕ → Option ℕ) (w w' : CodeWorld) (Rise : ℕ → ℕ) (Came : ℕ → List ℕ → Type 0) : Type 0 where
  pub blocks : (k : ℕ) → Held (frame_of c) places k w' - Held (frame_of c) places k w ≡ Rise k
  pub before : (k : ℕ) (text : List ℕ) → Wants c places w' k text → Wants c places w k text ⊎ Came k text
  pub now : (k : ℕ) (text : List ℕ) → Came k text → Wants c places w' k text

-- the texts of these values come to the node of an object
abbrev pub ComesTo : Cluster → ℕ → List Value → ℕ → List ℕ → Type 0
ComesTo c oid values k text = (place c oid ≡ Some k) × Has values (Str text)

-- no text has room
pub fits_without : (s : Store) (vs : List Value) → ((text : List ℕ) → Has vs (Str text) → ⊥) → TextsFit s vs
fits_without s vs none = record {
  bytes = 0;
  needs = record {
    texts = [];
    once = record { once = λ i j x e f. cc };
    these = λ text. (
      λ (h : Has [] text). let e = h.is in cc,
      λ h. absurd (none text h.0),
    );
    bytes = refl;
  };
  fits = omega arith;
}

-- ---- places

then_before : (c : Cluster) (maker oid : ℕ) → oid ≢ suc (made_count c.whereabouts) → place_then c maker oid ≡ place c oid
then_before c maker oid ne = grind arith

pub then_new : (c : Cluster) (maker oid : ℕ) → oid ≡ suc (made_count c.whereabouts) → place_then c maker oid ≡ place c maker
then_new c maker oid same = grind arith

-- what has a place is there still
pub same_then : (c : Cluster) (maker oid k : ℕ) → place c oid ≡ Some k → place_then c maker oid ≡ place c oid
same_then c maker oid k e =
    then_before c maker oid (λ same. let none : place c oid ≡ None = ap (place c) same ∙ none_next c.whereabouts in cc)

-- ---- needs

module _ (c : Cluster) (w w' : CodeWorld) (shows : Shows c w) (maker : ℕ) (Rise : ℕ → ℕ) (Came : ℕ → List ℕ → Type 0)
    (brings : Brings c (place_then c maker) w w' Rise Came) where
  same_places : (key : Key) (t : Thing) → things_of (frame_of c) w key ≡ Some t → place_then c maker t.home ≡ place c t.home
  same_places key t e = let z = shows.things_stand.each key t e in same_then c maker t.home z.node z.home

  moved : (k : ℕ) (text : List ℕ) → Wants c (place_then c maker) w k text → Strings c w k text
  moved k text h = ⊎_elim
      (λ (x : IsHeld (things_of (frame_of c) w) (place_then c maker) k text). inl (record {
        key = x.key;
        thing = x.thing;
        is = x.is;
        at = sym (same_places x.key x.thing x.is) ∙ x.at;
        has = x.has;
      }))
      (λ (x : Has w.common.globals (Str text)). inr x)
      h

  module _ (k : ℕ) (s : Store) (there : stores c k ≡ Some s) (blocks : ℕ) (values : List Value) (rises : Rise k ≡ blocks)
      (comes : (text : List ℕ) → Came k text ↔ Has values (Str text)) where
    wants_new : (text : List ℕ) → Wants c (place_then c maker) w' k text → (InPool s text → ⊥) → Has values (Str text)
    wants_new text h absent = ⊎_elim
        (λ (old : Wants c (place_then c maker) w k text). absurd (absent (strings_in_pool c w k s text shows there (moved k text old))))
        (λ (new : Came k text). (comes text).0 new)
        (brings.before k text h)

    pub needs_are : (bytes : ℕ) → NewBytes (λ text. Has values (Str text)) s bytes →
        NeedsAt c w w' (place_then c maker) k s (needs_at s blocks bytes)
    needs_are bytes new = record {
      blocks = sym rises ∙ sym (brings.blocks k)
          ∙ ap (λ n. Held (frame_of c) (place_then c maker) k w' - n) (held_moved c w (place c) (place_then c maker) k same_places);
      bytes = record {
        texts = new.texts;
        once = new.once;
        these = λ text. (
          λ h. let x = (new.these text).0 h in (brings.now k text ((comes text).1 x.0), x.1),
          λ h. (new.these text).1 (wants_new text h.0 h.1, h.1),
        );
        bytes = new.bytes;
      };
      free_blocks = refl;
      free_bytes = refl;
    }

    pub fits_at : HasRoomForAll s blocks values → FitsAt c w w' (place_then c maker) k s
    fits_at room = record {
      needs = needs_at s blocks room.texts_fit.bytes;
      are = needs_are room.texts_fit.bytes room.texts_fit.needs;
      fits = (room.blocks_fit, room.texts_fit.fits);
    }

    pub lacks_at : (lack : Lack) → LacksRoom s k blocks values lack →
        ((j : ℕ) (x : Store) → j < k → stores c j ≡ Some x → FitsAt c w w' (place_then c maker) j x) →
        IsFull c w w' (place_then c maker) k lack.part lack.need lack.free
    lacks_at lack l first = record {
      store = s;
      there = there;
      needs = needs_at s blocks l.bytes;
      are = needs_are l.bytes l.new;
      lacks = l.lacks;
      first = first;
    }

  -- nothing comes to a node
  pub nothing_at : (k : ℕ) (s : Store) → stores c k ≡ Some s → Rise k ≡ 0 → ((text : List ℕ) → Came k text → ⊥) →
      FitsAt c w w' (place_then c maker) k s
  nothing_at k s there rises none =
      fits_at k s there 0 [] rises (λ text. (λ h. absurd (none text h), λ h. let e = h.is in cc))
      (record { blocks_fit = omega arith; texts_fit = fits_without s [] (λ text h. let e = h.is in cc) })

  -- nothing comes at all
  pub nothing_comes : ((k : ℕ) → Rise k ≡ 0) → ((k : ℕ) (text : List ℕ) → Came k text → ⊥) → EachFits c w w' (place_then c maker)
  nothing_comes rises none k s there = nothing_at k s there (rises k) (none k)

-- ---- at one node

module _ (c : Cluster) (w w' : CodeWorld) (shows : Shows c w) (maker oid blocks : ℕ) (values : List Value)
    (brings : Brings c (place_then c maker) w w' (λ k. if_at k blocks (place c oid)) (ComesTo c oid values)) where
  abbrev Rise : ℕ → ℕ
  Rise k = if_at k blocks (place c oid)

  here : (k : ℕ) → place c oid ≡ Some k → if_at k blocks (place c oid) ≡ blocks
  here k at = ap (if_at k blocks) at ∙ if_here k blocks

  comes_here : (k : ℕ) → place c oid ≡ Some k → (text : List ℕ) → ComesTo c oid values k text ↔ Has values (Str text)
  comes_here k at text = (λ h. h.1, λ h. (at, h))

  elsewhere : (j k : ℕ) (s : Store) → place c oid ≡ Some j → k ≢ j → stores c k ≡ Some s → FitsAt c w w' (place_then c maker) k s
  elsewhere j k s at ne there =
      nothing_at c w w' shows maker Rise (ComesTo c oid values) brings k s there
      (ap (if_at k blocks) at ∙ if_elsewhere k j blocks ne) (λ text h. ne (let e = h.0 in cc))

  pub full_there : (lack : Lack) → LacksAt c oid blocks values lack →
      IsFull c w w' (place_then c maker) lack.node lack.part lack.need lack.free
  full_there lack l =
      lacks_at c w w' shows maker Rise (ComesTo c oid values) brings lack.node l.store l.there blocks values (here lack.node l.at)
      (comes_here lack.node l.at) lack l.lacks
      (λ j x low e. elsewhere lack.node j x l.at (let h = low in λ same. omega (arith, h, same)) e)

  pub fits_there : HasRoomWith c oid blocks values → EachFits c w w' (place_then c maker)
  fits_there room k s there = by (place c oid) refl
    where
      by : (x : Option ℕ) → place c oid ≡ x → FitsAt c w w' (place_then c maker) k s
      by None e =
          nothing_at c w w' shows maker Rise (ComesTo c oid values) brings k s there (ap (if_at k blocks) e)
          (λ text h. let f = h.0 in cc)
      by (Some j) e = ⊎_elim
          (λ (same : k ≡ j).
          let at : place c oid ≡ Some k = e ∙ ap Some (sym same) in
          fits_at c w w' shows maker Rise (ComesTo c oid values) brings k s there blocks values (here k at) (comes_here k at)
          (room k s at there))
          (λ (ne : k ≢ j). elsewhere j k s e ne there)
          (same_or_not k j)

-- ---- at all nodes

module _ (c : Cluster) (w w' : CodeWorld) (shows : Shows c w) (maker : ℕ) (values : List Value)
    (brings : Brings c (place_then c maker) w w' (λ k. 0) (λ k text. Has values (Str text))) where
  fits_one : (k : ℕ) (s : Store) → stores c k ≡ Some s → HasRoomForAll s 0 values → FitsAt c w w' (place_then c maker) k s
  fits_one k s there room =
      fits_at c w w' shows maker (λ j. 0) (λ j text. Has values (Str text)) brings k s there 0 values refl (λ text. (λ h. h, λ h. h)) room

  pub full_first : (lack : Lack) → LacksFirst c values lack →
      IsFull c w w' (place_then c maker) lack.node lack.part lack.need lack.free
  full_first lack l =
      lacks_at c w w' shows maker (λ j. 0) (λ j text. Has values (Str text)) brings lack.node l.store l.there 0 values refl
      (λ text. (λ h. h, λ h. h)) lack l.lacks (λ j x low e. fits_one j x e (l.before j x low e))

  pub all_fit : ((k : ℕ) (s : Store) → stores c k ≡ Some s → HasRoomForAll s 0 values) → EachFits c w w' (place_then c maker)
  all_fit room k s there = fits_one k s there (room k s there)
