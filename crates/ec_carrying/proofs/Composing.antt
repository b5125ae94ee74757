-- A move between nodes is composed: what is in a parcel sets off, and the parcel is unpacked.
use Rattle.std.proofs.Common.{◌≡◌, ◌≢◌, ℕ, List, Some, refl, sym, ap, ◌∙◌, subst, inl, inr, ⊎_elim}
use Rattle.std.proofs.lemmas.Option.{same_Some}
use Rattle.ec_carrying.proofs.Going.{all_arrive, all_come, has_come, images_still, node_there, room_there}
use Rattle.ec_carrying.specs.Carrying.{Carried, IsCarriedIn}
use Rattle.ec_carrying.specs.Landing.{TextsAt}
use Rattle.ec_carrying.specs.Moves.{SetOff}
use Rattle.ec_cluster.specs.Cluster.{CodeWorld, stores}
use Rattle.ec_cluster.specs.Steps.{Changes}
use Rattle.ec_cluster.specs.declared.cluster.Cluster.{Cluster}
use Rattle.ec_code.specs.Typing.{Declared}
use Rattle.ec_parcels.specs.Classes.{ClassTable, IsClassTable}
use Rattle.ec_world.proofs.Keys.{same_or_not}
use Rattle.ec_parcels.proofs.Rising.{keys_once}
use Rattle.ec_parcels.specs.Owners.{values_in}
use Rattle.ec_things.specs.Store.{Store}
use Rattle.ec_things.specs.Texts.{GetsTexts, InPool}
use Rattle.ec_wire.specs.declared.parcel.Contents.{Contents}
use Rattle.ec_carrying.proofs.Clusters.{shown_again}
use Rattle.ec_carrying.specs.Holding.{HoldsThings}
use Rattle.ec_carrying.specs.UnpackingLaws.{MovesAreComposed, WhatSetsOffHasRoom}
use Rattle.ec_carrying.specs.Unpacking.{HasRoomHere, UnpackedAt}

module _ (table : ClassTable) (c c' : Cluster) (k : ℕ) (x : Contents) (at : UnpackedAt table c c' k x) where
  its_node : (s : Store) → stores c k ≡ Some s →
      (s' : Store) × (stores c' k ≡ Some s') × GetsTexts (TextsAt k (values_in x) k) s s'
  its_node s e =
      let old : at.old ≡ s = (let b = at.at.before in cc) in
      let gets = at.unpacked.texts in (
        at.new,
        at.at.after,
        subst (λ (y : Store). GetsTexts (TextsAt k (values_in x) k) y at.new) old (record {
          kind = gets.kind;
          room = gets.room;
          text_room = gets.text_room;
          count = gets.count;
          texts = λ text. (
            λ h. ⊎_elim (λ (o : InPool at.old text). inl o) (λ a. inr (refl, a)) ((gets.texts text).0 h),
            λ h. (gets.texts text).1
                (⊎_elim (λ (o : InPool at.old text). inl o) (λ (b : TextsAt k (values_in x) k text). inr b.1) h),
          );
          stay = gets.stay;
        }),
      )

  other_node : (j : ℕ) (s : Store) → j ≢ k → stores c j ≡ Some s →
      (s' : Store) × (stores c' j ≡ Some s') × GetsTexts (TextsAt k (values_in x) j) s s'
  other_node j s ne e = (
    s,
    at.at.others j ne ∙ e,
    record {
      kind = refl;
      room = refl;
      text_room = refl;
      count = refl;
      texts = λ text. (
        λ h. inl h,
        λ h. ⊎_elim (λ (o : InPool s text). o) (λ (b : TextsAt k (values_in x) j text). absurd (ne b.0)) h,
      );
      stay = λ i text e. e;
    },
  )

  texts_changed : Changes (TextsAt k (values_in x)) c c'
  texts_changed = record {
    parts = at.parts;
    images = at.images;
    nodes = at.nodes;
    each = λ j s e. ⊎_elim
        (λ (same : j ≡ k).
        let y = its_node s (ap (stores c) (sym same) ∙ e) in
        subst (λ i. (s' : Store) × (stores c' i ≡ Some s') × GetsTexts (TextsAt k (values_in x) i) s s') (sym same) y)
        (λ (ne : j ≢ k). other_node j s ne e)
        (same_or_not j k);
  }

module _ (table : ClassTable) (c c1 : Cluster) (from to : ℕ) (bytes : List ℕ) (d : Declared) (w : CodeWorld) (members : List ℕ)
    (x : Contents) (keeps : IsClassTable table) (i : IsCarriedIn table c from to bytes d w members x) (off : SetOff c c1 from to x) where
  holds : HoldsThings d table c1 w to x
  holds = record {
    images = images_still i keeps off;
    once = keys_once x i.wire.rules;
    objects = all_come i keeps off;
    activations = all_arrive i keeps off;
  }

  pub composed : (c2 : Cluster) → UnpackedAt table c1 c2 to x → Carried c c2 w x to
  composed c2 at = has_come i keeps off c2 (texts_changed table c1 c2 to x at) at.whereabouts (shown_again d table c1 c2 w to x holds at)

  pub has_room : (s : Store) → stores c1 to ≡ Some s → HasRoomHere table s x
  has_room s there =
      let same : i.store ≡ s = same_Some i.store s (sym (node_there i keeps off) ∙ there) in
      subst (λ (y : Store). HasRoomHere table y x) same (room_there i keeps off)

pub moves_composed : MovesAreComposed
moves_composed table c c1 c2 from to bytes d w members x keeps i off at = composed table c c1 from to bytes d w members x keeps i off c2 at

pub room_behind : WhatSetsOffHasRoom
room_behind table c c1 from to bytes d w members x s keeps i off there = has_room table c c1 from to bytes d w members x keeps i off s there
