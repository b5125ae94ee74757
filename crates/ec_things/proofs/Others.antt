-- Who travels may change, go elsewhere, and stands nowhere.
use Rattle.std.proofs.Common.{◌≡◌, ◌≢◌, ℕ, zero, suc, ◌+◌, Option, Some, None, refl, sym, ap, ◌∙◌, subst, arith, ⊎_elim}
use Rattle.std.specs.Prelude.{Bool, true, false, if◌then◌else◌, slice_get, slice_set}
use Rattle.ec_base.proofs.Lists.{get_set_other}
use Rattle.ec_world.proofs.Keys.{same_or_not}
use Rattle.ec_world.proofs.Procs.{total_set}
use Rattle.ec_world.specs.Held.{if_at, total}
use Rattle.ec_world.specs.Things.{activation_at}
use Rattle.ec_world.specs.declared.key.Key.{Key}
use Rattle.ec_world.specs.declared.key.Key.TheVariants.{Frame, Object}
use Rattle.ec_things.proofs.Same.{same_things}
use Rattle.ec_things.specs.Shows.{Shows}
use Rattle.ec_things.specs.Store.{Owned}
use Rattle.ec_things.specs.Things.{Thing, frame_if, object_if, things_of}
use Rattle.ec_things.proofs.Held.{held_same, weight_same}
use Rattle.ec_things.specs.TravellingLaws.{NothingTravels, SameTravellers, TravellersAreNowhere, TravellersMayChange, TravellersMayGoElsewhere}
use Rattle.ec_things.specs.Travelling.{HeldBut, object_weight, staying}
use Rattle.ec_world.specs.declared.object.ObjectRec.{ObjectRec}
use Rattle.ec_world.specs.declared.world.World.{World}

-- what stays is a thing that doesn't travel
record Stays (travels : Bool) (thing : Option Thing) (t : Thing) : Type 0 where
  not : travels ≡ false
  is : thing ≡ Some t

stays : (travels : Bool) (thing : Option Thing) (t : Thing) → (if travels then None else thing) ≡ Some t → Stays travels thing t
stays true thing t e = cc
stays false thing t e = record { not = refl; is = e }

-- what travels is no matter
unless_same : (travels : Bool) (n m : ℕ) → (travels ≡ false → n ≡ m) → (if travels then 0 else n) ≡ (if travels then 0 else m)
unless_same true n m h = refl
unless_same false n m h = h refl

module _ {A : Type 0} where
  pub none_travel : NothingTravels A
  none_travel frame nodes w place = (λ shows. shows, λ shows. shows)

  pub same_travel : SameTravellers A
  same_travel frame travels travels' nodes w place same shows =
      same_things nodes (staying frame travels w) (staying frame travels' w) w.common.globals (λ k. HeldBut frame travels place k w)
      (λ k. HeldBut frame travels' place k w) place
      (λ key. ap (λ (b : Bool). if b then None else things_of frame w key) (same key))
      (λ k. held_same frame travels travels' place place k w
      (λ key t e. weight_same frame travels travels' place k key t (same key)))
      shows

  pub go_elsewhere : TravellersMayGoElsewhere A
  go_elsewhere frame travels nodes w place place' shows same = record {
    things_stand = record {
      each = λ key t e.
          let here = stays (travels key) (things_of frame w key) t e in
          let z = shows.things_stand.each key t e in
          record {
            node = z.node;
            store = z.store;
            home = same key t here.is here.not ∙ z.home;
            there = z.there;
            shown = z.shown;
          };
      only = λ k s key r e f.
          let z = shows.things_stand.only k s key r e f in
          let here = stays (travels key) (things_of frame w key) z.0 z.1 in
          (z.0, z.1, same key z.0 here.is here.not ∙ z.2);
    };
    globals_stand = shows.globals_stand;
    tidy = shows.tidy;
    room = λ k s e.
        let held : HeldBut frame travels place' k w ≡ HeldBut frame travels place k w =
        held_same frame travels travels place place' k w (λ key t is. unless_same (travels key) (if_at k t.blocks (place' t.home))
        (if_at k t.blocks (place t.home)) (λ not. ap (if_at k t.blocks) (same key t is not))) in
        omega (arith, held, shows.room k s e);
  }

  pub stand_nowhere : TravellersAreNowhere A
  stand_nowhere frame travels nodes w place k s key shows away there = by_row (s.row key) refl
    where
      by_row : (r : Option Owned) → s.row key ≡ r → s.row key ≡ None
      by_row None e = e
      by_row (Some r) e =
          let z = shows.things_stand.only k s key r there e in
          let here = stays (travels key) (things_of frame w key) z.0 z.1 in
          cc

  module _ (frame : ℕ → ℕ → A → Thing) (travels : Key → Bool) (w w' : World A) (place : ℕ → Option ℕ) (i : ℕ) (o o' : ObjectRec)
      (away : travels (Object (suc i)) ≡ true) (is : slice_get w.common.objects i ≡ Some o)
      (objects : w'.common.objects ≡ slice_set w.common.objects i o') (processes : w'.processes ≡ w.processes) where
    things_same : (key : Key) → staying frame travels w' key ≡ staying frame travels w key
    things_same (Object zero) = refl
    things_same (Object (suc j)) = ⊎_elim
        (λ (here : j ≡ i).
        let gone : travels (Object (suc j)) ≡ true = ap (λ n. travels (Object (suc n))) here ∙ away in
        rw gone refl)
        (λ (there : j ≢ i).
        let at : slice_get w'.common.objects j ≡ slice_get w.common.objects j =
        ap (λ xs. slice_get xs j) objects ∙ get_set_other w.common.objects i j o' there in
        ap (λ x. if travels (Object (suc j)) then None else object_if (suc j) x) at)
        (same_or_not j i)
    things_same (Frame p d) =
        ap (λ ps. if travels (Frame p d) then None else frame_if frame p d (activation_at ps p d)) processes

    rooms_same : (k : ℕ) → HeldBut frame travels place k w' ≡ HeldBut frame travels place k w
    rooms_same k =
        let sum : total (object_weight frame travels place k) 0 (slice_set w.common.objects i o') + object_weight frame travels place k i o
        ≡ total (object_weight frame travels place k) 0 w.common.objects + object_weight frame travels place k i o' =
        total_set (object_weight frame travels place k) 0 w.common.objects i i o o' is (omega arith) in
        let old : object_weight frame travels place k i o ≡ 0 = rw away refl in
        let new : object_weight frame travels place k i o' ≡ 0 = rw away refl in
        rw (objects, processes) (omega (arith, sum, old, new))

  pub may_change : TravellersMayChange A
  may_change frame travels nodes w w' place i o o' shows away is objects globals processes =
      subst (λ vs. Shows nodes (staying frame travels w') vs (λ k. HeldBut frame travels place k w') place) (sym globals)
      (same_things nodes (staying frame travels w) (staying frame travels w') w.common.globals (λ k. HeldBut frame travels place k w)
      (λ k. HeldBut frame travels place k w') place
      (things_same frame travels w w' place i o o' away is objects processes)
      (rooms_same frame travels w w' place i o o' away is objects processes) shows)
