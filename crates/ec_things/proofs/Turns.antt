-- One thing takes off, or lands.
use Rattle.std.proofs.Common.{◌≡◌, ℕ, ◌+◌, Option, Some, None, refl, ap, ◌∙◌, arith}
use Rattle.std.specs.Prelude.{Bool, true, false, if◌then◌else◌}
use Rattle.ec_world.specs.Held.{if_at}
use Rattle.ec_world.specs.declared.key.Key.{Key}
use Rattle.ec_things.proofs.World.{if_none, put_one}
use Rattle.ec_things.specs.Store.{Store}
use Rattle.ec_things.specs.Things.{IsAt, NodePut, Puts, Thing, ThingPut, size_of, things_of}
use Rattle.ec_things.proofs.Held.{held_turned}
use Rattle.ec_things.specs.TravellingLaws.{OneLands, OneTakesOff}
use Rattle.ec_things.specs.Travelling.{HeldBut, ShowsBut, Turned, staying, weight_but}
use Rattle.ec_world.specs.declared.world.World.{World}

-- a thing, unless it travels
abbrev unless : Bool → Thing → Option Thing
unless travels t = if travels then None else Some t

is_at : (place : ℕ → Option ℕ) (k : ℕ) (t : Thing) (travels : Bool) → place t.home ≡ Some k → IsAt place k (unless travels t)
is_at place k t true at = tt
is_at place k t false at = at

-- what a thing weighs is its blocks where it stands
weighs : (place : ℕ → Option ℕ) (k j : ℕ) (t : Thing) (travels : Bool) → place t.home ≡ Some k →
    if_at j (size_of (unless travels t)) (Some k) ≡ (if travels then 0 else if_at j t.blocks (place t.home))
weighs place k j t true at = if_none j k
weighs place k j t false at = rw at refl

module _ {A : Type 0} (frame : ℕ → ℕ → A → Thing) (travels travels' : Key → Bool) (w : World A) (place : ℕ → Option ℕ) (k : ℕ)
    (key : Key) (t : Thing) (was now : Bool) (before : travels key ≡ was) (there : things_of frame w key ≡ Some t)
    (at : place t.home ≡ Some k) (turned : Turned travels travels' key now) where
  was_here : staying frame travels w key ≡ unless was t
  was_here = ap (λ (b : Bool). if b then None else things_of frame w key) before ∙ ap (λ x. if was then None else x) there

  is_here : staying frame travels' w key ≡ unless now t
  is_here = ap (λ (b : Bool). if b then None else things_of frame w key) turned.here ∙ ap (λ x. if now then None else x) there

  turned_thing : ThingPut (staying frame travels w) (staying frame travels' w) key (unless now t)
  turned_thing = record {
    here = is_here;
    others = λ other ne. ap (λ (b : Bool). if b then None else things_of frame w other) (turned.others other ne);
  }

  turned_sum : (j : ℕ) → HeldBut frame travels' place j w + if_at j (size_of (staying frame travels w key)) (Some k) ≡ HeldBut frame
      travels place j w + if_at j (size_of (unless now t)) (Some k)
  turned_sum j =
      let old : weight_but frame travels place j key t ≡ (if was then 0 else if_at j t.blocks (place t.home)) =
      ap (λ (b : Bool). if b then 0 else if_at j t.blocks (place t.home)) before in
      let new : weight_but frame travels' place j key t ≡ (if now then 0 else if_at j t.blocks (place t.home)) =
      ap (λ (b : Bool). if b then 0 else if_at j t.blocks (place t.home)) turned.here in
      let sum = held_turned frame travels travels' place j w key now t there turned in
      rw was_here (omega (arith, sum, old, new, weighs place k j t was at, weighs place k j t now at))

  turned_shows : (nodes nodes' : ℕ → Option Store) (s s' : Store) → ShowsBut frame travels nodes w place →
      NodePut nodes nodes' k s s' → Puts s s' key (unless now t) → ShowsBut frame travels' nodes' w place
  turned_shows nodes nodes' s s' shows n puts =
      put_one nodes nodes' k s s' (staying frame travels w) (staying frame travels' w) w.common.globals
      (λ j. HeldBut frame travels place j w) (λ j. HeldBut frame travels' place j w) place key (unless now t) shows n puts turned_thing
      (rw was_here (is_at place k t was at)) (is_at place k t now at) turned_sum

module _ {A : Type 0} where
  pub takes_off : OneTakesOff A
  takes_off frame travels travels' nodes nodes' w place k s s' key t shows stays there at n puts turned =
      turned_shows frame travels travels' w place k key t false true stays there at turned nodes nodes' s s' shows n puts

  pub lands : OneLands A
  lands frame travels travels' nodes nodes' w place k s s' key t shows away there at n puts turned =
      turned_shows frame travels travels' w place k key t true false away there at turned nodes nodes' s s' shows n puts
