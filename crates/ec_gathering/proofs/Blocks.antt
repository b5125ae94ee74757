-- What is held at nodes once a group has gone to one of them.
use Rattle.std.proofs.Common.{◌≡◌, ◌≢◌, ◌≤◌, ℕ, ◌+◌, ⊎_elim, Bool, true, false, List, Option, Some, refl, sym, ap, ◌∙◌, arith}
use Rattle.std.specs.List.{sum_by}
use Rattle.std.specs.Prelude.{if◌then◌else◌}
use Rattle.ec_cluster.specs.Cluster.{CodeWorld, frame_of, place}
use Rattle.ec_cluster.specs.declared.cluster.Cluster.{Cluster}
use Rattle.ec_gathering.proofs.All.{all_keys, all_once, is_from, keys_travel, travel_keys}
use Rattle.ec_gathering.proofs.GatheringRoomLists.{has_is_in, has_or_not, sum_joined, sum_same, sum_zero}
use Rattle.ec_gathering.proofs.One.{size, size_sum}
use Rattle.ec_gathering.proofs.Without.{held_without, key_weight, weight_if}
use Rattle.ec_fullness.specs.Fullness.{gathered}
use Rattle.ec_gathering.specs.Gathering.{CanGather}
use Rattle.ec_parcels.specs.Classes.{ClassTable}
use Rattle.ec_world.specs.Held.{if_at}
use Rattle.ec_world.specs.declared.key.Key.{Key}
use Rattle.ec_parcels.proofs.Keys.{not_has}
use Rattle.ec_parcels.specs.Owners.{all_blocks, among, blocks_in, keys_of}
use Rattle.ec_things.proofs.Put.{same_or_not}
use Rattle.ec_things.proofs.World.{if_elsewhere, if_here}
use Rattle.ec_things.specs.Held.{Held}
use Rattle.ec_things.specs.Things.{Thing, size_of, things_of}
use Rattle.ec_things.proofs.Held.{held_same}
use Rattle.ec_things.specs.Travelling.{HeldBut}
use Rattle.ec_wire.specs.declared.parcel.Contents.{Contents}
use Rattle.ec_world.specs.Group.{Has, is_in}

-- ---- places

-- a member is at the node then
pub member_goes : (place : ℕ → Option ℕ) (members : List ℕ) (to oid : ℕ) → Has members oid → gathered place members to oid ≡ Some to
member_goes place members to oid h = ap (λ b. if b then Some to else place oid) (has_is_in oid members h)

-- all else is where it was
pub other_stays : (place : ℕ → Option ℕ) (members : List ℕ) (to oid : ℕ) → is_in oid members ≡ false →
    gathered place members to oid ≡ place oid
other_stays place members to oid e = ap (λ b. if b then Some to else place oid) e

-- what travels is no matter
unless_same : (travels : Bool) (n m : ℕ) → (travels ≡ false → n ≡ m) → (if travels then 0 else n) ≡ (if travels then 0 else m)
unless_same true n m h = refl
unless_same false n m h = h refl

module _ (table : ClassTable) (c : Cluster) (w : CodeWorld) (members : List ℕ) (to : ℕ) (xs : List Contents)
    (can : CanGather table c w members to xs) where
  abbrev after : ℕ → Option ℕ
  after = gathered (place c) members to

  -- what doesn't travel stays where it is
  stays_there : (key : Key) (t : Thing) → things_of (frame_of c) w key ≡ Some t → among (all_keys xs) key ≡ false →
      after t.home ≡ place c t.home
  stays_there key t is absent =
      let z = can.shows.things_stand.each key t is in
      ⊎_elim
      (λ (member : Has members t.home). ⊎_elim
      (λ (same : z.node ≡ to). member_goes (place c) members to t.home member ∙ ap Some (sym same) ∙ sym z.home)
      (λ (ne : z.node ≢ to).
      absurd (not_has (all_keys xs) key absent (travel_keys table c w members to xs can key t z.node is member z.home ne)))
      (same_or_not z.node to))
      (λ (e : is_in t.home members ≡ false). other_stays (place c) members to t.home e)
      (has_or_not members t.home)

  there : (key : Key) → Has (all_keys xs) key → (t : Thing) × (things_of (frame_of c) w key ≡ Some t)
  there key h = let z = keys_travel table c w members to xs can key h in (z.goes.thing, z.goes.is)

  module _ (k : ℕ) where
    abbrev held : (ℕ → Option ℕ) → ℕ
    held places = Held (frame_of c) places k w

    abbrev rest : (ℕ → Option ℕ) → ℕ
    rest places = HeldBut (frame_of c) (among (all_keys xs)) places k w

    abbrev weights : (ℕ → Option ℕ) → ℕ
    weights places = sum_by (key_weight (frame_of c) places k w) (all_keys xs)

    split : (places : ℕ → Option ℕ) → rest places + weights places ≡ held places
    split places = held_without (frame_of c) places k w (all_keys xs) (all_once table c w members to xs can) there

    rest_same : rest after ≡ rest (place c)
    rest_same = held_same (frame_of c) (among (all_keys xs)) (among (all_keys xs)) (place c) after k w
        (λ key t is. unless_same (among (all_keys xs) key) (if_at k t.blocks (after t.home)) (if_at k t.blocks (place c t.home))
        (λ absent. ap (if_at k t.blocks) (stays_there key t is absent)))

    weighs : (places : ℕ → Option ℕ) (key : Key) (t : Thing) (j : ℕ) → things_of (frame_of c) w key ≡ Some t → places t.home ≡ Some j →
        key_weight (frame_of c) places k w key ≡ if_at k t.blocks (Some j)
    weighs places key t j is at = ap (weight_if (frame_of c) places k w) is ∙ ap (if_at k t.blocks) at

    none_after : k ≢ to → weights after ≡ 0
    none_after ne = sum_zero (key_weight (frame_of c) after k w) (all_keys xs) (λ key h.
        let z = keys_travel table c w members to xs can key h in
        weighs after key z.goes.thing to z.goes.is (member_goes (place c) members to z.goes.thing.home z.goes.member)
        ∙ if_elsewhere k to z.goes.thing.blocks ne)

    -- at another node less is held than before, or as much
    pub held_off : k ≢ to → held after ≤ held (place c)
    held_off ne = omega (arith, split after, split (place c), rest_same, none_after ne)

  none_before : weights to (place c) ≡ 0
  none_before = sum_zero (key_weight (frame_of c) (place c) to w) (all_keys xs) (λ key h.
      let z = keys_travel table c w members to xs can key h in
      weighs to (place c) key z.goes.thing z.node z.goes.is z.goes.at
      ∙ if_elsewhere to z.node z.goes.thing.blocks (λ e. z.elsewhere (sym e)))

  all_after : weights to after ≡ sum_by (size c w) (all_keys xs)
  all_after = sum_same (key_weight (frame_of c) after to w) (size c w) (all_keys xs) (λ key h.
      let z = keys_travel table c w members to xs can key h in
      weighs to after key z.goes.thing to z.goes.is (member_goes (place c) members to z.goes.thing.home z.goes.member)
      ∙ if_here to z.goes.thing.blocks
      ∙ sym (ap size_of z.goes.is))

  all_sizes : sum_by (size c w) (all_keys xs) ≡ all_blocks table xs
  all_sizes =
      sum_joined (size c w) keys_of xs
      ∙ sum_same (λ (x : Contents). sum_by (size c w) (keys_of x)) (blocks_in table) xs
      (λ x h. let from = is_from table c w members to xs can h.at x h.is in
      size_sum table c w members from.node x from.packs can.numbers)

  -- at the node the blocks of the parcels are held besides
  pub held_to : held to after ≡ held to (place c) + all_blocks table xs
  held_to = omega (arith, split to after, split to (place c), rest_same to, none_before, all_after, all_sizes)
