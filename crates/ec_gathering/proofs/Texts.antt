-- The texts that are wanted at nodes once a group has gone to one of them.
use Rattle.std.proofs.Common.{◌≡◌, ◌≢◌, ◌⊎◌, ℕ, inl, inr, ⊎_elim, List, Option, Some, sym, ap, ◌∙◌, false}
use Rattle.std.proofs.lemmas.Option.{same_Some}
use Rattle.ec_cluster.specs.Cluster.{CodeWorld, frame_of, place, stores}
use Rattle.ec_cluster.specs.declared.cluster.Cluster.{Cluster}
use Rattle.ec_fullness.specs.Fullness.{Wants, gathered}
use Rattle.ec_gathering.proofs.All.{travel_values, values_travel}
use Rattle.ec_gathering.proofs.Blocks.{member_goes, other_stays}
use Rattle.ec_gathering.proofs.GatheringRoomLists.{has_or_not}
use Rattle.ec_gathering.specs.Gathering.{CanGather}
use Rattle.ec_parcels.specs.Owners.{all_values}
use Rattle.ec_parcels.specs.Classes.{ClassTable}
use Rattle.ec_cluster.proofs.Pools.{strings_in_pool}
use Rattle.ec_things.proofs.Put.{same_or_not}
use Rattle.ec_things.specs.Store.{Store}
use Rattle.ec_things.specs.Texts.{InPool, IsHeld}
use Rattle.ec_things.specs.Things.{things_of}
use Rattle.ec_wire.specs.declared.parcel.Contents.{Contents}
use Rattle.ec_world.specs.Group.{Has, is_in}
use Rattle.ec_world.specs.declared.value.Value.TheVariants.{Str}

module _ (table : ClassTable) (c : Cluster) (w : CodeWorld) (members : List ℕ) (to : ℕ) (xs : List Contents)
    (can : CanGather table c w members to xs) where
  abbrev after : ℕ → Option ℕ
  after = gathered (place c) members to

  -- a text comes to a node
  pub record Comes (k : ℕ) (text : List ℕ) : Type 0 where
    pub at : k ≡ to
    pub has : Has (all_values xs) (Str text)

  module _ (k : ℕ) (s : Store) (text : List ℕ) (there : stores c k ≡ Some s) where
    -- what stood at the node is in its pool
    stood : (h : IsHeld (things_of (frame_of c) w) after k text) → place c h.thing.home ≡ Some k → InPool s text
    stood h at = strings_in_pool c w k s text can.shows there
        (inl (record { key = h.key; thing = h.thing; is = h.is; at = at; has = h.has }))

    member_wants : (h : IsHeld (things_of (frame_of c) w) after k text) → Has members h.thing.home → InPool s text ⊎ Comes k text
    member_wants h member =
        let z = can.shows.things_stand.each h.key h.thing h.is in
        let here : k ≡ to = same_Some k to (sym h.at ∙ member_goes (place c) members to h.thing.home member) in
        ⊎_elim
        (λ (same : z.node ≡ to). inl (stood h (z.home ∙ ap Some (same ∙ sym here))))
        (λ (ne : z.node ≢ to). inr (record {
          at = here;
          has = travel_values table c w members to xs can h.key h.thing z.node text h.is member z.home ne h.has;
        }))
        (same_or_not z.node to)

    -- what a node wants is in its pool, or comes to it
    pub wants_either : Wants c after w k text → InPool s text ⊎ Comes k text
    wants_either wants = ⊎_elim
        (λ (h : IsHeld (things_of (frame_of c) w) after k text). ⊎_elim
        (λ (member : Has members h.thing.home). member_wants h member)
        (λ (e : is_in h.thing.home members ≡ false).
        inl (stood h (sym (other_stays (place c) members to h.thing.home e) ∙ h.at)))
        (has_or_not members h.thing.home))
        (λ (g : Has w.common.globals (Str text)). inl (strings_in_pool c w k s text can.shows there (inr g)))
        wants

  -- what comes to the node is wanted there
  pub comes_wanted : (text : List ℕ) → Has (all_values xs) (Str text) → Wants c after w to text
  comes_wanted text h =
      let z = values_travel table c w members to xs can text h in
      inl (record {
        key = z.goes.key;
        thing = z.goes.goes.thing;
        is = z.goes.goes.is;
        at = member_goes (place c) members to z.goes.goes.thing.home z.goes.goes.member;
        has = z.goes.has;
      })
