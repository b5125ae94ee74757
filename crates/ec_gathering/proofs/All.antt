-- The things of all parcels of a group: their owners, each once, and their texts.
use Rattle.std.proofs.Common.{◌≡◌, ◌≢◌, ℕ, List, Some, sym, ap, ◌∙◌, arith}
use Rattle.std.proofs.lemmas.Option.{same_Some}
use Rattle.std.specs.List.{flat_map}
use Rattle.std.specs.Prelude.{slice_get}
use Rattle.ec_base.proofs.Lists.{get_there, get_within}
use Rattle.ec_cluster.specs.Cluster.{CodeWorld, frame_of, place}
use Rattle.ec_cluster.specs.declared.cluster.Cluster.{Cluster}
use Rattle.ec_gathering.proofs.GatheringRoomLists.{in_one, joined_once, one_in}
use Rattle.ec_gathering.proofs.One.{Goes, TextGoes, goes_key, goes_text, key_goes, text_goes}
use Rattle.ec_gathering.specs.Gathering.{CanGather}
use Rattle.ec_parcels.specs.Classes.{ClassTable}
use Rattle.ec_world.specs.Held.{Distinct}
use Rattle.ec_world.specs.declared.key.Key.{Key}
use Rattle.ec_parcels.proofs.Rising.{keys_once}
use Rattle.ec_parcels.specs.Owners.{all_values, keys_of, values_in}
use Rattle.ec_parcels.specs.Parcels.{Packs}
use Rattle.ec_things.specs.Things.{Thing, things_of}
use Rattle.ec_wire.specs.declared.parcel.Contents.{Contents}
use Rattle.ec_world.specs.Group.{Has}
use Rattle.ec_world.specs.declared.value.Value.TheVariants.{Str}

-- an owner of one thing at one node alone
one_node : (c : Cluster) (w : CodeWorld) (members : List ℕ) (j k : ℕ) (key : Key) → Goes c w members j key → Goes c w members k key → j ≡ k
one_node c w members j k key g h =
    let same : g.thing ≡ h.thing = same_Some g.thing h.thing (sym g.is ∙ h.is) in
    same_Some j k (sym g.at ∙ ap (λ (t : Thing). place c t.home) same ∙ h.at)

-- all owners in some parcels
abbrev pub all_keys : List Contents → List Key
all_keys xs = flat_map keys_of xs

module _ (table : ClassTable) (c : Cluster) (w : CodeWorld) (members : List ℕ) (to : ℕ) (xs : List Contents)
    (can : CanGather table c w members to xs) where
  -- the node of a parcel
  pub record IsFrom (at : ℕ) (x : Contents) : Type 0 where
    pub node : ℕ
    pub is : slice_get can.packs.nodes at ≡ Some node
    pub packs : Packs table c w members node x
    pub elsewhere : node ≢ to

  pub is_from : (i : ℕ) (x : Contents) → slice_get xs i ≡ Some x → IsFrom i x
  is_from i x there =
      let l = get_within xs i x there in
      let many = can.packs.many in
      let n = get_there can.packs.nodes i (omega (arith, l, many)) in
      record {
        node = n.0;
        is = n.1;
        packs = can.packs.each i n.0 x n.1 there;
        elsewhere = can.packs.apart n.0 (record { at = i; is = n.1 });
      }

  -- the parcel of a node
  record HasParcel (k : ℕ) : Type 0 where
    parcel : Contents
    has : Has xs parcel
    packs : Packs table c w members k parcel

  has_parcel : (oid k : ℕ) → Has members oid → place c oid ≡ Some k → k ≢ to → HasParcel k
  has_parcel oid k member at ne =
      let h = can.packs.all oid k member at ne in
      let l = get_within can.packs.nodes h.at k h.is in
      let many = can.packs.many in
      let x = get_there xs h.at (omega (arith, l, many)) in
      record { parcel = x.0; has = record { at = h.at; is = x.1 }; packs = can.packs.each h.at k x.0 h.is x.1 }

  -- ---- owners

  -- an owner of a thing of the group that isn't at the node yet
  pub record Travels (key : Key) : Type 0 where
    pub node : ℕ
    pub goes : Goes c w members node key
    pub elsewhere : node ≢ to

  pub keys_travel : (key : Key) → Has (all_keys xs) key → Travels key
  keys_travel key h =
      let m = in_one keys_of xs key h in
      let from = is_from m.at m.which m.there in
      record { node = from.node; goes = key_goes table c w members from.node m.which from.packs key m.has; elsewhere = from.elsewhere }

  pub travel_keys : (key : Key) (t : Thing) (k : ℕ) → things_of (frame_of c) w key ≡ Some t → Has members t.home →
      place c t.home ≡ Some k → k ≢ to → Has (all_keys xs) key
  travel_keys key t k is member at ne =
      let p = has_parcel t.home k member at ne in
      one_in keys_of xs p.parcel key p.has (goes_key table c w members k p.parcel p.packs key t is member at)

  pub all_once : Distinct (all_keys xs)
  all_once =
      joined_once keys_of (Goes c w members) (one_node c w members) can.packs.nodes xs can.packs.many can.packs.once
      (λ x h. keys_once x (can.rules x h))
      (λ i k x n there key h. key_goes table c w members k x (can.packs.each i k x n there) key h)

  -- ---- texts

  -- a text of a thing of the group that isn't at the node yet
  pub record TextTravels (text : List ℕ) : Type 0 where
    pub node : ℕ
    pub goes : TextGoes c w members node text

  pub values_travel : (text : List ℕ) → Has (all_values xs) (Str text) → TextTravels text
  values_travel text h =
      let m = in_one values_in xs (Str text) h in
      let from = is_from m.at m.which m.there in
      record { node = from.node; goes = text_goes table c w members from.node m.which from.packs can.waits text m.has }

  pub travel_values : (key : Key) (t : Thing) (k : ℕ) (text : List ℕ) → things_of (frame_of c) w key ≡ Some t → Has members t.home →
      place c t.home ≡ Some k → k ≢ to → Has t.values (Str text) → Has (all_values xs) (Str text)
  travel_values key t k text is member at ne has =
      let p = has_parcel t.home k member at ne in
      one_in values_in xs p.parcel (Str text) p.has
      (goes_text table c w members k p.parcel p.packs can.waits text key t is member at has)
