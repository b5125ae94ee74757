-- What the part of an activation spells is the activation.
use Rattle.std.proofs.Common.{◌≡◌, ℕ, zero, suc, ◌<◌, List, ◌∷◌, map, Option, Some, None, refl, sym, ap, ◌∙◌, subst}
use Rattle.std.specs.Prelude.{slice_get}
use Rattle.std.proofs.lemmas.Option.{same_Some}
use Rattle.ec_activations.proofs.ValueByValue.{each_value_has_a_word, one_word_one_value}
use Rattle.ec_activations.specs.Frames.{Held, frame_thing, held_in, held_of, value_in, variable_word, word_if}
use Rattle.ec_node_frames.proofs.Carrying.{held_carried, with_value}
use Rattle.ec_node_frames.specs.Carried.{IsCarried, carried}
use Rattle.ec_code.specs.Typing.{Declared}
use Rattle.ec_code.specs.declared.activation.CodeActivation.{CodeActivation}
use Rattle.ec_code.specs.declared.code.Live.{Live}
use Rattle.ec_code.specs.declared.code.Parts.{Parts}
use Rattle.ec_machine_code.specs.declared.homes.Home.{Home}
use Rattle.ec_parcels.proofs.Stops.{part_heads, stop_there}
use Rattle.ec_parcels.specs.Activations.{HasHomes, IsStopOf, activation_part_of, frame_in, headings_in}
use Rattle.ec_node_frames.proofs.Homed.{homes_of, spot_is}
use Rattle.ec_node_frames.proofs.Items.{get_map}
use Rattle.ec_node_frames.specs.Frames.{HasTables}
use Rattle.ec_node_frames.specs.Loops.{spot_of}
use Rattle.ec_node_frames.specs.Spelled.{spot_if}
use Rattle.ec_world.specs.declared.key.Key.{Key}
use Rattle.ec_generate.specs.declared.table.OperationTable.{OperationTable}
use Rattle.ec_generate.specs.declared.table.StopEntry.{StopEntry}
use Rattle.ec_things.specs.Store.{Owned, StandsAt, Store}
use Rattle.ec_things.specs.Things.{Shown, Spells, Thing}
use Rattle.ec_wire.specs.declared.parcel.ActivationPart.{ActivationPart}
use Rattle.ec_world.specs.declared.node.Kind.{Kind}
use Rattle.ec_world.specs.declared.value.Value.{Value}
use Rattle.ec_world.specs.declared.value.Value.TheVariants.{Ref}
use Rattle.ec_carrying.specs.UnpackingLaws.{PartsShowActivations}

abbrev value_held : Held → Value
value_held h = h.value

module _ (d : Declared) (p : Parts) (homes : Kind → List (List Home)) (tables : List OperationTable) (table : OperationTable)
    (a : CodeActivation) (e : StopEntry) (s : Store) (process depth : ℕ) (has : HasTables d p s.kind homes tables) (goes : IsCarried p a e)
    (its : slice_get tables a.operation ≡ Some table) where
  abbrev t : Thing
  t = frame_thing p homes process depth a

  abbrev part : ActivationPart
  part = activation_part_of process depth p a e

  abbrev held : List Live
  held = carried e a.pending

  held_is : held_of p a ≡ held_in p a held
  held_is = held_carried p a e goes

  values_are : (frame_in table e part).values ≡ t.values
  values_are = ap (λ (hs : List Held). Ref a.own ∷ map value_held hs) (sym held_is)

  held_there : (k : ℕ) (l : Live) → slice_get held k ≡ Some l → slice_get (held_of p a) k ≡ Some (with_value p a l)
  held_there k l is = ap (λ (hs : List Held). slice_get hs k) held_is ∙ get_map (with_value p a) held k l is

  -- the word of a variable that is there
  record Spot (k : ℕ) (l : Live) : Type 0 where
    is : t.spot s.kind (suc k) ≡ Some (spot_of table l)
    low : spot_of table l < 128

  spot_there : (k : ℕ) (l : Live) → slice_get held k ≡ Some l → Spot k l
  spot_there k l is =
      let value : slice_get t.values (suc k) ≡ Some (value_in p a l.variable) =
      get_map value_held (held_of p a) k (with_value p a l) (held_there k l is) in
      let law = each_value_has_a_word d p s.kind homes process depth a (suc k) (value_in p a l.variable)
      (homes_of d p s.kind homes tables has) value in
      let word : word_if (homes s.kind) p a.operation (slice_get (held_of p a) k)
      ≡ variable_word (homes s.kind) p a.operation l.variable =
      ap (word_if (homes s.kind) p a.operation) (held_there k l is) in
      let spot = spot_is d p s.kind homes tables has a.operation table its l.variable law.0 (sym word ∙ law.1) in
      record { is = law.1 ∙ ap Some (sym spot.is); low = subst (λ n. n < 128) (sym spot.is) spot.low }

  value_here : (k : ℕ) (v : Value) → slice_get part.values k ≡ Some v → slice_get t.values (suc k) ≡ Some v
  value_here k v is = ap (λ (vs : List Value). slice_get vs (suc k)) (sym values_are) ∙ is

  -- each variable has a word, and variables that have one word have one value
  pub part_has_homes : HasHomes table e part
  part_has_homes = record {
    low = λ k l is. (spot_there k l is).low;
    one_each = λ i j l m v u il jm iv ju same.
        one_word_one_value d p s.kind homes process depth a (suc i) (suc j) (spot_of table m) v u (homes_of d p s.kind homes tables has)
        (value_here i v iv) (value_here j u ju) ((spot_there i l il).is ∙ ap Some same) (spot_there j m jm).is;
  }

  spot_same : (k at : ℕ) (o : Option Live) → slice_get held k ≡ o → spot_if table o ≡ Some at → t.spot s.kind (suc k) ≡ Some at
  spot_same k at None is e = absurd cc
  spot_same k at (Some l) is e = (spot_there k l is).is ∙ e

  values_there : (r : Owned) → Spells s r (frame_in table e part) → (i : ℕ) (v : Value) → slice_get t.values i ≡ Some v →
      (at : ℕ) × (t.spot s.kind i ≡ Some at) × StandsAt s r.blocks at v
  values_there r h zero v q = h.values zero v (ap (λ (vs : List Value). slice_get vs zero) values_are ∙ q)
  values_there r h (suc k) v q =
      let x = h.values (suc k) v (ap (λ (vs : List Value). slice_get vs (suc k)) values_are ∙ q) in
      (x.0, spot_same k x.0 (slice_get held k) refl x.1, x.2)

  part_spells : (r : Owned) → Spells s r (frame_in table e part) → Spells s r t
  part_spells r h = record {
    home = h.home;
    counted = h.counted;
    size = h.size;
    class = h.class;
    fixed = h.fixed;
    monitor = h.monitor;
    heads = λ i n q. h.heads i n q;
    values = λ i v q. values_there r h i v q;
  }

  pub part_shows : (key : Key) → Shown s key (frame_in table e part) → Shown s key t
  part_shows key h = record { row = h.row; there = h.there; spells = part_spells h.row h.spells }

  -- it has one stop
  pub one_stop : (found : StopEntry) → IsStopOf tables part table found → found ≡ e
  one_stop found is =
      let stop = stop_there d p s.kind homes tables has a e goes (headings_in part) table (part_heads process depth p a e) is.its in
      same_Some found e (sym is.stop ∙ stop)

pub parts_show : PartsShowActivations
parts_show d p homes tables table a e found x s process depth key has goes same is shown =
    let whole = activation_part_of process depth p a e in
    let its : IsStopOf tables whole table found = subst (λ (y : ActivationPart). IsStopOf tables y table found) same is in
    let one = one_stop d p homes tables table a e s process depth has goes its.its found its in
    part_shows d p homes tables table a e s process depth has goes its.its key
    (subst (λ (f : StopEntry). Shown s key (frame_in table f whole)) one
    (subst (λ (y : ActivationPart). Shown s key (frame_in table found y)) same shown))
