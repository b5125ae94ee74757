-- What holds of the owners in a parcel.
use Rattle.std.specs.Prelude.{◌≡◌, ◌↔◌, true, false, List, ◌∷◌}
use Rattle.ec_world.specs.Held.{Distinct}
use Rattle.ec_world.specs.declared.key.Key.{Key}
use Rattle.ec_parcels.specs.Owners.{among, keys_of}
use Rattle.ec_things.specs.Travelling.{Turned}
use Rattle.ec_wire.specs.WireForm.{KeepsRules}
use Rattle.ec_wire.specs.declared.parcel.Contents.{Contents}
use Rattle.ec_world.specs.Group.{Has}

-- No owner stands twice in a parcel that keeps the rules of the wire form.
abbrev pub KeysAreOnce : Type 0
KeysAreOnce = (x : Contents) → KeepsRules x → Distinct (keys_of x)

-- An owner is among some exactly where it stands in their list.
abbrev pub AmongIsHas : Type 0
AmongIsHas = (keys : List Key) (key : Key) → (among keys key ≡ true) ↔ Has keys key

-- With one owner more this one travels, and all others travel or stay as before.
abbrev pub OneMoreTravels : Type 0
OneMoreTravels = (keys : List Key) (key : Key) → Turned (among keys) (among (key ∷ keys)) key true

-- With one owner less, of owners none of which stands twice, this one stays, and all others travel or stay as before.
abbrev pub OneFewerTravels : Type 0
OneFewerTravels = (keys : List Key) (key : Key) → Distinct (key ∷ keys) → Turned (among (key ∷ keys)) (among keys) key false
