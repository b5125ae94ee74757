-- What nodes show while objects and activations travel between them.
use Rattle.std.specs.Prelude.{◌≡◌, ℕ, suc, ◌↔◌, Bool, true, false, Option, Some, None, slice_get, slice_set}
use Rattle.ec_world.specs.declared.key.Key.{Key}
use Rattle.ec_world.specs.declared.key.Key.TheVariants.{Object}
use Rattle.ec_things.specs.Shows.{ShowsWorld}
use Rattle.ec_things.specs.Store.{Store}
use Rattle.ec_things.specs.Things.{NodePut, Puts, Thing, things_of}
use Rattle.ec_things.specs.Travelling.{ShowsBut, Turned, nothing}
use Rattle.ec_world.specs.declared.object.ObjectRec.{ObjectRec}
use Rattle.ec_world.specs.declared.world.World.{World}

-- Where nothing travels, nodes show a world but for what travels exactly where they show it.
abbrev pub NothingTravels : (A : Type 0) → Type 0
NothingTravels A =
    (frame : ℕ → ℕ → A → Thing) (nodes : ℕ → Option Store) (w : World A) (place : ℕ → Option ℕ) →
    ShowsBut frame nothing nodes w place ↔ ShowsWorld frame nodes w place

-- Where a node takes away a thing that is at it, and nothing else, the nodes show what they showed, and this thing travels too.
abbrev pub OneTakesOff : (A : Type 0) → Type 0
OneTakesOff A =
    (frame : ℕ → ℕ → A → Thing) (travels travels' : Key → Bool) (nodes nodes' : ℕ → Option Store) (w : World A) (place : ℕ → Option ℕ)
    (k : ℕ) (s s' : Store) (key : Key) (t : Thing) →
    ShowsBut frame travels nodes w place →
    travels key ≡ false →
    things_of frame w key ≡ Some t →
    place t.home ≡ Some k →
    NodePut nodes nodes' k s s' →
    Puts s s' key None →
    Turned travels travels' key true →
    ShowsBut frame travels' nodes' w place

-- Where a node puts a thing that travels and whose place it is, and nothing else, the nodes show what they showed, and this thing.
abbrev pub OneLands : (A : Type 0) → Type 0
OneLands A =
    (frame : ℕ → ℕ → A → Thing) (travels travels' : Key → Bool) (nodes nodes' : ℕ → Option Store) (w : World A) (place : ℕ → Option ℕ)
    (k : ℕ) (s s' : Store) (key : Key) (t : Thing) →
    ShowsBut frame travels nodes w place →
    travels key ≡ true →
    things_of frame w key ≡ Some t →
    place t.home ≡ Some k →
    NodePut nodes nodes' k s s' →
    Puts s s' key (Some t) →
    Turned travels travels' key false →
    ShowsBut frame travels' nodes' w place

-- Places may change where all that stays keeps its own.
abbrev pub TravellersMayGoElsewhere : (A : Type 0) → Type 0
TravellersMayGoElsewhere A =
    (frame : ℕ → ℕ → A → Thing) (travels : Key → Bool) (nodes : ℕ → Option Store) (w : World A) (place place' : ℕ → Option ℕ) →
    ShowsBut frame travels nodes w place →
    ((key : Key) (t : Thing) → things_of frame w key ≡ Some t → travels key ≡ false → place' t.home ≡ place t.home) →
    ShowsBut frame travels nodes w place'

-- An object that travels may change, where all else of the world's things and constants is as it was.
abbrev pub TravellersMayChange : (A : Type 0) → Type 0
TravellersMayChange A =
    (frame : ℕ → ℕ → A → Thing) (travels : Key → Bool) (nodes : ℕ → Option Store) (w w' : World A) (place : ℕ → Option ℕ) (i : ℕ)
    (o o' : ObjectRec) →
    ShowsBut frame travels nodes w place →
    travels (Object (suc i)) ≡ true →
    slice_get w.common.objects i ≡ Some o →
    w'.common.objects ≡ slice_set w.common.objects i o' →
    w'.common.globals ≡ w.common.globals →
    w'.processes ≡ w.processes →
    ShowsBut frame travels nodes w' place

-- Where two functions say of the same owners that they travel, nodes show the same but for these.
abbrev pub SameTravellers : (A : Type 0) → Type 0
SameTravellers A =
    (frame : ℕ → ℕ → A → Thing) (travels travels' : Key → Bool) (nodes : ℕ → Option Store) (w : World A) (place : ℕ → Option ℕ) →
    ((key : Key) → travels' key ≡ travels key) →
    ShowsBut frame travels nodes w place →
    ShowsBut frame travels' nodes w place

-- No node keeps anything of an owner that travels.
abbrev pub TravellersAreNowhere : (A : Type 0) → Type 0
TravellersAreNowhere A =
    (frame : ℕ → ℕ → A → Thing) (travels : Key → Bool) (nodes : ℕ → Option Store) (w : World A) (place : ℕ → Option ℕ) (k : ℕ)
    (s : Store) (key : Key) →
    ShowsBut frame travels nodes w place →
    travels key ≡ true →
    nodes k ≡ Some s →
    s.row key ≡ None
