-- What nodes show after one change.
use Rattle.std.specs.Prelude.{◌≡◌, ℕ, ◌+◌, ◌<◌, List, Option, Some, length, slice_set}
use Rattle.ec_world.specs.Held.{if_at}
use Rattle.ec_world.specs.declared.key.Key.{Key}
use Rattle.ec_things.specs.Changes.{PutsGlobals}
use Rattle.ec_things.specs.Shows.{Shows}
use Rattle.ec_things.specs.Store.{Store}
use Rattle.ec_things.specs.Texts.{NewBytes}
use Rattle.ec_things.specs.Things.{IsAt, NodePut, Puts, Thing, ThingPut, size_of}
use Rattle.ec_world.specs.Group.{Has}
use Rattle.ec_world.specs.declared.value.Value.{Value}

-- Where a node puts one thing and nothing else, the nodes show what they showed, with this thing.
abbrev pub OneChangeIsShown : Type 0
OneChangeIsShown =
    (nodes nodes' : ℕ → Option Store) (k : ℕ) (s s' : Store) (things things' : Key → Option Thing) (globals : List Value)
    (held held' : ℕ → ℕ) (place : ℕ → Option ℕ) (key : Key) (now : Option Thing) →
    Shows nodes things globals held place →
    NodePut nodes nodes' k s s' →
    Puts s s' key now →
    ThingPut things things' key now →
    IsAt place k (things key) →
    IsAt place k now →
    ((j : ℕ) → held' j + if_at j (size_of (things key)) (Some k) ≡ held j + if_at j (size_of now) (Some k)) →
    Shows nodes' things' globals held' place

-- Where each node puts one constant and nothing else, the nodes show what they showed, with this constant.
abbrev pub ConstantIsShown : Type 0
ConstantIsShown =
    (nodes nodes' : ℕ → Option Store) (i : ℕ) (v : Value) (things : Key → Option Thing) (globals : List Value) (held : ℕ → ℕ)
    (place : ℕ → Option ℕ) →
    Shows nodes things globals held place →
    PutsGlobals nodes nodes' i v →
    i < length globals →
    Shows nodes' things (slice_set globals i v) held place

-- How many bytes of some wanted texts are new depends on no order.
abbrev pub NewBytesAreOne : Type 0
NewBytesAreOne = (wanted : List (List ℕ)) (s : Store) (n m : ℕ) → NewBytes (Has wanted) s n → NewBytes (Has wanted) s m → n ≡ m
