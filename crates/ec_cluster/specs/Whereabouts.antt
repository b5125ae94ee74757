-- The whereabouts of objects, which have the numbers from 1 on.
use Rattle.std.specs.Prelude.{◌≡◌, ◌≢◌, ◌⊎◌, ◌-◌, ◌^◌, ℕ, zero, suc, ◌<◌, ◌≤◌, List, length, Option, None, Some, IsSome, option_map}
use Rattle.std.specs.Prelude.{unwrap_or, slice_get}
use Rattle.ec_cluster.specs.Each.{each_from}
use Rattle.ec_cluster.specs.Located.{Located}
use Rattle.ec_forwarding.specs.Addresses.{Addresses}
use Rattle.ec_forwarding.specs.Forwardings.{ObjectTraces, addresses_in, trace_at}
use Rattle.ec_forwarding.specs.declared.address.Address.{Address}
use Rattle.ec_forwarding.specs.Traces.{Trace, first_trace, newest_of, start_of}

-- what nodes know of each object, in the order of the objects' numbers
abbrev pub Traces : Type 0
Traces = List Trace

-- how many objects were noted
abbrev pub made_count : Traces → ℕ
made_count d = length d

-- what nodes know of an object, where it was noted
abbrev pub known_of : Traces → ℕ → Option Trace
known_of d zero = None
known_of d (suc i) = slice_get d i

-- the node at which an object is, where it was noted
abbrev pub place_at : Traces → ℕ → Option ℕ
place_at d oid = option_map (λ t. (newest_of t).node) (known_of d oid)

-- how often an object has moved
abbrev pub moves_of : Traces → ℕ → ℕ
moves_of d oid = unwrap_or (option_map (λ t. (newest_of t).moves) (known_of d oid)) 0

-- the addresses that nodes have of an object
abbrev pub addresses_at : Traces → ℕ → Addresses
addresses_at d oid = addresses_in (known_of d oid)

-- the node at which the search for an object from a node begins
abbrev pub start_at : Traces → ℕ → ℕ → ℕ
start_at d oid from = unwrap_or (option_map (λ t. start_of t from) (known_of d oid)) from

-- the address of an object that goes to a node now
abbrev pub address_on : Traces → ℕ → ℕ → Address
address_on d oid to = record { node = to; moves = suc (moves_of d oid) }

-- It is known of each object where it is, and how often it has moved.
pub record Gives (d : Traces) (w : Located) : Type 0 where
  pub made : made_count d ≡ w.made
  pub places : (oid : ℕ) → place_at d oid ≡ w.place oid
  pub moves : (oid : ℕ) → moves_of d oid ≡ w.moves oid

-- ---- how often objects move

-- each object can move once more
abbrev pub FewMoves : Traces → Type 0
FewMoves d = (oid : ℕ) → moves_of d oid < 2 ^ 64 - 1

-- so can each that isn't at node k
abbrev pub FewElsewhere : ℕ → Traces → Type 0
FewElsewhere k d = (oid : ℕ) → place_at d oid ≢ Some k → moves_of d oid < 2 ^ 64 - 1

-- each object has moved at most once more
abbrev pub MovedOnce : Traces → Traces → Type 0
MovedOnce old new = (oid : ℕ) → moves_of new oid ≤ suc (moves_of old oid)

-- An object is where it was, and has moved as often.
pub record Stayed (old new : Traces) (oid : ℕ) : Type 0 where
  pub place : place_at new oid ≡ place_at old oid
  pub moves : moves_of new oid ≡ moves_of old oid

-- An object has come to node k from elsewhere, by one move more.
pub record CameTo (k : ℕ) (old new : Traces) (oid : ℕ) : Type 0 where
  pub from : place_at old oid ≢ Some k
  pub to : place_at new oid ≡ Some k
  pub moves : moves_of new oid ≡ suc (moves_of old oid)

-- objects have come to node k, or stayed
abbrev pub WentTo : ℕ → Traces → Traces → Type 0
WentTo k old new = (oid : ℕ) → Stayed old new oid ⊎ CameTo k old new oid

-- ---- objects of any numbers, of which those from 1 on were noted

-- what is kept of the objects from 1 to n
abbrev pub numbered : ObjectTraces → ℕ → Traces
numbered d n = each_from (λ oid. unwrap_or (trace_at d oid) (first_trace 0)) 1 n

-- Just the objects from 1 to n were noted.
pub record AreNumbered (d : ObjectTraces) (n : ℕ) : Type 0 where
  pub noted : (oid : ℕ) → 0 < oid → oid ≤ n → IsSome (trace_at d oid)
  pub none : trace_at d 0 ≡ None
  pub past : (oid : ℕ) → n < oid → trace_at d oid ≡ None
