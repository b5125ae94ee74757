-- What nodes know of one object.
use Rattle.std.specs.Prelude.{◌≡◌, ℕ, List, [], ◌∷◌, Option, None, Some, if◌then◌else◌, nat_lt, slice_get}
use Rattle.ec_forwarding.specs.Addresses.{Addresses, AreRight, address_in}
use Rattle.ec_forwarding.specs.Following.{own_or_made}
use Rattle.ec_forwarding.specs.declared.address.Address.{Address}
use Rattle.ec_forwarding.specs.declared.address.Known.{Known}

-- the newer of two addresses
abbrev pub newer : Option Address → Address → Address
newer None b = b
newer (Some a) b = if nat_lt a.moves b.moves then b else a

-- the newest of the addresses that some nodes have
abbrev pub newest_at : Addresses → List Known → Address
newest_at addresses [] = record { node = 0; moves = 0 }
newest_at addresses (n ∷ ns) = newer (addresses n.at) (newest_at addresses ns)

abbrev pub newest_in : List Known → Address
newest_in ns = newest_at (address_in ns) ns

-- the node where it was made, and the addresses that nodes have
pub record Trace : Type 0 where
  pub made : ℕ
  pub known : List Known

abbrev pub addresses_of : Trace → Addresses
addresses_of t = address_in t.known

-- the newest of them, which says where the object is and how often it has moved
abbrev pub newest_of : Trace → Address
newest_of t = newest_in t.known

-- the node at which the search from a node begins
abbrev pub start_of : Trace → ℕ → ℕ
start_of t from = own_or_made (addresses_of t from) from t.made

-- the trace of an object that was just made at a node, which alone knows it
abbrev pub first_trace : ℕ → Trace
first_trace at = record { made = at; known = record { at = at; address = record { node = at; moves = 0 } } ∷ [] }

-- A trace is that of an object with this history, the nodes where it was.
pub record IsTraceOf (history : List ℕ) (t : Trace) : Type 0 where
  pub first : slice_get history 0 ≡ Some t.made
  pub right : AreRight history (addresses_of t)

abbrev pub IsTrace : Trace → Type 0
IsTrace t = (history : List ℕ) × IsTraceOf history t
