-- Addresses of an object.
use Rattle.std.specs.Prelude.{◌≡◌, ℕ, suc, ◌≤◌, ◌==◌, if◌then◌else◌, List, [], ◌∷◌, length, Option, None, Some, slice_get}
use Rattle.ec_forwarding.specs.declared.address.Address.{Address}
use Rattle.ec_forwarding.specs.declared.address.Known.{Known}

-- the address that each node has, where it has one
abbrev pub Addresses : Type 0
Addresses = ℕ → Option Address

abbrev pub address_in : List Known → Addresses
address_in [] k = None
address_in (n ∷ ns) k = if n.at == k then Some n.address else address_in ns k

-- one node has another address, and the others have what they had
abbrev pub with_address : Addresses → ℕ → Address → Addresses
with_address addresses node a k = if k == node then Some a else addresses k

-- there is an address, which was written at or after the c-th move
abbrev pub IsSince : ℕ → Option Address → Type 0
IsSince c None = ⊥
IsSince c (Some a) = c ≤ a.moves

-- Addresses are right by an object's history, the nodes where it was: first the one where it was made, then where each move brought it.
pub record AreRight (history : List ℕ) (addresses : Addresses) : Type 0 where
  -- each says where the object was after so many moves
  pub say : (k : ℕ) (a : Address) → addresses k ≡ Some a → slice_get history a.moves ≡ Some a.node
  -- each node where it was has one, which is no older than that
  pub known : (c k : ℕ) → slice_get history c ≡ Some k → IsSince c (addresses k)
  -- it names the node itself only where the object is
  pub own : (k : ℕ) (a : Address) → addresses k ≡ Some a → a.node ≡ k → suc a.moves ≡ length history
