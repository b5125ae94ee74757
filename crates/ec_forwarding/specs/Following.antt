-- Following addresses.
use Rattle.std.specs.Prelude.{◌≡◌, ◌≢◌, ℕ, zero, suc, ◌<◌, ◌≤◌, Option, None, Some}
use Rattle.ec_forwarding.specs.Addresses.{Addresses, IsSince}
use Rattle.ec_forwarding.specs.declared.address.Address.{Address}

-- the node that an address names
abbrev pub named : Option Address → Option ℕ
named None = None
named (Some a) = Some a.node

abbrev pub named_at : Addresses → Option ℕ → Option ℕ
named_at addresses None = None
named_at addresses (Some k) = named (addresses k)

-- the node that one comes to from node k who follows so many addresses, beginning with that of k
abbrev pub node_after : Addresses → ℕ → ℕ → Option ℕ
node_after addresses k zero = Some k
node_after addresses k (suc n) = named_at addresses (node_after addresses k n)

-- where the search from a node begins: there, or where the node has no address at the node where the object was made
abbrev pub own_or_made : Option Address → ℕ → ℕ → ℕ
own_or_made None from made = made
own_or_made (Some a) from made = from

-- From node k one finds the place in so many hops, which are the addresses followed behind that of k, and in no fewer.
pub record IsFound (addresses : Addresses) (k place hops : ℕ) : Type 0 where
  pub there : node_after addresses k (suc hops) ≡ Some place
  pub first : (n : ℕ) → n < hops → node_after addresses k (suc n) ≢ Some place

-- Each address leads on: it names the place, or a node with a newer one; the place has the newest itself; and none is newer.
pub record Leads (addresses : Addresses) (newest : Address) : Type 0 where
  pub on : (k : ℕ) (a : Address) → addresses k ≡ Some a → a.node ≢ newest.node → IsSince (suc a.moves) (addresses a.node)
  pub own : addresses newest.node ≡ Some newest
  pub old : (k : ℕ) (a : Address) → addresses k ≡ Some a → a.moves ≤ newest.moves

-- node j isn't passed in so many hops from node k
abbrev pub IsNotPassed : Addresses → ℕ → ℕ → ℕ → Type 0
IsNotPassed addresses k hops j = (n : ℕ) → n ≤ hops → node_after addresses k n ≢ Some j

-- Node k and the nodes that one passes in so many hops have the newest address, and the others what they had.
pub record AreShortened (before after : Addresses) (k hops : ℕ) (newest : Address) : Type 0 where
  pub passed : (n j : ℕ) → n ≤ hops → node_after before k n ≡ Some j → after j ≡ Some newest
  pub others : (j : ℕ) → IsNotPassed before k hops j → after j ≡ before j

-- node j isn't `from`, and isn't passed
abbrev pub IsAside : Addresses → ℕ → ℕ → ℕ → ℕ → Type 0
IsAside addresses from k hops j = (j ≢ from) × IsNotPassed addresses k hops j

-- Node `from`, which searched from node k on, and the nodes that it passed have the newest address, and the others what they had.
pub record AreNewer (before after : Addresses) (from k hops : ℕ) (newest : Address) : Type 0 where
  pub own : after from ≡ Some newest
  pub passed : (n j : ℕ) → n ≤ hops → node_after before k n ≡ Some j → after j ≡ Some newest
  pub others : (j : ℕ) → IsAside before from k hops j → after j ≡ before j
