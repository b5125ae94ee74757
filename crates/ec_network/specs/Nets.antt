-- What a network is to its callers, and what its nodes have run.
use Rattle.std.specs.Prelude.{ℕ, Option, Some, None, option_map}
use Rattle.ec_cluster.specs.Cluster.{stores}
use Rattle.ec_cluster.specs.declared.cluster.Images.{Images}
use Rattle.ec_cluster.specs.declared.system.System.{System}
use Rattle.ec_code.specs.Typing.{Declared}
use Rattle.ec_code.specs.declared.code.Parts.{Parts}
use Rattle.ec_legs.specs.Nodes.{IsCodeFor}
use Rattle.ec_network.specs.declared.nodes_running.network.Numbered.{Numbered}
use Rattle.ec_parcels.specs.Classes.{ClassTable}
use Rattle.ec_things.specs.Store.{Store}
use Rattle.ec_world.specs.declared.node.Kind.{Kind}

-- a system, with the numbers of its program's classes on the wire; or none once it is spent
abbrev pub Net : Type 0
Net = Option Numbered

abbrev pub system_of : Net → Option System
system_of = option_map (λ n. n.system)

abbrev pub numbers_of : Net → Option ClassTable
numbers_of = option_map (λ n. n.numbers)

-- on each kind the images are the code of the program
abbrev pub AreCode : Declared → Parts → Images → Type 0
AreCode d p images = (kind : Kind) → IsCodeFor d p images kind

abbrev pub count_if : Option Store → ℕ
count_if None = 0
count_if (Some s) = s.count

-- how many instructions a node has run; none where it is not there, or the network is spent
abbrev pub counts_of : Net → ℕ → ℕ
counts_of None k = 0
counts_of (Some n) k = count_if (stores n.system.cluster k)
