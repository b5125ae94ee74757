-- Blocks of the activations of a parcel at the node from which they go.
use Rattle.std.specs.Prelude.{◌<◌, ℕ, IsSome, List}
use Rattle.ec_world.specs.declared.key.Key.TheVariants.{Frame}
use Rattle.ec_packing.specs.Narrow.{EachIs}
use Rattle.ec_stores.specs.Changes.{FirstBlock}
use Rattle.ec_things.specs.Store.{Store}
use Rattle.ec_wire.specs.declared.parcel.ActivationPart.{ActivationPart}

-- its activation is there
abbrev pub IsThere : Store → ActivationPart → Type 0
IsThere s part = IsSome (s.row (Frame part.process part.depth))

-- its activation has one of 65,536 blocks there
pub record HasSmallBlock (s : Store) (part : ActivationPart) : Type 0 where
  pub block : ℕ
  pub first : FirstBlock s (Frame part.process part.depth) block
  pub small : block < 65536

abbrev pub AreThere : Store → List ActivationPart → Type 0
AreThere s parts = EachIs (IsThere s) parts

abbrev pub HaveSmallBlocks : Store → List ActivationPart → Type 0
HaveSmallBlocks s parts = EachIs (HasSmallBlock s) parts
