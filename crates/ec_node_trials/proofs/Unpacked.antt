-- What stands at a node once a parcel that fits there was unpacked.
use Rattle.std.proofs.Common.{◌≡◌, ℕ, ◌<◌, List, length, arith}
use Rattle.ec_carrying.specs.Unpacking.{Unpacked}
use Rattle.ec_generate.specs.declared.table.OperationTable.{OperationTable}
use Rattle.ec_parcel_fits.specs.Unfitting.{Fits}
use Rattle.ec_parcels.specs.Classes.{ClassTable}
use Rattle.ec_stores.specs.Changes.{OwnsWord}
use Rattle.ec_things.specs.Store.{Store}
use Rattle.ec_wire.specs.declared.parcel.ActivationPart.{ActivationPart}
use Rattle.ec_wire.specs.declared.parcel.Contents.{Contents}
use Rattle.ec_world.specs.Group.{Has}
use Rattle.ec_world.specs.declared.key.Key.TheVariants.{Frame}

-- an activation's frame has each of its 128 words
pub owns_word : (table : ClassTable) (tables : List OperationTable) (s s' : Store) (x : Contents) → Fits table tables s x →
    Unpacked table tables x s s' → (part : ActivationPart) → Has x.activations part → (at : ℕ) → at < 128 →
    OwnsWord s' (Frame part.process part.depth) at
owns_word table tables s s' x fits unpacked part h at low =
    let its = fits.program.activations part h in
    let shown = unpacked.activations part its.table its.entry h its.is in
    let counted : length shown.row.blocks ≡ 1 = shown.spells.counted in
    record { row = shown.row; there = shown.there; within = omega (arith, low, counted) }
