-- Words of the first block of an owner.
use Rattle.std.proofs.Common.{◌≡◌, ℕ, ◌+◌, ◌*◌, ◌<◌, List, [], ◌∷◌, length, Some, refl, sym, ◌∙◌, arith}
use Rattle.std.specs.List.{AllByRecursion}
use Rattle.std.specs.Prelude.{slice_get}
use Rattle.ec_base.proofs.Lists.{get_within}
use Rattle.ec_world.specs.declared.key.Key.{Key}
use Rattle.ec_stores.specs.Changes.{FirstBlock}
use Rattle.ec_stores.specs.Memory.{held}
use Rattle.ec_stores.specs.Node.{Laid, NodeData, store_of}
use Rattle.ec_things.specs.Store.{Store}

-- at a place of the first block stands its number
pub at_first : (blocks : List ℕ) (block j : ℕ) → j ≡ 0 → slice_get blocks 0 ≡ Some block → slice_get blocks j ≡ Some block
at_first blocks block j zero_is first = rw zero_is first

pub alone_at : (block j : ℕ) → j ≡ 0 → slice_get (block ∷ []) j ≡ Some block
alone_at block j zero_is = rw zero_is refl

pub in_first : (blocks : List ℕ) (block b j : ℕ) → j ≡ 0 → slice_get blocks 0 ≡ Some block → slice_get blocks j ≡ Some b →
    slice_get (block ∷ []) j ≡ Some b
in_first blocks block b j zero_is first e = alone_at block j zero_is ∙ (sym (at_first blocks block j zero_is first) ∙ e)

pub first_within : (s : Store) (key : Key) (block i : ℕ) (first : FirstBlock s key block) → i < 128 → i < 128 * length first.row.blocks
first_within s key block i first small = let some = get_within first.row.blocks 0 block first.first in omega arith

-- the block is the memory's
pub first_alone : (node : NodeData) (laid : Laid node) (key : Key) (block : ℕ) → FirstBlock (store_of node) key block →
    AllByRecursion (λ b. b < length (held node.memory).links) (block ∷ [])
first_alone node laid key block first = (laid.owners.within key first.row block first.there (record { at = 0; is = first.first }), tt)
