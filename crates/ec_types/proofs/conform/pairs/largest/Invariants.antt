use Rattle.std.proofs.Common.{length}
use Rattle.ec_types.specs.Conforms.{Relation, IsClosed}
use Rattle.ec_types.specs.Pairs.{count_true, IsFull, IsWithin}
use Rattle.ec_types.proofs.conform.pairs.largest.Given as goal

abbrev pub invariant-striking : goal.invariant-striking
invariant-striking l =
    IsFull l.types l.pairs.items
    × ((r : Relation) → IsClosed l.types r → IsWithin r (length l.types) l.pairs.items)

abbrev pub decreases-striking : goal.decreases-striking
decreases-striking l = count_true l.pairs.items
