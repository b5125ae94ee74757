use Rattle.std.proofs.Common.{◌≡◌, ◌-◌, ◌+◌, ◌*◌, ◌/◌, ◌≤◌, [], length, min, vec_len, vec_capacity}
use Rattle.ec_formats.specs.Lists.{items_read}
use Rattle.ec_formats.proofs.field.read_items.Given as goal

-- what is still to be read gives the whole answer; the room is as it was made, and the bytes behind the items can't hold more than is left of it
abbrev pub invariant-loop : goal.invariant-loop
invariant-loop g l =
    (items_read g.T.Field.format l.items.items (l.count - l.counter) l.rest ≡ items_read g.T.Field.format [] l.count l.bytes) ×
    ((vec_len l.items ≡ l.counter) ×
    ((vec_capacity l.items ≡ min l.count (length l.bytes / g.T.Field.LEAST)) ×
    (l.counter * g.T.Field.LEAST + length l.rest ≤ length l.bytes)))
