-- What is compiled is the source of an accepted text.
use Rattle.std.proofs.Math.Facts.{Fits-lt-pow}
use Rattle.ec_tool.proofs.Taking.{is_of_text, meant_by}
use Rattle.ec_listing.proofs.listing.list_accepted.Goals as goal

pub compile-requires : goal.compile-requires
compile-requires c =
    rw c.in_ok-program.ensures
    (is_of_text c.args.source.now c.args.accepted.now.checked (λ i. Fits-lt-pow (c.type_inv.source i))
    (meant_by c.args.source.now c.args.accepted.now c.requires.program c.requires.core))
