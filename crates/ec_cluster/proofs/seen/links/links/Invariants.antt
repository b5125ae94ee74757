use Rattle.std.proofs.Common.{◌≡◌, ◌++◌, drop}
use Rattle.ec_cluster.proofs.Elements.{values_of}
use Rattle.ec_cluster.proofs.seen.links.links.Given as goal
use Rattle.ec_cluster.specs.Decoded.{seen_common}
use Rattle.ec_world.specs.Group.{links_in, links_of}

-- the fields from place i on are still to be read
abbrev pub invariant-loop-i : goal.invariant-loop-i
invariant-loop-i l =
    l.oids.items ++ links_in (drop l.i l.class.fields) (drop l.i (values_of l.seen l.oid)) ≡ links_of (seen_common l.seen) l.oid
