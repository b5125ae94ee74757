-- The program's object is at node 0.
use Rattle.std.proofs.Common.{length, replicate}
use Rattle.ec_cluster.specs.Located.{nodes_made}
use Rattle.ec_acts.proofs.Going.{can_make_program, program_set}
use Rattle.ec_acts.proofs.load.with_program.Goals as goal
use Rattle.ec_acts.specs.Worlds.{with_objects}
use Rattle.ec_world.specs.Run.{node_object}

pub make_at-requires : goal.make_at-requires
make_at-requires c =
    can_make_program c.args.parts c.args.images c.args.specs.now c.requires.can c.requires.room c.in_ok-cluster.cluster
    c.in_ok-cluster.ensures

pub returns : goal.returns
returns c =
    let p = c.args.parts in
    let specs = c.args.specs.now in
    program_set p c.args.images specs c.make_at.new.cluster
    (c.in_ok-make_at.ensures p c.args.images specs (with_objects (length specs) p (replicate (length specs) node_object))
    (nodes_made (length specs)) c.in_ok-cluster.ensures)
