-- What was made is the new vector of the world.
use Rattle.std.proofs.Common.{◌≡◌}
use Rattle.std.specs.Prelude.{replicate}
use Rattle.ec_acts.proofs.Made.{vector_made}
use Rattle.ec_acts.proofs.Stepping.{answered}
use Rattle.ec_acts.proofs.making.make_vector.Goals as goal
use Rattle.ec_world.specs.Objects.{element_kind}
use Rattle.ec_world.specs.Values.{default_of}
use Rattle.ec_acts.proofs.Counting.{is_one_more}

pub returns-clause-does : goal.returns-clause-does
returns-clause-does c = λ w mirrors.
    let are : c.as_slice.result.now ≡ replicate c.args.size (default_of (element_kind c.args.of)) =
    cc (c.as_slice.ensures, c.in_ok-elements.ensures, c.elements.ensures) in
    answered c.only.ensures
    (vector_made c.args.system.now w c.args.who mirrors c.make.new.cluster c.in_ok-oid.oid c.in_ok-oid.ensures.ok c.requires.maker_is
    c.args.of c.args.size c.as_slice.result.now are c.in_ok-make.ensures)

pub returns-clause-places : goal.returns-clause-places
returns-clause-places c =
    is_one_more c.args.system.now.cluster c.make.new.cluster c.args.who.own c.in_ok-oid.oid _ c.in_ok-make.ensures c.requires.maker_is
    c.in_ok-oid.ensures.ok
