-- What was made is the new object of the world.
use Rattle.std.proofs.Common.{◌≡◌, suc, List, ap, ◌∙◌}
use Rattle.ec_cluster.specs.Makings.{CanMake}
use Rattle.ec_acts.proofs.Made.{class_is, object_made}
use Rattle.ec_acts.proofs.Stepping.{answered}
use Rattle.ec_acts.proofs.making.make.Goals as goal
use Rattle.ec_cluster.specs.Whereabouts.{made_count}
use Rattle.ec_world.specs.Objects.{class_at}
use Rattle.ec_world.specs.Outcomes.{only}
use Rattle.ec_world.specs.Values.{new_fields}
use Rattle.ec_world.specs.declared.class.ClassRec.{ClassRec}
use Rattle.ec_world.specs.declared.stop.Effect.TheVariants.{Calls}
use Rattle.ec_world.specs.declared.value.Value.{Value}
use Rattle.ec_acts.proofs.Counting.{is_one_more}

pub returns-clause-does : goal.returns-clause-does
returns-clause-does c = λ w mirrors.
    let nodes = c.args.system.now.cluster in
    let k : ClassRec = c.class_of-made.result.now in
    let Can = λ (k : ClassRec). CanMake nodes c.args.who.own (suc (made_count nodes.whereabouts)) c.args.class
    (new_fields c.args.given k.fields) in
    let can = class_is (class_at nodes.parts.classes c.args.class) k Can c.class_of-made.ensures c.requires in
    let are : c.as_slice.result.now ≡ new_fields c.args.given k.fields = cc (c.as_slice.ensures, c.in_ok-fields.ensures) in
    answered (c.only.ensures ∙ ap (λ (x : List Value). only (Calls k.initial c.in_ok-oid.oid x)) c.new.ensures)
    (object_made c.args.system.now w c.args.who mirrors c.make.new.cluster c.in_ok-oid.oid c.in_ok-oid.ensures.ok can.maker_is c.args.class
    c.args.given c.as_slice.result.now k c.in_ok-monitor.monitor c.class_of-made.ensures are c.in_ok-monitor.ensures c.in_ok-make.ensures)

pub returns-clause-places : goal.returns-clause-places
returns-clause-places c =
    let nodes = c.args.system.now.cluster in
    let Can = λ (k : ClassRec). CanMake nodes c.args.who.own (suc (made_count nodes.whereabouts)) c.args.class
    (new_fields c.args.given k.fields) in
    let can = class_is (class_at nodes.parts.classes c.args.class) c.class_of-made.result.now Can c.class_of-made.ensures c.requires in
    is_one_more nodes c.make.new.cluster c.args.who.own c.in_ok-oid.oid _ c.in_ok-make.ensures can.maker_is c.in_ok-oid.ensures.ok
