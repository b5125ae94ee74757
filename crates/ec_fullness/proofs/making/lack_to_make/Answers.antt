-- The class is there, and the fields are those of its new object.
use Rattle.std.proofs.Common.{◌≡◌, ◌+◌, List, ap, arith, subst}
use Rattle.std.specs.Prelude.{IfOk}
use Rattle.ec_cluster.proofs.Answered.{if_ok}
use Rattle.ec_fullness.proofs.Telling.{made_told}
use Rattle.ec_fullness.proofs.making.lack_to_make.Goals as goal
use Rattle.ec_fullness.specs.Told.{Tells}
use Rattle.ec_world.specs.Things.{class_blocks}
use Rattle.ec_world.specs.declared.class.ClassNo.TheVariants.{Made}
use Rattle.ec_world.specs.declared.value.Value.{Value}

pub returns : goal.returns
returns c =
    let cluster = c.args.cluster.now in
    let size = c.in-Ok.size in
    let blocks = c.class_blocks-blocks.result + 1 in
    let its : class_blocks c.args.class size ≡ class_blocks (Made c.in-Made.number) size = ap (λ k. class_blocks k size) c.in-Made.is in
    let many = c.class_blocks-blocks.ensures in
    let long = c.in-Ok.ensures in
    let count = c.len.ensures in
    if_ok c.lack_at.result
    (λ r told. made_told cluster c.args.maker c.args.class c.args.given.now c.in-Made.number c.in-Some.made.now c.in_ok-fields.fields blocks
    size r c.in-Made.is c.in-Some.ensures.some c.in_ok-fields.ensures (omega (arith, long, count)) (omega (arith, its, many)) told)
    (subst (λ (vs : List Value). IfOk c.lack_at.result (λ r. Tells cluster c.args.maker blocks vs r)) c.as_slice.ensures c.lack_at.ensures)
