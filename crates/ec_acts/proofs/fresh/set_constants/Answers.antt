-- The next constant has its default.
use Rattle.std.proofs.Common.{ap, ◌∙◌, subst, arith}
use Rattle.ec_acts.proofs.Defaults.{default_fits, one_defaulted, still_constant}
use Rattle.ec_acts.proofs.fresh.set_constants.Goals as goal
use Rattle.ec_acts.specs.Fresh.{Defaulted}
use Rattle.ec_stores.specs.Node.{store_of}
use Rattle.ec_world.specs.Values.{default_of}

pub set_constant-requires-clause-there : goal.set_constant-requires-clause-there
set_constant-requires-clause-there c =
    still_constant c.args.types.now c.loop-i.i (store_of c.args.node.now) (store_of c.loop-i.node) c.loop-i.invariant
    (c.requires.there c.loop-i.i (omega arith))

pub set_constant-requires-clause-text : goal.set_constant-requires-clause-text
set_constant-requires-clause-text c =
    default_fits (store_of c.loop-i.node) c.kind_of.result c.default_value-value.result c.default_value-value.ensures

pub loop-i-preserved : goal.loop-i-preserved
loop-i-preserved c =
    one_defaulted c.args.types.now c.loop-i.i (store_of c.args.node.now) (store_of c.loop-i.node) (store_of c.set_constant.new.node)
    c.loop-i.invariant c.requires.empty c.at.result.now c.at.ensures c.default_value-value.result
    (c.default_value-value.ensures ∙ ap default_of c.kind_of.ensures) c.in_ok-set_constant.ensures.puts c.in_ok-set_constant.ensures.gets

pub returns : goal.returns
returns c =
    subst (λ n. Defaulted c.args.types.now n (store_of c.args.node.now) (store_of c.loop-i.node)) (omega arith) c.loop-i.invariant
