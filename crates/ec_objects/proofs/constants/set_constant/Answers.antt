-- The word that was made stands for the value.
use Rattle.ec_objects.proofs.Defining.{constant_put, constant_texts}
use Rattle.ec_objects.proofs.constants.set_constant.Goals as goal
use Rattle.ec_stores.specs.Node.{store_of}

pub returns-clause-puts : goal.returns-clause-puts
returns-clause-puts c =
    constant_put (store_of c.args.node.now) (store_of c.word_for.new.node) (store_of c.set_global.new.self) c.args.index c.in_ok-word.word
    c.args.value.now c.in_ok-word.ensures c.set_global.ensures c.kind-kind.ensures.tidy

pub returns-clause-gets : goal.returns-clause-gets
returns-clause-gets c =
    constant_texts (store_of c.args.node.now) (store_of c.word_for.new.node) (store_of c.set_global.new.self) c.args.index c.in_ok-word.word
    c.args.value.now c.in_ok-word.ensures c.set_global.ensures
