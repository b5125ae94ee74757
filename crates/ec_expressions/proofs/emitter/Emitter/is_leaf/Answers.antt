use Rattle.std.proofs.Common.{◌∙◌, sym, ap}
use Rattle.ec_expressions.proofs.Codes.{leaf_of}
use Rattle.ec_expressions.specs.Emitting.{is_leaf}
use Rattle.ec_expressions.proofs.emitter.Emitter.is_leaf.Goals as goal

pub returns : goal.returns
returns c = c.has_leaf.ensures ∙ ap is_leaf (sym (leaf_of c.args.self.now c.args.x.now))
