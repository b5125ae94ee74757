use Rattle.std.proofs.Common.{arith, sym, ◌∙◌, ◌≡◌, ◌++◌, ◌∷◌, []}
use Rattle.ec_world.specs.Values.{default_of}
use Rattle.ec_world.proofs.Defaults.{default_step, defaults_over}
use Rattle.ec_world.proofs.initial.push_defaults.Goals as goal

pub loop-i-preserved : goal.loop-i-preserved
loop-i-preserved c =
    let new : c.push.new.self ≡ c.loop-i.values ++ default_of c.at.result.now.of ∷ [] =
    cc (c.in_ok-push.ensures.ok, c.default_value.ensures) in
    default_step c.loop-i.values c.push.new.self c.args.fields.now c.loop-i.i c.at.result.now c.at.ensures new
    ∙ c.loop-i.invariant

pub returns : goal.returns
returns c =
    sym (defaults_over c.loop-i.values c.args.fields.now c.loop-i.i (omega (arith, c.len-i-end.ensures)))
    ∙ c.loop-i.invariant
