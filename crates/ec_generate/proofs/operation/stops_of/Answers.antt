use Rattle.std.proofs.Common.{ℕ, ◌∙◌, List, ap, map, arith}
use Rattle.ec_base.proofs.Lists.{get_within}
use Rattle.ec_machine_code.specs.Stops.{stop_places}
use Rattle.ec_generate.specs.Puts.{pick}
use Rattle.ec_generate.specs.Sites.{place_there}
use Rattle.ec_generate.proofs.Loops.{stops_none, stops_one}
use Rattle.ec_machine_code.proofs.Direct.{ops_long}
use Rattle.ec_target.specs.Code.{pc_of}
use Rattle.ec_generate.proofs.operation.stops_of.Goals as goal
use Rattle.ec_generate.proofs.operation.stops_of.Goals.{then-is_stop+in_ok-push, else-is_stop}

pub word_at-word-requires-clause-within : goal.word_at-word-requires-clause-within
word_at-word-requires-clause-within g c =
    let code = c.args.site.now.code.now in
    let there = get_within code c.loop-q.q c.at.result.now c.at.ensures in
    omega (arith, ops_long code, there)

pub loop-q-preserved : goal.loop-q-preserved
loop-q-preserved g c =
    let V = pick g.K.Kind.vocabularies c.args.span in
    let address : ℕ → ℕ = λ q. pc_of (place_there V c.args.site.now c.args.start q) in
    let code = c.args.site.now.code.now in
    let all : List ℕ = map address (stop_places code) in
    elim c.if-is_stop.branch [
      | then-is_stop+in_ok-push w ↦
          stops_one address code c.loop-q.q c.at.result.now c.at.ensures c.loop-q.stops c.if-is_stop.stops all c.loop-q.invariant
          (pc_of w.word_at-word.result) (c.is_stop.ensures.some w.if-is_stop.true) (w.stops-is ∙ w.in_ok-push.ensures.ok)
          (ap pc_of w.word_at-word.ensures.is)
      | else-is_stop w ↦
          stops_none address code c.loop-q.q c.at.result.now c.at.ensures c.loop-q.stops c.if-is_stop.stops all c.loop-q.invariant
          (c.is_stop.ensures.none w.if-is_stop.false) w.stops-is
    ]
