use Rattle.ec_trial.specs.Draws.{drawn_from, node_count}
use Rattle.ec_trial.proofs.Steps.{state-sum}
use Rattle.ec_trial.proofs.drawing.draw_all.Goals as goal

pub returns : goal.returns
unfolding drawn_from
returns c =
    cc (
      state-sum 4 (node_count c.args.number) c.args.number,
      c.draw-workers.ensures.drawn,
      c.draw-workers.ensures.state,
      c.draw.ensures.drawn,
      c.draw.ensures.state,
      c.draw-start.ensures.drawn,
      c.draw-start.ensures.state,
      c.draw-nodes.ensures.drawn,
      c.draw-nodes.ensures.state,
      c.in_ok-kinds.ensures.kinds,
      c.in_ok-kinds.ensures.state,
      c.in_ok-entries.ensures,
    )
