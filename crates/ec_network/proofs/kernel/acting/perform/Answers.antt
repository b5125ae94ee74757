-- What is asked for between turns is asked for in each such world.
use Rattle.std.proofs.Common.{ℕ, List, ap, subst, sym, ◌∙◌}
use Rattle.ec_cluster.proofs.Answered.{if_ok}
use Rattle.ec_network.proofs.Asking.{asks_of_each}
use Rattle.ec_network.proofs.KernelTold.{if_err}
use Rattle.ec_network.proofs.kernel.acting.perform.Goals as goal
use Rattle.ec_network.specs.Acts.{AsksBetween}
use Rattle.ec_world.specs.declared.doing.Doing.TheVariants.{Moves}

pub returns-in-Moves-clause-refused : goal.returns-in-Moves-clause-refused
returns-in-Moves-clause-refused c = if_err c.perform_move.result
    (λ e told d w b. told d w
    (subst (AsksBetween d c.args.system.now w c.args.numbers.now c.args.asked.who)
    (c.in-Moves.is ∙ ap (λ (members : List ℕ). Moves members c.in-Moves.target c.in-Moves.fixes) (sym c.as_slice-members.ensures)) b))
    c.perform_move.ensures.refused

pub returns-in_default : goal.returns-in_default
returns-in_default c = record {
  acted = if_ok c.perform_here.result
      (λ a told d w b. told d w (asks_of_each d c.args.system.now w c.args.numbers.now c.args.asked.who c.args.asked.doing b))
      c.perform_here.ensures.acted;
  refused = if_err c.perform_here.result
      (λ e told d w b. told d w (asks_of_each d c.args.system.now w c.args.numbers.now c.args.asked.who c.args.asked.doing b))
      c.perform_here.ensures.refused;
  moves = c.perform_here.ensures.moves;
}
