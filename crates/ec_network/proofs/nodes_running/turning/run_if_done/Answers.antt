-- A process has gone on, or rests.
use Rattle.std.proofs.Common.{inl, inr, refl}
use Rattle.ec_network.proofs.nodes_running.turning.run_if_done.Goals as goal

pub returns-in-Some-clause-after : goal.returns-in-Some-clause-after
returns-in-Some-clause-after c = λ d w s. inl (c.in-Some.ensures.some d w s)

pub returns-in-None-clause-after : goal.returns-in-None-clause-after
returns-in-None-clause-after c = λ d w s. inr (c.in-None.ensures.none d w s, refl)
