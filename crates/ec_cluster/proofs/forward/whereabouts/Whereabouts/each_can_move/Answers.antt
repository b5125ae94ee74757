-- Each object that was made can move.
use Rattle.std.proofs.Common.{arith, refl}
use Rattle.ec_cluster.proofs.Going.{each_few}
use Rattle.ec_cluster.proofs.Numbering.{count_now}
use Rattle.ec_cluster.proofs.forward.whereabouts.Whereabouts.each_can_move.Goals as goal

pub returns : goal.returns
returns c =
    let s = c.self.inside in
    let many = count_now s.forwarding s.made c.self.invariant c.args.self.now c.self.view_is in
    (λ h. each_few c.args.self.now (λ i l. c.loop-i.invariant i (omega (arith, l, many))), λ few. refl)
