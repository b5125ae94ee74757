-- Its moves are those that are kept of it.
use Rattle.std.proofs.Common.{◌≡◌, ◌-◌, ◌^◌, ◌∙◌, sym}
use Rattle.ec_cluster.proofs.Numbering.{less_by, moves_now}
use Rattle.ec_cluster.proofs.forward.whereabouts.Whereabouts.can_move.Goals as goal
use Rattle.ec_cluster.specs.Whereabouts.{moves_of}
use Rattle.ec_forwarding.specs.Forwardings.{moves_of as moves_on}

pub returns : goal.returns
returns c =
    let s = c.self.inside in
    let kept : c.unwrap_or.result ≡ moves_on s.forwarding c.args.oid = cc (c.unwrap_or.ensures, c.moves.ensures) in
    less_by c.unwrap_or.result (moves_of c.args.self.now c.args.oid) (2 ^ 64 - 1)
    (kept ∙ sym (moves_now s.forwarding s.made c.self.invariant c.args.self.now c.self.view_is c.args.oid))
