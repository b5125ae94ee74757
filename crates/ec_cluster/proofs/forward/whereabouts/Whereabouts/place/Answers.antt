-- What is kept of an object gives its place.
use Rattle.std.proofs.Common.{◌∙◌, sym}
use Rattle.ec_cluster.proofs.Numbering.{is_made, made_is, place_now}
use Rattle.ec_cluster.proofs.forward.whereabouts.Whereabouts.place.Goals as goal

pub returns-clause-at : goal.returns-clause-at
returns-clause-at c =
    let s = c.self.inside in
    c.place.ensures.at ∙ sym (place_now s.forwarding s.made c.self.invariant c.args.self.now c.self.view_is c.args.oid)

pub returns-clause-made : goal.returns-clause-made
returns-clause-made c =
    let s = c.self.inside in (
      is_made s.forwarding s.made c.self.invariant c.args.self.now c.self.view_is c.args.oid c.place.result c.place.ensures.at,
      made_is s.forwarding s.made c.self.invariant c.args.self.now c.self.view_is c.args.oid c.place.result c.place.ensures.at,
    )
