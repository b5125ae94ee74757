use Rattle.std.proofs.Common.{subst, sym}
use Rattle.std.proofs.Common.{List}
use Rattle.std.specs.Prelude.{IsSome}
use Rattle.ec_forwarding.specs.Addresses.{address_in}
use Rattle.ec_forwarding.specs.Following.{Leads}
use Rattle.ec_forwarding.specs.Traces.{Trace, newest_in}
use Rattle.ec_forwarding.specs.declared.address.Known.{Known}
use Rattle.ec_forwarding.proofs.Histories.{leads, made_known}
use Rattle.ec_forwarding.proofs.trail.Trail.newest.Goals as goal

pub follow-requires-clause-start : goal.follow-requires-clause-start
follow-requires-clause-start c =
    let s = c.self.inside in
    let t : Trace = record { made = s.made; known = s.known.items } in
    subst (λ (ns : List Known). IsSome (address_in ns s.made)) (sym c.deref.ensures.value)
    (made_known c.self.invariant.0 t c.self.invariant.1)

pub follow-requires-clause-leads : goal.follow-requires-clause-leads
follow-requires-clause-leads c =
    let s = c.self.inside in
    let t : Trace = record { made = s.made; known = s.known.items } in
    subst (λ (ns : List Known). Leads (address_in ns) (newest_in ns)) (sym c.deref.ensures.value)
    (leads c.self.invariant.0 t c.self.invariant.1)
