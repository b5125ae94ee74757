use Rattle.std.proofs.Common.{◌≡◌, subst, sym}
use Rattle.ec_forwarding.specs.Traces.{IsTraceOf, Trace, newest_of}
use Rattle.ec_forwarding.proofs.Histories.{kept, leads, made_known, newest_kept, no_hops}
use Rattle.ec_forwarding.proofs.trail.Trail.find.Goals as goal

pub find-requires-clause-made : goal.find-requires-clause-made
find-requires-clause-made c =
    let s = c.self.inside in
    let t : Trace = record { made = s.made; known = s.known.items } in
    made_known c.self.invariant.0 t c.self.invariant.1

pub find-requires-clause-leads : goal.find-requires-clause-leads
find-requires-clause-leads c =
    let s = c.self.inside in
    let t : Trace = record { made = s.made; known = s.known.items } in
    leads c.self.invariant.0 t c.self.invariant.1

pub invariant_of-self : goal.invariant_of-self
invariant_of-self c =
    let s = c.self.inside in
    let t : Trace = record { made = s.made; known = s.known.items } in
    let h = c.self.invariant in
    (h.0, kept h.0 t c.find.new.known.items _ _ c.find.result c.find.ensures.newer c.find.ensures.err h.1)

pub returns-clause-newest : goal.returns-clause-newest
returns-clause-newest c =
    let s = c.self.inside in
    let t : Trace = record { made = s.made; known = s.known.items } in
    let u : Trace = record { made = s.made; known = c.find.new.known.items } in
    let h = c.self.invariant in
    subst (λ (x : Trace). newest_of u ≡ newest_of x) c.self.view_is
    (newest_kept h.0 t u h.1 (kept h.0 t c.find.new.known.items _ _ c.find.result c.find.ensures.newer c.find.ensures.err h.1))

pub returns-clause-here : goal.returns-clause-here
returns-clause-here c =
    let s = c.self.inside in
    let t : Trace = record { made = s.made; known = s.known.items } in
    no_hops c.self.invariant.0 t c.self.invariant.1 c.args.from c.find.result c.find.ensures.place c.find.ensures.found

pub returns-clause-right : goal.returns-clause-right
returns-clause-right c = λ h trace.
    let s = c.self.inside in
    let t : Trace = record { made = s.made; known = s.known.items } in
    kept h t c.find.new.known.items _ _ c.find.result c.find.ensures.newer c.find.ensures.err
    (subst (IsTraceOf h) (sym c.self.view_is) trace)
