use Rattle.std.proofs.Common.{ap, arith, subst, sym, ◌≡◌, ◌∙◌, ◌++◌, ◌∷◌, [], ℕ, List, suc}
use Rattle.std.specs.Prelude.{OnOk}
use Rattle.ec_forwarding.specs.Addresses.{address_in, with_address}
use Rattle.ec_forwarding.specs.Traces.{IsTraceOf, Trace, addresses_of, newest_of}
use Rattle.ec_forwarding.proofs.Going.{has_some, known_is, moves_of_own, newest_is, right_is, still}
use Rattle.ec_forwarding.proofs.trail.Trail.go.Goals as goal

pub address_of-last-requires : goal.address_of-last-requires
address_of-last-requires c =
    let s = c.self.inside in
    let t : Trace = record { made = s.made; known = s.known.items } in
    let there = ap (λ (x : Trace). (newest_of x).node) c.self.view_is ∙ c.requires.there in
    rw c.deref.ensures.value (has_some t c.args.from there c.self.invariant)

pub overflow_add-newest : goal.overflow_add-newest
overflow_add-newest c =
    let s = c.self.inside in
    let t : Trace = record { made = s.made; known = s.known.items } in
    let there = ap (λ (x : Trace). (newest_of x).node) c.self.view_is ∙ c.requires.there in
    let has = ap (λ ns. address_in ns c.args.from) (sym c.deref.ensures.value) ∙ c.address_of-last.ensures in
    let same = moves_of_own t c.args.from there c.address_of-last.result has c.self.invariant in
    let now = ap (λ (x : Trace). (newest_of x).moves) c.self.view_is in
    let few = c.requires.few in
    record { fits = omega (arith, same, now, few) }

pub note_both-requires : goal.note_both-requires
note_both-requires c =
    let s = c.self.inside in
    let t : Trace = record { made = s.made; known = s.known.items } in
    let there = ap (λ (x : Trace). (newest_of x).node) c.self.view_is ∙ c.requires.there in
    has_some t c.args.from there c.self.invariant

pub invariant_of-self : goal.invariant_of-self
invariant_of-self c =
    let s = c.self.inside in
    let t : Trace = record { made = s.made; known = s.known.items } in
    let there = ap (λ (x : Trace). (newest_of x).node) c.self.view_is ∙ c.requires.there in
    let has = ap (λ ns. address_in ns c.args.from) (sym c.deref.ensures.value) ∙ c.address_of-last.ensures in
    still t c.args.from there c.address_of-last.result has c.args.to c.requires.elsewhere c.note_both.new.known.items c.note_both.result
    c.note_both.ensures.ok c.note_both.ensures.err c.self.invariant

pub returns-clause-newest : goal.returns-clause-newest
returns-clause-newest c =
    let s = c.self.inside in
    let t : Trace = record { made = s.made; known = s.known.items } in
    let there = ap (λ (x : Trace). (newest_of x).node) c.self.view_is ∙ c.requires.there in
    let has = ap (λ ns. address_in ns c.args.from) (sym c.deref.ensures.value) ∙ c.address_of-last.ensures in
    let new : Trace = record { made = s.made; known = c.note_both.new.known.items } in
    subst (λ (x : Trace). OnOk c.note_both.result (newest_of new ≡ record { node = c.args.to; moves = suc (newest_of x).moves })) c.self.view_is
    (newest_is t c.args.from there c.address_of-last.result has c.args.to c.requires.elsewhere c.note_both.new.known.items
    c.note_both.result c.note_both.ensures.ok c.note_both.ensures.err c.self.invariant)

pub returns-clause-known : goal.returns-clause-known
returns-clause-known c =
    let s = c.self.inside in
    let t : Trace = record { made = s.made; known = s.known.items } in
    let there = ap (λ (x : Trace). (newest_of x).node) c.self.view_is ∙ c.requires.there in
    let has = ap (λ ns. address_in ns c.args.from) (sym c.deref.ensures.value) ∙ c.address_of-last.ensures in
    let new : Trace = record { made = s.made; known = c.note_both.new.known.items } in
    subst (λ (x : Trace). OnOk c.note_both.result ((k : ℕ) → addresses_of new k
    ≡ with_address (with_address (addresses_of x) c.args.to (newest_of new)) c.args.from (newest_of new) k)) c.self.view_is
    (known_is t c.args.from there c.address_of-last.result has c.args.to c.requires.elsewhere c.note_both.new.known.items
    c.note_both.result c.note_both.ensures.ok c.note_both.ensures.err c.self.invariant)

pub returns-clause-right : goal.returns-clause-right
returns-clause-right c =
    let s = c.self.inside in
    let t : Trace = record { made = s.made; known = s.known.items } in
    let there = ap (λ (x : Trace). (newest_of x).node) c.self.view_is ∙ c.requires.there in
    let has = ap (λ ns. address_in ns c.args.from) (sym c.deref.ensures.value) ∙ c.address_of-last.ensures in
    let new : Trace = record { made = s.made; known = c.note_both.new.known.items } in
    subst (λ (x : Trace). OnOk c.note_both.result ((h : List ℕ) → IsTraceOf h x → IsTraceOf (h ++ c.args.to ∷ []) new)) c.self.view_is
    (right_is t c.args.from there c.address_of-last.result has c.args.to c.requires.elsewhere c.note_both.new.known.items
    c.note_both.result c.note_both.ensures.ok c.note_both.ensures.err c.self.invariant)
