-- The search is that of what is kept of the object.
use Rattle.std.proofs.Common.{◌≡◌, ◌∙◌, ◌≤◌, ℕ, Option, Some, subst, sym}
use Rattle.std.specs.Prelude.{IfOk, IsSome, option_map, unwrap_or}
use Rattle.ec_cluster.proofs.Numbering.{gives_still, known_is, known_now, moves_now, numbered_still, place_now}
use Rattle.ec_cluster.proofs.forward.whereabouts.Whereabouts.find.Goals as goal
use Rattle.ec_cluster.specs.Whereabouts.{Gives, Traces, known_of, numbered}
use Rattle.ec_forwarding.specs.Following.{AreNewer, IsFound}
use Rattle.ec_forwarding.specs.Forwardings.{addresses_in, trace_at}
use Rattle.ec_forwarding.specs.Traces.{Trace, newest_of, start_of}

-- what a search makes newer, by what was known of the object before and after
abbrev IsNewer : Option Trace → Option Trace → (from place hops : ℕ) → Type 0
IsNewer before after from place hops =
    AreNewer (addresses_in before) (addresses_in after) from (unwrap_or (option_map (λ t. start_of t from) before) from) hops
    (record { node = place; moves = unwrap_or (option_map (λ t. (newest_of t).moves) before) 0 })

pub find-requires : goal.find-requires
find-requires c =
    let s = c.self.inside in
    record {
      made = subst (λ (x : Option ℕ). IsSome x)
          (place_now s.forwarding s.made c.self.invariant c.args.self.now c.self.view_is c.args.oid) c.requires.made;
    }

pub returns-clause-found : goal.returns-clause-found
returns-clause-found c =
    let s = c.self.inside in
    subst (λ (x : Option ℕ). IfOk c.find.result (λ answer. x ≡ Some answer.0))
    (sym (place_now s.forwarding s.made c.self.invariant c.args.self.now c.self.view_is c.args.oid)) c.find.ensures.found

pub returns-clause-hops : goal.returns-clause-hops
returns-clause-hops c =
    let s = c.self.inside in
    subst (λ (x : Option Trace). IfOk c.find.result (λ answer.
    IsFound (addresses_in x) (unwrap_or (option_map (λ t. start_of t c.args.from) x) c.args.from) answer.0 answer.1))
    (sym (known_now s.forwarding s.made c.self.invariant c.args.self.now c.self.view_is c.args.oid)) c.find.ensures.hops

pub returns-clause-few_hops : goal.returns-clause-few_hops
returns-clause-few_hops c = λ w gives.
    let s = c.self.inside in
    subst (λ (m : ℕ). IfOk c.find.result (λ answer. answer.1 ≤ m))
    (sym (moves_now s.forwarding s.made c.self.invariant c.args.self.now c.self.view_is c.args.oid) ∙ gives.moves c.args.oid)
    c.find.ensures.few_hops

pub returns-clause-again : goal.returns-clause-again
returns-clause-again c =
    let s = c.self.inside in
    let are = numbered_still s.forwarding c.find.new.self s.made c.self.invariant c.find.ensures.places c.find.ensures.moves in
    subst (λ (x : Option Trace). IfOk c.find.result (λ answer.
    IsFound (addresses_in x) (unwrap_or (option_map (λ t. start_of t c.args.from) x) c.args.from) answer.0 0))
    (sym (known_is c.find.new.self s.made are c.args.oid)) c.find.ensures.again

pub returns-clause-newer : goal.returns-clause-newer
returns-clause-newer c =
    let s = c.self.inside in
    let d' = c.find.new.self in
    let are = numbered_still s.forwarding d' s.made c.self.invariant c.find.ensures.places c.find.ensures.moves in
    subst (λ (x : Option Trace). IfOk c.find.result (λ answer.
    IsNewer x (known_of (numbered d' s.made) c.args.oid) c.args.from answer.0 answer.1))
    (sym (known_now s.forwarding s.made c.self.invariant c.args.self.now c.self.view_is c.args.oid))
    (subst (λ (y : Option Trace). IfOk c.find.result (λ answer.
    IsNewer (trace_at s.forwarding c.args.oid) y c.args.from answer.0 answer.1))
    (sym (known_is d' s.made are c.args.oid)) c.find.ensures.newer)

pub returns-clause-others : goal.returns-clause-others
returns-clause-others c = λ o ne.
    let s = c.self.inside in
    let d' = c.find.new.self in
    let are = numbered_still s.forwarding d' s.made c.self.invariant c.find.ensures.places c.find.ensures.moves in
    known_is d' s.made are o ∙ c.find.ensures.others o ne
    ∙ sym (known_now s.forwarding s.made c.self.invariant c.args.self.now c.self.view_is o)

pub returns-clause-kept : goal.returns-clause-kept
returns-clause-kept c = λ w gives.
    let s = c.self.inside in
    gives_still s.forwarding c.find.new.self s.made c.self.invariant c.find.ensures.places c.find.ensures.moves w
    (subst (λ (x : Traces). Gives x w) (sym c.self.view_is) gives)
