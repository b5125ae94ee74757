-- The object goes, and no other.
use Rattle.std.proofs.Common.{◌≡◌, ◌≢◌, ◌-◌, ◌<◌, ◌^◌, ◌∙◌, ℕ, Option, subst, suc, sym}
use Rattle.std.specs.Prelude.{OnOk, option_map, unwrap_or}
use Rattle.ec_cluster.proofs.Numbering.{gives_moved, known_is, known_now, moves_now, numbered_moved, place_now, same_stays}
use Rattle.ec_cluster.proofs.forward.whereabouts.Whereabouts.note_move.Goals as goal
use Rattle.ec_cluster.specs.Whereabouts.{Gives, Traces, known_of, numbered}
use Rattle.ec_forwarding.specs.Addresses.{with_address}
use Rattle.ec_forwarding.specs.Forwardings.{addresses_in, trace_at}
use Rattle.ec_forwarding.specs.Traces.{Trace, newest_of}
use Rattle.ec_forwarding.specs.declared.address.Address.{Address}

-- what a move writes, by what was known of the object before and after
abbrev IsAddressed : Option Trace → Option Trace → ℕ → ℕ → Type 0
IsAddressed before after from to =
    let newest : Address = record { node = to; moves = suc (unwrap_or (option_map (λ t. (newest_of t).moves) before) 0) } in
    from ≢ to → (k : ℕ) → addresses_in after k ≡ with_address (with_address (addresses_in before) to newest) from newest k

pub note_move-requires-clause-there : goal.note_move-requires-clause-there
note_move-requires-clause-there c =
    let s = c.self.inside in
    sym (place_now s.forwarding s.made c.self.invariant c.args.self.now c.self.view_is c.args.oid) ∙ c.requires.there

pub note_move-requires-clause-few : goal.note_move-requires-clause-few
note_move-requires-clause-few c =
    let s = c.self.inside in
    subst (λ (m : ℕ). m < 2 ^ 64 - 1) (moves_now s.forwarding s.made c.self.invariant c.args.self.now c.self.view_is c.args.oid)
    c.requires.few

pub invariant_of-self : goal.invariant_of-self
invariant_of-self c =
    let s = c.self.inside in
    numbered_moved s.forwarding c.note_move.new.self s.made c.self.invariant c.args.oid c.args.from c.args.to
    (sym (place_now s.forwarding s.made c.self.invariant c.args.self.now c.self.view_is c.args.oid) ∙ c.requires.there)
    c.note_move.ensures.others c.note_move.result c.note_move.ensures.place c.note_move.ensures.moves c.note_move.ensures.err

pub returns-clause-ok : goal.returns-clause-ok
returns-clause-ok c = λ w gives.
    let s = c.self.inside in
    gives_moved s.forwarding c.note_move.new.self s.made c.self.invariant c.args.oid c.args.from c.args.to
    (sym (place_now s.forwarding s.made c.self.invariant c.args.self.now c.self.view_is c.args.oid) ∙ c.requires.there)
    c.note_move.ensures.others c.note_move.result c.note_move.ensures.place c.note_move.ensures.moves w
    (subst (λ (x : Traces). Gives x w) (sym c.self.view_is) gives)

pub returns-clause-stays : goal.returns-clause-stays
returns-clause-stays c =
    let s = c.self.inside in
    same_stays (c.args.from ≡ c.args.to) s.forwarding c.note_move.new.self s.made c.args.self.now c.self.view_is c.note_move.result c.note_move.ensures.stays

pub returns-clause-addresses : goal.returns-clause-addresses
returns-clause-addresses c =
    let s = c.self.inside in
    let d' = c.note_move.new.self in
    let oid = c.args.oid in
    let are = numbered_moved s.forwarding d' s.made c.self.invariant oid c.args.from c.args.to
    (sym (place_now s.forwarding s.made c.self.invariant c.args.self.now c.self.view_is oid) ∙ c.requires.there)
    c.note_move.ensures.others c.note_move.result c.note_move.ensures.place c.note_move.ensures.moves c.note_move.ensures.err in
    subst (λ (x : Option Trace). OnOk c.note_move.result (IsAddressed x (known_of (numbered d' s.made) oid) c.args.from c.args.to))
    (sym (known_now s.forwarding s.made c.self.invariant c.args.self.now c.self.view_is oid))
    (subst (λ (y : Option Trace). OnOk c.note_move.result (IsAddressed (trace_at s.forwarding oid) y c.args.from c.args.to))
    (sym (known_is d' s.made are oid)) c.note_move.ensures.addresses)

pub returns-clause-others : goal.returns-clause-others
returns-clause-others c = λ o ne.
    let s = c.self.inside in
    let d' = c.note_move.new.self in
    let are = numbered_moved s.forwarding d' s.made c.self.invariant c.args.oid c.args.from c.args.to
    (sym (place_now s.forwarding s.made c.self.invariant c.args.self.now c.self.view_is c.args.oid) ∙ c.requires.there)
    c.note_move.ensures.others c.note_move.result c.note_move.ensures.place c.note_move.ensures.moves c.note_move.ensures.err in
    known_is d' s.made are o ∙ c.note_move.ensures.others o ne
    ∙ sym (known_now s.forwarding s.made c.self.invariant c.args.self.now c.self.view_is o)
