-- The next object is noted, and no other.
use Rattle.std.proofs.Common.{◌∙◌, ap, arith, subst, suc, sym}
use Rattle.ec_cluster.proofs.Numbering.{count_now, gives_made, one_more}
use Rattle.ec_cluster.proofs.forward.whereabouts.Whereabouts.note_made.Goals as goal
use Rattle.ec_cluster.specs.Whereabouts.{Gives, Traces}

pub note_made-requires : goal.note_made-requires
note_made-requires c =
    let s = c.self.inside in
    let many = count_now s.forwarding s.made c.self.invariant c.args.self.now c.self.view_is in
    let next = c.requires.next in
    record { new = c.self.invariant.past c.args.oid (omega (arith, next, many)) }

pub invariant_of-self-2 : goal.invariant_of-self-2
invariant_of-self-2 c =
    let s = c.self.inside in
    let many = count_now s.forwarding s.made c.self.invariant c.args.self.now c.self.view_is in
    one_more s.forwarding s.made c.self.invariant c.note_made.new.self c.args.oid c.args.at (c.requires.next ∙ ap suc many)
    c.in_ok-note_made.ensures.place c.in_ok-note_made.ensures.moves c.in_ok-note_made.ensures.others

pub returns-clause-ok : goal.returns-clause-ok
returns-clause-ok c = λ w gives.
    let s = c.self.inside in
    let many = count_now s.forwarding s.made c.self.invariant c.args.self.now c.self.view_is in
    gives_made s.forwarding c.note_made.new.self s.made c.self.invariant c.args.oid c.args.at (c.requires.next ∙ ap suc many)
    c.in_ok-note_made.ensures.place c.in_ok-note_made.ensures.moves c.in_ok-note_made.ensures.others w
    (subst (λ (x : Traces). Gives x w) (sym c.self.view_is) gives)
