-- It is one more than there are.
use Rattle.std.proofs.Common.{◌≡◌, ◌-◌, ◌^◌, ◌≤◌, ℕ, suc, rules, subst, sym}
use Rattle.std.specs.Prelude.{IfNone, IfSome}
use Rattle.ec_cluster.proofs.Numbering.{count_now}
use Rattle.ec_cluster.proofs.forward.whereabouts.Whereabouts.next_number.Goals as goal

pub returns-clause-some : goal.returns-clause-some
returns-clause-some c =
    let s = c.self.inside in
    let next : IfSome c.checked_add.result (λ oid. oid ≡ suc s.made) = search rules in
    subst (λ (m : ℕ). IfSome c.checked_add.result (λ oid. oid ≡ suc m))
    (sym (count_now s.forwarding s.made c.self.invariant c.args.self.now c.self.view_is)) next

pub returns-clause-none : goal.returns-clause-none
returns-clause-none c =
    let s = c.self.inside in
    let all : IfNone c.checked_add.result (2 ^ 32 - 1 ≤ s.made) = search rules in
    subst (λ (m : ℕ). IfNone c.checked_add.result (2 ^ 32 - 1 ≤ m))
    (sym (count_now s.forwarding s.made c.self.invariant c.args.self.now c.self.view_is)) all
