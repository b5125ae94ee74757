-- The new process stands behind the others.
use Rattle.std.proofs.Common.{Option, sym, ◌∙◌, subst}
use Rattle.ec_cluster.proofs.Answered.{on_ok}
use Rattle.ec_cluster.specs.Steps.{Changes}
use Rattle.ec_acts.proofs.Following.{follows_changes, follows_mirrors, none_changes}
use Rattle.ec_acts.proofs.settling.follow.Goals as goal
use Rattle.ec_acts.specs.Taking.{with_section}
use Rattle.ec_cluster.specs.Systems.{Strings}
use Rattle.ec_world.specs.declared.doing.Section.{Section}

pub returns-in_default-clause-changes : goal.returns-in_default-clause-changes
returns-in_default-clause-changes c = λ d w images m.
    let cluster = c.args.system.now.cluster in
    subst (λ (x : Option Section). Changes (Strings cluster (with_section w x)) cluster cluster) (sym c.in_default.is)
    (none_changes c.args.system.now w m)

pub returns-clause-mirrors : goal.returns-clause-mirrors
returns-clause-mirrors c = on_ok c.push.result
    (λ pushed.
    follows_mirrors c.args.system.now c.begin.new.cluster c.in-Some.section c.in_ok-process.process c.as_slice.result.now
    (c.as_slice.ensures ∙ c.new-none.ensures) (c.in_ok-process.ensures ∙ c.len.ensures) c.args.started c.in-Some.is c.requires
    c.in_ok-begin.ensures.changes c.begin.ensures.whereabouts c.in_ok-begin.ensures.process c.push.new.self pushed)
    c.push.ensures.ok

pub returns-clause-changes : goal.returns-clause-changes
returns-clause-changes c = on_ok c.push.result
    (λ pushed.
    follows_changes c.args.system.now c.begin.new.cluster c.in-Some.section c.in_ok-process.process c.as_slice.result.now
    (c.as_slice.ensures ∙ c.new-none.ensures) (c.in_ok-process.ensures ∙ c.len.ensures) c.args.started c.in-Some.is c.requires
    c.in_ok-begin.ensures.changes c.begin.ensures.whereabouts c.in_ok-begin.ensures.process c.push.new.self pushed)
    c.push.ensures.ok
