-- The activation below is where its headings say.
use Rattle.std.proofs.Common.{◌≡◌, ◌≤◌, ◌-◌, Option, subst}
use Rattle.std.specs.Prelude.{IfNone, IfSome, option_copied}
use Rattle.ec_cluster.proofs.Answered.{if_ok}
use Rattle.ec_cluster.specs.Finding.{NoFrame, TellsOf}
use Rattle.ec_fullness.proofs.Verdicts.{lower_rests, lower_shown, lower_told}
use Rattle.ec_fullness.proofs.taking.lack_below.Goals as goal
use Rattle.ec_node_frames.specs.declared.frames.Headings.{Headings}

pub lack_to_take-requires : goal.lack_to_take-requires
lack_to_take-requires c =
    let q = c.requires in
    let s = c.args.system.now in
    let under : (1 ≤ c.args.who.depth) × (c.in-Some.depth ≡ c.args.who.depth - 1) = c.in-Some.ensures in
    let tells = subst (λ (x : Option Headings). IfSome x (λ h. TellsOf s.cluster c.args.who.process c.in-Some.depth h))
    c.in-Some-headings_at.is c.headings_at.ensures.some in
    lower_rests q.declared s q.world q.below q.top c.args.who q.doing q.runs q.asks c.in-Some.depth under.0 under.1
    c.in-Some-headings_at.headings tells

pub unreachable-requires : goal.unreachable-requires
unreachable-requires c =
    let q = c.requires in
    let s = c.args.system.now in
    let under : (1 ≤ c.args.who.depth) × (c.in-Some.depth ≡ c.args.who.depth - 1) = c.in-Some.ensures in
    let none = subst (λ (x : Option Headings). IfNone x (NoFrame s.cluster c.args.who.process c.in-Some.depth)) c.in-None.is
    c.headings_at.ensures.none in
    lower_shown q.declared s q.world q.below q.top c.args.who q.doing q.runs q.asks c.in-Some.depth under.0 under.1 none

pub returns : goal.returns
returns c =
    let s = c.args.system.now in
    let under : (1 ≤ c.args.who.depth) × (c.in-Some.depth ≡ c.args.who.depth - 1) = c.in-Some.ensures in
    let tells = subst (λ (x : Option Headings). IfSome x (λ h. TellsOf s.cluster c.args.who.process c.in-Some.depth h))
    c.in-Some-headings_at.is c.headings_at.ensures.some in
    if_ok c.lack_to_take.result
    (λ r told d w below top doing runs asks.
    lower_told d s w below top c.args.who doing runs asks c.in-Some.depth under.0 under.1 c.in-Some-headings_at.headings tells
    (option_copied c.args.given) r told)
    c.lack_to_take.ensures
