-- The activation on top goes on where its action is done, and otherwise the process rests.
use Rattle.std.proofs.Common.{refl}
use Rattle.ec_network.proofs.Standing.{goes_in, went_on}
use Rattle.ec_network.proofs.NodesRunningTold.{is_none}
use Rattle.ec_network.proofs.Tops.{waits_none, waits_pending, with_pending, without_top}
use Rattle.ec_network.proofs.nodes_running.running.run_on.Goals as goal

pub returns-in_err-headings-clause-none : goal.returns-in_err-headings-clause-none
returns-in_err-headings-clause-none c = is_none _ c.from_residual.result (λ d w s. record {
  waits = waits_none w c.args.p (c.in_err-headings.ensures.none d w s.goes.runs);
  same = refl;
  nothing = without_top c.args.system.now w c.args.p (c.in_err-headings.ensures.none d w s.goes.runs);
})

pub returns-then-headings-clause-none : goal.returns-then-headings-clause-none
returns-then-headings-clause-none c = λ d w s. record {
  waits = waits_pending w c.args.p c.in_ok-headings.headings (c.in_ok-headings.ensures.some d w s.goes.runs) c.if-headings.true;
  same = refl;
  nothing =
      with_pending c.args.system.now w c.args.p c.in_ok-headings.headings (c.in_ok-headings.ensures.some d w s.goes.runs)
      c.if-headings.true;
}

pub go_on-requires : goal.go_on-requires
go_on-requires c =
    let d = c.requires.0 in
    let w = c.requires.1.0 in
    let s = c.requires.1.1 in
    let t = c.in_ok-headings.ensures.some d w s.goes.runs in
    record {
      declared = d;
      world = w;
      below = t.below;
      top = t.top;
      goes = goes_in d c.args.system.now w c.args.p s c.in_ok-headings.headings t c.if-headings.false;
    }

pub returns-clause-some : goal.returns-clause-some
returns-clause-some c = λ d w s.
    let system = c.args.system.now in
    let h = c.in_ok-headings.headings in
    let t = c.in_ok-headings.ensures.some d w s.goes.runs in
    let goes = goes_in d system w c.args.p s h t c.if-headings.false in
    went_on d system w c.args.p s h t c.if-headings.false c.go_on.new.system c.go_on.result c.go_on.ensures.parts c.go_on.ensures.images
    (c.go_on.ensures.mirrors d w t.below t.top goes) (c.go_on.ensures.counts d w t.below t.top goes)
    (c.go_on.ensures.native d w t.below t.top goes) (c.go_on.ensures.few d w t.below t.top goes) c.go_on.ensures.whereabouts
    c.go_on.ensures.output
