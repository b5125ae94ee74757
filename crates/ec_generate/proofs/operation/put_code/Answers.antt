use Rattle.std.proofs.Common.{◌∙◌, ◌+◌, ◌++◌, ℕ, drop, length, sym, ap, arith}
use Rattle.ec_generate.specs.Puts.{pick}
use Rattle.ec_generate.specs.Sites.{home_there, ops_there}
use Rattle.ec_generate.proofs.Loops.{all_there, longer, rest_next, rest_words, size_here, size_so_far}
use Rattle.ec_generate.proofs.Orders.{in_order}
use Rattle.ec_generate.proofs.Room.{picked_sized}
use Rattle.ec_machine_code.proofs.Direct.{laid_there as op_there, ops_long}
use Rattle.ec_machine_code.specs.Direct.{laid_op}
use Rattle.ec_machine_code.specs.Layout.{first_of, op_size, op_words, place}
use Rattle.ec_generate.proofs.operation.put_code.Goals as goal

pub at-requires : goal.at-requires
at-requires g c = c.requires.ordered.within c.at-q.result.now (in_order c.args.site.now.order.now c.loop-spot.spot c.at-q.result.now c.at-q.ensures)

pub put_op-requires-clause-in_code : goal.put_op-requires-clause-in_code
put_op-requires-clause-in_code g c =
    c.requires.ordered.within c.at-q.result.now (in_order c.args.site.now.order.now c.loop-spot.spot c.at-q.result.now c.at-q.ensures)

pub put_op-requires-clause-there : goal.put_op-requires-clause-there
put_op-requires-clause-there g c = op_there c.args.site.now.code.now c.at-q.result.now c.at.result.now c.at.ensures

pub put_op-requires-clause-ends : goal.put_op-requires-clause-ends
put_op-requires-clause-ends g c =
    let V = pick g.K.Kind.vocabularies c.args.span in
    let home = home_there c.args.site.now in
    let ops = ops_there c.args.site.now in
    let order = c.args.site.now.order.now in
    let q = c.at-q.result.now in
    let o = laid_op c.args.site.now.code.now q c.at.result.now.op in
    let there = op_there c.args.site.now.code.now q c.at.result.now c.at.ensures in
    let here = size_here V home ops order c.args.start c.loop-spot.spot q o c.at-q.ensures there in
    let next = ap (λ n. op_size V home (first_of n (drop (c.loop-spot.spot + 1) order)) q o) (ops_long c.args.site.now.code.now) in
    let same = ap (λ n. op_size V home n q o) c.next_at-next.ensures in
    omega (arith, here, next, same, c.loop-spot.invariant.size)

pub loop-spot-init : goal.loop-spot-init
loop-spot-init g c = record {
  rest = ap
      (λ n. c.args.words.now ++ rest_words (pick g.K.Kind.vocabularies c.args.span) (home_there c.args.site.now)
      (ops_there c.args.site.now) c.args.site.now.order.now c.args.start n 0)
      c.requires.here;
  size = omega (arith, c.requires.here);
  begins = omega (arith, c.requires.here);
}

pub loop-spot-preserved : goal.loop-spot-preserved
loop-spot-preserved g c =
    let V = pick g.K.Kind.vocabularies c.args.span in
    let home = home_there c.args.site.now in
    let ops = ops_there c.args.site.now in
    let order = c.args.site.now.order.now in
    let q = c.at-q.result.now in
    let o = laid_op c.args.site.now.code.now q c.at.result.now.op in
    let there = op_there c.args.site.now.code.now q c.at.result.now c.at.ensures in
    let sized = picked_sized g.K.Kind.vocabularies g.met.K.Kind.sized c.args.span in
    let old = c.loop-spot.words in
    let new = c.put_op.new.words in
    let words = λ (n : ℕ). op_words V home (place V home ops order c.args.start) n q (length old) o in
    let is = c.in_ok-put_op.ensures
    ∙ ap (λ n. old ++ words n)
    (c.next_at-next.ensures ∙ ap (λ n. first_of n (drop (c.loop-spot.spot + 1) order)) (sym (ops_long c.args.site.now.code.now))) in
    record {
      rest = rest_next V home ops order c.args.start sized c.loop-spot.spot q o old new c.at-q.ensures there is _ c.loop-spot.invariant.rest;
      size = size_so_far V home ops order c.args.start sized c.loop-spot.spot q o old new c.at-q.ensures there is _
          c.loop-spot.invariant.size;
      begins = omega (
        arith,
        longer V home ops order c.args.start sized c.loop-spot.spot q o old new c.at-q.ensures there is,
        c.loop-spot.invariant.begins,
      );
    }

pub returns : goal.returns
returns g c =
    let V = pick g.K.Kind.vocabularies c.args.span in
    let site = c.args.site.now in
    all_there V (home_there site) (ops_there site) site.order.now c.args.start c.loop-spot.spot c.loop-spot.words _ (omega arith)
    c.loop-spot.invariant.rest
