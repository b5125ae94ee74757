use Rattle.std.proofs.Common.{◌≡◌, ◌≤◌, ℕ, ◌+◌, Some, [], ◌∷◌, ◌++◌, length, sym, ap, ◌∙◌, refl, arith, rules}
use Rattle.std.proofs.lemmas.Iterator.Adapters.{YieldsList-from_vec}
use Rattle.std.proofs.lemmas.Iterator.Consumers.{YieldsList-turn, YieldsList-end}
use Rattle.std.proofs.lemmas.List.{length_push}
use Rattle.std.proofs.lemmas.Option.{slice_get_read}
use Rattle.std.specs.Prelude.{slice_get}
use Rattle.ec_lowering.proofs.NextLine.{next_line, all_lines}
use Rattle.ec_lowering.specs.Sites.{around_by}
use Rattle.ec_lowering.proofs.lines.lines.with_lists.Goals as goal

pub at-requires : goal.at-requires
at-requires c =
    let t =
    YieldsList-turn (YieldsList-from_vec {s = c.into_iter-op-iterator.result} c.args.ops (search rules) (search rules))
    c.loop-op.yielded c.loop-op.op-iterator c.loop-op.yielded_by c.next.result c.next.new.self c.in-Some.op c.in-Some.is
    c.next.ensures.steps in
    omega (arith, t.0, c.loop-op.invariant.1, c.len.ensures, c.requires)

pub loop-op-preserved : goal.loop-op-preserved
loop-op-preserved c =
    let op = c.in-Some.op in
    let n : ℕ = length c.loop-op.yielded in
    let t =
    YieldsList-turn (YieldsList-from_vec {s = c.into_iter-op-iterator.result} c.args.ops (search rules) (search rules))
    c.loop-op.yielded c.loop-op.op-iterator c.loop-op.yielded_by c.next.result c.next.new.self op c.in-Some.is
    c.next.ensures.steps in
    let is : slice_get c.args.ops n ≡ Some op = slice_get_read c.args.ops (length c.args.ops) n op refl t.0 t.1 in
    let there : slice_get c.args.lists.now n ≡ Some c.at.result.now =
    ap (λ i. slice_get c.args.lists.now i) (sym (c.len.ensures ∙ c.loop-op.invariant.1)) ∙ c.at.ensures in
    let more : length (c.loop-op.yielded ++ op ∷ []) ≡ n + 1 = length_push c.loop-op.yielded op in
    rw more (
      next_line (around_by c.args.site.now) c.args.ops c.args.lists.now c.loop-op.lines c.push.new.self
          c.loop-op.temporaries c.put_written.new.temporaries n op c.at.result.now c.in_ok-live.live is there
          c.in_ok-live.ensures c.in_ok-put_written.ensures c.in_ok-push.ensures.ok c.loop-op.invariant.0,
      ap (λ ls. length ls) c.in_ok-push.ensures.ok ∙ length_push c.loop-op.lines _ ∙ ap (λ i. i + 1) c.loop-op.invariant.1,
    )

pub returns : goal.returns
returns c =
    let e =
    YieldsList-end (YieldsList-from_vec {s = c.into_iter-op-iterator.result} c.args.ops (search rules) (search rules))
    c.loop-op.yielded c.loop-op.op-iterator c.loop-op.yielded_by c.next.result c.next.new.self c.in-None.is
    c.next.ensures.steps in
    let all : length c.args.ops ≤ length c.loop-op.yielded = omega (arith, e.1) in
    all_lines (around_by c.args.site.now) c.args.ops c.args.lists.now c.loop-op.lines c.loop-op.temporaries
    (length c.loop-op.yielded) all c.loop-op.invariant.0
