use Rattle.std.proofs.Common.{length, ap, sym, inl, subst, arith}
use Rattle.ec_machine_code.specs.Stops.{words_before}
use Rattle.ec_machine_code.specs.declared.code.OperationCode.{OperationCode}
use Rattle.mips_delay.proofs.Begins.{BeginsAt, before_more, before_none, begins_more, begins_next, begins_none, long_more, same_span}
use Rattle.mips_delay.proofs.Begins.{stops_more}
use Rattle.mips_delay.specs.Choice.{set_at}
use Rattle.mips_delay.proofs.operations.put_operations.Goals as goal

pub loop-i-init : goal.loop-i-init
loop-i-init c = (
  ap length c.new-new.ensures,
  begins_none (set_at c.args.moves.now.fills.items) c.args.operations.now c.new-new.result c.new-new.ensures,
  λ op low. absurd (omega (arith, low)),
  omega arith,
  inl (sym (before_none c.args.operations.now 0 (omega arith))),
)

pub loop-i-preserved : goal.loop-i-preserved
loop-i-preserved c =
    let fills = set_at c.args.moves.now.fills.items in
    let end = length c.args.moves.now.fills.items in
    let old = c.args.operations.now in
    let i = c.loop-i.i in
    let x = c.at-operation.result.now in
    let at = c.at-operation.ensures in
    let o : OperationCode = record { words = c.span-words.result; stops = c.in_ok-stops.stops } in
    let long = c.loop-i.invariant.0 in
    let is = c.in_ok-push.ensures.ok in
    let begins = c.loop-i.invariant.4 in
    let spans =
    same_span fills end c.loop-i.begin (words_before old i) x.words c.span-words.result c.args.moves.now.within begins
    c.span-words.ensures in (
      long_more fills old c.loop-i.new i x o at long c.push.new.self is,
      begins_more fills old c.loop-i.new i x o at long c.push.new.self is c.loop-i.invariant.1 spans,
      stops_more fills old c.loop-i.new i x o at long c.push.new.self is c.loop-i.invariant.2 c.in_ok-stops.ensures,
      c.behind-begin.ensures.within,
      subst (BeginsAt end c.behind-begin.result) (sym (before_more old x i at))
          (begins_next end c.loop-i.begin (words_before old i) x.words c.behind-begin.result begins c.loop-i.invariant.3
          c.behind-begin.ensures.exact c.behind-begin.ensures.last),
    )
