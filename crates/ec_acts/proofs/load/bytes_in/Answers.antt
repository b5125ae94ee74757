-- The bytes of the texts so far, and those of the texts that are left, are all.
use Rattle.std.proofs.Common.{◌^◌, ◌≤◌, Option, Some, None, arith}
use Rattle.std.specs.Prelude.{IfNone}
use Rattle.ec_world.specs.Words.{text_bytes}
use Rattle.ec_acts.proofs.Rooms.{next_bytes}
use Rattle.ec_acts.proofs.load.bytes_in.Goals as goal

if_none_by : {A : Type 0} (r : Option A) (P : Type 0) → P → IfNone r P
if_none_by None P p = p
if_none_by (Some x) P p = tt

pub loop-i-preserved : goal.loop-i-preserved
loop-i-preserved c =
    let n = next_bytes c.args.texts.now c.loop-i.i c.at.result.now c.at.ensures in
    let all = c.loop-i.invariant in
    let long = c.len.ensures in
    omega (arith, c.in_ok-bytes.ensures)

pub returns-in_err-bytes-clause-none : goal.returns-in_err-bytes-clause-none
returns-in_err-bytes-clause-none c =
    let n = next_bytes c.args.texts.now c.loop-i.i c.at.result.now c.at.ensures in
    let all = c.loop-i.invariant in
    let long = c.len.ensures in
    let over : 2 ^ 64 ≤ text_bytes c.args.texts.now = omega (arith, c.in_err-bytes.ensures) in
    if_none_by c.from_residual.result (2 ^ 64 ≤ text_bytes c.args.texts.now) over
