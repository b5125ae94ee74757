use Rattle.std.proofs.Common.{◌≡◌, ℕ, ◌+◌, ◌<◌, Bool, List, length, true, subst, sym, arith}
use Rattle.mips_delay.proofs.Looking.{found_no, found_yes}
use Rattle.mips_delay.specs.Choice.{set_at}
use Rattle.mips_waits.proofs.Deciding.{is_low}
use Rattle.mips_waits.specs.Waits.{IsNeedless}
use Rattle.mips_waits.proofs.needless.needless.Goals as goal

pub loop-j-preserved : goal.loop-j-preserved
loop-j-preserved c =
    let inv = c.loop-j.invariant in
    let code = c.args.words.now in
    let j = c.loop-j.j in
    let found = c.is_needless.result in
    subst (λ (xs : List Bool). (length xs ≡ j + 1) × ((k : ℕ) → set_at xs k ≡ true → IsNeedless code k)
    × ((k : ℕ) → k < j + 1 → IsNeedless code k → set_at xs k ≡ true)) (sym {A = List Bool} c.in_ok-push.ensures.items) (
      grind (arith, inv.0),
      found_yes (IsNeedless code) j c.loop-j.skips.items found inv.0 inv.1 c.is_needless.ensures.yes,
      found_no (IsNeedless code) j c.loop-j.skips.items found inv.0 inv.2 c.is_needless.ensures.no,
    )

pub returns-clause-no : goal.returns-clause-no
returns-clause-no c = λ j n.
    let low = is_low c.args.words.now j n in
    c.loop-j.invariant.2 j (omega (arith, low)) n
