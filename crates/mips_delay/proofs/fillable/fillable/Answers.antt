use Rattle.std.proofs.Common.{◌≡◌, ℕ, ◌+◌, ◌<◌, Bool, List, length, true, subst, sym, arith}
use Rattle.mips_delay.proofs.Looking.{found_no, found_yes}
use Rattle.mips_delay.specs.Choice.{set_at}
use Rattle.mips_delay.specs.Fillable.{Fillable}
use Rattle.mips_delay.proofs.fillable.fillable.Goals as goal

pub loop-j-preserved : goal.loop-j-preserved
loop-j-preserved c =
    let inv = c.loop-j.invariant in
    let code = c.args.words.now in
    let j = c.loop-j.j in
    let found = c.is_fillable.result in
    subst (λ (xs : List Bool). (length xs ≡ j + 1) × ((k : ℕ) → set_at xs k ≡ true → Fillable code k)
    × ((k : ℕ) → k < j + 1 → Fillable code k → set_at xs k ≡ true)) (sym {A = List Bool} c.in_ok-push.ensures.items) (
      grind (arith, inv.0),
      found_yes (Fillable code) j c.loop-j.fills.items found inv.0 inv.1 c.is_fillable.ensures.yes,
      found_no (Fillable code) j c.loop-j.fills.items found inv.0 inv.2 c.is_fillable.ensures.no,
    )
