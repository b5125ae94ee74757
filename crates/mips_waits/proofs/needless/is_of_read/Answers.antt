use Rattle.std.proofs.Common.{◌≡◌, ℕ, suc, ⊎_elim}
use Rattle.mips_delay.proofs.Standing.{clash}
use Rattle.mips_waits.proofs.Deciding.{first_behind}
use Rattle.mips_waits.specs.Waits.{BehindRead}
use Rattle.mips_waits.proofs.needless.is_of_read.Goals as goal

pub returns-then-j-gt0-clause-no : goal.returns-then-j-gt0-clause-no
returns-then-j-gt0-clause-no c = λ n.
    let code = c.args.words.now in
    let j = c.args.j in
    ⊎_elim
    (λ (h : BehindRead code j). absurd (clash c.is_behind_read.result (c.is_behind_read.ensures.no h) c.if-is_behind_read.false))
    (λ (z : (m : ℕ) × (j ≡ suc m) × BehindRead code m). c.is_behind_read-then-j-gt0.ensures.no (first_behind code j z.0 z.1 z.2).1)
    n
