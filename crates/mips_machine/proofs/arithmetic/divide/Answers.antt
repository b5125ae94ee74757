use Rattle.std.proofs.Common.{◌≡◌, subst, sym, arith}
use Rattle.mips_machine.specs.Laws.{IsDivision}
use Rattle.mips_machine.specs.Values.{quotient, remainder}
use Rattle.mips_machine.proofs.Divisions.{division_is}
use Rattle.mips_machine.proofs.arithmetic.divide.Goals as goal

pub returns-clause-division : goal.returns-clause-division
returns-clause-division c =
    let a = c.args.a in
    let b = c.args.b in
    let e : c.quotient.result ≡ quotient a b = cc in
    let f : c.remainder.result ≡ remainder a b = cc in
    subst (λ q. IsDivision a b q c.remainder.result) (sym e)
    (subst (λ r. IsDivision a b (quotient a b) r) (sym f) (division_is a b (omega arith) (omega arith) c.requires.some c.requires.fits))
