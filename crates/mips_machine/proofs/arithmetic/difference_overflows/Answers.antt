use Rattle.std.proofs.Common.{◌≡◌, ◌∙◌, false, ap, sym, arith}
use Rattle.std.specs.Prelude.{◌-ℤ◌, FitsSigned}
use Rattle.std.specs.Int.{w64}
use Rattle.std.proofs.lemmas.Int.{to_z-of_z}
use Rattle.mips_machine.specs.Values.{is_beyond, minus, signed}
use Rattle.mips_machine.proofs.Sums.{on_false, difference_exact}
use Rattle.mips_machine.proofs.arithmetic.difference_overflows.Goals as goal

pub returns-clause-exact : goal.returns-clause-exact
returns-clause-exact c =
    let a = c.args.a in
    let b = c.args.b in
    let small : FitsSigned w64 c.difference.result = record { sfits = c.difference.type_inv } in
    on_false c.is_beyond.result (signed (minus a b) ≡ signed a -ℤ signed b) (λ e.
    let no : is_beyond (signed a -ℤ signed b) ≡ false =
    sym (ap is_beyond (to_z-of_z w64 c.difference.result small ∙ c.difference.ensures)) ∙ sym c.is_beyond.ensures ∙ e in
    difference_exact a b (omega arith) (omega arith) no)
