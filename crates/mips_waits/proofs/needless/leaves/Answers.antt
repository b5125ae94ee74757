use Rattle.std.proofs.Common.{◌≡◌, true, refl}
use Rattle.mips_delay.proofs.Decoded.{has_word}
use Rattle.mips_delay.proofs.Standing.{clash}
use Rattle.mips_isa.specs.declared.instr.Instr.TheVariants.{Syscall}
use Rattle.mips_machine.specs.Hazards.{is_stop}
use Rattle.mips_waits.proofs.needless.leaves.Goals as goal

pub returns-in-Some-Syscall-clause-no : goal.returns-in-Some-Syscall-clause-no
returns-in-Some-Syscall-clause-no c = λ h.
    let x = c.in-Some-Syscall.field-0 in
    let is = c.in-Some-Syscall.field-0-is in
    let syscall : is_stop Syscall ≡ true = refl in
    let stops : is_stop x ≡ true = cc in
    absurd (clash (is_stop x) stops (h x (has_word c.args.word x c.in-Some-Syscall.ensures)).1)
