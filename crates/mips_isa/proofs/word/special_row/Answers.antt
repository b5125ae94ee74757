use Rattle.std.proofs.Common.{◌≢◌}
use Rattle.mips_isa.specs.declared.instr.Instr.{Instr}
use Rattle.mips_isa.specs.declared.instr.Instr.TheVariants.{Syscall}
use Rattle.mips_isa.specs.Words.{word_of}
use Rattle.mips_isa.proofs.Rows.{if_none, at_none, no_special}
use Rattle.mips_isa.proofs.word.special_row.Goals as goal

pub returns-clause-none : goal.returns-clause-none
returns-clause-none c =
    let w = c.args.word in
    if_none ((i : Instr) → word_of i ≢ w) c.syscall_row.result (λ none.
    no_special w c.requires c.in_default.ensures.none c.in_default-shift_row.ensures.none
    c.in_default-variable_shift_row.ensures.none c.in_default-hilo_row.ensures.none c.in_default-from_row.ensures.none
    c.in_default-to_row.ensures.none c.in_default-jr_row.ensures.none c.in_default-jalr_row.ensures.none
    (at_none (word_of Syscall ≢ w) c.syscall_row.result none c.syscall_row.ensures.none))
