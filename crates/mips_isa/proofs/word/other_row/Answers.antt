use Rattle.std.proofs.Common.{◌≢◌}
use Rattle.mips_isa.specs.declared.field.Target.{Target}
use Rattle.mips_isa.specs.declared.instr.Instr.{Instr}
use Rattle.mips_isa.specs.declared.instr.Instr.TheVariants.{Jal}
use Rattle.mips_isa.specs.Words.{word_of}
use Rattle.mips_isa.proofs.Rows.{if_none, at_none, no_other}
use Rattle.mips_isa.proofs.word.other_row.Goals as goal

pub returns-clause-none : goal.returns-clause-none
returns-clause-none c =
    let w = c.args.word in
    if_none ((i : Instr) → word_of i ≢ w) c.jal_row.result (λ none.
    no_other w c.requires c.in_default.ensures.none c.in_default-load_row.ensures.none c.in_default-store_row.ensures.none
    c.in_default-branch_row.ensures.none c.in_default-zero_branch_row.ensures.none c.in_default-lui_row.ensures.none
    c.in_default-j_row.ensures.none
    (at_none ((target : Target) → word_of (Jal target) ≢ w) c.jal_row.result none c.jal_row.ensures.none))
