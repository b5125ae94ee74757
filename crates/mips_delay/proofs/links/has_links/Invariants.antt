use Rattle.std.proofs.Common.{◌≡◌, ℕ, ◌<◌, false}
use Rattle.std.specs.Prelude.{slice_index}
use Rattle.mips_delay.specs.Fillable.{is_by_value}
use Rattle.mips_isa.specs.Words.{word_of}
use Rattle.mips_isa.specs.declared.instr.Instr.{Instr}
use Rattle.mips_delay.proofs.links.has_links.Given as goal

-- no word before is such a jump
abbrev pub invariant-loop-i : goal.invariant-loop-i
invariant-loop-i l = (k : ℕ) (x : Instr) → k < l.i → word_of x ≡ slice_index l.words k → is_by_value x ≡ false
