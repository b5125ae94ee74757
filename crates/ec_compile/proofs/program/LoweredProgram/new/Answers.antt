-- The source is the one that was lowered, and machine code can be made of what it is lowered to.
use Rattle.std.proofs.Common.{sym, subst}
use Rattle.ec_compile.proofs.Texts.{text_fits, text_is_accepted}
use Rattle.ec_compile.proofs.program.LoweredProgram.new.Goals as goal
use Rattle.ec_emission.specs.Lowered.{IsLowered}
use Rattle.ec_meaning.specs.Sources.{source_of}

pub new-requires : goal.new-requires
new-requires c = record { fits = text_fits (source_of c.args.program.now) c.requires.accepted c.in_ok-parts.parts c.in_ok-parts.ensures }

pub invariant_of-result : goal.invariant_of-result
invariant_of-result c = record {
  source = source_of c.args.program.now;
  program = c.requires.accepted.program;
  accepted = text_is_accepted (source_of c.args.program.now) c.requires.accepted;
  lowered = subst (IsLowered (source_of c.args.program.now)) (sym c.new.ensures.parts) c.in_ok-parts.ensures;
}
