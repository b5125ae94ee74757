-- The source determines the program, so that both images are of one.
use Rattle.std.proofs.Common.{◌≡◌, sym, subst}
use Rattle.ec_code.specs.declared.code.Parts.{Parts}
use Rattle.ec_emission.proofs.Determined.{determined}
use Rattle.ec_emission.specs.Lowered.{IsLowered}
use Rattle.ec_meaning.specs.Sources.{source_of}
use Rattle.ec_runnable.proofs.Prepared.{IsCompiled, prepared}
use Rattle.ec_runnable.proofs.prepare.prepare.Goals as goal
use Rattle.mips_code.specs.Meaning.{mips_meaning}
use Rattle.rv_code.specs.Meaning.{rv_meaning}

pub returns-clause-lowered : goal.returns-clause-lowered
returns-clause-lowered c =
    subst (IsLowered (source_of c.args.program.now)) (sym c.into_parts.ensures.parts) c.in_ok-riscv.ensures.lowered

pub returns-clause-runnable : goal.returns-clause-runnable
returns-clause-runnable c =
    let s = source_of c.args.program.now in
    let riscv = c.in_ok-riscv in
    let mips = c.in_ok-mips in
    let p = c.into_parts.result in
    let is : riscv.riscv.program ≡ p = sym c.into_parts.ensures.parts in
    let lowered : IsLowered s p = subst (IsLowered s) is riscv.ensures.lowered in
    let one : mips.mips.program ≡ p = determined s mips.mips.program p mips.ensures.lowered lowered in
    let by_riscv : IsCompiled rv_meaning riscv.riscv.program riscv.riscv.image = record {
      faithful = riscv.ensures.faithful.faithful;
      tables = riscv.ensures.tables;
      bound = riscv.ensures.bound;
      few = riscv.ensures.few;
    } in
    let by_mips : IsCompiled mips_meaning mips.mips.program mips.mips.image = record {
      faithful = mips.ensures.faithful.faithful;
      tables = mips.ensures.tables;
      bound = mips.ensures.bound;
      few = mips.ensures.few;
    } in
    prepared s c.requires.accepted p lowered (record { riscv = riscv.riscv.image; mips = mips.mips.image })
    (subst (λ (q : Parts). IsCompiled rv_meaning q riscv.riscv.image) is by_riscv)
    (subst (λ (q : Parts). IsCompiled mips_meaning q mips.mips.image) one by_mips)
