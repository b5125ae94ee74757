-- The words of both kinds do what their steps do.
use Rattle.mips_code.proofs.Speaking as mips
use Rattle.rv_code.proofs.Speaking as riscv
use Rattle.ec_native_trials.proofs.compile.compile.Goals as goal

pub generate_with-requires-clause-near : goal.generate_with-requires-clause-near
generate_with-requires-clause-near c = riscv.near_speaks

pub generate_with-requires-clause-middle : goal.generate_with-requires-clause-middle
generate_with-requires-clause-middle c = riscv.middle_speaks

pub generate_with-requires-clause-far : goal.generate_with-requires-clause-far
generate_with-requires-clause-far c = riscv.far_speaks

pub generate_with-requires-in-Mips-Some-clause-near : goal.generate_with-requires-in-Mips-Some-clause-near
generate_with-requires-in-Mips-Some-clause-near c = mips.near_speaks

pub generate_with-requires-in-Mips-Some-clause-middle : goal.generate_with-requires-in-Mips-Some-clause-middle
generate_with-requires-in-Mips-Some-clause-middle c = mips.far_speaks

pub generate_with-requires-in-Mips-Some-clause-far : goal.generate_with-requires-in-Mips-Some-clause-far
generate_with-requires-in-Mips-Some-clause-far c = mips.far_speaks
