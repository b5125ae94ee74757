-- The words of RISC-V do what their steps do.
use Rattle.ec_compile.proofs.RvCompileResting.{rv_can_rest}
use Rattle.ec_compile.proofs.rv_compile.compile_for_riscv.Goals as goal
use Rattle.rv_code.proofs.Speaking.{far_speaks, middle_speaks, near_speaks}

pub compile-requires-clause-near : goal.compile-requires-clause-near
compile-requires-clause-near c = near_speaks

pub compile-requires-clause-middle : goal.compile-requires-clause-middle
compile-requires-clause-middle c = middle_speaks

pub compile-requires-clause-far : goal.compile-requires-clause-far
compile-requires-clause-far c = far_speaks

pub compile-requires-clause-rests : goal.compile-requires-clause-rests
compile-requires-clause-rests c = rv_can_rest
