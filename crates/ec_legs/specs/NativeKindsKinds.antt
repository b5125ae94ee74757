-- What code means by a machine of either kind is what the machine does, and its homes are none of its base registers.
use Rattle.std.proofs.Common.{refl, arith}
use Rattle.ec_legs.specs.Kinds.{AreHomeRegisters, Means}
use Rattle.ec_world.specs.declared.node.Kind.TheVariants.{Mips, Riscv}
use Rattle.mips_machine.specs.Machine.{mips_goes, mips_place, mips_register, mips_rests, mips_stops}
use Rattle.mips_code.specs.Meaning.{mips_meaning}
use Rattle.rv_machine.specs.Machine.{rv_goes, rv_register, rv_stops}
use Rattle.rv_machine.specs.declared.machine.RvMachine.{RvMachine}
use Rattle.rv_code.specs.Meaning.{rv_meaning}

pub rv_means : Means rv_meaning Riscv rv_goes rv_stops rv_register (λ (m : RvMachine). m.pc) (λ (m : RvMachine). Unit {0})
rv_means = record {
  kind_is = refl;
  each_step = λ code m b n c h. h;
  each_stop = λ code m b h. h;
  register_is = λ m r. refl;
  place_is = λ m. refl;
  rests_so = λ m h. h;
  number_is = refl;
}

pub rv_registers : AreHomeRegisters rv_meaning 32 8 9 18 10
rv_registers = record {
  frame_is = refl;
  own_is = refl;
  first_is = refl;
  homes_are = refl;
  there = omega arith;
  small = omega arith;
  few = omega arith;
  not_zero = omega arith;
  not_frame = λ k l. omega arith;
  not_own = λ k l. omega arith;
}

pub mips_means : Means mips_meaning Mips mips_goes mips_stops mips_register mips_place mips_rests
mips_means = record {
  kind_is = refl;
  each_step = λ code m b n c h. h;
  each_stop = λ code m b h. h;
  register_is = λ m r. refl;
  place_is = λ m. refl;
  rests_so = λ m h. h;
  number_is = refl;
}

pub mips_registers : AreHomeRegisters mips_meaning 32 30 23 16 6
mips_registers = record {
  frame_is = refl;
  own_is = refl;
  first_is = refl;
  homes_are = refl;
  there = omega arith;
  small = omega arith;
  few = omega arith;
  not_zero = omega arith;
  not_frame = λ k l. omega arith;
  not_own = λ k l. omega arith;
}
