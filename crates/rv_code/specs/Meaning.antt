-- What a RISC-V machine means to code: x8 has the address of the frame, x9 that of the own object, and x18 to x27 are homes. It
-- leaves nothing from one instruction to the next.
use Rattle.byteorder.specs.Endian.{little_bytes, little_number}
use Rattle.ec_machine_code.specs.Machine.{MachineMeaning}
use Rattle.ec_world.specs.declared.node.Kind.TheVariants.{Riscv}
use Rattle.rv_machine.specs.Machine.{rv_goes, rv_register, rv_stops}
use Rattle.rv_machine.specs.declared.machine.RvMachine.{RvMachine}

abbrev pub rv_meaning : MachineMeaning RvMachine
rv_meaning = record {
  kind = Riscv;
  goes = rv_goes;
  stops = rv_stops;
  register = rv_register;
  place = λ m. m.pc;
  rests = λ m. Unit {0};
  is_loaded = λ m. Unit {0};
  number = little_number;
  bytes_of = little_bytes;
  frame_base = 8;
  own_base = 9;
  first_home = 18;
  homes = 10;
  stop_word = 0x00000073;
}
