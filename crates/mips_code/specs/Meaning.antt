-- What a MIPS machine means to code: $30 has the address of the frame, $23 that of the own object, and $16 to $21 are homes.
use Rattle.std.specs.Prelude.{◌≡◌}
use Rattle.byteorder.specs.Endian.{big_bytes, big_number}
use Rattle.ec_machine_code.specs.Machine.{MachineMeaning}
use Rattle.ec_world.specs.declared.node.Kind.TheVariants.{Mips}
use Rattle.mips_machine.specs.Machine.{mips_goes, mips_place, mips_register, mips_rests, mips_stops}
use Rattle.mips_machine.specs.declared.machine.MipsMachine.{MipsMachine}

abbrev pub mips_meaning : MachineMeaning MipsMachine
mips_meaning = record {
  kind = Mips;
  goes = mips_goes;
  stops = mips_stops;
  register = mips_register;
  place = mips_place;
  rests = mips_rests;
  is_loaded = λ m. m.flow.loaded ≡ 0;
  number = big_number;
  bytes_of = big_bytes;
  frame_base = 30;
  own_base = 23;
  first_home = 16;
  homes = 6;
  stop_word = 0x0000000C;
}
