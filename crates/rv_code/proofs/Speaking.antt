-- The words of steps on RISC-V do what the steps do.
use Rattle.std.proofs.Common.{refl, arith}
use Rattle.byteorder.specs.Numbers.{length-bytes_low_first, little_number-reads_back}
use Rattle.ec_machine_code.specs.Speaks.{Speaks}
use Rattle.rv_machine.proofs.Effects.{ecall_stops}
use Rattle.rv_code.proofs.Asks.{far, far_jumped, jumped, middle, near}
use Rattle.rv_code.proofs.StepsLemmas.{step}
use Rattle.rv_code.proofs.Stops.{far_size, middle_size, near_size, no_far, no_far_jump, no_jump, no_middle, no_near, no_step}
use Rattle.rv_code.specs.Meaning.{rv_meaning}
use Rattle.rv_code.specs.Words.{rv_far, rv_middle, rv_near}

pub near_speaks : Speaks rv_meaning rv_near
near_speaks = record {
  stop_same = refl;
  reads_back = little_number-reads_back;
  length_bytes = λ n x. length-bytes_low_first 0 n x;
  asks_size = near_size;
  jumps_size = λ from to. refl;
  no_step = no_step;
  no_ask = no_near;
  no_jump = no_jump;
  step = λ f own code m i s v frame_small own_small has at room sees can.
      step code f own frame_small own_small v m can i s has at room sees;
  ask = λ f own code q i to s v frame_small own_small has at low high close back sees can.
      near code f own frame_small v q can i to s has at low high (omega (arith, close)) (omega (arith, back)) sees;
  jump = λ f own code i to s v has at low high close back sees.
      jumped code f own v i to s has at low high (omega (arith, close)) (omega (arith, back)) sees;
  halt = λ code s b rests here. ecall_stops code s b here;
  is_loaded = λ s rests. tt;
}

pub middle_speaks : Speaks rv_meaning rv_middle
middle_speaks = record {
  stop_same = refl;
  reads_back = little_number-reads_back;
  length_bytes = λ n x. length-bytes_low_first 0 n x;
  asks_size = middle_size;
  jumps_size = λ from to. refl;
  no_step = no_step;
  no_ask = no_middle;
  no_jump = no_jump;
  step = λ f own code m i s v frame_small own_small has at room sees can.
      step code f own frame_small own_small v m can i s has at room sees;
  ask = λ f own code q i to s v frame_small own_small has at low high close back sees can.
      middle code f own frame_small v q can i to s has at low high (omega (arith, close)) (omega (arith, back)) sees;
  jump = λ f own code i to s v has at low high close back sees.
      jumped code f own v i to s has at low high (omega (arith, close)) (omega (arith, back)) sees;
  halt = λ code s b rests here. ecall_stops code s b here;
  is_loaded = λ s rests. tt;
}

pub far_speaks : Speaks rv_meaning rv_far
far_speaks = record {
  stop_same = refl;
  reads_back = little_number-reads_back;
  length_bytes = λ n x. length-bytes_low_first 0 n x;
  asks_size = λ q from to. far_size q to;
  jumps_size = λ from to. refl;
  no_step = no_step;
  no_ask = λ q from to. no_far q to;
  no_jump = λ from to. no_far_jump to;
  step = λ f own code m i s v frame_small own_small has at room sees can.
      step code f own frame_small own_small v m can i s has at room sees;
  ask = λ f own code q i to s v frame_small own_small has at low high close back sees can.
      far code f own frame_small v q can i to s has at low high sees;
  jump = λ f own code i to s v has at low high close back sees.
      far_jumped code f own v i to s has at low high sees;
  halt = λ code s b rests here. ecall_stops code s b here;
  is_loaded = λ s rests. tt;
}
