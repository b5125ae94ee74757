-- What a kind of machine means to code: its steps, its registers, and the order of the bytes of a word.
use Rattle.std.specs.Prelude.{ℕ, List}
use Rattle.ec_target.specs.Runs.{Going, Standing}
use Rattle.ec_world.specs.declared.node.Kind.{Kind}

pub record MachineMeaning (S : Type 0) : Type 1 where
  pub kind : Kind
  -- a step goes from one state to another, with a code and a memory
  pub goes : List ℕ → Going S
  -- the next instruction is a stop
  pub stops : List ℕ → Standing S
  pub register : S → ℕ → ℕ
  -- the address of the next instruction
  pub place : S → ℕ
  -- nothing is left from the instructions before: no jump, no load, and HI and LO were read long ago
  pub rests : S → Type 0
  -- no register is being loaded
  pub is_loaded : S → Type 0
  -- the number that so many bytes spell, and the bytes of a number, in the order of this kind
  pub number : ℕ → List ℕ → ℕ
  pub bytes_of : ℕ → ℕ → List ℕ
  -- the registers that hold the addresses of the frame and of the own object
  pub frame_base : ℕ
  pub own_base : ℕ
  -- the registers that are homes: the first one, and how many there are
  pub first_home : ℕ
  pub homes : ℕ
  pub stop_word : ℕ
