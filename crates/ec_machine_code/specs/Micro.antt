-- What steps on words do, for any kind of machine: functions on a sight of its state, which is what its home registers hold and the
-- bytes of its memory.
use Rattle.std.specs.Prelude.{◌≢◌, ℕ, ℤ, ◌+◌, ◌-◌, ◌*◌, ◌%◌, ◌^◌, ◌==◌, ◌<◌, Bool, int_lt, int_rem, Option, Some, None}
use Rattle.std.specs.Prelude.{if◌then◌else◌}
use Rattle.std.specs.Int.{w32, cast_signed, cast_unsigned, from_bool, int_wrapping_div}
use Rattle.ec_base.specs.Bytes.{Bytes, with_bytes}
use Rattle.ec_code.specs.declared.code.Arithmetic.{Arithmetic}
use Rattle.ec_code.specs.declared.code.Arithmetic.TheVariants.{Sum, Difference, Product, Quotient, Remainder}
use Rattle.ec_machine_code.specs.Frames.{block_words, field_at, own_reference, slot_at, slots}
use Rattle.ec_machine_code.specs.Machine.{MachineMeaning}
use Rattle.ec_machine_code.specs.declared.homes.Home.{Home}
use Rattle.ec_machine_code.specs.declared.homes.Home.TheVariants.{Register, Slot}
use Rattle.ec_memory.specs.Words.{HasWord, block_word_at, global_word_at, word_in}
use Rattle.ec_machine_code.specs.declared.step.Question.{Question}
use Rattle.ec_machine_code.specs.declared.step.Relation.{Relation}
use Rattle.ec_machine_code.specs.declared.step.Relation.TheVariants.{Same, Less}
use Rattle.ec_machine_code.specs.declared.step.Source.{Source}
use Rattle.ec_machine_code.specs.declared.step.Source.TheVariants as source
use Rattle.ec_machine_code.specs.declared.step.Step.{Step}
use Rattle.ec_machine_code.specs.declared.step.Step.TheVariants as step
use Rattle.ec_world.specs.Same.{is_same_truth}

pub record Sight : Type 0 where
  pub home : ℕ → ℕ
  pub bytes : Bytes

abbrev pub or_zero : Option ℕ → ℕ
or_zero None = 0
or_zero (Some n) = n

-- ---- arithmetic on words, as signed numbers of 32 bits

-- a number that is worked out from two words as signed numbers, as a word
abbrev pub signed : (ℤ → ℤ → ℤ) → ℕ → ℕ → ℕ
signed act a b = cast_unsigned w32 (act (cast_signed w32 a) (cast_signed w32 b))

abbrev pub reckoned : Arithmetic → ℕ → ℕ → ℕ
reckoned Sum a b = (a + b) % 2 ^ 32
reckoned Difference a b = (a + (2 ^ 32 - b)) % 2 ^ 32
reckoned Product a b = a * b % 2 ^ 32
reckoned Quotient a b = signed (int_wrapping_div w32) a b
reckoned Remainder a b = signed int_rem a b

abbrev pub CanReckon : Arithmetic → ℕ → Type 0
CanReckon Quotient b = b ≢ 0
CanReckon Remainder b = b ≢ 0
CanReckon _ b = Unit {0}

abbrev pub related : Relation → ℕ → ℕ → Bool
related Same a b = a == b
related Less a b = int_lt (cast_signed w32 a) (cast_signed w32 b)

-- ---- homes. What matches on a home takes the parts of a sight, so that a step that leaves them computes away.

module _ {S : Type 0} (M : MachineMeaning S) (f own : ℕ) where
  -- the word that a home holds
  abbrev pub read : Home → (ℕ → ℕ) → Bytes → ℕ
  read (Slot n) home bytes = or_zero (word_in M.number bytes (slot_at f n))
  read (Register k) home bytes = home k

  abbrev pub with_register : Home → ℕ → (ℕ → ℕ) → ℕ → ℕ
  with_register (Slot n) w home j = home j
  with_register (Register k) w home j = if j == k then w else home j

  abbrev pub with_slot : Home → ℕ → Bytes → Bytes
  with_slot (Slot n) w bytes = with_bytes bytes (slot_at f n) (M.bytes_of 4 w)
  with_slot (Register k) w bytes = bytes

  -- a home gets a word
  abbrev pub gets : Home → ℕ → Sight → Sight
  gets into w v = record { home = with_register into w v.home; bytes = with_slot into w v.bytes }

  -- the word that a step finds
  abbrev pub found : Source → (ℕ → ℕ) → Bytes → ℕ
  found (source.Home h) home bytes = read h home bytes
  found (source.Word n) home bytes = n

  abbrev pub asked : Question → (ℕ → ℕ) → Bytes → Bool
  asked q home bytes = is_same_truth q.wanted (related q.relation (found q.left home bytes) (found q.right home bytes))

  -- a word of the memory
  abbrev pub word_at : Bytes → ℕ → ℕ
  word_at bytes at = or_zero (word_in M.number bytes at)

  abbrev pub does : Step → Sight → Sight
  does (step.Move into from) v = gets into (found from v.home v.bytes) v
  does (step.Itself into) v = gets into (word_at v.bytes (block_word_at f own_reference)) v
  does (step.Field into i) v = gets into (word_at v.bytes (field_at own i)) v
  does (step.SetField i from) v =
      record { home = v.home; bytes = with_bytes v.bytes (field_at own i) (M.bytes_of 4 (found from v.home v.bytes)) }
  does (step.Constant into i) v = gets into (word_at v.bytes (global_word_at i)) v
  does (step.Work how into left right) v = gets into (reckoned how (found left v.home v.bytes) (found right v.home v.bytes)) v
  does (step.Decide into q) v = gets into (from_bool (asked q v.home v.bytes)) v

  -- ---- what steps ask for

  abbrev pub HasHome : Home → Bytes → Type 0
  HasHome (Slot n) bytes = (n < slots) × HasWord bytes (slot_at f n)
  HasHome (Register k) bytes = k < M.homes

  -- the source is there, with a word of 32 bits
  abbrev pub CanFind : Source → (ℕ → ℕ) → Bytes → Type 0
  CanFind (source.Home h) home bytes = HasHome h bytes × (read h home bytes < 2 ^ 32)
  CanFind (source.Word n) home bytes = n < 2 ^ 32

  abbrev pub CanAsk : Question → Sight → Type 0
  CanAsk q v = CanFind q.left v.home v.bytes × CanFind q.right v.home v.bytes

  abbrev pub Can : Step → Sight → Type 0
  Can (step.Move into from) v = HasHome into v.bytes × CanFind from v.home v.bytes
  Can (step.Itself into) v = HasHome into v.bytes × HasWord v.bytes (block_word_at f own_reference)
  Can (step.Field into i) v = HasHome into v.bytes × (i < block_words) × HasWord v.bytes (field_at own i)
  Can (step.SetField i from) v = CanFind from v.home v.bytes × (i < block_words) × HasWord v.bytes (field_at own i)
  Can (step.Constant into i) v = HasHome into v.bytes × (i < 2 ^ 20) × HasWord v.bytes (global_word_at i)
  Can (step.Work how into left right) v =
      HasHome into v.bytes
      × CanFind left v.home v.bytes
      × CanFind right v.home v.bytes
      × CanReckon how (found right v.home v.bytes)
  Can (step.Decide into q) v = HasHome into v.bytes × CanAsk q v
