-- Formats of single fields: bytes, marks, numbers, truth values and texts.
use Rattle.std.specs.Prelude.{ℕ, zero, suc, ◌^◌, Bool, true, false, ◌&&◌, List, [], ◌∷◌, ◌++◌, length, take, drop, Ok, Err, nat_lt}
use Rattle.std.specs.Prelude.{if◌then◌else◌}
use Rattle.std.specs.Prelude.{ℤ, pos, negsuc, nat_eq}
use Rattle.std.specs.Int.{w32, from_be_bytes, to_be_bytes, cast_signed, cast_unsigned}
use Rattle.std.specs.List.{starts_with}
use Rattle.ec_formats.specs.Format.{◌>>=◌, Format, Read}
use Rattle.ec_formats.specs.Combinators.{such_that, through}

-- bytes

abbrev pub byte_at : List ℕ → Read ℕ
byte_at [] = Err 0
byte_at (b ∷ bytes) = Ok (b, bytes)

-- one byte
abbrev pub byte : Format ℕ
byte = record { spell = λ b. b ∷ []; fits = λ b. nat_lt b 256; read = byte_at }

-- marks

-- these bytes themselves, which are one field and stand for no value
abbrev pub mark : List ℕ → Format (Unit {0})
mark sign = record {
  spell = λ _. sign;
  fits = λ _. true;
  read = λ bytes. if starts_with nat_eq bytes sign then Ok (tt, drop (length sign) bytes) else Err (length bytes);
}

-- numbers

abbrev pub number_at : List ℕ → Read ℕ
number_at bytes = if nat_lt (length bytes) 4 then Err (length bytes) else Ok (from_be_bytes w32 (take 4 bytes), drop 4 bytes)

-- a number as four bytes, the highest first
unfoldable pub word : ℕ → List ℕ
word n = to_be_bytes w32 n

-- a number from 0 to 2^32 - 1
abbrev pub number : Format ℕ
number = record { spell = word; fits = λ n. nat_lt n (2 ^ 32); read = number_at }

abbrev pub at_most : ℕ → ℕ → Bool
at_most limit n = nat_lt n (suc limit)

abbrev pub at_least : ℕ → ℕ → Bool
at_least least n = if nat_lt n least then false else true

abbrev pub above : ℕ → ℕ → Bool
above bound n = nat_lt bound n

abbrev pub number_up_to : ℕ → Format ℕ
number_up_to limit = such_that number (at_most limit)

abbrev pub number_from : ℕ → Format ℕ
number_from least = such_that number (at_least least)

abbrev pub number_above : ℕ → Format ℕ
number_above bound = such_that number (above bound)

-- integers

abbrev pub integer_fits : ℤ → Bool
integer_fits (pos n) = nat_lt n (2 ^ 31)
integer_fits (negsuc n) = nat_lt n (2 ^ 31)

-- a number from -2^31 to 2^31 - 1, in two's complement
abbrev pub integer : Format ℤ
integer = record {
  spell = λ z. word (cast_unsigned w32 z);
  fits = integer_fits;
  read = λ bytes. number.read bytes >>= λ n. Ok (cast_signed w32 n.0, n.1);
}

-- truth values

abbrev pub truth_of : ℕ → Bool
truth_of zero = false
truth_of (suc n) = true

abbrev pub number_of_truth : Bool → ℕ
number_of_truth false = 0
number_of_truth true = 1

-- one byte: 0 is false, 1 is true, and there is no other
abbrev pub truth : Format Bool
truth = through truth_of number_of_truth (such_that byte (at_most 1))

-- texts

abbrev pub text_at : ℕ × List ℕ → Read (List ℕ)
text_at n = if nat_lt (length n.1) n.0 then Err (length n.1) else Ok (take n.0 n.1, drop n.0 n.1)

abbrev pub text_spelling : List ℕ → List ℕ
text_spelling bytes = word (length bytes) ++ bytes

-- a length, up to a limit, and that many bytes, which are one field
abbrev pub text : ℕ → Format (List ℕ)
text limit = record {
  spell = text_spelling;
  fits = λ bytes. nat_lt (length bytes) (2 ^ 32) && at_most limit (length bytes);
  read = λ bytes. (number_up_to limit).read bytes >>= text_at;
}
