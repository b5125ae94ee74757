-- What the stops do with texts gives texts in range.
use Rattle.std.proofs.Common.{ℕ, suc, ◌+◌, ◌<◌, ◌≤◌, ◌^◌, arith, Bool, true, false, if◌then◌else◌, List, [], ◌∷◌, ◌++◌, length}
use Rattle.std.proofs.Common.{take, drop, Some, None, ℤ, pos, negsuc}
use Rattle.std.proofs.lemmas.Fmt.{IsAscii-signed, length_signed_le}
use Rattle.std.proofs.lemmas.List.{length-append, length-drop, length-take}
use Rattle.std.specs.Fmt.{signed_decimal}
use Rattle.std.specs.Int.{w32}
use Rattle.std.specs.Int.Signed.{mag}
use Rattle.std.specs.List.{AllByRecursion as Each}
use Rattle.std.specs.Prelude.{FitsSigned, nat_le}
use Rattle.std.specs.Str.{IsAscii}
use Rattle.ec_code.proofs.Carried.{each_append}
use Rattle.ec_world.specs.Texts.{longest, slice_of, truth_text}
use Rattle.ec_code.specs.RangesValues.{IsByte, IsText}
use Rattle.ec_code.proofs.RangesLists.{IfThere, each_drop, each_take}

pub concat_text : (s t : List ℕ) → IsText s → IsText t → length s + length t ≤ longest → IsText (s ++ t)
concat_text s t h k few = record {
  short = omega (arith, length-append s t);
  bytes = each_append IsByte s t h.bytes k.bytes;
}

taken : (s : List ℕ) (from count : ℕ) → IsText s → IsText (take count (drop from s))
taken s from count h = record {
  short = omega (arith, length-take count (drop from s), length-drop from s, h.short);
  bytes = each_take IsByte count (drop from s) (each_drop IsByte from s h.bytes);
}

slice_by : (b : Bool) (s : List ℕ) (from count : ℕ) → IsText s → IfThere IsText (if b then Some (take count (drop from s)) else None)
slice_by true s from count h = taken s from count h
slice_by false s from count h = tt

pub slice_text : (s : List ℕ) (from count : ℤ) → IsText s → IfThere IsText (slice_of s from count)
slice_text s (pos from) (pos count) h = slice_by (nat_le (from + count) (length s)) s from count h
slice_text s (pos from) (negsuc count) h = tt
slice_text s (negsuc from) count h = tt

ascii_bytes : (bs : List ℕ) → IsAscii bs → Each IsByte bs
ascii_bytes [] a = tt
ascii_bytes (b ∷ bs) a = ((let first : b < 128 = a 0 in omega arith), ascii_bytes bs (λ i. a (suc i)))

pub number_text : (z : ℤ) → FitsSigned w32 z → IsText (signed_decimal z)
number_text z f =
    let small : mag z < 2 ^ 31 = f.sfits in
    record {
      short = let few = length_signed_le 10 z (omega arith) (omega arith) in omega arith;
      bytes = ascii_bytes (signed_decimal z) (IsAscii-signed z (omega arith));
    }

pub truth_is_text : (b : Bool) → IsText (truth_text b)
truth_is_text true = record { short = omega arith; bytes = (omega arith, (omega arith, (omega arith, (omega arith, tt)))) }
truth_is_text false = record { short = omega arith; bytes = (omega arith, (omega arith, (omega arith, (omega arith, (omega arith, tt))))) }
