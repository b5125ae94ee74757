-- What holds of the wire form.
use Rattle.std.specs.Prelude.{◌≡◌, ◌+◌, ℕ, List, length, Err}
use Rattle.ec_formats.specs.Format.{IsBytes, whole, read_all}
use Rattle.ec_wire.specs.WireForm.{parcel, KeepsRules, IsWire}
use Rattle.ec_wire.specs.declared.parcel.Contents.{Contents}

-- each byte list is the bytes of one parcel at most
abbrev pub OneParcel : Type 0
OneParcel = (p q : Contents) (bytes : List ℕ) → IsWire p bytes → IsWire q bytes → p ≡ q

-- these bytes are the parcel's, and no others are
pub record HasOneSpelling (p : Contents) (bytes : List ℕ) : Type 0 where
  pub is_wire : IsWire p bytes
  pub only : (others : List ℕ) → IsWire p others → others ≡ bytes

-- each parcel that keeps the rules has one byte list
abbrev pub OneSpelling : Type 0
OneSpelling = (p : Contents) → KeepsRules p → (bytes : List ℕ) × HasOneSpelling p bytes

-- A fault's place lies within the bytes, or just at their end: the bytes before it and those that are left from it on are all of
-- them.
abbrev pub FaultsWithin : Type 0
FaultsWithin = (bytes : List ℕ) (at : ℕ) → IsBytes bytes → read_all parcel bytes ≡ Err at
    → (left : ℕ) × (whole parcel bytes ≡ Err left) × (at + left ≡ length bytes)
