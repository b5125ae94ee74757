-- Formats: how a value is spelled in bytes, which values have a spelling, and how bytes are read from left to right.
use Rattle.std.specs.Prelude.{◌≡◌, ℕ, ◌-◌, ◌<◌, ◌≤◌, ◌==◌, Bool, true, List, ◌++◌, length, Result, Ok, Err, if◌then◌else◌}
use Rattle.std.specs.Prelude.{get_or}

infixl 10 ◌>>=◌
-- what comes of a value, where there is one
abbrev pub ◌>>=◌ : {A B : Type 0} → Result A ℕ → (A → Result B ℕ) → Result B ℕ
(Ok x) >>= f = f x
(Err left) >>= f = Err left

-- A value and the bytes behind it; or how many bytes are left where the first field starts that is cut short or breaks its
-- rule.
abbrev pub Read : Type 0 → Type 0
Read A = Result (A × List ℕ) ℕ

pub record Format (A : Type 0) : Type 0 where
  -- the bytes of a value
  pub spell : A → List ℕ
  -- whether a value has a spelling, that is, keeps the rules
  pub fits : A → Bool
  -- the value at the front of these bytes
  pub read : List ℕ → Read A

-- each of these numbers is a byte
abbrev pub IsBytes : List ℕ → Type 0
IsBytes bytes = (i : ℕ) → get_or bytes i 0 < 256

-- at the front of the bytes stands this spelling, and behind it the rest
pub record Takes (bytes spelling rest : List ℕ) : Type 0 where
  pub parts : bytes ≡ spelling ++ rest
  pub rest_fits : IsBytes rest

-- What a format promises.
pub record IsLawful {A : Type 0} (f : Format A) : Type 0 where
  -- what is read was spelled so, and keeps the rules
  pub takes : (bytes : List ℕ) (x : A × List ℕ) → IsBytes bytes → f.read bytes ≡ Ok x → Takes bytes (f.spell x.0) x.1 × (f.fits x.0 ≡ true)
  -- what keeps the rules is read back from its spelling, whatever stands behind it
  pub again : (a : A) (rest : List ℕ) → f.fits a ≡ true → f.read (f.spell a ++ rest) ≡ Ok (a, rest)
  -- a fault lies within the bytes, or just at their end
  pub within : (bytes : List ℕ) (left : ℕ) → IsBytes bytes → f.read bytes ≡ Err left → left ≤ length bytes

module _ {A : Type 0} where
  -- these bytes, and no more, are the value's, which keeps the rules
  pub record IsSpelling (f : Format A) (a : A) (bytes : List ℕ) : Type 0 where
    pub rules : f.fits a ≡ true
    pub spelled : bytes ≡ f.spell a

  -- a value with nothing behind it; else the first byte behind it is the fault
  abbrev pub nothing_behind : A × List ℕ → Result A ℕ
  nothing_behind x = if length x.1 == 0 then Ok x.0 else Err (length x.1)

  -- the value whose spelling is all of the bytes, or how many bytes are left where the first fault is
  unfoldable pub whole : Format A → List ℕ → Result A ℕ
  whole f bytes = f.read bytes >>= nothing_behind

  -- a fault by its place among so many bytes, from 0, in place of what is left there
  abbrev pub placed : ℕ → Result A ℕ → Result A ℕ
  placed count (Ok a) = Ok a
  placed count (Err left) = Err (count - left)

  -- The value whose spelling is all of the bytes; or the place, from 0, where the first field starts that is cut short or
  -- breaks its rule, and where bytes are left over, the place of the first of them.
  abbrev pub read_all : Format A → List ℕ → Result A ℕ
  read_all f bytes = placed (length bytes) (whole f bytes)
