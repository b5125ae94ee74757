-- The marks of one variable: a truth for each place of the code, which is to say whether the variable is live there.
use Rattle.std.specs.Prelude.{◌≡◌, ℕ, suc, ◌<◌, ◌≤◌, Bool, true, false, not, ◌&&◌, ◌||◌, ◌==◌, List, [], ◌∷◌, length, Option, Some, None}
use Rattle.std.specs.Prelude.{slice_get, slice_index_or}
use Rattle.ec_code.specs.declared.code.Op.{Op}
use Rattle.ec_code.specs.declared.code.Variable.{Variable}
use Rattle.ec_code.specs.declared.code.Variable.TheVariants.{Named, Temporary}
use Rattle.ec_code.specs.Live.{reads, writes, goes_on, IsLive}

-- two variables are one
abbrev pub is_same : Variable → Variable → Bool
is_same (Named m) (Named n) = m == n
is_same (Named m) (Temporary e) = false
is_same (Temporary d) (Named n) = false
is_same (Temporary d) (Temporary e) = d == e

abbrev pub is_among : Variable → List Variable → Bool
is_among x [] = false
is_among x (y ∷ ys) = is_same x y || is_among x ys

abbrev pub is_written : Option Variable → Variable → Bool
is_written None x = false
is_written (Some y) x = is_same x y

-- no place behind the code is marked
abbrev pub is_marked : List Bool → ℕ → Bool
is_marked marks p = slice_index_or marks p false

abbrev pub any_marked : List Bool → List ℕ → Bool
any_marked marks [] = false
any_marked marks (p ∷ ps) = is_marked marks p || any_marked marks ps

-- the variable is live at a place by its step, and by what is marked where the code may go on
abbrev pub lives : List Bool → Variable → ℕ → Op → Bool
lives marks x q o = is_among x (reads o) || (not (is_written (writes o) x) && any_marked marks (goes_on o q))

-- it is, and the place isn't marked
abbrev pub is_missing : List Bool → Variable → ℕ → Op → Bool
is_missing marks x q o = not (is_marked marks q) && lives marks x q o

-- how many places aren't marked
abbrev pub unmarked : List Bool → ℕ
unmarked [] = 0
unmarked (true ∷ marks) = unmarked marks
unmarked (false ∷ marks) = suc (unmarked marks)

-- the variable is live at each place that is marked
abbrev pub OnlyLive : List Op → Variable → List Bool → Type 0
OnlyLive code x marks = (q : ℕ) → is_marked marks q ≡ true → IsLive code q x

-- none is missing from a place on
abbrev pub NoneMissing : List Op → Variable → ℕ → List Bool → Type 0
NoneMissing code x from marks = (q : ℕ) (o : Op) → from ≤ q → slice_get code q ≡ Some o → is_missing marks x q o ≡ false

-- a sweep over the places from the last one down to this one: whether it found one that was missing, and the marks then
pub record Swept (code : List Op) (x : Variable) (old : List Bool) (down_to : ℕ) (found : Bool) (new : List Bool) : Type 0 where
  pub full : length new ≡ length old
  pub only : OnlyLive code x old → OnlyLive code x new
  pub least : unmarked new ≤ unmarked old
  pub fewer : found ≡ true → unmarked new < unmarked old
  pub same : found ≡ false → new ≡ old
  pub none : found ≡ false → NoneMissing code x down_to new

-- the places that are marked are those at which the variable is live
pub record AreLive (code : List Op) (x : Variable) (marks : List Bool) : Type 0 where
  pub only : OnlyLive code x marks
  pub all : (q : ℕ) → IsLive code q x → is_marked marks q ≡ true
