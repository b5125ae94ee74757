-- Formats of values that may be missing, and of lists.
use Rattle.std.specs.Prelude.{◌≡◌, ℕ, zero, suc, ◌^◌, Bool, true, ◌&&◌, List, [], ◌∷◌, ◌++◌, length, take, slice_get, Option, Some, None}
use Rattle.std.specs.Prelude.{Ok, Err, nat_lt}
use Rattle.ec_formats.specs.Format.{◌>>=◌, Format, Read}
use Rattle.ec_formats.specs.Fields.{byte_at, word, at_most, number_up_to}

module _ {A : Type 0} where
  -- a value that may be missing

  abbrev pub optional_spell : Format A → Option A → List ℕ
  optional_spell f None = 0 ∷ []
  optional_spell f (Some a) = 1 ∷ f.spell a

  abbrev pub optional_fits : Format A → Option A → Bool
  optional_fits f None = true
  optional_fits f (Some a) = f.fits a

  -- what stands behind a flag, which stood where so many bytes were left
  abbrev pub flagged : Format A → ℕ → List ℕ → ℕ → Read (Option A)
  flagged f zero bytes here = Ok (None, bytes)
  flagged f (suc zero) bytes here = f.read bytes >>= λ a. Ok (Some a.0, a.1)
  flagged f (suc (suc b)) bytes here = Err here

  -- a flag, 0 or 1, and the value where it is 1
  abbrev pub optional : Format A → Format (Option A)
  optional f = record {
    spell = optional_spell f;
    fits = optional_fits f;
    read = λ bytes. byte_at bytes >>= λ b. flagged f b.0 b.1 (length bytes);
  }

  -- items, each in the format that it has behind those before it

  abbrev pub items_spell : (List A → Format A) → List A → List A → List ℕ
  items_spell item before [] = []
  items_spell item before (x ∷ xs) = (item before).spell x ++ items_spell item (before ++ x ∷ []) xs

  abbrev pub items_fit : (List A → Format A) → List A → List A → Bool
  items_fit item before [] = true
  items_fit item before (x ∷ xs) = (item before).fits x && items_fit item (before ++ x ∷ []) xs

  -- each item keeps the rules that it has behind those before it
  abbrev pub EachFits : (List A → Format A) → List A → Type 0
  EachFits item xs = (i : ℕ) (x : A) → slice_get xs i ≡ Some x → (item (take i xs)).fits x ≡ true

  -- so many items more
  unfoldable pub items_read : (List A → Format A) → List A → ℕ → List ℕ → Read (List A)
  items_read item before zero bytes = Ok (before, bytes)
  items_read item before (suc n) bytes = (item before).read bytes >>= λ x. items_read item (before ++ x.0 ∷ []) n x.1

  abbrev pub list_spelling : (List A → Format A) → List A → List ℕ
  list_spelling item xs = word (length xs) ++ items_spell item [] xs

  -- A count, up to a limit, and that many items. Each may have a rule on those before it.
  abbrev pub list : ℕ → (List A → Format A) → Format (List A)
  list limit item = record {
    spell = list_spelling item;
    fits = λ xs. (nat_lt (length xs) (2 ^ 32) && at_most limit (length xs)) && items_fit item [] xs;
    read = λ bytes. (number_up_to limit).read bytes >>= λ n. items_read item [] n.0 n.1;
  }

  -- a list of items that have no rule on those before them
  abbrev pub list_of : ℕ → Format A → Format (List A)
  list_of limit f = list limit (λ _. f)
