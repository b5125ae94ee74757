-- What a map from letters to numbers holds of names.
use Rattle.std.specs.Prelude.{◌≡◌, ℕ, List, map, Vec}
use Rattle.std.specs.Str.{str_to_ascii_lowercase}
use Rattle.std.specs.declared.cmp.Ordering.{Ordering}
use Rattle.std.specs.Ordering.{nat_cmp}
use Rattle.std.specs.Cmp.Lexicographic.{slice_cmp}
use Rattle.std.specs.BTreeMap.{BTreeMap, get}
use Rattle.ec_types.specs.Names.{Text, first_named}

module _ {Y : Type 0} where
  -- names as they are held, by their letters
  abbrev pub texts : List (Vec ℕ Y) → List Text
  texts names = map (λ name. name.items) names

  -- the order of the keys
  abbrev pub by_letters : Vec ℕ Y → Vec ℕ Y → Ordering
  by_letters a b = slice_cmp nat_cmp a.items b.items

  -- The map has, at a name's letters in lower case, the number of the first of the names that is the same.
  abbrev pub AreFirsts : BTreeMap (Vec ℕ Y) ℕ → List Text → Type 0
  AreFirsts firsts names = (name : Text) (key : Vec ℕ Y) → key.items ≡ str_to_ascii_lowercase name
      → get by_letters firsts key ≡ first_named names name
