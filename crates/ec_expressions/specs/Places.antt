-- The place of a text among others, and the map that holds the places.
use Rattle.std.specs.Prelude.{◌≡◌, ℕ, suc, if◌then◌else◌, List, [], ◌∷◌, Option, Some, None, Vec}
use Rattle.std.specs.declared.cmp.Ordering.{Ordering}
use Rattle.std.specs.Ordering.{nat_cmp}
use Rattle.std.specs.Cmp.Lexicographic.{slice_cmp}
use Rattle.std.specs.BTreeMap.{BTreeMap, get}
use Rattle.ec_emission.specs.Expressions.{is_text}
use Rattle.ec_core.specs.Literals.{Texts}

-- the place of the first of these texts that is the same as a text; they are those from n on
abbrev pub place_from : ℕ → Texts → List ℕ → Option ℕ
place_from n [] text = None
place_from n (t ∷ ts) text = if is_text t text then Some n else place_from (suc n) ts text

module _ {Y : Type 0} where
  -- the order of the keys
  abbrev pub by_bytes : Vec ℕ Y → Vec ℕ Y → Ordering
  by_bytes a b = slice_cmp nat_cmp a.items b.items

  -- The map has the place of each text that is there, and nothing else.
  abbrev pub ArePlaces : BTreeMap (Vec ℕ Y) ℕ → Texts → Type 0
  ArePlaces places texts = (key : Vec ℕ Y) → get by_bytes places key ≡ place_from 0 texts key.items
