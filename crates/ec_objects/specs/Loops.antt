-- What holds in the loop that makes words of values.
use Rattle.std.specs.Prelude.{ℕ, List, drop, take, ◌↔◌, ◌⊎◌}
use Rattle.ec_objects.specs.Values.{TextsFit, WordsFor}
use Rattle.ec_stores.specs.Changes.{OnlyTables}
use Rattle.ec_things.specs.Store.{Store}
use Rattle.ec_things.specs.Texts.{InPool}
use Rattle.ec_world.specs.Group.{Has}
use Rattle.ec_world.specs.declared.value.Value.{Value}
use Rattle.ec_world.specs.declared.value.Value.TheVariants.{Str}

-- the first n values have their words, and the others have room
pub record Wording (old now : Store) (values : List Value) (n : ℕ) (words : List ℕ) : Type 0 where
  pub only : OnlyTables old now
  pub have : WordsFor now values n words
  pub texts : (text : List ℕ) → InPool now text ↔ (InPool old text ⊎ Has (take n values) (Str text))
  pub room : TextsFit now (drop n values)
