-- Texts that are noted, each once, where a node doesn't have them.
use Rattle.std.specs.Prelude.{◌≡◌, ◌⊎◌, ℕ, ◌+◌, ◌↔◌, List, take}
use Rattle.ec_world.specs.Held.{Distinct}
use Rattle.ec_world.specs.Words.{text_bytes}
use Rattle.ec_stores.specs.Tables.{TextPool}
use Rattle.ec_things.specs.Store.{Store}
use Rattle.ec_things.specs.Texts.{InPool}
use Rattle.ec_world.specs.Group.{Has}
use Rattle.ec_world.specs.declared.value.Value.{Value}
use Rattle.ec_world.specs.declared.value.Value.TheVariants.{Str}

-- the text of a value is noted, where the node doesn't have it
pub record Notes (s : Store) (old new : TextPool) (v : Value) : Type 0 where
  pub these : (text : List ℕ) → Has new.texts text ↔ (Has old.texts text ⊎ ((v ≡ Str text) × (InPool s text → ⊥)))
  pub once : Distinct old.texts → Distinct new.texts
  pub bytes : text_bytes new.texts + new.free ≡ text_bytes old.texts + old.free

-- the texts of the first n values have been noted
pub record Noted (s : Store) (values : List Value) (n room : ℕ) (seen : TextPool) : Type 0 where
  pub these : (text : List ℕ) → Has seen.texts text ↔ (Has (take n values) (Str text) × (InPool s text → ⊥))
  pub once : Distinct seen.texts
  pub bytes : text_bytes seen.texts + seen.free ≡ room
