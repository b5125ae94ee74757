-- The texts of a thing that a node shows are in its pool.
use Rattle.std.proofs.Common.{ℕ, List}
use Rattle.ec_world.specs.declared.value.Value.TheVariants.{Str}
use Rattle.ec_world.specs.declared.key.Key.{Key}
use Rattle.ec_things.specs.Store.{Store}
use Rattle.ec_world.specs.Group.{Has}
use Rattle.ec_things.specs.Things.{Thing, Shown}
use Rattle.ec_things.specs.Texts.{InPool}

pub shown_text : (s : Store) (key : Key) (t : Thing) (text : List ℕ) → Shown s key t → Has t.values (Str text) → InPool s text
shown_text s key t text h v = let x = h.spells.values v.at (Str text) v.is in (x.2.word, x.2.stands)
