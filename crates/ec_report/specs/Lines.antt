-- Lines of a schedule of which the first is done in part.
use Rattle.std.specs.Prelude.{◌≡◌, ◌==◌, ℕ, ◌<◌, Bool, false, List, [], ◌∷◌, Option, Some, None, drop}
use Rattle.ec_world.specs.declared.run.Entry.{Entry}
use Rattle.ec_world.specs.declared.run.Entry.TheVariants.{Turn, Move}
use Rattle.ec_world.specs.declared.run.RunEntry.{RunEntry}
use Rattle.ec_world.specs.declared.run.RunEntry.TheVariants.{TurnOf, MoveOf}
use Rattle.ec_world.specs.Run.{expanded}

-- how many entries a line stands for
abbrev pub entry_count : Entry → ℕ
entry_count (Turn p times) = times
entry_count (Move o k) = 1

-- each of them
abbrev pub entry_of : Entry → RunEntry
entry_of (Turn p times) = TurnOf p
entry_of (Move o k) = MoveOf o k

-- the first line stands for none
abbrev pub begins_empty : List Entry → Bool
begins_empty [] = false
begins_empty (e ∷ es) = entry_count e == 0

-- where so many entries of the first line are done, there is one left of it
abbrev pub HasLeft : List Entry → ℕ → Type 0
HasLeft [] done = done ≡ 0
HasLeft (e ∷ es) done = done < entry_count e

-- what is left where so many entries of the first line are done
abbrev pub left_of : List Entry → ℕ → List RunEntry
left_of lines done = drop done (expanded lines)

abbrev pub first_of : List RunEntry → Option RunEntry
first_of [] = None
first_of (e ∷ es) = Some e
