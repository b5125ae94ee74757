-- What holds of each activation of a sound world: its stop, its operands, and what it waits for, by the stop table of its operation.
use Rattle.std.specs.Prelude.{◌≡◌, ℕ, true, List, map, Option, Some, None}
use Rattle.ec_activations.specs.Frames.{held_in, stop_of, taker_of}
use Rattle.ec_code.specs.Fine.{Fine}
use Rattle.ec_code.specs.Typing.{Declared}
use Rattle.ec_code.specs.Steps.{with_itself}
use Rattle.ec_code.specs.declared.activation.CodeActivation.{CodeActivation}
use Rattle.ec_code.specs.declared.code.Line.{Line}
use Rattle.ec_code.specs.declared.code.Operation.{Operation}
use Rattle.ec_code.specs.declared.code.Parts.{Parts}
use Rattle.ec_code.specs.declared.code.StopRow.{StopRow}
use Rattle.ec_code.specs.Live.{stays}
use Rattle.ec_code.specs.Sound.{RestsAt, SoundPending}
use Rattle.ec_generate.specs.Entries.{entry_of}
use Rattle.ec_generate.specs.declared.table.StopEntry.{StopEntry}
use Rattle.ec_world.specs.declared.object.ObjectRec.{ObjectRec}

-- the entry of the stop at which an activation rests
abbrev pub its_entry : (d : Declared) (p : Parts) (objects : List ObjectRec) (a : CodeActivation) → RestsAt d p objects a → StopEntry
its_entry d p objects a r = entry_of r.of.code a.at r.line r.row

-- It has an entry in the table of its operation, by some number.
abbrev pub EachRestsAtAnEntry : Type 0
EachRestsAtAnEntry =
    (d : Declared) (p : Parts) (objects : List ObjectRec) (a : CodeActivation) (r : RestsAt d p objects a) →
    (n : ℕ) × (stop_of p a ≡ Some (record { number = n; entry = its_entry d p objects a r }))

-- The operands are the values that the frame has for the entry's operands.
abbrev pub OperandsAreHeld : Type 0
OperandsAreHeld =
    (d : Declared) (p : Parts) (objects : List ObjectRec) (a : CodeActivation) (h : SoundPending d p objects a) →
    a.operands ≡ with_itself h.rests.row.on_itself a.own
    (map (λ x. x.value) (held_in p a (its_entry d p objects a h.rests).operands))

-- Where code goes on, what is said to wait is the variable of the entry's result.
abbrev pub WaitsForTheResult : Type 0
WaitsForTheResult =
    (d : Declared) (p : Parts) (objects : List ObjectRec) (a : CodeActivation) (r : RestsAt d p objects a) → a.into ≡ r.row.into →
    stays r.row.stop ≡ true → a.into ≡ taker_of (its_entry d p objects a r).result
