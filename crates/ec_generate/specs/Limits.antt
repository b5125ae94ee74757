-- Programs whose activations and monitors have a spelling on the wire.
use Rattle.std.specs.Prelude.{◌≡◌, ◌≤◌, ◌<◌, ◌+◌, ◌^◌, ℕ, List, length, Some, slice_get}
use Rattle.ec_code.specs.Activations.{operation_at}
use Rattle.ec_code.specs.declared.code.Operation.{Operation}
use Rattle.ec_code.specs.declared.code.Parts.{Parts}
use Rattle.ec_generate.specs.Entries.{entries_of}
use Rattle.ec_generate.specs.declared.table.StopEntry.{StopEntry}
use Rattle.ec_world.specs.Group.{Has}
use Rattle.ec_world.specs.declared.class.ClassRec.{ClassRec}

-- At each stop of a program there are at most 100 values together: its operands, and what is live behind it.
abbrev pub CarriesFew : Parts → Type 0
CarriesFew p =
    (n : ℕ) (o : Operation) (e : StopEntry) → operation_at p n ≡ Some o → Has (entries_of o.code) e →
    length e.operands + length e.live ≤ 100

-- 32 bits count the conditions of each class.
abbrev pub FewConditionsIn : List ClassRec → Type 0
FewConditionsIn classes = (k : ℕ) (class : ClassRec) → slice_get classes k ≡ Some class → class.conditions < 2 ^ 32

abbrev pub FewConditions : Parts → Type 0
FewConditions p = FewConditionsIn p.classes
