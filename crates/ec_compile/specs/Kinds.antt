-- What the stop tables of a program have in common, whatever the kinds of machine (Steensgaard and Jul 1995: at a bus stop all kinds
-- agree on what is live).
use Rattle.std.specs.Prelude.{◌≡◌, ℕ, List, map}
use Rattle.ec_code.specs.declared.code.Parts.{Parts}
use Rattle.ec_generate.specs.Tables.{AreTablesOf}
use Rattle.ec_generate.specs.declared.table.OperationTable.{OperationTable}

-- each operation has the same stops in both: the same operands, the same variable for the result, and the same live variables, in the
-- same order
abbrev pub NameTheSame : List OperationTable → List OperationTable → Type 0
NameTheSame ts us = map (λ t. t.stops) ts ≡ map (λ t. t.stops) us

-- tables of one program do, however many registers and slots their kinds have
abbrev pub KindsNameTheSame : Type 0
KindsNameTheSame =
    (p : Parts) (registers slots registers' slots' : ℕ) (ts us : List OperationTable) →
    AreTablesOf registers slots p ts →
    AreTablesOf registers' slots' p us →
    NameTheSame ts us
