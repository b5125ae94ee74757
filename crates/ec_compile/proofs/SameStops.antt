-- The stops of a table are those of the program's code, so that two tables have the same.
use Rattle.std.proofs.Common.{◌≡◌, ℕ, List, [], ◌∷◌, refl, sym, ap₂, ◌∙◌}
use Rattle.std.specs.Prelude.{map}
use Rattle.ec_code.specs.declared.code.Operation.{Operation}
use Rattle.ec_compile.specs.Kinds.{KindsNameTheSame}
use Rattle.ec_generate.specs.Entries.{entries_of}
use Rattle.ec_generate.specs.Tables.{IsTableOf}
use Rattle.ec_generate.specs.declared.table.OperationTable.{OperationTable}
use Rattle.ec_world.specs.Agree.{AllTwo}

stops_are : (registers slots : ℕ) (os : List Operation) (ts : List OperationTable) → AllTwo (IsTableOf registers slots) os ts →
    map (λ t. t.stops) ts ≡ map (λ o. entries_of o.code) os
stops_are registers slots [] [] h = refl
stops_are registers slots (o ∷ os) (t ∷ ts) h = ap₂ (λ x xs. x ∷ xs) h.0.stops (stops_are registers slots os ts h.1)
stops_are registers slots [] (t ∷ ts) h = absurd h
stops_are registers slots (o ∷ os) [] h = absurd h

pub kinds_name_the_same : KindsNameTheSame
kinds_name_the_same p registers slots registers' slots' ts us a b =
    stops_are registers slots p.operations ts a ∙ sym (stops_are registers' slots' p.operations us b)
