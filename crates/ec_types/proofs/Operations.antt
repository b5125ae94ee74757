-- The operations of each type of a program, one by one.
use Rattle.std.proofs.Common.{ℕ, zero, suc, List, [], ◌∷◌, slice_get}
use Rattle.std.proofs.lemmas.List.Elements.{recursion_from_All}
use Rattle.std.specs.List.{All, AllByRecursion as Every}
use Rattle.ec_types.specs.Conforms.{operations_in, operations_at}
use Rattle.ec_types.specs.declared.conform.named_type.NamedType.{NamedType}
use Rattle.ec_types.specs.Known.{IsOperationOfProgram, NoneUnknown}

each_of : (types some : List NamedType) → Every (λ (t : NamedType). All (IsOperationOfProgram types) t.operations) some → (n : ℕ)
    → Every (IsOperationOfProgram types) (operations_in (slice_get some n))
each_of types [] h n = tt
each_of types (t ∷ ts) h zero = recursion_from_All (IsOperationOfProgram types) t.operations h.0
each_of types (t ∷ ts) h (suc n) = each_of types ts h.1 n

pub operations_of_program : (types : List NamedType) → NoneUnknown types → (n : ℕ)
    → Every (IsOperationOfProgram types) (operations_at types n)
operations_of_program types known n =
    each_of types types (recursion_from_All (λ (t : NamedType). All (IsOperationOfProgram types) t.operations) types known) n
