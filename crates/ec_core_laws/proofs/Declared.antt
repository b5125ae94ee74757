-- The number of each class of a program is that of a declared type.
use Rattle.std.proofs.Common.{ℕ, ◌+◌, ◌<◌, ◌==◌, Bool, true, false, if◌then◌else◌, List, [], ◌∷◌, ◌++◌, length, refl, sym, subst, All}
use Rattle.std.proofs.Common.{append_assoc, arith}
use Rattle.std.proofs.lemmas.Bool.{eq-eqb}
use Rattle.ec_ast.specs.declared.Program.{Program}
use Rattle.ec_check.proofs.Every.{Every, every_unmap, all_of}
use Rattle.ec_check.proofs.NumberedPrograms.{constants_numbered, every_map, fewer_of}
use Rattle.ec_check.specs.Program.{core_of, outermost}
use Rattle.ec_types.specs.Declarations.{declarations_of}
use Rattle.ec_types.specs.Table.{Table, IsTable}
use Rattle.ec_types.specs.Types.{number_at, number_from, places_of}
use Rattle.ec_types.specs.declared.conform.declared.DeclaredType.{DeclaredType}
use Rattle.ec_core.specs.declared.Class.{Class}

-- A place that is among places has a number there.
found_at : (n : ℕ) (before after : List ℕ) (at : ℕ) →
    number_from n (before ++ (at ∷ after)) at < n + length (before ++ (at ∷ after))
found_at n [] after at = rw (eq-eqb at at refl) (omega arith)
found_at n (p ∷ before) after at = by_test (p == at) (found_at (n + 1) before after at)
  where
    by_test : (b : Bool) → number_from (n + 1) (before ++ (at ∷ after)) at < n + 1 + length (before ++ (at ∷ after)) →
        (if b then n else number_from (n + 1) (before ++ (at ∷ after)) at) < n + length (p ∷ (before ++ (at ∷ after)))
    by_test true h = omega arith
    by_test false h = omega arith

abbrev IsAmong : List ℕ → DeclaredType → Type 0
IsAmong places d = number_at places d.name.at.from < length places

each_among : (before : List ℕ) (ds : List DeclaredType) → Every (IsAmong (before ++ places_of ds)) ds
each_among before [] = tt
each_among before (d ∷ ds) =
    let l : number_from 0 (before ++ (d.name.at.from ∷ places_of ds)) d.name.at.from
    < 0 + length (before ++ (d.name.at.from ∷ places_of ds)) = found_at 0 before (places_of ds) d.name.at.from in (
      omega arith,
      subst (λ places. Every (IsAmong places) ds) (append_assoc before (d.name.at.from ∷ []) (places_of ds))
          (each_among (before ++ d.name.at.from ∷ []) ds),
    )

pub each_is_declared : (table : Table) (program : Program) → IsTable (declarations_of program) table →
    All (λ (c : Class). c.number < length table.places) (core_of table program).classes
each_is_declared table program is =
    all_of (λ (c : Class). c.number < length table.places) (core_of table program).classes
    (every_unmap (λ n. n < length table.places) (λ (c : Class). c.number) (core_of table program).classes
    (subst (Every (λ n. n < length table.places)) (sym (constants_numbered (outermost table program) program.constants).numbers)
    (every_map (λ n. n < length table.places) (λ (d : DeclaredType). number_at table.places d.name.at.from) _
    (fewer_of (IsAmong table.places) program.constants
    (subst (λ places. Every (IsAmong places) (declarations_of program).types) (sym is.places)
    (each_among [] (declarations_of program).types))))))
