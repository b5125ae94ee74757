-- Each class of the core of a program is that of a type which the program declares.
use Rattle.std.proofs.Common.{◌≡◌, ℕ, ◌+◌, ◌<◌, ◌==◌, Bool, true, false, ◌⊎◌, inl, inr, List, [], ◌∷◌, length, refl, sym, ap, ◌∙◌}
use Rattle.std.proofs.Common.{subst, if◌then◌else◌, arith}
use Rattle.std.proofs.lemmas.Bool.{eq-eqb}
use Rattle.std.proofs.lemmas.List.{length-map}
use Rattle.ec_ast.specs.declared.Program.{Program}
use Rattle.ec_check.proofs.ConformsToItself.{conforms_to_itself}
use Rattle.ec_check.proofs.Every.{Every, every_weaker, every_unmap}
use Rattle.ec_check.proofs.NumberedPrograms.{objects_of, fewer_of, every_map, constants_numbered}
use Rattle.ec_check.proofs.WellParts.{ConformsToItself}
use Rattle.ec_check.specs.Program.{outermost, core_of}
use Rattle.ec_types.specs.Declarations.{declarations_of}
use Rattle.ec_types.specs.Table.{Table, IsTable}
use Rattle.ec_types.specs.Types.{names_of, number_from, number_at, places_of, type_with}
use Rattle.ec_types.specs.declared.conform.declared.DeclaredType.{DeclaredType}
use Rattle.ec_types.specs.declared.conform.declared.Declarations.{Declarations}
use Rattle.ec_core.specs.declared.Class.{Class}

-- ---- numbers of types

abbrev IsIn : ℕ → List ℕ → Type 0
IsIn at [] = ⊥
IsIn at (place ∷ places) = (place ≡ at) ⊎ IsIn at places

number_below : (places : List ℕ) (n at : ℕ) → IsIn at places → number_from n places at < n + length places
number_below [] n at h = absurd h
number_below (place ∷ places) n at h = by (place == at) refl h (number_below places (n + 1) at)
  where
    by : (b : Bool) → (place == at) ≡ b → IsIn at (place ∷ places) →
        (IsIn at places → number_from (n + 1) places at < n + 1 + length places) →
        (if b then n else number_from (n + 1) places at) < n + length (place ∷ places)
    by true e h k = omega arith
    by false e (inl same) k = let there : (place == at) ≡ true = eq-eqb place at same in cc
    by false e (inr later) k = let l : number_from (n + 1) places at < n + 1 + length places = k later in omega arith

all_in : (places all : List ℕ) → ((at : ℕ) → IsIn at places → IsIn at all) → Every (λ at. IsIn at all) places
all_in [] all w = tt
all_in (place ∷ places) all w = (w place (inl refl), all_in places all (λ at i. w at (inr i)))

-- each type of the table has a number below their count
type_below : (declared : Declarations) (table : Table) (d : DeclaredType) → IsTable declared table →
    IsIn d.name.at.from (places_of declared.types) → number_at table.places d.name.at.from < length table.types
type_below declared table d is i =
    let l : number_from 0 table.places d.name.at.from < 0 + length table.places =
    number_below table.places 0 d.name.at.from (subst (IsIn d.name.at.from) (sym is.places) i) in
    let places : length table.places ≡ length declared.types =
    ap length is.places ∙ length-map declared.types (λ (d : DeclaredType). d.name.at.from) in
    let types : length table.types ≡ length declared.types =
    ap length is.types ∙ length-map declared.types (type_with (names_of declared.types)) in
    omega arith

-- ---- classes

pub classes_are_of_types : (table : Table) (program : Program) → IsTable (declarations_of program) table →
    Every (λ (c : Class). ConformsToItself table c.number) (core_of table program).classes
classes_are_of_types table program is =
    every_unmap (ConformsToItself table) (λ (c : Class). c.number) (core_of table program).classes
    (subst (Every (ConformsToItself table)) (sym (constants_numbered (outermost table program) program.constants).numbers)
    (every_map (ConformsToItself table) (λ (d : DeclaredType). number_at table.places d.name.at.from) (objects_of program.constants)
    (fewer_of (λ d. ConformsToItself table (number_at table.places d.name.at.from)) program.constants
    (every_weaker (λ d. IsIn d.name.at.from (places_of (declarations_of program).types))
    (λ d. ConformsToItself table (number_at table.places d.name.at.from))
    (λ d i.
    conforms_to_itself (declarations_of program) table (number_at table.places d.name.at.from) is
    (type_below (declarations_of program) table d is i))
    (declarations_of program).types
    (every_unmap (λ at. IsIn at (places_of (declarations_of program).types)) (λ (d : DeclaredType). d.name.at.from)
    (declarations_of program).types
    (all_in (places_of (declarations_of program).types) (places_of (declarations_of program).types) (λ at i. i)))))))
