-- A program without a fault.
use Rattle.std.proofs.Common.{◌≡◌, List, [], ◌∷◌, map, Option, None, true, is_some, refl, sym, ap, subst, ◌∙◌}
use Rattle.std.specs.Prelude.{slice_get}
use Rattle.ec_ast.specs.declared.Constant.{Constant}
use Rattle.ec_ast.specs.declared.Program.{Program}
use Rattle.ec_check.proofs.Every.{all_of, every_weaker}
use Rattle.ec_check.proofs.KnownTypes.{HasType, is_there}
use Rattle.ec_check.proofs.NumberedPrograms.{classes_rise, classes_have_operations}
use Rattle.ec_check.proofs.RangedPrograms.{program_ranged}
use Rattle.ec_check.proofs.SoundPrograms.{types_are_known}
use Rattle.ec_check.proofs.WellPrograms.{program_well}
use Rattle.ec_check.proofs.WellTrees.{well_part, well_body}
use Rattle.ec_check.specs.Accepted.{HasCore}
use Rattle.ec_check.specs.Program.{core_in, core_of, types_of_program}
use Rattle.ec_types.specs.Declarations.{declarations_of}
use Rattle.ec_types.specs.Table.{Table, IsTable}
use Rattle.ec_core.specs.declared.Core.{Core}
use Rattle.ec_rules.proofs.Order.{first_in_order}
use Rattle.ec_rules.specs.Faults.{StaticFaults, faults_of_constants, faults_of_program, scope_of_program}
use Rattle.ec_rules.specs.Rules.{least_of}
use Rattle.ec_rules.specs.Tree.{constant_part}
use Rattle.ec_rules.specs.declared.StaticFault.{StaticFault}
use Rattle.ec_types.specs.declared.scopes.scope.Scope.{Scope}

pub empty_if : (xs : List StaticFault) → slice_get xs 0 ≡ None → xs ≡ []
empty_if [] e = refl
empty_if (x ∷ xs) e = cc

module _ (program : Program) (table : Table) (scope : Scope) (cs : List Constant) (is_table : IsTable (declarations_of program) table)
    (s : scope ≡ scope_of_program table (map constant_part cs)) (c : cs ≡ program.constants) where
  faultless : (first : Option StaticFault) → first ≡ least_of None (faults_of_constants scope (map constant_part cs)) → first ≡ None →
      StaticFaults table program ≡ []
  faultless first f n =
      empty_if (StaticFaults table program)
      (first_in_order (faults_of_program table program)
      ∙ sym
      (f ∙ ap (λ x. least_of None (faults_of_constants x (map constant_part cs))) s
      ∙ ap (λ ys. least_of None (faults_of_constants (scope_of_program table (map constant_part ys)) (map constant_part ys))) c)
      ∙ n)

  -- what the laws say of it
  core_is : StaticFaults table program ≡ [] → HasCore program table (core_of table program)
  core_is none = record {
    is_table = is_table;
    accepted = none;
    typed =
        all_of (λ of. is_some of ≡ true) (types_of_program table program)
        (every_weaker HasType (λ of. is_some of ≡ true) is_there (types_of_program table program)
        (types_are_known table program is_table none));
    resolved = refl;
    numbered = program_ranged table program none;
    well_typed = program_well well_part well_body table program is_table none;
    classes = classes_rise table program is_table;
    operations = classes_have_operations table program is_table none;
  }

  kept : (own : Scope) → own ≡ scope_of_program table (map constant_part cs) → own.table ≡ table
  kept own e = ap (λ x. x.table) e

  pub has_core : (first : Option StaticFault) → first ≡ least_of None (faults_of_constants scope (map constant_part cs)) → first ≡ None →
      (walked : Scope) → walked ≡ scope → (core : Core) → core ≡ core_in walked cs → (own : Table) → own ≡ walked.table →
      HasCore program own core
  has_core first f n walked w core k own o =
      let none = faultless first f n in
      let resolved = k ∙ ap (λ x. core_in x cs) (w ∙ s)
      ∙ ap (λ ys. core_in (scope_of_program table (map constant_part ys)) ys) c in
      subst (λ t. HasCore program t core) (sym (o ∙ kept walked (w ∙ s)))
      (subst (HasCore program table) (sym resolved) (core_is none))
