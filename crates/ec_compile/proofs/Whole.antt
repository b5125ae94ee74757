-- What an accepted text is lowered to is within the limits of code.
use Rattle.std.proofs.Common.{◌≡◌, ℕ, suc, ◌+◌, ◌*◌, ◌≤◌, List, [], ◌∷◌, length, map, take, All, Some, slice_get}
use Rattle.std.proofs.Common.{refl, sym, ap, subst, arith}
use Rattle.std.proofs.lemmas.List.{length-append, length-map, length-take}
use Rattle.std.proofs.lemmas.List.Sums.{sum_by-cons}
use Rattle.std.specs.Prelude.{sum_by}
use Rattle.ec_ast.specs.declared.Program.{Program}
use Rattle.ec_check.proofs.Every.{Every, all_of, every_weaker}
use Rattle.ec_check.specs.Accepted.{HasCore}
use Rattle.ec_check.specs.Numbers.{Begun, Condition, Constructed, Created, InRange, IsOperation, Kept, Limits, Number, in_block}
use Rattle.ec_check.specs.Numbers.{in_expression, limits_of, limits_outside, whole_of}
use Rattle.ec_check.specs.Program.{core_of}
use Rattle.ec_code.specs.declared.code.Line.{Line}
use Rattle.ec_code.specs.declared.code.Operation.{Operation as Made}
use Rattle.ec_code.specs.declared.code.Parts.{Parts}
use Rattle.ec_code.specs.Fine.{IsIn}
use Rattle.ec_machine_code.specs.Limits.{HasColumns, HasFewFields, HasLimits, IsSmallOperation, steps_of}
use Rattle.ec_compile.proofs.Forms.{IsCounted}
use Rattle.ec_compile.proofs.Lines.{as_long, each_is, has_its_variables, lines_have}
use Rattle.ec_compile.proofs.Operations.{operation_within, program_within}
use Rattle.ec_compile.proofs.CodeSizesTexts.{few_literals}
use Rattle.ec_compile.proofs.Within.{Within}
use Rattle.ec_core.specs.declared.Class.{Class}
use Rattle.ec_core.specs.declared.Constant.{Constant}
use Rattle.ec_core.specs.declared.Core.{Core}
use Rattle.ec_core.specs.declared.Operation.{Operation}
use Rattle.ec_core.specs.declared.Place.TheVariants as place
use Rattle.ec_core_laws.proofs.CountedPrograms.{each_has_few}
use Rattle.ec_core_laws.proofs.Headings.{each_fits}
use Rattle.ec_core_laws.proofs.SmallOperations.{each_is_small}
use Rattle.ec_core_laws.specs.Counts.{HasFewParts}
use Rattle.ec_core_laws.specs.Headings.{HeadingFits}
use Rattle.ec_core_laws.specs.Measures.{IsSmall, height_of_block, size_of_block}
use Rattle.ec_core_laws.proofs.Constants.{constants_are_small}
use Rattle.ec_core_laws.proofs.Few.{each_has_few_fields, each_has_few_parameters}
use Rattle.ec_core_laws.proofs.Whole.{captured_once, nodes_have_tokens}
use Rattle.ec_core_laws.specs.Captures.{captures_of_block}
use Rattle.ec_core_laws.specs.Constants.{HasSmallConstants, captures_of_constants, height_of_constants, size_of_constants}
use Rattle.ec_core_laws.specs.Limits.{HasFewParameters, captured_by, captures_of_core, captures_of_operations, size_of_core}
use Rattle.ec_core_laws.specs.Limits.{size_of_operations}
use Rattle.ec_core_laws.specs.Limits as core_limits
use Rattle.ec_emission.specs.Literals.{literals_of}
use Rattle.ec_emission.specs.Statements.{operation_ops, program_ops}
use Rattle.ec_lexer.proofs.Reading.{few_tokens}
use Rattle.ec_lexer.specs.Tokens.{HasTokens}
use Rattle.ec_lexer.specs.declared.token.Token.{Token}
use Rattle.ec_emission.specs.Lowered.{AreOperationsOf, IsLowered, IsOperationOf, IsProgramOf, around, class_of_operation}
use Rattle.ec_meaning.specs.Programs.{Source, captured_field, class_of, declared_field}
use Rattle.ec_meaning.specs.Steps.{captured_by as captured_names}
use Rattle.ec_meaning.specs.Types.{kind_of}
use Rattle.ec_parser.specs.HasTree.{HasTree}
use Rattle.ec_world.specs.Agree.{AllTwo}
use Rattle.ec_world.specs.declared.class.ClassNo.TheVariants.{Program as OwnClass}

-- ---- lists

every_of : {A : Type 0} (P : A → Type 0) (xs : List A) → All P xs → Every P xs
every_of P [] h = tt
every_of P (x ∷ xs) h = (h 0 x (omega arith), every_of P xs (λ i d l. h (suc i) d (omega arith)))

-- ---- numbers

-- a number in range at an operation counts among its variables
counted : (limits : Limits) (n : Number) → InRange limits n → IsCounted limits.variables n
counted limits (Kept (place.Variable n)) h = h
counted limits (Kept (place.Captured n)) h = tt
counted limits (Kept (place.Field n)) h = tt
counted limits (Kept (place.Constant n)) h = tt
counted limits (Constructed class values) h = tt
counted limits (Created class arguments) h = tt
counted limits (Begun n) h = h
counted limits (Condition n) h = tt

operation_counts : (core : Core) (o : Operation) → IsOperation (whole_of core) o →
    Every (IsCounted (length o.variables)) (in_block o.block)
operation_counts core o h =
    let limits : Limits = limits_of (whole_of core) h.1 o in
    every_weaker (InRange limits) (IsCounted (length o.variables)) (counted limits) (in_block o.block)
    (every_of (InRange limits) (in_block o.block) h.4.1)

abbrev Counts : Constant → Type 0
Counts c = Every (IsCounted 0) (in_expression c.value)

constant_counts : (core : Core) (c : Constant) → All (InRange (limits_outside (whole_of core))) (in_expression c.value) → Counts c
constant_counts core c h =
    every_weaker (InRange (limits_outside (whole_of core))) (IsCounted 0) (counted (limits_outside (whole_of core)))
    (in_expression c.value) (every_of (InRange (limits_outside (whole_of core))) (in_expression c.value) h)

-- ---- one operation

-- what is known of an operation of the core
record Good (o : Operation) : Type 0 where
  pub small : IsSmall o
  pub heading : HeadingFits o
  pub few : HasFewParameters o
  pub counts : Every (IsCounted (length o.variables)) (in_block o.block)

code_length : (s : Source) (o : Operation) (made : Made) → IsOperationOf s o made → length made.code ≡ length (operation_ops s
    (captured_names s (class_of_operation s o)) (literals_of s.core) o)
code_length s o made h =
    as_long (around s (class_of_operation s o) o.variables)
    (operation_ops s (captured_names s (class_of_operation s o)) (literals_of s.core) o) made.code h.code

operation_code : (s : Source) (o : Operation) → Good o →
    Within (length o.variables) (height_of_block o.block)
    (((2 * size_of_block o.block + captures_of_block o.block) + length o.variables) + 2)
    (operation_ops s (captured_names s (class_of_operation s o)) (literals_of s.core) o)
operation_code s o g =
    operation_within s (captured_names s (class_of_operation s o)) (literals_of s.core) o g.heading g.counts

operation_steps : (s : Source) (o : Operation) (made : Made) → Good o → IsOperationOf s o made →
    steps_of made ≤ ((2 * size_of_block o.block + captures_of_block o.block) + length o.variables) + 2
operation_steps s o made g h =
    let w = operation_code s o g in
    let short : length (operation_ops s (captured_names s (class_of_operation s o)) (literals_of s.core) o)
    ≤ ((2 * size_of_block o.block + captures_of_block o.block) + length o.variables) + 2 = w.short in
    let same : length made.code ≡ length (operation_ops s (captured_names s (class_of_operation s o)) (literals_of s.core) o) =
    code_length s o made h in
    omega arith

operation_lines : (s : Source) (o : Operation) (made : Made) → Good o → IsOperationOf s o made → (q : ℕ) (line : Line) →
    slice_get made.code q ≡ Some line → HasColumns (length made.variables) line
operation_lines s o made g h q line e =
    let values : length o.variables + height_of_block o.block ≤ 100 = g.small.values in
    subst (λ vs. HasColumns (length vs) line) (sym h.variables)
    (lines_have (around s (class_of_operation s o) o.variables)
    (operation_ops s (captured_names s (class_of_operation s o)) (literals_of s.core) o) made.code (length o.variables)
    (height_of_block o.block) h.code (operation_code s o g).reach values q line e)

operation_is_small : (s : Source) (o : Operation) (made : Made) → Good o → captures_of_block o.block ≤ 100000 → IsOperationOf s o made →
    IsSmallOperation made
operation_is_small s o made g c h =
    let few : o.parameters ≤ 16 = g.few in
    let size : size_of_block o.block ≤ 4000 = g.small.size in
    let values : length o.variables + height_of_block o.block ≤ 100 = g.small.values in
    let parameters : length made.parameters ≡ length (take o.parameters o.variables) = ap length h.parameters in
    let taken = length-take o.parameters o.variables in
    let variables : length made.variables ≡ length o.variables = ap length h.variables in
    let steps : steps_of made ≤ ((2 * size_of_block o.block + captures_of_block o.block) + length o.variables) + 2 =
    operation_steps s o made g h in
    record {
      parameters = omega arith;
      variables = omega arith;
      steps = omega arith;
      lines = operation_lines s o made g h;
      homes = has_its_variables (length made.variables) made.code (operation_lines s o made g h);
    }

-- ---- all operations

operations_are_small : (s : Source) (os : List Operation) (ms : List Made) → Every Good os →
    captures_of_operations os ≤ 100000 → AllTwo (IsOperationOf s) os ms → Every IsSmallOperation ms
operations_are_small s [] [] g c h = tt
operations_are_small s [] (m ∷ ms) g c h = absurd h
operations_are_small s (o ∷ os) [] g c h = absurd h
operations_are_small s (o ∷ os) (m ∷ ms) g c h =
    let own : captures_of_block o.block ≤ 100000 = omega arith in
    let rest : captures_of_operations os ≤ 100000 = omega arith in
    (operation_is_small s o m g.0 own h.0, operations_are_small s os ms g.1 rest h.1)

all_steps : (s : Source) (os : List Operation) (ms : List Made) → Every Good os → AllTwo (IsOperationOf s) os ms →
    sum_by steps_of ms ≤ (2 * size_of_operations os + captures_of_operations os) + 102 * length os
all_steps s [] [] g h = omega arith
all_steps s [] (m ∷ ms) g h = absurd h
all_steps s (o ∷ os) [] g h = absurd h
all_steps s (o ∷ os) (m ∷ ms) g h =
    let values : length o.variables + height_of_block o.block ≤ 100 = g.0.small.values in
    let own : steps_of m ≤ ((2 * size_of_block o.block + captures_of_block o.block) + length o.variables) + 2 =
    operation_steps s o m g.0 h.0 in
    let rest : sum_by steps_of ms ≤ (2 * size_of_operations os + captures_of_operations os) + 102 * length os = all_steps s os ms g.1 h.1 in
    let sum : sum_by steps_of (m ∷ ms) ≡ steps_of m + sum_by steps_of ms = sum_by-cons steps_of m ms in
    omega arith

as_many : (s : Source) (os : List Operation) (ms : List Made) → AllTwo (IsOperationOf s) os ms → length ms ≡ length os
as_many s [] [] h = refl
as_many s [] (m ∷ ms) h = absurd h
as_many s (o ∷ os) [] h = absurd h
as_many s (o ∷ os) (m ∷ ms) h = ap suc (as_many s os ms h.1)

good_all : (os : List Operation) → Every IsSmall os → Every HeadingFits os → Every HasFewParameters os →
    Every (λ (o : Operation). Every (IsCounted (length o.variables)) (in_block o.block)) os → Every Good os
good_all [] s h f c = tt
good_all (o ∷ os) s h f c =
    (record { small = s.0; heading = h.0; few = f.0; counts = c.0 }, good_all os s.1 h.1 f.1 c.1)

captured_few : (cs : List Class) → Every core_limits.HasFewFields cs → captured_by cs ≤ 100 * length cs
captured_few [] h = omega arith
captured_few (c ∷ cs) h =
    let own : (length c.captured + length c.fields) + c.conditions ≤ 100 = h.0 in
    let rest : captured_by cs ≤ 100 * length cs = captured_few cs h.1 in
    omega arith

fields_few : (s : Source) (cs : List Class) → Every core_limits.HasFewFields cs → Every HasFewFields (map (class_of s) cs)
fields_few s [] h = tt
fields_few s (c ∷ cs) h =
    let own : (length c.captured + length c.fields) + c.conditions ≤ 100 = h.0 in
    let captured : length (map (λ of. captured_field (kind_of of)) c.captured) ≡ length c.captured =
    length-map c.captured (λ of. captured_field (kind_of of)) in
    let declared : length (map declared_field c.fields) ≡ length c.fields = length-map c.fields declared_field in
    let both : length (class_of s c).fields
    ≡ length (map (λ of. captured_field (kind_of of)) c.captured) + length (map declared_field c.fields) =
    length-append (map (λ of. captured_field (kind_of of)) c.captured) (map declared_field c.fields) in
    (omega arith, fields_few s cs h.1)

-- ---- the program's own operation

own_steps : (s : Source) (made : Made) → Every Counts s.core.constants → IsProgramOf s made →
    steps_of made ≤ (2 * size_of_constants s.core.constants + captures_of_constants s.core.constants) + 2
own_steps s made c h =
    let short : length (program_ops s (literals_of s.core))
    ≤ (2 * size_of_constants s.core.constants + captures_of_constants s.core.constants) + 2 =
    (program_within s (literals_of s.core) c).short in
    let same : length made.code ≡ length (program_ops s (literals_of s.core)) =
    as_long (around s OwnClass []) (program_ops s (literals_of s.core)) made.code h.code in
    omega arith

own_lines : (s : Source) (made : Made) → Every Counts s.core.constants → HasSmallConstants s.core → IsProgramOf s made → (q : ℕ)
    (line : Line) → slice_get made.code q ≡ Some line → HasColumns (length made.variables) line
own_lines s made c small h q line e =
    let values : height_of_constants s.core.constants ≤ 100 = small.values in
    subst (λ vs. HasColumns (length vs) line) (sym h.variables)
    (lines_have (around s OwnClass []) (program_ops s (literals_of s.core)) made.code 0 (height_of_constants s.core.constants) h.code
    (program_within s (literals_of s.core) c).reach (omega arith) q line e)

own_is_small : (s : Source) (made : Made) → Every Counts s.core.constants → HasSmallConstants s.core →
    captures_of_constants s.core.constants ≤ 100000 → IsProgramOf s made → IsSmallOperation made
own_is_small s made c small most h =
    let size : size_of_constants s.core.constants ≤ 4000 = small.size in
    let parameters : length made.parameters ≡ 0 = ap length h.parameters in
    let variables : length made.variables ≡ 0 = ap length h.variables in
    let steps : steps_of made ≤ (2 * size_of_constants s.core.constants + captures_of_constants s.core.constants) + 2 =
    own_steps s made c h in
    record {
      parameters = omega arith;
      variables = omega arith;
      steps = omega arith;
      lines = own_lines s made c small h;
      homes = has_its_variables (length made.variables) made.code (own_lines s made c small h);
    }

-- ---- programs

module _ (s : Source) (program : Program) (h : HasCore program s.table s.core) where
  -- what is proved of the core that is made holds of the source's, which is this one
  of_core : (P : Core → Type 0) → P (core_of s.table program) → P s.core
  of_core P k = subst P (sym h.resolved) k

  good : Every Good s.core.operations
  good =
      good_all s.core.operations
      (every_of IsSmall s.core.operations
      (of_core (λ core. All IsSmall core.operations) (each_is_small s.table program h.is_table h.accepted)))
      (every_of HeadingFits s.core.operations
      (of_core (λ core. All HeadingFits core.operations) (each_fits s.table program h.is_table h.accepted)))
      (every_of HasFewParameters s.core.operations
      (of_core (λ core. All HasFewParameters core.operations) (each_has_few_parameters s.table program h.is_table h.accepted)))
      (every_weaker (IsOperation (whole_of s.core)) (λ (o : Operation). Every (IsCounted (length o.variables)) (in_block o.block))
      (operation_counts s.core) s.core.operations
      (every_of (IsOperation (whole_of s.core)) s.core.operations h.numbered.operations))

  counts : Every Counts s.core.constants
  counts =
      every_weaker (λ (c : Constant). All (InRange (limits_outside (whole_of s.core))) (in_expression c.value)) Counts
      (constant_counts s.core) s.core.constants
      (every_of (λ (c : Constant). All (InRange (limits_outside (whole_of s.core))) (in_expression c.value)) s.core.constants
      h.numbered.constants)

  small : HasSmallConstants s.core
  small = of_core HasSmallConstants (constants_are_small s.table program h.accepted)

  pub operation_is_short : (o : Operation) (made : Made) → IsIn o s.core.operations → IsOperationOf s o made →
      steps_of made ≤ ((2 * size_of_block o.block + captures_of_block o.block) + length o.variables) + 2
  operation_is_short o made there k = operation_steps s o made (each_is Good s.core.operations good o there) k

  pub own_is_short : (made : Made) → IsProgramOf s made →
      steps_of made ≤ (2 * size_of_constants s.core.constants + captures_of_constants s.core.constants) + 2
  own_is_short made k = own_steps s made counts k

  module _ (tokens : List Token) (p : Parts) (text : HasTokens s.text tokens) (tree : HasTree tokens program) (lowered : IsLowered s p)
    where
      few : HasFewParts s.core
      few = of_core HasFewParts (each_has_few s.table program h.is_table h.accepted)

      fields : Every core_limits.HasFewFields s.core.classes
      fields =
          every_of core_limits.HasFewFields s.core.classes
          (of_core (λ core. All core_limits.HasFewFields core.classes) (each_has_few_fields s.table program h.is_table h.accepted))

      once : captures_of_core s.core ≤ captured_by s.core.classes
      once = of_core (λ core. captures_of_core core ≤ captured_by core.classes) (captured_once s.table tokens program h.accepted tree)

      captures : captures_of_core s.core ≤ 100000
      captures =
          let a : captures_of_core s.core ≤ captured_by s.core.classes = once in
          let b : captured_by s.core.classes ≤ 100 * length s.core.classes = captured_few s.core.classes fields in
          let c : length s.core.classes ≤ 1000 = few.classes in
          omega arith

      nodes : size_of_core s.core ≤ 1048576
      nodes =
          let a : size_of_core s.core ≤ length tokens =
          of_core (λ core. size_of_core core ≤ length tokens) (nodes_have_tokens s.table tokens program h.accepted tree) in
          let b : length tokens ≤ length s.text = few_tokens text in
          let c : length s.text ≤ 1048576 = text.short in
          omega arith

      -- ---- operations, of which the first is the program's own

      abbrev Limited : List Made → Type 0
      Limited ms = (length ms ≤ 4001) × Every IsSmallOperation ms × (sum_by steps_of ms ≤ 2610000)

      limited : (ms : List Made) → AreOperationsOf s ms → Limited ms
      limited [] k = absurd k
      limited (m ∷ ms) k =
          let c : captures_of_constants s.core.constants + captures_of_operations s.core.operations ≤ 100000 = captures in
          let n : size_of_constants s.core.constants + size_of_operations s.core.operations ≤ 1048576 = nodes in
          let many : length s.core.operations ≤ 4000 = few.operations in
          let same : length ms ≡ length s.core.operations = as_many s s.core.operations ms k.1 in
          let own : steps_of m ≤ (2 * size_of_constants s.core.constants + captures_of_constants s.core.constants) + 2 =
          own_steps s m counts k.0 in
          let rest : sum_by steps_of ms
          ≤ (2 * size_of_operations s.core.operations + captures_of_operations s.core.operations) + 102 * length s.core.operations =
          all_steps s s.core.operations ms good k.1 in
          let sum : sum_by steps_of (m ∷ ms) ≡ steps_of m + sum_by steps_of ms = sum_by-cons steps_of m ms in (
            omega arith,
            (own_is_small s m counts small (omega arith) k.0, operations_are_small s s.core.operations ms good (omega arith) k.1),
            omega arith,
          )

      pub has_limits : HasLimits p
      has_limits =
          let operations : Limited p.operations = limited p.operations lowered.operations in
          let classes : length p.classes ≡ length (map (class_of s) s.core.classes) = ap length lowered.classes in
          let as_classes : length (map (class_of s) s.core.classes) ≡ length s.core.classes = length-map s.core.classes (class_of s) in
          let constants : length p.constants ≡ length (map (λ (c : Constant). c.of) s.core.constants) = ap length lowered.constants in
          let as_constants : length (map (λ (c : Constant). c.of) s.core.constants) ≡ length s.core.constants =
          length-map s.core.constants (λ (c : Constant). c.of) in
          let literals : length p.literals ≡ length (literals_of s.core) = ap length lowered.literals in
          let few_classes : length s.core.classes ≤ 1000 = few.classes in
          let few_constants : length s.core.constants ≤ 4000 = small.count in
          let texts : length (literals_of s.core) ≤ 1 + size_of_core s.core = few_literals s.core in
          let n : size_of_core s.core ≤ 1048576 = nodes in
          record {
            classes = omega arith;
            fields =
                subst (λ cs. All HasFewFields cs) (sym lowered.classes)
                (all_of HasFewFields (map (class_of s) s.core.classes) (fields_few s s.core.classes fields));
            constants = omega arith;
            literals = omega arith;
            count = operations.0;
            operations = all_of IsSmallOperation p.operations operations.1;
            steps = operations.2;
          }
