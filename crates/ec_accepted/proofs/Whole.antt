-- The program that a source is lowered to is well typed, operation by operation.
use Rattle.std.proofs.Common.{◌≡◌, ℕ, zero, suc, ◌<◌, inl, inr, true, List, [], ◌∷◌, length, Some, refl, sym, ap, ◌∙◌}
use Rattle.std.proofs.Common.{subst, arith, slice_index_or}
use Rattle.std.proofs.lemmas.List.Elements.{All-weaker, recursion_from_All}
use Rattle.std.specs.List.{All, AllByRecursion as Each}
use Rattle.std.specs.Prelude.{slice_get}
use Rattle.ec_check.proofs.Every.{Every}
use Rattle.ec_check.specs.Numbers.{Number, in_block, in_expression}
use Rattle.ec_check.specs.WellTyped.{IsWellConstant, IsWellOperation, conforms_if, goes_in, is_well_block, site_in, typed}
use Rattle.ec_code.specs.declared.code.Operation.{Operation as Lowered}
use Rattle.ec_code.specs.declared.code.Parts.{Parts}
use Rattle.ec_code.specs.Fine.{Fine, FineOperation, IsIn}
use Rattle.ec_code.specs.Typing.{class_type, type_if}
use Rattle.ec_types.specs.Types.{named}
use Rattle.ec_types.specs.Known.{IsOfProgram}
use Rattle.ec_core.specs.declared.Class.{Class}
use Rattle.ec_core.specs.declared.Constant.{Constant}
use Rattle.ec_core.specs.declared.Expression.{Expression}
use Rattle.ec_core.specs.declared.Field.{Field}
use Rattle.ec_core.specs.declared.Kind.{Kind}
use Rattle.ec_core.specs.declared.Kind.TheVariants as kind
use Rattle.ec_core.specs.declared.Operation.{Operation}
use Rattle.ec_core_laws.specs.Headings.{HeadingFits}
use Rattle.ec_core_laws.specs.Waiting.{MayUse, UsesItsConditions, conditions_of_block}
use Rattle.ec_core_laws.specs.Makings.{BeginsBare, IsBareAs, MakesRight}
use Rattle.ec_core_laws.specs.Formed.{IsFormedClass, IsFormedConstant, IsFormedOperation, IsOf}
use Rattle.ec_emission.proofs.Forms.{both_true}
use Rattle.ec_emission.proofs.Literals.{empty_among}
use Rattle.ec_emission.specs.Expressions.{emitted, fits_here, has_text}
use Rattle.ec_emission.specs.Literals.{literals_of}
use Rattle.ec_emission.specs.Statements.{block_of, body_done, leave_ops, operation_fits, program_fits}
use Rattle.ec_emission_laws.proofs.Cores.{parts_fit}
use Rattle.ec_accepted.proofs.Classes.{fine_classes}
use Rattle.ec_accepted.proofs.Finding.{all_at, class_found, first_lowered, made_there, no_some, same_some}
use Rattle.ec_accepted.specs.Classes.{HasFineClasses}
use Rattle.ec_accepted.specs.FineClassesSound.{HasSoundClasses, KeepsTypes, TakesNothing, TakesNothingAs}
use Rattle.ec_accepted.proofs.Bodies.{BlockFacts}
use Rattle.ec_accepted.proofs.Conditions.{conditions_fine}
use Rattle.ec_accepted.proofs.Constants.{Beginning, IsFineConstant, program_fine, stage_outside}
use Rattle.ec_accepted.proofs.Leaving.{IsLoweredRight, Routine, end_fine, setting_of}
use Rattle.ec_accepted.proofs.Operations.{operation_fine, stage_of}
use Rattle.ec_accepted.proofs.Reaching.{Begins, opened}
use Rattle.ec_accepted.proofs.Stages.{IsSound as IsSoundStage, Judged, Stage, code_of, type_of}
use Rattle.ec_accepted.specs.FineProgramsSound.{IsSound}
use Rattle.ec_accepted.proofs.Expressions.{is_fine}
use Rattle.ec_accepted.proofs.Pieces.{silent}
use Rattle.ec_accepted.proofs.Placing.{Grounds, OperationAt, every_of, operation_at, outside_known, stand, stand_known}
use Rattle.ec_accepted.proofs.Placing.{stand_outside}
use Rattle.ec_accepted.proofs.Shapes.{of_types}
use Rattle.ec_accepted.proofs.Shown.{frame}
use Rattle.ec_accepted.proofs.Standing.{Known, Stand, Stated, site}
use Rattle.ec_emission.specs.Lowered.{AreOperationsOf, IsLowered, IsOperationOf, IsProgramOf, class_declared}
use Rattle.ec_emission.specs.Lowered.{class_of_operation, declared_of}
use Rattle.ec_meaning.specs.Programs.{Source, class_number}
use Rattle.ec_meaning.specs.Steps.{captured_by, captured_in}
use Rattle.ec_world.specs.Agree.{AllTwo}
use Rattle.ec_world.specs.declared.class.ClassNo.TheVariants.{Made}

-- ---- lists

there_in : (cs : List Class) (k : ℕ) (c : Class) → slice_get cs k ≡ Some c → IsIn c cs
there_in [] k c e = no_some c e
there_in (x ∷ cs) zero c e = inl (sym (same_some x c e))
there_in (x ∷ cs) (suc k) c e = inr (there_in cs k c e)

operation_in : (os : List Operation) (i : ℕ) (o : Operation) → slice_get os i ≡ Some o → IsIn o os
operation_in [] i o e = no_some o e
operation_in (x ∷ os) zero o e = inl (sym (same_some x o e))
operation_in (x ∷ os) (suc i) o e = inr (operation_in os i o e)

read_at : (cs : List Class) (k : ℕ) (c : Class) → k < length cs → slice_index_or cs k c ≡ c → slice_get cs k ≡ Some c
read_at [] k c l e = absurd (omega arith)
read_at (x ∷ cs) zero c l e = ap Some e
read_at (x ∷ cs) (suc k) c l e = let b : k < length cs = omega arith in read_at cs k c b e

each_in : (P : Class → Type 0) (cs : List Class) (c : Class) → Each P cs → IsIn c cs → P c
each_in P [] c h i = absurd i
each_in P (x ∷ cs) c h (inl e) = subst P (sym e) h.0
each_in P (x ∷ cs) c h (inr i) = each_in P cs c h.1 i

-- the operation of a core that is lowered to one at a place
lowers_at : (s : Source) (os : List Operation) (ms : List Lowered) → AllTwo (IsOperationOf s) os ms →
    (n : ℕ) (m : Lowered) →
    slice_get ms n ≡ Some m → (o : Operation) × (slice_get os n ≡ Some o)
lowers_at s [] [] h n m e = no_some m e
lowers_at s [] (x ∷ ms) h n m e = absurd h
lowers_at s (o ∷ os) [] h n m e = absurd h
lowers_at s (o ∷ os) (x ∷ ms) h zero m e = (o, refl)
lowers_at s (o ∷ os) (x ∷ ms) h (suc n) m e = lowers_at s os ms h.1 n m e

behind_first : (s : Source) (ms : List Lowered) → AreOperationsOf s ms → (n : ℕ) (m : Lowered) →
    slice_get ms (suc n) ≡ Some m →
    (o : Operation) × (slice_get s.core.operations n ≡ Some o)
behind_first s [] h n m e = absurd h
behind_first s (x ∷ ms) h n m e = lowers_at s s.core.operations ms h.1 n m e

module _ (s : Source) (p : Parts) (sound : IsSound s) (lowered : IsLowered s p) where
  abbrev Right : Number → Type 0
  Right = MakesRight s.core.classes

  grounds : Grounds s p Right
  grounds = record {
    lowered = lowered;
    conforms = λ a b e. (sound.answers a b).0 e;
    known = sound.known;
    formed = sound.formed;
    rising = sound.numbers;
    operations = sound.operations;
    constructs = λ n values r k i e.
        each_in (λ (c : Class). c.number ≡ n → c.parameters ≡ 0) s.core.classes k
        (recursion_from_All (λ (c : Class). c.number ≡ n → c.parameters ≡ 0) s.core.classes r) i e;
    creates = λ n arguments r k i e.
        each_in (λ (c : Class). c.number ≡ n → c.captured ≡ []) s.core.classes k
        (recursion_from_All (λ (c : Class). c.number ≡ n → c.captured ≡ []) s.core.classes r) i e;
  }

  empty : has_text p.literals [] ≡ true
  empty = ap (λ z. has_text z []) lowered.literals ∙ empty_among s.core

  -- ---- an operation of a class

  module _ (i : ℕ) (o : Operation) (at : slice_get s.core.operations i ≡ Some o) (k : ℕ) (c : Class)
      (there : slice_get s.core.classes k ≡ Some c) (own : c.number ≡ o.class) where
    abbrev among : IsIn c s.core.classes
    among = there_in s.core.classes k c there

    abbrev place : Stand
    place = stand s p Right grounds c among o (sym own) i at

    abbrev made : Lowered
    made = (operation_at s p Right grounds i o at).made

    abbrev routine : Routine
    routine = record { source = s; parts = p; number = suc i; operation = o; lowered = made }

    lowers : IsOperationOf s o made
    lowers = (operation_at s p Right grounds i o at).of

    class_at : class_of_operation s o ≡ Made k
    class_at = ap (class_number s) (sym own) ∙ class_found s sound.numbers k c there

    class_is : class_type (declared_of s) made.class ≡ named o.class
    class_is =
        ap (class_type (declared_of s)) (lowers.class ∙ class_at)
        ∙ ap type_if (made_there class_declared s.core.classes k c there)
        ∙ ap named own

    formed_operation : IsFormedOperation (length s.table.types) o
    formed_operation = all_at (IsFormedOperation (length s.table.types)) s.core.operations i o sound.formed.operations at

    formed_class : IsFormedClass (length s.table.types) c
    formed_class = all_at (IsFormedClass (length s.table.types)) s.core.classes k c sound.formed.classes there

    known : Known place Right
    known = stand_known s p Right grounds c among o (sym own) i at (operation_in s.core.operations i o at)

    right : IsLoweredRight routine
    right = record {
      lowers = lowers;
      heading = all_at HeadingFits s.core.operations i o sound.headings at;
      class_is = class_is;
      class_there = subst (λ n. n < length s.table.types) own formed_class.number;
      variables = known.variables;
      known = sound.known;
    }

    abbrev stage : Stage
    stage = stage_of routine right (site place) Right

    shown : (x : Expression) → Judged stage x → Stated place (type_of stage x) (code_of stage x)
    shown x j = (is_fine place Right known x j.fits j.formed j.numbers).stated j.well

    stage_sound : IsSoundStage stage
    stage_sound = record {
      variables = refl;
      answers = λ a b e. (sound.answers a b).0 e;
      known = sound.known;
      declared = known.variables;
      fields = known.own_fields;
      kept = known.fields;
      before = refl;
      empty = empty;
      end = end_fine routine right (Begins (setting_of routine)) (λ rest h. opened (setting_of routine) (frame
          (setting_of routine) []) rest h);
      shown = λ x j. (shown x j).shown;
      of_program = λ x j. (shown x j).of;
    }

    -- it is well typed at this class
    module _ (well : is_well_block (site_in s.table s.core c o) o.block ≡ true) (usable : Every (MayUse o.kind c)
        (conditions_of_block o.block))
      where
        well_here : is_well_block (site place) o.block ≡ true
        well_here =
            subst (λ ts. is_well_block (record (site place) { variables = ts }) o.block ≡ true) (sym lowers.variables) well

        fits_before : (body_done s (length c.captured) (literals_of s.core) o).fits ≡ true
        fits_before =
            (both_true (body_done s (length c.captured) (literals_of s.core) o).fits _
            (all_at (λ (x : Operation). operation_fits s (length c.captured) (literals_of s.core) x ≡ true)
            s.core.operations i o
            ((parts_fit s sound.well sound.exits sound.drops).operations (length c.captured)) at)).0

        fits_here_too : (block_of s (length c.captured) made.variables p.literals (leave_ops o) o.block).fits ≡ true
        fits_here_too =
            ap (λ ts. (block_of s (length c.captured) ts p.literals (leave_ops o) o.block).fits) lowers.variables
            ∙ ap (λ ls. (block_of s (length c.captured) o.variables ls (leave_ops o) o.block).fits) lowered.literals
            ∙ fits_before

        facts : BlockFacts stage stage_sound o.block
        facts = record {
          is_well = well_here;
          is_fit = fits_here_too;
          is_formed = formed_operation.block;
          are_right =
              every_of Right (in_block o.block)
              (all_at (λ (x : Operation). All Right (in_block x.block)) s.core.operations i o sound.made.operations at);
          are_usable = conditions_fine s p sound.numbers lowered i o at made lowers k c there own (conditions_of_block
              o.block) usable;
        }

        counted : captured_by s (class_of_operation s o) ≡ length c.captured
        counted = ap (captured_by s) class_at ∙ ap captured_in there

        fine_here : FineOperation (declared_of s) p (suc i) made
        fine_here = operation_fine routine right (site place) Right stage_sound facts lowered counted

  -- ---- the program's own operation

  module _ (made : Lowered) (is : IsProgramOf s made) where
    abbrev beginning : Beginning
    beginning = record { source = s; parts = p; lowered = made }

    abbrev outside : Stand
    outside = stand_outside s p Right grounds 0 made is

    known_outside : Known outside Right
    known_outside = outside_known s p Right grounds 0 made is

    abbrev stage_here : Stage
    stage_here = stage_outside beginning (site outside) Right

    shown_outside : (x : Expression) → Judged stage_here x → Stated outside (type_of stage_here x) (code_of stage_here x)
    shown_outside x j = (is_fine outside Right known_outside x j.fits j.formed j.numbers).stated j.well

    outside_sound : IsSoundStage stage_here
    outside_sound = record {
      variables = refl;
      answers = λ a b e. (sound.answers a b).0 e;
      known = sound.known;
      declared = known_outside.variables;
      fields = known_outside.own_fields;
      kept = known_outside.fields;
      before = refl;
      empty = empty;
      end = silent (λ rest h. h);
      shown = λ x j. (shown_outside x j).shown;
      of_program = λ x j. (shown_outside x j).of;
    }

    -- a constant that is well typed, with what is proved of its value
    constant_fine : (c : Constant) → IsWellConstant s.table s.core c →
        fits_here (emitted s 0 0 (literals_of s.core) c.value) ≡ true →
        IsFormedConstant (length s.table.types) c → All Right (in_expression c.value) →
        IsFineConstant beginning (site outside) Right c
    constant_fine c well fits formed makes =
        let goes : goes_in s.table c.of (type_of stage_here c.value) ≡ true =
        subst (λ ts. goes_in s.table c.of (typed (record (site outside) { variables = ts }) c.value) ≡ true) (sym
        is.variables) well in
        let own : (emitted s 0 0 (literals_of s.core) c.value).fits ≡ true =
        (both_true (emitted s 0 0 (literals_of s.core) c.value).gives (emitted s 0 0 (literals_of s.core) c.value).fits
        fits).1 in
        let fits_too : (code_of stage_here c.value).fits ≡ true =
        ap (λ n. (emitted s 0 n p.literals c.value).fits) (ap length is.variables)
        ∙ ap (λ ls. (emitted s 0 0 ls c.value).fits) lowered.literals
        ∙ own in
        record {
          judged = record {
            well = (both_true (type_of stage_here c.value).is_well (conforms_if s.table (type_of stage_here c.value).of
                c.of) goes).0;
            fits = fits_too;
            formed = formed.value;
            numbers = every_of Right (in_expression c.value) makes;
          };
          of = of_types s.table.types c.of formed.of;
          goes = goes;
        }

    constants_fine : (cs : List Constant) → Each (IsWellConstant s.table s.core) cs →
        program_fits s (literals_of s.core) cs ≡ true →
        Each (IsFormedConstant (length s.table.types)) cs → Each (λ (c : Constant). All Right (in_expression c.value)) cs →
        Each (IsFineConstant beginning (site outside) Right) cs
    constants_fine [] well fits formed makes = tt
    constants_fine (c ∷ cs) well fits formed makes =
        let b = both_true (fits_here (emitted s 0 0 (literals_of s.core) c.value)) (program_fits s (literals_of s.core)
        cs) fits in
        (constant_fine c well.0 b.0 formed.0 makes.0, constants_fine cs well.1 b.1 formed.1 makes.1)

    all_constants : Each (IsFineConstant beginning (site outside) Right) s.core.constants
    all_constants =
        constants_fine s.core.constants
        (recursion_from_All (IsWellConstant s.table s.core) s.core.constants sound.well.constants)
        ((parts_fit s sound.well sound.exits sound.drops).constants)
        (recursion_from_All (IsFormedConstant (length s.table.types)) s.core.constants sound.formed.constants)
        (recursion_from_All (λ (c : Constant). All Right (in_expression c.value)) s.core.constants sound.made.constants)

    first_fine : FineOperation (declared_of s) p 0 made
    first_fine = program_fine beginning (site outside) Right outside_sound lowered is all_constants

  -- ---- each operation

  -- no two classes have one number
  same_class : (k l : ℕ) (c b : Class) → slice_get s.core.classes k ≡ Some c → slice_get s.core.classes l ≡ Some b →
      c.number ≡ b.number → c ≡ b
  same_class k l c b e f same =
      let places : Made k ≡ Made l =
      sym (class_found s sound.numbers k c e) ∙ ap (class_number s) same ∙ class_found s sound.numbers l b f in
      let place : k ≡ l = cc in
      same_some c b (sym e ∙ ap (λ j. slice_get s.core.classes j) place ∙ f)

  later_fine : (i : ℕ) (o : Operation) (at : slice_get s.core.operations i ≡ Some o) → (m : Lowered) →
      slice_get p.operations (suc i) ≡ Some m → FineOperation (declared_of s) p (suc i) m
  later_fine i o at m e =
      let well = all_at (IsWellOperation s.table s.core) s.core.operations i o sound.well.operations at in
      let uses = all_at (UsesItsConditions s.core.classes) s.core.operations i o sound.uses at in
      let there : slice_get s.core.classes well.0 ≡ Some well.1 = read_at s.core.classes well.0 well.1 well.2 well.3 in
      let used : slice_get s.core.classes uses.0 ≡ Some uses.1 = read_at s.core.classes uses.0 uses.1 uses.2 uses.3 in
      let one : uses.1 ≡ well.1 = same_class uses.0 well.0 uses.1 well.1 used there (uses.4.0 ∙ sym well.4.0) in
      let usable : Every (MayUse o.kind well.1) (conditions_of_block o.block) =
      subst (λ c. Every (MayUse o.kind c) (conditions_of_block o.block)) one
      (every_of (MayUse o.kind uses.1) (conditions_of_block o.block) uses.4.1) in
      let found : OperationAt s p Right grounds i o = operation_at s p Right grounds i o at in
      let same : m ≡ found.made = same_lowered (sym e ∙ found.is) in
      subst (λ z. FineOperation (declared_of s) p (suc i) z) (sym same)
      (fine_here i o at well.0 well.1 there well.4.0 well.4.1 usable)
    where
      same_lowered : {a b : Lowered} → Some a ≡ Some b → a ≡ b
      same_lowered {a} {b} f = same_some a b f

  each_fine : (n : ℕ) (m : Lowered) → slice_get p.operations n ≡ Some m → FineOperation (declared_of s) p n m
  each_fine zero m e =
      let first = first_lowered s p.operations lowered.operations in
      let same : m ≡ first.0 = same_some m first.0 (sym e ∙ first.1) in
      subst (λ z. FineOperation (declared_of s) p 0 z) (sym same)
      (first_fine first.0 first.2)
  each_fine (suc i) m e =
      let found = behind_first s p.operations lowered.operations i m e in later_fine i found.0 found.1 m e

  -- ---- the whole

  takes_nothing : (o : Operation) → BeginsBare o → TakesNothing o
  takes_nothing o h = by o.kind h
    where
      by : (k : Kind) → IsBareAs k o → TakesNothingAs k o
      by kind.Named h = tt
      by kind.Initial h = h.parameters
      by kind.Process h = h.parameters

  classes_sound : HasSoundClasses s
  classes_sound = record {
    numbers = sound.numbers;
    types =
        All-weaker (IsFormedClass (length s.table.types)) (λ (c : Class). c.number < length s.table.types) (λ c f. f.number)
        s.core.classes sound.formed.classes;
    keeps =
        All-weaker (IsFormedClass (length s.table.types)) (KeepsTypes s)
        (λ c f.
        record {
          captured = All-weaker (IsOf (length s.table.types)) (IsOfProgram s.table.types) (of_types s.table.types)
              c.captured f.captured;
          fields =
              All-weaker (λ (x : Field). IsOf (length s.table.types) x.of) (λ (x : Field). IsOfProgram s.table.types x.of)
              (λ x h. of_types s.table.types x.of h) c.fields f.fields;
        })
        s.core.classes sound.formed.classes;
    constants =
        All-weaker (IsFormedConstant (length s.table.types)) (λ (c : Constant). IsOfProgram s.table.types c.of)
        (λ c f. of_types s.table.types c.of f.of) s.core.constants sound.formed.constants;
    operations = sound.operations;
    begins = sound.begins;
    beginnings = All-weaker BeginsBare TakesNothing takes_nothing s.core.operations sound.made.begins;
    answers = sound.answers;
  }

  pub fine : Fine (declared_of s) p
  fine =
      let c : HasFineClasses s p = fine_classes s p classes_sound lowered in
      record {
        begins = c.begins;
        few = sound.few;
        known = sound.known;
        operations = each_fine;
        classes = c.classes;
        declared = c.declared;
        constants = c.constants;
      }
