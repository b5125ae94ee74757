-- The program that a source is lowered to is its code.
use Rattle.std.proofs.Common.{◌≡◌, ℕ, zero, suc, ◌+◌, ◌-◌, ◌≤◌, true, List, [], ◌∷◌, ◌++◌, drop, length, map, replicate, Option}
use Rattle.std.proofs.Common.{Some, sym, ap, ◌∙◌, subst, arith, length-take-le}
use Rattle.std.specs.Prelude.{slice_get}
use Rattle.ec_emission.proofs.Agreeing as agreeing
use Rattle.ec_emission.specs.Agreement.{IsCode, IsCodeOf}
use Rattle.ec_emission.specs.AgreementLaws.{source_after}
use Rattle.ec_code.specs.Activations.{code_meaning, code_silent, opened, walk}
use Rattle.ec_code.specs.Fine.{Fine}
use Rattle.ec_code.specs.Steps.{Machine}
use Rattle.ec_code.specs.Typing.{kind_of}
use Rattle.ec_code.specs.declared.code.Operation.{Operation as Made}
use Rattle.ec_code.specs.declared.code.Parts.{Parts}
use Rattle.ec_types.specs.declared.conform.static_type.StaticType.{StaticType}
use Rattle.ec_core.specs.declared.Block.{Block}
use Rattle.ec_core.specs.declared.Operation.{Operation}
use Rattle.ec_core_laws.specs.Headings.{HeadingFits, result_count}
use Rattle.ec_emission.proofs.Defaults.{defaults_given}
use Rattle.ec_emission.specs.Literals.{literals_of}
use Rattle.ec_emission.specs.Statements.{default_ops, operation_fits, operation_ops, program_fits, program_ops}
use Rattle.ec_emission_laws.proofs.Cores.{parts_fit}
use Rattle.ec_emission_laws.specs.Laws.{PartsFit}
use Rattle.ec_emission.specs.Lowered.{AreOperationsOf, IsLowered, IsOperationOf, IsProgramOf, around, class_of_operation, declared_of}
use Rattle.ec_emission_laws.proofs.Parts.{all_at, constant_kinds, made_of, steps_are}
use Rattle.ec_emission_laws.proofs.Standing.{loop_of, operation_in, program_in}
use Rattle.ec_emission_laws.specs.Lowerable.{IsLowerable, loop_in, lowered_loops}
use Rattle.ec_meaning.specs.Activations.{source_meaning}
use Rattle.ec_meaning.specs.Meaning.{constant_items, defaults, items_if, source_silent, source_start}
use Rattle.ec_meaning.specs.Programs.{Source, operation_at}
use Rattle.ec_meaning.specs.Steps.{block_items, captured_by, types_if}
use Rattle.ec_meaning.specs.declared.item.Item.{Item}
use Rattle.ec_meaning.specs.declared.item.Item.TheVariants as i
use Rattle.ec_code.specs.SoundLaws.{world_after}
use Rattle.ec_emission.specs.Ops.{ops}
use Rattle.ec_emission.specs.Stands.{Stands}
use Rattle.ec_world.specs.Agree.{Agree, SameRest}
use Rattle.ec_world.specs.Run.{first_world, run_after}
use Rattle.ec_world.specs.Simulation.{AgreeRun}
use Rattle.ec_world.specs.declared.class.ClassNo.TheVariants.{Program}
use Rattle.ec_world.specs.declared.common.Common.{Common}
use Rattle.ec_world.specs.declared.run.Entry.{Entry}
use Rattle.ec_world.specs.declared.run.RunEntry.{RunEntry}
use Rattle.ec_world.specs.declared.value.Value.{Value}
use Rattle.ec_world.specs.declared.value.Value.TheVariants.{Nil}

-- Where there are no variables and no arguments, there is nothing to begin with.
nothing_opened : (arguments : List Value) (count : ℕ) → length arguments ≡ 0 → count ≡ 0 →
    opened arguments count ≡ arguments ++ defaults (drop (length arguments) [])
nothing_opened [] count e f = let k : count - 0 ≡ 0 = omega arith in ap (λ j. replicate j Nil) k
nothing_opened (x ∷ xs) count e f = absurd (omega arith)

-- what holds of a count, an operation of the source and one of the program, for equal ones
found : (F : ℕ → Option Operation → Option Made → Type 0) {k l : ℕ} {x y : Option Operation} {a b : Option Made} → k ≡ l → x ≡ y →
    a ≡ b → F l y b → F k x a
found F {k} {l} {x} {y} {a} {b} e f g h =
    subst (λ z. F z x a) (sym e) (subst (λ z. F l z a) (sym f) (subst (λ z. F l y z) (sym g) h))

module _ (s : Source) (p : Parts) (asked : IsLowerable s) (lowered : IsLowered s p) where
  fit : PartsFit s
  fit = parts_fit s asked.well_typed asked.exits asked.drops

  -- ---- an operation of an object

  module _ (n : ℕ) (o : Operation) (m : Made) (is : slice_get s.core.operations n ≡ Some o)
      (there : slice_get p.operations (suc n) ≡ Some m) (made : IsOperationOf s o m) where
    abbrev captured : ℕ
    captured = captured_by s m.class

    abbrev body : ℕ
    body = suc (length (default_ops s captured p.literals o))

    fits : operation_fits s captured p.literals o ≡ true
    fits =
        subst (λ ts. operation_fits s captured ts o ≡ true) (sym lowered.literals)
        (all_at (λ (x : Operation). operation_fits s captured (literals_of s.core) x ≡ true) s.core.operations
        (fit.operations captured) n o is)

    same_steps : ops m.code ≡ operation_ops s captured p.literals o
    same_steps =
        subst (λ ts. ops m.code ≡ operation_ops s captured ts o) (sym lowered.literals)
        (subst (λ c. ops m.code ≡ operation_ops s c (literals_of s.core) o) (sym (ap (captured_by s) made.class))
        (steps_are (around s (class_of_operation s o) o.variables)
        (operation_ops s (captured_by s (class_of_operation s o)) (literals_of s.core) o) m.code made.code))

    as_many : (arguments : List Value) → length arguments ≡ length m.parameters → length arguments ≡ o.parameters
    as_many arguments e =
        let heading : o.parameters + result_count o.has_result ≤ length o.variables =
        all_at HeadingFits s.core.operations asked.headings n o is in
        let room : o.parameters ≤ length o.variables = omega arith in
        e ∙ ap length made.parameters ∙ length-take-le o.parameters o.variables room

    -- behind the entry, with these variables
    abbrev machine : Common → List Value → List Value → Machine
    machine c variables temporaries = record { common = c; variables = variables; temporaries = temporaries }

    begins : (own : ℕ) (c : Common) (arguments temporaries : List Value) → length arguments ≡ length m.parameters →
        walk p.literals own 1 (drop 1 m.code) 0 (machine c (opened arguments (length m.variables)) temporaries)
        ≡ walk p.literals own body (drop body m.code) 0
        (machine c (arguments ++ defaults (drop (length arguments) (types_if (operation_at s (suc n))))) temporaries)
    begins own c arguments temporaries e =
        defaults_given s captured p.literals o own m.code (machine c (opened arguments (length m.variables)) temporaries) arguments
        same_steps fits (as_many arguments e) (ap (λ (ts : List StaticType). opened arguments (length ts)) made.variables)
        ∙ ap
        (λ (x : Option Operation).
        walk p.literals own body (drop body m.code) 0
        (machine c (arguments ++ defaults (drop (length arguments) (types_if x))) temporaries))
        (sym is)

    -- the code, by how many variables it has and by what is found of it
    abbrev StandsBy : ℕ → Option Operation → Option Made → List Item → ℕ → Type 0
    StandsBy count x y items q =
        Stands s (suc n) captured count p.literals (ops m.code) (loop_in s p (suc n) x y) [] q items

    abbrev LoopsBy : ℕ → Option Operation → Option Made → Type 0
    LoopsBy count x y =
        (top again : ℕ) (b : Block) (items : List Item) → loop_in s p (suc n) x y top again b → StandsBy count x y items (suc again) →
        StandsBy count x y (block_items b ++ i.Again b ∷ items) (suc top)

    operation_is_code : IsCode lowered_loops s p (suc n) m
    operation_is_code =
        let count : length m.variables ≡ length o.variables = ap length made.variables in
        record {
          variables = count ∙ sym (ap (λ (x : Option Operation). length (types_if x)) is);
          body = body;
          begins = begins;
          stands =
              found (λ k x y. StandsBy k x y (items_if s x) body) count is there
              (operation_in s (suc n) captured p.literals o is (ops m.code) (sym same_steps) fits);
          loops = found LoopsBy count is there (loop_of s (suc n) captured p.literals o is (ops m.code) (sym same_steps));
        }

  -- ---- the program's own operation

  module _ (m : Made) (made : IsProgramOf s m) where
    same_program : ops m.code ≡ program_ops s p.literals
    same_program =
        subst (λ ts. ops m.code ≡ program_ops s ts) (sym lowered.literals)
        (steps_are (around s Program []) (program_ops s (literals_of s.core)) m.code made.code)

    constants_fit : program_fits s p.literals s.core.constants ≡ true
    constants_fit = subst (λ ts. program_fits s ts s.core.constants ≡ true) (sym lowered.literals) fit.constants

    program_is_code : IsCode lowered_loops s p 0 m
    program_is_code =
        let count : length m.variables ≡ 0 = ap length made.variables in
        let captured : captured_by s m.class ≡ 0 = ap (captured_by s) made.class in
        record {
          variables = count;
          body = 1;
          begins = λ own c arguments temporaries e.
              ap
              (λ (vs : List Value).
              walk p.literals own 1 (drop 1 m.code) 0 (record { common = c; variables = vs; temporaries = temporaries }))
              (nothing_opened arguments (length m.variables) (e ∙ ap length made.parameters) count);
          stands =
              subst
              (λ k.
              Stands s 0 k (length m.variables) p.literals (ops m.code) (lowered_loops s p 0) [] 1 (constant_items 0 s.core.constants))
              (sym captured)
              (subst
              (λ k. Stands s 0 0 k p.literals (ops m.code) (lowered_loops s p 0) [] 1 (constant_items 0 s.core.constants))
              (sym count) (program_in s 0 p.literals (ops m.code) (sym same_program) constants_fit));
          loops = λ top again b items is d. absurd is;
        }

  -- ---- the program

  each_is_code : (ms : List Made) → AreOperationsOf s ms → (number : ℕ) (m : Made) → slice_get ms number ≡ Some m →
      slice_get p.operations number ≡ Some m → IsCode lowered_loops s p number m
  each_is_code [] h number m e there = absurd h
  each_is_code (x ∷ ms) h zero m e there =
      let k : x ≡ m = cc in subst (λ z. IsCode lowered_loops s p 0 z) k (program_is_code x h.0)
  each_is_code (x ∷ ms) h (suc n) m e there =
      let r = made_of s s.core.operations ms h.1 n m e in operation_is_code n r.operation m r.is there r.made

  module _ (fine : Fine (declared_of s) p) where
    pub lowered_is_code : IsCodeOf lowered_loops s (declared_of s) p
    lowered_is_code = record {
      fine = fine;
      classes = lowered.classes;
      constants = ap (map kind_of) lowered.constants ∙ constant_kinds s.core.constants;
      operations = λ number m e. each_is_code p.operations lowered.operations number m e e;
    }

    pub lowered_worlds_agree : (n : ℕ) (entries : List RunEntry) →
        Agree source_meaning code_meaning (source_after s n entries) (world_after p n entries)
    lowered_worlds_agree n entries = agreeing.worlds_agree lowered_loops s (declared_of s) p lowered_is_code n entries

    pub lowered_runs_agree : (n : ℕ) (schedule : List Entry) (k : ℕ) →
        AgreeRun (SameRest source_meaning code_meaning) (run_after source_meaning (source_silent s) (source_start s n) schedule k)
        (run_after code_meaning (code_silent p) (first_world code_meaning n p.classes (map kind_of p.constants)) schedule k)
    lowered_runs_agree n schedule k = agreeing.runs_agree lowered_loops s (declared_of s) p lowered_is_code n schedule k
