-- Each class of a source is well typed in the program that the source is lowered to.
use Rattle.std.proofs.Common.{◌≡◌, ℕ, zero, suc, ◌+◌, Bool, true, List, [], ◌∷◌, ◌++◌, map, take, drop, length, Option}
use Rattle.std.proofs.Common.{Some, None}
use Rattle.std.proofs.Common.{◌<◌, ◌⊎◌, inl, inr, refl, sym, ap, ◌∙◌, subst, arith, append_assoc}
use Rattle.std.proofs.lemmas.List.{take-append-drop}
use Rattle.std.proofs.lemmas.List.Elements.{recursion_from_All}
use Rattle.std.specs.List.{AllByRecursion as Each}
use Rattle.std.specs.Prelude.{slice_get}
use Rattle.ec_check.proofs.Every.{not_both}
use Rattle.ec_check.specs.Operations.{HasItsOperations}
use Rattle.ec_code.specs.declared.code.Operation.{Operation as Lowered}
use Rattle.ec_code.specs.declared.code.Parts.{Parts}
use Rattle.ec_code.specs.Fine.{IsIn, Begins, Creates, FineClass, Implements, IsFieldOf, IsNameOf, number_if}
use Rattle.ec_code.specs.Typing.{DeclaredClass, kind_of as kind_in_code, plain_kind as plain_in_code}
use Rattle.ec_types.specs.Conforms.{Conforms, operations_at}
use Rattle.ec_types.specs.Table.{conforms}
use Rattle.ec_types.specs.Types.{named}
use Rattle.ec_types.specs.declared.conform.operations.NamedOperation.{NamedOperation}
use Rattle.ec_types.specs.declared.conform.static_type.Plain.{Plain as PlainStatic}
use Rattle.ec_types.specs.declared.conform.static_type.Plain.TheVariants as static
use Rattle.ec_types.specs.declared.conform.static_type.StaticType.{StaticType}
use Rattle.ec_types.specs.declared.conform.static_type.StaticType.TheVariants as type
use Rattle.ec_types.specs.Known.{IsOfProgram}
use Rattle.ec_core.specs.declared.Class.{Class}
use Rattle.ec_core.specs.declared.Constant.{Constant}
use Rattle.ec_core.specs.declared.Field.{Field}
use Rattle.ec_core.specs.declared.Kind.{Kind}
use Rattle.ec_core.specs.declared.Kind.TheVariants as kind
use Rattle.ec_core.specs.declared.Operation.{Operation}
use Rattle.ec_core_laws.specs.Beginnings.{BeginsOnce}
use Rattle.ec_accepted.proofs.Beginnings.{Stands, initial_stands, each_section}
use Rattle.ec_accepted.proofs.Finding.{no_some, same_some, all_at, class_found, lowered_at, first_lowered, made_from}
use Rattle.ec_accepted.proofs.Finding.{made_there}
use Rattle.ec_accepted.proofs.Naming.{each_met}
use Rattle.ec_accepted.specs.Classes.{HasFineClasses}
use Rattle.ec_accepted.specs.FineClassesSound.{KeepsTypes, TakesNothing, TakesNothingAs, HasSoundClasses}
use Rattle.ec_emission.specs.Lowered.{IsOperationOf, IsLowered, class_declared, declared_of, field_types_of}
use Rattle.ec_emission.specs.Lowered.{parameter_types, result_type}
use Rattle.ec_emission.specs.Lowered.{is_process}
use Rattle.ec_meaning.specs.Programs.{Source, captured_field, class_number, class_of, declared_field, name_number}
use Rattle.ec_meaning.specs.Programs.{number_or}
use Rattle.ec_meaning.specs.Programs.{numbers_to, operation_names}
use Rattle.ec_meaning.specs.Types.{kind_of, plain_kind}
use Rattle.ec_types.specs.Names.{first_named}
use Rattle.ec_world.specs.Agree.{AllTwo}
use Rattle.ec_world.specs.Objects.{true_at}
use Rattle.ec_world.specs.declared.class.ClassNo.TheVariants.{Made}
use Rattle.ec_world.specs.declared.class.ClassRec.{ClassRec}
use Rattle.ec_world.specs.declared.class.FieldRec.{FieldRec}

-- ---- fields

same_plain : (t : PlainStatic) → plain_kind t ≡ plain_in_code t
same_plain static.Integer = refl
same_plain static.Boolean = refl
same_plain static.String = refl
same_plain static.Any = refl
same_plain static.Node = refl
same_plain (static.Named n) = refl

same_kind : (t : StaticType) → kind_of t ≡ kind_in_code t
same_kind (type.Plain of) = same_plain of
same_kind (type.Vector inner of) = refl
same_kind type.Nil = refl
same_kind type.Unknown = refl

module _ (s : Source) (p : Parts) where
  abbrev AreFields : List StaticType → List FieldRec → Type 0
  AreFields ts fs = AllTwo (IsFieldOf (declared_of s) p) ts fs

  abbrev IsType : StaticType → Type 0
  IsType t = IsOfProgram s.table.types t

  declared_typed : (fs : List Field) → Each (λ (f : Field). IsType f.of) fs →
      AreFields (map (λ f. f.of) fs) (map declared_field fs)
  declared_typed [] h = tt
  declared_typed (f ∷ fs) h = ((same_kind f.of, h.0), declared_typed fs h.1)

  captured_typed : (ts us : List StaticType) (fs : List FieldRec) → Each IsType ts → AreFields us fs →
      AreFields (ts ++ us) (map (λ of. captured_field (kind_of of)) ts ++ fs)
  captured_typed [] us fs h k = k
  captured_typed (t ∷ ts) us fs h k = ((same_kind t, h.0), captured_typed ts us fs h.1 k)

  fields_typed : (c : Class) → KeepsTypes s c → AreFields (class_declared c).fields (class_of s c).fields
  fields_typed c h =
      captured_typed c.captured (field_types_of c) (map declared_field c.fields) (recursion_from_All IsType c.captured
      h.captured)
      (declared_typed c.fields (recursion_from_All (λ (f : Field). IsType f.of) c.fields h.fields))

  given_first : (c : Class) →
      (class_declared c).fields ≡ (class_declared c).given ++ drop c.parameters (field_types_of c)
  given_first c =
      let first : List StaticType = take c.parameters (field_types_of c) in
      let others : List StaticType = drop c.parameters (field_types_of c) in
      sym (append_assoc c.captured first others ∙ ap (λ ts. c.captured ++ ts) (take-append-drop c.parameters
      (field_types_of c)))

-- ---- conformity

one_conforms : (f : ℕ → Bool) (from count n : ℕ) → true_at (map f (numbers_to from count)) n ≡ true → f (from + n) ≡ true
one_conforms f from zero n e = not_both e
one_conforms f from (suc count) zero e = let at : from ≡ from + 0 = omega arith in subst (λ j. f j ≡ true) at e
one_conforms f from (suc count) (suc n) e =
    let at : suc from + n ≡ from + suc n = omega arith in
    subst (λ j. f j ≡ true) at (one_conforms f (suc from) count n e)

class_conforms : (s : Source) → HasSoundClasses s → (c : Class) (n : ℕ) → true_at (class_of s c).conforms n ≡ true →
    Conforms s.table.types (named c.number) (named n)
class_conforms s sound c n e =
    let at : 0 + n ≡ n = omega arith in
    (sound.answers (named c.number) (named n)).0
    (subst (λ j. conforms s.table (named c.number) (named j) ≡ true) at
    (one_conforms (λ j. conforms s.table (named c.number) (named j)) 0 (length s.table.types) n e))

-- ---- operations

takes_none : (o : Operation) (k : Kind) → TakesNothingAs k o → (k ≡ kind.Initial) ⊎ (k ≡ kind.Process) →
    parameter_types o ≡ []
takes_none o kind.Initial h e = ap (λ n. take n o.variables) h
takes_none o kind.Process h e = ap (λ n. take n o.variables) h
takes_none o kind.Named h (inl e) = cc
takes_none o kind.Named h (inr e) = cc

module _ (s : Source) (p : Parts) (sound : HasSoundClasses s) (lowered : IsLowered s p) where
  -- of an operation at a place: what it is lowered to
  record Found (i : ℕ) (o : Operation) : Type 0 where
    pub operation : Lowered
    pub is : slice_get p.operations (1 + i) ≡ Some operation
    pub lowers : IsOperationOf s o operation

  found : (i : ℕ) (o : Operation) → slice_get s.core.operations i ≡ Some o → Found i o
  found i o e =
      let f = lowered_at s p.operations lowered.operations i o e in
      let at : suc i ≡ 1 + i = omega arith in
      record { operation = f.0; is = subst (λ j. slice_get p.operations j ≡ Some f.0) at f.1; lowers = f.2 }

  takes_nothing : (i : ℕ) (o : Operation) → slice_get s.core.operations i ≡ Some o →
      (o.kind ≡ kind.Initial) ⊎ (o.kind ≡ kind.Process) →
      parameter_types o ≡ []
  takes_nothing i o e k = takes_none o o.kind (all_at TakesNothing s.core.operations i o sound.beginnings e) k

  module _ (k : ℕ) (c : Class) (there : slice_get s.core.classes k ≡ Some c) where
    of_class : (o : Operation) → o.class ≡ c.number → class_number s o.class ≡ Made k
    of_class o e = ap (class_number s) e ∙ class_found s sound.numbers k c there

    creates : Creates (declared_of s) p k (class_of s c) (class_declared c)
    creates =
        let once : BeginsOnce s.core.operations c = all_at (BeginsOnce s.core.operations) s.core.classes k c sound.begins
        there in
        let i = initial_stands s.core.operations 1 c.number once.initial in
        let m = found i.0 i.2.operation i.2.is in
        record {
          operation = m.operation;
          is = subst (λ j. slice_get p.operations j ≡ Some m.operation) (sym i.1) m.is;
          class = m.lowers.class ∙ of_class i.2.operation i.2.of_class;
          parameters = m.lowers.parameters ∙ takes_nothing i.0 i.2.operation i.2.is (inl i.2.of_kind);
          result =
              m.lowers.result
              ∙ ap (λ q. result_type q i.2.operation) i.2.of_kind
              ∙ ap (λ n. Some (named n)) i.2.of_class;
        }

    begins : (i : ℕ) → Stands s.core.operations c.number kind.Process i → Begins (declared_of s) p (1 + i) (Made k)
    begins i st =
        let m = found i st.operation st.is in
        record {
          operation = m.operation;
          is = m.is;
          of = m.lowers.class ∙ of_class st.operation st.of_class;
          lowest = m.lowers.is_lowest ∙ ap is_process st.of_kind;
          parameters = m.lowers.parameters ∙ takes_nothing i st.operation st.is (inr st.of_kind);
        }

    implements : (w : NamedOperation) → IsIn w (operations_at s.table.types c.number) →
        Implements (declared_of s) p k (class_of s c) (name_number s w.name) w
    implements w i =
        let has : HasItsOperations s.table s.core c =
        all_at (HasItsOperations s.table s.core) s.core.classes k c sound.operations there in
        let met = each_met s c.number w has.names (subst (λ ws. IsIn w ws) (sym has.exported) i) in
        let m = found met.place met.operation met.is in
        record {
          number = 1 + met.place;
          is_named = met.named;
          operation = m.operation;
          is = m.is;
          class = m.lowers.class ∙ of_class met.operation met.of_class;
          parameters = m.lowers.parameters ∙ sym (ap (λ (v : NamedOperation). v.parameters) met.seen);
          result =
              m.lowers.result
              ∙ ap (λ q. result_type q met.operation) met.of_kind
              ∙ sym (ap (λ (v : NamedOperation). v.result) met.seen);
        }

    -- a name has one number
    numbered : (found : Option ℕ) →
        number_if (declared_of s) p found ≡ number_or (length (operation_names s.core.operations)) found
    numbered None = refl
    numbered (Some n) = refl

    implements_named : (w : NamedOperation) (name : ℕ) → IsIn w (operations_at s.table.types c.number) →
        IsNameOf (declared_of s) p name w.name → Implements (declared_of s) p k (class_of s c) name w
    implements_named w name i e =
        let same : name ≡ name_number s w.name = e ∙ numbered (first_named (operation_names s.core.operations) w.name) in
        subst (λ n. Implements (declared_of s) p k (class_of s c) n w) (sym same) (implements w i)

    fine_class : FineClass (declared_of s) p k (class_of s c) (class_declared c)
    fine_class = record {
      there = all_at (λ (x : Class). x.number < length s.table.types) s.core.classes k c sound.types there;
      fields = fields_typed s p c (all_at (KeepsTypes s) s.core.classes k c sound.keeps there);
      others = drop c.parameters (field_types_of c);
      given = given_first s p c;
      creates = creates;
      process = each_section s.core.operations 1 c.number (λ number. Begins (declared_of s) p number (Made k)) begins;
      operations = implements_named;
      conforms = λ n e. class_conforms s sound c n e;
    }

  -- ---- the whole

  fine_at : (k : ℕ) (t : DeclaredClass) → slice_get (declared_of s).classes k ≡ Some t →
      (c : ClassRec) × (slice_get p.classes k ≡ Some c) × FineClass (declared_of s) p k c t
  fine_at k t e =
      let found = made_from class_declared s.core.classes k t e in
      let there : slice_get p.classes k ≡ Some (class_of s found.0) =
      ap (λ cs. slice_get cs k) lowered.classes ∙ made_there (class_of s) s.core.classes k found.0 found.1 in (
        class_of s found.0,
        there,
        subst (λ u. FineClass (declared_of s) p k (class_of s found.0) u) found.2 (fine_class k found.0 found.1),
      )

  declared_at : (k : ℕ) (c : ClassRec) → slice_get p.classes k ≡ Some c →
      (t : DeclaredClass) × (slice_get (declared_of s).classes k ≡ Some t)
  declared_at k c e =
      let found = made_from (class_of s) s.core.classes k c (sym (ap (λ cs. slice_get cs k) lowered.classes) ∙ e) in
      (class_declared found.0, made_there class_declared s.core.classes k found.0 found.1)

  constant_typed : (cs : List Constant) → Each (λ (c : Constant). IsOfProgram s.table.types c.of) cs →
      (i : ℕ) (t : StaticType) →
      slice_get (map (λ (c : Constant). c.of) cs) i ≡ Some t → IsOfProgram s.table.types t
  constant_typed [] h i t e = no_some t e
  constant_typed (c ∷ cs) h zero t e = subst (IsOfProgram s.table.types) (same_some c.of t e) h.0
  constant_typed (c ∷ cs) h (suc i) t e = constant_typed cs h.1 i t e

  pub fine_classes : HasFineClasses s p
  fine_classes =
      let first = first_lowered s p.operations lowered.operations in
      record {
        begins = record {
          operation = first.0;
          is = first.1;
          of = first.2.class;
          lowest = first.2.is_lowest;
          parameters = first.2.parameters;
        };
        classes = fine_at;
        declared = declared_at;
        constants = λ i t e.
            constant_typed s.core.constants
            (recursion_from_All (λ (c : Constant). IsOfProgram s.table.types c.of) s.core.constants sound.constants) i t
            (sym (ap (λ ts. slice_get ts i) lowered.constants) ∙ e);
      }
