-- What is known where the expressions of a program's operations stand.
use Rattle.std.proofs.Common.{◌≡◌, ℕ, zero, suc, ◌+◌, Bool, true, false, if◌then◌else◌, List, [], ◌∷◌, ◌++◌, map, length}
use Rattle.std.proofs.Common.{Option, Some, None, IfSome, All, refl, sym, ap, ◌∙◌, subst, arith}
use Rattle.std.proofs.lemmas.List.Elements.{recursion_from_All}
use Rattle.std.specs.List.{AllByRecursion as Each}
use Rattle.std.specs.Prelude.{slice_get}
use Rattle.ec_check.proofs.Every.{Every}
use Rattle.ec_check.specs.Numbers.{Number, Constructed, Created}
use Rattle.ec_check.specs.Operations.{HasItsOperations, as_seen}
use Rattle.ec_check.specs.WellTyped.{constant_type_at, is_named, parameters_of, result_of}
use Rattle.ec_code.specs.declared.code.Operation.{Operation as Made}
use Rattle.ec_code.specs.declared.code.Parts.{Parts}
use Rattle.ec_code.specs.Fine.{FitAll, IsIn}
use Rattle.ec_code.specs.Typing.{class_type, field_types, fields_if, type_if}
use Rattle.ec_types.specs.Conforms.{Conforms, operations_at}
use Rattle.ec_types.specs.Table.{conforms}
use Rattle.ec_types.specs.Types.{named, operation_named}
use Rattle.ec_types.specs.declared.conform.named_type.NamedType.{NamedType}
use Rattle.ec_types.specs.declared.conform.operations.NamedOperation.{NamedOperation}
use Rattle.ec_types.specs.declared.conform.static_type.StaticType.{StaticType}
use Rattle.ec_types.specs.Known.{IsOfProgram, NoneUnknown}
use Rattle.ec_core.specs.declared.Class.{Class}
use Rattle.ec_core.specs.declared.Constant.{Constant}
use Rattle.ec_core.specs.declared.Field.{Field}
use Rattle.ec_core.specs.declared.Kind.{Kind}
use Rattle.ec_core.specs.declared.Kind.TheVariants as kind
use Rattle.ec_core.specs.declared.Operation.{Operation}
use Rattle.ec_core_laws.specs.Formed.{IsFormed, IsFormedClass, IsFormedConstant, IsFormedOperation, IsOf as IsOfTypes}
use Rattle.ec_emission.proofs.Forms.{not_true, no_leaf}
use Rattle.ec_accepted.proofs.Calling.{FirstOf, each_in, first_of}
use Rattle.ec_accepted.proofs.Making.{within_taken}
use Rattle.ec_accepted.proofs.Numbered.{class_at, constant_at}
use Rattle.ec_accepted.proofs.OwnOperations.{OwnPlace, own_place, seen_in}
use Rattle.ec_accepted.proofs.Shapes.{of_types}
use Rattle.ec_accepted.proofs.Standing.{Called, EachOfProgram, Known, KnownClass, KnownOwn, NamedOf, Stand}
use Rattle.ec_emission.specs.Lowered.{AreOperationsOf, IsLowered, IsOperationOf, IsProgramOf, class_declared, constant_types}
use Rattle.ec_emission.specs.Lowered.{declared_of}
use Rattle.ec_emission.specs.Lowered.{field_types_of, result_type}
use Rattle.ec_meaning.specs.Programs.{Source, class_from, class_of, constant_number}
use Rattle.ec_types.specs.Names.{Text}
use Rattle.ec_places.specs.Rising.{IsRising}
use Rattle.ec_world.specs.Agree.{AllTwo}
use Rattle.ec_world.specs.declared.class.ClassNo.TheVariants.{Made as MadeClass}

-- ---- lists

each_there : {A : Type 0} (P : A → Type 0) (xs : List A) → Each P xs → (n : ℕ) (x : A) → slice_get xs n ≡ Some x → P x
each_there P [] h n x e = cc
each_there P (y ∷ xs) h zero x e = let same : y ≡ x = cc in subst P same h.0
each_there P (y ∷ xs) h (suc n) x e = each_there P xs h.1 n x e

all_there : {A : Type 0} (P : A → Type 0) (xs : List A) → All P xs → (n : ℕ) (x : A) → slice_get xs n ≡ Some x → P x
all_there P xs h n x e = each_there P xs (recursion_from_All P xs h) n x e

all_in : {A : Type 0} (P : A → Type 0) (xs : List A) → All P xs → (x : A) → IsIn x xs → P x
all_in P xs h x i = each_in P xs x (recursion_from_All P xs h) i

every_by : {A : Type 0} (P : A → Type 0) (xs : List A) → Each P xs → Every P xs
every_by P [] h = tt
every_by P (x ∷ xs) h = (h.0, every_by P xs h.1)

pub every_of : {A : Type 0} (P : A → Type 0) (xs : List A) → All P xs → Every P xs
every_of P xs h = every_by P xs (recursion_from_All P xs h)

-- an element of one list, and what stands beside it in the other
record Beside {A B : Type 0} (R : A → B → Type 0) (xs : List A) (ys : List B) (n : ℕ) (x : A) : Type 0 where
  pub other : B
  pub is : slice_get ys n ≡ Some other
  pub related : R x other

beside : {A B : Type 0} (R : A → B → Type 0) (xs : List A) (ys : List B) → AllTwo R xs ys → (n : ℕ) (x : A) →
    slice_get xs n ≡ Some x → Beside R xs ys n x
beside R [] ys h n x e = cc
beside R (a ∷ xs) [] h n x e = absurd h
beside R (a ∷ xs) (b ∷ ys) h zero x e =
    let same : a ≡ x = cc in record { other = b; is = refl; related = subst (λ z. R z b) same h.0 }
beside R (a ∷ xs) (b ∷ ys) h (suc n) x e =
    let r = beside R xs ys h.1 n x e in record { other = r.other; is = r.is; related = r.related }

mapped_types : (types : List NamedType) (fs : List Field) → ((n : ℕ) (f : Field) → slice_get fs n ≡ Some f →
    IsOfProgram types f.of) → EachOfProgram types (map (λ (f : Field). f.of) fs)
mapped_types types [] h n t e = cc
mapped_types types (f ∷ fs) h zero t e = let same : f.of ≡ t = cc in subst (IsOfProgram types) same (h 0 f refl)
mapped_types types (f ∷ fs) h (suc n) t e = mapped_types types fs (λ m g d. h (suc m) g d) n t e

mapped_constants : (types : List NamedType) (cs : List Constant) →
    ((n : ℕ) (c : Constant) → slice_get cs n ≡ Some c → IsOfProgram types c.of) →
    EachOfProgram types (map (λ (c : Constant). c.of) cs)
mapped_constants types [] h n t e = cc
mapped_constants types (c ∷ cs) h zero t e = let same : c.of ≡ t = cc in subst (IsOfProgram types) same (h 0 c refl)
mapped_constants types (c ∷ cs) h (suc n) t e = mapped_constants types cs (λ m g d. h (suc m) g d) n t e

-- ---- what is known of a program

-- It is what a source is lowered to, of a core of which all that is proved of accepted cores holds. `Right` is what holds
-- of the numbers in the code: a constructor's class has no parameters, and a class of which `create` makes an object
-- captures nothing.
pub record Grounds (s : Source) (p : Parts) (Right : Number → Type 0) : Type 0 where
  pub lowered : IsLowered s p
  pub conforms : (a b : StaticType) → conforms s.table a b ≡ true → Conforms s.table.types a b
  pub known : NoneUnknown s.table.types
  pub formed : IsFormed (length s.table.types) s.core
  pub rising : IsRising (map (λ (c : Class). c.number) s.core.classes)
  pub operations : All (HasItsOperations s.table s.core) s.core.classes
  pub constructs :
      (n values : ℕ) → Right (Constructed n values) → (k : Class) → IsIn k s.core.classes → k.number ≡ n → k.parameters ≡ 0
  pub creates :
      (n arguments : ℕ) → Right (Created n arguments) → (k : Class) → IsIn k s.core.classes → k.number ≡ n → k.captured ≡ []

module _ (s : Source) (p : Parts) (Right : Number → Type 0) (g : Grounds s p Right) where
  abbrev types : List NamedType
  types = s.table.types

  formed_types : (ts : List StaticType) → All (IsOfTypes (length types)) ts → EachOfProgram types ts
  formed_types ts h n t e = of_types types t (all_there (IsOfTypes (length types)) ts h n t e)

  -- ---- classes

  class_formed : (k : Class) → IsIn k s.core.classes → IsFormedClass (length types) k
  class_formed k i = all_in (IsFormedClass (length types)) s.core.classes g.formed.classes k i

  field_types_known : (k : Class) → IsIn k s.core.classes → EachOfProgram types (field_types_of k)
  field_types_known k i =
      let f : IsFormedClass (length types) k = class_formed k i in
      mapped_types types k.fields
      (λ n x e. of_types types x.of (all_there (λ (z : Field). IsOfTypes (length types) z.of) k.fields f.fields n x e))

  class_known : (k : Class) → IsIn k s.core.classes → KnownClass s k
  class_known k i =
      let f : IsFormedClass (length types) k = class_formed k i in
      record {
        at = class_at class_declared s.core.classes g.rising k i;
        number = f.number;
        captured = formed_types k.captured f.captured;
        fields = field_types_known k i;
      }

  -- ---- constants

  constant_types_known : EachOfProgram types (constant_types s.core)
  constant_types_known =
      mapped_constants types s.core.constants
      (λ n x e.
      let f : IsFormedConstant (length types) x =
      all_there (IsFormedConstant (length types)) s.core.constants g.formed.constants n x e in
      of_types types x.of f.of)

  constants_known : (n : ℕ) (t : StaticType) → constant_type_at s.core.constants n ≡ Some t →
      IsOfProgram types t × (slice_get p.constants (constant_number s n) ≡ Some t)
  constants_known n t e =
      let there : slice_get (constant_types s.core) (constant_number s n) ≡ Some t = constant_at s.core.constants n t e in (
        constant_types_known (constant_number s n) t there,
        subst (λ z. slice_get z (constant_number s n) ≡ Some t) (sym g.lowered.constants) there,
      )

  -- ---- operations

  -- an operation of the core, by its place, with what it becomes
  pub record OperationAt (n : ℕ) (q : Operation) : Type 0 where
    pub made : Made
    pub is : slice_get p.operations (suc n) ≡ Some made
    pub of : IsOperationOf s q made

  operation_in : (os : List Made) → AreOperationsOf s os → p.operations ≡ os → (n : ℕ) (q : Operation) →
      slice_get s.core.operations n ≡ Some q → OperationAt n q
  operation_in [] h e n q is = absurd h
  operation_in (first ∷ os) h e n q is =
      let b : Beside (IsOperationOf s) s.core.operations os n q = beside (IsOperationOf s) s.core.operations os h.1 n q is
      in
      record { made = b.other; is = ap (λ z. slice_get z (suc n)) e ∙ b.is; of = b.related }

  pub operation_at : (n : ℕ) (q : Operation) → slice_get s.core.operations n ≡ Some q → OperationAt n q
  operation_at n q is = operation_in p.operations g.lowered.operations refl n q is

  operation_formed : (q : Operation) → IsIn q s.core.operations → IsFormedOperation (length types) q
  operation_formed q i = all_in (IsFormedOperation (length types)) s.core.operations g.formed.operations q i

  variables_known : (q : Operation) → IsIn q s.core.operations → EachOfProgram types q.variables
  variables_known q i =
      let f : IsFormedOperation (length types) q = operation_formed q i in formed_types q.variables f.variables

  parameters_known : (q : Operation) → IsIn q s.core.operations → EachOfProgram types (parameters_of q)
  parameters_known q i n t e = variables_known q i n t (within_taken q.parameters q.variables n t e)

  result_known : (q : Operation) → IsIn q s.core.operations → IfSome (result_of q) (IsOfProgram types)
  result_known q i = by_result q.has_result
    where
      by_type : (o : Option StaticType) → slice_get q.variables q.parameters ≡ o → IfSome o (IsOfProgram types)
      by_type None e = tt
      by_type (Some t) e = variables_known q i q.parameters t e

      by_result : (b : Bool) → IfSome (if b then slice_get q.variables q.parameters else None) (IsOfProgram types)
      by_result true = by_type (slice_get q.variables q.parameters) refl
      by_result false = tt

  -- a named operation gives its result
  named_result : (q : Operation) (k : Kind) → is_named k ≡ true → result_type k q ≡ result_of q
  named_result q kind.Named e = refl
  named_result q kind.Initial e = not_true e
  named_result q kind.Process e = not_true e

  -- ---- where an operation of a class stands

  module _ (k : Class) (there : IsIn k s.core.classes) (q : Operation) (is_of_class : q.class ≡ k.number) (n : ℕ)
      (at : slice_get s.core.operations n ≡ Some q) where
    abbrev pub found : OperationAt n q
    found = operation_at n q at

    abbrev pub stand : Stand
    stand = record {
      source = s;
      parts = p;
      number = suc n;
      operation = found.made;
      own = Some k.number;
      captured = k.captured;
      fields = field_types_of k;
    }

    own_class : found.made.class ≡ MadeClass (class_from 0 s.core.classes k.number)
    own_class = found.of.class ∙ ap (λ z. MadeClass (class_from 0 s.core.classes z)) is_of_class

    declared : slice_get (declared_of s).classes (class_from 0 s.core.classes k.number) ≡ Some (class_declared k)
    declared = class_at class_declared s.core.classes g.rising k there

    own_fields : field_types (declared_of s) found.made.class ≡ k.captured ++ field_types_of k
    own_fields = ap (field_types (declared_of s)) own_class ∙ ap fields_if declared

    own_type : class_type (declared_of s) found.made.class ≡ named k.number
    own_type = ap (class_type (declared_of s)) own_class ∙ ap type_if declared

    has : HasItsOperations s.table s.core k
    has = all_in (HasItsOperations s.table s.core) s.core.classes g.operations k there

    exported :
        (name : Text) (v : NamedOperation) → operation_named (operations_at types k.number) name ≡ Some v →
        (r : Operation) × NamedOf s k.number name r × (v ≡ as_seen r)
    exported name v e =
        let f : FirstOf (operations_at types k.number) name v = first_of (operations_at types k.number) name v e in
        seen_in s k.number name v (subst (λ z. IsIn v z) (sym has.exported) f.there) f.same

    class_record : slice_get p.classes (class_from 0 s.core.classes k.number) ≡ Some (class_of s k)
    class_record =
        ap (λ z. slice_get z (class_from 0 s.core.classes k.number)) g.lowered.classes
        ∙ class_at (class_of s) s.core.classes g.rising k there

    calls : (name : Text) (r : Operation) → NamedOf s k.number name r → Called stand name r
    calls name r is ts given fits =
        let o : OwnPlace s k.number 1 name r s.core.operations =
        own_place s k.number name r is 1 s.core.operations (λ z i. i) is.there has.names in
        let called : OperationAt o.place r = operation_at o.place r o.at in
        let number : 1 + o.place ≡ suc o.place = omega arith in
        record {
          place = class_from 0 s.core.classes k.number;
          is_class = own_class;
          class = class_of s k;
          is = class_record;
          called_number = suc o.place;
          is_named = o.found ∙ ap Some number;
          called = called.made;
          is_called = called.is;
          same = called.of.class ∙ ap (λ z. MadeClass (class_from 0 s.core.classes z)) is.class;
          fits = (
            subst (λ z. FitAll (declared_of s) p ts z) (sym called.of.parameters) fits.0,
            fits.1 ∙ sym (called.of.result ∙ named_result r r.kind is.named),
          );
        }

    own_known : (m : ℕ) → Some k.number ≡ Some m → KnownOwn stand m
    own_known m e =
        let same : k.number ≡ m = cc in
        let f : IsFormedClass (length types) k = class_formed k there in
        subst (KnownOwn stand) same
        (record {
          type = own_type;
          there = f.number;
          exported = exported;
          calls = calls;
          results = λ name r is. result_known r is.there;
          parameters = λ name r is. parameters_known r is.there;
        })

    pub stand_known : IsIn q s.core.operations → Known stand Right
    stand_known i = record {
      conforms = g.conforms;
      operations = g.known;
      variables = subst (EachOfProgram types) (sym found.of.variables) (variables_known q i);
      captured = formed_types k.captured (class_formed k there).captured;
      fields = field_types_known k there;
      constants = constants_known;
      own_fields = own_fields;
      own = own_known;
      classes = class_known;
      constructs = g.constructs;
      creates = g.creates;
    }

  -- ---- the program's own operation

  module _ (number : ℕ) (made : Made) (is : IsProgramOf s made) where
    abbrev pub stand_outside : Stand
    stand_outside = record {
      source = s;
      parts = p;
      number = number;
      operation = made;
      own = None;
      captured = [];
      fields =
          [];
    }

    none_of_program : EachOfProgram types []
    none_of_program n t e = cc

    pub outside_known : Known stand_outside Right
    outside_known = record {
      conforms = g.conforms;
      operations = g.known;
      variables = subst (EachOfProgram types) (sym is.variables) none_of_program;
      captured = none_of_program;
      fields = none_of_program;
      constants = constants_known;
      own_fields = ap (field_types (declared_of s)) is.class;
      own = λ n e. no_leaf n e;
      classes = class_known;
      constructs = g.constructs;
      creates = g.creates;
    }
