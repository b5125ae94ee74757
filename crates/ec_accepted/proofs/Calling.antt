-- Calls and indices behind a value: the operations of its type, those of the own object, and those that need no
-- declaration.
use Rattle.std.proofs.Common.{◌≡◌, ℕ, zero, suc, ◌+◌, ◌==◌, eqb-true, ◌&&◌, ◌||◌, Bool, true, false, if◌then◌else◌}
use Rattle.std.proofs.Common.{List, [], ◌∷◌, length}
use Rattle.std.proofs.Common.{Option, Some, None, IfSome, All, option_and_then, refl, sym, ap, ◌∙◌, subst, inl, inr, ◌⊎◌}
use Rattle.std.proofs.lemmas.List.Elements.{recursion_from_All}
use Rattle.std.specs.List.{AllByRecursion as Each}
use Rattle.std.specs.Cmp.Lexicographic.{bytes_decides}
use Rattle.std.specs.Str.{str_to_ascii_lowercase}
use Rattle.ec_check.proofs.WellValues.{type_is}
use Rattle.ec_check.specs.Numbers.{Number}
use Rattle.ec_check.specs.WellTyped.{Typed, can_be_called, fits_operation, go_in, is_named, is_own, is_same_result, own_has}
use Rattle.ec_check.specs.WellTyped.{parameters_of, result_of}
use Rattle.ec_check.specs.WellTyped.{some_operation, type_has}
use Rattle.ec_code.specs.Fine.{FineInvoke, IsIn, IsNameOf, OwnCall, number_if}
use Rattle.ec_types.specs.Conforms.{operations_at}
use Rattle.ec_types.specs.Types.{known, named, operation_named}
use Rattle.ec_types.specs.declared.conform.named_type.NamedType.{NamedType}
use Rattle.ec_types.specs.declared.conform.operations.NamedOperation.{NamedOperation}
use Rattle.ec_types.specs.declared.conform.static_type.Plain.TheVariants as static
use Rattle.ec_types.specs.declared.conform.static_type.StaticType.{StaticType}
use Rattle.ec_types.specs.declared.conform.static_type.StaticType.TheVariants as type
use Rattle.ec_types.specs.Known.{IsOfProgram, IsOperationOfProgram, NoneUnknown}
use Rattle.ec_core.specs.declared.Operation.{Operation as CoreOperation}
use Rattle.ec_emission.proofs.Forms.{both_true, not_true, same_leaf}
use Rattle.ec_emission.specs.Expressions.{Emitted}
use Rattle.ec_accepted.proofs.Making.{Arguments, arguments}
use Rattle.ec_accepted.proofs.Standing.{Stand, Known as KnownHere, KnownOwn, NamedOf, AllStated, EachOfProgram, site}
use Rattle.ec_accepted.proofs.Standing.{types_in}
use Rattle.ec_emission.specs.Lowered.{declared_of}
use Rattle.ec_meaning.specs.Programs.{name_number, number_or, operation_names}
use Rattle.ec_types.specs.Names.{Text, is_same, first_from, first_named}

-- ---- names

letters : (a b : Text) → is_same a b ≡ true → str_to_ascii_lowercase a ≡ str_to_ascii_lowercase b
letters a b same = (bytes_decides _ _).0 same

pub same_joined : (own a b : Text) → is_same own b ≡ true → is_same a b ≡ true → is_same own a ≡ true
same_joined own a b e f = (bytes_decides _ _).1 (letters own b e ∙ sym (letters a b f))

-- the same name has the same first
first_same : (n : ℕ) (names : List Text) (a b : Text) → is_same a b ≡ true → first_from n names a ≡ first_from n names b
first_same n [] a b same = refl
first_same n (own ∷ names) a b same = rw (letters a b same, first_same (n + 1) names a b same) refl

module _ (c : Stand) where
  -- the number of a first name
  number_as : (o : Option ℕ) →
      number_or (length (operation_names c.source.core.operations)) o ≡ number_if (declared_of c.source) c.parts o
  number_as None = refl
  number_as (Some n) = refl

  -- A name has one number, however it is written.
  name_numbered : (a b : Text) → is_same b a ≡ true → IsNameOf (declared_of c.source) c.parts (name_number c.source a) b
  name_numbered a b same =
      let names : List Text = operation_names c.source.core.operations in
      number_as (first_named names a)
      ∙ ap (number_if (declared_of c.source) c.parts) (sym (first_same 0 names b a same))

-- ---- operations of types

-- the first operation that has a name
pub record FirstOf (os : List NamedOperation) (name : Text) (v : NamedOperation) : Type 0 where
  pub there : IsIn v os
  pub same : is_same v.name name ≡ true

pub first_of : (os : List NamedOperation) (name : Text) (v : NamedOperation) → operation_named os name ≡ Some v →
    FirstOf os name v
first_of [] name v e = cc
first_of (o ∷ os) name v e = by_test (is_same o.name name) refl e (λ f. first_of os name v f)
  where
    by_test : (b : Bool) → is_same o.name name ≡ b → (if b then Some o else operation_named os name) ≡ Some v →
        (operation_named os name ≡ Some v → FirstOf os name v) → FirstOf (o ∷ os) name v
    by_test true t f later =
        let same : o ≡ v = same_leaf o v f in
        record { there = inl (sym same); same = subst (λ z. is_same z.name name ≡ true) same t }
    by_test false t f later = let r = later f in record { there = inr r.there; same = r.same }

pub each_in : {A : Type 0} (P : A → Type 0) (xs : List A) (x : A) → Each P xs → IsIn x xs → P x
each_in P [] x h i = absurd i
each_in P (y ∷ ys) x h (inl e) = subst P (sym e) h.0
each_in P (y ∷ ys) x h (inr i) = each_in P ys x h.1 i

operations_by :
    (types ts : List NamedType) → Each (λ (t : NamedType). All (IsOperationOfProgram types) t.operations) ts → (m : ℕ)
    (v : NamedOperation) → IsIn v (operations_at ts m) → IsOperationOfProgram types v
operations_by types [] h m v i = absurd i
operations_by types (t ∷ ts) h zero v i =
    each_in (IsOperationOfProgram types) t.operations v (recursion_from_All (IsOperationOfProgram types) t.operations h.0) i
operations_by types (t ∷ ts) h (suc m) v i = operations_by types ts h.1 m v i

operation_known :
    (types : List NamedType) → NoneUnknown types → (m : ℕ) (v : NamedOperation) → IsIn v (operations_at types m) →
    IsOperationOfProgram types v
operation_known types none m v i =
    operations_by types types
    (recursion_from_All (λ (t : NamedType). All (IsOperationOfProgram types) t.operations) types none) m v i

each_of_program : (types : List NamedType) (ts : List StaticType) → Each (IsOfProgram types) ts → EachOfProgram types ts
each_of_program types [] h n t e = cc
each_of_program types (s ∷ ts) h zero t e = let same : s ≡ t = cc in subst (IsOfProgram types) same h.0
each_of_program types (s ∷ ts) h (suc n) t e = each_of_program types ts h.1 n t e

-- A result of a type of the program is the one that stands in the call.
known_result :
    (types : List NamedType) (r given : Option StaticType) → IfSome r (IsOfProgram types) →
    is_same_result (option_and_then known r) given ≡ true → given ≡ r
known_result types None None h e = refl
known_result types None (Some b) h e = not_true e
known_result types (Some (type.Plain of)) None h e = not_true e
known_result types (Some (type.Plain of)) (Some b) h e = ap Some (sym (type_is (type.Plain of) b e))
known_result types (Some (type.Vector inner of)) None h e = not_true e
known_result types (Some (type.Vector inner of)) (Some b) h e = ap Some (sym (type_is (type.Vector inner of) b e))
known_result types (Some type.Nil) None h e = not_true e
known_result types (Some type.Nil) (Some b) h e = ap Some (sym (type_is type.Nil b e))
known_result types (Some type.Unknown) given h e = absurd h

-- ---- operations of the core

-- one of these operations that passes a test
record Passing (test : CoreOperation → Bool) (os : List CoreOperation) : Type 0 where
  pub operation : CoreOperation
  pub there : IsIn operation os
  pub passes : test operation ≡ true

passing : (test : CoreOperation → Bool) (os : List CoreOperation) → some_operation test os ≡ true → Passing test os
passing test [] e = not_true e
passing test (o ∷ os) e = by_test (test o) refl e (λ f. passing test os f)
  where
    by_test : (b : Bool) → test o ≡ b → b || some_operation test os ≡ true →
        (some_operation test os ≡ true → Passing test os) → Passing test (o ∷ os)
    by_test true t f later = record { operation = o; there = inl refl; passes = t }
    by_test false t f later = let p = later f in record { operation = p.operation; there = inr p.there; passes = p.passes }

module _ (c : Stand) (Right : Number → Type 0) (here : KnownHere c Right) where
  -- what a call takes, and that what it gives is what stands in the call
  pub record Callable (wanted : List StaticType) (gives : Option StaticType) (es : List Emitted)
      (given : Option StaticType) : Type 0 where
    pub taken : Arguments c wanted es
    pub result : given ≡ gives

  callable :
      (wanted : List StaticType) (gives : Option StaticType) (xs : List Typed) (es : List Emitted)
      (given : Option StaticType) →
      AllStated c xs es → EachOfProgram (types_in c) wanted → IfSome gives (IsOfProgram (types_in c)) →
      can_be_called c.source.table wanted gives xs given ≡ true → Callable wanted gives es given
  callable wanted gives xs es given all of result e =
      let b = both_true (go_in c.source.table wanted xs) (is_same_result (option_and_then known gives) given) e in
      record {
        taken = arguments c Right here wanted xs es all b.0 of;
        result = known_result (types_in c) gives given result b.1;
      }

  -- ---- by the type of what stands before the call

  -- the receiver's type has the operation, and the call fits it
  pub record ByType (of : Option StaticType) (name : Text) (es : List Emitted) (given : Option StaticType) : Type 0 where
    pub number : ℕ
    pub is : of ≡ Some (named number)
    pub operation : NamedOperation
    pub first : operation_named (operations_at (types_in c) number) name ≡ Some operation
    pub there : IsIn operation (operations_at (types_in c) number)
    pub same : is_same operation.name name ≡ true
    pub call : Callable operation.parameters operation.result es given

  by_operation :
      (m : ℕ) (name : Text) (xs : List Typed) (es : List Emitted) (given : Option StaticType) → AllStated c xs es →
      (found : Option NamedOperation) → operation_named (operations_at (types_in c) m) name ≡ found →
      fits_operation c.source.table found xs given ≡ true → ByType (Some (named m)) name es given
  by_operation m name xs es given all None first e = not_true e
  by_operation m name xs es given all (Some v) first e =
      let f : FirstOf (operations_at (types_in c) m) name v = first_of (operations_at (types_in c) m) name v first in
      let k : IsOperationOfProgram (types_in c) v = operation_known (types_in c) here.operations m v f.there in
      record {
        number = m;
        is = refl;
        operation = v;
        first = first;
        there = f.there;
        same = f.same;
        call =
            callable v.parameters v.result xs es given all
            (each_of_program (types_in c) v.parameters
            (recursion_from_All (IsOfProgram (types_in c)) v.parameters k.parameters))
            k.result e;
      }

  pub by_type :
      (of : Option StaticType) (name : Text) (xs : List Typed) (es : List Emitted) (given : Option StaticType) →
      AllStated c xs es → type_has c.source.table of name xs given ≡ true → ByType of name es given
  by_type (Some (type.Plain (static.Named m))) name xs es given all e =
      by_operation m name xs es given all (operation_named (operations_at (types_in c) m) name) refl e
  by_type _ name xs es given all e = not_true e

  -- the call of an operation of the receiver's type
  pub fine_invoke :
      (of : Option StaticType) (name : Text) (es : List Emitted) (given : Option StaticType) →
      (b : ByType of name es given) →
      FineInvoke (declared_of c.source) c.parts (name_number c.source name) (named b.number ∷ b.call.taken.types) given
  fine_invoke of name es given b =
      (b.operation, b.there, name_numbered c name b.operation.name b.same, (b.call.taken.fit, b.call.result))

  -- ---- of the own object

  -- a named operation of the own object's class has the name, and the call fits it
  pub record ByOwn (n : ℕ) (name : Text) (es : List Emitted) (given : Option StaticType) : Type 0 where
    pub operation : CoreOperation
    pub is : NamedOf c.source n name operation
    pub call : Callable (parameters_of operation) (result_of operation) es given

  by_own_has :
      (n : ℕ) (name : Text) (xs : List Typed) (es : List Emitted) (given : Option StaticType) → KnownOwn c n →
      AllStated c xs es → own_has (site c) (Some n) name xs given ≡ true → ByOwn n name es given
  by_own_has n name xs es given own all e =
      let p = passing (is_own c.source.table n name xs given) c.source.core.operations e in
      let q : CoreOperation = p.operation in
      let last : Bool = can_be_called c.source.table (parameters_of q) (result_of q) xs given in
      let class = both_true (q.class == n) (is_named q.kind && (is_same q.name name && last)) p.passes in
      let kind = both_true (is_named q.kind) (is_same q.name name && last) class.1 in
      let same = both_true (is_same q.name name) last kind.1 in
      let is : NamedOf c.source n name q =
      record { there = p.there; class = eqb-true q.class n class.0; named = kind.0; same = same.0 } in
      record {
        operation = q;
        is = is;
        call =
            callable (parameters_of q) (result_of q) xs es given all (own.parameters name q is) (own.results name q is)
            same.1;
      }

  -- Its type has no operation but those of its class.
  by_own_type :
      (n : ℕ) (name : Text) (es : List Emitted) (given : Option StaticType) → KnownOwn c n →
      ByType (Some (named n)) name es given → ByOwn n name es given
  by_own_type n name es given own b =
      let number : b.number ≡ n = (let same : Some (named n) ≡ Some (named b.number) = b.is in cc) in
      let first : operation_named (operations_at (types_in c) n) name ≡ Some b.operation =
      subst (λ z. operation_named (operations_at (types_in c) z) name ≡ Some b.operation) number b.first in
      let q = own.exported name b.operation first in
      record { operation = q.0; is = q.1; call = subst (λ v. Callable v.parameters v.result es given) q.2 b.call }

  pub by_own :
      (n : ℕ) (name : Text) (xs : List Typed) (es : List Emitted) (given : Option StaticType) → KnownOwn c n →
      AllStated c xs es →
      (own_has (site c) (Some n) name xs given ≡ true) ⊎ (type_has c.source.table (Some (named n)) name xs given ≡ true) →
      ByOwn n name es given
  by_own n name xs es given own all (inl e) = by_own_has n name xs es given own all e
  by_own n name xs es given own all (inr e) =
      by_own_type n name es given own (by_type (Some (named n)) name xs es given all e)

  pub own_call :
      (n : ℕ) (name : Text) (es : List Emitted) (given : Option StaticType) → KnownOwn c n → (b : ByOwn n name es given) →
      OwnCall (declared_of c.source) c.parts c.number c.operation (name_number c.source name) b.call.taken.types given
  own_call n name es given own b = own.calls name b.operation b.is b.call.taken.types given
      (b.call.taken.fit, b.call.result)
