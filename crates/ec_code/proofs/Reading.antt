-- What a step reads is there and of its type, and so each test and each sum comes out.
use Rattle.std.proofs.Common.{◌≡◌, ℕ, zero, suc, ◌<◌, Bool, true, false, List, [], ◌∷◌, length, Option, Some, None, refl, sym, ◌∙◌, ap, ℤ}
use Rattle.std.proofs.Common.{arith}
use Rattle.std.specs.Int.{w32, int_wrapping_add, int_wrapping_sub, int_wrapping_mul, int_wrapping_div}
use Rattle.std.specs.Prelude.{slice_get, slice_set, not, int_lt, int_le, int_rem, if◌then◌else◌, ◌==◌}
use Rattle.ec_code.specs.declared.code.Arithmetic.{Arithmetic}
use Rattle.ec_code.specs.declared.code.Arithmetic.TheVariants.{Sum, Difference, Product, Quotient, Remainder}
use Rattle.ec_code.specs.declared.code.Live.{Live}
use Rattle.ec_code.specs.declared.code.Operand.{Operand}
use Rattle.ec_code.specs.declared.code.Operand.TheVariants as operand
use Rattle.ec_code.specs.declared.code.Parts.{Parts}
use Rattle.ec_code.specs.declared.code.Test.{Test}
use Rattle.ec_code.specs.declared.code.Test.TheVariants as test
use Rattle.ec_code.specs.declared.code.Variable.{Variable}
use Rattle.ec_code.specs.declared.code.Variable.TheVariants.{Named, Temporary}
use Rattle.ec_code.specs.Fine.{Comparable, Fine, FineNumbers, FineOperand, FineTest, Has, HaveTypes, ReadsAs, Tells, divisor_in}
use Rattle.ec_code.specs.Fine.Comparable.{numbers, truths, texts, references}
use Rattle.ec_code.specs.Steps.{Machine, variable_at, operand_at, put, with_variable, computed, on_numbers, on_two, truth_in, tested}
use Rattle.ec_code.specs.Steps.{variables_at, with_others, and_others}
use Rattle.ec_code.specs.Typing.{Declared, integer, boolean, string, any}
use Rattle.ec_types.specs.declared.conform.static_type.StaticType.{StaticType}
use Rattle.ec_types.specs.declared.conform.static_type.StaticType.TheVariants as type
use Rattle.ec_world.specs.Same.{are_same, is_same_number, is_same_truth, is_same_text, is_zero}
use Rattle.ec_world.specs.Agree.{AllTwo}
use Rattle.ec_world.specs.declared.object.ObjectRec.{ObjectRec}
use Rattle.ec_world.specs.declared.value.Value.{Value}
use Rattle.ec_world.specs.declared.value.Value.TheVariants.{Int, Str, Ref, Nil, Bool as Truth}
use Rattle.ec_code.specs.SoundValues.{HasType, IsOfType, held}
use Rattle.ec_code.proofs.Typed.{stands, of_int, of_truth, of_nil, int_case, truth_case, text_case, ref_case}

-- ---- variables that are set

pub put_same : (vs : List Value) (i : ℕ) (v : Value) → slice_get (put vs i v) i ≡ Some v
put_same [] zero v = refl
put_same [] (suc i) v = put_same [] i v
put_same (x ∷ xs) zero v = refl
put_same (x ∷ xs) (suc i) v = put_same xs i v

put_other : (vs : List Value) (i j : ℕ) (v u : Value) → (j ≡ i → ⊥) → slice_get vs j ≡ Some u → slice_get (put vs i v) j ≡ Some u
put_other [] i j v u apart e = cc
put_other (x ∷ xs) zero zero v u apart e = absurd (apart refl)
put_other (x ∷ xs) zero (suc j) v u apart e = e
put_other (x ∷ xs) (suc i) zero v u apart e = e
put_other (x ∷ xs) (suc i) (suc j) v u apart e = put_other xs i j v u (λ s. apart (ap suc s)) e

set_same : (vs : List Value) (i : ℕ) (v : Value) → i < length vs → slice_get (slice_set vs i v) i ≡ Some v
set_same [] i v h = absurd (omega arith)
set_same (x ∷ xs) zero v h = refl
set_same (x ∷ xs) (suc i) v h = set_same xs i v (omega arith)

set_other : (vs : List Value) (i j : ℕ) (v u : Value) → (j ≡ i → ⊥) → slice_get vs j ≡ Some u → slice_get (slice_set vs i v) j ≡ Some u
set_other [] i j v u apart e = cc
set_other (x ∷ xs) zero zero v u apart e = absurd (apart refl)
set_other (x ∷ xs) zero (suc j) v u apart e = e
set_other (x ∷ xs) (suc i) zero v u apart e = e
set_other (x ∷ xs) (suc i) (suc j) v u apart e = set_other xs i j v u (λ s. apart (ap suc s)) e

pub set_length : (vs : List Value) (i : ℕ) (v : Value) → length (slice_set vs i v) ≡ length vs
set_length [] i v = refl
set_length (x ∷ xs) zero v = refl
set_length (x ∷ xs) (suc i) v = ap suc (set_length xs i v)

-- a named variable is one of the first so many; each temporary may be set
abbrev pub IsThere : ℕ → Variable → Type 0
IsThere count (Named n) = n < count
IsThere count (Temporary k) = Unit {0}

-- the two lists of variables once one variable is set
abbrev pub set_named : List Value → Variable → Value → List Value
set_named vs (Named n) v = slice_set vs n v
set_named vs (Temporary k) v = vs

abbrev pub set_temporary : List Value → Variable → Value → List Value
set_temporary ts (Named n) v = ts
set_temporary ts (Temporary k) v = put ts k v

pub held_same : (vs ts : List Value) (x : Variable) (v : Value) → IsThere (length vs) x
    → held (set_named vs x v) (set_temporary ts x v) x ≡ Some v
held_same vs ts (Named n) v h = set_same vs n v h
held_same vs ts (Temporary k) v h = put_same ts k v

pub held_other : (vs ts : List Value) (x y : Variable) (v u : Value) → (y ≡ x → ⊥) → held vs ts y ≡ Some u
    → held (set_named vs x v) (set_temporary ts x v) y ≡ Some u
held_other vs ts (Named n) (Named k) v u apart e = set_other vs n k v u (λ s. apart (ap Named s)) e
held_other vs ts (Named n) (Temporary k) v u apart e = e
held_other vs ts (Temporary n) (Named k) v u apart e = e
held_other vs ts (Temporary n) (Temporary k) v u apart e = put_other ts n k v u (λ s. apart (ap Temporary s)) e

pub named_length : (vs : List Value) (x : Variable) (v : Value) → length (set_named vs x v) ≡ length vs
named_length vs (Named n) v = set_length vs n v
named_length vs (Temporary k) v = refl

-- a machine's variables
pub machine_held : (m : Machine) (x : Variable) → variable_at m x ≡ held m.variables m.temporaries x
machine_held m (Named n) = refl
machine_held m (Temporary k) = refl

pub machine_named : (m : Machine) (x : Variable) (v : Value) → (with_variable m x v).variables ≡ set_named m.variables x v
machine_named m (Named n) v = refl
machine_named m (Temporary k) v = refl

pub machine_temporary : (m : Machine) (x : Variable) (v : Value) → (with_variable m x v).temporaries ≡ set_temporary m.temporaries x v
machine_temporary m (Named n) v = refl
machine_temporary m (Temporary k) v = refl

pub machine_common : (m : Machine) (x : Variable) (v : Value) → (with_variable m x v).common ≡ m.common
machine_common m (Named n) v = refl
machine_common m (Temporary k) v = refl

-- ---- what is read

pub record NumberAt (read : Option Value) : Type 0 where
  pub number : ℤ
  pub is : read ≡ Some (Int number)

record TruthAt (read : Option Value) : Type 0 where
  pub truth : Bool
  pub is : read ≡ Some (Truth truth)

-- what is divided by isn't 0, where something is
abbrev pub IsNotZero : Machine → Option Operand → Type 0
IsNotZero m None = Unit {0}
IsNotZero m (Some y) = (b : ℤ) → operand_at m y ≡ Some (Int b) → is_zero b ≡ false

on_two_is : {A : Type 0} (f : Value → Value → Option A) (x y : Option Value) (v u : Value) → x ≡ Some v → y ≡ Some u → on_two f x y ≡ f v u
on_two_is f x y v u e k = ap (λ z. on_two f z y) e ∙ ap (λ z. on_two f (Some v) z) k

module _ (d : Declared) (p : Parts) (fine : Fine d p) (objects : List ObjectRec) where
  number_of : (read : Option Value) → IsOfType d objects integer read → NumberAt read
  number_of read h =
      int_case d objects h.value h.fits (λ v. read ≡ Some v → NumberAt read) (λ z e. record { number = z; is = e }) h.is

  truth_of : (read : Option Value) → IsOfType d objects boolean read → TruthAt read
  truth_of read h =
      truth_case d objects h.value h.fits (λ v. read ≡ Some v → TruthAt read) (λ b e. record { truth = b; is = e }) h.is

  -- two values that may be compared are the same, or aren't
  record Answer (v u : Value) : Type 0 where
    pub same : Bool
    pub is : are_same v u ≡ Some same

  same_numbers : (v u : Value) → HasType d objects integer v → HasType d objects integer u → Answer v u
  same_numbers v u h k =
      int_case d objects v h (λ v. Answer v u) (λ a. int_case d objects u k (λ u. Answer (Int a) u)
      (λ b. record { same = is_same_number a b; is = refl }))

  same_truths : (v u : Value) → HasType d objects boolean v → HasType d objects boolean u → Answer v u
  same_truths v u h k =
      truth_case d objects v h (λ v. Answer v u)
      (λ a. truth_case d objects u k (λ u. Answer (Truth a) u) (λ b. record { same = is_same_truth a b; is = refl }))

  same_texts : (v u : Value) → HasType d objects string v → HasType d objects string u → Answer v u
  same_texts v u h k =
      text_case d objects v h (λ v. Answer v u) (λ a. text_case d objects u k (λ u. Answer (Str a) u)
      (λ b. record { same = is_same_text a b; is = refl }))

  same_references : (v u : Value) → HasType d objects any v → HasType d objects any u → Answer v u
  same_references v u h k =
      ref_case d objects v any refl h (λ v. Answer v u)
      (ref_case d objects u any refl k (λ u. Answer Nil u) (record { same = true; is = refl }) (λ b j. record { same = false; is = refl }))
      (λ a i. ref_case d objects u any refl k (λ u. Answer (Ref a) u) (record { same = false; is = refl })
      (λ b j. record { same = a == b; is = refl }))

  same_of : (t : StaticType) → Comparable d p t → (v u : Value) → HasType d objects t v → HasType d objects t u → Answer v u
  same_of _ numbers v u h k = same_numbers v u h k
  same_of _ truths v u h k = same_truths v u h k
  same_of _ texts v u h k = same_texts v u h k
  same_of _ references v u h k = same_references v u h k

  module _ (m : Machine) (live : List Live)
      (hold : (x : Variable) (t : StaticType) → Has live x t → IsOfType d objects t (variable_at m x)) where
    pub read_as : (x : Variable) (t : StaticType) → ReadsAs d p live x t → IsOfType d objects t (variable_at m x)
    read_as x t r =
        let h = hold x r.0 r.1 in
        record { value = h.value; is = h.is; fits = stands d p fine objects r.0 t h.value h.fits r.2 }

    pub operand_as : (x : Operand) (t : StaticType) → FineOperand d p live x t → IsOfType d objects t (operand_at m x)
    operand_as (operand.Of x) t f = read_as x t f
    operand_as (operand.Number z) t f =
        record { value = Int z; is = refl; fits = stands d p fine objects integer t (Int z) (of_int d objects z) f }
    operand_as (operand.Truth b) t f =
        record { value = Truth b; is = refl; fits = stands d p fine objects boolean t (Truth b) (of_truth d objects b) f }
    operand_as operand.Nil t f =
        record { value = Nil; is = refl; fits = stands d p fine objects type.Nil t Nil (of_nil d objects type.Nil tt refl) f }

    number_as : (x : Operand) → FineOperand d p live x integer → NumberAt (operand_at m x)
    number_as x f = number_of (operand_at m x) (operand_as x integer f)

    -- ---- sums

    record Computes (how : Arithmetic) (a b : ℤ) : Type 0 where
      pub number : ℤ
      pub is : computed how a b ≡ Some (Int number)

    computes : (how : Arithmetic) (a b : ℤ) (right : Operand) → operand_at m right ≡ Some (Int b) → IsNotZero m (divisor_in how right)
        → Computes how a b
    computes Sum a b right e n = record { number = int_wrapping_add w32 a b; is = refl }
    computes Difference a b right e n = record { number = int_wrapping_sub w32 a b; is = refl }
    computes Product a b right e n = record { number = int_wrapping_mul w32 a b; is = refl }
    computes Quotient a b right e n = record {
      number = int_wrapping_div w32 a b;
      is = ap (λ t. if t then None else Some (Int (int_wrapping_div w32 a b))) (n b e);
    }
    computes Remainder a b right e n = record {
      number = int_rem a b;
      is = ap (λ t. if t then None else Some (Int (int_rem a b))) (n b e);
    }

    pub computed_of : (how : Arithmetic) (left right : Operand) → FineNumbers d p live left right → IsNotZero m (divisor_in how right)
        → NumberAt (on_two (on_numbers (computed how)) (operand_at m left) (operand_at m right))
    computed_of how left right f n =
        let a = number_as left f.0 in
        let b = number_as right f.1 in
        let r = computes how a.number b.number right b.is n in
        record {
          number = r.number;
          is =
              on_two_is (on_numbers (computed how)) (operand_at m left) (operand_at m right) (Int a.number) (Int b.number) a.is b.is
              ∙ r.is;
        }

    -- ---- tests

    pub record Tested (t : Test) : Type 0 where
      pub came_out : Bool
      pub is : tested m t ≡ Some came_out

    pub tested_of : (t : Test) → FineTest d p live t → Tested t
    tested_of (test.Holds x) f =
        let h = truth_of (operand_at m x) (operand_as x boolean f) in
        record { came_out = h.truth; is = ap truth_in h.is }
    tested_of (test.Same x y) f =
        let a = operand_as x f.0 f.2 in
        let b = operand_as y f.0 f.3 in
        let s = same_of f.0 f.1 a.value b.value a.fits b.fits in
        record { came_out = s.same; is = on_two_is are_same (operand_at m x) (operand_at m y) a.value b.value a.is b.is ∙ s.is }
    tested_of (test.Less x y) f =
        let a = number_as x f.0 in
        let b = number_as y f.1 in
        record {
          came_out = int_lt a.number b.number;
          is = on_two_is (on_numbers (λ a b. Some (int_lt a b))) (operand_at m x) (operand_at m y) (Int a.number) (Int b.number) a.is b.is;
        }
    tested_of (test.LessEqual x y) f =
        let a = number_as x f.0 in
        let b = number_as y f.1 in
        record {
          came_out = int_le a.number b.number;
          is = on_two_is (on_numbers (λ a b. Some (int_le a b))) (operand_at m x) (operand_at m y) (Int a.number) (Int b.number) a.is b.is;
        }
    tested_of (test.Divides x y) f =
        let a = number_as x f.0 in
        let b = number_as y f.1 in
        record {
          came_out = not (is_zero b.number);
          is =
              on_two_is (on_numbers (λ a b. Some (not (is_zero b)))) (operand_at m x) (operand_at m y) (Int a.number) (Int b.number) a.is
              b.is;
        }

    not_zero : (b : Bool) → Some (not b) ≡ Some true → b ≡ false
    not_zero true e = cc
    not_zero false e = refl

    divides : (x y : Operand) → FineNumbers d p live x y → tested m (test.Divides x y) ≡ Some true → (b : ℤ) → operand_at m y ≡ Some (Int b)
        → is_zero b ≡ false
    divides x y f e b k =
        let a = number_as x f.0 in
        not_zero (is_zero b)
        (sym (on_two_is (on_numbers (λ a b. Some (not (is_zero b)))) (operand_at m x) (operand_at m y) (Int a.number) (Int b) a.is k) ∙ e)

    -- a test that came out so tells that what is divided by isn't 0
    pub told : (t : Test) (came_out : Bool) → FineTest d p live t → tested m t ≡ Some came_out → (by : Option Operand) → Tells t came_out by
        → IsNotZero m by
    told t came_out f e None h = tt
    told (test.Divides x y) true f e (Some z) h =
        λ b k. divides x y f e b (ap (λ w. operand_at m w) h ∙ k)
    told (test.Divides x y) false f e (Some z) h = absurd h
    told (test.Holds x) came_out f e (Some z) h = absurd h
    told (test.Same x y) came_out f e (Some z) h = absurd h
    told (test.Less x y) came_out f e (Some z) h = absurd h
    told (test.LessEqual x y) came_out f e (Some z) h = absurd h

    -- ---- operands of a stop

    pub record AllRead (xs : List Variable) (ts : List StaticType) : Type 0 where
      pub values : List Value
      pub are : variables_at m xs ≡ Some values
      pub fit : AllTwo (HasType d objects) ts values

    pub all_read : (xs : List Variable) (ts : List StaticType) → HaveTypes d p live xs ts → AllRead xs ts
    all_read [] [] h = record { values = []; are = refl; fit = tt }
    all_read (x ∷ xs) (t ∷ ts) h =
        let a = hold x t h.0 in
        let r = all_read xs ts h.1 in
        record {
          values = a.value ∷ r.values;
          are = ap (λ z. and_others z (variables_at m xs)) a.is ∙ ap (λ z. with_others a.value z) r.are;
          fit = (a.fits, r.fit);
        }
    all_read [] (t ∷ ts) h = absurd h
    all_read (x ∷ xs) [] h = absurd h
