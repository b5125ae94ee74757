-- What a source is lowered to enters at first lines alone, and ends where nothing is called.
use Rattle.std.proofs.Common.{◌≡◌, ◌∙◌, ◌≤◌, ◌+◌, ◌==◌, ℕ, zero, suc, Bool, true, false, List, [], ◌∷◌, ◌++◌, drop, map, Option, Some}
use Rattle.std.proofs.Common.{⊎_elim, refl, sym, ap, subst, arith}
use Rattle.std.specs.Prelude.{◌&&◌, if◌then◌else◌, slice_get}
use Rattle.ec_code.specs.declared.code.Line.{Line}
use Rattle.ec_code.specs.declared.code.Op.{Op}
use Rattle.ec_code.specs.declared.code.Operation.{Operation as Made}
use Rattle.ec_code.specs.declared.code.Variable.{Variable}
use Rattle.ec_core.specs.declared.Constant.{Constant}
use Rattle.ec_core.specs.declared.Kind.{Kind}
use Rattle.ec_core.specs.declared.Kind.TheVariants as kind
use Rattle.ec_core.specs.declared.Operation.{Operation}
use Rattle.ec_emission.specs.Expressions.{emitted}
use Rattle.ec_emission.specs.Literals.{literals_of}
use Rattle.ec_emission.specs.Lowered.{AreOperationsOf, HasLines, IsOperationOf, around, class_of_operation}
use Rattle.ec_emission.specs.Statements.{body_done, constant_ops, default_ops, entry, leave_ops, leave_row, result_of}
use Rattle.ec_emission.specs.Types.{Around, behind, lines_of}
use Rattle.ec_meaning.specs.Programs.{Source, class_of, classes_of, initial_from, is_initial, is_named, name_number, operations_from}
use Rattle.ec_meaning.specs.Steps.{captured_by}
use Rattle.ec_types.specs.declared.conform.static_type.StaticType.{StaticType}
use Rattle.ec_world.proofs.Counting.{if_case}
use Rattle.ec_world.proofs.Members.{has_none, has_parts}
use Rattle.ec_world.specs.Agree.{AllTwo}
use Rattle.ec_world.specs.declared.class.ClassRec.{ClassRec}
use Rattle.ec_world.specs.declared.class.OperationRec.{OperationRec}
use Rattle.ec_world.specs.Group.{Has}
use Rattle.ec_world.specs.Objects.{operation_named}
use Rattle.ec_reached.proofs.CodeSteps.{code_orderly}
use Rattle.ec_reached.proofs.EmittedFits.{Fit, both, is_fit, plain}
use Rattle.ec_reached.proofs.Table.{both_true}
use Rattle.ec_reached.proofs.StatementFits.{block_fit, defaults_fit}
use Rattle.ec_reached.specs.Code.{CodeFits, LinesFit, OperationsFit, StopFits}
use Rattle.ec_reached.specs.Lowered.{EachLoweredRunIsOrderly, LoweredStops}
use Rattle.ec_reached.specs.Meant.{IsNotCalled}

-- ---- what is called

has_map : {A B : Type 0} (f : A → B) (xs : List A) (y : B) → Has (map f xs) y → (x : A) × (y ≡ f x)
has_map f [] y h = absurd (has_none y h)
has_map f (x ∷ xs) y h = ⊎_elim
    (λ (e : y ≡ f x). (x, e))
    (λ (k : Has (map f xs) y). has_map f xs y k)
    (has_parts (f x) y (map f xs) h)

-- the number of the operation that makes objects is at least that of the first one
initial_low : (os : List Operation) (from class n : ℕ) → initial_from from os class ≡ n → from ≤ n
initial_low [] from class n e = omega arith
initial_low (x ∷ xs) from class n e =
    if_case (λ (m : ℕ). m ≡ n → from ≤ n) (x.class == class && is_initial x.kind) from (initial_from (suc from) xs class)
    (λ b i. omega arith) (λ b i. let l = initial_low xs (suc from) class n i in omega arith) e

-- and it is one that does
initial_is : (os : List Operation) (from class i : ℕ) (o : Operation) → slice_get os i ≡ Some o → initial_from from os class ≡ from + i →
    is_initial o.kind ≡ true
initial_is [] from class i o at e = absurd cc
initial_is (x ∷ xs) from class zero o at e =
    let same : x ≡ o = cc in
    if_case (λ (m : ℕ). m ≡ from + 0 → is_initial o.kind ≡ true) (x.class == class && is_initial x.kind) from
    (initial_from (suc from) xs class)
    (λ b j. subst (λ (z : Operation). is_initial z.kind ≡ true) same (both_true (x.class == class) (is_initial x.kind) b).1)
    (λ b j. let l = initial_low xs (suc from) class (from + 0) j in absurd (omega arith)) e
initial_is (x ∷ xs) from class (suc i) o at e =
    if_case (λ (m : ℕ). m ≡ from + suc i → is_initial o.kind ≡ true) (x.class == class && is_initial x.kind) from
    (initial_from (suc from) xs class) (λ b j. absurd (omega arith))
    (λ b j. initial_is xs (suc from) class i o at (let n : from + suc i ≡ suc from + i = omega arith in j ∙ n)) e

some_same : (a b : ℕ) → Some a ≡ Some b → a ≡ b
some_same a b e = cc

module _ (s : Source) (class : ℕ) where
  -- the same of operations with names
  abbrev named_first : ℕ → Operation → List Operation → List OperationRec
  named_first from x xs =
      (if x.class == class && is_named x.kind then record { name = name_number s x.name; operation = from } ∷ [] else [])
      ++ operations_from s (suc from) xs class

  named_low : (os : List Operation) (from name n : ℕ) → operation_named (operations_from s from os class) name ≡ Some n → from ≤ n
  named_low [] from name n e = absurd cc
  named_low (x ∷ xs) from name n e =
      if_case
      (λ (front : List OperationRec). operation_named (front ++ operations_from s (suc from) xs class) name ≡ Some n → from ≤ n)
      (x.class == class && is_named x.kind) (record { name = name_number s x.name; operation = from } ∷ []) []
      (λ b i.
      if_case (λ (t : Option ℕ). t ≡ Some n → from ≤ n) (name_number s x.name == name) (Some from)
      (operation_named (operations_from s (suc from) xs class) name)
      (λ c j. let k = some_same from n j in omega arith)
      (λ c j. later (named_low xs (suc from) name n j)) i)
      (λ b i. later (named_low xs (suc from) name n i)) e
    where
      later : suc from ≤ n → from ≤ n
      later l = omega arith

  named_is : (os : List Operation) (from name i : ℕ) (o : Operation) → slice_get os i ≡ Some o →
      operation_named (operations_from s from os class) name ≡ Some (from + i) → is_named o.kind ≡ true
  named_is [] from name i o at e = absurd cc
  named_is (x ∷ xs) from name zero o at e =
      let same : x ≡ o = cc in
      if_case
      (λ (front : List OperationRec). operation_named (front ++ operations_from s (suc from) xs class) name ≡ Some (from + 0) →
      is_named o.kind ≡ true)
      (x.class == class && is_named x.kind) (record { name = name_number s x.name; operation = from } ∷ []) []
      (λ b i. subst (λ (z : Operation). is_named z.kind ≡ true) same (both_true (x.class == class) (is_named x.kind) b).1)
      (λ b i. let l = named_low xs (suc from) name (from + 0) i in absurd (omega arith)) e
  named_is (x ∷ xs) from name (suc i) o at e =
      if_case
      (λ (front : List OperationRec). operation_named (front ++ operations_from s (suc from) xs class) name ≡ Some (from + suc i) →
      is_named o.kind ≡ true)
      (x.class == class && is_named x.kind) (record { name = name_number s x.name; operation = from } ∷ []) []
      (λ b j.
      if_case (λ (t : Option ℕ). t ≡ Some (from + suc i) → is_named o.kind ≡ true) (name_number s x.name == name) (Some from)
      (operation_named (operations_from s (suc from) xs class) name)
      (λ c k. absurd (let l = some_same from (from + suc i) k in omega arith))
      (λ c k. named_is xs (suc from) name i o at (k ∙ ap Some moved)) j)
      (λ b j. named_is xs (suc from) name i o at (j ∙ ap Some moved)) e
    where
      moved : from + suc i ≡ suc from + i
      moved = omega arith

module _ (s : Source) where
  -- the program's own operation
  program_uncalled : IsNotCalled (classes_of s) 0
  program_uncalled = record {
    initial = λ k h e.
        let c = has_map (class_of s) s.core.classes k h in
        let f : initial_from 1 s.core.operations c.0.number ≡ 0 = sym (ap (λ (z : ClassRec). z.initial) c.1) ∙ e in
        absurd (let l = initial_low s.core.operations 1 c.0.number 0 f in omega arith);
    named = λ k name h e.
        let c = has_map (class_of s) s.core.classes k h in
        let f : operation_named (operations_from s 1 s.core.operations c.0.number) name ≡ Some 0 =
        sym (ap (λ (z : ClassRec). operation_named z.operations name) c.1) ∙ e in
        absurd (let l = named_low s c.0.number s.core.operations 1 name 0 f in omega arith);
  }

  -- a process section
  section_uncalled : (i : ℕ) (o : Operation) → slice_get s.core.operations i ≡ Some o → o.kind ≡ kind.Process →
      IsNotCalled (classes_of s) (1 + i)
  section_uncalled i o at is = record {
    initial = λ k h e.
        let c = has_map (class_of s) s.core.classes k h in
        let f : initial_from 1 s.core.operations c.0.number ≡ 1 + i = sym (ap (λ (z : ClassRec). z.initial) c.1) ∙ e in
        let t = initial_is s.core.operations 1 c.0.number i o at f in
        absurd (let n : is_initial o.kind ≡ false = ap is_initial is in cc);
    named = λ k name h e.
        let c = has_map (class_of s) s.core.classes k h in
        let f : operation_named (operations_from s 1 s.core.operations c.0.number) name ≡ Some (1 + i) =
        sym (ap (λ (z : ClassRec). operation_named z.operations name) c.1) ∙ e in
        let t = named_is s c.0.number s.core.operations 1 name i o at f in
        absurd (let n : is_named o.kind ≡ false = ap is_named is in cc);
  }

-- ---- the code of operations

lines_fit : (classes : List ClassRec) (number : ℕ) (w : Around) (ts : List StaticType) (ops : List Op) (lists : List (List Variable)) →
    Fit classes number ops → LinesFit classes number (lines_of w ts ops lists)
lines_fit classes number w ts [] lists k = tt
lines_fit classes number w ts (o ∷ os) [] k = tt
lines_fit classes number w ts (o ∷ os) (xs ∷ lists) k = (k.0, lines_fit classes number w (behind w ts o) os lists k.1)

first_fits : (classes : List ClassRec) (number : ℕ) (w : Around) (o : Op) (ops : List Op) (lists : List (List Variable)) →
    Fit classes number ops → CodeFits classes number (lines_of w [] (o ∷ ops) lists)
first_fits classes number w o ops [] k = tt
first_fits classes number w o ops (xs ∷ lists) k = lines_fit classes number w (behind w [] o) ops lists k

code_fits : (classes : List ClassRec) (number : ℕ) (w : Around) (o : Op) (ops : List Op) (code : List Line) → HasLines w (o ∷ ops) code →
    Fit classes number ops → CodeFits classes number code
code_fits classes number w o ops code h k =
    subst (λ z. CodeFits classes number z) (sym h.lines) (first_fits classes number w o ops h.lists k)

module _ (classes : List ClassRec) (number : ℕ) where
  result_fits : (b : Bool) (n : ℕ) → StopFits classes number (result_of b n).stop
  result_fits true n = plain classes number _ refl refl
  result_fits false n = plain classes number _ refl refl

  leave_fits : (k : Kind) (o : Operation) → (k ≡ kind.Process → IsNotCalled classes number) → StopFits classes number (leave_row k o).stop
  leave_fits kind.Named o h = result_fits o.has_result o.parameters
  leave_fits kind.Initial o h = plain classes number _ refl refl
  leave_fits kind.Process o h = record { no_entry = refl; ends = λ i. h refl }

  module _ (s : Source) (literals : List (List ℕ)) where
    body_fits : (captured : ℕ) (o : Operation) → (o.kind ≡ kind.Process → IsNotCalled classes number) →
        Fit classes number (default_ops s captured literals o ++ ((body_done s captured literals o).code 0 ++ leave_ops o))
    body_fits captured o h =
        let ends : Fit classes number (leave_ops o) = (leave_fits o.kind o h, tt) in
        both classes number (default_ops s captured literals o) ((body_done s captured literals o).code 0 ++ leave_ops o)
        (defaults_fit classes number s captured o.variables literals (leave_ops o) ends o.parameters (drop o.parameters o.variables))
        (both classes number ((body_done s captured literals o).code 0) (leave_ops o)
        (block_fit classes number s captured o.variables literals (leave_ops o) ends o.block 0) ends)

    constants_fit : IsNotCalled classes number → (n : ℕ) (cs : List Constant) → Fit classes number (constant_ops s literals n cs)
    constants_fit h n [] = (record { no_entry = refl; ends = λ i. h }, tt)
    constants_fit h n (c ∷ cs) =
        let k = is_fit classes number s 0 0 literals c.value in
        both classes number ((emitted s 0 0 literals c.value).code 0) _ (k.code 0)
        (plain classes number _ refl refl, constants_fit h (suc n) cs)

-- ---- programs

module _ (s : Source) where
  abbrev texts : List (List ℕ)
  texts = literals_of s.core

  -- those from a number on
  each_fits : (os : List Operation) (made : List Made) (from : ℕ) → AllTwo (IsOperationOf s) os made →
      ((i : ℕ) (o : Operation) → slice_get os i ≡ Some o → o.kind ≡ kind.Process → IsNotCalled (classes_of s) (from + i)) →
      OperationsFit (classes_of s) from made
  each_fits [] [] from h n = tt
  each_fits (o ∷ os) (m ∷ ms) from h n =
      let is = h.0 in
      let first : from + 0 ≡ from = omega arith in (
        code_fits (classes_of s) from (around s (class_of_operation s o) o.variables) entry
            (default_ops s (captured_by s (class_of_operation s o)) texts o
            ++ ((body_done s (captured_by s (class_of_operation s o)) texts o).code 0 ++ leave_ops o))
            m.code is.code
            (body_fits (classes_of s) from s texts (captured_by s (class_of_operation s o)) o
            (λ e. subst (λ k. IsNotCalled (classes_of s) k) first (n 0 o refl e))),
        each_fits os ms (suc from) h.1
            (λ i x at e.
            let moved : from + suc i ≡ suc from + i = omega arith in
            subst (λ k. IsNotCalled (classes_of s) k) moved (n (suc i) x at e)),
      )
  each_fits [] (m ∷ ms) from h n = absurd h
  each_fits (o ∷ os) [] from h n = absurd h

  operations_fit : (made : List Made) → AreOperationsOf s made → OperationsFit (classes_of s) 0 made
  operations_fit [] h = absurd h
  operations_fit (m ∷ ms) h =
      let is = h.0 in (
        code_fits (classes_of s) 0 _ entry (constant_ops s texts 0 s.core.constants) m.code is.code
            (constants_fit (classes_of s) 0 s texts (program_uncalled s) 0 s.core.constants),
        each_fits s.core.operations ms 1 h.1 (section_uncalled s),
      )

pub lowered_stops : LoweredStops
lowered_stops s p h = subst (λ ks. OperationsFit ks 0 p.operations) (sym h.classes) (operations_fit s p.operations h.operations)

pub lowered_orderly : EachLoweredRunIsOrderly
lowered_orderly s p h n entries = code_orderly p (lowered_stops s p h) n entries
