-- What is known of values by the types by which the rules judged them: where no rule is broken, they are what is wanted.
use Rattle.std.proofs.Common.{◌≡◌, ◌==◌, Bool, true, false, ◌&&◌, ◌||◌, List, [], ◌∷◌, length, Option, Some, None, refl, sym, ap, subst}
use Rattle.std.proofs.Common.{option_and_then, not, arith}
use Rattle.std.proofs.lemmas.Bool.{eqb-true, eq-eqb}
use Rattle.std.proofs.lemmas.List.Elements.{All-contains}
use Rattle.std.specs.Prelude.{Contains}
use Rattle.ec_ast.specs.declared.Additive.{Additive}
use Rattle.ec_ast.specs.declared.Additive.TheVariants.{Plus, Minus, Concat}
use Rattle.ec_ast.specs.declared.Comparison.{Comparison}
use Rattle.ec_check.proofs.Every.{Every, all_of, every_weaker, none_left, none_right, not_both, first_holds, second_holds}
use Rattle.ec_check.proofs.KnownTypes.{HasType, test_holds}
use Rattle.ec_check.specs.Places.{type_or}
use Rattle.ec_check.specs.Resolving.{compared_of}
use Rattle.ec_check.specs.WellTyped.{Typed as TypedValue, is_taken, is_of, all_are, is_same_result, conforms_if, goes_in, go_in}
use Rattle.ec_check.specs.WellTyped.{some_class, some_operation, are_compared, wanted_of}
use Rattle.ec_types.specs.Table.{Table}
use Rattle.ec_types.specs.Types.{is_reference_type, is_same, is_same_type, known}
use Rattle.ec_types.specs.declared.conform.static_type.Plain.{Plain as PlainType}
use Rattle.ec_types.specs.declared.conform.static_type.Plain.TheVariants.{Integer, Boolean, String, Any, Node, Named}
use Rattle.ec_types.specs.declared.conform.static_type.StaticType.{StaticType}
use Rattle.ec_types.specs.declared.conform.static_type.StaticType.TheVariants.{Plain, Vector, Nil, Unknown}
use Rattle.ec_core.specs.declared.Class.{Class}
use Rattle.ec_core.specs.declared.Operation.{Operation}
use Rattle.ec_rules.specs.Calls.{wrong_arguments_for}
use Rattle.ec_rules.specs.Operands as rules
use Rattle.ec_rules.specs.Operands.{wants, wants_all, must_conform, can_compare, can_compare_if, is_like_left, right_fits, are_alike}
use Rattle.ec_rules.specs.Operands.{comparison_faults, result_type}
use Rattle.ec_rules.specs.Types.{integer, fits, takes}
use Rattle.ec_rules.specs.declared.judged.Judged.{Judged}
use Rattle.ec_rules.specs.declared.operands.Wanted.{Wanted}
use Rattle.ec_rules.specs.declared.operands.Wanted.TheVariants as wanted

-- ---- tests

pub both_hold : (a b : Bool) → a ≡ true → b ≡ true → a && b ≡ true
both_hold true b e f = f
both_hold false b e f = e

pub first_of_two : (a b : Bool) → a ≡ true → a || b ≡ true
first_of_two true b e = refl
first_of_two false b e = not_both e

pub second_of_two : (a b : Bool) → b ≡ true → a || b ≡ true
second_of_two true b e = refl
second_of_two false b e = e

-- some class of these passes a test, where one of them does
passing_class : (test : Class → Bool) (cs : List Class) → Every (λ c. test c ≡ true → some_class test cs ≡ true) cs
passing_class test [] = tt
passing_class test (c ∷ cs) = (
  (λ e. first_of_two (test c) (some_class test cs) e),
  every_weaker (λ d. test d ≡ true → some_class test cs ≡ true) (λ d. test d ≡ true → some_class test (c ∷ cs) ≡ true)
      (λ d h e. second_of_two (test c) (some_class test cs) (h e)) cs (passing_class test cs),
)

pub some_class_is : (test : Class → Bool) (cs : List Class) (c : Class) → Contains cs c → test c ≡ true → some_class test cs ≡ true
some_class_is test cs c k e =
    All-contains (λ c. test c ≡ true → some_class test cs ≡ true) cs c (all_of _ cs (passing_class test cs)) k e

passing_operation : (test : Operation → Bool) (os : List Operation) →
    Every (λ o. test o ≡ true → some_operation test os ≡ true) os
passing_operation test [] = tt
passing_operation test (o ∷ os) = (
  (λ e. first_of_two (test o) (some_operation test os) e),
  every_weaker (λ p. test p ≡ true → some_operation test os ≡ true)
      (λ p. test p ≡ true → some_operation test (o ∷ os) ≡ true)
      (λ p h e. second_of_two (test o) (some_operation test os) (h e)) os (passing_operation test os),
)

pub some_operation_is : (test : Operation → Bool) (os : List Operation) (o : Operation) → Contains os o → test o ≡ true →
    some_operation test os ≡ true
some_operation_is test os o k e =
    All-contains (λ o. test o ≡ true → some_operation test os ≡ true) os o (all_of _ os (passing_operation test os)) k e

-- ---- types

pub same_plain : (of : PlainType) → is_same of of ≡ true
same_plain Integer = refl
same_plain Boolean = refl
same_plain String = refl
same_plain Any = refl
same_plain Node = refl
same_plain (Named n) = eq-eqb n n refl

pub same_type : (of : StaticType) → HasType (Some of) → is_same_type of of ≡ true
same_type (Plain of) h = same_plain of
same_type (Vector inner of) h = both_hold _ _ (eq-eqb inner inner refl) (same_plain of)
same_type Nil h = refl
same_type Unknown h = h

plain_is : (a b : PlainType) → is_same a b ≡ true → a ≡ b
plain_is Integer Integer e = refl
plain_is Boolean Boolean e = refl
plain_is String String e = refl
plain_is Any Any e = refl
plain_is Node Node e = refl
plain_is (Named a) (Named b) e = ap Named (eqb-true a b e)
plain_is a b e = not_both e

pub type_is : (a b : StaticType) → is_same_type a b ≡ true → a ≡ b
type_is (Plain a) (Plain b) e = ap Plain (plain_is a b e)
type_is (Vector m a) (Vector n b) e =
    let f : m ≡ n = eqb-true m n (first_holds (m == n) (is_same a b) e) in
    let g : a ≡ b = plain_is a b (second_holds (m == n) (is_same a b) e) in cc
type_is Nil Nil e = refl
type_is a b e = not_both e

pub result_is : (a : Option StaticType) (of : StaticType) → is_same_result a (Some of) ≡ true → a ≡ Some of
result_is None of e = not_both e
result_is (Some a) of e = ap Some (type_is a of e)

pub is_type : (of : Option StaticType) → HasType of → of ≡ Some (type_or of)
is_type None h = not_both h
is_type (Some of) h = refl

pub known_is : (of : Option StaticType) → HasType of → option_and_then known of ≡ of
known_is None h = refl
known_is (Some (Plain of)) h = refl
known_is (Some (Vector inner of)) h = refl
known_is (Some Nil) h = refl
known_is (Some Unknown) h = not_both h

pub same_as_itself : (of : Option StaticType) → HasType of → is_same_result of of ≡ true
same_as_itself None h = refl
same_as_itself (Some of) h = same_type of h

pub same_result : (of : Option StaticType) → is_same_result (option_and_then known of) (option_and_then known of) ≡ true
same_result None = refl
same_result (Some (Plain of)) = same_plain of
same_result (Some (Vector inner of)) = both_hold _ _ (eq-eqb inner inner refl) (same_plain of)
same_result (Some Nil) = refl
same_result (Some Unknown) = refl

-- ---- values

-- a value of which the rules know the type
pub record IsValue (x : TypedValue) (v : Judged) : Type 0 where
  pub has_type : x.of ≡ v.of
  pub is_well : x.is_well ≡ true
  pub known : HasType v.of
  pub clean : v.is_clean ≡ true

abbrev pub Values : List TypedValue → List Judged → Type 0
Values [] [] = Unit {0}
Values [] (v ∷ vs) = ⊥
Values (x ∷ xs) [] = ⊥
Values (x ∷ xs) (v ∷ vs) = IsValue x v × Values xs vs

pub taken : (w : Wanted) (of : Option StaticType) → HasType of → fits w of ≡ true → is_taken w of ≡ true
taken w None h f = h
taken w (Some of) h f = f

pub is_of_type : (w : Wanted) (x : TypedValue) (of : Option StaticType) → x.is_well ≡ true → x.of ≡ of → HasType of →
    fits w of ≡ true → is_of w x ≡ true
is_of_type w x of h e k f =
    both_hold x.is_well (is_taken w x.of) h (subst (λ o. is_taken w o ≡ true) (sym e) (taken w of k f))

pub is_wanted : (w : Wanted) (x : TypedValue) (v : Judged) → IsValue x v → wants w v ≡ [] → is_of w x ≡ true
is_wanted w x v h e = is_of_type w x v.of h.is_well h.has_type h.known (test_holds _ _ _ e)

pub all_wanted : (xs : List TypedValue) (vs : List Judged) (w : Wanted) → Values xs vs → wants_all w vs ≡ [] → all_are w xs ≡ true
all_wanted [] [] w h e = refl
all_wanted [] (v ∷ vs) w h e = absurd h
all_wanted (x ∷ xs) [] w h e = absurd h
all_wanted (x ∷ xs) (v ∷ vs) w h e =
    both_hold _ _ (is_wanted w x v h.0 (none_left _ _ e)) (all_wanted xs vs w h.1 (none_right _ _ e))

-- ---- values that go into places

conforming : (table : Table) (of : Option StaticType) (wanted : StaticType) → HasType of →
    rules.conforms_if table of wanted ≡ true → conforms_if table of wanted ≡ true
conforming table None wanted h e = h
conforming table (Some of) wanted h e = e

pub value_goes_in : (table : Table) (wanted : StaticType) (x : TypedValue) (v : Judged) → IsValue x v →
    must_conform table wanted v ≡ [] → goes_in table wanted x ≡ true
value_goes_in table wanted x v h e =
    both_hold x.is_well (conforms_if table x.of wanted) h.is_well
    (subst (λ o. conforms_if table o wanted ≡ true) (sym h.has_type)
    (conforming table v.of wanted h.known (test_holds _ _ _ e)))

pub values_go_in : (ts : List StaticType) (xs : List TypedValue) (vs : List Judged) (table : Table) → Values xs vs →
    length ts ≡ length vs → wrong_arguments_for table ts vs ≡ [] → go_in table ts xs ≡ true
values_go_in [] [] vs table h l e = refl
values_go_in [] (x ∷ xs) [] table h l e = absurd h
values_go_in [] (x ∷ xs) (v ∷ vs) table h l e = absurd (omega arith)
values_go_in (t ∷ ts) [] [] table h l e = absurd (omega arith)
values_go_in (t ∷ ts) [] (v ∷ vs) table h l e = absurd h
values_go_in (t ∷ ts) (x ∷ xs) [] table h l e = absurd h
values_go_in (t ∷ ts) (x ∷ xs) (v ∷ vs) table h l e =
    both_hold _ _ (value_goes_in table t x v h.0 (none_left _ _ e))
    (values_go_in ts xs vs table h.1 (omega arith) (none_right _ _ e))

-- What conforms to Integer is one.
pub integer_is : (table : Table) (of : Option StaticType) → HasType of → rules.conforms_if table of integer ≡ true →
    is_taken wanted.Integer of ≡ true
integer_is table None h e = h
integer_is table (Some (Plain Integer)) h e = refl
integer_is table (Some (Plain Boolean)) h e = e
integer_is table (Some (Plain String)) h e = e
integer_is table (Some (Plain Any)) h e = e
integer_is table (Some (Plain Node)) h e = e
integer_is table (Some (Plain (Named n))) h e = e
integer_is table (Some (Vector inner of)) h e = e
integer_is table (Some Nil) h e = e
integer_is table (Some Unknown) h e = h

-- ---- comparisons

one_of : {P : Type 0} (a b : Bool) → (a ≡ true → P) → (b ≡ true → P) → a || b ≡ true → P
one_of true b f g e = f refl
one_of false b f g e = g e

-- The left operand is what the comparison says.
left_is_compared : (a : StaticType) → HasType (Some a) → takes (wanted_of (compared_of (Some a))) a ≡ true
left_is_compared (Plain Integer) h = refl
left_is_compared (Plain Boolean) h = refl
left_is_compared (Plain String) h = refl
left_is_compared (Plain Any) h = refl
left_is_compared (Plain Node) h = refl
left_is_compared (Plain (Named n)) h = refl
left_is_compared (Vector inner of) h = refl
left_is_compared Nil h = refl
left_is_compared Unknown h = h

reference_is_compared : (a b : StaticType) → is_reference_type a && is_reference_type b ≡ true →
    takes (wanted_of (compared_of (Some a))) b ≡ true
reference_is_compared (Plain Integer) b e = not_both e
reference_is_compared (Plain Boolean) b e = not_both e
reference_is_compared (Plain String) b e = not_both e
reference_is_compared (Plain Any) b e = e
reference_is_compared (Plain Node) b e = e
reference_is_compared (Plain (Named n)) b e = e
reference_is_compared (Vector inner of) b e = e
reference_is_compared Nil b e = e
reference_is_compared Unknown b e = not_both e

-- So is the right one, which is like it.
right_is_compared : (a b : StaticType) → HasType (Some a) → are_alike a b ≡ true →
    takes (wanted_of (compared_of (Some a))) b ≡ true
right_is_compared a b h e =
    one_of (is_same_type a b) (is_reference_type a && is_reference_type b)
    (λ same. subst (λ z. takes (wanted_of (compared_of (Some a))) z ≡ true) (type_is a b same) (left_is_compared a h))
    (reference_is_compared a b) e

compared : (op : Comparison) (a b : Option StaticType) → HasType a → HasType b → can_compare_if op a ≡ true →
    right_fits op a b ≡ true → are_compared op (compared_of a) a b ≡ true
compared op None b h k e f = h
compared op (Some a) None h k e f = k
compared op (Some a) (Some b) h k e f =
    let like : are_alike a b ≡ true =
    alike (can_compare op a) (are_alike a b) e (second_holds (can_compare op b) (is_like_left op (Some a) b) f) in
    both_hold (can_compare op a) _ e
    (both_hold (can_compare op b) _ (first_holds _ _ f)
    (both_hold (are_alike a b) _ like (both_hold _ _ (left_is_compared a h) (right_is_compared a b h like))))
  where
    alike : (c d : Bool) → c ≡ true → not c || d ≡ true → d ≡ true
    alike true d e f = f
    alike false d e f = not_both e

pub values_compared : (op : Comparison) (x y : TypedValue) (v w : Judged) → IsValue x v → IsValue y w →
    comparison_faults op v w ≡ [] → are_compared op (compared_of v.of) x.of y.of ≡ true
values_compared op x y v w h k e =
    subst (λ a. are_compared op (compared_of v.of) a y.of ≡ true) (sym h.has_type)
    (subst (λ b. are_compared op (compared_of v.of) v.of b ≡ true) (sym k.has_type)
    (compared op v.of w.of h.known k.known (test_holds _ _ _ (none_left _ _ e)) (test_holds _ _ _ (none_right _ _ e))))

-- ---- sums

pub result_has_type : (operator : Additive) → HasType (Some (result_type operator))
result_has_type Plus = refl
result_has_type Minus = refl
result_has_type Concat = refl
