-- What is known of a call or an index by what is known of what stands before it: where no rule is broken, it is well typed,
-- and of the type that the rules give it.
use Rattle.std.proofs.Common.{◌≡◌, ℕ, ◌==◌, Bool, true, false, ◌&&◌, ◌||◌, not, List, [], ◌∷◌, length, map, codes, Option, Some}
use Rattle.std.proofs.Common.{None, refl, sym, ap, ◌∙◌, subst}
use Rattle.std.proofs.Common.{option_and_then, option_map, is_some, if◌then◌else◌, arith}
use Rattle.std.proofs.lemmas.Bool.{eqb-true, eq-eqb}
use Rattle.ec_ast.specs.declared.Name.{Name}
use Rattle.ec_ast.specs.declared.Span.{Span}
use Rattle.ec_check.proofs.Every.{Where, none_left, none_right, not_both, first_holds}
use Rattle.ec_check.proofs.KnownTypes.{HasType, test_holds, element_has_type}
use Rattle.ec_check.proofs.TypedRolled.{expression_has, link_has}
use Rattle.ec_check.proofs.WellParts.{ClassStands, OperationStands}
use Rattle.ec_check.proofs.WellValues.{both_hold, first_of_two, second_of_two, some_class_is, some_operation_is, same_as_itself}
use Rattle.ec_check.proofs.WellValues.{same_result, is_type}
use Rattle.ec_check.proofs.WellValues.{IsValue, Values, is_of_type, is_wanted, values_go_in, integer_is}
use Rattle.ec_check.specs.Places.{type_or}
use Rattle.ec_check.specs.Resolving.{builtin_of, called, number_of_class}
use Rattle.ec_check.specs.WellTyped.{Site, Typed as TypedValue, typed_if, typed, typed_link, is_taken, is_of, go_in, is_same_result}
use Rattle.ec_check.specs.WellTyped.{can_be_called, is_own, own_has}
use Rattle.ec_check.specs.WellTyped.{fits_operation, type_has, can_invoke, are_none, are_two_integers, call_typed, is_element}
use Rattle.ec_check.specs.WellTyped.{parameters_of_class}
use Rattle.ec_check.specs.WellTyped.{result_of as result_variable}
use Rattle.ec_types.specs.Conforms.{operations_at}
use Rattle.ec_types.specs.Table.{Table}
use Rattle.ec_types.specs.Types.{element_of, known, named, operation_named}
use Rattle.ec_types.specs.declared.conform.operations.NamedOperation.{NamedOperation}
use Rattle.ec_types.specs.declared.conform.static_type.Plain.TheVariants.{Integer, Boolean, String, Any, Node, Named}
use Rattle.ec_types.specs.declared.conform.static_type.StaticType.{StaticType}
use Rattle.ec_types.specs.declared.conform.static_type.StaticType.TheVariants.{Plain, Vector, Nil, Unknown}
use Rattle.ec_core.specs.declared.Builtin.{Builtin}
use Rattle.ec_core.specs.declared.Builtin.TheVariants.{AsString, Length, GetSlice, Size}
use Rattle.ec_core.specs.declared.Expression.{Expression}
use Rattle.ec_core.specs.declared.Expression.TheOpen.{Expression-F as Core-F, Link-F as CoreLink-F}
use Rattle.ec_core.specs.declared.Expression.TheVariants as e
use Rattle.ec_core.specs.declared.Link.TheVariants as l
use Rattle.ec_types.specs.Names.{Text, is_same}
use Rattle.ec_rules.specs.Calls.{Callee, Called, Missing, Whatever, is_word, called_as, callee_if, callee_of_type, callee_of_self}
use Rattle.ec_rules.specs.Calls.{callee_of_class, is_missing, is_arity, call_faults, wrong_arguments, wrong_arguments_for}
use Rattle.ec_rules.specs.Calls.{result_of, type_indexed, type_of_object}
use Rattle.ec_rules.specs.Operands.{wants, must_conform}
use Rattle.ec_rules.specs.Rules.{fault_if}
use Rattle.ec_rules.specs.Types.{integer, string, fits}
use Rattle.ec_rules.specs.declared.Rule.{Rule}
use Rattle.ec_rules.specs.declared.judged.Judged.{Judged}
use Rattle.ec_rules.specs.declared.operands.Wanted.TheVariants as wanted
use Rattle.ec_types.specs.Scopes.{own_operation}
use Rattle.ec_types.specs.declared.scopes.globals.ClassMeant.{ClassMeant}
use Rattle.ec_types.specs.declared.scopes.object.Object.{Object}
use Rattle.ec_types.specs.declared.scopes.scope.Scope.{Scope}

-- what is well typed, and of such a type or of none
pub record Is (x : TypedValue) (of : Option StaticType) : Type 0 where
  pub has_type : x.of ≡ of
  pub is_well : x.is_well ≡ true

pub same_is : {x y : TypedValue} {of : Option StaticType} → x ≡ y → Is y of → Is x of
same_is {x} {y} {of} e h = subst (λ z. Is z of) (sym e) h

pub is_if : (b : Bool) (of : Option StaticType) → b ≡ true → Is (typed_if b of) of
is_if b of e = record { has_type = refl; is_well = e }

pub is_if_other : (b : Bool) (of same : Option StaticType) → b ≡ true → same ≡ of → Is (typed_if b of) same
is_if_other b of same e f = record { has_type = sym f; is_well = e }

-- ---- arguments

none_given : (xs : List TypedValue) (vs : List Judged) → Values xs vs → 0 ≡ length vs → are_none xs ≡ true
none_given [] vs h e = refl
none_given (x ∷ xs) [] h e = absurd h
none_given (x ∷ xs) (v ∷ vs) h e = absurd (omega arith)

integer_given : (table : Table) (x : TypedValue) (v : Judged) → IsValue x v → must_conform table integer v ≡ [] →
    is_of wanted.Integer x ≡ true
integer_given table x v h e =
    is_of_type wanted.Integer x v.of h.is_well h.has_type h.known (as_wanted v.of (integer_is table v.of h.known (test_holds _ _ _ e)))
  where
    as_wanted : (of : Option StaticType) → is_taken wanted.Integer of ≡ true → fits wanted.Integer of ≡ true
    as_wanted None e = not_both e
    as_wanted (Some of) e = e

integers_given : (table : Table) (xs : List TypedValue) (vs : List Judged) → Values xs vs → 2 ≡ length vs →
    wrong_arguments_for table (integer ∷ integer ∷ []) vs ≡ [] → are_two_integers xs ≡ true
integers_given table [] [] h l e = absurd (omega arith)
integers_given table [] (v ∷ vs) h l e = absurd h
integers_given table (x ∷ xs) [] h l e = absurd h
integers_given table (x ∷ []) (v ∷ []) h l e = absurd (omega arith)
integers_given table (x ∷ []) (v ∷ w ∷ vs) h l e = absurd h.1
integers_given table (x ∷ y ∷ xs) (v ∷ []) h l e = absurd h.1
integers_given table (x ∷ y ∷ []) (v ∷ w ∷ []) h l e =
    both_hold _ _ (integer_given table x v h.0 (none_left _ _ e))
    (integer_given table y w h.1.0 (none_left _ _ (none_right _ _ e)))
integers_given table (x ∷ y ∷ []) (v ∷ w ∷ u ∷ vs) h l e = absurd (omega arith)
integers_given table (x ∷ y ∷ z ∷ xs) (v ∷ w ∷ []) h l e = absurd h.1.1
integers_given table (x ∷ y ∷ z ∷ xs) (v ∷ w ∷ u ∷ vs) h l e = absurd (omega arith)

-- ---- what is called

-- a call of an operation that is there: as many arguments as parameters, each conforming to its own
pub record Fitting (table : Table) (c : Callee) (vs : List Judged) : Type 0 where
  pub missing : is_missing c ≡ false
  pub arity : is_arity false c (length vs) ≡ true
  pub arguments : wrong_arguments table c vs ≡ []

not_missing : (b : Bool) (rule : Rule) (at : Span) →
    fault_if b rule at ≡ [] → b ≡ false
not_missing true rule at e = cc
not_missing false rule at e = refl

arity_alone : (needed : Bool) (c : Callee) (n : ℕ) → is_arity needed c n ≡ true → is_arity false c n ≡ true
arity_alone needed (Called parameters result) n e =
    both_hold (length parameters == n) true (first_holds (length parameters == n) (not needed || is_some result) e) refl
arity_alone needed Missing n e = refl
arity_alone needed Whatever n e = refl

pub fitting : (table : Table) (needed : Bool) (c : Callee) (name : Name) (vs : List Judged) →
    call_faults table needed c name vs ≡ [] → Fitting table c vs
fitting table needed c name vs e = record {
  missing = not_missing _ _ _ (none_left _ _ e);
  arity = arity_alone needed c (length vs) (test_holds _ _ _ (none_left _ _ (none_right _ _ e)));
  arguments = none_right _ _ (none_right _ _ e);
}

called_so : (table : Table) (ts : List StaticType) (gives : Option StaticType) (xs : List TypedValue) (vs : List Judged) →
    Values xs vs → Fitting table (Called ts gives) vs → can_be_called table ts gives xs (result_of (Called ts gives)) ≡ true
called_so table ts gives xs vs h f =
    both_hold (go_in table ts xs) (is_same_result (option_and_then known gives) (option_and_then known gives))
    (values_go_in ts xs vs table h (eqb-true (length ts) (length vs) (first_holds (length ts == length vs) true f.arity)) f.arguments)
    (same_result gives)

-- an operation that a type has
type_called : (table : Table) (o : Option NamedOperation) (xs : List TypedValue) (vs : List Judged) → Values xs vs →
    Fitting table (called_as o) vs → fits_operation table o xs (result_of (called_as o)) ≡ true
type_called table None xs vs h f = not_both (sym f.missing)
type_called table (Some o) xs vs h f = called_so table o.parameters o.result xs vs h f

-- an operation without a declaration, which takes nothing
pub record Simple (b : Bool) (of : StaticType) (xs : List TypedValue) : Type 0 where
  pub is : b ≡ true
  pub arguments : are_none xs ≡ true

simple_called : (table : Table) (b : Bool) (of : StaticType) (xs : List TypedValue) (vs : List Judged) → Values xs vs →
    Fitting table (callee_if b (Called [] (Some of))) vs → Simple b of xs
simple_called table true of xs vs h f = record {
  is = refl;
  arguments = none_given xs vs h (eqb-true 0 (length vs) (first_holds (0 == length vs) true f.arity));
}
simple_called table false of xs vs h f = not_both (sym f.missing)

-- ---- calls of operations without a declaration

builtin_well : (site : Site) (x : TypedValue) (builtin : Builtin) (name : Name) (given : List Expression) (b : Bool)
    (of : StaticType) (result : Option StaticType) → call_typed x builtin (map (typed site) given) ≡ typed_if b (Some of) →
    b ≡ true → result ≡ Some of → Is (typed_link site (called (Some builtin) name given result) x) result
builtin_well site x builtin name given b of result c e f =
    same_is
    (ap (λ g. g x)
    (link_has site (l.Call builtin given name.at.from) (CoreLink-F.Call builtin given name.at.from)
    (l.rolls-Call builtin given name.at.from))
    ∙ c)
    (is_if_other b (Some of) result e f)

result_if : (b : Bool) (of : StaticType) → b ≡ true → known of ≡ Some of → result_of (callee_if b (Called [] (Some of))) ≡ Some of
result_if true of e k = k
result_if false of e k = not_both e

string_well : (site : Site) (x : TypedValue) (name : Name) (given : List Expression) (vs : List Judged) (b c : Bool) →
    Values (map (typed site) given) vs → is_of wanted.String x ≡ true →
    Fitting site.table (if b then Called [] (Some integer) else callee_if c (Called (integer ∷ integer ∷ []) (Some string))) vs →
    Is
    (typed_link site
    (called (Some (if b then Length else GetSlice)) name given
    (result_of (if b then Called [] (Some integer) else callee_if c (Called (integer ∷ integer ∷ []) (Some string))))) x)
    (result_of (if b then Called [] (Some integer) else callee_if c (Called (integer ∷ integer ∷ []) (Some string))))
string_well site x name given vs true c h s f =
    builtin_well site x Length name given _ integer (Some integer) refl
    (both_hold _ _ s
    (none_given (map (typed site) given) vs h (eqb-true 0 (length vs) (first_holds (0 == length vs) true f.arity)))) refl
string_well site x name given vs false true h s f =
    builtin_well site x GetSlice name given _ string (Some string) refl
    (both_hold _ _ s
    (integers_given site.table (map (typed site) given) vs h (eqb-true 2 (length vs) (first_holds (2 == length vs) true f.arity))
    f.arguments))
    refl
string_well site x name given vs false false h s f = not_both (sym f.missing)

-- ---- calls of operations that are declared

invoked_well : (site : Site) (x : TypedValue) (name : Name) (given : List Expression) (result : Option StaticType) →
    x.is_well ≡ true → can_invoke site x name.text (map (typed site) given) result ≡ true →
    Is (typed_link site (called None name given result) x) result
invoked_well site x name given result h e =
    same_is
    (ap (λ g. g x)
    (link_has site (l.Invoke name.text given result name.at.from) (CoreLink-F.Invoke name.text given result name.at.from)
    (l.rolls-Invoke name.text given result name.at.from)))
    (is_if (x.is_well && can_invoke site x name.text (map (typed site) given) result) result (both_hold _ _ h e))

named_well : (site : Site) (x : TypedValue) (n : ℕ) (name : Name) (given : List Expression) (vs : List Judged) →
    Values (map (typed site) given) vs → Is x (Some (named n)) → Fitting site.table (callee_of_type site.table (named n) name) vs →
    Is (typed_link site (called None name given (result_of (callee_of_type site.table (named n) name))) x)
    (result_of (callee_of_type site.table (named n) name))
named_well site x n name given vs h k f =
    invoked_well site x name given (result_of (callee_of_type site.table (named n) name)) k.is_well
    (second_of_two _ _
    (subst
    (λ of. type_has site.table of name.text (map (typed site) given) (result_of (callee_of_type site.table (named n) name)) ≡ true)
    (sym k.has_type)
    (type_called site.table (operation_named (operations_at site.table.types n) name.text) (map (typed site) given) vs h f)))

-- of a receiver that isn't `self`
pub type_call : (site : Site) (x : TypedValue) (of : StaticType) (name : Name) (given : List Expression) (vs : List Judged) →
    HasType (Some of) → Values (map (typed site) given) vs → Is x (Some of) → Fitting site.table (callee_of_type site.table of name) vs →
    Is (typed_link site (called (builtin_of (Some of) name) name given (result_of (callee_of_type site.table of name))) x)
    (result_of (callee_of_type site.table of name))
type_call site x (Plain Integer) name given vs t h k f =
    let s : Simple (is_word name (codes "asString")) string (map (typed site) given) =
    simple_called site.table (is_word name (codes "asString")) string (map (typed site) given) vs h f in
    builtin_well site x AsString name given _ string _ refl
    (both_hold _ _ (first_of_two _ _ (is_of_type wanted.Integer x (Some integer) k.is_well k.has_type refl refl)) s.arguments)
    (result_if (is_word name (codes "asString")) string s.is refl)
type_call site x (Plain Boolean) name given vs t h k f =
    let s : Simple (is_word name (codes "asString")) string (map (typed site) given) =
    simple_called site.table (is_word name (codes "asString")) string (map (typed site) given) vs h f in
    builtin_well site x AsString name given _ string _ refl
    (both_hold _ _
    (second_of_two _ _ (is_of_type wanted.Boolean x (Some (Plain Boolean)) k.is_well k.has_type refl refl)) s.arguments)
    (result_if (is_word name (codes "asString")) string s.is refl)
type_call site x (Plain String) name given vs t h k f =
    string_well site x name given vs (is_word name (codes "length")) (is_word name (codes "getSlice")) h
    (is_of_type wanted.String x (Some string) k.is_well k.has_type refl refl) f
type_call site x (Plain Any) name given vs t h k f = not_both (sym f.missing)
type_call site x (Plain Node) name given vs t h k f = not_both (sym f.missing)
type_call site x (Plain (Named n)) name given vs t h k f = named_well site x n name given vs h k f
type_call site x (Vector inner of) name given vs t h k f =
    let s : Simple (is_word name (codes "size")) integer (map (typed site) given) =
    simple_called site.table (is_word name (codes "size")) integer (map (typed site) given) vs h f in
    builtin_well site x Size name given _ integer _ refl
    (both_hold _ _ (is_of_type wanted.Vector x (Some (Vector inner of)) k.is_well k.has_type refl refl) s.arguments)
    (result_if (is_word name (codes "size")) integer s.is refl)
type_call site x Nil name given vs t h k f = not_both (sym f.missing)
type_call site x Unknown name given vs t h k f = not_both t

-- ---- calls of `self`

own_operation_is : (site : Site) (class : ℕ) (o : NamedOperation) (name : Text) (xs : List TypedValue) (vs : List Judged) →
    Values xs vs → is_same o.name name ≡ true → OperationStands site.core class o → Fitting site.table (called_as (Some o)) vs →
    own_has site (Some class) name xs (result_of (called_as (Some o))) ≡ true
own_operation_is site class o name xs vs h same s f =
    some_operation_is (is_own site.table class name xs (result_of (called_as (Some o)))) site.core.operations s.operation s.there
    (both_hold _ _ (eq-eqb s.operation.class class s.of_class)
    (both_hold _ _ s.kind
    (both_hold _ _ (subst (λ own. is_same own name ≡ true) (sym s.name) same)
    (subst (λ ts. can_be_called site.table ts (result_variable s.operation) xs (result_of (called_as (Some o))) ≡ true)
    (sym s.parameters)
    (subst (λ r. can_be_called site.table o.parameters r xs (result_of (called_as (Some o))) ≡ true) (sym s.result)
    (called_so site.table o.parameters o.result xs vs h f))))))

own_called : (site : Site) (x : TypedValue) (class : ℕ) (o : Option NamedOperation) (name : Name) (given : List Expression)
    (vs : List Judged) → site.own ≡ Some class → x.is_well ≡ true → x.is_itself ≡ true → Values (map (typed site) given) vs →
    Where (λ (p : NamedOperation). is_same p.name name.text ≡ true) o → Where (OperationStands site.core class) o →
    Fitting site.table (called_as o) vs →
    Is (typed_link site (called None name given (result_of (called_as o))) x) (result_of (called_as o))
own_called site x class None name given vs own w i h same s f = not_both (sym f.missing)
own_called site x class (Some o) name given vs own w i h same s f =
    invoked_well site x name given (result_of (called_as (Some o))) w
    (first_of_two _ _
    (both_hold x.is_itself (own_has site site.own name.text (map (typed site) given) (result_of (called_as (Some o)))) i
    (subst (λ c. own_has site c name.text (map (typed site) given) (result_of (called_as (Some o))) ≡ true) (sym own)
    (own_operation_is site class o name.text (map (typed site) given) vs h same s f))))

pub operation_is_named : (os : List NamedOperation) (name : Text) →
    Where (λ (p : NamedOperation). is_same p.name name ≡ true) (operation_named os name)
operation_is_named [] name = tt
operation_is_named (o ∷ os) name = by (is_same o.name name) refl (operation_is_named os name)
  where
    by : (b : Bool) → is_same o.name name ≡ b →
        Where (λ (p : NamedOperation). is_same p.name name ≡ true) (operation_named os name) →
        Where (λ (p : NamedOperation). is_same p.name name ≡ true) (if b then Some o else operation_named os name)
    by true e later = e
    by false e later = later

pub self_call : (site : Site) (scope : Scope) (x : TypedValue) (o : Option Object) (name : Name) (given : List Expression)
    (vs : List Judged) → is_some o ≡ true → option_map (λ (o : Object). o.number) o ≡ site.own → x.is_well ≡ true →
    x.is_itself ≡ true → Values (map (typed site) given) vs →
    Where (λ (p : NamedOperation). is_same p.name name.text ≡ true) (own_operation scope name.text) →
    ((class : ℕ) → site.own ≡ Some class → Where (OperationStands site.core class) (own_operation scope name.text)) →
    Fitting site.table (callee_of_self scope o name) vs →
    Is (typed_link site (called (builtin_of (type_of_object o) name) name given (result_of (callee_of_self scope o name))) x)
    (result_of (callee_of_self scope o name))
self_call site scope x None name given vs there own w i h same s f = not_both there
self_call site scope x (Some o) name given vs there own w i h same s f =
    own_called site x o.number (own_operation scope name.text) name given vs (sym own) w i h same (s o.number (sym own)) f

-- ---- creations

pub creation_well : (site : Site) (c : Option ClassMeant) (given : List Expression) (vs : List Judged) →
    is_some c ≡ true → Where (ClassStands site.core) c → Values (map (typed site) given) vs → Fitting site.table (callee_of_class c) vs →
    Is (typed site (e.Create (number_of_class c) given)) (result_of (callee_of_class c))
creation_well site None given vs there s h f = not_both there
creation_well site (Some c) given vs there s h f =
    same_is
    (expression_has site (e.Create c.number given) (Core-F.Create c.number given) (e.rolls-Create c.number given))
    (is_if _ (Some (named c.number))
    (some_class_is (λ d. d.number == c.number && go_in site.table (parameters_of_class d) (map (typed site) given)) site.core.classes
    s.class s.there
    (both_hold _ _ (eq-eqb s.class.number c.number s.is.number)
    (subst (λ ts. go_in site.table ts (map (typed site) given) ≡ true) (sym s.is.parameters)
    (values_go_in c.parameters (map (typed site) given) vs site.table h
    (eqb-true (length c.parameters) (length vs) (first_holds (length c.parameters == length vs) true f.arity)) f.arguments)))))

-- ---- indices

pub index_well : (site : Site) (x : TypedValue) (of : Option StaticType) (number : Expression) (v : Judged) (at : ℕ) →
    Is x of → HasType of → fits wanted.Vector of ≡ true → IsValue (typed site number) v → wants wanted.Integer v ≡ [] →
    Is (typed_link site (l.Element number (type_or (type_indexed of)) at) x) (type_indexed of)
index_well site x None number v at h t f k e = not_both t
index_well site x (Some of) number v at h t f k e =
    let there : HasType (element_of of) = element_has_type of f in
    let is : element_of of ≡ Some (type_or (element_of of)) = is_type (element_of of) there in
    same_is
    (ap (λ g. g x)
    (link_has site (l.Element number (type_or (element_of of)) at) (CoreLink-F.Element number (type_or (element_of of)) at)
    (l.rolls-Element number (type_or (element_of of)) at)))
    (is_if_other _ (Some (type_or (element_of of))) (element_of of)
    (both_hold (is_element x (type_or (element_of of))) (is_of wanted.Integer (typed site number))
    (both_hold x.is_well (is_same_result (option_and_then element_of x.of) (Some (type_or (element_of of)))) h.is_well
    (subst (λ o. is_same_result (option_and_then element_of o) (Some (type_or (element_of of))) ≡ true) (sym h.has_type)
    (subst (λ o. is_same_result (element_of of) o ≡ true) is (same_as_itself (element_of of) there))))
    (is_wanted wanted.Integer (typed site number) v k e))
    is)
