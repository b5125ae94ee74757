-- No type in the code of a well-typed core is unknown.
use Rattle.std.proofs.Common.{◌≡◌, ℕ, zero, suc, ◌==◌, ◌&&◌, ◌||◌, Bool, true, false, List, [], ◌∷◌, map, Option, Some, None}
use Rattle.std.proofs.Common.{option_and_then, refl, sym, ◌∙◌, subst, slice_get, get_or}
use Rattle.ec_check.proofs.Every.{not_both, first_holds, second_holds}
use Rattle.ec_check.proofs.TypedRolled.{typed_layer, expression_rolled, typed_link_layer, link_rolled, addend_rolled, factor_rolled}
use Rattle.ec_check.proofs.TypedRolled.{well_layer, statement_rolled, arm_rolled, block_rolled}
use Rattle.ec_check.proofs.WellValues.{both_hold, result_is}
use Rattle.ec_check.specs.WellTyped.{Site, Typed, AfterLink, TypedAddend, typed, typed_link, typed_addend, typed_factor, expression_typed}
use Rattle.ec_check.specs.WellTyped.{link_typed}
use Rattle.ec_check.specs.WellTyped.{is_same_result, along, added, is_of, all_are, go_in, some_class, some_operation, is_own}
use Rattle.ec_check.specs.WellTyped.{can_be_called, fits_operation}
use Rattle.ec_check.specs.WellTyped.{type_has, own_has, call_typed, are_none, are_two_integers, parameters_of_class, is_named}
use Rattle.ec_check.specs.WellTyped.{parameters_of, result_of}
use Rattle.ec_check.specs.WellTyped.{holds_if, all_well, goes_in_if, are_references, type_at, statement_is_well, is_well_statement}
use Rattle.ec_check.specs.WellTyped.{is_well_arm, is_well_block, site_in, site_outside, IsWellOperation, IsWellConstant, IsWellTyped}
use Rattle.ec_types.specs.Table.{Table}
use Rattle.ec_types.specs.Types.{element_of, known}
use Rattle.ec_types.specs.declared.conform.operations.NamedOperation.{NamedOperation}
use Rattle.ec_types.specs.declared.conform.static_type.Plain.TheVariants.{Integer, Boolean, String, Any, Node, Named}
use Rattle.ec_types.specs.declared.conform.static_type.StaticType.{StaticType}
use Rattle.ec_types.specs.declared.conform.static_type.StaticType.TheVariants.{Plain, Vector, Nil, Unknown}
use Rattle.ec_core.specs.declared.Addend.{Addend, roll-Addend, map-Addend}
use Rattle.ec_core.specs.declared.Arm.{Arm, roll-Arm, map-Arm, fold-roll-Arm}
use Rattle.ec_core.specs.declared.Block.{Block, roll-Block, map-Block, fold-roll-Block, ind-Block}
use Rattle.ec_core.specs.declared.Builtin.{Builtin}
use Rattle.ec_core.specs.declared.Builtin.TheVariants.{AsString, Length, GetSlice, Size}
use Rattle.ec_core.specs.declared.Class.{Class}
use Rattle.ec_core.specs.declared.Constant.{Constant as CoreConstant}
use Rattle.ec_core.specs.declared.Core.{Core}
use Rattle.ec_core.specs.declared.Expression.{Expression, roll-Expression, map-Expression, ind-Expression, fold-roll-Expression}
use Rattle.ec_core.specs.declared.Expression.TheOpen.{Expression-F, Link-F, Addend-F, Factor-F}
use Rattle.ec_core.specs.declared.Factor.{Factor, roll-Factor, map-Factor}
use Rattle.ec_core.specs.declared.Link.{Link, roll-Link, map-Link, fold-roll-Link}
use Rattle.ec_core.specs.declared.Operation.{Operation}
use Rattle.ec_core.specs.declared.Statement.{Statement, roll-Statement, map-Statement, fold-roll-Statement}
use Rattle.ec_core.specs.declared.Statement.TheOpen.{Statement-F, Arm-F, Block-F}
use Rattle.ec_core_laws.proofs.Expressions.{addend_is, factor_is}
use Rattle.ec_core_laws.specs.Known.{is_known, is_known_if, all_known, expression_known, link_known, addend_known, factor_known}
use Rattle.ec_core_laws.specs.Known.{knows, knows_link, knows_addend, knows_factor}
use Rattle.ec_core_laws.specs.Known.{knows_if, statement_known, arm_known, block_known, knows_statement, knows_arm, knows_block}
use Rattle.ec_core_laws.specs.Known.{KnowsConstant, KnowsItsTypes}
use Rattle.ec_types.specs.Names.{Text, is_same as is_same_name}
use Rattle.ec_rules.specs.Types.{is_vector, takes}
use Rattle.ec_rules.specs.declared.operands.Wanted.{Wanted}
use Rattle.ec_rules.specs.declared.operands.Wanted.TheVariants as wanted

-- ---- types

known_result : (gives : Option StaticType) (of : StaticType) → option_and_then known gives ≡ Some of → is_known of ≡ true
known_result None of e = cc
known_result (Some (Plain t)) of e = let i : Plain t ≡ of = cc in subst (λ x. is_known x ≡ true) i refl
known_result (Some (Vector n t)) of e = let i : Vector n t ≡ of = cc in subst (λ x. is_known x ≡ true) i refl
known_result (Some Nil) of e = let i : Nil ≡ of = cc in subst (λ x. is_known x ≡ true) i refl
known_result (Some Unknown) of e = cc

result_known : (table : Table) (gives result : Option StaticType) →
    is_same_result (option_and_then known gives) result ≡ true → is_known_if result ≡ true
result_known table gives None e = refl
result_known table gives (Some of) e = known_result gives of (result_is (option_and_then known gives) of e)

element_known : (v : Option StaticType) (of : StaticType) → option_and_then element_of v ≡ Some of → is_known of ≡ true
element_known None of e = cc
element_known (Some (Plain t)) of e = cc
element_known (Some (Vector zero t)) of e = let i : Plain t ≡ of = cc in subst (λ x. is_known x ≡ true) i refl
element_known (Some (Vector (suc n) t)) of e = let i : Vector n t ≡ of = cc in subst (λ x. is_known x ≡ true) i refl
element_known (Some Nil) of e = cc
element_known (Some Unknown) of e = cc

vector_known : (of : StaticType) → is_vector of ≡ true → is_known of ≡ true
vector_known (Plain t) e = refl
vector_known (Vector n t) e = refl
vector_known Nil e = refl
vector_known Unknown e = e

reference_known : (of : StaticType) → takes wanted.Reference of ≡ true → is_known of ≡ true
reference_known (Plain t) e = refl
reference_known (Vector n t) e = refl
reference_known Nil e = refl
reference_known Unknown e = e

-- ---- each kind of part: where it is well typed, its types are known

abbrev Knows : Expression → Type 0
Knows x = (site : Site) → (typed site x).is_well ≡ true → knows x ≡ true

abbrev LinkKnows : Link → Type 0
LinkKnows x = (site : Site) (before : Typed) → (typed_link site x before).is_well ≡ true → (before.is_well ≡ true) × (knows_link x ≡ true)

abbrev AddendKnows : Addend → Type 0
AddendKnows x = (site : Site) → (typed_addend site x).value.is_well ≡ true → knows_addend x ≡ true

abbrev FactorKnows : Factor → Type 0
FactorKnows x = (site : Site) → (typed_factor site x).is_well ≡ true → knows_factor x ≡ true

abbrev ExpressionHeld : Type 0
ExpressionHeld = (x : Expression) × Knows x

abbrev LinkHeld : Type 0
LinkHeld = (x : Link) × LinkKnows x

abbrev AddendHeld : Type 0
AddendHeld = (x : Addend) × AddendKnows x

abbrev FactorHeld : Type 0
FactorHeld = (x : Factor) × FactorKnows x

abbrev bare_x : ExpressionHeld → Expression
bare_x x = x.0

abbrev bare_l : LinkHeld → Link
bare_l x = x.0

abbrev bare_a : AddendHeld → Addend
bare_a x = x.0

abbrev bare_f : FactorHeld → Factor
bare_f x = x.0

abbrev bare_expression : Expression-F ExpressionHeld LinkHeld AddendHeld FactorHeld → Expression-F Expression Link Addend Factor
bare_expression = map-Expression ExpressionHeld LinkHeld AddendHeld FactorHeld Expression Link Addend Factor bare_x bare_l bare_a bare_f

abbrev bare_link : Link-F ExpressionHeld LinkHeld AddendHeld FactorHeld → Link-F Expression Link Addend Factor
bare_link = map-Link ExpressionHeld LinkHeld AddendHeld FactorHeld Expression Link Addend Factor bare_x bare_l bare_a bare_f

abbrev bare_addend : Addend-F ExpressionHeld LinkHeld AddendHeld FactorHeld → Addend-F Expression Link Addend Factor
bare_addend = map-Addend ExpressionHeld LinkHeld AddendHeld FactorHeld Expression Link Addend Factor bare_x bare_l bare_a bare_f

abbrev bare_factor : Factor-F ExpressionHeld LinkHeld AddendHeld FactorHeld → Factor-F Expression Link Addend Factor
bare_factor = map-Factor ExpressionHeld LinkHeld AddendHeld FactorHeld Expression Link Addend Factor bare_x bare_l bare_a bare_f

-- ---- lists

abbrev typed_all : Site → List ExpressionHeld → List Typed
typed_all site xs = map (typed site) (map bare_x xs)

abbrev all_knows : List ExpressionHeld → Bool
all_knows xs = all_known (map knows (map bare_x xs))

all_are_known : (site : Site) (w : Wanted) (xs : List ExpressionHeld) → all_are w (typed_all site xs) ≡ true → all_knows xs ≡ true
all_are_known site w [] e = refl
all_are_known site w (x ∷ xs) e =
    both_hold _ _ (x.1 site (first_holds _ _ (first_holds _ _ e))) (all_are_known site w xs (second_holds _ _ e))

go_in_known : (site : Site) (table : Table) (ts : List StaticType) (xs : List ExpressionHeld) → go_in table ts (typed_all site xs) ≡ true →
    all_knows xs ≡ true
go_in_known site table [] [] e = refl
go_in_known site table [] (x ∷ xs) e = not_both e
go_in_known site table (t ∷ ts) [] e = refl
go_in_known site table (t ∷ ts) (x ∷ xs) e =
    both_hold _ _ (x.1 site (first_holds _ _ (first_holds _ _ e))) (go_in_known site table ts xs (second_holds _ _ e))

one_of : {P : Type 0} (a b : Bool) → (a ≡ true → P) → (b ≡ true → P) → a || b ≡ true → P
one_of true b f g e = f refl
one_of false b f g e = g e

created_known : (site : Site) (class : ℕ) (xs : List ExpressionHeld) (cs : List Class) →
    some_class (λ c. (c.number == class) && go_in site.table (parameters_of_class c) (typed_all site xs)) cs ≡ true → all_knows xs ≡ true
created_known site class xs [] e = not_both e
created_known site class xs (c ∷ cs) e =
    one_of _ _ (λ h. go_in_known site site.table (parameters_of_class c) xs (second_holds _ _ h)) (created_known site class xs cs) e

factors_known : (site : Site) (xs : List FactorHeld) → all_are wanted.Integer (map (typed_factor site) (map bare_f xs)) ≡ true →
    all_known (map knows_factor (map bare_f xs)) ≡ true
factors_known site [] e = refl
factors_known site (x ∷ xs) e =
    both_hold _ _ (x.1 site (first_holds _ _ (first_holds _ _ e))) (factors_known site xs (second_holds _ _ e))

added_known : (site : Site) (xs : List AddendHeld) (left : Typed) → (added left (map (typed_addend site) (map bare_a xs))).is_well ≡ true →
    (left.is_well ≡ true) × (all_known (map knows_addend (map bare_a xs)) ≡ true)
added_known site [] left e = (e, refl)
added_known site (x ∷ xs) left e =
    let r : _ × (all_known (map knows_addend (map bare_a xs)) ≡ true) = added_known site xs _ e in (
      first_holds _ _ (first_holds _ _ r.0),
      both_hold _ _ (x.1 site (first_holds _ _ (second_holds _ _ r.0))) r.1,
    )

along_known : (site : Site) (xs : List LinkHeld) (before : Typed) → (along before (map (typed_link site) (map bare_l xs))).is_well ≡ true →
    (before.is_well ≡ true) × (all_known (map knows_link (map bare_l xs)) ≡ true)
along_known site [] before e = (e, refl)
along_known site (x ∷ xs) before e =
    let r : ((typed_link site x.0 before).is_well ≡ true) × (all_known (map knows_link (map bare_l xs)) ≡ true) =
    along_known site xs (typed_link site x.0 before) e in
    let q : (before.is_well ≡ true) × (knows_link x.0 ≡ true) = x.1 site before r.0 in
    (q.0, both_hold _ _ q.1 r.1)

-- ---- calls

called_known : (site : Site) (table : Table) (ps : List StaticType) (gives : Option StaticType) (xs : List ExpressionHeld)
    (result : Option StaticType) → can_be_called table ps gives (typed_all site xs) result ≡ true →
    is_known_if result && all_knows xs ≡ true
called_known site table ps gives xs result e =
    both_hold _ _ (result_known table gives result (second_holds _ _ e)) (go_in_known site table ps xs (first_holds _ _ e))

fits_known : (site : Site) (table : Table) (o : Option NamedOperation) (xs : List ExpressionHeld) (result : Option StaticType) →
    fits_operation table o (typed_all site xs) result ≡ true → is_known_if result && all_knows xs ≡ true
fits_known site table None xs result e = not_both e
fits_known site table (Some o) xs result e = called_known site table o.parameters o.result xs result e

has_known : (site : Site) (of : Option StaticType) (name : Text) (xs : List ExpressionHeld) (result : Option StaticType) →
    type_has site.table of name (typed_all site xs) result ≡ true → is_known_if result && all_knows xs ≡ true
has_known site None name xs result e = not_both e
has_known site (Some (Plain Integer)) name xs result e = not_both e
has_known site (Some (Plain Boolean)) name xs result e = not_both e
has_known site (Some (Plain String)) name xs result e = not_both e
has_known site (Some (Plain Any)) name xs result e = not_both e
has_known site (Some (Plain Node)) name xs result e = not_both e
has_known site (Some (Plain (Named n))) name xs result e = fits_known site site.table _ xs result e
has_known site (Some (Vector n t)) name xs result e = not_both e
has_known site (Some Nil) name xs result e = not_both e
has_known site (Some Unknown) name xs result e = not_both e

some_known : (site : Site) (class : ℕ) (name : Text) (xs : List ExpressionHeld) (result : Option StaticType) (os : List Operation) →
    some_operation (is_own site.table class name (typed_all site xs) result) os ≡ true → is_known_if result && all_knows xs ≡ true
some_known site class name xs result [] e = not_both e
some_known site class name xs result (o ∷ os) e =
    one_of (is_own site.table class name (typed_all site xs) result o) _
    (λ h.
    called_known site site.table (parameters_of o) (result_of o) xs result
    (second_holds (is_same_name o.name name) _ (second_holds (is_named o.kind) _ (second_holds (o.class == class) _ h))))
    (some_known site class name xs result os) e

own_known : (site : Site) (own : Option ℕ) (name : Text) (xs : List ExpressionHeld) (result : Option StaticType) →
    own_has site own name (typed_all site xs) result ≡ true → is_known_if result && all_knows xs ≡ true
own_known site None name xs result e = not_both e
own_known site (Some class) name xs result e = some_known site class name xs result site.core.operations e

none_known : (site : Site) (xs : List ExpressionHeld) → are_none (typed_all site xs) ≡ true → all_knows xs ≡ true
none_known site [] e = refl
none_known site (x ∷ xs) e = not_both e

two_known : (site : Site) (xs : List ExpressionHeld) → are_two_integers (typed_all site xs) ≡ true → all_knows xs ≡ true
two_known site [] e = refl
two_known site (x ∷ []) e = not_both e
two_known site (x ∷ y ∷ []) e =
    both_hold _ _ (x.1 site (first_holds _ _ (first_holds _ _ e)))
    (both_hold _ _ (y.1 site (first_holds _ _ (second_holds _ _ e))) refl)
two_known site (x ∷ y ∷ z ∷ xs) e = not_both e

builtin_known : (site : Site) (before : Typed) (b : Builtin) (xs : List ExpressionHeld) →
    (call_typed before b (typed_all site xs)).is_well ≡ true → (before.is_well ≡ true) × (all_knows xs ≡ true)
builtin_known site before AsString xs e =
    (one_of _ _ (first_holds _ _) (first_holds _ _) (first_holds _ _ e), none_known site xs (second_holds _ _ e))
builtin_known site before Length xs e = (first_holds _ _ (first_holds _ _ e), none_known site xs (second_holds _ _ e))
builtin_known site before GetSlice xs e = (first_holds _ _ (first_holds _ _ e), two_known site xs (second_holds _ _ e))
builtin_known site before Size xs e = (first_holds _ _ (first_holds _ _ e), none_known site xs (second_holds _ _ e))

link_layer_known : (y : Link-F ExpressionHeld LinkHeld AddendHeld FactorHeld) (site : Site) (before : Typed) →
    (link_typed site (typed_link_layer site (bare_link y)) before).is_well ≡ true →
    (before.is_well ≡ true)
    × (link_known (map-Link Expression Link Addend Factor Bool Bool Bool Bool knows knows_link knows_addend knows_factor (bare_link y))
    ≡ true)
link_layer_known (Link-F.Invoke name xs result at) site before e = (
  first_holds _ _ e,
  one_of _ _ (λ h. own_known site site.own name xs result (second_holds _ _ h)) (has_known site before.of name xs result)
      (second_holds _ _ e),
)
link_layer_known (Link-F.Call b xs at) site before e = builtin_known site before b xs e
link_layer_known (Link-F.Element number of at) site before e = (
  first_holds _ _ (first_holds _ _ e),
  both_hold _ _ (element_known before.of of (result_is _ of (second_holds _ _ (first_holds _ _ e))))
      (number.1 site (first_holds _ _ (second_holds _ _ e))),
)

-- ---- expressions

layer_known : (y : Expression-F ExpressionHeld LinkHeld AddendHeld FactorHeld) (site : Site) →
    (expression_typed site (typed_layer site (bare_expression y))).is_well ≡ true →
    expression_known
    (map-Expression Expression Link Addend Factor Bool Bool Bool Bool knows knows_link knows_addend knows_factor (bare_expression y))
    ≡ true
layer_known (Expression-F.Number n) site e = refl
layer_known (Expression-F.Literal t) site e = refl
layer_known (Expression-F.Truth b) site e = refl
layer_known Expression-F.Nil site e = refl
layer_known Expression-F.Itself site e = refl
layer_known (Expression-F.Read p) site e = refl
layer_known Expression-F.NodeCount site e = refl
layer_known (Expression-F.NodeAt x at) site e = x.1 site (first_holds _ _ e)
layer_known (Expression-F.NewVector of x at) site e =
    both_hold _ _ (vector_known of (first_holds _ _ e)) (x.1 site (first_holds _ _ (second_holds _ _ e)))
layer_known (Expression-F.Construct class places) site e = refl
layer_known (Expression-F.Create class xs) site e = created_known site class xs site.core.classes e
layer_known (Expression-F.Chain head xs) site e =
    let r : ((typed site head.0).is_well ≡ true) × (all_known (map knows_link (map bare_l xs)) ≡ true) =
    along_known site xs (typed site head.0) e in
    both_hold _ _ (head.1 site r.0) r.1
layer_known (Expression-F.Negative x) site e = x.1 site (first_holds _ _ e)
layer_known (Expression-F.Not x) site e = x.1 site (first_holds _ _ e)
layer_known (Expression-F.View x of at) site e =
    both_hold _ _ (reference_known of (second_holds _ _ e)) (x.1 site (first_holds _ _ (first_holds _ _ e)))
layer_known (Expression-F.IsFixed x at) site e = x.1 site (first_holds _ _ e)
layer_known (Expression-F.Term first xs) site e =
    both_hold _ _ (first.1 site (first_holds _ _ (first_holds _ _ e))) (factors_known site xs (second_holds _ _ e))
layer_known (Expression-F.Sum first xs) site e =
    let r : ((typed site first.0).is_well ≡ true) × (all_known (map knows_addend (map bare_a xs)) ≡ true) =
    added_known site xs (typed site first.0) e in
    both_hold _ _ (first.1 site r.0) r.1
layer_known (Expression-F.Compare x op what y) site e =
    both_hold _ _ (x.1 site (first_holds _ _ e)) (y.1 site (first_holds _ _ (second_holds _ _ e)))
layer_known (Expression-F.And first xs) site e =
    both_hold _ _ (first.1 site (first_holds _ _ (first_holds _ _ e))) (all_are_known site wanted.Boolean xs (second_holds _ _ e))
layer_known (Expression-F.Or first xs) site e =
    both_hold _ _ (first.1 site (first_holds _ _ (first_holds _ _ e))) (all_are_known site wanted.Boolean xs (second_holds _ _ e))

expression_from : (x : Expression-F Expression Link Addend Factor) (y : Expression-F ExpressionHeld LinkHeld AddendHeld FactorHeld) →
    bare_expression y ≡ x → Knows (roll-Expression x)
expression_from x y is =
    subst (λ z. Knows (roll-Expression z)) is
    (λ site e.
    fold-roll-Expression Bool Bool Bool Bool expression_known link_known addend_known factor_known (bare_expression y)
    ∙ layer_known y site (subst (λ t. t.is_well ≡ true) (expression_rolled site (bare_expression y)) e))

link_from : (x : Link-F Expression Link Addend Factor) (y : Link-F ExpressionHeld LinkHeld AddendHeld FactorHeld) →
    bare_link y ≡ x → LinkKnows (roll-Link x)
link_from x y is =
    subst (λ z. LinkKnows (roll-Link z)) is
    (λ site before e.
    let r : (before.is_well ≡ true) × _ =
    link_layer_known y site before (subst (λ (f : AfterLink). (f before).is_well ≡ true) (link_rolled site (bare_link y)) e) in
    (r.0, fold-roll-Link Bool Bool Bool Bool expression_known link_known addend_known factor_known (bare_link y) ∙ r.1))

addend_from : (x : Addend-F Expression Link Addend Factor) (y : Addend-F ExpressionHeld LinkHeld AddendHeld FactorHeld) →
    bare_addend y ≡ x → AddendKnows (roll-Addend x)
addend_from x y is =
    subst (λ z. AddendKnows (roll-Addend z)) is
    (λ site e.
    addend_is Bool expression_known link_known addend_known factor_known (bare_addend y)
    ∙ y.value.1 site (subst (λ (a : TypedAddend). a.value.is_well ≡ true) (addend_rolled site (bare_addend y)) e))

factor_from : (x : Factor-F Expression Link Addend Factor) (y : Factor-F ExpressionHeld LinkHeld AddendHeld FactorHeld) →
    bare_factor y ≡ x → FactorKnows (roll-Factor x)
factor_from x y is =
    subst (λ z. FactorKnows (roll-Factor z)) is
    (λ site e.
    factor_is Bool expression_known link_known addend_known factor_known (bare_factor y)
    ∙ y.value.1 site (subst (λ (t : Typed). t.is_well ≡ true) (factor_rolled site (bare_factor y)) e))

pub each_known : (x : Expression) → Knows x
each_known = ind-Expression Knows LinkKnows AddendKnows FactorKnows expression_from link_from addend_from factor_from

-- ---- statements

if_known : (site : Site) (x : Option Expression) (test : Typed → Bool) → ((t : Typed) → test t ≡ true → t.is_well ≡ true) →
    holds_if site x test ≡ true → knows_if x ≡ true
if_known site None test k e = refl
if_known site (Some x) test k e = each_known x site (k (typed site x) e)

goes_in_well : (table : Table) (wanted : Option StaticType) (t : Typed) → goes_in_if table wanted t ≡ true → t.is_well ≡ true
goes_in_well table None t e = not_both e
goes_in_well table (Some of) t e = first_holds _ _ e

both_known : (site : Site) (x y : Expression) → are_references site x y ≡ true → knows x && knows y ≡ true
both_known site x y e =
    both_hold _ _ (each_known x site (first_holds _ _ (first_holds _ _ e))) (each_known y site (first_holds _ _ (second_holds _ _ e)))

abbrev StatementKnows : Statement → Type 0
StatementKnows x = (site : Site) → is_well_statement site x ≡ true → knows_statement x ≡ true

abbrev ArmKnows : Arm → Type 0
ArmKnows x = (site : Site) → is_well_arm site x ≡ true → knows_arm x ≡ true

abbrev BlockKnows : Block → Type 0
BlockKnows x = (site : Site) → is_well_block site x ≡ true → knows_block x ≡ true

abbrev StatementHeld : Type 0
StatementHeld = (x : Statement) × StatementKnows x

abbrev ArmHeld : Type 0
ArmHeld = (x : Arm) × ArmKnows x

abbrev BlockHeld : Type 0
BlockHeld = (x : Block) × BlockKnows x

abbrev bare_s : StatementHeld → Statement
bare_s x = x.0

abbrev bare_arm : ArmHeld → Arm
bare_arm x = x.0

abbrev bare_b : BlockHeld → Block
bare_b x = x.0

abbrev bare_statement : Statement-F StatementHeld ArmHeld BlockHeld → Statement-F Statement Arm Block
bare_statement = map-Statement StatementHeld ArmHeld BlockHeld Statement Arm Block bare_s bare_arm bare_b

abbrev bare_arm_layer : Arm-F StatementHeld ArmHeld BlockHeld → Arm-F Statement Arm Block
bare_arm_layer = map-Arm StatementHeld ArmHeld BlockHeld Statement Arm Block bare_s bare_arm bare_b

abbrev bare_block_layer : Block-F StatementHeld ArmHeld BlockHeld → Block-F Statement Arm Block
bare_block_layer = map-Block StatementHeld ArmHeld BlockHeld Statement Arm Block bare_s bare_arm bare_b

arms_known : (site : Site) (xs : List ArmHeld) → all_well site (map (is_well_arm site) (map bare_arm xs)) ≡ true →
    all_known (map knows_arm (map bare_arm xs)) ≡ true
arms_known site [] e = refl
arms_known site (x ∷ xs) e = both_hold _ _ (x.1 site (first_holds _ _ e)) (arms_known site xs (second_holds _ _ e))

statements_known : (site : Site) (xs : List StatementHeld) → all_well site (map (is_well_statement site) (map bare_s xs)) ≡ true →
    all_known (map knows_statement (map bare_s xs)) ≡ true
statements_known site [] e = refl
statements_known site (x ∷ xs) e = both_hold _ _ (x.1 site (first_holds _ _ e)) (statements_known site xs (second_holds _ _ e))

statement_layer_known : (y : Statement-F StatementHeld ArmHeld BlockHeld) (site : Site) →
    statement_is_well site (well_layer site (bare_statement y)) ≡ true →
    statement_known (map-Statement Statement Arm Block Bool Bool Bool knows_statement knows_arm knows_block (bare_statement y)) ≡ true
statement_layer_known (Statement-F.Declare n x) site e =
    if_known site x _ (goes_in_well site.table (slice_get site.variables n)) (second_holds _ _ e)
statement_layer_known (Statement-F.Assign p x) site e = each_known x site (goes_in_well site.table (type_at site p) (typed site x) e)
statement_layer_known (Statement-F.SetElement vector number value at) site e =
    both_hold _ _ (each_known vector site (first_holds _ _ (second_holds _ _ e)))
    (both_hold _ _ (each_known number site (first_holds _ _ (first_holds _ _ e)))
    (each_known value site
    (goes_in_well site.table (option_and_then element_of (typed site vector).of) (typed site value)
    (second_holds (typed site vector).is_well _ (second_holds (is_of wanted.Integer (typed site number)) _ e)))))
statement_layer_known (Statement-F.Drop x) site e = each_known x site e
statement_layer_known (Statement-F.Print x) site e = each_known x site (first_holds _ _ e)
statement_layer_known (Statement-F.If arms None) site e = both_hold _ _ (arms_known site arms (first_holds _ _ e)) refl
statement_layer_known (Statement-F.If arms (Some b)) site e =
    both_hold _ _ (arms_known site arms (first_holds _ _ e)) (b.1 site (second_holds _ _ e))
statement_layer_known (Statement-F.Loop b) site e = b.1 site e
statement_layer_known (Statement-F.Exit x) site e = if_known site x _ (λ t h. first_holds _ _ h) e
statement_layer_known Statement-F.Return site e = refl
statement_layer_known (Statement-F.Assert x at) site e = each_known x site (first_holds _ _ e)
statement_layer_known (Statement-F.Move x y at) site e = both_known site x y e
statement_layer_known (Statement-F.Fix x y at) site e = both_known site x y e
statement_layer_known (Statement-F.Refix x y at) site e = both_known site x y e
statement_layer_known (Statement-F.Unfix x at) site e = each_known x site (first_holds _ _ e)
statement_layer_known (Statement-F.Wait n) site e = refl
statement_layer_known (Statement-F.Signal n) site e = refl

statement_from : (x : Statement-F Statement Arm Block) (y : Statement-F StatementHeld ArmHeld BlockHeld) → bare_statement y ≡ x →
    StatementKnows (roll-Statement x)
statement_from x y is =
    subst (λ z. StatementKnows (roll-Statement z)) is
    (λ site e.
    fold-roll-Statement Bool Bool Bool statement_known arm_known block_known (bare_statement y)
    ∙ statement_layer_known y site (sym (statement_rolled site (bare_statement y)) ∙ e))

arm_from : (x : Arm-F Statement Arm Block) (y : Arm-F StatementHeld ArmHeld BlockHeld) → bare_arm_layer y ≡ x → ArmKnows (roll-Arm x)
arm_from x y is =
    subst (λ z. ArmKnows (roll-Arm z)) is
    (λ site e.
    let h : is_of wanted.Boolean (typed site y.condition) && is_well_block site y.block.0 ≡ true =
    sym (arm_rolled site (bare_arm_layer y)) ∙ e in
    fold-roll-Arm Bool Bool Bool statement_known arm_known block_known (bare_arm_layer y)
    ∙ both_hold _ _ (each_known y.condition site (first_holds _ _ (first_holds _ _ h))) (y.block.1 site (second_holds _ _ h)))

block_from : (x : Block-F Statement Arm Block) (y : Block-F StatementHeld ArmHeld BlockHeld) → bare_block_layer y ≡ x →
    BlockKnows (roll-Block x)
block_from x y is =
    subst (λ z. BlockKnows (roll-Block z)) is
    (λ site e.
    fold-roll-Block Bool Bool Bool statement_known arm_known block_known (bare_block_layer y)
    ∙ statements_known site y.statements (sym (block_rolled site (bare_block_layer y)) ∙ e))

block_knows : (x : Block) → BlockKnows x
block_knows = ind-Block StatementKnows ArmKnows BlockKnows statement_from arm_from block_from

-- ---- a whole core

operation_knows : (table : Table) (core : Core) (o : Operation) → IsWellOperation table core o → knows_block o.block ≡ true
operation_knows table core o h = block_knows o.block (site_in table core h.1 o) h.4.1

constant_knows : (table : Table) (core : Core) (c : CoreConstant) → IsWellConstant table core c → KnowsConstant c
constant_knows table core c h = each_known c.value (site_outside table core) (first_holds _ _ h)

pub core_knows : (table : Table) (core : Core) → IsWellTyped table core → KnowsItsTypes core
core_knows table core w = record {
  operations = λ k d l. operation_knows table core (get_or core.operations k d) (w.operations k d l);
  constants = λ k d l. constant_knows table core (get_or core.constants k d) (w.constants k d l);
}
