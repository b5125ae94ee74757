-- What being well typed tells of values: each that is wanted is there.
use Rattle.std.proofs.Common.{◌≡◌, ℕ, Bool, true, false, ◌&&◌, ◌||◌, List, [], ◌∷◌, Option, Some, None, refl, is_some, option_map}
use Rattle.std.proofs.Common.{option_and_then}
use Rattle.ec_ast.specs.declared.Comparison.{Comparison}
use Rattle.ec_check.proofs.Every.{not_both, first_holds, second_holds}
use Rattle.ec_check.specs.WellTyped.{Typed, TypedAddend, typed_if, is_of, is_taken, is_same_result, conforms_if, goes_in, goes_in_if}
use Rattle.ec_check.specs.WellTyped.{type_has, added, are_compared}
use Rattle.ec_types.specs.Table.{Table}
use Rattle.ec_types.specs.Types.{element_of, named}
use Rattle.ec_types.specs.declared.conform.static_type.StaticType.{StaticType}
use Rattle.ec_core.specs.declared.Compared.{Compared}
use Rattle.ec_types.specs.Names.{Text}
use Rattle.ec_rules.specs.Operands.{operand_of, result_type}
use Rattle.ec_rules.specs.declared.operands.Wanted.{Wanted}

pub one_of : {P : Type 0} (a b : Bool) → (a ≡ true → P) → (b ≡ true → P) → a || b ≡ true → P
one_of true b f g e = f refl
one_of false b f g e = g e

-- ---- values that are wanted

pub taken_some : (w : Wanted) (of : Option StaticType) → is_taken w of ≡ true → is_some of ≡ true
taken_some w None e = not_both e
taken_some w (Some of) e = refl

conforming_some : (table : Table) (of : Option StaticType) (wanted : StaticType) → conforms_if table of wanted ≡ true →
    is_some of ≡ true
conforming_some table None wanted e = not_both e
conforming_some table (Some of) wanted e = refl

pub goes_in_value : (table : Table) (wanted : StaticType) (t : Typed) → goes_in table wanted t ≡ true →
    (t.is_well ≡ true) × (is_some t.of ≡ true)
goes_in_value table wanted t e = (
  first_holds t.is_well _ e,
  conforming_some table t.of wanted (second_holds t.is_well _ e),
)

pub goes_in_if_value : (table : Table) (wanted : Option StaticType) (t : Typed) → goes_in_if table wanted t ≡ true →
    (t.is_well ≡ true) × (is_some t.of ≡ true)
goes_in_if_value table None t e = not_both e
goes_in_if_value table (Some of) t e = goes_in_value table of t e

-- a vector, in which an element is set
pub vector_some : (table : Table) (of : Option StaticType) (t : Typed) →
    goes_in_if table (option_and_then element_of of) t ≡ true → is_some of ≡ true
vector_some table None t e = not_both e
vector_some table (Some of) t e = refl

-- a vector, of which an element is read
pub element_some : (of : Option StaticType) (element : StaticType) →
    is_same_result (option_and_then element_of of) (Some element) ≡ true → is_some of ≡ true
element_some None element e = not_both e
element_some (Some of) element e = refl

-- a receiver whose type has an operation
pub receiver_some : (table : Table) (of : Option StaticType) (name : Text) (arguments : List Typed) (result : Option StaticType) →
    type_has table of name arguments result ≡ true → is_some of ≡ true
receiver_some table None name arguments result e = not_both e
receiver_some table (Some of) name arguments result e = refl

pub compared_some : (how : Comparison) (what : Compared) (a b : Option StaticType) → are_compared how what a b ≡ true →
    (is_some a ≡ true) × (is_some b ≡ true)
compared_some how what (Some a) (Some b) e = (refl, refl)
compared_some how what None None e = not_both e
compared_some how what None (Some b) e = not_both e
compared_some how what (Some a) None e = not_both e

-- ---- the own object

pub own_some : (own : Option ℕ) → is_some own ≡ true → is_some (option_map named own) ≡ true
own_some None e = not_both e
own_some (Some class) e = refl

-- Where something is the own object and well typed, it is a value.
abbrev pub SelfIsValue : Typed → Type 0
SelfIsValue t = t.is_itself ≡ true → t.is_well ≡ true → is_some t.of ≡ true

-- ---- sums

-- a sum so far, with one operator more
abbrev pub with_addend : Typed → TypedAddend → Typed
with_addend left a =
    typed_if (is_of (operand_of a.operator) left && is_of (operand_of a.operator) a.value) (Some (result_type a.operator))

pub sum_some : (more : List TypedAddend) (left : Typed) → is_some left.of ≡ true → is_some (added left more).of ≡ true
sum_some [] left e = e
sum_some (a ∷ more) left e = sum_some more (with_addend left a) refl

pub sum_other : (more : List TypedAddend) (left : Typed) → (added left more).is_itself ≡ false
sum_other [] left = refl
sum_other (a ∷ more) left = sum_other more (with_addend left a)
