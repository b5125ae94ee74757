-- Sums and products: operators with what is to their right, over what is to their left.
use Rattle.std.proofs.Common.{◌≡◌, ℕ, Bool, true, ◌&&◌, List, [], ◌∷◌, length, Some, refl, sym, ◌∙◌, subst}
use Rattle.ec_ast.specs.declared.Additive.{Additive}
use Rattle.ec_ast.specs.declared.Additive.TheVariants.{Plus, Minus, Concat}
use Rattle.ec_ast.specs.declared.Multiplicative.{Multiplicative}
use Rattle.ec_ast.specs.declared.Multiplicative.TheVariants as product
use Rattle.ec_check.specs.WellTyped.{Typed, TypedAddend, typed_if, is_of, all_are, added}
use Rattle.ec_code.specs.declared.code.Arithmetic.TheVariants as arithmetic
use Rattle.ec_code.specs.Typing.{integer, string}
use Rattle.ec_types.specs.declared.conform.static_type.StaticType.{StaticType}
use Rattle.ec_types.specs.Known.{IsOfProgram}
use Rattle.ec_emission.proofs.Forms.{both_true, same_leaf}
use Rattle.ec_emission.specs.Expressions.{Emitted, Applied, applied_code, kept, joined, multiplied}
use Rattle.ec_accepted.proofs.FinenessForms.{EachFits, calculated_leads}
use Rattle.ec_accepted.proofs.Frames.{Held}
use Rattle.ec_accepted.proofs.Taking.{TakesOnly, only_integers, only_strings, type_of_taken, well_taken}
use Rattle.ec_accepted.proofs.Pieces.{Setting, go_on}
use Rattle.ec_accepted.proofs.Quotients.{divided_leads}
use Rattle.ec_accepted.proofs.Shown.{Goes, Works, Given, given_before}
use Rattle.ec_accepted.proofs.Stopping.{held_if, rests}
use Rattle.ec_rules.specs.Operands.{operand_of, result_type}
use Rattle.ec_rules.specs.declared.operands.Wanted.TheVariants as wanted
use Rattle.ec_world.specs.declared.stop.Stop.TheVariants as stop

module _ (w : Setting) where
  -- An operator, over a value to its left, leaves its result there.
  abbrev Applies : StaticType → StaticType → Applied → Type 0
  Applies t u a = (e : Emitted) (before hs : Held) → Given w e t before hs →
      Goes w (a.code e (length hs)) before (Some u ∷ hs)

  -- where what is to its right is well typed
  abbrev pub AddendReady : TypedAddend → Applied → Type 0
  AddendReady x a = is_of (operand_of x.operator) x.value ≡ true →
      Applies (result_type x.operator) (result_type x.operator) a

  abbrev pub FactorReady : Typed → Applied → Type 0
  FactorReady x a = is_of wanted.Integer x ≡ true → Applies integer integer a

  abbrev pub AddendsReady : List TypedAddend → List Applied → Type 0
  AddendsReady [] [] = Unit {0}
  AddendsReady [] (a ∷ later) = ⊥
  AddendsReady (x ∷ xs) [] = ⊥
  AddendsReady (x ∷ xs) (a ∷ later) = AddendReady x a × AddendsReady xs later

  abbrev pub FactorsReady : List Typed → List Applied → Type 0
  FactorsReady [] [] = Unit {0}
  FactorsReady [] (a ∷ later) = ⊥
  FactorsReady (x ∷ xs) [] = ⊥
  FactorsReady (x ∷ xs) (a ∷ later) = FactorReady x a × FactorsReady xs later

-- ---- types

-- The operands of an operator are of its result's type.
only_results : (how : Additive) → TakesOnly (operand_of how) (result_type how)
only_results Plus s e = only_integers s e
only_results Minus s e = only_integers s e
only_results Concat s e = only_strings s e

-- A sum is well typed where each of its operands is.
pub sum_well : (left : Typed) (more : List TypedAddend) → (added left more).is_well ≡ true → left.is_well ≡ true
sum_well left [] e = e
sum_well left (a ∷ more) e =
    let both : Bool = is_of (operand_of a.operator) left && is_of (operand_of a.operator) a.value in
    let f : both ≡ true = sum_well (typed_if both (Some (result_type a.operator))) more e in
    well_taken (operand_of a.operator) left
    (both_true (is_of (operand_of a.operator) left) (is_of (operand_of a.operator) a.value) f).0

-- what it begins with is of its first operator's type
pub sum_begins : (left : Typed) (x : TypedAddend) (more : List TypedAddend) → (added left (x ∷ more)).is_well ≡ true →
    left.of ≡ Some (result_type x.operator)
sum_begins left x more e =
    let how : Additive = x.operator in
    let both : Bool = is_of (operand_of how) left && is_of (operand_of how) x.value in
    let f : both ≡ true = sum_well (typed_if both (Some (result_type how))) more e in
    let b = both_true (is_of (operand_of how) left) (is_of (operand_of how) x.value) f in
    type_of_taken (operand_of how) left (result_type how) (only_results how) b.0

module _ (w : Setting) where
  result_known : (how : Additive) → IsOfProgram w.declared.types (result_type how)
  result_known Plus = tt
  result_known Minus = tt
  result_known Concat = tt

  pub sum_known :
      (left : Typed) (more : List TypedAddend) → ((u : StaticType) → left.of ≡ Some u → IsOfProgram w.declared.types u) →
      (u : StaticType) → (added left more).of ≡ Some u → IsOfProgram w.declared.types u
  sum_known left [] known u e = known u e
  sum_known left (a ∷ more) known u e =
      sum_known
      (typed_if (is_of (operand_of a.operator) left && is_of (operand_of a.operator) a.value)
      (Some (result_type a.operator))) more
      (λ v f. subst (IsOfProgram w.declared.types) (same_leaf (result_type a.operator) v f) (result_known a.operator)) u e

module _ {w : Setting} where
  -- ---- operators one behind the other

  pub sums :
      (left : Typed) (more : List TypedAddend) (later : List Applied) → AddendsReady w more later →
      (added left more).is_well ≡ true → (u : StaticType) → left.of ≡ Some u → (e : Emitted) (before hs : Held) →
      Given w e u before hs → Goes w (applied_code later e (length hs)) before (held_if (added left more).of hs)
  sums left [] [] ready well u of e before hs v =
      subst (λ z. Goes w (e.code (length hs)) before (held_if z hs)) (sym of) v.code
  sums left [] (a ∷ later) ready well u of e before hs v = absurd ready
  sums left (x ∷ more) [] ready well u of e before hs v = absurd ready
  sums left (x ∷ more) (a ∷ later) ready well u of e before hs v =
      let how : Additive = x.operator in
      let both : Bool = is_of (operand_of how) left && is_of (operand_of how) x.value in
      let next : Typed = typed_if both (Some (result_type how)) in
      let b = both_true (is_of (operand_of how) left) (is_of (operand_of how) x.value) (sum_well next more well) in
      let is : u ≡ result_type how =
      same_leaf u (result_type how) (sym of ∙ type_of_taken (operand_of how) left (result_type how) (only_results how) b.0)
      in
      go_on (ready.0 b.1 e before hs (subst (λ z. Given w e z before hs) is v))
      (sums next more later ready.1 well (result_type how) refl kept (Some (result_type how) ∷ hs) hs
      (given_before (result_type how) hs))

  pub products :
      (xs : List Typed) (later : List Applied) → FactorsReady w xs later → all_are wanted.Integer xs ≡ true → (e : Emitted)
      (before hs : Held) → Given w e integer before hs →
      Goes w (applied_code later e (length hs)) before (Some integer ∷ hs)
  products [] [] ready all e before hs v = v.code
  products [] (a ∷ later) ready all e before hs v = absurd ready
  products (x ∷ xs) [] ready all e before hs v = absurd ready
  products (x ∷ xs) (a ∷ later) ready all e before hs v =
      let b = both_true (is_of wanted.Integer x) (all_are wanted.Integer xs) all in
      go_on (ready.0 b.0 e before hs v)
      (products xs later ready.1 b.1 kept (Some integer ∷ hs) hs (given_before integer hs))

  -- ---- one operator

  concatenated :
      (at : ℕ) {f : Emitted} → EachFits w → Works w f string → (e : Emitted) (before hs : Held) →
      Given w e string before hs → Goes w (joined Concat f at e (length hs)) before (Some string ∷ hs)
  concatenated at {f} each k e before hs v =
      go_on v.code
      (go_on (k.code (Some string ∷ hs))
      (rests (length w.operation.variables) string hs (string ∷ string ∷ []) (each string tt) (stop.Concat at)
      ((each string tt, (each string tt, tt)), refl)))

  pub adds :
      (how : Additive) (at : ℕ) {f : Emitted} → EachFits w → Works w f (result_type how) →
      (e : Emitted) (before hs : Held) →
      Given w e (result_type how) before hs → Goes w (joined how f at e (length hs)) before (Some (result_type how) ∷ hs)
  adds Plus at each k e before hs v = calculated_leads arithmetic.Sum (λ y. refl) v k (each integer tt)
  adds Minus at each k e before hs v = calculated_leads arithmetic.Difference (λ y. refl) v k (each integer tt)
  adds Concat at each k e before hs v = concatenated at each k e before hs v

  pub multiplies :
      (how : Multiplicative) (at : ℕ) {f : Emitted} → EachFits w → Works w f integer → (e : Emitted) (before hs : Held) →
      Given w e integer before hs → Goes w (multiplied how f at e (length hs)) before (Some integer ∷ hs)
  multiplies product.Times at each k e before hs v = calculated_leads arithmetic.Product (λ y. refl) v k (each integer tt)
  multiplies product.Over at each k e before hs v = divided_leads arithmetic.Quotient at (λ y. refl) v k (each integer tt)
  multiplies product.Remainder at each k e before hs v = divided_leads arithmetic.Remainder at (λ y. refl) v k
      (each integer tt)

-- the operand of an operator, where it is one
pub right_operand : (how : Additive) (x : Typed) → is_of (operand_of how) x ≡ true → x.of ≡ Some (result_type how)
right_operand how x e = type_of_taken (operand_of how) x (result_type how) (only_results how) e
