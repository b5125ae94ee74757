-- Items that give a value, and their code.
use Rattle.std.proofs.Common.{◌≡◌, ℕ, zero, suc, ◌+◌, ◌≤◌, if◌then◌else◌, Bool, true, false, not, List, [], ◌∷◌, length, Option, Some}
use Rattle.std.proofs.Common.{None}
use Rattle.std.proofs.Common.{ℤ, pos, negsuc, option_map, refl, sym, ap, ◌∙◌, arith, zero-add}
use Rattle.std.specs.Int.{w32, int_wrapping_neg, int_wrapping_sub}
use Rattle.std.specs.Prelude.{slice_get}
use Rattle.ec_ast.specs.declared.Multiplicative.{Multiplicative}
use Rattle.ec_ast.specs.declared.Multiplicative.TheVariants as product
use Rattle.ec_base.proofs.Lists.{get_there}
use Rattle.ec_code.specs.Steps as code_steps
use Rattle.ec_code.specs.Steps.{Machine, act, as_wanted, computed, field_in, on_numbers, on_two, operand_at, passes, unless_zero}
use Rattle.ec_code.specs.Steps.{with_variable}
use Rattle.ec_code.specs.declared.code.Arithmetic.{Arithmetic}
use Rattle.ec_code.specs.declared.code.Arithmetic.TheVariants.{Difference}
use Rattle.ec_code.specs.declared.code.Op.{Op}
use Rattle.ec_code.specs.declared.code.Op.TheVariants as op
use Rattle.ec_code.specs.declared.code.Operand.{Operand}
use Rattle.ec_code.specs.declared.code.Operand.TheVariants as operand
use Rattle.ec_code.specs.declared.code.Test.TheVariants as test
use Rattle.ec_code.specs.declared.code.Variable.{Variable}
use Rattle.ec_code.specs.declared.code.Variable.TheVariants as variable
use Rattle.ec_core.specs.declared.Place.{Place}
use Rattle.ec_core.specs.declared.Place.TheVariants as place
use Rattle.ec_meaning.specs.Meaning.{Reached}
use Rattle.ec_meaning.specs.Programs.{Source, constant_number, line}
use Rattle.ec_meaning.specs.Steps as steps
use Rattle.ec_meaning.specs.Steps.{Step, Rests, calculate, calculated, captured_of, divides, field_if, gives, gives_if, last_two, negate}
use Rattle.ec_meaning.specs.Steps.{pushed, step, value_at}
use Rattle.ec_meaning.specs.declared.item.Item.{Item}
use Rattle.ec_meaning.specs.declared.item.Item.TheVariants as i
use Rattle.ec_meaning.specs.declared.state.State.{State}
use Rattle.ec_world.specs.Same as same
use Rattle.ec_emission.proofs.Holding.{said_is}
use Rattle.ec_emission.proofs.Meeting.{Fits, IsAt, Matched, Meets, Routine, at_place, by_op, done, fits_kept, fits_own, fits_push, gives_on, goes, is_last}
use Rattle.ec_emission.proofs.Meeting.{itself, left, next, settled}
use Rattle.ec_emission.proofs.Meeting.{silent, stops, stuck, top, top_two, under, walked}
use Rattle.ec_emission.specs.Leaves.{Leaf, Named, Number, Truth, Nil, IsThereOf, leaf_operand, said}
use Rattle.ec_emission.specs.Rows.{fail_row}
use Rattle.ec_emission.specs.Stands.{Hold, Kept, Own, Said, arithmetic_of, fetched, read}
use Rattle.ec_world.specs.declared.common.Common.{Common}
use Rattle.ec_world.specs.declared.object.ObjectRec.{ObjectRec}
use Rattle.ec_world.specs.declared.process.Cause.TheVariants as cause
use Rattle.ec_world.specs.declared.stop.Stop.TheVariants as stop
use Rattle.ec_world.specs.declared.value.Value.{Value}
use Rattle.ec_world.specs.declared.value.Value.TheVariants as value
use Rattle.ec_world.specs.Objects.{object_at}

-- ---- equal definitions

field_same : (o : Option ObjectRec) (n : ℕ) → field_in o n ≡ field_if o n
field_same None n = refl
field_same (Some o) n = refl

zero_same : (z : ℤ) → same.is_zero z ≡ steps.is_zero z
zero_same (pos zero) = refl
zero_same (pos (suc n)) = refl
zero_same (negsuc n) = refl

negative_same : (z : ℤ) → int_wrapping_neg w32 z ≡ int_wrapping_sub w32 (pos 0) z
negative_same z = rw zero-add refl

negate_is : (below : State) (v : Value) → negate below v ≡ gives_if below (on_numbers (computed Difference) (value.Int (pos 0)) v)
negate_is below (value.Int z) = ap (λ n. gives below (value.Int n)) (negative_same z)
negate_is below (value.Bool b) = refl
negate_is below (value.Str t) = refl
negate_is below (value.Ref o) = refl
negate_is below value.Nil = refl

-- a quotient or a remainder, where the divisor is 0 or not
abbrev divided : Source → ℕ → State → Value → Bool → Step
divided s at below v true = Rests (stop.Fail cause.ZeroDivisor (line s at)) [] below []
divided s at below v false = gives below v

by_zero : (s : Source) (at : ℕ) (below : State) (v : Value) (z : Bool) →
    (if z then Rests (stop.Fail cause.ZeroDivisor (line s at)) [] below [] else gives below v) ≡ divided s at below v z
by_zero s at below v true = refl
by_zero s at below v false = refl

calculate_is : (s : Source) (by : Multiplicative) (at : ℕ) (below : State) (x y : ℤ) → divides by ≡ true →
    calculate s by at below (value.Int x) (value.Int y) ≡ divided s at below (value.Int (calculated by x y)) (steps.is_zero y)
calculate_is s by at below x y d = rw d (by_zero s at below (value.Int (calculated by x y)) (steps.is_zero y))

quotient_is : (by : Multiplicative) (x y : ℤ) → divides by ≡ true → steps.is_zero y ≡ false →
    computed (arithmetic_of by) x y ≡ Some (value.Int (calculated by x y))
quotient_is product.Times x y d e = cc
quotient_is product.Over x y d e = rw (zero_same y ∙ e) refl
quotient_is product.Remainder x y d e = rw (zero_same y ∙ e) refl

-- what the code says is there
there : (vs : List Value) (count : ℕ) (l : Leaf) → IsThereOf count l → count ≤ length vs → (v : Value) × (said vs l ≡ Some v)
there vs count (Named n) t h = get_there vs n (omega arith)
there vs count (Number z) t h = (value.Int z, refl)
there vs count (Truth b) t h = (value.Bool b, refl)
there vs count Nil t h = (value.Nil, refl)

module _ (r : Routine) (own : ℕ) where
  abbrev pub ComesTo : Item → (State → Step) → Type 0
  ComesTo x to = (st : State) → step r.source (itself r own) st x ≡ to st

  abbrev into : List Hold → Variable
  into hs = variable.Temporary (length hs)

  -- ---- what takes no step of the code

  pub says : (hs : List Hold) (q : ℕ) (x : Item) (xs : List Item) (l : Leaf) → ComesTo x (λ st. gives_if st (said st.variables l)) →
      IsThereOf r.count l → Meets r own (Said l ∷ hs) q xs → Meets r own hs q (x ∷ xs)
  says hs q x xs l e t k st m f =
      let v = there m.variables r.count l t f.many in
      let g : said st.variables l ≡ Some v.0 = ap (λ vs. said vs l) f.variables ∙ v.1 in
      silent r own st x xs (walked r own q m) (gives st v.0) (e st ∙ ap (gives_if st) g)
      (k (pushed st v.0) m (fits_push r own hs st m (Said l) v.0 v.1 f))

  -- ---- what is read

  pub copies : (hs : List Hold) (q : ℕ) (x : Item) (xs : List Item) (l : Leaf) → ComesTo x (λ st. gives_if st (said st.variables l)) →
      IsAt r q (op.Copy (into hs) (leaf_operand l)) → Meets r own (Kept ∷ hs) (suc q) xs → Meets r own hs q (x ∷ xs)
  copies hs q x xs l e is k st m f =
      gives_on r own x xs q (op.Copy (into hs) (leaf_operand l)) hs hs st st m (said st.variables l) (e st) is
      (ap (code_steps.gives m (into hs)) (said_is own m l ∙ ap (λ vs. said vs l) (sym f.variables))) f f k

  pub literal : (hs : List Hold) (q : ℕ) (x : Item) (xs : List Item) (text : List ℕ) (index : ℕ) →
      ComesTo x (λ st. gives st (value.Str text)) → slice_get r.literals index ≡ Some text → IsAt r q (op.Literal (into hs) index) →
      Meets r own (Kept ∷ hs) (suc q) xs → Meets r own hs q (x ∷ xs)
  literal hs q x xs text index e g is k st m f =
      gives_on r own x xs q (op.Literal (into hs) index) hs hs st st m (Some (value.Str text)) (e st) is
      (ap (λ t. code_steps.gives m (into hs) (option_map value.Str t)) g) f f k

  pub gives_itself : (hs : List Hold) (q : ℕ) (x : Item) (xs : List Item) → ComesTo x (λ st. gives st (value.Ref own)) →
      IsAt r q (op.Itself (into hs)) → Meets r own (Kept ∷ hs) (suc q) xs → Meets r own hs q (x ∷ xs)
  gives_itself hs q x xs e is k st m f =
      gives_on r own x xs q (op.Itself (into hs)) hs hs st st m (Some (value.Ref own)) (e st) is refl f f k

  -- the same, where it is kept that this is the own object
  pub is_own : (hs : List Hold) (q : ℕ) (x : Item) (xs : List Item) → ComesTo x (λ st. gives st (value.Ref own)) →
      IsAt r q (op.Itself (into hs)) → Meets r own (Own ∷ hs) (suc q) xs → Meets r own hs q (x ∷ xs)
  is_own hs q x xs e is k st m f =
      goes r own x xs q (op.Itself (into hs)) (Own ∷ hs) st (pushed st (value.Ref own)) m
      (with_variable m (into hs) (value.Ref own)) (e st) is refl (fits_own r own hs st m f) k

  abbrev fetch : Variable → Place → Op
  fetch to p = fetched r.source r.number r.captured r.count r.literals r.code r.Loop to p

  fetches_same : (hs : List Hold) (st : State) (m : Machine) (to : Variable) (p : Place) → Fits r own hs st m →
      act r.literals own m (fetch to p) ≡ code_steps.gives m to (value_at r.source own st p)
  fetches_same hs st m to (place.Variable n) f = ap (λ vs. code_steps.gives m to (slice_get vs n)) (sym f.variables)
  fetches_same hs st m to (place.Captured n) f =
      ap (code_steps.gives m to)
      (field_same (object_at m.common.objects own) n ∙ ap (λ w. field_if (object_at w.objects own) n) (sym f.common))
  fetches_same hs st m to (place.Field n) f =
      ap (code_steps.gives m to)
      (field_same (object_at m.common.objects own) (r.captured + n)
      ∙ ap (λ k. field_if (object_at m.common.objects own) (k + n)) (sym f.owns)
      ∙ ap (λ w. field_if (object_at w.objects own) (captured_of r.source (object_at w.objects own) + n)) (sym f.common))
  fetches_same hs st m to (place.Constant n) f =
      ap (λ w. code_steps.gives m to (slice_get w.globals (constant_number r.source n))) (sym f.common)

  pub fetches : (hs : List Hold) (q : ℕ) (x : Item) (xs : List Item) (p : Place) →
      ComesTo x (λ st. gives_if st (value_at r.source own st p)) → IsAt r q (fetch (into hs) p) → Meets r own (Kept ∷ hs) (suc q) xs →
      Meets r own hs q (x ∷ xs)
  fetches hs q x xs p e is k st m f =
      gives_on r own x xs q (fetch (into hs) p) hs hs st st m (value_at r.source own st p) (e st) is
      (fetches_same hs st m (into hs) p f) f f k

  -- ---- what is worked out

  on_two_is : (m : Machine) (how : Arithmetic) (to : Variable) (a b : Operand) (u v : Value) → operand_at m a ≡ Some u →
      operand_at m b ≡ Some v →
      act r.literals own m (op.Compute how to a b) ≡ code_steps.gives m to (on_numbers (computed how) u v)
  on_two_is m how to a b u v e g =
      ap (λ o. code_steps.gives m to (on_two (on_numbers (computed how)) o (operand_at m b))) e
      ∙ ap (λ o. code_steps.gives m to (on_two (on_numbers (computed how)) (Some u) o)) g

  pub negates : (hs : List Hold) (h : Hold) (q : ℕ) (xs : List Item) (a : Operand) → read (length hs) h ≡ Some a →
      IsAt r q (op.Compute Difference (into hs) (operand.Number (pos 0)) a) → Meets r own (Kept ∷ hs) (suc q) xs →
      Meets r own (h ∷ hs) q (i.Negate ∷ xs)
  negates hs h q xs a g is k st m f =
      let t = top r own st m f in
      gives_on r own i.Negate xs q (op.Compute Difference (into hs) (operand.Number (pos 0)) a) (h ∷ hs) hs st (under st) m
      (on_numbers (computed Difference) (value.Int (pos 0)) t.value) (t.is negate ∙ negate_is (under st) t.value) is
      (on_two_is m Difference (into hs) (operand.Number (pos 0)) a (value.Int (pos 0)) t.value refl (t.here a g)) f t.fits k

  pub computes : (hs : List Hold) (h l : Hold) (q : ℕ) (x : Item) (xs : List Item) (how : Arithmetic)
      (go : State → State → Value → Value → Step) → ComesTo x (λ st. last_two st (go st)) →
      ((st below : State) (u v : Value) → go st below u v ≡ gives_if below (on_numbers (computed how) u v)) → (a b : Operand) →
      read (length hs) h ≡ Some a → read (suc (length hs)) l ≡ Some b → IsAt r q (op.Compute how (into hs) a b) →
      Meets r own (Kept ∷ hs) (suc q) xs → Meets r own (l ∷ h ∷ hs) q (x ∷ xs)
  computes hs h l q x xs how go e g a b u v is k st m f =
      let t = top_two r own st m f in
      gives_on r own x xs q (op.Compute how (into hs) a b) (l ∷ h ∷ hs) hs st (under (under st)) m
      (on_numbers (computed how) t.first t.second) (e st ∙ t.is (go st) ∙ g st (under (under st)) t.first t.second) is
      (on_two_is m how (into hs) a b t.first t.second (t.here a u) (t.here_too b v)) f t.fits k

  -- ---- quotients and remainders

  divides_is : (m : Machine) (a b : Operand) (u v : Value) → operand_at m a ≡ Some u → operand_at m b ≡ Some v →
      act r.literals own m (op.Branch (test.Divides a b) true 1)
      ≡ passes m 1 (as_wanted true (on_numbers (λ x y. Some (not (same.is_zero y))) u v))
  divides_is m a b u v e g =
      ap (λ o. passes m 1 (as_wanted true (on_two (on_numbers (λ x y. Some (not (same.is_zero y)))) o (operand_at m b)))) e
      ∙ ap (λ o. passes m 1 (as_wanted true (on_two (on_numbers (λ x y. Some (not (same.is_zero y)))) (Some u) o))) g

  -- the divisor is 0 or not
  quotient : (hs : List Hold) (q at : ℕ) (by : Multiplicative) (xs : List Item) (st below : State) (m : Machine) (x y : ℤ) (a b : Operand) →
      divides by ≡ true → operand_at m a ≡ Some (value.Int x) → operand_at m b ≡ Some (value.Int y) → Fits r own hs below m →
      IsAt r (suc q) (op.Rest (fail_row cause.ZeroDivisor (line r.source at))) →
      IsAt r (suc (suc q)) (op.Compute (arithmetic_of by) (into hs) a b) → Meets r own (Kept ∷ hs) (suc (suc (suc q))) xs →
      (z : Bool) → steps.is_zero y ≡ z →
      Matched r own (left r own st xs (divided r.source at below (value.Int (calculated by x y)) z))
      (done r own q m (passes m 1 (as_wanted true (Some (not z)))))
  quotient hs q at by xs st below m x y a b d u v f fails is k true e =
      next r own _ q m
      (stops r own hs (suc q) (fail_row cause.ZeroDivisor (line r.source at)) [] xs None below m fails refl refl (λ invokes. refl) f (is_last tt))
  quotient hs q at by xs st below m x y a b d u v f fails is k false e =
      let w : Value = value.Int (calculated by x y) in
      let new : Machine = with_variable m (into hs) w in
      let all : Common × Option Reached = settled r own (pushed below w) xs in
      at_place r own all (suc (suc q)) (suc (q + 1)) m (omega arith)
      (by_op r own all (suc (suc q)) m (op.Compute (arithmetic_of by) (into hs) a b) (code_steps.Goes new 0) is
      (on_two_is m (arithmetic_of by) (into hs) a b (value.Int x) (value.Int y) u v
      ∙ ap (code_steps.gives m (into hs)) (quotient_is by x y d e))
      (next r own all (suc (suc q)) new (k (pushed below w) new (fits_kept r own hs below m w f))))

  -- the two values are numbers, or there is no case
  quotients : (hs ks : List Hold) (q at : ℕ) (by : Multiplicative) (xs : List Item) (st below : State) (m : Machine) (a b : Operand) →
      divides by ≡ true → Fits r own ks st m → Fits r own hs below m →
      IsAt r (suc q) (op.Rest (fail_row cause.ZeroDivisor (line r.source at))) →
      IsAt r (suc (suc q)) (op.Compute (arithmetic_of by) (into hs) a b) → Meets r own (Kept ∷ hs) (suc (suc (suc q))) xs →
      (u v : Value) → operand_at m a ≡ Some u → operand_at m b ≡ Some v →
      Matched r own (left r own st xs (calculate r.source by at below u v))
      (done r own q m (passes m 1 (as_wanted true (on_numbers (λ x y. Some (not (same.is_zero y))) u v))))
  quotients hs ks q at by xs st below m a b d g f fails is k (value.Int x) (value.Int y) u v =
      let c : calculate r.source by at below (value.Int x) (value.Int y)
      ≡ divided r.source at below (value.Int (calculated by x y)) (steps.is_zero y) =
      calculate_is r.source by at below x y d in
      rw (c, zero_same y) (quotient hs q at by xs st below m x y a b d u v f fails is k (steps.is_zero y) refl)
  quotients hs ks q at by xs st below m a b d g f fails is k (value.Int x) (value.Bool c) u v = stuck r own st m ks g
  quotients hs ks q at by xs st below m a b d g f fails is k (value.Int x) (value.Str t) u v = stuck r own st m ks g
  quotients hs ks q at by xs st below m a b d g f fails is k (value.Int x) (value.Ref o) u v = stuck r own st m ks g
  quotients hs ks q at by xs st below m a b d g f fails is k (value.Int x) value.Nil u v = stuck r own st m ks g
  quotients hs ks q at by xs st below m a b d g f fails is k (value.Bool c) w u v = stuck r own st m ks g
  quotients hs ks q at by xs st below m a b d g f fails is k (value.Str t) w u v = stuck r own st m ks g
  quotients hs ks q at by xs st below m a b d g f fails is k (value.Ref o) w u v = stuck r own st m ks g
  quotients hs ks q at by xs st below m a b d g f fails is k value.Nil w u v = stuck r own st m ks g

  pub divides_by : (hs : List Hold) (h l : Hold) (q at : ℕ) (by : Multiplicative) (xs : List Item) → divides by ≡ true → (a b : Operand) →
      read (length hs) h ≡ Some a → read (suc (length hs)) l ≡ Some b → IsAt r q (op.Branch (test.Divides a b) true 1) →
      IsAt r (suc q) (op.Rest (fail_row cause.ZeroDivisor (line r.source at))) →
      IsAt r (suc (suc q)) (op.Compute (arithmetic_of by) (into hs) a b) → Meets r own (Kept ∷ hs) (suc (suc (suc q))) xs →
      Meets r own (l ∷ h ∷ hs) q (i.Calculate by at ∷ xs)
  divides_by hs h l q at by xs d a b u v tests fails is k st m f =
      let t = top_two r own st m f in
      let below : State = under (under st) in
      silent r own st (i.Calculate by at) xs (walked r own q m) (calculate r.source by at below t.first t.second)
      (t.is (calculate r.source by at))
      (by_op r own _ q m (op.Branch (test.Divides a b) true 1) _ tests
      (divides_is m a b t.first t.second (t.here a u) (t.here_too b v))
      (quotients hs (l ∷ h ∷ hs) q at by xs st below m a b d f t.fits fails is k t.first t.second (t.here a u) (t.here_too b v)))
