-- Where code leads on: silent steps go there too, there is code, and what is live there is live before.
use Rattle.std.proofs.Common.{◌≡◌, ℕ, zero, suc, ◌+◌, ◌<◌, ◌^◌, List, [], ◌∷◌, drop, length, Option, Some, None, refl, sym, ap, ◌∙◌}
use Rattle.std.proofs.Common.{subst, arith, Bool, true, false, if◌then◌else◌, length-drop}
use Rattle.std.specs.Prelude.{nat_lt, slice_get}
use Rattle.std.proofs.lemmas.Option.{same_Some}
use Rattle.ec_code.specs.Activations.{walk, walk_by}
use Rattle.ec_code.specs.Fine.{FineOp, FineOperation, Has, Passes, live_at, live_if}
use Rattle.ec_code.specs.Steps.{Goes, Machine, act, as_wanted, passes, tested, truth_in, variable_at}
use Rattle.ec_code.specs.Typing.{Declared}
use Rattle.ec_code.specs.declared.code.Line.{Line}
use Rattle.ec_code.specs.declared.code.Live.{Live}
use Rattle.ec_code.specs.declared.code.Op.{Op}
use Rattle.ec_code.specs.declared.code.Op.TheVariants as op
use Rattle.ec_code.specs.declared.code.Operand.TheVariants as operand
use Rattle.ec_code.specs.declared.code.Operation.{Operation}
use Rattle.ec_code.specs.declared.code.Parts.{Parts}
use Rattle.ec_code.specs.declared.code.Test.{Test}
use Rattle.ec_code.specs.declared.code.Test.TheVariants as test
use Rattle.ec_code.specs.declared.code.Variable.{Variable}
use Rattle.ec_types.specs.declared.conform.static_type.StaticType.{StaticType}
use Rattle.ec_machine_code.proofs.Direct.{known_asks}
use Rattle.ec_machine_code.proofs.FineAt.{fine_at}
use Rattle.ec_machine_code.proofs.Sites.{live_behind}
use Rattle.ec_machine_code.proofs.Stretches.{get_behind}
use Rattle.ec_machine_code.proofs.Values.{wanted_some}
use Rattle.ec_machine_code.specs.Direct.{asked_for, far_over, further, is_known, led_on, most_led, over_if, passed_by, passed_if, passed_over}
use Rattle.ec_world.specs.Same.{is_same_truth}
use Rattle.ec_world.specs.declared.value.Value.{Value}
use Rattle.ec_world.specs.declared.value.Value.TheVariants.{Int, Nil, Ref, Str, Bool as Truth}

-- ---- what is so of the first place and goes on with each step that is passed is so of the last one

module _ (code : List Line) (known : Option Variable) (value : Bool) (q : ℕ) (P : ℕ → Type 0) where
  abbrev pub GoesFurther : Type 0
  GoesFurther = (over more : ℕ) → passed_if known value (slice_get code (suc (q + over))) ≡ Some more → P over → P (suc (over + more))

  go_on : (on : ℕ → ℕ) → ((k : ℕ) → P k → P (on k)) → (over : ℕ) (o : Option ℕ) → P over → ((more : ℕ) → o ≡ Some more → P (suc (over + more))) →
      P (further on over o)
  go_on on next over None here step = here
  go_on on next over (Some more) here step = by (nat_lt (suc (over + more)) (2 ^ 32))
    where
      by : (b : Bool) → P (if b then on (suc (over + more)) else over)
      by true = next (suc (over + more)) (step more refl)
      by false = here

  pub each_further : GoesFurther → (n over : ℕ) → P over → P (led_on n code known value q over)
  each_further step zero over h = h
  each_further step (suc n) over h =
      go_on (led_on n code known value q) (each_further step n) over (passed_if known value (slice_get code (suc (q + over)))) h
      (λ more e. step over more e h)

-- the step that is passed
pub step_passed :
    (known : Option Variable) (value : Bool) (o : Option Line) (more : ℕ) → passed_if known value o ≡ Some more →
    (line : Line) × (o ≡ Some line) × (passed_over known value line.op ≡ Some more)
step_passed known value None more e = absurd cc
step_passed known value (Some line) more e = (line, refl, e)

by_some : (b : Bool) (over more : ℕ) → passed_by b over ≡ Some more → (b ≡ true) × (over ≡ more)
by_some true over more e = (refl, same_Some over more e)
by_some false over more e = absurd cc

-- ---- silent steps

-- what is known of a variable's truth value
abbrev pub Knows : Machine → Option Variable → Bool → Type 0
Knows m None value = Unit {0}
Knows m (Some x) value = variable_at m x ≡ Some (Truth value)

asked_known :
    (known : Option Variable) (value wanted : Bool) (t : Test) (m : Machine) → is_known known (asked_for t) ≡ true → Knows m known value →
    as_wanted wanted (tested m t) ≡ Some (is_same_truth wanted value)
asked_known None value wanted t m e k = absurd cc
asked_known (Some x) value wanted t m e k =
    ap (λ u. as_wanted wanted (tested m u)) (known_asks x t e) ∙ ap (λ u. as_wanted wanted (truth_in u)) k

passes_so : (m : Machine) (over : ℕ) (b : Bool) → passes m over (Some b) ≡ Goes m (over_if b over)
passes_so m over true = refl
passes_so m over false = refl

truth_is : (u : Option Value) (b : Bool) → truth_in u ≡ Some b → u ≡ Some (Truth b)
truth_is (Some (Truth c)) b e = ap (λ i. Some (Truth i)) (same_Some c b e)
truth_is (Some (Int z)) b e = absurd cc
truth_is (Some (Str s)) b e = absurd cc
truth_is (Some (Ref o)) b e = absurd cc
truth_is (Some Nil) b e = absurd cc
truth_is None b e = absurd cc

pub as_it_is : (wanted b : Bool) → is_same_truth wanted b ≡ true → b ≡ wanted
as_it_is true b e = e
as_it_is false true e = absurd cc
as_it_is false false e = refl

-- Where a question is answered with yes, what it asks for is known.
pub knows_asked : (m : Machine) (t : Test) (wanted : Bool) → as_wanted wanted (tested m t) ≡ Some true → Knows m (asked_for t) wanted
knows_asked m (test.Holds (operand.Of x)) wanted e =
    let c = wanted_some wanted true (truth_in (variable_at m x)) e in
    truth_is (variable_at m x) c.0 c.1 ∙ ap (λ i. Some (Truth i)) (as_it_is wanted c.0 c.2)
knows_asked m (test.Holds (operand.Number z)) wanted e = tt
knows_asked m (test.Holds (operand.Truth b)) wanted e = tt
knows_asked m (test.Holds operand.Nil) wanted e = tt
knows_asked m (test.Same x y) wanted e = tt
knows_asked m (test.Less x y) wanted e = tt
knows_asked m (test.LessEqual x y) wanted e = tt
knows_asked m (test.Divides x y) wanted e = tt

module _ (literals : List (List ℕ)) (self : ℕ) where
  goes_past :
      (known : Option Variable) (value : Bool) (o : Op) (more : ℕ) (m : Machine) → passed_over known value o ≡ Some more → Knows m known value →
      act literals self m o ≡ Goes m more
  goes_past known value (op.Jump over) more m e k = ap (Goes m) (same_Some over more e)
  goes_past known value (op.Branch t wanted over) more m e k =
      let b = by_some (is_known known (asked_for t)) (over_if (is_same_truth wanted value) over) more e in
      ap (passes m over) (asked_known known value wanted t m b.0 k) ∙ passes_so m over (is_same_truth wanted value) ∙ ap (Goes m) b.1
  goes_past known value (op.Copy to from) more m e k = absurd cc
  goes_past known value (op.Literal to index) more m e k = absurd cc
  goes_past known value (op.Itself to) more m e k = absurd cc
  goes_past known value (op.Field to field) more m e k = absurd cc
  goes_past known value (op.SetField field from) more m e k = absurd cc
  goes_past known value (op.Constant to index) more m e k = absurd cc
  goes_past known value (op.Compute how to left right) more m e k = absurd cc
  goes_past known value (op.Decide to t wanted) more m e k = absurd cc
  goes_past known value (op.Again back) more m e k = absurd cc
  goes_past known value (op.Rest row) more m e k = absurd cc

  -- silent steps that pass over so many steps, and meet one that passes over more
  passing :
      (rest : List Line) (p over more : ℕ) (line : Line) (m : Machine) → slice_get rest over ≡ Some line →
      act literals self m line.op ≡ Goes m more → walk literals self p rest over m ≡ walk literals self p rest (suc (over + more)) m
  passing [] p over more line m e goes = absurd cc
  passing (l ∷ ls) p zero more line m e goes =
      let same : more ≡ 0 + more = omega arith in
      ap (λ (x : Line). walk_by p (walk literals self (suc p) ls) m (act literals self m x.op)) (same_Some l line e)
      ∙ ap (walk_by p (walk literals self (suc p) ls) m) goes ∙ ap (λ k. walk literals self (suc p) ls k m) same
  passing (l ∷ ls) p (suc over) more line m e goes =
      let next : suc (over + more) ≡ suc over + more = omega arith in
      passing ls (suc p) over more line m e goes ∙ ap (λ k. walk literals self (suc p) ls k m) next

  -- silent steps that pass over so many steps behind a place come to where they would if they passed over so many others
  abbrev pub SameWalk : List Line → ℕ → Machine → ℕ → ℕ → Type 0
  SameWalk code q m over far =
      walk literals self (suc q) (drop (suc q) code) over m ≡ walk literals self (suc q) (drop (suc q) code) far m

  -- silent steps lead on too
  pub walks_on :
      (code : List Line) (known : Option Variable) (value : Bool) (q over : ℕ) (m : Machine) → Knows m known value →
      SameWalk code q m over (far_over code known value q over)
  walks_on code known value q over m k = each_further code known value q (SameWalk code q m over) step most_led over refl
    where
      step : (far more : ℕ) → passed_if known value (slice_get code (suc (q + far))) ≡ Some more → SameWalk code q m over far →
          SameWalk code q m over (suc (far + more))
      step far more e same =
          let passed = step_passed known value (slice_get code (suc (q + far))) more e in
          let place : suc q + far ≡ suc (q + far) = omega arith in
          let there = get_behind code (suc q) far ∙ ap (slice_get code) place ∙ passed.1 in
          same ∙ passing (drop (suc q) code) (suc q) far more passed.0 m there (goes_past known value passed.0.op more m passed.2 k)

-- ---- typing

module _ (d : Declared) (p : Parts) (number : ℕ) (o : Operation) (fine : FineOperation d p number o) where
  -- there is code past so many steps, and what is live there is among these
  abbrev pub LeadsTo : ℕ → List Live → ℕ → Type 0
  LeadsTo q here over =
      (suc (q + over) < length o.code) × ((x : Variable) (t : StaticType) → Has (live_at o.code (suc (q + over))) x t → Has here x t)

  pub leads_to : (q over : ℕ) (here : List Live) → Passes d p (drop (suc q) o.code) over here → LeadsTo q here over
  leads_to q over here h = (
    omega (arith, h.0, length-drop (suc q) o.code),
    λ x t l. h.1 x t (subst (λ ls. Has ls x t) (sym (live_behind o.code q over)) l),
  )

  -- a step that is passed leads to where it passes
  passed_leads :
      (known : Option Variable) (value : Bool) (q more : ℕ) (live : List Live) (i : Op) → FineOp d p number o q (drop (suc q) o.code) live i →
      passed_over known value i ≡ Some more → LeadsTo q live more
  passed_leads known value q more live (op.Jump over) f e = subst (LeadsTo q live) (same_Some over more e) (leads_to q over live f)
  passed_leads known value q more live (op.Branch t wanted over) f e =
      let b = by_some (is_known known (asked_for t)) (over_if (is_same_truth wanted value) over) more e in
      subst (LeadsTo q live) b.1 (way (is_same_truth wanted value))
    where
      way : (b : Bool) → LeadsTo q live (over_if b over)
      way true = leads_to q over live f.2
      way false = leads_to q 0 live f.1
  passed_leads known value q more live (op.Copy to from) f e = absurd cc
  passed_leads known value q more live (op.Literal to index) f e = absurd cc
  passed_leads known value q more live (op.Itself to) f e = absurd cc
  passed_leads known value q more live (op.Field to field) f e = absurd cc
  passed_leads known value q more live (op.SetField field from) f e = absurd cc
  passed_leads known value q more live (op.Constant to index) f e = absurd cc
  passed_leads known value q more live (op.Compute how to left right) f e = absurd cc
  passed_leads known value q more live (op.Decide to t wanted) f e = absurd cc
  passed_leads known value q more live (op.Again back) f e = absurd cc
  passed_leads known value q more live (op.Rest row) f e = absurd cc

  pub leads_far :
      (known : Option Variable) (value : Bool) (q over : ℕ) (here : List Live) → LeadsTo q here over →
      LeadsTo q here (far_over o.code known value q over)
  leads_far known value q over here h = each_further o.code known value q (LeadsTo q here) step most_led over h
    where
      step : (far more : ℕ) → passed_if known value (slice_get o.code (suc (q + far))) ≡ Some more → LeadsTo q here far →
          LeadsTo q here (suc (far + more))
      step far more e old =
          let passed = step_passed known value (slice_get o.code (suc (q + far))) more e in
          let f = fine_at d p number o (suc (q + far)) passed.0 fine passed.1 in
          let on = passed_leads known value (suc (q + far)) more passed.0.live passed.0.op f passed.2 in
          let place : suc (suc (q + far) + more) ≡ suc (q + suc (far + more)) = omega arith in (
            omega (arith, on.0, place),
            λ x t l.
                old.1 x t (subst (λ ls. Has ls x t) (sym (ap live_if passed.1))
                (on.1 x t (subst (λ k. Has (live_at o.code k) x t) (sym place) l))),
          )
