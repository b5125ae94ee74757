-- Reached worlds of three-address code.
use Rattle.std.proofs.Common.{◌≡◌, ◌∙◌, ◌+◌, ℕ, zero, suc, Bool, true, false, List, [], ◌∷◌, drop, map, Option, Some, None, refl, sym, ap, subst}
use Rattle.std.proofs.Common.{arith}
use Rattle.std.specs.Prelude.{◌&&◌, option_map, slice_get}
use Rattle.ec_code.proofs.Walks.{silent_keeps}
use Rattle.ec_code.specs.Activations.{Arrived, code_if, code_meaning, code_silent, finished, into_variable, machine_behind, operation_at, rested}
use Rattle.ec_code.specs.Activations.{resting, walk, walk_by, with_result}
use Rattle.ec_code.specs.Steps.{Done, Goes, Loops, Machine, NoCase, Rests, act, as_wanted, computed, decides, gives, on_numbers, on_two, operand_at}
use Rattle.ec_code.specs.Steps.{own_field, passes, rests, stores, tested, variables_at, with_field}
use Rattle.ec_code.specs.Typing.{kind_of}
use Rattle.ec_code.specs.declared.activation.CodeActivation.{CodeActivation}
use Rattle.ec_code.specs.declared.code.Line.{Line}
use Rattle.ec_code.specs.declared.code.Op.{Op}
use Rattle.ec_code.specs.declared.code.Op.TheVariants as op
use Rattle.ec_code.specs.declared.code.Operation.{Operation}
use Rattle.ec_code.specs.declared.code.Parts.{Parts}
use Rattle.ec_code.specs.declared.code.StopRow.{StopRow}
use Rattle.ec_code.specs.declared.code.Variable.{Variable}
use Rattle.ec_code.specs.declared.code.Variable.TheVariants.{Named, Temporary}
use Rattle.ec_world.specs.declared.class.ClassRec.{ClassRec}
use Rattle.ec_world.specs.declared.common.Common.{Common}
use Rattle.ec_world.specs.declared.stop.Stop.TheVariants as stop
use Rattle.ec_world.specs.declared.value.Value.{Value}
use Rattle.ec_world.specs.declared.value.Value.TheVariants.{Ref, Str}
use Rattle.ec_world.specs.Objects.{object_at}
use Rattle.ec_world.specs.Outcomes.{monitor_if, monitor_of, with_element}
use Rattle.ec_world.specs.Sights.{class_of}
use Rattle.ec_reached.proofs.Asking.{and_false}
use Rattle.ec_reached.proofs.Objects.{changed_kept}
use Rattle.ec_reached.proofs.Order.{blocked_rests, monitor_fits, order_kept, reached_orderly, stack_is_calls}
use Rattle.ec_reached.specs.Code.{CodeFits, EachCodeStays, EachCodeStops, EachRunOfCodeIsOrderly, EachRunOfCodeKeeps, EntriesOfCodeKeepOrder, LinesFit}
use Rattle.ec_reached.specs.Code.{OpFits, OperationsFit, StopFits}
use Rattle.ec_reached.specs.Meant.{IsDone, IsNotCalled, StaysItself, StepsStay, is_coming, is_end, is_ending, is_entry}

-- ---- activations

result_done : (a : CodeActivation) (x : Variable) (v : Value) → IsDone code_meaning a (with_result a x v)
result_done a (Named n) v = record { operation = refl; own = refl; stop = refl; operands = refl; done = refl }
result_done a (Temporary k) v = record { operation = refl; own = refl; stop = refl; operands = refl; done = refl }

into_done : (a : CodeActivation) (x : Option Variable) (v : Value) → IsDone code_meaning a (into_variable a x v)
into_done a None v = record { operation = refl; own = refl; stop = refl; operands = refl; done = refl }
into_done a (Some x) v = result_done a x v

finished_done : (a : CodeActivation) (given : Option Value) → IsDone code_meaning a (finished a given)
finished_done a None = record { operation = refl; own = refl; stop = refl; operands = refl; done = refl }
finished_done a (Some v) = into_done a a.into v

itself : StaysItself code_meaning
itself = record {
  begun = λ op own args. record { operation = refl; own = refl; stop = refl; pending = refl };
  finished = finished_done;
}

-- ---- what silent steps leave alone

pub record Left (c d : Common) : Type 0 where
  pub nodes : d.nodes ≡ c.nodes
  pub classes : d.classes ≡ c.classes
  pub objects : (o : ℕ) → class_of (object_at d.objects o) ≡ class_of (object_at c.objects o)
  pub monitors : (o : ℕ) → monitor_of d o ≡ monitor_of c o

-- so it is of what was there, and of a value stored in a field
pub itself_left : (c : Common) → Left c c
itself_left c = record { nodes = refl; classes = refl; objects = λ o. refl; monitors = λ o. refl }

pub stored_left : (c d : Common) (own n : ℕ) (v : Value) → Left c d → Left c (with_field d own n v)
stored_left c d own n v h = record {
  nodes = h.nodes;
  classes = h.classes;
  objects = λ o. changed_kept d.objects (with_element n v) class_of (λ r. refl) own o ∙ h.objects o;
  monitors = λ o. changed_kept d.objects (with_element n v) monitor_if (λ r. refl) own o ∙ h.monitors o;
}

left : (p : Parts) (c : Common) (a : CodeActivation) → Left c (code_silent p c a).0
left p c a =
    silent_keeps (Left c) p c a (λ m n v h. stored_left c m.common a.own n v h)
    (itself_left c)

rested_operation : (a : CodeActivation) (r : Option Arrived) → (rested a r).operation ≡ a.operation
rested_operation a None = refl
rested_operation a (Some r) = refl

rested_own : (a : CodeActivation) (r : Option Arrived) → (rested a r).own ≡ a.own
rested_own a None = refl
rested_own a (Some r) = refl

resting_is : (a : CodeActivation) (x : Common × Option Arrived) → (resting a x).1 ≡ rested a x.1
resting_is a (c, r) = refl

module _ (p : Parts) (c : Common) (a : CodeActivation) where
  -- the code behind its stop
  abbrev behind : List Line
  behind = drop (suc a.at) (code_if (operation_at p a.operation))

  abbrev walked : Common × Option Arrived
  walked = walk p.literals a.own (suc a.at) behind 0 (machine_behind p c a)

  silent_is : (code_silent p c a).1 ≡ rested a walked.1
  silent_is = resting_is a walked

steps : (p : Parts) → StepsStay code_meaning (code_silent p)
steps p = record {
  operation = λ c a. ap (λ (x : CodeActivation). x.operation) (silent_is p c a) ∙ rested_operation a (walked p c a).1;
  own = λ c a. ap (λ (x : CodeActivation). x.own) (silent_is p c a) ∙ rested_own a (walked p c a).1;
  nodes = λ c a. (left p c a).nodes;
  classes = λ c a. (left p c a).classes;
  objects = λ c a o. (left p c a).objects o;
  monitors = λ c a o. (left p c a).monitors o;
}

pub code_stays : EachCodeStays
code_stays p = record { itself = itself; steps = steps p }

-- ---- where silent steps stop

module _ (classes : List ClassRec) (n : ℕ) where
  abbrev StepFits : Done → Type 0
  StepFits (Goes m over) = Unit {0}
  StepFits (Rests row operands) = StopFits classes n row.stop
  StepFits (Loops back) = Unit {0}
  StepFits NoCase = Unit {0}

  gives_fits : (m : Machine) (to : Variable) (v : Option Value) → StepFits (gives m to v)
  gives_fits m to None = tt
  gives_fits m to (Some v) = tt

  decides_fits : (m : Machine) (to : Variable) (b : Option Bool) → StepFits (decides m to b)
  decides_fits m to None = tt
  decides_fits m to (Some b) = tt

  passes_fits : (m : Machine) (over : ℕ) (b : Option Bool) → StepFits (passes m over b)
  passes_fits m over None = tt
  passes_fits m over (Some true) = tt
  passes_fits m over (Some false) = tt

  stores_fits : (m : Machine) (own k : ℕ) (v : Option Value) → StepFits (stores m own k v)
  stores_fits m own k None = tt
  stores_fits m own k (Some v) = tt

  rests_fits : (row : StopRow) (own : ℕ) (vs : Option (List Value)) → StopFits classes n row.stop → StepFits (rests row own vs)
  rests_fits row own None h = tt
  rests_fits row own (Some vs) h = h

  act_fits : (literals : List (List ℕ)) (own : ℕ) (m : Machine) (x : Op) → OpFits classes n x → StepFits (act literals own m x)
  act_fits literals own m (op.Copy to from) h = gives_fits m to (operand_at m from)
  act_fits literals own m (op.Literal to index) h = gives_fits m to (option_map Str (slice_get literals index))
  act_fits literals own m (op.Itself to) h = gives_fits m to (Some (Ref own))
  act_fits literals own m (op.Field to k) h = gives_fits m to (own_field m.common own k)
  act_fits literals own m (op.SetField k from) h = stores_fits m own k (operand_at m from)
  act_fits literals own m (op.Constant to index) h = gives_fits m to (slice_get m.common.globals index)
  act_fits literals own m (op.Compute how to x y) h = gives_fits m to (on_two (on_numbers (computed how)) (operand_at m x) (operand_at m y))
  act_fits literals own m (op.Decide to t wanted) h = decides_fits m to (as_wanted wanted (tested m t))
  act_fits literals own m (op.Branch t wanted over) h = passes_fits m over (as_wanted wanted (tested m t))
  act_fits literals own m (op.Jump over) h = tt
  act_fits literals own m (op.Again back) h = tt
  act_fits literals own m (op.Rest row) h = rests_fits row own (variables_at m row.operands) h

  abbrev ArrivedFits : Option Arrived → Type 0
  ArrivedFits None = Unit {0}
  ArrivedFits (Some r) = StopFits classes n r.action

  loop_top : StopFits classes n stop.LoopTop
  loop_top = record { no_entry = refl; ends = λ e. absurd cc }

  by_step : (place : ℕ) (next : ℕ → Machine → Common × Option Arrived) (m : Machine) (done : Done) → StepFits done →
      ((over : ℕ) (new : Machine) → ArrivedFits (next over new).1) → ArrivedFits (walk_by place next m done).1
  by_step place next m (Goes new over) h further = further over new
  by_step place next m (Rests row operands) h further = h
  by_step place next m (Loops back) h further = loop_top
  by_step place next m NoCase h further = tt

  walk_fits : (literals : List (List ℕ)) (own place : ℕ) (lines : List Line) (over : ℕ) (m : Machine) → LinesFit classes n lines →
      ArrivedFits (walk literals own place lines over m).1
  walk_fits literals own place [] over m h = tt
  walk_fits literals own place (line ∷ rest) (suc over) m h = walk_fits literals own (suc place) rest over m h.1
  walk_fits literals own place (line ∷ rest) zero m h =
      by_step place (walk literals own (suc place) rest) m (act literals own m line.op) (act_fits literals own m line.op h.0)
      (λ over new. walk_fits literals own (suc place) rest over new h.1)

  drop_fits : (lines : List Line) (k : ℕ) → LinesFit classes n lines → LinesFit classes n (drop k lines)
  drop_fits [] zero h = tt
  drop_fits [] (suc k) h = tt
  drop_fits (line ∷ rest) zero h = h
  drop_fits (line ∷ rest) (suc k) h = drop_fits rest k h.1

  behind_fits : (lines : List Line) (k : ℕ) → CodeFits classes n lines → LinesFit classes n (drop (suc k) lines)
  behind_fits [] k h = tt
  behind_fits (line ∷ rest) k h = drop_fits rest k h

operation_fits : (classes : List ClassRec) (os : List Operation) (from i : ℕ) (k : ℕ) → OperationsFit classes from os →
    LinesFit classes (from + i) (drop (suc k) (code_if (slice_get os i)))
operation_fits classes [] from i k h = tt
operation_fits classes (o ∷ os) from zero k h =
    let e : from + 0 ≡ from = omega arith in
    subst (λ n. LinesFit classes n (drop (suc k) o.code)) (sym e) (behind_fits classes from o.code k h.0)
operation_fits classes (o ∷ os) from (suc i) k h =
    let e : from + suc i ≡ suc from + i = omega arith in
    subst (λ n. LinesFit classes n (drop (suc k) (code_if (slice_get os i)))) (sym e) (operation_fits classes os (suc from) i k h.1)

module _ (p : Parts) (fits : OperationsFit p.classes 0 p.operations) (c : Common) (a : CodeActivation) (done : a.pending ≡ false) where
  arrives : ArrivedFits p.classes a.operation (walked p c a).1
  arrives =
      walk_fits p.classes a.operation p.literals a.own (suc a.at) (behind p c a) 0 (machine_behind p c a)
      (let e : 0 + a.operation ≡ a.operation = omega arith in
      subst (λ n. LinesFit p.classes n (behind p c a)) e (operation_fits p.classes p.operations 0 a.operation a.at fits))

  idle : (b : Bool) → (b && a.pending) ≡ false
  idle b = ap (λ x. b && x) done ∙ and_false b

  entry_by : (r : Option Arrived) → ArrivedFits p.classes a.operation r → is_coming code_meaning (rested a r) ≡ false
  entry_by None h = idle (is_entry a.stop)
  entry_by (Some r) h = ap (λ b. b && true) h.no_entry

  and_true : (b : Bool) → (b && true) ≡ true → b ≡ true
  and_true true e = refl
  and_true false e = absurd cc

  ends_by : (r : Option Arrived) → ArrivedFits p.classes a.operation r → is_ending code_meaning (rested a r) ≡ true →
      IsNotCalled p.classes a.operation
  ends_by None h e = absurd (let i = idle (is_end a.stop) in cc)
  ends_by (Some r) h e = h.ends (and_true (is_end r.action) e)

pub code_stops : EachCodeStops
code_stops p fits = record {
  no_entry = λ c a done.
      ap (λ (x : CodeActivation). is_coming code_meaning x) (silent_is p c a)
      ∙ entry_by p fits c a done (walked p c a).1 (arrives p fits c a done);
  ends = λ c a done e.
      ends_by p fits c a done (walked p c a).1 (arrives p fits c a done)
      (sym (ap (λ (x : CodeActivation). is_ending code_meaning x) (silent_is p c a)) ∙ e);
}

-- ---- laws

pub code_keeps : EachRunOfCodeKeeps
code_keeps p n entries = record {
  stacks = stack_is_calls code_meaning (code_silent p) itself (steps p) n p.classes (map kind_of p.constants) entries;
  rest = blocked_rests code_meaning (code_silent p) itself (steps p) n p.classes (map kind_of p.constants) entries;
  monitors = monitor_fits code_meaning (code_silent p) itself (steps p) n p.classes (map kind_of p.constants) entries;
}

pub code_order : EntriesOfCodeKeepOrder
code_order p fits = order_kept code_meaning (code_silent p) p.classes itself (steps p) (code_stops p fits)

pub code_orderly : EachRunOfCodeIsOrderly
code_orderly p fits n entries =
    reached_orderly code_meaning (code_silent p) p.classes itself (steps p) (code_stops p fits) n (map kind_of p.constants) entries
