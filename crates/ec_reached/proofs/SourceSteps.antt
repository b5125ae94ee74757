-- Reached worlds of a source.
use Rattle.std.proofs.Common.{◌≡◌, ◌∙◌, ℕ, zero, suc, Bool, true, false, List, [], ◌∷◌, ◌++◌, Option, Some, None, refl, ap}
use Rattle.ec_meaning.specs.Activations.{finished, source_meaning}
use Rattle.ec_meaning.specs.Meaning.{Reached, behind_loop, items_behind, rested, resting, settle, settle_by, source_silent, state_behind, whose}
use Rattle.ec_meaning.specs.Programs.{Source, classes_of, globals_of}
use Rattle.ec_meaning.specs.Steps.{Step, Goes, Rests, Breaks, Returns, NoCase, step}
use Rattle.ec_meaning.specs.Weights.{weight}
use Rattle.ec_meaning.specs.declared.activation.SourceActivation.{SourceActivation}
use Rattle.ec_meaning.specs.declared.item.Item.{Item}
use Rattle.ec_meaning.specs.declared.item.Item.TheVariants as i
use Rattle.ec_meaning.specs.declared.state.State.{State}
use Rattle.ec_moving.proofs.SourceSteps.{Keeps, step_keeps}
use Rattle.ec_world.specs.declared.common.Common.{Common}
use Rattle.ec_world.specs.declared.value.Value.{Value}
use Rattle.ec_reached.proofs.CodeSteps.{Left, itself_left, stored_left}
use Rattle.ec_reached.proofs.Order.{blocked_rests, monitor_fits, stack_is_calls}
use Rattle.ec_reached.specs.Meant.{IsDone, StaysItself, StepsStay}
use Rattle.ec_reached.specs.Source.{EachRunOfASourceKeeps, EachSourceStays}

-- ---- activations

finished_done : (a : SourceActivation) (given : Option Value) → IsDone source_meaning a (finished a given)
finished_done a None = record { operation = refl; own = refl; stop = refl; operands = refl; done = refl }
finished_done a (Some v) = record { operation = refl; own = refl; stop = refl; operands = refl; done = refl }

itself : StaysItself source_meaning
itself = record {
  begun = λ op own args. record { operation = refl; own = refl; stop = refl; pending = refl };
  finished = finished_done;
}

rested_operation : (a : SourceActivation) (r : Option Reached) → (rested a r).operation ≡ a.operation
rested_operation a None = refl
rested_operation a (Some r) = refl

rested_own : (a : SourceActivation) (r : Option Reached) → (rested a r).own ≡ a.own
rested_own a None = refl
rested_own a (Some r) = refl

resting_is : (a : SourceActivation) (x : Common × Option Reached) → (resting a x).1 ≡ rested a x.1
resting_is a (c, r) = refl

-- ---- up to the next stop

module _ (s : Source) (c : Common) (a : SourceActivation) where
  step_by : (z : Step) (next : State → List Item → Common × Option Reached) (st : State) (rest : List Item) → Left c st.common →
      Keeps (Left c) z → ((new : State) (items : List Item) → Left c new.common → Left c (next new items).0) →
      Left c (settle_by s (whose a) next st rest z).0
  step_by (Goes new more) next st rest h k further = further new (more ++ rest) k
  step_by (Rests action operands new more) next st rest h k further = k
  step_by (Breaks new) next st rest h k further = further new (behind_loop rest) k
  step_by (Returns new) next st rest h k further = further new (i.Leave ∷ []) k
  step_by NoCase next st rest h k further = h

  settled : (n : ℕ) (st : State) (items : List Item) → Left c st.common → Left c (settle s (whose a) n st items).0
  settled zero st items h = h
  settled (suc n) st [] h = h
  settled (suc n) st (x ∷ rest) h =
      step_by (step s (whose a) st x) (settle s (whose a) n) st rest h
      (step_keeps (Left c) s (whose a) (λ d n v k. stored_left c d a.own n v k) st x h) (settled n)

  begun : (at_entry : Bool) → Left c (state_behind s c a at_entry).common
  begun true = itself_left c
  begun false = itself_left c

  abbrev reached : Common × Option Reached
  reached =
      settle s (whose a) (weight (items_behind s a a.at_entry)) (state_behind s c a a.at_entry) (items_behind s a a.at_entry)

  resting_left : (x : Common × Option Reached) → Left c x.0 → Left c (resting a x).0
  resting_left (d, r) h = h

  left : Left c (source_silent s c a).0
  left =
      resting_left reached
      (settled (weight (items_behind s a a.at_entry)) (state_behind s c a a.at_entry) (items_behind s a a.at_entry) (begun a.at_entry))

steps : (s : Source) → StepsStay source_meaning (source_silent s)
steps s = record {
  operation = λ c a. ap (λ (x : SourceActivation). x.operation) (resting_is a (reached s c a)) ∙ rested_operation a (reached s c a).1;
  own = λ c a. ap (λ (x : SourceActivation). x.own) (resting_is a (reached s c a)) ∙ rested_own a (reached s c a).1;
  nodes = λ c a. (left s c a).nodes;
  classes = λ c a. (left s c a).classes;
  objects = λ c a o. (left s c a).objects o;
  monitors = λ c a o. (left s c a).monitors o;
}

-- ---- laws

pub source_stays : EachSourceStays
source_stays s = record { itself = itself; steps = steps s }

pub source_keeps : EachRunOfASourceKeeps
source_keeps s n entries = record {
  stacks = stack_is_calls source_meaning (source_silent s) itself (steps s) n (classes_of s) (globals_of s) entries;
  rest = blocked_rests source_meaning (source_silent s) itself (steps s) n (classes_of s) (globals_of s) entries;
  monitors = monitor_fits source_meaning (source_silent s) itself (steps s) n (classes_of s) (globals_of s) entries;
}
