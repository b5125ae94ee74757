-- No silent step of a source moves anything.
use Rattle.std.proofs.Common.{ℕ, zero, suc, Bool, true, false, List, [], ◌∷◌, ◌++◌, Option}
use Rattle.ec_meaning.specs.Activations.{source_meaning}
use Rattle.ec_meaning.specs.Meaning.{Reached, behind_loop, items_behind, resting, settle, settle_by, source_silent, state_behind, whose}
use Rattle.ec_meaning.specs.Programs.{Source, classes_of, globals_of}
use Rattle.ec_meaning.specs.Steps.{Step, Goes, Rests, Breaks, Returns, NoCase, step}
use Rattle.ec_meaning.specs.Weights.{weight}
use Rattle.ec_meaning.specs.declared.activation.SourceActivation.{SourceActivation}
use Rattle.ec_meaning.specs.declared.item.Item.{Item}
use Rattle.ec_meaning.specs.declared.item.Item.TheVariants as i
use Rattle.ec_meaning.specs.declared.state.State.{State}
use Rattle.ec_meaning.specs.declared.state.Whose.{Whose}
use Rattle.ec_moving.proofs.Silent.{InPlace, in_place, stored_in_place}
use Rattle.ec_moving.proofs.SourceSteps.{Keeps, StoresKeep, step_keeps}
use Rattle.ec_moving.proofs.Worlds.{nodes_stay}
use Rattle.ec_moving.specs.Source.{NodesStayInSourceRuns, SourceKeepsPlaces}
use Rattle.ec_world.specs.declared.common.Common.{Common}

-- ---- up to the next stop

module _ (Kept : Common → Type 0) (s : Source) where
  module _ (a : Whose) (stores : StoresKeep Kept a.own) where
    settle_by_keeps : (z : Step) (next : State → List Item → Common × Option Reached) (st : State) (rest : List Item) → Kept st.common →
        Keeps Kept z → ((new : State) (items : List Item) → Kept new.common → Kept (next new items).0) →
        Kept (settle_by s a next st rest z).0
    settle_by_keeps (Goes new more) next st rest h k further = further new (more ++ rest) k
    settle_by_keeps (Rests action operands new more) next st rest h k further = k
    settle_by_keeps (Breaks new) next st rest h k further = further new (behind_loop rest) k
    settle_by_keeps (Returns new) next st rest h k further = further new (i.Leave ∷ []) k
    settle_by_keeps NoCase next st rest h k further = h

    settle_keeps : (n : ℕ) (st : State) (items : List Item) → Kept st.common → Kept (settle s a n st items).0
    settle_keeps zero st items h = h
    settle_keeps (suc n) st [] h = h
    settle_keeps (suc n) st (x ∷ rest) h =
        settle_by_keeps (step s a st x) (settle s a n) st rest h (step_keeps Kept s a stores st x h) (settle_keeps n)

  resting_keeps : (a : SourceActivation) (x : Common × Option Reached) → Kept x.0 → Kept (resting a x).0
  resting_keeps a (c, r) h = h

  behind_keeps : (c : Common) (a : SourceActivation) (at_entry : Bool) → Kept c → Kept (state_behind s c a at_entry).common
  behind_keeps c a true h = h
  behind_keeps c a false h = h

  silent_keeps : (c : Common) (a : SourceActivation) → StoresKeep Kept a.own → Kept c → Kept (source_silent s c a).0
  silent_keeps c a stores h =
      let items = items_behind s a a.at_entry in
      let st = state_behind s c a a.at_entry in
      resting_keeps a (settle s (whose a) (weight items) st items)
      (settle_keeps (whose a) stores (weight items) st items (behind_keeps c a a.at_entry h))

-- ---- places

source_in_place : (s : Source) (c : Common) (a : SourceActivation) → InPlace c (source_silent s c a).0
source_in_place s c a = silent_keeps (InPlace c) s c a (λ d n v h. stored_in_place c d a.own n v h) (in_place c)

pub source_keeps_places : SourceKeepsPlaces
source_keeps_places s = record {
  nodes = λ c a. (source_in_place s c a).nodes;
  events = λ c a. (source_in_place s c a).events;
  count = λ c a. (source_in_place s c a).count;
  classes = λ c a x. (source_in_place s c a).classes x;
  flags = λ c a x. (source_in_place s c a).flags x;
}

pub nodes_stay_in_source_runs : NodesStayInSourceRuns
nodes_stay_in_source_runs s n entries =
    nodes_stay source_meaning (source_silent s) (source_keeps_places s) n (classes_of s) (globals_of s) entries
