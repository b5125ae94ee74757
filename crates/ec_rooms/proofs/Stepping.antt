-- Silent steps make no object and have no event.
use Rattle.std.proofs.Common.{ℕ, Bool, true, false, List, Option, Some, None, ◌∙◌}
use Rattle.ec_base.specs.Stack.{top_of, below_of}
use Rattle.ec_cluster.specs.Cluster.{CodeWorld}
use Rattle.ec_code.specs.Activations.{code_meaning, code_silent}
use Rattle.ec_code.specs.declared.activation.CodeActivation.{CodeActivation}
use Rattle.ec_code.specs.declared.code.Parts.{Parts}
use Rattle.ec_acts.proofs.ObjectsLemmas.{length_changed}
use Rattle.ec_code.proofs.Walks.{silent_keeps}
use Rattle.ec_rooms.proofs.Counting.{Stays, stays_same}
use Rattle.ec_rooms.proofs.Staying.{stays_places}
use Rattle.ec_rooms.specs.PlacingLaws.{SilentStepsKeepPlaces}
use Rattle.ec_world.specs.Outcomes.{with_element}
use Rattle.ec_world.specs.World.{GoOn, advanced, go_on, go_on_unless, stack_at}
use Rattle.ec_world.specs.declared.common.Common.{Common}

silent_stays : (p : Parts) (c : Common) (a : CodeActivation) → Stays c (code_silent p c a).0
silent_stays p c a =
    silent_keeps (Stays c) p c a
    (λ m n v k. record {
      nodes = k.nodes;
      events = k.events;
      objects = length_changed m.common.objects (with_element n v) a.own ∙ k.objects;
    })
    (stays_same c)

-- ---- worlds

module _ (p : Parts) (w : CodeWorld) (i : ℕ) (below : List CodeActivation) where
  advanced_stays : (x : Common × CodeActivation) → Stays w.common x.0 →
      Stays w.common (advanced code_meaning (code_silent p) w i below x).common
  advanced_stays (c, a) k = k

  unless_stays : (top : CodeActivation) (pending : Bool) →
      Stays w.common (go_on_unless code_meaning (code_silent p) w i below top pending).common
  unless_stays top true = stays_same w.common
  unless_stays top false = advanced_stays (code_silent p w.common top) (silent_stays p w.common top)

  on_stays : (top : Option CodeActivation) → Stays w.common (go_on code_meaning (code_silent p) w i below top).common
  on_stays None = stays_same w.common
  on_stays (Some top) = unless_stays top top.pending

pub go_on_stays : (p : Parts) (w : CodeWorld) (i : ℕ) → Stays w.common (GoOn code_meaning (code_silent p) w i).common
go_on_stays p w i = on_stays p w i (below_of (stack_at w i)) (top_of (stack_at w i))

pub silent_steps_keep_places : SilentStepsKeepPlaces
silent_steps_keep_places p old new w i same has =
    stays_places old new w (GoOn code_meaning (code_silent p) w i) (go_on_stays p w i) same has
