-- An activation between others of its process has its action done.
use Rattle.std.proofs.Common.{◌≡◌, ℕ, List, ◌∷◌, ◌++◌, Option, Some, sym, ap, ◌∙◌, subst}
use Rattle.std.specs.Prelude.{length, slice_get, slice_set}
use Rattle.ec_activations.specs.Frames.{taker_of}
use Rattle.ec_cluster.specs.Cluster.{CodeWorld, Shows, place}
use Rattle.ec_cluster.specs.Steps.{Changes, WhereIs}
use Rattle.ec_cluster.specs.declared.cluster.Cluster.{Cluster}
use Rattle.ec_cluster.specs.Frames.{HasImages, HasRoomFor, RestsIn, RestsOn, with_stack}
use Rattle.ec_code.specs.Activations.{finished}
use Rattle.ec_code.specs.Typing.{Declared}
use Rattle.ec_code.specs.declared.activation.CodeActivation.{CodeActivation}
use Rattle.ec_node_frames.specs.Finishing.{IsTaken}
use Rattle.ec_world.specs.Things.{activation_at}
use Rattle.ec_acts.proofs.Doing.{taken_string}
use Rattle.ec_acts.proofs.Stacking.{get_at, set_at}
use Rattle.ec_generate.specs.declared.table.StopEntry.{StopEntry}
use Rattle.ec_cluster.specs.SystemSteps.{CanFinish}
use Rattle.ec_cluster.specs.Systems.{Strings}
use Rattle.ec_world.specs.declared.process.Proc.{Proc}
use Rattle.ec_world.specs.declared.process.ProcStatus.{ProcStatus}
use Rattle.ec_world.specs.declared.value.Value.{Value}

-- what the finishing of an activation leaves
abbrev pub ShowsFinished : Cluster → Cluster → ℕ → ℕ → ℕ → Option Value → Type 0
ShowsFinished c c' p depth own given =
    (d : Declared) (w : CodeWorld) (proc : Proc CodeActivation) (a : CodeActivation) (e : StopEntry) (status : ProcStatus) →
    RestsIn d c w p depth proc a e → a.own ≡ own → a.into ≡ taker_of e.result →
    Shows c' (with_stack w p (slice_set proc.activations depth (finished a given)) status)

abbrev pub ChangesFinished : Cluster → Cluster → ℕ → ℕ → ℕ → Option Value → Type 0
ChangesFinished c c' p depth own given =
    (d : Declared) (w : CodeWorld) (proc : Proc CodeActivation) (a : CodeActivation) (e : StopEntry) →
    RestsIn d c w p depth proc a e → a.own ≡ own → Changes (WhereIs c own (IsTaken e.result given)) c c'

module _ (d : Declared) (c : Cluster) (w : CodeWorld) (images : HasImages d c) (shows : Shows c w) (p depth own : ℕ)
    (proc : Proc CodeActivation) (is : slice_get w.processes p ≡ Some proc) (low high : List CodeActivation) (a : CodeActivation)
    (stack : proc.activations ≡ low ++ a ∷ high) (depth_is : depth ≡ length low) (owns : own ≡ a.own) (given : Option Value)
    (can : CanFinish c a given) where
  pub there : slice_get proc.activations depth ≡ Some a
  there =
      ap (λ (xs : List CodeActivation). slice_get xs depth) stack
      ∙ ap (slice_get (low ++ a ∷ high)) depth_is ∙ get_at low high a

  rests_in : RestsIn d c w p depth proc a can.entry
  rests_in = record { images = images; shows = shows; is_proc = is; there = there; rests = can.rests }

  pub can_finish : (e : StopEntry) × RestsOn c p depth own e × HasRoomFor c own e given
  can_finish = (
    can.entry,
    record { declared = d; world = w; proc = proc; activation = a; rests = rests_in; owns = sym owns },
    subst (λ x. HasRoomFor c x can.entry given) (sym owns) can.room,
  )

  module _ (c' : Cluster) where
    pub finished_shown : (status : ProcStatus) → ShowsFinished c c' p depth own given →
        Shows c' (with_stack w p (low ++ finished a given ∷ high) status)
    finished_shown status h =
        let same : slice_set proc.activations depth (finished a given) ≡ low ++ finished a given ∷ high =
        ap (λ (xs : List CodeActivation). slice_set xs depth (finished a given)) stack
        ∙ ap (λ n. slice_set (low ++ a ∷ high) n (finished a given)) depth_is ∙ set_at low high a (finished a given) in
        subst (λ (xs : List CodeActivation). Shows c' (with_stack w p xs status)) same
        (h d w proc a can.entry status rests_in (sym owns) can.waits)

    pub finished_changes : ChangesFinished c c' p depth own given → Changes (WhereIs c own (IsTaken can.entry.result given)) c c'
    finished_changes h = h d w proc a can.entry rests_in (sym owns)

  -- what comes is held by it
  pub finished_string : (w' : CodeWorld) (k : ℕ) (text : List ℕ) → activation_at w'.processes p depth ≡ Some (finished a given) →
      WhereIs c own (IsTaken can.entry.result given) k text → Strings c w' k text
  finished_string w' k text at h =
      taken_string d c images w' k p depth a can.entry text can.rests can.waits given at (ap (place c) (sym owns) ∙ h.0, h.1)
