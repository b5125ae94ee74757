-- No turn reads events.
use Rattle.std.proofs.Common.{◌≡◌, ℕ, ◌∙◌, Bool, true, false, List, [], ◌++◌, Option, Some, None, refl, sym, ap, append-nil}
use Rattle.ec_base.specs.Stack.{top_of, below_of}
use Rattle.ec_meaning.specs.Activations.{source_meaning}
use Rattle.ec_meaning.specs.Events.{NoTurnReadsEvents, with_events}
use Rattle.ec_meaning.specs.Meaning.{Reached, items_behind, resting, settle, settled, source_silent, state_behind, whose}
use Rattle.ec_meaning.specs.Programs.{Source}
use Rattle.ec_meaning.specs.Weights.{weight}
use Rattle.ec_meaning.specs.declared.activation.SourceActivation.{SourceActivation}
use Rattle.ec_meaning.specs.declared.state.State.{State}
use Rattle.ec_meaning.proofs.EventsOfStops.{rebased, acted_with, action_adds}
use Rattle.ec_meaning.proofs.EventsOfSteps.{state_with, reached_with, settle_aside}
use Rattle.ec_world.specs.Outcomes.{Acted}
use Rattle.ec_world.specs.Meaning.{ActivationMeaning}
use Rattle.ec_world.specs.World.{Action, GoOn, act_if_pending, act_on, acted, advanced, go_on, go_on_unless, outcome_at}
use Rattle.ec_world.specs.World.{settled as settled_world, given_up, owns_of, stack_at, who_of}
use Rattle.ec_world.specs.declared.common.Common.{Common}
use Rattle.ec_world.specs.declared.doing.Outcome.{Outcome}
use Rattle.ec_world.specs.declared.event.Event.{Event}
use Rattle.ec_world.specs.declared.object.ObjectRec.{ObjectRec}
use Rattle.ec_world.specs.declared.world.World.{World}

-- ---- actions

module _ {A : Type 0} (M : ActivationMeaning A) where
  -- a change of a world adds the same events, whatever happened before it
  abbrev pub AddsAlike : World A → (World A → World A) → Type 0
  AddsAlike w change = (added : List Event) × ((es : List Event) → change (with_events w es) ≡ with_events (change w) (es ++ added))

  adds_nothing : (w : World A) (change : World A → World A) →
      ((es : List Event) → change (with_events w es) ≡ with_events (change w) es) → AddsAlike w change
  adds_nothing w change keeps = ([], λ es. keeps es ∙ ap (with_events (change w)) (sym (append-nil es)))

  module _ (p : ℕ) (below : List A) (top : A) where
    settled_aside : (c : Common) (o : Outcome) (w : World A) (x : List ObjectRec × List ℕ) (es : List Event) →
        settled_world M (with_events w es) p below top (rebased c es) o x ≡ with_events (settled_world M w p below top c o x) es
    settled_aside c o w (objects, freed) es = refl

    -- what the table has for the activation on top of a world's
    acted_by : (o : Acted) (w : World A) (added : List Event) → outcome_at M w p below top ≡ o →
        ((es : List Event) → outcome_at M (with_events w es) p below top ≡ acted_with o (es ++ added)) →
        AddsAlike w (λ v. acted M v p below top (outcome_at M v p below top))
    acted_by None w added is each =
        adds_nothing w (λ v. acted M v p below top (outcome_at M v p below top))
        (λ es. ap (acted M (with_events w es) p below top) (each es)
        ∙ ap (λ (o : Acted). with_events (acted M w p below top o) es) (sym is))
    acted_by (Some (c, o)) w added is each = (
      added,
      λ es. ap (acted M (with_events w es) p below top) (each es)
          ∙ settled_aside c o w (given_up p (owns_of M below top) o.effect c.objects) (es ++ added)
          ∙ ap (λ (o : Acted). with_events (acted M w p below top o) (es ++ added)) (sym is),
    )

    acted_alike : (w : World A) → AddsAlike w (λ v. acted M v p below top (outcome_at M v p below top))
    acted_alike w =
        let adds = action_adds w.common (who_of M p below top) (M.operands top) (M.stop top) in
        acted_by (outcome_at M w p below top) w adds.0 refl adds.1

    if_pending_alike : (b : Bool) (w : World A) → AddsAlike w (λ v. act_if_pending M v p below top b)
    if_pending_alike true w = acted_alike w
    if_pending_alike false w = adds_nothing w (λ v. v) (λ es. refl)

  on_alike : (o : Option A) (w : World A) (p : ℕ) (below : List A) → AddsAlike w (λ v. act_on M v p below o)
  on_alike None w p below = adds_nothing w (λ v. v) (λ es. refl)
  on_alike (Some top) w p below = if_pending_alike p below top (M.is_pending top) w

  action_alike : (w : World A) (p : ℕ) → AddsAlike w (λ v. Action M v p)
  action_alike w p = on_alike (top_of (stack_at w p)) w p (below_of (stack_at w p))

-- ---- the code behind a stop

module _ (s : Source) where
  abbrev silent_with : List Event → Common × SourceActivation → Common × SourceActivation
  silent_with es x = (rebased x.0 es, x.1)

  resting_aside : (x : Common × Option Reached) (es : List Event) (a : SourceActivation) →
      resting a (reached_with es x) ≡ silent_with es (resting a x)
  resting_aside (c, r) es a = refl

  behind_aside : (b : Bool) (es : List Event) (c : Common) (a : SourceActivation) →
      state_behind s (rebased c es) a b ≡ state_with es (state_behind s c a b)
  behind_aside true es c a = refl
  behind_aside false es c a = refl

  silent_aside : (es : List Event) (c : Common) (a : SourceActivation) →
      source_silent s (rebased c es) a ≡ silent_with es (source_silent s c a)
  silent_aside es c a =
      let items = items_behind s a a.at_entry in
      let st = state_behind s c a a.at_entry in
      ap (λ (z : State). settled s a z items) (behind_aside a.at_entry es c a)
      ∙ ap (resting a) (settle_aside es s (whose a) (weight items) st items)
      ∙ resting_aside (settle s (whose a) (weight items) st items) es a

  module _ (es : List Event) (w : World SourceActivation) (p : ℕ) (below : List SourceActivation) where
    advanced_aside : (x : Common × SourceActivation) →
        advanced source_meaning (source_silent s) (with_events w es) p below (silent_with es x)
        ≡ with_events (advanced source_meaning (source_silent s) w p below x) es
    advanced_aside (c, a) = refl

    unless_aside : (b : Bool) (a : SourceActivation) →
        go_on_unless source_meaning (source_silent s) (with_events w es) p below a b
        ≡ with_events (go_on_unless source_meaning (source_silent s) w p below a b) es
    unless_aside true a = refl
    unless_aside false a =
        ap (advanced source_meaning (source_silent s) (with_events w es) p below) (silent_aside es w.common a)
        ∙ advanced_aside (source_silent s w.common a)

    on_aside : (o : Option SourceActivation) →
        go_on source_meaning (source_silent s) (with_events w es) p below o
        ≡ with_events (go_on source_meaning (source_silent s) w p below o) es
    on_aside None = refl
    on_aside (Some a) = unless_aside a.pending a

  goes_aside : (es : List Event) (w : World SourceActivation) (p : ℕ) →
      GoOn source_meaning (source_silent s) (with_events w es) p ≡ with_events (GoOn source_meaning (source_silent s) w p) es
  goes_aside es w p = on_aside es w p (below_of (stack_at w p)) (top_of (stack_at w p))

-- ---- a turn

pub no_turn_reads_events : NoTurnReadsEvents
no_turn_reads_events s w p =
    let acts = action_alike source_meaning w p in
    record {
      added = acts.0;
      same = λ es.
          ap (λ v. GoOn source_meaning (source_silent s) v p) (acts.1 es)
          ∙ goes_aside s (es ++ acts.0) (Action source_meaning w p) p;
    }
