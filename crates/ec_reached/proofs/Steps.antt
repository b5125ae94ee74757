-- What holds after an action, silent steps, a move by the operator, and so after entries, where it does in each of their cases.
use Rattle.std.proofs.Common.{◌≡◌, ◌∙◌, ◌∷◌, ◌++◌, ℕ, true, false, Bool, [], List, Option, Some, None, refl, sym, ap}
use Rattle.std.specs.Prelude.{slice_get}
use Rattle.ec_base.proofs.Stacks.{stack_parts}
use Rattle.ec_base.specs.Stack.{below_of, top_of}
use Rattle.ec_world.proofs.Processes.{is_ready}
use Rattle.ec_world.specs.declared.common.Common.{Common}
use Rattle.ec_world.specs.declared.doing.Doing.{Doing}
use Rattle.ec_world.specs.declared.doing.Outcome.{Outcome}
use Rattle.ec_world.specs.declared.event.Event.{Event}
use Rattle.ec_world.specs.declared.object.ObjectRec.{ObjectRec}
use Rattle.ec_world.specs.declared.process.Proc.{Proc}
use Rattle.ec_world.specs.declared.process.ProcStatus.TheVariants.{Ready}
use Rattle.ec_world.specs.declared.run.RunEntry.{RunEntry}
use Rattle.ec_world.specs.declared.run.RunEntry.TheVariants.{TurnOf, MoveOf}
use Rattle.ec_world.specs.declared.world.World.{World}
use Rattle.ec_world.specs.Doings.{Asked, doing_of}
use Rattle.ec_world.specs.Follows.{IsKept}
use Rattle.ec_world.specs.Meaning.{ActivationMeaning}
use Rattle.ec_world.specs.Moves.{OperatorMove, is_idle_move, moved_unless}
use Rattle.ec_world.specs.Outcomes.{Done, acted_if, done}
use Rattle.ec_world.specs.Run.{after_entries, after_entry}
use Rattle.ec_world.specs.Sights.{sight_of}
use Rattle.ec_world.specs.World.{Action, GoOn, act_if_pending, act_on, acted, advanced, given_up, go_on, go_on_unless, owns_of, ready_stack}
use Rattle.ec_world.specs.World.{settled, stack_at, stack_if_ready, who_of}

module _ {A : Type 0} (M : ActivationMeaning A) where
  -- the action of a process that is to be done, and for which the table has a case
  pub record Acting (w : World A) (p : ℕ) : Type 0 where
    pub top : A
    pub is_top : top_of (stack_at w p) ≡ Some top
    pub pending : M.is_pending top ≡ true
    pub doing : Doing
    pub asks : doing_of (sight_of w.common) (who_of M p (below_of (stack_at w p)) top) (M.stop top) (M.operands top) ≡ Some doing

  module _ (w : World A) (p : ℕ) (Holds : World A → Type 0) (now : Holds w) where
    abbrev lower : List A
    lower = below_of (stack_at w p)

    -- it holds once an action is done
    abbrev pub HoldsSettled : Type 0
    HoldsSettled =
        (a : Acting w p) (d : Common) (o : Outcome) → done w.common (who_of M p (below_of (stack_at w p)) a.top) a.doing ≡ (d, o) →
        (g : List ObjectRec × List ℕ) → given_up p (owns_of M (below_of (stack_at w p)) a.top) o.effect d.objects ≡ g →
        Holds (settled M w p (below_of (stack_at w p)) a.top d o g)

    module _ (settles : HoldsSettled) where
      done_holds : (a : Acting w p) (x : Done) → done w.common (who_of M p lower a.top) a.doing ≡ x →
          Holds (acted M w p lower a.top (Some x))
      done_holds a (d, o) e = settles a d o e (given_up p (owns_of M lower a.top) o.effect d.objects) refl

      asked_holds : (top : A) → top_of (stack_at w p) ≡ Some top → M.is_pending top ≡ true → (asked : Asked) →
          doing_of (sight_of w.common) (who_of M p lower top) (M.stop top) (M.operands top) ≡ asked →
          Holds (acted M w p lower top (acted_if w.common (who_of M p lower top) asked))
      asked_holds top is pending None e = now
      asked_holds top is pending (Some doing) e =
          done_holds (record { top = top; is_top = is; pending = pending; doing = doing; asks = e })
          (done w.common (who_of M p lower top) doing) refl

      pending_holds : (top : A) → top_of (stack_at w p) ≡ Some top → (b : Bool) → M.is_pending top ≡ b →
          Holds (act_if_pending M w p lower top b)
      pending_holds top is true e =
          asked_holds top is e (doing_of (sight_of w.common) (who_of M p lower top) (M.stop top) (M.operands top)) refl
      pending_holds top is false e = now

      act_holds : (t : Option A) → top_of (stack_at w p) ≡ t → Holds (act_on M w p lower t)
      act_holds None e = now
      act_holds (Some top) e = pending_holds top e (M.is_pending top) refl

      pub by_action : Holds (Action M w p)
      by_action = act_holds (top_of (stack_at w p)) refl

    module _ (advance : Common → A → Common × A) where
      -- it holds once silent steps are done
      abbrev pub HoldsAdvanced : Type 0
      HoldsAdvanced =
          (top : A) → top_of (stack_at w p) ≡ Some top → M.is_pending top ≡ false → (x : Common × A) → advance w.common top ≡ x →
          Holds (advanced M advance w p (below_of (stack_at w p)) x)

      module _ (goes : HoldsAdvanced) where
        unless_holds : (top : A) → top_of (stack_at w p) ≡ Some top → (b : Bool) → M.is_pending top ≡ b →
            Holds (go_on_unless M advance w p lower top b)
        unless_holds top is true e = now
        unless_holds top is false e = goes top is e (advance w.common top) refl

        go_holds : (t : Option A) → top_of (stack_at w p) ≡ t → Holds (go_on M advance w p lower t)
        go_holds None e = now
        go_holds (Some top) e = unless_holds top e (M.is_pending top) refl

        pub by_silent : Holds (GoOn M advance w p)
        by_silent = go_holds (top_of (stack_at w p)) refl

  -- ---- moves by the operator

  module _ (w : World A) (Holds : World A → Type 0) (now : Holds w)
      (told : (events : List Event) → Holds (record w { common = record w.common { events = events } })) where
    moved_holds : (o k : ℕ) (b : Bool) → Holds (record w { common = moved_unless w.common o k b })
    moved_holds o k true = now
    moved_holds o k false = told _

    pub by_move : (o k : ℕ) → Holds (OperatorMove w o k)
    by_move o k = moved_holds o k (is_idle_move w.common o k)

  -- ---- entries

  module _ (advance : Common → A → Common × A) (Holds : World A → Type 0) (kept : IsKept M advance Holds) where
    entry_holds : (w : World A) (e : RunEntry) → Holds w → Holds (after_entry M advance w e)
    entry_holds w (TurnOf p) h = kept.goes (Action M w p) p (kept.acts w p h)
    entry_holds w (MoveOf o k) h = kept.moves w o k h

    pub by_entries : (w : World A) (es : List RunEntry) → Holds w → Holds (after_entries M advance w es)
    by_entries w [] h = h
    by_entries w (e ∷ es) h = by_entries (after_entry M advance w e) es (entry_holds w e h)

module _ {A : Type 0} where
  -- a process that is Ready, with the activation on top
  pub record IsThere (w : World A) (p : ℕ) (top : A) : Type 0 where
    pub proc : Proc A
    pub there : slice_get w.processes p ≡ Some proc
    pub ready : proc.status ≡ Ready
    pub all : proc.activations ≡ below_of (stack_at w p) ++ top ∷ []

  pub is_there : (w : World A) (p : ℕ) (top : A) → top_of (stack_at w p) ≡ Some top → IsThere w p top
  is_there w p top e =
      let r = is_ready w p top e in
      let s : stack_at w p ≡ r.proc.activations =
      ap ready_stack r.there ∙ ap (λ t. stack_if_ready t r.proc.activations) r.is in
      record { proc = r.proc; there = r.there; ready = r.is; all = sym s ∙ stack_parts (stack_at w p) top e }
