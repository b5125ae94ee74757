-- From one world of a run to the next.
use Rattle.std.proofs.Common.{◌≡◌, ℕ, zero, suc, ◌+◌, ◌<◌, List, [], ◌∷◌, ◌++◌, length, nat_le, Option, Some, None, below_none}
use Rattle.std.proofs.Common.{below_more, length-append, refl, sym, ap, ◌∙◌, add-one}
use Rattle.ec_world.specs.declared.common.Common.{Common}
use Rattle.ec_world.specs.declared.process.ProcStatus.{ProcStatus}
use Rattle.ec_world.specs.declared.run.Entry.{Entry}
use Rattle.ec_world.specs.declared.run.RunEnd.{RunEnd}
use Rattle.ec_world.specs.declared.run.RunEntry.{RunEntry}
use Rattle.ec_world.specs.declared.world.World.{World}
use Rattle.ec_world.specs.Meaning.{ActivationMeaning}
use Rattle.ec_world.specs.Run.{Reaches, Run, RunState, after_entry, end_by, end_of, expanded, last_of, next_entry, run_after}
use Rattle.ec_world.specs.Run.{statuses_of, stepped, tail_of}
use Rattle.ec_report.specs.Comes.{Comes}
use Rattle.ec_report.specs.Progress.{IsStep, Progress, advanced, at_start}
use Rattle.ec_report.specs.declared.step.Step.TheVariants.{Stops, Does}

module _ {A : Type 0} (M : ActivationMeaning A) (advance : Common → A → Common × A) (w : World A) (schedule : List Entry) where
  pub run_start_is : run_after M advance w schedule 0 ≡ record { world = w; left = expanded schedule; last = None; done = [] }
  unfolding run_after
  run_start_is = refl

  one_more : (k : ℕ) (e : RunEntry) →
      next_entry (run_after M advance w schedule k).left (statuses_of (run_after M advance w schedule k).world)
      (run_after M advance w schedule k).last ≡ Some e →
      run_after M advance w schedule (suc k) ≡ stepped M advance (run_after M advance w schedule k) (Some e)
  unfolding run_after
  one_more k e is = ap (stepped M advance (run_after M advance w schedule k)) is

  module _ (budget : ℕ) where
    -- the first world
    pub comes_first : (v : World A) → v ≡ w → Comes M advance w schedule budget (statuses_of v) (at_start schedule) v
    comes_first v e = record {
      world_is = e ∙ sym (ap (λ (r : RunState A). r.world) run_start_is);
      statuses_are = refl;
      left_is = ap (λ (r : RunState A). r.left) run_start_is;
      last_is = ap (λ (r : RunState A). r.last) run_start_is;
      counted = ap (λ (r : RunState A). length r.done) run_start_is;
      going = below_none (λ j. end_of budget (run_after M advance w schedule j) ≡ None);
    }

    module _ (statuses : List ProcStatus) (progress : Progress) (v : World A)
        (c : Comes M advance w schedule budget statuses progress v) where
      abbrev now : RunState A
      now = run_after M advance w schedule progress.done

      statuses_here : statuses_of now.world ≡ statuses
      statuses_here = ap (λ (x : World A). statuses_of x) (sym c.world_is) ∙ c.statuses_are

      pub end_here : end_of budget now ≡ end_by progress.left statuses (nat_le budget progress.done)
      end_here =
          ap (λ (l : List RunEntry). end_by l (statuses_of now.world) (nat_le budget (length now.done))) c.left_is
          ∙ (ap (λ (j : ℕ). end_by progress.left (statuses_of now.world) (nat_le budget j)) c.counted
          ∙ ap (λ (ss : List ProcStatus). end_by progress.left ss (nat_le budget progress.done)) statuses_here)

      -- the end of the run
      pub run_ends : (how : RunEnd) → IsStep statuses budget progress (Stops how) → Run M advance w schedule budget progress.done now how
      run_ends how step = record { reaches = record { is = refl; going = c.going }; ends = end_here ∙ step }

      module _ (e : RunEntry) (step : IsStep statuses budget progress (Does e)) where
        pub entry_is : next_entry now.left (statuses_of now.world) now.last ≡ Some e
        entry_is =
            ap (λ (l : List RunEntry). next_entry l (statuses_of now.world) now.last) c.left_is
            ∙ (ap (λ (ss : List ProcStatus). next_entry progress.left ss now.last) statuses_here
            ∙ (ap (λ (o : Option ℕ). next_entry progress.left statuses o) c.last_is ∙ step.1))

        pub run_more : run_after M advance w schedule (suc progress.done) ≡ stepped M advance now (Some e)
        run_more = one_more progress.done e entry_is

        world_more : (x : World A) → x ≡ after_entry M advance v e → x ≡ (run_after M advance w schedule (suc progress.done)).world
        world_more x same =
            same ∙ (ap (λ (y : World A). after_entry M advance y e) c.world_is ∙ sym (ap (λ (r : RunState A). r.world) run_more))

        counted_more : length (run_after M advance w schedule (suc progress.done)).done ≡ progress.done + 1
        counted_more =
            ap (λ (r : RunState A). length r.done) run_more
            ∙ (length-append now.done (e ∷ []) ∙ ap (λ (j : ℕ). j + 1) c.counted)

        -- one entry more
        pub comes_next : (x : World A) → x ≡ after_entry M advance v e →
            Comes M advance w schedule budget (statuses_of x) (advanced progress e) x
        comes_next x same = record {
          world_is = rw (add-one progress.done) (world_more x same);
          statuses_are = refl;
          left_is = rw (add-one progress.done) (ap (λ (r : RunState A). r.left) run_more ∙ ap tail_of c.left_is);
          last_is = rw (add-one progress.done) (ap (λ (r : RunState A). r.last) run_more ∙ ap (last_of e) c.last_is);
          counted = rw (add-one progress.done) (counted_more ∙ add-one progress.done);
          going = below_more (λ j. end_of budget (run_after M advance w schedule j) ≡ None) progress.done c.going (end_here ∙ step.0);
        }
