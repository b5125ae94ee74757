-- The worlds to which a run comes, over any meaning of activations.
use Rattle.std.specs.Prelude.{◌≡◌, ℕ, ◌<◌, List, length, Option, None}
use Rattle.ec_world.specs.declared.common.Common.{Common}
use Rattle.ec_world.specs.declared.process.ProcStatus.{ProcStatus}
use Rattle.ec_world.specs.declared.run.Entry.{Entry}
use Rattle.ec_world.specs.declared.world.World.{World}
use Rattle.ec_world.specs.Meaning.{ActivationMeaning}
use Rattle.ec_world.specs.Run.{end_of, run_after, statuses_of}
use Rattle.ec_report.specs.Progress.{Progress}

-- The run from a world along a schedule comes to world v, where the processes have these statuses, with this progress;
-- within a budget of entries it has not ended before.
pub record Comes {A : Type 0} (M : ActivationMeaning A) (advance : Common → A → Common × A) (w : World A) (schedule : List Entry)
    (budget : ℕ) (statuses : List ProcStatus) (progress : Progress) (v : World A) : Type 0 where
  pub world_is : v ≡ (run_after M advance w schedule progress.done).world
  pub statuses_are : statuses_of v ≡ statuses
  pub left_is : (run_after M advance w schedule progress.done).left ≡ progress.left
  pub last_is : (run_after M advance w schedule progress.done).last ≡ progress.last
  pub counted : length (run_after M advance w schedule progress.done).done ≡ progress.done
  pub going : (j : ℕ) → j < progress.done → end_of budget (run_after M advance w schedule j) ≡ None
