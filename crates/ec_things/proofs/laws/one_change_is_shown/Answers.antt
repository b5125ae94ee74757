-- One thing has changed.
use Rattle.ec_things.proofs.World.{put_one}
use Rattle.ec_things.proofs.laws.one_change_is_shown.Goals as goal

pub returns : goal.returns
returns c = λ nodes nodes' k s s' things things' globals held held' place key now shows n puts t old_at new_at sums.
    put_one nodes nodes' k s s' things things' globals held held' place key now shows n puts t old_at new_at sums
