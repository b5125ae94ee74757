use Rattle.ec_monitors.proofs.Granting.{first_granted, none_granted}
use Rattle.ec_monitors.proofs.monitor.Monitor.release.Goals as goal

pub returns-in-Some-take_first : goal.returns-in-Some-take_first
returns-in-Some-take_first c =
    first_granted c.args.self.now _ _ _ _ _ c.self.view_is c.in-None.ensures.top c.in-None.ensures.below _ _
    c.in-Some-take_first.ensures.some

pub returns-in-None-take_first : goal.returns-in-None-take_first
returns-in-None-take_first c =
    none_granted c.args.self.now _ _ _ _ _ c.self.view_is c.in-None.ensures.top c.in-None.ensures.below _
    c.in-None-take_first.ensures.none c.in-None-take_first.ensures.none_new
