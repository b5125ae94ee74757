use Rattle.std.proofs.Common.{length, ap, arith}
use Rattle.ec_monitors.proofs.monitor.Monitor.enter.Goals as goal

pub invariant_of-self : goal.invariant_of-self
invariant_of-self c =
    let i = c.self.invariant in
    let m = c.make_room.ensures in
    record {
      fits = omega (arith, i.fits, ap length m.entry.0, ap length m.urgent.0, m.conditions.1);
      of_entry = omega (arith, i.of_entry, m.entry.1);
      of_urgent = omega (arith, i.of_urgent, m.urgent.1);
      of_conditions = m.more _ i.of_conditions;
    }

pub invariant_of-self-in_err-self-inside-2 : goal.invariant_of-self-in_err-self-inside-2
invariant_of-self-in_err-self-inside-2 c =
    let i = c.self.invariant in
    let m = c.make_room-2.ensures in
    record {
      fits = omega (arith, i.fits, ap length m.entry.0, ap length m.urgent.0, m.conditions.1);
      of_entry = omega (arith, i.of_entry, m.entry.1);
      of_urgent = omega (arith, i.of_urgent, m.urgent.1);
      of_conditions = m.more _ i.of_conditions;
    }
