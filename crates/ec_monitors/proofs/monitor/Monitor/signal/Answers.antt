use Rattle.std.proofs.Common.{arith}
use Rattle.ec_monitors.proofs.Queues.{signal_fits, none_fits}
use Rattle.ec_monitors.proofs.monitor.Monitor.signal.Goals as goal

pub invariant_of-self : goal.invariant_of-self
invariant_of-self c =
    let i = c.self.invariant in
    record {
      fits = signal_fits c.self.inside.room c.self.inside.holder c.in-Some.held c.in-Some-first_at.next c.self.inside.entry.items
          c.self.inside.urgent.items c.push_within.new.items.items c.self.inside.conditions.items c.first_at.new.queues.items
          c.in-Some.is c.push_within.ensures.items c.in-Some-first_at.ensures.count i.fits;
      of_entry = i.of_entry;
      of_urgent = omega (arith, i.of_urgent, c.push_within.ensures.room);
      of_conditions = c.in-Some-first_at.ensures.room _ i.of_conditions;
    }

pub invariant_of-self-in_default-first_at : goal.invariant_of-self-in_default-first_at
invariant_of-self-in_default-first_at c =
    let i = c.self.invariant in
    record {
      fits = none_fits c.self.inside.room c.self.inside.holder c.self.inside.entry.items c.self.inside.urgent.items
          c.self.inside.conditions.items c.first_at.new.queues.items c.in_default-first_at.ensures.count i.fits;
      of_entry =
          i.of_entry;
      of_urgent = i.of_urgent;
      of_conditions = c.in_default-first_at.ensures.room _ i.of_conditions;
    }
