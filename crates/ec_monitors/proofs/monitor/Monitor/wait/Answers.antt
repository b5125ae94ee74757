use Rattle.ec_monitors.proofs.Queues.{wait_room, wait_fits}
use Rattle.ec_monitors.proofs.monitor.Monitor.wait.Goals as goal

pub push_at-requires-clause-room : goal.push_at-requires-clause-room
push_at-requires-clause-room c =
    let i = c.self.invariant in (
      c.self.inside.room,
      wait_room c.self.inside.room c.self.inside.holder c.in-Some.held c.self.inside.entry.items
          c.self.inside.urgent.items c.self.inside.conditions.items c.in-Some.is i.fits,
      i.of_conditions,
    )

pub invariant_of-self : goal.invariant_of-self
invariant_of-self c =
    let i = c.self.invariant in
    record {
      fits = wait_fits c.self.inside.room c.self.inside.holder c.in-Some.held c.self.inside.entry.items c.self.inside.urgent.items
          c.self.inside.conditions.items c.push_at.new.queues.items c.in-Some.is c.push_at.ensures.count i.fits;
      of_entry = i.of_entry;
      of_urgent = i.of_urgent;
      of_conditions = c.push_at.ensures.room _ i.of_conditions;
    }
