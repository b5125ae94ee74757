use Rattle.ec_target.specs.Runs.{Leads}
use Rattle.ec_target.proofs.machine.Machine.run_to_stop.Given as goal

abbrev pub invariant-loop-steps : goal.invariant-loop-steps
invariant-loop-steps g l = record {
  leads : Leads (g.Self.Machine.goes l.code) l.fn.self (g.M.Memory.byte_at l.fn.memory) l.steps l.self (g.M.Memory.byte_at l.memory);
  rest : g.M.Memory.alike l.fn.memory l.memory;
}
