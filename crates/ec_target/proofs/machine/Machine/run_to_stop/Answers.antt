use Rattle.std.proofs.Common.{◌≡◌, sym, subst, arith}
use Rattle.ec_target.specs.Runs.{Leads}
use Rattle.ec_target.proofs.Running.{leads_none, leads_more, same_end, not_on}
use Rattle.ec_target.proofs.machine.Machine.run_to_stop.Goals as goal

pub loop-steps-init : goal.loop-steps-init
loop-steps-init g c =
    record {
      leads = leads_none (g.Self.Machine.goes c.args.code.now) c.args.self.now (g.M.Memory.byte_at c.args.memory.now);
      rest =
          g.met.M.Memory.alike_same c.args.memory.now;
    }

pub returns-in-Stop-clause-ok : goal.returns-in-Stop-clause-ok
returns-in-Stop-clause-ok g c =
    let a = c.in-Stop.ensures.answer in
    let goes = g.Self.Machine.goes c.args.code.now in
    let stops = g.Self.Machine.stops c.args.code.now in
    let at = g.M.Memory.byte_at in (
      same_end goes c.args.self.now (at c.args.memory.now) c.loop-steps.steps c.loop-steps.self (at c.loop-steps.memory)
          c.step.new.self (at c.step.new.memory) a.1 a.2 c.loop-steps.invariant.leads,
      subst (λ x. stops x (at c.step.new.memory)) (sym a.1) (subst (λ y. stops c.loop-steps.self y) (sym a.2) a.0),
    )

pub returns-in-Stop-clause-rest : goal.returns-in-Stop-clause-rest
returns-in-Stop-clause-rest g c =
    g.met.M.Memory.alike_on c.args.memory.now c.loop-steps.memory c.step.new.memory c.loop-steps.invariant.rest c.step.ensures.rest

pub returns-in-Trap-clause-err : goal.returns-in-Trap-clause-err
returns-in-Trap-clause-err g c =
    let a = c.in-Trap.ensures.answer in
    let goes = g.Self.Machine.goes c.args.code.now in
    let traps = g.Self.Machine.traps c.args.code.now in
    let at = g.M.Memory.byte_at in (
      c.loop-steps.steps,
      same_end goes c.args.self.now (at c.args.memory.now) c.loop-steps.steps c.loop-steps.self (at c.loop-steps.memory)
          c.step.new.self (at c.step.new.memory) a.1 a.2 c.loop-steps.invariant.leads,
      subst (λ x. traps x (at c.step.new.memory) c.in-Trap.trap) (sym a.1)
          (subst (λ y. traps c.loop-steps.self y c.in-Trap.trap) (sym a.2) a.0),
    )

pub returns-in-Trap-clause-rest : goal.returns-in-Trap-clause-rest
returns-in-Trap-clause-rest g c =
    g.met.M.Memory.alike_on c.args.memory.now c.loop-steps.memory c.step.new.memory c.loop-steps.invariant.rest c.step.ensures.rest

pub loop-steps-preserved : goal.loop-steps-preserved
loop-steps-preserved g c =
    let at = g.M.Memory.byte_at in
    record {
      leads = leads_more (g.Self.Machine.goes c.args.code.now) c.args.self.now (at c.args.memory.now) c.loop-steps.steps
          c.loop-steps.self (at c.loop-steps.memory) c.step.new.self (at c.step.new.memory) c.loop-steps.invariant.leads
          c.in-Went.ensures.answer;
      rest = g.met.M.Memory.alike_on c.args.memory.now c.loop-steps.memory c.step.new.memory c.loop-steps.invariant.rest
          c.step.ensures.rest;
    }

pub unreachable-requires : goal.unreachable-requires
unreachable-requires g c =
    let at = g.M.Memory.byte_at in
    not_on (g.Self.Machine.goes c.args.code.now) (g.met.Self.Machine.one_way c.args.code.now) c.args.self.now (at c.args.memory.now)
    c.loop-steps.steps c.loop-steps.self (at c.loop-steps.memory) c.step-2.new.self (at c.step-2.new.memory) c.requires
    c.loop-steps.invariant.leads c.loop-steps-test.false c.in-Went-step.ensures.answer

pub returns-in-Stop-step-clause-ok : goal.returns-in-Stop-step-clause-ok
returns-in-Stop-step-clause-ok g c =
    let a = c.in-Stop-step.ensures.answer in
    let goes = g.Self.Machine.goes c.args.code.now in
    let stops = g.Self.Machine.stops c.args.code.now in
    let at = g.M.Memory.byte_at in
    let all : c.loop-steps.steps ≡ 18446744073709551615 = omega arith in (
      subst (λ n. Leads goes c.args.self.now (at c.args.memory.now) n c.step-2.new.self (at c.step-2.new.memory)) all
          (same_end goes c.args.self.now (at c.args.memory.now) c.loop-steps.steps c.loop-steps.self (at c.loop-steps.memory)
          c.step-2.new.self (at c.step-2.new.memory) a.1 a.2 c.loop-steps.invariant.leads),
      subst (λ x. stops x (at c.step-2.new.memory)) (sym a.1) (subst (λ y. stops c.loop-steps.self y) (sym a.2) a.0),
    )
