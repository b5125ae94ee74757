use Rattle.std.proofs.Common.{ℕ, ◌≤◌, List, sym, ◌∙◌, subst, arith}
use Rattle.ec_machine_code.specs.Machine.{MachineMeaning}
use Rattle.ec_legs.specs.Kinds.{AreHomeRegisters}
use Rattle.ec_legs.specs.Machines.{IsUntouched}
use Rattle.ec_legs.proofs.GoingLemmas.{comes_to_stop, frame_here, halts_here, leg_here, names_object, names_stop, no_trap_here}
use Rattle.ec_legs.proofs.legs.go_on.Goals as goal
use Rattle.ec_world.specs.declared.key.Key.TheVariants.{Frame}
use Rattle.ec_stores.specs.Node.{KeepsBytes, bytes_in, store_of}
use Rattle.ec_target.specs.Runs.{Halts, Leads, Native}

few_homes : {S : Type 0} (M : MachineMeaning S) (registers frame own first homes : ℕ) →
    AreHomeRegisters M registers frame own first homes → M.homes ≤ 20
few_homes M registers frame own first homes are = let same = are.homes_are in let few = are.few in omega arith

pub go_behind_stop-requires-clause-frame : goal.go_behind_stop-requires-clause-frame
go_behind_stop-requires-clause-frame g c =
    let can = c.requires in
    frame_here g.N.NativeKind.meaning c.args.code.now c.args.table.now (store_of c.args.node.now) c.args.process c.args.depth
    can.declared can.program can.homes can.common can.activation can.own can.is_code can.can_step can.shows

pub go_behind_stop-requires-clause-stop : goal.go_behind_stop-requires-clause-stop
go_behind_stop-requires-clause-stop g c =
    let can = c.requires in
    names_stop g.N.NativeKind.meaning c.args.code.now c.args.table.now (store_of c.args.node.now) c.args.process c.args.depth
    can.declared can.program can.homes can.common can.activation can.own can.is_code can.can_step can.shows

pub go_behind_stop-requires-clause-object : goal.go_behind_stop-requires-clause-object
go_behind_stop-requires-clause-object g c =
    let can = c.requires in
    names_object g.N.NativeKind.meaning c.args.code.now c.args.table.now (store_of c.args.node.now) c.args.process c.args.depth
    can.declared can.program can.homes can.common can.activation can.own can.is_code can.can_step can.shows

pub run-requires : goal.run-requires
run-requires g c =
    let can = c.requires in
    let u = c.go_behind_stop.new.machine in
    subst (λ (words : List ℕ). Halts (g.M.Machine.goes words) u (bytes_in c.args.node.now)) (sym c.as_slice.ensures)
    (halts_here g.N.NativeKind.meaning c.args.code.now c.args.table.now (store_of c.args.node.now) c.args.process c.args.depth
    can.declared can.program can.homes can.common can.activation can.own can.is_code can.can_step can.shows can.kind
    g.met.N.NativeKind.means.number_is
    (few_homes g.N.NativeKind.meaning _ _ _ _ _ g.met.N.NativeKind.registers) (bytes_in c.args.node.now)
    c.kind-tidy.ensures.tidy c.runs_on-before.ensures.small c.runs_on-before.ensures.words u c.go_behind_stop.ensures
    g.M.Machine.kind g.M.Machine.goes g.M.Machine.stops g.M.Machine.traps g.M.Machine.register g.M.Machine.place g.M.Machine.rests
    g.met.N.NativeKind.means g.met.M.Machine.one_way g.met.M.Machine.apart)

pub unreachable-requires : goal.unreachable-requires
unreachable-requires g c =
    let can = c.requires in
    let u = c.go_behind_stop.new.machine in
    let to = c.run.new.machine in
    let memory = bytes_in c.run.new.self in
    let trapped = subst
    (λ (words : List ℕ). (k : ℕ) × Leads (g.M.Machine.goes words) u (bytes_in c.args.node.now) k to memory
    × g.M.Machine.traps words to memory c.in_default.field-0)
    c.as_slice.ensures c.in_default.ensures.trap in
    no_trap_here g.N.NativeKind.meaning c.args.code.now c.args.table.now (store_of c.args.node.now) c.args.process c.args.depth
    can.declared can.program can.homes can.common can.activation can.own can.is_code can.can_step can.shows can.kind
    g.met.N.NativeKind.means.number_is
    (few_homes g.N.NativeKind.meaning _ _ _ _ _ g.met.N.NativeKind.registers) (bytes_in c.args.node.now)
    c.kind-tidy.ensures.tidy c.runs_on-before.ensures.small c.runs_on-before.ensures.words u c.go_behind_stop.ensures
    g.M.Machine.kind g.M.Machine.goes g.M.Machine.stops g.M.Machine.traps g.M.Machine.register g.M.Machine.place g.M.Machine.rests
    g.met.N.NativeKind.means g.met.M.Machine.one_way g.met.M.Machine.apart trapped.0 to memory c.in_default.field-0 trapped.1 trapped.2

pub rest_at-requires-clause-frame : goal.rest_at-requires-clause-frame
rest_at-requires-clause-frame g c =
    let can = c.requires in
    let frame = frame_here g.N.NativeKind.meaning c.args.code.now c.args.table.now (store_of c.args.node.now) c.args.process c.args.depth
    can.declared can.program can.homes can.common can.activation can.own can.is_code can.can_step can.shows in
    record {
      row = frame.row;
      there = c.in-Ok.ensures.ran.rows (Frame c.args.process c.args.depth) ∙ frame.there;
      one = frame.one;
    }

pub rest_at-requires-clause-stop : goal.rest_at-requires-clause-stop
rest_at-requires-clause-stop g c =
    let can = c.requires in
    let u = c.go_behind_stop.new.machine in
    let to = c.run.new.machine in
    let memory = bytes_in c.run.new.self in
    let native = subst
    (λ (words : List ℕ). Native (g.M.Machine.goes words) (g.M.Machine.stops words) u (bytes_in c.args.node.now) c.in-Ok.steps to memory)
    c.as_slice.ensures c.in-Ok.ensures.ok in
    comes_to_stop g.N.NativeKind.meaning c.args.code.now c.args.table.now (store_of c.args.node.now) c.args.process c.args.depth
    can.declared can.program can.homes can.common can.activation can.own can.is_code can.can_step can.shows can.kind
    g.met.N.NativeKind.means.number_is
    (few_homes g.N.NativeKind.meaning _ _ _ _ _ g.met.N.NativeKind.registers) (bytes_in c.args.node.now)
    c.kind-tidy.ensures.tidy c.runs_on-before.ensures.small c.runs_on-before.ensures.words u c.go_behind_stop.ensures
    g.M.Machine.kind g.M.Machine.goes g.M.Machine.stops g.M.Machine.traps g.M.Machine.register g.M.Machine.place g.M.Machine.rests
    g.met.N.NativeKind.means g.met.M.Machine.one_way g.met.M.Machine.apart c.in-Ok.steps to memory native

pub returns-clause-leg : goal.returns-clause-leg
returns-clause-leg g c = λ d p homes common a o is step shows.
    let can = c.requires in
    let u = c.go_behind_stop.new.machine in
    let to = c.run.new.machine in
    let memory = bytes_in c.run.new.self in
    let native = subst
    (λ (words : List ℕ). Native (g.M.Machine.goes words) (g.M.Machine.stops words) u (bytes_in c.args.node.now) c.in-Ok.steps to memory)
    c.as_slice.ensures c.in-Ok.ensures.ok in
    leg_here g.N.NativeKind.meaning c.args.code.now c.args.table.now (store_of c.args.node.now) c.args.process c.args.depth
    d p homes common a o is step shows can.kind g.met.N.NativeKind.means.number_is
    (few_homes g.N.NativeKind.meaning _ _ _ _ _ g.met.N.NativeKind.registers) (bytes_in c.args.node.now)
    c.kind-tidy.ensures.tidy c.runs_on-before.ensures.small c.runs_on-before.ensures.words u c.go_behind_stop.ensures
    g.M.Machine.kind g.M.Machine.goes g.M.Machine.stops g.M.Machine.traps g.M.Machine.register g.M.Machine.place g.M.Machine.rests
    g.met.N.NativeKind.means g.met.M.Machine.one_way g.met.M.Machine.apart c.in-Ok.steps to memory native
    (store_of c.run.new.self) (store_of c.rest_at.new.node) c.in-Ok.ensures.ran c.runs_on-between.ensures.words c.rest_at.ensures.rests
    c.kind-after.ensures.tidy

pub returns-clause-native : goal.returns-clause-native
returns-clause-native g c =
    let u = c.go_behind_stop.new.machine in
    let to = c.run.new.machine in
    let memory = bytes_in c.run.new.self in
    record {
      from = u;
      to = to;
      between = c.run.new.self;
      behind = c.go_behind_stop.ensures;
      native =
          subst
          (λ (words : List ℕ). Native (g.M.Machine.goes words) (g.M.Machine.stops words) u (bytes_in c.args.node.now) c.in-Ok.steps to
          memory)
          c.as_slice.ensures c.in-Ok.ensures.ok;
      counted = c.in-Ok.ensures.ran;
      lists = c.run.ensures.lists;
      rests = c.rest_at.ensures.rests;
      bytes =
          subst (λ n. KeepsBytes c.run.new.self c.rest_at.new.node (Frame c.args.process c.args.depth) (IsUntouched n))
          (sym g.met.N.NativeKind.registers.homes_are) c.rest_at.ensures.bytes;
    }
