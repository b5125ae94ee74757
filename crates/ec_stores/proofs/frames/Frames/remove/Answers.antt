use Rattle.std.proofs.Common.{List, ℕ, None, sym, subst}
use Rattle.ec_stores.proofs.Standing.{sets_frame, stands_less}
use Rattle.ec_stores.proofs.frames.Frames.remove.Goals as goal
use Rattle.ec_stores.specs.Tables.{SetsFrame}
use Rattle.ec_stores.specs.declared.rows.FrameRow.{FrameRow}

pub invariant_of-self-2 : goal.invariant_of-self-2
invariant_of-self-2 c =
    stands_less c.self.inside.standing c.remove-2.new.self c.self.inside.rows.entries c.remove.new.self.entries c.args.process c.args.depth
    c.in_ok-row.row c.self.invariant (sym c.in_ok-row.ensures.value) c.remove-2.ensures.updates
    (sets_frame c.self.inside.rows c.remove.new.self c.args.process c.args.depth None c.remove.ensures.updates)

pub returns-clause-removed : goal.returns-clause-removed
returns-clause-removed c =
    subst (λ (fs : List ((ℕ × ℕ) × FrameRow)). SetsFrame fs c.remove.new.self.entries c.args.process c.args.depth None) c.self.view_is
    (sets_frame c.self.inside.rows c.remove.new.self c.args.process c.args.depth None c.remove.ensures.updates)
