use Rattle.std.proofs.Common.{◌≡◌, List, ℕ, None, Some, sym, subst}
use Rattle.ec_stores.proofs.Standing.{sets_frame, stands_again, stands_more}
use Rattle.ec_stores.proofs.frames.Frames.add.Goals as goal
use Rattle.ec_stores.specs.Tables.{AreStanding, SetsFrame, frame_in}
use Rattle.ec_stores.specs.declared.rows.FrameRow.{FrameRow}

pub invariant_of-self-in-Ok : goal.invariant_of-self-in-Ok
invariant_of-self-in-Ok c =
    let rows = c.self.inside.rows.entries in
    let absent = subst (λ (fs : List ((ℕ × ℕ) × FrameRow)). frame_in fs c.args.process c.args.depth ≡ None) (sym c.self.view_is) c.requires in
    stands_more c.self.inside.standing c.insert.new.self rows c.insert-2.new.self.entries c.args.process c.args.depth c.args.row
    c.self.invariant absent c.in_ok-insert.ensures.updates
    (sets_frame c.self.inside.rows c.insert-2.new.self c.args.process c.args.depth (Some c.args.row) c.in-Ok.ensures.updates)
    c.ranges.process.fits c.ranges.depth.fits

pub invariant_of-self-in-Err : goal.invariant_of-self-in-Err
invariant_of-self-in-Err c =
    let rows = c.self.inside.rows.entries in
    let absent = subst (λ (fs : List ((ℕ × ℕ) × FrameRow)). frame_in fs c.args.process c.args.depth ≡ None) (sym c.self.view_is) c.requires in
    subst (λ (fs : List ((ℕ × ℕ) × FrameRow)). AreStanding c.remove.new.self fs) (sym c.in-Err.ensures.err)
    (stands_again c.self.inside.standing c.insert.new.self c.remove.new.self c.args.row.home c.args.process c.args.depth
    c.in_ok-insert.ensures.updates c.remove.ensures.updates rows absent c.self.invariant)

pub returns-in-Ok-clause-added : goal.returns-in-Ok-clause-added
returns-in-Ok-clause-added c =
    subst (λ (fs : List ((ℕ × ℕ) × FrameRow)). SetsFrame fs c.insert-2.new.self.entries c.args.process c.args.depth (Some c.args.row))
    c.self.view_is
    (sets_frame c.self.inside.rows c.insert-2.new.self c.args.process c.args.depth (Some c.args.row) c.in-Ok.ensures.updates)
