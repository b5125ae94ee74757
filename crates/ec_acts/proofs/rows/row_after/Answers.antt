-- The activation below the top is still there.
use Rattle.std.proofs.Common.{ℕ, sym, ap, ◌∙◌}
use Rattle.ec_code.specs.Activations.{code_meaning}
use Rattle.ec_acts.proofs.Stacking.{left_length}
use Rattle.ec_acts.proofs.rows.row_after.Goals as goal
use Rattle.ec_cluster.specs.Systems.{row_of}
use Rattle.ec_cluster.specs.declared.system.ProcessRow.{ProcessRow}
use Rattle.ec_world.specs.World.{changed}
use Rattle.ec_world.specs.declared.process.ProcStatus.TheVariants.{Ready}
use Rattle.ec_world.specs.declared.stop.Effect.{Effect}

abbrev ready_row : ℕ → ProcessRow
ready_row n = record { activations = n; status = Ready }

pub returns-in-Leaves : goal.returns-in-Leaves
returns-in-Leaves c = λ below top depth.
    ap ready_row (depth ∙ sym (left_length below c.in-Leaves.field-0))
    ∙ ap (λ (e : Effect). row_of (changed code_meaning below top e)) (sym c.in-Leaves.is)
