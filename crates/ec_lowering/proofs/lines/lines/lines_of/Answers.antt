-- The lists of live variables are the witness.
use Rattle.std.proofs.Common.{◌≡◌, []}
use Rattle.std.proofs.lemmas.Result.{IfOk-weaker}
use Rattle.ec_lowering.specs.Sites.{around_by}
use Rattle.ec_emission.specs.Lowered.{HasLines}
use Rattle.ec_emission.specs.Types as spec
use Rattle.ec_lowering.proofs.lines.lines.lines_of.Goals as goal

pub returns : goal.returns
returns c =
    let lists = c.in_ok-lists.lists in
    let live = c.in_ok-lists.ensures in
    IfOk-weaker c.with_lists.result (λ code. code ≡ spec.lines_of (around_by c.args.site.now) [] c.args.ops lists)
    (λ code. HasLines (around_by c.args.site.now) c.args.ops code)
    (λ code is. record { lists = lists; count = live.count; live = live.live; lines = is }) c.with_lists.ensures
