use Rattle.std.proofs.Common.{◌∙◌, refl}
use Rattle.ec_base.proofs.Stacks.{top_read}
use Rattle.ec_base.proofs.list.Seq.last.Goals as goal

pub returns : goal.returns
returns g c =
    let xs = c.self.inside.items in
    let some = rw (← c.self.view_is) at c.requires in
    rw (← c.self.view_is) (top_read xs.items _ _ c.index.result.now some (c.len.ensures ∙ xs.ok.0) refl c.index.ensures)
