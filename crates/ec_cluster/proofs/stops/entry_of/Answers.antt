-- The stop is that of the headings.
use Rattle.std.proofs.Common.{◌<◌, sym, ap, ◌∙◌, subst}
use Rattle.std.specs.Prelude.{length, slice_get}
use Rattle.std.proofs.lemmas.Option.{same_Some}
use Rattle.ec_activations.specs.Frames.{number_if, stop_of}
use Rattle.ec_base.proofs.Lists.{get_within}
use Rattle.ec_cluster.proofs.Resting.{entry_there}
use Rattle.ec_cluster.proofs.stops.entry_of.Goals as goal
use Rattle.ec_stores.specs.Node.{store_of}

pub at-requires : goal.at-requires
at-requires c =
    let r = c.requires.rests in
    let p = c.requires.program in
    let a = c.requires.activation in
    let h = c.headings_of-headings.ensures p c.requires.homes a r.shown in
    let e = entry_there c.requires.declared p (store_of c.args.node.now).kind c.requires.homes c.requires.tables r.has a c.requires.entry
    r.rests
    c.args.table.now r.its in
    subst (λ n. n < length c.args.table.now.stops) (sym h.stop)
    (get_within c.args.table.now.stops (number_if (stop_of p a)) c.requires.entry e)

pub returns : goal.returns
returns c = λ d p homes tables a e here.
    let h = c.headings_of-headings.ensures p homes a here.shown in
    let g = entry_there d p (store_of c.args.node.now).kind homes tables here.has a e here.rests c.args.table.now here.its in
    same_Some c.at.result.now e (sym c.at.ensures ∙ ap (slice_get c.args.table.now.stops) h.stop ∙ g)
