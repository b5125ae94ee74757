-- One value after another.
use Rattle.std.proofs.Common.{◌≡◌, ◌-◌, Some, sym, ap, ◌∙◌, arith}
use Rattle.std.specs.Prelude.{slice_get}
use Rattle.std.proofs.lemmas.Option.{slice_get-get_or}
use Rattle.ec_objects.proofs.Noting.{all_noted, one_noted}
use Rattle.ec_objects.proofs.texts.new_bytes.Goals as goal
use Rattle.ec_stores.specs.Node.{store_of}

pub loop-i-preserved : goal.loop-i-preserved
loop-i-preserved c =
    let e : slice_get c.args.values.now c.loop-i.i ≡ Some c.index-values-i.result =
    slice_get-get_or c.args.values.now c.loop-i.i c.index-values-i.result (omega arith) ∙ ap Some (sym c.index-values-i.is) in
    one_noted (store_of c.args.node.now) c.args.values.now c.loop-i.i 4294967295 c.loop-i.seen c.note.new.seen c.index-values-i.result
    c.loop-i.invariant e c.in_ok-note.ensures

pub returns : goal.returns
returns c =
    all_noted (store_of c.args.node.now) c.args.values.now c.loop-i.i 4294967295 (4294967295 - c.free.result) c.loop-i.seen
    c.loop-i.invariant
    (omega arith) (omega (arith, c.free.ensures))
