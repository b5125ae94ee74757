-- The parcel is read, and what is in it is put.
use Rattle.std.proofs.Common.{◌∙◌, subst, sym}
use Rattle.ec_stores.specs.Node.{store_of}
use Rattle.ec_wire.specs.declared.parcel.Contents.{Contents}
use Rattle.ec_carrying.proofs.At.{on_ok_so}
use Rattle.ec_carrying.proofs.unpacking.unpack.Goals as goal
use Rattle.ec_carrying.specs.Unpacking.{AreOfProgram, HasRoomHere, Unpacked}

pub put_contents-requires-clause-fits : goal.put_contents-requires-clause-fits
put_contents-requires-clause-fits c =
    let same = c.contents.ensures.same ∙ c.in_ok-parcel.ensures c.requires.contents c.requires.wire in
    subst (λ (x : Contents). AreOfProgram c.args.numbers.now c.args.tables.now x) (sym same) c.requires.fits

pub put_contents-requires-clause-room : goal.put_contents-requires-clause-room
put_contents-requires-clause-room c =
    let same = c.contents.ensures.same ∙ c.in_ok-parcel.ensures c.requires.contents c.requires.wire in
    subst (λ (x : Contents). HasRoomHere c.args.numbers.now (store_of c.args.node.now) x) (sym same) c.requires.room

pub returns : goal.returns
returns c = on_ok_so c.put_contents.result
    (λ unpacked x wire.
    let same = c.contents.ensures.same ∙ c.in_ok-parcel.ensures x wire in
    subst (λ (y : Contents). Unpacked c.args.numbers.now c.args.tables.now y (store_of c.args.node.now) (store_of c.put_contents.new.node))
    same unpacked)
    c.put_contents.ensures
