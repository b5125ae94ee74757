-- Objects come, then activations.
use Rattle.ec_carrying.proofs.At.{on_ok_so}
use Rattle.ec_carrying.proofs.Putting.{all_came, room_for_frames}
use Rattle.ec_carrying.proofs.unpacking.put_contents.Goals as goal
use Rattle.ec_stores.specs.Node.{store_of}

pub put_objects-requires-clause-classed : goal.put_objects-requires-clause-classed
put_objects-requires-clause-classed c = c.requires.fits.objects

pub put_activations-requires-clause-fit : goal.put_activations-requires-clause-fit
put_activations-requires-clause-fit c = λ part h. c.requires.fits.activations part h

pub put_activations-requires-clause-room : goal.put_activations-requires-clause-room
put_activations-requires-clause-room c =
    room_for_frames c.args.numbers.now c.args.tables.now (store_of c.args.node.now) (store_of c.put_objects.new.node) c.args.contents.now
    c.requires.room (c.in_ok-put_objects.ensures c.args.tables.now)

pub returns : goal.returns
returns c = on_ok_so c.put_activations.result
    (λ next. all_came c.args.numbers.now c.args.tables.now (store_of c.args.node.now) (store_of c.put_objects.new.node)
    c.args.contents.now c.requires.room (c.in_ok-put_objects.ensures c.args.tables.now) (store_of c.put_activations.new.node)
    (next c.args.numbers.now))
    c.put_activations.ensures
