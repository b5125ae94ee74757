-- The activations come one after another.
use Rattle.std.proofs.Common.{◌+◌, [], drop, arith}
use Rattle.ec_carrying.proofs.Stops.{gets_behind}
use Rattle.ec_carrying.proofs.Putting.{all_frames_came, frame_behind, frame_has_block, frame_is_new, frame_texts_fit, nothing_came}
use Rattle.ec_carrying.proofs.Putting.{room_for_frame}
use Rattle.ec_carrying.proofs.Texts.{no_text_fits}
use Rattle.ec_carrying.proofs.unpacking.put_activations.Goals as goal
use Rattle.ec_parcels.specs.Classes.{ClassTable}
use Rattle.ec_stores.specs.Node.{store_of}
use Rattle.ec_world.specs.declared.value.Value.TheVariants.{Ref}

-- any numbers of classes: there are no objects
any_table : ClassTable
any_table = record { made = 0; vectors = [] }

pub loop-i-init : goal.loop-i-init
loop-i-init c = λ table.
    nothing_came table c.args.tables.now [] (store_of c.args.node.now) (c.requires.room table).tidy

pub put_activation-requires-clause-new : goal.put_activation-requires-clause-new
put_activation-requires-clause-new c =
    let parts = c.args.parts.now in
    let part = c.at.result.now in
    frame_is_new any_table [] part (drop (c.loop-i.i + 1) parts) (store_of c.loop-i.node)
    (room_for_frame any_table c.args.tables.now (store_of c.args.node.now) (store_of c.loop-i.node) parts (c.requires.room any_table)
    c.loop-i.i part c.at.ensures (c.loop-i.invariant any_table))

pub put_activation-requires-clause-room : goal.put_activation-requires-clause-room
put_activation-requires-clause-room c =
    let parts = c.args.parts.now in
    let part = c.at.result.now in
    frame_has_block any_table [] part (drop (c.loop-i.i + 1) parts) (store_of c.loop-i.node)
    (room_for_frame any_table c.args.tables.now (store_of c.args.node.now) (store_of c.loop-i.node) parts (c.requires.room any_table)
    c.loop-i.i part c.at.ensures (c.loop-i.invariant any_table))

pub put_activation-requires-clause-stop : goal.put_activation-requires-clause-stop
put_activation-requires-clause-stop c =
    let fits = c.requires.fit c.at.result.now (record { at = c.loop-i.i; is = c.at.ensures }) in
    record { table = fits.table; entry = fits.entry; is = fits.is; many = fits.many }

pub put_activation-requires-clause-texts : goal.put_activation-requires-clause-texts
put_activation-requires-clause-texts c =
    let parts = c.args.parts.now in
    let part = c.at.result.now in
    no_text_fits (store_of c.loop-i.node) (Ref part.own) part.values (λ text e. cc)
    (frame_texts_fit any_table [] part (drop (c.loop-i.i + 1) parts) (store_of c.loop-i.node)
    (room_for_frame any_table c.args.tables.now (store_of c.args.node.now) (store_of c.loop-i.node) parts (c.requires.room any_table)
    c.loop-i.i part c.at.ensures (c.loop-i.invariant any_table)))

pub loop-i-preserved : goal.loop-i-preserved
loop-i-preserved c = λ table.
    let parts = c.args.parts.now in
    let part = c.at.result.now in
    let now = store_of c.loop-i.node in
    let next = store_of c.put_activation.new.node in
    frame_behind table c.args.tables.now (store_of c.args.node.now) now parts (c.requires.room table) c.loop-i.i part c.at.ensures
    (c.loop-i.invariant table) (c.requires.fit part (record { at = c.loop-i.i; is = c.at.ensures })) next
    c.in_ok-put_activation.ensures.spelled (gets_behind now next part.own part.values c.in_ok-put_activation.ensures.gets)

pub returns : goal.returns
returns c = λ table.
    all_frames_came table c.args.tables.now (store_of c.args.node.now) (store_of c.loop-i.node) c.args.parts.now c.loop-i.i
    (omega (arith, c.len-i-end.ensures)) (c.loop-i.invariant table)
