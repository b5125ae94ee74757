-- A parcel that fits is unpacked, and its activation then has each of its words.
use Rattle.std.proofs.Common.{◌≡◌, List, Some, false, sym, ap, ◌∙◌, arith}
use Rattle.std.proofs.lemmas.Option.{slice_get-get_or}
use Rattle.std.specs.Prelude.{is_some, slice_get}
use Rattle.ec_parcel_fits.proofs.Parts.{none_there}
use Rattle.ec_node_trials.proofs.Unpacked.{owns_word}
use Rattle.ec_node_trials.proofs.trials.unpacked_word.Goals as goal
use Rattle.ec_parcel_fits.specs.Unfitting.{Fits}
use Rattle.ec_stores.specs.Node.{store_of}
use Rattle.ec_wire.specs.declared.parcel.ActivationPart.{ActivationPart}

pub unpack-requires : goal.unpack-requires
unpack-requires g c =
    let none : is_some c.in_ok-unfit.field-0 ≡ false = sym c.is_some.ensures ∙ c.if-is_some.false in
    let fits : Fits c.args.numbers.now c.args.tables.now (store_of c.args.node.now) c.args.parcel.now =
    none_there c.in_ok-unfit.field-0 none c.in_ok-unfit.ensures.none in
    record { contents = c.args.parcel.now; wire = c.requires.wire; fits = fits.program; room = fits.room }

pub frame_word-requires : goal.frame_word-requires
frame_word-requires g c =
    let none : is_some c.in_ok-unfit.field-0 ≡ false = sym c.is_some.ensures ∙ c.if-is_some.false in
    let fits : Fits c.args.numbers.now c.args.tables.now (store_of c.args.node.now) c.args.parcel.now =
    none_there c.in_ok-unfit.field-0 none c.in_ok-unfit.ensures.none in
    let first : slice_get c.activations.result.now 0 ≡ Some c.part-item.result =
    slice_get-get_or c.activations.result.now 0 c.part-item.result (omega arith) ∙ ap Some (sym c.part-item.is) in
    owns_word c.args.numbers.now c.args.tables.now (store_of c.args.node.now) (store_of c.unpack.new.node) c.args.parcel.now fits
    (c.in_ok-unpack.ensures c.args.parcel.now c.requires.wire) c.part-item.result
    (record { at = 0; is = ap (λ (xs : List ActivationPart). slice_get xs 0) (sym c.activations.ensures) ∙ first }) c.args.at
    c.requires.low
