-- The fields that are read are those of the object that is shown, and the number is that of its class.
use Rattle.std.proofs.Common.{◌≡◌, ℕ, List, ap, ◌∙◌, sym}
use Rattle.std.proofs.lemmas.Option.{same_Some}
use Rattle.ec_parcels.proofs.Fields.{are_fields, class_is, has_fields}
use Rattle.ec_parcels.proofs.mover.objects.object_part.Goals as goal
use Rattle.ec_parcels.specs.Classes.{number_of}
use Rattle.ec_stores.specs.Node.{store_of}
use Rattle.ec_wire.specs.declared.parcel.ObjectPart.{ObjectPart}
use Rattle.ec_world.specs.declared.class.ClassNo.{ClassNo}
use Rattle.ec_world.specs.declared.value.Value.{Value}

pub fields_of-requires : goal.fields_of-requires
fields_of-requires c =
    let has = c.requires in
    has_fields c.args.numbers.now c.args.classes.now (store_of c.args.node.now) c.args.oid has.object has.number has.goes
    c.object_here-object.result c.object_here-object.ensures

abbrev part : ℕ → ℕ → List Value → ObjectPart
part oid number values = record { number = oid; class = number; values = values }

pub returns : goal.returns
returns c = λ o number goes.
    let s = store_of c.args.node.now in
    let found = c.object_here-object in
    let class =
    class_is c.args.numbers.now c.args.classes.now s c.args.oid o number goes found.result found.ensures in
    let number_is : c.number_there-class.result ≡ number =
    same_Some c.number_there-class.result number
    (sym c.number_there-class.ensures ∙ ap (λ (k : ClassNo). number_of c.args.numbers.now k) (sym class) ∙ goes.number_is) in
    ap (λ n. part c.args.oid n c.in_ok-values.values) number_is
    ∙ ap (part c.args.oid number)
    (c.in_ok-values.ensures o.fields
    (are_fields c.args.numbers.now c.args.classes.now s c.args.oid o number goes found.result found.ensures))
