use Rattle.std.proofs.Common.{◌≡◌, Ok, Err, arith}
use Rattle.ec_formats.specs.Answers.{Fails}
use Rattle.ec_formats.specs.Format.{whole}
use Rattle.ec_formats.proofs.Wholes.{is_spelling, is_read, whole_within}
use Rattle.ec_wire.specs.WireForm.{parcel}
use Rattle.ec_wire.proofs.FormLaws.{parcel_law}
use Rattle.ec_wire.proofs.read.Goals as goal

pub new-requires : goal.new-requires
new-requires c = (is_spelling parcel parcel_law c.args.bytes.now c.in-Ok.contents
    (λ i. omega (arith, c.type_inv.bytes i)) c.in-Ok.ensures).rules

pub overflow_sub-at : goal.overflow_sub-at
overflow_sub-at c =
    let fault : Fails c.in-Err-Fault.field-0 (whole parcel c.args.bytes.now) = c.in-Err-Fault.ensures in
    whole_within parcel parcel_law c.args.bytes.now c.in-Err-Fault.left (λ i. omega (arith, c.type_inv.bytes i))
    (rw c.in-Err-Fault.field-0-is at fault)

pub returns-in-Ok-clause-found : goal.returns-in-Ok-clause-found
returns-in-Ok-clause-found c =
    rw c.new.ensures (is_spelling parcel parcel_law c.args.bytes.now c.in-Ok.contents
    (λ i. omega (arith, c.type_inv.bytes i)) c.in-Ok.ensures)

pub returns-in-Err-Fault-clause-refused : goal.returns-in-Err-Fault-clause-refused
returns-in-Err-Fault-clause-refused c = λ p w.
    let fault : Fails c.in-Err-Fault.field-0 (whole parcel c.args.bytes.now) = c.in-Err-Fault.ensures in
    let left : whole parcel c.args.bytes.now ≡ Err c.in-Err-Fault.left = rw c.in-Err-Fault.field-0-is at fault in
    let read : whole parcel c.args.bytes.now ≡ Ok p = is_read parcel parcel_law c.args.bytes.now p w in
    cc
