-- How many values an object of a parcel has.
use Rattle.std.proofs.Common.{◌≡◌, ◌<◌, ◌^◌, ℕ, true, Some}
use Rattle.std.proofs.lemmas.Bool.{ltb-true}
use Rattle.std.specs.Prelude.{length, slice_get, take}
use Rattle.ec_formats.proofs.ListLaws.{each_fits}
use Rattle.ec_formats.proofs.Steps.{first_of_both, second_of_both}
use Rattle.ec_wire.specs.WireForm.{KeepsRules, object}
use Rattle.ec_wire.specs.declared.parcel.Contents.{Contents}
use Rattle.ec_wire.specs.declared.parcel.ObjectPart.{ObjectPart}

object_fits : (x : Contents) → KeepsRules x → (i : ℕ) (o : ObjectPart) → slice_get x.objects i ≡ Some o →
    (object (take i x.objects)).fits o ≡ true
object_fits x rules = each_fits object x.objects (second_of_both _ _ (first_of_both _ _ rules))

-- 32 bits count them
pub few_values : (x : Contents) → KeepsRules x → (i : ℕ) (o : ObjectPart) → slice_get x.objects i ≡ Some o → length o.values < 2 ^ 32
few_values x rules i o e =
    let values = second_of_both _ _ (second_of_both _ _ (object_fits x rules i o e)) in
    ltb-true _ _ (first_of_both _ _ (first_of_both _ _ values))
