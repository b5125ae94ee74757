use Rattle.std.proofs.Common.{◌∙◌, ap, map}
use Rattle.ec_outside.proofs.Places.{place_of-texts}
use Rattle.ec_outside.proofs.fault.Counts.place.Goals as goal

pub returns : goal.returns
returns c =
    place_of-texts c.deref.result.now c.args.name.now c.args.self.now _
    (ap (map (λ x. x.now)) c.deref.ensures.value ∙ ap (λ t. t.names) c.self.view_is) c.place_among.ensures
