use Rattle.std.proofs.Common.{◌∙◌, sym, ap}
use Rattle.std.specs.Prelude.{is_some}
use Rattle.ec_forwarding.specs.Addresses.{address_in}
use Rattle.ec_forwarding.proofs.Knowing.{adds}
use Rattle.ec_forwarding.proofs.known.note.Goals as goal

pub returns-in_ok-push-clause-ok : goal.returns-in_ok-push-clause-ok
returns-in_ok-push-clause-ok c = λ k.
    let none = ap (λ ns. is_some (address_in ns c.args.node)) (sym c.deref.ensures.value) ∙ sym c.is_known.ensures ∙ c.if-is_known.false in
    rw c.in_ok-push.ensures.items (adds c.args.known.now.items c.args.node c.args.address none k)
