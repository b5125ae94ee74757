use Rattle.std.proofs.Common.{◌≡◌, [], ◌∷◌, length, length-append, sym, ap, subst, ◌∙◌, arith}
use Rattle.ec_machine_code.proofs.Choosing.{are_homes, one_more}
use Rattle.ec_machine_code.specs.Rows.{IsChosen, row_of, variable_at}
use Rattle.ec_machine_code.proofs.homes.homes_of.Goals as goal

pub loop-c-preserved : goal.loop-c-preserved
loop-c-preserved c =
    let row : c.deref.result.now ≡ row_of c.args.named c.args.count c.args.code.now (variable_at c.args.named c.loop-c.c) =
    c.deref.ensures.value ∙ c.in_ok-row.ensures ∙ ap (row_of c.args.named c.args.count c.args.code.now) c.variable_at.ensures in
    rw c.in_ok-push.ensures.ok (
      one_more c.args.named c.args.count c.args.registers c.args.code.now c.loop-c.homes c.in_ok-home.home c.loop-c.c
          (sym c.loop-c.invariant.1) c.loop-c.invariant.0
          (subst (λ r. IsChosen r c.loop-c.homes c.args.registers c.in_ok-home.home) row c.in_ok-home.ensures),
      omega (arith, length-append c.loop-c.homes (c.in_ok-home.home ∷ []), c.loop-c.invariant.1),
    )

pub returns : goal.returns
returns c =
    let full : length c.loop-c.homes ≡ c.args.count = omega (arith, c.loop-c.invariant.1) in
    are_homes c.args.named c.args.count c.args.registers c.args.code.now c.loop-c.homes c.loop-c.invariant.0 full c.requires.variables
