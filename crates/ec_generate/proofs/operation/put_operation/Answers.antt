use Rattle.std.proofs.Common.{◌≡◌, ◌∙◌, List, ℕ, ap, sym, map, length, arith, Some}
use Rattle.std.proofs.lemmas.Option.{same_Some}
use Rattle.std.specs.Prelude.{slice_get}
use Rattle.ec_machine_code.specs.Stops.{stop_places}
use Rattle.ec_machine_code.specs.declared.code.OperationCode.{OperationCode}
use Rattle.ec_generate.specs.Puts.{pick}
use Rattle.ec_generate.specs.Sites.{home_there, ops_there, place_there, size_there}
use Rattle.ec_machine_code.proofs.Direct.{ops_long}
use Rattle.ec_machine_code.proofs.LaidOutSizes.{before_none}
use Rattle.ec_target.specs.Code.{pc_of}
use Rattle.ec_generate.proofs.operation.put_operation.Goals as goal

pub at-requires : goal.at-requires
at-requires g c = omega (arith, c.len.ensures, ops_long c.args.site.now.code.now, c.in_ok-places.ensures.count)

pub returns-clause-code : goal.returns-clause-code
returns-clause-code g c =
    let V = pick g.K.Kind.vocabularies c.args.span in
    let site = c.args.site.now in
    let home = home_there site in
    let ops = ops_there site in
    let q : c.len.result ≡ length ops = omega (arith, c.len.ensures, ops_long site.code.now) in
    let size : c.at.result.now ≡ size_there V site =
    same_Some c.at.result.now (size_there V site)
    (sym c.at.ensures ∙ ap (slice_get c.in_ok-places.places) q ∙ c.in_ok-places.ensures.each (length ops) (omega arith)
    ∙ ap Some (before_none V home ops site.order.now (length ops) (λ h.
    let lt = c.requires.ordered.within (length ops) h in omega (arith, lt, ops_long site.code.now)))) in
    let code : ℕ → List ℕ → OperationCode = λ n s. record { words = n; stops = s } in
    ap (λ n. code n c.in_ok-stops.stops) size
    ∙ ap (λ s. code (size_there V site) s)
    (c.in_ok-stops.ensures ∙ ap (λ n. map (λ k. pc_of (place_there V site n k)) (stop_places site.code.now)) c.len-start.ensures)
