use Rattle.std.proofs.Common.{◌≡◌, sym, ◌∙◌}
use Rattle.std.specs.BTreeMap.{get}
use Rattle.ec_types.specs.Firsts.{by_letters}
use Rattle.ec_types.proofs.Firsts.{is_number, is_no_number}
use Rattle.ec_types.proofs.names.leave.Goals as goal

-- the letters had this number
pub returns-then-eq-clause-kept : goal.returns-then-eq-clause-kept
returns-then-eq-clause-kept c =
    let found : c.copied.result ≡ get by_letters c.args.firsts.now c.args.letters =
    c.copied.ensures ∙ rw c.as_slice.ensures.value at c.get.ensures.value in
    λ other. absurd (other (sym found ∙ is_number c.copied.result c.args.number (sym c.if-eq.ensures)))

-- the letters hadn't this number
pub returns-clause-gone : goal.returns-clause-gone
returns-clause-gone c =
    let found : c.copied.result ≡ get by_letters c.args.firsts.now c.args.letters =
    c.copied.ensures ∙ rw c.as_slice.ensures.value at c.get.ensures.value in
    λ last. absurd (is_no_number c.copied.result c.args.number (sym c.if-eq.ensures) (found ∙ last))
