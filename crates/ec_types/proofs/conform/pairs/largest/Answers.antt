use Rattle.std.proofs.Common.{◌≡◌, ◌*◌, true, replicate, length, ◌∙◌, ap}
use Rattle.std.proofs.lemmas.List.{length-replicate}
use Rattle.ec_types.specs.Pairs.{compared, rows}
use Rattle.ec_types.proofs.Striking.{all_within}
use Rattle.ec_types.proofs.conform.pairs.largest.Goals as goal

pub striking-init : goal.striking-init
striking-init c =
    let types = c.args.types.now in
    let pairs = c.in_ok-pairs.pairs.items in
    let count : c.compared-m.result ≡ rows types = c.compared-m.ensures ∙ ap compared c.len.ensures in
    let all : pairs ≡ replicate (rows types * rows types) true =
    c.in_ok-pairs.ensures.items_if_clones_equal (λ y same. same) ∙ ap (λ m. replicate (m * m) true) count in
    (ap length all ∙ length-replicate (rows types * rows types) true, all_within types pairs all)
