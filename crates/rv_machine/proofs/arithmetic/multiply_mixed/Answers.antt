use Rattle.std.proofs.Common.{◌≡◌, ◌%◌, ◌*◌, ◌^◌, subst, sym, arith}
use Rattle.std.specs.Prelude.{pos}
use Rattle.rv_machine.specs.Laws.{IsProduct}
use Rattle.rv_machine.specs.Values.{signed, upper, wide}
use Rattle.rv_machine.proofs.Products.{product_mixed}
use Rattle.rv_machine.proofs.arithmetic.multiply_mixed.Goals as goal

pub returns-clause-product : goal.returns-clause-product
returns-clause-product c =
    let a = c.args.a in
    let b = c.args.b in
    let e : c.upper.result ≡ upper (wide a) b = cc in
    subst (λ u. IsProduct (signed a) (pos b) u (a * b % 2 ^ 32)) (sym e) (product_mixed a b (omega arith) (omega arith))
