use Rattle.std.proofs.Common.{◌≡◌, ◌%◌, ◌*◌, ◌^◌, subst, sym, arith}
use Rattle.mips_machine.specs.Laws.{IsProduct}
use Rattle.mips_machine.specs.Values.{signed, upper, wide}
use Rattle.mips_machine.proofs.Products.{product_signed}
use Rattle.mips_machine.proofs.arithmetic.multiply.Goals as goal

pub returns-clause-product : goal.returns-clause-product
returns-clause-product c =
    let a = c.args.a in
    let b = c.args.b in
    let e : c.upper.result ≡ upper (wide a) (wide b) = cc in
    subst (λ u. IsProduct (signed a) (signed b) u (a * b % 2 ^ 32)) (sym e) (product_signed a b (omega arith) (omega arith))
