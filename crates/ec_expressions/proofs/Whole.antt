-- Code that is made from its end, part by part.
use Rattle.std.proofs.Common.{◌≡◌, ℕ, ◌+◌, ◌-◌, List, ◌++◌, length, Result, Ok, Err, ap, ◌∙◌, arith, length-append}
use Rattle.std.specs.Prelude.{OnOk}
use Rattle.ec_code.specs.declared.code.Op.{Op}
use Rattle.ec_core.specs.declared.Expression.{Expression, out-Expression}
use Rattle.ec_expressions.proofs.Codes.{code_of}
use Rattle.ec_expressions.specs.Emitting.{emitted_by, steps_in, parts_onto, operands_onto}
use Rattle.ec_expressions.specs.declared.emitter.Emitter.{Emitter}

pub on_ok : {T E : Type 0} {P Q : Type 0} → (r : Result T E) → (P → Q) → OnOk r P → OnOk r Q
on_ok (Ok x) f p = f p
on_ok (Err e) f p = p

pub whole : (m : Emitter) (x : Expression) (h : ℕ) (old a b new : List Op) →
    a ≡ steps_in m (out-Expression x) h ++ old → b ≡ parts_onto m (out-Expression x) h a →
    new ≡ operands_onto m (out-Expression x) h b → new ≡ (emitted_by m x).code h ++ old
whole m x h old a b new e f g =
    g ∙ ap (operands_onto m (out-Expression x) h) (f ∙ ap (parts_onto m (out-Expression x) h) e) ∙ code_of m x h old

-- how many steps came before
pub came : (code old new : List Op) → new ≡ code ++ old → length new - length old ≡ length code
came code old new e =
    let f : length new ≡ length code + length old = ap length e ∙ length-append code old in omega arith
