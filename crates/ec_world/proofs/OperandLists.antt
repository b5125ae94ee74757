-- Operands taken from the end of a list, one by one.
use Rattle.std.proofs.Common.{◌≡◌, List, [], ◌∷◌, ◌++◌, Some, None, refl, sym, ap, ◌∙◌}
use Rattle.ec_base.specs.Stack.{top_of, below_of}
use Rattle.ec_base.proofs.Stacks.{stack_parts, top_of_none}
use Rattle.ec_world.specs.declared.value.Value.{Value}
use Rattle.ec_world.specs.Doings.{one}

-- the last operand, with none below it
pub one_alone : (vs below : List Value) (last : Value) → Some last ≡ top_of vs → below ≡ below_of vs → None ≡ top_of below →
    Some last ≡ one vs
one_alone vs below last e b n =
    let none : below_of vs ≡ [] = sym b ∙ top_of_none below (sym n) in
    let alone : vs ≡ last ∷ [] = stack_parts vs last (sym e) ∙ ap (λ (xs : List Value). xs ++ last ∷ []) none in
    rw alone refl
