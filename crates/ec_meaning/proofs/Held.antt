-- Values that are held again.
use Rattle.std.proofs.Common.{◌≡◌, List, [], ◌∷◌, ◌++◌, Bool, Some, None, Option, refl, sym, ap, ◌∙◌}
use Rattle.ec_base.specs.Stack.{top_of, below_of}
use Rattle.ec_base.proofs.Stacks.{stack_parts}
use Rattle.ec_meaning.specs.Running.{truth_held, two_held, both}
use Rattle.ec_world.specs.declared.value.Value.{Value}
use Rattle.ec_world.specs.declared.value.Value.TheVariants.{Int, Str, Ref, Nil, Bool as Truth}

held_truth : (o : Option Value) (b : Bool) → Some b ≡ truth_held o → o ≡ Some (Truth b)
held_truth None b e = cc
held_truth (Some (Truth c)) b e = cc
held_truth (Some (Int z)) b e = cc
held_truth (Some (Str t)) b e = cc
held_truth (Some (Ref o)) b e = cc
held_truth (Some Nil) b e = cc

-- a truth that was taken off and is held again
pub held_again : (held : List Value) (b : Bool) → Some b ≡ truth_held (top_of held) → below_of held ++ Truth b ∷ [] ≡ held
held_again held b e = sym (stack_parts held (Truth b) (held_truth (top_of held) b e))

top_both : (o p : Option Value) (u v : Value) → Some (u, v) ≡ both o p → (o ≡ Some u) × (p ≡ Some v)
top_both None None u v e = cc
top_both None (Some y) u v e = cc
top_both (Some x) None u v e = cc
top_both (Some x) (Some y) u v e =
    let pair : (u, v) ≡ (x, y) = cc in
    (ap Some (sym (ap (λ (p : Value × Value). p.0) pair)), ap Some (sym (ap (λ (p : Value × Value). p.1) pair)))

-- two values that were taken off and are held again
pub two_again : (held : List Value) (u v : Value) → Some (u, v) ≡ two_held held →
    (below_of (below_of held) ++ u ∷ []) ++ v ∷ [] ≡ held
two_again held u v e =
    let tops = top_both (top_of (below_of held)) (top_of held) u v e in
    sym (stack_parts held v tops.1 ∙ ap (λ xs. xs ++ v ∷ []) (stack_parts (below_of held) u tops.0))
