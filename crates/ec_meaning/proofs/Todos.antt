-- What is still to do is kept the other way round.
use Rattle.std.proofs.Common.{◌≡◌, List, [], ◌∷◌, ◌++◌, MatchOption, Option, Some, None, reverse, refl, sym, ap, ◌∙◌}
use Rattle.std.proofs.lemmas.List.{reverse-append}
use Rattle.ec_base.specs.Stack.{top_of, below_of}
use Rattle.ec_base.proofs.Stacks.{stack_parts, top_of_none}

-- the last item of a list comes first in it the other way round
pub popped : {A : Type 0} (items below : List A) (top : Option A) → top ≡ top_of items → below ≡ below_of items →
    MatchOption top ((reverse items ≡ []) × (reverse below ≡ [])) (λ next. reverse items ≡ next ∷ reverse below)
popped items below None e b =
    let none : items ≡ [] = top_of_none items (sym e) in
    let gone : below ≡ [] = b ∙ ap below_of none in
    (ap reverse none, ap reverse gone)
popped items below (Some x) e b =
    let parts : items ≡ below ++ x ∷ [] = stack_parts items x (sym e) ∙ ap (λ xs. xs ++ x ∷ []) (sym b) in
    ap reverse parts ∙ reverse-append below (x ∷ [])
