use Rattle.std.proofs.Common.{◌≡◌, ◌≢◌, ◌∷◌, ◌++◌, [], List, ℕ, Some, sym, ap, ◌∙◌, subst, arith}
use Rattle.std.specs.Prelude.{slice_get}
use Rattle.ec_stores.specs.Tables.{ArePlaces, TextPool}
use Rattle.ec_stores.proofs.Finding.{places_added}
use Rattle.ec_stores.proofs.pool.Pool.add.Goals as goal

pub invariant_of-self-2 : goal.invariant_of-self-2
invariant_of-self-2 c =
    let texts = c.self.inside.texts.items in
    let is : c.push.new.self.items ≡ texts ++ c.args.text ∷ [] =
    c.in_ok-push.ensures.items ∙ ap (λ (ts : List (List ℕ)). ts ++ c.args.text ∷ []) c.reserve.ensures.items in
    let absent = subst (λ (p : TextPool). (i : ℕ) → slice_get p.texts i ≢ Some c.args.text) (sym c.self.view_is) c.requires.new in
    subst (λ (ts : List (List ℕ)). ArePlaces c.enter.new.places ts) (sym is)
    (places_added c.self.inside.places c.enter.new.places texts c.args.text c.in_ok-key.key c.len-count.result c.self.invariant absent
    (c.len-count.ensures ∙ c.self.inside.texts.ok.0) (omega arith) (c.in_ok-key.ensures.items ∙ c.as_slice.ensures)
    c.in_ok-enter.ensures.entered)
