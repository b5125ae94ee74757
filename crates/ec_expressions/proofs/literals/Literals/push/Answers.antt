use Rattle.std.proofs.Common.{◌≡◌, [], ◌∷◌, ◌++◌, false, length, ap, sym, ◌∙◌}
use Rattle.ec_emission.specs.Expressions.{has_text}
use Rattle.ec_expressions.proofs.PlacesLemmas.{are_places_entered}
use Rattle.ec_expressions.proofs.literals.Literals.push.Goals as goal

-- the text's bytes are in the map, with its place
pub invariant_of-self-2 : goal.invariant_of-self-2
invariant_of-self-2 c =
    let held = c.self.inside.texts.items in
    let room = c.reserve.ensures.items in
    let text : c.from_vec.result ≡ c.args.text.now = c.from_vec.ensures ∙ c.in_ok-own.ensures.items in
    let texts : c.push.new.self.items ≡ held ++ c.args.text.now ∷ [] =
    c.in_ok-push.ensures.items ∙ ap (λ ts. ts ++ c.from_vec.result ∷ []) room ∙ ap (λ t. held ++ t ∷ []) text in
    let count : c.len.result ≡ length held = c.len.ensures ∙ c.reserve.new.self.ok.0 ∙ ap length room in
    let absent : has_text held c.args.text.now ≡ false = rw (← c.self.view_is) at c.requires in
    rw texts (are_places_entered c.self.inside.places c.enter.new.places held c.args.text.now c.in_ok-key.key _
    c.in_ok-key.ensures.items count absent c.in_ok-enter.ensures.entered c.self.invariant)
