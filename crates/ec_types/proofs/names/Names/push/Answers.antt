use Rattle.std.proofs.Common.{◌≡◌, [], ◌∷◌, ◌++◌, length, ap, sym, ◌∙◌}
use Rattle.std.specs.Str.{str_to_ascii_lowercase}
use Rattle.std.proofs.lemmas.List.{length-map, map_push}
use Rattle.ec_types.specs.Firsts.{texts}
use Rattle.ec_types.proofs.Firsts.{are_firsts_entered}
use Rattle.ec_types.proofs.names.Names.push.Goals as goal

-- the name's letters are in the map, with its number if no other has them
pub invariant_of-self-2 : goal.invariant_of-self-2
invariant_of-self-2 c =
    let held = c.self.inside.names.items in
    let own = c.in_ok-own.own in
    let room = c.reserve.ensures.items in
    let names : texts c.push.new.self.items ≡ texts held ++ c.args.name.now ∷ [] =
    ap texts c.in_ok-push.ensures.items ∙ map_push _ c.reserve.new.self.items own
    ∙ ap (λ vecs. texts vecs ++ own.items ∷ []) room ∙ ap (λ text. texts held ++ text ∷ []) c.in_ok-own.ensures.items in
    let count : c.len.result ≡ length (texts held) =
    c.len.ensures ∙ c.reserve.new.self.ok.0 ∙ ap length room ∙ sym (length-map held _) in
    let letters = c.folded-letters.ensures ∙ ap str_to_ascii_lowercase c.in_ok-from_slice.ensures.items in
    rw names (are_firsts_entered c.self.inside.firsts c.enter.new.firsts (texts held) c.args.name.now c.folded-letters.result
    _ letters count c.in_ok-enter.ensures.entered c.self.invariant)
