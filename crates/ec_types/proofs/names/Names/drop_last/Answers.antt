use Rattle.std.proofs.Common.{◌≡◌, [], ◌∷◌, ◌++◌, length, ap, sym, ◌∙◌}
use Rattle.std.proofs.lemmas.List.{length-map, map_push}
use Rattle.ec_types.specs.Firsts.{AreFirsts, texts}
use Rattle.ec_types.proofs.Firsts.{are_firsts_left}
use Rattle.ec_types.proofs.names.Names.drop_last.Goals as goal

-- the last name's letters are gone from the map, unless they are those of another name
pub invariant_of-self : goal.invariant_of-self
invariant_of-self c =
    let left = c.pop.new.self.items in
    let own = c.in-Some.own in
    let names : texts c.self.inside.names.items ≡ texts left ++ own.items ∷ [] =
    ap texts c.in-Some.ensures.items ∙ map_push _ left own in
    let count : c.len.result ≡ length (texts left) = c.len.ensures ∙ c.pop.new.self.ok.0 ∙ sym (length-map left _) in
    let firsts : AreFirsts c.self.inside.firsts (texts left ++ own.items ∷ []) = rw names at c.self.invariant in
    are_firsts_left c.self.inside.firsts c.leave.new.firsts (texts left) own.items c.folded.result
    _ c.folded.ensures count c.leave.ensures.gone c.leave.ensures.kept firsts
