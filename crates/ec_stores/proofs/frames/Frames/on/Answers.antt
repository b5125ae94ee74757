use Rattle.std.proofs.Common.{◌≡◌, List, ℕ, ap, ◌∙◌, subst, rules}
use Rattle.std.proofs.lemmas.Iterator.{YieldsList-from_map, items_from_collect}
use Rattle.std.proofs.lemmas.Iterator.Consumers.{YieldsList-at, YieldsList-from_copied, YieldsList-from_rest}
use Rattle.std.specs.BTreeSet.{keys_between}
use Rattle.std.specs.declared.ops.Bound.TheVariants.{Included}
use Rattle.ec_stores.proofs.Standing.{keys_on, on_if, place_of}
use Rattle.ec_stores.proofs.frames.Frames.on.Goals as goal
use Rattle.ec_stores.specs.Tables.{AreStanding, standing_cmp}
use Rattle.ec_stores.specs.declared.rows.FrameRow.{FrameRow}

pub returns : goal.returns
returns c =
    let set = c.self.inside.standing in
    let is : c.range.result ≡ keys_on set c.args.oid =
    c.range.ensures.between c.new.ensures.exhausted
    ∙ ap (λ (k : ℕ × ℕ × ℕ). keys_between standing_cmp (Included k) (Included c.new.result.end) set) c.new.ensures.start
    ∙ ap (λ (k : ℕ × ℕ × ℕ). keys_between standing_cmp (Included (c.args.oid, 0, 0)) (Included k) set) c.new.ensures.end in
    on_if set c.args.self.now
    (subst (λ (fs : List ((ℕ × ℕ) × FrameRow)). AreStanding set fs) c.self.view_is c.self.invariant) c.args.oid c.collect.result
    c.range.ensures.ordered
    (items_from_collect c.collect.result c.collect.ensures.ran
    (YieldsList-from_map _ place_of
    (YieldsList-at c.map.ensures.source
    (YieldsList-from_copied (YieldsList-from_rest (keys_on set c.args.oid) (c.copied.ensures.source ∙ is))))
    c.map.ensures.closure (λ x r q k. search rules)))
