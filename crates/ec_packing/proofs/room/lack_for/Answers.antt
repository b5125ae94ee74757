-- What is needed is what all parcels want together.
use Rattle.std.proofs.Common.{List, map, sym, ◌∙◌, subst}
use Rattle.ec_packing.proofs.Lacking.{told_lack, told_room}
use Rattle.ec_parcels.specs.Owners as spec
use Rattle.ec_packing.proofs.room.lack_for.Goals as goal
use Rattle.ec_stores.specs.Node.{store_of}
use Rattle.ec_things.specs.Texts.{NewBytes}
use Rattle.ec_world.specs.Group.{Has}
use Rattle.ec_world.specs.declared.value.Value.{Value}
use Rattle.ec_world.specs.declared.value.Value.TheVariants.{Str}

-- the texts of the values that were copied are those of all parcels
new_of : (c : goal.After-drop-values-2) →
    NewBytes (λ text. Has (spec.all_values (map (λ p. p.now) c.args.parcels.now)) (Str text)) (store_of c.args.node.now) c.from-2.result
new_of c =
    subst
    (λ n. NewBytes (λ text. Has (spec.all_values (map (λ p. p.now) c.args.parcels.now)) (Str text)) (store_of c.args.node.now) n)
    (sym c.from-2.ensures)
    (subst (λ (vs : List Value). NewBytes (λ text. Has vs (Str text)) (store_of c.args.node.now) c.in_ok-bytes.bytes)
    (c.as_slice.ensures.value ∙ c.in_ok-values.ensures) c.in_ok-bytes.ensures)

pub returns-clause-some : goal.returns-clause-some
returns-clause-some c =
    told_lack (store_of c.args.node.now) c.args.number (spec.all_blocks c.args.numbers.now (map (λ p. p.now) c.args.parcels.now))
    (spec.all_values (map (λ p. p.now) c.args.parcels.now)) c.in_ok-blocks.blocks c.from.result c.from-2.result c.from-3.result
    c.in_ok-blocks.ensures (c.from.ensures ∙ c.free_blocks.ensures) (new_of c) (c.from-3.ensures ∙ c.text_free.ensures) c.lack_at.result
    c.lack_at.ensures.some

pub returns-clause-none : goal.returns-clause-none
returns-clause-none c =
    told_room (store_of c.args.node.now) c.args.number (spec.all_blocks c.args.numbers.now (map (λ p. p.now) c.args.parcels.now))
    (spec.all_values (map (λ p. p.now) c.args.parcels.now)) c.in_ok-blocks.blocks c.from.result c.from-2.result c.from-3.result
    c.in_ok-blocks.ensures (c.from.ensures ∙ c.free_blocks.ensures) (new_of c) (c.from-3.ensures ∙ c.text_free.ensures) c.lack_at.result
    c.lack_at.ensures.none
