-- The word at its home is read as its value.
use Rattle.std.proofs.Common.{◌≡◌, ◌<◌, Option, Some, sym, ap, ◌∙◌, subst}
use Rattle.std.specs.Prelude.{Err, IfOk, IsSome, Ok, Result, refl}
use Rattle.std.proofs.lemmas.Option.{same_Some}
use Rattle.ec_machine_code.specs.Frames.{home_word}
use Rattle.ec_node_frames.proofs.Reading.{word_read}
use Rattle.ec_node_frames.proofs.operands.value_at.Goals as goal
use Rattle.ec_objects.specs.Values.{value_of}
use Rattle.ec_stores.specs.Node.{store_of}
use Rattle.ec_world.specs.declared.key.Key.TheVariants.{Frame}
use Rattle.ec_world.specs.declared.value.Value.{Value}
use Rattle.ec_world.specs.declared.value.ValueType.{ValueType}

there_is : (o : Option Value) (v : Value) → o ≡ Some v → IsSome o
there_is o v e = subst IsSome (sym e) refl

same_value : {E : Type 0} (o : Option Value) (v : Value) (r : Result Value E) → o ≡ Some v → IfOk r (λ u. o ≡ Some u) → IfOk r (λ u. u ≡ v)
same_value o v (Ok u) e f = same_Some u v (sym f ∙ e)
same_value o v (Err x) e f = tt

pub word_in-word-requires-clause-owned : goal.word_in-word-requires-clause-owned
word_in-word-requires-clause-owned c = let r = c.requires.1 in (Frame r.process r.depth, r.first)

pub word_in-word-requires-clause-within : goal.word_in-word-requires-clause-within
word_in-word-requires-clause-within c =
    let home = c.home_word-at.ensures ∙ ap home_word c.home.ensures in
    subst (λ n. n < 128) (sym home) c.requires.1.low

pub value_of-requires : goal.value_of-requires
value_of-requires c =
    let s = store_of c.args.node.now in
    let r = c.requires.1 in
    let home = c.home_word-at.ensures ∙ ap home_word c.home.ensures in
    there_is (value_of s c.kind_of.result c.word_in-word.result) c.requires.0
    (ap (λ (k : ValueType). value_of s k c.word_in-word.result) c.kind_of.ensures
    ∙ word_read s c.args.table.now c.args.block c.args.live c.requires.0 r c.home_word-at.result c.word_in-word.result
    c.kind-kind.ensures.tidy home (c.word_in-word.ensures (Frame r.process r.depth) r.first))

pub returns : goal.returns
returns c = λ v r.
    let s = store_of c.args.node.now in
    let home = c.home_word-at.ensures ∙ ap home_word c.home.ensures in
    same_value (value_of s c.kind_of.result c.word_in-word.result) v c.value_of.result
    (ap (λ (k : ValueType). value_of s k c.word_in-word.result) c.kind_of.ensures
    ∙ word_read s c.args.table.now c.args.block c.args.live v r c.home_word-at.result c.word_in-word.result c.kind-kind.ensures.tidy home
    (c.word_in-word.ensures (Frame r.process r.depth) r.first))
    c.value_of.ensures
