-- The words so far, and one more.
use Rattle.std.proofs.Common.{◌≡◌, ◌+◌, List, ℕ, sym, ap, ◌∙◌, subst, arith, Some}
use Rattle.std.specs.Prelude.{drop, length, slice_get, ◌↔◌, ◌⊎◌}
use Rattle.std.proofs.lemmas.Option.{slice_get-get_or}
use Rattle.ec_base.proofs.Lists.{drop_at}
use Rattle.ec_objects.proofs.Rooms.{first_has_room, texts_fit_next}
use Rattle.ec_objects.proofs.Wording.{no_words, only_on, pool_or_not, take_all, texts_more, words_more}
use Rattle.ec_objects.proofs.values.words_for.Goals as goal
use Rattle.ec_objects.specs.Values.{TextsFit, WordsFor}
use Rattle.ec_stores.specs.Node.{store_of}
use Rattle.ec_things.specs.Texts.{InPool}
use Rattle.ec_world.specs.Group.{Has}
use Rattle.ec_world.specs.declared.value.Value.{Value}
use Rattle.ec_world.specs.declared.value.Value.TheVariants.{Str}

pub loop-i-init : goal.loop-i-init
loop-i-init c =
    no_words (store_of c.args.node.now) c.args.values.now c.new-words.result.items c.kind-kind.ensures.tidy c.requires
    c.new-words.ensures.items

pub word_for-requires : goal.word_for-requires
word_for-requires c =
    let e : slice_get c.args.values.now c.loop-i.i ≡ Some c.index-values-i.result =
    slice_get-get_or c.args.values.now c.loop-i.i c.index-values-i.result (omega arith) ∙ ap Some (sym c.index-values-i.is) in
    let fit =
    subst (λ (l : List Value). TextsFit (store_of c.loop-i.node) l) (drop_at c.args.values.now c.loop-i.i c.index-values-i.result e)
    c.loop-i.invariant.room in
    first_has_room (store_of c.loop-i.node) c.index-values-i.result (drop (c.loop-i.i + 1) c.args.values.now) fit

pub loop-i-preserved : goal.loop-i-preserved
loop-i-preserved c =
    let inv = c.loop-i.invariant in
    let now = store_of c.loop-i.node in
    let next = store_of c.word_for.new.node in
    let e : slice_get c.args.values.now c.loop-i.i ≡ Some c.index-values-i.result =
    slice_get-get_or c.args.values.now c.loop-i.i c.index-values-i.result (omega arith) ∙ ap Some (sym c.index-values-i.is) in
    let word = c.in_ok-word.ensures in
    let more =
    words_more now next c.args.values.now c.loop-i.i c.in_ok-word.word c.loop-i.words.items c.index-values-i.result inv.have word.only e
    word.stands in
    let fit =
    subst (λ (l : List Value). TextsFit now l) (drop_at c.args.values.now c.loop-i.i c.index-values-i.result e) inv.room in
    record {
      only = only_on (store_of c.args.node.now) now next inv.only word.only;
      have = subst (λ (l : List ℕ). WordsFor next c.args.values.now (c.loop-i.i + 1) l) (sym c.in_ok-push.ensures.items) more;
      texts =
          texts_more (store_of c.args.node.now) now next c.args.values.now c.loop-i.i c.index-values-i.result e inv.texts word.texts;
      room =
          texts_fit_next now next c.index-values-i.result (drop (c.loop-i.i + 1) c.args.values.now) fit word.texts
          (pool_or_not c.loop-i.node.pool.texts) word.spent;
    }

pub returns : goal.returns
returns c =
    let inv = c.loop-i.invariant in
    let all : c.loop-i.i ≡ length c.args.values.now = omega arith in
    record {
      only = inv.only;
      are = subst (λ n. WordsFor (store_of c.loop-i.node) c.args.values.now n c.loop-i.words.items) all inv.have;
      texts =
          subst
          (λ (l : List Value). (text : List ℕ) →
          InPool (store_of c.loop-i.node) text ↔ (InPool (store_of c.args.node.now) text ⊎ Has l (Str text)))
          (take_all c.args.values.now c.loop-i.i (omega (arith, all))) inv.texts;
    }
