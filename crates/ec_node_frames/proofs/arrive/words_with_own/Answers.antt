-- The first word, and those behind it.
use Rattle.std.proofs.Common.{◌≡◌, ℕ, List, ◌∷◌, ◌++◌, sym, ap, ◌∙◌, subst}
use Rattle.ec_node_frames.proofs.Wording.{words_behind}
use Rattle.ec_node_frames.proofs.arrive.words_with_own.Goals as goal
use Rattle.ec_objects.proofs.Rooms.{texts_fit_next}
use Rattle.ec_objects.proofs.Wording.{pool_or_not}
use Rattle.ec_objects.specs.Values.{HasWords}
use Rattle.ec_stores.specs.Node.{store_of}
use Rattle.ec_world.specs.declared.value.Value.TheVariants.{Ref}

pub words_for-requires : goal.words_for-requires
words_for-requires c =
    let word = c.in_ok-own_word.ensures in
    texts_fit_next (store_of c.args.node.now) (store_of c.word_for.new.node) (Ref c.args.own) c.args.values.now c.requires word.texts
    (pool_or_not c.args.node.now.pool.texts) word.spent

pub returns : goal.returns
returns c =
    let s = store_of c.args.node.now in
    let s' = store_of c.words_for.new.node in
    let w = c.in_ok-own_word.own_word in
    let are : c.extend_from_slice.new.self.items ≡ w ∷ c.in_ok-others.others.items =
    c.in_ok-extend_from_slice.ensures.items ∙ ap (λ (ws : List ℕ). ws ++ c.as_slice.result.now) c.in_ok-words.ensures.items
    ∙ ap (λ (ws : List ℕ). w ∷ ws) c.as_slice.ensures.value in
    subst (λ (ws : List ℕ). HasWords s s' (Ref c.args.own ∷ c.args.values.now) ws) (sym are)
    (words_behind s (store_of c.word_for.new.node) s' (Ref c.args.own) w c.args.values.now c.in_ok-others.others.items
    c.in_ok-own_word.ensures c.in_ok-others.ensures)
