-- A word for a value of each sort.
use Rattle.std.proofs.Common.{◌≡◌, List, ℕ, sym, ap, ◌∙◌, subst}
use Rattle.std.specs.Prelude.{IfOk, Ok, Err, Result}
use Rattle.ec_objects.proofs.Wording.{text_word}
use Rattle.ec_objects.proofs.values.word_for.Goals as goal
use Rattle.ec_objects.specs.Values.{HasWord}
use Rattle.ec_stores.specs.Changes.{Interns}
use Rattle.ec_stores.specs.Node.{store_of}
use Rattle.ec_things.specs.Store.{Store}
use Rattle.ec_world.specs.declared.value.Value.{Value}
use Rattle.ec_world.specs.declared.value.Value.TheVariants.{Str}

text_words : {E : Type 0} (s s' : Store) (v : Value) (t : List ℕ) (r : Result ℕ E) → v ≡ Str t → IfOk r (λ w. Interns s s' t w) →
    IfOk r (λ w. HasWord s s' v w)
text_words s s' v t (Ok w) is h = subst (λ x. HasWord s s' x w) (sym is) (text_word s s' t w h)
text_words s s' v t (Err e) is h = tt

pub returns-in_ok-copy_text-in-Str : goal.returns-in_ok-copy_text-in-Str
returns-in_ok-copy_text-in-Str c =
    text_words (store_of c.args.node.now) (store_of c.intern.new.self) c.args.value.now c.in_ok-copy_text-in-Str.field-0 c.intern.result
    (c.in-Str.is ∙ ap Str (sym c.in_ok-copy_text-in-Str.ensures)) c.intern.ensures
