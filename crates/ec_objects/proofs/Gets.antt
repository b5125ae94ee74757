-- Which texts a node gets with the words of values.
use Rattle.std.proofs.Common.{◌≡◌, List, ℕ, length, sym, ◌∙◌}
use Rattle.ec_objects.specs.Values.{HasWord, HasWords}
use Rattle.ec_stores.specs.Changes.{SameRest}
use Rattle.ec_things.specs.Store.{Store}
use Rattle.ec_things.specs.Texts.{GetsTexts}
use Rattle.ec_world.specs.Group.{Has}
use Rattle.ec_world.specs.declared.value.Value.{Value}
use Rattle.ec_world.specs.declared.value.Value.TheVariants.{Str}

pub gets_word : (s s' : Store) (v : Value) (w : ℕ) → HasWord s s' v w → GetsTexts (λ text. v ≡ Str text) s s'
gets_word s s' v w has = record {
  kind = has.only.grown.kind;
  room = has.only.grown.room;
  text_room = has.only.grown.text_room;
  count = has.only.count;
  texts = has.texts;
  stay = has.only.grown.text;
}

pub gets_words : (s s' : Store) (values : List Value) (words : List ℕ) → HasWords s s' values words →
    GetsTexts (λ text. Has values (Str text)) s s'
gets_words s s' values words has = record {
  kind = has.only.grown.kind;
  room = has.only.grown.room;
  text_room = has.only.grown.text_room;
  count = has.only.count;
  texts = has.texts;
  stay = has.only.grown.text;
}

-- and then no more
pub gets_on : (s m s' : Store) (Added : List ℕ → Type 0) → GetsTexts Added s m → SameRest m s' → GetsTexts Added s s'
gets_on s m s' Added gets rest = record {
  kind = rest.kind ∙ gets.kind;
  room = rest.room ∙ gets.room;
  text_room = rest.text_room ∙ gets.text_room;
  count = rest.count ∙ gets.count;
  texts = λ text. (
    λ h. (gets.texts text).0 (h.0, sym (rest.text h.0) ∙ h.1),
    λ h. let p = (gets.texts text).1 h in (p.0, rest.text p.0 ∙ p.1),
  );
  stay = λ i text e. rest.text i ∙ gets.stay i text e;
}
