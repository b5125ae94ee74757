-- A constant of a node gets a value.
use Rattle.std.proofs.Common.{◌≡◌, ◌⊎◌, ℕ, List, Some, sym, ◌∙◌}
use Rattle.std.specs.Prelude.{◌↔◌}
use Rattle.ec_objects.proofs.Creating.{kept_on, only_kept}
use Rattle.ec_objects.specs.Values.{HasWord}
use Rattle.ec_stores.specs.Changes.{WritesGlobal}
use Rattle.ec_things.proofs.Kept.{stands_kept}
use Rattle.ec_things.specs.Changes.{PutsGlobal}
use Rattle.ec_things.specs.Store.{Store, Tidy}
use Rattle.ec_things.specs.Texts.{GetsTexts}
use Rattle.ec_world.specs.declared.value.Value.{Value}
use Rattle.ec_world.specs.declared.value.Value.TheVariants.{Str}

module _ (s m s' : Store) (i w : ℕ) (v : Value) (has : HasWord s m v w) (writes : WritesGlobal m s' i w) where
  pub constant_put : Tidy s' → PutsGlobal s s' i v
  constant_put tidy = record {
    here = record {
      word = w;
      there = writes.here;
      stands = stands_kept m s' (record {
        kind = writes.kind;
        local = λ j oid e. writes.local j ∙ e;
        text = λ j t e. writes.text j ∙ e;
      }) v w has.stands;
    };
    others = λ j ne. writes.others j ne ∙ has.only.grown.global j;
    rows = λ key. kept_on s m s' key (only_kept s m key has.only) (writes.kept key);
    kind = writes.kind ∙ has.only.grown.kind;
    local = λ j oid e. writes.local j ∙ has.only.grown.local j oid e;
    text = λ j t e. writes.text j ∙ has.only.grown.text j t e;
    room = writes.room ∙ has.only.grown.room;
    free = writes.free ∙ has.only.free;
    count = writes.count ∙ has.only.count;
    tidy = λ before. tidy;
  }

  pub constant_texts : GetsTexts (λ text. v ≡ Str text) s s'
  constant_texts = record {
    kind = writes.kind ∙ has.only.grown.kind;
    room = writes.room ∙ has.only.grown.room;
    text_room = writes.text_room ∙ has.only.grown.text_room;
    count = writes.count ∙ has.only.count;
    texts = λ text. (
      λ h. (has.texts text).0 (h.0, sym (writes.text h.0) ∙ h.1),
      λ h. let p = (has.texts text).1 h in (p.0, writes.text p.0 ∙ p.1),
    );
    stay = λ j t e. writes.text j ∙ has.only.grown.text j t e;
  }
