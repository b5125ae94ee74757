-- The words that were made stand for the fields.
use Rattle.std.proofs.Common.{◌≡◌, ℕ, List, Some, None, sym, ◌∙◌, subst}
use Rattle.std.specs.Prelude.{length, Ok, Err, OnOk, Result}
use Rattle.ec_world.specs.declared.key.Key.TheVariants.{Object}
use Rattle.ec_objects.proofs.Creating.{object_comes, object_texts}
use Rattle.ec_objects.proofs.objects.create_object.Goals as goal
use Rattle.ec_objects.specs.Values.{HasWords}
use Rattle.ec_stores.specs.Changes.{PlacedObject}
use Rattle.ec_stores.specs.Node.{store_of}
use Rattle.ec_things.specs.Store.{Store}
use Rattle.ec_things.specs.Texts.{GetsTexts}
use Rattle.ec_things.specs.Things.{Puts, object_thing}
use Rattle.ec_world.specs.Group.{Has}
use Rattle.ec_world.specs.declared.object.ObjectRec.{ObjectRec}
use Rattle.ec_world.specs.declared.value.Value.TheVariants.{Str}

puts_if : {X E : Type 0} (s m s' : Store) (oid : ℕ) (o : ObjectRec) (words : List ℕ) (r : Result X E) → HasWords s m o.fields words →
    s.row (Object oid) ≡ None → OnOk r (PlacedObject m s' oid o.class (length o.fields) o.fixed o.monitor words) →
    OnOk r (Puts s s' (Object oid) (Some (object_thing oid o)))
puts_if s m s' oid o words (Ok x) has new placed = object_comes s m s' oid o words has placed new
puts_if s m s' oid o words (Err e) has new placed = tt

texts_if : {X E : Type 0} (s m s' : Store) (oid : ℕ) (o : ObjectRec) (words : List ℕ) (r : Result X E) → HasWords s m o.fields words →
    s.row (Object oid) ≡ None → OnOk r (PlacedObject m s' oid o.class (length o.fields) o.fixed o.monitor words) →
    OnOk r (GetsTexts (λ text. Has o.fields (Str text)) s s')
texts_if s m s' oid o words (Ok x) has new placed = object_texts s m s' oid o words has placed new
texts_if s m s' oid o words (Err e) has new placed = tt

pub create-requires-clause-new : goal.create-requires-clause-new
create-requires-clause-new c = c.in_ok-words.ensures.only.rows (Object c.args.oid) ∙ c.requires.new

pub returns-clause-puts : goal.returns-clause-puts
returns-clause-puts c =
    puts_if (store_of c.args.node.now) (store_of c.words_for.new.node) (store_of c.create.new.self) c.args.oid
    (record { class = c.args.class; fields = c.args.fields.now; fixed = c.args.fixed; monitor = c.args.monitor })
    c.as_slice.result.now c.create.result
    (subst (λ (ws : List ℕ). HasWords (store_of c.args.node.now) (store_of c.words_for.new.node) c.args.fields.now ws)
    (sym c.as_slice.ensures.value) c.in_ok-words.ensures)
    c.requires.new c.create.ensures

pub returns-clause-gets : goal.returns-clause-gets
returns-clause-gets c =
    texts_if (store_of c.args.node.now) (store_of c.words_for.new.node) (store_of c.create.new.self) c.args.oid
    (record { class = c.args.class; fields = c.args.fields.now; fixed = c.args.fixed; monitor = c.args.monitor })
    c.as_slice.result.now c.create.result
    (subst (λ (ws : List ℕ). HasWords (store_of c.args.node.now) (store_of c.words_for.new.node) c.args.fields.now ws)
    (sym c.as_slice.ensures.value) c.in_ok-words.ensures)
    c.requires.new c.create.ensures
