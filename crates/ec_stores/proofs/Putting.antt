-- What a call leaves of a store is one owner changed, which is now this thing or none.
use Rattle.std.proofs.Common.{◌≡◌, ℕ, List, length, Some, None, refl, ap, ◌∙◌, arith}
use Rattle.std.specs.Prelude.{slice_get}
use Rattle.ec_world.specs.declared.key.Key.{Key}
use Rattle.ec_world.specs.declared.key.Key.TheVariants.{Object}
use Rattle.ec_things.specs.Store.{Grown, Owned, Stands, Store}
use Rattle.ec_things.specs.Things.{Puts, Thing, object_thing, row_size}
use Rattle.ec_world.specs.declared.object.ObjectRec.{ObjectRec}
use Rattle.ec_world.specs.declared.value.Value.{Value}
use Rattle.ec_stores.specs.Changes.{Closed, Placed, PlacedObject, SameRest, object_row}

pub rest_grown : (s s' : Store) → SameRest s s' → Grown s s'
rest_grown s s' r = record {
  kind = r.kind;
  local = λ i o e. r.local i ∙ e;
  text = λ i t e. r.text i ∙ e;
  global = r.global;
  room = r.room;
  text_room = r.text_room;
}

-- ---- an owner comes: its words are those given, which stand for what the thing is

-- a given word stands for value i of a thing
pub record GivenAt (s : Store) (given : List ℕ) (t : Thing) (i : ℕ) (v : Value) : Type 0 where
  pub at : ℕ
  pub word : ℕ
  pub spot : t.spot s.kind i ≡ Some at
  pub there : slice_get given at ≡ Some word
  pub stands : Stands s v word

pub placed_puts : (s s' : Store) (key : Key) (row : Owned) (given : List ℕ) (t : Thing) → Placed s s' key row given → s.row key ≡ None →
    row.home ≡ t.home → length row.blocks ≡ t.blocks → row.size ≡ t.size → row.class ≡ t.class → row.fixed ≡ t.fixed → row.monitor ≡ t.monitor →
    ((i n : ℕ) → slice_get t.heads i ≡ Some n → slice_get given i ≡ Some n) →
    ((i : ℕ) (v : Value) → slice_get t.values i ≡ Some v → GivenAt s' given t i v) → Puts s s' key (Some t)
placed_puts s s' key row given t placed new home counted size class fixed monitor heads values = record {
  here = record {
    row = row;
    there = placed.here;
    spells = record {
      home = home;
      counted = counted;
      size = size;
      class = class;
      fixed = fixed;
      monitor = monitor;
      heads = λ i n e. placed.words i n (heads i n e);
      values = λ i v e.
          let x = values i v e in
          (x.at, x.spot, record { word = x.word; there = placed.words x.at x.word x.there; stands = x.stands });
    };
  };
  others = placed.others;
  grown = rest_grown s s' placed.rest;
  tidy = λ before. placed.tidy;
  free = (let f = placed.free in let r : row_size (s.row key) ≡ 0 = ap row_size new in omega arith);
  count = placed.rest.count;
}

-- an object comes, with a word for each of its fields or elements in their order
pub created_puts : (s s' : Store) (oid : ℕ) (o : ObjectRec) (words : List ℕ) →
    PlacedObject s s' oid o.class (length o.fields) o.fixed o.monitor words → s.row (Object oid) ≡ None →
    ((i : ℕ) (v : Value) → slice_get o.fields i ≡ Some v → (w : ℕ) × (slice_get words i ≡ Some w) × Stands s' v w) →
    Puts s s' (Object oid) (Some (object_thing oid o))
created_puts s s' oid o words p new stand =
    placed_puts s s' (Object oid) (object_row oid p.blocks (length o.fields) o.class o.fixed o.monitor) words (object_thing oid o) p.placed new
    refl p.many refl refl refl refl (λ i n e. cc)
    (λ i v e. let x = stand i v e in record { at = i; word = x.0; spot = refl; there = x.1; stands = x.2 })

-- ---- an owner goes

pub closed_puts : (s s' : Store) (key : Key) → Closed s s' key → Puts s s' key None
closed_puts s s' key closed = record {
  here = closed.gone;
  others = closed.others;
  grown = rest_grown s s' closed.rest;
  tidy = λ before. closed.tidy;
  free = (let f = closed.free in omega arith);
  count = closed.rest.count;
}
