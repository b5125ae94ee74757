-- An object comes with words for its values.
use Rattle.std.proofs.Common.{◌≡◌, ℕ, zero, suc, List, [], ◌∷◌, length, Some, None, refl, sym, ap, ◌∙◌, arith}
use Rattle.std.specs.Prelude.{slice_get}
use Rattle.ec_base.proofs.Lists.{get_there, get_within}
use Rattle.ec_world.specs.declared.key.Key.TheVariants.{Object}
use Rattle.ec_objects.proofs.Gets.{gets_on, gets_words}
use Rattle.ec_objects.proofs.Wording.{grown_on}
use Rattle.ec_world.specs.declared.key.Key.{Key}
use Rattle.ec_objects.specs.Values.{HasWords, TextsFit}
use Rattle.ec_stores.proofs.Putting.{created_puts, rest_grown}
use Rattle.ec_stores.specs.Changes.{OnlyTables, PlacedObject}
use Rattle.ec_things.proofs.Kept.{carries_of, stands_kept}
use Rattle.ec_things.specs.Store.{KeptRow, Stands, Store}
use Rattle.ec_things.specs.Texts.{GetsTexts}
use Rattle.ec_things.specs.Things.{Puts, object_thing, row_size}
use Rattle.ec_world.specs.Group.{Has}
use Rattle.ec_world.specs.declared.object.ObjectRec.{ObjectRec}
use Rattle.ec_world.specs.declared.value.Value.{Value}
use Rattle.ec_world.specs.declared.value.Value.TheVariants.{Int, Str, Ref, Nil, Bool as Truth}

pub kept_on : (a b c : Store) (key : Key) → KeptRow a b key → KeptRow b c key → KeptRow a c key
kept_on a b c key g h = record {
  row = h.row ∙ g.row;
  words = λ r x i e has l. h.words r x i (g.row ∙ e) has l ∙ g.words r x i e has l;
}

pub only_kept : (a b : Store) (key : Key) → OnlyTables a b → KeptRow a b key
only_kept a b key only = record { row = only.rows key; words = λ r x i e has l. only.words x i }

module _ (s m s' : Store) (oid : ℕ) (o : ObjectRec) (words : List ℕ) (has : HasWords s m o.fields words)
    (placed : PlacedObject m s' oid o.class (length o.fields) o.fixed o.monitor words) (new : s.row (Object oid) ≡ None) where
  -- placing leaves references and texts as they were
  stands_after : (i : ℕ) (v : Value) → slice_get o.fields i ≡ Some v → (w : ℕ) × (slice_get words i ≡ Some w) × Stands s' v w
  stands_after i v e =
      let w = get_there words i (let l = get_within o.fields i v e in let k = has.are.many in omega (arith, l, k)) in
      (w.0, w.1, stands_kept m s' (carries_of m s' (rest_grown m s' placed.placed.rest)) v w.0 (has.are.each i w.0 v e w.1))

  puts_here : Puts m s' (Object oid) (Some (object_thing oid o))
  puts_here = created_puts m s' oid o words placed (has.only.rows (Object oid) ∙ new) stands_after

  pub object_comes : Puts s s' (Object oid) (Some (object_thing oid o))
  object_comes = record {
    here = puts_here.here;
    others = λ other ne. kept_on s m s' other (only_kept s m other has.only) (puts_here.others other ne);
    grown = grown_on s m s' has.only.grown puts_here.grown;
    tidy = λ before. placed.placed.tidy;
    free =
        let f = puts_here.free in
        let g = has.only.free in
        let r : row_size (m.row (Object oid)) ≡ row_size (s.row (Object oid)) = ap row_size (has.only.rows (Object oid)) in
        omega (arith, f, g, r);
    count = puts_here.count ∙ has.only.count;
  }

  pub object_texts : GetsTexts (λ text. Has o.fields (Str text)) s s'
  object_texts = gets_on s m s' (λ text. Has o.fields (Str text)) (gets_words s m o.fields words has) placed.placed.rest

-- none of these is a text
abbrev pub AreNoTexts : List Value → Type 0
AreNoTexts [] = Unit {0}
AreNoTexts (Str t ∷ vs) = ⊥
AreNoTexts (Int z ∷ vs) = AreNoTexts vs
AreNoTexts (Truth b ∷ vs) = AreNoTexts vs
AreNoTexts (Ref o ∷ vs) = AreNoTexts vs
AreNoTexts (Nil ∷ vs) = AreNoTexts vs

none_has : (vs : List Value) (i : ℕ) (text : List ℕ) → AreNoTexts vs → slice_get vs i ≡ Some (Str text) → ⊥
none_has [] i text n e = cc
none_has (Str t ∷ vs) i text n e = n
none_has (Int z ∷ vs) zero text n e = cc
none_has (Int z ∷ vs) (suc i) text n e = none_has vs i text n e
none_has (Truth b ∷ vs) zero text n e = cc
none_has (Truth b ∷ vs) (suc i) text n e = none_has vs i text n e
none_has (Ref o ∷ vs) zero text n e = cc
none_has (Ref o ∷ vs) (suc i) text n e = none_has vs i text n e
none_has (Nil ∷ vs) zero text n e = cc
none_has (Nil ∷ vs) (suc i) text n e = none_has vs i text n e

pub no_texts_fit : (s : Store) (vs : List Value) → AreNoTexts vs → TextsFit s vs
no_texts_fit s vs none = record {
  bytes = 0;
  needs = record {
    texts = [];
    once = record { once = λ i j x e f. cc };
    these = λ text. (
      λ (h : Has [] text). let e = h.is in cc,
      λ h. absurd (none_has vs h.0.at text none h.0.is),
    );
    bytes = refl;
  };
  fits = omega arith;
}
