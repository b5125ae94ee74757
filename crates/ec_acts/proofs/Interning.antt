-- Texts come to a node one after another.
use Rattle.std.proofs.Common.{◌≡◌, ◌≢◌, ◌⊎◌, ℕ, zero, suc, ◌+◌, ◌<◌, ◌≤◌, List, [], ◌∷◌, length, take, Option, Some, None, refl, sym, ap}
use Rattle.std.proofs.Common.{◌∙◌, arith, inl, inr, ⊎_elim}
use Rattle.std.specs.Prelude.{slice_get}
use Rattle.std.proofs.lemmas.Option.{same_Some}
use Rattle.ec_base.proofs.Lists.{get_there, get_within, take_next}
use Rattle.ec_acts.proofs.Keeping.{same_on, same_self}
use Rattle.ec_acts.specs.Fresh.{Interned}
use Rattle.ec_world.specs.Held.{Distinct}
use Rattle.ec_world.specs.Words.{text_bytes}
use Rattle.ec_stores.proofs.Naming.{bytes_end}
use Rattle.ec_stores.specs.Changes.{HasTexts, Interns}
use Rattle.ec_things.proofs.Put.{same_or_not}
use Rattle.ec_things.specs.Store.{Store, Tidy}
use Rattle.ec_things.specs.Texts.{InPool}

pub none_interned : (texts : List (List ℕ)) (s : Store) → ((i : ℕ) → s.text i ≡ None) → Tidy s → Interned texts 0 s s
none_interned texts s none tidy = record {
  same = same_self s tidy;
  global = λ i. refl;
  there = λ i t l e. absurd (omega arith);
  only = λ i t e. absurd (let n = none i in cc);
  bytes = no_bytes texts;
}
  where
    no_bytes : (ts : List (List ℕ)) → text_bytes (take 0 ts) + s.text_free ≡ s.text_free
    no_bytes [] = omega arith
    no_bytes (t ∷ ts) = omega arith

-- a text has no more bytes than it and those before it
bytes_before : (texts : List (List ℕ)) (i : ℕ) (text : List ℕ) → slice_get texts i ≡ Some text →
    text_bytes (take i texts) + length text ≤ text_bytes texts
bytes_before [] i text e = absurd cc
bytes_before (t ∷ ts) zero text e = let is : length t ≡ length text = ap length (same_Some t text e) in omega (arith, is)
bytes_before (t ∷ ts) (suc i) text e = let h = bytes_before ts i text e in omega (arith, h)

less_or_more : (a b : ℕ) → a ≢ b → (a < b) ⊎ (b < a)
less_or_more zero zero ne = absurd (ne refl)
less_or_more zero (suc b) ne = inl (omega arith)
less_or_more (suc a) zero ne = inr (omega arith)
less_or_more (suc a) (suc b) ne = ⊎_elim
    (λ (l : a < b). inl (omega (arith, l)))
    (λ (l : b < a). inr (omega (arith, l)))
    (less_or_more a b (λ e. ne (ap suc e)))

module _ (texts : List (List ℕ)) (n : ℕ) (old now : Store) (so : Interned texts n old now) (text : List ℕ)
    (is : slice_get texts n ≡ Some text) where
  pub has_room : text_bytes texts ≤ old.text_free → length text ≤ now.text_free
  has_room room =
      let before = bytes_before texts n text is in
      let bytes = so.bytes in
      omega (arith, before, bytes, room)

  module _ (once : Distinct texts) (new : Store) (word : ℕ) (interns : Interns now new text word) where
    is_new : InPool now text → ⊥
    is_new h =
        let was = so.only h.0 text h.1 in
        let same : h.0 ≡ n = once.once h.0 n text was.1 is in
        absurd (let l = was.0 in omega (arith, same, l))

    -- its place is behind those that came before it
    at_place : word ≡ n
    at_place = ⊎_elim (λ (e : word ≡ n). e) (λ (ne : word ≢ n). absurd (elsewhere ne)) (same_or_not word n)
      where
        has : HasTexts now word
        has = interns.at_end is_new

        low : word < n → ⊥
        low l =
            let t = get_there texts word (let h = get_within texts n text is in omega (arith, l, h)) in
            let here = so.there word t.0 l t.1 in
            let none = has.from word (omega arith) in
            absurd cc

        high : n < word → ⊥
        high l =
            let t = has.below n l in
            let was = so.only n t.0 t.1 in
            absurd (let b = was.0 in omega (arith, b))

        elsewhere : word ≢ n → ⊥
        elsewhere ne = ⊎_elim low high (less_or_more word n ne)

    here : new.text n ≡ Some text
    here = ap new.text (sym at_place) ∙ interns.is

    there_now : (i : ℕ) (t : List ℕ) → i < n + 1 → slice_get texts i ≡ Some t → new.text i ≡ Some t
    there_now i t l e = ⊎_elim
        (λ (same : i ≡ n). let got : slice_get texts n ≡ Some t = ap (slice_get texts) (sym same) ∙ e in
        ap new.text same ∙ here ∙ (sym is ∙ got))
        (λ (ne : i ≢ n). interns.only.grown.text i t (so.there i t (omega arith) e))
        (same_or_not i n)

    only_now : (i : ℕ) (t : List ℕ) → new.text i ≡ Some t → (i < n + 1) × (slice_get texts i ≡ Some t)
    only_now i t e = ⊎_elim
        (λ (old_one : InPool now t).
        let was = so.only old_one.0 t old_one.1 in
        let same : old_one.0 ≡ i = interns.only.tidy.texts old_one.0 i t (interns.only.grown.text old_one.0 t old_one.1) e in
        (let l = was.0 in omega (arith, l, same), ap (slice_get texts) (sym same) ∙ was.1))
        (λ (new_one : t ≡ text).
        let same : n ≡ i = interns.only.tidy.texts n i t (here ∙ ap Some (sym new_one)) e in
        (omega (arith, same), ap (slice_get texts) (sym same) ∙ is ∙ ap Some (sym new_one)))
        ((interns.texts t).0 (i, e))

    pub one_interned : Interned texts (n + 1) old new
    one_interned = record {
      same = same_on old now new so.same (record {
        kind = interns.only.grown.kind;
        rows = interns.only.rows;
        room = interns.only.grown.room;
        free = interns.only.free;
        text_room = interns.only.grown.text_room;
        count = interns.only.count;
        tidy = interns.only.tidy;
      });
      global = λ i. interns.only.grown.global i ∙ so.global i;
      there = there_now;
      only = only_now;
      bytes = (let more = ap text_bytes (take_next texts n text is) in let end = bytes_end (take n texts) text in
          let bytes = so.bytes in
          let spent = interns.new is_new in
          omega (arith, more, end, bytes, spent));
    }

-- all have come, each at its number
pub all_interned : (texts : List (List ℕ)) (n : ℕ) (old now : Store) → length texts ≤ n → Interned texts n old now → (i : ℕ) →
    now.text i ≡ slice_get texts i
all_interned texts n old now all so i = by (slice_get texts i) refl
  where
    absent : (y : Option (List ℕ)) → slice_get texts i ≡ None → now.text i ≡ y → now.text i ≡ None
    absent None e f = f
    absent (Some t) e f = let h = so.only i t f in absurd (let g = h.1 in cc)

    by : (x : Option (List ℕ)) → slice_get texts i ≡ x → now.text i ≡ x
    by None e = absent (now.text i) e refl
    by (Some t) e = so.there i t (let l = get_within texts i t e in omega (arith, l, all)) e
