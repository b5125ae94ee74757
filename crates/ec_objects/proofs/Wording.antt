-- Words for values, one after another.
use Rattle.std.proofs.Common.{◌≡◌, ◌≢◌, ℕ, zero, suc, ◌+◌, ◌≤◌, List, [], ◌∷◌, ◌++◌, length, Some}
use Rattle.std.proofs.Common.{refl, sym, ap, ◌∙◌, subst, arith, ◌⊎◌, inl, inr, ⊎_elim}
use Rattle.std.specs.Prelude.{slice_get, take, ◌↔◌}
use Rattle.ec_base.proofs.Lists.{take_next}
use Rattle.ec_objects.specs.Loops.{Wording}
use Rattle.ec_objects.specs.Values.{HasWord, Spends, TextsFit, WordsFor}
use Rattle.ec_stores.proofs.Numbers.{end_or, kept_end, length_more}
use Rattle.ec_stores.specs.Changes.{Interns, OnlyTables, Refers}
use Rattle.ec_things.proofs.Kept.{carries_of, stands_kept}
use Rattle.ec_things.proofs.Put.{same_or_not}
use Rattle.ec_things.specs.Store.{Grown, Stands, Store, Tidy}
use Rattle.ec_things.specs.Texts.{InPool}
use Rattle.ec_world.specs.Group.{Has}
use Rattle.ec_world.specs.declared.value.Value.{Value}
use Rattle.ec_world.specs.declared.value.Value.TheVariants.{Str, Ref}

-- ---- tables that grow

pub grown_on : (a b c : Store) → Grown a b → Grown b c → Grown a c
grown_on a b c g h = record {
  kind = h.kind ∙ g.kind;
  local = λ i o e. h.local i o (g.local i o e);
  text = λ i t e. h.text i t (g.text i t e);
  global = λ i. h.global i ∙ g.global i;
  room = h.room ∙ g.room;
  text_room = h.text_room ∙ g.text_room;
}

pub only_on : (a b c : Store) → OnlyTables a b → OnlyTables b c → OnlyTables a c
only_on a b c g h = record {
  grown = grown_on a b c g.grown h.grown;
  rows = λ key. h.rows key ∙ g.rows key;
  words = λ x i. h.words x i ∙ g.words x i;
  free = h.free ∙ g.free;
  count = h.count ∙ g.count;
  tidy = h.tidy;
}

pub only_self : (s : Store) → Tidy s → OnlyTables s s
only_self s tidy = record {
  grown = record { kind = refl; local = λ i o e. e; text = λ i t e. e; global = λ i. refl; room = refl; text_room = refl };
  rows = λ key. refl;
  words = λ x i. refl;
  free = refl;
  count = refl;
  tidy = tidy;
}

-- ---- lists

pub has_end : {A : Type 0} (xs : List A) (x y : A) → Has (xs ++ x ∷ []) y → Has xs y ⊎ (y ≡ x)
has_end xs x y h = ⊎_elim
    (λ (e : slice_get xs h.at ≡ Some y). inl (record { at = h.at; is = e }))
    (λ (e : (h.at ≡ length xs) × (y ≡ x)). inr e.1)
    (end_or xs x h.at y h.is)

pub has_more : {A : Type 0} (xs : List A) (x y : A) → Has xs y → Has (xs ++ x ∷ []) y
has_more xs x y h = record { at = h.at; is = kept_end xs x h.at y h.is }

pub has_last : {A : Type 0} (xs : List A) (x : A) → Has (xs ++ x ∷ []) x
has_last [] x = record { at = 0; is = refl }
has_last (y ∷ ys) x = let h = has_last ys x in record { at = suc h.at; is = h.is }

pub words_more : (s s' : Store) (values : List Value) (n w : ℕ) (words : List ℕ) (v : Value) → WordsFor s values n words →
    OnlyTables s s' → slice_get values n ≡ Some v → Stands s' v w → WordsFor s' values (n + 1) (words ++ w ∷ [])
words_more s s' values n w words v r only e stands = record {
  many = length_more words w ∙ (let m = r.many in omega arith);
  each = λ i x u f g. ⊎_elim
      (λ (old : slice_get words i ≡ Some x). stands_kept s s' (carries_of s s' only.grown) u x (r.each i x u f old))
      (λ (new : (i ≡ length words) × (x ≡ w)).
      let at : i ≡ n = new.0 ∙ r.many in
      let same : slice_get values n ≡ Some u = ap (slice_get values) (sym at) ∙ f in
      let a : v ≡ u = cc in
      subst (λ k. Stands s' u k) (sym new.1) (subst (λ (q : Value). Stands s' q w) a stands))
      (end_or words w i x g);
}

-- ---- which texts are there

list_or_not : (xs ys : List ℕ) → (xs ≡ ys) ⊎ (xs ≢ ys)
list_or_not [] [] = inl refl
list_or_not [] (y ∷ ys) = inr (λ e. cc)
list_or_not (x ∷ xs) [] = inr (λ e. cc)
list_or_not (x ∷ xs) (y ∷ ys) = ⊎_elim
    (λ (h : x ≡ y). ⊎_elim (λ (t : xs ≡ ys). inl cc) (λ (t : xs ≢ ys). inr (λ e. t cc)) (list_or_not xs ys))
    (λ (h : x ≢ y). inr (λ e. h cc))
    (same_or_not x y)

pub pool_or_not : (pool : List (List ℕ)) (t : List ℕ) →
    ((i : ℕ) × (slice_get pool i ≡ Some t)) ⊎ (((i : ℕ) × (slice_get pool i ≡ Some t)) → ⊥)
pool_or_not [] t = inr (λ h. let e = h.1 in cc)
pool_or_not (x ∷ xs) t = ⊎_elim
    (λ (h : x ≡ t). inl (0, ap Some h))
    (λ (h : x ≢ t). ⊎_elim
    (λ (o : (i : ℕ) × (slice_get xs i ≡ Some t)). inl (suc o.0, o.1))
    (λ (o : ((i : ℕ) × (slice_get xs i ≡ Some t)) → ⊥). inr (λ e. later x xs t h o e.0 e.1))
    (pool_or_not xs t))
    (list_or_not x t)
  where
    later : (x : List ℕ) (xs : List (List ℕ)) (t : List ℕ) → x ≢ t → (((i : ℕ) × (slice_get xs i ≡ Some t)) → ⊥) →
        (i : ℕ) → slice_get (x ∷ xs) i ≡ Some t → ⊥
    later x xs t h o zero e = h cc
    later x xs t h o (suc i) e = o (i, e)

-- the texts of a pool, when one value more has its word
pub texts_more : (old now next : Store) (values : List Value) (n : ℕ) (v : Value) → slice_get values n ≡ Some v →
    ((text : List ℕ) → InPool now text ↔ (InPool old text ⊎ Has (take n values) (Str text))) →
    ((text : List ℕ) → InPool next text ↔ (InPool now text ⊎ (v ≡ Str text))) → (text : List ℕ) →
    InPool next text ↔ (InPool old text ⊎ Has (take (n + 1) values) (Str text))
texts_more old now next values n v e f g text = (
  λ h. ⊎_elim
      (λ (x : InPool now text). ⊎_elim
      (λ (y : InPool old text). inl y)
      (λ (y : Has (take n values) (Str text)). inr (subst (λ (l : List Value). Has l (Str text)) (sym is)
      (has_more (take n values) v (Str text) y)))
      ((f text).0 x))
      (λ (x : v ≡ Str text). inr (subst (λ (l : List Value). Has l (Str text)) (sym is)
      (subst (λ (u : Value). Has (take n values ++ v ∷ []) u) x (has_last (take n values) v))))
      ((g text).0 h),
  λ h. (g text).1 (⊎_elim
      (λ (y : InPool old text). inl ((f text).1 (inl y)))
      (λ (y : Has (take (n + 1) values) (Str text)). ⊎_elim
      (λ (z : Has (take n values) (Str text)). inl ((f text).1 (inr z)))
      (λ (z : Str text ≡ v). inr (sym z))
      (has_end (take n values) v (Str text) (subst (λ (l : List Value). Has l (Str text)) is y)))
      h),
)
  where
    is : take (n + 1) values ≡ take n values ++ v ∷ []
    is = take_next values n v e

pub take_all : {A : Type 0} (xs : List A) (n : ℕ) → length xs ≤ n → take n xs ≡ xs
take_all [] zero h = refl
take_all [] (suc n) h = refl
take_all (x ∷ xs) zero h = absurd (omega arith)
take_all (x ∷ xs) (suc n) h = ap (λ l. x ∷ l) (take_all xs n (omega arith))

-- no value has its word yet
pub no_words : (s : Store) (values : List Value) (words : List ℕ) → Tidy s → TextsFit s values → words ≡ [] → Wording s s values 0 words
no_words s values words tidy fit none = record {
  only = only_self s tidy;
  have = record { many = ap (λ (l : List ℕ). length l) none; each = λ i w v e f. cc };
  texts = λ text. (λ h. inl h, λ h. ⊎_elim (λ (x : InPool s text). x) (λ (x : Has [] (Str text)). absurd (no_item (Str text) x)) h);
  room = fit;
}
  where
    no_item : (v : Value) → Has [] v → ⊥
    no_item v h = let e = h.is in cc

-- ---- a word for a value of each sort

same_texts : (s s' : Store) (v : Value) → ((i : ℕ) → s'.text i ≡ s.text i) → ((t : List ℕ) → v ≡ Str t → ⊥) → (text : List ℕ) →
    InPool s' text ↔ (InPool s text ⊎ (v ≡ Str text))
same_texts s s' v same none text = (
  λ h. inl (h.0, sym (same h.0) ∙ h.1),
  λ h. ⊎_elim (λ (x : InPool s text). (x.0, same x.0 ∙ x.1)) (λ (x : v ≡ Str text). absurd (none text x)) h,
)

pub plain_word : (s : Store) (v : Value) (w : ℕ) → Tidy s → Stands s v w → ((t : List ℕ) → v ≡ Str t → ⊥) → Spends s s v → HasWord s s v w
plain_word s v w tidy stands none spent =
    record { only = only_self s tidy; stands = stands; texts = same_texts s s v (λ i. refl) none; spent = spent }

pub reference_word : (s s' : Store) (oid w : ℕ) → Refers s s' oid w → HasWord s s' (Ref oid) w
reference_word s s' oid w r =
    record { only = r.only; stands = r.is; texts = same_texts s s' (Ref oid) r.texts (λ t e. cc); spent = r.text_free }

pub text_word : (s s' : Store) (t : List ℕ) (w : ℕ) → Interns s s' t w → HasWord s s' (Str t) w
text_word s s' t w h = record {
  only = h.only;
  stands = h.is;
  texts = λ text. (
    λ x. ⊎_elim
        (λ (y : InPool s text). inl y)
        (λ (y : text ≡ t). inr (ap Str (sym y)))
        ((h.texts text).0 x),
    λ x. (h.texts text).1 (⊎_elim
        (λ (y : InPool s text). inl y)
        (λ (y : Str t ≡ Str text). inr cc)
        x),
  );
  spent = (h.kept, h.new);
}
