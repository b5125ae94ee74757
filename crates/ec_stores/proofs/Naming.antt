-- Local references and texts of a node, found or made.
use Rattle.std.proofs.Common.{◌≡◌, ◌≢◌, ℕ, zero, suc, ◌+◌, ◌-◌, ◌≤◌, List, [], ◌∷◌, ◌++◌, length, Some, refl, sym, ap, ◌∙◌, subst}
use Rattle.std.proofs.Common.{arith, inl, inr, ⊎_elim}
use Rattle.std.specs.Prelude.{slice_get}
use Rattle.ec_base.proofs.Lists.{get_there}
use Rattle.ec_world.proofs.Procs.{get_end, get_past}
use Rattle.ec_world.specs.Words.{text_bytes}
use Rattle.ec_things.specs.Texts.{InPool}
use Rattle.ec_stores.specs.Changes.{Interns, OnlyTables, Refers}
use Rattle.ec_stores.specs.Node.{Laid, NodeData, store_of}
use Rattle.ec_stores.specs.Tables.{TextPool, local_in}
use Rattle.ec_stores.proofs.Finding.{local_kept}
use Rattle.ec_stores.proofs.Numbers.{end_or, kept_end}
use Rattle.ec_stores.proofs.Placing.{tidy_laid}

-- ---- nothing has changed

only_same : (node : NodeData) → Laid node → OnlyTables (store_of node) (store_of node)
only_same node laid = record {
  grown = record { kind = refl; local = λ j o h. h; text = λ j t h. h; global = λ j. refl; room = refl; text_room = refl };
  rows = λ key. refl;
  words = λ b j. refl;
  free = refl;
  count = refl;
  tidy = tidy_laid node laid;
}

pub found_refers : (node : NodeData) (oid word : ℕ) → Laid node → local_in node.locals word ≡ Some oid →
    Refers (store_of node) (store_of node) oid word
found_refers node oid word laid is = record { only = only_same node laid; is = is; texts = λ i. refl; text_free = refl }

pub found_interns : (node : NodeData) (text : List ℕ) (place : ℕ) → Laid node → slice_get node.pool.texts place ≡ Some text →
    Interns (store_of node) (store_of node) text place
found_interns node text place laid is = record {
  only = only_same node laid;
  is = is;
  texts = λ other. (
    (λ h. inl h),
    (λ h. ⊎_elim (λ (old : InPool (store_of node) other). old) (λ (same : other ≡ text). (place, is ∙ ap Some (sym same))) h),
  );
  locals = λ i. refl;
  kept = λ h. refl;
  new = λ h. absurd (h (place, is));
  at_end = λ h. absurd (h (place, is));
}

-- ---- a reference comes

locals_once : (xs : List ℕ) (x : ℕ) → ((i : ℕ) → slice_get xs i ≢ Some x) →
    ((i j o : ℕ) → local_in xs i ≡ Some o → local_in xs j ≡ Some o → i ≡ j) → (i j o : ℕ) → local_in (xs ++ x ∷ []) i ≡ Some o →
    local_in (xs ++ x ∷ []) j ≡ Some o → i ≡ j
locals_once xs x new old zero j o e f = cc
locals_once xs x new old (suc i) zero o e f = cc
locals_once xs x new old (suc i) (suc j) o e f = ⊎_elim
    (λ (a : slice_get xs i ≡ Some o). ⊎_elim
    (λ (b : slice_get xs j ≡ Some o). old (suc i) (suc j) o a b)
    (λ (b : (j ≡ length xs) × (o ≡ x)). absurd (new i (a ∙ ap Some b.1)))
    (end_or xs x j o f))
    (λ (a : (i ≡ length xs) × (o ≡ x)). ⊎_elim
    (λ (b : slice_get xs j ≡ Some o). absurd (new j (b ∙ ap Some a.1)))
    (λ (b : (j ≡ length xs) × (o ≡ x)). ap suc (a.0 ∙ sym b.0))
    (end_or xs x j o f))
    (end_or xs x i o e)

module _ (node : NodeData) (oid : ℕ) (locals : List ℕ) (laid : Laid node) (new : (i : ℕ) → slice_get node.locals i ≢ Some oid)
    (is : locals ≡ node.locals ++ oid ∷ []) where
  pub laid_local : Laid (record node { locals = locals })
  laid_local = record {
    order = laid.order;
    whole = laid.whole;
    owners = laid.owners;
    locals = subst (λ (ls : List ℕ). (i j o : ℕ) → local_in ls i ≡ Some o → local_in ls j ≡ Some o → i ≡ j) (sym is)
        (locals_once node.locals oid new laid.locals);
    texts = laid.texts;
    filled = laid.filled;
  }

  pub made_refers : (word : ℕ) → word ≡ length node.locals + 1 →
      Refers (store_of node) (store_of (record node { locals = locals })) oid word
  made_refers word n = record {
    only = record {
      grown = record {
        kind = refl;
        local = λ j o h. ap (λ (ls : List ℕ). local_in ls j) is ∙ local_kept node.locals oid j o h;
        text = λ j t h. h;
        global = λ j. refl;
        room = refl;
        text_room = refl;
      };
      rows = λ key. refl;
      words = λ b j. refl;
      free = refl;
      count = refl;
      tidy = tidy_laid (record node { locals = locals }) laid_local;
    };
    is = (let w : word ≡ suc (length node.locals) = omega arith in
        ap (local_in locals) w ∙ ap (λ (ls : List ℕ). slice_get ls (length node.locals)) is ∙ get_end node.locals oid);
    texts = λ j. refl;
    text_free = refl;
  }

-- ---- a text comes

pub texts_once : (pool : List (List ℕ)) (text : List ℕ) → ((i : ℕ) → slice_get pool i ≢ Some text) →
    ((i j : ℕ) (t : List ℕ) → slice_get pool i ≡ Some t → slice_get pool j ≡ Some t → i ≡ j) → (i j : ℕ) (t : List ℕ) →
    slice_get (pool ++ text ∷ []) i ≡ Some t → slice_get (pool ++ text ∷ []) j ≡ Some t → i ≡ j
texts_once pool text new old i j t e f = ⊎_elim
    (λ (a : slice_get pool i ≡ Some t). ⊎_elim
    (λ (b : slice_get pool j ≡ Some t). old i j t a b)
    (λ (b : (j ≡ length pool) × (t ≡ text)). absurd (new i (a ∙ ap Some b.1)))
    (end_or pool text j t f))
    (λ (a : (i ≡ length pool) × (t ≡ text)). ⊎_elim
    (λ (b : slice_get pool j ≡ Some t). absurd (new j (b ∙ ap Some a.1)))
    (λ (b : (j ≡ length pool) × (t ≡ text)). a.0 ∙ sym b.0)
    (end_or pool text j t f))
    (end_or pool text i t e)

pub bytes_end : (pool : List (List ℕ)) (text : List ℕ) → text_bytes (pool ++ text ∷ []) ≡ text_bytes pool + length text
bytes_end [] text = omega arith
bytes_end (t ∷ ts) text = let e = bytes_end ts text in omega (arith, e)

module _ (node : NodeData) (text : List ℕ) (pool : TextPool) (laid : Laid node)
    (new : (i : ℕ) → slice_get node.pool.texts i ≢ Some text)
    (is : pool ≡ record { texts = node.pool.texts ++ text ∷ []; room = node.pool.room; free = node.pool.free - length text })
    (room : length text ≤ node.pool.free) where
  not_in_pool : InPool (store_of node) text → ⊥
  not_in_pool h = new h.0 h.1

  texts_are : pool.texts ≡ node.pool.texts ++ text ∷ []
  texts_are = ap (λ (p : TextPool). p.texts) is

  room_is : pool.room ≡ node.pool.room
  room_is = ap (λ (p : TextPool). p.room) is

  pub laid_text : Laid (record node { pool = pool })
  laid_text = record {
    order = laid.order;
    whole = laid.whole;
    owners = laid.owners;
    locals = laid.locals;
    texts = subst (λ (ts : List (List ℕ)). (i j : ℕ) (t : List ℕ) → slice_get ts i ≡ Some t → slice_get ts j ≡ Some t → i ≡ j)
        (sym texts_are) (texts_once node.pool.texts text new laid.texts);
    filled = (let b = ap text_bytes texts_are in let e = bytes_end node.pool.texts text in let l = laid.filled in
        let f = ap (λ (p : TextPool). p.free) is in omega (arith, b, e, l, f, room_is, room));
  }

  text_there : (j : ℕ) (t : List ℕ) → slice_get node.pool.texts j ≡ Some t → slice_get pool.texts j ≡ Some t
  text_there j t h = ap (λ (ts : List (List ℕ)). slice_get ts j) texts_are ∙ kept_end node.pool.texts text j t h

  new_there : slice_get pool.texts (length node.pool.texts) ≡ Some text
  new_there = ap (λ (ts : List (List ℕ)). slice_get ts (length node.pool.texts)) texts_are ∙ get_end node.pool.texts text

  pub made_interns : (place : ℕ) → place ≡ length node.pool.texts →
      Interns (store_of node) (store_of (record node { pool = pool })) text place
  made_interns place n = record {
    only = record {
      grown = record { kind = refl; local = λ j o h. h; text = text_there; global = λ j. refl; room = refl; text_room = room_is };
      rows = λ key. refl;
      words = λ b j. refl;
      free = refl;
      count = refl;
      tidy = tidy_laid (record node { pool = pool }) laid_text;
    };
    is = ap (slice_get pool.texts) n ∙ new_there;
    texts = λ other. (
      (λ h. ⊎_elim
          (λ (old : slice_get node.pool.texts h.0 ≡ Some other). inl (h.0, old))
          (λ (here : (h.0 ≡ length node.pool.texts) × (other ≡ text)). inr here.1)
          (end_or node.pool.texts text h.0 other (ap (λ (ts : List (List ℕ)). slice_get ts h.0) (sym texts_are) ∙ h.1))),
      (λ h. ⊎_elim
          (λ (old : InPool (store_of node) other). (old.0, text_there old.0 other old.1))
          (λ (same : other ≡ text). (length node.pool.texts, new_there ∙ ap Some (sym same)))
          h),
    );
    locals = λ j. refl;
    kept = λ h. absurd (not_in_pool h);
    new = λ h. (let f = ap (λ (p : TextPool). p.free) is in omega arith);
    at_end = λ h. record {
      below = λ i l. get_there node.pool.texts i (omega arith);
      from = λ i l. get_past node.pool.texts i (omega arith);
    };
  }
