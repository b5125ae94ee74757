-- The blocks of owners: one more comes, one goes, or all stay.
use Rattle.std.proofs.Common.{◌≡◌, ◌≢◌, ℕ, ◌<◌, List, length, Option, Some, None, refl, sym, ap, ◌∙◌, subst, ◌⊎◌, inl, inr, ⊎_elim}
use Rattle.ec_memory.specs.Store.{Store as Memory}
use Rattle.ec_world.proofs.Keys.{key_or_not}
use Rattle.ec_world.specs.declared.key.Key.{Key}
use Rattle.ec_things.specs.Store.{Owned}
use Rattle.ec_world.specs.Group.{Has}
use Rattle.ec_stores.specs.Lists.{IsOnce}
use Rattle.ec_stores.specs.Node.{AreOwned, blocks_by}

-- ---- all stay

-- a row whose blocks, class and size are those of one that was there
pub record Alike (row : Key → Option Owned) (key : Key) (q : Owned) : Type 0 where
  pub was : Owned
  pub there : row key ≡ Some was
  pub blocks : q.blocks ≡ was.blocks
  pub class : q.class ≡ was.class
  pub size : q.size ≡ was.size

module _ (row row' : Key → Option Owned) (m m' : Memory) (owned : AreOwned row m) (links : length m'.links ≡ length m.links)
    (free : (b : ℕ) → Has m'.free b → Has m.free b) (alike : (key : Key) (q : Owned) → row' key ≡ Some q → Alike row key q) where
  its : (key : Key) (q : Owned) (a : Alike row key q) (b : ℕ) → Has q.blocks b → Has a.was.blocks b
  its key q a b h = subst (λ (l : List ℕ). Has l b) a.blocks h

  pub owned_alike : AreOwned row' m'
  owned_alike = record {
    within = λ key q b e h.
        let a = alike key q e in
        subst (λ n. b < n) (sym links) (owned.within key a.was b a.there (its key q a b h));
    once = λ key q e. let a = alike key q e in subst (λ (l : List ℕ). IsOnce l) (sym a.blocks) (owned.once key a.was a.there);
    taken = λ key q b e h f. let a = alike key q e in owned.taken key a.was b a.there (its key q a b h) (free b f);
    apart = λ x y p q b e f h k.
        let a = alike x p e in
        let c = alike y q f in
        owned.apart x y a.was c.was b a.there c.there (its x p a b h) (its y q c b k);
    counted = λ key q e.
        let a = alike key q e in
        ap (λ (l : List ℕ). length l) a.blocks ∙ owned.counted key a.was a.there
        ∙ ap (λ c. blocks_by c a.was.size) (sym a.class) ∙ ap (blocks_by q.class) (sym a.size);
  }

-- no row has changed
pub same_alike : (row row' : Key → Option Owned) → ((key : Key) → row' key ≡ row key) → (key : Key) (q : Owned) → row' key ≡ Some q →
    Alike row key q
same_alike row row' same key q e = record { was = q; there = sym (same key) ∙ e; blocks = refl; class = refl; size = refl }

-- ---- one comes, whose blocks were free

module _ (row row' : Key → Option Owned) (m m' : Memory) (key : Key) (r : Owned) (owned : AreOwned row m) (here : row' key ≡ Some r)
    (there : (other : Key) → other ≢ key → row' other ≡ row other) where
  -- an owner: the new one, or one that was there
  owner : (other : Key) (q : Owned) → row' other ≡ Some q →
      ((other ≡ key) × (q ≡ r)) ⊎ ((other ≢ key) × (row other ≡ Some q))
  owner other q e = ⊎_elim
      (λ (same : other ≡ key). let is : row' other ≡ Some r = ap row' same ∙ here in inl (same, cc))
      (λ (ne : other ≢ key). inr (ne, sym (there other ne) ∙ e))
      (key_or_not other key)

  of_new : (q : Owned) (b : ℕ) → q ≡ r → Has q.blocks b → Has r.blocks b
  of_new q b e h = subst (λ (o : Owned). Has o.blocks b) e h

  pub owned_more : length m'.links ≡ length m.links → ((b : ℕ) → Has r.blocks b → Has m.free b) →
      ((b : ℕ) → Has r.blocks b → b < length m'.links) → IsOnce r.blocks → ((b : ℕ) → Has m'.free b → Has m.free b) →
      ((b : ℕ) → Has r.blocks b → Has m'.free b → ⊥) → length r.blocks ≡ blocks_by r.class r.size → AreOwned row' m'
  owned_more links free within once still taken counted = record {
    within = λ other q b e h. ⊎_elim
        (λ (i : (other ≡ key) × (q ≡ r)). within b (of_new q b i.1 h))
        (λ (i : (other ≢ key) × (row other ≡ Some q)). subst (λ n. b < n) (sym links) (owned.within other q b i.1 h))
        (owner other q e);
    once = λ other q e. ⊎_elim
        (λ (i : (other ≡ key) × (q ≡ r)). subst (λ (o : Owned). IsOnce o.blocks) (sym i.1) once)
        (λ (i : (other ≢ key) × (row other ≡ Some q)). owned.once other q i.1)
        (owner other q e);
    taken = λ other q b e h f. ⊎_elim
        (λ (i : (other ≡ key) × (q ≡ r)). taken b (of_new q b i.1 h) f)
        (λ (i : (other ≢ key) × (row other ≡ Some q)). owned.taken other q b i.1 h (still b f))
        (owner other q e);
    apart = λ a b p q x e f h k. ⊎_elim
        (λ (i : (a ≡ key) × (p ≡ r)). ⊎_elim
        (λ (j : (b ≡ key) × (q ≡ r)). i.0 ∙ sym j.0)
        (λ (j : (b ≢ key) × (row b ≡ Some q)). absurd (owned.taken b q x j.1 k (free x (of_new p x i.1 h))))
        (owner b q f))
        (λ (i : (a ≢ key) × (row a ≡ Some p)). ⊎_elim
        (λ (j : (b ≡ key) × (q ≡ r)). absurd (owned.taken a p x i.1 h (free x (of_new q x j.1 k))))
        (λ (j : (b ≢ key) × (row b ≡ Some q)). owned.apart a b p q x i.1 j.1 h k)
        (owner b q f))
        (owner a p e);
    counted = λ other q e. ⊎_elim
        (λ (i : (other ≡ key) × (q ≡ r)). subst (λ (o : Owned). length o.blocks ≡ blocks_by o.class o.size) (sym i.1) counted)
        (λ (i : (other ≢ key) × (row other ≡ Some q)). owned.counted other q i.1)
        (owner other q e);
  }

-- ---- one goes, and its blocks are free

module _ (row row' : Key → Option Owned) (m m' : Memory) (key : Key) (r : Owned) (owned : AreOwned row m) (was : row key ≡ Some r)
    (gone : row' key ≡ None) (there : (other : Key) → other ≢ key → row' other ≡ row other) where
  left : (other : Key) (q : Owned) → row' other ≡ Some q → (other ≢ key) × (row other ≡ Some q)
  left other q e = ⊎_elim
      (λ (same : other ≡ key). let none : row' other ≡ None = ap row' same ∙ gone in absurd (let no : ⊥ = cc in no))
      (λ (ne : other ≢ key). (ne, sym (there other ne) ∙ e))
      (key_or_not other key)

  pub owned_less : length m'.links ≡ length m.links → ((b : ℕ) → Has m'.free b → Has r.blocks b ⊎ Has m.free b) → AreOwned row' m'
  owned_less links free = record {
    within = λ other q b e h. subst (λ n. b < n) (sym links) (owned.within other q b (left other q e).1 h);
    once = λ other q e. owned.once other q (left other q e).1;
    taken = λ other q b e h f.
        let o = left other q e in
        ⊎_elim
        (λ (its : Has r.blocks b). o.0 (owned.apart other key q r b o.1 was h its))
        (λ (k : Has m.free b). owned.taken other q b o.1 h k)
        (free b f);
    apart = λ a b p q x e f h k. owned.apart a b p q x (left a p e).1 (left b q f).1 h k;
    counted = λ other q e. owned.counted other q (left other q e).1;
  }
