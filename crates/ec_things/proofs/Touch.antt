-- Some owners have changed, and nothing else.
use Rattle.std.proofs.Common.{◌≡◌, ℕ, Option, Some, sym, ap, ◌∙◌}
use Rattle.std.proofs.Common.{◌⊎◌, ⊎_elim}
use Rattle.ec_world.specs.declared.key.Key.{Key}
use Rattle.ec_things.specs.Store.{Store, Owned, Grown, KeptRow}
use Rattle.ec_things.specs.Things.{Thing, ShownAt, ShowsThings}
use Rattle.ec_things.proofs.Kept.{carries_of, shown_kept}

-- a node after a change: what is not touched is as it was
pub record NodeKept (Touched : Key → Type 0) (s s' : Store) : Type 0 where
  pub grown : Grown s s'
  pub rows : (key : Key) → (Touched key → ⊥) → KeptRow s s' key

pub record NodeAfter (Touched : Key → Type 0) (nodes' : ℕ → Option Store) (k : ℕ) (s : Store) : Type 0 where
  pub after : Store
  pub there : nodes' k ≡ Some after
  pub kept : NodeKept Touched s after

pub record Touches (nodes nodes' : ℕ → Option Store) (things things' : Key → Option Thing) (place place' : ℕ → Option ℕ) : Type 1 where
  pub Touched : Key → Type 0
  pub decided : (key : Key) → Touched key ⊎ (Touched key → ⊥)
  pub same : (key : Key) → (Touched key → ⊥) → things' key ≡ things key
  pub stay : (key : Key) (t : Thing) → (Touched key → ⊥) → things key ≡ Some t → place' t.home ≡ place t.home
  pub forth : (k : ℕ) (s : Store) → nodes k ≡ Some s → NodeAfter Touched nodes' k s
  pub back : (k : ℕ) (s' : Store) → nodes' k ≡ Some s' → (s : Store) × (nodes k ≡ Some s)
  pub shown : (key : Key) (t : Thing) → Touched key → things' key ≡ Some t → ShownAt nodes' place' key t
  pub only : (k : ℕ) (s : Store) (key : Key) (r : Owned) → Touched key → nodes' k ≡ Some s → s.row key ≡ Some r →
      (t : Thing) × (things' key ≡ Some t) × (place' t.home ≡ Some k)

module _ (nodes nodes' : ℕ → Option Store) (things things' : Key → Option Thing) (place place' : ℕ → Option ℕ)
    (shows : ShowsThings nodes things place) (c : Touches nodes nodes' things things' place place') where
  each_after : (key : Key) (t : Thing) → things' key ≡ Some t → ShownAt nodes' place' key t
  each_after key t e = ⊎_elim
      (λ (h : c.Touched key). c.shown key t h e)
      (λ (h : c.Touched key → ⊥).
      let before : things key ≡ Some t = sym (c.same key h) ∙ e in
      let x = shows.each key t before in
      let y = c.forth x.node x.store x.there in
      record {
        node = x.node;
        store = y.after;
        home = c.stay key t h before ∙ x.home;
        there = y.there;
        shown = shown_kept x.store y.after key t (carries_of x.store y.after y.kept.grown) (y.kept.rows key h) x.shown;
      })
      (c.decided key)

  only_after : (k : ℕ) (s : Store) (key : Key) (r : Owned) → nodes' k ≡ Some s → s.row key ≡ Some r →
      (t : Thing) × (things' key ≡ Some t) × (place' t.home ≡ Some k)
  only_after k s key r e f = ⊎_elim
      (λ (h : c.Touched key). c.only k s key r h e f)
      (λ (h : c.Touched key → ⊥).
      let x = c.back k s e in
      let y = c.forth k x.0 x.1 in
      let is : y.after ≡ s = cc in
      let row : x.0.row key ≡ Some r = sym (y.kept.rows key h).row ∙ ap (λ (z : Store). z.row key) is ∙ f in
      let z = shows.only k x.0 key r x.1 row in
      (z.0, c.same key h ∙ z.1, c.stay key z.0 h z.1 ∙ z.2))
      (c.decided key)

  pub touch : ShowsThings nodes' things' place'
  touch = record { each = each_after; only = only_after }
