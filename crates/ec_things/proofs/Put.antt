-- One owner at one node has changed.
use Rattle.std.proofs.Common.{◌≡◌, ◌≢◌, ℕ, zero, suc, Option, Some, None, refl, sym, ap, ◌∙◌, subst}
use Rattle.std.proofs.Common.{arith, ◌⊎◌, inl, inr, ⊎_elim}
use Rattle.ec_world.specs.declared.key.Key.{Key}
use Rattle.ec_world.specs.declared.key.Key.TheVariants.{Object, Frame}
use Rattle.ec_things.specs.Store.{Store, Owned, Tidy}
use Rattle.ec_things.specs.Things.{Thing, ShownAt, ShowsThings, ShowsHere, Puts, NodePut, ThingPut, IsAt}
use Rattle.ec_things.proofs.Touch.{NodeKept, NodeAfter, touch}

pub same_or_not : (m n : ℕ) → (m ≡ n) ⊎ (m ≢ n)
same_or_not zero zero = inl refl
same_or_not zero (suc n) = inr (λ e. cc)
same_or_not (suc m) zero = inr (λ e. cc)
same_or_not (suc m) (suc n) = ⊎_elim (λ (e : m ≡ n). inl (ap suc e)) (λ (h : m ≢ n). inr (λ e. h (omega arith))) (same_or_not m n)

pub key_or_not : (a b : Key) → (a ≡ b) ⊎ (a ≢ b)
key_or_not (Object o) (Object u) = ⊎_elim (λ (e : o ≡ u). inl (ap Object e)) (λ (h : o ≢ u). inr (λ e. h cc)) (same_or_not o u)
key_or_not (Object o) (Frame q e) = inr (λ x. cc)
key_or_not (Frame p d) (Object o) = inr (λ x. cc)
key_or_not (Frame p d) (Frame q e) = ⊎_elim
    (λ (h : p ≡ q). ⊎_elim
    (λ (g : d ≡ e). inl cc)
    (λ (g : d ≢ e). inr (λ x. g cc))
    (same_or_not d e))
    (λ (h : p ≢ q). inr (λ x. h cc))
    (same_or_not p q)

pub kept_self : (Touched : Key → Type 0) (s : Store) → NodeKept Touched s s
kept_self Touched s = record {
  grown = record { kind = refl; local = λ i o e. e; text = λ i t e. e; global = λ i. refl; room = refl; text_room = refl };
  rows = λ key h. record { row = refl; words = λ r b i e x l. refl };
}

module _ (nodes nodes' : ℕ → Option Store) (k : ℕ) (s s' : Store) (n : NodePut nodes nodes' k s s') where
  pub forth_by : (Touched : Key → Type 0) → NodeKept Touched s s' → (j : ℕ) (x : Store) → nodes j ≡ Some x → NodeAfter Touched nodes' j x
  forth_by Touched kept j x e = ⊎_elim
      (λ (same : j ≡ k).
      let here : nodes j ≡ Some s = ap nodes same ∙ n.before in
      let is : x ≡ s = cc in
      record { after = s'; there = ap nodes' same ∙ n.after; kept = subst (λ (y : Store). NodeKept Touched y s') (sym is) kept })
      (λ (other : j ≢ k). record { after = x; there = n.others j other ∙ e; kept = kept_self Touched x })
      (same_or_not j k)

  pub back_by : (j : ℕ) (x : Store) → nodes' j ≡ Some x → (y : Store) × (nodes j ≡ Some y)
  back_by j x e = ⊎_elim
      (λ (same : j ≡ k). (s, ap nodes same ∙ n.before))
      (λ (other : j ≢ k). (x, sym (n.others j other) ∙ e))
      (same_or_not j k)

module _ (nodes nodes' : ℕ → Option Store) (things things' : Key → Option Thing) (place : ℕ → Option ℕ) (k : ℕ) (s s' : Store)
    (key : Key) (now : Option Thing) (shows : ShowsThings nodes things place) (n : NodePut nodes nodes' k s s')
    (puts : Puts s s' key now) (t : ThingPut things things' key now) (old_at : IsAt place k (things key))
    (new_at : IsAt place k now) where
  -- at another node the owner has no blocks
  nowhere : (x : Option Thing) → things key ≡ x → IsAt place k x → (j : ℕ) (y : Store) (r : Owned) → j ≢ k → nodes j ≡ Some y →
      y.row key ≡ Some r → ⊥
  nowhere None e at j y r ne h f = let z = shows.only j y key r h f in cc
  nowhere (Some u) e at j y r ne h f =
      let z = shows.only j y key r h f in
      let is : z.0 ≡ u = cc in
      let here : place z.0.home ≡ Some k = ap (λ (q : Thing). place q.home) is ∙ at in
      ne cc

  shown_now : (x : Option Thing) → now ≡ x → ShowsHere s' key x → IsAt place k x → (u : Thing) → things' key ≡ Some u →
      ShownAt nodes' place key u
  shown_now None e h at u f = cc (t.here)
  shown_now (Some v) e h at u f =
      let is : v ≡ u = cc (t.here) in
      subst (λ (q : Thing). ShownAt nodes' place key q) is (record { node = k; store = s'; home = at; there = n.after; shown = h })

  only_now : (x : Option Thing) → now ≡ x → ShowsHere s' key x → IsAt place k x → (r : Owned) → s'.row key ≡ Some r →
      (u : Thing) × (things' key ≡ Some u) × (place u.home ≡ Some k)
  only_now None e h at r f = cc
  only_now (Some v) e h at r f = (v, t.here ∙ e, at)

  only_here : (j : ℕ) (y : Store) (other : Key) (r : Owned) → other ≡ key → nodes' j ≡ Some y → y.row other ≡ Some r →
      (u : Thing) × (things' other ≡ Some u) × (place u.home ≡ Some j)
  only_here j y other r e h f = ⊎_elim
      (λ (same : j ≡ k).
      let after : nodes' j ≡ Some s' = ap nodes' same ∙ n.after in
      let is : y ≡ s' = cc in
      let row : s'.row key ≡ Some r = rw (is, e) at f in
      rw (same, e) (only_now now refl puts.here new_at r row))
      (λ (ne : j ≢ k). let row : y.row key ≡ Some r =
      rw e at f in absurd (nowhere (things key) refl old_at j y r ne (sym (n.others j ne) ∙ h) row))
      (same_or_not j k)

  pub put_shows : ShowsThings nodes' things' place
  put_shows = touch nodes nodes' things things' place place shows (record {
    Touched = λ other. other ≡ key;
    decided = λ other. key_or_not other key;
    same = λ other h. t.others other h;
    stay = λ other u h e. refl;
    forth = λ j x e. forth_by nodes nodes' k s s' n (λ other. other ≡ key)
        (record { grown = puts.grown; rows = λ other h. puts.others other h }) j x e;
    back = back_by nodes nodes' k s s' n;
    shown = λ other u h e. let e' : things' key ≡ Some u = rw h at e in rw h (shown_now now refl puts.here new_at u e');
    only = λ j y other r h e f. only_here j y other r h e f;
  })

  pub put_tidy : ((j : ℕ) (x : Store) → nodes j ≡ Some x → Tidy x) → (j : ℕ) (x : Store) → nodes' j ≡ Some x → Tidy x
  put_tidy before j x e = ⊎_elim
      (λ (same : j ≡ k).
      let after : nodes' j ≡ Some s' = ap nodes' same ∙ n.after in
      let is : s' ≡ x = cc in
      subst Tidy is (puts.tidy (before k s n.before)))
      (λ (ne : j ≢ k). before j x (sym (n.others j ne) ∙ e))
      (same_or_not j k)
