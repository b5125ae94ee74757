-- Some things at one node have changed, and it shows them.
use Rattle.std.proofs.Common.{◌≡◌, ◌≢◌, ℕ, Option, Some, refl, sym, ap, ◌∙◌, subst, ⊎_elim}
use Rattle.std.proofs.lemmas.Option.{same_Some}
use Rattle.ec_world.specs.declared.key.Key.{Key}
use Rattle.ec_things.proofs.Put.{back_by, forth_by, same_or_not}
use Rattle.ec_things.proofs.Touch.{NodeKept, touch}
use Rattle.ec_things.specs.Store.{Owned, Store}
use Rattle.ec_things.specs.Things.{IsAt, NodePut, Shown, ShownAt, ShowsThings, Thing, ThingsPut}

-- a key has a thing, which a store shows
pub record HasShown (things : Key → Option Thing) (s : Store) (key : Key) : Type 0 where
  pub thing : Thing
  pub is : things key ≡ Some thing
  pub shown : Shown s key thing

module _ (nodes nodes' : ℕ → Option Store) (things things' : Key → Option Thing) (place : ℕ → Option ℕ) (k : ℕ) (s s' : Store)
    (Touched : Key → Type 0) (shows : ShowsThings nodes things place) (n : NodePut nodes nodes' k s s') (kept : NodeKept Touched s s')
    (puts : ThingsPut place k Touched things things') (here : (key : Key) → Touched key → HasShown things' s' key) where
  home_at : (key : Key) (x : Option Thing) (t : Thing) → IsAt place k x → x ≡ Some t → place t.home ≡ Some k
  home_at key x t at e = subst (λ y. IsAt place k y) e at

  shown_now : (key : Key) (t : Thing) → Touched key → things' key ≡ Some t → ShownAt nodes' place key t
  shown_now key t touched e =
      let z = here key touched in
      let same : z.thing ≡ t = same_Some z.thing t (sym z.is ∙ e) in
      record {
        node = k;
        store = s';
        home = home_at key (things' key) t (puts.new_at key touched) e;
        there = n.after;
        shown = subst (λ (x : Thing). Shown s' key x) same z.shown;
      }

  only_now : (j : ℕ) (y : Store) (key : Key) (r : Owned) → Touched key → nodes' j ≡ Some y → y.row key ≡ Some r →
      (t : Thing) × (things' key ≡ Some t) × (place t.home ≡ Some j)
  only_now j y key r touched e f = ⊎_elim
      (λ (same : j ≡ k).
      let z = here key touched in
      (z.thing, z.is, home_at key (things' key) z.thing (puts.new_at key touched) z.is ∙ ap Some (sym same)))
      (λ (ne : j ≢ k).
      let z = shows.only j y key r (sym (n.others j ne) ∙ e) f in
      let at : place z.0.home ≡ Some k = home_at key (things key) z.0 (puts.old_at key touched) z.1 in
      absurd (ne (same_Some j k (sym z.2 ∙ at))))
      (same_or_not j k)

  pub some_shown : ShowsThings nodes' things' place
  some_shown = touch nodes nodes' things things' place place shows (record {
    Touched = Touched;
    decided = puts.decided;
    same = puts.others;
    stay = λ key t h e. refl;
    forth = forth_by nodes nodes' k s s' n Touched kept;
    back = back_by nodes nodes' k s s' n;
    shown = shown_now;
    only = only_now;
  })
