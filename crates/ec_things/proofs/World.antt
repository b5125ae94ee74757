-- One thing of a world has changed, and nothing else.
use Rattle.std.proofs.Common.{◌≡◌, ◌≢◌, ℕ, ◌+◌, List, Option, Some, None, refl, sym, ap, ◌∙◌, subst}
use Rattle.std.proofs.Common.{arith, ⊎_elim}
use Rattle.std.specs.Prelude.{slice_get}
use Rattle.ec_world.specs.declared.value.Value.{Value}
use Rattle.ec_world.specs.declared.world.World.{World}
use Rattle.ec_world.specs.declared.key.Key.{Key}
use Rattle.ec_things.specs.Store.{Store, Owned, Grown}
use Rattle.ec_things.specs.Things.{Thing, ShowsThings, Puts, NodePut, ThingPut, IsAt, things_of}
use Rattle.ec_things.specs.Things.{size_of, row_size}
use Rattle.ec_world.specs.Held.{if_at}
use Rattle.ec_things.specs.Held.{Held}
use Rattle.ec_things.specs.Shows.{GlobalStands, Shows, ShowsWorld}
use Rattle.ec_things.specs.Changes.{WorldPut}
use Rattle.ec_things.proofs.Kept.{carries_of, stands_kept}
use Rattle.ec_things.proofs.Put.{same_or_not, put_shows, put_tidy}

pub if_here : (k n : ℕ) → if_at k n (Some k) ≡ n
if_here k n = grind arith

pub if_none : (j k : ℕ) → if_at j 0 (Some k) ≡ 0
if_none j k = grind arith

pub if_elsewhere : (j k n : ℕ) → j ≢ k → if_at j n (Some k) ≡ 0
if_elsewhere j k n h = grind arith

pub global_kept : (s s' : Store) (i : ℕ) (v : Value) → Grown s s' → GlobalStands s i v → GlobalStands s' i v
global_kept s s' i v g h =
    record { word = h.word; there = g.global i ∙ h.there; stands = stands_kept s s' (carries_of s s' g) v h.word h.stands }

-- the blocks of what stands there
pub row_size_is : (nodes : ℕ → Option Store) (things : Key → Option Thing) (place : ℕ → Option ℕ) → ShowsThings nodes things place →
    (k : ℕ) (s : Store) (key : Key) → nodes k ≡ Some s → IsAt place k (things key) → row_size (s.row key) ≡ size_of (things key)
row_size_is nodes things place shows k s key e at = by_thing (things key) refl at
  where
    absent : (r : Option Owned) → things key ≡ None → s.row key ≡ r → row_size r ≡ 0
    absent None h f = refl
    absent (Some r) h f = let z = shows.only k s key r e f in cc

    by_thing : (x : Option Thing) → things key ≡ x → IsAt place k x → row_size (s.row key) ≡ size_of x
    by_thing None h g = absent (s.row key) h refl
    by_thing (Some t) h g =
        let z = shows.each key t h in
        let node : z.node ≡ k = cc (z.home) in
        let there : nodes k ≡ Some z.store = ap nodes (sym node) ∙ z.there in
        let is : z.store ≡ s = cc in
        let row : s.row key ≡ Some z.shown.row = ap (λ (q : Store). q.row key) (sym is) ∙ z.shown.there in
        ap row_size row ∙ z.shown.spells.counted

module _ (nodes nodes' : ℕ → Option Store) (k : ℕ) (s s' : Store) (things things' : Key → Option Thing) (globals : List Value)
    (held held' : ℕ → ℕ) (place : ℕ → Option ℕ) (key : Key) (now : Option Thing) (shows : Shows nodes things globals held place)
    (n : NodePut nodes nodes' k s s') (puts : Puts s s' key now) (t : ThingPut things things' key now) (old_at : IsAt place k (things key))
    (new_at : IsAt place k now)
    (sums : (j : ℕ) → held' j + if_at j (size_of (things key)) (Some k) ≡ held j + if_at j (size_of now) (Some k)) where
  globals_after : (j : ℕ) (x : Store) (i : ℕ) (v : Value) → nodes' j ≡ Some x → slice_get globals i ≡ Some v → GlobalStands x i v
  globals_after j x i v e f = ⊎_elim
      (λ (same : j ≡ k).
      let after : nodes' j ≡ Some s' = ap nodes' same ∙ n.after in
      let is : s' ≡ x = cc in
      subst (λ (q : Store). GlobalStands q i v) is (global_kept s s' i v puts.grown (shows.globals_stand k s i v n.before f)))
      (λ (ne : j ≢ k). shows.globals_stand j x i v (sym (n.others j ne) ∙ e) f)
      (same_or_not j k)

  held_here : s'.free + held' k ≡ s'.room
  held_here =
      let size = row_size_is nodes things place shows.things_stand k s key n.before old_at in
      let a = if_here k (size_of (things key)) in
      let b = if_here k (size_of now) in
      omega (arith, size, a, b, sums k, puts.free, shows.room k s n.before, puts.grown.room)

  held_after : (j : ℕ) (x : Store) → nodes' j ≡ Some x → x.free + held' j ≡ x.room
  held_after j x e = ⊎_elim
      (λ (same : j ≡ k).
      let after : nodes' j ≡ Some s' = ap nodes' same ∙ n.after in
      let is : s' ≡ x = cc in
      rw (same, ← is) held_here)
      (λ (ne : j ≢ k).
      let a = if_elsewhere j k (size_of (things key)) ne in
      let b = if_elsewhere j k (size_of now) ne in
      omega (arith, a, b, sums j, shows.room j x (sym (n.others j ne) ∙ e)))
      (same_or_not j k)

  pub put_one : Shows nodes' things' globals held' place
  put_one = record {
    things_stand = put_shows nodes nodes' things things' place k s s' key now shows.things_stand n puts t old_at new_at;
    globals_stand = globals_after;
    tidy = put_tidy nodes nodes' things things' place k s s' key now shows.things_stand n puts t old_at new_at shows.tidy;
    room = held_after;
  }

module _ {A : Type 0} (frame : ℕ → ℕ → A → Thing) (place : ℕ → Option ℕ) where
  pub one_changed : (nodes nodes' : ℕ → Option Store) (k : ℕ) (s s' : Store) (w w' : World A) (key : Key) (now : Option Thing) →
      ShowsWorld frame nodes w place → NodePut nodes nodes' k s s' → Puts s s' key now → WorldPut frame place k w w' key now →
      ShowsWorld frame nodes' w' place
  one_changed nodes nodes' k s s' w w' key now shows n puts c =
      subst (λ globals. Shows nodes' (things_of frame w') globals (λ j. Held frame place j w') place) (sym c.globals)
      (put_one nodes nodes' k s s' (things_of frame w) (things_of frame w') w.common.globals (λ j. Held frame place j w)
      (λ j. Held frame place j w') place key now shows n puts c.thing c.old_at c.new_at c.sums)
