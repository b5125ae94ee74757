-- A constant of the program has a value now, at each node.
use Rattle.std.proofs.Common.{◌≡◌, ◌≢◌, ⊎_elim, ℕ, ◌<◌, List, Option, Some, sym, ◌∙◌, subst, arith}
use Rattle.std.specs.Prelude.{length, slice_get, slice_set}
use Rattle.ec_base.proofs.Lists.{get_set_other, get_set_same}
use Rattle.ec_world.specs.declared.key.Key.{Key}
use Rattle.ec_things.proofs.Kept.{Carries, shown_kept, stands_kept}
use Rattle.ec_things.proofs.Put.{same_or_not}
use Rattle.ec_things.specs.Changes.{PutsGlobal, PutsGlobals}
use Rattle.ec_things.specs.Shows.{GlobalStands, Shows}
use Rattle.ec_things.specs.Store.{Owned, Store}
use Rattle.ec_things.specs.Things.{ShownAt, Thing}
use Rattle.ec_world.specs.declared.value.Value.{Value}

carries : (s s' : Store) (i : ℕ) (v : Value) → PutsGlobal s s' i v → Carries s s'
carries s s' i v p = record { kind = p.kind; local = p.local; text = p.text }

module _ (nodes nodes' : ℕ → Option Store) (i : ℕ) (v : Value) (puts : PutsGlobals nodes nodes' i v) where
  -- what a node was before
  record Before (k : ℕ) (s' : Store) : Type 0 where
    store : Store
    there : nodes k ≡ Some store
    is : PutsGlobal store s' i v

  before : (k : ℕ) (s' : Store) → nodes' k ≡ Some s' → Before k s'
  before k s' e =
      let o = puts.only k s' e in
      let z = puts.each k o.0 o.1 in
      let same : z.0 ≡ s' = cc (z.1) in
      record { store = o.0; there = o.1; is = subst (λ (x : Store). PutsGlobal o.0 x i v) same z.2 }

  module _ (things : Key → Option Thing) (globals : List Value) (held : ℕ → ℕ) (place : ℕ → Option ℕ)
      (shows : Shows nodes things globals held place) (within : i < length globals) where
    each_thing : (key : Key) (t : Thing) → things key ≡ Some t → ShownAt nodes' place key t
    each_thing key t e =
        let x = shows.things_stand.each key t e in
        let z = puts.each x.node x.store x.there in
        record {
          node = x.node;
          store = z.0;
          home = x.home;
          there = z.1;
          shown = shown_kept x.store z.0 key t (carries x.store z.0 i v z.2) (z.2.rows key) x.shown;
        }

    only_things : (k : ℕ) (s' : Store) (key : Key) (r : Owned) → nodes' k ≡ Some s' → s'.row key ≡ Some r →
        (t : Thing) × (things key ≡ Some t) × (place t.home ≡ Some k)
    only_things k s' key r e f =
        let b = before k s' e in
        let row : b.store.row key ≡ Some r = sym (b.is.rows key).row ∙ f in
        shows.things_stand.only k b.store key r b.there row

    each_global : (k : ℕ) (s' : Store) (j : ℕ) (u : Value) → nodes' k ≡ Some s' → slice_get (slice_set globals i v) j ≡ Some u →
        GlobalStands s' j u
    each_global k s' j u e f =
        let b = before k s' e in
        ⊎_elim
        (λ (same : j ≡ i).
        let set : slice_get (slice_set globals i v) j ≡ Some v = rw same (get_set_same globals i v within) in
        let is : u ≡ v = cc in
        rw (same, is) b.is.here)
        (λ (ne : j ≢ i).
        let old : slice_get globals j ≡ Some u = sym (get_set_other globals i j v ne) ∙ f in
        let g = shows.globals_stand k b.store j u b.there old in
        record {
          word = g.word;
          there = b.is.others j ne ∙ g.there;
          stands = stands_kept b.store s' (carries b.store s' i v b.is) u g.word g.stands;
        })
        (same_or_not j i)

    pub global_put : Shows nodes' things (slice_set globals i v) held place
    global_put = record {
      things_stand = record { each = each_thing; only = only_things };
      globals_stand = each_global;
      tidy = λ k s' e. let b = before k s' e in b.is.tidy (shows.tidy k b.store b.there);
      room = λ k s' e. let b = before k s' e in
          let h = shows.room k b.store b.there in
          omega (arith, h, b.is.free, b.is.room);
    }
