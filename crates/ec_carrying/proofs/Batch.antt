-- Many things of a world that travel land at one node.
use Rattle.std.proofs.Common.{◌≡◌, ◌≢◌, ℕ, ◌+◌, ◌⊎◌, Bool, true, false, List, [], ◌∷◌, Option, Some, None, refl, sym, ap, ◌∙◌, subst}
use Rattle.std.proofs.Common.{arith, inl, inr, ⊎_elim}
use Rattle.std.proofs.lemmas.Option.{same_Some}
use Rattle.std.specs.Prelude.{if◌then◌else◌, slice_get}
use Rattle.ec_world.specs.Held.{Distinct, if_at}
use Rattle.ec_world.specs.declared.key.Key.{Key}
use Rattle.ec_parcels.proofs.Keys.{among_has, has_among, not_among, not_has, one_fewer}
use Rattle.ec_parcels.proofs.Rising.{once_first, once_tail}
use Rattle.ec_parcels.specs.Owners.{among}
use Rattle.ec_things.proofs.Put.{back_by, forth_by, same_or_not}
use Rattle.ec_things.proofs.Touch.{touch}
use Rattle.ec_things.proofs.World.{global_kept, if_here, if_elsewhere}
use Rattle.ec_things.specs.Shows.{GlobalStands}
use Rattle.ec_things.specs.Store.{Grown, KeptRow, Owned, Store, Tidy}
use Rattle.ec_things.specs.Things.{NodePut, Shown, ShownAt, ShowsThings, Thing, size_of, things_of}
use Rattle.ec_things.proofs.Held.{held_same, held_turned, weight_same}
use Rattle.ec_things.proofs.Others.{stand_nowhere}
use Rattle.ec_things.specs.Travelling.{HeldBut, ShowsBut, nothing, staying, weight_but}
use Rattle.ec_world.proofs.Members.{has_first, has_later}
use Rattle.ec_world.specs.Group.{Has}
use Rattle.ec_world.specs.declared.value.Value.{Value}
use Rattle.ec_world.specs.declared.world.World.{World}

sum_at : (j a b k : ℕ) → if_at j (a + b) (Some k) ≡ if_at j a (Some k) + if_at j b (Some k)
sum_at j a b k = grind arith

none_at : (j k : ℕ) → if_at j 0 (Some k) ≡ 0
none_at j k = grind arith

has_or_not : (keys : List Key) (key : Key) → Has keys key ⊎ (Has keys key → ⊥)
has_or_not keys key = by (among keys key) refl
  where
    by : (b : Bool) → among keys key ≡ b → Has keys key ⊎ (Has keys key → ⊥)
    by true e = inl (among_has keys key e)
    by false e = inr (not_has keys key e)

module _ {A : Type 0} (frame : ℕ → ℕ → A → Thing) (w : World A) (place : ℕ → Option ℕ) where
  -- the blocks of these things
  abbrev pub blocks_at : List Key → ℕ
  blocks_at [] = 0
  blocks_at (key ∷ keys) = size_of (things_of frame w key) + blocks_at keys

  -- a thing of the world whose place is a node, where a store shows it
  pub record LandsAs (s : Store) (k : ℕ) (key : Key) : Type 0 where
    pub thing : Thing
    pub is : things_of frame w key ≡ Some thing
    pub at : place thing.home ≡ Some k
    pub shown : Shown s key thing

  -- what is held, where they travel and where they don't
  held_all : (s : Store) (k : ℕ) (keys : List Key) → Distinct keys → ((key : Key) → Has keys key → LandsAs s k key) → (j : ℕ) →
      HeldBut frame nothing place j w ≡ HeldBut frame (among keys) place j w + if_at j (blocks_at keys) (Some k)
  held_all s k [] once lands j =
      let none : if_at j (blocks_at []) (Some k) ≡ 0 = none_at j k in
      let same : HeldBut frame nothing place j w ≡ HeldBut frame (among []) place j w =
      held_same frame (among []) nothing place place j w (λ key t e. weight_same frame (among []) nothing place j key t refl) in
      same ∙ omega (arith, none)
  held_all s k (key ∷ keys) once lands j =
      let l = lands key (has_first key keys) in
      let rest = held_all s k keys (once_tail key keys once) (λ other h. lands other (has_later key other keys h)) j in
      let sum = held_turned frame (among (key ∷ keys)) (among keys) place j w key false l.thing l.is (one_fewer keys key once) in
      let old : weight_but frame (among (key ∷ keys)) place j key l.thing ≡ 0 =
      ap (λ (b : Bool). if b then 0 else if_at j l.thing.blocks (place l.thing.home)) (has_among (key ∷ keys) key (has_first key keys)) in
      let new : weight_but frame (among keys) place j key l.thing ≡ if_at j l.thing.blocks (Some k) =
      ap (λ (b : Bool). if b then 0 else if_at j l.thing.blocks (place l.thing.home)) (not_among keys key (once_first key keys once))
      ∙ ap (λ (o : Option ℕ). if_at j l.thing.blocks o) l.at in
      let size : size_of (things_of frame w key) ≡ l.thing.blocks = ap size_of l.is in
      let both = sum_at j (size_of (things_of frame w key)) (blocks_at keys) k in
      let here : if_at j (size_of (things_of frame w key)) (Some k) ≡ if_at j l.thing.blocks (Some k) =
      ap (λ n. if_at j n (Some k)) size in
      omega (arith, rest, sum, old, new, both, here)

  module _ (nodes nodes' : ℕ → Option Store) (k : ℕ) (s s' : Store) (keys : List Key) (once : Distinct keys)
      (shows : ShowsBut frame (among keys) nodes w place) (put : NodePut nodes nodes' k s s')
      (lands : (key : Key) → Has keys key → LandsAs s' k key) (others : (key : Key) → (Has keys key → ⊥) → KeptRow s s' key)
      (grown : Grown s s') (tidy : Tidy s') (free : s'.free + blocks_at keys ≡ s.free) where
    shown_now : (key : Key) (t : Thing) → Has keys key → things_of frame w key ≡ Some t → ShownAt nodes' place key t
    shown_now key t h e =
        let l = lands key h in
        let same : l.thing ≡ t = same_Some l.thing t (sym l.is ∙ e) in
        subst (λ (u : Thing). ShownAt nodes' place key u) same
        (record { node = k; store = s'; home = l.at; there = put.after; shown = l.shown })

    only_now : (j : ℕ) (y : Store) (key : Key) (r : Owned) → Has keys key → nodes' j ≡ Some y → y.row key ≡ Some r →
        (t : Thing) × (things_of frame w key ≡ Some t) × (place t.home ≡ Some j)
    only_now j y key r h e f = ⊎_elim
        (λ (same : j ≡ k). let l = lands key h in (l.thing, l.is, l.at ∙ ap Some (sym same)))
        (λ (ne : j ≢ k).
        let none : y.row key ≡ None =
        stand_nowhere frame (among keys) nodes w place j y key shows (has_among keys key h) (sym (put.others j ne) ∙ e) in
        absurd cc)
        (same_or_not j k)

    things_now : ShowsThings nodes' (staying frame nothing w) place
    things_now = touch nodes nodes' (staying frame (among keys) w) (staying frame nothing w) place place shows.things_stand (record {
      Touched = λ key. Has keys key;
      decided = has_or_not keys;
      same = λ key none. sym (ap (λ (b : Bool). if b then None else things_of frame w key) (not_among keys key none));
      stay = λ key t none e. refl;
      forth = λ j x e. forth_by nodes nodes' k s s' put (λ key. Has keys key) (record { grown = grown; rows = others }) j x e;
      back = back_by nodes nodes' k s s' put;
      shown = λ key t h e. shown_now key t h e;
      only = λ j y key r h e f. only_now j y key r h e f;
    })

    globals_now : (j : ℕ) (x : Store) (i : ℕ) (v : Value) → nodes' j ≡ Some x → slice_get w.common.globals i ≡ Some v → GlobalStands x i v
    globals_now j x i v e f = ⊎_elim
        (λ (same : j ≡ k).
        let after : nodes' j ≡ Some s' = ap nodes' same ∙ put.after in
        let is : s' ≡ x = cc in
        subst (λ (q : Store). GlobalStands q i v) is (global_kept s s' i v grown (shows.globals_stand k s i v put.before f)))
        (λ (ne : j ≢ k). shows.globals_stand j x i v (sym (put.others j ne) ∙ e) f)
        (same_or_not j k)

    tidy_now : (j : ℕ) (x : Store) → nodes' j ≡ Some x → Tidy x
    tidy_now j x e = ⊎_elim
        (λ (same : j ≡ k).
        let after : nodes' j ≡ Some s' = ap nodes' same ∙ put.after in
        let is : s' ≡ x = cc in
        subst Tidy is tidy)
        (λ (ne : j ≢ k). shows.tidy j x (sym (put.others j ne) ∙ e))
        (same_or_not j k)

    room_here : s'.free + HeldBut frame nothing place k w ≡ s'.room
    room_here =
        let held = held_all s' k keys once lands k in
        let here = if_here k (blocks_at keys) in
        let room = shows.room k s put.before in
        let same = grown.room in
        omega (arith, held, here, room, same, free)

    room_now : (j : ℕ) (x : Store) → nodes' j ≡ Some x → x.free + HeldBut frame nothing place j w ≡ x.room
    room_now j x e = ⊎_elim
        (λ (same : j ≡ k).
        let after : nodes' j ≡ Some s' = ap nodes' same ∙ put.after in
        let is : s' ≡ x = cc in
        rw (same, ← is) room_here)
        (λ (ne : j ≢ k).
        let held = held_all s' k keys once lands j in
        let there = if_elsewhere j k (blocks_at keys) ne in
        let room = shows.room j x (sym (put.others j ne) ∙ e) in
        omega (arith, held, there, room))
        (same_or_not j k)

    pub many_land : ShowsBut frame nothing nodes' w place
    many_land = record { things_stand = things_now; globals_stand = globals_now; tidy = tidy_now; room = room_now }
