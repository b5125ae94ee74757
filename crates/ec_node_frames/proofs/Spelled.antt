-- The frame that is made is the one that its headings and values spell, of whatever program they are.
use Rattle.std.proofs.Common.{◌≡◌, ℕ, zero, suc, ◌<◌, List, length, Some, None, refl, sym, ap, ◌∙◌, subst}
use Rattle.std.proofs.lemmas.Option.{same_Some}
use Rattle.std.specs.Prelude.{slice_get}
use Rattle.ec_base.proofs.Lists.{get_there, get_within}
use Rattle.ec_code.specs.declared.code.Live.{Live}
use Rattle.ec_generate.specs.declared.table.OperationTable.{OperationTable}
use Rattle.ec_generate.specs.declared.table.StopEntry.{StopEntry}
use Rattle.ec_node_frames.proofs.Arriving.{Made}
use Rattle.ec_node_frames.proofs.Changes.{puts_after}
use Rattle.ec_node_frames.specs.Carried.{carried}
use Rattle.ec_node_frames.specs.Loops.{spot_of}
use Rattle.ec_node_frames.specs.Spelled.{HaveHomes, frame_by, heads_by, spot_if}
use Rattle.ec_node_frames.specs.declared.frames.Headings.{Headings}
use Rattle.ec_stores.proofs.Putting.{GivenAt, placed_puts, rest_grown}
use Rattle.ec_stores.specs.Changes.{PlacedFrame, frame_row}
use Rattle.ec_things.proofs.Kept.{carries_of, stands_kept}
use Rattle.ec_things.specs.Store.{Stands, Store}
use Rattle.ec_things.specs.Things.{Puts, Thing}
use Rattle.ec_world.specs.declared.key.Key.TheVariants.{Frame}
use Rattle.ec_world.specs.declared.value.Value.{Value}
use Rattle.ec_world.specs.declared.value.Value.TheVariants.{Ref}

module _ (s m s' : Store) (process depth : ℕ) (h : Headings) (table : OperationTable) (e : StopEntry) (values : List Value)
    (words frame : List ℕ) (made : Made s m process depth h table (carried e h.pending) values words frame)
    (placed : PlacedFrame m s' process depth h.own frame) (none : s.row (Frame process depth) ≡ None)
    (many : length values ≡ length (carried e h.pending)) (homes : HaveHomes table (carried e h.pending) values) where
  abbrev t : Thing
  t = frame_by table e process depth h values

  abbrev held : List Live
  held = carried e h.pending

  still_stands : (v : Value) (w : ℕ) → Stands m v w → Stands s' v w
  still_stands v w stands = stands_kept m s' (carries_of m s' (rest_grown m s' placed.placed.rest)) v w stands

  heads : (i n : ℕ) → slice_get (heads_by process depth h) i ≡ Some n → slice_get frame i ≡ Some n
  heads zero n is = made.filled.headed 0 n is
  heads (suc zero) n is = made.filled.headed 1 n is
  heads (suc (suc zero)) n is = made.filled.headed 2 n is
  heads (suc (suc (suc zero))) n is = made.filled.headed 3 n is
  heads (suc (suc (suc (suc zero)))) n is = made.filled.headed 4 n is
  heads (suc (suc (suc (suc (suc zero))))) n is = made.filled.headed 5 n is
  heads (suc (suc (suc (suc (suc (suc i)))))) n is = absurd cc

  own_given : (v : Value) → Ref h.own ≡ v → GivenAt s' frame t zero v
  own_given v is = record {
    at = 6;
    word = made.word;
    spot = refl;
    there = made.filled.headed 6 made.word refl;
    stands = subst (λ (u : Value). Stands s' u made.word) is
        (still_stands (Ref h.own) made.word (made.has.are.each 0 made.word (Ref h.own) refl made.first));
  }

  -- a value for each variable, and the other way round
  value_there : (k : ℕ) (l : Live) → slice_get held k ≡ Some l → (v : Value) × (slice_get values k ≡ Some v)
  value_there k l is = get_there values k (subst (λ n. k < n) (sym many) (get_within held k l is))

  live_there : (k : ℕ) (v : Value) → slice_get values k ≡ Some v → (l : Live) × (slice_get held k ≡ Some l)
  live_there k v is = get_there held k (subst (λ n. k < n) many (get_within values k v is))

  variable_given : (k : ℕ) (l : Live) (v : Value) → slice_get held k ≡ Some l → slice_get values k ≡ Some v → GivenAt s' frame t (suc k) v
  variable_given k l v is value =
      let one = made.filled.each k l (get_within held k l is) is (homes.low k l is) in
      let u = value_there one.index one.live one.is in
      let same : u.0 ≡ v = homes.one_each one.index k one.live l u.0 v one.is is u.1 value one.home in
      let stands = made.has.are.each (suc one.index) one.word u.0 u.1 one.its in
      record {
        at = spot_of table l;
        word = one.word;
        spot = ap (spot_if table) is;
        there = one.there;
        stands = still_stands v one.word (subst (λ (x : Value). Stands m x one.word) same stands);
      }

  given : (i : ℕ) (v : Value) → slice_get t.values i ≡ Some v → GivenAt s' frame t i v
  given zero v is = own_given v (same_Some (Ref h.own) v is)
  given (suc k) v is = let l = live_there k v is in variable_given k l.0 v l.1 is

  pub frame_spelled : Puts s s' (Frame process depth) (Some (frame_by table e process depth h values))
  frame_spelled =
      puts_after s m s' (Frame process depth) t made.has.only
      (placed_puts m s' (Frame process depth) (frame_row h.own placed.block) frame t placed.placed
      (made.has.only.rows (Frame process depth) ∙ none) refl refl refl refl refl refl heads given)
