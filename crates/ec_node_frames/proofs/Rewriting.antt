-- A frame is rewritten where an activation goes on at the same stop, its action done.
use Rattle.std.proofs.Common.{◌≡◌, ◌≢◌, ℕ, zero, suc, ◌+◌, ◌<◌, false, List, ◌++◌, length, map, Some}
use Rattle.std.proofs.Common.{refl, sym, ap, ◌∙◌, subst, arith}
use Rattle.std.specs.Prelude.{if◌then◌else◌, slice_get}
use Rattle.std.proofs.lemmas.Option.{same_Some}
use Rattle.ec_activations.proofs.Stops.{mapped}
use Rattle.ec_activations.specs.Frames.{Held, at_place, entries_if, frame_thing, headings, held_if, held_in, held_of, number_if, result_in}
use Rattle.ec_activations.specs.Frames.{stop_of, value_in, variable_word, word_if}
use Rattle.ec_code.specs.Activations.{operation_at}
use Rattle.ec_code.specs.declared.activation.CodeActivation.{CodeActivation}
use Rattle.ec_code.specs.declared.code.Live.{Live}
use Rattle.ec_code.specs.declared.code.Parts.{Parts}
use Rattle.ec_machine_code.specs.declared.homes.Home.{Home}
use Rattle.ec_node_frames.proofs.Changes.{Rewritten, word_within}
use Rattle.ec_node_frames.proofs.Items.{get_behind, get_map}
use Rattle.ec_node_frames.specs.Frames.{RestsAt}
use Rattle.ec_world.specs.declared.key.Key.TheVariants.{Frame}
use Rattle.ec_generate.specs.declared.table.StopEntry.{StopEntry}
use Rattle.ec_things.proofs.Kept.{carries_of, stands_kept}
use Rattle.ec_things.specs.Store.{StandsAt, Store, Tidy, word_of}
use Rattle.ec_things.specs.Things.{Puts, Shown, row_size}
use Rattle.ec_world.specs.declared.node.Kind.{Kind}
use Rattle.ec_world.specs.declared.value.Value.{Value}
use Rattle.ec_world.specs.declared.value.Value.TheVariants.{Ref}

-- the same operation at the same stop, its action done
pub record IsDone (a a' : CodeActivation) : Type 0 where
  pub operation : a'.operation ≡ a.operation
  pub own : a'.own ≡ a.own
  pub at : a'.at ≡ a.at
  pub done : a'.pending ≡ false

module _ (p : Parts) (a a' : CodeActivation) (done : IsDone a a') where
  pub same_stop : stop_of p a' ≡ stop_of p a
  same_stop =
      ap (λ n. at_place n 0 (entries_if (operation_at p a'.operation))) done.at
      ∙ ap (λ o. at_place a.at 0 (entries_if (operation_at p o))) done.operation

  module _ (e : StopEntry) (rests : RestsAt p a e) where
    -- what is held before: something, and then what is live behind the stop
    abbrev front : List Held
    front = if a.pending then held_in p a e.operands else result_in p a e.result a.into

    pub held_before : held_of p a ≡ front ++ held_in p a e.live
    held_before = ap (held_if p a) rests.is

    -- what is held afterwards: what the stop gave, and then what is live behind it
    pub held_now : held_of p a' ≡ result_in p a' e.result a'.into ++ held_in p a' e.live
    held_now =
        ap (held_if p a') (same_stop ∙ rests.is)
        ∙ ap (λ b. (if b then held_in p a' e.operands else result_in p a' e.result a'.into) ++ held_in p a' e.live) done.done

module _ (s s' : Store) (process depth : ℕ) (p : Parts) (homes : Kind → List (List Home)) (a a' : CodeActivation) (Kept : ℕ → Type 0)
    (re : Rewritten s s' (Frame process depth) Kept) (tidy : Tidy s')
    (shown : Shown s (Frame process depth) (frame_thing p homes process depth a)) (done : IsDone a a')
    (keeps : (j : ℕ) → j < 8 → j ≢ 4 → Kept j) (ended : word_of s' shown.row.blocks 4 ≡ Some 0) where
  -- ---- words that are kept

  kept_word : (j n : ℕ) → Kept j → word_of s shown.row.blocks j ≡ Some n → word_of s' shown.row.blocks j ≡ Some n
  kept_word j n k e = re.its shown.row j shown.there (word_within s shown.row.blocks j n e) k ∙ e

  pub still_stands : (at : ℕ) (v : Value) → Kept at → StandsAt s shown.row.blocks at v → StandsAt s' shown.row.blocks at v
  still_stands at v k st = record {
    word = st.word;
    there = kept_word at st.word k st.there;
    stands = stands_kept s s' (carries_of s s' re.grown) v st.word st.stands;
  }

  -- ---- what was live behind the stop has its word

  pub live_stood : (e : StopEntry) → RestsAt p a e → (j : ℕ) (l : Live) → slice_get e.live j ≡ Some l →
      (at : ℕ) × (variable_word (homes s.kind) p a.operation l.variable ≡ Some at)
      × StandsAt s shown.row.blocks at (value_in p a l.variable)
  live_stood e rests j l is =
      let i : ℕ = length (front p a a' done e rests) + j in
      let one : Held = record { variable = l.variable; value = value_in p a l.variable } in
      let behind : slice_get (held_in p a e.live) j ≡ Some one =
      get_map (λ (k : Live). record { variable = k.variable; value = value_in p a k.variable }) e.live j l is in
      let there : slice_get (held_of p a) i ≡ Some one =
      ap (λ (hs : List Held). slice_get hs i) (held_before p a a' done e rests)
      ∙ get_behind (front p a a' done e rests) (held_in p a e.live) i j refl ∙ behind in
      let value : slice_get (map (λ (h : Held). h.value) (held_of p a)) i ≡ Some one.value =
      get_map (λ (h : Held). h.value) (held_of p a) i one there in
      let x = shown.spells.values (suc i) one.value value in
      (x.0, sym (ap (word_if (homes s.kind) p a.operation) there) ∙ x.1, x.2)

  -- ---- the headings

  heads : (i n : ℕ) → slice_get (headings p process depth a') i ≡ Some n → word_of s' shown.row.blocks i ≡ Some n
  heads zero n e = kept_word 0 n (keeps 0 (omega arith) (λ q. omega (arith, q))) (shown.spells.heads 0 n e)
  heads (suc zero) n e = kept_word 1 n (keeps 1 (omega arith) (λ q. omega (arith, q))) (shown.spells.heads 1 n e)
  heads (suc (suc zero)) n e =
      kept_word 2 n (keeps 2 (omega arith) (λ q. omega (arith, q))) (shown.spells.heads 2 n (ap Some (sym done.operation) ∙ e))
  heads (suc (suc (suc zero))) n e =
      kept_word 3 n (keeps 3 (omega arith) (λ q. omega (arith, q)))
      (shown.spells.heads 3 n (ap (λ o. Some (number_if o)) (sym (same_stop p a a' done)) ∙ e))
  heads (suc (suc (suc (suc zero)))) n e = ended ∙ ap (λ b. Some (if b then 1 else 0)) (sym done.done) ∙ e
  heads (suc (suc (suc (suc (suc zero))))) n e =
      kept_word 5 n (keeps 5 (omega arith) (λ q. omega (arith, q))) (shown.spells.heads 5 n (ap Some (sym done.own) ∙ e))
  heads (suc (suc (suc (suc (suc (suc i)))))) n e = absurd cc

  -- ---- the values

  -- a variable that is held has a word, which stands for its value
  pub record IsThere (h : Held) : Type 0 where
    pub at : ℕ
    pub spot : variable_word (homes s.kind) p a.operation h.variable ≡ Some at
    pub stands : StandsAt s' shown.row.blocks at h.value

  own_there : StandsAt s' shown.row.blocks 6 (Ref a.own)
  own_there =
      let x = shown.spells.values 0 (Ref a.own) refl in
      let at : x.0 ≡ 6 = sym (same_Some 6 x.0 x.1) in
      still_stands 6 (Ref a.own) (keeps 6 (omega arith) (λ q. omega (arith, q)))
      (subst (λ n. StandsAt s shown.row.blocks n (Ref a.own)) at x.2)

  module _ (each : (i : ℕ) (h : Held) → slice_get (held_of p a') i ≡ Some h → IsThere h) where
    values : (i : ℕ) (v : Value) → slice_get (frame_thing p homes process depth a').values i ≡ Some v →
        (at : ℕ) × ((frame_thing p homes process depth a').spot s'.kind i ≡ Some at) × StandsAt s' shown.row.blocks at v
    values zero v e =
        let is : Ref a.own ≡ v = ap Ref (sym done.own) ∙ same_Some (Ref a'.own) v e in
        (6, refl, subst (λ (u : Value). StandsAt s' shown.row.blocks 6 u) is own_there)
    values (suc i) v e =
        let m = mapped (λ (h : Held). h.value) (held_of p a') i v e in
        let y = each i m.0 m.1 in
        let spot : (frame_thing p homes process depth a').spot s'.kind (suc i) ≡ Some y.at =
        ap (word_if (homes s'.kind) p a'.operation) m.1 ∙ ap (λ k. variable_word (homes k) p a'.operation m.0.variable) re.grown.kind
        ∙ ap (λ o. variable_word (homes s.kind) p o m.0.variable) done.operation ∙ y.spot in
        (y.at, spot, subst (λ (u : Value). StandsAt s' shown.row.blocks y.at u) (sym m.2) y.stands)

    pub rewritten_puts : Puts s s' (Frame process depth) (Some (frame_thing p homes process depth a'))
    rewritten_puts = record {
      here = record {
        row = shown.row;
        there = re.rows (Frame process depth) ∙ shown.there;
        spells = record {
          home = shown.spells.home ∙ sym done.own;
          counted = shown.spells.counted;
          size = shown.spells.size;
          class = shown.spells.class;
          fixed = shown.spells.fixed;
          monitor = shown.spells.monitor;
          heads = heads;
          values = values;
        };
      };
      others = re.others;
      grown = re.grown;
      tidy = λ before. tidy;
      free =
          let f = re.free in
          let r : row_size (s.row (Frame process depth)) ≡ length shown.row.blocks = ap row_size shown.there in
          let c = shown.spells.counted in
          omega (arith, f, r, c);
      count = re.count;
    }
