-- The frame of a new activation.
use Rattle.std.proofs.Common.{◌≡◌, ℕ, zero, suc, ◌-◌, ◌<◌, ◌==◌, true, eq-eqb, List, [], ◌∷◌, length, map, Some, None}
use Rattle.std.proofs.Common.{refl, sym, ap, ◌∙◌, subst}
use Rattle.std.specs.Prelude.{if◌then◌else◌, slice_get}
use Rattle.std.proofs.lemmas.Option.{same_Some}
use Rattle.ec_activations.proofs.Stops.{mapped}
use Rattle.ec_activations.proofs.ValueByValue.{each_value_has_a_word, one_word_one_value}
use Rattle.ec_activations.specs.Frames.{Held, Numbered, at_place, entries_if, frame_thing, headings, held_if, held_of}
use Rattle.ec_activations.specs.Frames.{number_if, stop_of, value_in, variable_word, word_if}
use Rattle.ec_base.proofs.Lists.{get_within}
use Rattle.ec_code.specs.Activations.{begun, operation_at, variables_if}
use Rattle.ec_code.specs.Typing.{Declared}
use Rattle.ec_code.specs.declared.activation.CodeActivation.{CodeActivation}
use Rattle.ec_code.specs.declared.code.Live.{Live}
use Rattle.ec_code.specs.declared.code.Operation.{Operation}
use Rattle.ec_code.specs.declared.code.Parts.{Parts}
use Rattle.ec_code.specs.declared.code.Variable.{Variable}
use Rattle.ec_code.specs.declared.code.Variable.TheVariants.{Named, Temporary}
use Rattle.ec_machine_code.specs.declared.homes.Home.{Home}
use Rattle.ec_node_frames.proofs.Changes.{puts_after}
use Rattle.ec_node_frames.proofs.Homed.{homes_of, its_operation, spot_is}
use Rattle.ec_node_frames.proofs.Items.{filled_up, get_map, map_both}
use Rattle.ec_node_frames.specs.Beginning.{BeginsFrame, HasEntry, first_held, first_held_in, first_value, first_values}
use Rattle.ec_node_frames.specs.Frames.{HasTables}
use Rattle.ec_node_frames.specs.Loops.{IsFilled, spot_of}
use Rattle.ec_world.specs.declared.key.Key.TheVariants.{Frame}
use Rattle.ec_objects.proofs.Gets.{gets_on, gets_words}
use Rattle.ec_objects.specs.Values.{HasWords}
use Rattle.ec_generate.specs.Entries.{entries_of}
use Rattle.ec_generate.specs.declared.table.OperationTable.{OperationTable}
use Rattle.ec_generate.specs.declared.table.StopEntry.{StopEntry}
use Rattle.ec_stores.proofs.Putting.{GivenAt, placed_puts, rest_grown}
use Rattle.ec_stores.specs.Changes.{PlacedFrame, frame_row}
use Rattle.ec_things.proofs.Kept.{carries_of, stands_kept}
use Rattle.ec_things.specs.Store.{Stands, Store}
use Rattle.ec_things.specs.Texts.{GetsTexts}
use Rattle.ec_things.specs.Things.{Puts, Thing}
use Rattle.ec_world.specs.Group.{Has}
use Rattle.ec_world.specs.declared.node.Kind.{Kind}
use Rattle.ec_world.specs.declared.value.Value.{Value}
use Rattle.ec_world.specs.declared.value.Value.TheVariants.{Ref, Str}

-- ---- what is held at an entry

abbrev numbered : ℕ → StopEntry → Numbered
numbered n e = record { number = n; entry = e }

first_stop : (es : List StopEntry) (e : StopEntry) → slice_get es 0 ≡ Some e → e.place ≡ 0 → at_place 0 0 es ≡ Some (numbered 0 e)
first_stop [] e is first = absurd cc
first_stop (f ∷ fs) e is first =
    let same : f ≡ e = same_Some f e is in
    let here : (f.place == 0) ≡ true = eq-eqb f.place 0 (ap (λ (x : StopEntry). x.place) same ∙ first) in
    ap (λ b. if b then Some (numbered 0 f) else at_place 0 1 fs) here ∙ ap (λ (x : StopEntry). Some (numbered 0 x)) same

abbrev with_value : Parts → CodeActivation → Live → Held
with_value p a l = record { variable = l.variable; value = value_in p a l.variable }

module _ (p : Parts) (o : Operation) (operation own : ℕ) (arguments : List Value) (is : operation_at p operation ≡ Some o)
    (table : OperationTable) (stops : table.stops ≡ entries_of o.code) (entry : HasEntry table) where
  abbrev new : CodeActivation
  new = begun operation own arguments

  at_entry : stop_of p new ≡ Some (numbered 0 entry.entry)
  at_entry =
      ap (λ x. at_place 0 0 (entries_if x)) is ∙ ap (at_place 0 0) (sym stops) ∙ first_stop table.stops entry.entry entry.is entry.first

  held_first : held_of p new ≡ map (with_value p new) (first_held table)
  held_first =
      ap (held_if p new) at_entry ∙ map_both (with_value p new) entry.entry.operands entry.entry.live
      ∙ ap (map (with_value p new)) (sym (ap first_held_in entry.is))

  value_first : (x : Variable) → value_in p new x ≡ first_value arguments x
  value_first (Named n) = filled_up arguments (length (variables_if (operation_at p operation)) - length arguments) n
  value_first (Temporary c) = refl

  -- a variable that is there, and its value
  held_at_first : (k : ℕ) (l : Live) → slice_get (first_held table) k ≡ Some l → slice_get (held_of p new) k ≡ Some (with_value p new l)
  held_at_first k l e =
      ap (λ (hs : List Held). slice_get hs k) held_first ∙ get_map (with_value p new) (first_held table) k l e

  first_at_held : (k : ℕ) (h : Held) → slice_get (held_of p new) k ≡ Some h →
      (l : Live) × (slice_get (first_held table) k ≡ Some l) × (h ≡ with_value p new l)
  first_at_held k h e =
      mapped (with_value p new) (first_held table) k h (sym (ap (λ (hs : List Held). slice_get hs k) held_first) ∙ e)

-- ---- its frame

module _ (s m s' : Store) (process depth operation own : ℕ) (arguments : List Value) (table : OperationTable) (words frame : List ℕ)
    (word : ℕ) (first : slice_get words 0 ≡ Some word) (has : HasWords s m (first_values table own arguments) words)
    (filled : IsFilled table (first_held table) words (process ∷ depth ∷ operation ∷ 0 ∷ 1 ∷ own ∷ word ∷ []) frame
    (length (first_held table)))
    (placed : PlacedFrame m s' process depth own frame) (none : s.row (Frame process depth) ≡ None) (entry : HasEntry table) where
  module _ (d : Declared) (p : Parts) (homes : Kind → List (List Home)) (tables : List OperationTable)
      (by : HasTables d p s.kind homes tables) (its : slice_get tables operation ≡ Some table) where
    abbrev a : CodeActivation
    a = begun operation own arguments

    abbrev t : Thing
    t = frame_thing p homes process depth a

    o : (q : Operation) × (operation_at p operation ≡ Some q) × (table.stops ≡ entries_of q.code)
    o = let q = its_operation d p s.kind homes tables by operation table its in (q.0, q.1, q.2.stops)

    same_kind : s'.kind ≡ s.kind
    same_kind = placed.placed.rest.kind ∙ has.only.grown.kind

    still_stands : (v : Value) (w : ℕ) → Stands m v w → Stands s' v w
    still_stands v w stands = stands_kept m s' (carries_of m s' (rest_grown m s' placed.placed.rest)) v w stands

    held_there : (k : ℕ) (l : Live) → slice_get (first_held table) k ≡ Some l → slice_get (held_of p a) k ≡ Some (with_value p a l)
    held_there k l e = held_at_first p o.0 operation own arguments o.1 table o.2 entry k l e

    value_there : (k : ℕ) (l : Live) → slice_get (first_held table) k ≡ Some l → slice_get t.values (suc k) ≡ Some (value_in p a l.variable)
    value_there k l e = get_map (λ (h : Held). h.value) (held_of p a) k (with_value p a l) (held_there k l e)

    -- the word of a variable that is there
    record Spot (k : ℕ) (l : Live) : Type 0 where
      is : t.spot s.kind (suc k) ≡ Some (spot_of table l)
      low : spot_of table l < 128

    spot_there : (k : ℕ) (l : Live) → slice_get (first_held table) k ≡ Some l → Spot k l
    spot_there k l e =
        let law = each_value_has_a_word d p s.kind homes process depth a (suc k) (value_in p a l.variable)
        (homes_of d p s.kind homes tables by) (value_there k l e) in
        let held : word_if (homes s.kind) p operation (slice_get (held_of p a) k) ≡ variable_word (homes s.kind) p operation l.variable =
        ap (word_if (homes s.kind) p operation) (held_there k l e) in
        let spot = spot_is d p s.kind homes tables by operation table its l.variable law.0 (sym held ∙ law.1) in
        record { is = law.1 ∙ ap Some (sym spot.is); low = subst (λ n. n < 128) (sym spot.is) spot.low }

    heads : (i n : ℕ) → slice_get (headings p process depth a) i ≡ Some n → slice_get frame i ≡ Some n
    heads zero n e = filled.headed 0 n e
    heads (suc zero) n e = filled.headed 1 n e
    heads (suc (suc zero)) n e = filled.headed 2 n e
    heads (suc (suc (suc zero))) n e =
        filled.headed 3 n
        (ap (λ x. Some (number_if x)) (sym (at_entry p o.0 operation own arguments o.1 table o.2 entry)) ∙ e)
    heads (suc (suc (suc (suc zero)))) n e = filled.headed 4 n e
    heads (suc (suc (suc (suc (suc zero))))) n e = filled.headed 5 n e
    heads (suc (suc (suc (suc (suc (suc i)))))) n e = absurd cc

    own_given : (v : Value) → Ref own ≡ v → GivenAt s' frame t zero v
    own_given v is = record {
      at = 6;
      word = word;
      spot = refl;
      there = filled.headed 6 word refl;
      stands = subst (λ (u : Value). Stands s' u word) is (still_stands (Ref own) word (has.are.each 0 word (Ref own) refl first));
    }

    variable_given : (k : ℕ) (l : Live) → slice_get (first_held table) k ≡ Some l → GivenAt s' frame t (suc k) (value_in p a l.variable)
    variable_given k l e =
        let spot = spot_there k l e in
        let one = filled.each k l (get_within (first_held table) k l e) e spot.low in
        let its_spot = spot_there one.index one.live one.is in
        let same : value_in p a one.live.variable ≡ value_in p a l.variable =
        one_word_one_value d p s.kind homes process depth a (suc one.index) (suc k) (spot_of table l) (value_in p a one.live.variable)
        (value_in p a l.variable) (homes_of d p s.kind homes tables by) (value_there one.index one.live one.is) (value_there k l e)
        (its_spot.is ∙ ap Some one.home) spot.is in
        let value : first_value arguments one.live.variable ≡ value_in p a l.variable =
        sym (value_first p o.0 operation own arguments o.1 table o.2 entry one.live.variable) ∙ same in
        let stands = has.are.each (suc one.index) one.word (first_value arguments one.live.variable)
        (get_map (λ (x : Live). first_value arguments x.variable) (first_held table) one.index one.live one.is) one.its in
        record {
          at = spot_of table l;
          word = one.word;
          spot = ap (λ kind. t.spot kind (suc k)) same_kind ∙ spot.is;
          there = one.there;
          stands = still_stands (value_in p a l.variable) one.word (subst (λ (u : Value). Stands m u one.word) value stands);
        }

    given : (i : ℕ) (v : Value) → slice_get t.values i ≡ Some v → GivenAt s' frame t i v
    given zero v e = own_given v (same_Some (Ref own) v e)
    given (suc k) v e =
        let x = mapped (λ (h : Held). h.value) (held_of p a) k v e in
        let y = first_at_held p o.0 operation own arguments o.1 table o.2 entry k x.0 x.1 in
        let value : value_in p a y.0.variable ≡ v = sym (x.2 ∙ ap (λ (h : Held). h.value) y.2) in
        subst (λ (u : Value). GivenAt s' frame t (suc k) u) value (variable_given k y.0 y.1)

    begun_puts : Puts s s' (Frame process depth) (Some t)
    begun_puts =
        puts_after s m s' (Frame process depth) t has.only
        (placed_puts m s' (Frame process depth) (frame_row own placed.block) frame t placed.placed (has.only.rows (Frame process depth) ∙ none)
        refl refl refl refl refl refl heads given)

  pub frame_begins : BeginsFrame s s' table process depth operation own arguments
  frame_begins d p homes tables by its = begun_puts d p homes tables by its

  pub texts_come : GetsTexts (λ text. Has (first_values table own arguments) (Str text)) s s'
  texts_come =
      gets_on s m s' (λ text. Has (first_values table own arguments) (Str text))
      (gets_words s m (first_values table own arguments) words has) placed.placed.rest
