-- The frame of an activation that comes from another node.
use Rattle.std.proofs.Common.{◌≡◌, ℕ, zero, suc, ◌<◌, List, [], ◌∷◌, length, Some, None}
use Rattle.std.proofs.Common.{refl, sym, ap, ◌∙◌, subst}
use Rattle.std.specs.Prelude.{if◌then◌else◌, slice_get}
use Rattle.std.proofs.lemmas.Option.{same_Some}
use Rattle.ec_activations.proofs.Stops.{mapped}
use Rattle.ec_activations.proofs.ValueByValue.{each_value_has_a_word, one_word_one_value}
use Rattle.ec_activations.specs.Frames.{Held, frame_thing, headings, held_in, held_of, value_in, variable_word, word_if}
use Rattle.ec_node_frames.proofs.Carrying.{held_when, with_value}
use Rattle.ec_node_frames.specs.Arriving.{Arrives}
use Rattle.ec_node_frames.specs.Carried.{IsCarried, carried, values_carried}
use Rattle.ec_base.proofs.Lists.{get_within}
use Rattle.ec_code.specs.Typing.{Declared}
use Rattle.ec_code.specs.declared.activation.CodeActivation.{CodeActivation}
use Rattle.ec_code.specs.declared.code.Live.{Live}
use Rattle.ec_code.specs.declared.code.Parts.{Parts}
use Rattle.ec_machine_code.specs.declared.homes.Home.{Home}
use Rattle.ec_node_frames.proofs.Changes.{puts_after}
use Rattle.ec_node_frames.proofs.Homed.{homes_of, spot_is}
use Rattle.ec_node_frames.proofs.Items.{get_map}
use Rattle.ec_node_frames.specs.Frames.{AreHeadings, HasTables}
use Rattle.ec_node_frames.specs.Loops.{IsFilled, spot_of}
use Rattle.ec_node_frames.specs.declared.frames.Headings.{Headings}
use Rattle.ec_world.specs.declared.key.Key.TheVariants.{Frame}
use Rattle.ec_objects.proofs.Gets.{gets_on, gets_words}
use Rattle.ec_objects.specs.Values.{HasWords}
use Rattle.ec_generate.specs.declared.table.OperationTable.{OperationTable}
use Rattle.ec_generate.specs.declared.table.StopEntry.{StopEntry}
use Rattle.ec_stores.proofs.Putting.{GivenAt, placed_puts, rest_grown}
use Rattle.ec_stores.specs.Changes.{PlacedFrame, frame_row}
use Rattle.ec_things.proofs.Kept.{carries_of, stands_kept}
use Rattle.ec_things.specs.Store.{Stands, Store}
use Rattle.ec_things.specs.Texts.{GetsTexts}
use Rattle.ec_things.specs.Things.{Puts, Thing}
use Rattle.ec_world.specs.Group.{Has}
use Rattle.ec_world.specs.declared.node.Kind.{Kind}
use Rattle.ec_world.specs.declared.value.Value.{Value}
use Rattle.ec_world.specs.declared.value.Value.TheVariants.{Ref, Str}

abbrev value_held : Held → Value
value_held h = h.value

-- what the frame of an activation with these headings begins with
abbrev pub head_words : ℕ → ℕ → Headings → ℕ → List ℕ
head_words process depth h word =
    process ∷ depth ∷ h.operation ∷ h.stop ∷ (if h.pending then 1 else 0) ∷ h.own ∷ word ∷ []

-- what has been made, for a frame
pub record Made (s m : Store) (process depth : ℕ) (h : Headings) (table : OperationTable) (held : List Live) (values : List Value)
    (words frame : List ℕ) : Type 0 where
  pub word : ℕ
  pub first : slice_get words 0 ≡ Some word
  pub has : HasWords s m (Ref h.own ∷ values) words
  pub filled : IsFilled table held words (head_words process depth h word) frame (length held)

module _ (s m s' : Store) (process depth : ℕ) (h : Headings) (table : OperationTable) (e : StopEntry) (values : List Value)
    (words frame : List ℕ) (made : Made s m process depth h table (carried e h.pending) values words frame)
    (placed : PlacedFrame m s' process depth h.own frame) (none : s.row (Frame process depth) ≡ None) where
  module _ (d : Declared) (p : Parts) (homes : Kind → List (List Home)) (tables : List OperationTable) (a : CodeActivation)
      (by : HasTables d p s.kind homes tables) (its : slice_get tables h.operation ≡ Some table) (goes : IsCarried p a e)
      (its_heads : AreHeadings p a h) (are : values ≡ values_carried p a e h.pending) where
    abbrev t : Thing
    t = frame_thing p homes process depth a

    abbrev held : List Live
    held = carried e h.pending

    its_table : slice_get tables a.operation ≡ Some table
    its_table = ap (slice_get tables) (sym its_heads.operation) ∙ its

    same_kind : s'.kind ≡ s.kind
    same_kind = placed.placed.rest.kind ∙ made.has.only.grown.kind

    still_stands : (v : Value) (w : ℕ) → Stands m v w → Stands s' v w
    still_stands v w stands = stands_kept m s' (carries_of m s' (rest_grown m s' placed.placed.rest)) v w stands

    held_is : held_of p a ≡ held_in p a held
    held_is = held_when p a e h.pending goes (sym its_heads.pending)

    -- ---- a variable that is there, and its value

    held_there : (k : ℕ) (l : Live) → slice_get held k ≡ Some l → slice_get (held_of p a) k ≡ Some (with_value p a l)
    held_there k l is = ap (λ (hs : List Held). slice_get hs k) held_is ∙ get_map (with_value p a) held k l is

    value_there : (k : ℕ) (l : Live) → slice_get held k ≡ Some l → slice_get t.values (suc k) ≡ Some (value_in p a l.variable)
    value_there k l is = get_map value_held (held_of p a) k (with_value p a l) (held_there k l is)

    value_given : (k : ℕ) (l : Live) → slice_get held k ≡ Some l → slice_get values k ≡ Some (value_in p a l.variable)
    value_given k l is =
        ap (λ (vs : List Value). slice_get vs k) are
        ∙ get_map value_held (held_in p a held) k (with_value p a l) (get_map (with_value p a) held k l is)

    -- the word of a variable that is there
    record Spot (k : ℕ) (l : Live) : Type 0 where
      is : t.spot s.kind (suc k) ≡ Some (spot_of table l)
      low : spot_of table l < 128

    spot_there : (k : ℕ) (l : Live) → slice_get held k ≡ Some l → Spot k l
    spot_there k l is =
        let law = each_value_has_a_word d p s.kind homes process depth a (suc k) (value_in p a l.variable)
        (homes_of d p s.kind homes tables by) (value_there k l is) in
        let word : word_if (homes s.kind) p a.operation (slice_get (held_of p a) k)
        ≡ variable_word (homes s.kind) p a.operation l.variable =
        ap (word_if (homes s.kind) p a.operation) (held_there k l is) in
        let spot = spot_is d p s.kind homes tables by a.operation table its_table l.variable law.0 (sym word ∙ law.1) in
        record { is = law.1 ∙ ap Some (sym spot.is); low = subst (λ n. n < 128) (sym spot.is) spot.low }

    -- ---- the words of the frame

    heads : (i n : ℕ) → slice_get (headings p process depth a) i ≡ Some n → slice_get frame i ≡ Some n
    heads zero n is = made.filled.headed 0 n is
    heads (suc zero) n is = made.filled.headed 1 n is
    heads (suc (suc zero)) n is = made.filled.headed 2 n (ap Some its_heads.operation ∙ is)
    heads (suc (suc (suc zero))) n is = made.filled.headed 3 n (ap Some its_heads.stop ∙ is)
    heads (suc (suc (suc (suc zero)))) n is =
        made.filled.headed 4 n (ap (λ b. Some (if b then 1 else 0)) its_heads.pending ∙ is)
    heads (suc (suc (suc (suc (suc zero))))) n is = made.filled.headed 5 n (ap Some its_heads.own ∙ is)
    heads (suc (suc (suc (suc (suc (suc i)))))) n is = absurd cc

    own_given : (v : Value) → Ref h.own ≡ v → GivenAt s' frame t zero v
    own_given v is = record {
      at = 6;
      word = made.word;
      spot = refl;
      there = made.filled.headed 6 made.word refl;
      stands = subst (λ (u : Value). Stands s' u made.word) is
          (still_stands (Ref h.own) made.word (made.has.are.each 0 made.word (Ref h.own) refl made.first));
    }

    variable_given : (k : ℕ) (l : Live) → slice_get held k ≡ Some l → GivenAt s' frame t (suc k) (value_in p a l.variable)
    variable_given k l is =
        let spot = spot_there k l is in
        let one = made.filled.each k l (get_within held k l is) is spot.low in
        let its_spot = spot_there one.index one.live one.is in
        let same : value_in p a one.live.variable ≡ value_in p a l.variable =
        one_word_one_value d p s.kind homes process depth a (suc one.index) (suc k) (spot_of table l) (value_in p a one.live.variable)
        (value_in p a l.variable) (homes_of d p s.kind homes tables by) (value_there one.index one.live one.is) (value_there k l is)
        (its_spot.is ∙ ap Some one.home) spot.is in
        let stands = made.has.are.each (suc one.index) one.word (value_in p a one.live.variable)
        (value_given one.index one.live one.is) one.its in
        record {
          at = spot_of table l;
          word = one.word;
          spot = ap (λ kind. t.spot kind (suc k)) same_kind ∙ spot.is;
          there = one.there;
          stands = still_stands (value_in p a l.variable) one.word (subst (λ (u : Value). Stands m u one.word) same stands);
        }

    given : (i : ℕ) (v : Value) → slice_get t.values i ≡ Some v → GivenAt s' frame t i v
    given zero v is = own_given v (ap Ref its_heads.own ∙ same_Some (Ref a.own) v is)
    given (suc k) v is =
        let x = mapped value_held (held_of p a) k v is in
        let y = mapped (with_value p a) held k x.0 (sym (ap (λ (hs : List Held). slice_get hs k) held_is) ∙ x.1) in
        let value : value_in p a y.0.variable ≡ v = sym (x.2 ∙ ap value_held y.2) in
        subst (λ (u : Value). GivenAt s' frame t (suc k) u) value (variable_given k y.0 y.1)

    arrived_puts : Puts s s' (Frame process depth) (Some t)
    arrived_puts =
        puts_after s m s' (Frame process depth) t made.has.only
        (placed_puts m s' (Frame process depth) (frame_row h.own placed.block) frame t placed.placed
        (made.has.only.rows (Frame process depth) ∙ none) its_heads.own refl refl refl refl refl heads given)

  pub frame_arrives : Arrives s s' table e process depth h values
  frame_arrives d p homes tables a by its goes its_heads are = arrived_puts d p homes tables a by its goes its_heads are

  pub texts_come : GetsTexts (λ text. Has (Ref h.own ∷ values) (Str text)) s s'
  texts_come =
      gets_on s m s' (λ text. Has (Ref h.own ∷ values) (Str text)) (gets_words s m (Ref h.own ∷ values) words made.has)
      placed.placed.rest
