-- An action is done that gives a value for which a variable waits.
use Rattle.std.proofs.Common.{◌≡◌, ◌≢◌, ℕ, zero, suc, ◌<◌, ◌≤◌, ⊎_elim, List, ◌∷◌, ◌++◌, length, Option, Some, None}
use Rattle.std.proofs.Common.{refl, sym, ap, ◌∙◌, subst, arith}
use Rattle.std.specs.Prelude.{slice_get, slice_set}
use Rattle.std.proofs.lemmas.Option.{same_Some}
use Rattle.ec_activations.proofs.Stops.{in_list, mapped}
use Rattle.ec_activations.proofs.ValueByValue.{one_word_one_value}
use Rattle.ec_activations.specs.Frames.{Held, frame_thing, held_in, held_of, or_nil, result_in, taker_of, value_in, variable_word}
use Rattle.ec_activations.specs.Frames.{word_if}
use Rattle.ec_base.proofs.Lists.{get_set_other, get_set_same}
use Rattle.ec_code.specs.Activations.{finished, into_variable, variables_behind, variables_if, with_result}
use Rattle.ec_code.specs.Typing.{Declared}
use Rattle.ec_code.specs.declared.activation.CodeActivation.{CodeActivation}
use Rattle.ec_code.specs.declared.code.Live.{Live}
use Rattle.ec_code.specs.declared.code.Parts.{Parts}
use Rattle.ec_code.specs.declared.code.Variable.{Variable}
use Rattle.ec_code.specs.declared.code.Variable.TheVariants.{Named, Temporary}
use Rattle.ec_machine_code.specs.Frames.{home_word}
use Rattle.ec_machine_code.specs.Homes.{IsVariable}
use Rattle.ec_machine_code.specs.declared.homes.Home.{Home}
use Rattle.ec_node_frames.proofs.AtStop.{has_column, no_entry, not_taken}
use Rattle.ec_node_frames.proofs.Changes.{Rewritten, only_rewritten, rewritten_but, rewritten_on, word_rewritten, word_there}
use Rattle.ec_node_frames.proofs.Homed.{behind_eight, has_spot, homes_of, its_operation, spot_is, word_from_eight}
use Rattle.ec_node_frames.proofs.Items.{get_map, put_beside, put_here}
use Rattle.ec_node_frames.proofs.Rewriting.{IsDone, IsThere, held_now, live_stood, rewritten_puts, still_stands}
use Rattle.ec_node_frames.specs.Finishing.{FinishesFrame, Gives, IsTaken, RestsHere}
use Rattle.ec_world.specs.declared.key.Key.TheVariants.{Frame}
use Rattle.ec_objects.proofs.Gets.{gets_on, gets_word}
use Rattle.ec_objects.specs.Values.{HasWord}
use Rattle.ec_generate.specs.Tables.{home_in}
use Rattle.ec_generate.specs.declared.table.OperationTable.{OperationTable}
use Rattle.ec_generate.specs.declared.table.StopEntry.{StopEntry}
use Rattle.ec_stores.proofs.Putting.{rest_grown}
use Rattle.ec_stores.specs.Changes.{WritesWord}
use Rattle.ec_things.proofs.Kept.{carries_of, stands_kept}
use Rattle.ec_things.proofs.Put.{same_or_not}
use Rattle.ec_things.specs.Store.{StandsAt, Store, Tidy, word_of}
use Rattle.ec_things.specs.Texts.{GetsTexts}
use Rattle.ec_things.specs.Things.{Puts}
use Rattle.ec_world.specs.declared.node.Kind.{Kind}
use Rattle.ec_world.specs.declared.value.Value.{Value}
use Rattle.ec_world.specs.declared.value.Value.TheVariants.{Str}

-- ---- the activation that goes on

given_is_done : (a : CodeActivation) (x : Variable) (v : Value) → IsDone a (with_result a x v)
given_is_done a (Named n) v = record { operation = refl; own = refl; at = refl; done = refl }
given_is_done a (Temporary d) v = record { operation = refl; own = refl; at = refl; done = refl }

waits_no_more : (a : CodeActivation) (x : Variable) (v : Value) → (with_result a x v).into ≡ None
waits_no_more a (Named n) v = refl
waits_no_more a (Temporary d) v = refl

module _ (p : Parts) (a : CodeActivation) where
  all_there : (at : ℕ) → at ≢ 0 → variables_behind p a at ≡ a.variables
  all_there zero ne = absurd (ne refl)
  all_there (suc at) ne = refl

  one_set : (n : ℕ) (v : Value) (at : ℕ) → at ≢ 0 → variables_behind p (with_result a (Named n) v) at ≡ slice_set a.variables n v
  one_set n v zero ne = absurd (ne refl)
  one_set n v (suc at) ne = refl

  none_set : (c : ℕ) (v : Value) (at : ℕ) → variables_behind p (with_result a (Temporary c) v) at ≡ variables_behind p a at
  none_set c v zero = refl
  none_set c v (suc at) = refl

  value_here : (named : ℕ) (x : Variable) (v : Value) → IsVariable named x → named ≤ length a.variables → a.at ≢ 0 →
      value_in p (with_result a x v) x ≡ v
  value_here named (Named n) v is many ne =
      ap (λ (vs : List Value). or_nil (slice_get vs n)) (one_set n v a.at ne)
      ∙ ap or_nil (get_set_same a.variables n v (omega (arith, is, many)))
  value_here named (Temporary c) v is many ne = ap or_nil (put_here a.temporaries c v)

  value_beside : (x : Variable) (v : Value) (y : Variable) → y ≢ x → a.at ≢ 0 → value_in p (with_result a x v) y ≡ value_in p a y
  value_beside (Named n) v (Named k) apart ne =
      ap (λ (vs : List Value). or_nil (slice_get vs k)) (one_set n v a.at ne)
      ∙ ap or_nil (get_set_other a.variables n k v (λ q. apart (ap Named q)))
      ∙ sym (ap (λ (vs : List Value). or_nil (slice_get vs k)) (all_there a.at ne))
  value_beside (Named n) v (Temporary k) apart ne = refl
  value_beside (Temporary c) v (Named k) apart ne = ap (λ (vs : List Value). or_nil (slice_get vs k)) (none_set c v a.at)
  value_beside (Temporary c) v (Temporary k) apart ne = put_beside a.temporaries c k v (λ q. apart (ap Temporary q))

-- ---- its frame

module _ (s m t s' : Store) (process depth : ℕ) (table : OperationTable) (e : StopEntry) (l : Live) (result : e.result ≡ Some l)
    (v : Value) (w : ℕ) (has : HasWord s m v w) (ends : WritesWord m t (Frame process depth) 4 0)
    (gives : home_word (home_in table l.variable) < 128 →
    WritesWord t s' (Frame process depth) (home_word (home_in table l.variable)) w) (tidy : Tidy s') where
  -- where the value goes
  abbrev place : ℕ
  place = home_word (home_in table l.variable)

  abbrev Kept : ℕ → Type 0
  Kept j = (j ≢ 4) × (j ≢ place)

  module _ (d : Declared) (p : Parts) (homes : Kind → List (List Home)) (tables : List OperationTable) (a : CodeActivation)
      (here : RestsHere s table e process depth d p homes tables a) where
    abbrev next : CodeActivation
    next = with_result a l.variable v

    done : IsDone a (with_result a l.variable v)
    done = given_is_done a l.variable v

    spot : variable_word (homes s.kind) p a.operation l.variable ≡ Some place
    spot =
        let o = its_operation d p s.kind homes tables here.has a.operation table here.its in
        has_spot d p s.kind homes tables here.has a.operation table here.its l.variable
        (has_column d p here.has.fine here.has.limits a o.0 o.1 e here.rests l result)

    low : place < 128
    low = (spot_is d p s.kind homes tables here.has a.operation table here.its l.variable place spot).low

    not_first : a.at ≢ 0
    not_first =
        let o = its_operation d p s.kind homes tables here.has a.operation table here.its in
        no_entry d p here.has.fine here.has.limits a o.0 o.1 e here.rests l result

    value_is : value_in p next l.variable ≡ v
    value_is =
        let o = its_operation d p s.kind homes tables here.has a.operation table here.its in
        let c = has_column d p here.has.fine here.has.limits a o.0 o.1 e here.rests l result in
        let some : 0 < a.at = (let ne = not_first in omega (arith, ne)) in
        let many : length o.0.variables ≤ length a.variables =
        subst (λ n. n ≤ length a.variables) (ap (λ q. length (variables_if q)) o.1) (here.rests.named some) in
        value_here p a (length o.0.variables) l.variable v c.is_variable many not_first

    others_are : (j : ℕ) (k : Live) → slice_get e.live j ≡ Some k → value_in p next k.variable ≡ value_in p a k.variable
    others_are j k is =
        let o = its_operation d p s.kind homes tables here.has a.operation table here.its in
        let ne = not_taken d p here.has.fine here.has.limits a o.0 o.1 e here.rests l result k (in_list e.live j k is) in
        value_beside p a l.variable v k.variable ne not_first

    -- ---- what has been written

    re : Rewritten s s' (Frame process depth) Kept
    re =
        let key = Frame process depth in
        let first =
        rewritten_on s m t key (λ j. Unit {0}) (λ j. j ≢ 4) (only_rewritten s m key has.only) (word_rewritten m t key 4 0 ends) in
        let both = rewritten_on s t s' key (λ j. Unit {0} × (j ≢ 4)) (λ j. j ≢ place) first (word_rewritten t s' key place w (gives low)) in
        rewritten_but s s' key (λ j. (Unit {0} × (j ≢ 4)) × (j ≢ place)) Kept (λ j k. ((tt, k.0), k.1)) both

    row_then : t.row (Frame process depth) ≡ Some here.shown.row
    row_then = ends.rows (Frame process depth) ∙ has.only.rows (Frame process depth) ∙ here.shown.there

    from_eight : 8 ≤ place
    from_eight = behind_eight (home_in table l.variable)

    ended : word_of s' here.shown.row.blocks 4 ≡ Some 0
    ended =
        let one = here.shown.spells.counted in
        (gives low).its here.shown.row 4 row_then (omega (arith, one)) (let f = from_eight in λ q. omega (arith, f, q))
        ∙ word_there m t (Frame process depth) 4 0 here.shown.row ends (has.only.rows (Frame process depth) ∙ here.shown.there)

    stands_now : StandsAt s' here.shown.row.blocks place v
    stands_now = record {
      word = w;
      there = word_there t s' (Frame process depth) place w here.shown.row (gives low) row_then;
      stands = stands_kept t s' (carries_of t s' (rest_grown t s' (gives low).rest)) v w
          (stands_kept m t (carries_of m t (rest_grown m t ends.rest)) v w has.stands);
    }

    keeps : (j : ℕ) → j < 8 → j ≢ 4 → Kept j
    keeps j small ne = (ne, (let f = from_eight in λ q. omega (arith, f, q, small)))

    -- ---- what is held now

    abbrev one : Held
    one = record { variable = l.variable; value = value_in p next l.variable }

    held_given : held_of p next ≡ one ∷ held_in p next e.live
    held_given =
        held_now p a next done e here.rests
        ∙ ap (λ r. result_in p next r next.into ++ held_in p next e.live) result
        ∙ ap (λ i. result_in p next (Some l) i ++ held_in p next e.live) (waits_no_more a l.variable v)

    first_held : slice_get (held_of p next) zero ≡ Some one
    first_held = ap (λ (hs : List Held). slice_get hs zero) held_given

    abbrev Is : Held → Type 0
    Is h = IsThere s s' process depth p homes a next Kept re tidy here.shown done keeps ended h

    result_there : (h : Held) → one ≡ h → Is h
    result_there h is = record {
      at = place;
      spot = ap (λ (k : Held). variable_word (homes s.kind) p a.operation k.variable) (sym is) ∙ spot;
      stands = subst (λ (u : Value). StandsAt s' here.shown.row.blocks place u) (sym value_is ∙ ap (λ (k : Held). k.value) is) stands_now;
    }

    -- a live variable with the home of the result has its value
    same_word : (j : ℕ) (h : Held) → slice_get (held_of p next) (suc j) ≡ Some h →
        variable_word (homes s.kind) p a.operation h.variable ≡ Some place → v ≡ h.value
    same_word j h is word =
        let operation = ap (λ o. variable_word (homes s.kind) p o l.variable) done.operation in
        let other = ap (λ o. variable_word (homes s.kind) p o h.variable) done.operation in
        sym value_is
        ∙ one_word_one_value d p s.kind homes process depth next (suc zero) (suc (suc j)) place one.value h.value
        (homes_of d p s.kind homes tables here.has)
        (get_map (λ (k : Held). k.value) (held_of p next) zero one first_held)
        (get_map (λ (k : Held). k.value) (held_of p next) (suc j) h is)
        (ap (word_if (homes s.kind) p next.operation) first_held ∙ operation ∙ spot)
        (ap (word_if (homes s.kind) p next.operation) is ∙ other ∙ word)

    live_there : (j : ℕ) (h : Held) → slice_get (held_of p next) (suc j) ≡ Some h → slice_get (held_in p next e.live) j ≡ Some h → Is h
    live_there j h is live =
        let n = mapped (λ (k : Live). record { variable = k.variable; value = value_in p next k.variable }) e.live j h live in
        let y = live_stood s s' process depth p homes a next Kept re tidy here.shown done keeps ended e here.rests j n.0 n.1 in
        let variable : h.variable ≡ n.0.variable = ap (λ (k : Held). k.variable) n.2 in
        let value : h.value ≡ value_in p a n.0.variable = ap (λ (k : Held). k.value) n.2 ∙ others_are j n.0 n.1 in
        let word : variable_word (homes s.kind) p a.operation h.variable ≡ Some y.0 =
        ap (variable_word (homes s.kind) p a.operation) variable ∙ y.1 in
        let behind = word_from_eight (homes s.kind) p a.operation y.0 h.variable word in
        ⊎_elim
        (λ (same : y.0 ≡ place). record {
          at = place;
          spot = word ∙ ap Some same;
          stands = subst (λ (u : Value). StandsAt s' here.shown.row.blocks place u) (same_word j h is (word ∙ ap Some same)) stands_now;
        })
        (λ (ne : y.0 ≢ place). record {
          at = y.0;
          spot = word;
          stands = subst (λ (u : Value). StandsAt s' here.shown.row.blocks y.0 u) (sym value)
              (still_stands s s' process depth p homes a next Kept re tidy here.shown done keeps ended y.0 (value_in p a n.0.variable)
              (λ q. omega (arith, behind, q), ne) y.2);
        })
        (same_or_not y.0 place)

    each : (i : ℕ) (h : Held) → slice_get (held_of p next) i ≡ Some h → Is h
    each zero h is = result_there h (same_Some one h (sym first_held ∙ is))
    each (suc j) h is = live_there j h is (sym (ap (λ (hs : List Held). slice_get hs (suc j)) held_given) ∙ is)

    given_puts : Puts s s' (Frame process depth) (Some (frame_thing p homes process depth (with_result a l.variable v)))
    given_puts = rewritten_puts s s' process depth p homes a next Kept re tidy here.shown done keeps ended each

  goes_on : FinishesFrame s s' table e process depth (Some v)
  goes_on d p homes tables a here waits =
      let into : a.into ≡ Some l.variable = waits ∙ ap taker_of result in
      let is : finished a (Some v) ≡ with_result a l.variable v = ap (λ y. into_variable a y v) into in
      subst (λ (b : CodeActivation). Puts s s' (Frame process depth) (Some (frame_thing p homes process depth b))) (sym is)
      (given_puts d p homes tables a here)

pub value_given : (s s' : Store) (process depth : ℕ) (table : OperationTable) (e : StopEntry) (l : Live) → e.result ≡ Some l → (v : Value) →
    Gives s s' process depth (home_word (home_in table l.variable)) v → FinishesFrame s s' table e process depth (Some v)
value_given s s' process depth table e l result v g =
    goes_on s g.made g.ended s' process depth table e l result v g.word g.has g.ends g.writes g.tidy

-- ---- the texts that come

taken_text : (s s' : Store) (t : Option Live) (l : Live) (v : Value) → t ≡ Some l → GetsTexts (λ text. v ≡ Str text) s s' →
    GetsTexts (IsTaken t (Some v)) s s'
taken_text s s' None l v e gets = absurd cc
taken_text s s' (Some k) l v e gets = record {
  kind = gets.kind;
  room = gets.room;
  text_room = gets.text_room;
  count = gets.count;
  texts = gets.texts;
  stay = gets.stay;
}

pub texts_given : (s s' : Store) (process depth at : ℕ) (t : Option Live) (l : Live) (v : Value) → t ≡ Some l →
    Gives s s' process depth at v → GetsTexts (IsTaken t (Some v)) s s'
texts_given s s' process depth at t l v e g =
    taken_text s s' t l v e
    (gets_on s g.ended s' (λ text. v ≡ Str text) (gets_on s g.made g.ended (λ text. v ≡ Str text) (gets_word s g.made v g.word g.has)
    g.ends.rest) g.rest)
