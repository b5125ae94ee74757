-- A node after a run to the next stop: it shows the activation and its own object as silent steps have left them.
use Rattle.std.proofs.Common.{◌≡◌, ◌≢◌, ℕ, zero, suc, ◌+◌, ◌<◌, ◌≤◌, List, ◌∷◌, drop, length, map, Option, Some}
use Rattle.std.proofs.Common.{refl, sym, ap, ◌∙◌, subst, arith}
use Rattle.std.specs.Option.{option_map}
use Rattle.std.specs.Prelude.{slice_get}
use Rattle.std.proofs.lemmas.Option.{same_Some}
use Rattle.ec_activations.proofs.Stops.{StandsThere, mapped, stands_there}
use Rattle.ec_activations.specs.Frames.{Held, Numbered, at_place, entries_if, frame_thing, headings, held_if, held_of, number_if}
use Rattle.ec_activations.specs.Frames.{stop_of, value_in, word_for, word_if}
use Rattle.ec_base.specs.Bytes.{Bytes}
use Rattle.ec_code.specs.Activations.{Arrived, code_if, code_silent, machine_behind, rested, resting, walk}
use Rattle.ec_code.specs.Fine.{IsIn}
use Rattle.ec_code.specs.Steps.{Machine, field_in, own_field}
use Rattle.ec_code.specs.Typing.{Declared}
use Rattle.ec_code.specs.declared.activation.CodeActivation.{CodeActivation}
use Rattle.ec_code.specs.declared.code.Live.{Live}
use Rattle.ec_code.specs.declared.code.Operation.{Operation}
use Rattle.ec_code.specs.declared.code.Parts.{Parts}
use Rattle.ec_code.specs.declared.code.StopRow.{StopRow}
use Rattle.ec_code.specs.declared.code.Variable.{Variable}
use Rattle.ec_machine_code.specs.Faithful.{Arrives, homes_of, machine_at}
use Rattle.ec_machine_code.specs.Frames.{first_saved, home_word}
use Rattle.ec_machine_code.specs.Machine.{MachineMeaning}
use Rattle.ec_machine_code.specs.Standing.{HomeStands, Lives}
use Rattle.ec_machine_code.specs.Stops.{live_list, stop_in, stop_places}
use Rattle.ec_machine_code.specs.declared.code.Code.{Code}
use Rattle.ec_machine_code.specs.declared.homes.Home.{Home}
use Rattle.ec_machine_code.specs.declared.homes.Home.TheVariants.{Register, Slot}
use Rattle.ec_memory.specs.Words.{block_word_at, global_word_at, word_in}
use Rattle.ec_world.specs.Words.{StandsFor}
use Rattle.ec_world.specs.Things.{class_blocks}
use Rattle.ec_world.specs.declared.key.Key.{Key}
use Rattle.ec_world.specs.declared.key.Key.TheVariants.{Frame, Object}
use Rattle.ec_generate.specs.Entries.{entries_of}
use Rattle.ec_generate.specs.Tables.{all_homes}
use Rattle.ec_generate.specs.declared.table.StopEntry.{StopEntry}
use Rattle.ec_generate.specs.declared.table.StopTable.{StopTable}
use Rattle.ec_stores.specs.Changes.{Ran, WordIs}
use Rattle.ec_stores.specs.Memory.{number_of}
use Rattle.ec_stores.specs.Readable.{IsSmall, StandsIn}
use Rattle.ec_things.proofs.Kept.{Carries, stands_kept}
use Rattle.ec_things.specs.Store.{KeptRow, Owned, StandsAt, Store, Tidy, word_of}
use Rattle.ec_things.specs.Things.{Shown}
use Rattle.ec_world.specs.declared.class.ClassNo.{ClassNo}
use Rattle.ec_world.specs.declared.common.Common.{Common}
use Rattle.ec_world.specs.declared.node.Kind.{Kind}
use Rattle.ec_world.specs.declared.object.ObjectRec.{ObjectRec}
use Rattle.ec_world.specs.declared.value.Value.{Value}
use Rattle.ec_world.specs.declared.value.Value.TheVariants.{Ref}
use Rattle.ec_legs.specs.Legs.{CanStep, IsCodeOf, Leg, OwnShown, ShowsAll}
use Rattle.ec_legs.specs.Machines.{IsUntouched, RestsWhere}
use Rattle.ec_legs.proofs.Bytes.{beside_constant, beside_heading, beside_other, word_same}
use Rattle.ec_legs.proofs.Fitting.{apart, constant_here, fields_stand, frame_block, frame_small, frame_word, own_block}
use Rattle.ec_legs.proofs.Fitting.{own_small, word_here, word_home}
use Rattle.ec_legs.proofs.Holding.{pending_held, value_at}
use Rattle.ec_legs.proofs.Keeping.{same_row, word_of_first}
use Rattle.ec_legs.proofs.Stops.{find}
use Rattle.ec_legs.proofs.Walking.{HasOwn, own_kept, walk_keeps}

module _ {S : Type 0} (M : MachineMeaning S) (code : Code) (table : StopTable) (d : Declared) (p : Parts)
    (homes : Kind → List (List Home)) (is : IsCodeOf M code table d p homes) (c : Common) (a : CodeActivation) (step : CanStep p c a)
    (o : ObjectRec) (s : Store) (process depth : ℕ) (shows : ShowsAll p homes c a o s process depth) (kind : s.kind ≡ M.kind)
    (number : M.number ≡ number_of M.kind) (few : M.homes ≤ 20) (bytes : Bytes) (tidy : Tidy s) (small : IsSmall s)
    (stands : StandsIn s bytes) (u : S) where
  abbrev hs : List (List Home)
  hs = all_homes table.operations

  abbrev r : Arrived
  r = step.reached

  abbrev after : CodeActivation
  after = rested a (Some r)

  abbrev m : Machine
  m = machine_behind p c a

  abbrev f : ℕ
  f = (frame_block M code table d p homes is c a step o s process depth shows).0

  abbrev own : ℕ
  own = (own_block M code table d p homes is c a step o s process depth shows).0

  abbrev frame_row : Owned
  frame_row = shows.frame.row

  abbrev own_row : Owned
  own_row = shows.object.row

  silent_is : code_silent p c a ≡ (step.common, after)
  silent_is =
      ap (λ z. resting a (walk p.literals a.own (suc a.at) (drop (suc a.at) (code_if z)) 0 m)) step.is_operation
      ∙ ap (resting a) step.walks

  module _ (arr : Arrives M p code hs s.local s.text a.operation step.operation f own a.own m step.common r u bytes) (s1 s' : Store) (k : ℕ)
      (ran : Ran s s1 k) (stands1 : StandsIn s1 arr.memory) (rests : RestsWhere M table.addresses s1 s' process depth arr.last)
      (tidy' : Tidy s') where
    -- ---- what stays

    row_is : (key : Key) → s'.row key ≡ s.row key
    row_is key = rests.keeps.rows key ∙ ran.rows key

    kind_is : s'.kind ≡ s.kind
    kind_is = rests.keeps.rest.kind ∙ ran.kind

    local_is : (i : ℕ) → s'.local i ≡ s.local i
    local_is i = rests.keeps.rest.local i ∙ ran.local i

    text_is : (i : ℕ) → s'.text i ≡ s.text i
    text_is i = rests.keeps.rest.text i ∙ ran.text i

    carries : Carries s s'
    carries = record { kind = kind_is; local = λ i oid e. local_is i ∙ e; text = λ i t e. text_is i ∙ e }

    number_then : number_of s1.kind ≡ M.number
    number_then = ap number_of (ran.kind ∙ kind) ∙ sym number

    word_then : (b i : ℕ) → s1.word b i ≡ word_in M.number arr.memory (block_word_at b i)
    word_then b i = stands1.words b i ∙ ap (λ (n : ℕ → List ℕ → ℕ). word_in n arr.memory (block_word_at b i)) number_then

    first_frame : slice_get frame_row.blocks 0 ≡ Some f
    first_frame = (frame_block M code table d p homes is c a step o s process depth shows).1

    first_own : slice_get own_row.blocks 0 ≡ Some own
    first_own = (own_block M code table d p homes is c a step o s process depth shows).1

    fields_few : (i : ℕ) (v : Value) → own_field m.common a.own i ≡ Some v → i < 128
    fields_few =
        (fields_stand M code table d p homes is c a step o s process depth shows kind number bytes tidy small stands).few

    two : f ≢ own
    two = apart M code table d p homes is c a step o s process depth shows kind number bytes tidy small stands

    -- ---- words of the frame

    frame_then : (i : ℕ) → i < 128 → word_of s1 frame_row.blocks i ≡ word_in M.number arr.memory (block_word_at f i)
    frame_then i l = word_of_first s1 frame_row.blocks f i first_frame l ∙ word_then f i

    untouched : (i : ℕ) → i < 128 → IsUntouched M.homes i → word_of s' frame_row.blocks i ≡ word_in M.number arr.memory (block_word_at f i)
    untouched i l h =
        rests.keeps.its frame_row i (ran.rows (Frame process depth) ∙ shows.frame.there)
        (let one : length frame_row.blocks ≡ 1 = shows.frame.spells.counted in omega arith) h
        ∙ frame_then i l

    -- a heading that doesn't name the stop
    heading : (i n : ℕ) → i < 8 → i ≢ 3 → i ≢ 4 → word_of s frame_row.blocks i ≡ Some n → word_of s' frame_row.blocks i ≡ Some n
    heading i n l three four e =
        untouched i (omega arith) (three, four, λ j h. omega arith)
        ∙ word_same M.number bytes arr.memory (block_word_at f i) (λ j h.
        arr.others (block_word_at f i + j) (beside_heading M s.local s.text f own a.own m fields_few i j two (omega arith) h))
        ∙ sym (frame_word M code table d p homes is c a step o s process depth shows kind number bytes tidy small stands i (omega arith))
        ∙ e

    -- a word of the frame, however it is told
    told : (j w : ℕ) → WordIs s' (Frame process depth) j w → word_of s' frame_row.blocks j ≡ Some w
    told j w h =
        let same = same_row s' (Frame process depth) frame_row h.row (row_is (Frame process depth) ∙ shows.frame.there) h.there in
        ap (λ (q : Owned). word_of s' q.blocks j) same ∙ h.is

    -- ---- the stop

    code_is : arr.at.operation ≡ step.operation
    code_is = same_Some arr.at.operation step.operation (sym arr.at.is_operation ∙ step.is_operation)

    number_there : slice_get (stop_places step.operation.code) arr.at.number ≡ Some r.place
    number_there =
        subst (λ (z : Operation). slice_get (stop_places z.code) arr.at.number ≡ Some r.place) code_is arr.at.is_number

    abbrev entries : List StopEntry
    entries = entries_of step.operation.code

    found : (z : Numbered) × (at_place r.place 0 entries ≡ Some z) × (z.number ≡ 0 + arr.at.number)
    found = find step.operation.code r.place 0 0 step.operation.code arr.at.number number_there

    stop_now : stop_of p after ≡ Some found.0
    stop_now = ap (λ z. at_place r.place 0 (entries_if z)) step.is_operation ∙ found.1

    same_number : rests.number ≡ arr.at.number
    same_number =
        (is.faithful.apart rests.operation rests.number a.operation arr.at.number (M.place arr.last)
        (sym (is.bound rests.operation rests.number) ∙ rests.is_there) arr.at.is_address).1

    number_now : number_if (stop_of p after) ≡ rests.number
    number_now =
        let n = found.2 in
        let same = same_number in
        ap number_if stop_now ∙ (omega arith)

    heads : (i n : ℕ) → slice_get (headings p process depth after) i ≡ Some n → word_of s' frame_row.blocks i ≡ Some n
    heads zero n e = heading 0 n (omega arith) (omega arith) (omega arith) (shows.frame.spells.heads 0 n e)
    heads (suc zero) n e = heading 1 n (omega arith) (omega arith) (omega arith) (shows.frame.spells.heads 1 n e)
    heads (suc (suc zero)) n e = heading 2 n (omega arith) (omega arith) (omega arith) (shows.frame.spells.heads 2 n e)
    heads (suc (suc (suc zero))) n e = told 3 rests.number rests.stop ∙ ap Some (sym number_now) ∙ e
    heads (suc (suc (suc (suc zero)))) n e = told 4 1 rests.pending ∙ e
    heads (suc (suc (suc (suc (suc zero))))) n e = heading 5 n (omega arith) (omega arith) (omega arith) (shows.frame.spells.heads 5 n e)
    heads (suc (suc (suc (suc (suc (suc i)))))) n e = absurd cc

    -- ---- what the frame holds

    st : StandsThere step.operation.code r.place found.0.entry
    st = stands_there step.operation.code r.place 0 0 step.operation.code found.0 refl found.1

    same_stop : st.row ≡ arr.row
    same_stop = same_Some st.row arr.row (sym st.is_row ∙ sym (ap stop_in st.is_line) ∙ arr.is_row)

    abbrev LivesThen : Variable → Type 0
    LivesThen x = Lives M s.local s.text (homes_of hs a.operation step.operation) f arr.last arr.memory (machine_at step.common r) x

    held_then : (i : ℕ) (h : Held) → slice_get (held_of p after) i ≡ Some h → (h.value ≡ value_in p after h.variable) × LivesThen h.variable
    held_then i h e =
        pending_held p after found.0.entry st.line.live st.row.operands LivesThen refl
        (ap (λ (z : StopEntry). z.operands) st.is)
        (λ x g. arr.operands x (subst (λ (z : StopRow). IsIn x z.operands) same_stop g))
        (λ l g.
        arr.live l.variable l.of
        (subst (λ (z : StopRow). IsIn l (live_list step.operation.code r.place z)) same_stop
        (subst (λ (ls : List Live). IsIn l ls)
        (ap (λ (z : StopEntry). z.live) st.is) g)))
        i h (ap (λ (ks : List Held). slice_get ks i) (sym (ap (held_if p after) stop_now)) ∙ e)

    stands_now : (v : Value) (w : ℕ) → StandsFor s.local s.text v w → StandsFor s'.local s'.text v w
    stands_now v w h = stands_kept s s' carries v w h

    home_then : (h : Home) (v : Value) → HomeStands M s.local s.text f arr.last arr.memory h v →
        StandsAt s' frame_row.blocks (home_word h) v
    home_then (Slot n) v z = record {
      word = z.1.word;
      there = untouched (28 + n) (let l = z.0 in omega arith) (omega arith, omega arith, λ j h. omega arith) ∙ z.1.there;
      stands = stands_now v z.1.word z.1.stands;
    }
    home_then (Register n) v z = record {
      word = M.register arr.last (M.first_home + n);
      there = told (first_saved + n) (M.register arr.last (M.first_home + n)) (rests.saved n z.0);
      stands = stands_now v (M.register arr.last (M.first_home + n)) z.1;
    }

    values : (i : ℕ) (v : Value) → slice_get (Ref a.own ∷ map (λ (h : Held). h.value) (held_of p after)) i ≡ Some v →
        (at : ℕ) × (word_for (homes s'.kind) p after i ≡ Some at) × StandsAt s' frame_row.blocks at v
    values zero v e =
        let z = shows.frame.spells.values 0 v e in
        let at : 6 ≡ z.0 = same_Some 6 z.0 z.1 in (
          6,
          refl,
          record {
            word = z.2.word;
            there = heading 6 z.2.word (omega arith) (omega arith) (omega arith)
                (ap (word_of s frame_row.blocks) at ∙ z.2.there);
            stands = stands_now v z.2.word z.2.stands;
          },
        )
    values (suc i) v e =
        let h = mapped (λ (k : Held). k.value) (held_of p after) i v e in
        let x = h.0.variable in
        let z = held_then i h.0 h.1 in
        let l = z.1 in
        let same : l.value ≡ v = sym (value_at p after (machine_at step.common r) x l.value refl refl l.is) ∙ sym z.0 ∙ sym h.2 in (
          home_word l.home,
          ap (word_if (homes s'.kind) p a.operation) h.1
              ∙ word_home M code table d p homes is c a step s'.kind (kind_is ∙ kind) x
              ∙ ap (option_map home_word) l.has,
          subst (λ w. StandsAt s' frame_row.blocks (home_word l.home) w) same (home_then l.home l.value l.stands),
        )

    frame_now : Shown s' (Frame process depth) (frame_thing p homes process depth after)
    frame_now = record {
      row = frame_row;
      there = row_is (Frame process depth) ∙ shows.frame.there;
      spells = record {
        home = shows.frame.spells.home;
        counted = shows.frame.spells.counted;
        size = shows.frame.spells.size;
        class = shows.frame.spells.class;
        fixed = shows.frame.spells.fixed;
        monitor = shows.frame.spells.monitor;
        heads = heads;
        values = values;
      };
    }

    -- ---- the own object

    own_then : HasOwn p.literals a.own o step.common
    own_then =
        subst (λ (z : Common × Option Arrived). HasOwn p.literals a.own o z.0) step.walks
        (walk_keeps p.literals a.own o (suc a.at) (drop (suc a.at) step.operation.code) 0 m
        (own_kept p.literals a.own o c shows.object_is))

    own_word : (i : ℕ) → i < 128 → word_of s' own_row.blocks i ≡ word_in M.number arr.memory (block_word_at own i)
    own_word i l =
        word_of_first s' own_row.blocks own i first_own l
        ∙ (rests.keeps.others (Object a.own) (λ same. let no : ⊥ = cc in no)).words own_row own i
        (ran.rows (Object a.own) ∙ shows.object.there) (record { at = 0; is = first_own }) l
        ∙ word_then own i

    object_now : OwnShown s' a.own step.common
    object_now =
        let h = own_then in
        record {
          object = h.object;
          is = h.is;
          shown = record {
            row = own_row;
            there = row_is (Object a.own) ∙ shows.object.there;
            spells = record {
              home = shows.object.spells.home;
              counted = shows.object.spells.counted
                  ∙ sym (ap (λ (k : ClassNo). class_blocks k (length h.object.fields)) h.class ∙ ap (class_blocks o.class) h.size);
              size = shows.object.spells.size ∙ sym h.size;
              class = shows.object.spells.class ∙ ap Some (sym h.class);
              fixed = shows.object.spells.fixed ∙ sym h.fixed;
              monitor = shows.object.spells.monitor ∙ sym h.monitor;
              heads = λ i n e. absurd cc;
              values = λ i v e.
                  let field : own_field step.common a.own i ≡ Some v = ap (λ q. field_in q i) h.is ∙ e in
                  let z = arr.fields.each i v field in (
                    i,
                    refl,
                    record {
                      word = z.1.word;
                      there = own_word i (arr.fields.few i v field) ∙ z.1.there;
                      stands = stands_now v z.1.word z.1.stands;
                    },
                  );
            };
          };
        }

    -- ---- all else

    others : (key : Key) → key ≢ Frame process depth → key ≢ Object a.own → KeptRow s s' key
    others key not_frame not_own = record {
      row = row_is key;
      words = λ q b i e h l.
          let nf : b ≢ f = λ same. not_frame
          (tidy.apart key (Frame process depth) q frame_row b e shows.frame.there h
          (record { at = 0; is = first_frame ∙ ap Some (sym same) })) in
          let no : b ≢ own = λ same. not_own
          (tidy.apart key (Object a.own) q own_row b e shows.object.there h
          (record { at = 0; is = first_own ∙ ap Some (sym same) })) in
          (rests.keeps.others key not_frame).words q b i (ran.rows key ∙ e) h l
          ∙ word_then b i
          ∙ word_same M.number bytes arr.memory (block_word_at b i) (λ j g.
          arr.others (block_word_at b i + j) (beside_other M s.local s.text f own a.own m fields_few b i j nf no l g))
          ∙ sym (word_here M code table d p homes is c a step o s process depth shows kind number bytes tidy small stands b i);
    }

    constants : (i : ℕ) → s'.global i ≡ s.global i
    constants i =
        rests.keeps.rest.global i
        ∙ stands1.constants i
        ∙ ap (λ (n : ℕ → List ℕ → ℕ). word_in n arr.memory (global_word_at i)) number_then
        ∙ word_same M.number bytes arr.memory (global_word_at i) (λ j g.
        arr.others (global_word_at i + j)
        (beside_constant M s.local s.text f own a.own m fields_few i j
        (frame_small M code table d p homes is c a step o s process depth shows kind number bytes tidy small stands)
        (own_small M code table d p homes is c a step o s process depth shows kind number bytes tidy small stands)))
        ∙ sym (constant_here M code table d p homes is c a step o s process depth shows kind number bytes tidy small stands i)

    pub leg : k ≡ arr.steps → Leg code p homes c a s s' process depth k
    leg steps = record {
      frame = subst (λ (z : Common × CodeActivation). Shown s' (Frame process depth) (frame_thing p homes process depth z.1))
          (sym silent_is) frame_now;
      object = subst (λ (z : Common × CodeActivation). OwnShown s' a.own z.0) (sym silent_is) object_now;
      others = others;
      kind = kind_is;
      local = local_is;
      text = text_is;
      global = constants;
      room = rests.keeps.rest.room ∙ ran.room;
      free = rests.keeps.free ∙ ran.free;
      text_room = rests.keeps.rest.text_room ∙ ran.text_room;
      text_free = rests.keeps.rest.text_free ∙ ran.text_free;
      tidy = tidy';
      count = rests.keeps.rest.count ∙ ran.count;
      few = (let short = arr.few in omega arith);
    }
