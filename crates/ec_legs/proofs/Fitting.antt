-- A machine that is set up for an activation that its node shows fits it.
use Rattle.std.proofs.Common.{◌≡◌, ◌≢◌, ℕ, zero, suc, ◌+◌, ◌^◌, ◌<◌, ◌≤◌, Bool, true, List, [], ◌∷◌, drop, length, map, Option, Some, None}
use Rattle.std.proofs.Common.{refl, sym, ap, ◌∙◌, subst, arith, ⊎_elim}
use Rattle.std.specs.Option.{option_map}
use Rattle.std.specs.Prelude.{◌/◌, if◌then◌else◌, max, slice_get}
use Rattle.std.proofs.lemmas.Bool.{cases_lt}
use Rattle.std.proofs.lemmas.Option.{same_Some, slice_get-map}
use Rattle.ec_activations.proofs.Stops.{StandsThere, stands_there}
use Rattle.ec_activations.specs.Frames.{Held, at_place, entries_if, held_at, held_if, held_of, number_if, value_in, variable_word, word_if}
use Rattle.ec_base.proofs.Lists.{get_there, get_within}
use Rattle.ec_base.specs.Bytes.{Bytes}
use Rattle.ec_code.specs.Activations.{machine_behind, operation_at, variables_if}
use Rattle.ec_code.specs.Fine.{Behind, FineOp, Has as HasLive, IsTaken, live_at}
use Rattle.ec_code.specs.Steps.{Machine, field_in, own_field}
use Rattle.ec_code.specs.Typing.{Declared}
use Rattle.ec_code.specs.declared.activation.CodeActivation.{CodeActivation}
use Rattle.ec_code.specs.declared.code.Operation.{Operation}
use Rattle.ec_code.specs.declared.code.Parts.{Parts}
use Rattle.ec_code.specs.declared.code.StopRow.{StopRow}
use Rattle.ec_code.specs.declared.code.Variable.{Variable}
use Rattle.ec_types.specs.declared.conform.static_type.StaticType.{StaticType}
use Rattle.ec_machine_code.specs.Faithful.{Arrives, homes_of}
use Rattle.ec_machine_code.specs.Frames.{home_word, slots}
use Rattle.ec_machine_code.specs.Machine.{MachineMeaning}
use Rattle.ec_machine_code.specs.Standing.{AreTables, ConstantsStand, FieldsStand, Fits, HomeStands, Lives}
use Rattle.ec_machine_code.specs.Stops.{IsStopAt, address_of, home_in, row_or_empty, stop_in, stop_places, without}
use Rattle.ec_machine_code.specs.declared.code.Code.{Code}
use Rattle.ec_machine_code.specs.Homes.{IsWithin, column}
use Rattle.ec_machine_code.specs.declared.homes.Home.{Home}
use Rattle.ec_machine_code.specs.declared.homes.Home.TheVariants.{Register, Slot}
use Rattle.ec_machine_code.proofs.Stops.{rest_is}
use Rattle.ec_code.specs.Live.{stays}
use Rattle.ec_memory.specs.Words.{block_word_at, global_word_at, word_in}
use Rattle.ec_machine_code.proofs.FineAt.{fine_at}
use Rattle.ec_world.specs.Words.{StandsFor}
use Rattle.ec_world.specs.Things.{blocks_of, class_blocks}
use Rattle.ec_world.specs.declared.key.Key.TheVariants.{Frame, Object}
use Rattle.ec_generate.specs.Entries.{entries_of}
use Rattle.ec_generate.specs.Tables.{AreTablesOf, IsTableOf, all_homes}
use Rattle.ec_generate.specs.declared.table.OperationTable.{OperationTable}
use Rattle.ec_generate.specs.declared.table.StopEntry.{StopEntry}
use Rattle.ec_generate.specs.declared.table.StopTable.{StopTable}
use Rattle.ec_stores.specs.Changes.{FirstBlock, WordIs}
use Rattle.ec_stores.specs.Memory.{number_of}
use Rattle.ec_stores.specs.Readable.{IsSmall, StandsIn}
use Rattle.ec_things.specs.Store.{Owned, StandsAt, Store, Tidy, word_of}
use Rattle.ec_world.specs.Agree.{AllTwo}
use Rattle.ec_world.specs.Group.{Has}
use Rattle.ec_world.specs.declared.class.ClassNo.{ClassNo}
use Rattle.ec_world.specs.declared.class.ClassNo.TheVariants.{Made, Node, Program, Vector}
use Rattle.ec_world.specs.declared.common.Common.{Common}
use Rattle.ec_world.specs.declared.node.Kind.{Kind}
use Rattle.ec_world.specs.declared.object.ObjectRec.{ObjectRec}
use Rattle.ec_world.specs.declared.value.Value.{Value}
use Rattle.ec_world.specs.declared.value.Value.TheVariants.{Ref}
use Rattle.ec_legs.specs.Legs.{CanStep, IsCodeOf, ShowsAll}
use Rattle.ec_legs.specs.Machines.{IsSetUp}
use Rattle.ec_legs.specs.Words.{IsFrame}
use Rattle.ec_legs.proofs.Holding.{behind_held, goes_on, held, value_behind}
use Rattle.ec_legs.proofs.Keeping.{first_of_one, word_of_first}
use Rattle.ec_legs.proofs.Stops.{has_number}

-- ---- homes

table_of : {A B : Type 0} (R : A → B → Type 0) (xs : List A) (ys : List B) (i : ℕ) (x : A) → AllTwo R xs ys → slice_get xs i ≡ Some x →
    (y : B) × (slice_get ys i ≡ Some y) × R x y
table_of R [] ys i x all e = absurd cc
table_of R (z ∷ xs) [] i x all e = absurd all
table_of R (z ∷ xs) (y ∷ ys) zero x all e = (y, refl, subst (λ w. R w y) (same_Some z x e) all.0)
table_of R (z ∷ xs) (y ∷ ys) (suc i) x all e = table_of R xs ys i x all.1 e

-- a home of an operation's variable is one of the kind's registers, or one of a frame's slots
pub home_within : (registers : ℕ) (p : Parts) (ts : List OperationTable) (op named : ℕ) (o : Operation) (x : Variable) (h : Home) →
    AreTablesOf registers slots p ts → operation_at p op ≡ Some o → home_in (all_homes ts) op named x ≡ Some h → IsWithin registers slots h
home_within registers p ts op named o x h are is e =
    let t = table_of (IsTableOf registers slots) p.operations ts op o are is in
    let row : row_or_empty (slice_get (all_homes ts) op) ≡ t.0.homes =
    ap row_or_empty (slice_get-map (λ (u : OperationTable). u.homes) ts op
    ∙ ap (option_map (λ (u : OperationTable). u.homes)) t.1) in
    t.2.homes.within (column named x) h (ap (λ (r : List Home). slice_get r (column named x)) (sym row) ∙ e)

-- a home of which the word is known
pub home_of_word : (o : Option Home) (at : ℕ) → option_map home_word o ≡ Some at → (h : Home) × (o ≡ Some h) × (at ≡ home_word h)
home_of_word None at e = absurd cc
home_of_word (Some h) at e = (h, refl, same_Some at (home_word h) (sym e))

-- ---- the own object and constants

max_one : (n : ℕ) → max 1 ((n + 127) / 128) ≡ 1 → n ≤ 128
max_one n e = omega arith

-- an object of one block has at most 128 fields
few_fields : (o : ObjectRec) → blocks_of o ≡ 1 → length o.fields ≤ 128
few_fields o e = by o.class e
  where
    by : (class : ClassNo) → class_blocks class (length o.fields) ≡ 1 → length o.fields ≤ 128
    by Node f = absurd (omega arith)
    by Program f = max_one (length o.fields) f
    by (Made k) f = max_one (length o.fields) f
    by (Vector of) f = max_one (length o.fields) f

-- constants that all are among the first 2^20 are no more
few_constants : (vs : List Value) → ((i : ℕ) (v : Value) → slice_get vs i ≡ Some v → i < 1048576) → length vs ≤ 2 ^ 20
few_constants vs all = ⊎_elim
    (λ (l : 1048576 < length vs). let z = get_there vs 1048576 l in let no = all 1048576 z.0 z.1 in absurd (omega arith))
    (λ (l : length vs ≤ 1048576). omega arith)
    (cases_lt 1048576 (length vs))

module _ {S : Type 0} (M : MachineMeaning S) (code : Code) (table : StopTable) (d : Declared) (p : Parts)
    (homes : Kind → List (List Home)) (is : IsCodeOf M code table d p homes) (c : Common) (a : CodeActivation) (step : CanStep p c a)
  where
    abbrev hs : List (List Home)
    hs = all_homes table.operations

    abbrev op : Operation
    op = step.operation

    abbrev e : StopEntry
    e = step.stop.entry

    abbrev m : Machine
    m = machine_behind p c a

    -- ---- the stop

    at_is : at_place a.at 0 (entries_of op.code) ≡ Some step.stop
    at_is = sym (ap (λ o. at_place a.at 0 (entries_if o)) step.is_operation) ∙ step.is_stop

    st : StandsThere op.code a.at e
    st = stands_there op.code a.at 0 0 op.code step.stop refl at_is

    row_is : st.row ≡ step.row
    row_is = same_Some st.row step.row (sym st.is_row ∙ sym (ap stop_in st.is_line) ∙ step.is_row)

    stays_on : stays st.row.stop ≡ true
    stays_on = ap (λ (r : StopRow). stays r.stop) row_is ∙ step.stays_on

    taken : IsTaken d p st.row.gives st.row.into
    taken =
        let fine = subst (λ z. FineOp d p a.operation op a.at (drop (suc a.at) op.code) st.line.live z)
        (rest_is st.line.op st.row st.is_row)
        (fine_at d p a.operation op a.at st.line (is.fine.operations a.operation op step.is_operation) st.is_line) in
        (goes_on d p a.operation op st.row.stop
        (IsTaken d p st.row.gives st.row.into × Behind d p (drop (suc a.at) op.code) st.row.gives st.row.into st.line.live) stays_on
        fine.behind).0

    live_is : e.live ≡ without st.row.into (live_at op.code (suc a.at))
    live_is =
        ap (λ (k : StopEntry). k.live) st.is
        ∙ ap (λ (b : Bool). if b then without st.row.into (live_at op.code (suc a.at)) else []) stays_on

    held_is : held_of p a ≡ held_at p a e
    held_is = ap (held_if p a) step.is_stop

    live_held : (x : Variable) (t : StaticType) → HasLive (live_at op.code (suc a.at)) x t → Has (held_of p a) (held p a x)
    live_held x t l =
        subst (λ (ks : List Held). Has ks (held p a x)) (sym held_is)
        (behind_held d p a e st.row.gives st.row.into (live_at op.code (suc a.at)) x t taken step.done step.taken
        (ap (λ (k : StopEntry). k.result) st.is) live_is l)

    pub number_is : slice_get (stop_places op.code) step.stop.number ≡ Some a.at
    number_is =
        let n = has_number op.code a.at 0 0 op.code step.stop at_is in
        let sum = n.1 in
        let same : step.stop.number ≡ n.0 = omega arith in
        ap (slice_get (stop_places op.code)) same ∙ n.2

    pub address_there : (address : ℕ) × (address_of code a.operation step.stop.number ≡ Some address)
    address_there =
        let z = is.faithful.stops a.operation step.stop.number a.at op step.is_operation number_is in
        (z.0, z.1)

    pub stop_is : (address : ℕ) → address_of code a.operation step.stop.number ≡ Some address → IsStopAt p code a.operation a.at address
    stop_is address there = record {
      operation = op;
      is_operation = step.is_operation;
      number = step.stop.number;
      is_number = number_is;
      is_address = there;
    }

    -- ---- homes

    pub word_home : (K : Kind) → K ≡ M.kind → (x : Variable) →
        variable_word (homes K) p a.operation x ≡ option_map home_word (homes_of hs a.operation op x)
    word_home K kind x =
        ap (λ (z : List (List Home)). variable_word z p a.operation x) (ap homes kind ∙ is.homes_are)
        ∙ ap (λ z. option_map home_word (home_in hs a.operation (length (variables_if z)) x)) step.is_operation

    home_small : (x : Variable) (h : Home) → homes_of hs a.operation op x ≡ Some h → IsWithin M.homes slots h
    home_small x h e = home_within M.homes p table.operations a.operation (length op.variables) op x h is.tables step.is_operation e

    -- ---- the node

    module _ (o : ObjectRec) (s : Store) (process depth : ℕ) (shows : ShowsAll p homes c a o s process depth) where
      abbrev frame_row : Owned
      frame_row = shows.frame.row

      abbrev own_row : Owned
      own_row = shows.object.row

      own_one : length own_row.blocks ≡ 1
      own_one = shows.object.spells.counted ∙ shows.one_block

      pub frame_block : (b : ℕ) × (slice_get frame_row.blocks 0 ≡ Some b)
      frame_block = first_of_one frame_row.blocks shows.frame.spells.counted

      pub own_block : (b : ℕ) × (slice_get own_row.blocks 0 ≡ Some b)
      own_block = first_of_one own_row.blocks own_one

      pub is_frame : IsFrame s process depth
      is_frame = record { row = frame_row; there = shows.frame.there; one = shows.frame.spells.counted }

      pub first_frame : FirstBlock s (Frame process depth) frame_block.0
      first_frame = record { row = frame_row; there = shows.frame.there; first = frame_block.1 }

      pub first_own : FirstBlock s (Object a.own) own_block.0
      first_own = record { row = own_row; there = shows.object.there; first = own_block.1 }

      -- ---- headings

      pub operation_word : WordIs s (Frame process depth) 2 a.operation
      operation_word = record { row = frame_row; there = shows.frame.there; is = shows.frame.spells.heads 2 a.operation refl }

      pub stop_word : WordIs s (Frame process depth) 3 step.stop.number
      stop_word = record {
        row = frame_row;
        there = shows.frame.there;
        is = shows.frame.spells.heads 3 step.stop.number (ap (λ n. Some (number_if n)) step.is_stop);
      }

      pub own_word : WordIs s (Frame process depth) 5 a.own
      own_word = record { row = frame_row; there = shows.frame.there; is = shows.frame.spells.heads 5 a.own refl }

      module _ (kind : s.kind ≡ M.kind) where
        -- ---- live variables

        -- a live variable has a home, and its word there stands for its value
        pub record Spelled (x : Variable) (v : Value) : Type 0 where
          pub home : Home
          pub has : homes_of hs a.operation op x ≡ Some home
          pub stands : StandsAt s frame_row.blocks (home_word home) v

        spelled : (x : Variable) (t : StaticType) → HasLive (live_at op.code (suc a.at)) x t → Spelled x (value_in p a x)
        spelled x t l =
            let h = live_held x t l in
            let value : slice_get (map (λ (k : Held). k.value) (held_of p a)) h.at ≡ Some (value_in p a x) =
            slice_get-map (λ (k : Held). k.value) (held_of p a) h.at ∙ ap (option_map (λ (k : Held). k.value)) h.is in
            let z = shows.frame.spells.values (suc h.at) (value_in p a x) value in
            let spot : variable_word (homes s.kind) p a.operation x ≡ Some z.0 =
            sym (ap (word_if (homes s.kind) p a.operation) h.is) ∙ z.1 in
            let g = home_of_word (homes_of hs a.operation op x) z.0 (sym (word_home s.kind kind x) ∙ spot) in
            record { home = g.0; has = g.1; stands = subst (λ at. StandsAt s frame_row.blocks at (value_in p a x)) g.2 z.2 }

        module _ (number : M.number ≡ number_of M.kind) (bytes : Bytes) (tidy : Tidy s) (small : IsSmall s) (stands : StandsIn s bytes)
          where
            abbrev f : ℕ
            f = frame_block.0

            abbrev own : ℕ
            own = own_block.0

            pub number_here : number_of s.kind ≡ M.number
            number_here = ap number_of kind ∙ sym number

            pub word_here : (b i : ℕ) → s.word b i ≡ word_in M.number bytes (block_word_at b i)
            word_here b i = stands.words b i ∙ ap (λ (n : ℕ → List ℕ → ℕ). word_in n bytes (block_word_at b i)) number_here

            pub constant_here : (i : ℕ) → s.global i ≡ word_in M.number bytes (global_word_at i)
            constant_here i = stands.constants i ∙ ap (λ (n : ℕ → List ℕ → ℕ). word_in n bytes (global_word_at i)) number_here

            pub frame_word : (i : ℕ) → i < 128 → word_of s frame_row.blocks i ≡ word_in M.number bytes (block_word_at f i)
            frame_word i l = word_of_first s frame_row.blocks f i frame_block.1 l ∙ word_here f i

            pub own_word_here : (i : ℕ) → i < 128 → word_of s own_row.blocks i ≡ word_in M.number bytes (block_word_at own i)
            own_word_here i l = word_of_first s own_row.blocks own i own_block.1 l ∙ word_here own i

            pub has_frame : Has frame_row.blocks f
            has_frame = record { at = 0; is = frame_block.1 }

            pub has_own : Has own_row.blocks own
            has_own = record { at = 0; is = own_block.1 }

            pub frame_small : f < 65536
            frame_small = small.blocks (Frame process depth) frame_row f shows.frame.there has_frame

            pub own_small : own < 65536
            own_small = small.blocks (Object a.own) own_row own shows.object.there has_own

            pub apart : f ≢ own
            apart same =
                let key = tidy.apart (Frame process depth) (Object a.own) frame_row own_row f shows.frame.there shows.object.there has_frame
                (subst (λ b. Has own_row.blocks b) (sym same) has_own) in
                let no : ⊥ = cc in
                no

            -- ---- the own object

            pub fields_few : length o.fields ≤ 128
            fields_few = few_fields o shows.one_block

            pub own_is : (i : ℕ) → own_field m.common a.own i ≡ slice_get o.fields i
            own_is i = ap (λ r. field_in r i) shows.object_is

            pub fields_stand : FieldsStand M s.local s.text own a.own m bytes
            fields_stand = record {
              each = λ i v g.
                  let there = sym (own_is i) ∙ g in
                  let z = shows.object.spells.values i v there in
                  let few = get_within o.fields i v there in
                  let all = fields_few in
                  let at : i ≡ z.0 = same_Some i z.0 z.1 in (
                    shows.fields i v there,
                    record {
                      word = z.2.word;
                      there = sym (own_word_here i (omega arith)) ∙ ap (word_of s own_row.blocks) at ∙ z.2.there;
                      stands = z.2.stands;
                    },
                  );
              few = λ i v g. (let l = get_within o.fields i v (sym (own_is i) ∙ g) in let all = fields_few in omega arith);
            }

            -- ---- constants and tables

            pub constants_stand : ConstantsStand M s.local s.text m bytes
            constants_stand = record {
              each = λ i v g.
                  let z = shows.constants i v g in
                  (z.0, record { word = z.1.word; there = sym (constant_here i) ∙ z.1.there; stands = z.1.stands });
              few = few_constants c.globals (λ i v g. let z = shows.constants i v g in small.constants i z.1.word z.1.there);
            }

            pub tables : AreTables p s.local s.text
            tables = record {
              nil = tidy.nil;
              locals = tidy.locals;
              texts = tidy.texts;
              small_locals = small.locals;
              small_texts = small.texts;
              literals = shows.literals;
            }

            -- ---- the machine

            module _ (place : ℕ) (u : S) (set_up : IsSetUp M s process depth a.own place u) where
              home_stands : (h : Home) (v : Value) → IsWithin M.homes slots h → StandsAt s frame_row.blocks (home_word h) v →
                  HomeStands M s.local s.text f u bytes h v
              home_stands (Slot n) v within z =
                  let l : n < 100 = within in
                  (within, record { word = z.word; there = sym (frame_word (28 + n) (omega arith)) ∙ z.there; stands = z.stands })
              home_stands (Register k) v within z = (
                within,
                subst (λ w. StandsFor s.local s.text v w)
                    (sym (set_up.homes k z.word within (record { row = frame_row; there = shows.frame.there; is = z.there }))) z.stands,
              )

              lives : (x : Variable) (t : StaticType) → HasLive (live_at op.code (suc a.at)) x t →
                  Lives M s.local s.text (homes_of hs a.operation op) f u bytes m x
              lives x t l =
                  let z = spelled x t l in
                  let v = step.live x t l in
                  let same : value_in p a x ≡ v.0 = value_behind p a m x v.0 refl refl v.1 in
                  record {
                    value = v.0;
                    is = v.1;
                    fits = v.2;
                    home = z.home;
                    has = z.has;
                    stands = home_stands z.home v.0 (home_small x z.home z.has)
                        (subst (λ w. StandsAt s frame_row.blocks (home_word z.home) w) same z.stands);
                  }

              pub fits : Fits M s.local s.text (homes_of hs a.operation op) (live_at op.code (suc a.at)) f own a.own m u bytes
              fits =
                  let own_reference_is = shows.frame.spells.values 0 (Ref a.own) refl in
                  let at : 6 ≡ own_reference_is.0 = same_Some 6 own_reference_is.0 own_reference_is.1 in
                  record {
                    rests = set_up.rests;
                    frame_base = set_up.frame f first_frame;
                    own_base = set_up.object own first_own;
                    frame_small = frame_small;
                    own_small = own_small;
                    apart = apart;
                    frame = λ i l. stands.there (Frame process depth) frame_row f i shows.frame.there has_frame l;
                    itself = (
                      own_reference_is.2.word,
                      sym (frame_word 6 (omega arith)) ∙ ap (word_of s frame_row.blocks) at ∙ own_reference_is.2.there,
                      own_reference_is.2.stands,
                    );
                    live = lives;
                    fields = fields_stand;
                    constants = constants_stand;
                  }

              -- so the code arrives where silent steps do
              pub arrives : (address : ℕ) → address_of code a.operation step.stop.number ≡ Some address → place ≡ address + 4 →
                  Arrives M p code hs s.local s.text a.operation op f own a.own m step.common step.reached u bytes
              arrives address there behind =
                  is.faithful.runs s.local s.text op a c step.common step.reached address f own u bytes tables step.is_operation
                  (stop_is address there) step.walks (set_up.at ∙ behind) step.has fits
