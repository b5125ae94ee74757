-- What is told of the nodes to which something comes is what is told of an action.
use Rattle.std.proofs.Common.{◌⊎◌, ◌≡◌, ◌-◌, ◌<◌, ◌≤◌, ℕ, zero, suc, inl, inr, ⊎_elim, Bool, List, [], ◌∷◌, ◌++◌, length, Option, Some}
use Rattle.std.proofs.Common.{None, refl}
use Rattle.std.proofs.Common.{sym, ap, ◌∙◌, subst, arith}
use Rattle.std.specs.Option.{option_map}
use Rattle.std.specs.Prelude.{Err, IfNone, IfOk, IfSome, Ok, Result, replicate, slice_get}
use Rattle.std.proofs.lemmas.Option.{same_Some}
use Rattle.ec_activations.proofs.Frames.{all_two_at}
use Rattle.ec_activations.specs.Frames.{Numbered}
use Rattle.ec_base.proofs.Stacks.{stack_parts}
use Rattle.ec_base.specs.Stack.{below_of, top_of}
use Rattle.ec_cluster.specs.Cluster.{CodeWorld, Shows, frame_of, place, stores}
use Rattle.ec_cluster.specs.declared.cluster.Cluster.{Cluster}
use Rattle.ec_cluster.specs.Finding.{NoFrame, TellsOf}
use Rattle.ec_cluster.specs.Frames.{HasNode, RestsIn, RestsOn, tables_on}
use Rattle.ec_code.specs.Activations.{begun, code_meaning}
use Rattle.ec_code.specs.Typing.{Declared}
use Rattle.ec_code.specs.declared.activation.CodeActivation.{CodeActivation}
use Rattle.ec_code.specs.declared.code.Live.{Live}
use Rattle.ec_code.specs.declared.code.Parts.{Parts}
use Rattle.ec_machine_code.specs.Frames.{slots}
use Rattle.ec_fullness.proofs.Acting.{below_is, outcome_is, top_is}
use Rattle.ec_fullness.proofs.Asked.{names_what_is_there}
use Rattle.ec_fullness.proofs.Begun.{table_begins, values_first}
use Rattle.ec_fullness.proofs.Changes.{defines_bring, if_at_none, invokes_bring, object_brings, placed, stores_bring, vector_brings}
use Rattle.ec_fullness.proofs.Doings.{IsSilent, action_then, passes_brings, returns_bring, silent_brings, then}
use Rattle.ec_fullness.proofs.Effects.{TakenBy, TakenIf, Waiting}
use Rattle.ec_fullness.proofs.Needs.{Brings, ComesTo, all_fit, fits_there, full_first, full_there, nothing_comes, same_then}
use Rattle.ec_fullness.proofs.Values.{values_of}
use Rattle.ec_fullness.proofs.Waiting.{below_waiting, top_waiting}
use Rattle.ec_fullness.specs.Fullness.{EachFits, IsFull, Wants, place_then}
use Rattle.ec_fullness.specs.Room.{HasRoomBelow, HasRoomToBegin, HasRoomToMake, HasRoomToTake, HasRoomWith, RoomFor}
use Rattle.ec_fullness.specs.Told.{Tells, TellsOfAll, TellsOfMaking, TellsOfOne, taken}
use Rattle.ec_objects.specs.Lacks.{HasRoomForAll}
use Rattle.ec_node_frames.proofs.Items.{get_front}
use Rattle.ec_node_frames.specs.Beginning.{HasEntry, first_values}
use Rattle.ec_node_frames.specs.Finishing.{HasRoomIn, IsTaken}
use Rattle.ec_node_frames.specs.Frames.{RestsAt}
use Rattle.ec_node_frames.specs.declared.frames.Headings.{Headings}
use Rattle.ec_world.proofs.Procs.{activation_is, get_end}
use Rattle.ec_world.specs.Held.{if_at}
use Rattle.ec_world.specs.Words.{text_bytes}
use Rattle.ec_world.specs.Things.{class_blocks}
use Rattle.ec_world.specs.declared.key.Key.TheVariants.{Frame, Object}
use Rattle.ec_world.specs.declared.room.Lack.{Lack}
use Rattle.ec_objects.specs.Values.{HasRoom, TextsFit}
use Rattle.ec_code.proofs.Carried.{there}
use Rattle.ec_code.proofs.Facts.{call_fits}
use Rattle.ec_generate.specs.Tables.{IsTableOf}
use Rattle.ec_generate.specs.declared.table.OperationTable.{OperationTable}
use Rattle.ec_generate.specs.declared.table.StopEntry.{StopEntry}
use Rattle.ec_cluster.specs.Acting.{Asks}
use Rattle.ec_cluster.specs.Systems.{Runs}
use Rattle.ec_cluster.specs.declared.system.System.{System}
use Rattle.ec_things.specs.Store.{Store}
use Rattle.ec_things.specs.Things.{ShownAt, frame_if, object_if, object_thing}
use Rattle.ec_world.specs.Group.{Has}
use Rattle.ec_world.specs.Objects.{class_at, element_kind, elements_if, elements_of_class, object_at}
use Rattle.ec_world.specs.Outcomes.{done, made_object, only}
use Rattle.ec_world.specs.Sights.{sight_of}
use Rattle.ec_world.specs.Values.{default_of, new_fields}
use Rattle.ec_world.specs.World.{Action, outcome_at, stack_at}
use Rattle.ec_world.specs.declared.class.ClassNo.{ClassNo}
use Rattle.ec_world.specs.declared.class.ClassNo.TheVariants.{Made, Node, Program, Vector}
use Rattle.ec_world.specs.declared.class.ClassRec.{ClassRec}
use Rattle.ec_world.specs.declared.class.VectorType.{VectorType}
use Rattle.ec_world.specs.declared.doing.Doing.{Doing}
use Rattle.ec_world.specs.declared.doing.Doing.TheVariants.{Passes, Prints, Defines, Stores, Makes, MakesVector, Invokes, Returns}
use Rattle.ec_world.specs.declared.doing.Doing.TheVariants.{Unfixes, Enters, Waits, Signals, Finishes, Breaks}
use Rattle.ec_world.specs.declared.node.Kind.{Kind}
use Rattle.ec_world.specs.declared.object.ObjectRec.{ObjectRec}
use Rattle.ec_world.specs.declared.process.Cause.{Cause}
use Rattle.ec_world.specs.declared.process.Proc.{Proc}
use Rattle.ec_world.specs.declared.stop.Effect.TheVariants.{Calls}
use Rattle.ec_world.specs.declared.stop.Who.{Who}
use Rattle.ec_world.specs.declared.value.Value.{Value}
use Rattle.ec_world.specs.declared.value.Value.TheVariants.{Int, Str, Ref, Nil, Bool as Truth}

-- a node lacks something for an action, or each has room for all for which its steps ask
abbrev pub Verdict : Cluster → CodeWorld → CodeWorld → (ℕ → Option ℕ) → Type 0 → Option Lack → Type 0
Verdict c w w' places Room None = EachFits c w w' places × Room
Verdict c w w' places Room (Some lack) = IsFull c w w' places lack.node lack.part lack.need lack.free

-- so it is in each world that the nodes run in which an action comes to this
abbrev pub Answers : System → Who → Doing → Option Lack → Type 0
Answers s who doing r =
    (d : Declared) (w : CodeWorld) (below : List CodeActivation) (top : CodeActivation) → Runs d s w → Asks w below top who doing →
    Verdict s.cluster w (Action code_meaning w who.process) (place_then s.cluster who.own) (RoomFor s.cluster below top who doing) r

-- ---- room

in_bytes : (texts : List (List ℕ)) (i : ℕ) (t : List ℕ) → slice_get texts i ≡ Some t → length t ≤ text_bytes texts
in_bytes [] i t e = absurd cc
in_bytes (x ∷ xs) zero t e = let same : length x ≡ length t = ap length (same_Some x t e) in omega (arith, same)
in_bytes (x ∷ xs) (suc i) t e = let h = in_bytes xs i t e in omega (arith, h)

has_room : (s : Store) (v : Value) → TextsFit s (v ∷ []) → HasRoom s v
has_room s (Str t) fit = λ absent.
    let h = (fit.needs.these t).1 (record { at = 0; is = refl }, absent) in
    let long = in_bytes fit.needs.texts h.at t h.is in
    let bytes = fit.needs.bytes in
    let fits = fit.fits in
    omega (arith, long, bytes, fits)
has_room s (Int z) fit = tt
has_room s (Truth b) fit = tt
has_room s (Ref o) fit = tt
has_room s Nil fit = tt

takes_room : (s : Store) (r : Option Live) (given : Option Value) → HasRoomForAll s 0 (taken r given) → HasRoomIn s r given
takes_room s None given room = tt
takes_room s (Some l) None room = tt
takes_room s (Some l) (Some v) room = has_room s v room.texts_fit

taken_has : (r : Option Live) (given : Option Value) (text : List ℕ) → IsTaken r given text → Has (taken r given) (Str text)
taken_has None given text h = absurd h
taken_has (Some l) None text h = absurd h
taken_has (Some l) (Some v) text h = record { at = 0; is = ap Some h }

has_taken : (r : Option Live) (given : Option Value) (text : List ℕ) → Has (taken r given) (Str text) → IsTaken r given text
has_taken None given text h = let e = h.is in absurd cc
has_taken (Some l) None text h = let e = h.is in absurd cc
has_taken (Some l) (Some v) text h = by h.at h.is
  where
    by : (i : ℕ) → slice_get (v ∷ []) i ≡ Some (Str text) → v ≡ Str text
    by zero e = same_Some v (Str text) e
    by (suc i) e = absurd cc

-- an activation rests at one stop
entry_same : (p : Parts) (a : CodeActivation) (e f : StopEntry) → RestsAt p a e → RestsAt p a f → e ≡ f
entry_same p a e f r q = ap (λ (x : Numbered). x.entry) (same_Some _ _ (sym r.is ∙ q.is))

-- ---- at one node, and at all

module _ (c : Cluster) (w w' : CodeWorld) (shows : Shows c w) (maker : ℕ) (Room : Type 0) where
  by_one : (oid blocks : ℕ) (values : List Value) →
      Brings c (place_then c maker) w w' (λ k. if_at k blocks (place c oid)) (ComesTo c oid values) →
      (HasRoomWith c oid blocks values → Room) → (r : Option Lack) → Tells c oid blocks values r →
      Verdict c w w' (place_then c maker) Room r
  by_one oid blocks values brings room None t = (fits_there c w w' shows maker oid blocks values brings t, room t)
  by_one oid blocks values brings room (Some lack) t = full_there c w w' shows maker oid blocks values brings lack t

  by_all : (values : List Value) → Brings c (place_then c maker) w w' (λ k. 0) (λ k text. Has values (Str text)) →
      (((k : ℕ) (s : Store) → stores c k ≡ Some s → HasRoomForAll s 0 values) → Room) → (r : Option Lack) → TellsOfAll c values r →
      Verdict c w w' (place_then c maker) Room r
  by_all values brings room None t = (all_fit c w w' shows maker values brings t, room t)
  by_all values brings room (Some lack) t = full_first c w w' shows maker values brings lack t

  by_none : Brings c (place_then c maker) w w' (λ k. 0) (λ k text. ⊥) → Room → (r : Option Lack) → r ≡ None →
      Verdict c w w' (place_then c maker) Room r
  by_none brings room None e = (nothing_comes c w w' shows maker (λ k. 0) (λ k text. ⊥) brings (λ k. refl) (λ k text h. h), room)
  by_none brings room (Some lack) e = absurd cc

-- what an activation takes comes to its node
module _ (c : Cluster) (w w' : CodeWorld) (shows : Shows c w) (maker : ℕ) (a : CodeActivation) (given : Option Value)
    (waiting : Waiting c (place_then c maker) a) (same : place_then c maker a.own ≡ place c a.own) where
  abbrev entry : StopEntry
  entry = waiting.entry

  taken_brings : Brings c (place_then c maker) w w' (λ k. 0) (λ k text. TakenBy c (place_then c maker) a given k text) →
      Brings c (place_then c maker) w w' (λ k. if_at k 0 (place c a.own)) (ComesTo c a.own (taken waiting.entry.result given))
  taken_brings b = record {
    blocks = λ k. b.blocks k ∙ sym (if_at_none k (place c a.own));
    before = λ k text h. ⊎_elim
        (λ (old : Wants c (place_then c maker) w k text). inl old)
        (λ (t : TakenBy c (place_then c maker) a given k text). inr (
          sym same ∙ t.place,
          taken_has entry.result given text
              (subst (λ (e : StopEntry). IsTaken e.result given text)
              (entry_same c.parts a t.waiting.entry entry t.waiting.at.rests waiting.at.rests) t.takes),
        ))
        (b.before k text h);
    now = λ k text h.
        b.now k text (record { waiting = waiting; place = same ∙ h.0; takes = has_taken entry.result given text h.1 });
  }

  verdict_taken : Brings c (place_then c maker) w w' (λ k. 0) (λ k text. TakenBy c (place_then c maker) a given k text) →
      (r : Option Lack) → Tells c a.own 0 (taken waiting.entry.result given) r →
      Verdict c w w' (place_then c maker) (HasRoomToTake c a given) r
  verdict_taken b r t =
      by_one c w w' shows maker (HasRoomToTake c a given) a.own 0 (taken waiting.entry.result given) (taken_brings b)
      (λ room e rests k s at there. takes_room s e.result given
      (subst (λ (x : StopEntry). HasRoomForAll s 0 (taken x.result given))
      (entry_same c.parts a entry e waiting.at.rests rests) (room k s at there))) r t

-- ---- what is there

element_object : (os : List ObjectRec) (oid size : ℕ) → option_map length (elements_if (object_at os oid)) ≡ Some size →
    (o : ObjectRec) × (object_at os oid ≡ Some o) × (length o.fields ≡ size)
element_object os oid size e = by (object_at os oid) refl e
  where
    of_class : (k : ClassNo) (vs : List Value) → option_map length (elements_of_class k vs) ≡ Some size → length vs ≡ size
    of_class (Vector of) vs h = same_Some (length vs) size h
    of_class Node vs h = absurd cc
    of_class Program vs h = absurd cc
    of_class (Made n) vs h = absurd cc

    by : (x : Option ObjectRec) → object_at os oid ≡ x → option_map length (elements_if x) ≡ Some size →
        (o : ObjectRec) × (object_at os oid ≡ Some o) × (length o.fields ≡ size)
    by None f h = absurd cc
    by (Some o) f h = (o, f, of_class o.class o.fields h)

module _ (d : Declared) (s : System) (w : CodeWorld) (below : List CodeActivation) (top : CodeActivation) (who : Who) (doing : Doing)
    (runs : Runs d s w) (asks : Asks w below top who doing) where
  abbrev places : ℕ → Option ℕ
  places = place_then s.cluster who.own

  abbrev proc : Proc CodeActivation
  proc = asks.is_top.proc

  own_is : top.own ≡ who.own
  own_is = sym (ap (λ (x : Who). x.own) asks.who_is)

  pub depth_is : who.depth ≡ length below
  depth_is = ap (λ (x : Who). x.depth) asks.who_is

  in_stack : (depth : ℕ) (a : CodeActivation) → slice_get (below ++ top ∷ []) depth ≡ Some a →
      slice_get asks.is_top.proc.activations depth ≡ Some a
  in_stack depth a e = ap (λ xs. slice_get xs depth) asks.is_top.stack ∙ e

  top_there : slice_get asks.is_top.proc.activations who.depth ≡ Some top
  top_there = in_stack who.depth top (ap (slice_get (below ++ top ∷ [])) depth_is ∙ get_end below top)

  pub below_there : (b : CodeActivation) → top_of below ≡ Some b →
      slice_get asks.is_top.proc.activations (length (below_of below)) ≡ Some b
  below_there b e =
      let parts = stack_parts below b e in
      in_stack (length (below_of below)) b
      (get_front below (top ∷ []) (length (below_of below)) b
      (ap (λ xs. slice_get xs (length (below_of below))) parts ∙ get_end (below_of below) b))

  pub shown_frame : (depth : ℕ) (a : CodeActivation) → slice_get asks.is_top.proc.activations depth ≡ Some a →
      ShownAt (stores s.cluster) (place s.cluster) (Frame who.process depth) (frame_of s.cluster who.process depth a)
  shown_frame depth a e =
      runs.mirrors.shows.things_stand.each (Frame who.process depth) (frame_of s.cluster who.process depth a)
      (ap (frame_if (frame_of s.cluster) who.process depth)
      (activation_is w.processes who.process depth asks.is_top.proc asks.is_top.is ∙ e))

  frame_placed : (depth : ℕ) (a : CodeActivation) → slice_get asks.is_top.proc.activations depth ≡ Some a →
      place_then s.cluster who.own a.own ≡ place s.cluster a.own
  frame_placed depth a e = let z = shown_frame depth a e in same_then s.cluster who.own a.own z.node z.home

  pub rests_in : (depth : ℕ) (a : CodeActivation) (e : StopEntry) → slice_get asks.is_top.proc.activations depth ≡ Some a →
      RestsAt s.cluster.parts a e → RestsIn d s.cluster w who.process depth asks.is_top.proc a e
  rests_in depth a e at rests = record {
    images = runs.steady.images;
    shows = runs.mirrors.shows;
    is_proc = asks.is_top.is;
    there = at;
    rests = rests;
  }

  -- the node of the own object
  pub own_node : HasNode s.cluster who.own
  own_node =
      let z = shown_frame who.depth top top_there in
      record { node = z.node; at = ap (place s.cluster) (sym own_is) ∙ z.home; store = z.store; there = z.there }

  object_node : (oid : ℕ) (o : ObjectRec) → object_at w.common.objects oid ≡ Some o → HasNode s.cluster oid
  object_node oid o e =
      let z = runs.mirrors.shows.things_stand.each (Object oid) (object_thing oid o) (ap (object_if oid) e) in
      record { node = z.node; at = z.home; store = z.store; there = z.there }

  -- where the top rests
  pub top_entry : (e : StopEntry) × RestsIn d s.cluster w who.process who.depth asks.is_top.proc top e
  top_entry =
      let waiting = top_waiting d s w below top who doing runs asks places in
      (waiting.entry, rests_in who.depth top waiting.entry top_there waiting.at.rests)

  pub top_own : top.own ≡ who.own
  top_own = own_is

  pub below_entry : (b : CodeActivation) → top_of below ≡ Some b →
      (e : StopEntry) × RestsIn d s.cluster w who.process (length (below_of below)) asks.is_top.proc b e
  below_entry b e =
      let waiting = below_waiting d s w below top who doing runs asks places b e in
      (waiting.entry, rests_in (length (below_of below)) b waiting.entry (below_there b e) waiting.at.rests)

  -- ---- an element's object

  pub stored_object : (oid i : ℕ) (v : Value) → doing ≡ Stores oid i v →
      (o : ObjectRec) × (object_at w.common.objects oid ≡ Some o) × (i < length o.fields)
  stored_object oid i v e =
      let named = names_what_is_there (sight_of w.common) who top.stop top.operands (Stores oid i v) (asks.is ∙ ap Some e) in
      let x = element_object w.common.objects oid named.size named.is in
      let within = named.within in
      let size = x.2 in
      (x.0, x.1, omega (arith, within, size))

  pub stored_node : (oid i : ℕ) (v : Value) → doing ≡ Stores oid i v → HasNode s.cluster oid
  stored_node oid i v e = let x = stored_object oid i v e in object_node oid x.0 x.1

  -- ---- an invoked operation

  -- the receiver is there, and the operation has a table with an entry on each kind
  pub record Started (op own : ℕ) (args : List Value) : Type 0 where
    pub object : ObjectRec
    pub is_object : object_at w.common.objects own ≡ Some object
    pub table : (kind : Kind) → (t : OperationTable) × (slice_get (tables_on s.cluster kind) op ≡ Some t) × HasEntry t
        × (values_of s.cluster.parts (begun op own args) ≡ first_values t own args)

  pub started : (op own : ℕ) (args : List Value) → doing ≡ Invokes op own args → Started op own args
  started op own args e =
      let outcome : outcome_at code_meaning w who.process (below_of (stack_at w who.process)) top
      ≡ Some (w.common, only (Calls op own args)) =
      ap (λ b. outcome_at code_meaning w who.process b top) (below_is w below top who doing asks)
      ∙ outcome_is w below top who doing asks ∙ ap (λ x. Some (done w.common who x)) e in
      let f = call_fits d s.cluster.parts runs.steady.fine w runs.sound who.process top (top_is w below top who doing asks) asks.pending
      w.common (only (Calls op own args)) outcome op own args refl in
      let o = there w.common.objects own f.called.class f.is_own in
      record {
        object = o.object;
        is_object = o.is;
        table = λ kind.
            let images = runs.steady.images kind in
            let t = all_two_at (IsTableOf images.registers slots) s.cluster.parts.operations (tables_on s.cluster kind) op f.called
            images.are f.is_called in
            let entry = table_begins d s.cluster.parts f.called t.0 t.2.stops
            (runs.steady.fine.operations op f.called f.is_called).entry in
            (t.0, t.1, entry, values_first s.cluster.parts op own args f.called f.is_called t.0 t.2.stops entry);
      }

  pub started_node : (op own : ℕ) (args : List Value) → doing ≡ Invokes op own args → HasNode s.cluster own
  started_node op own args e = let x = started op own args e in object_node own x.object x.is_object

-- ---- the activation below

length_push : {A : Type 0} (xs : List A) (x : A) → length (xs ++ x ∷ []) ≡ suc (length xs)
length_push [] x = refl
length_push (y ∷ ys) x = ap suc (length_push ys x)

below_length : (below : List CodeActivation) (b : CodeActivation) → top_of below ≡ Some b → length below ≡ suc (length (below_of below))
below_length below b e = ap length (stack_parts below b e) ∙ length_push (below_of below) b

some_top : (below : List CodeActivation) → 1 ≤ length below → (b : CodeActivation) × (top_of below ≡ Some b)
some_top [] h = absurd (omega (arith, h))
some_top (x ∷ []) h = (x, refl)
some_top (x ∷ y ∷ ys) h = some_top (y ∷ ys) (omega arith)

module _ (d : Declared) (s : System) (w : CodeWorld) (below : List CodeActivation) (top : CodeActivation) (who : Who) (doing : Doing)
    (runs : Runs d s w) (asks : Asks w below top who doing) (depth : ℕ) (some : 1 ≤ who.depth) (lower : depth ≡ who.depth - 1) where
  -- the activation at the depth below
  pub record Lower : Type 0 where
    pub activation : CodeActivation
    pub is : top_of below ≡ Some activation
    pub there : slice_get asks.is_top.proc.activations depth ≡ Some activation
    pub entry : StopEntry
    pub rests : RestsIn d s.cluster w who.process depth asks.is_top.proc activation entry

  pub lower_there : Lower
  lower_there =
      let deep = depth_is d s w below top who doing runs asks in
      let b = some_top below (omega (arith, some, deep)) in
      let long = below_length below b.0 b.1 in
      let same : length (below_of below) ≡ depth = omega (arith, some, lower, deep, long) in
      let there = below_there d s w below top who doing runs asks b.0 b.1 in
      let rests = below_entry d s w below top who doing runs asks b.0 b.1 in
      record {
        activation = b.0;
        is = b.1;
        there = subst (λ n. slice_get asks.is_top.proc.activations n ≡ Some b.0) same there;
        entry = rests.0;
        rests = subst (λ n. RestsIn d s.cluster w who.process n asks.is_top.proc b.0 rests.0) same rests.1;
      }

  -- some node has it
  pub lower_shown : NoFrame s.cluster who.process depth → ⊥
  lower_shown none =
      let z = shown_frame d s w below top who doing runs asks depth lower_there.activation lower_there.there in
      let row = z.shown.there in
      let absent = none z.node z.store z.there in
      cc

  -- what its headings say of its own object
  lower_own : (h : Headings) → TellsOf s.cluster who.process depth h → h.own ≡ lower_there.activation.own
  lower_own h tells =
      (tells w asks.is_top.proc lower_there.activation runs.mirrors.shows asks.is_top.is lower_there.there).own

  pub lower_rests : (h : Headings) → TellsOf s.cluster who.process depth h → (e : StopEntry) × RestsOn s.cluster who.process depth h.own e
  lower_rests h tells = (
    lower_there.entry,
    record {
      declared = d;
      world = w;
      proc = asks.is_top.proc;
      activation = lower_there.activation;
      rests = lower_there.rests;
      owns = sym (lower_own h tells);
    },
  )

  pub lower_told : (h : Headings) → TellsOf s.cluster who.process depth h → (given : Option Value) (r : Option Lack) →
      ((d : Declared) (w : CodeWorld) (proc : Proc CodeActivation) (a : CodeActivation) (e : StopEntry) →
      RestsIn d s.cluster w who.process depth proc a e → a.own ≡ h.own → Tells s.cluster h.own 0 (taken e.result given) r) →
      TellsOfOne s.cluster (top_of below) given r
  lower_told h tells given r told =
      subst (λ (b : Option CodeActivation). TellsOfOne s.cluster b given r) (sym lower_there.is)
      (λ e rests. subst (λ o. Tells s.cluster o 0 (taken e.result given) r) (lower_own h tells)
      (told d w asks.is_top.proc lower_there.activation e
      (rests_in d s w below top who doing runs asks depth lower_there.activation e lower_there.there rests) (sym (lower_own h tells))))

-- ---- each action

module _ (s : System) (who : Who) (r : Option Lack) where
  -- what an action comes to is what is done and settled
  settle : (doing : Doing) → ((d : Declared) (w : CodeWorld) (below : List CodeActivation) (top : CodeActivation) (runs : Runs d s w)
      (asks : Asks w below top who doing) →
      Verdict s.cluster w (then d s w below top who doing runs asks (done w.common who doing)) (place_then s.cluster who.own)
      (RoomFor s.cluster below top who doing) r) → Answers s who doing r
  settle doing h d w below top runs asks =
      subst (λ (x : CodeWorld). Verdict s.cluster w x (place_then s.cluster who.own) (RoomFor s.cluster below top who doing) r)
      (sym (action_then d s w below top who doing runs asks)) (h d w below top runs asks)

  pub answers_pass : (given : Option Value) →
      ((d : Declared) (w : CodeWorld) (proc : Proc CodeActivation) (a : CodeActivation) (e : StopEntry) →
      RestsIn d s.cluster w who.process who.depth proc a e → a.own ≡ who.own → Tells s.cluster who.own 0 (taken e.result given) r) →
      Answers s who (Passes given) r
  answers_pass given tells = settle (Passes given) (λ d w below top runs asks.
      let doing = Passes given in
      let waiting = top_waiting d s w below top who doing runs asks (place_then s.cluster who.own) in
      let at = rests_in d s w below top who doing runs asks who.depth top waiting.entry (top_there d s w below top who doing runs asks)
      waiting.at.rests in
      let own = own_is d s w below top who doing runs asks in
      verdict_taken s.cluster w (then d s w below top who doing runs asks (done w.common who doing)) runs.mirrors.shows who.own top given
      waiting
      (frame_placed d s w below top who doing runs asks who.depth top (top_there d s w below top who doing runs asks))
      (passes_brings d s w below top who doing runs asks given) r
      (subst (λ o. Tells s.cluster o 0 (taken waiting.entry.result given) r) (sym own)
      (tells d w asks.is_top.proc top waiting.entry at own)))

  pub answers_return : (given : Option Value) (leaves : Bool) (section : Option ℕ) →
      ((d : Declared) (w : CodeWorld) (below : List CodeActivation) (top : CodeActivation) (doing : Doing) → Runs d s w →
      Asks w below top who doing → TellsOfOne s.cluster (top_of below) given r) →
      Answers s who (Returns given leaves section) r
  answers_return given leaves section tells = settle (Returns given leaves section) (λ d w below top runs asks.
      by d w below top runs asks (top_of below) refl (returns_bring d s w below top who (Returns given leaves section) runs asks given
      leaves
      section) (tells d w below top (Returns given leaves section) runs asks))
    where
      by : (d : Declared) (w : CodeWorld) (below : List CodeActivation) (top : CodeActivation) (runs : Runs d s w)
          (asks : Asks w below top who (Returns given leaves section)) (b : Option CodeActivation) → top_of below ≡ b →
          Brings s.cluster (place_then s.cluster who.own) w (then d s w below top who (Returns given leaves section) runs asks
          (done w.common who (Returns given leaves section))) (λ k. 0)
          (λ k text. TakenIf s.cluster (place_then s.cluster who.own) b given k text) →
          TellsOfOne s.cluster b given r →
          Verdict s.cluster w (then d s w below top who (Returns given leaves section) runs asks
          (done w.common who (Returns given leaves section))) (place_then s.cluster who.own) (HasRoomBelow s.cluster b given) r
      by d w below top runs asks None e brings t =
          by_none s.cluster w (then d s w below top who (Returns given leaves section) runs asks
          (done w.common who (Returns given leaves section))) runs.mirrors.shows who.own (Unit {0}) brings tt r t
      by d w below top runs asks (Some b) e brings t =
          let doing = Returns given leaves section in
          let waiting = below_waiting d s w below top who doing runs asks (place_then s.cluster who.own) b e in
          verdict_taken s.cluster w (then d s w below top who doing runs asks (done w.common who doing)) runs.mirrors.shows who.own b given
          waiting
          (frame_placed d s w below top who doing runs asks (length (below_of below)) b
          (below_there d s w below top who doing runs asks b e))
          brings r (t waiting.entry waiting.at.rests)

  pub answers_define : (index : ℕ) (v : Value) → TellsOfAll s.cluster (v ∷ []) r → Answers s who (Defines index v) r
  answers_define index v told = settle (Defines index v) (λ d w below top runs asks.
      let doing = Defines index v in
      let within = names_what_is_there (sight_of w.common) who top.stop top.operands doing asks.is in
      by_all s.cluster w (then d s w below top who doing runs asks (done w.common who doing)) runs.mirrors.shows who.own
      (RoomFor s.cluster below top who doing) (v ∷ []) (defines_bring d s w below top who doing runs asks index v within)
      (λ all k x at. has_room x v (all k x at).texts_fit) r told)

  pub answers_store : (oid i : ℕ) (v : Value) → Tells s.cluster oid 0 (v ∷ []) r → Answers s who (Stores oid i v) r
  answers_store oid i v told = settle (Stores oid i v) (λ d w below top runs asks.
      let doing = Stores oid i v in
      let o = stored_object d s w below top who doing runs asks oid i v refl in
      by_one s.cluster w (then d s w below top who doing runs asks (done w.common who doing)) runs.mirrors.shows who.own
      (RoomFor s.cluster below top who doing) oid 0 (v ∷ []) (stores_bring d s w below top who doing runs asks oid i v o.0 o.1 o.2)
      (λ room k x at there. has_room x v (room k x at there).texts_fit) r told)

  pub answers_vector : (of : VectorType) (n : ℕ) →
      Tells s.cluster who.own (class_blocks (Vector of) (length (replicate n (default_of (element_kind of)))))
      (replicate n (default_of (element_kind of))) r → Answers s who (MakesVector of n) r
  answers_vector of n told = settle (MakesVector of n) (λ d w below top runs asks.
      let doing = MakesVector of n in
      let elements : List Value = replicate n (default_of (element_kind of)) in
      by_one s.cluster w (then d s w below top who doing runs asks (done w.common who doing)) runs.mirrors.shows who.own
      (RoomFor s.cluster below top who doing) who.own (class_blocks (Vector of) (length elements)) elements
      (vector_brings d s w below top who doing runs asks of n) (λ room. room) r told)

  pub answers_make : (class : ClassNo) (given : List Value) →
      TellsOfMaking s.cluster who.own class given (class_at s.cluster.parts.classes class) r → Answers s who (Makes class given) r
  answers_make class given told = settle (Makes class given) (λ d w below top runs asks.
      by d w below top runs asks (class_at s.cluster.parts.classes class)
      (ap (λ cs. class_at cs class) runs.mirrors.classes) told)
    where
      by : (d : Declared) (w : CodeWorld) (below : List CodeActivation) (top : CodeActivation) (runs : Runs d s w)
          (asks : Asks w below top who (Makes class given)) (m : Option ClassRec) → class_at w.common.classes class ≡ m →
          TellsOfMaking s.cluster who.own class given m r →
          Verdict s.cluster w (then d s w below top who (Makes class given) runs asks (done w.common who (Makes class given)))
          (place_then s.cluster who.own) (HasRoomToMake s.cluster who.own class given m) r
      by d w below top runs asks None e t =
          let doing = Makes class given in
          by_none s.cluster w (then d s w below top who doing runs asks (done w.common who doing)) runs.mirrors.shows who.own (Unit {0})
          (subst (λ (x : Option ClassRec). Brings s.cluster (place_then s.cluster who.own) w
          (then d s w below top who doing runs asks (made_object w.common who class given x)) (λ k. 0) (λ k text. ⊥)) (sym e)
          (silent_brings d s w below top who doing runs asks (Passes None) tt)) tt r t
      by d w below top runs asks (Some m) e t =
          let doing = Makes class given in
          let fields : List Value = new_fields given m.fields in
          by_one s.cluster w (then d s w below top who doing runs asks (done w.common who doing)) runs.mirrors.shows who.own
          (HasRoomToMake s.cluster who.own class given (Some m)) who.own (suc (class_blocks class (length fields))) fields
          (object_brings d s w below top who doing runs asks class given m e) (λ room. room) r t

  pub answers_start : (op own : ℕ) (args : List Value) →
      ((k : ℕ) (x : Store) (table : OperationTable) → place s.cluster own ≡ Some k → stores s.cluster k ≡ Some x →
      slice_get (tables_on s.cluster x.kind) op ≡ Some table → Tells s.cluster own 1 (first_values table own args) r) →
      Answers s who (Invokes op own args) r
  answers_start op own args tells = settle (Invokes op own args) (λ d w below top runs asks.
      let doing = Invokes op own args in
      let x = started d s w below top who doing runs asks op own args refl in
      let z = runs.mirrors.shows.things_stand.each (Object own) (object_thing own x.object) (ap (object_if own) x.is_object) in
      let t = x.table z.store.kind in
      let same = placed d s w below top who doing runs asks own x.object x.is_object in
      by_one s.cluster w (then d s w below top who doing runs asks (done w.common who doing)) runs.mirrors.shows who.own
      (RoomFor s.cluster below top who doing) own 1 (first_values t.0 own args)
      (subst (λ (vs : List Value). Brings s.cluster (place_then s.cluster who.own) w
      (then d s w below top who doing runs asks (done w.common who doing)) (λ k. if_at k 1 (place s.cluster own)) (ComesTo s.cluster own
      vs))
      t.3 (invokes_bring d s w below top who doing runs asks op own args same))
      (room_to_start z.node z.store t.0 z.home z.there t.1) r (tells z.node z.store t.0 z.home z.there t.1))
    where
      room_to_start : (n : ℕ) (x : Store) (t : OperationTable) → place s.cluster own ≡ Some n → stores s.cluster n ≡ Some x →
          slice_get (tables_on s.cluster x.kind) op ≡ Some t → HasRoomWith s.cluster own 1 (first_values t own args) →
          HasRoomToBegin s.cluster op own args
      room_to_start n x t at there its room = record {
        block = λ k y home e. let b = (room k y home e).blocks_fit in omega (arith, b);
        texts = λ k y u home e f.
            let node : n ≡ k = same_Some n k (sym at ∙ home) in
            let store : x ≡ y = same_Some x y (sym there ∙ ap (stores s.cluster) node ∙ e) in
            let table : t ≡ u = same_Some t u
            (sym its ∙ ap (λ (q : Store). slice_get (tables_on s.cluster q.kind) op) store ∙ f) in
            subst (λ (q : OperationTable). TextsFit y (first_values q own args)) table (room k y home e).texts_fit;
      }

  -- nothing is asked of nodes
  pub answers_none : (doing : Doing) → IsSilent doing →
      ((c : Cluster) (below : List CodeActivation) (top : CodeActivation) → RoomFor c below top who doing) → r ≡ None → Answers s who
      doing r
  answers_none doing silent room none = settle doing (λ d w below top runs asks.
      by_none s.cluster w (then d s w below top who doing runs asks (done w.common who doing)) runs.mirrors.shows who.own
      (RoomFor s.cluster below top who doing) (silent_brings d s w below top who doing runs asks doing silent) (room s.cluster below top)
      r none)

-- ---- what is promised

by_arm : {E : Type 0} (s : System) (who : Who) (x doing : Doing) → x ≡ doing → (r : Result (Option Lack) E) (P : Option Lack → Type 0) →
    ((o : Option Lack) → P o → Answers s who x o) → IfOk r P → IfOk r (λ o. Answers s who doing o)
by_arm s who x doing e (Ok o) P f p = subst (λ (y : Doing). Answers s who y o) e (f o p)
by_arm s who x doing e (Err z) P f p = tt

abbrev pub Full : System → Who → Doing → Lack → Type 0
Full s who doing lack =
    (d : Declared) (w : CodeWorld) (below : List CodeActivation) (top : CodeActivation) → Runs d s w → Asks w below top who doing →
    IsFull s.cluster w (Action code_meaning w who.process) (place_then s.cluster who.own) lack.node lack.part lack.need lack.free

abbrev pub AllFit : System → Who → Doing → Type 0
AllFit s who doing =
    (d : Declared) (w : CodeWorld) (below : List CodeActivation) (top : CodeActivation) → Runs d s w → Asks w below top who doing →
    EachFits s.cluster w (Action code_meaning w who.process) (place_then s.cluster who.own) × RoomFor s.cluster below top who doing

full_if : {E : Type 0} (s : System) (who : Who) (doing : Doing) (r : Result (Option Lack) E) → IfOk r (λ o. Answers s who doing o) →
    IfOk r (λ o. IfSome o (λ lack. Full s who doing lack))
full_if s who doing (Ok None) a = tt
full_if s who doing (Ok (Some lack)) a = λ d w below top runs asks. a d w below top runs asks
full_if s who doing (Err e) a = tt

fits_if : {E : Type 0} (s : System) (who : Who) (doing : Doing) (r : Result (Option Lack) E) → IfOk r (λ o. Answers s who doing o) →
    IfOk r (λ o. IfNone o (AllFit s who doing))
fits_if s who doing (Ok None) a = λ d w below top runs asks. a d w below top runs asks
fits_if s who doing (Ok (Some lack)) a = tt
fits_if s who doing (Err e) a = tt

pub full_by : {E : Type 0} (s : System) (who : Who) (x doing : Doing) → x ≡ doing → (r : Result (Option Lack) E)
    (P : Option Lack → Type 0) → ((o : Option Lack) → P o → Answers s who x o) → IfOk r P → IfOk r (λ o. IfSome o (λ lack. Full s who
    doing lack))
full_by s who x doing e r P f p = full_if s who doing r (by_arm s who x doing e r P f p)

pub fits_by : {E : Type 0} (s : System) (who : Who) (x doing : Doing) → x ≡ doing → (r : Result (Option Lack) E)
    (P : Option Lack → Type 0) → ((o : Option Lack) → P o → Answers s who x o) → IfOk r P → IfOk r (λ o. IfNone o (AllFit s who doing))
fits_by s who x doing e r P f p = fits_if s who doing r (by_arm s who x doing e r P f p)

-- nothing is asked
idle_fits : (s : System) (who : Who) (x doing : Doing) → x ≡ doing → IsSilent x →
    ((c : Cluster) (below : List CodeActivation) (top : CodeActivation) → RoomFor c below top who x) → AllFit s who doing
idle_fits s who x doing e silent room =
    subst (λ (y : Doing). AllFit s who y) e
    (λ d w below top runs asks. answers_none s who None x silent room refl d w below top runs asks)

-- what asks for no room
abbrev pub AsksNothing : Doing → Type 0
AsksNothing x =
    ((text : List ℕ) × (x ≡ Prints text)) ⊎ (((oid : ℕ) × (x ≡ Unfixes oid)) ⊎ ((x ≡ Enters) ⊎ (((n : ℕ) × (x ≡ Waits n)) ⊎ (((n : ℕ)
    × (x ≡ Signals n)) ⊎ ((x ≡ Finishes) ⊎ ((why : Cause) × (line : ℕ) × (x ≡ Breaks why line)))))))

pub nothing_asked : (s : System) (who : Who) (x : Doing) → AsksNothing x → AllFit s who x
nothing_asked s who x (inl (text, e)) = idle_fits s who (Prints text) x (sym e) tt (λ c below top. tt)
nothing_asked s who x (inr (inl (oid, e))) = idle_fits s who (Unfixes oid) x (sym e) tt (λ c below top. tt)
nothing_asked s who x (inr (inr (inl e))) = idle_fits s who Enters x (sym e) tt (λ c below top. tt)
nothing_asked s who x (inr (inr (inr (inl (n, e))))) = idle_fits s who (Waits n) x (sym e) tt (λ c below top. tt)
nothing_asked s who x (inr (inr (inr (inr (inl (n, e)))))) = idle_fits s who (Signals n) x (sym e) tt (λ c below top. tt)
nothing_asked s who x (inr (inr (inr (inr (inr (inl e)))))) = idle_fits s who Finishes x (sym e) tt (λ c below top. tt)
nothing_asked s who x (inr (inr (inr (inr (inr (inr (why, line, e))))))) = idle_fits s who (Breaks why line) x (sym e) tt (λ c below top.
    tt)
