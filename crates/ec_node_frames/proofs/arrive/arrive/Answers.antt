-- The frame that was made is that of the activation that comes.
use Rattle.std.proofs.Common.{◌≡◌, ℕ, ◌<◌, List, [], ◌∷◌, get_or, length, Some, None, suc, sym, ◌∙◌, subst, arith}
use Rattle.std.specs.Prelude.{if◌then◌else◌, Err, Ok, OnOk, Result}
use Rattle.std.proofs.lemmas.Option.{slice_get-get_or}
use Rattle.ec_node_frames.proofs.Arriving.{Made, frame_arrives, head_words, texts_come}
use Rattle.ec_node_frames.proofs.Spelled.{frame_spelled}
use Rattle.ec_node_frames.proofs.arrive.arrive.Goals as goal
use Rattle.ec_node_frames.specs.Arriving.{Arrives}
use Rattle.ec_node_frames.specs.Carried.{carried}
use Rattle.ec_code.specs.declared.code.Live.{Live}
use Rattle.ec_node_frames.specs.Loops.{IsFilled}
use Rattle.ec_node_frames.specs.Spelled.{HaveHomes, frame_by}
use Rattle.ec_node_frames.specs.declared.frames.Headings.{Headings}
use Rattle.ec_world.specs.declared.key.Key.TheVariants.{Frame}
use Rattle.ec_objects.specs.Values.{HasWords}
use Rattle.ec_generate.specs.declared.table.OperationTable.{OperationTable}
use Rattle.ec_generate.specs.declared.table.StopEntry.{StopEntry}
use Rattle.ec_stores.specs.Changes.{PlacedFrame}
use Rattle.ec_stores.specs.Node.{store_of}
use Rattle.ec_things.specs.Store.{Store}
use Rattle.ec_things.specs.Texts.{GetsTexts}
use Rattle.ec_things.specs.Things.{Puts}
use Rattle.ec_world.specs.Group.{Has}
use Rattle.ec_world.specs.declared.value.Value.{Value}
use Rattle.ec_world.specs.declared.value.Value.TheVariants.{Ref, Str}

-- there is a first word
one_word : (s m : Store) (v : Value) (values : List Value) (words : List ℕ) → HasWords s m (v ∷ values) words → 0 < length words
one_word s m v values words has =
    let many : length words ≡ suc (length values) = has.are.many in
    omega (arith, many)

made_words : (s m : Store) (process depth : ℕ) (h : Headings) (table : OperationTable) (e : StopEntry) (values : List Value)
    (held : List Live) (words frame : List ℕ) (pending : ℕ) → held ≡ carried e h.pending → pending ≡ (if h.pending then 1 else 0) →
    HasWords s m (Ref h.own ∷ values) words →
    IsFilled table held words (process ∷ depth ∷ h.operation ∷ h.stop ∷ pending ∷ h.own ∷ get_or words 0 0 ∷ []) frame (length held) →
    Made s m process depth h table (carried e h.pending) values words frame
made_words s m process depth h table e values held words frame pending are flag has filled = record {
  word = get_or words 0 0;
  first = slice_get-get_or words 0 0 (one_word s m (Ref h.own) values words has);
  has = has;
  filled = subst (λ (ls : List Live). IsFilled table ls words (head_words process depth h (get_or words 0 0)) frame (length ls)) are
      (subst
      (λ n.
      IsFilled table held words (process ∷ depth ∷ h.operation ∷ h.stop ∷ n ∷ h.own ∷ get_or words 0 0 ∷ []) frame (length held))
      flag filled);
}

arrives_if : {X E : Type 0} (s m s' : Store) (process depth : ℕ) (h : Headings) (table : OperationTable) (e : StopEntry)
    (values : List Value) (words frame : List ℕ) (r : Result X E) →
    Made s m process depth h table (carried e h.pending) values words frame → s.row (Frame process depth) ≡ None →
    OnOk r (PlacedFrame m s' process depth h.own frame) → OnOk r (Arrives s s' table e process depth h values)
arrives_if s m s' process depth h table e values words frame (Ok x) made none placed =
    frame_arrives s m s' process depth h table e values words frame made placed none
arrives_if s m s' process depth h table e values words frame (Err x) made none placed = tt

spelled_if : {X E : Type 0} (s m s' : Store) (process depth : ℕ) (h : Headings) (table : OperationTable) (e : StopEntry)
    (values : List Value) (words frame : List ℕ) (r : Result X E) →
    Made s m process depth h table (carried e h.pending) values words frame → s.row (Frame process depth) ≡ None →
    length values ≡ length (carried e h.pending) → OnOk r (PlacedFrame m s' process depth h.own frame) →
    OnOk r (HaveHomes table (carried e h.pending) values →
    Puts s s' (Frame process depth) (Some (frame_by table e process depth h values)))
spelled_if s m s' process depth h table e values words frame (Ok x) made none many placed =
    λ homes. frame_spelled s m s' process depth h table e values words frame made placed none many homes
spelled_if s m s' process depth h table e values words frame (Err x) made none many placed = tt

texts_if : {X E : Type 0} (s m s' : Store) (process depth : ℕ) (h : Headings) (table : OperationTable) (e : StopEntry)
    (values : List Value) (words frame : List ℕ) (r : Result X E) →
    Made s m process depth h table (carried e h.pending) values words frame → s.row (Frame process depth) ≡ None →
    OnOk r (PlacedFrame m s' process depth h.own frame) → OnOk r (GetsTexts (λ text. Has (Ref h.own ∷ values) (Str text)) s s')
texts_if s m s' process depth h table e values words frame (Ok x) made none placed =
    texts_come s m s' process depth h table e values words frame made placed none
texts_if s m s' process depth h table e values words frame (Err x) made none placed = tt

pub begin-requires-clause-new : goal.begin-requires-clause-new
begin-requires-clause-new c = c.in_ok-made.ensures.only.rows (Frame c.args.process c.args.depth) ∙ c.requires.new

pub returns-clause-puts : goal.returns-clause-puts
returns-clause-puts c =
    let s = store_of c.args.node.now in
    let m = store_of c.words_with_own.new.node in
    let h = c.args.headings in
    let words = c.as_slice-words.result.now in
    let has = subst (λ (ws : List ℕ). HasWords s m (Ref h.own ∷ c.args.values.now) ws) (sym c.as_slice-words.ensures.value)
    c.in_ok-made.ensures in
    let made = made_words s m c.args.process c.args.depth h c.args.table.now c.args.entry.now c.args.values.now c.as_slice-held.result.now
    words c.in_ok-frame.frame.items c.pending_word-pending.result (c.as_slice-held.ensures.value ∙ c.in_ok-live.ensures)
    c.pending_word-pending.ensures has c.in_ok-frame.ensures in
    arrives_if s m (store_of c.begin.new.self) c.args.process c.args.depth h c.args.table.now c.args.entry.now c.args.values.now words
    c.in_ok-frame.frame.items c.begin.result made c.requires.new
    (subst (λ (f : List ℕ). OnOk c.begin.result (PlacedFrame m (store_of c.begin.new.self) c.args.process c.args.depth h.own f))
    c.as_slice.ensures.value c.begin.ensures)

pub returns-clause-spelled : goal.returns-clause-spelled
returns-clause-spelled c =
    let s = store_of c.args.node.now in
    let m = store_of c.words_with_own.new.node in
    let h = c.args.headings in
    let words = c.as_slice-words.result.now in
    let has = subst (λ (ws : List ℕ). HasWords s m (Ref h.own ∷ c.args.values.now) ws) (sym c.as_slice-words.ensures.value)
    c.in_ok-made.ensures in
    let made = made_words s m c.args.process c.args.depth h c.args.table.now c.args.entry.now c.args.values.now c.as_slice-held.result.now
    words c.in_ok-frame.frame.items c.pending_word-pending.result (c.as_slice-held.ensures.value ∙ c.in_ok-live.ensures)
    c.pending_word-pending.ensures has c.in_ok-frame.ensures in
    spelled_if s m (store_of c.begin.new.self) c.args.process c.args.depth h c.args.table.now c.args.entry.now c.args.values.now words
    c.in_ok-frame.frame.items c.begin.result made c.requires.new c.requires.many
    (subst (λ (f : List ℕ). OnOk c.begin.result (PlacedFrame m (store_of c.begin.new.self) c.args.process c.args.depth h.own f))
    c.as_slice.ensures.value c.begin.ensures)

pub returns-clause-gets : goal.returns-clause-gets
returns-clause-gets c =
    let s = store_of c.args.node.now in
    let m = store_of c.words_with_own.new.node in
    let h = c.args.headings in
    let words = c.as_slice-words.result.now in
    let has = subst (λ (ws : List ℕ). HasWords s m (Ref h.own ∷ c.args.values.now) ws) (sym c.as_slice-words.ensures.value)
    c.in_ok-made.ensures in
    let made = made_words s m c.args.process c.args.depth h c.args.table.now c.args.entry.now c.args.values.now c.as_slice-held.result.now
    words c.in_ok-frame.frame.items c.pending_word-pending.result (c.as_slice-held.ensures.value ∙ c.in_ok-live.ensures)
    c.pending_word-pending.ensures has c.in_ok-frame.ensures in
    texts_if s m (store_of c.begin.new.self) c.args.process c.args.depth h c.args.table.now c.args.entry.now c.args.values.now words
    c.in_ok-frame.frame.items c.begin.result made c.requires.new
    (subst (λ (f : List ℕ). OnOk c.begin.result (PlacedFrame m (store_of c.begin.new.self) c.args.process c.args.depth h.own f))
    c.as_slice.ensures.value c.begin.ensures)
