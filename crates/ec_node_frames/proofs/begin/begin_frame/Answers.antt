-- The frame that was made is that of a new activation.
use Rattle.std.proofs.Common.{◌≡◌, ℕ, ◌<◌, List, [], ◌∷◌, get_or, length, map, None, Some, sym, ap, ◌∙◌, subst, arith}
use Rattle.std.specs.Prelude.{Err, Ok, OnOk, Result, slice_get}
use Rattle.std.proofs.lemmas.Option.{slice_get-get_or}
use Rattle.ec_code.specs.declared.code.Live.{Live}
use Rattle.ec_node_frames.proofs.Beginning.{frame_begins, texts_come}
use Rattle.ec_node_frames.proofs.begin.begin_frame.Goals as goal
use Rattle.ec_node_frames.specs.Beginning.{BeginsFrame, HasEntry, first_held, first_value, first_values}
use Rattle.ec_node_frames.specs.Loops.{IsFilled}
use Rattle.ec_world.specs.declared.key.Key.TheVariants.{Frame}
use Rattle.ec_objects.specs.Values.{HasWords, TextsFit}
use Rattle.ec_generate.specs.declared.table.OperationTable.{OperationTable}
use Rattle.ec_stores.specs.Changes.{PlacedFrame}
use Rattle.ec_stores.specs.Node.{store_of}
use Rattle.ec_things.specs.Store.{Store}
use Rattle.ec_things.specs.Texts.{GetsTexts}
use Rattle.ec_world.specs.Group.{Has}
use Rattle.ec_world.specs.declared.value.Value.{Value}
use Rattle.ec_world.specs.declared.value.Value.TheVariants.{Ref, Str}

-- there is a first word
one_word : (s m : Store) (values rest : List Value) (words : List ℕ) (own : ℕ) → HasWords s m values words → values ≡ Ref own ∷ rest →
    0 < length words
one_word s m values rest words own has are =
    let n = ap (λ (vs : List Value). length vs) are in
    let m = has.are.many in
    omega (arith, n, m)

-- what has been made, for a frame
record Made (s m : Store) (process depth operation own : ℕ) (arguments : List Value) (table : OperationTable)
    (words frame : List ℕ) : Type 0 where
  word : ℕ
  first : slice_get words 0 ≡ Some word
  has : HasWords s m (first_values table own arguments) words
  filled : IsFilled table (first_held table) words (process ∷ depth ∷ operation ∷ 0 ∷ 1 ∷ own ∷ word ∷ []) frame
      (length (first_held table))

made_words : (s m : Store) (process depth operation own : ℕ) (arguments : List Value) (table : OperationTable) (values : List Value)
    (held : List Live) (words frame : List ℕ) (word : ℕ) → held ≡ first_held table →
    values ≡ Ref own ∷ map (λ l. first_value arguments l.variable) held → slice_get words 0 ≡ Some word → HasWords s m values words →
    IsFilled table held words (process ∷ depth ∷ operation ∷ 0 ∷ 1 ∷ own ∷ word ∷ []) frame (length held) →
    Made s m process depth operation own arguments table words frame
made_words s m process depth operation own arguments table values held words frame word here are first has filled = record {
  word = word;
  first = first;
  has = subst (λ (vs : List Value). HasWords s m vs words)
      (are ∙ ap (λ (ls : List Live). Ref own ∷ map (λ l. first_value arguments l.variable) ls) here) has;
  filled = subst
      (λ (ls : List Live). IsFilled table ls words (process ∷ depth ∷ operation ∷ 0 ∷ 1 ∷ own ∷ word ∷ []) frame (length ls)) here filled;
}

begins_if : {X E : Type 0} (s m s' : Store) (process depth operation own : ℕ) (arguments : List Value) (table : OperationTable)
    (words frame : List ℕ) (r : Result X E) → Made s m process depth operation own arguments table words frame →
    s.row (Frame process depth) ≡ None → HasEntry table → OnOk r (PlacedFrame m s' process depth own frame) →
    OnOk r (BeginsFrame s s' table process depth operation own arguments)
begins_if s m s' process depth operation own arguments table words frame (Ok x) made none entry placed =
    frame_begins s m s' process depth operation own arguments table words frame made.word made.first made.has made.filled placed none entry
begins_if s m s' process depth operation own arguments table words frame (Err e) made none entry placed = tt

texts_if : {X E : Type 0} (s m s' : Store) (process depth operation own : ℕ) (arguments : List Value) (table : OperationTable)
    (words frame : List ℕ) (r : Result X E) → Made s m process depth operation own arguments table words frame →
    s.row (Frame process depth) ≡ None → HasEntry table → OnOk r (PlacedFrame m s' process depth own frame) →
    OnOk r (GetsTexts (λ text. Has (first_values table own arguments) (Str text)) s s')
texts_if s m s' process depth operation own arguments table words frame (Ok x) made none entry placed =
    texts_come s m s' process depth operation own arguments table words frame made.word made.first made.has made.filled placed none entry
texts_if s m s' process depth operation own arguments table words frame (Err e) made none entry placed = tt

pub words_for-requires : goal.words_for-requires
words_for-requires c =
    subst (λ (vs : List Value). TextsFit (store_of c.args.node.now) vs)
    (sym (c.as_slice.ensures.value ∙ c.in_ok-values.ensures
    ∙ ap (λ (ls : List Live). Ref c.args.own ∷ map (λ l. first_value c.args.arguments.now l.variable) ls)
    (c.as_slice-held.ensures.value ∙ c.in_ok-live.ensures)))
    c.requires.texts

pub begin-requires-clause-new : goal.begin-requires-clause-new
begin-requires-clause-new c = c.in_ok-made.ensures.only.rows (Frame c.args.process c.args.depth) ∙ c.requires.new

pub returns-clause-puts : goal.returns-clause-puts
returns-clause-puts c =
    let s = store_of c.args.node.now in
    let m = store_of c.words_for.new.node in
    let words = c.as_slice-words.result.now in
    let are = c.as_slice.ensures.value ∙ c.in_ok-values.ensures in
    let has : HasWords s m c.as_slice.result.now words =
    subst (λ (ws : List ℕ). HasWords s m c.as_slice.result.now ws) (sym c.as_slice-words.ensures.value) c.in_ok-made.ensures in
    let low = one_word s m c.as_slice.result.now
    (map (λ (l : Live). first_value c.args.arguments.now l.variable) c.as_slice-held.result.now) words c.args.own has are in
    let made = made_words s m c.args.process c.args.depth c.args.operation c.args.own c.args.arguments.now c.args.table.now
    c.as_slice.result.now c.as_slice-held.result.now words c.in_ok-frame.frame.items (get_or words 0 0)
    (c.as_slice-held.ensures.value ∙ c.in_ok-live.ensures) are (slice_get-get_or words 0 0 low) has c.in_ok-frame.ensures in
    begins_if s m (store_of c.begin.new.self) c.args.process c.args.depth c.args.operation c.args.own c.args.arguments.now c.args.table.now
    words c.in_ok-frame.frame.items c.begin.result made c.requires.new c.requires.entry
    (subst (λ (f : List ℕ). OnOk c.begin.result (PlacedFrame m (store_of c.begin.new.self) c.args.process c.args.depth c.args.own f))
    c.as_slice-2.ensures.value c.begin.ensures)

pub returns-clause-gets : goal.returns-clause-gets
returns-clause-gets c =
    let s = store_of c.args.node.now in
    let m = store_of c.words_for.new.node in
    let words = c.as_slice-words.result.now in
    let are = c.as_slice.ensures.value ∙ c.in_ok-values.ensures in
    let has : HasWords s m c.as_slice.result.now words =
    subst (λ (ws : List ℕ). HasWords s m c.as_slice.result.now ws) (sym c.as_slice-words.ensures.value) c.in_ok-made.ensures in
    let low = one_word s m c.as_slice.result.now
    (map (λ (l : Live). first_value c.args.arguments.now l.variable) c.as_slice-held.result.now) words c.args.own has are in
    let made = made_words s m c.args.process c.args.depth c.args.operation c.args.own c.args.arguments.now c.args.table.now
    c.as_slice.result.now c.as_slice-held.result.now words c.in_ok-frame.frame.items (get_or words 0 0)
    (c.as_slice-held.ensures.value ∙ c.in_ok-live.ensures) are (slice_get-get_or words 0 0 low) has c.in_ok-frame.ensures in
    texts_if s m (store_of c.begin.new.self) c.args.process c.args.depth c.args.operation c.args.own c.args.arguments.now c.args.table.now
    words c.in_ok-frame.frame.items c.begin.result made c.requires.new c.requires.entry
    (subst (λ (f : List ℕ). OnOk c.begin.result (PlacedFrame m (store_of c.begin.new.self) c.args.process c.args.depth c.args.own f))
    c.as_slice-2.ensures.value c.begin.ensures)
