-- Values are read from the frame as those that the activation holds.
use Rattle.std.proofs.Common.{◌≡◌, ℕ, suc, ◌+◌, ◌<◌, ◌≤◌, Bool, List, [], ◌∷◌, ◌++◌, length, map, take, Some, refl, sym, ap, ◌∙◌, subst}
use Rattle.std.specs.Prelude.{if◌then◌else◌, IfOk, Result, slice_get}
use Rattle.std.proofs.lemmas.Option.{same_Some}
use Rattle.ec_activations.specs.Frames.{Held, held_if, held_in, held_of, result_in, value_in, variable_word, word_if}
use Rattle.ec_base.proofs.Lists.{take_next}
use Rattle.ec_code.specs.Typing.{Declared, kind_of}
use Rattle.ec_code.specs.declared.activation.CodeActivation.{CodeActivation}
use Rattle.ec_code.specs.declared.code.Live.{Live}
use Rattle.ec_code.specs.declared.code.Parts.{Parts}
use Rattle.ec_machine_code.specs.declared.homes.Home.{Home}
use Rattle.ec_node_frames.proofs.Carrying.{held_when, value_held, with_value}
use Rattle.ec_node_frames.proofs.Homed.{spot_is}
use Rattle.ec_node_frames.proofs.Items.{get_front, get_map, map_both}
use Rattle.ec_node_frames.specs.Carried.{CarriedHere, carried}
use Rattle.ec_node_frames.specs.Finishing.{RestsHere}
use Rattle.ec_node_frames.specs.Loops.{spot_of}
use Rattle.ec_node_frames.specs.Operands.{ActsHere}
use Rattle.ec_node_frames.specs.Reading.{AreRead, ReadsIn}
use Rattle.ec_world.specs.declared.key.Key.TheVariants.{Frame}
use Rattle.ec_objects.proofs.Reading.{read_back}
use Rattle.ec_objects.proofs.Wording.{take_all}
use Rattle.ec_objects.specs.Kinds.{IsOfKind}
use Rattle.ec_objects.specs.Values.{value_of}
use Rattle.ec_generate.specs.declared.table.OperationTable.{OperationTable}
use Rattle.ec_generate.specs.declared.table.StopEntry.{StopEntry}
use Rattle.ec_stores.specs.Changes.{FirstBlock, WordIs}
use Rattle.ec_things.specs.Store.{Owned, Stands, StandsAt, Store, Tidy, word_of}
use Rattle.ec_world.specs.declared.node.Kind.{Kind}
use Rattle.ec_world.specs.declared.value.Value.{Value}

-- ---- what is held stands at its home

module _ (s : Store) (table : OperationTable) (e : StopEntry) (process depth block : ℕ) (first : FirstBlock s (Frame process depth) block)
    (d : Declared) (p : Parts) (homes : Kind → List (List Home)) (tables : List OperationTable) (a : CodeActivation) where
  held_reads : RestsHere s table e process depth d p homes tables a → (i : ℕ) (l : Live) →
      slice_get (held_of p a) i ≡ Some (with_value p a l) → IsOfKind (kind_of l.of) (value_in p a l.variable) →
      ReadsIn s table block l (value_in p a l.variable)
  held_reads here i l there kind =
      let shown = here.shown in
      let v = value_in p a l.variable in
      let x = shown.spells.values (suc i) v (get_map value_held (held_of p a) i (with_value p a l) there) in
      let word : variable_word (homes s.kind) p a.operation l.variable ≡ Some x.0 =
      sym (ap (word_if (homes s.kind) p a.operation) there) ∙ x.1 in
      let spot = spot_is d p s.kind homes tables here.has a.operation table here.its l.variable x.0 word in
      let row : shown.row ≡ first.row = same_Some shown.row first.row (sym shown.there ∙ first.there) in
      record {
        process = process;
        depth = depth;
        first = first;
        low = subst (λ n. n < 128) (sym spot.is) spot.low;
        stands = subst (λ (r : Owned). StandsAt s r.blocks (spot_of table l) v) row
            (subst (λ n. StandsAt s shown.row.blocks n v) (sym spot.is) x.2);
        kind = kind;
      }

  pub operands_read : ActsHere s table e process depth d p homes tables a →
      AreRead s table block e.operands (λ l. value_in p a l.variable)
  operands_read acts i l is =
      let held : held_of p a ≡ held_in p a e.operands ++ held_in p a e.live =
      ap (held_if p a) acts.here.rests.is
      ∙ ap (λ b. (if b then held_in p a e.operands else result_in p a e.result a.into) ++ held_in p a e.live) acts.pending in
      held_reads acts.here i l
      (ap (λ (hs : List Held). slice_get hs i) held
      ∙ get_front (held_in p a e.operands) (held_in p a e.live) i (with_value p a l) (get_map (with_value p a) e.operands i l is))
      (acts.kinds i l is)

  pub carried_read : (pending : Bool) → CarriedHere s table e process depth pending d p homes tables a →
      AreRead s table block (carried e pending) (λ l. value_in p a l.variable)
  carried_read pending goes i l is =
      held_reads goes.here i l
      (ap (λ (hs : List Held). slice_get hs i) (held_when p a e pending goes.goes goes.when)
      ∙ get_map (with_value p a) (carried e pending) i l is)
      (goes.kinds i l is)

-- the words of the same variables are read
pub same_read : {E : Type 0} (s : Store) (table : OperationTable) (block : ℕ) (held ls : List Live) (value : Live → Value)
    (vs : List Value) (r : Result (List Value) E) → held ≡ ls → AreRead s table block ls value → map value ls ≡ vs →
    ((value : Live → Value) → AreRead s table block held value → IfOk r (λ us. us ≡ map value held)) → IfOk r (λ us. us ≡ vs)
same_read s table block held ls value vs r same reads are given =
    subst (λ (us : List Value). IfOk r (λ ws. ws ≡ us)) (ap (map value) same ∙ are)
    (given value (subst (λ (ks : List Live). AreRead s table block ks value) (sym same) reads))

-- the word at the home of a variable is read as its value
pub word_read : (s : Store) (table : OperationTable) (block : ℕ) (l : Live) (v : Value) (reads : ReadsIn s table block l v) (at w : ℕ) →
    Tidy s → at ≡ spot_of table l → WordIs s (Frame reads.process reads.depth) at w → value_of s (kind_of l.of) w ≡ Some v
word_read s table block l v reads at w tidy home is =
    let first = reads.first in
    let row : is.row ≡ first.row = same_Some is.row first.row (sym is.there ∙ first.there) in
    let word : reads.stands.word ≡ w =
    same_Some reads.stands.word w
    (sym reads.stands.there ∙ ap (word_of s first.row.blocks) (sym home) ∙ ap (λ (r : Owned). word_of s r.blocks at) (sym row) ∙ is.is) in
    read_back s (kind_of l.of) v w tidy.nil reads.kind (subst (λ n. Stands s v n) word reads.stands.stands)

-- ---- one after another

pub none_taken : (value : Live → Value) (held : List Live) → map value (take 0 held) ≡ []
none_taken value [] = refl
none_taken value (l ∷ ls) = refl

pub next_taken : (value : Live → Value) (held : List Live) (i : ℕ) (l : Live) → slice_get held i ≡ Some l → (us : List Value) (v : Value) →
    v ≡ value l → us ≡ map value (take i held) → us ++ v ∷ [] ≡ map value (take (i + 1) held)
next_taken value held i l is us v one before =
    ap (λ u. us ++ u ∷ []) one ∙ ap (λ ws. ws ++ value l ∷ []) before ∙ map_both value (take i held) (l ∷ [])
    ∙ ap (λ (ls : List Live). map value ls) (sym (take_next held i l is))

pub all_taken : (value : Live → Value) (held : List Live) (i : ℕ) → length held ≤ i → map value (take i held) ≡ map value held
all_taken value held i all = ap (λ (ls : List Live). map value ls) (take_all held i all)
