-- What the frame of an activation holds once an action is done that is not on its own object and had no text among its operands: the
-- texts that it held.
use Rattle.std.proofs.Common.{◌≡◌, ℕ, zero, suc, ◌+◌, ⊎_elim, Bool, true, false, List, ◌++◌, length, map, Some, refl, sym, ap}
use Rattle.std.proofs.Common.{◌∙◌, subst}
use Rattle.std.specs.Prelude.{if◌then◌else◌, slice_get}
use Rattle.ec_activations.specs.Frames.{Held, held_in, held_of, or_nil, result_in, value_in}
use Rattle.ec_code.specs.Activations.{variables_behind}
use Rattle.ec_code.specs.Steps.{with_itself}
use Rattle.ec_code.specs.Typing.{Declared}
use Rattle.ec_code.specs.declared.activation.CodeActivation.{CodeActivation}
use Rattle.ec_code.specs.declared.code.Live.{Live}
use Rattle.ec_code.specs.declared.code.Parts.{Parts}
use Rattle.ec_code.specs.declared.code.Variable.{Variable}
use Rattle.ec_code.specs.declared.code.Variable.TheVariants.{Named, Temporary}
use Rattle.ec_fullness.proofs.Values.{Holds, HoldsText, held_text, in_held, values_of}
use Rattle.ec_fullness.proofs.Waiting.{waits_here}
use Rattle.ec_node_frames.proofs.Done.{ended_is_done}
use Rattle.ec_node_frames.proofs.Items.{get_behind, get_map}
use Rattle.ec_node_frames.proofs.Rewriting.{held_before, held_now}
use Rattle.ec_node_frames.specs.Frames.{RestsAt}
use Rattle.ec_activations.proofs.Operands.{held_for_it}
use Rattle.ec_activations.specs.RestingLaws.{its_entry}
use Rattle.ec_code.specs.Sound.{SoundPending}
use Rattle.ec_generate.specs.declared.table.StopEntry.{StopEntry}
use Rattle.ec_world.proofs.Members.{has_either}
use Rattle.ec_world.specs.Group.{Has}
use Rattle.ec_world.specs.declared.object.ObjectRec.{ObjectRec}
use Rattle.ec_world.specs.declared.value.Value.{Value}
use Rattle.ec_world.specs.declared.value.Value.TheVariants.{Str}

-- ---- variables

-- an activation whose action is done, and which has taken nothing
abbrev pub ended : CodeActivation → CodeActivation
ended a = record a { pending = false }

same_behind : (p : Parts) (a : CodeActivation) (n : ℕ) → variables_behind p (ended a) n ≡ variables_behind p a n
same_behind p a zero = refl
same_behind p a (suc n) = refl

same_value : (p : Parts) (a : CodeActivation) (x : Variable) → value_in p (ended a) x ≡ value_in p a x
same_value p a (Named n) = ap (λ (vs : List Value). or_nil (slice_get vs n)) (same_behind p a a.at)
same_value p a (Temporary d) = refl

-- ---- the frame

module _ (d : Declared) (p : Parts) (objects : List ObjectRec) (a : CodeActivation) (h : SoundPending d p objects a)
    (pending : a.pending ≡ true) (others : h.rests.row.on_itself ≡ false) (plain : (text : List ℕ) → Has a.operands (Str text) → ⊥) where
  abbrev entry : StopEntry
  entry = its_entry d p objects a h.rests

  rests : RestsAt p a entry
  rests = (waits_here d p objects a h.rests h.into).rests

  held_pending : held_of p a ≡ held_in p a entry.operands ++ held_in p a entry.live
  held_pending =
      held_before p a (ended a) (ended_is_done a) entry rests
      ∙ ap (λ (b : Bool). (if b then held_in p a entry.operands else result_in p a entry.result a.into) ++ held_in p a entry.live) pending

  no_operand : (text : List ℕ) (x : Held) → x.value ≡ Str text → Has (held_in p a entry.operands) x → ⊥
  no_operand text x is o =
      let vs : List Value = map (λ (y : Held). y.value) (held_in p a entry.operands) in
      let value : Has vs (Str text) =
      record { at = o.at; is = get_map (λ (y : Held). y.value) (held_in p a entry.operands) o.at x o.is ∙ ap Some is } in
      plain text (subst (λ (us : List Value). Has us (Str text))
      (sym (held_for_it d p objects a h ∙ ap (λ b. with_itself b a.own vs) others)) value)

  -- what is live behind the stop is held afterwards
  still_live : (text : List ℕ) → Holds p a entry.live text → Has (values_of p (ended a)) (Str text)
  still_live text l =
      let front : List Held = result_in p (ended a) entry.result a.into in
      let one : Held = record { variable = l.live.variable; value = value_in p (ended a) l.live.variable } in
      let behind : slice_get (held_in p (ended a) entry.live) l.at ≡ Some one =
      get_map (λ (k : Live). record { variable = k.variable; value = value_in p (ended a) k.variable }) entry.live l.at l.live l.there in
      let there : slice_get (held_of p (ended a)) (length front + l.at) ≡ Some one =
      ap (λ (hs : List Held). slice_get hs (length front + l.at)) (held_now p a (ended a) (ended_is_done a) entry rests)
      ∙ get_behind front (held_in p (ended a) entry.live) (length front + l.at) l.at refl ∙ behind in
      let value : one.value ≡ Str text = same_value p a l.live.variable ∙ l.is in
      record {
        at = suc (length front + l.at);
        is = get_map (λ (y : Held). y.value) (held_of p (ended a)) (length front + l.at) one there ∙ ap Some value;
      }

  pub text_stays : (text : List ℕ) → Has (values_of p a) (Str text) → Has (values_of p (ended a)) (Str text)
  text_stays text has =
      let x : HoldsText (held_of p a) text = held_text p a text has in
      let there : Has (held_in p a entry.operands ++ held_in p a entry.live) x.held =
      record { at = x.at; is = ap (λ (hs : List Held). slice_get hs x.at) (sym held_pending) ∙ x.there } in
      ⊎_elim
      (λ (o : Has (held_in p a entry.operands) x.held). absurd (no_operand text x.held x.is o))
      (λ (l : Has (held_in p a entry.live) x.held). still_live text (in_held p a entry.live text l.at x.held l.is x.is))
      (has_either x.held (held_in p a entry.operands) (held_in p a entry.live) there)
