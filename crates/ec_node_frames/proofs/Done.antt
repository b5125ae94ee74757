-- An action is done that gives nothing, or for which nothing waits.
use Rattle.std.proofs.Common.{◌≡◌, ◌≢◌, ℕ, zero, suc, false, List, [], ◌++◌, Option, Some, None, refl, sym, ap, ◌∙◌, subst, arith}
use Rattle.std.specs.Prelude.{slice_get}
use Rattle.ec_activations.proofs.Stops.{mapped}
use Rattle.ec_activations.specs.Frames.{Held, frame_thing, held_in, held_of, or_nil, result_in, taker_of, value_in}
use Rattle.ec_activations.specs.Frames.{variable_word}
use Rattle.ec_code.specs.Activations.{finished, into_variable, variables_behind}
use Rattle.ec_code.specs.declared.activation.CodeActivation.{CodeActivation}
use Rattle.ec_code.specs.declared.code.Live.{Live}
use Rattle.ec_code.specs.declared.code.Parts.{Parts}
use Rattle.ec_code.specs.declared.code.Variable.{Variable}
use Rattle.ec_code.specs.declared.code.Variable.TheVariants.{Named, Temporary}
use Rattle.ec_machine_code.specs.declared.homes.Home.{Home}
use Rattle.ec_node_frames.proofs.Changes.{Rewritten, word_rewritten, word_there}
use Rattle.ec_node_frames.proofs.Homed.{word_from_eight}
use Rattle.ec_node_frames.proofs.Rewriting.{IsDone, IsThere, held_now, live_stood, rewritten_puts, still_stands}
use Rattle.ec_node_frames.specs.Finishing.{FinishesFrame}
use Rattle.ec_node_frames.specs.Frames.{RestsAt}
use Rattle.ec_world.specs.declared.key.Key.TheVariants.{Frame}
use Rattle.ec_generate.specs.declared.table.OperationTable.{OperationTable}
use Rattle.ec_generate.specs.declared.table.StopEntry.{StopEntry}
use Rattle.ec_stores.specs.Changes.{WritesWord}
use Rattle.ec_things.specs.Store.{StandsAt, Store, Tidy, word_of}
use Rattle.ec_things.specs.Things.{Puts, Shown}
use Rattle.ec_world.specs.declared.node.Kind.{Kind}
use Rattle.ec_world.specs.declared.value.Value.{Value}

abbrev ended : CodeActivation → CodeActivation
ended a = record a { pending = false }

pub ended_is_done : (a : CodeActivation) → IsDone a (record a { pending = false })
ended_is_done a = record { operation = refl; own = refl; at = refl; done = refl }

same_behind : (p : Parts) (a : CodeActivation) (n : ℕ) → variables_behind p (ended a) n ≡ variables_behind p a n
same_behind p a zero = refl
same_behind p a (suc n) = refl

same_value : (p : Parts) (a : CodeActivation) (x : Variable) → value_in p (ended a) x ≡ value_in p a x
same_value p a (Named n) = ap (λ (vs : List Value). or_nil (slice_get vs n)) (same_behind p a a.at)
same_value p a (Temporary d) = refl

-- what waits has nothing yet
still_waits : (p : Parts) (a : CodeActivation) (r : Option Live) (into : Option Variable) → into ≡ taker_of r → result_in p a r into ≡ []
still_waits p a None into e = refl
still_waits p a (Some l) into e = ap (result_in p a (Some l)) e

module _ (s s' : Store) (process depth : ℕ) (writes : WritesWord s s' (Frame process depth) 4 0) (tidy : Tidy s') (p : Parts)
    (homes : Kind → List (List Home)) (a : CodeActivation)
    (shown : Shown s (Frame process depth) (frame_thing p homes process depth a)) (e : StopEntry) (rests : RestsAt p a e)
    (waits : a.into ≡ taker_of e.result) where
  abbrev Kept : ℕ → Type 0
  Kept j = j ≢ 4

  re : Rewritten s s' (Frame process depth) Kept
  re = word_rewritten s s' (Frame process depth) 4 0 writes

  zero_there : word_of s' shown.row.blocks 4 ≡ Some 0
  zero_there = word_there s s' (Frame process depth) 4 0 shown.row writes shown.there

  held_ended : held_of p (ended a) ≡ held_in p (ended a) e.live
  held_ended =
      held_now p a (ended a) (ended_is_done a) e rests
      ∙ ap (λ (hs : List Held). hs ++ held_in p (ended a) e.live) (still_waits p (ended a) e.result a.into waits)

  each : (i : ℕ) (h : Held) → slice_get (held_of p (ended a)) i ≡ Some h →
      IsThere s s' process depth p homes a (ended a) Kept re tidy shown (ended_is_done a) (λ j l ne. ne) zero_there h
  each i h is =
      let m = mapped (λ (l : Live). record { variable = l.variable; value = value_in p (ended a) l.variable }) e.live i h
      (sym (ap (λ (hs : List Held). slice_get hs i) held_ended) ∙ is) in
      let x = live_stood s s' process depth p homes a (ended a) Kept re tidy shown (ended_is_done a) (λ j l ne. ne) zero_there e rests i m.0
      m.1 in
      let low = word_from_eight (homes s.kind) p a.operation x.0 m.0.variable x.1 in
      let variable : h.variable ≡ m.0.variable = ap (λ (k : Held). k.variable) m.2 in
      let value : h.value ≡ value_in p a m.0.variable = ap (λ (k : Held). k.value) m.2 ∙ same_value p a m.0.variable in
      record {
        at = x.0;
        spot = ap (variable_word (homes s.kind) p a.operation) variable ∙ x.1;
        stands = subst (λ (v : Value). StandsAt s' shown.row.blocks x.0 v) (sym value)
            (still_stands s s' process depth p homes a (ended a) Kept re tidy shown (ended_is_done a) (λ j l ne. ne) zero_there x.0
            (value_in p a m.0.variable) (λ q. omega (arith, low, q)) x.2);
      }

  pub ended_puts : Puts s s' (Frame process depth) (Some (frame_thing p homes process depth (record a { pending = false })))
  ended_puts =
      rewritten_puts s s' process depth p homes a (ended a) Kept re tidy shown (ended_is_done a) (λ j l ne. ne) zero_there each

-- nothing is given
pub nothing_given : (s s' : Store) (process depth : ℕ) → WritesWord s s' (Frame process depth) 4 0 → Tidy s' → (table : OperationTable)
    (e : StopEntry) → FinishesFrame s s' table e process depth None
nothing_given s s' process depth writes tidy table e d p homes tables a here waits =
    ended_puts s s' process depth writes tidy p homes a here.shown e here.rests waits

-- nothing waits for what is given
pub nothing_waits : (s s' : Store) (process depth : ℕ) → WritesWord s s' (Frame process depth) 4 0 → Tidy s' → (table : OperationTable)
    (e : StopEntry) (v : Value) → e.result ≡ None → FinishesFrame s s' table e process depth (Some v)
nothing_waits s s' process depth writes tidy table e v none d p homes tables a here waits =
    let into : a.into ≡ None = waits ∙ ap taker_of none in
    let is : finished a (Some v) ≡ ended a = ap (λ x. into_variable a x v) into in
    subst (λ (b : CodeActivation). Puts s s' (Frame process depth) (Some (frame_thing p homes process depth b))) (sym is)
    (ended_puts s s' process depth writes tidy p homes a here.shown e here.rests waits)
