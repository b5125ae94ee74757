-- The operands of a stop, and what takes its result, as the entry has them.
use Rattle.std.proofs.Common.{◌≡◌, ℕ, true, List, [], ◌∷◌, Option, Some, None, refl, sym, ap, ◌∙◌, map}
use Rattle.std.specs.Prelude.{slice_get}
use Rattle.ec_activations.proofs.Words.{typed_variable}
use Rattle.ec_activations.specs.Frames.{Held, held_in, or_nil, taker_of, value_in}
use Rattle.ec_code.specs.Activations.{variables_behind}
use Rattle.ec_code.specs.Fine.{GoesOn, IsTaken}
use Rattle.ec_code.specs.Steps.{with_itself}
use Rattle.ec_code.specs.Typing.{Declared}
use Rattle.ec_code.specs.declared.activation.CodeActivation.{CodeActivation}
use Rattle.ec_code.specs.declared.code.Live.{Live}
use Rattle.ec_code.specs.declared.code.Operation.{Operation}
use Rattle.ec_code.specs.declared.code.Parts.{Parts}
use Rattle.ec_code.specs.declared.code.Variable.{Variable}
use Rattle.ec_code.specs.declared.code.Variable.TheVariants.{Named, Temporary}
use Rattle.ec_types.specs.declared.conform.static_type.StaticType.{StaticType}
use Rattle.ec_code.specs.Live.{stays}
use Rattle.ec_activations.specs.RestingLaws.{its_entry}
use Rattle.ec_code.specs.Sound.{RestsAt, SoundPending}
use Rattle.ec_code.specs.SoundValues.{AreHeld, held}
use Rattle.ec_generate.specs.Entries.{result_of, typed}
use Rattle.ec_world.specs.declared.object.ObjectRec.{ObjectRec}
use Rattle.ec_world.specs.declared.stop.Stop.{Stop}
use Rattle.ec_world.specs.declared.stop.Stop.TheVariants as stop
use Rattle.ec_world.specs.declared.value.Value.{Value}

module _ (p : Parts) (a : CodeActivation) where
  value_is : (x : Variable) (v : Value) → held (variables_behind p a a.at) a.temporaries x ≡ Some v → value_in p a x ≡ v
  value_is (Named n) v e = ap or_nil e
  value_is (Temporary k) v e = ap or_nil e

  values_are : (live : List Live) (xs : List Variable) (vs : List Value) → AreHeld xs (variables_behind p a a.at) a.temporaries vs →
      map (λ (h : Held). h.value) (held_in p a (map (typed live) xs)) ≡ vs
  values_are live [] [] h = refl
  values_are live [] (v ∷ vs) h = absurd h
  values_are live (x ∷ xs) [] h = absurd h
  values_are live (x ∷ xs) (v ∷ vs) h =
      let first : value_in p a (typed live x).variable ≡ v = ap (value_in p a) (typed_variable live x) ∙ value_is x v h.0 in
      let others = values_are live xs vs h.1 in
      ap (λ u. u ∷ map (λ (y : Held). y.value) (held_in p a (map (typed live) xs))) first ∙ ap (λ us. v ∷ us) others

pub held_for_it : (d : Declared) (p : Parts) (objects : List ObjectRec) (a : CodeActivation) (h : SoundPending d p objects a) →
    a.operands ≡ with_itself h.rests.row.on_itself a.own
    (map (λ (x : Held). x.value) (held_in p a (its_entry d p objects a h.rests).operands))
held_for_it d p objects a h =
    h.operands.are ∙ ap (λ vs. with_itself h.rests.row.on_itself a.own vs)
    (sym (values_are p a h.rests.line.live h.rests.row.operands h.operands.values h.operands.those))

-- ---- what takes the result

module _ (d : Declared) (p : Parts) (number : ℕ) (o : Operation) (T : Type 0) where
  going : (s : Stop) → stays s ≡ true → GoesOn d p number o s T → T
  going stop.Entry e h = h
  going (stop.Invoke name line) e h = h
  going (stop.New class) e h = h
  going (stop.Return gives_self) e h = absurd cc
  going (stop.NewVector of line) e h = h
  going (stop.Get line) e h = h
  going (stop.Set line) e h = h
  going (stop.Size line) e h = h
  going (stop.Concat line) e h = h
  going stop.Length e h = h
  going (stop.Compare order) e h = h
  going (stop.GetSlice line) e h = h
  going stop.AsString e h = h
  going stop.Print e h = h
  going (stop.Global index) e h = h
  going (stop.NodeAt line) e h = h
  going stop.NodeCount e h = h
  going (stop.Move line) e h = h
  going (stop.Fix line) e h = h
  going (stop.Refix line) e h = h
  going (stop.Unfix line) e h = h
  going (stop.IsFixed line) e h = h
  going (stop.View to line) e h = h
  going (stop.Wait condition) e h = h
  going (stop.Signal condition) e h = h
  going stop.LoopTop e h = h
  going stop.End e h = absurd cc
  going (stop.Fail why line) e h = absurd cc

taken : (d : Declared) (p : Parts) (into : Option Variable) (gives : Option StaticType) → IsTaken d p gives into →
    into ≡ taker_of (result_of into gives)
taken d p None None h = refl
taken d p None (Some t) h = refl
taken d p (Some x) None h = absurd h
taken d p (Some x) (Some t) h = refl

pub waits_for : (d : Declared) (p : Parts) (objects : List ObjectRec) (a : CodeActivation) (r : RestsAt d p objects a) →
    a.into ≡ r.row.into → stays r.row.stop ≡ true → a.into ≡ taker_of (its_entry d p objects a r).result
waits_for d p objects a r into goes =
    let behind = going d p a.operation r.of _ r.row.stop goes r.typed.behind in
    into ∙ taken d p r.row.into r.row.gives behind.0
