-- The operands of an action that is to be done are of the kinds of their types.
use Rattle.std.proofs.Common.{◌≡◌, inl, inr, ℕ, zero, suc, Bool, true, false, true≢false, List, [], ◌∷◌, map, Some, refl, sym, ap}
use Rattle.std.proofs.Common.{◌∙◌, subst}
use Rattle.std.proofs.lemmas.Option.{same_Some}
use Rattle.std.specs.Prelude.{if◌then◌else◌, slice_get}
use Rattle.ec_activations.proofs.Words.{typed_variable}
use Rattle.ec_activations.specs.Frames.{or_nil, value_in}
use Rattle.ec_asking.proofs.OfKind.{of_kind}
use Rattle.ec_asking.specs.Typed.{AreTypedOnce}
use Rattle.ec_code.specs.Activations.{variables_behind}
use Rattle.ec_code.specs.Fine.{Has, HaveTypes}
use Rattle.ec_code.specs.Typing.{Declared, kind_of}
use Rattle.ec_code.specs.declared.activation.CodeActivation.{CodeActivation}
use Rattle.ec_code.specs.declared.code.Live.{Live}
use Rattle.ec_code.specs.declared.code.Parts.{Parts}
use Rattle.ec_code.specs.declared.code.Variable.{Variable}
use Rattle.ec_code.specs.declared.code.Variable.TheVariants.{Named, Temporary}
use Rattle.ec_types.specs.declared.conform.static_type.StaticType.{StaticType}
use Rattle.ec_code.proofs.Among.{is_same_self, same_is}
use Rattle.ec_code.specs.Marks.{is_same}
use Rattle.ec_objects.specs.Kinds.{IsOfKind}
use Rattle.ec_code.specs.RangesValues.{AllInRange, InRange}
use Rattle.ec_code.specs.Worlds.{RangedActivation}
use Rattle.ec_code.proofs.Carried.{each_get}
use Rattle.ec_code.proofs.RangesSteps.{behind_ranged}
use Rattle.ec_activations.specs.RestingLaws.{its_entry}
use Rattle.ec_code.specs.Sound.{SoundPending}
use Rattle.ec_code.specs.SoundValues.{AreHeld, HasType, held}
use Rattle.ec_generate.specs.Entries.{typed}
use Rattle.ec_world.specs.Agree.{AllTwo}
use Rattle.ec_world.specs.declared.object.ObjectRec.{ObjectRec}
use Rattle.ec_world.specs.declared.value.Value.{Value}

-- a live variable is typed as it is live
typed_by : (live : List Live) (l : Live) (x : Variable) (t : StaticType) (b : Bool) → is_same l.variable x ≡ b → Has (l ∷ live) x t →
    (Has live x t → Has live x (typed live x).of) →
    Has (l ∷ live) x (if b then record { variable = x; of = l.of } else typed live x).of
typed_by live l x t true e h more = inl (ap (λ y. record { variable = y; of = l.of }) (sym (same_is l.variable x e)))
typed_by live l x t false e (inl f) more =
    let same : x ≡ l.variable = ap (λ (k : Live). k.variable) f in
    absurd (true≢false (sym (is_same_self x) ∙ ap (λ y. is_same y x) same ∙ e))
typed_by live l x t false e (inr i) more = inr (more i)

pub typed_has : (live : List Live) (x : Variable) (t : StaticType) → Has live x t → Has live x (typed live x).of
typed_has [] x t h = absurd h
typed_has (l ∷ ls) x t h = typed_by ls l x t (is_same l.variable x) refl h (λ i. typed_has ls x t i)

-- ---- what variables hold is in range

pub held_in_range : (p : Parts) (a : CodeActivation) → RangedActivation a → (x : Variable) (v : Value) →
    held (variables_behind p a a.at) a.temporaries x ≡ Some v → InRange v
held_in_range p a r (Named n) v e = each_get InRange (variables_behind p a a.at) n v (behind_ranged p a a.at r.variables) e
held_in_range p a r (Temporary n) v e = each_get InRange a.temporaries n v r.temporaries e

pub all_in_range : (p : Parts) (a : CodeActivation) → RangedActivation a → (xs : List Variable) (vs : List Value) →
    AreHeld xs (variables_behind p a a.at) a.temporaries vs → AllInRange vs
all_in_range p a r [] [] h = tt
all_in_range p a r [] (v ∷ vs) h = absurd h
all_in_range p a r (x ∷ xs) [] h = absurd h
all_in_range p a r (x ∷ xs) (v ∷ vs) h = (held_in_range p a r x v h.0, all_in_range p a r xs vs h.1)

module _ (d : Declared) (p : Parts) (objects : List ObjectRec) (a : CodeActivation) where
  held_is : (x : Variable) (v : Value) → held (variables_behind p a a.at) a.temporaries x ≡ Some v → value_in p a x ≡ v
  held_is (Named n) v e = ap or_nil e
  held_is (Temporary k) v e = ap or_nil e

  one_kind : (live : List Live) (x : Variable) (t : StaticType) (v : Value) (l : Live) → AreTypedOnce live → Has live x t →
      held (variables_behind p a a.at) a.temporaries x ≡ Some v → IsOfKind (kind_of t) v → typed live x ≡ l →
      IsOfKind (kind_of l.of) (value_in p a l.variable)
  one_kind live x t v l once has is kind e =
      let of : t ≡ l.of = once x t (typed live x).of has (typed_has live x t has) ∙ ap (λ (k : Live). k.of) e in
      let variable : x ≡ l.variable = sym (typed_variable live x) ∙ ap (λ (k : Live). k.variable) e in
      let value : v ≡ value_in p a l.variable = sym (held_is x v is) ∙ ap (value_in p a) variable in
      subst (λ u. IsOfKind (kind_of l.of) u) value (subst (λ s. IsOfKind (kind_of s) v) of kind)

  kinds_by : (live : List Live) (xs : List Variable) (ts : List StaticType) (vs : List Value) → AreTypedOnce live →
      HaveTypes d p live xs ts → AreHeld xs (variables_behind p a a.at) a.temporaries vs → AllTwo (HasType d objects) ts vs →
      AllInRange vs → (i : ℕ) (l : Live) → slice_get (map (typed live) xs) i ≡ Some l → IsOfKind (kind_of l.of) (value_in p a l.variable)
  kinds_by live [] ts vs once have those fit ranged i l e = absurd cc
  kinds_by live (x ∷ xs) [] vs once have those fit ranged i l e = absurd have
  kinds_by live (x ∷ xs) (t ∷ ts) [] once have those fit ranged i l e = absurd those
  kinds_by live (x ∷ xs) (t ∷ ts) (v ∷ vs) once have those fit ranged zero l e =
      one_kind live x t v l once have.0 those.0 (of_kind d objects t v fit.0 ranged.0) (same_Some (typed live x) l e)
  kinds_by live (x ∷ xs) (t ∷ ts) (v ∷ vs) once have those fit ranged (suc i) l e =
      kinds_by live xs ts vs once have.1 those.1 fit.1 ranged.1 i l e

  pub operand_kinds : (h : SoundPending d p objects a) → AreTypedOnce h.rests.line.live → RangedActivation a → (i : ℕ) (l : Live) →
      slice_get (its_entry d p objects a h.rests).operands i ≡ Some l → IsOfKind (kind_of l.of) (value_in p a l.variable)
  operand_kinds h once ranged i l e =
      let fit = h.operands in
      kinds_by h.rests.line.live h.rests.row.operands h.rests.typed.types fit.values once h.rests.typed.are fit.those fit.fit
      (all_in_range p a ranged h.rests.row.operands fit.values fit.those) i l e
