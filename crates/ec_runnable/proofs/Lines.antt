-- The type of a live variable on a line is that of the variable there.
use Rattle.std.proofs.Common.{◌≡◌, inl, inr, ℕ, zero, suc, List, [], ◌∷◌, Some, refl, sym, ap, ◌∙◌, subst}
use Rattle.std.proofs.lemmas.Option.{same_Some}
use Rattle.std.specs.Prelude.{slice_get}
use Rattle.ec_asking.specs.Typed.{AreTypedOnce, IsTypedOnce}
use Rattle.ec_code.specs.Fine.{Has}
use Rattle.ec_code.specs.declared.code.Line.{Line}
use Rattle.ec_code.specs.declared.code.Live.{Live}
use Rattle.ec_code.specs.declared.code.Op.{Op}
use Rattle.ec_code.specs.declared.code.Operation.{Operation as Made}
use Rattle.ec_code.specs.declared.code.Parts.{Parts}
use Rattle.ec_code.specs.declared.code.Variable.{Variable}
use Rattle.ec_types.specs.declared.conform.static_type.StaticType.{StaticType}
use Rattle.ec_emission.specs.Lowered.{AreOperationsOf, HasLines, IsLowered, IsOperationOf}
use Rattle.ec_emission.specs.Types.{Around, behind, lines_of, variable_type, with_types}
use Rattle.ec_meaning.specs.Programs.{Source}
use Rattle.ec_world.specs.Agree.{AllTwo}

-- what stands on the left where something stands on the right
left_of : {A B : Type 0} (R : A → B → Type 0) (xs : List A) (ys : List B) (i : ℕ) (y : B) → AllTwo R xs ys → slice_get ys i ≡ Some y →
    (x : A) × (slice_get xs i ≡ Some x) × R x y
left_of R [] [] i y all e = absurd cc
left_of R [] (z ∷ ys) i y all e = absurd all
left_of R (x ∷ xs) [] i y all e = absurd all
left_of R (x ∷ xs) (z ∷ ys) zero y all e = (x, refl, subst (λ w. R x w) (same_Some z y e) all.0)
left_of R (x ∷ xs) (z ∷ ys) (suc i) y all e = left_of R xs ys i y all.1 e

module _ (w : Around) where
  typed_so : (ts : List StaticType) (xs : List Variable) (x : Variable) (t : StaticType) → Has (with_types w ts xs) x t →
      t ≡ variable_type w ts x
  typed_so ts [] x t h = absurd h
  typed_so ts (y ∷ ys) x t (inl e) =
      ap (λ (l : Live). l.of) e ∙ ap (variable_type w ts) (sym (ap (λ (l : Live). l.variable) e))
  typed_so ts (y ∷ ys) x t (inr i) = typed_so ts ys x t i

  lines_typed : (ts : List StaticType) (ops : List Op) (lists : List (List Variable)) (i : ℕ) (line : Line) →
      slice_get (lines_of w ts ops lists) i ≡ Some line → AreTypedOnce line.live
  lines_typed ts [] lists i line e = absurd cc
  lines_typed ts (o ∷ os) [] i line e = absurd cc
  lines_typed ts (o ∷ os) (xs ∷ lists) zero line e =
      subst (λ (l : Line). AreTypedOnce l.live) (same_Some (record { op = o; live = with_types w ts xs }) line e)
      (λ x s t h g. typed_so ts xs x s h ∙ sym (typed_so ts xs x t g))
  lines_typed ts (o ∷ os) (xs ∷ lists) (suc i) line e = lines_typed (behind w ts o) os lists i line e

  code_typed : (ops : List Op) (code : List Line) → HasLines w ops code → (i : ℕ) (line : Line) → slice_get code i ≡ Some line →
      AreTypedOnce line.live
  code_typed ops code h i line e = lines_typed [] ops h.lists i line (ap (λ (c : List Line). slice_get c i) (sym h.lines) ∙ e)

operation_typed : (s : Source) (os : List Made) (n : ℕ) (o : Made) → AreOperationsOf s os → slice_get os n ≡ Some o → (i : ℕ)
    (line : Line) → slice_get o.code i ≡ Some line → AreTypedOnce line.live
operation_typed s [] n o are e i line there = absurd are
operation_typed s (first ∷ os) zero o are e i line there =
    let same : first ≡ o = same_Some first o e in
    code_typed _ _ first.code are.0.code i line (ap (λ (x : Made). slice_get x.code i) same ∙ there)
operation_typed s (first ∷ os) (suc n) o are e i line there =
    let of = left_of (IsOperationOf s) s.core.operations os n o are.1 e in code_typed _ _ o.code of.2.code i line there

pub typed_once : (s : Source) (p : Parts) → IsLowered s p → IsTypedOnce p
typed_once s p h n place o line is there = operation_typed s p.operations n o h.operations is place line there
