-- Each condition that an operation uses is one of its own object's, whose monitor the operation has entered.
use Rattle.std.proofs.Common.{◌≡◌, ℕ, suc, ◌+◌, ◌==◌, ◌&&◌, Bool, true, false, not, List, [], ◌∷◌, map, Option, Some, None}
use Rattle.std.proofs.Common.{refl, sym, ap, ◌∙◌, arith}
use Rattle.std.proofs.lemmas.Bool.{eqb-true}
use Rattle.std.specs.Prelude.{slice_get}
use Rattle.ec_check.proofs.Every.{Every}
use Rattle.ec_code.specs.declared.code.Operation.{Operation as Lowered}
use Rattle.ec_code.specs.declared.code.Parts.{Parts}
use Rattle.ec_code.specs.Fine.{FineCondition}
use Rattle.ec_core.specs.declared.Class.{Class}
use Rattle.ec_core.specs.declared.Kind.{Kind}
use Rattle.ec_core.specs.declared.Kind.TheVariants as kind
use Rattle.ec_core.specs.declared.Operation.{Operation}
use Rattle.ec_core_laws.specs.Waiting.{IsNoProcess, MayUse}
use Rattle.ec_accepted.proofs.Beginnings.{section_stands}
use Rattle.ec_accepted.proofs.Finding.{class_found, made_there}
use Rattle.ec_emission.specs.Lowered.{IsLowered, IsOperationOf, declared_of}
use Rattle.ec_meaning.specs.Programs.{Source, class_of, class_number, section_from}
use Rattle.ec_places.specs.Rising.{IsRising}
use Rattle.ec_world.specs.Doings.{is_section}

no_process : {A : Type 0} → (k : Kind) → IsNoProcess k → k ≡ kind.Process → A
no_process kind.Named h e = cc
no_process kind.Initial h e = cc
no_process kind.Process h e = absurd h

-- an operation that is no process section isn't its class's
other_section : (os : List Operation) (class i : ℕ) (o : Operation) → slice_get os i ≡ Some o → IsNoProcess o.kind →
    not (is_section (section_from 1 os class) (suc i)) ≡ true
other_section os class i o e plain = by (section_from 1 os class) refl
  where
    same_operation : (a b : Operation) → Some a ≡ Some b → a ≡ b
    same_operation a b f = cc

    apart : (n : ℕ) → section_from 1 os class ≡ Some n → (b : Bool) → (n == suc i) ≡ b → not b ≡ true
    apart n f false g = refl
    apart n f true g =
        let at = section_stands os 1 class n f in
        let same : n ≡ suc i = eqb-true n (suc i) g in
        let number : n ≡ 1 + at.0 = at.1 in
        let place : at.0 ≡ i = omega arith in
        let it : at.2.operation ≡ o =
        same_operation at.2.operation o (sym at.2.is ∙ ap (λ j. slice_get os j) place ∙ e) in
        no_process o.kind plain (ap (λ (x : Operation). x.kind) (sym it) ∙ at.2.of_kind)

    by : (found : Option ℕ) → section_from 1 os class ≡ found → not (is_section found (suc i)) ≡ true
    by None f = refl
    by (Some n) f = apart n f (n == suc i) refl

module _ (s : Source) (p : Parts) (rising : IsRising (map (λ (c : Class). c.number) s.core.classes)) (lowered : IsLowered
    s p)
    (i : ℕ) (o : Operation) (at : slice_get s.core.operations i ≡ Some o) (made : Lowered) (lowers : IsOperationOf s o made)
    (k : ℕ) (c : Class) (there : slice_get s.core.classes k ≡ Some c) (own : c.number ≡ o.class) where
  pub condition_fine : (n : ℕ) → MayUse o.kind c n → FineCondition (declared_of s) p (suc i) made n
  condition_fine n use_it = record {
    place = k;
    is_class = lowers.class ∙ ap (class_number s) (sym own) ∙ class_found s rising k c there;
    class = class_of s c;
    is = ap (λ cs. slice_get cs k) lowered.classes ∙ made_there (class_of s) s.core.classes k c there;
    is_inside =
        ap (λ b. b && not (is_section (section_from 1 s.core.operations c.number) (suc i))) use_it.is_monitored
        ∙ other_section s.core.operations c.number i o at use_it.is_no_process;
    there = use_it.is_there;
  }

  pub conditions_fine : (ns : List ℕ) → Every (MayUse o.kind c) ns → Every (FineCondition (declared_of s) p (suc i) made) ns
  conditions_fine [] h = tt
  conditions_fine (n ∷ ns) h = (condition_fine n h.0, conditions_fine ns h.1)
