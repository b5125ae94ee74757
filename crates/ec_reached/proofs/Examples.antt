-- The example meets what is asked of code.
use Rattle.std.proofs.Common.{◌≡◌, ◌==◌, ℕ, false, [], ◌∷◌, Option, Some, None, refl, subst}
use Rattle.ec_world.proofs.Counting.{if_case}
use Rattle.ec_world.proofs.Members.{has_one}
use Rattle.ec_world.specs.declared.class.ClassRec.{ClassRec}
use Rattle.ec_world.specs.declared.stop.Stop.{Stop}
use Rattle.ec_world.specs.Objects.{operation_named}
use Rattle.ec_reached.specs.Code.{StopFits}
use Rattle.ec_reached.specs.Example.{ExampleIsMet, class}
use Rattle.ec_reached.specs.Meant.{IsNotCalled, is_end, is_entry}

others : (name : ℕ) → operation_named class.operations name ≡ Some 0 → ⊥
others name e = if_case (λ (t : Option ℕ). t ≡ Some 0 → ⊥) (0 == name) (Some 2) None (λ k i. absurd cc) (λ k i. absurd cc) e

main_uncalled : IsNotCalled (class ∷ []) 0
main_uncalled = record {
  initial = λ k h e. let same : k ≡ class = has_one class k h in absurd (let f : class.initial ≡ 0 = subst (λ (z : ClassRec). z.initial ≡ 0) same e in cc);
  named = λ k name h e.
      let same : k ≡ class = has_one class k h in others name (subst (λ (z : ClassRec). operation_named z.operations name ≡ Some 0) same e);
}

plain : (n : ℕ) (s : Stop) → is_entry s ≡ false → is_end s ≡ false → StopFits (class ∷ []) n s
plain n s e f = record { no_entry = e; ends = λ i. absurd cc }

pub example_met : ExampleIsMet
example_met = record {
  fits = (
    (plain 0 _ refl refl, (plain 0 _ refl refl, (record { no_entry = refl; ends = λ i. main_uncalled }, tt))),
    ((plain 1 _ refl refl, tt), ((plain 2 _ refl refl, (plain 2 _ refl refl, tt)), tt)),
  );
  held = refl;
  waits = refl;
  blocked = refl;
}
