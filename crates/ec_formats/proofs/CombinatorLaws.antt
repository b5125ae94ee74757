-- The laws of formats made of formats.
use Rattle.std.proofs.Common.{◌≡◌, ℕ, Bool, true, ◌&&◌, List, ◌++◌, length, Ok, refl, sym, ap, subst, ◌∙◌, append_assoc, arith, inl, inr}
use Rattle.ec_formats.specs.Format.{◌>>=◌, Format, Takes, IsLawful}
use Rattle.ec_formats.specs.Combinators.{ruled, such_that, pair, through}
use Rattle.ec_formats.proofs.Bytes.{Takes-then, rest_within}
use Rattle.ec_formats.proofs.Steps.{bind_ok, bind_err, passed, not_passed, ok_is, both, first_of_both, second_of_both}

module _ {A : Type 0} where
  pub such_that_law : (f : Format A) (rule : A → Bool) → IsLawful f → IsLawful (such_that f rule)
  such_that_law f rule law = record {
    takes = λ bytes x fits e.
        let a = bind_ok (f.read bytes) (λ y. ruled rule (length bytes) y) x e in
        let p = passed (rule a.0.0) (length bytes) a.0 x a.2 in
        let t = law.takes bytes a.0 fits a.1 in
        subst (λ (y : A × List ℕ). Takes bytes (f.spell y.0) y.1 × ((f.fits y.0 && rule y.0) ≡ true)) p.1
        (t.0, both (f.fits a.0.0) (rule a.0.0) t.1 p.0);
    again = λ a rest h.
        rw (law.again a rest (first_of_both (f.fits a) (rule a) h), second_of_both (f.fits a) (rule a) h) refl;
    within = λ bytes left fits e.
        elim (bind_err (f.read bytes) (λ y. ruled rule (length bytes) y) left e) [
          | inl at_first ↦ law.within bytes left fits at_first
          | inr a ↦ let here : length bytes ≡ left = not_passed (rule a.0.0) (length bytes) left a.0 a.2 in omega arith
        ];
  }

module _ {A B : Type 0} where
  pub pair_law : (f : Format A) (g : A → Format B) → IsLawful f → ((a : A) → IsLawful (g a)) → IsLawful (pair f g)
  pair_law f g law laws = record {
    takes = λ bytes x fits e.
        let a = bind_ok (f.read bytes) (λ y. (g y.0).read y.1 >>= λ z. Ok ((y.0, z.0), z.1)) x e in
        let b = bind_ok ((g a.0.0).read a.0.1) (λ z. Ok ((a.0.0, z.0), z.1)) x a.2 in
        let t = law.takes bytes a.0 fits a.1 in
        let u = (laws a.0.0).takes a.0.1 b.0 t.0.rest_fits b.1 in
        subst (λ (y : (A × B) × List ℕ). Takes bytes (f.spell y.0.0 ++ (g y.0.0).spell y.0.1) y.1
        × ((f.fits y.0.0 && (g y.0.0).fits y.0.1) ≡ true)) (ok_is ((a.0.0, b.0.0), b.0.1) x b.2)
        (Takes-then bytes (f.spell a.0.0) a.0.1 ((g a.0.0).spell b.0.0) b.0.1 t.0 u.0, both _ _ t.1 u.1);
    again = λ x rest h.
        let one = law.again x.0 ((g x.0).spell x.1 ++ rest) (first_of_both _ _ h) in
        let two = (laws x.0).again x.1 rest (second_of_both _ _ h) in
        ap ((pair f g).read) (append_assoc (f.spell x.0) ((g x.0).spell x.1) rest) ∙ rw (one, two) refl;
    within = λ bytes left fits e.
        elim (bind_err (f.read bytes) (λ y. (g y.0).read y.1 >>= λ z. Ok ((y.0, z.0), z.1)) left e) [
          | inl at_first ↦ law.within bytes left fits at_first
          | inr a ↦
              let t = law.takes bytes a.0 fits a.1 in
              let shorter = rest_within bytes (f.spell a.0.0) a.0.1 t.0 in
              elim (bind_err ((g a.0.0).read a.0.1) (λ z. Ok ((a.0.0, z.0), z.1)) left a.2) [
                | inl at_second ↦ let there = (laws a.0.0).within a.0.1 left t.0.rest_fits at_second in omega arith
                | inr b ↦ absurd cc
              ]
        ];
  }

  pub through_law : (to : A → B) (from : B → A) (f : Format A) → ((a : A) → f.fits a ≡ true → from (to a) ≡ a) → ((b : B) → to (from b) ≡ b)
      → IsLawful f → IsLawful (through to from f)
  through_law to from f there back law = record {
    takes = λ bytes x fits e.
        let a = bind_ok (f.read bytes) (λ y. Ok (to y.0, y.1)) x e in
        let t = law.takes bytes a.0 fits a.1 in
        let same = there a.0.0 t.1 in
        subst (λ (y : B × List ℕ). Takes bytes (f.spell (from y.0)) y.1 × (f.fits (from y.0) ≡ true)) (ok_is (to a.0.0, a.0.1) x a.2)
        (subst (λ (y : A). Takes bytes (f.spell y) a.0.1 × (f.fits y ≡ true)) (sym same) t);
    again = λ b rest h. rw (law.again (from b) rest h, back b) refl;
    within = λ bytes left fits e.
        elim (bind_err (f.read bytes) (λ y. Ok (to y.0, y.1)) left e) [
          | inl at_first ↦ law.within bytes left fits at_first
          | inr a ↦ absurd cc
        ];
  }
