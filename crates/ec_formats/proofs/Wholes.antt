-- Values whose spelling is all of the bytes.
use Rattle.std.proofs.Common.{◌≡◌, ℕ, ◌≤◌, ◌==◌, List, [], ◌++◌, length, Ok, Err, sym, ap, subst, ◌∙◌, arith, inl, inr}
use Rattle.std.proofs.lemmas.Bool.{eqb-true}
use Rattle.std.proofs.lemmas.List.{append-nil, nil_from_length}
use Rattle.ec_formats.specs.Format.{◌>>=◌, Format, Read, IsBytes, IsLawful, IsSpelling, nothing_behind, whole}
use Rattle.ec_formats.proofs.Bytes.{rest_within}
use Rattle.ec_formats.proofs.Steps.{bind_ok, bind_err, passed, not_passed}

module _ {A : Type 0} where
  ended : (x : A × List ℕ) (a : A) → nothing_behind x ≡ Ok a → (x.1 ≡ []) × (x.0 ≡ a)
  ended x a e =
      let g = passed (length x.1 == 0) (length x.1) x.0 a e in
      (nil_from_length x.1 (eqb-true _ _ g.0), g.1)

  module _ (f : Format A) (law : IsLawful f) where
    -- what is read from all of the bytes has these bytes
    pub is_spelling : (bytes : List ℕ) (a : A) → IsBytes bytes → whole f bytes ≡ Ok a → IsSpelling f a bytes
    unfolding whole
    is_spelling bytes a fits e =
        let x = bind_ok (f.read bytes) nothing_behind a e in
        let g = ended x.0 a x.2 in
        let t = law.takes bytes x.0 fits x.1 in
        let all : bytes ≡ f.spell x.0.0 = t.0.parts ∙ ap (λ (r : List ℕ). f.spell x.0.0 ++ r) g.0 ∙ append-nil (f.spell x.0.0) in
        subst (λ (b : A). IsSpelling f b bytes) g.1 (record { rules = t.1; spelled = all })

    -- what has these bytes is read from them
    pub is_read : (bytes : List ℕ) (a : A) → IsSpelling f a bytes → whole f bytes ≡ Ok a
    unfolding whole
    is_read bytes a w =
        let one : f.read bytes ≡ Ok (a, []) = ap f.read (w.spelled ∙ sym (append-nil (f.spell a))) ∙ law.again a [] w.rules in
        ap (λ (r : Read A). r >>= nothing_behind) one

    -- a fault lies within the bytes, or just at their end
    pub whole_within : (bytes : List ℕ) (left : ℕ) → IsBytes bytes → whole f bytes ≡ Err left → left ≤ length bytes
    unfolding whole
    whole_within bytes left fits e =
        elim (bind_err (f.read bytes) nothing_behind left e) [
          | inl at_value ↦ law.within bytes left fits at_value
          | inr x ↦
              let t = law.takes bytes x.0 fits x.1 in
              let shorter = rest_within bytes (f.spell x.0.0) x.0.1 t.0 in
              let here : length x.0.1 ≡ left = not_passed (length x.0.1 == 0) (length x.0.1) left x.0.0 x.2 in
              omega arith
        ]

    -- bytes are the spelling of one value at most
    pub one_value : (a b : A) (bytes : List ℕ) → IsSpelling f a bytes → IsSpelling f b bytes → a ≡ b
    one_value a b bytes v w =
        let e : whole f bytes ≡ Ok a = is_read bytes a v in
        let g : whole f bytes ≡ Ok b = is_read bytes b w in
        cc
