-- Where one variable meets another, the other meets the one.
use Rattle.std.proofs.Common.{◌≡◌, Bool, true, false, inl, inr, ⊎_elim, List, [], ◌∷◌, Option, Some, None, refl, sym, subst}
use Rattle.ec_code.specs.declared.code.Line.{Line}
use Rattle.ec_code.specs.declared.code.Variable.{Variable}
use Rattle.ec_code.specs.Fine.{IsIn}
use Rattle.ec_machine_code.specs.Meeting.{Meet, all_if, live_in, live_first, met_at, met_behind, met_by}
use Rattle.ec_code.proofs.Among.{among_in, in_among, in_append, in_left, in_right, is_same_self, same_is}
use Rattle.ec_code.specs.Live.{writes}
use Rattle.ec_code.specs.Marks.{is_among, is_same}

in_all : (b : Bool) (ys : List Variable) (y : Variable) → IsIn y (all_if b ys) → (b ≡ true) × IsIn y ys
in_all true ys y i = (refl, i)
in_all false ys y i = absurd i

all_in : (b : Bool) (ys : List Variable) (y : Variable) → b ≡ true → IsIn y ys → IsIn y (all_if b ys)
all_in true ys y e i = i
all_in false ys y e i = absurd (let f : false ≡ true = e in cc)

module _ (x y : Variable) where
  swapped_live : (live : List Variable) → IsIn y (all_if (is_among x live) live) → IsIn x (all_if (is_among y live) live)
  swapped_live live i =
      let both = in_all (is_among x live) live y i in
      all_in (is_among y live) live x (in_among y live both.1) (among_in x live both.0)

  swapped_behind : (w : Option Variable) (behind : List Variable) → IsIn y (met_behind x w behind) → IsIn x (met_behind y w behind)
  swapped_behind None behind i = absurd i
  swapped_behind (Some z) behind i =
      ⊎_elim written other (in_append y (all_if (is_same x z) behind) (all_if (is_among x behind) (z ∷ [])) i)
    where
      written : IsIn y (all_if (is_same x z) behind) → IsIn x (met_behind y (Some z) behind)
      written j =
          let both = in_all (is_same x z) behind y j in
          in_right x (all_if (is_same y z) behind) (all_if (is_among y behind) (z ∷ []))
          (all_in (is_among y behind) (z ∷ []) x (in_among y behind both.1) (inl (same_is x z both.0)))

      is_it : y ≡ z → IsIn x behind → IsIn x (met_behind y (Some z) behind)
      is_it e j =
          in_left x (all_if (is_same y z) behind) (all_if (is_among y behind) (z ∷ []))
          (all_in (is_same y z) behind x (subst (λ v. is_same y v ≡ true) e (is_same_self y)) j)

      alone : is_among x behind ≡ true → IsIn y (z ∷ []) → IsIn x (met_behind y (Some z) behind)
      alone e (inl same) = is_it same (among_in x behind e)
      alone e (inr none) = absurd none

      other : IsIn y (all_if (is_among x behind) (z ∷ [])) → IsIn x (met_behind y (Some z) behind)
      other j = let both = in_all (is_among x behind) (z ∷ []) y j in alone both.0 both.1

  swapped_at : (line : Line) (rest : List Line) → IsIn y (met_at x line rest) → IsIn x (met_at y line rest)
  swapped_at line rest i = ⊎_elim
      (λ j. in_left x (all_if (is_among y (live_in line)) (live_in line)) (met_behind y (writes line.op) (live_first rest))
      (swapped_live (live_in line) j))
      (λ j. in_right x (all_if (is_among y (live_in line)) (live_in line)) (met_behind y (writes line.op) (live_first rest))
      (swapped_behind (writes line.op) (live_first rest) j))
      (in_append y (all_if (is_among x (live_in line)) (live_in line)) (met_behind x (writes line.op) (live_first rest)) i)

  swapped : (code : List Line) → IsIn y (met_by x code) → IsIn x (met_by y code)
  swapped [] i = absurd i
  swapped (line ∷ rest) i = ⊎_elim (λ j. in_left x (met_at y line rest) (met_by y rest) (swapped_at line rest j))
      (λ j. in_right x (met_at y line rest) (met_by y rest) (swapped rest j))
      (in_append y (met_at x line rest) (met_by x rest) i)

  pub meet_swapped : (code : List Line) → Meet code x y → Meet code y x
  meet_swapped code m = (λ e. m.0 (sym e), swapped code m.1)
