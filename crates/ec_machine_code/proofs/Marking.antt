-- Which columns are marked.
use Rattle.std.proofs.Common.{◌≡◌, ◌≢◌, ℕ, zero, suc, ◌+◌, ◌<◌, Bool, true, false, ◌⊎◌, inl, inr, ⊎_elim, List, [], ◌∷◌, ◌++◌, length}
use Rattle.std.proofs.Common.{Some, drop, replicate, slice_get, refl, sym, ap, subst, ◌∙◌}
use Rattle.std.proofs.lemmas.Bool.{cases_eq}
use Rattle.std.specs.Prelude.{slice_set}
use Rattle.ec_base.proofs.Lists.{drop_at, get_set_same, get_set_other, length_set, get_within}
use Rattle.ec_code.specs.declared.code.Line.{Line}
use Rattle.ec_code.specs.declared.code.Variable.{Variable}
use Rattle.ec_code.specs.Fine.{IsIn}
use Rattle.ec_machine_code.specs.Homes.{column}
use Rattle.ec_machine_code.specs.Meeting.{met_at, met_by}
use Rattle.ec_machine_code.specs.Rows.{marked_with, row_of}

pub none_marked : (n c : ℕ) → slice_get (replicate n false) c ≢ Some true
none_marked zero c e = cc
none_marked (suc n) zero e = cc
none_marked (suc n) (suc c) e = none_marked n c e

pub length_replicate : (n : ℕ) → length (replicate n false) ≡ n
length_replicate zero = refl
length_replicate (suc n) = ap suc (length_replicate n)

module _ (named : ℕ) where
  abbrev with_one : List Bool → Variable → List Bool
  with_one marks y = slice_set marks (column named y) true

  pub marked_append : (ys zs : List Variable) (marks : List Bool) →
      marked_with named marks (ys ++ zs) ≡ marked_with named (marked_with named marks ys) zs
  marked_append [] zs marks = refl
  marked_append (y ∷ ys) zs marks = marked_append ys zs (with_one marks y)

  -- what is marked stays so
  stays_by : (marks : List Bool) (y : Variable) (c : ℕ) → slice_get marks c ≡ Some true → slice_get (with_one marks y) c ≡ Some true
  stays_by marks y c e = ⊎_elim
      (λ (same : c ≡ column named y). subst (λ k. slice_get (with_one marks y) k ≡ Some true) (sym same)
      (get_set_same marks (column named y) true (subst (λ k. k < length marks) same (get_within marks c true e))))
      (λ (other : c ≡ column named y → ⊥). get_set_other marks (column named y) c true other ∙ e) (cases_eq c (column named y))

  stays : (ys : List Variable) (marks : List Bool) (c : ℕ) → slice_get marks c ≡ Some true →
      slice_get (marked_with named marks ys) c ≡ Some true
  stays [] marks c e = e
  stays (y ∷ ys) marks c e = stays ys (with_one marks y) c (stays_by marks y c e)

  -- each of these is
  each : (ys : List Variable) (marks : List Bool) (y : Variable) → IsIn y ys → column named y < length marks →
      slice_get (marked_with named marks ys) (column named y) ≡ Some true
  each [] marks y i h = absurd i
  each (z ∷ ys) marks y (inl e) h =
      stays ys (with_one marks z) (column named y)
      (subst (λ v. slice_get (with_one marks v) (column named y) ≡ Some true) e (get_set_same marks (column named y) true h))
  each (z ∷ ys) marks y (inr i) h =
      each ys (with_one marks z) y i (subst (λ n. column named y < n) (sym (length_set marks (column named z) true)) h)

  -- and nothing else
  only_one : (marks : List Bool) (y : Variable) (c : ℕ) → slice_get (with_one marks y) c ≡ Some true →
      (c ≡ column named y) ⊎ (slice_get marks c ≡ Some true)
  only_one marks y c e = ⊎_elim (λ (same : c ≡ column named y). inl same)
      (λ (other : c ≡ column named y → ⊥). inr (sym (get_set_other marks (column named y) c true other) ∙ e))
      (cases_eq c (column named y))

  only : (ys : List Variable) (marks : List Bool) (c : ℕ) → slice_get (marked_with named marks ys) c ≡ Some true →
      ((y : Variable) × IsIn y ys × (c ≡ column named y)) ⊎ (slice_get marks c ≡ Some true)
  only [] marks c e = inr e
  only (y ∷ ys) marks c e = ⊎_elim
      (λ (f : (z : Variable) × IsIn z ys × (c ≡ column named z)). inl (f.0, inr f.1, f.2))
      (λ g. ⊎_elim (λ same. inl (y, inl refl, same)) (λ old. inr old) (only_one marks y c g))
      (only ys (with_one marks y) c e)

  module _ (count : ℕ) (code : List Line) (x : Variable) where
    -- a variable that meets another is marked in its row
    pub row_has : (y : Variable) → IsIn y (met_by x code) → column named y < count →
        slice_get (row_of named count code x) (column named y) ≡ Some true
    row_has y i h =
        each (met_by x code) (replicate count false) y i (subst (λ n. column named y < n) (sym (length_replicate count)) h)

    -- and no other is
    pub row_only : (c : ℕ) → slice_get (row_of named count code x) c ≡ Some true →
        (y : Variable) × IsIn y (met_by x code) × (c ≡ column named y)
    row_only c e = ⊎_elim (λ f. f) (λ g. absurd (none_marked count c g)) (only (met_by x code) (replicate count false) c e)

-- the lines from one on, with the line itself
pub row_step : (named : ℕ) (code : List Line) (x : Variable) (q : ℕ) (line : Line) (marks : List Bool) → slice_get code q ≡ Some line →
    marked_with named marks (met_by x (drop q code))
    ≡ marked_with named (marked_with named marks (met_at x line (drop (q + 1) code))) (met_by x (drop (q + 1) code))
row_step named code x q line marks at =
    ap (λ l. marked_with named marks (met_by x l)) (drop_at code q line at)
    ∙ marked_append named (met_at x line (drop (q + 1) code)) (met_by x (drop (q + 1) code)) marks
