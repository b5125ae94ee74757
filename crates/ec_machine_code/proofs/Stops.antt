-- Stops by their numbers: each number means one place of the code, and each stop's place has one number.
use Rattle.std.proofs.Common.{◌≡◌, ℕ, zero, suc, ◌+◌, List, [], ◌∷◌, Option, Some, None, refl, sym, ap, ◌∙◌, arith}
use Rattle.std.specs.Prelude.{slice_get}
use Rattle.std.proofs.lemmas.Option.{same_Some}
use Rattle.ec_code.specs.declared.code.Line.{Line}
use Rattle.ec_code.specs.declared.code.Op.{Op}
use Rattle.ec_code.specs.declared.code.Op.TheVariants as op
use Rattle.ec_code.specs.declared.code.StopRow.{StopRow}
use Rattle.ec_machine_code.specs.Stops.{places_from, stop_of, with_place}

pub rest_is : (o : Op) (row : StopRow) → stop_of o ≡ Some row → o ≡ op.Rest row
rest_is (op.Rest row) other e = ap op.Rest (same_Some row other e)
rest_is (op.Copy to from) row e = absurd cc
rest_is (op.Literal to index) row e = absurd cc
rest_is (op.Itself to) row e = absurd cc
rest_is (op.Field to n) row e = absurd cc
rest_is (op.SetField n from) row e = absurd cc
rest_is (op.Constant to index) row e = absurd cc
rest_is (op.Compute how to left right) row e = absurd cc
rest_is (op.Decide to t wanted) row e = absurd cc
rest_is (op.Branch t wanted over) row e = absurd cc
rest_is (op.Jump over) row e = absurd cc
rest_is (op.Again back) row e = absurd cc

-- the stop of a number
pub record Numbered (code : List Line) (first q : ℕ) : Type 0 where
  pub place : ℕ
  pub sum : q ≡ first + place
  pub line : Line
  pub is_line : slice_get code place ≡ Some line
  pub row : StopRow
  pub is_stop : stop_of line.op ≡ Some row

one_more : (l : Line) (code : List Line) (first q : ℕ) → Numbered code (suc first) q → Numbered (l ∷ code) first q
one_more l code first q h =
    let s = h.sum in
    record { place = suc h.place; sum = omega (arith, s); line = h.line; is_line = h.is_line; row = h.row; is_stop = h.is_stop }

pub numbered : (code : List Line) (first n q : ℕ) → slice_get (places_from first code) n ≡ Some q → Numbered code first q
numbered [] first n q e = absurd cc
numbered (l ∷ rest) first n q e = by (stop_of l.op) n refl (numbered rest (suc first)) e
  where
    by :
        (o : Option StopRow) (n : ℕ) → stop_of l.op ≡ o →
        ((k p : ℕ) → slice_get (places_from (suc first) rest) k ≡ Some p → Numbered rest (suc first) p) →
        slice_get (with_place first o (places_from (suc first) rest)) n ≡ Some q → Numbered (l ∷ rest) first q
    by None n is far e = one_more l rest first q (far n q e)
    by (Some row) zero is far e =
        let s = same_Some first q e in
        record { place = 0; sum = omega (arith, s); line = l; is_line = refl; row = row; is_stop = is }
    by (Some row) (suc n) is far e = one_more l rest first q (far n q e)

-- a stop has a number
pub number_of :
    (code : List Line) (first k : ℕ) (line : Line) (row : StopRow) → slice_get code k ≡ Some line → stop_of line.op ≡ Some row →
    (n : ℕ) × (slice_get (places_from first code) n ≡ Some (first + k))
number_of [] first k line row e is = absurd cc
number_of (l ∷ rest) first zero line row e is =
    let none : first ≡ first + 0 = omega arith in (
      0,
      ap (λ o. slice_get (with_place first o (places_from (suc first) rest)) 0) (ap (λ (x : Line). stop_of x.op) (same_Some l line e) ∙ is)
          ∙ ap Some none,
    )
number_of (l ∷ rest) first (suc k) line row e is =
    by (stop_of l.op) (number_of rest (suc first) k line row e is)
  where
    on : suc first + k ≡ first + suc k
    on = omega arith

    by :
        (o : Option StopRow) → (n : ℕ) × (slice_get (places_from (suc first) rest) n ≡ Some (suc first + k)) →
        (n : ℕ) × (slice_get (with_place first o (places_from (suc first) rest)) n ≡ Some (first + suc k))
    by None h = (h.0, h.1 ∙ ap Some on)
    by (Some row) h = (suc h.0, h.1 ∙ ap Some on)

-- one place has one number
pub one_number :
    (code : List Line) (first n m q : ℕ) → slice_get (places_from first code) n ≡ Some q → slice_get (places_from first code) m ≡ Some q →
    n ≡ m
one_number [] first n m q e h = absurd cc
one_number (l ∷ rest) first n m q e h = by (stop_of l.op) n m (one_number rest (suc first)) e h
  where
    not_first : (k : ℕ) → slice_get (places_from (suc first) rest) k ≡ Some first → ⊥
    not_first k e = (let s = (numbered rest (suc first) k first e).sum in omega (arith, s))

    by :
        (o : Option StopRow) (n m : ℕ) →
        ((i j p : ℕ) → slice_get (places_from (suc first) rest) i ≡ Some p → slice_get (places_from (suc first) rest) j ≡ Some p → i ≡ j) →
        slice_get (with_place first o (places_from (suc first) rest)) n ≡ Some q →
        slice_get (with_place first o (places_from (suc first) rest)) m ≡ Some q → n ≡ m
    by None n m far e h = far n m q e h
    by (Some row) zero zero far e h = refl
    by (Some row) zero (suc m) far e h = absurd (not_first m (h ∙ ap Some (sym (same_Some first q e))))
    by (Some row) (suc n) zero far e h = absurd (not_first n (e ∙ ap Some (sym (same_Some first q h))))
    by (Some row) (suc n) (suc m) far e h = ap suc (far n m q e h)
