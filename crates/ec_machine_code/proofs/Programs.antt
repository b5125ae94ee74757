-- Operations lie one behind another in the code of a program, and so do their stops.
use Rattle.std.proofs.Common.{◌≡◌, ℕ, zero, suc, ◌+◌, ◌<◌, ◌≤◌, List, [], ◌∷◌, length, Some, refl, sym, ap, ◌∙◌}
use Rattle.std.proofs.Common.{subst, arith, ⊎_elim, length-append, Bool, true, false, if◌then◌else◌}
use Rattle.std.specs.Prelude.{slice_get, slice_index}
use Rattle.std.proofs.lemmas.Option.{same_Some, slice_get-get_or}
use Rattle.ec_base.proofs.Lists.{get_within}
use Rattle.ec_code.specs.declared.code.Op.TheVariants as op
use Rattle.ec_code.specs.declared.code.Operation.{Operation}
use Rattle.ec_code.specs.declared.code.StopRow.{StopRow}
use Rattle.ec_machine_code.specs.Machine.{MachineMeaning}
use Rattle.ec_machine_code.specs.Stops.{words_before, words_in_all}
use Rattle.ec_machine_code.specs.declared.code.OperationCode.{OperationCode}
use Rattle.ec_machine_code.specs.declared.homes.Home.{Home}
use Rattle.ec_machine_code.specs.Layout.{Vocabularies, home_of, is_within, operation_codes, operation_words, ops_of, order_of, place_of}
use Rattle.ec_machine_code.specs.Layout.{program_words}
use Rattle.ec_machine_code.specs.Once.{AreDifferent}
use Rattle.ec_machine_code.specs.Layout.{size_of_all}
use Rattle.ec_machine_code.specs.Layout.{stop_addresses, vocabulary_of, words_in}
use Rattle.ec_machine_code.specs.Speaks.{HasAt, Speaks}
use Rattle.ec_target.proofs.Places.{word_at-pc_of}
use Rattle.ec_target.specs.Code.{pc_of, word_at}
use Rattle.ec_machine_code.proofs.Laying.{all_long, stop_found}
use Rattle.ec_machine_code.proofs.Stretches.{get_append, has_back, has_front}

-- each word of a list stands in it
pub itself : (ws : List ℕ) → HasAt ws 0 ws
itself ws k w e =
    let lt = get_within ws k w e in
    let none : 0 + k ≡ k = omega arith in
    ap (λ j. word_at ws (pc_of j)) none ∙ word_at-pc_of ws k lt
    ∙ ap Some (same_Some (slice_index ws k) w (sym (slice_get-get_or ws k 0 lt) ∙ e))

module _ {S : Type 0} (M : MachineMeaning S) (vs : Vocabularies) (near : Speaks M vs.near) (middle : Speaks M vs.middle)
    (far : Speaks M vs.far) (homes : List (List Home)) (orders : List (List ℕ)) where
  abbrev pub words_of_one : ℕ → ℕ → Operation → List ℕ
  words_of_one n start o =
      operation_words (vocabulary_of vs homes orders n o) (home_of homes n o) (ops_of o.code) (order_of vs homes orders n) start

  abbrev pub place_in : ℕ → Operation → ℕ → ℕ → ℕ
  place_in n o start q = place_of vs homes orders n start o q

  abbrev pub code_of_one : ℕ → ℕ → Operation → OperationCode
  code_of_one n start o = record { words = words_in vs homes orders n o; stops = stop_addresses vs homes orders n start o }

  pub speaks_of : (n : ℕ) (o : Operation) → Speaks M (vocabulary_of vs homes orders n o)
  speaks_of n o =
      by (is_within vs.near (home_of homes n o) (ops_of o.code) (order_of vs homes orders n))
      (is_within vs.middle (home_of homes n o) (ops_of o.code) (order_of vs homes orders n))
    where
      by : (b c : Bool) → Speaks M (if b then vs.near else (if c then vs.middle else vs.far))
      by true c = near
      by false true = middle
      by false false = far

  -- the word at which operation k of these begins
  abbrev pub start_of : ℕ → ℕ → List Operation → ℕ → ℕ
  start_of n start [] k = start
  start_of n start (o ∷ os) zero = start
  start_of n start (o ∷ os) (suc k) = start_of (suc n) (start + words_in vs homes orders n o) os k

  one_long : (n start : ℕ) (o : Operation) → length (words_of_one n start o) ≡ words_in vs homes orders n o
  one_long n start o =
      all_long M (vocabulary_of vs homes orders n o) (speaks_of n o) (home_of homes n o) (ops_of o.code) (order_of vs homes orders n) start

  pub long_is : (n start : ℕ) (os : List Operation) → length (program_words vs homes orders n start os) ≡ size_of_all vs homes orders n os
  long_is n start [] = refl
  long_is n start (o ∷ os) =
      let one = length-append (words_of_one n start o) (program_words vs homes orders (suc n) (start + words_in vs homes orders n o) os) in
      let first = one_long n start o in
      let rest = long_is (suc n) (start + words_in vs homes orders n o) os in
      omega (arith, one, first, rest)

  pub sum_is : (n start : ℕ) (os : List Operation) → words_in_all (operation_codes vs homes orders n start os) ≡ size_of_all vs homes orders n os
  sum_is n start [] = refl
  sum_is n start (o ∷ os) = ap (λ k. words_in vs homes orders n o + k) (sum_is (suc n) (start + words_in vs homes orders n o) os)

  pub before_is :
      (n start : ℕ) (os : List Operation) (k : ℕ) → words_before (operation_codes vs homes orders n start os) k + start ≡ start_of n start os k
  before_is n start [] k = omega arith
  before_is n start (o ∷ os) zero = omega arith
  before_is n start (o ∷ os) (suc k) =
      let rest = before_is (suc n) (start + words_in vs homes orders n o) os k in
      omega (arith, rest)

  -- ---- each operation, by its place among all

  pub words_there :
      (code : List ℕ) (n start k at : ℕ) (os : List Operation) (o : Operation) → at ≡ n + k →
      HasAt code start (program_words vs homes orders n start os) → slice_get os k ≡ Some o →
      HasAt code (start_of n start os k) (words_of_one at (start_of n start os k) o)
  words_there code n start k at [] o sum has e = absurd cc
  words_there code n start zero at (p ∷ os) o sum has e =
      let first : n ≡ at = omega (arith, sum) in
      let front = has_front code start (words_of_one n start p) (program_words vs homes orders (suc n) (start + words_in vs homes orders n p) os) has in
      subst (λ i. HasAt code start (words_of_one i start o)) first
      (subst (λ x. HasAt code start (words_of_one n start x)) (same_Some p o e) front)
  words_there code n start (suc k) at (p ∷ os) o sum has e =
      let size = words_in vs homes orders n p in
      let back = has_back code start (words_of_one n start p) (program_words vs homes orders (suc n) (start + size) os) has in
      words_there code (suc n) (start + size) k at os o (omega (arith, sum))
      (subst (λ j. HasAt code (start + j) (program_words vs homes orders (suc n) (start + size) os)) (one_long n start p) back) e

  pub code_there :
      (n start k at : ℕ) (os : List Operation) (o : Operation) → at ≡ n + k → slice_get os k ≡ Some o →
      slice_get (operation_codes vs homes orders n start os) k ≡ Some (code_of_one at (start_of n start os k) o)
  code_there n start k at [] o sum e = absurd cc
  code_there n start zero at (p ∷ os) o sum e =
      let first : n ≡ at = omega (arith, sum) in
      ap (λ (x : Operation). Some (code_of_one n start x)) (same_Some p o e) ∙ ap (λ i. Some (code_of_one i start o)) first
  code_there n start (suc k) at (p ∷ os) o sum e =
      code_there (suc n) (start + words_in vs homes orders n p) k at os o (omega (arith, sum)) e

  -- what is said of an operation is said of one of the program
  pub operation_there :
      (n start k : ℕ) (os : List Operation) (c : OperationCode) → slice_get (operation_codes vs homes orders n start os) k ≡ Some c →
      (o : Operation) × (slice_get os k ≡ Some o)
  operation_there n start k [] c e = absurd cc
  operation_there n start zero (p ∷ os) c e = (p, refl)
  operation_there n start (suc k) (p ∷ os) c e = operation_there (suc n) (start + words_in vs homes orders n p) k os c e

  start_from : (n start k : ℕ) (os : List Operation) → start ≤ start_of n start os k
  start_from n start k [] = omega arith
  start_from n start zero (p ∷ os) = omega arith
  start_from n start (suc k) (p ∷ os) = let rest = start_from (suc n) (start + words_in vs homes orders n p) k os in omega (arith, rest)

  -- operations lie one behind another
  pub start_rises :
      (n start j k at : ℕ) (os : List Operation) (o : Operation) → at ≡ n + j → j < k → slice_get os j ≡ Some o →
      start_of n start os j + words_in vs homes orders at o ≤ start_of n start os k
  start_rises n start j k at [] o sum lt e = absurd cc
  start_rises n start j zero at (p ∷ os) o sum lt e = absurd (omega (arith, lt))
  start_rises n start zero (suc k) at (p ∷ os) o sum lt e =
      let first : n ≡ at = omega (arith, sum) in
      let same : words_in vs homes orders n p ≡ words_in vs homes orders at o =
      ap (words_in vs homes orders n) (same_Some p o e) ∙ ap (λ i. words_in vs homes orders i o) first in
      let rest = start_from (suc n) (start + words_in vs homes orders n p) k os in
      omega (arith, same, rest)
  start_rises n start (suc j) (suc k) at (p ∷ os) o sum lt e =
      start_rises (suc n) (start + words_in vs homes orders n p) j k at os o (omega (arith, sum)) (omega (arith, lt)) e

  pub start_within :
      (n start k at : ℕ) (os : List Operation) (o : Operation) → at ≡ n + k → slice_get os k ≡ Some o →
      start_of n start os k + words_in vs homes orders at o ≤ start + size_of_all vs homes orders n os
  start_within n start k at [] o sum e = absurd cc
  start_within n start zero at (p ∷ os) o sum e =
      let first : n ≡ at = omega (arith, sum) in
      let same : words_in vs homes orders n p ≡ words_in vs homes orders at o =
      ap (words_in vs homes orders n) (same_Some p o e) ∙ ap (λ i. words_in vs homes orders i o) first in
      omega (arith, same)
  start_within n start (suc k) at (p ∷ os) o sum e =
      let rest = start_within (suc n) (start + words_in vs homes orders n p) k at os o (omega (arith, sum)) e in
      omega (arith, rest)

  -- ---- stop words

  pub record StopWord (n start : ℕ) (os : List Operation) (i : ℕ) : Type 0 where
    pub number : ℕ
    pub operation : Operation
    pub is_operation : slice_get os number ≡ Some operation
    pub place : ℕ
    pub row : StopRow
    pub is_stop : slice_get (ops_of operation.code) place ≡ Some (op.Rest row)
    pub at : ℕ
    pub is_at : at ≡ n + number
    pub sum : start + i ≡ place_in at operation (start_of n start os number) place

  pub stop_word_found :
      (n start : ℕ) (os : List Operation) (i : ℕ) →
      ((k at : ℕ) (o : Operation) → at ≡ n + k → slice_get os k ≡ Some o → AreDifferent (order_of vs homes orders at)) →
      slice_get (program_words vs homes orders n start os) i ≡ Some M.stop_word → StopWord n start os i
  stop_word_found n start [] i apart e = absurd cc
  stop_word_found n start (o ∷ os) i apart e =
      let ws = words_of_one n start o in
      let rest = program_words vs homes orders (suc n) (start + words_in vs homes orders n o) os in
      ⊎_elim
      (λ (h : slice_get ws i ≡ Some M.stop_word).
      let order = order_of vs homes orders n in
      let s = stop_found M (vocabulary_of vs homes orders n o) (speaks_of n o) (home_of homes n o) (ops_of o.code) order start start order
      i (apart 0 n o (omega arith) refl) h in
      let there = s.3 in
      record {
        number = 0;
        operation = o;
        is_operation = refl;
        place = s.0;
        row = s.1;
        is_stop = s.2;
        at = n;
        is_at = omega arith;
        sum = omega (arith, there);
      })
      (λ (h : (k : ℕ) × (i ≡ length ws + k) × (slice_get rest k ≡ Some M.stop_word)).
      let s = stop_word_found (suc n) (start + words_in vs homes orders n o) os h.0
      (λ k at x sum there. apart (suc k) at x (omega (arith, sum)) there) h.2 in
      let first = one_long n start o in
      let here = h.1 in
      let there = s.sum in
      let number = s.is_at in
      record {
        number = suc s.number;
        operation = s.operation;
        is_operation = s.is_operation;
        place = s.place;
        row = s.row;
        is_stop = s.is_stop;
        at = s.at;
        is_at = omega (arith, number);
        sum = omega (arith, first, here, there);
      })
      (get_append ws rest i M.stop_word e)
