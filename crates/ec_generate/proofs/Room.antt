-- Each operation is within the reach of its words, and all of them within the room for code.
use Rattle.std.proofs.Common.{◌≡◌, ℕ, zero, suc, ◌+◌, ◌-◌, ◌*◌, ◌≤◌, Bool, true, false, List, [], ◌∷◌, length, length-append, Option, Some}
use Rattle.std.proofs.Common.{None, refl}
use Rattle.std.proofs.Common.{sym, ap, ◌∙◌, arith, cond, subst}
use Rattle.std.specs.Prelude.{slice_get, sum_by, ◌==◌}
use Rattle.std.proofs.lemmas.Bool.Decides.{nat_tests}
use Rattle.std.proofs.lemmas.Option.{same_Some}
use Rattle.std.proofs.lemmas.List.Sums.{sum_by-cons}
use Rattle.ec_code.specs.declared.code.Op.{Op}
use Rattle.ec_code.specs.declared.code.Op.TheVariants as op
use Rattle.ec_code.specs.declared.code.Operation.{Operation}
use Rattle.ec_code.specs.declared.code.Parts.{Parts}
use Rattle.ec_code.specs.declared.code.Variable.{Variable}
use Rattle.ec_machine_code.specs.Limits as limits
use Rattle.ec_generate.specs.Puts.{IsSized, Sized, most_jump_words, most_words, pick}
use Rattle.ec_generate.specs.declared.kind.Span.{Span}
use Rattle.ec_generate.specs.declared.kind.Span.TheVariants.{Near, Middle, Far}
use Rattle.ec_machine_code.proofs.Direct.{ops_long}
use Rattle.ec_machine_code.specs.declared.homes.Home.{Home}
use Rattle.ec_machine_code.specs.Layout.{HasOrders, HasRoom, IsOrder, Vocabularies, branch_size, chosen, ending_size, first_of, home_of}
use Rattle.ec_machine_code.specs.Layout.{is_within, on_size, op_size, ops_of, order_of, size_if, size_of, size_of_all, vocabulary_of}
use Rattle.ec_machine_code.specs.Layout.{words_in, words_of_steps}
use Rattle.ec_machine_code.specs.Lowering.{branch_by, is_there, known, opposite, question_of, source_of}
use Rattle.ec_machine_code.proofs.Different.{different_few}
use Rattle.ec_machine_code.specs.Speaks.{Vocabulary, words_end}
use Rattle.ec_machine_code.specs.declared.step.Question.{Question}
use Rattle.ec_machine_code.specs.declared.step.Source.TheVariants as source
use Rattle.ec_machine_code.specs.declared.step.Step.{Step}
use Rattle.ec_machine_code.specs.declared.step.Step.TheVariants as step

-- ---- one step of three-address code is a step on words, or a way of going on

module _ (V : Vocabulary) (sized : IsSized V) where
  one_few : (m : Step) → length (words_of_steps V (m ∷ [])) ≤ most_words
  one_few m = omega (arith, length-append (V.step_words m) [], sized.step m)

  if_few : (b : Bool) (m : Step) → length (words_of_steps V (cond b [] (m ∷ []))) ≤ most_words
  if_few true m = omega arith
  if_few false m = one_few m

  on_few : (next to : ℕ) → on_size V next to ≤ most_jump_words
  on_few next to = by (next == to)
    where
      by : (b : Bool) → cond b 0 V.jump_size ≤ most_jump_words
      by true = omega arith
      by false = sized.jump

  asked_few : (next p over : ℕ) (q : Question) → branch_size V next p q over ≤ most_words + most_jump_words
  asked_few next p over q = by (next == suc (p + over))
    where
      by : (b : Bool) → cond b (V.ask_size (opposite q)) (V.ask_size q + on_size V next (suc p)) ≤ most_words + most_jump_words
      by true = omega (arith, sized.ask (opposite q))
      by false = omega (arith, sized.ask q, on_few next (suc p))

  branch_few :
      (k : Option Bool) (q : Question) (next p over : ℕ) → ending_size V next p (branch_by k q over) ≤ most_words + most_jump_words
  branch_few None q next p over = asked_few next p over q
  branch_few (Some true) q next p over = omega (arith, on_few next (suc (p + over)))
  branch_few (Some false) q next p over = omega (arith, on_few next (suc p))

  module _ (home : Variable → Home) where
    pub op_few : (next p : ℕ) (o : Op) → op_size V home next p o ≤ most_words + most_jump_words
    op_few next p (op.Copy to from) =
        let few = if_few (is_there (home to) (source_of home from)) (step.Move (home to) (source_of home from)) in
        omega (arith, few, on_few next (suc p))
    op_few next p (op.Literal to index) =
        let few = one_few (step.Move (home to) (source.Word index)) in omega (arith, few, on_few next (suc p))
    op_few next p (op.Itself to) = let few = one_few (step.Itself (home to)) in omega (arith, few, on_few next (suc p))
    op_few next p (op.Field to field) = let few = one_few (step.Field (home to) field) in omega (arith, few, on_few next (suc p))
    op_few next p (op.SetField field from) =
        let few = one_few (step.SetField field (source_of home from)) in omega (arith, few, on_few next (suc p))
    op_few next p (op.Constant to index) = let few = one_few (step.Constant (home to) index) in omega (arith, few, on_few next (suc p))
    op_few next p (op.Compute how to left right) =
        let few = one_few (step.Work how (home to) (source_of home left) (source_of home right)) in omega (arith, few, on_few next (suc p))
    op_few next p (op.Decide to t wanted) =
        let few = one_few (step.Decide (home to) (question_of home t wanted)) in omega (arith, few, on_few next (suc p))
    op_few next p (op.Branch t wanted over) =
        let q = question_of home t wanted in
        let few = branch_few (known q) q next p over in omega (arith, few)
    op_few next p (op.Jump over) = omega (arith, on_few next (suc (p + over)))
    op_few next p (op.Again back) = omega (arith, on_few next (p - back))
    op_few next p (op.Rest row) = omega (arith, on_few next (suc p))

    if_small : (ops : List Op) (next p : ℕ) (o : Option Op) → size_if V home ops next p o ≤ most_words + most_jump_words
    if_small ops next p None = omega arith
    if_small ops next p (Some o) = op_few next p o

    spots_few : (ops : List Op) (order : List ℕ) → size_of V home ops order ≤ (most_words + most_jump_words) * length order
    spots_few ops [] = omega arith
    spots_few ops (q ∷ qs) = omega (arith, if_small ops (first_of (length ops) qs) q (slice_get ops q), spots_few ops qs)

    pub size_few :
        (ops : List Op) (order : List ℕ) → IsOrder (length ops) order →
        size_of V home ops order ≤ (most_words + most_jump_words) * length ops
    size_few ops order ordered =
        let few = different_few (length ops) 0 order ordered.different (λ i h. (omega arith, omega (arith, ordered.within i h))) in
        omega (arith, few, spots_few ops order)

-- ---- the words that an operation gets

module _ (vs : Vocabularies) (sized : Sized vs) where
  pick_sized : (a b : Bool) → IsSized (cond a vs.near (cond b vs.middle vs.far))
  pick_sized true b = sized.near
  pick_sized false true = sized.middle
  pick_sized false false = sized.far

  pub picked_sized : (span : Span) → IsSized (pick vs span)
  picked_sized Near = sized.near
  picked_sized Middle = sized.middle
  picked_sized Far = sized.far

  pub chosen_sized : (home : Variable → Home) (os : List Op) (order : List ℕ) → IsSized (chosen vs home os order)
  chosen_sized home os order = pick_sized (is_within vs.near home os order) (is_within vs.middle home os order)

  within_is :
      (V : Vocabulary) (home : Variable → Home) (os : List Op) (order : List ℕ) → is_within V home os order ≡ true →
      size_of V home os order ≤ V.reach
  within_is V home os order e = grind (arith, nat_tests)

  pick_near :
      (home : Variable → Home) (os : List Op) (order : List ℕ) (a b : Bool) → is_within vs.near home os order ≡ a →
      is_within vs.middle home os order ≡ b → size_of (cond a vs.near (cond b vs.middle vs.far)) home os order ≤ words_end →
      size_of (cond a vs.near (cond b vs.middle vs.far)) home os order ≤ (cond a vs.near (cond b vs.middle vs.far)).reach
  pick_near home os order true b e f low = within_is vs.near home os order e
  pick_near home os order false true e f low = within_is vs.middle home os order f
  pick_near home os order false false e f low = let far = sized.reaches in omega (arith, low, far)

  pub chosen_near :
      (home : Variable → Home) (os : List Op) (order : List ℕ) → size_of (chosen vs home os order) home os order ≤ words_end →
      size_of (chosen vs home os order) home os order ≤ (chosen vs home os order).reach
  chosen_near home os order low = pick_near home os order (is_within vs.near home os order) (is_within vs.middle home os order) refl refl low

  -- ---- all operations

  module _ (homes : List (List Home)) (orders : List (List ℕ)) where
    -- each operation has an order, the first of which is operation n
    abbrev AreOrdered : ℕ → List Operation → Type 0
    AreOrdered n os =
        (k at : ℕ) (o : Operation) → at ≡ n + k → slice_get os k ≡ Some o → IsOrder (length o.code) (order_of vs homes orders at)

    later : (n : ℕ) (p : Operation) (os : List Operation) → AreOrdered n (p ∷ os) → AreOrdered (suc n) os
    later n p os ordered k at o sum e = ordered (suc k) at o (omega (arith, sum)) e

    pub in_few :
        (n : ℕ) (o : Operation) → IsOrder (length o.code) (order_of vs homes orders n) →
        words_in vs homes orders n o ≤ (most_words + most_jump_words) * limits.steps_of o
    in_few n o ordered =
        let V = vocabulary_of vs homes orders n o in
        let order = order_of vs homes orders n in
        let few = size_few V (chosen_sized (home_of homes n o) (ops_of o.code) order) (home_of homes n o) (ops_of o.code) order
        (subst (λ k. IsOrder k order) (sym (ops_long o.code)) ordered) in
        omega (arith, few, ops_long o.code)

    pub all_few :
        (n : ℕ) (os : List Operation) → AreOrdered n os →
        size_of_all vs homes orders n os ≤ (most_words + most_jump_words) * sum_by limits.steps_of os
    all_few n [] ordered = omega arith
    all_few n (o ∷ os) ordered =
        omega (
          arith,
          in_few n o (ordered 0 n o (omega arith) refl),
          all_few (suc n) os (later n o os ordered),
          sum_by-cons limits.steps_of o os,
        )

    -- the rest of the operations has no more words than all
    pub is_at_most : (k n : ℕ) (os : List Operation) (o : Operation) → slice_get os k ≡ Some o →
        words_in vs homes orders (n + k) o ≤ size_of_all vs homes orders n os
    is_at_most k n [] o e = absurd cc
    is_at_most zero n (q ∷ os) o e =
        let none : n + 0 ≡ n = omega arith in
        let same : words_in vs homes orders (n + 0) o ≡ words_in vs homes orders n q =
        ap (λ j. words_in vs homes orders j o) none ∙ sym (ap (words_in vs homes orders n) (same_Some q o e)) in
        omega (arith, same)
    is_at_most (suc k) n (q ∷ os) o e =
        let next : suc n + k ≡ n + suc k = omega arith in
        let same = ap (λ j. words_in vs homes orders j o) next in
        omega (arith, same, is_at_most k (suc n) os o e)

    -- there is room for the code of a program within the limits
    pub fits_room : (p : Parts) → limits.HasLimits p → HasOrders orders p → HasRoom vs homes orders p
    fits_room p has ordered =
        let few = all_few 0 p.operations
        (λ k at o sum e. ordered at o (ap (slice_get p.operations) (let same : at ≡ k = omega (arith, sum) in same) ∙ e)) in
        let low : size_of_all vs homes orders 0 p.operations ≤ words_end = omega (arith, few, has.steps) in
        record {
          near = λ n o e.
              let none : 0 + n ≡ n = omega arith in
              let same = ap (λ j. words_in vs homes orders j o) none in
              chosen_near (home_of homes n o) (ops_of o.code) (order_of vs homes orders n)
              (omega (arith, is_at_most n 0 p.operations o e, low, same));
          low = low;
        }
