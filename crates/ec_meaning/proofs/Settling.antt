-- Silent steps up to the next stop: how many there may be at most doesn't count, as long as they are enough.
use Rattle.std.proofs.Common.{◌≡◌, ℕ, zero, suc, ◌+◌, ◌≤◌, ◌<◌, List, [], ◌∷◌, ◌++◌, Option, Some, None, refl, sym, ap, ◌∙◌, subst, arith}
use Rattle.ec_meaning.specs.Meaning.{Reached, behind_loop, reached, settle, settle_by}
use Rattle.ec_meaning.specs.Programs.{Source}
use Rattle.ec_meaning.specs.Running.{After, On, Resting, Stuck, after, came}
use Rattle.ec_meaning.specs.Steps.{Step, Goes, Rests, Breaks, Returns, NoCase, step}
use Rattle.ec_meaning.specs.Weights.{item_weight, weight}
use Rattle.ec_meaning.specs.declared.item.Item.{Item}
use Rattle.ec_meaning.specs.declared.item.Item.TheVariants as i
use Rattle.ec_meaning.specs.declared.state.Outcome.{Outcome}
use Rattle.ec_meaning.specs.declared.state.Outcome.TheVariants as outcome
use Rattle.ec_meaning.specs.declared.state.State.{State}
use Rattle.ec_meaning.specs.declared.state.Whose.{Whose}
use Rattle.ec_meaning.proofs.Lighter.{Lighter, lighter}
use Rattle.ec_meaning.proofs.Weighing.{weight_append}
use Rattle.ec_world.specs.declared.common.Common.{Common}
use Rattle.ec_world.specs.declared.stop.Stop.{Stop}
use Rattle.ec_world.specs.declared.value.Value.{Value}

-- what is behind a loop is no heavier than all
pub behind_lighter : (items : List Item) → weight (behind_loop items) ≤ weight items
behind_lighter [] = omega arith
behind_lighter (i.Do y ∷ rest) = let h = behind_lighter rest in omega arith
behind_lighter (i.Evaluate y ∷ rest) = let h = behind_lighter rest in omega arith
behind_lighter (i.Follow l ∷ rest) = let h = behind_lighter rest in omega arith
behind_lighter (i.Multiply f ∷ rest) = let h = behind_lighter rest in omega arith
behind_lighter (i.Add d ∷ rest) = let h = behind_lighter rest in omega arith
behind_lighter (i.AndThen y ∷ rest) = let h = behind_lighter rest in omega arith
behind_lighter (i.OrElse y ∷ rest) = let h = behind_lighter rest in omega arith
behind_lighter (i.Choose arms other ∷ rest) = let h = behind_lighter rest in omega arith
behind_lighter (i.Again b ∷ rest) = omega arith
behind_lighter (i.Rest action takes ∷ rest) = let h = behind_lighter rest in omega arith
behind_lighter (i.Calculate op at ∷ rest) = let h = behind_lighter rest in omega arith
behind_lighter (i.Join op at ∷ rest) = let h = behind_lighter rest in omega arith
behind_lighter (i.Negate ∷ rest) = let h = behind_lighter rest in omega arith
behind_lighter (i.Invert ∷ rest) = let h = behind_lighter rest in omega arith
behind_lighter (i.Compare op ∷ rest) = let h = behind_lighter rest in omega arith
behind_lighter (i.Branch b arms other ∷ rest) = let h = behind_lighter rest in omega arith
behind_lighter (i.ExitIf ∷ rest) = let h = behind_lighter rest in omega arith
behind_lighter (i.Store p ∷ rest) = let h = behind_lighter rest in omega arith
behind_lighter (i.Discard ∷ rest) = let h = behind_lighter rest in omega arith
behind_lighter (i.Require at ∷ rest) = let h = behind_lighter rest in omega arith
behind_lighter (i.Leave ∷ rest) = let h = behind_lighter rest in omega arith

some_weight : (n : ℕ) (z : Step) → Lighter n z → 0 < n
some_weight n (Goes new more) l = omega arith
some_weight n (Rests action operands new more) l = l
some_weight n (Breaks new) l = l
some_weight n (Returns new) l = omega arith
some_weight n NoCase l = l

module _ (s : Source) (a : Whose) where
  same_by : (n m w : ℕ) (st : State) (rest : List Item) (z : Step) → Lighter w z → w + weight rest ≤ suc n → w + weight rest ≤ suc m →
      ((new : State) (items : List Item) → weight items ≤ n → weight items ≤ m → settle s a n new items ≡ settle s a m new items) →
      settle_by s a (settle s a n) st rest z ≡ settle_by s a (settle s a m) st rest z
  same_by n m w st rest (Goes new more) l p q so = let e = weight_append more rest in so new (more ++ rest) (omega arith) (omega arith)
  same_by n m w st rest (Rests action operands new more) l p q so = refl
  same_by n m w st rest (Breaks new) l p q so = let h = behind_lighter rest in so new (behind_loop rest) (omega arith) (omega arith)
  same_by n m w st rest (Returns new) l p q so = so new (i.Leave ∷ []) (omega arith) (omega arith)
  same_by n m w st rest NoCase l p q so = refl

  same_fuel : (n m : ℕ) (st : State) (items : List Item) → weight items ≤ n → weight items ≤ m →
      settle s a n st items ≡ settle s a m st items
  same_fuel zero zero st items p q = refl
  same_fuel zero (suc m) st [] p q = refl
  same_fuel zero (suc m) st (x ∷ rest) p q = let h = some_weight (item_weight x) (step s a st x) (lighter s a st x) in absurd (omega arith)
  same_fuel (suc n) zero st [] p q = refl
  same_fuel (suc n) zero st (x ∷ rest) p q = let h = some_weight (item_weight x) (step s a st x) (lighter s a st x) in absurd (omega arith)
  same_fuel (suc n) (suc m) st [] p q = refl
  same_fuel (suc n) (suc m) st (x ∷ rest) p q =
      same_by n m (item_weight x) st rest (step s a st x) (lighter s a st x) p q (same_fuel n m)

  -- what comes of what a step leaves
  abbrev pub from_after : After → Common × Option Reached
  from_after (On new items) = settle s a (weight items) new items
  from_after (Resting action operands new items) = (new.common, Some (reached action operands new items))
  from_after (Stuck c) = (c, None)

  from_step : (n w : ℕ) (st : State) (rest : List Item) (z : Step) → Lighter w z → w + weight rest ≤ suc n →
      settle_by s a (settle s a n) st rest z ≡ from_after (after st rest z)
  from_step n w st rest (Goes new more) l p =
      let e = weight_append more rest in same_fuel n (weight (more ++ rest)) new (more ++ rest) (omega arith) (omega arith)
  from_step n w st rest (Rests action operands new more) l p = refl
  from_step n w st rest (Breaks new) l p =
      let h = behind_lighter rest in same_fuel n (weight (behind_loop rest)) new (behind_loop rest) (omega arith) (omega arith)
  from_step n w st rest (Returns new) l p = same_fuel n (weight (i.Leave ∷ [])) new (i.Leave ∷ []) (omega arith) (omega arith)
  from_step n w st rest NoCase l p = refl

  by_fuel : (n : ℕ) (st : State) (x : Item) (rest : List Item) → weight (x ∷ rest) ≡ n →
      settle s a n st (x ∷ rest) ≡ from_after (after st rest (step s a st x))
  by_fuel zero st x rest e = let h = some_weight (item_weight x) (step s a st x) (lighter s a st x) in absurd (omega arith)
  by_fuel (suc n) st x rest e = from_step n (item_weight x) st rest (step s a st x) (lighter s a st x) (omega arith)

  -- a step leads where its item leads
  pub one_step : (st : State) (x : Item) (rest : List Item) →
      settle s a (weight (x ∷ rest)) st (x ∷ rest) ≡ from_after (after st rest (step s a st x))
  one_step st x rest = by_fuel (weight (x ∷ rest)) st x rest refl

  -- ---- it ends

  abbrev pub IsBelow : ℕ → After → Type 0
  IsBelow n (On new items) = weight items < n
  IsBelow n (Resting action operands new items) = Unit {0}
  IsBelow n (Stuck c) = Unit {0}

  below_by : (w : ℕ) (st : State) (rest : List Item) (z : Step) → Lighter w z → IsBelow (w + weight rest) (after st rest z)
  below_by w st rest (Goes new more) l = let e = weight_append more rest in omega arith
  below_by w st rest (Rests action operands new more) l = tt
  below_by w st rest (Breaks new) l = let h = behind_lighter rest in omega arith
  below_by w st rest (Returns new) l = omega arith
  below_by w st rest NoCase l = tt

  -- each step makes what is to be done lighter
  pub step_below : (st new : State) (x : Item) (rest items : List Item) → On new items ≡ after st rest (step s a st x) →
      weight items < weight (x ∷ rest)
  step_below st new x rest items e =
      subst (IsBelow (weight (x ∷ rest))) (sym e) (below_by (item_weight x) st rest (step s a st x) (lighter s a st x))

  -- ---- what the code answers of a step

  came_from : (st new : State) (x : Item) (todo rest items : List Item) (o : Outcome) → todo ≡ x ∷ rest →
      came o new items ≡ after st rest (step s a st x) →
      from_after (came o new items) ≡ settle s a (weight todo) st todo
  came_from st new x todo rest items o t e =
      ap from_after e ∙ sym (one_step st x rest) ∙ ap (λ l. settle s a (weight l) st l) (sym t)

  -- it goes on
  pub goes : (st new : State) (x : Item) (todo rest items : List Item) (o : Outcome) (all : Common × Option Reached) → todo ≡ x ∷ rest →
      came o new items ≡ after st rest (step s a st x) → o ≡ outcome.Goes → settle s a (weight todo) st todo ≡ all →
      settle s a (weight items) new items ≡ all
  goes st new x todo rest items o all t e g so =
      sym (ap (λ p. from_after (came p new items)) g) ∙ came_from st new x todo rest items o t e ∙ so

  pub gets_lighter : (st new : State) (x : Item) (todo rest items : List Item) (o : Outcome) → todo ≡ x ∷ rest →
      came o new items ≡ after st rest (step s a st x) → o ≡ outcome.Goes → weight items < weight todo
  gets_lighter st new x todo rest items o t e g =
      let below : weight items < weight (x ∷ rest) = step_below st new x rest items (sym (ap (λ p. came p new items) g) ∙ e) in
      let same : weight todo ≡ weight (x ∷ rest) = ap weight t in
      omega arith

  -- it rests at a stop
  pub rests : (st new : State) (x : Item) (todo rest items : List Item) (o : Outcome) (all : Common × Option Reached)
      (action : Stop) (operands : List Value) →
      todo ≡ x ∷ rest → came o new items ≡ after st rest (step s a st x) → o ≡ outcome.Rests action operands →
      settle s a (weight todo) st todo ≡ all →
      (new.common, Some (reached action operands new items)) ≡ all
  rests st new x todo rest items o all action operands t e g so =
      sym (ap (λ p. from_after (came p new items)) g) ∙ came_from st new x todo rest items o t e ∙ so

  -- there is no case
  pub stuck : (st new : State) (x : Item) (todo rest items : List Item) (o : Outcome) (all : Common × Option Reached) →
      todo ≡ x ∷ rest → came o new items ≡ after st rest (step s a st x) → o ≡ outcome.NoCase → settle s a (weight todo) st todo ≡ all →
      (new.common, None) ≡ all
  stuck st new x todo rest items o all t e g so =
      sym (ap (λ p. from_after (came p new items)) g) ∙ came_from st new x todo rest items o t e ∙ so
