-- Items that make a truth, or go by one, and their code.
use Rattle.std.proofs.Common.{◌≡◌, ℕ, suc, ◌+◌, Bool, true, false, not, List, [], ◌∷◌, ◌++◌, length, Option, Some, None}
use Rattle.std.proofs.Common.{option_map, refl, sym, ap, ◌∙◌, subst, arith}
use Rattle.ec_base.proofs.Stacks.{top_of-push, below_of-push}
use Rattle.ec_code.specs.Activations.{Arrived}
use Rattle.ec_code.specs.Steps as code_steps
use Rattle.ec_code.specs.Steps.{Machine, act, as_wanted, operand_at, passes, tested, truth_in}
use Rattle.ec_code.specs.declared.code.Op.TheVariants as op
use Rattle.ec_code.specs.declared.code.Operand.{Operand}
use Rattle.ec_code.specs.declared.code.Test.{Test}
use Rattle.ec_code.specs.declared.code.Test.TheVariants as test
use Rattle.ec_code.specs.declared.code.Variable.{Variable}
use Rattle.ec_code.specs.declared.code.Variable.TheVariants as variable
use Rattle.ec_core.specs.declared.Arm.{Arm}
use Rattle.ec_core.specs.declared.Block.{Block}
use Rattle.ec_core.specs.declared.Expression.{Expression}
use Rattle.ec_meaning.specs.Meaning.{Reached, behind_loop}
use Rattle.ec_meaning.specs.Programs.{line}
use Rattle.ec_meaning.specs.Steps.{Step, Goes, Rests, Breaks, NoCase, block_items, by_truth, gives_if, holding, invert, last, pushed}
use Rattle.ec_meaning.specs.Steps.{step, with_last}
use Rattle.ec_meaning.specs.declared.item.Item.{Item}
use Rattle.ec_meaning.specs.declared.item.Item.TheVariants as i
use Rattle.ec_meaning.specs.declared.state.State.{State}
use Rattle.ec_emission.proofs.Meeting.{Fits, IsAt, Matched, Meets, Routine, at_place, by_op, done, gives_on, is_last, itself, left, next}
use Rattle.ec_emission.proofs.Meeting.{settled}
use Rattle.ec_emission.proofs.Meeting.{silent, stops, stuck, top, top_two, under, walked}
use Rattle.ec_emission.specs.Leaves.{temporary}
use Rattle.ec_emission.specs.Rows.{fail_row}
use Rattle.ec_emission.specs.Stands.{Asks, Decides, Hold, Kept, decided, read}
use Rattle.ec_emission.specs.Stands as at
use Rattle.ec_world.specs.declared.common.Common.{Common}
use Rattle.ec_world.specs.declared.process.Cause.TheVariants as cause
use Rattle.ec_world.specs.declared.stop.Stop.TheVariants as stop
use Rattle.ec_world.specs.declared.value.Value.{Value}
use Rattle.ec_world.specs.declared.value.Value.TheVariants as value

-- ---- truths

turned : (wanted : Bool) (o : Option Bool) → as_wanted (not wanted) o ≡ option_map not (as_wanted wanted o)
turned true None = refl
turned false None = refl
turned true (Some true) = refl
turned true (Some false) = refl
turned false (Some true) = refl
turned false (Some false) = refl

decided_gives : (below : State) (o : Option Bool) → decided below o ≡ gives_if below (option_map value.Bool o)
decided_gives below None = refl
decided_gives below (Some b) = refl

decides_gives : (m : Machine) (to : Variable) (o : Option Bool) →
    code_steps.decides m to o ≡ code_steps.gives m to (option_map value.Bool o)
decides_gives m to None = refl
decides_gives m to (Some b) = refl

inverted : (below : State) (v : Value) → invert below v ≡ decided below (as_wanted false (truth_in (Some v)))
inverted below (value.Bool true) = refl
inverted below (value.Bool false) = refl
inverted below (value.Int z) = refl
inverted below (value.Str t) = refl
inverted below (value.Ref o) = refl
inverted below value.Nil = refl

of_truth : (below : State) (to : Bool → State → Step) (b : Bool) → by_truth (value.Bool b) (to true below) (to false below) ≡ to b below
of_truth below to true = refl
of_truth below to false = refl

module _ (r : Routine) (own : ℕ) where
  abbrev pub DecidesIn : List Hold → Item → List Hold → Test → Bool → Type 0
  DecidesIn ks x hs asks wanted = Decides r.source r.number r.captured r.count r.literals r.code r.Loop ks x hs asks wanted

  abbrev pub AsksIn : List Hold → List Item → List Hold → Test → Bool → Type 0
  AsksIn ks before hs asks wanted = Asks r.source r.number r.captured r.count r.literals r.code r.Loop ks before hs asks wanted

  -- ---- an item that makes a truth

  pub record Made (x : Item) (hs : List Hold) (asks : Test) (wanted : Bool) (st : State) (m : Machine) : Type 0 where
    pub below : State
    pub is : step r.source (itself r own) st x ≡ decided below (as_wanted wanted (tested m asks))
    pub fits : Fits r own hs below m

  made : {ks hs : List Hold} {x : Item} {asks : Test} {wanted : Bool} → DecidesIn ks x hs asks wanted → (st : State) (m : Machine) →
      Fits r own ks st m → Made x hs asks wanted st m
  made (at.by_inverse x g) st m f =
      let t = top r own st m f in
      record {
        below = under st;
        is = t.is invert ∙ inverted (under st) t.value ∙ ap (λ o. decided (under st) (as_wanted false (truth_in o))) (sym (t.here x g));
        fits = t.fits;
      }
  made (at.by_comparison go e x y g h asks wanted c) st m f =
      let t = top_two r own st m f in
      record {
        below = under (under st);
        is = e own st ∙ t.is go ∙ c m (under (under st)) t.first t.second (t.here x g) (t.here_too y h);
        fits = t.fits;
      }

  pub decides : (ks hs : List Hold) (q : ℕ) (x : Item) (xs : List Item) (asks : Test) (wanted : Bool) → DecidesIn ks x hs asks wanted →
      IsAt r q (op.Decide (variable.Temporary (length hs)) asks wanted) → Meets r own (Kept ∷ hs) (suc q) xs → Meets r own ks q (x ∷ xs)
  decides ks hs q x xs asks wanted d is k st m f =
      let t = made d st m f in
      let o : Option Bool = as_wanted wanted (tested m asks) in
      gives_on r own x xs q (op.Decide (variable.Temporary (length hs)) asks wanted) ks hs st t.below m (option_map value.Bool o)
      (t.is ∙ decided_gives t.below o) is (decides_gives m (variable.Temporary (length hs)) o) f t.fits k

  -- ---- an item that goes by a truth

  -- Two ways to go on by the truth in a value; the code is where it is come to for each outcome of a test.
  module _ (m : Machine) (arrives : Option Bool → Common × Option Arrived) (none : arrives None ≡ (m.common, None)) where
    no_truth : (ks : List Hold) (st : State) (y : Item) (xs : List Item) → Fits r own ks st m → step r.source (itself r own) st y ≡ NoCase →
        Matched r own (settled r own st (y ∷ xs)) (arrives None)
    no_truth ks st y xs f e =
        subst (Matched r own (settled r own st (y ∷ xs))) (sym none)
        (silent r own st y xs (m.common, None) NoCase e (stuck r own st m ks f))

    by_value : (ks : List Hold) (st : State) (y : Item) (xs : List Item) (to : Bool → Step) (v : Value) → Fits r own ks st m →
        step r.source (itself r own) st y ≡ by_truth v (to true) (to false) →
        ((t : Bool) → Matched r own (left r own st xs (to t)) (arrives (Some t))) →
        Matched r own (settled r own st (y ∷ xs)) (arrives (as_wanted true (truth_in (Some v))))
    by_value ks st y xs to (value.Bool true) f e k = silent r own st y xs (arrives (Some true)) (to true) e (k true)
    by_value ks st y xs to (value.Bool false) f e k = silent r own st y xs (arrives (Some false)) (to false) e (k false)
    by_value ks st y xs to (value.Int z) f e k = no_truth ks st y xs f e
    by_value ks st y xs to (value.Str t) f e k = no_truth ks st y xs f e
    by_value ks st y xs to (value.Ref o) f e k = no_truth ks st y xs f e
    by_value ks st y xs to value.Nil f e k = no_truth ks st y xs f e

    -- a truth that is held
    by_held : {h : Hold} (hs : List Hold) (st : State) (y : Item) (xs : List Item) (to : Bool → State → Step) (x : Operand) →
        Fits r own (h ∷ hs) st m → read (length hs) h ≡ Some x →
        step r.source (itself r own) st y ≡ last st (λ below v. by_truth v (to true below) (to false below)) →
        ((t : Bool) → Matched r own (left r own st xs (to t (under st))) (arrives (Some t))) →
        Matched r own (settled r own st (y ∷ xs)) (arrives (as_wanted true (tested m (test.Holds x))))
    by_held {h = h} hs st y xs to x f g e k =
        let t = top r own st m f in
        subst (λ o. Matched r own (settled r own st (y ∷ xs)) (arrives (as_wanted true (truth_in o)))) (sym (t.here x g))
        (by_value (h ∷ hs) st y xs (λ b. to b (under st)) t.value f (e ∙ t.is (λ below v. by_truth v (to true below) (to false below))) k)

    -- a truth that was just made
    by_made : (ks : List Hold) (st below : State) (y : Item) (xs : List Item) (to : Bool → State → Step) (o : Option Bool) →
        Fits r own ks st m →
        ((now : State) → step r.source (itself r own) now y ≡ last now (λ below v. by_truth v (to true below) (to false below))) →
        ((now : State) (t : Bool) → Matched r own (left r own now xs (to t below)) (arrives (Some t))) →
        Matched r own (left r own st (y ∷ xs) (decided below o)) (arrives o)
    by_made ks st below y xs to None f e k = subst (Matched r own (st.common, None)) (sym none) (stuck r own st m ks f)
    by_made ks st below y xs to (Some b) f e k =
        let now : State = pushed below (value.Bool b) in
        let go : State → Value → Step = λ z v. by_truth v (to true z) (to false z) in
        silent r own now y xs (arrives (Some b)) (to b below)
        (e now ∙ ap (with_last now go) (top_of-push below.held (value.Bool b))
        ∙ ap (λ l. go (holding now l) (value.Bool b)) (below_of-push below.held (value.Bool b)) ∙ of_truth below to b)
        (k now b)

    asked : {ks hs : List Hold} {before : List Item} {asks : Test} {wanted : Bool} → AsksIn ks before hs asks wanted → (y : Item)
        (xs : List Item) (to : Bool → State → Step) →
        ((now : State) → step r.source (itself r own) now y ≡ last now (λ below v. by_truth v (to true below) (to false below))) →
        ((now below : State) (t : Bool) → Fits r own hs below m → Matched r own (left r own now xs (to t below)) (arrives (Some t))) →
        (st : State) → Fits r own ks st m →
        Matched r own (settled r own st (before ++ y ∷ xs)) (arrives (as_wanted wanted (tested m asks)))
    asked (at.a_value {hs = hs} x g) y xs to e k st f =
        by_held hs st y xs to x f g (e st) (λ t. k st (under st) t (top r own st m f).fits)
    asked {ks = ks} {asks = asks} {wanted = wanted} (at.an_item {x = x} d) y xs to e k st f =
        let t = made d st m f in
        let o : Option Bool = as_wanted wanted (tested m asks) in
        silent r own st x (y ∷ xs) (arrives o) (decided t.below o) t.is
        (by_made ks st t.below y xs to o f e (λ now b. k now t.below b t.fits))

  -- ---- where the code leads

  -- by what a test comes out as, or by its contrary
  abbrev straight : ℕ → ℕ → Machine → Option Bool → Common × Option Arrived
  straight q over m o = done r own q m (passes m over o)

  abbrev crosswise : ℕ → ℕ → Machine → Option Bool → Common × Option Arrived
  crosswise q over m o = done r own q m (passes m over (option_map not o))

  by_contrary : (x : Common × Option Reached) (q over : ℕ) (m : Machine) (asks : Test) (wanted : Bool) →
      IsAt r q (op.Branch asks (not wanted) over) → Matched r own x (crosswise q over m (as_wanted wanted (tested m asks))) →
      Matched r own x (walked r own q m)
  by_contrary x q over m asks wanted is b =
      by_op r own x q m (op.Branch asks (not wanted) over) (passes m over (option_map not (as_wanted wanted (tested m asks)))) is
      (ap (passes m over) (turned wanted (tested m asks))) b

  by_test : (x : Common × Option Reached) (q over : ℕ) (m : Machine) (asks : Test) (wanted : Bool) →
      IsAt r q (op.Branch asks wanted over) → Matched r own x (straight q over m (as_wanted wanted (tested m asks))) →
      Matched r own x (walked r own q m)
  by_test x q over m asks wanted is b =
      by_op r own x q m (op.Branch asks wanted over) (passes m over (as_wanted wanted (tested m asks))) is refl b

  -- ---- conditions

  abbrev to_branch : Block → List Arm → Option Block → Bool → State → Step
  to_branch b arms other true below = Goes below (block_items b)
  to_branch b arms other false below = Goes below (i.Choose arms other ∷ [])

  abbrev to_exit : Bool → State → Step
  to_exit true below = Breaks below
  to_exit false below = Goes below []

  abbrev to_require : ℕ → Bool → State → Step
  to_require pl true below = Goes below []
  to_require pl false below = Rests (stop.Fail cause.FalseAssertion (line r.source pl)) [] below []

  branch_ways : (hs : List Hold) (b : Block) (arms : List Arm) (other : Option Block) (xs : List Item) (q over : ℕ) (m : Machine) →
      Meets r own hs (suc q) (block_items b ++ xs) → Meets r own hs (suc (q + over)) (i.Choose arms other ∷ xs) → (now below : State)
      (t : Bool) → Fits r own hs below m →
      Matched r own (left r own now xs (to_branch b arms other t below)) (crosswise q over m (Some t))
  branch_ways hs b arms other xs q over m k n now below true f = next r own (settled r own below (block_items b ++ xs)) q m (k below m f)
  branch_ways hs b arms other xs q over m k n now below false f = n below m f

  pub branches : {ks hs : List Hold} {before : List Item} {asks : Test} {wanted : Bool} (b : Block) (arms : List Arm)
      (other : Option Block) (xs : List Item) (q over : ℕ) → AsksIn ks before hs asks wanted →
      IsAt r q (op.Branch asks (not wanted) over) → Meets r own hs (suc q) (block_items b ++ xs) →
      Meets r own hs (suc (q + over)) (i.Choose arms other ∷ xs) → Meets r own ks q (before ++ i.Branch b arms other ∷ xs)
  branches {hs = hs} {before = before} {asks = asks} {wanted = wanted} b arms other xs q over d is k n st m f =
      by_contrary (settled r own st (before ++ i.Branch b arms other ∷ xs)) q over m asks wanted is
      (asked m (crosswise q over m) refl d (i.Branch b arms other) xs (to_branch b arms other) (λ now. refl)
      (branch_ways hs b arms other xs q over m k n) st f)

  exit_ways : (hs : List Hold) (xs : List Item) (q over : ℕ) (m : Machine) → Meets r own hs (suc (q + over)) (behind_loop xs) →
      Meets r own hs (suc q) xs → (now below : State) (t : Bool) → Fits r own hs below m →
      Matched r own (left r own now xs (to_exit t below)) (straight q over m (Some t))
  exit_ways hs xs q over m k n now below true f = k below m f
  exit_ways hs xs q over m k n now below false f = next r own (settled r own below xs) q m (n below m f)

  pub exits : {ks hs : List Hold} {before : List Item} {asks : Test} {wanted : Bool} (xs : List Item) (q over : ℕ) →
      AsksIn ks before hs asks wanted → IsAt r q (op.Branch asks wanted over) → Meets r own hs (suc (q + over)) (behind_loop xs) →
      Meets r own hs (suc q) xs → Meets r own ks q (before ++ i.ExitIf ∷ xs)
  exits {hs = hs} {before = before} {asks = asks} {wanted = wanted} xs q over d is k n st m f =
      by_test (settled r own st (before ++ i.ExitIf ∷ xs)) q over m asks wanted is
      (asked m (straight q over m) refl d i.ExitIf xs to_exit (λ now. refl) (exit_ways hs xs q over m k n) st f)

  require_ways : (hs : List Hold) (pl : ℕ) (xs : List Item) (q : ℕ) (m : Machine) →
      IsAt r (suc q) (op.Rest (fail_row cause.FalseAssertion (line r.source pl))) → Meets r own hs (suc (suc q)) xs →
      (now below : State) (t : Bool) → Fits r own hs below m →
      Matched r own (left r own now xs (to_require pl t below)) (straight q 1 m (Some t))
  require_ways hs pl xs q m fails k now below true f =
      at_place r own (settled r own below xs) (suc (suc q)) (suc (q + 1)) m (omega arith) (k below m f)
  require_ways hs pl xs q m fails k now below false f =
      next r own _ q m
      (stops r own hs (suc q) (fail_row cause.FalseAssertion (line r.source pl)) [] xs None below m fails refl refl (λ invokes. refl) f (is_last tt))

  pub requires : {ks hs : List Hold} {before : List Item} {asks : Test} {wanted : Bool} (pl : ℕ) (xs : List Item) (q : ℕ) →
      AsksIn ks before hs asks wanted → IsAt r q (op.Branch asks wanted 1) →
      IsAt r (suc q) (op.Rest (fail_row cause.FalseAssertion (line r.source pl))) → Meets r own hs (suc (suc q)) xs →
      Meets r own ks q (before ++ i.Require pl ∷ xs)
  requires {hs = hs} {before = before} {asks = asks} {wanted = wanted} pl xs q d is fails k st m f =
      by_test (settled r own st (before ++ i.Require pl ∷ xs)) q 1 m asks wanted is
      (asked m (straight q 1 m) refl d (i.Require pl) xs (to_require pl) (λ now. refl) (require_ways hs pl xs q m fails k) st f)

  -- ---- the right side of `and` and `or`

  abbrev to_and : State → Expression → Bool → State → Step
  to_and st x true below = Goes below (i.Evaluate x ∷ [])
  to_and st x false below = Goes st []

  abbrev to_or : State → Expression → Bool → State → Step
  to_or st x true below = Goes st []
  to_or st x false below = Goes below (i.Evaluate x ∷ [])

  and_ways : (hs : List Hold) (x : Expression) (xs : List Item) (q over : ℕ) → Meets r own hs (suc q) (i.Evaluate x ∷ xs) →
      Meets r own (Kept ∷ hs) (suc (q + over)) xs → (st : State) (m : Machine) → Fits r own (Kept ∷ hs) st m → (t : Bool) →
      Matched r own (left r own st xs (to_and st x t (under st))) (crosswise q over m (Some t))
  and_ways hs x xs q over k n st m f true =
      next r own (settled r own (under st) (i.Evaluate x ∷ xs)) q m (k (under st) m (top r own st m f).fits)
  and_ways hs x xs q over k n st m f false = n st m f

  pub and_thens : (hs : List Hold) (q : ℕ) (x : Expression) (xs : List Item) (over : ℕ) →
      IsAt r q (op.Branch (test.Holds (temporary (length hs))) false over) → Meets r own hs (suc q) (i.Evaluate x ∷ xs) →
      Meets r own (Kept ∷ hs) (suc (q + over)) xs → Meets r own (Kept ∷ hs) q (i.AndThen x ∷ xs)
  and_thens hs q x xs over is k n st m f =
      by_contrary (settled r own st (i.AndThen x ∷ xs)) q over m (test.Holds (temporary (length hs))) true is
      (by_held m (crosswise q over m) refl hs st (i.AndThen x) xs (to_and st x) (temporary (length hs)) f refl refl
      (and_ways hs x xs q over k n st m f))

  or_ways : (hs : List Hold) (x : Expression) (xs : List Item) (q over : ℕ) → Meets r own hs (suc q) (i.Evaluate x ∷ xs) →
      Meets r own (Kept ∷ hs) (suc (q + over)) xs → (st : State) (m : Machine) → Fits r own (Kept ∷ hs) st m → (t : Bool) →
      Matched r own (left r own st xs (to_or st x t (under st))) (straight q over m (Some t))
  or_ways hs x xs q over k n st m f true = n st m f
  or_ways hs x xs q over k n st m f false =
      next r own (settled r own (under st) (i.Evaluate x ∷ xs)) q m (k (under st) m (top r own st m f).fits)

  pub or_elses : (hs : List Hold) (q : ℕ) (x : Expression) (xs : List Item) (over : ℕ) →
      IsAt r q (op.Branch (test.Holds (temporary (length hs))) true over) → Meets r own hs (suc q) (i.Evaluate x ∷ xs) →
      Meets r own (Kept ∷ hs) (suc (q + over)) xs → Meets r own (Kept ∷ hs) q (i.OrElse x ∷ xs)
  or_elses hs q x xs over is k n st m f =
      by_test (settled r own st (i.OrElse x ∷ xs)) q over m (test.Holds (temporary (length hs))) true is
      (by_held m (straight q over m) refl hs st (i.OrElse x) xs (to_or st x) (temporary (length hs)) f refl refl
      (or_ways hs x xs q over k n st m f))
