-- The values that go with an activation: each is of a type, and of the kind of its variable.
use Rattle.std.proofs.Common.{◌≡◌, ◌≢◌, inl, inr, ⊎_elim, ◌⊎◌, ℕ, zero, suc, Bool, true, false, true≢false, List, [], ◌∷◌, ◌++◌, drop}
use Rattle.std.proofs.Common.{map, Option, Some, None, refl, sym, ap, ◌∙◌, subst}
use Rattle.std.proofs.lemmas.Option.{same_Some}
use Rattle.std.specs.List.{AllByRecursion as Each}
use Rattle.std.specs.Prelude.{if◌then◌else◌, slice_get}
use Rattle.ec_activations.proofs.Stops.{in_list, in_without}
use Rattle.ec_activations.proofs.Words.{typed_variable}
use Rattle.ec_activations.specs.Frames.{or_nil, value_in}
use Rattle.ec_node_frames.specs.Carried.{IsCarried, carried}
use Rattle.ec_asking.proofs.OfKind.{of_kind}
use Rattle.ec_asking.proofs.Operands.{all_in_range, held_in_range, operand_kinds}
use Rattle.ec_asking.proofs.Resting.{rests_at}
use Rattle.ec_asking.specs.Typed.{IsTypedOnce}
use Rattle.ec_base.proofs.Stacks.{stack_parts, top_of_none}
use Rattle.ec_base.specs.Stack.{below_of, top_of}
use Rattle.ec_code.specs.Activations.{variables_behind}
use Rattle.ec_code.specs.Fine.{GoesOn, Has, IsGiven, IsIn, live_at}
use Rattle.ec_code.specs.Typing.{Declared, kind_of}
use Rattle.ec_code.specs.declared.activation.CodeActivation.{CodeActivation}
use Rattle.ec_code.specs.declared.code.Line.{Line}
use Rattle.ec_code.specs.declared.code.Live.{Live}
use Rattle.ec_code.specs.declared.code.Operation.{Operation}
use Rattle.ec_code.specs.declared.code.Parts.{Parts}
use Rattle.ec_code.specs.declared.code.Variable.{Variable}
use Rattle.ec_code.specs.declared.code.Variable.TheVariants.{Named, Temporary}
use Rattle.ec_types.specs.declared.conform.static_type.StaticType.{StaticType}
use Rattle.ec_machine_code.specs.Stops.{without}
use Rattle.ec_packing.specs.Between.{RestsBetween, StillWaits, TopWaits}
use Rattle.ec_code.proofs.Among.{is_same_self}
use Rattle.ec_code.specs.Live.{stays}
use Rattle.ec_code.specs.Marks.{is_same, is_written}
use Rattle.ec_objects.specs.Kinds.{IsOfKind}
use Rattle.ec_code.specs.RangesValues.{AllInRange, InRange}
use Rattle.ec_code.specs.Worlds.{RangedActivation}
use Rattle.ec_activations.specs.RestingLaws.{its_entry}
use Rattle.ec_code.proofs.Carried.{each_get}
use Rattle.ec_code.specs.Sound.{Chain, LiveBehind, RestsAt, SoundDone, SoundPending, SoundProc, SoundTop}
use Rattle.ec_code.specs.Sound.{SoundTower, SoundWaiting, TopIs, Waits}
use Rattle.ec_code.specs.SoundValues.{AreHeld, HasType, IsOfType, held}
use Rattle.ec_generate.specs.Entries.{result_of, typed}
use Rattle.ec_generate.specs.declared.table.StopEntry.{StopEntry}
use Rattle.ec_world.specs.Agree.{AllTwo}
use Rattle.ec_world.specs.declared.object.ObjectRec.{ObjectRec}
use Rattle.ec_world.specs.declared.process.Proc.{Proc}
use Rattle.ec_world.specs.declared.stop.Stop.{Stop}
use Rattle.ec_world.specs.declared.stop.Stop.TheVariants as stop
use Rattle.ec_world.specs.declared.value.Value.{Value}

-- ---- values

-- a value of a type, in range
pub record IsGood (d : Declared) (objects : List ObjectRec) (v : Value) : Type 0 where
  pub type : StaticType
  pub fits : HasType d objects type v
  pub ranged : InRange v

-- code goes on behind a stop
going : (d : Declared) (p : Parts) (number : ℕ) (o : Operation) (s : Stop) (T : Type 0) → GoesOn d p number o s T → stays s ≡ true → T
going d p number o (stop.Return gives_self) T h e = absurd (true≢false (sym e))
going d p number o stop.End T h e = absurd (true≢false (sym e))
going d p number o (stop.Fail why line) T h e = absurd (true≢false (sym e))
going d p number o s T h e = h

live_at_start : (code : List Line) (q : ℕ) → live_at (drop q code) 0 ≡ live_at code q
live_at_start code zero = refl
live_at_start [] (suc q) = refl
live_at_start (l ∷ code) (suc q) = live_at_start code q

-- a variable that is not the written one takes nothing
not_given : (d : Declared) (p : Parts) (x : Variable) (given : Option StaticType) (into : Option Variable) (t : StaticType) →
    is_written into x ≡ false → IsGiven d p given into x t → ⊥
not_given d p x given None t e g = cc (g.2)
not_given d p x given (Some y) t e g =
    let same : y ≡ x = same_Some y x g.2 in
    true≢false (sym (ap (is_same x) same ∙ is_same_self x) ∙ e)

-- what takes a stop's result is the variable that waits
taker_waits : (into : Option Variable) (gives : Option StaticType) (l : Live) → result_of into gives ≡ Some l → into ≡ Some l.variable
taker_waits None None l e = absurd cc
taker_waits None (Some s) l e = absurd cc
taker_waits (Some x) None l e = absurd cc
taker_waits (Some x) (Some s) l e =
    let same : record { variable = x; of = s } ≡ l = same_Some (record { variable = x; of = s }) l e in
    ap (λ (k : Live). Some k.variable) same

-- an item of two lists end to end is one of the first or one of the second
get_either : {A : Type 0} (xs ys : List A) (i : ℕ) (x : A) → slice_get (xs ++ ys) i ≡ Some x →
    (slice_get xs i ≡ Some x) ⊎ ((j : ℕ) × (slice_get ys j ≡ Some x))
get_either [] ys i x e = inr (i, e)
get_either (y ∷ xs) ys zero x e = inl e
get_either (y ∷ xs) ys (suc i) x e = get_either xs ys i x e

module _ (d : Declared) (p : Parts) (objects : List ObjectRec) (a : CodeActivation) where
  -- ---- what is known of an activation, wherever it lies

  pub data Knows : Type 0 where
    IsPending : a.pending ≡ true → SoundPending d p objects a → Knows
    IsDone : a.pending ≡ false → SoundDone d p objects a → StillWaits p a → Knows
    IsWaiting : a.pending ≡ false → (result : Option StaticType) → SoundWaiting d p objects result a → Knows

  abbrev pub rests_of : Knows → RestsAt d p objects a
  rests_of (IsPending e h) = h.rests
  rests_of (IsDone e h waits) = h.rests
  rests_of (IsWaiting e result h) = h.rests

  abbrev pub entry_of : Knows → StopEntry
  entry_of k = its_entry d p objects a (rests_of k)

  -- it can go from its stop
  pub can_go : (k : Knows) → IsCarried p a (entry_of k)
  can_go (IsPending e h) = record {
    rests = rests_at d p objects a h.rests;
    waits = λ l done is. absurd (true≢false (sym e ∙ done));
  }
  can_go (IsDone e h waits) = waits (its_entry d p objects a h.rests) (rests_at d p objects a h.rests)
  can_go (IsWaiting e result h) = record {
    rests = rests_at d p objects a h.rests;
    waits = λ l done is. h.into ∙ taker_waits h.rests.row.into h.rests.row.gives l is;
  }

  -- ---- its values

  abbrev variables : List Value
  variables = variables_behind p a a.at

  -- what a variable holds is good, and of the kind of the variable's type
  abbrev pub HoldsGood : Live → Type 0
  HoldsGood l = IsGood d objects (value_in p a l.variable) × IsOfKind (kind_of l.of) (value_in p a l.variable)

  value_is : (x : Variable) (v : Value) → held variables a.temporaries x ≡ Some v → value_in p a x ≡ v
  value_is (Named n) v e = ap or_nil e
  value_is (Temporary n) v e = ap or_nil e

  module _ (ranged : RangedActivation a) where
    read_good : (x : Variable) (t : StaticType) → IsOfType d objects t (held variables a.temporaries x) →
        HoldsGood (record { variable = x; of = t })
    read_good x t h =
        let in_range = held_in_range p a ranged x h.value h.is in
        let good : IsGood d objects h.value = record { type = t; fits = h.fits; ranged = in_range } in
        subst (λ (v : Value). IsGood d objects v × IsOfKind (kind_of t) v) (sym (value_is x h.value h.is))
        (good, of_kind d objects t h.value h.fits in_range)

    -- what is live behind the stop, where each variable there but the one that takes the result is of its type
    lives : (r : RestsAt d p objects a) →
        ((x : Variable) (t : StaticType) → stays r.row.stop ≡ true → is_written r.row.into x ≡ false →
        Has (live_at (drop (suc a.at) r.of.code) 0) x t → IsOfType d objects t (held variables a.temporaries x)) →
        (i : ℕ) (l : Live) → slice_get (its_entry d p objects a r).live i ≡ Some l → HoldsGood l
    lives r holds i l e = by (stays r.row.stop) refl e
      where
        by : (b : Bool) → stays r.row.stop ≡ b → slice_get (if b then without r.row.into (live_at r.of.code (suc a.at)) else []) i ≡ Some l →
            HoldsGood l
        by true s f =
            let list = without r.row.into (live_at r.of.code (suc a.at)) in
            let among = in_without r.row.into (live_at r.of.code (suc a.at)) l (in_list list i l f) in
            read_good l.variable l.of (holds l.variable l.of s among.1
            (subst (λ (ls : List Live). IsIn l ls) (sym (live_at_start r.of.code (suc a.at))) among.0))
        by false s f = absurd cc

    behind_good : (r : RestsAt d p objects a) (given : Option StaticType) → a.into ≡ r.row.into → LiveBehind d p objects a r.of given →
        (x : Variable) (t : StaticType) → is_written r.row.into x ≡ false → Has (live_at (drop (suc a.at) r.of.code) 0) x t →
        IsOfType d objects t (held variables a.temporaries x)
    behind_good r given into behind x t w has = ⊎_elim
        (λ (g : IsGiven d p given a.into x t).
        absurd (not_given d p x given r.row.into t w (subst (λ (y : Option Variable). IsGiven d p given y x t) into g)))
        (λ (g : (a.into ≢ Some x) × IsOfType d objects t (held variables a.temporaries x)). g.1)
        (behind.live x t has)

    live_good : (k : Knows) → (i : ℕ) (l : Live) → slice_get (entry_of k).live i ≡ Some l → HoldsGood l
    live_good (IsPending e h) =
        lives h.rests (λ x t s w has. behind_good h.rests h.rests.row.gives h.into
        (going d p a.operation h.rests.of h.rests.row.stop (LiveBehind d p objects a h.rests.of h.rests.row.gives) h.behind s) x t w has)
    live_good (IsDone e h waits) = lives h.rests (λ x t s w has. h.live x t has)
    live_good (IsWaiting e result h) = lives h.rests (λ x t s w has. behind_good h.rests result h.into h.behind x t w has)

    operands_good : (live : List Live) (xs : List Variable) (ts : List StaticType) (vs : List Value) →
        AreHeld xs variables a.temporaries vs → AllTwo (HasType d objects) ts vs → AllInRange vs → (i : ℕ) (l : Live) →
        slice_get (map (typed live) xs) i ≡ Some l → IsGood d objects (value_in p a l.variable)
    operands_good live [] ts vs those fit r i l e = absurd cc
    operands_good live (x ∷ xs) ts [] those fit r i l e = absurd those
    operands_good live (x ∷ xs) [] (v ∷ vs) those fit r i l e = absurd fit
    operands_good live (x ∷ xs) (t ∷ ts) (v ∷ vs) those fit r zero l e =
        let variable : x ≡ l.variable =
        sym (typed_variable live x) ∙ ap (λ (k : Live). k.variable) (same_Some (typed live x) l e) in
        let is : v ≡ value_in p a l.variable = sym (value_is x v those.0) ∙ ap (value_in p a) variable in
        subst (λ (u : Value). IsGood d objects u) is (record { type = t; fits = fit.0; ranged = r.0 })
    operands_good live (x ∷ xs) (t ∷ ts) (v ∷ vs) those fit r (suc i) l e = operands_good live xs ts vs those.1 fit.1 r.1 i l e

    pending_good : (h : SoundPending d p objects a) → IsTypedOnce p → (i : ℕ) (l : Live) →
        slice_get (its_entry d p objects a h.rests).operands i ≡ Some l → HoldsGood l
    pending_good h once i l e =
        let fit = h.operands in (
          operands_good h.rests.line.live h.rests.row.operands h.rests.typed.types fit.values fit.those fit.fit
              (all_in_range p a ranged h.rests.row.operands fit.values fit.those) i l e,
          operand_kinds d p objects a h
              (once a.operation a.at h.rests.of h.rests.line h.rests.is_operation h.rests.is_line) ranged i l e,
        )

    -- each value that goes
    pub carried_good : (k : Knows) → IsTypedOnce p → (i : ℕ) (l : Live) → slice_get (carried (entry_of k) a.pending) i ≡ Some l → HoldsGood l
    carried_good k once i l e = ⊎_elim
        (λ (g : slice_get (if a.pending then (entry_of k).operands else []) i ≡ Some l). first k g)
        (λ (g : (j : ℕ) × (slice_get (entry_of k).live j ≡ Some l)). live_good k g.0 l g.1)
        (get_either (if a.pending then (entry_of k).operands else []) (entry_of k).live i l e)
      where
        none : (e : a.pending ≡ false) (k : Knows) → slice_get (if a.pending then (entry_of k).operands else []) i ≡ Some l → HoldsGood l
        none e k g =
            let no : slice_get [] i ≡ Some l = subst (λ b. slice_get (if b then (entry_of k).operands else []) i ≡ Some l) e g in
            absurd cc

        first : (k : Knows) → slice_get (if a.pending then (entry_of k).operands else []) i ≡ Some l → HoldsGood l
        first (IsPending e h) g =
            pending_good h once i l
            (subst (λ b. slice_get (if b then (its_entry d p objects a h.rests).operands else []) i ≡ Some l) e g)
        first (IsDone e h waits) g = none e (IsDone e h waits) g
        first (IsWaiting e result h) g = none e (IsWaiting e result h) g

-- ---- each activation of a process

module _ (d : Declared) (p : Parts) (objects : List ObjectRec) where
  chain_waits : (xs : List CodeActivation) (op i : ℕ) (a : CodeActivation) → Chain d p objects xs op → slice_get xs i ≡ Some a →
      (number : ℕ) × Waits d p objects a number
  chain_waits [] op i a h e = absurd cc
  chain_waits (x ∷ []) op zero a h e = (op, subst (λ (z : CodeActivation). Waits d p objects z op) (same_Some x a e) h)
  chain_waits (x ∷ []) op (suc i) a h e = absurd cc
  chain_waits (x ∷ y ∷ ys) op zero a h e =
      (y.operation, subst (λ (z : CodeActivation). Waits d p objects z y.operation) (same_Some x a e) h.0)
  chain_waits (x ∷ y ∷ ys) op (suc i) a h e = chain_waits (y ∷ ys) op i a h.1 e

  top_known : (a : CodeActivation) → SoundTop d p objects a → StillWaits p a → Knows d p objects a
  top_known a h waits = by a.pending refl h
    where
      by : (b : Bool) → a.pending ≡ b → TopIs d p objects a b → Knows d p objects a
      by true e g = IsPending e g
      by false e g = IsDone e g waits

  below_known : (below : List CodeActivation) (op i : ℕ) (a : CodeActivation) → Chain d p objects below op →
      Each (λ (x : CodeActivation). x.pending ≡ false) below → slice_get below i ≡ Some a → Knows d p objects a
  below_known below op i a chain done e =
      let w = chain_waits below op i a chain e in
      IsWaiting (each_get (λ (x : CodeActivation). x.pending ≡ false) below i a done e) w.1.called.result w.1.waits

  pub known : (proc : Proc CodeActivation) → SoundProc d p objects proc → RestsBetween p proc → (i : ℕ) (a : CodeActivation) →
      slice_get proc.activations i ≡ Some a → Knows d p objects a
  known proc sound rest i a e = by (top_of proc.activations) refl sound.tower rest.top
    where
      none : (xs : List CodeActivation) → xs ≡ [] → slice_get xs i ≡ Some a → ⊥
      none [] e f = cc
      none (x ∷ xs) e f = cc

      by : (top : Option CodeActivation) → top_of proc.activations ≡ top → SoundTower d p objects (below_of proc.activations) top →
          TopWaits p top → Knows d p objects a
      by None t tower waits = absurd (none proc.activations (top_of_none proc.activations t) e)
      by (Some top) t tower waits = ⊎_elim
          (λ (g : slice_get (below_of proc.activations) i ≡ Some a).
          below_known (below_of proc.activations) top.operation i a tower.0 rest.below g)
          (λ (g : (j : ℕ) × (slice_get (top ∷ []) j ≡ Some a)).
          subst (λ (x : CodeActivation). Knows d p objects x) (only g.0 g.1) (top_known top tower.2 waits))
          (get_either (below_of proc.activations) (top ∷ []) i a
          (subst (λ (xs : List CodeActivation). slice_get xs i ≡ Some a) (stack_parts proc.activations top t) e))
        where
          only : (j : ℕ) → slice_get (top ∷ []) j ≡ Some a → top ≡ a
          only zero f = same_Some top a f
          only (suc j) f = absurd cc
