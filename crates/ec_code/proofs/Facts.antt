-- What the simulation of worlds asks of a sound one: that no case is lacking, and what outcomes fit.
use Rattle.std.proofs.Common.{◌≡◌, ℕ, zero, suc, ◌<◌, ◌⊎◌, inl, inr, Bool, true, false, List, [], ◌∷◌, ◌++◌, length}
use Rattle.std.proofs.Common.{Option, Some, None, refl}
use Rattle.std.proofs.Common.{sym, ◌∙◌, ap, subst}
use Rattle.std.proofs.lemmas.Bool.{true≢false}
use Rattle.std.specs.Prelude.{slice_get, is_some, IsSome}
use Rattle.ec_base.specs.Stack.{top_of, below_of}
use Rattle.ec_base.proofs.Stacks.{stack_parts, top_of_none}
use Rattle.ec_code.specs.Activations.{code_meaning, operation_at}
use Rattle.ec_code.specs.declared.activation.CodeActivation.{CodeActivation}
use Rattle.ec_code.specs.declared.code.Operation.{Operation}
use Rattle.ec_code.specs.declared.code.Parts.{Parts}
use Rattle.ec_code.specs.declared.code.Variable.{Variable}
use Rattle.ec_code.specs.Fine.{Begins, Fine, IsTaken}
use Rattle.ec_code.specs.Typing.{Declared}
use Rattle.ec_types.specs.declared.conform.static_type.StaticType.{StaticType}
use Rattle.ec_world.specs.Outcomes.{Acted}
use Rattle.ec_world.specs.World.{outcome_at, stack_at}
use Rattle.ec_world.specs.declared.class.ClassNo.{ClassNo}
use Rattle.ec_world.specs.declared.common.Common.{Common}
use Rattle.ec_world.specs.declared.doing.Outcome.{Outcome}
use Rattle.ec_world.specs.declared.doing.Section.{Section}
use Rattle.ec_world.specs.declared.object.ObjectRec.{ObjectRec}
use Rattle.ec_world.specs.declared.process.Proc.{Proc}
use Rattle.ec_world.specs.declared.process.ProcStatus.TheVariants.{Ready}
use Rattle.ec_world.specs.declared.stop.Effect.TheVariants.{GoesOn, Calls, Leaves}
use Rattle.ec_world.specs.declared.value.Value.{Value}
use Rattle.ec_world.specs.declared.world.World.{World}
use Rattle.ec_code.specs.Sound.{Chain, FineActed, FineDone, FineEffect, FineSection, HasTop, IsLowest, LiveBehind, OfGiven, RestsAt}
use Rattle.ec_code.specs.Sound.{SoundPending, SoundProc, SoundTower, SoundWorld, TopIs, Waits, lowest_of, reached}
use Rattle.ec_code.specs.SoundValues.{HasType, class_in}
use Rattle.ec_code.proofs.Carried.{all_two_length, each_get}
use Rattle.ec_code.proofs.Silent.{not_opened, reaches}
use Rattle.ec_code.proofs.SoundStacks.{chain_top, outcome_continues, outcome_sound}
use Rattle.ec_code.proofs.Table.{Continues, EffectGoes}
use Rattle.ec_code.proofs.SoundWorlds.{tower_at}

-- something is given exactly where a variable takes it
pub is_taken : (d : Declared) (p : Parts) (objects : List ObjectRec) (given : Option StaticType) (v : Option Value) (into : Option Variable)
    → OfGiven d p objects given v → IsTaken d p given into → is_some v ≡ is_some into
is_taken d p objects None None None g t = refl
is_taken d p objects (Some s) (Some v) (Some x) g t = refl
is_taken d p objects None (Some v) into g t = absurd g
is_taken d p objects (Some s) None into g t = absurd g
is_taken d p objects None None (Some x) g t = absurd t
is_taken d p objects (Some s) (Some v) None g t = absurd t

module _ (d : Declared) (p : Parts) (fine : Fine d p) (w : World CodeActivation) (s : SoundWorld d p w) (n : ℕ)
    (top : CodeActivation) (e : top_of (stack_at w n) ≡ Some top) where
  abbrev below : List CodeActivation
  below = below_of (stack_at w n)

  abbrev objects : List ObjectRec
  objects = w.common.objects

  tower : SoundTower d p objects below (Some top)
  tower = subst (λ x. SoundTower d p objects below x) e (tower_at d p fine w n (s.common, s.processes))

  -- the walk behind a done stop reaches a stop
  pub silent_steps_reach : top.pending ≡ false → IsSome (reached p w.common top).1
  silent_steps_reach done =
      reaches d p fine w.common s.common top (subst (λ b. TopIs d p objects top b) done tower.2)

  -- ---- the outcome of a pending stop

  module _ (pending : top.pending ≡ true) where
    pub pending_top : SoundPending d p objects top
    pending_top = subst (λ b. TopIs d p objects top b) pending tower.2

    abbrev of : Operation
    of = pending_top.rests.of

    abbrev given : Option StaticType
    given = pending_top.rests.row.gives

    has_case : (a : Acted) → FineActed d p w.common of given a → IsSome a
    has_case None f = absurd f
    has_case (Some x) f = refl

    pub never_lacks : IsSome (outcome_at code_meaning w n below top)
    never_lacks = has_case (outcome_at code_meaning w n below top) (outcome_sound d p fine w.common s.common top pending_top n below)

    module _ (c : Common) (o : Outcome) (is : outcome_at code_meaning w n below top ≡ Some (c, o)) where
      pub outcome_fine : FineDone d p w.common of given (c, o)
      outcome_fine =
          subst (λ z. FineActed d p w.common of given z) is (outcome_sound d p fine w.common s.common top pending_top n below)

      outcome_goes : EffectGoes (LiveBehind d p objects top of given) o.effect
      outcome_goes =
          subst (λ z. Continues (LiveBehind d p objects top of given) z) is
          (outcome_continues d p fine w.common s.common top pending_top n below)

      -- a result is given exactly where a variable waits for it
      pub given_is_taken : (v : Option Value) → o.effect ≡ GoesOn v → is_some v ≡ is_some top.into
      given_is_taken v at =
          let f : OfGiven d p c.objects given v = subst (λ x. FineEffect d p c.objects of given x) at outcome_fine.2 in
          let g : LiveBehind d p objects top of given = subst (λ x. EffectGoes (LiveBehind d p objects top of given) x) at outcome_goes in
          is_taken d p c.objects given v top.into f g.taken

      -- a return gives a result exactly where the caller's variable waits for it
      pub result_is_taken : (v : Option Value) (caller : CodeActivation) → o.effect ≡ Leaves v → top_of below ≡ Some caller
          → is_some v ≡ is_some caller.into
      result_is_taken v caller at k =
          let f : OfGiven d p c.objects of.result v × (of.is_lowest ≡ false) =
          subst (λ x. FineEffect d p c.objects of given x) at outcome_fine.2 in
          let waits = chain_top d p fine objects below caller top.operation tower.0 k in
          let same : of ≡ waits.called = (let a = pending_top.rests.is_operation in let b = waits.is in cc) in
          is_taken d p c.objects waits.called.result v caller.into
          (subst (λ (x : Operation). OfGiven d p c.objects x.result v) same f.0) waits.waits.behind.taken

      -- a return finds its caller
      pub finds_caller : (v : Option Value) → o.effect ≡ Leaves v → IsSome (top_of below)
      finds_caller v at =
          let f : OfGiven d p c.objects of.result v × (of.is_lowest ≡ false) =
          subst (λ x. FineEffect d p c.objects of given x) at outcome_fine.2 in
          by below tower.1 f.1
        where
          by : (xs : List CodeActivation) → IsLowest d p (lowest_of d p xs top.operation) → of.is_lowest ≡ false → IsSome (top_of xs)
          by [] b f =
              let same : b.operation ≡ of = (let i = b.is in let j = pending_top.rests.is_operation in cc) in
              absurd (true≢false (sym b.lowest ∙ ap (λ (z : Operation). z.is_lowest) same ∙ f))
          by (x ∷ xs) b f = some (top_of (x ∷ xs)) refl
            where
              some : (t : Option CodeActivation) → top_of (x ∷ xs) ≡ t → IsSome (top_of (x ∷ xs))
              some None h = let z = top_of_none (x ∷ xs) h in cc
              some (Some t) h = subst (λ z. IsSome z) (sym h) refl

      -- what is called is an operation of the object's class, with as many arguments as it has parameters
      pub record Called (number own : ℕ) (args : List Value) : Type 0 where
        pub called : Operation
        pub is_called : operation_at p number ≡ Some called
        pub is_own : class_in c.objects own ≡ Some called.class
        pub as_many : length args ≡ length called.parameters

      pub call_fits : (number own : ℕ) (args : List Value) → o.effect ≡ Calls number own args → Called number own args
      call_fits number own args at =
          let f = call_by at in
          record {
            called = f.called;
            is_called = f.is;
            is_own = f.is_own;
            as_many = sym (all_two_length (HasType d c.objects) f.called.parameters args f.arguments);
          }
        where
          call_by : o.effect ≡ Calls number own args → FineEffect d p c.objects of given (Calls number own args)
          call_by at = subst (λ x. FineEffect d p c.objects of given x) at outcome_fine.2

      -- the section that begins is there, of the own object's class, without parameters
      pub section_fits : (section : Section) → o.started ≡ Some section
          → (class : ClassNo) × (class_in c.objects section.own ≡ Some class) × Begins d p section.operation class
      section_fits section at = subst (λ x. FineSection d p c.objects x) at outcome_fine.3

-- ---- each activation

module _ (d : Declared) (p : Parts) (objects : List ObjectRec) where
  chain_rests : (xs : List CodeActivation) (op i : ℕ) (a : CodeActivation) → Chain d p objects xs op → slice_get xs i ≡ Some a
      → (number : ℕ) × Waits d p objects a number
  chain_rests [] op i a h e = cc
  chain_rests (x ∷ []) op zero a h e = let s : x ≡ a = cc in (op, subst (λ z. Waits d p objects z op) s h)
  chain_rests (x ∷ []) op (suc i) a h e = cc
  chain_rests (x ∷ y ∷ ys) op zero a h e =
      let s : x ≡ a = cc in
      (y.operation, subst (λ z. Waits d p objects z y.operation) s h.0)
  chain_rests (x ∷ y ∷ ys) op (suc i) a h e = chain_rests (y ∷ ys) op i a h.1 e

  -- an activation rests at a stop, and unless its action is done, the variable that waits is that of the stop
  pub record Rests (a : CodeActivation) : Type 0 where
    pub at : RestsAt d p objects a
    pub into : (a.into ≡ at.row.into) ⊎ (a.pending ≡ false)

  top_rests : (a : CodeActivation) (pending : Bool) → a.pending ≡ pending → TopIs d p objects a pending → Rests a
  top_rests a true e h = record { at = h.rests; into = inl h.into }
  top_rests a false e h = record { at = h.rests; into = inr e }

  get_push : {A : Type 0} (xs : List A) (x : A) (i : ℕ) (y : A) → slice_get (xs ++ x ∷ []) i ≡ Some y → (slice_get xs i ≡ Some y) ⊎ (x ≡ y)
  get_push [] x zero y e = inr (let s : x ≡ y = cc in s)
  get_push [] x (suc i) y e = cc
  get_push (z ∷ zs) x zero y e = inl e
  get_push (z ∷ zs) x (suc i) y e = get_push zs x i y e

  none_in : (xs : List CodeActivation) (i : ℕ) (a : CodeActivation) → xs ≡ [] → slice_get xs i ≡ Some a → ⊥
  none_in [] i a e h = cc
  none_in (x ∷ xs) i a e h = cc

  tower_rests : (xs : List CodeActivation) (top : Option CodeActivation) → top_of xs ≡ top → SoundTower d p objects (below_of xs) top
      → (i : ℕ) (a : CodeActivation) → slice_get xs i ≡ Some a → Rests a
  tower_rests xs None e h i a at = absurd (none_in xs i a (top_of_none xs e) at)
  tower_rests xs (Some top) e h i a at =
      by (get_push (below_of xs) top i a (subst (λ z. slice_get z i ≡ Some a) (stack_parts xs top e) at))
    where
      by : (slice_get (below_of xs) i ≡ Some a) ⊎ (top ≡ a) → Rests a
      by (inl k) =
          let w = chain_rests (below_of xs) top.operation i a h.0 k in
          record { at = w.1.waits.rests; into = inl w.1.waits.into }
      by (inr k) = subst (λ z. Rests z) k (top_rests top top.pending refl h.2)

-- behind the entry each of the operation's variables is there
pub each_is_there : (d : Declared) (p : Parts) (os : List ObjectRec) (a : CodeActivation) (r : RestsAt d p os a) → 0 < a.at
    → length a.variables ≡ length r.of.variables
each_is_there d p os a r behind = ap length (sym (not_opened p a a.at behind)) ∙ r.count

-- each activation of a sound world
pub activation_rests : (d : Declared) (p : Parts) (w : World CodeActivation) → SoundWorld d p w → (i : ℕ) (proc : Proc CodeActivation)
    → slice_get w.processes i ≡ Some proc → (j : ℕ) (a : CodeActivation) → slice_get proc.activations j ≡ Some a
    → Rests d p w.common.objects a
activation_rests d p w s i proc e j a k =
    tower_rests d p w.common.objects proc.activations (top_of proc.activations) refl
    (each_get (SoundProc d p w.common.objects) w.processes i proc s.processes e).tower j a k

-- a process that is Ready has an activation on top
pub ready_top : (d : Declared) (p : Parts) (w : World CodeActivation) → SoundWorld d p w → (i : ℕ) (proc : Proc CodeActivation)
    → slice_get w.processes i ≡ Some proc → proc.status ≡ Ready → IsSome (top_of proc.activations)
ready_top d p w s i proc e ready =
    subst (λ x. HasTop d p x (top_of proc.activations)) ready
    (each_get (SoundProc d p w.common.objects) w.processes i proc s.processes e).top
