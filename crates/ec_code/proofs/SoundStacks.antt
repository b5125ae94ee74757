-- Stacks are calls, before and after an effect.
use Rattle.std.proofs.Common.{◌≡◌, ℕ, true, false, List, [], ◌∷◌, ◌++◌, Option, Some, None, refl, sym, ◌∙◌, ap, subst}
use Rattle.std.proofs.lemmas.Bool.{true≢false}
use Rattle.ec_base.specs.Stack.{top_of, below_of}
use Rattle.ec_base.proofs.Stacks.{top_of-push, below_of-push, top_of_none}
use Rattle.ec_code.specs.Activations.{begun, code_meaning, finished, into_variable, operation_at}
use Rattle.ec_code.specs.declared.activation.CodeActivation.{CodeActivation}
use Rattle.ec_code.specs.declared.code.Operation.{Operation}
use Rattle.ec_code.specs.declared.code.Parts.{Parts}
use Rattle.ec_code.specs.declared.code.Variable.{Variable}
use Rattle.ec_code.specs.declared.code.Variable.TheVariants.{Named, Temporary}
use Rattle.ec_code.specs.Fine.{Fine}
use Rattle.ec_code.specs.Typing.{Declared}
use Rattle.ec_types.specs.declared.conform.static_type.StaticType.{StaticType}
use Rattle.ec_world.specs.Agree.{AllTwo}
use Rattle.ec_world.specs.Outcomes.{outcome_of}
use Rattle.ec_world.specs.World.{changed, finish_top, waiting, who_of}
use Rattle.ec_world.specs.declared.common.Common.{Common}
use Rattle.ec_world.specs.declared.object.ObjectRec.{ObjectRec}
use Rattle.ec_world.specs.declared.process.ProcStatus.TheVariants.{Ready}
use Rattle.ec_world.specs.declared.stop.Effect.{Effect}
use Rattle.ec_world.specs.declared.stop.Effect.TheVariants.{GoesOn, Calls, Leaves, Blocks, Ends, Fails}
use Rattle.ec_world.specs.declared.stop.Queue.{Queue}
use Rattle.ec_world.specs.declared.stop.Queue.TheVariants.{ForEntry, ForCondition, Urgently}
use Rattle.ec_world.specs.declared.stop.Who.{Who}
use Rattle.ec_world.specs.declared.value.Value.{Value}
use Rattle.ec_code.specs.Sound.{Chain, FineActed, FineEffect, HasTop, IsLowest, LiveBehind, OfGiven, SoundCommon, SoundDone, SoundPending}
use Rattle.ec_code.specs.Sound.{SoundProc}
use Rattle.ec_code.specs.Sound.{SoundTop, SoundTower, TopIs, Waits, lowest_of}
use Rattle.ec_code.specs.SoundValues.{HasType, class_in}
use Rattle.ec_code.proofs.Done.{none_given}
use Rattle.ec_code.proofs.Finished.{begun_sound, finished_sound, idle, waiting_sound}
use Rattle.ec_code.proofs.Table.{Continues, EffectGoes, continues, stop_if_sound}

module _ (d : Declared) (p : Parts) (fine : Fine d p) (objects : List ObjectRec) where
  -- ---- chains

  chain_push : (xs : List CodeActivation) (x : CodeActivation) (op : ℕ) → Chain d p objects xs x.operation → Waits d p objects x op
      → Chain d p objects (xs ++ x ∷ []) op
  chain_push [] x op h w = w
  chain_push (y ∷ []) x op h w = (h, w)
  chain_push (y ∷ z ∷ zs) x op h w = (h.0, chain_push (z ∷ zs) x op h.1 w)

  chain_below : (xs : List CodeActivation) (x : CodeActivation) (op : ℕ) → Chain d p objects xs op → top_of xs ≡ Some x
      → Chain d p objects (below_of xs) x.operation
  chain_below [] x op h e = cc
  chain_below (y ∷ []) x op h e = tt
  chain_below (y ∷ z ∷ []) x op h e =
      let s : z ≡ x = cc in
      subst (λ (a : CodeActivation). Waits d p objects y a.operation) s h.0
  chain_below (y ∷ z ∷ w ∷ ws) x op h e = (h.0, chain_below (z ∷ w ∷ ws) x op h.1 e)

  pub chain_top : (xs : List CodeActivation) (x : CodeActivation) (op : ℕ) → Chain d p objects xs op → top_of xs ≡ Some x
      → Waits d p objects x op
  chain_top [] x op h e = cc
  chain_top (y ∷ []) x op h e = let s : y ≡ x = cc in subst (λ a. Waits d p objects a op) s h
  chain_top (y ∷ z ∷ zs) x op h e = chain_top (z ∷ zs) x op h.1 e

  lowest_push : (xs : List CodeActivation) (x : CodeActivation) (op : ℕ) → lowest_of d p (xs ++ x ∷ []) op ≡ lowest_of d p xs x.operation
  lowest_push [] x op = refl
  lowest_push (y ∷ ys) x op = refl

  lowest_below : (xs : List CodeActivation) (x : CodeActivation) (op : ℕ) → top_of xs ≡ Some x
      → lowest_of d p (below_of xs) x.operation ≡ lowest_of d p xs op
  lowest_below [] x op e = cc
  lowest_below (y ∷ []) x op e = let s : x ≡ y = cc in ap (λ (a : CodeActivation). a.operation) s
  lowest_below (y ∷ z ∷ zs) x op e = refl

  pub tower : (xs : List CodeActivation) (x : CodeActivation) → Chain d p objects xs x.operation
      → IsLowest d p (lowest_of d p xs x.operation)
      → SoundTop d p objects x → SoundTower d p objects (below_of (xs ++ x ∷ [])) (top_of (xs ++ x ∷ []))
  tower xs x h b k =
      subst (λ b. SoundTower d p objects b (top_of (xs ++ x ∷ []))) (sym (below_of-push xs x))
      (subst (λ t. SoundTower d p objects xs t) (sym (top_of-push xs x)) (h, b, k))

  -- ---- a done activation on top

  into_operation : (a : CodeActivation) (x : Option Variable) (v : Value) → (into_variable a x v).operation ≡ a.operation
  into_operation a None v = refl
  into_operation a (Some (Named n)) v = refl
  into_operation a (Some (Temporary k)) v = refl

  finished_operation : (a : CodeActivation) (v : Option Value) → (finished a v).operation ≡ a.operation
  finished_operation a None = refl
  finished_operation a (Some v) = into_operation a a.into v

  into_done : (a : CodeActivation) (x : Option Variable) (v : Value) → (into_variable a x v).pending ≡ false
  into_done a None v = refl
  into_done a (Some (Named n)) v = refl
  into_done a (Some (Temporary k)) v = refl

  finished_done : (a : CodeActivation) (v : Option Value) → (finished a v).pending ≡ false
  finished_done a None = refl
  finished_done a (Some v) = into_done a a.into v

  pub has_pushed : (xs : List CodeActivation) (x : CodeActivation) → HasTop d p Ready (top_of (xs ++ x ∷ []))
  has_pushed xs x = subst (λ t. HasTop d p Ready t) (sym (top_of-push xs x)) refl

  done_tower : (xs : List CodeActivation) (a : CodeActivation) (v : Option Value) → Chain d p objects xs a.operation
      → IsLowest d p (lowest_of d p xs a.operation) → SoundDone d p objects (finished a v)
      → SoundTower d p objects (below_of (xs ++ finished a v ∷ [])) (top_of (xs ++ finished a v ∷ []))
  done_tower xs a v h b k =
      tower xs (finished a v) (subst (λ n. Chain d p objects xs n) (sym (finished_operation a v)) h)
      (subst (λ n. IsLowest d p (lowest_of d p xs n)) (sym (finished_operation a v)) b)
      (subst (λ t. TopIs d p objects (finished a v) t) (sym (finished_done a v)) k)

  -- ---- returns

  left_by : (below : List CodeActivation) (a : CodeActivation) (o : Operation) (v : Option Value) → operation_at p a.operation ≡ Some o
      → Chain d p objects below a.operation → IsLowest d p (lowest_of d p below a.operation) → OfGiven d p objects o.result v
      → (top : Option CodeActivation) → top_of below ≡ top
      → SoundTower d p objects (below_of (finish_top code_meaning (below_of below) top v))
      (top_of (finish_top code_meaning (below_of below) top v))
  left_by below a o v is h b r None e = tt
  left_by below a o v is h b r (Some x) e =
      let w = chain_top below x a.operation h e in
      let same : o ≡ w.called = (let m = w.is in cc) in
      let s = w.waits in
      done_tower (below_of below) x v (chain_below below x a.operation h e)
      (subst (λ n. IsLowest d p n) (sym (lowest_below below x a.operation e)) b)
      (finished_sound d p fine objects x s.rests s.into w.called.result s.behind v
      (subst (λ (q : Operation). OfGiven d p objects q.result v) same r))

  -- a return finds an activation below
  left_top : (below : List CodeActivation) (a : CodeActivation) (o : Operation) (v : Option Value) → operation_at p a.operation ≡ Some o
      → IsLowest d p (lowest_of d p below a.operation) → o.is_lowest ≡ false
      → HasTop d p Ready (top_of (finish_top code_meaning (below_of below) (top_of below) v))
  left_top [] a o v is b f =
      let s : b.operation ≡ o = (let i = b.is in cc) in
      absurd (true≢false (sym b.lowest ∙ ap (λ (z : Operation). z.is_lowest) s ∙ f))
  left_top (x ∷ []) a o v is b f = refl
  left_top (x ∷ y ∷ ys) a o v is b f = by (top_of (y ∷ ys)) refl
    where
      by : (t : Option CodeActivation) → top_of (y ∷ ys) ≡ t
          → HasTop d p Ready (top_of (finish_top code_meaning (below_of (x ∷ y ∷ ys)) t v))
      by None e = let n = top_of_none (y ∷ ys) e in cc
      by (Some t) e = has_pushed (below_of (x ∷ y ∷ ys)) (finished t v)

  -- ---- an effect

  blocked_top : (xs : List CodeActivation) (a : CodeActivation) (queue : Queue) (oid : ℕ)
      → HasTop d p (waiting queue oid) (top_of (xs ++ idle a ∷ []))
  blocked_top xs a ForEntry oid = subst (λ t. HasTop d p (waiting ForEntry oid) t) (sym (top_of-push xs (idle a))) refl
  blocked_top xs a ForCondition oid = subst (λ t. HasTop d p (waiting ForCondition oid) t) (sym (top_of-push xs (idle a))) refl
  blocked_top xs a Urgently oid = subst (λ t. HasTop d p (waiting Urgently oid) t) (sym (top_of-push xs (idle a))) refl

  pub changed_sound : (below : List CodeActivation) (a : CodeActivation) (e : Effect) → Chain d p objects below a.operation
      → IsLowest d p (lowest_of d p below a.operation) → (h : SoundPending d p objects a)
      → FineEffect d p objects h.rests.of h.rests.row.gives e → EffectGoes (LiveBehind d p objects a h.rests.of h.rests.row.gives) e
      → SoundProc d p objects (changed code_meaning below a e)
  changed_sound below a (GoesOn v) k b h f g = record {
    tower = done_tower below a v k b (finished_sound d p fine objects a h.rests h.into h.rests.row.gives g v f);
    top = has_pushed below (finished a v);
  }
  changed_sound below a (Calls op own args) k b h f g =
      let w : Waits d p objects (idle a) op =
      record { called = f.called; is = f.is; waits = waiting_sound d p fine objects a h f.called.result f.result g } in
      record {
        tower =
            tower (below ++ idle a ∷ []) (begun op own args) (chain_push below (idle a) op k w)
            (subst (λ n. IsLowest d p n) (sym (lowest_push below (idle a) op)) b)
            (begun_sound d p fine objects op own f.called args f.is f.is_own f.arguments);
        top = has_pushed (below ++ idle a ∷ []) (begun op own args);
      }
  changed_sound below a (Leaves v) k b h f g = record {
    tower = left_by below a h.rests.of v h.rests.is_operation k b f.0 (top_of below) refl;
    top = left_top below a h.rests.of v h.rests.is_operation b f.1;
  }
  changed_sound below a (Blocks queue oid) k b h f g = record {
    tower =
        done_tower below a None k b
        (finished_sound d p fine objects a h.rests h.into h.rests.row.gives g None (none_given d p objects h.rests.row.gives f));
    top = blocked_top below a queue oid;
  }
  changed_sound below a Ends k b h f g = record { tower = tt; top = tt }
  changed_sound below a (Fails why line) k b h f g = record { tower = tt; top = tt }

  -- a process that begins with an operation
  pub begins_sound : (number own : ℕ) (o : Operation) → operation_at p number ≡ Some o → class_in objects own ≡ Some o.class
      → o.is_lowest ≡ true
      → o.parameters ≡ [] → SoundProc d p objects (record { activations = begun number own [] ∷ []; status = Ready })
  begins_sound number own o is at low none = record {
    tower = (
      tt,
      record { operation = o; is = is; lowest = low },
      begun_sound d p fine objects number own o [] is at (subst (λ ts. AllTwo (HasType d objects) ts []) (sym none) tt),
    );
    top = refl;
  }

-- The table has a case for a pending stop, and what it makes is sound.
module _ (d : Declared) (p : Parts) (fine : Fine d p) (c : Common) (sound : SoundCommon d p c) (a : CodeActivation)
    (h : SoundPending d p c.objects a) (process : ℕ) (below : List CodeActivation) where
  abbrev who : Who
  who = who_of code_meaning process below a

  pub outcome_sound : FineActed d p c h.rests.of h.rests.row.gives (outcome_of c who a.stop a.operands)
  outcome_sound =
      let o : Operation = h.rests.of in
      let given : Option StaticType = h.rests.row.gives in
      subst (λ s. FineActed d p c o given (outcome_of c who s a.operands)) (sym h.rests.stop)
      (subst (λ vs. FineActed d p c o given (outcome_of c who h.rests.row.stop vs)) (sym h.operands.are)
      (stop_if_sound d p fine c sound a.operation o given who refl h.rests.own h.rests.row.on_itself h.rests.row.stop h.rests.typed.types
      h.operands.values h.operands.fit h.rests.typed.stop))

  pub outcome_continues : Continues (LiveBehind d p c.objects a h.rests.of h.rests.row.gives) (outcome_of c who a.stop a.operands)
  outcome_continues =
      let T : Type 0 = LiveBehind d p c.objects a h.rests.of h.rests.row.gives in
      subst (λ s. Continues T (outcome_of c who s a.operands)) (sym h.rests.stop)
      (continues c who T d p a.operation h.rests.of h.rests.row.stop a.operands h.behind)
