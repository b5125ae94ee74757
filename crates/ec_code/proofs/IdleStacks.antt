-- Stacks in which activations below others go on, and the one on top is idle where its action is done.
use Rattle.std.proofs.Common.{◌≡◌, ℕ, false, List, [], ◌∷◌, ◌++◌, Option, Some, None, refl, sym, ap, ◌∙◌, subst}
use Rattle.std.specs.List.{AllByRecursion as Each}
use Rattle.std.specs.Prelude.{is_some, slice_get}
use Rattle.ec_base.proofs.Stacks.{below_of-push, top_of-push}
use Rattle.ec_base.specs.Stack.{top_of, below_of}
use Rattle.ec_code.specs.Activations.{begun, code_meaning, finished, into_variable, with_result}
use Rattle.ec_code.specs.declared.activation.CodeActivation.{CodeActivation}
use Rattle.ec_code.specs.declared.code.Variable.{Variable}
use Rattle.ec_code.specs.declared.code.Variable.TheVariants.{Named, Temporary}
use Rattle.ec_code.specs.Idle.{GoesBehind, IdleProc, IdleWorld, IsIdle, IsIdleTop}
use Rattle.ec_code.specs.Live.{stays}
use Rattle.ec_code.proofs.Carried.{each_append, each_get}
use Rattle.ec_code.proofs.Table.{EffectGoes}
use Rattle.ec_world.specs.World.{changed, finish_top, ready_stack, stack_at, stack_if_ready}
use Rattle.ec_world.specs.declared.process.Proc.{Proc}
use Rattle.ec_world.specs.declared.process.ProcStatus.{ProcStatus}
use Rattle.ec_world.specs.declared.process.ProcStatus.TheVariants.{Ready, Entry as AtEntry, Cond, Urgent, Ended, Failed}
use Rattle.ec_world.specs.declared.stop.Effect.{Effect}
use Rattle.ec_world.specs.declared.stop.Effect.TheVariants.{GoesOn, Calls, Leaves, Blocks, Ends, Fails}
use Rattle.ec_world.specs.declared.value.Value.{Value}
use Rattle.ec_world.specs.declared.world.World.{World}

-- ---- stacks

abbrev pub Goes : List CodeActivation → Type 0
Goes = Each GoesBehind

abbrev pub IdleStack : List CodeActivation → Type 0
IdleStack xs = Goes (below_of xs) × IsIdleTop (top_of xs)

pub pushed : (below : List CodeActivation) (a : CodeActivation) → Goes below → (a.pending ≡ false → IsIdle a) → IdleStack (below ++ a ∷ [])
pushed below a h f = (subst Goes (sym (below_of-push below a)) h, subst IsIdleTop (sym (top_of-push below a)) f)

pub goes_below : (xs : List CodeActivation) → Goes xs → Goes (below_of xs)
goes_below [] h = tt
goes_below (x ∷ []) h = tt
goes_below (x ∷ y ∷ ys) h = (h.0, goes_below (y ∷ ys) h.1)

goes_top : (xs : List CodeActivation) (a : CodeActivation) → Goes xs → top_of xs ≡ Some a → GoesBehind a
goes_top [] a h e = cc
goes_top (x ∷ []) a h e = let same : x ≡ a = cc in subst GoesBehind same h.0
goes_top (x ∷ y ∷ ys) a h e = goes_top (y ∷ ys) a h.1 e

status_stack : (s : ProcStatus) (xs : List CodeActivation) → IdleStack xs → IdleStack (stack_if_ready s xs)
status_stack Ready xs h = h
status_stack (AtEntry o) xs h = (tt, tt)
status_stack (Cond o) xs h = (tt, tt)
status_stack (Urgent o) xs h = (tt, tt)
status_stack Ended xs h = (tt, tt)
status_stack (Failed why line) xs h = (tt, tt)

pub stack_idle : (w : World CodeActivation) (n : ℕ) → IdleWorld w → IdleStack (stack_at w n)
stack_idle w n h = by (slice_get w.processes n) refl
  where
    by : (q : Option (Proc CodeActivation)) → slice_get w.processes n ≡ q → IdleStack (ready_stack q)
    by None e = (tt, tt)
    by (Some q) e =
        let i = each_get IdleProc w.processes n q h.processes e in
        status_stack q.status q.activations (i.below, i.top)

-- ---- an action that is done

pub none_taken : {A : Type 0} (x : Option A) → false ≡ is_some x → x ≡ None
none_taken None e = refl
none_taken (Some y) e = absurd (let f = e in cc)

result_in : (a : CodeActivation) (x : Variable) (v : Value) → (with_result a x v).into ≡ None
result_in a (Named n) v = refl
result_in a (Temporary k) v = refl

result_stop : (a : CodeActivation) (x : Variable) (v : Value) → (with_result a x v).stop ≡ a.stop
result_stop a (Named n) v = refl
result_stop a (Temporary k) v = refl

into_none : (a : CodeActivation) (x : Option Variable) (v : Value) → a.into ≡ x → (into_variable a x v).into ≡ None
into_none a None v e = e
into_none a (Some x) v e = result_in a x v

into_stop : (a : CodeActivation) (x : Option Variable) (v : Value) → (into_variable a x v).stop ≡ a.stop
into_stop a None v = refl
into_stop a (Some x) v = result_stop a x v

finished_stop : (a : CodeActivation) (given : Option Value) → (finished a given).stop ≡ a.stop
finished_stop a None = refl
finished_stop a (Some v) = into_stop a a.into v

finished_into : (a : CodeActivation) (given : Option Value) → is_some given ≡ is_some a.into → (finished a given).into ≡ None
finished_into a None e = none_taken a.into e
finished_into a (Some v) e = into_none a a.into v refl

finished_goes : (a : CodeActivation) (given : Option Value) → GoesBehind a → GoesBehind (finished a given)
finished_goes a given h = ap stays (finished_stop a given) ∙ h

finished_idle : (a : CodeActivation) (given : Option Value) → GoesBehind a → is_some given ≡ is_some a.into → IsIdle (finished a given)
finished_idle a given h e = record { taken = finished_into a given e; goes_on = finished_goes a given h }

-- ---- effects

-- what an effect gives is taken
abbrev pub IsTakenBy : List CodeActivation → CodeActivation → Effect → Type 0
IsTakenBy below top (GoesOn given) = is_some given ≡ is_some top.into
IsTakenBy below top (Leaves given) = (caller : CodeActivation) → top_of below ≡ Some caller → is_some given ≡ is_some caller.into
IsTakenBy below top (Blocks queue own) = top.into ≡ None
IsTakenBy below top (Calls number own args) = Unit {0}
IsTakenBy below top Ends = Unit {0}
IsTakenBy below top (Fails why line) = Unit {0}

top_finished : (below : List CodeActivation) (given : Option Value) (caller : Option CodeActivation) → top_of below ≡ caller → Goes below →
    ((a : CodeActivation) → top_of below ≡ Some a → is_some given ≡ is_some a.into) →
    IdleStack (finish_top code_meaning (below_of below) caller given)
top_finished below given None e h f = (tt, tt)
top_finished below given (Some a) e h f =
    pushed (below_of below) (finished a given) (goes_below below h)
    (λ done. finished_idle a given (goes_top below a h e) (f a e))

pub changed_idle : (below : List CodeActivation) (top : CodeActivation) (e : Effect) → Goes below → EffectGoes (GoesBehind top) e →
    IsTakenBy below top e → IdleStack (changed code_meaning below top e).activations
changed_idle below top (GoesOn given) h g t = pushed below (finished top given) h (λ done. finished_idle top given g t)
changed_idle below top (Calls number own args) h g t =
    pushed (below ++ finished top None ∷ []) (begun number own args)
    (each_append GoesBehind below (finished top None ∷ []) h (finished_goes top None g, tt)) (λ done. absurd (let no = done in cc))
changed_idle below top (Leaves given) h g t = top_finished below given (top_of below) refl h t
changed_idle below top (Blocks queue own) h g t = pushed below (finished top None) h (λ done. finished_idle top None g (sym (ap is_some t)))
changed_idle below top Ends h g t = (tt, tt)
changed_idle below top (Fails why line) h g t = (tt, tt)

pub idle_proc : (proc : Proc CodeActivation) → IdleStack proc.activations → IdleProc proc
idle_proc proc h = record { below = h.0; top = h.1 }
