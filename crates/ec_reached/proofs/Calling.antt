-- Stacks of calls, once an activation is done, called another one, or left.
use Rattle.std.proofs.Common.{◌≡◌, ◌∙◌, ◌∷◌, ◌++◌, ℕ, zero, suc, Bool, [], List, Option, Some, None, refl, sym, ap, subst}
use Rattle.ec_base.proofs.Stacks.{stack_parts}
use Rattle.ec_base.specs.Stack.{below_of, top_of}
use Rattle.ec_world.specs.declared.class.ClassNo.TheVariants.{Program}
use Rattle.ec_world.specs.declared.common.Common.{Common}
use Rattle.ec_world.specs.declared.process.ProcStatus.{ProcStatus}
use Rattle.ec_world.specs.declared.process.ProcStatus.TheVariants.{Ready, Entry, Cond, Urgent, Ended, Failed}
use Rattle.ec_world.specs.declared.stop.Stop.{Stop}
use Rattle.ec_world.specs.declared.stop.Stop.TheVariants as stop
use Rattle.ec_world.specs.declared.value.Value.{Value}
use Rattle.ec_world.specs.Meaning.{ActivationMeaning}
use Rattle.ec_world.specs.Objects.{class_at, object_at}
use Rattle.ec_world.specs.Sights.{class_of}
use Rattle.ec_world.specs.World.{finish_top}
use Rattle.ec_reached.proofs.Later.{Later, class_stays, inside_later, named_later}
use Rattle.ec_reached.specs.Meant.{IsDone, StaysItself}
use Rattle.ec_reached.specs.Stacks.{Begins, Calls, EachCalls, IsCalled, LowestBegins, RestsAs}
use Rattle.ec_reached.specs.Stacks.{WaitsAt, class_on, is_signal, is_wait}
use Rattle.ec_reached.specs.Meant.{is_entry}

-- ---- later

pub called_later : (c d : Common) → Later c d → (it : Stop) (vs : List Value) (op own : ℕ) → IsCalled c it vs op own → IsCalled d it vs op own
called_later c d l (stop.Invoke name line) vs op own h =
    record { arguments = h.arguments; receiver = h.receiver; named = named_later c d l own name op h.named }
called_later c d l (stop.New class) vs op own h = record {
  is_class = l.objects own class h.is_class;
  of = h.of;
  is = ap (λ ks. class_at ks class) l.classes ∙ h.is;
  initial = h.initial;
}
called_later c d l it vs op own h = absurd h

module _ {A : Type 0} (M : ActivationMeaning A) (c d : Common) (l : Later c d) where
  pub calls_later : (xs : List A) → EachCalls M c xs → EachCalls M d xs
  calls_later [] h = tt
  calls_later (a ∷ []) h = tt
  calls_later (a ∷ b ∷ bs) h = (
    record { done = h.0.done; called = called_later c d l (M.stop a) (M.operands a) (M.operation b) (M.own b) h.0.called },
    calls_later (b ∷ bs) h.1,
  )

  begins_later : (p : ℕ) (a : A) → Begins M c p a → Begins M d p a
  begins_later zero a h = record {
    operation = h.operation;
    own = h.own ∙ ap suc (sym l.nodes);
    class = subst (λ n. class_of (object_at d.objects (suc n)) ≡ Some Program) (sym l.nodes) (l.objects (suc c.nodes) Program h.class);
  }
  begins_later (suc p) a h = record { of = h.of; is = class_stays c d l (M.own a) h.of h.is; section = h.section }

  pub lowest_later : (p : ℕ) (xs : List A) → LowestBegins M c p xs → LowestBegins M d p xs
  lowest_later p [] h = tt
  lowest_later p (a ∷ more) h = begins_later p a h

  waits_later : (at : Stop → Bool) (o : ℕ) (top : Option A) → WaitsAt M c at o top → WaitsAt M d at o top
  waits_later at o top h = record {
    of = h.of;
    is_top = h.is_top;
    own = h.own;
    within = inside_later c d l (M.own h.of) (M.operation h.of) h.within;
    done = h.done;
    stands = h.stands;
  }

  pub rests_later : (s : ProcStatus) (top : Option A) → RestsAs M c s top → RestsAs M d s top
  rests_later (Entry o) top h = waits_later is_entry o top h
  rests_later (Cond o) top h = waits_later is_wait o top h
  rests_later (Urgent o) top h = waits_later is_signal o top h
  rests_later Ready top h = tt
  rests_later Ended top h = tt
  rests_later (Failed cause line) top h = tt

-- ---- stacks

module _ {A : Type 0} (M : ActivationMeaning A) (c : Common) where
  -- of the same operation and on the same object
  pub record IsTheSame (x y : A) : Type 0 where
    pub operation : M.operation y ≡ M.operation x
    pub own : M.own y ≡ M.own x

  pub done_same : (x y : A) → IsDone M x y → IsTheSame x y
  done_same x y h = record { operation = h.operation; own = h.own }

  calls_same : (a x y : A) → IsTheSame x y → Calls M c a x → Calls M c a y
  calls_same a x y s h = record {
    done = h.done;
    called =
        subst (λ op. IsCalled c (M.stop a) (M.operands a) op (M.own y)) (sym s.operation)
        (subst (λ o. IsCalled c (M.stop a) (M.operands a) (M.operation x) o) (sym s.own) h.called);
  }

  pub begins_same : (p : ℕ) (x y : A) → IsTheSame x y → Begins M c p x → Begins M c p y
  begins_same zero x y s h = record { operation = s.operation ∙ h.operation; own = s.own ∙ h.own; class = h.class }
  begins_same (suc p) x y s h = record {
    of = h.of;
    is = subst (λ o. class_on c o ≡ Some h.of) (sym s.own) h.is;
    section = h.section ∙ ap Some (sym s.operation);
  }

  pub calls_below : (xs : List A) (x : A) → EachCalls M c (xs ++ x ∷ []) → EachCalls M c xs
  calls_below [] x h = tt
  calls_below (a ∷ []) x h = tt
  calls_below (a ∷ b ∷ bs) x h = (h.0, calls_below (b ∷ bs) x h.1)

  pub calls_top : (xs : List A) (x y : A) → IsTheSame x y → EachCalls M c (xs ++ x ∷ []) → EachCalls M c (xs ++ y ∷ [])
  calls_top [] x y s h = tt
  calls_top (a ∷ []) x y s h = (calls_same a x y s h.0, tt)
  calls_top (a ∷ b ∷ bs) x y s h = (h.0, calls_top (b ∷ bs) x y s h.1)

  pub calls_push : (xs : List A) (x b : A) → EachCalls M c (xs ++ x ∷ []) → Calls M c x b → EachCalls M c ((xs ++ x ∷ []) ++ b ∷ [])
  calls_push [] x b h k = (k, tt)
  calls_push (a ∷ []) x b h k = (h.0, (k, tt))
  calls_push (a ∷ e ∷ es) x b h k = (h.0, calls_push (e ∷ es) x b h.1 k)

  pub lowest_below : (p : ℕ) (xs : List A) (x : A) → LowestBegins M c p (xs ++ x ∷ []) → LowestBegins M c p xs
  lowest_below p [] x h = tt
  lowest_below p (a ∷ more) x h = h

  pub lowest_top : (p : ℕ) (xs : List A) (x y : A) → IsTheSame x y → LowestBegins M c p (xs ++ x ∷ []) → LowestBegins M c p (xs ++ y ∷ [])
  lowest_top p [] x y s h = begins_same p x y s h
  lowest_top p (a ∷ more) x y s h = h

  pub lowest_push : (p : ℕ) (xs : List A) (x b : A) → LowestBegins M c p (xs ++ x ∷ []) → LowestBegins M c p ((xs ++ x ∷ []) ++ b ∷ [])
  lowest_push p [] x b h = h
  lowest_push p (a ∷ more) x b h = h

  -- ---- an activation has left, and the one below it is done

  module _ (stays : StaysItself M) (given : Option Value) where
    pub calls_left : (xs : List A) → EachCalls M c xs → EachCalls M c (finish_top M (below_of xs) (top_of xs) given)
    calls_left xs h = by (top_of xs) refl
      where
        by : (t : Option A) → top_of xs ≡ t → EachCalls M c (finish_top M (below_of xs) t given)
        by None e = tt
        by (Some x) e =
            calls_top (below_of xs) x (M.finished x given) (done_same x (M.finished x given) (stays.finished x given))
            (subst (λ ys. EachCalls M c ys) (stack_parts xs x e) h)

    pub lowest_left : (p : ℕ) (xs : List A) → LowestBegins M c p xs → LowestBegins M c p (finish_top M (below_of xs) (top_of xs) given)
    lowest_left p xs h = by (top_of xs) refl
      where
        by : (t : Option A) → top_of xs ≡ t → LowestBegins M c p (finish_top M (below_of xs) t given)
        by None e = tt
        by (Some x) e =
            lowest_top p (below_of xs) x (M.finished x given) (done_same x (M.finished x given) (stays.finished x given))
            (subst (λ ys. LowestBegins M c p ys) (stack_parts xs x e) h)
