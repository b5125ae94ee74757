-- Depths of monitors stay what has entered, entry by entry.
use Rattle.std.proofs.Common.{◌≡◌, ◌≢◌, ◌∙◌, ◌∷◌, ◌++◌, ◌≤◌, ◌+◌, ◌==◌, ℕ, zero, suc, Bool, true, false, [], List, length, replicate}
use Rattle.std.proofs.Common.{Option, Some, None, refl, sym, ap, subst, arith}
use Rattle.std.proofs.lemmas.Bool.Decides.{Decides-eqb}
use Rattle.std.proofs.lemmas.List.{append-nil}
use Rattle.std.specs.Prelude.{◌&&◌, not, slice_get, slice_set}
use Rattle.ec_base.proofs.Stacks.{top_of-push}
use Rattle.ec_base.specs.Stack.{below_of, top_of}
use Rattle.ec_monitors.proofs.Depths.{each_deep}
use Rattle.ec_monitors.specs.Laws.{HasDepths}
use Rattle.ec_monitors.specs.Standing.{WaitsNowhere, one_if}
use Rattle.ec_monitors.specs.declared.record.MonitorRec.{MonitorRec}
use Rattle.ec_world.proofs.Counting.{count_if, count_none, equal_case, one_itself}
use Rattle.ec_world.specs.declared.class.ClassRec.{ClassRec}
use Rattle.ec_world.specs.declared.common.Common.{Common}
use Rattle.ec_world.specs.declared.doing.Doing.{Doing}
use Rattle.ec_world.specs.declared.doing.Doing.TheVariants.{Passes, Prints, Defines, Stores, Makes, MakesVector, Invokes, Returns}
use Rattle.ec_world.specs.declared.doing.Doing.TheVariants.{Moves, Unfixes, Enters, Waits, Signals, Finishes, Breaks}
use Rattle.ec_world.specs.declared.doing.Outcome.{Outcome}
use Rattle.ec_world.specs.declared.doing.Section.{Section}
use Rattle.ec_world.specs.declared.object.ObjectRec.{ObjectRec}
use Rattle.ec_world.specs.declared.process.Cause.{Cause}
use Rattle.ec_world.specs.declared.process.Proc.{Proc}
use Rattle.ec_world.specs.declared.process.ProcStatus.TheVariants.{Ready}
use Rattle.ec_world.specs.declared.run.RunEntry.{RunEntry}
use Rattle.ec_world.specs.declared.stop.Effect.{Effect}
use Rattle.ec_world.specs.declared.stop.Effect.TheVariants.{GoesOn, Calls as CallsFor, Leaves, Blocks, Ends, Fails}
use Rattle.ec_world.specs.declared.stop.Stop.TheVariants as stop
use Rattle.ec_world.specs.declared.stop.Who.{Who}
use Rattle.ec_world.specs.declared.value.Value.{Value}
use Rattle.ec_world.specs.declared.value.ValueType.{ValueType}
use Rattle.ec_world.specs.declared.world.World.{World}
use Rattle.ec_world.specs.Doings.{doing_of, is_inside, is_section, runs_inside}
use Rattle.ec_world.specs.Follows.{IsKept}
use Rattle.ec_world.specs.declared.event.Event.{Event}
use Rattle.ec_world.specs.Meaning.{ActivationMeaning}
use Rattle.ec_world.specs.Moves.{OperatorMove}
use Rattle.ec_world.specs.Objects.{object_at}
use Rattle.ec_world.specs.Outcomes.{Done, all_granted, done, dropped_each, monitor_if, monitor_of}
use Rattle.ec_world.specs.Run.{after_entries, first_world, node_object, program_object}
use Rattle.ec_world.specs.Sights.{class_of, sight_of}
use Rattle.ec_world.specs.World.{Action, GoOn, advanced, all_readied, begun_for, changed, finish_top, given_up, owns_of, settled, stack_at, who_of}
use Rattle.ec_reached.proofs.Asking.{and_false, AllThere, IsObject, all_there, asked_later, asked_owns, asked_push, asks, begun_none, below_calls, come_asks}
use Rattle.ec_reached.proofs.Asking.{coming_asks, left_asked, lowest_alone, lowest_outside, may_ask, may_same, not_pending, stay_asked, within_later}
use Rattle.ec_reached.proofs.Deepening.{MayDo, MayLeave, NowhereIn, balance, each_none, each_none_before, given_other, is_enters, is_leaving}
use Rattle.ec_reached.proofs.Depths.{deep, deep_holds, nowhere_deep}
use Rattle.ec_reached.proofs.Doing.{does, given_classes}
use Rattle.ec_reached.proofs.Later.{Later, later_then, stays_by}
use Rattle.ec_reached.proofs.Monitors.{Holds, first_holds, kept_good, monitor_in, nowhere}
use Rattle.ec_reached.proofs.Procs.{EachAt, all_none, both_none, each_push, each_readied, each_set, none_behind, set_none}
use Rattle.ec_reached.proofs.Shapes.{enters_inside, enters_there, is_staying, keeps_top, leaves_on, none_given, stays_on}
use Rattle.ec_reached.proofs.Stacking.{Fits, first_fits, kept}
use Rattle.ec_reached.proofs.Steps.{Acting, IsThere, by_action, by_entries, by_move, by_silent, is_there}
use Rattle.ec_reached.proofs.Table.{enters, finishes, returns, returns_inside}
use Rattle.ec_reached.specs.Depths.{DepthsFit, MonitorFits, asked_of, times_asked, times_asked_if}
use Rattle.ec_reached.specs.Meant.{IsNotCalled, StaysItself, StepsStay, StepsStop, is_coming, is_end, is_ending, is_entry}
use Rattle.ec_reached.specs.Stacks.{Begins, EachCalls, LowestBegins, class_on, runs_within}

-- no monitors are there at first
first_none : (n i : ℕ) → monitor_if (slice_get (replicate n node_object ++ program_object ∷ []) i) ≡ None
first_none zero zero = refl
first_none zero (suc i) = refl
first_none (suc n) zero = refl
first_none (suc n) (suc i) = first_none n i

pub first_monitors : (n o : ℕ) → monitor_if (object_at (replicate n node_object ++ program_object ∷ []) o) ≡ None
first_monitors n zero = refl
first_monitors n (suc i) = first_none n i

-- an operation that runs in a monitor finds one
monitor_by : (op : ℕ) (k : Option ClassRec) (t : Option MonitorRec) → MonitorFits k t → runs_inside k op ≡ true →
    (m : MonitorRec) × (t ≡ Some m)
monitor_by op None None h e = absurd cc
monitor_by op None (Some m) h e = absurd h
monitor_by op (Some k) None h e = absurd (let n : false ≡ true = sym (ap (λ b. b && not (is_section k.process op)) h) ∙ e in cc)
monitor_by op (Some k) (Some m) h e = (m, refl)

leaving_is : (given : Option Value) (b : Bool) (section : Option ℕ) → is_leaving (Returns given b section) ≡ b
leaving_is given true section = refl
leaving_is given false section = refl

entering_not : (given : Option Value) (b : Bool) (section : Option ℕ) → is_enters (Returns given b section) ≡ false
entering_not given b section = refl

keeps_none : (doing : Doing) → keeps_top doing ≡ true → is_leaving doing ≡ false
keeps_none (Returns given inside section) e = absurd cc
keeps_none (Passes given) e = refl
keeps_none (Prints s) e = refl
keeps_none (Defines index v) e = refl
keeps_none (Stores oid i v) e = refl
keeps_none (Makes class given) e = refl
keeps_none (MakesVector of n) e = refl
keeps_none (Invokes op own args) e = refl
keeps_none (Moves members to fixes) e = refl
keeps_none (Unfixes x) e = refl
keeps_none Enters e = refl
keeps_none (Waits condition) e = refl
keeps_none (Signals condition) e = refl
keeps_none Finishes e = refl
keeps_none (Breaks why line) e = refl

count_false : (a : Bool) (n : ℕ) (b : Bool) → b ≡ false → count_if a (count_if b n) ≡ 0
count_false a n b e = ap (λ x. count_if a (count_if x n)) e ∙ count_none a

count_one : (a b : Bool) (p : ℕ) → count_if a (count_if b (one_if (p == p))) ≡ one_if (a && b)
count_one a b p = ap (λ n. count_if a (count_if b n)) (one_itself p p refl) ∙ by a b
  where
    by : (a b : Bool) → count_if a (count_if b 1) ≡ one_if (a && b)
    by true true = refl
    by true false = refl
    by false b = refl

one_other : (p q : ℕ) → p ≢ q → one_if (p == q) ≡ 0
one_other p q n = equal_case (λ b. one_if b ≡ 0) p q (λ e. absurd (n e)) (λ k. refl)

count_other : (a b : Bool) (p q : ℕ) → p ≢ q → count_if a (count_if b (one_if (p == q))) ≡ 0
count_other a b p q n =
    ap (λ x. count_if a (count_if b x)) (one_other p q n) ∙ ap (count_if a) (count_none b) ∙ count_none a

module _ {A : Type 0} (M : ActivationMeaning A) (stays : StaysItself M) where
  -- the action of a process of a world in which depths are what has entered
  module _ (w : World A) (p : ℕ) (stacks : EachAt (Fits M w.common) w.processes) (good : Holds HasDepths each_deep M w)
      (depths : DepthsFit M w) (a : Acting M w p)
      (ends : is_ending M a.top ≡ true → IsNotCalled w.common.classes (M.operation a.top)) where
    abbrev c : Common
    c = w.common

    abbrev below : List A
    below = below_of (stack_at w p)

    abbrev who : Who
    who = who_of M p below a.top

    here : IsThere w p a.top
    here = is_there w p a.top a.is_top

    was : Fits M c p here.proc
    was = stacks p here.proc here.there

    calls : EachCalls M c (below ++ a.top ∷ [])
    calls = subst (λ xs. EachCalls M c xs) here.all was.stack.calls

    lowest : LowestBegins M c p (below ++ a.top ∷ [])
    lowest = subst (λ xs. LowestBegins M c p xs) here.all was.stack.lowest

    all : AllThere M c (below ++ a.top ∷ [])
    all = all_there M c p (below ++ a.top ∷ []) lowest calls

    top_there : (xs : List A) (x : A) → AllThere M c (xs ++ x ∷ []) → IsObject c (M.own x)
    top_there [] x h = h.0
    top_there (y ∷ ys) x h = top_there ys x h.1

    asked : (o : ℕ) → times_asked M c o (below ++ a.top ∷ []) ≡ asked_of (monitor_of c o) p
    asked o =
        ap (times_asked M c o) (sym here.all) ∙ sym (ap (times_asked_if M c o) here.there) ∙ depths o p

    pub no_queue : (o : ℕ) (m : MonitorRec) → monitor_of c o ≡ Some m → WaitsNowhere m p
    no_queue o m at = nowhere HasDepths each_deep M w p a.top good.blocked a.is_top o m at

    inside_monitor : is_inside (sight_of c) who ≡ true → (m : MonitorRec) × (monitor_of c who.own ≡ Some m)
    inside_monitor e = monitor_by who.operation (class_on c who.own) (monitor_of c who.own) (good.good who.own).fits e

    -- ---- the own monitor

    leave_coming : (b : Bool) → M.stop a.top ≡ stop.Return b → is_coming M a.top ≡ false
    leave_coming b e = ap (λ t. is_entry t && M.is_pending a.top) e

    -- whoever acts inside, behind its entry, holds the own monitor
    pub may_leave : is_coming M a.top ≡ false → is_inside (sight_of c) who ≡ true → MayLeave c who
    may_leave at e =
        let m = inside_monitor e in
        let one : may_ask M c who.own a.top ≡ 1 =
        ap (λ x. one_if ((M.own a.top == who.own) && x)) e ∙ ap (λ x. one_if (x && true)) ((Decides-eqb who.own who.own).1 refl) in
        let k = asked_push M c who.own below a.top in
        let t = come_asks M c who.own a.top at in
        let s = asked who.own in
        let d : asked_of (monitor_of c who.own) p ≡ deep m.0 p = ap (λ x. asked_of x p) m.1 in
        let l : 1 ≤ deep m.0 p = omega arith in
        let n = no_queue who.own m.0 m.1 in
        let same = nowhere_deep m.0 p n in
        record { monitor = m.0; is = m.1; held = deep_holds m.0 p n l; deep = omega arith }

    may_do : (doing : Doing) → doing_of (sight_of c) who (M.stop a.top) (M.operands a.top) ≡ Some doing → MayDo c who doing
    may_do Enters e =
        let m = inside_monitor (enters (sight_of c) who (M.stop a.top) (M.operands a.top) e).1 in
        record { monitor = m.0; is = m.1 }
    may_do (Returns given true section) e =
        let at = returns (sight_of c) who (M.stop a.top) (M.operands a.top) given true section e in
        let inside = returns_inside (sight_of c) who (M.stop a.top) (M.operands a.top) given true section e in
        may_leave (leave_coming at.0 at.1) (sym inside)
    may_do (Returns given false section) e = tt
    may_do (Passes given) e = tt
    may_do (Prints s) e = tt
    may_do (Defines index v) e = tt
    may_do (Stores oid i v) e = tt
    may_do (Makes class given) e = tt
    may_do (MakesVector of n) e = tt
    may_do (Invokes op own args) e = tt
    may_do (Moves members to fixes) e = tt
    may_do (Unfixes x) e = tt
    may_do (Waits condition) e = tt
    may_do (Signals condition) e = tt
    may_do Finishes e = tt
    may_do (Breaks why line) e = tt

    -- ---- the process that acts

    abbrev owns : List ℕ
    owns = owns_of M below a.top

    abbrev after : Done → List ObjectRec
    after x = (given_up p owns x.1.effect x.0.objects).0

    -- its activations and its depths tell the same
    abbrev Mine : Done → Type 0
    Mine x =
        (o : ℕ) →
        times_asked M (record x.0 { objects = after x }) o (changed M below a.top x.1.effect).activations ≡
        asked_of (monitor_in (after x) o) p

    module _ (d : Common) (l : Later c d) (o : ℕ) where
      same_asked : times_asked M d o (below ++ a.top ∷ []) ≡ asked_of (monitor_of c o) p
      same_asked = asked_later M c d l o (below ++ a.top ∷ []) all ∙ asked o

      within : runs_within M d a.top ≡ is_inside (sight_of c) who
      within = within_later M c d l a.top (top_there below a.top all)

      pending_coming : (b : Bool) → is_entry (M.stop a.top) ≡ b → is_coming M a.top ≡ b
      pending_coming true e = ap (λ x. x && M.is_pending a.top) e ∙ a.pending
      pending_coming false e = ap (λ x. x && M.is_pending a.top) e

      -- it has asked then where it enters
      now_asks : (doing : Doing) → doing_of (sight_of c) who (M.stop a.top) (M.operands a.top) ≡ Some doing →
          may_ask M d o a.top ≡ asks M d o a.top + count_if (who.own == o) (count_if (is_enters doing) (one_if (p == p)))
      now_asks doing e = by (is_entry (M.stop a.top)) refl
        where
          by : (b : Bool) → is_entry (M.stop a.top) ≡ b →
              may_ask M d o a.top ≡ asks M d o a.top + count_if (who.own == o) (count_if (is_enters doing) (one_if (p == p)))
          by true i =
              let z = coming_asks M d o a.top (pending_coming true i) in
              let same : is_enters doing ≡ runs_within M d a.top =
              enters_inside (sight_of c) who (M.stop a.top) (M.operands a.top) doing e i ∙ sym within in
              let n = count_one (who.own == o) (is_enters doing) p in
              let m : one_if ((who.own == o) && is_enters doing) ≡ may_ask M d o a.top =
              ap (λ b. one_if ((who.own == o) && b)) same in
              omega arith
          by false i =
              let s = come_asks M d o a.top (pending_coming false i) in
              let z = count_false (who.own == o) (one_if (p == p)) (is_enters doing)
              (enters_there (sight_of c) who (M.stop a.top) (M.operands a.top) doing e i) in
              omega arith

    stay_mine : (doing : Doing) → doing_of (sight_of c) who (M.stop a.top) (M.operands a.top) ≡ Some doing → keeps_top doing ≡ true →
        Mine (done c who doing)
    stay_mine doing e keeps o =
        let x : Done = done c who doing in
        let d : Common = x.0 in
        let h = does c who doing in
        let s : is_staying x.1.effect ≡ true = stays_on c who doing keeps in
        let g : after x ≡ d.objects = none_given p owns x.1.effect d.objects s in
        subst
        (λ (os : List ObjectRec).
        times_asked M (record d { objects = os }) o (changed M below a.top x.1.effect).activations ≡ asked_of (monitor_in os o) p) (sym g)
        (let k1 = stay_asked M d o stays below a.top x.1.effect s in
        let k2 = asked_push M d o below a.top in
        let k3 = same_asked d h.later o in
        let k5 = balance c who p d doing h (may_do doing e) o in
        let k6 = count_false (who.own == o) (one_if (p == p)) (is_leaving doing) (keeps_none doing keeps) in
        let k7 = now_asks d h.later o doing e in
        omega arith)

    below_done : (x : A) → top_of below ≡ Some x → M.is_pending x ≡ false
    below_done x e = (below_calls M c below a.top x calls e).done

    leave_mine : (given : Option Value) (inside : Bool) (section : Option ℕ) →
        doing_of (sight_of c) who (M.stop a.top) (M.operands a.top) ≡ Some (Returns given inside section) →
        Mine (done c who (Returns given inside section))
    leave_mine given inside section e o =
        let doing : Doing = Returns given inside section in
        let x : Done = done c who doing in
        let d : Common = x.0 in
        let h = does c who doing in
        let at = returns (sight_of c) who (M.stop a.top) (M.operands a.top) given inside section e in
        let is_in = returns_inside (sight_of c) who (M.stop a.top) (M.operands a.top) given inside section e in
        subst
        (λ (t : Effect).
        times_asked M (record d { objects = (given_up p owns t d.objects).0 }) o (changed M below a.top t).activations ≡
        asked_of (monitor_in (given_up p owns t d.objects).0 o) p) (sym (leaves_on c who given inside section))
        (let k1 : times_asked M d o (changed M below a.top (Leaves given)).activations ≡ times_asked M d o below =
        left_asked M d o stays below a.top given below_done in
        let k2 = asked_push M d o below a.top in
        let k3 = same_asked d h.later o in
        let k5 = balance c who p d doing h (may_do doing e) o in
        let k6 = count_false (who.own == o) (one_if (p == p)) (is_enters doing) (entering_not given inside section) in
        let k7 = come_asks M d o a.top (leave_coming at.0 at.1) in
        let k8 = count_one (who.own == o) (is_leaving doing) p in
        let same : is_leaving doing ≡ runs_within M d a.top = leaving_is given inside section ∙ is_in ∙ sym (within d h.later o) in
        let k9 : one_if ((who.own == o) && is_leaving doing) ≡ may_ask M d o a.top = ap (λ b. one_if ((who.own == o) && b)) same in
        omega arith)

    end_mine : doing_of (sight_of c) who (M.stop a.top) (M.operands a.top) ≡ Some Finishes → Mine (done c who Finishes)
    end_mine e o =
        let at = finishes (sight_of c) who (M.stop a.top) (M.operands a.top) e in
        let ending : is_ending M a.top ≡ true = ap (λ t. is_end t && M.is_pending a.top) at ∙ a.pending in
        let alone : below ≡ [] = lowest_alone M c below a.top calls (ends ending) in
        let first : Begins M c p a.top = subst (λ xs. LowestBegins M c p (xs ++ a.top ∷ [])) alone lowest in
        let outside = lowest_outside M c p a.top first in
        let k = asked o in
        let s : times_asked M c o (below ++ a.top ∷ []) ≡ times_asked M c o (a.top ∷ []) =
        ap (λ xs. times_asked M c o (xs ++ a.top ∷ [])) alone in
        let z : asks M c o a.top ≡ 0 =
        ap (λ b. one_if ((who.own == o) && (b && not (is_coming M a.top)))) outside ∙ sym (count_one (who.own == o) false p) ∙ count_none (who.own == o) in
        let goal : 0 ≡ asked_of (monitor_of c o) p = omega arith in
        goal

    fail_mine : (why : Cause) (line : ℕ) → Mine (done c who (Breaks why line))
    fail_mine why line o = by (times_asked M c o (below ++ a.top ∷ [])) refl
      where
        rest : NowhereIn p c.objects
        rest = no_queue

        by : (n : ℕ) → times_asked M c o (below ++ a.top ∷ []) ≡ n → 0 ≡ asked_of (monitor_in (dropped_each p owns c.objects).0 o) p
        by zero e = sym (each_none_before p owns c.objects rest o (sym (asked o) ∙ e))
        by (suc n) e = sym (each_none p owns c.objects rest o (asked_owns M c o below a.top (omega arith)))

    mine : (doing : Doing) → doing_of (sight_of c) who (M.stop a.top) (M.operands a.top) ≡ Some doing → Mine (done c who doing)
    mine (Returns given inside section) e = leave_mine given inside section e
    mine Finishes e = end_mine e
    mine (Breaks why line) e = fail_mine why line
    mine (Passes given) e = stay_mine (Passes given) e refl
    mine (Prints s) e = stay_mine (Prints s) e refl
    mine (Defines index v) e = stay_mine (Defines index v) e refl
    mine (Stores oid i v) e = stay_mine (Stores oid i v) e refl
    mine (Makes class given) e = stay_mine (Makes class given) e refl
    mine (MakesVector of n) e = stay_mine (MakesVector of n) e refl
    mine (Invokes op own args) e = stay_mine (Invokes op own args) e refl
    mine (Moves members to fixes) e = stay_mine (Moves members to fixes) e refl
    mine (Unfixes x) e = stay_mine (Unfixes x) e refl
    mine Enters e = stay_mine Enters e refl
    mine (Waits condition) e = stay_mine (Waits condition) e refl
    mine (Signals condition) e = stay_mine (Signals condition) e refl

    -- ---- other processes

    abbrev Others : Done → Type 0
    Others x = (o q : ℕ) → p ≢ q → asked_of (monitor_in (after x) o) q ≡ asked_of (monitor_of c o) q

    others : (doing : Doing) → doing_of (sight_of c) who (M.stop a.top) (M.operands a.top) ≡ Some doing → Others (done c who doing)
    others doing e o q n =
        let x : Done = done c who doing in
        let h = does c who doing in
        let k1 = given_other p owns x.1.effect x.0.objects q n o in
        let k2 = balance c who q x.0 doing h (may_do doing e) o in
        let k3 = count_other (who.own == o) (is_leaving doing) p q n in
        let k4 = count_other (who.own == o) (is_enters doing) p q n in
        omega arith

    -- ---- the world

    record Deep (x : Done) : Type 0 where
      pub later : Later c x.0
      pub mine : Mine x
      pub others : Others x

    is_deep : Deep (done c who a.doing)
    is_deep = record { later = (does c who a.doing).later; mine = mine a.doing a.asks; others = others a.doing a.asks }

    module _ (d : Common) (o : Outcome) (h : Deep (d, o)) (objects : List ObjectRec) (freed : List ℕ)
        (is : (given_up p owns o.effect d.objects).0 ≡ objects) where
      abbrev new : Common
      new = record d { objects = objects }

      later_new : Later c new
      later_new =
          later_then c d objects h.later
          (stays_by d.objects objects
          (λ x.
          subst (λ (os : List ObjectRec). class_of (object_at os x) ≡ class_of (object_at d.objects x)) is
          (given_classes p owns o.effect d.objects x)))

      abbrev ps : List (Proc A)
      ps = slice_set w.processes p (changed M below a.top o.effect)

      abbrev qs : List (Proc A)
      qs = all_readied ps (all_granted o.granted freed)

      other_same : (x q : ℕ) → p ≢ q → asked_of (monitor_of new x) q ≡ asked_of (monitor_of c x) q
      other_same x q n =
          subst (λ (os : List ObjectRec). asked_of (monitor_in os x) q ≡ asked_of (monitor_of c x) q) is (h.others x q n)

      abbrev Same : ℕ → ℕ → Proc A → Type 0
      Same x q proc = times_asked M new x proc.activations ≡ asked_of (monitor_of new x) q

      mine_same : (x : ℕ) → Same x p (changed M below a.top o.effect)
      mine_same x =
          subst
          (λ (os : List ObjectRec).
          times_asked M (record d { objects = os }) x (changed M below a.top o.effect).activations ≡ asked_of (monitor_in os x) p) is
          (h.mine x)

      old_same : (x q : ℕ) (proc : Proc A) → q ≢ p → slice_get w.processes q ≡ Some proc → Same x q proc
      old_same x q proc n e =
          let s = stacks q proc e in
          asked_later M c new later_new x proc.activations (all_there M c q proc.activations s.stack.lowest s.stack.calls)
          ∙ sym (ap (times_asked_if M c x) e) ∙ depths x q ∙ sym (other_same x q (λ k. n (sym k)))

      all_same : (x : ℕ) → EachAt (Same x) qs
      all_same x =
          each_readied (Same x) (λ q proc k. k) ps (all_granted o.granted freed)
          (each_set (Same x) w.processes p (changed M below a.top o.effect) (old_same x) (mine_same x))

      -- who isn't there has asked for nothing
      none_same : (x q : ℕ) → slice_get w.processes q ≡ None → asked_of (monitor_of new x) q ≡ 0
      none_same x q e =
          let n : p ≢ q = (λ k. let t = here.there in let f : slice_get w.processes p ≡ None = subst (λ z. slice_get w.processes z ≡ None) (sym k) e in absurd cc) in
          other_same x q n ∙ sym (depths x q) ∙ ap (times_asked_if M c x) e

      behind : slice_get w.processes (length qs) ≡ None
      behind =
          set_none w.processes p (changed M below a.top o.effect) (length qs)
          (all_none ps (all_granted o.granted freed) (length qs) (none_behind qs))

      begun_same : (x : ℕ) (started : Option Section) → EachAt (Same x) (qs ++ begun_for M started)
      begun_same x None = subst (λ zs. EachAt (Same x) zs) (sym (append-nil qs)) (all_same x)
      begun_same x (Some s) =
          each_push (Same x) qs (record { activations = M.begun s.operation s.own [] ∷ []; status = Ready }) (all_same x)
          (begun_none M new x stays s.operation s.own ∙ sym (none_same x (length qs) behind))

      both : (x q : ℕ) (t : Option (Proc A)) → slice_get (qs ++ begun_for M o.started) q ≡ t →
          times_asked_if M new x t ≡ asked_of (monitor_of new x) q
      both x q None e =
          sym
          (none_same x q
          (set_none w.processes p (changed M below a.top o.effect) q
          (all_none ps (all_granted o.granted freed) q (both_none qs (begun_for M o.started) q e))))
      both x q (Some proc) e = begun_same x o.started q proc e

      settled_deep : DepthsFit M (settled M w p below a.top d o (objects, freed))
      settled_deep x q = both x q (slice_get (qs ++ begun_for M o.started) q) refl

    settled_by : (d : Common) (o : Outcome) → Deep (d, o) → (g : List ObjectRec × List ℕ) → (given_up p owns o.effect d.objects).0 ≡ g.0 →
        DepthsFit M (settled M w p below a.top d o g)
    settled_by d o h (objects, freed) is = settled_deep d o h objects freed is

    pub acting_deep : (d : Common) (o : Outcome) → done c who a.doing ≡ (d, o) → (g : List ObjectRec × List ℕ) →
        given_up p owns o.effect d.objects ≡ g → DepthsFit M (settled M w p below a.top d o g)
    acting_deep d o e g k = settled_by d o (subst (λ x. Deep x) e is_deep) g (ap (λ (t : List ObjectRec × List ℕ). t.0) k)

  -- ---- worlds

  -- silent steps end a process where no class has its operation for calls
  abbrev pub TopEnds : List ClassRec → List A → Type 0
  TopEnds classes xs = (a : A) → top_of xs ≡ Some a → is_ending M a ≡ true → IsNotCalled classes (M.operation a)

  pub record Whole (classes : List ClassRec) (w : World A) : Type 0 where
    pub stacks : EachAt (Fits M w.common) w.processes
    pub good : Holds HasDepths each_deep M w
    pub same : w.common.classes ≡ classes
    pub ends : EachAt (λ q proc. TopEnds classes proc.activations) w.processes
    pub depths : DepthsFit M w

  done_ends : (a : A) → M.is_pending a ≡ false → is_ending M a ≡ true → ⊥
  done_ends a e i = let f : is_ending M a ≡ false = ap (λ b. is_end (M.stop a) && b) e ∙ and_false (is_end (M.stop a)) in cc

  module _ (classes : List ClassRec) where
    push_ends : (xs : List A) (x : A) → (is_ending M x ≡ true → IsNotCalled classes (M.operation x)) → TopEnds classes (xs ++ x ∷ [])
    push_ends xs x h a e i =
        let same : x ≡ a = (let k = top_of-push xs x in cc) in
        subst (λ y. IsNotCalled classes (M.operation y)) same (h (subst (λ y. is_ending M y ≡ true) (sym same) i))

    finished_ends : (xs : List A) (x : A) (given : Option Value) → TopEnds classes (xs ++ M.finished x given ∷ [])
    finished_ends xs x given = push_ends xs (M.finished x given) (λ i. absurd (done_ends (M.finished x given) (stays.finished x given).done i))

    begun_ends : (xs : List A) (op own : ℕ) (args : List Value) → TopEnds classes (xs ++ M.begun op own args ∷ [])
    begun_ends xs op own args =
        push_ends xs (M.begun op own args)
        (λ i.
        let n = stays.begun op own args in
        let f : is_ending M (M.begun op own args) ≡ false = ap (λ t. is_end t && M.is_pending (M.begun op own args)) n.stop in
        absurd cc)

    left_ends : (xs : List A) (t : Option A) (given : Option Value) → TopEnds classes (finish_top M xs t given)
    left_ends xs None given = λ a e i. absurd cc
    left_ends xs (Some x) given = finished_ends xs x given

    changed_ends : (lowers : List A) (top : A) (e : Effect) → TopEnds classes (changed M lowers top e).activations
    changed_ends lowers top (GoesOn given) = finished_ends lowers top given
    changed_ends lowers top (CallsFor op own args) = begun_ends (lowers ++ M.finished top None ∷ []) op own args
    changed_ends lowers top (Leaves given) = left_ends (below_of lowers) (top_of lowers) given
    changed_ends lowers top (Blocks queue own) = finished_ends lowers top None
    changed_ends lowers top Ends = λ a e i. absurd cc
    changed_ends lowers top (Fails why line) = λ a e i. absurd cc

    abbrev EndsAt : ℕ → Proc A → Type 0
    EndsAt q proc = TopEnds classes proc.activations

    begun_for_ends : (ps : List (Proc A)) (started : Option Section) → EachAt EndsAt ps → EachAt EndsAt (ps ++ begun_for M started)
    begun_for_ends ps None h = subst (λ zs. EachAt EndsAt zs) (sym (append-nil ps)) h
    begun_for_ends ps (Some s) h =
        each_push EndsAt ps (record { activations = M.begun s.operation s.own [] ∷ []; status = Ready }) h (begun_ends [] s.operation s.own [])

    settled_ends : (w : World A) (p : ℕ) (top : A) (d : Common) (o : Outcome) (g : List ObjectRec × List ℕ) → EachAt EndsAt w.processes →
        EachAt EndsAt (settled M w p (below_of (stack_at w p)) top d o g).processes
    settled_ends w p top d o (objects, freed) h =
        let below = below_of (stack_at w p) in
        let ps : List (Proc A) = slice_set w.processes p (changed M below top o.effect) in
        begun_for_ends (all_readied ps (all_granted o.granted freed)) o.started
        (each_readied EndsAt (λ q proc k. k) ps (all_granted o.granted freed)
        (each_set EndsAt w.processes p (changed M below top o.effect) (λ q proc n e. h q proc e) (changed_ends below top o.effect)))

    settled_same : (w : World A) (p : ℕ) (top : A) (d : Common) (o : Outcome) (g : List ObjectRec × List ℕ) → d.classes ≡ classes →
        (settled M w p (below_of (stack_at w p)) top d o g).common.classes ≡ classes
    settled_same w p top d o (objects, freed) e = e

    pub top_ends : (w : World A) (p : ℕ) (a : Acting M w p) → Whole classes w → is_ending M a.top ≡ true →
        IsNotCalled w.common.classes (M.operation a.top)
    top_ends w p a h i =
        let here = is_there w p a.top a.is_top in
        let top : top_of here.proc.activations ≡ Some a.top = ap top_of here.all ∙ top_of-push (below_of (stack_at w p)) a.top in
        subst (λ ks. IsNotCalled ks (M.operation a.top)) (sym h.same) (h.ends p here.proc here.there a.top top i)

    -- ---- silent steps

    module _ (advance : Common → A → Common × A) (steps : StepsStay M advance) (stop_at : StepsStop M advance classes) where
      record StepDoes (c : Common) (a : A) (x : Common × A) : Type 0 where
        pub later : Later c x.0
        pub monitors : (o : ℕ) → monitor_of x.0 o ≡ monitor_of c o
        pub operation : M.operation x.1 ≡ M.operation a
        pub own : M.own x.1 ≡ M.own a
        pub no_entry : is_coming M x.1 ≡ false
        pub ends : is_ending M x.1 ≡ true → IsNotCalled classes (M.operation x.1)

      step_does : (c : Common) (a : A) → M.is_pending a ≡ false → StepDoes c a (advance c a)
      step_does c a e = record {
        later = record {
          nodes = steps.nodes c a;
          classes = steps.classes c a;
          objects = stays_by c.objects (advance c a).0.objects (steps.objects c a);
        };
        monitors = steps.monitors c a;
        operation = steps.operation c a;
        own = steps.own c a;
        no_entry = stop_at.no_entry c a e;
        ends = λ i. subst (λ op. IsNotCalled classes op) (sym (steps.operation c a)) (stop_at.ends c a e i);
      }

      module _ (w : World A) (p : ℕ) (h : Whole classes w) (top : A) (is : top_of (stack_at w p) ≡ Some top)
          (done : M.is_pending top ≡ false) where
        abbrev lower : List A
        lower = below_of (stack_at w p)

        advanced_ends : (x : Common × A) → StepDoes w.common top x → EachAt EndsAt (advanced M advance w p lower x).processes
        advanced_ends (c, new) s =
            each_set EndsAt w.processes p (record { activations = lower ++ new ∷ []; status = Ready }) (λ q proc n e. h.ends q proc e)
            (push_ends lower new s.ends)

        advanced_same : (x : Common × A) → StepDoes w.common top x → (advanced M advance w p lower x).common.classes ≡ classes
        advanced_same (c, a) s = s.later.classes ∙ h.same

        module _ (c : Common) (new : A) (s : StepDoes w.common top (c, new)) where
          abbrev Told : ℕ → ℕ → Proc A → Type 0
          Told o q proc = times_asked M c o proc.activations ≡ asked_of (monitor_of c o) q

          asked_same : (o q : ℕ) (proc : Proc A) → slice_get w.processes q ≡ Some proc → Told o q proc
          asked_same o q proc e =
              let f = h.stacks q proc e in
              asked_later M w.common c s.later o proc.activations (all_there M w.common q proc.activations f.stack.lowest f.stack.calls)
              ∙ sym (ap (times_asked_if M w.common o) e) ∙ h.depths o q ∙ ap (λ t. asked_of t q) (sym (s.monitors o))

          top_same : (o : ℕ) → Told o p (record { activations = lower ++ new ∷ []; status = Ready })
          top_same o =
              let here = is_there w p top is in
              let old = asked_same o p here.proc here.there in
              let k : times_asked M c o here.proc.activations ≡ times_asked M c o (lower ++ top ∷ []) = ap (times_asked M c o) here.all in
              let k1 = asked_push M c o lower top in
              let k2 = asked_push M c o lower new in
              let k3 = come_asks M c o top (not_pending M c o stays top done) in
              let k4 = come_asks M c o new s.no_entry in
              let k5 = may_same M c o top new s.operation s.own in
              omega arith

          ask_by : (o q : ℕ) (t : Option (Proc A)) →
              slice_get (slice_set w.processes p (record { activations = lower ++ new ∷ []; status = Ready })) q ≡ t →
              times_asked_if M c o t ≡ asked_of (monitor_of c o) q
          ask_by o q None e =
              sym
              (ap (λ t. asked_of t q) (s.monitors o) ∙ sym (h.depths o q)
              ∙ ap (times_asked_if M w.common o)
              (set_none w.processes p (record { activations = lower ++ new ∷ []; status = Ready }) q e))
          ask_by o q (Some proc) e =
              each_set (Told o) w.processes p (record { activations = lower ++ new ∷ []; status = Ready })
              (λ r other n f. asked_same o r other f) (top_same o) q proc e

        advanced_deep : (x : Common × A) → StepDoes w.common top x → DepthsFit M (advanced M advance w p lower x)
        advanced_deep (c, new) s o q =
            ask_by c new s o q (slice_get (slice_set w.processes p (record { activations = lower ++ new ∷ []; status = Ready })) q) refl

      -- ---- together

      action_whole : (w : World A) (p : ℕ) → Whole classes w → Whole classes (Action M w p)
      action_whole w p h = record {
        stacks = (kept M stays advance steps).acts w p h.stacks;
        good = (kept_good HasDepths each_deep M advance steps).acts w p h.good;
        same =
            by_action M w p (λ v. v.common.classes ≡ classes) h.same
            (λ a d o e g k.
            settled_same w p a.top d o g
            (subst (λ (x : Done). x.0.classes ≡ classes) e
            ((does w.common (who_of M p (below_of (stack_at w p)) a.top) a.doing).later.classes ∙ h.same)));
        ends =
            by_action M w p (λ v. EachAt EndsAt v.processes) h.ends (λ a d o e g k. settled_ends w p a.top d o g h.ends);
        depths =
            by_action M w p (λ v. DepthsFit M v) h.depths
            (λ a d o e g k. acting_deep w p h.stacks h.good h.depths a (top_ends w p a h) d o e g k);
      }

      go_whole : (w : World A) (p : ℕ) → Whole classes w → Whole classes (GoOn M advance w p)
      go_whole w p h = record {
        stacks = (kept M stays advance steps).goes w p h.stacks;
        good = (kept_good HasDepths each_deep M advance steps).goes w p h.good;
        same =
            by_silent M w p (λ v. v.common.classes ≡ classes) h.same advance
            (λ top is done x e. advanced_same w p h top is done x (subst (λ y. StepDoes w.common top y) e (step_does w.common top done)));
        ends =
            by_silent M w p (λ v. EachAt EndsAt v.processes) h.ends advance
            (λ top is done x e. advanced_ends w p h top is done x (subst (λ y. StepDoes w.common top y) e (step_does w.common top done)));
        depths =
            by_silent M w p (λ v. DepthsFit M v) h.depths advance
            (λ top is done x e. advanced_deep w p h top is done x (subst (λ y. StepDoes w.common top y) e (step_does w.common top done)));
      }

      move_whole : (w : World A) (o k : ℕ) → Whole classes w → Whole classes (OperatorMove w o k)
      move_whole w o k h = record {
        stacks = (kept M stays advance steps).moves w o k h.stacks;
        good = (kept_good HasDepths each_deep M advance steps).moves w o k h.good;
        same = by_move M w (λ v. v.common.classes ≡ classes) h.same (λ events. h.same) o k;
        ends = by_move M w (λ v. EachAt EndsAt v.processes) h.ends (λ events. h.ends) o k;
        depths = by_move M w (λ v. DepthsFit M v) h.depths (λ events. moved_deep events) o k;
      }
        where
          moved_deep : (events : List Event) → DepthsFit M (record w { common = record w.common { events = events } })
          moved_deep events o q = by (slice_get w.processes q) refl
            where
              by : (t : Option (Proc A)) → slice_get w.processes q ≡ t →
                  times_asked_if M (record w.common { events = events }) o t ≡ asked_of (monitor_of w.common o) q
              by None e = sym (ap (times_asked_if M w.common o) e) ∙ h.depths o q
              by (Some proc) e =
                  let f = h.stacks q proc e in
                  asked_later M w.common (record w.common { events = events })
                  (record { nodes = refl; classes = refl; objects = λ x c i. i }) o proc.activations
                  (all_there M w.common q proc.activations f.stack.lowest f.stack.calls)
                  ∙ sym (ap (times_asked_if M w.common o) e) ∙ h.depths o q

      pub kept_whole : IsKept M advance (Whole classes)
      kept_whole = record { acts = action_whole; goes = go_whole; moves = move_whole }

      -- ---- runs

      first_deep : (n : ℕ) (globals : List ValueType) → DepthsFit M (first_world M n classes globals)
      first_deep n globals o q = by q
        where
          none : (q : ℕ) → asked_of (monitor_of (first_world M n classes globals).common o) q ≡ 0
          none q = ap (λ t. asked_of t q) (first_monitors n o)

          by : (q : ℕ) → times_asked_if M (first_world M n classes globals).common o (slice_get (first_world M n classes globals).processes q) ≡
              asked_of (monitor_of (first_world M n classes globals).common o) q
          by zero = begun_none M (first_world M n classes globals).common o stays 0 (suc n) ∙ sym (none zero)
          by (suc q) = sym (none (suc q))

      pub first_whole : (n : ℕ) (globals : List ValueType) → Whole classes (first_world M n classes globals)
      first_whole n globals = record {
        stacks = first_fits M stays advance steps n classes globals;
        good = first_holds HasDepths each_deep M n classes globals;
        same = refl;
        ends = first_ends;
        depths = first_deep n globals;
      }
        where
          first_ends : (q : ℕ) (proc : Proc A) → slice_get (first_world M n classes globals).processes q ≡ Some proc →
              TopEnds classes proc.activations
          first_ends zero proc e =
              let first : Proc A = record { activations = M.begun 0 (suc n) [] ∷ []; status = Ready } in
              let same : first ≡ proc = cc in
              subst (λ (z : Proc A). TopEnds classes z.activations) same (begun_ends [] 0 (suc n) [])
          first_ends (suc q) proc e = absurd cc

      pub runs_whole : (n : ℕ) (globals : List ValueType) (es : List RunEntry) →
          Whole classes (after_entries M advance (first_world M n classes globals) es)
      runs_whole n globals es =
          by_entries M advance (Whole classes) kept_whole (first_world M n classes globals) es (first_whole n globals)
