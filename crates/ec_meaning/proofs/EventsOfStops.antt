-- No stop's action reads events: whatever happened before, it adds the same events, and the rest is the same.
use Rattle.std.proofs.Common.{◌≡◌, ℕ, zero, suc, ◌∙◌, Bool, true, false, List, [], ◌∷◌, ◌++◌, length, Option, Some, None, refl, sym}
use Rattle.std.proofs.Common.{ap, append-nil}
use Rattle.ec_monitors.specs.declared.record.MonitorRec.{MonitorRec}
use Rattle.ec_monitors.specs.declared.record.Granted.{Granted}
use Rattle.ec_monitors.specs.declared.record.Entry.{Entry as Within}
use Rattle.ec_monitors.specs.Monitors.{Granting, entered, left, waited, signalled}
use Rattle.ec_world.specs.declared.value.Value.{Value}
use Rattle.ec_world.specs.declared.class.ClassNo.{ClassNo}
use Rattle.ec_world.specs.declared.class.ClassRec.{ClassRec}
use Rattle.ec_world.specs.declared.common.Common.{Common}
use Rattle.ec_world.specs.declared.doing.Doing.{Doing}
use Rattle.ec_world.specs.declared.doing.Doing.TheVariants.{Passes, Prints, Defines, Stores, Makes, MakesVector, Invokes, Returns}
use Rattle.ec_world.specs.declared.doing.Doing.TheVariants.{Moves, Unfixes, Enters, Waits, Signals, Finishes, Breaks}
use Rattle.ec_world.specs.declared.doing.Section.{Section}
use Rattle.ec_world.specs.declared.event.Event.{Event}
use Rattle.ec_world.specs.declared.event.Event.TheVariants.{Created, Moved}
use Rattle.ec_world.specs.declared.object.ObjectRec.{ObjectRec}
use Rattle.ec_world.specs.declared.stop.Effect.{Effect}
use Rattle.ec_world.specs.declared.stop.Effect.TheVariants.{Leaves, Blocks}
use Rattle.ec_world.specs.declared.stop.Queue.TheVariants.{ForCondition}
use Rattle.ec_world.specs.declared.stop.Stop.{Stop}
use Rattle.ec_world.specs.declared.stop.Who.{Who}
use Rattle.ec_world.specs.Doings.{Asked, doing_of}
use Rattle.ec_world.specs.Group.{links_of, wanted, mark_all, spread, rounds, none_marked, marked_from, group_of}
use Rattle.ec_world.specs.Objects.{class_at}
use Rattle.ec_world.specs.Outcomes.{Acted, Done, acted_if, acting, at_condition, by_holder, done, entering, entry_done, left_behind}
use Rattle.ec_world.specs.Outcomes.{made_object, monitor_of, outcome_of, return_done, section_on, signal_done, signal_effect, wait_done}
use Rattle.ec_world.specs.Sights.{sight_of}
use Rattle.ec_world.proofs.Seeing.{SameSight, doing_same}

-- all of a world but its processes, with other events
abbrev pub rebased : Common → List Event → Common
rebased c es = record c { events = es }

abbrev pub done_with : Done → List Event → Done
done_with (c, o) es = (rebased c es, o)

abbrev pub acted_with : Acted → List Event → Acted
acted_with None es = None
acted_with (Some (c, o)) es = Some (rebased c es, o)

-- ---- groups

wanted_same : (marks : List Bool) (c : Common) (es : List Event) (oid : ℕ) → wanted (rebased c es) oid marks ≡ wanted c oid marks
wanted_same [] c es oid = refl
wanted_same (true ∷ ms) c es oid = ap (λ (l : List ℕ). links_of c oid ++ l) (wanted_same ms c es (suc oid))
wanted_same (false ∷ ms) c es oid = wanted_same ms c es (suc oid)

rounds_same : (n : ℕ) (c : Common) (es : List Event) (marks : List Bool) → rounds (rebased c es) n marks ≡ rounds c n marks
unfolding rounds
rounds_same zero c es marks = refl
rounds_same (suc n) c es marks =
    ap (λ (l : List ℕ). rounds (rebased c es) n (mark_all l 1 marks)) (wanted_same marks c es 1) ∙ rounds_same n c es (spread c marks)

group_same : (c : Common) (x : ℕ) (es : List Event) → group_of (rebased c es) x ≡ group_of c x
group_same c x es = ap (λ (l : List Bool). marked_from 1 l)
    (rounds_same (length c.objects) c es (mark_all (x ∷ []) 1 (none_marked c.objects)))

-- a world sees the same whatever happened before
same_sight : (c : Common) (es : List Event) → SameSight (sight_of (rebased c es)) (sight_of c)
same_sight c es = record {
  nodes = refl;
  classes = refl;
  constants = refl;
  class = λ oid. refl;
  size = λ oid. refl;
  element = λ oid index. refl;
  fixed = λ oid. refl;
  group = λ oid. group_same c oid es;
}

-- ---- what is done

-- an act adds no event, or the same ones whatever happened before it
abbrev pub Keeps : Common → (Common → Done) → Type 0
Keeps c act = (es : List Event) → act (rebased c es) ≡ done_with (act c) es

abbrev pub Adds : Common → (Common → Done) → Type 0
Adds c act = (added : List Event) × ((es : List Event) → act (rebased c es) ≡ done_with (act c) (es ++ added))

adds_none : (c : Common) (act : Common → Done) → Keeps c act → Adds c act
adds_none c act keeps = ([], λ es. keeps es ∙ ap (done_with (act c)) (sym (append-nil es)))

adds_made : (o : Option ClassRec) (c : Common) (who : Who) (class : ClassNo) (given : List Value) →
    Adds c (λ d. made_object d who class given o)
adds_made None c who class given = adds_none c (λ d. made_object d who class given None) (λ es. refl)
adds_made (Some k) c who class given = (Created (suc (length c.objects)) who.own ∷ [], λ es. refl)

-- ---- monitors

keeps_entering : (x : MonitorRec × Within) (c : Common) (own : ℕ) → Keeps c (λ d. entering d own x)
keeps_entering (m, within) c own = λ es. refl

keeps_entry : (o : Option MonitorRec) (c : Common) (who : Who) → Keeps c (λ d. entry_done d who o)
keeps_entry None c who = λ es. refl
keeps_entry (Some m) c who = keeps_entering (entered m who.process) c who.own

keeps_acting : (g : Granting) (c : Common) (own : ℕ) (effect : Option Granted → Effect) (started : Option Section) →
    Keeps c (λ d. acting d own effect started g)
keeps_acting (m, granted) c own effect started = λ es. refl

keeps_wait : (o : Option MonitorRec) (c : Common) (who : Who) (condition : ℕ) → Keeps c (λ d. wait_done d who condition o)
keeps_wait None c who condition = λ es. refl
keeps_wait (Some m) c who condition =
    keeps_acting (by_holder who.process m (at_condition m condition (waited m condition))) c who.own
    (λ granted. Blocks ForCondition who.own) None

keeps_signal : (o : Option MonitorRec) (c : Common) (who : Who) (condition : ℕ) → Keeps c (λ d. signal_done d who condition o)
keeps_signal None c who condition = λ es. refl
keeps_signal (Some m) c who condition =
    keeps_acting (by_holder who.process m (at_condition m condition (signalled m condition))) c who.own (signal_effect who.own) None

keeps_left : (o : Option MonitorRec) (c : Common) (who : Who) (given : Option Value) (started : Option Section) →
    Keeps c (λ d. left_behind d who given started o)
keeps_left None c who given started = λ es. refl
keeps_left (Some m) c who given started = keeps_acting (by_holder who.process m (left m)) c who.own (λ granted. Leaves given) started

keeps_return : (leaves : Bool) (c : Common) (who : Who) (given : Option Value) (started : Option Section) →
    Keeps c (λ d. return_done d who given leaves started)
keeps_return true c who given started = keeps_left (monitor_of c who.own) c who given started
keeps_return false c who given started = keeps_left None c who given started

-- ---- the table

done_adds : (doing : Doing) (c : Common) (who : Who) → Adds c (λ d. done d who doing)
done_adds (Passes given) c who = adds_none c (λ d. done d who (Passes given)) (λ es. refl)
done_adds (Prints s) c who = adds_none c (λ d. done d who (Prints s)) (λ es. refl)
done_adds (Defines index v) c who = adds_none c (λ d. done d who (Defines index v)) (λ es. refl)
done_adds (Stores oid i v) c who = adds_none c (λ d. done d who (Stores oid i v)) (λ es. refl)
done_adds (Makes class given) c who = adds_made (class_at c.classes class) c who class given
done_adds (MakesVector of n) c who = (Created (suc (length c.objects)) who.own ∷ [], λ es. refl)
done_adds (Invokes op own args) c who = adds_none c (λ d. done d who (Invokes op own args)) (λ es. refl)
done_adds (Returns given leaves section) c who =
    adds_none c (λ d. done d who (Returns given leaves section)) (keeps_return leaves c who given (section_on who.own section))
done_adds (Moves members to None) c who = (Moved members to ∷ [], λ es. refl)
done_adds (Moves members to (Some x)) c who = (Moved members to ∷ [], λ es. refl)
done_adds (Unfixes x) c who = adds_none c (λ d. done d who (Unfixes x)) (λ es. refl)
done_adds Enters c who = adds_none c (λ d. done d who Enters) (keeps_entry (monitor_of c who.own) c who)
done_adds (Waits condition) c who = adds_none c (λ d. done d who (Waits condition)) (keeps_wait (monitor_of c who.own) c who condition)
done_adds (Signals condition) c who =
    adds_none c (λ d. done d who (Signals condition)) (keeps_signal (monitor_of c who.own) c who condition)
done_adds Finishes c who = adds_none c (λ d. done d who Finishes) (λ es. refl)
done_adds (Breaks why line) c who = adds_none c (λ d. done d who (Breaks why line)) (λ es. refl)

-- ---- both steps

abbrev pub ActedAdds : Common → (Common → Acted) → Type 0
ActedAdds c act = (added : List Event) × ((es : List Event) → act (rebased c es) ≡ acted_with (act c) (es ++ added))

some_with : (x : Done) (es : List Event) → Some (done_with x es) ≡ acted_with (Some x) es
some_with (c, o) es = refl

if_adds : (asked : Asked) (c : Common) (who : Who) → ActedAdds c (λ d. acted_if d who asked)
if_adds None c who = ([], λ es. refl)
if_adds (Some doing) c who =
    let adds = done_adds doing c who in
    (adds.0, λ es. ap Some (adds.1 es) ∙ some_with (done c who doing) (es ++ adds.0))

module _ (c : Common) (who : Who) (vs : List Value) where
  pub action_adds : (action : Stop) → ActedAdds c (λ d. outcome_of d who action vs)
  action_adds action =
      let adds = if_adds (doing_of (sight_of c) who action vs) c who in (
        adds.0,
        λ es.
            ap (acted_if (rebased c es) who) (doing_same (sight_of (rebased c es)) (sight_of c) (same_sight c es) who action vs)
            ∙ adds.1 es,
      )
