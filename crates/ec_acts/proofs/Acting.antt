-- Acts on the own monitor of who acts, at its node and in the world that is shown.
use Rattle.std.proofs.Common.{◌≡◌, ℕ, Option, Some, None, refl, sym, ap, ◌∙◌, true, false}
use Rattle.std.specs.Prelude.{Bool, ◌&&◌, length, nat_lt}
use Rattle.ec_cluster.specs.Cluster.{CodeWorld, Shows}
use Rattle.ec_cluster.specs.Steps.{Changes, MonitorActs, Nothing, with_common}
use Rattle.ec_cluster.specs.declared.cluster.Cluster.{Cluster}
use Rattle.ec_acts.proofs.DoingsHolding.{guard_open, guard_shut, holder_acts, monitor_again, other_acts}
use Rattle.ec_acts.proofs.ObjectsLemmas.{length_changed}
use Rattle.ec_acts.proofs.Stepping.{done_nothing, done_there, with_cluster}
use Rattle.ec_cluster.specs.Whereabouts.{made_count}
use Rattle.ec_monitors.specs.Monitors.{Granting, entered, is_held_by, left, signalled, waited}
use Rattle.ec_monitors.specs.declared.record.Entry.{Entry}
use Rattle.ec_monitors.specs.declared.record.Granted.{Granted}
use Rattle.ec_monitors.specs.declared.record.MonitorRec.{MonitorRec}
use Rattle.ec_cluster.specs.SystemSteps.{Does}
use Rattle.ec_cluster.specs.Systems.{Mirrors}
use Rattle.ec_cluster.specs.declared.system.System.{System}
use Rattle.ec_world.specs.Outcomes.{Done, acting, at_condition, by_holder, done, entry_done, entry_effect, left_behind}
use Rattle.ec_world.specs.Outcomes.{monitor_of, only, return_done, section_on, signal_done, signal_effect, wait_done, with_monitor}
use Rattle.ec_world.specs.declared.common.Common.{Common}
use Rattle.ec_world.specs.declared.doing.Doing.{Doing}
use Rattle.ec_world.specs.declared.doing.Doing.TheVariants.{Enters, Returns, Signals, Waits}
use Rattle.ec_world.specs.declared.doing.Outcome.{Outcome}
use Rattle.ec_world.specs.declared.doing.Section.{Section}
use Rattle.ec_world.specs.declared.object.ObjectRec.{ObjectRec}
use Rattle.ec_world.specs.declared.stop.Effect.{Effect}
use Rattle.ec_world.specs.declared.stop.Effect.TheVariants.{Blocks, GoesOn, Leaves}
use Rattle.ec_world.specs.declared.stop.Queue.TheVariants.{ForCondition}
use Rattle.ec_world.specs.declared.stop.Who.{Who}
use Rattle.ec_world.specs.declared.value.Value.{Value}

module _ (s : System) (w : CodeWorld) (who : Who) (mirrors : Mirrors s w) where
  -- ---- where the nodes stay

  pub enters_nothing : monitor_of w.common who.own ≡ None → Does s s w who Enters (only (GoesOn None))
  enters_nothing none = done_nothing s w who mirrors Enters (only (GoesOn None)) (ap (entry_done w.common who) none)

  pub waits_for_nothing : (condition : ℕ) → monitor_of w.common who.own ≡ None → Does s s w who (Waits condition) (only (GoesOn None))
  waits_for_nothing condition none =
      done_nothing s w who mirrors (Waits condition) (only (GoesOn None)) (ap (wait_done w.common who condition) none)

  pub signals_nothing : (condition : ℕ) → monitor_of w.common who.own ≡ None → Does s s w who (Signals condition) (only (GoesOn None))
  signals_nothing condition none =
      done_nothing s w who mirrors (Signals condition) (only (GoesOn None)) (ap (signal_done w.common who condition) none)

  module _ (given : Option Value) (section : Option ℕ) where
    abbrev pub leaving : Option Granted → Outcome
    leaving granted = record { effect = Leaves given; granted = granted; started = section_on who.own section }

    pub leaves_no_monitor : (leaves : Bool) → leaves ≡ false → Does s s w who (Returns given leaves section) (leaving None)
    leaves_no_monitor leaves not_so =
        done_nothing s w who mirrors (Returns given leaves section) (leaving None)
        (ap (λ x. return_done w.common who given x (section_on who.own section)) not_so)

    pub leaves_nothing : (leaves : Bool) → leaves ≡ true → monitor_of w.common who.own ≡ None →
        Does s s w who (Returns given leaves section) (leaving None)
    leaves_nothing leaves so none =
        done_nothing s w who mirrors (Returns given leaves section) (leaving None)
        (ap (λ x. return_done w.common who given x (section_on who.own section)) so
        ∙ ap (left_behind w.common who given (section_on who.own section)) none)

  -- ---- where a guard shuts

  module _ (m : MonitorRec) (is : monitor_of w.common who.own ≡ Some m) where
    -- what the guard gives then is what there is already
    shut : (effect : Option Granted → Effect) (started : Option Section) (g : Granting) → g ≡ (m, None) →
        acting w.common who.own effect started g ≡ (w.common, record { effect = effect None; granted = None; started = started })
    shut effect started g e =
        let told : Common → Done = λ c. (c, record { effect = effect None; granted = None; started = started }) in
        ap (acting w.common who.own effect started) e ∙ ap told (monitor_again w.common who.own m is)

    pub waits_outside : (condition : ℕ) → (is_held_by m who.process && nat_lt condition (length m.conditions)) ≡ false →
        Does s s w who (Waits condition) (record { effect = Blocks ForCondition who.own; granted = None; started = None })
    waits_outside condition not_so =
        done_nothing s w who mirrors (Waits condition) (record { effect = Blocks ForCondition who.own; granted = None; started = None })
        (ap (wait_done w.common who condition) is
        ∙ shut (λ granted. Blocks ForCondition who.own) None (by_holder who.process m (at_condition m condition (waited m condition)))
        (guard_shut m who.process condition (waited m condition) not_so))

    pub signals_outside : (condition : ℕ) → (is_held_by m who.process && nat_lt condition (length m.conditions)) ≡ false →
        Does s s w who (Signals condition) (record { effect = signal_effect who.own None; granted = None; started = None })
    signals_outside condition not_so =
        done_nothing s w who mirrors (Signals condition) (record { effect = signal_effect who.own None; granted = None; started = None })
        (ap (signal_done w.common who condition) is
        ∙ shut (signal_effect who.own) None (by_holder who.process m (at_condition m condition (signalled m condition)))
        (guard_shut m who.process condition (signalled m condition) not_so))

    pub leaves_outside : (given : Option Value) (section : Option ℕ) (leaves : Bool) → leaves ≡ true → is_held_by m who.process ≡ false →
        Does s s w who (Returns given leaves section) (leaving given section None)
    leaves_outside given section leaves so not_so =
        done_nothing s w who mirrors (Returns given leaves section) (leaving given section None)
        (ap (λ x. return_done w.common who given x (section_on who.own section)) so
        ∙ ap (left_behind w.common who given (section_on who.own section)) is
        ∙ shut (λ granted. Leaves given) (section_on who.own section) (by_holder who.process m (left m))
        (other_acts m who.process (left m) not_so))

  -- ---- where the monitor is acted on

  module _ (c' : Cluster) (changes : Changes Nothing s.cluster c') (whereabouts : c'.whereabouts ≡ s.cluster.whereabouts) where
    acted : (m : MonitorRec) (doing : Doing) (o : Outcome) → Shows c' (with_common w (with_monitor w.common who.own m)) →
        done w.common who doing ≡ (with_monitor w.common who.own m, o) → Does s (with_cluster s c') w who doing o
    acted m doing o shown is =
        done_there s w who mirrors c' (with_monitor w.common who.own m) Nothing doing o changes shown
        (record { nodes = refl; classes = refl; constants = refl }) refl
        (length_changed w.common.objects (λ (o : ObjectRec). record o { monitor = Some m }) who.own ∙ mirrors.objects
        ∙ ap made_count (sym whereabouts))
        (λ k text none. absurd none) is

    pub entered_there : (e : Entry) → MonitorActs c' w who.own (λ m. entered m who.process) e →
        Does s (with_cluster s c') w who Enters (only (entry_effect who.own e))
    entered_there e acts =
        let told : Entry → Done =
        λ x. (with_monitor w.common who.own (entered acts.before who.process).0, only (entry_effect who.own x)) in
        acted (entered acts.before who.process).0 Enters (only (entry_effect who.own e)) acts.shown
        (ap (entry_done w.common who) acts.had ∙ ap told acts.answers)

    module _ (m : MonitorRec) (is : monitor_of w.common who.own ≡ Some m) where
      -- the monitor that was acted on is the one that was looked at
      module _ (act : MonitorRec → Granting) (granted : Option Granted) (acts : MonitorActs c' w who.own act granted) where
        same : acts.before ≡ m
        same = let had = acts.had in cc

        opened : (effect : Option Granted → Effect) (started : Option Section) (g : Granting) → g ≡ act m →
            acting w.common who.own effect started g
            ≡ (with_monitor w.common who.own (act acts.before).0, record { effect = effect granted; granted = granted; started = started })
        opened effect started g e =
            let told : Option Granted → Done =
            λ x. (with_monitor w.common who.own (act acts.before).0, record { effect = effect x; granted = x; started = started }) in
            ap (acting w.common who.own effect started) (e ∙ ap act (sym same)) ∙ ap told acts.answers

      pub waited_there : (condition : ℕ) (granted : Option Granted) →
          (is_held_by m who.process && nat_lt condition (length m.conditions)) ≡ true →
          MonitorActs c' w who.own (λ m. waited m condition) granted →
          Does s (with_cluster s c') w who (Waits condition)
          (record { effect = Blocks ForCondition who.own; granted = granted; started = None })
      waited_there condition granted may acts =
          acted (waited acts.before condition).0 (Waits condition)
          (record { effect = Blocks ForCondition who.own; granted = granted; started = None }) acts.shown
          (ap (wait_done w.common who condition) is
          ∙ opened (λ m. waited m condition) granted acts (λ granted. Blocks ForCondition who.own) None
          (by_holder who.process m (at_condition m condition (waited m condition)))
          (guard_open m who.process condition (waited m condition) may))

      pub signalled_there : (condition : ℕ) (granted : Option Granted) →
          (is_held_by m who.process && nat_lt condition (length m.conditions)) ≡ true →
          MonitorActs c' w who.own (λ m. signalled m condition) granted →
          Does s (with_cluster s c') w who (Signals condition)
          (record { effect = signal_effect who.own granted; granted = granted; started = None })
      signalled_there condition granted may acts =
          acted (signalled acts.before condition).0 (Signals condition)
          (record { effect = signal_effect who.own granted; granted = granted; started = None }) acts.shown
          (ap (signal_done w.common who condition) is
          ∙ opened (λ m. signalled m condition) granted acts (signal_effect who.own) None
          (by_holder who.process m (at_condition m condition (signalled m condition)))
          (guard_open m who.process condition (signalled m condition) may))

      pub left_there : (given : Option Value) (section : Option ℕ) (leaves : Bool) (granted : Option Granted) → leaves ≡ true →
          is_held_by m who.process ≡ true → MonitorActs c' w who.own left granted →
          Does s (with_cluster s c') w who (Returns given leaves section) (leaving given section granted)
      left_there given section leaves granted so holds acts =
          acted (left acts.before).0 (Returns given leaves section) (leaving given section granted) acts.shown
          (ap (λ x. return_done w.common who given x (section_on who.own section)) so
          ∙ ap (left_behind w.common who given (section_on who.own section)) is
          ∙ opened left granted acts (λ granted. Leaves given) (section_on who.own section) (by_holder who.process m (left m))
          (holder_acts m who.process (left m) holds))
