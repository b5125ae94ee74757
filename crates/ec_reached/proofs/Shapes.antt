-- What an action does to the activations of its process, by its doing.
use Rattle.std.proofs.Common.{◌≡◌, ℕ, Bool, true, false, List, Option, Some, None, refl, sym, ap}
use Rattle.ec_monitors.specs.Monitors.{Granting, entered, left, signalled, waited}
use Rattle.ec_monitors.specs.declared.record.Entry.{Entry as Within}
use Rattle.ec_monitors.specs.declared.record.Entry.TheVariants.{Entered, Queued}
use Rattle.ec_monitors.specs.declared.record.Granted.{Granted}
use Rattle.ec_monitors.specs.declared.record.MonitorRec.{MonitorRec}
use Rattle.ec_world.specs.declared.class.ClassNo.{ClassNo}
use Rattle.ec_world.specs.declared.class.ClassRec.{ClassRec}
use Rattle.ec_world.specs.declared.common.Common.{Common}
use Rattle.ec_world.specs.declared.doing.Doing.{Doing}
use Rattle.ec_world.specs.declared.doing.Doing.TheVariants.{Passes, Prints, Defines, Stores, Makes, MakesVector, Invokes, Returns}
use Rattle.ec_world.specs.declared.doing.Doing.TheVariants.{Moves, Unfixes, Enters, Waits, Signals, Finishes, Breaks}
use Rattle.ec_world.specs.declared.doing.Section.{Section}
use Rattle.ec_world.specs.declared.object.ObjectRec.{ObjectRec}
use Rattle.ec_world.specs.declared.stop.Effect.{Effect}
use Rattle.ec_world.specs.declared.stop.Effect.TheVariants.{GoesOn, Calls, Leaves, Blocks, Ends, Fails}
use Rattle.ec_world.specs.declared.stop.Queue.TheVariants.{ForCondition}
use Rattle.ec_world.specs.declared.stop.Stop.{Stop}
use Rattle.ec_world.specs.declared.stop.Stop.TheVariants as stop
use Rattle.ec_world.specs.declared.stop.Who.{Who}
use Rattle.ec_world.specs.declared.value.Value.{Value}
use Rattle.ec_world.specs.Doings.{doing_of, entry_asks, is_inside}
use Rattle.ec_world.specs.Objects.{class_at}
use Rattle.ec_world.specs.Outcomes.{acting, at_condition, by_holder, done, entering, entry_done, entry_effect, left_behind, made_object}
use Rattle.ec_world.specs.Outcomes.{monitor_of, return_done, section_on, signal_done, signal_effect, wait_done}
use Rattle.ec_world.specs.Sights.{Sight}
use Rattle.ec_world.specs.World.{given_up}
use Rattle.ec_reached.proofs.Deepening.{is_enters}
use Rattle.ec_reached.proofs.Table.{enters}
use Rattle.ec_reached.specs.Meant.{is_entry}

-- the activation on top stays
abbrev pub is_staying : Effect → Bool
is_staying (GoesOn given) = true
is_staying (Calls op own args) = true
is_staying (Blocks queue own) = true
is_staying (Leaves given) = false
is_staying Ends = false
is_staying (Fails why line) = false

-- it doesn't leave, and its process goes on
abbrev pub keeps_top : Doing → Bool
keeps_top (Returns given inside section) = false
keeps_top Finishes = false
keeps_top (Breaks why line) = false
keeps_top _ = true

module _ (c : Common) (who : Who) where
  made : (class : ClassNo) (given : List Value) (k : Option ClassRec) → is_staying (made_object c who class given k).1.effect ≡ true
  made class given None = refl
  made class given (Some k) = refl

  entry_stays : (w : Within) → is_staying (entry_effect who.own w) ≡ true
  entry_stays Entered = refl
  entry_stays Queued = refl

  entering_stays : (g : MonitorRec × Within) → is_staying (entering c who.own g).1.effect ≡ true
  entering_stays (m, w) = entry_stays w

  entry : (t : Option MonitorRec) → is_staying (entry_done c who t).1.effect ≡ true
  entry None = refl
  entry (Some m) = entering_stays (entered m who.process)

  acts : (effect : Option Granted → Effect) (started : Option Section) (g : Granting) → ((r : Option Granted) → is_staying (effect r) ≡ true) →
      is_staying (acting c who.own effect started g).1.effect ≡ true
  acts effect started (m, r) h = h r

  waits : (condition : ℕ) (t : Option MonitorRec) → is_staying (wait_done c who condition t).1.effect ≡ true
  waits condition None = refl
  waits condition (Some m) =
      acts (λ granted. Blocks ForCondition who.own) None (by_holder who.process m (at_condition m condition (waited m condition))) (λ r. refl)

  signal_stays : (r : Option Granted) → is_staying (signal_effect who.own r) ≡ true
  signal_stays None = refl
  signal_stays (Some q) = refl

  signals : (condition : ℕ) (t : Option MonitorRec) → is_staying (signal_done c who condition t).1.effect ≡ true
  signals condition None = refl
  signals condition (Some m) =
      acts (signal_effect who.own) None (by_holder who.process m (at_condition m condition (signalled m condition))) signal_stays

  pub stays_on : (doing : Doing) → keeps_top doing ≡ true → is_staying (done c who doing).1.effect ≡ true
  stays_on (Passes given) e = refl
  stays_on (Prints s) e = refl
  stays_on (Defines index v) e = refl
  stays_on (Stores oid i v) e = refl
  stays_on (Makes class given) e = made class given (class_at c.classes class)
  stays_on (MakesVector of n) e = refl
  stays_on (Invokes op own args) e = refl
  stays_on (Returns given inside section) e = absurd cc
  stays_on (Moves members to fixes) e = refl
  stays_on (Unfixes x) e = refl
  stays_on Enters e = entry (monitor_of c who.own)
  stays_on (Waits condition) e = waits condition (monitor_of c who.own)
  stays_on (Signals condition) e = signals condition (monitor_of c who.own)
  stays_on Finishes e = absurd cc
  stays_on (Breaks why line) e = absurd cc

  leaves_by : (given : Option Value) (started : Option Section) (g : Granting) →
      (acting c who.own (λ granted. Leaves given) started g).1.effect ≡ Leaves given
  leaves_by given started (m, r) = refl

  leaves_behind : (given : Option Value) (started : Option Section) (t : Option MonitorRec) →
      (left_behind c who given started t).1.effect ≡ Leaves given
  leaves_behind given started None = refl
  leaves_behind given started (Some m) = leaves_by given started (by_holder who.process m (left m))

  leaves_if : (given : Option Value) (inside : Bool) (started : Option Section) →
      (return_done c who given inside started).1.effect ≡ Leaves given
  leaves_if given true started = leaves_behind given started (monitor_of c who.own)
  leaves_if given false started = refl

  pub leaves_on : (given : Option Value) (inside : Bool) (section : Option ℕ) →
      (done c who (Returns given inside section)).1.effect ≡ Leaves given
  leaves_on given inside section = leaves_if given inside (section_on who.own section)

-- nothing is given up where a process doesn't fail
pub none_given : (p : ℕ) (owns : List ℕ) (e : Effect) (objects : List ObjectRec) → is_staying e ≡ true → (given_up p owns e objects).0 ≡ objects
none_given p owns (GoesOn given) objects e = refl
none_given p owns (Calls op own args) objects e = refl
none_given p owns (Blocks queue own) objects e = refl
none_given p owns (Leaves given) objects e = refl
none_given p owns Ends objects e = refl
none_given p owns (Fails why line) objects e = absurd cc

-- ---- entries

entry_by : (b : Bool) (doing : Doing) → entry_asks b ≡ Some doing → is_enters doing ≡ b
entry_by true doing e = let same : Enters ≡ doing = cc in sym (ap is_enters same)
entry_by false doing e = let same : Passes None ≡ doing = cc in sym (ap is_enters same)

-- at an entry a process enters where the operation runs in the monitor of the own object
pub enters_inside : (s : Sight) (who : Who) (it : Stop) (vs : List Value) (doing : Doing) → doing_of s who it vs ≡ Some doing →
    is_entry it ≡ true → is_enters doing ≡ is_inside s who
enters_inside s who stop.Entry vs doing e i = entry_by (is_inside s who) doing e
enters_inside s who it vs doing e i = absurd cc

-- and nowhere else
pub enters_there : (s : Sight) (who : Who) (it : Stop) (vs : List Value) (doing : Doing) → doing_of s who it vs ≡ Some doing →
    is_entry it ≡ false → is_enters doing ≡ false
enters_there s who it vs Enters e i =
    absurd (let k : is_entry it ≡ true = ap is_entry (enters s who it vs e).0 in cc)
enters_there s who it vs (Passes given) e i = refl
enters_there s who it vs (Prints t) e i = refl
enters_there s who it vs (Defines index v) e i = refl
enters_there s who it vs (Stores oid n v) e i = refl
enters_there s who it vs (Makes class given) e i = refl
enters_there s who it vs (MakesVector of n) e i = refl
enters_there s who it vs (Invokes op own args) e i = refl
enters_there s who it vs (Returns given inside section) e i = refl
enters_there s who it vs (Moves members to fixes) e i = refl
enters_there s who it vs (Unfixes x) e i = refl
enters_there s who it vs (Waits condition) e i = refl
enters_there s who it vs (Signals condition) e i = refl
enters_there s who it vs Finishes e i = refl
enters_there s who it vs (Breaks why line) e i = refl
