-- Acts on the monitor of an object that a node shows.
use Rattle.std.specs.Prelude.{◌≡◌, ℕ, Some}
use Rattle.ec_monitors.specs.declared.record.MonitorRec.{MonitorRec}
use Rattle.ec_world.specs.declared.key.Key.TheVariants.{Object}
use Rattle.ec_things.specs.Store.{Store}
use Rattle.ec_things.specs.Things.{Puts, Shown, object_thing}
use Rattle.ec_world.specs.declared.object.ObjectRec.{ObjectRec}

-- An act on the monitor of an object answers this: the object has a monitor, the answer is the act's, and the object is put with what the
-- act leaves of its monitor.
pub record ActsPut {A : Type 0} (s s' : Store) (oid : ℕ) (act : MonitorRec → MonitorRec × A) (answer : A) (o : ObjectRec) : Type 0 where
  pub before : MonitorRec
  pub had : o.monitor ≡ Some before
  pub answers : (act before).1 ≡ answer
  pub puts : Puts s s' (Object oid) (Some (object_thing oid (record o { monitor = Some (act before).0 })))

-- it does so of whichever object is shown
abbrev pub ActsOn : {A : Type 0} → Store → Store → ℕ → (MonitorRec → MonitorRec × A) → A → Type 0
ActsOn s s' oid act answer = (o : ObjectRec) → Shown s (Object oid) (object_thing oid o) → ActsPut s s' oid act answer o
