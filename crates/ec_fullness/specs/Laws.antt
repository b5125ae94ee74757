-- What an action asks of nodes is there, but for room, in each world that a system runs.
use Rattle.std.specs.Prelude.{ℕ, List, map}
use Rattle.ec_cluster.specs.Cluster.{CodeWorld}
use Rattle.ec_code.specs.Activations.{code_meaning, code_silent}
use Rattle.ec_code.specs.Typing.{Declared, kind_of}
use Rattle.ec_code.specs.declared.activation.CodeActivation.{CodeActivation}
use Rattle.ec_code.specs.declared.code.Parts.{Parts}
use Rattle.ec_fullness.specs.Fitting.{BelowTakes, CallIsNew, CalledHasNode, HasNamed, TopTakes}
use Rattle.ec_fullness.specs.FittingRoom.{RoomToDo, RoomToSettle}
use Rattle.ec_fullness.specs.Waiters.{WaitersStay}
use Rattle.ec_cluster.specs.Acting.{Asks}
use Rattle.ec_cluster.specs.SystemSteps.{CanBeDone, CanSettle, CanStart, Does, StartsBehind}
use Rattle.ec_cluster.specs.Systems.{Runs}
use Rattle.ec_cluster.specs.declared.system.System.{System}
use Rattle.ec_world.specs.Outcomes.{done}
use Rattle.ec_world.specs.Run.{after_entry, first_world}
use Rattle.ec_world.specs.declared.doing.Doing.{Doing}
use Rattle.ec_world.specs.declared.doing.Outcome.{Outcome}
use Rattle.ec_world.specs.declared.run.RunEntry.{RunEntry}
use Rattle.ec_world.specs.declared.stop.Who.{Who}

-- what holds of each action in each world that a system runs
abbrev pub OfEachAction : (System → CodeWorld → List CodeActivation → CodeActivation → Who → Doing → Type 0) → Type 0
OfEachAction Holds =
    (d : Declared) (s : System) (w : CodeWorld) (below : List CodeActivation) (top : CodeActivation) (who : Who) (doing : Doing) →
    Runs d s w → Asks w below top who doing → Holds s w below top who doing

-- Where an effect comes to the activation on top, this can take it.
abbrev pub TopCanFinish : Type 0
TopCanFinish = OfEachAction (λ s w below top who doing. TopTakes s.cluster.parts top (done w.common who doing).1.effect)

-- Where the activation on top leaves, there is one below, which can take what it leaves. Those that wait do so where code goes on.
abbrev pub BelowCanTake : Type 0
BelowCanTake =
    OfEachAction (λ s w below top who doing. WaitersStay w → BelowTakes s.cluster.parts below (done w.common who doing).1.effect)

-- Where an operation is called, an activation of it is new above the top, and the object that is called is there then; that of an
-- invocation was there before (see `DoingIsThere`).
abbrev pub CalleeBegins : Type 0
CalleeBegins =
    OfEachAction (λ s w below top who doing.
    CallIsNew s.cluster who.process below (done w.common who doing).1.effect
    × ((new : System) (o : Outcome) → Does s new w who doing o →
    CallIsNew new.cluster who.process below o.effect × CalledHasNode new.cluster o.effect))

-- A section begins only behind a return, on the object of the activation that leaves, and its operation has its entries.
abbrev pub SectionBegins : Type 0
SectionBegins =
    OfEachAction (λ s w below top who doing.
    CanStart s.cluster top.own (done w.common who doing).1.started
    × StartsBehind (done w.common who doing).1.effect (done w.common who doing).1.started)

-- What a doing names is there.
abbrev pub DoingIsThere : Type 0
DoingIsThere = OfEachAction (λ s w below top who doing. HasNamed s.cluster who doing)

-- ---- with room

-- With room for it, what an action is to do can be done.
abbrev pub DoesWithRoom : Type 0
DoesWithRoom = OfEachAction (λ s w below top who doing. RoomToDo s.cluster who doing → CanBeDone s.cluster who doing)

-- Once it is done, and with room for it, what it comes to can become of processes.
abbrev pub SettlesWithRoom : Type 0
SettlesWithRoom =
    OfEachAction (λ s w below top who doing.
    WaitersStay w → (new : System) (o : Outcome) → Does s new w who doing o → RoomToSettle new.cluster below top o.effect →
    CanSettle new.cluster who.process below top o)

-- ---- those that wait

-- In the first world nobody waits.
abbrev pub FirstWaitersStay : Type 0
FirstWaitersStay = (p : Parts) (n : ℕ) → WaitersStay (first_world code_meaning n p.classes (map kind_of p.constants))

-- Those that wait after an entry do so where code goes on, if those before did.
abbrev pub EntriesKeepWaiters : Type 0
EntriesKeepWaiters =
    (p : Parts) (w : CodeWorld) (e : RunEntry) → WaitersStay w → WaitersStay (after_entry code_meaning (code_silent p) w e)
