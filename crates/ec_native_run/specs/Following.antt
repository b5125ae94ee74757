-- How far a run has come on a network.
use Rattle.std.specs.Prelude.{◌≡◌, ◌<◌, ◌≤◌, ◌^◌, ℕ, List, length, Some}
use Rattle.ec_cluster.specs.Cluster.{CodeWorld}
use Rattle.ec_cluster.specs.Whereabouts.{moves_of}
use Rattle.ec_code.specs.Activations.{code_meaning, code_silent}
use Rattle.ec_code.specs.Typing.{Declared}
use Rattle.ec_report.specs.Comes.{Comes}
use Rattle.ec_report.specs.Driver.{HasEnded}
use Rattle.ec_report.specs.Progress.{Progress}
use Rattle.ec_report.specs.declared.driver.Refusal.{Refusal}
use Rattle.ec_report.specs.declared.driver.Refusal.TheVariants as refusals
use Rattle.ec_acts.specs.Loaded.{Loaded}
use Rattle.ec_acts.specs.Worlds.{world_first}
use Rattle.ec_meaning.specs.Programs.{Source}
use Rattle.ec_native_run.specs.Entries.{Along}
use Rattle.ec_native_run.specs.Runs.{AreNodes, run_report}
use Rattle.ec_world.specs.declared.room.Part.{Part}
use Rattle.ec_network.specs.Nets.{AreCode, Net, counts_of, numbers_of, system_of}
use Rattle.ec_network.specs.Networks.{ForStanding}
use Rattle.ec_network.specs.Standing.{Stands}
use Rattle.ec_network.specs.declared.nodes_running.turns.NetError.{NetError}
use Rattle.ec_network.specs.declared.nodes_running.turns.NetError.TheVariants.{Full, Memory}
use Rattle.ec_report.specs.Status.{status_of}
use Rattle.ec_report.specs.declared.end.ReportEnd.{ReportEnd}
use Rattle.ec_report.specs.declared.status.Status.{Status}
use Rattle.ec_rooms.specs.Runs.{NextFull, NoneFullBefore, PoolAfter, code_run}
use Rattle.ec_rooms.specs.Standing.{ShowsWith}
use Rattle.ec_cluster.specs.declared.system.System.{System}
use Rattle.ec_world.specs.Run.{statuses_of}
use Rattle.ec_world.specs.declared.node.NodeSpec.{NodeSpec}
use Rattle.ec_world.specs.declared.process.ProcStatus.{ProcStatus}
use Rattle.ec_world.specs.declared.run.Entry.{Entry}

-- of each world in which a network stands, that has as many nodes as these
abbrev pub ForNodes : Net → List NodeSpec → (CodeWorld → Type 0) → Type 0
ForNodes net specs P = ForStanding net (λ d s w. w.common.nodes ≡ length specs → P w)

-- why an entry wasn't done
abbrev pub refusal_of : NetError → Refusal
refusal_of (Full lack) = refusals.Full lack.node lack.part lack.need lack.free
refusal_of (Memory e) = refusals.Memory

-- From a system that was just loaded onto nodes, the run of its program along a schedule, within a budget of entries, has come to a system
-- that stands in its world, with this progress: entries have led there, each of them found room, and no earlier one was the last. The
-- system has the sizes of the nodes, and the texts of the worlds on the way. No object has moved more often than entries are done, which
-- are counted in 64 bits.
pub record HasCome (specs : List NodeSpec) (start : System) (schedule : List Entry) (budget : ℕ) (statuses : List ProcStatus)
    (progress : Progress) (now : System) (w : CodeWorld) : Type 0 where
  pub nodes : AreNodes specs
  pub loaded : Loaded start.cluster.parts start.cluster.images specs start
  pub declared : Declared
  pub code : AreCode declared start.cluster.parts start.cluster.images
  pub parts : now.cluster.parts ≡ start.cluster.parts
  pub comes : Comes code_meaning (code_silent start.cluster.parts) (world_first (length specs) start.cluster.parts) schedule budget
      statuses progress w
  pub stands : Stands declared now w
  pub along : Along start.cluster.parts start (world_first (length specs) start.cluster.parts)
      (code_run start.cluster.parts (length specs) schedule progress.done).done now
  pub fits : NoneFullBefore start.cluster.parts specs schedule progress.done
  pub shows : ShowsWith specs now w (PoolAfter start.cluster.parts (length specs) schedule progress.done)
  pub few : budget < 2 ^ 64
  pub moves : (x : ℕ) → moves_of now.cluster.whereabouts x ≤ progress.done

-- so it is for two networks, of which the later one has the numbers of classes that the earlier one had
pub record Follows (specs : List NodeSpec) (old : Net) (schedule : List Entry) (budget : ℕ) (statuses : List ProcStatus)
    (progress : Progress) (net : Net) : Type 0 where
  pub start : System
  pub started : system_of old ≡ Some start
  pub now : System
  pub is : system_of net ≡ Some now
  pub numbers : numbers_of net ≡ numbers_of old
  pub world : CodeWorld
  pub come : HasCome specs start schedule budget statuses progress now world

-- the entry that follows k entries of the run from a network that was just loaded finds a node full
abbrev pub FullNext : List NodeSpec → Net → List Entry → ℕ → ℕ → Part → ℕ → ℕ → Type 0
FullNext specs old schedule k node part need free = (start : System) → system_of old ≡ Some start →
    NextFull start.cluster.parts specs schedule k node part need free

-- the run has come to its end on the network
abbrev pub IsEnded : List NodeSpec → Net → List Entry → (budget done : ℕ) → ReportEnd → Net → Type 0
IsEnded specs old schedule budget done end net = HasEnded (Follows specs) (FullNext specs) old schedule budget done end net

-- the status and the text of a run that has come to its end on the network; classes are named as in this source
pub record IsReported (s : Source) (specs : List NodeSpec) (schedule : List Entry) (budget : ℕ) (old net : Net) (status : Status)
    (text : List ℕ) : Type 0 where
  pub done : ℕ
  pub how : ReportEnd
  pub ended : IsEnded specs old schedule budget done how net
  pub status_is : status ≡ status_of (statuses_of ended.stands.world) how
  pub text_is : text ≡ run_report s ended.stands.world specs (counts_of net) done how
