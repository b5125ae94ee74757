-- What the run of an accepted source by machine code comes to.
use Rattle.std.specs.Prelude.{◌≡◌, ◌≤◌, ℕ, List, length, None, Some, slice_get}
use Rattle.ec_code.specs.declared.code.Parts.{Parts}
use Rattle.ec_acts.specs.Fresh.{IsNodeSize}
use Rattle.ec_emission.specs.Lowered.{IsLowered}
use Rattle.ec_meaning.specs.Activations.{source_meaning}
use Rattle.ec_meaning.specs.ClassNames.{class_name}
use Rattle.ec_meaning.specs.Meaning.{source_silent, source_start}
use Rattle.ec_meaning.specs.Programs.{Source}
use Rattle.ec_native_run.specs.Entries.{HasDone}
use Rattle.ec_world.specs.declared.room.Part.{Part}
use Rattle.ec_network.specs.Nets.{Net as NetOfNodes, counts_of}
use Rattle.ec_plain.specs.Plain.{source_run}
use Rattle.ec_code.specs.Worlds.{most_nodes}
use Rattle.ec_report.specs.Report.{load_report, node_lines, report}
use Rattle.ec_report.specs.Status.{status_of}
use Rattle.ec_report.specs.declared.end.ReportEnd.{ReportEnd}
use Rattle.ec_report.specs.declared.end.ReportEnd.TheVariants.{Ends, IsFull}
use Rattle.ec_report.specs.declared.status.Status.{Status}
use Rattle.ec_report.specs.declared.status.Status.TheVariants as statuses
use Rattle.ec_rooms.specs.Rooms.{LoadFull}
use Rattle.ec_rooms.specs.Runs.{NextFull, NoneFullBefore}
use Rattle.ec_world.specs.Run.{Reaches, Run, end_of, statuses_of}
use Rattle.ec_world.specs.declared.class.VectorType.{VectorType}
use Rattle.ec_world.specs.declared.node.NodeSpec.{NodeSpec}
use Rattle.ec_world.specs.declared.run.Entry.{Entry}
use Rattle.ec_world.specs.declared.run.RunEnd.{RunEnd}
use Rattle.ec_world.specs.declared.world.World.{World}

-- what a network is to those who hand one in for a run
abbrev pub Net : Type 0
Net = NetOfNodes

-- 1 to 64 nodes of either kind, each of at most 65,536 blocks and 16,777,216 bytes of text
pub record AreNodes (specs : List NodeSpec) : Type 0 where
  pub some : 1 ≤ length specs
  pub few : length specs ≤ most_nodes
  pub sizes : (k : ℕ) (spec : NodeSpec) → slice_get specs k ≡ Some spec → IsNodeSize spec

-- How the run of a source comes to its end: by itself after k entries, or as the next one finds a node full while fewer are done than the
-- budget and there is more to do. Its room is that of the program it is lowered to.
pub data EndsAfter (s : Source) (p : Parts) (specs : List NodeSpec) (schedule : List Entry) (budget k : ℕ) : ReportEnd → Type 0 where
  ByItself : (how : RunEnd) →
      Run source_meaning (source_silent s) (source_start s (length specs)) schedule budget k
      (source_run s (length specs) schedule k) how → EndsAfter s p specs schedule budget k (Ends how)
  AsFull : (node need free : ℕ) (part : Part) →
      Reaches source_meaning (source_silent s) (source_start s (length specs)) schedule budget k
      (source_run s (length specs) schedule k) → end_of budget (source_run s (length specs) schedule k) ≡ None →
      NextFull p specs schedule k node part need free → EndsAfter s p specs schedule budget k (IsFull node part need free)

-- the report of a world, with the instructions that each node has run
abbrev pub run_report : {A : Type 0} → Source → World A → List NodeSpec → (ℕ → ℕ) → ℕ → ReportEnd → List ℕ
run_report s w specs counts entries how = report (class_name s) w specs (node_lines counts 0 specs) entries how

-- What is said of the run of an accepted source on nodes along a schedule: its status and its text. The text is the report of the run of
-- the source's meaning, with the instructions that the nodes have run; and the nodes' own machine code has led along the same entries to
-- what the network is in the end. These vector types are written in the source, and have their numbers in parcels in this order.
pub data RunsTo (s : Source) (written : List VectorType) (specs : List NodeSpec) (schedule : List Entry) (budget : ℕ) (net net' : Net) :
    Status → List ℕ → Type 0 where
  -- the load finds no room
  LoadIsFull : (p : Parts) (node need free : ℕ) (part : Part) → IsLowered s p → LoadFull p specs node part need free → net' ≡ net →
      RunsTo s written specs schedule budget net net' statuses.Full (load_report specs (IsFull node part need free))
  -- the load finds room, and so does each entry that is done
  RanUntil : (p : Parts) (k : ℕ) (how : ReportEnd) → IsLowered s p →
      ((node need free : ℕ) (part : Part) → LoadFull p specs node part need free → ⊥) → NoneFullBefore p specs schedule k →
      EndsAfter s p specs schedule budget k how → HasDone p written specs (source_run s (length specs) schedule k).done net' →
      RunsTo s written specs schedule budget net net' (status_of (statuses_of (source_run s (length specs) schedule k).world) how)
      (run_report s (source_run s (length specs) schedule k).world specs (counts_of net') k how)
