-- The bytes of a report: a world, the places of its objects, the lines of the nodes, the entries done, and the end. Every
-- line ends with a line feed.
use Rattle.std.specs.Prelude.{ℕ, suc, Bool, true, false, List, [], ◌∷◌, ◌++◌, drop, Option, Some, None, slice_get, codes}
use Rattle.std.specs.Fmt.{decimal}
use Rattle.ec_world.specs.declared.node.Kind.{Kind}
use Rattle.ec_world.specs.declared.node.Kind.TheVariants.{Riscv, Mips}
use Rattle.ec_world.specs.declared.node.NodeSpec.{NodeSpec}
use Rattle.ec_world.specs.declared.class.ClassNo.{ClassNo}
use Rattle.ec_world.specs.declared.object.ObjectRec.{ObjectRec}
use Rattle.ec_world.specs.declared.process.Cause.{Cause}
use Rattle.ec_world.specs.declared.process.Cause.TheVariants.{Nil, ZeroDivisor, FalseAssertion, OutOfRange, NotConforming}
use Rattle.ec_world.specs.declared.process.Cause.TheVariants.{GroupFixed, VectorSize, NoSuchNode, LongText, NodeFixed}
use Rattle.ec_world.specs.declared.process.ProcStatus.{ProcStatus}
use Rattle.ec_world.specs.declared.process.ProcStatus.TheVariants.{Ready, Entry, Cond, Urgent, Ended, Failed}
use Rattle.ec_world.specs.declared.run.RunEnd.TheVariants.{Finished, Stuck, Spent}
use Rattle.ec_world.specs.declared.world.World.{World}
use Rattle.ec_world.specs.Places.{places, place_in}
use Rattle.ec_world.specs.Run.{statuses_of}
use Rattle.ec_world.specs.declared.room.Part.{Part}
use Rattle.ec_world.specs.declared.room.Part.TheVariants.{Blocks, Text}
use Rattle.ec_report.specs.declared.end.ReportEnd.{ReportEnd}
use Rattle.ec_report.specs.declared.end.ReportEnd.TheVariants.{Ends, IsFull}

abbrev pub line_feed : List ℕ
line_feed = 10 ∷ []

-- ---- processes: `process 1 ended`, `process 1 failed F2 at line 9`, `process 1 blocked on object 7`, `process 1 ready`

-- the number of a cause of failure
abbrev pub cause_number : Cause → ℕ
cause_number Nil = 1
cause_number ZeroDivisor = 2
cause_number FalseAssertion = 3
cause_number OutOfRange = 4
cause_number NotConforming = 5
cause_number GroupFixed = 6
cause_number VectorSize = 7
cause_number NoSuchNode = 8
cause_number LongText = 9
cause_number NodeFixed = 10

abbrev pub status_text : ProcStatus → List ℕ
status_text Ready = codes "ready"
status_text (Entry o) = codes "blocked on object " ++ decimal o
status_text (Cond o) = codes "blocked on object " ++ decimal o
status_text (Urgent o) = codes "blocked on object " ++ decimal o
status_text Ended = codes "ended"
status_text (Failed cause line) = codes "failed F" ++ decimal (cause_number cause) ++ codes " at line " ++ decimal line

abbrev pub process_line : ℕ → ProcStatus → List ℕ
process_line p status = codes "process " ++ decimal p ++ codes " " ++ status_text status ++ line_feed

-- the lines of processes from number p on
abbrev pub process_lines : ℕ → List ProcStatus → List ℕ
process_lines p [] = []
process_lines p (s ∷ ss) = process_line p s ++ process_lines (suc p) ss

-- ---- objects: `object 7 Counter at west`, with ` fixed` where it is

abbrev pub name_if : Option NodeSpec → List ℕ
name_if None = []
name_if (Some spec) = spec.name

abbrev pub node_at : List NodeSpec → Option ℕ → List ℕ
node_at specs None = []
node_at specs (Some k) = name_if (slice_get specs k)

abbrev pub fixed_text : Bool → List ℕ
fixed_text true = codes " fixed"
fixed_text false = []

abbrev pub object_line : ℕ → List ℕ → List ℕ → Bool → List ℕ
object_line oid class node fixed =
    codes "object " ++ decimal oid ++ codes " " ++ class ++ codes " at " ++ node ++ fixed_text fixed ++ line_feed

-- the lines of objects from number oid on, by the names of their classes
abbrev pub object_lines : (ClassNo → List ℕ) → List NodeSpec → List ℕ → ℕ → List ObjectRec → List ℕ
object_lines name specs at oid [] = []
object_lines name specs at oid (o ∷ os) =
    object_line oid (name o.class) (node_at specs (place_in at oid)) o.fixed ++ object_lines name specs at (suc oid) os

-- the lines of all objects but those of the nodes, which come first
abbrev pub lines_of_objects : {A : Type 0} → (ClassNo → List ℕ) → World A → List NodeSpec → List ℕ
lines_of_objects name w specs =
    object_lines name specs (places w.common.nodes w.common.events) (suc w.common.nodes) (drop w.common.nodes w.common.objects)

-- ---- nodes: `node west mips instructions 412`

abbrev pub kind_text : Kind → List ℕ
kind_text Riscv = codes "riscv"
kind_text Mips = codes "mips"

abbrev pub node_line : NodeSpec → ℕ → List ℕ
node_line spec count = codes "node " ++ spec.name ++ codes " " ++ kind_text spec.kind ++ codes " instructions " ++ decimal count
    ++ line_feed

-- the lines of nodes from number k on
abbrev pub node_lines : (ℕ → ℕ) → ℕ → List NodeSpec → List ℕ
node_lines counts k [] = []
node_lines counts k (s ∷ ss) = node_line s (counts k) ++ node_lines counts (suc k) ss

-- ---- the end

abbrev pub part_text : Part → List ℕ
part_text Blocks = codes "blocks"
part_text Text = codes "text"

abbrev pub end_line : List NodeSpec → ReportEnd → List ℕ
end_line specs (Ends Finished) = codes "stop finished" ++ line_feed
end_line specs (Ends Stuck) = codes "stop stuck" ++ line_feed
end_line specs (Ends Spent) = codes "stop budget" ++ line_feed
end_line specs (IsFull node part need free) =
    codes "stop full " ++ name_if (slice_get specs node) ++ codes " " ++ part_text part ++ codes " need " ++ decimal need
    ++ codes " free " ++ decimal free ++ line_feed

-- ---- the report

abbrev pub turns_line : ℕ → List ℕ
turns_line turns = codes "turns " ++ decimal turns ++ line_feed

-- by the names of classes and the lines of the nodes
abbrev pub report : {A : Type 0} → (ClassNo → List ℕ) → World A → List NodeSpec → List ℕ → ℕ → ReportEnd → List ℕ
report name w specs nodes turns how =
    w.common.output ++ line_feed
    ++ turns_line turns
    ++ process_lines 0 (statuses_of w)
    ++ lines_of_objects name w specs
    ++ nodes
    ++ end_line specs how

-- where the load found no room, there are no lines of processes and objects, and no node has run an instruction
abbrev pub load_report : List NodeSpec → ReportEnd → List ℕ
load_report specs how = line_feed ++ turns_line 0 ++ node_lines (λ k. 0) 0 specs ++ end_line specs how
