-- How many blocks an object takes, and which activation is at a depth of a process.
use Rattle.std.specs.Prelude.{ℕ, ◌+◌, ◌/◌, max, List, length, Option, Some, None, slice_get}
use Rattle.ec_world.specs.declared.object.ObjectRec.{ObjectRec}
use Rattle.ec_world.specs.declared.class.ClassNo.{ClassNo}
use Rattle.ec_world.specs.declared.class.ClassNo.TheVariants.{Node, Program, Made, Vector}
use Rattle.ec_world.specs.declared.process.Proc.{Proc}
use Rattle.ec_world.specs.declared.node.Kind.{Kind}

-- how many blocks an object takes: the object of a node none, any other one for each 128 fields, and at least one
abbrev pub class_blocks : ClassNo → ℕ → ℕ
class_blocks Node fields = 0
class_blocks Program fields = max 1 ((fields + 127) / 128)
class_blocks (Made k) fields = max 1 ((fields + 127) / 128)
class_blocks (Vector of) fields = max 1 ((fields + 127) / 128)

abbrev pub blocks_of : ObjectRec → ℕ
blocks_of o = class_blocks o.class (length o.fields)

-- on each kind of machine a value has the word of its own number
abbrev pub in_order : Kind → ℕ → Option ℕ
in_order kind i = Some i

abbrev pub in_process : {A : Type 0} → Option (Proc A) → ℕ → Option A
in_process None d = None
in_process (Some proc) d = slice_get proc.activations d

-- the activation at depth d of process p
abbrev pub activation_at : {A : Type 0} → List (Proc A) → ℕ → ℕ → Option A
activation_at procs p d = in_process (slice_get procs p) d
