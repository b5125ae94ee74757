-- The world in which a program begins, before anything is made there and after; and where its first objects are.
use Rattle.std.specs.Prelude.{ℕ, zero, suc, List, [], ◌∷◌, map, Option}
use Rattle.ec_cluster.specs.Cluster.{CodeWorld}
use Rattle.ec_code.specs.Activations.{begun, code_meaning}
use Rattle.ec_code.specs.Typing.{kind_of}
use Rattle.ec_code.specs.declared.activation.CodeActivation.{CodeActivation}
use Rattle.ec_code.specs.declared.code.Parts.{Parts}
use Rattle.ec_cluster.specs.Located.{first_made}
use Rattle.ec_world.specs.Run.{first_common, first_world}
use Rattle.ec_world.specs.declared.object.ObjectRec.{ObjectRec}
use Rattle.ec_world.specs.declared.process.Proc.{Proc}
use Rattle.ec_world.specs.declared.process.ProcStatus.TheVariants.{Ready}

-- process 0 is about to run operation 0 on n nodes
abbrev pub world_first : ℕ → Parts → CodeWorld
world_first n p = first_world code_meaning n p.classes (map kind_of p.constants)

-- the same world with these objects and no process
abbrev pub with_objects : ℕ → Parts → List ObjectRec → CodeWorld
with_objects n p objects = record {
  common = record (first_common n p.classes (map kind_of p.constants)) { objects = objects };
  processes = [];
}

-- a process about to run operation 0 on an object
abbrev pub first_process : ℕ → Proc CodeActivation
first_process own = record { activations = begun 0 own [] ∷ []; status = Ready }

-- that process is the only one
abbrev pub with_first : CodeWorld → ℕ → CodeWorld
with_first w own = record w { processes = first_process own ∷ [] }

-- the node at which each first object is
abbrev pub first_place : ℕ → ℕ → Option ℕ
first_place n = (first_made n).place

-- how many blocks the first world has at a node: at node 0 one for the program's object and one for the activation on it
abbrev pub first_blocks : ℕ → ℕ
first_blocks zero = 2
first_blocks (suc k) = 0
