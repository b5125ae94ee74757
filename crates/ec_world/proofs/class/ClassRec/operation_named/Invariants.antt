use Rattle.std.proofs.Common.{◌≡◌, drop}
use Rattle.ec_world.specs.Objects.{operation_named}
use Rattle.ec_world.proofs.class.ClassRec.operation_named.Given as goal

-- the operations from place i on decide
abbrev pub invariant-loop-operation : goal.invariant-loop-operation
invariant-loop-operation l = operation_named (drop l.operation-index l.self.operations) l.name ≡ operation_named l.self.operations l.name
