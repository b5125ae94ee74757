-- Worlds in range: each value in them is, no vector has more elements than one may have, and there are few nodes.
use Rattle.std.specs.Prelude.{ℕ, ◌≤◌, List, length}
use Rattle.std.specs.List.{AllByRecursion as Each}
use Rattle.ec_code.specs.Steps.{Done as Step, Goes, Rests, Loops, NoCase, Machine}
use Rattle.ec_code.specs.declared.activation.CodeActivation.{CodeActivation}
use Rattle.ec_world.specs.Doings.{largest}
use Rattle.ec_world.specs.declared.class.ClassNo.{ClassNo}
use Rattle.ec_world.specs.declared.class.ClassNo.TheVariants.{Node, Program, Made, Vector}
use Rattle.ec_world.specs.declared.common.Common.{Common}
use Rattle.ec_world.specs.declared.object.ObjectRec.{ObjectRec}
use Rattle.ec_world.specs.declared.process.Proc.{Proc}
use Rattle.ec_world.specs.declared.value.Value.{Value}
use Rattle.ec_world.specs.declared.world.World.{World}
use Rattle.ec_code.specs.RangesValues.{AllInRange}

-- the most nodes of a network
abbrev pub most_nodes : ℕ
most_nodes = 64

-- ---- what processes share

-- A vector has 0 to 16,384 elements.
abbrev pub FewElements : ClassNo → List Value → Type 0
FewElements (Vector of) vs = length vs ≤ largest
FewElements Node vs = Unit {0}
FewElements Program vs = Unit {0}
FewElements (Made k) vs = Unit {0}

-- the fields of an object of a class, or the elements of a vector
pub record RangedFields (class : ClassNo) (fields : List Value) : Type 0 where
  pub values : AllInRange fields
  pub few : FewElements class fields

abbrev pub RangedObject : ObjectRec → Type 0
RangedObject o = RangedFields o.class o.fields

pub record RangedCommon (c : Common) : Type 0 where
  pub nodes : c.nodes ≤ most_nodes
  pub objects : Each RangedObject c.objects
  pub constants : AllInRange c.globals

-- ---- activations

pub record RangedActivation (a : CodeActivation) : Type 0 where
  pub operands : AllInRange a.operands
  pub variables : AllInRange a.variables
  pub temporaries : AllInRange a.temporaries

abbrev pub RangedProc : Proc CodeActivation → Type 0
RangedProc proc = Each RangedActivation proc.activations

pub record RangedWorld (w : World CodeActivation) : Type 0 where
  pub common : RangedCommon w.common
  pub processes : Each RangedProc w.processes

-- ---- between two steps

pub record RangedMachine (m : Machine) : Type 0 where
  pub common : RangedCommon m.common
  pub variables : AllInRange m.variables
  pub temporaries : AllInRange m.temporaries

-- what a step comes to
abbrev pub RangedStep : Step → Type 0
RangedStep (Goes m over) = RangedMachine m
RangedStep (Rests row operands) = AllInRange operands
RangedStep (Loops back) = Unit {0}
RangedStep NoCase = Unit {0}
