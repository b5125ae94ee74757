-- How large a program of three-address code may be, for the machines' code and frames to have room for it. Each accepted program
-- is lowered to code within these limits.
use Rattle.std.specs.Prelude.{◌≡◌, ℕ, ◌≤◌, ◌<◌, ◌^◌, All, length, Some, slice_get, sum_by}
use Rattle.ec_code.specs.declared.code.Line.{Line}
use Rattle.ec_code.specs.declared.code.Operation.{Operation}
use Rattle.ec_code.specs.declared.code.Parts.{Parts}
use Rattle.ec_code.specs.declared.code.Variable.{Variable}
use Rattle.ec_code.specs.Fine.{IsIn}
use Rattle.ec_machine_code.specs.Homes.{HasItsVariables, IsVariable, column}
use Rattle.ec_machine_code.specs.Meeting.{live_in}
use Rattle.ec_code.specs.Live.{reads, writes}
use Rattle.ec_world.specs.declared.class.ClassRec.{ClassRec}

-- ---- variables

-- One of so many named variables, or a temporary; its place among all, named ones first, is below 100, the number of slots of a
-- frame.
pub record HasColumn (named : ℕ) (x : Variable) : Type 0 where
  pub is_variable : IsVariable named x
  pub below : column named x < 100

-- So have the variables that a step reads, the one that it writes, and those that are live before it.
pub record HasColumns (named : ℕ) (line : Line) : Type 0 where
  pub read : (x : Variable) → IsIn x (reads line.op) → HasColumn named x
  pub written : (x : Variable) → writes line.op ≡ Some x → HasColumn named x
  pub live : (x : Variable) → IsIn x (live_in line) → HasColumn named x

-- ---- operations

-- how many steps an operation has
abbrev pub steps_of : Operation → ℕ
steps_of o = length o.code

pub record IsSmallOperation (o : Operation) : Type 0 where
  -- parameters
  pub parameters : length o.parameters ≤ 16
  -- named variables, parameters among them
  pub variables : length o.variables ≤ 100
  -- steps: two for each node of its tree, one for each variable, one for each name that an object made in it captures
  pub steps : steps_of o ≤ 110000
  -- the variables of each line, by its place
  pub lines : (q : ℕ) (line : Line) → slice_get o.code q ≡ Some line → HasColumns (length o.variables) line
  -- variables that meet have homes
  pub homes : HasItsVariables (length o.variables) o.code

-- ---- programs

-- Fields of an object, captured names among them: one word each.
abbrev pub HasFewFields : ClassRec → Type 0
HasFewFields c = length c.fields ≤ 100

pub record HasLimits (p : Parts) : Type 0 where
  -- classes and object constructors
  pub classes : length p.classes ≤ 1000
  pub fields : All HasFewFields p.classes
  -- constants with a value: one word each
  pub constants : length p.constants ≤ 4000
  -- literals
  pub literals : length p.literals < 2 ^ 32
  -- the program's own operation and all others
  pub count : length p.operations ≤ 4001
  pub operations : All IsSmallOperation p.operations
  -- steps of all operations
  pub steps : sum_by steps_of p.operations ≤ 2610000
