-- How many fields the classes of a core have, and how many parameters its operations.
use Rattle.std.specs.Prelude.{ℕ, ◌+◌, ◌≤◌, List, [], ◌∷◌, length}
use Rattle.ec_core.specs.declared.Class.{Class}
use Rattle.ec_core.specs.declared.Core.{Core}
use Rattle.ec_core.specs.declared.Operation.{Operation}
use Rattle.ec_core_laws.specs.Measures.{size_of_block}
use Rattle.ec_core_laws.specs.Captures.{captures_of_block}
use Rattle.ec_core_laws.specs.Constants.{captures_of_constants, size_of_constants}

-- Captured names, parameters, declared fields and conditions are at most 100 together.
abbrev pub HasFewFields : Class → Type 0
HasFewFields c = (length c.captured + length c.fields) + c.conditions ≤ 100

abbrev pub HasFewParameters : Operation → Type 0
HasFewParameters o = o.parameters ≤ 16

-- ---- of all operations and classes

abbrev pub size_of_operations : List Operation → ℕ
size_of_operations [] = 0
size_of_operations (o ∷ os) = size_of_block o.block + size_of_operations os

abbrev pub captures_of_operations : List Operation → ℕ
captures_of_operations [] = 0
captures_of_operations (o ∷ os) = captures_of_block o.block + captures_of_operations os

-- how many names the classes capture, all together
abbrev pub captured_by : List Class → ℕ
captured_by [] = 0
captured_by (c ∷ cs) = length c.captured + captured_by cs

-- the nodes of a whole core, and the values that all its object constructors capture
abbrev pub size_of_core : Core → ℕ
size_of_core core = size_of_constants core.constants + size_of_operations core.operations

abbrev pub captures_of_core : Core → ℕ
captures_of_core core = captures_of_constants core.constants + captures_of_operations core.operations
