-- How many classes and operations the core of a program has.
use Rattle.std.specs.Prelude.{◌≤◌, length}
use Rattle.ec_core.specs.declared.Core.{Core}

-- It has at most 1,000 classes, object constructors among them, and at most 4,000 operations: what makes an object and what is its
-- process section among them.
pub record HasFewParts (core : Core) : Type 0 where
  pub classes : length core.classes ≤ 1000
  pub operations : length core.operations ≤ 4000
