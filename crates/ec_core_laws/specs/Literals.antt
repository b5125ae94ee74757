-- The literal texts of the core are no longer than the static rules allow.
use Rattle.std.specs.Prelude.{◌≤◌, length, All}
use Rattle.ec_core.specs.Literals.{texts_of, texts_of_block}
use Rattle.ec_core.specs.declared.Constant.{Constant}
use Rattle.ec_core.specs.declared.Core.{Core}
use Rattle.ec_core.specs.declared.Operation.{Operation}
use Rattle.ec_types.specs.Names.{Text}

-- at most 65,535 bytes
abbrev pub IsShort : Text → Type 0
IsShort text = length text ≤ 65535

-- Each literal text is short: in the operations, and in the values of the constants.
pub record HasShortTexts (core : Core) : Type 0 where
  pub operations : All (λ (o : Operation). All IsShort (texts_of_block o.block)) core.operations
  pub constants : All (λ (c : Constant). All IsShort (texts_of c.value)) core.constants
