-- Cores whose literal texts are lists of bytes.
use Rattle.std.specs.Prelude.{All}
use Rattle.ec_core.specs.declared.Constant.{Constant}
use Rattle.ec_core.specs.declared.Core.{Core}
use Rattle.ec_core.specs.declared.Operation.{Operation}
use Rattle.ec_core.specs.Literals.{texts_of, texts_of_block}
use Rattle.ec_core_laws.specs.TreeTexts.{IsBytes}

-- in the operations, and in the values of the constants
pub record HasByteTexts (core : Core) : Type 0 where
  pub operations : All (λ (o : Operation). All IsBytes (texts_of_block o.block)) core.operations
  pub constants : All (λ (c : Constant). All IsBytes (texts_of c.value)) core.constants
