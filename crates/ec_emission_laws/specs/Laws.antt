-- What emission asks of a core: that each expression gives a value where one is wanted, that each text is one of the
-- program's literals, and that each `exit` stands in a loop.
use Rattle.std.specs.Prelude.{◌≡◌, ℕ, true, false, All}
use Rattle.ec_check.specs.WellTyped.{IsWellTyped}
use Rattle.ec_core.specs.declared.Core.{Core}
use Rattle.ec_core.specs.declared.Operation.{Operation}
use Rattle.ec_core_laws.specs.Exits.{leaves_block}
use Rattle.ec_emission.specs.Literals.{literals_of}
use Rattle.ec_emission.specs.Statements.{operation_fits, program_fits}
use Rattle.ec_emission_laws.specs.Dropped.{DropsCalls}
use Rattle.ec_meaning.specs.Programs.{Source}

-- Each `exit` in its operations stands in a loop there.
abbrev pub ExitsStandInLoops : Core → Type 0
ExitsStandInLoops core = All (λ (o : Operation). leaves_block o.block ≡ false) core.operations

-- Emission takes each operation, however many names its class captures, and the value of each constant.
pub record PartsFit (s : Source) : Type 0 where
  pub operations :
      (captured : ℕ) → All (λ (o : Operation). operation_fits s captured (literals_of s.core) o ≡ true) s.core.operations
  pub constants : program_fits s (literals_of s.core) s.core.constants ≡ true

abbrev pub EachPartFits : Type 0
EachPartFits = (s : Source) → IsWellTyped s.table s.core → ExitsStandInLoops s.core → DropsCalls s.core → PartsFit s
