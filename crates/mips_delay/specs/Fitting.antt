-- What code is asked to go on from, where its slots are filled.
use Rattle.std.specs.Prelude.{ℕ, Bool, List}
use Rattle.ec_code.specs.declared.code.Operation.{Operation}
use Rattle.ec_code.specs.declared.code.Parts.{Parts}
use Rattle.ec_machine_code.specs.Fitted.{FitAt}
use Rattle.ec_machine_code.specs.declared.code.Code.{Code}
use Rattle.ec_machine_code.specs.declared.homes.Home.{Home}
use Rattle.mips_code.specs.Meaning.{mips_meaning}
use Rattle.mips_delay.specs.Fill.{Filled}

-- Behind each stop behind which some activation and some state fit the old code, some fit the new one.
abbrev pub KeepsFits : Code → Code → Type 0
KeepsFits old new =
    (p : Parts) (homes : List (List Home)) (n place : ℕ) (o : Operation) →
    FitAt mips_meaning p old homes n place o → FitAt mips_meaning p new homes n place o

abbrev pub FilledFits : Type 0
FilledFits = (old new : Code) (fills : ℕ → Bool) → Filled old new fills → KeepsFits old new
