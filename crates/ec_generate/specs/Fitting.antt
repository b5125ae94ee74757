-- Of which programs of three-address code machine code can be made.
use Rattle.std.specs.Prelude.{◌≡◌, ℕ, Some, slice_get}
use Rattle.ec_code.specs.Fine.{Fine}
use Rattle.ec_code.specs.Typing.{Declared}
use Rattle.ec_code.specs.declared.code.Line.{Line}
use Rattle.ec_code.specs.declared.code.Operation.{Operation}
use Rattle.ec_code.specs.declared.code.Parts.{Parts}
use Rattle.ec_machine_code.specs.Fitting.{NumbersFit}
use Rattle.ec_machine_code.specs.Limits.{HasLimits}

pub record FitsMachines (p : Parts) : Type 0 where
  -- it is well typed, by what some source declares
  pub fine : (d : Declared) × Fine d p
  -- code and frames have room for it
  pub limits : HasLimits p
  -- each number in it is one of 32 bits, signed
  pub numbers :
      (n q : ℕ) (o : Operation) (line : Line) → slice_get p.operations n ≡ Some o → slice_get o.code q ≡ Some line → NumbersFit line.op
