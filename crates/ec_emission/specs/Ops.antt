-- The steps of lines of code.
use Rattle.std.specs.Prelude.{List, map}
use Rattle.ec_code.specs.declared.code.Line.{Line}
use Rattle.ec_code.specs.declared.code.Op.{Op}

abbrev pub ops : List Line → List Op
ops lines = map (λ l. l.op) lines
