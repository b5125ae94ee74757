-- What stands around the code of an operation.
use Rattle.ec_lowering.specs.declared.lines.site.Site.{Site}
use Rattle.ec_emission.specs.Lowered.{around}
use Rattle.ec_emission.specs.Types.{Around}
use Rattle.ec_meaning.specs.Sources.{source_of}

abbrev pub around_by : Site → Around
around_by s = around (source_of s.program.now) s.class s.variables.now
