-- The source of a program as the code keeps it.
use Rattle.std.specs.Prelude.{ℕ, List}
use Rattle.ec_types.specs.Table.{Table}
use Rattle.ec_core.specs.declared.Core.{Core}
use Rattle.ec_meaning.specs.Programs.{Source}
use Rattle.ec_meaning.specs.declared.source.Program.{Program}

abbrev pub source_with : List ℕ → Table → Core → Source
source_with text table core = record { text = text; table = table; core = core }

abbrev pub source_of : Program → Source
source_of p = source_with p.text.now p.table.now p.core.now
