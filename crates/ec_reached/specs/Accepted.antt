-- Order in the worlds of each program that breaks no static rule.
use Rattle.std.specs.Prelude.{ℕ, List}
use Rattle.ec_accepted.specs.Laws.{IsAccepted}
use Rattle.ec_ast.specs.declared.Program.{Program}
use Rattle.ec_code.specs.declared.code.Parts.{Parts}
use Rattle.ec_emission.specs.AgreementLaws.{source_after}
use Rattle.ec_emission.specs.Lowered.{IsLowered}
use Rattle.ec_meaning.specs.Activations.{source_meaning}
use Rattle.ec_meaning.specs.Programs.{Source}
use Rattle.ec_reached.specs.Orderly.{Orderly}
use Rattle.ec_world.specs.declared.run.RunEntry.{RunEntry}

-- Each world of the source of an accepted program is orderly, by the classes of the program to which it is lowered. Each such source is
-- lowered to one.
abbrev pub AcceptedSourcesAreOrderly : Type 0
AcceptedSourcesAreOrderly =
    (s : Source) (program : Program) (p : Parts) → IsAccepted s program → IsLowered s p → (n : ℕ) (entries : List RunEntry) →
    Orderly source_meaning p.classes (source_after s n entries)
