-- What is proved of each accepted program, put together.
use Rattle.std.proofs.Common.{ℕ, List, length, map, sym, subst, All}
use Rattle.ec_ast.specs.declared.Program.{Program}
use Rattle.ec_accepted.specs.Laws.{IsAccepted}
use Rattle.ec_emission.specs.Agreement.{IsCodeOf}
use Rattle.ec_emission.specs.AgreementLaws.{source_after}
use Rattle.ec_check.proofs.NumberedPrograms.{classes_rise}
use Rattle.ec_check.specs.Program.{core_of}
use Rattle.ec_code.specs.Activations.{code_meaning, code_silent}
use Rattle.ec_code.specs.declared.code.Parts.{Parts}
use Rattle.ec_code.specs.Fine.{Fine}
use Rattle.ec_code.specs.Typing.{kind_of}
use Rattle.ec_core.specs.declared.Core.{Core}
use Rattle.ec_core_laws.proofs.Beginnings.{each_begins_once}
use Rattle.ec_core_laws.proofs.Waiting.{each_waits}
use Rattle.ec_core_laws.specs.Beginnings.{BeginsOnce}
use Rattle.ec_core_laws.specs.Waiting.{UsesItsConditions}
use Rattle.ec_core_laws.proofs.MakingPrograms.{program_makes}
use Rattle.ec_core_laws.specs.Makings.{IsMadeRight}
use Rattle.ec_core_laws.proofs.FormedPrograms.{core_is_formed}
use Rattle.ec_core_laws.proofs.Tables.{few_types, none_unknown}
use Rattle.ec_core_laws.specs.Formed.{IsFormed}
use Rattle.ec_accepted.proofs.Whole.{fine}
use Rattle.ec_accepted.specs.FineProgramsSound.{IsSound}
use Rattle.ec_emission.specs.Lowered.{IsLowered, declared_of}
use Rattle.ec_emission_laws.proofs.Accepting.{is_lowerable}
use Rattle.ec_emission_laws.proofs.Lowering as lowering
use Rattle.ec_emission_laws.specs.Lowerable.{lowered_loops}
use Rattle.ec_meaning.specs.Activations.{source_meaning}
use Rattle.ec_meaning.specs.Meaning.{source_silent, source_start}
use Rattle.ec_meaning.specs.Programs.{Source}
use Rattle.ec_code.specs.SoundLaws.{world_after}
use Rattle.ec_world.specs.Agree.{Agree, SameRest}
use Rattle.ec_world.specs.Run.{first_world, run_after}
use Rattle.ec_world.specs.Simulation.{AgreeRun}
use Rattle.ec_world.specs.declared.run.Entry.{Entry}
use Rattle.ec_world.specs.declared.run.RunEntry.{RunEntry}

module _ (s : Source) (program : Program) (a : IsAccepted s program) where
  -- what is proved of the core that is made holds of the source's, which is this one
  of_core : (P : Core → Type 0) → P (core_of s.table program) → P s.core
  of_core P h = subst P (sym a.core.resolved) h

  pub is_sound : IsSound s
  is_sound =
      let h = a.core in
      let low = is_lowerable s program h in
      record {
        answers = h.is_table.conforms;
        known = none_unknown s.table program h.is_table h.accepted;
        few = few_types s.table program h.is_table h.accepted;
        well = h.well_typed;
        formed = of_core (IsFormed (length s.table.types)) (core_is_formed s.table program h.is_table h.accepted);
        made = of_core IsMadeRight (program_makes s.table program (classes_rise s.table program h.is_table a.rising));
        numbers = h.classes a.rising;
        operations = h.operations a.rising;
        begins =
            of_core (λ core. All (BeginsOnce core.operations) core.classes)
            (each_begins_once s.table program h.is_table h.accepted (classes_rise s.table program h.is_table a.rising));
        headings = low.headings;
        uses =
            of_core (λ core. All (UsesItsConditions core.classes) core.operations)
            (each_waits s.table program h.is_table h.accepted);
        exits = low.exits;
        drops = low.drops;
      }

  module _ (p : Parts) (lowered : IsLowered s p) where
    pub is_fine : Fine (declared_of s) p
    is_fine = fine s p is_sound lowered

    pub is_code : IsCodeOf lowered_loops s (declared_of s) p
    is_code = lowering.lowered_is_code s p (is_lowerable s program a.core) lowered is_fine

    pub worlds_agree : (n : ℕ) (entries : List RunEntry) →
        Agree source_meaning code_meaning (source_after s n entries) (world_after p n entries)
    worlds_agree n entries =
        lowering.lowered_worlds_agree s p (is_lowerable s program a.core) lowered is_fine n entries

    pub runs_agree : (n : ℕ) (schedule : List Entry) (k : ℕ) →
        AgreeRun (SameRest source_meaning code_meaning) (run_after source_meaning (source_silent s) (source_start s n) schedule k)
        (run_after code_meaning (code_silent p) (first_world code_meaning n p.classes (map kind_of p.constants)) schedule k)
    runs_agree n schedule k =
        lowering.lowered_runs_agree s p (is_lowerable s program a.core) lowered is_fine n schedule k
