use Rattle.std.proofs.Common.{List, map, ap, subst, ◌∙◌}
use Rattle.ec_core.specs.declared.Constant.{Constant}
use Rattle.ec_core.specs.declared.Core.{Core}
use Rattle.ec_emission.specs.Literals.{literals_of}
use Rattle.ec_emission.specs.Lowered.{AreOperationsOf}
use Rattle.ec_meaning.specs.Sources.{source_of}
use Rattle.ec_meaning.specs.declared.source.Program.{Program}
use Rattle.ec_lowering.proofs.lower.lower.Goals as goal

pub returns : goal.returns
returns c = record {
  classes = c.in_ok-classes.ensures;
  constants = c.in_ok-constants.ensures
      ∙ ap (λ (cs : List Constant). map (λ (k : Constant). k.of) cs)
      (c.as_slice.ensures ∙ ap (λ (core : Core). core.constants) c.core.ensures);
  literals = c.into_texts.ensures ∙ c.in_ok-literals.ensures
      ∙ ap literals_of (c.core-2.ensures ∙ ap (λ (p : Program). (source_of p).core) c.in_ok-tables.ensures);
  operations = subst (λ (p : Program). AreOperationsOf (source_of p) c.in_ok-operations.operations) c.in_ok-tables.ensures
      c.in_ok-operations.ensures;
}
