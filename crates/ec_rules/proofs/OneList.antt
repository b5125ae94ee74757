-- A program has one list of static faults.
use Rattle.std.proofs.Common.{◌≡◌, List, ap, sym, ◌∙◌}
use Rattle.ec_ast.specs.declared.Program.{Program}
use Rattle.ec_types.proofs.Tables.{same_table}
use Rattle.ec_rules.specs.declared.StaticFault.{StaticFault}
use Rattle.ec_rules.specs.Faults.{HasFaults, StaticFaults}

pub same_faults : (program : Program) (a b : List StaticFault) → HasFaults program a → HasFaults program b → a ≡ b
same_faults program a b h k = sym h.2 ∙ ap (λ table. StaticFaults table program) (same_table h.0 k.0 h.1 k.1) ∙ k.2
