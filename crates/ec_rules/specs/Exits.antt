-- An `exit` stands outside a loop. The place is the `exit`.
use Rattle.std.specs.Prelude.{List, []}
use Rattle.ec_ast.specs.declared.Expression.TheOpen.{Statement-F}
use Rattle.ec_rules.specs.declared.Rule.TheVariants.{ExitOutside}
use Rattle.ec_rules.specs.declared.StaticFault.{StaticFault}
use Rattle.ec_rules.specs.Parts.{AStatement}
use Rattle.ec_rules.specs.Rules.{fault_unless}
use Rattle.ec_types.specs.declared.scopes.scope.Scope.{Scope}
use Rattle.ec_types.specs.Scopes.{is_in_loop}

abbrev pub exit_outside : Scope → AStatement → List StaticFault
exit_outside scope (Statement-F.Exit when at) = fault_unless (is_in_loop scope) ExitOutside at
exit_outside scope _ = []
