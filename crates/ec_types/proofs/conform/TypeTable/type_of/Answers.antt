use Rattle.std.proofs.Common.{◌≡◌, IfOk, subst}
use Rattle.ec_types.specs.Types.{type_of}
use Rattle.ec_types.proofs.conform.TypeTable.type_of.Goals as goal

pub returns : goal.returns
returns c =
    subst (λ table. IfOk c.type_of.result (λ t. t ≡ type_of table.names c.args.written.now)) c.self.view_is c.type_of.ensures
