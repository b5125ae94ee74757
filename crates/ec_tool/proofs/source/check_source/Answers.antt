use Rattle.std.proofs.Common.{subst, sym}
use Rattle.ec_check.specs.Accepted.{IsRefused}
use Rattle.ec_parser.specs.HasTree.{HasTree}
use Rattle.ec_parser.specs.Program.{IsShallow}
use Rattle.ec_tool.specs.Sources.{static_rule}
use Rattle.ec_tool.proofs.source.check_source.Goals as goal

pub returns-in-Ok-clause-program : goal.returns-in-Ok-clause-program
returns-in-Ok-clause-program c =
    let program = c.in_ok-program.program in
    let core = c.in-Ok.ensures.accepted in
    let tree = subst (λ tokens. HasTree tokens program) c.as_slice.ensures c.in_ok-program.ensures.tree.0 in
    record {
      has_tokens = c.in_ok-tokens.ensures.tokens;
      has_tree = subst (λ read. HasTree c.in_ok-tokens.tokens read) (sym c.in-Ok.ensures.program) tree;
      shallow = subst (λ tokens. IsShallow tokens) c.as_slice.ensures c.in_ok-program.ensures.tree.1;
      is_accepted = (c.in-Ok.checked.table, core.is_table, core.accepted);
    }

pub returns-in-Err-Fault-clause-refused : goal.returns-in-Err-Fault-clause-refused
returns-in-Err-Fault-clause-refused c =
    let program = c.in_ok-program.program in
    let first = subst (λ error. IsRefused program error) c.in-Err-Fault.field-0-is c.in-Err-Fault.ensures.refused in
    rw c.refuse.ensures
    (static_rule c.in_ok-tokens.ensures.tokens
    (subst (λ tokens. HasTree tokens program) c.as_slice.ensures c.in_ok-program.ensures.tree.0)
    (subst (λ tokens. IsShallow tokens) c.as_slice.ensures c.in_ok-program.ensures.tree.1)
    first.1 first.2)
