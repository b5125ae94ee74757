use Rattle.std.proofs.Common.{◌≡◌, sym, subst, IfOk, List, true≢false}
use Rattle.std.specs.Prelude.{IfErr, Ok, Err, Result}
use Rattle.toml.specs.View.{table_view}
use Rattle.ec_world.specs.declared.node.NodeSpec.{NodeSpec}
use Rattle.ec_inputs.specs.Nodes.{IfRefused}
use Rattle.ec_inputs.specs.declared.nodes.NodeRule.{NodeRule}
use Rattle.ec_inputs.proofs.Documents.{document_read, document_refused, too_long, of_document, no_document}
use Rattle.ec_inputs.proofs.nodes.read_nodes.Goals as goal

pub returns-then-bytes-gt-LONGEST-clause-refused : goal.returns-then-bytes-gt-LONGEST-clause-refused
returns-then-bytes-gt-LONGEST-clause-refused c = too_long c.args.bytes.now c.if-bytes-gt-LONGEST.true

pub returns-in-Ok-clause-nodes : goal.returns-in-Ok-clause-nodes
returns-in-Ok-clause-nodes c =
    let read = document_read c.args.bytes.now (table_view c.in-Ok.document) c.in-Ok.ensures.ok.0 c.in-Ok.ensures.ok.1 in
    let same = of_document c.args.bytes.now _ c.if-bytes-gt-LONGEST.false read in
    subst (λ (r : Result (List NodeSpec) NodeRule). IfOk c.nodes_of.result (λ nodes. r ≡ Ok nodes.items)) (sym same)
    c.nodes_of.ensures.nodes

pub returns-in-Ok-clause-refused : goal.returns-in-Ok-clause-refused
returns-in-Ok-clause-refused c =
    let read = document_read c.args.bytes.now (table_view c.in-Ok.document) c.in-Ok.ensures.ok.0 c.in-Ok.ensures.ok.1 in
    let same = of_document c.args.bytes.now _ c.if-bytes-gt-LONGEST.false read in
    subst (λ (r : Result (List NodeSpec) NodeRule). IfErr c.nodes_of.result (λ error. IfRefused error (λ q. r ≡ Err q))) (sym same)
    c.nodes_of.ensures.refused

pub returns-else-is_memory-clause-refused : goal.returns-else-is_memory-clause-refused
returns-else-is_memory-clause-refused c =
    let known = c.if-is_memory.ensures in
    no_document c.args.bytes.now c.if-bytes-gt-LONGEST.false
    (document_refused c.args.bytes.now (c.in-Err.ensures.refused (λ m. true≢false (sym (known.1 m)))))
