use Rattle.std.proofs.Common.{refl}
use Rattle.ec_rules.proofs.Equations.{call_link, index_link}
use Rattle.ec_check.proofs.chains.behind.Goals as goal

pub returns-in_ok-callee-in-Call : goal.returns-in_ok-callee-in-Call
returns-in_ok-callee-in-Call c = rw (c.in-Call.is, call_link, c.result_of.ensures, c.in_ok-callee-in-Call.ensures) refl

pub returns-in-Index : goal.returns-in-Index
returns-in-Index c = rw (c.in-Index.is, index_link, c.type_indexed.ensures, c.type_of_receiver-of.ensures) refl
