use Rattle.std.proofs.Common.{◌≡◌, take}
use Rattle.ec_types.proofs.conform.declared.copy_signatures.Given as goal

abbrev pub invariant-loop-signature : goal.invariant-loop-signature
invariant-loop-signature l = l.copies ≡ take l.signature-index l.signatures
