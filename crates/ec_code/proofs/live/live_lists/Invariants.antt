use Rattle.std.proofs.Common.{◌≡◌, ℕ, List, length, Some}
use Rattle.std.specs.Prelude.{slice_get}
use Rattle.ec_code.specs.declared.code.Variable.{Variable}
use Rattle.ec_code.specs.Listed.{listed}
use Rattle.ec_code.proofs.live.live_lists.Given as goal

abbrev pub invariant-loop-q : goal.invariant-loop-q
invariant-loop-q l =
    (length l.lists ≡ l.q) × ((p : ℕ) (xs : List Variable) → slice_get l.lists p ≡ Some xs → xs ≡ listed l.named l.temporaries p)
