use Rattle.std.proofs.Common.{◌≡◌, ◌<◌, ℕ, Some, length}
use Rattle.std.specs.Prelude.{slice_get}
use Rattle.ec_code.specs.declared.code.Operation.{Operation}
use Rattle.ec_machine_code.specs.Layout.{IsOrder}
use Rattle.ec_machine_code.specs.Stops.{row_or_empty}
use Rattle.ec_generate.proofs.program.orders_of.Given as goal

abbrev pub invariant-loop-n : goal.invariant-loop-n
invariant-loop-n l = record {
  long : length l.orders ≡ l.n;
  each : (k : ℕ) (o : Operation) → k < l.n → slice_get l.parts.operations k ≡ Some o →
      IsOrder (length o.code) (row_or_empty (slice_get l.orders k));
}
