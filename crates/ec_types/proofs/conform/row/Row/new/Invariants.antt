use Rattle.std.proofs.Common.{◌≡◌, ℕ, drop}
use Rattle.std.specs.Ordering.{nat_cmp}
use Rattle.std.specs.BTreeMap.{get}
use Rattle.ec_types.specs.Rows.{place_from}
use Rattle.ec_types.proofs.conform.row.Row.new.Given as goal

abbrev pub invariant-loop-place : goal.invariant-loop-place
invariant-loop-place l = (number : ℕ) → get nat_cmp l.places number ≡ place_from l.place (drop l.place l.numbers.items) number
