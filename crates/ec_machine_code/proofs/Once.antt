-- Words that rise are different, and lie where they rise.
use Rattle.std.proofs.Common.{◌≡◌, ℕ, suc, ◌<◌, ◌≤◌, List, [], ◌∷◌, arith, ⊎_elim}
use Rattle.ec_code.specs.Fine.{IsIn}
use Rattle.ec_machine_code.specs.Once.{AreDifferent}
use Rattle.ec_target.specs.Paths.{Rises}

pub rises_inside : (from end : ℕ) (is : List ℕ) (i : ℕ) → Rises from end is → IsIn i is → (from ≤ i) × (i < end)
rises_inside from end [] i r h = absurd h
rises_inside from end (j ∷ js) i (p, q, rest) h = ⊎_elim
    (λ (e : i ≡ j). (omega (arith, p, e), omega (arith, q, e)))
    (λ (k : IsIn i js). let r = rises_inside (suc j) end js i rest k in let low = r.0 in (omega (arith, p, low), r.1))
    h

pub rises_different : (from end : ℕ) (is : List ℕ) → Rises from end is → AreDifferent is
rises_different from end [] r = tt
rises_different from end (j ∷ js) (p, q, rest) = (
  λ h. let low = (rises_inside (suc j) end js j rest h).0 in omega (arith, low),
  rises_different (suc j) end js rest,
)
