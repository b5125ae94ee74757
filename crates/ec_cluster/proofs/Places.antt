-- Where objects are, by what nodes know.
use Rattle.std.proofs.Common.{◌≡◌, ℕ, zero, suc, ◌<◌, ◌≤◌, length, Option, Some, None, refl, ap, arith}
use Rattle.std.specs.Prelude.{option_map, slice_get}
use Rattle.ec_base.proofs.Lists.{get_within}
use Rattle.ec_cluster.specs.Located.{Located}
use Rattle.ec_cluster.specs.Whereabouts.{Gives, Traces, made_count, moves_of, place_at}
use Rattle.ec_forwarding.specs.Traces.{Trace, newest_of}
use Rattle.ec_world.proofs.Procs.{get_past}

-- what became of objects, by what nodes know
abbrev pub located : Traces → Located
located d = record { made = made_count d; place = place_at d; moves = moves_of d }

pub gives_located : (d : Traces) → Gives d (located d)
gives_located d = record { made = refl; places = λ oid. refl; moves = λ oid. refl }

-- the next object is nowhere
pub none_next : (d : Traces) → place_at d (suc (made_count d)) ≡ None
none_next d = ap (option_map (λ (t : Trace). (newest_of t).node)) (get_past d (made_count d) (omega arith))

there : (x : Option Trace) (k : ℕ) → option_map (λ t. (newest_of t).node) x ≡ Some k → (t : Trace) × (x ≡ Some t)
there None k e = absurd cc
there (Some t) k e = (t, refl)

-- an object that is at a node was made
pub place_made : (d : Traces) (oid k : ℕ) → place_at d oid ≡ Some k → (0 < oid) × (oid ≤ made_count d)
place_made d zero k at = absurd cc
place_made d (suc i) k at =
    let t = there (slice_get d i) k at in let l = get_within d i t.0 t.1 in (omega arith, omega (arith, l))
