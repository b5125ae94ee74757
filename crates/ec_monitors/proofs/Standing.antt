-- How often a process stands in a list that an act changed.
use Rattle.std.proofs.Common.{◌≡◌, ℕ, zero, suc, ◌+◌, ◌<◌, List, [], ◌∷◌, ◌++◌, length, Some, refl, ap, ◌∙◌, arith, ◌==◌}
use Rattle.std.specs.Prelude.{slice_get, slice_set, replicate}
use Rattle.ec_base.specs.Stack.{top_of, below_of}
use Rattle.ec_base.proofs.Stacks.{stack_parts}
use Rattle.ec_monitors.specs.declared.record.Hold.{Hold}
use Rattle.ec_monitors.specs.Monitors.{queue_at}
use Rattle.ec_monitors.specs.Standing.{one_if, times_entering, times_waiting, times_in_queues}

pub entering-push : (p : ℕ) (xs : List ℕ) (y : ℕ) → times_entering p (xs ++ y ∷ []) ≡ times_entering p xs + one_if (y == p)
entering-push p [] y = omega arith
entering-push p (x ∷ xs) y = let h = entering-push p xs y in omega arith

pub waiting-push : (p : ℕ) (xs : List Hold) (y : Hold) → times_waiting p (xs ++ y ∷ []) ≡ times_waiting p xs + one_if (y.process == p)
waiting-push p [] y = omega arith
waiting-push p (x ∷ xs) y = let h = waiting-push p xs y in omega arith

-- the top of a stack and what lies below it
pub waiting-top : (p : ℕ) (xs : List Hold) (x : Hold) → top_of xs ≡ Some x →
    times_waiting p xs ≡ times_waiting p (below_of xs) + one_if (x.process == p)
waiting-top p xs x e = ap (times_waiting p) (stack_parts xs x e) ∙ waiting-push p (below_of xs) x

-- one queue of several is another one now
pub queues-set : (p : ℕ) (qs : List (List Hold)) (c : ℕ) (q : List Hold) → c < length qs
    → times_in_queues p (slice_set qs c q) + times_waiting p (queue_at (slice_get qs c)) ≡ times_in_queues p qs + times_waiting p q
queues-set p [] c q h = absurd (omega arith)
queues-set p (r ∷ qs) zero q h = omega arith
queues-set p (r ∷ qs) (suc c) q h = let k = queues-set p qs c q (omega arith) in omega arith

pub queues-none : (p n : ℕ) → times_in_queues p (replicate n []) ≡ 0
queues-none p zero = refl
queues-none p (suc n) = let h = queues-none p n in omega arith
