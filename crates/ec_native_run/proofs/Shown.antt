-- The statuses of processes, one after the other.
use Rattle.std.proofs.Common.{◌≡◌, ◌≤◌, ◌+◌, ◌++◌, ℕ, zero, suc, List, [], ◌∷◌, Some, None, length, take, arith}
use Rattle.std.proofs.Common.{refl, sym, ◌∙◌}
use Rattle.std.proofs.lemmas.List.{take_all}
use Rattle.std.proofs.lemmas.Option.{slice_get-map}
use Rattle.std.specs.Prelude.{slice_get}
use Rattle.ec_base.proofs.Lists.{take_next}
use Rattle.ec_cluster.specs.Cluster.{CodeWorld}
use Rattle.ec_code.specs.declared.activation.CodeActivation.{CodeActivation}
use Rattle.ec_network.specs.Networks.{status_at}
use Rattle.ec_world.specs.Run.{statuses_of}
use Rattle.ec_world.specs.declared.process.Proc.{Proc}
use Rattle.ec_world.specs.declared.process.ProcStatus.{ProcStatus}

-- ---- statuses

past : {A : Type 0} (xs : List A) (i : ℕ) → slice_get xs i ≡ None → length xs ≤ i
past [] i e = omega arith
past (x ∷ xs) zero e = cc
past (x ∷ xs) (suc i) e = let h = past xs i e in omega arith

module _ (w : CodeWorld) (found : List ProcStatus) (p : ℕ) (so_far : found ≡ take p (statuses_of w)) where
  listed : slice_get (statuses_of w) p ≡ status_at w p
  listed = slice_get-map (λ (q : Proc CodeActivation). q.status) w.processes p

  pub status_next : (s : ProcStatus) → Some s ≡ status_at w p → found ++ s ∷ [] ≡ take (p + 1) (statuses_of w)
  status_next s is = rw (take_next (statuses_of w) p s (listed ∙ sym is), so_far) refl

  pub statuses_all : None ≡ status_at w p → found ≡ statuses_of w
  statuses_all is = so_far ∙ take_all p (statuses_of w) (past (statuses_of w) p (listed ∙ sym is))
