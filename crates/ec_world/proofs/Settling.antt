-- An action that grants no monitor and starts no process changes the process that acts, and no other one.
use Rattle.std.proofs.Common.{◌≡◌, ℕ, List, [], ◌++◌, Some, ap}
use Rattle.std.specs.Prelude.{slice_set}
use Rattle.std.proofs.lemmas.List.{append-nil}
use Rattle.ec_world.specs.declared.common.Common.{Common}
use Rattle.ec_world.specs.declared.process.Proc.{Proc}
use Rattle.ec_world.specs.declared.stop.Effect.{Effect}
use Rattle.ec_world.specs.declared.stop.Effect.TheVariants.{GoesOn, Calls, Leaves, Blocks, Ends, Fails}
use Rattle.ec_world.specs.declared.world.World.{World}
use Rattle.ec_world.specs.Meaning.{ActivationMeaning}
use Rattle.ec_world.specs.Outcomes.{only}
use Rattle.ec_world.specs.World.{given_up, changed, owns_of, settled, acted}

-- the process goes on, calls, returns, waits or ends
abbrev pub IsNoFailure : Effect → Type 0
IsNoFailure (GoesOn given) = Unit {0}
IsNoFailure (Calls op own args) = Unit {0}
IsNoFailure (Leaves given) = Unit {0}
IsNoFailure (Blocks queue oid) = Unit {0}
IsNoFailure Ends = Unit {0}
IsNoFailure (Fails why line) = ⊥

module _ {A : Type 0} (M : ActivationMeaning A) (w : World A) (p : ℕ) (below : List A) (top : A) (c : Common) where
  abbrev pub one_changed : Effect → World A
  one_changed e = record { common = c; processes = slice_set w.processes p (changed M below top e) }

  no_more : (ps : List (Proc A)) → ◌≡◌ {A = World A} (record { common = c; processes = ps ++ [] }) (record { common = c; processes = ps })
  no_more ps = ap (λ (xs : List (Proc A)). record { common = c; processes = xs }) (append-nil ps)

  -- an outcome `only e` is the effect on one process
  pub settled_only : (e : Effect) → IsNoFailure e →
      settled M w p below top c (only e) (given_up p (owns_of M below top) e c.objects) ≡ one_changed e
  settled_only (GoesOn given) h = no_more (slice_set w.processes p (changed M below top (GoesOn given)))
  settled_only (Calls op own args) h = no_more (slice_set w.processes p (changed M below top (Calls op own args)))
  settled_only (Leaves given) h = no_more (slice_set w.processes p (changed M below top (Leaves given)))
  settled_only (Blocks queue oid) h = no_more (slice_set w.processes p (changed M below top (Blocks queue oid)))
  settled_only Ends h = no_more (slice_set w.processes p (changed M below top Ends))
  settled_only (Fails why line) h = absurd h

  -- and so the world after it
  pub acted_only : (e : Effect) → IsNoFailure e → acted M w p below top (Some (c, only e)) ≡ one_changed e
  acted_only e h = settled_only e h
