-- What a process gives up by an effect.
use Rattle.std.proofs.Common.{◌≡◌, ◌⊎◌, ℕ, List, [], Option, sym, subst, ⊎_elim}
use Rattle.ec_cluster.specs.Cluster.{CodeWorld, Shows}
use Rattle.ec_cluster.specs.declared.cluster.Cluster.{Cluster}
use Rattle.ec_acts.specs.Taking.{GivesUp, with_objects}
use Rattle.ec_world.specs.Outcomes.{dropped_each}
use Rattle.ec_world.specs.declared.process.Cause.{Cause}
use Rattle.ec_world.specs.declared.stop.Effect.{Effect}
use Rattle.ec_world.specs.declared.stop.Effect.TheVariants.{GoesOn, Calls, Leaves, Blocks, Ends, Fails}
use Rattle.ec_world.specs.declared.stop.Queue.{Queue}
use Rattle.ec_world.specs.declared.value.Value.{Value}

-- an effect that is no failure
abbrev AnyGoesOn : Effect → Type 0
AnyGoesOn e = (given : Option Value) × (e ≡ GoesOn given)

abbrev AnyCalls : Effect → Type 0
AnyCalls e = (op : ℕ) × (own : ℕ) × (args : List Value) × (e ≡ Calls op own args)

abbrev AnyLeaves : Effect → Type 0
AnyLeaves e = (given : Option Value) × (e ≡ Leaves given)

abbrev AnyBlocks : Effect → Type 0
AnyBlocks e = (queue : Queue) × (own : ℕ) × (e ≡ Blocks queue own)

abbrev pub IsUnfailing : Effect → Type 0
IsUnfailing e = AnyGoesOn e ⊎ (AnyCalls e ⊎ (AnyLeaves e ⊎ (AnyBlocks e ⊎ (e ≡ Ends))))

module _ (c : Cluster) (w : CodeWorld) (p : ℕ) (owns freed : List ℕ) where
  abbrev Gives : Effect → Type 0
  Gives e = GivesUp c w p owns e freed

  -- nothing is given up
  pub gives_nothing : (e : Effect) → IsUnfailing e → Shows c w → freed ≡ [] → GivesUp c w p owns e freed
  gives_nothing e is shows none = ⊎_elim
      (λ (x : AnyGoesOn e). subst Gives (sym x.1) (record { shows = shows; freed_are = none }))
      (λ (r : AnyCalls e ⊎ (AnyLeaves e ⊎ (AnyBlocks e ⊎ (e ≡ Ends)))). ⊎_elim
      (λ (x : AnyCalls e). subst Gives (sym x.3) (record { shows = shows; freed_are = none }))
      (λ (s : AnyLeaves e ⊎ (AnyBlocks e ⊎ (e ≡ Ends))). ⊎_elim
      (λ (x : AnyLeaves e). subst Gives (sym x.1) (record { shows = shows; freed_are = none }))
      (λ (t : AnyBlocks e ⊎ (e ≡ Ends)). ⊎_elim
      (λ (x : AnyBlocks e). subst Gives (sym x.2) (record { shows = shows; freed_are = none }))
      (λ (x : e ≡ Ends). subst Gives (sym x) (record { shows = shows; freed_are = none }))
      t)
      s)
      r)
      is

  -- all monitors that a process holds are
  pub gives_all : (e : Effect) (why : Cause) (line : ℕ) (these : List ℕ) → e ≡ Fails why line → these ≡ owns →
      Shows c (with_objects w (dropped_each p these w.common.objects).0) × (freed ≡ (dropped_each p these w.common.objects).1) →
      GivesUp c w p owns e freed
  gives_all e why line these is same dropped =
      subst Gives (sym is) (record {
        shows = subst (λ (os : List ℕ). Shows c (with_objects w (dropped_each p os w.common.objects).0)) same dropped.0;
        freed_are = subst (λ (os : List ℕ). freed ≡ (dropped_each p os w.common.objects).1) same dropped.1;
      })
