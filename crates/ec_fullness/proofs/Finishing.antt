-- Who takes what an effect gives rests at an entry, and waits for what this gives.
use Rattle.std.proofs.Common.{◌≡◌, ℕ, false, true≢false, List, [], ◌∷◌, length, Option, Some, None, refl, sym, ap, ◌∙◌, subst, arith}
use Rattle.std.proofs.lemmas.Option.{none-some, same_Some}
use Rattle.std.specs.Prelude.{IsSome}
use Rattle.ec_base.specs.Stack.{top_of}
use Rattle.ec_cluster.specs.Cluster.{CodeWorld}
use Rattle.ec_cluster.specs.declared.cluster.Cluster.{Cluster}
use Rattle.ec_cluster.specs.Frames.{HasRoomFor}
use Rattle.ec_code.specs.Activations.{operation_at, variables_if}
use Rattle.ec_code.specs.Typing.{Declared}
use Rattle.ec_code.specs.declared.activation.CodeActivation.{CodeActivation}
use Rattle.ec_code.specs.declared.code.Operation.{Operation}
use Rattle.ec_code.specs.declared.code.Parts.{Parts}
use Rattle.ec_fullness.proofs.Asking.{its_outcome, its_stop, its_tower}
use Rattle.ec_fullness.proofs.FittingWaiting.{Stays, asked_below, stop_goes}
use Rattle.ec_fullness.specs.Fitting.{BelowTakes, CanTakeIt, OneTakes, TopTakes}
use Rattle.ec_fullness.specs.Waiters.{AllStay, WaitersStay}
use Rattle.ec_code.specs.Live.{stays}
use Rattle.ec_node_frames.specs.Frames.{RestsAt as RestsThere}
use Rattle.ec_activations.proofs.Entries.{rests_at_an_entry}
use Rattle.ec_activations.proofs.Operands.{waits_for}
use Rattle.ec_activations.specs.RestingLaws.{its_entry}
use Rattle.ec_code.proofs.Facts.{each_is_there}
use Rattle.ec_code.proofs.Table.{Continues, EffectGoes}
use Rattle.ec_code.specs.Sound.{Chain, FineEffect, IsLowest, RestsAt, SoundPending, Waits, lowest_of}
use Rattle.ec_cluster.specs.Acting.{Asks}
use Rattle.ec_cluster.specs.SystemSteps.{CanFinish}
use Rattle.ec_cluster.specs.Systems.{Runs}
use Rattle.ec_cluster.specs.declared.system.System.{System}
use Rattle.ec_world.specs.Outcomes.{acted_if, done}
use Rattle.ec_world.specs.declared.doing.Doing.{Doing}
use Rattle.ec_world.specs.declared.object.ObjectRec.{ObjectRec}
use Rattle.ec_world.specs.declared.stop.Effect.{Effect}
use Rattle.ec_world.specs.declared.stop.Effect.TheVariants.{GoesOn, Calls, Leaves, Blocks, Ends, Fails}
use Rattle.ec_world.specs.declared.stop.Who.{Who}
use Rattle.ec_world.specs.declared.value.Value.{Value}

-- with room for the text, what an activation can take it can finish with
pub can_finish_there : (c : Cluster) (a : CodeActivation) (given : Option Value) (t : CanTakeIt c.parts a) →
    HasRoomFor c a.own t.entry given → CanFinish c a given
can_finish_there c a given t room = record { entry = t.entry; rests = t.rests; waits = t.waits; room = room }

module _ (d : Declared) (p : Parts) (objects : List ObjectRec) where
  pub rests_there : (a : CodeActivation) (r : RestsAt d p objects a) → RestsThere p a (its_entry d p objects a r)
  rests_there a r =
      let at = rests_at_an_entry d p objects a r in
      record {
        number = at.0;
        is = at.1;
        named = λ behind.
            let many = each_is_there d p objects a r behind in
            let those : length (variables_if (operation_at p a.operation)) ≡ length r.of.variables =
            ap (λ o. length (variables_if o)) r.is_operation in
            omega (arith, many, those);
      }

  -- an activation that rests at a stop at which code goes on can take what this gives
  takes_it : (a : CodeActivation) (r : RestsAt d p objects a) → a.into ≡ r.row.into → Stays a → CanTakeIt p a
  takes_it a r into goes = record {
    entry = its_entry d p objects a r;
    rests = rests_there a r;
    waits = waits_for d p objects a r into (ap stays (sym r.stop) ∙ goes);
  }

  -- ---- below

  chain_top : (xs : List CodeActivation) (x : CodeActivation) (op : ℕ) → Chain d p objects xs op → AllStay xs → top_of xs ≡ Some x →
      Waits d p objects x op × Stays x
  chain_top [] x op h g e = absurd (none-some x e)
  chain_top (y ∷ []) x op h g e =
      let same : y ≡ x = same_Some y x e in
      (subst (λ a. Waits d p objects a op) same h, subst (λ a. Stays a) same g.0)
  chain_top (y ∷ z ∷ zs) x op h g e = chain_top (z ∷ zs) x op h.1 g.1 e

  one_there : (x : CodeActivation) (xs : List CodeActivation) → IsSome (top_of (x ∷ xs))
  one_there x [] = refl
  one_there x (y ∷ ys) = one_there y ys

  -- an operation that isn't the lowest of its process has something below it
  not_lowest : (below : List CodeActivation) (top : CodeActivation) (r : RestsAt d p objects top) →
      IsLowest d p (lowest_of d p below top.operation) → r.of.is_lowest ≡ false → IsSome (top_of below)
  not_lowest [] top r low is =
      let same : low.operation ≡ r.of = same_Some low.operation r.of (sym low.is ∙ r.is_operation) in
      absurd (true≢false (sym low.lowest ∙ ap (λ (o : Operation). o.is_lowest) same ∙ is))
  not_lowest (x ∷ xs) top r low is = one_there x xs

  one_takes : (below : List CodeActivation) (op : ℕ) → Chain d p objects below op → AllStay below → IsSome (top_of below) →
      OneTakes p below
  one_takes below op h g some = by (top_of below) refl some
    where
      by : (t : Option CodeActivation) → top_of below ≡ t → IsSome t → OneTakes p below
      by None e i = absurd cc
      by (Some x) e i =
          let z = chain_top below x op h g e in
          record { activation = x; is = e; takes = takes_it x z.0.waits.rests z.0.waits.into z.1 }

-- ---- effects

top_by : (p : Parts) (a : CodeActivation) (e : Effect) → (Stays a → CanTakeIt p a) → EffectGoes (Stays a) e → TopTakes p a e
top_by p a (GoesOn given) f h = f h
top_by p a (Calls op own args) f h = f h
top_by p a (Leaves given) f h = tt
top_by p a (Blocks queue own) f h = f h
top_by p a Ends f h = tt
top_by p a (Fails why line) f h = tt

below_by : (p : Parts) (below : List CodeActivation) (e : Effect) → ((given : Option Value) → e ≡ Leaves given → OneTakes p below) →
    BelowTakes p below e
below_by p below (GoesOn given) f = tt
below_by p below (Calls op own args) f = tt
below_by p below (Leaves given) f = f given refl
below_by p below (Blocks queue own) f = tt
below_by p below Ends f = tt
below_by p below (Fails why line) f = tt

module _ (d : Declared) (s : System) (w : CodeWorld) (below : List CodeActivation) (top : CodeActivation) (who : Who) (doing : Doing)
    (runs : Runs d s w) (asks : Asks w below top who doing) where
  abbrev effect : Effect
  effect = (done w.common who doing).1.effect

  goes : EffectGoes (Stays top) effect
  goes = subst (λ a. Continues (Stays top) a) (ap (acted_if w.common who) asks.is) (stop_goes w.common who top.stop top.operands)

  pub top_takes : TopTakes s.cluster.parts top effect
  top_takes =
      let h = its_stop d s w below top who doing runs asks in
      top_by s.cluster.parts top effect (λ stay. takes_it d s.cluster.parts w.common.objects top h.rests h.into stay) goes

  abbrev stop : SoundPending d s.cluster.parts w.common.objects top
  stop = its_stop d s w below top who doing runs asks

  -- what leaves isn't the lowest of its process
  finds_one : (given : Option Value) → effect ≡ Leaves given → IsSome (top_of below)
  finds_one given e =
      let leaves : FineEffect d s.cluster.parts (done w.common who doing).0.objects stop.rests.of stop.rests.row.gives (Leaves given) =
      subst (λ x. FineEffect d s.cluster.parts (done w.common who doing).0.objects stop.rests.of stop.rests.row.gives x) e
      (its_outcome d s w below top who doing runs asks).2 in
      not_lowest d s.cluster.parts w.common.objects below top stop.rests (its_tower d s w below top who doing runs asks).1 leaves.1

  pub below_takes : WaitersStay w → BelowTakes s.cluster.parts below effect
  below_takes waiters =
      below_by s.cluster.parts below effect
      (λ given e. one_takes d s.cluster.parts w.common.objects below top.operation (its_tower d s w below top who doing runs asks).0
      (asked_below w who.process below top asks.is_top waiters) (finds_one given e))
