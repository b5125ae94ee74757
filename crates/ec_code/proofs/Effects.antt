-- What the action of a process of a sound world gives is taken, and code goes on behind each stop whose action doesn't leave.
use Rattle.std.proofs.Common.{◌≡◌, ℕ, true, List, Option, Some, None, refl, sym, ap, ◌∙◌, subst}
use Rattle.ec_base.specs.Stack.{top_of, below_of}
use Rattle.ec_code.specs.Activations.{code_meaning}
use Rattle.ec_code.specs.Fine.{Fine, GoesOn as IfGoesOn, IsTaken}
use Rattle.ec_code.specs.Typing.{Declared}
use Rattle.ec_code.specs.declared.activation.CodeActivation.{CodeActivation}
use Rattle.ec_code.specs.declared.code.Operation.{Operation}
use Rattle.ec_code.specs.declared.code.Parts.{Parts}
use Rattle.ec_types.specs.declared.conform.static_type.StaticType.{StaticType}
use Rattle.ec_code.proofs.IdleStacks.{IsTakenBy, none_taken}
use Rattle.ec_code.specs.Idle.{GoesBehind}
use Rattle.ec_code.specs.Live.{stays}
use Rattle.ec_code.proofs.Carried.{goes_on_more}
use Rattle.ec_code.proofs.Facts.{given_is_taken, is_taken, outcome_fine, pending_top, result_is_taken}
use Rattle.ec_code.proofs.Table.{Continues, EffectGoes, continues, effect_more}
use Rattle.ec_code.specs.Sound.{FineEffect, LiveBehind, OfGiven, SoundPending, SoundWorld}
use Rattle.ec_world.specs.Outcomes.{outcome_of}
use Rattle.ec_world.specs.World.{outcome_at, stack_at, who_of}
use Rattle.ec_world.specs.declared.common.Common.{Common}
use Rattle.ec_world.specs.declared.doing.Outcome.{Outcome}
use Rattle.ec_world.specs.declared.stop.Effect.{Effect}
use Rattle.ec_world.specs.declared.stop.Effect.TheVariants.{GoesOn, Calls, Leaves, Blocks, Ends, Fails}
use Rattle.ec_world.specs.declared.stop.Queue.{Queue}
use Rattle.ec_world.specs.declared.stop.Stop.{Stop}
use Rattle.ec_world.specs.declared.stop.Stop.TheVariants as stop
use Rattle.ec_world.specs.declared.stop.Who.{Who}
use Rattle.ec_world.specs.declared.world.World.{World}

-- where code goes on the stop says so
goes_both : (d : Declared) (p : Parts) (number : ℕ) (o : Operation) (s : Stop) (T : Type 0) → IfGoesOn d p number o s T →
    IfGoesOn d p number o s (T × (stays s ≡ true))
goes_both d p number o (stop.Return gives_self) T h = tt
goes_both d p number o stop.End T h = tt
goes_both d p number o (stop.Fail why line) T h = tt
goes_both d p number o s T h = (h, refl)

module _ (d : Declared) (p : Parts) (fine : Fine d p) (w : World CodeActivation) (s : SoundWorld d p w) (n : ℕ)
    (top : CodeActivation) (e : top_of (stack_at w n) ≡ Some top) (pending : top.pending ≡ true) (c : Common) (o : Outcome)
    (is : outcome_at code_meaning w n (below_of (stack_at w n)) top ≡ Some (c, o)) where
  abbrev below : List CodeActivation
  below = below_of (stack_at w n)

  abbrev who : Who
  who = who_of code_meaning n below top

  abbrev h : SoundPending d p w.common.objects top
  h = pending_top d p fine w s n top e pending

  abbrev given : Option StaticType
  given = h.rests.row.gives

  abbrev T : Type 0
  T = IsTaken d p given top.into × (stays h.rests.row.stop ≡ true)

  both : IfGoesOn d p top.operation h.rests.of h.rests.row.stop T
  both =
      goes_both d p top.operation h.rests.of h.rests.row.stop (IsTaken d p given top.into)
      (goes_on_more d p top.operation h.rests.of h.rests.row.stop (LiveBehind d p w.common.objects top h.rests.of given)
      (IsTaken d p given top.into) (λ l. l.taken) h.behind)

  goes : EffectGoes T o.effect
  goes =
      subst (λ z. Continues T z) is
      (subst (λ z. Continues T (outcome_of w.common who z top.operands)) (sym h.rests.stop)
      (continues w.common who T d p top.operation h.rests.of h.rests.row.stop top.operands both))

  pub effect_goes : EffectGoes (GoesBehind top) o.effect
  effect_goes = effect_more T (GoesBehind top) (λ t. ap stays h.rests.stop ∙ t.1) o.effect goes

  blocked : (queue : Queue) (own : ℕ) → o.effect ≡ Blocks queue own → top.into ≡ None
  blocked queue own at =
      let f : given ≡ None = subst (λ x. FineEffect d p c.objects h.rests.of given x) at (outcome_fine d p fine w s n top e pending c o
      is).2 in
      let t : T = subst (λ x. EffectGoes T x) at goes in
      none_taken top.into (is_taken d p c.objects given None top.into (subst (λ g. OfGiven d p c.objects g None) (sym f) tt) t.0)

  taken_by : (x : Effect) → o.effect ≡ x → IsTakenBy below top x
  taken_by (GoesOn v) at = given_is_taken d p fine w s n top e pending c o is v at
  taken_by (Leaves v) at = λ caller k. result_is_taken d p fine w s n top e pending c o is v caller at k
  taken_by (Blocks queue own) at = blocked queue own at
  taken_by (Calls number own args) at = tt
  taken_by Ends at = tt
  taken_by (Fails why line) at = tt

  pub effect_taken : IsTakenBy below top o.effect
  effect_taken = taken_by o.effect refl
