-- What an action makes of activations of the source, and of those of its code that follow them.
use Rattle.std.proofs.Common.{◌≡◌, ℕ, suc, Bool, true, false, List, [], length, Option, Some, None, refl, sym, ap, ◌∙◌, subst}
use Rattle.std.proofs.lemmas.Bool.{true≢false}
use Rattle.std.specs.Prelude.{is_some}
use Rattle.ec_base.specs.Stack.{top_of, below_of}
use Rattle.ec_code.specs.Activations as of_code
use Rattle.ec_code.specs.Activations.{code_meaning, operation_at}
use Rattle.ec_code.specs.Fine.{GoesOn as IfGoesOn}
use Rattle.ec_code.specs.Typing.{Declared}
use Rattle.ec_code.specs.declared.activation.CodeActivation.{CodeActivation}
use Rattle.ec_code.specs.declared.code.Operation.{Operation}
use Rattle.ec_code.specs.declared.code.Parts.{Parts}
use Rattle.ec_types.specs.declared.conform.static_type.StaticType.{StaticType}
use Rattle.ec_world.specs.Follows.{ActsTo}
use Rattle.ec_meaning.specs.Activations as of_source
use Rattle.ec_meaning.specs.Programs.{Source}
use Rattle.ec_meaning.specs.declared.activation.SourceActivation.{SourceActivation}
use Rattle.ec_meaning.specs.declared.item.Item.{Item}
use Rattle.ec_monitors.specs.Monitors.{entered}
use Rattle.ec_monitors.specs.declared.record.Entry.{Entry as Within}
use Rattle.ec_monitors.specs.declared.record.Entry.TheVariants.{Entered, Queued}
use Rattle.ec_monitors.specs.declared.record.MonitorRec.{MonitorRec}
use Rattle.ec_code.proofs.Facts.{call_fits, given_is_taken, is_taken, outcome_fine, pending_top, result_is_taken, section_fits}
use Rattle.ec_code.proofs.Table.{Continues, EffectGoes, continues}
use Rattle.ec_code.specs.Sound.{FineEffect, LiveBehind, OfGiven, SoundPending, SoundWorld}
use Rattle.ec_code.specs.SoundValues.{class_in}
use Rattle.ec_emission.proofs.Meeting.{Behind, Routine, StandsIn, goes_on, is_last}
use Rattle.ec_emission.specs.Stands.{Hold, IsLast, one_more}
use Rattle.ec_world.specs.Doings.{entry_asks, is_inside}
use Rattle.ec_world.specs.Outcomes.{Acted, acted_if, entering, entry_done as entry_doing, monitor_of, outcome_of}
use Rattle.ec_world.specs.Sights.{sight_of}
use Rattle.ec_world.specs.World.{stack_at, who_of}
use Rattle.ec_world.specs.declared.common.Common.{Common}
use Rattle.ec_world.specs.declared.doing.Outcome.{Outcome}
use Rattle.ec_world.specs.declared.doing.Section.{Section}
use Rattle.ec_world.specs.declared.stop.Effect.{Effect}
use Rattle.ec_world.specs.declared.stop.Effect.TheVariants.{GoesOn, Calls, Leaves, Blocks}
use Rattle.ec_world.specs.declared.stop.Queue.{Queue}
use Rattle.ec_world.specs.declared.stop.Stop.{Stop}
use Rattle.ec_world.specs.declared.stop.Stop.TheVariants as stop
use Rattle.ec_world.specs.declared.stop.Who.{Who}
use Rattle.ec_world.specs.declared.value.Value.{Value}
use Rattle.ec_world.specs.declared.world.World.{World}
use Rattle.ec_emission.proofs.Classes.{Stays, stays}
use Rattle.ec_emission.proofs.Related.{IsPending, StandsBehind, Tops, Waits, is_at_entry, is_done, is_pending, done_idle, entry_done}
use Rattle.ec_emission.proofs.Related.{pending_done, pending_waits, routine, waits_done}
use Rattle.ec_emission.specs.Agreement.{IsCodeOf, LoopsStand}

-- ---- nothing is called at an entry

abbrev NoCall : Effect → Type 0
NoCall (Calls op own args) = ⊥
NoCall _ = Unit {0}

abbrev CallsNothing : Acted → Type 0
CallsNothing None = Unit {0}
CallsNothing (Some done) = NoCall done.1.effect

entering_calls_nothing : (c : Common) (own : ℕ) (e : MonitorRec × Within) → NoCall (entering c own e).1.effect
entering_calls_nothing c own (m, Entered) = tt
entering_calls_nothing c own (m, Queued) = tt

monitor_calls_nothing : (c : Common) (who : Who) (m : Option MonitorRec) → NoCall (entry_doing c who m).1.effect
monitor_calls_nothing c who None = tt
monitor_calls_nothing c who (Some m) = entering_calls_nothing c who.own (entered m who.process)

asked_calls_nothing : (c : Common) (who : Who) (inside : Bool) → CallsNothing (acted_if c who (entry_asks inside))
asked_calls_nothing c who true = monitor_calls_nothing c who (monitor_of c who.own)
asked_calls_nothing c who false = tt

entry_calls_nothing : (c d : Common) (who : Who) (vs : List Value) (o : Outcome) → outcome_of c who stop.Entry vs ≡ Some (d, o) →
    NoCall o.effect
entry_calls_nothing c d who vs o e =
    subst (λ z. CallsNothing z) e (asked_calls_nothing c who (is_inside (sight_of c) who))

-- ---- where code goes on

module _ (d : Declared) (p : Parts) (number : ℕ) (o : Operation) (T : Type 0) where
  if_goes_on : (s : Stop) → T → IfGoesOn d p number o s T
  if_goes_on (stop.Return gives_self) t = tt
  if_goes_on stop.End t = tt
  if_goes_on (stop.Fail why line) t = tt
  if_goes_on s t = t

  if_last : (s : Stop) → IsLast s → IfGoesOn d p number o s T
  if_last (stop.Return gives_self) l = tt
  if_last stop.End l = tt
  if_last (stop.Fail why line) l = tt
  if_last s l = absurd l

behind_stop : (d : Declared) (p : Parts) (number : ℕ) (o : Operation) (r : Routine) (s : Stop) (gives : Option StaticType)
    (hs : List Hold) (place : ℕ) (items : List Item) → Behind r s gives hs place items →
    IfGoesOn d p number o s (StandsIn r (one_more gives hs) (suc place) items)
behind_stop d p number o r s gives hs place items (goes_on k) =
    if_goes_on d p number o (StandsIn r (one_more gives hs) (suc place) items) s k
behind_stop d p number o r s gives hs place items (is_last l) =
    if_last d p number o (StandsIn r (one_more gives hs) (suc place) items) s l

-- ---- actions

module _ (Loops : LoopsStand) (s : Source) (d : Declared) (p : Parts) (code_of : IsCodeOf Loops s d p) where
  -- at the entry of an operation that is called, or begins
  pub begins : (c : Common) (number own : ℕ) (arguments : List Value) (o : Operation) → operation_at p number ≡ Some o →
      class_in c.objects own ≡ Some o.class → length arguments ≡ length o.parameters →
      Tops Loops s d p code_of c (of_source.begun number own arguments) (of_code.begun number own arguments)
  begins c number own arguments o is at many =
      is_at_entry
      (record {
        number = number;
        own = own;
        on = record { code = o; is = is; class = at };
        arguments = arguments;
        many = many;
        pending = true;
        source = refl;
        code = refl;
      })

  -- process n of a world acts
  module _ (v : World CodeActivation) (n : ℕ) (a : SourceActivation) (b : CodeActivation) (c : Common) (o : Outcome)
      (h : ActsTo code_meaning (SoundWorld d p) (Tops Loops s d p code_of) v n a b c o) where
    abbrev who : Who
    who = who_of code_meaning n (below_of (stack_at v n)) b

    later : Stays v.common c
    later = stays.acts v.common c who b.stop b.operands o h.outcome

    -- what is known behind the stop where code goes on there is known where the effect doesn't end the activation
    behind : (T : Type 0) (number : ℕ) (of : Operation) (at : Stop) → b.stop ≡ at → IfGoesOn d p number of at T → (e : Effect) →
        o.effect ≡ e → EffectGoes T e
    behind T number of at is t e f =
        let g : EffectGoes T o.effect =
        subst (λ z. Continues T z) h.outcome
        (continues v.common who T d p number of b.stop b.operands (subst (λ z. IfGoesOn d p number of z T) (sym is) t)) in
        subst (λ z. EffectGoes T z) f g

    -- the code stands for what is to be done behind it
    next : (k : IsPending Loops s d p code_of v.common a b) (e : Effect) → o.effect ≡ e →
        EffectGoes (StandsBehind Loops s d p code_of v.common k.number k.own k.meet) e
    next k e f =
        behind (StandsBehind Loops s d p code_of v.common k.number k.own k.meet) b.operation k.meet.on.code k.meet.arrived.action
        (ap (λ (z : CodeActivation). z.stop) k.code)
        (behind_stop d p b.operation k.meet.on.code (routine Loops s d p code_of k.number k.meet.on.code k.meet.on.is)
        k.meet.arrived.action k.meet.same.gives k.meet.same.holds k.meet.arrived.place
        k.meet.reached.items k.meet.same.behind) e f

    -- its action gets done
    finishes : Tops Loops s d p code_of v.common a b → (given : Option Value) → is_some given ≡ is_some b.into →
        ((k : IsPending Loops s d p code_of v.common a b) → StandsBehind Loops s d p code_of v.common k.number k.own k.meet) →
        Tops Loops s d p code_of c (of_source.finished a given) (of_code.finished b given)
    finishes (is_at_entry k) given g f = entry_done Loops s d p code_of v.common c a b later k given g
    finishes (is_pending k) given g f = pending_done Loops s d p code_of v.common c a b later k (f k) given g
    finishes (is_done k) given g f = absurd (true≢false (sym h.pending ∙ done_idle Loops s d p code_of v.common a b k))

    pub goes_on_alike : (given : Option Value) → o.effect ≡ GoesOn given →
        Tops Loops s d p code_of c (of_source.finished a given) (of_code.finished b given)
    goes_on_alike given at =
        finishes h.on given (given_is_taken d p code_of.fine v h.invariant n b h.is_top h.pending c o h.outcome given at)
        (λ k. next k (GoesOn given) at)

    abbrev top : SoundPending d p v.common.objects b
    top = pending_top d p code_of.fine v h.invariant n b h.is_top h.pending

    abbrev gives : Option StaticType
    gives = top.rests.row.gives

    -- where its process blocks, no variable takes a result
    blocks_with_nothing : (queue : Queue) (oid : ℕ) → o.effect ≡ Blocks queue oid → (given : Option Value) → given ≡ None →
        is_some given ≡ is_some b.into
    blocks_with_nothing queue oid at given none =
        let f : gives ≡ None =
        subst (λ e. FineEffect d p c.objects top.rests.of gives e) at
        (outcome_fine d p code_of.fine v h.invariant n b h.is_top h.pending c o h.outcome).2 in
        let g : LiveBehind d p v.common.objects b top.rests.of gives =
        behind (LiveBehind d p v.common.objects b top.rests.of gives) b.operation top.rests.of top.rests.row.stop top.rests.stop
        top.behind (Blocks queue oid) at in
        is_taken d p c.objects gives given b.into
        (subst (λ z. OfGiven d p c.objects z given) (sym f) (subst (λ z. OfGiven d p c.objects None z) (sym none) tt)) g.taken

    pub blocks_alike : (queue : Queue) (oid : ℕ) → o.effect ≡ Blocks queue oid →
        Tops Loops s d p code_of c (of_source.finished a None) (of_code.finished b None)
    blocks_alike queue oid at = finishes h.on None (blocks_with_nothing queue oid at None refl) (λ k. next k (Blocks queue oid) at)

    -- it waits for what it calls
    waits : Tops Loops s d p code_of v.common a b → (op own : ℕ) (args : List Value) → o.effect ≡ Calls op own args →
        Waits Loops s d p code_of c (of_source.finished a None) (of_code.finished b None)
    waits (is_at_entry k) op own args at =
        let e : outcome_of v.common who stop.Entry b.operands ≡ Some (c, o) =
        subst (λ z. outcome_of v.common who z b.operands ≡ Some (c, o)) (ap (λ (z : CodeActivation). z.stop) k.code) h.outcome in
        absurd (subst (λ z. NoCall z) at (entry_calls_nothing v.common c who b.operands o e))
    waits (is_pending k) op own args at = pending_waits Loops s d p code_of v.common c a b later k (next k (Calls op own args) at)
    waits (is_done k) op own args at = absurd (true≢false (sym h.pending ∙ done_idle Loops s d p code_of v.common a b k))

    pub calls_alike : (op own : ℕ) (args : List Value) → o.effect ≡ Calls op own args →
        Waits Loops s d p code_of c (of_source.finished a None) (of_code.finished b None)
        × Tops Loops s d p code_of c (of_source.begun op own args) (of_code.begun op own args)
    calls_alike op own args at =
        let f = call_fits d p code_of.fine v h.invariant n b h.is_top h.pending c o h.outcome op own args at in
        (waits h.on op own args at, begins c op own args f.called f.is_called f.is_own f.as_many)

    -- the one below has its result
    pub leaves_alike : (x : SourceActivation) (y : CodeActivation) (given : Option Value) → o.effect ≡ Leaves given →
        top_of (below_of (stack_at v n)) ≡ Some y → Waits Loops s d p code_of v.common x y →
        Tops Loops s d p code_of c (of_source.finished x given) (of_code.finished y given)
    leaves_alike x y given at is k =
        waits_done Loops s d p code_of v.common c x y later k given
        (result_is_taken d p code_of.fine v h.invariant n b h.is_top h.pending c o h.outcome given y at is)

    -- a process begins
    pub starts_alike : (section : Section) → o.started ≡ Some section →
        Tops Loops s d p code_of c (of_source.begun section.operation section.own []) (of_code.begun section.operation section.own [])
    starts_alike section at =
        let f = section_fits d p code_of.fine v h.invariant n b h.is_top h.pending c o h.outcome section at in
        begins c section.operation section.own [] f.2.operation f.2.is (f.1 ∙ ap Some (sym f.2.of)) (ap length (sym f.2.parameters))
