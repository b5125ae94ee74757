-- The worlds of the source and of its code agree, and so do their runs.
use Rattle.std.proofs.Common.{◌≡◌, ℕ, suc, true, false, List, [], map, Option, Some, None, refl, sym, ap, ◌∙◌, subst}
use Rattle.std.specs.Prelude.{slice_get, IsSome}
use Rattle.ec_base.specs.Stack.{top_of, below_of}
use Rattle.ec_code.specs.Activations as of_code
use Rattle.ec_code.specs.Activations.{code_meaning, code_silent}
use Rattle.ec_code.specs.Typing.{Declared, kind_of}
use Rattle.ec_code.specs.declared.activation.CodeActivation.{CodeActivation}
use Rattle.ec_code.specs.declared.code.Parts.{Parts}
use Rattle.ec_world.proofs.Following as following
use Rattle.ec_world.proofs.Stacks.{ready_alike}
use Rattle.ec_world.specs.Follows.{Follows, FollowsWorld, IsKept, Stacked, StackedProc}
use Rattle.ec_meaning.specs.Activations as of_source
use Rattle.ec_meaning.specs.Activations.{source_meaning}
use Rattle.ec_meaning.specs.Meaning.{source_silent, source_start}
use Rattle.ec_meaning.specs.Programs.{Source, globals_of}
use Rattle.ec_meaning.specs.declared.activation.SourceActivation.{SourceActivation}
use Rattle.ec_code.proofs.Facts.{never_lacks, pending_top, ready_top}
use Rattle.ec_code.proofs.SoundWorlds.{action_sound, go_on_sound, move_sound, start_sound}
use Rattle.ec_code.specs.SoundLaws.{world_after}
use Rattle.ec_code.specs.Sound.{SoundWorld}
use Rattle.ec_world.proofs.Related.{all-get, all-length}
use Rattle.ec_world.specs.Agree.{Agree, SameRest, Maybe}
use Rattle.ec_world.specs.Outcomes.{outcome_of}
use Rattle.ec_world.specs.Run.{first_world, run_after}
use Rattle.ec_world.specs.Simulation.{AgreeRun}
use Rattle.ec_world.specs.World.{outcome_at, stack_at}
use Rattle.ec_world.specs.declared.common.Common.{Common}
use Rattle.ec_world.specs.declared.process.Proc.{Proc}
use Rattle.ec_world.specs.declared.process.ProcStatus.TheVariants.{Ready}
use Rattle.ec_world.specs.declared.run.Entry.{Entry}
use Rattle.ec_world.specs.declared.run.RunEntry.{RunEntry}
use Rattle.ec_world.specs.declared.stop.Stop.{Stop}
use Rattle.ec_world.specs.declared.value.Value.{Value}
use Rattle.ec_world.specs.declared.world.World.{World}
use Rattle.ec_emission.proofs.Acting as acting
use Rattle.ec_emission.proofs.Classes.{Stays, stays}
use Rattle.ec_emission.proofs.AgreementGoing.{comes, goes_alike}
use Rattle.ec_emission.proofs.Related.{Tops, Waits, tops_hold, tops_later, tops_operands, tops_same, waits_later, waits_same}
use Rattle.ec_emission.specs.Agreement.{IsCodeOf, LoopsStand}
use Rattle.ec_emission.specs.AgreementLaws.{HoldsOperands, source_after}

-- The same activation acts alike in the same world.
outcome_same : (process : ℕ) (c e : Common) (m n number other own object : ℕ) (s t : Stop) (us vs : List Value) → c ≡ e → m ≡ n →
    number ≡ other → own ≡ object → s ≡ t → us ≡ vs →
    outcome_of c (record { process = process; depth = m; operation = number; own = own }) s us
    ≡ outcome_of e (record { process = process; depth = n; operation = other; own = object }) t vs
outcome_same process c e m n number other own object s t us vs f g h j k l = rw (f, g, h, j, k, l) refl

module _ (Loops : LoopsStand) (s : Source) (d : Declared) (p : Parts) (code_of : IsCodeOf Loops s d p) where
  abbrev On : Common → SourceActivation → CodeActivation → Type 0
  On = Tops Loops s d p code_of

  abbrev Below : Common → SourceActivation → CodeActivation → Type 0
  Below = Waits Loops s d p code_of

  kept : IsKept code_meaning (code_silent p) (SoundWorld d p)
  kept = record {
    acts = λ v n h. action_sound d p code_of.fine v n h;
    goes = λ v n h. go_on_sound d p code_of.fine v n h;
    moves = λ v x k h. move_sound d p code_of.fine v x k h;
  }

  follows : Follows source_meaning code_meaning (source_silent s) (code_silent p) Stays (SoundWorld d p) On Below
  follows = record {
    same_on = λ c a b h. tops_same Loops s d p code_of c a b h;
    same_below = λ c a b h. waits_same Loops s d p code_of c a b h;
    operands = λ c a b h t. tops_operands Loops s d p code_of c a b h t;
    later_on = λ c e a b l h. tops_later Loops s d p code_of c e a b l h;
    later_below = λ c e a b l h. waits_later Loops s d p code_of c e a b l h;
    goes_on = λ v n a b c o given h at. acting.goes_on_alike Loops s d p code_of v n a b c o h given at;
    blocks = λ v n a b c o queue oid h at. acting.blocks_alike Loops s d p code_of v n a b c o h queue oid at;
    calls = λ v n a b c o op own args h at. acting.calls_alike Loops s d p code_of v n a b c o h op own args at;
    leaves = λ v n a b c o x y given h at is k. acting.leaves_alike Loops s d p code_of v n a b c o h x y given at is k;
    starts = λ v n a b c o section h at. acting.starts_alike Loops s d p code_of v n a b c o h section at;
    goes = λ v n a b h is k t. goes_alike Loops s d p code_of v n b h is t a k;
  }

  -- worlds whose activations follow one another
  abbrev Alike : World SourceActivation → World CodeActivation → Type 0
  Alike w v = FollowsWorld (SoundWorld d p) On Below w v

  -- ---- the first worlds

  module _ (n : ℕ) where
    abbrev first : World CodeActivation
    first = first_world code_meaning n p.classes (map kind_of p.constants)

    first_top : On first.common (of_source.begun 0 (suc n) []) (of_code.begun 0 (suc n) [])
    first_top =
        let top = pending_top d p code_of.fine first (start_sound d p code_of.fine n) 0 (of_code.begun 0 (suc n) []) refl refl in
        acting.begins Loops s d p code_of first.common 0 (suc n) [] top.rests.of top.rests.is_operation top.rests.own
        (top.rests.arguments refl)

    start_alike : Alike (source_start s n) first
    start_alike =
        let h : Alike (first_world source_meaning n p.classes (map kind_of p.constants)) first =
        following.first_alike source_meaning code_meaning (source_silent s) (code_silent p) Stays (SoundWorld d p) On Below stays kept
        follows n p.classes (map kind_of p.constants) (start_sound d p code_of.fine n) first_top in
        subst (λ z. Alike (first_world source_meaning n z (globals_of s)) first) code_of.classes
        (subst (λ z. Alike (first_world source_meaning n p.classes z) first) code_of.constants h)

    -- ---- after entries

    after_alike : (entries : List RunEntry) → Alike (source_after s n entries) (world_after p n entries)
    after_alike entries =
        following.entries_alike source_meaning code_meaning (source_silent s) (code_silent p) Stays (SoundWorld d p) On Below
        stays kept follows (source_start s n) first entries start_alike

    pub worlds_agree : (entries : List RunEntry) → Agree source_meaning code_meaning (source_after s n entries) (world_after p n entries)
    worlds_agree entries =
        following.agree_by_following source_meaning code_meaning (source_silent s) (code_silent p) Stays (SoundWorld d p) On Below
        stays kept follows (source_after s n entries) (world_after p n entries)
        (after_alike entries)

    pub runs_agree : (schedule : List Entry) (k : ℕ) →
        AgreeRun (SameRest source_meaning code_meaning) (run_after source_meaning (source_silent s) (source_start s n) schedule k)
        (run_after code_meaning (code_silent p) first schedule k)
    runs_agree schedule k =
        following.runs_agree source_meaning code_meaning (source_silent s) (code_silent p) Stays (SoundWorld d p) On Below
        stays kept follows (source_start s n) first schedule k start_alike

  -- ---- what the code's worlds tell of the source's

  module _ (w : World SourceActivation) (v : World CodeActivation) (h : Alike w v) (i : ℕ) where
    stacks : Stacked (On v.common) (Below v.common) (stack_at w i) (stack_at v i)
    stacks =
        ready_alike (On v.common) (Below v.common) (slice_get w.processes i) (slice_get v.processes i)
        (all-get (StackedProc (On v.common) (Below v.common)) w.processes v.processes i h.processes)

    -- the code's activation on top that follows the source's
    record Follower (a : SourceActivation) : Type 0 where
      pub top : CodeActivation
      pub is_top : top_of (stack_at v i) ≡ Some top
      pub on : On v.common a top

    follower_by : (a : SourceActivation) (x : Option SourceActivation) (y : Option CodeActivation) → x ≡ Some a →
        top_of (stack_at v i) ≡ y → Maybe (On v.common) x y → Follower a
    follower_by a (Some x) (Some y) e f m =
        let q : x ≡ a = cc in
        record { top = y; is_top = f; on = subst (λ z. On v.common z y) q m }
    follower_by a (Some x) None e f m = absurd m
    follower_by a None y e f m = absurd cc

    follower : (a : SourceActivation) → top_of (stack_at w i) ≡ Some a → Follower a
    follower a e = follower_by a (top_of (stack_at w i)) (top_of (stack_at v i)) e refl stacks.top

    -- ---- what the code's activations hold

    holds_by : (b : CodeActivation) (x : Option SourceActivation) (y : Option CodeActivation) → y ≡ Some b → Maybe (On v.common) x y →
        HoldsOperands p b
    holds_by b (Some a) (Some y) e m =
        let q : y ≡ b = cc in
        subst (HoldsOperands p) q (tops_hold Loops s d p code_of v.common a y m)
    holds_by b None (Some y) e m = absurd m
    holds_by b x None e m = absurd cc

    top_holds : (b : CodeActivation) → top_of (stack_at v i) ≡ Some b → HoldsOperands p b
    top_holds b e = holds_by b (top_of (stack_at w i)) (top_of (stack_at v i)) e stacks.top

    -- ---- what they tell of the source's

    stop_has_case : (a : SourceActivation) → top_of (stack_at w i) ≡ Some a → a.pending ≡ true →
        IsSome (outcome_at source_meaning w i (below_of (stack_at w i)) a)
    stop_has_case a e t =
        let f = follower a e in
        let b : CodeActivation = f.top in
        let q = tops_same Loops s d p code_of v.common a b f.on in
        let u : b.pending ≡ true = sym q.pending ∙ t in
        let o : outcome_at source_meaning w i (below_of (stack_at w i)) a ≡ outcome_at code_meaning v i (below_of (stack_at v i)) b =
        outcome_same i w.common v.common _ _ a.operation b.operation a.own b.own a.stop b.stop a.operands b.operands h.common
        (all-length (Below v.common) (below_of (stack_at w i)) (below_of (stack_at v i)) stacks.below) q.operation q.own q.stop
        (tops_operands Loops s d p code_of v.common a b f.on u) in
        subst (λ z. IsSome z) (sym o) (never_lacks d p code_of.fine v h.invariant i b f.is_top u)

    step_has_case : (a : SourceActivation) → top_of (stack_at w i) ≡ Some a → a.pending ≡ false →
        (source_silent s w.common a).1.pending ≡ true
    step_has_case a e t =
        let f = follower a e in
        let b : CodeActivation = f.top in
        let u : b.pending ≡ false = sym (tops_same Loops s d p code_of v.common a b f.on).pending ∙ t in
        let m = goes_alike Loops s d p code_of v i b h.invariant f.is_top u a f.on in
        let z = comes Loops s d p code_of v i b h.invariant f.is_top u in
        let x : SourceActivation = (source_silent s v.common a).1 in
        let y : CodeActivation = (code_silent p v.common b).1 in
        ap (λ c. (source_silent s c a).1.pending) h.common
        ∙ (tops_same Loops s d p code_of (code_silent p v.common b).0 x y m.on).pending ∙ z.pending

    some_by : (x : Option SourceActivation) (y : Option CodeActivation) → Maybe (On v.common) x y → IsSome y → IsSome x
    some_by (Some x) y m e = refl
    some_by None None m e = absurd cc
    some_by None (Some y) m e = absurd m

    ready_by : (x : Proc SourceActivation) (y : Option (Proc CodeActivation)) → slice_get v.processes i ≡ y →
        Maybe (StackedProc (On v.common) (Below v.common)) (Some x) y → x.status ≡ Ready →
        IsSome (top_of x.activations)
    ready_by x (Some y) e m r =
        some_by (top_of x.activations) (top_of y.activations) m.activations.top
        (ready_top d p v h.invariant i y e (sym m.status ∙ r))
    ready_by x None e m r = absurd m

    ready_goes_on : (x : Proc SourceActivation) → slice_get w.processes i ≡ Some x → x.status ≡ Ready → IsSome (top_of x.activations)
    ready_goes_on x e r =
        ready_by x (slice_get v.processes i) refl
        (subst (λ z. Maybe (StackedProc (On v.common) (Below v.common)) z (slice_get v.processes i)) e
        (all-get (StackedProc (On v.common) (Below v.common)) w.processes v.processes i h.processes)) r

  module _ (n : ℕ) (entries : List RunEntry) (i : ℕ) where
    pub source_stop_has_case : (a : SourceActivation) → top_of (stack_at (source_after s n entries) i) ≡ Some a → a.pending ≡ true →
        IsSome (outcome_at source_meaning (source_after s n entries) i (below_of (stack_at (source_after s n entries) i)) a)
    source_stop_has_case a e t = stop_has_case (source_after s n entries) (world_after p n entries) (after_alike n entries) i a e t

    pub source_step_has_case : (a : SourceActivation) → top_of (stack_at (source_after s n entries) i) ≡ Some a → a.pending ≡ false →
        (source_silent s (source_after s n entries).common a).1.pending ≡ true
    source_step_has_case a e t = step_has_case (source_after s n entries) (world_after p n entries) (after_alike n entries) i a e t

    pub ready_source_goes_on : (x : Proc SourceActivation) → slice_get (source_after s n entries).processes i ≡ Some x →
        x.status ≡ Ready → IsSome (top_of x.activations)
    ready_source_goes_on x e r = ready_goes_on (source_after s n entries) (world_after p n entries) (after_alike n entries) i x e r

    pub operands_are_held : (b : CodeActivation) → top_of (stack_at (world_after p n entries) i) ≡ Some b → HoldsOperands p b
    operands_are_held b e = top_holds (source_after s n entries) (world_after p n entries) (after_alike n entries) i b e
