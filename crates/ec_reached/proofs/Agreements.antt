-- Order goes from a world to one that agrees with it.
use Rattle.std.proofs.Common.{◌≡◌, ◌∙◌, ◌∷◌, ◌==◌, ℕ, [], List, Option, Some, None, refl, sym, ap, subst, arith}
use Rattle.std.specs.Prelude.{◌&&◌, not, slice_get}
use Rattle.ec_base.specs.Stack.{top_of}
use Rattle.ec_monitors.specs.Laws.{FreeIsEmpty, HasDepths}
use Rattle.ec_monitors.specs.Standing.{StandsOnce, one_if}
use Rattle.ec_meaning.specs.Activations.{source_meaning}
use Rattle.ec_code.specs.Activations.{code_meaning}
use Rattle.ec_code.specs.SoundLaws.{world_after}
use Rattle.ec_emission.specs.AgreementLaws.{source_after}
use Rattle.ec_world.proofs.Related.{all-get, tops}
use Rattle.ec_world.specs.Agree.{Agree, AgreeProc, AllTwo, Maybe, SameRest}
use Rattle.ec_world.specs.declared.class.ClassRec.{ClassRec}
use Rattle.ec_world.specs.declared.common.Common.{Common}
use Rattle.ec_world.specs.declared.process.Proc.{Proc}
use Rattle.ec_world.specs.declared.stop.Queue.{Queue}
use Rattle.ec_world.specs.declared.world.World.{World}
use Rattle.ec_world.specs.Doings.{runs_inside}
use Rattle.ec_world.specs.Meaning.{ActivationMeaning}
use Rattle.ec_world.specs.Outcomes.{monitor_of}
use Rattle.ec_world.specs.Waiting.{times_blocked, times_blocked_if, times_queued_if}
use Rattle.ec_reached.proofs.LoweredFits.{lowered_orderly}
use Rattle.ec_reached.proofs.SourceSteps.{source_keeps}
use Rattle.ec_reached.specs.Agreeing.{AgreeingAreOrderly, AgreeingSourcesAreOrderly}
use Rattle.ec_reached.specs.Depths.{DepthsFit, EachStands, MonitorsFit, OfEachMonitor, QueuesFit, WaitsFor, asked_of, has_asked, times_asked, times_asked_if}
use Rattle.ec_reached.specs.Meant.{IsNotCalled, is_coming, is_end, is_ending, is_entry}
use Rattle.ec_reached.specs.Orderly.{EndsFit, Orderly}
use Rattle.ec_reached.specs.Stacks.{BlockedRest, StacksFit, class_on, runs_within}

module _ {A B : Type 0} (M : ActivationMeaning A) (N : ActivationMeaning B) where
  abbrev Same : A → B → Type 0
  Same = SameRest M N

  abbrev SameProc : Proc A → Proc B → Type 0
  SameProc = AgreeProc Same

  -- ---- one activation

  ending_same : (a : A) (b : B) → Same a b → is_ending M a ≡ is_ending N b
  ending_same a b h = ap (λ t. is_end t && M.is_pending a) h.stop ∙ ap (λ p. is_end (N.stop b) && p) h.pending

  coming_same : (a : A) (b : B) → Same a b → is_coming M a ≡ is_coming N b
  coming_same a b h = ap (λ t. is_entry t && M.is_pending a) h.stop ∙ ap (λ p. is_entry (N.stop b) && p) h.pending

  within_same : (c : Common) (a : A) (b : B) → Same a b → runs_within M c a ≡ runs_within N c b
  within_same c a b h =
      ap (λ o. runs_inside (class_on c o) (M.operation a)) h.own ∙ ap (λ op. runs_inside (class_on c (N.own b)) op) h.operation

  asked_one : (c : Common) (o : ℕ) (a : A) (b : B) → Same a b → has_asked M c o a ≡ has_asked N c o b
  asked_one c o a b h =
      ap (λ n. (n == o) && (runs_within M c a && not (is_coming M a))) h.own
      ∙ ap (λ x. (N.own b == o) && (x && not (is_coming M a))) (within_same c a b h)
      ∙ ap (λ x. (N.own b == o) && (runs_within N c b && not x)) (coming_same a b h)

  asked_same : (c : Common) (o : ℕ) (xs : List A) (ys : List B) → AllTwo Same xs ys → times_asked M c o xs ≡ times_asked N c o ys
  asked_same c o [] [] h = refl
  asked_same c o (x ∷ xs) (y ∷ ys) h =
      let e : one_if (has_asked M c o x) ≡ one_if (has_asked N c o y) = ap one_if (asked_one c o x y h.0) in
      let k = asked_same c o xs ys h.1 in
      omega arith
  asked_same c o [] (y ∷ ys) h = absurd h
  asked_same c o (x ∷ xs) [] h = absurd h

  asked_if : (c : Common) (o : ℕ) (s : Option (Proc A)) (t : Option (Proc B)) → Maybe SameProc s t →
      times_asked_if M c o s ≡ times_asked_if N c o t
  asked_if c o None None h = refl
  asked_if c o (Some x) (Some y) h = asked_same c o x.activations y.activations h.activations
  asked_if c o None (Some y) h = absurd h
  asked_if c o (Some x) None h = absurd h

  blocked_if : (queue : Queue) (o : ℕ) (s : Option (Proc A)) (t : Option (Proc B)) → Maybe SameProc s t →
      times_blocked_if queue o s ≡ times_blocked_if queue o t
  blocked_if queue o None None h = refl
  blocked_if queue o (Some x) (Some y) h = ap (times_blocked queue o) h.status
  blocked_if queue o None (Some y) h = absurd h
  blocked_if queue o (Some x) None h = absurd h

  -- ---- what is there in one is there in the other

  record IsBeside (ps : List (Proc A)) (q : ℕ) (y : Proc B) : Type 0 where
    pub proc : Proc A
    pub there : slice_get ps q ≡ Some proc
    pub same : SameProc proc y

  beside_by : (ps : List (Proc A)) (q : ℕ) (y : Proc B) (s : Option (Proc A)) (t : Option (Proc B)) → slice_get ps q ≡ s → t ≡ Some y →
      Maybe SameProc s t → IsBeside ps q y
  beside_by ps q y (Some x) (Some z) e f h =
      let same : z ≡ y = cc in
      record { proc = x; there = e; same = subst (λ (k : Proc B). SameProc x k) same h }
  beside_by ps q y None (Some z) e f h = absurd h
  beside_by ps q y s None e f h = absurd cc

  record HasBeside (ps : List (Proc B)) (q : ℕ) (x : Proc A) : Type 0 where
    pub proc : Proc B
    pub there : slice_get ps q ≡ Some proc
    pub same : SameProc x proc

  has_by : (ps : List (Proc B)) (q : ℕ) (x : Proc A) (s : Option (Proc A)) (t : Option (Proc B)) → s ≡ Some x → slice_get ps q ≡ t →
      Maybe SameProc s t → HasBeside ps q x
  has_by ps q x (Some z) (Some y) e f h =
      let same : z ≡ x = cc in
      record { proc = y; there = f; same = subst (λ (k : Proc A). SameProc k y) same h }
  has_by ps q x (Some z) None e f h = absurd h
  has_by ps q x None t e f h = absurd cc

  record TopBeside (xs : List A) (b : B) : Type 0 where
    pub of : A
    pub is : top_of xs ≡ Some of
    pub same : Same of b

  top_by : (xs : List A) (b : B) (s : Option A) (t : Option B) → top_of xs ≡ s → t ≡ Some b → Maybe Same s t → TopBeside xs b
  top_by xs b (Some a) (Some z) e f h = let same : z ≡ b = cc in record { of = a; is = e; same = subst (λ k. Same a k) same h }
  top_by xs b None (Some z) e f h = absurd h
  top_by xs b s None e f h = absurd cc

  record BesideTop (ys : List B) (a : A) : Type 0 where
    pub of : B
    pub is : top_of ys ≡ Some of
    pub same : Same a of

  by_top : (ys : List B) (a : A) (s : Option A) (t : Option B) → s ≡ Some a → top_of ys ≡ t → Maybe Same s t → BesideTop ys a
  by_top ys a (Some z) (Some b) e f h = let same : z ≡ a = cc in record { of = b; is = f; same = subst (λ k. Same k b) same h }
  by_top ys a (Some z) None e f h = absurd h
  by_top ys a None t e f h = absurd cc

  -- ---- worlds

  module _ (classes : List ClassRec) (w : World A) (v : World B) (agree : Agree M N w v) (order : Orderly N classes v) where
    at : (q : ℕ) → Maybe SameProc (slice_get w.processes q) (slice_get v.processes q)
    at q = all-get SameProc w.processes v.processes q agree.processes

    back : (f : Common → Type 0) → f v.common → f w.common
    back f h = subst f (sym agree.common) h

    ends : EndsFit M classes w
    ends p proc a e is i =
        let b = has_by v.processes p proc (slice_get w.processes p) (slice_get v.processes p) e refl (at p) in
        let t = by_top b.proc.activations a (top_of proc.activations) (top_of b.proc.activations) is refl
        (tops Same proc.activations b.proc.activations b.same.activations) in
        let n = order.ends p b.proc t.of b.there t.is (sym (ending_same a t.of t.same) ∙ i) in
        subst (λ op. IsNotCalled classes op) (sym t.same.operation) n

    depths : DepthsFit M w
    depths o q =
        asked_if w.common o (slice_get w.processes q) (slice_get v.processes q) (at q)
        ∙ subst (λ c. times_asked_if N c o (slice_get v.processes q) ≡ asked_of (monitor_of c o) q) (sym agree.common) (order.depths o q)

    stand : EachStands w
    stand queue o q =
        subst (λ c. times_queued_if queue (monitor_of c o) q ≡ times_blocked_if queue o (slice_get v.processes q)) (sym agree.common)
        (order.stand queue o q)
        ∙ sym (blocked_if queue o (slice_get w.processes q) (slice_get v.processes q) (at q))

    waits : (i q : ℕ) → WaitsFor N v.processes i q → WaitsFor M w.processes i q
    waits i q k =
        let b = beside_by w.processes q k.proc (slice_get w.processes q) (slice_get v.processes q) refl k.there (at q) in
        let t = top_by b.proc.activations k.of (top_of b.proc.activations) (top_of k.proc.activations) refl k.is_top
        (tops Same b.proc.activations k.proc.activations b.same.activations) in
        record { proc = b.proc; there = b.there; of = t.of; is_top = t.is; rests = t.same.stop ∙ k.rests }

    queues : QueuesFit M w
    queues o i m queue h e is has =
        waits i h.process (order.queues o i m queue h (sym (ap (λ c. monitor_of c o) agree.common) ∙ e) is has)

    orderly : StacksFit M w → BlockedRest M w → Orderly M classes w
    orderly stacks rest = record {
      of_program = ap (λ (c : Common). c.classes) agree.common ∙ order.of_program;
      stacks = stacks;
      rest = rest;
      ends = ends;
      monitors = back (λ c. MonitorsFit c) order.monitors;
      free = back (λ c. OfEachMonitor FreeIsEmpty c) order.free;
      once = back (λ c. OfEachMonitor StandsOnce c) order.once;
      deep = back (λ c. OfEachMonitor HasDepths c) order.deep;
      depths = depths;
      stand = stand;
      queues = queues;
    }

  pub agreeing_orderly : AgreeingAreOrderly M N
  agreeing_orderly classes w v agree stacks rest order = orderly classes w v agree order stacks rest

pub agreeing_sources : AgreeingSourcesAreOrderly
agreeing_sources s p lowered n entries agree =
    let k = source_keeps s n entries in
    agreeing_orderly source_meaning code_meaning p.classes (source_after s n entries) (world_after p n entries) agree k.stacks k.rest
    (lowered_orderly s p lowered n entries)
