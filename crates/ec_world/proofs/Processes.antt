-- What the statuses of processes tell, once one of them has acted or was granted a monitor.
use Rattle.std.proofs.Common.{◌≡◌, ℕ, zero, suc, ◌+◌, ◌≤◌, ◌==◌, true, List, [], ◌∷◌, ◌++◌, Option, Some, None, refl, sym, ap}
use Rattle.std.proofs.Common.{◌∙◌, subst, arith}
use Rattle.std.specs.Prelude.{slice_get, slice_set, IsSome}
use Rattle.ec_base.proofs.Lists.{get_set_same, get_set_other, get_within}
use Rattle.ec_base.specs.Stack.{top_of}
use Rattle.ec_monitors.specs.declared.record.Granted.{Granted}
use Rattle.ec_world.specs.Outcomes.{all_granted}
use Rattle.ec_world.specs.World.{stack_if_ready, ready_stack, stack_at, readied, all_readied, waiting}
use Rattle.ec_world.specs.declared.process.Proc.{Proc}
use Rattle.ec_world.specs.declared.process.ProcStatus.{ProcStatus}
use Rattle.ec_world.specs.declared.process.ProcStatus.TheVariants.{Ready, Entry, Cond, Urgent, Ended, Failed}
use Rattle.ec_world.specs.declared.stop.Effect.{Effect}
use Rattle.ec_world.specs.declared.stop.Effect.TheVariants.{GoesOn, Calls, Leaves, Blocks, Ends, Fails}
use Rattle.ec_world.specs.declared.stop.Queue.{Queue}
use Rattle.ec_world.specs.declared.stop.Queue.TheVariants.{ForEntry, ForCondition, Urgently}
use Rattle.ec_world.specs.declared.world.World.{World}
use Rattle.ec_world.specs.Waiting.{is_queue, times_blocked, times_blocked_if, is_blocked, HasStatus}
use Rattle.ec_world.proofs.Counting.{Table, equal_case, one_equal, count_if, count_none, swapped, in_queue, went, went_one, comes}
use Rattle.ec_world.proofs.Counting.{Fits, fits_by, fits_least, fits_grant}

-- ---- statuses

abbrev pub status_after : Effect → ProcStatus
status_after (GoesOn given) = Ready
status_after (Calls op own args) = Ready
status_after (Leaves given) = Ready
status_after (Blocks queue own) = waiting queue own
status_after Ends = Ended
status_after (Fails why line) = Failed why line

waiting_times : (from : Queue) (own p : ℕ) (queue : Queue) (x q : ℕ) →
    count_if (p == q) (times_blocked queue x (waiting from own)) ≡ count_if (own == x) (in_queue from p queue q)
waiting_times ForEntry own p queue x q = swapped (p == q) (is_queue ForEntry queue) (own == x)
waiting_times ForCondition own p queue x q = swapped (p == q) (is_queue ForCondition queue) (own == x)
waiting_times Urgently own p queue x q = swapped (p == q) (is_queue Urgently queue) (own == x)

after_times : (e : Effect) (p : ℕ) (queue : Queue) (x q : ℕ) →
    count_if (p == q) (times_blocked queue x (status_after e)) ≡ comes p e queue x q
after_times (GoesOn given) p queue x q = count_none (p == q)
after_times (Calls op own args) p queue x q = count_none (p == q)
after_times (Leaves given) p queue x q = count_none (p == q)
after_times (Blocks to own) p queue x q = waiting_times to own p queue x q
after_times Ends p queue x q = count_none (p == q)
after_times (Fails why line) p queue x q = count_none (p == q)

-- a status of which a queue is told is that of who waits there
status_is : (from : Queue) (own : ℕ) (s : ProcStatus) → 1 ≤ times_blocked from own s → s ≡ waiting from own
status_is from own Ready h = absurd (omega arith)
status_is from own Ended h = absurd (omega arith)
status_is from own (Failed cause line) h = absurd (omega arith)
status_is ForEntry own (Entry x) h = ap Entry (one_equal x own h)
status_is ForEntry own (Cond x) h = absurd (omega arith)
status_is ForEntry own (Urgent x) h = absurd (omega arith)
status_is ForCondition own (Entry x) h = absurd (omega arith)
status_is ForCondition own (Cond x) h = ap Cond (one_equal x own h)
status_is ForCondition own (Urgent x) h = absurd (omega arith)
status_is Urgently own (Entry x) h = absurd (omega arith)
status_is Urgently own (Cond x) h = absurd (omega arith)
status_is Urgently own (Urgent x) h = ap Urgent (one_equal x own h)

pub waiting_blocked : (from : Queue) (own : ℕ) → is_blocked (waiting from own) ≡ true
waiting_blocked ForEntry own = refl
waiting_blocked ForCondition own = refl
waiting_blocked Urgently own = refl

module _ {A : Type 0} where
  abbrev pub shown : List (Proc A) → Table
  shown processes queue o q = times_blocked_if queue o (slice_get processes q)

  -- ---- one process is another one now

  pub shown_set : (ps : List (Proc A)) (i : ℕ) (old new : Proc A) → slice_get ps i ≡ Some old → (queue : Queue) (x q : ℕ) →
      shown (slice_set ps i new) queue x q + count_if (i == q) (times_blocked queue x old.status) ≡
      shown ps queue x q + count_if (i == q) (times_blocked queue x new.status)
  shown_set ps i old new there queue x q =
      equal_case
      (λ b. shown (slice_set ps i new) queue x q + count_if b (times_blocked queue x old.status) ≡
      shown ps queue x q + count_if b (times_blocked queue x new.status)) i q
      (λ e.
      let a : shown (slice_set ps i new) queue x q ≡ times_blocked queue x new.status =
      ap (λ j. shown (slice_set ps i new) queue x j) (sym e)
      ∙ ap (λ (t : Option (Proc A)). times_blocked_if queue x t) (get_set_same ps i new (get_within ps i old there)) in
      let b : shown ps queue x q ≡ times_blocked queue x old.status =
      ap (λ j. shown ps queue x j) (sym e) ∙ ap (λ (t : Option (Proc A)). times_blocked_if queue x t) there in
      omega arith)
      (λ n.
      let a : shown (slice_set ps i new) queue x q ≡ shown ps queue x q =
      ap (λ (t : Option (Proc A)). times_blocked_if queue x t) (get_set_other ps i q new (λ k. n (sym k))) in
      omega arith)

  -- a process that was Ready has acted
  pub shown_act : (ps : List (Proc A)) (p : ℕ) (new : Proc A) (e : Effect) → HasStatus ps p Ready → new.status ≡ status_after e →
      (queue : Queue) (x q : ℕ) → shown (slice_set ps p new) queue x q ≡ shown ps queue x q + comes p e queue x q
  shown_act ps p new e ready is queue x q =
      let s = shown_set ps p ready.proc new ready.there queue x q in
      let a : count_if (p == q) (times_blocked queue x ready.proc.status) ≡ 0 =
      ap (λ t. count_if (p == q) (times_blocked queue x t)) ready.is ∙ count_none (p == q) in
      let b : count_if (p == q) (times_blocked queue x new.status) ≡ comes p e queue x q =
      ap (λ t. count_if (p == q) (times_blocked queue x t)) is ∙ after_times e p queue x q in
      omega arith

  -- ---- who is granted a monitor

  stands_if : (ps : List (Proc A)) (from : Queue) (own q : ℕ) (t : Option (Proc A)) → slice_get ps q ≡ t → 1 ≤ times_blocked_if from own t →
      HasStatus ps q (waiting from own)
  stands_if ps from own q None e h = absurd (omega arith)
  stands_if ps from own q (Some proc) e h = record { proc = proc; there = e; is = status_is from own proc.status h }

  pub stands : (ps : List (Proc A)) (from : Queue) (own q : ℕ) → 1 ≤ shown ps from own q → HasStatus ps q (waiting from own)
  stands ps from own q h = stands_if ps from own q (slice_get ps q) refl h

  abbrev pub ready_granted : List (Proc A) → Option Granted → List (Proc A)
  ready_granted ps None = ps
  ready_granted ps (Some g) = readied ps g.process (slice_get ps g.process)

  pub all_ready : (ps : List (Proc A)) (granted : Option Granted) (freed : List ℕ) →
      all_readied ps (all_granted granted freed) ≡ all_readied (ready_granted ps granted) freed
  all_ready ps None freed = refl
  all_ready ps (Some g) freed = refl

  shown_readied : (ps : List (Proc A)) (from : Queue) (own g : ℕ) → HasStatus ps g (waiting from own) → (queue : Queue) (x q : ℕ) →
      shown (readied ps g (slice_get ps g)) queue x q + count_if (own == x) (in_queue from g queue q) ≡ shown ps queue x q
  shown_readied ps from own g waits queue x q =
      let new : Proc A = record waits.proc { status = Ready } in
      let s = shown_set ps g waits.proc new waits.there queue x q in
      let r : shown (readied ps g (slice_get ps g)) queue x q ≡ shown (slice_set ps g new) queue x q =
      ap (λ (t : Option (Proc A)). shown (readied ps g t) queue x q) waits.there in
      let a : count_if (g == q) (times_blocked queue x waits.proc.status) ≡ count_if (own == x) (in_queue from g queue q) =
      ap (λ t. count_if (g == q) (times_blocked queue x t)) waits.is ∙ waiting_times from own g queue x q in
      let z : count_if (g == q) (times_blocked queue x new.status) ≡ 0 = count_none (g == q) in
      omega arith

  -- whoever stood in a queue, and is granted the monitor, is Ready
  pub granted_fits : (ps : List (Proc A)) (table : Table) (own : ℕ) (from : Queue) (granted : Option Granted) →
      ((queue : Queue) (x q : ℕ) → Fits queue (table queue x q + count_if (own == x) (went from granted queue q)) (shown ps queue x q)) →
      (queue : Queue) (x q : ℕ) → Fits queue (table queue x q) (shown (ready_granted ps granted) queue x q)
  granted_fits ps table own from None fits queue x q =
      let z = count_none (own == x) in
      fits_by queue (table queue x q + count_if (own == x) 0) (table queue x q) (shown ps queue x q) (shown ps queue x q)
      (omega arith) refl (fits queue x q)
  granted_fits ps table own from (Some g) fits queue x q =
      let waits = stands ps from own g.process stood in
      fits_grant queue (table queue x q) (count_if (own == x) (in_queue from g.process queue q)) (shown ps queue x q)
      (shown (ready_granted ps (Some g)) queue x q) (fits queue x q) (shown_readied ps from own g.process waits queue x q)
    where
      there : count_if (own == own) (went from (Some g) from g.process) ≡ 1
      there =
          equal_case (λ b. count_if b (went from (Some g) from g.process) ≡ 1) own own
          (λ e. went_one from (Some g) g refl) (λ n. absurd (n refl))

      stood : 1 ≤ shown ps from own g.process
      stood =
          let h = fits_least from (table from own g.process + count_if (own == own) (went from (Some g) from g.process))
          (shown ps from own g.process) (fits from own g.process) in
          let one = there in
          omega arith

  -- ---- what holds of each process

  pub each_set : (P : Proc A → Type 0) (ps : List (Proc A)) (i : ℕ) (new : Proc A) →
      ((q : ℕ) (proc : Proc A) → slice_get ps q ≡ Some proc → P proc) → P new →
      (q : ℕ) (proc : Proc A) → slice_get (slice_set ps i new) q ≡ Some proc → P proc
  each_set P [] i new all this q proc e = all q proc e
  each_set P (x ∷ xs) zero new all this zero proc e = let s : new ≡ proc = cc in subst P s this
  each_set P (x ∷ xs) zero new all this (suc q) proc e = all (suc q) proc e
  each_set P (x ∷ xs) (suc i) new all this zero proc e = all zero proc e
  each_set P (x ∷ xs) (suc i) new all this (suc q) proc e = each_set P xs i new (λ r. all (suc r)) this q proc e

  pub each_push : (P : Proc A → Type 0) (ps : List (Proc A)) (new : Proc A) →
      ((q : ℕ) (proc : Proc A) → slice_get ps q ≡ Some proc → P proc) → P new →
      (q : ℕ) (proc : Proc A) → slice_get (ps ++ new ∷ []) q ≡ Some proc → P proc
  each_push P [] new all this zero proc e = let s : new ≡ proc = cc in subst P s this
  each_push P [] new all this (suc q) proc e = all q proc e
  each_push P (x ∷ xs) new all this zero proc e = all zero proc e
  each_push P (x ∷ xs) new all this (suc q) proc e = each_push P xs new (λ r. all (suc r)) this q proc e

  -- one that is blocked has an activation on top
  abbrev pub HasTop : Proc A → Type 0
  HasTop proc = is_blocked proc.status ≡ true → IsSome (top_of proc.activations)

  abbrev pub EachHasTop : List (Proc A) → Type 0
  EachHasTop ps = (q : ℕ) (proc : Proc A) → slice_get ps q ≡ Some proc → HasTop proc

  readied_top : (ps : List (Proc A)) (g : ℕ) (t : Option (Proc A)) → EachHasTop ps → EachHasTop (readied ps g t)
  readied_top ps g None h = h
  readied_top ps g (Some proc) h = each_set HasTop ps g (record proc { status = Ready }) h (λ e. absurd cc)

  pub all_readied_top : (ps : List (Proc A)) (granted : List ℕ) → EachHasTop ps → EachHasTop (all_readied ps granted)
  all_readied_top ps [] h = h
  all_readied_top ps (g ∷ gs) h = all_readied_top (readied ps g (slice_get ps g)) gs (readied_top ps g (slice_get ps g) h)

  -- ---- a process with an activation that may act is Ready

  ready_status : (s : ProcStatus) (xs : List A) (top : A) → top_of (stack_if_ready s xs) ≡ Some top → s ≡ Ready
  ready_status Ready xs top e = refl
  ready_status (Entry o) xs top e = absurd cc
  ready_status (Cond o) xs top e = absurd cc
  ready_status (Urgent o) xs top e = absurd cc
  ready_status Ended xs top e = absurd cc
  ready_status (Failed cause line) xs top e = absurd cc

  ready_if : (ps : List (Proc A)) (p : ℕ) (top : A) (t : Option (Proc A)) → slice_get ps p ≡ t → top_of (ready_stack t) ≡ Some top →
      HasStatus ps p Ready
  ready_if ps p top None is e = absurd cc
  ready_if ps p top (Some proc) is e = record { proc = proc; there = is; is = ready_status proc.status proc.activations top e }

  pub is_ready : (w : World A) (p : ℕ) (top : A) → top_of (stack_at w p) ≡ Some top → HasStatus w.processes p Ready
  is_ready w p top e = ready_if w.processes p top (slice_get w.processes p) refl e
