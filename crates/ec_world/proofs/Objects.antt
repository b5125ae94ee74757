-- What the monitors of objects tell, once objects are added or changed.
use Rattle.std.proofs.Common.{◌≡◌, ◌≢◌, ℕ, zero, suc, ◌+◌, ◌-◌, ◌==◌, List, [], ◌∷◌, ◌++◌, Option, Some, None, refl, sym, ap}
use Rattle.std.proofs.Common.{◌∙◌, arith}
use Rattle.std.specs.Prelude.{slice_get, slice_set, replicate}
use Rattle.ec_base.proofs.Lists.{get_set_same, get_set_other, get_within}
use Rattle.ec_monitors.proofs.Standing.{queues-none}
use Rattle.ec_monitors.specs.Monitors.{made}
use Rattle.ec_monitors.specs.declared.record.MonitorRec.{MonitorRec}
use Rattle.ec_world.specs.Objects.{object_at, changed_if, changed_object}
use Rattle.ec_world.specs.Outcomes.{monitor_if, monitor_for}
use Rattle.ec_world.specs.Run.{node_object, program_object}
use Rattle.ec_world.specs.declared.class.ClassRec.{ClassRec}
use Rattle.ec_world.specs.declared.object.ObjectRec.{ObjectRec}
use Rattle.ec_world.specs.declared.stop.Queue.{Queue}
use Rattle.ec_world.specs.declared.stop.Queue.TheVariants.{ForEntry, ForCondition, Urgently}
use Rattle.ec_world.specs.Waiting.{times_queued, times_queued_if}
use Rattle.ec_world.proofs.Counting.{Table, if_case, equal_case, count_if, Fits, fits_by, fits_same}

abbrev pub told : List ObjectRec → Table
told objects queue o q = times_queued_if queue (monitor_if (object_at objects o)) q

-- ---- lists

-- one item more, of which as much is told as of none
pub get_push : {B : Type 0} (g : Option B → ℕ) (xs : List B) (x : B) → g (Some x) ≡ g None → (i : ℕ) →
    g (slice_get (xs ++ x ∷ []) i) ≡ g (slice_get xs i)
get_push g [] x e zero = e
get_push g [] x e (suc i) = refl
get_push g (y ∷ ys) x e zero = refl
get_push g (y ∷ ys) x e (suc i) = get_push g ys x e i

get_replicate : {B : Type 0} (g : Option B → ℕ) (n : ℕ) (x : B) → g (Some x) ≡ g None → (i : ℕ) →
    g (slice_get (replicate n x) i) ≡ g None
get_replicate g zero x e i = refl
get_replicate g (suc n) x e zero = e
get_replicate g (suc n) x e (suc i) = get_replicate g n x e i

-- ---- an object is changed

module _ (objects : List ObjectRec) (change : ObjectRec → ObjectRec) where
  set_same : (i n : ℕ) (r : ObjectRec) → n ≡ i → slice_get objects i ≡ Some r →
      slice_get (slice_set objects n (change r)) i ≡ Some (change r)
  set_same i n r e is =
      ap (λ k. slice_get (slice_set objects k (change r)) i) e ∙ get_set_same objects i (change r) (get_within objects i r is)

  set_other : (i j n : ℕ) (r : ObjectRec) → n ≡ i → j ≢ i → slice_get (slice_set objects n (change r)) j ≡ slice_get objects j
  set_other i j n r e h =
      ap (λ k. slice_get (slice_set objects k (change r)) j) e ∙ get_set_other objects i j (change r) h

  changed_same : (own : ℕ) (r : ObjectRec) → object_at objects own ≡ Some r →
      object_at (changed_object objects own change) own ≡ Some (change r)
  changed_same zero r is = absurd cc
  changed_same (suc i) r is =
      ap (λ (t : Option ObjectRec). slice_get (changed_if objects (suc i) change t) i) is ∙ set_same i (suc i - 1) r (omega arith) is

  other_if : (own x : ℕ) (t : Option ObjectRec) → object_at objects own ≡ t → own ≢ x →
      object_at (changed_if objects own change t) x ≡ object_at objects x
  other_if own x None is h = refl
  other_if own zero (Some r) is h = refl
  other_if zero (suc j) (Some r) is h = absurd cc
  other_if (suc i) (suc j) (Some r) is h = set_other i j (suc i - 1) r (omega arith) (λ e. h (ap suc (sym e)))

  changed_other : (own x : ℕ) → own ≢ x → object_at (changed_object objects own change) x ≡ object_at objects x
  changed_other own x h = other_if own x (object_at objects own) refl h

  -- a change that leaves the monitor alone
  module _ (keeps : (r : ObjectRec) → (change r).monitor ≡ r.monitor) where
    kept_if : (own : ℕ) (t : Option ObjectRec) → object_at objects own ≡ t →
        monitor_if (object_at (changed_object objects own change) own) ≡ monitor_if (object_at objects own)
    kept_if own None is = ap (λ (t : Option ObjectRec). monitor_if (object_at (changed_if objects own change t) own)) is
    kept_if own (Some r) is = ap monitor_if (changed_same own r is) ∙ keeps r ∙ sym (ap monitor_if is)

    monitor_kept : (own x : ℕ) → monitor_if (object_at (changed_object objects own change) x) ≡ monitor_if (object_at objects x)
    monitor_kept own x =
        equal_case (λ b. monitor_if (object_at (changed_object objects own change) x) ≡ monitor_if (object_at objects x)) own x
        (λ e. ap (λ o. monitor_if (object_at (changed_object objects own change) o)) (sym e) ∙ kept_if own (object_at objects own) refl
        ∙ ap (λ o. monitor_if (object_at objects o)) e)
        (λ n. ap monitor_if (changed_other own x n))

    pub told_kept : (own : ℕ) (queue : Queue) (x q : ℕ) → told (changed_object objects own change) queue x q ≡ told objects queue x q
    told_kept own queue x q = ap (λ (t : Option MonitorRec). times_queued_if queue t q) (monitor_kept own x)

-- an object has another monitor now
module _ (objects : List ObjectRec) (own : ℕ) (m : MonitorRec) where
  abbrev pub with_monitor : List ObjectRec
  with_monitor = changed_object objects own (λ o. record o { monitor = Some m })

  given_if : (t : Option ObjectRec) → object_at objects own ≡ t → (old : MonitorRec) → monitor_if t ≡ Some old →
      monitor_if (object_at with_monitor own) ≡ Some m
  given_if None is old e = absurd cc
  given_if (Some r) is old e = ap monitor_if (changed_same objects (λ o. record o { monitor = Some m }) own r is)

  pub told_set : (old : MonitorRec) (gone come : Queue → ℕ → ℕ) → monitor_if (object_at objects own) ≡ Some old →
      ((queue : Queue) (q : ℕ) → Fits queue (times_queued queue m q + gone queue q) (times_queued queue old q + come queue q)) →
      (queue : Queue) (x q : ℕ) →
      Fits queue (told with_monitor queue x q + count_if (own == x) (gone queue q))
      (told objects queue x q + count_if (own == x) (come queue q))
  told_set old gone come at fits queue x q =
      equal_case
      (λ b. Fits queue (told with_monitor queue x q + count_if b (gone queue q)) (told objects queue x q + count_if b (come queue q)))
      own x
      (λ e.
      let a : told with_monitor queue x q ≡ times_queued queue m q =
      ap (λ o. told with_monitor queue o q) (sym e)
      ∙ ap (λ (t : Option MonitorRec). times_queued_if queue t q) (given_if (object_at objects own) refl old at) in
      let b : told objects queue x q ≡ times_queued queue old q =
      ap (λ o. told objects queue o q) (sym e) ∙ ap (λ (t : Option MonitorRec). times_queued_if queue t q) at in
      fits_by queue (times_queued queue m q + gone queue q) (told with_monitor queue x q + gone queue q)
      (times_queued queue old q + come queue q) (told objects queue x q + come queue q) (omega arith) (omega arith) (fits queue q))
      (λ n.
      let a : told with_monitor queue x q ≡ told objects queue x q =
      ap (λ (t : Option ObjectRec). times_queued_if queue (monitor_if t) q)
      (changed_other objects (λ o. record o { monitor = Some m }) own x n) in
      fits_same queue (told with_monitor queue x q + 0) (told objects queue x q + 0) (omega arith))

-- ---- an object is added

pub told_push : (objects : List ObjectRec) (r : ObjectRec) → ((queue : Queue) (q : ℕ) → times_queued_if queue r.monitor q ≡ 0) →
    (queue : Queue) (x q : ℕ) → told (objects ++ r ∷ []) queue x q ≡ told objects queue x q
told_push objects r none queue zero q = refl
told_push objects r none queue (suc i) q =
    get_push (λ (t : Option ObjectRec). times_queued_if queue (monitor_if t) q) objects r (none queue q) i

made_times : (n : ℕ) (queue : Queue) (q : ℕ) → times_queued queue (made (replicate n [])) q ≡ 0
made_times n ForEntry q = refl
made_times n ForCondition q = queues-none q n
made_times n Urgently q = refl

-- nobody waits in a new monitor
pub new_times : (k : ClassRec) (queue : Queue) (q : ℕ) → times_queued_if queue (monitor_for k) q ≡ 0
new_times k queue q =
    if_case (λ (t : Option MonitorRec). times_queued_if queue t q ≡ 0) k.monitored (Some (made (replicate k.conditions []))) None
    (λ e. made_times k.conditions queue q) (λ e. refl)

-- nor in the first objects
pub told_first : (n : ℕ) (queue : Queue) (x q : ℕ) → told (replicate n node_object ++ program_object ∷ []) queue x q ≡ 0
told_first n queue zero q = refl
told_first n queue (suc i) q =
    let g = λ (t : Option ObjectRec). times_queued_if queue (monitor_if t) q in
    get_push g (replicate n node_object) program_object refl i ∙ get_replicate g n node_object refl i
