-- Tables of how often each process stands in each queue of each object's monitor, and when one fits another.
use Rattle.std.proofs.Common.{◌≡◌, ◌≢◌, ℕ, ◌+◌, ◌≤◌, ◌==◌, Bool, true, false, Option, Some, None, refl, ap, ◌∙◌, arith}
use Rattle.std.specs.Prelude.{◌&&◌, if◌then◌else◌}
use Rattle.std.proofs.lemmas.Bool.Decides.{Decides-eqb}
use Rattle.ec_monitors.specs.Standing.{one_if}
use Rattle.ec_monitors.specs.declared.record.Granted.{Granted}
use Rattle.ec_world.specs.declared.stop.Effect.{Effect}
use Rattle.ec_world.specs.declared.stop.Effect.TheVariants.{GoesOn, Calls, Leaves, Blocks, Ends, Fails}
use Rattle.ec_world.specs.declared.stop.Queue.{Queue}
use Rattle.ec_world.specs.declared.stop.Queue.TheVariants.{ForEntry, ForCondition, Urgently}
use Rattle.ec_world.specs.Waiting.{is_queue}

-- by queue, object and process
abbrev pub Table : Type 0
Table = Queue → ℕ → ℕ → ℕ

-- ---- tests

pub if_case : {R : Type 0} (P : R → Type 0) (b : Bool) (x y : R) → (b ≡ true → P x) → (b ≡ false → P y) → P (if b then x else y)
if_case P true x y f g = f refl
if_case P false x y f g = g refl

pub equal_case : (P : Bool → Type 0) (x y : ℕ) → (x ≡ y → P true) → (x ≢ y → P false) → P (x == y)
equal_case P x y f g = part (x == y) refl
  where
    part : (b : Bool) → (x == y) ≡ b → P b
    part true e = f ((Decides-eqb x y).0 e)
    part false e = g (λ k. let t : (x == y) ≡ true = (Decides-eqb x y).1 k in cc)

pub one_equal : (x y : ℕ) → 1 ≤ one_if (x == y) → x ≡ y
one_equal x y = equal_case (λ b. 1 ≤ one_if b → x ≡ y) x y (λ e h. e) (λ n h. absurd (omega arith))

pub one_itself : (x y : ℕ) → x ≡ y → one_if (x == y) ≡ 1
one_itself x y e = equal_case (λ b. one_if b ≡ 1) x y (λ k. refl) (λ n. absurd (n e))

pub at_most_one : (b : Bool) → one_if b ≤ 1
at_most_one true = omega arith
at_most_one false = omega arith

-- ---- counts

abbrev pub count_if : Bool → ℕ → ℕ
count_if true n = n
count_if false n = 0

pub count_none : (b : Bool) → count_if b 0 ≡ 0
count_none true = refl
count_none false = refl

pub swapped : (a b c : Bool) → count_if a (one_if (b && c)) ≡ count_if c (one_if (b && a))
swapped true true true = refl
swapped true true false = refl
swapped true false true = refl
swapped true false false = refl
swapped false true true = refl
swapped false true false = refl
swapped false false true = refl
swapped false false false = refl

-- once for process p in one queue
abbrev pub in_queue : Queue → ℕ → Queue → ℕ → ℕ
in_queue from p queue q = one_if (is_queue from queue && p == q)

-- who went from a queue, where somebody was granted the monitor
abbrev pub went : Queue → Option Granted → Queue → ℕ → ℕ
went from None queue q = 0
went from (Some g) queue q = in_queue from g.process queue q

-- p comes to the queue in which it blocks
abbrev pub came : ℕ → Effect → Queue → ℕ → ℕ
came p (GoesOn given) queue q = 0
came p (Calls op own args) queue q = 0
came p (Leaves given) queue q = 0
came p (Blocks to own) queue q = in_queue to p queue q
came p Ends queue q = 0
came p (Fails why line) queue q = 0

-- the same, at the object for which it waits
abbrev pub comes : ℕ → Effect → Table
comes p (GoesOn given) queue o q = 0
comes p (Calls op own args) queue o q = 0
comes p (Leaves given) queue o q = 0
comes p (Blocks to own) queue o q = count_if (own == o) (in_queue to p queue q)
comes p Ends queue o q = 0
comes p (Fails why line) queue o q = 0

in_itself : (queue : Queue) (p : ℕ) → in_queue queue p queue p ≡ 1
in_itself ForEntry p = one_itself p p refl
in_itself ForCondition p = one_itself p p refl
in_itself Urgently p = one_itself p p refl

pub went_one : (from : Queue) (granted : Option Granted) (g : Granted) → granted ≡ Some g → went from granted from g.process ≡ 1
went_one from granted g e = ap (λ (t : Option Granted). went from t from g.process) e ∙ in_itself from g.process

-- ---- what monitors tell fits what statuses tell: for a condition fewer may stand in queues than are blocked

abbrev pub Fits : Queue → ℕ → ℕ → Type 0
Fits ForEntry n k = n ≡ k
Fits ForCondition n k = n ≤ k
Fits Urgently n k = n ≡ k

pub fits_same : (queue : Queue) (n k : ℕ) → n ≡ k → Fits queue n k
fits_same ForEntry n k e = e
fits_same ForCondition n k e = omega arith
fits_same Urgently n k e = e

pub fits_least : (queue : Queue) (n k : ℕ) → Fits queue n k → n ≤ k
fits_least ForEntry n k h = omega arith
fits_least ForCondition n k h = h
fits_least Urgently n k h = omega arith

pub fits_by : (queue : Queue) (n n' k k' : ℕ) → n' ≡ n → k' ≡ k → Fits queue n k → Fits queue n' k'
fits_by ForEntry n n' k k' e f h = omega arith
fits_by ForCondition n n' k k' e f h = omega arith
fits_by Urgently n n' k k' e f h = omega arith

pub fits_chain : (queue : Queue) (n k l : ℕ) → Fits queue n k → Fits queue k l → Fits queue n l
fits_chain ForEntry n k l h f = h ∙ f
fits_chain ForCondition n k l h f = omega arith
fits_chain Urgently n k l h f = h ∙ f

-- what comes, comes to both
pub fits_act : (queue : Queue) (old new gone come told told' : ℕ) → Fits queue (new + gone) (old + come) → Fits queue old told →
    told' ≡ told + come → Fits queue (new + gone) told'
fits_act ForEntry old new gone come told told' h k e = omega arith
fits_act ForCondition old new gone come told told' h k e = omega arith
fits_act Urgently old new gone come told told' h k e = omega arith

-- what goes, goes from both
pub fits_grant : (queue : Queue) (new gone told told' : ℕ) → Fits queue (new + gone) told → told' + gone ≡ told → Fits queue new told'
fits_grant ForEntry new gone told told' h e = omega arith
fits_grant ForCondition new gone told told' h e = omega arith
fits_grant Urgently new gone told told' h e = omega arith
