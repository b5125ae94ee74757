-- Whose turn is next, and when nobody's is.
use Rattle.std.proofs.Common.{◌≡◌, ℕ, zero, suc, ◌+◌, ◌<◌, ◌≤◌, Bool, true, false, ◌&&◌, ◌||◌, not, List, [], ◌∷◌, map, drop, nat_le, Option, Some}
use Rattle.std.proofs.Common.{None, ◌⊎◌, inl, inr, ⊎_elim, refl, sym, ap, ◌∙◌, add-one, arith}
use Rattle.std.specs.Prelude.{if◌then◌else◌, slice_get}
use Rattle.std.specs.List.{list_all}
use Rattle.std.proofs.lemmas.Grind.{common_steps}
use Rattle.ec_base.proofs.Lists.{drop_at}
use Rattle.ec_world.specs.declared.process.ProcStatus.{ProcStatus}
use Rattle.ec_world.specs.declared.process.ProcStatus.TheVariants.{Ready, Entry, Cond, Urgent, Ended, Failed}
use Rattle.ec_world.specs.declared.run.RunEnd.TheVariants.{Finished, Stuck, Spent}
use Rattle.ec_world.specs.Run.{is_ready, is_over, all_true, first_true, or_else, next_ready_of, robin_entry, spent_if, end_by}
use Rattle.ec_world.specs.declared.run.RunEntry.TheVariants.{TurnOf}
use Rattle.ec_report.specs.declared.step.Step.TheVariants.{Stops, Does}
use Rattle.ec_report.specs.Progress.{IsStep}

all_true-map : (f : ProcStatus → Bool) (ss : List ProcStatus) → all_true (map f ss) ≡ list_all f ss
all_true-map f [] = refl
all_true-map f (s ∷ ss) = ap (λ b. f s && b) (all_true-map f ss)

-- none of these statuses is Ready
abbrev none_ready : List ProcStatus → Bool
none_ready ss = all_true (map (λ s. not (is_ready s)) ss)

zero_le : (i : ℕ) → nat_le 0 i ≡ true
zero_le i = grind (arith, common_steps)

none_here : (i : ℕ) (b : Bool) (bs : List Bool) → first_true 0 i (b ∷ bs) ≡ None → (b ≡ false) × (first_true 0 (suc i) bs ≡ None)
none_here i true bs e = let k = zero_le i in let h : (if true then Some i else first_true 0 (suc i) bs) ≡ None = rw k at e in cc
none_here i false bs e = (refl, e)

first_none : (i : ℕ) (ss : List ProcStatus) → first_true 0 i (map is_ready ss) ≡ None → none_ready ss ≡ true
first_none i [] e = refl
first_none i (s ∷ ss) e =
    let h = none_here i (is_ready s) (map is_ready ss) e in
    let k = first_none (suc i) ss h.1 in
    rw (h.0, k) refl

first_some : (from i : ℕ) (ss : List ProcStatus) (p : ℕ) → first_true from i (map is_ready ss) ≡ Some p → none_ready ss ≡ false
first_some from i [] p e = cc
first_some from i (s ∷ ss) p e =
    elim (is_ready s) as
    (λ b. (if b && nat_le from i then Some i else first_true from (suc i) (map is_ready ss)) ≡ Some p →
    (not b && none_ready ss) ≡ false)
    [ true ↦ λ h. refl | false ↦ λ h. first_some from (suc i) ss p h ] e

or_none : (a b : Option ℕ) → or_else a b ≡ None → b ≡ None
or_none None b e = e
or_none (Some p) b e = cc

or_some : (a b : Option ℕ) (p : ℕ) → or_else a b ≡ Some p → (a ≡ Some p) ⊎ (b ≡ Some p)
or_some None b p e = inr e
or_some (Some q) b p e = inl e

pub next_none : (ss : List ProcStatus) (last : Option ℕ) → next_ready_of (map is_ready ss) last ≡ None → none_ready ss ≡ true
next_none ss None e = first_none 0 ss e
next_none ss (Some last) e = first_none 0 ss (or_none (first_true (suc last) 0 (map is_ready ss)) (first_true 0 0 (map is_ready ss)) e)

pub next_some : (ss : List ProcStatus) (last : Option ℕ) (p : ℕ) → next_ready_of (map is_ready ss) last ≡ Some p → none_ready ss ≡ false
next_some ss None p e = first_some 0 0 ss p e
next_some ss (Some last) p e = ⊎_elim
    (λ (h : first_true (suc last) 0 (map is_ready ss) ≡ Some p). first_some (suc last) 0 ss p h)
    (λ (h : first_true 0 0 (map is_ready ss) ≡ Some p). first_some 0 0 ss p h)
    (or_some (first_true (suc last) 0 (map is_ready ss)) (first_true 0 0 (map is_ready ss)) p e)

-- where one is Ready, not all are over
first_going : (from i : ℕ) (ss : List ProcStatus) (p : ℕ) → first_true from i (map is_ready ss) ≡ Some p → list_all is_over ss ≡ false
first_going from i [] p e = cc
first_going from i (Ready ∷ ss) p e = refl
first_going from i (Entry o ∷ ss) p e = refl
first_going from i (Cond o ∷ ss) p e = refl
first_going from i (Urgent o ∷ ss) p e = refl
first_going from i (Ended ∷ ss) p e = first_going from (suc i) ss p e
first_going from i (Failed cause line ∷ ss) p e = first_going from (suc i) ss p e

pub next_going : (ss : List ProcStatus) (last : Option ℕ) (p : ℕ) → next_ready_of (map is_ready ss) last ≡ Some p →
    list_all is_over ss ≡ false
next_going ss None p e = first_going 0 0 ss p e
next_going ss (Some last) p e = ⊎_elim
    (λ (h : first_true (suc last) 0 (map is_ready ss) ≡ Some p). first_going (suc last) 0 ss p h)
    (λ (h : first_true 0 0 (map is_ready ss) ≡ Some p). first_going 0 0 ss p h)
    (or_some (first_true (suc last) 0 (map is_ready ss)) (first_true 0 0 (map is_ready ss)) p e)

-- ---- the least Ready one from a place on

-- the list begins at a place from which on all count
all_count : (from other i : ℕ) (bs : List Bool) → from ≤ i → other ≤ i → first_true from i bs ≡ first_true other i bs
all_count from other i [] h k = refl
all_count from other i (b ∷ bs) h k =
    let m : nat_le from i ≡ true = grind (arith, common_steps) in
    let n : nat_le other i ≡ true = grind (arith, common_steps) in
    let e = all_count from other (suc i) bs (omega arith) (omega arith) in
    rw (m, n, e) refl

no_le : (m n : ℕ) → n < m → nat_le m n ≡ false
no_le m n h = grind (arith, common_steps)

skipped : (from i : ℕ) (b : Bool) (bs : List Bool) → i < from → first_true from i (b ∷ bs) ≡ first_true from (suc i) bs
skipped from i false bs h = refl
skipped from i true bs h = rw (no_le from i h) refl

-- at the place one stands that isn't Ready
past_it : (ss : List ProcStatus) (i k from : ℕ) (s : ProcStatus) → from ≡ i + k → slice_get ss k ≡ Some s → is_ready s ≡ false →
    first_true from i (map is_ready ss) ≡ first_true (suc from) i (map is_ready ss)
past_it [] i k from s at e h = cc
past_it (x ∷ ss) i zero from s at e h =
    let is : is_ready x ≡ false = cc in
    let rest = all_count from (suc from) (suc i) (map is_ready ss) (omega arith) (omega arith) in
    rw is rest
past_it (x ∷ ss) i (suc k) from s at e h =
    skipped from i (is_ready x) (map is_ready ss) (omega arith)
    ∙ (past_it ss (suc i) k from s (omega arith) e h ∙ sym (skipped (suc from) i (is_ready x) (map is_ready ss) (omega arith)))

pub first_past : (ss : List ProcStatus) (k : ℕ) (s : ProcStatus) → slice_get ss k ≡ Some s → is_ready s ≡ false →
    first_true k 0 (map is_ready ss) ≡ first_true (k + 1) 0 (map is_ready ss)
first_past ss k s at h = rw (add-one k) (past_it ss 0 k k s (omega arith) at h)

-- one stands there that is
pub first_here : (ss : List ProcStatus) (i k from : ℕ) (s : ProcStatus) → from ≡ i + k → slice_get ss k ≡ Some s → is_ready s ≡ true →
    first_true from i (map is_ready ss) ≡ Some from
first_here [] i k from s at e h = cc
first_here (x ∷ ss) i zero from s at e h =
    let is : is_ready x ≡ true = cc in
    let m : nat_le from i ≡ true = grind (arith, common_steps) in
    let same : i ≡ from = omega arith in
    rw (is, m) (ap Some same)
first_here (x ∷ ss) i (suc k) from s at e h =
    skipped from i (is_ready x) (map is_ready ss) (omega arith) ∙ first_here ss (suc i) k from s (omega arith) e h

-- the list ends there
pub first_end : (ss : List ProcStatus) (i k from : ℕ) → from ≡ i + k → slice_get ss k ≡ None → first_true from i (map is_ready ss) ≡ None
first_end [] i k from at e = refl
first_end (x ∷ ss) i zero from at e = cc
first_end (x ∷ ss) i (suc k) from at e =
    skipped from i (is_ready x) (map is_ready ss) (omega arith) ∙ first_end ss (suc i) k from (omega arith) e

-- nobody stands behind a place at which nobody stands
none_behind : (ss : List ProcStatus) (j k : ℕ) → slice_get ss j ≡ None → j ≤ k → slice_get ss k ≡ None
none_behind [] j k e h = refl
none_behind (s ∷ ss) zero k e h = cc
none_behind (s ∷ ss) (suc j) zero e h = absurd (omega arith)
none_behind (s ∷ ss) (suc j) (suc k) e h = none_behind ss j k e (omega arith)

pub first_behind : (ss : List ProcStatus) (j k : ℕ) → slice_get ss j ≡ None → j ≤ k → first_true k 0 (map is_ready ss) ≡ None
first_behind ss j k e h = first_end ss 0 k k (omega arith) (none_behind ss j k e h)

-- ---- whether all are over, from a place on

abbrev over_from : List ProcStatus → ℕ → Bool
over_from ss k = list_all is_over (drop k ss)

pub over_past : (ss : List ProcStatus) (k : ℕ) (s : ProcStatus) → slice_get ss k ≡ Some s → is_over s ≡ true →
    over_from ss k ≡ over_from ss (k + 1)
over_past ss k s at h = let e = drop_at ss k s at in rw (e, h) refl

pub over_here : (ss : List ProcStatus) (k : ℕ) (s : ProcStatus) → slice_get ss k ≡ Some s → is_over s ≡ false → over_from ss k ≡ false
over_here ss k s at h = let e = drop_at ss k s at in rw (e, h) refl

pub over_end : (ss : List ProcStatus) (k : ℕ) → slice_get ss k ≡ None → over_from ss k ≡ true
over_end [] zero e = refl
over_end [] (suc k) e = refl
over_end (s ∷ ss) zero e = cc
over_end (s ∷ ss) (suc k) e = over_end ss k e

-- ---- what comes next

module _ (ss : List ProcStatus) (budget done : ℕ) (last : Option ℕ) where
  pub step_finished : list_all is_over ss ≡ true → IsStep ss budget (record { left = []; last = last; done = done }) (Stops Finished)
  step_finished h = let e : all_true (map is_over ss) ≡ true = all_true-map is_over ss ∙ h in rw e refl

  module _ (going : list_all is_over ss ≡ false) where
    not_over : all_true (map is_over ss) ≡ false
    not_over = all_true-map is_over ss ∙ going

    pub step_stuck : next_ready_of (map is_ready ss) last ≡ None →
        IsStep ss budget (record { left = []; last = last; done = done }) (Stops Stuck)
    step_stuck h = let e = not_over in let k = next_none ss last h in rw (e, k) refl

    module _ (p : ℕ) (next : next_ready_of (map is_ready ss) last ≡ Some p) where
      end_is : end_by [] ss (nat_le budget done) ≡ spent_if (nat_le budget done)
      end_is = let e = not_over in let k = next_some ss last p next in rw (e, k) refl

      pub step_spent : budget ≤ done → IsStep ss budget (record { left = []; last = last; done = done }) (Stops Spent)
      step_spent h = let e : nat_le budget done ≡ true = grind (arith, common_steps) in end_is ∙ ap spent_if e

      pub step_turn : done < budget → IsStep ss budget (record { left = []; last = last; done = done }) (Does (TurnOf p))
      step_turn h = let e : nat_le budget done ≡ false = grind (arith, common_steps) in (end_is ∙ ap spent_if e, ap robin_entry next, h)
