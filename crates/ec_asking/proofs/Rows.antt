-- The activation on top of a process, by its row.
use Rattle.std.proofs.Common.{◌≡◌, ℕ, zero, suc, true, false, List, [], ◌∷◌, length, map, Some, None, refl, sym, ap}
use Rattle.std.proofs.Common.{◌∙◌, arith}
use Rattle.std.proofs.lemmas.Option.{same_Some}
use Rattle.std.specs.Prelude.{slice_get}
use Rattle.ec_asking.specs.Asking.{EachActs, IsIdle}
use Rattle.ec_asking.specs.Rows.{depth_if}
use Rattle.ec_base.proofs.Stacks.{stack_parts}
use Rattle.ec_base.specs.Stack.{below_of, top_of}
use Rattle.ec_cluster.specs.Cluster.{CodeWorld, frame_of, place, stores}
use Rattle.ec_cluster.specs.Finding.{NoFrame, TellsOf}
use Rattle.ec_code.specs.Activations.{code_meaning}
use Rattle.ec_code.specs.Typing.{Declared}
use Rattle.ec_code.specs.declared.activation.CodeActivation.{CodeActivation}
use Rattle.ec_node_frames.specs.declared.frames.Headings.{Headings}
use Rattle.ec_world.proofs.Procs.{activation_is}
use Rattle.ec_world.specs.declared.key.Key.TheVariants.{Frame}
use Rattle.ec_cluster.specs.Systems.{Runs, row_of}
use Rattle.ec_cluster.specs.declared.system.ProcessRow.{ProcessRow}
use Rattle.ec_cluster.specs.declared.system.System.{System}
use Rattle.ec_things.specs.Things.{ShownAt, frame_if}
use Rattle.ec_world.specs.World.{Action, act_if_pending, act_on, ready_stack, stack_at, stack_if_ready}
use Rattle.ec_world.specs.declared.process.Proc.{Proc}
use Rattle.ec_world.specs.declared.process.ProcStatus.{ProcStatus}
use Rattle.ec_world.specs.declared.process.ProcStatus.TheVariants.{Ready, Entry, Cond, Urgent, Ended, Failed}

-- ---- lists

from_map : {A B : Type 0} (f : A → B) (xs : List A) (i : ℕ) (y : B) → slice_get (map f xs) i ≡ Some y →
    (x : A) × (slice_get xs i ≡ Some x) × (f x ≡ y)
from_map f [] i y e = absurd cc
from_map f (x ∷ xs) zero y e = (x, refl, same_Some (f x) y e)
from_map f (x ∷ xs) (suc i) y e = from_map f xs i y e

none_in_map : {A B : Type 0} (f : A → B) (xs : List A) (i : ℕ) → slice_get (map f xs) i ≡ None → slice_get xs i ≡ None
none_in_map f [] i e = refl
none_in_map f (x ∷ xs) zero e = absurd cc
none_in_map f (x ∷ xs) (suc i) e = none_in_map f xs i e

-- the last of a list
pub record IsLast {A : Type 0} (xs : List A) (n : ℕ) : Type 0 where
  pub item : A
  pub is : slice_get xs n ≡ Some item
  pub top : top_of xs ≡ Some item
  pub below : length (below_of xs) ≡ n

pub last_of : {A : Type 0} (xs : List A) (n : ℕ) → length xs ≡ suc n → IsLast xs n
last_of [] n e = absurd (omega (arith, e))
last_of (x ∷ []) zero e = record { item = x; is = refl; top = refl; below = refl }
last_of (x ∷ []) (suc n) e = absurd (omega (arith, e))
last_of (x ∷ y ∷ ys) zero e = absurd (omega (arith, e))
last_of (x ∷ y ∷ ys) (suc n) e =
    let l = last_of (y ∷ ys) n (omega (arith, e)) in
    record { item = l.item; is = l.is; top = l.top; below = ap suc l.below }

-- ---- rows

-- a process that may go on has so many activations, and one more
pub record HasDepth (status : ProcStatus) (count n : ℕ) : Type 0 where
  pub ready : status ≡ Ready
  pub is : count ≡ suc n

depth_is : (status : ProcStatus) (count n : ℕ) → depth_if status count ≡ Some n → HasDepth status count n
depth_is Ready zero n e = absurd cc
depth_is Ready (suc m) n e = record { ready = refl; is = ap suc (same_Some m n e) }
depth_is (Entry oid) count n e = absurd cc
depth_is (Cond oid) count n e = absurd cc
depth_is (Urgent oid) count n e = absurd cc
depth_is Ended count n e = absurd cc
depth_is (Failed why line) count n e = absurd cc

no_stack : (status : ProcStatus) (xs : List CodeActivation) → depth_if status (length xs) ≡ None → stack_if_ready status xs ≡ []
no_stack Ready [] e = refl
no_stack Ready (x ∷ xs) e = absurd cc
no_stack (Entry oid) xs e = refl
no_stack (Cond oid) xs e = refl
no_stack (Urgent oid) xs e = refl
no_stack Ended xs e = refl
no_stack (Failed why line) xs e = refl

-- ---- a process that does nothing

idle_without : (w : CodeWorld) (p : ℕ) → stack_at w p ≡ [] → Action code_meaning w p ≡ w
idle_without w p e = ap (λ (xs : List CodeActivation). act_on code_meaning w p (below_of xs) (top_of xs)) e

module _ (s : System) (p : ℕ) where
  pub no_row : slice_get s.processes p ≡ None → IsIdle s p
  no_row none d w runs =
      idle_without w p (ap ready_stack
      (none_in_map row_of w.processes p (ap (λ (rows : List ProcessRow). slice_get rows p) (sym runs.mirrors.rows) ∙ none)))

  -- the process of a row, in a world
  its_process : (d : Declared) (w : CodeWorld) → Runs d s w → (row : ProcessRow) → slice_get s.processes p ≡ Some row →
      (q : Proc CodeActivation) × (slice_get w.processes p ≡ Some q) × (row_of q ≡ row)
  its_process d w runs row is =
      from_map row_of w.processes p row (ap (λ (rows : List ProcessRow). slice_get rows p) (sym runs.mirrors.rows) ∙ is)

  pub no_top : (row : ProcessRow) → slice_get s.processes p ≡ Some row → depth_if row.status row.activations ≡ None → IsIdle s p
  no_top row is none d w runs =
      let q = its_process d w runs row is in
      idle_without w p (ap ready_stack q.1
      ∙ no_stack q.0.status q.0.activations (ap (λ (r : ProcessRow). depth_if r.status r.activations) q.2 ∙ none))

  module _ (row : ProcessRow) (n : ℕ) (is : slice_get s.processes p ≡ Some row) (depth : depth_if row.status row.activations ≡ Some n) where
    -- the activation on top, in a world
    record OnTop (w : CodeWorld) : Type 0 where
      proc : Proc CodeActivation
      is_proc : slice_get w.processes p ≡ Some proc
      ready : proc.status ≡ Ready
      last : IsLast proc.activations n

    on_top : (d : Declared) (w : CodeWorld) → Runs d s w → OnTop w
    on_top d w runs =
        let q = its_process d w runs row is in
        let has = depth_is q.0.status (length q.0.activations) n
        (ap (λ (r : ProcessRow). depth_if r.status r.activations) q.2 ∙ depth) in
        record { proc = q.0; is_proc = q.1; ready = has.ready; last = last_of q.0.activations n has.is }

    pub no_frame : NoFrame s.cluster p n → IsIdle s p
    no_frame none d w runs =
        let t = on_top d w runs in
        let shown : ShownAt (stores s.cluster) (place s.cluster) (Frame p n) (frame_of s.cluster p n t.last.item) =
        runs.mirrors.shows.things_stand.each (Frame p n) (frame_of s.cluster p n t.last.item)
        (ap (frame_if (frame_of s.cluster) p n) (activation_is w.processes p n t.proc t.is_proc ∙ t.last.is)) in
        let both : None ≡ Some shown.shown.row = sym (none shown.node shown.store shown.there) ∙ shown.shown.there in
        absurd cc

    module _ (h : Headings) (tells : TellsOf s.cluster p n h) where
      pub not_pending : h.pending ≡ false → IsIdle s p
      not_pending done d w runs =
          let t = on_top d w runs in
          let stack : stack_at w p ≡ t.proc.activations =
          ap ready_stack t.is_proc ∙ ap (λ x. stack_if_ready x t.proc.activations) t.ready in
          let heads = tells w t.proc t.last.item runs.mirrors.shows t.is_proc t.last.is in
          ap (λ (xs : List CodeActivation). act_on code_meaning w p (below_of xs) (top_of xs)) stack
          ∙ ap (act_on code_meaning w p (below_of t.proc.activations)) t.last.top
          ∙ ap (act_if_pending code_meaning w p (below_of t.proc.activations) t.last.item) (sym heads.pending ∙ done)

      pub each_acts : h.pending ≡ true →
          EachActs s p (record { process = p; depth = n; operation = h.operation; own = h.own })
      each_acts pending d w runs =
          let t = on_top d w runs in
          let heads = tells w t.proc t.last.item runs.mirrors.shows t.is_proc t.last.is in (
            refl,
            (
              below_of t.proc.activations,
              (
                t.last.item,
                record {
                  runs = runs;
                  is_top = record {
                    proc = t.proc;
                    is = t.is_proc;
                    stack = stack_parts t.proc.activations t.last.item t.last.top;
                  };
                  ready = t.ready;
                  pending = sym heads.pending ∙ pending;
                  who_is =
                      ap (λ (k : ℕ). record { process = p; depth = k; operation = h.operation; own = h.own }) (sym t.last.below)
                      ∙ ap (λ (o : ℕ). record { process = p; depth = length (below_of t.proc.activations); operation = o; own = h.own })
                      heads.operation
                      ∙ ap (λ (o : ℕ). record {
                        process = p;
                        depth = length (below_of t.proc.activations);
                        operation = t.last.item.operation;
                        own = o;
                      }) heads.own;
                },
              ),
            ),
          )
