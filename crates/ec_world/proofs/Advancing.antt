-- A process whose activation on top goes on, and one whose doesn't.
use Rattle.std.proofs.Common.{◌≡◌, ℕ, Bool, true, false, not, List, [], ◌∷◌, Option, Some, None, ◌<◌, length, refl, sym, ap}
use Rattle.std.proofs.Common.{◌∙◌, arith}
use Rattle.std.specs.Prelude.{slice_get, slice_set, IsSome, is_some}
use mathlib.Core.Bool.{true≢false}
use Rattle.ec_base.specs.Stack.{top_of, below_of}
use Rattle.ec_world.specs.Turning.{advanced_top, is_done_top}
use Rattle.ec_world.specs.Meaning.{ActivationMeaning}
use Rattle.ec_world.specs.World.{GoOn, go_on, go_on_unless, stack_at, stack_if_ready}
use Rattle.ec_world.specs.declared.common.Common.{Common}
use Rattle.ec_world.specs.declared.process.Proc.{Proc}
use Rattle.ec_world.specs.declared.process.ProcStatus.{ProcStatus}
use Rattle.ec_world.specs.declared.process.ProcStatus.TheVariants.{Ready, Entry, Cond, Urgent, Ended, Failed}
use Rattle.ec_world.specs.declared.world.World.{World}

pub has_top : {A : Type 0} (xs : List A) → 0 < length xs → IsSome (top_of xs)
has_top [] h = absurd (omega arith)
has_top (x ∷ []) h = refl
has_top (x ∷ y ∷ ys) h = has_top (y ∷ ys) (omega arith)

module _ {A : Type 0} (M : ActivationMeaning A) (steps : Common → A → Common × A) where
  -- with no activation nothing goes on
  pub idle : (c : Common) (status : ProcStatus) (acts below : List A) → None ≡ top_of acts → below ≡ below_of acts →
      (c, record { activations = below; status = status })
      ≡ advanced_top steps c (record { activations = acts; status = status }) (top_of acts)
  idle c status [] below none b = ap (λ (xs : List A). (c, record { activations = xs; status = status })) b
  idle c status (x ∷ rest) below none b =
      let some : IsSome (top_of (x ∷ rest)) = has_top (x ∷ rest) (omega arith) in
      absurd (true≢false (sym some ∙ ap is_some (sym none)))

  module _ (w : World A) (p : ℕ) where
    abbrev goes_on : List A → Option A → World A
    goes_on below top = go_on M steps w p below top

    stays_unless : (below : List A) (a : A) (pending : Bool) → not pending ≡ false → w ≡ go_on_unless M steps w p below a pending
    stays_unless below a true e = refl
    stays_unless below a false e = cc

    stays_by : (below : List A) (top : Option A) → is_done_top M top ≡ false → w ≡ goes_on below top
    stays_by below None e = refl
    stays_by below (Some a) e = stays_unless below a (M.is_pending a) e

    pub stays : is_done_top M (top_of (stack_at w p)) ≡ false → w ≡ GoOn M steps w p
    stays e = stays_by (below_of (stack_at w p)) (top_of (stack_at w p)) e

    abbrev with_process : Common × Proc A → World A
    with_process x = record { common = x.0; processes = slice_set w.processes p x.1 }

    goes_unless : (acts : List A) (a : A) (pending : Bool) → not pending ≡ true →
        with_process (advanced_top steps w.common (record { activations = acts; status = Ready }) (Some a))
        ≡ go_on_unless M steps w p (below_of acts) a pending
    goes_unless acts a true e = cc
    goes_unless acts a false e = refl

    goes_by : (acts : List A) (top : Option A) → is_done_top M top ≡ true →
        with_process (advanced_top steps w.common (record { activations = acts; status = Ready }) top) ≡ goes_on (below_of acts) top
    goes_by acts None e = cc
    goes_by acts (Some a) e = goes_unless acts a (M.is_pending a) e

    by_status : (status : ProcStatus) (acts : List A) → is_done_top M (top_of (stack_if_ready status acts)) ≡ true →
        with_process (advanced_top steps w.common (record { activations = acts; status = status }) (top_of acts))
        ≡ goes_on (below_of (stack_if_ready status acts)) (top_of (stack_if_ready status acts))
    by_status Ready acts e = goes_by acts (top_of acts) e
    by_status (Entry o) acts e = cc
    by_status (Cond o) acts e = cc
    by_status (Urgent o) acts e = cc
    by_status Ended acts e = cc
    by_status (Failed cause line) acts e = cc

    pub goes : (proc : Proc A) (x : Common × Proc A) → slice_get w.processes p ≡ Some proc →
        is_done_top M (top_of (stack_at w p)) ≡ true → x ≡ advanced_top steps w.common proc (top_of proc.activations) →
        with_process x ≡ GoOn M steps w p
    goes proc x e done so =
        let at : stack_at w p ≡ stack_if_ready proc.status proc.activations = rw e refl in
        ap with_process so
        ∙ by_status proc.status proc.activations (rw (← at) done)
        ∙ ap (λ st. goes_on (below_of st) (top_of st)) (sym at)
