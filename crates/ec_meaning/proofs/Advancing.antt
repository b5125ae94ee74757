-- A process whose activation on top goes on, and one whose doesn't.
use Rattle.std.proofs.Common.{◌≡◌, ℕ, Bool, true, false, not, List, [], ◌∷◌, ◌++◌, Option, Some, None, ◌<◌, length, refl, sym, ap}
use Rattle.std.proofs.Common.{◌∙◌, subst, arith}
use Rattle.std.specs.Prelude.{slice_get, slice_set, IsSome, is_some}
use mathlib.Core.Bool.{true≢false}
use Rattle.ec_base.specs.Stack.{top_of, below_of}
use Rattle.ec_meaning.specs.Activations.{source_meaning}
use Rattle.ec_meaning.specs.Meaning.{source_silent}
use Rattle.ec_meaning.specs.Programs.{Source}
use Rattle.ec_meaning.specs.Running.{advanced_top, is_done_top}
use Rattle.ec_meaning.specs.declared.activation.SourceActivation.{SourceActivation}
use Rattle.ec_world.specs.World.{GoOn, advanced, go_on, go_on_unless, stack_at, stack_if_ready}
use Rattle.ec_world.specs.declared.common.Common.{Common}
use Rattle.ec_world.specs.declared.process.Proc.{Proc}
use Rattle.ec_world.specs.declared.process.ProcStatus.{ProcStatus}
use Rattle.ec_world.specs.declared.process.ProcStatus.TheVariants.{Ready, Entry, Cond, Urgent, Ended, Failed}
use Rattle.ec_world.specs.declared.world.World.{World}

pub has_top : {A : Type 0} (xs : List A) → 0 < length xs → IsSome (top_of xs)
has_top [] h = absurd (omega arith)
has_top (x ∷ []) h = refl
has_top (x ∷ y ∷ ys) h = has_top (y ∷ ys) (omega arith)

-- with no activation nothing goes on
pub idle : (s : Source) (c : Common) (status : ProcStatus) (acts below : List SourceActivation) → None ≡ top_of acts →
    below ≡ below_of acts →
    (c, record { activations = below; status = status }) ≡ advanced_top s c (record { activations = acts; status = status }) (top_of acts)
idle s c status [] below none b = ap (λ (xs : List SourceActivation). (c, record { activations = xs; status = status })) b
idle s c status (x ∷ rest) below none b =
    let some : IsSome (top_of (x ∷ rest)) = has_top (x ∷ rest) (omega arith) in
    absurd (true≢false (sym some ∙ ap is_some (sym none)))

module _ (s : Source) (w : World SourceActivation) (p : ℕ) where
  abbrev goes_on : List SourceActivation → Option SourceActivation → World SourceActivation
  goes_on below top = go_on source_meaning (source_silent s) w p below top

  stays_unless : (below : List SourceActivation) (a : SourceActivation) (pending : Bool) → not pending ≡ false →
      w ≡ go_on_unless source_meaning (source_silent s) w p below a pending
  stays_unless below a true e = refl
  stays_unless below a false e = cc

  stays_by : (below : List SourceActivation) (top : Option SourceActivation) → is_done_top top ≡ false → w ≡ goes_on below top
  stays_by below None e = refl
  stays_by below (Some a) e = stays_unless below a a.pending e

  pub stays : is_done_top (top_of (stack_at w p)) ≡ false → w ≡ GoOn source_meaning (source_silent s) w p
  stays e = stays_by (below_of (stack_at w p)) (top_of (stack_at w p)) e

  abbrev with_process : Common × Proc SourceActivation → World SourceActivation
  with_process x = record { common = x.0; processes = slice_set w.processes p x.1 }

  goes_unless : (acts : List SourceActivation) (a : SourceActivation) (pending : Bool) → not pending ≡ true →
      with_process (advanced_top s w.common (record { activations = acts; status = Ready }) (Some a))
      ≡ go_on_unless source_meaning (source_silent s) w p (below_of acts) a pending
  goes_unless acts a true e = cc
  goes_unless acts a false e = refl

  goes_by : (acts : List SourceActivation) (top : Option SourceActivation) → is_done_top top ≡ true →
      with_process (advanced_top s w.common (record { activations = acts; status = Ready }) top) ≡ goes_on (below_of acts) top
  goes_by acts None e = cc
  goes_by acts (Some a) e = goes_unless acts a a.pending e

  by_status : (status : ProcStatus) (acts : List SourceActivation) → is_done_top (top_of (stack_if_ready status acts)) ≡ true →
      with_process (advanced_top s w.common (record { activations = acts; status = status }) (top_of acts))
      ≡ goes_on (below_of (stack_if_ready status acts)) (top_of (stack_if_ready status acts))
  by_status Ready acts e = goes_by acts (top_of acts) e
  by_status (Entry o) acts e = cc
  by_status (Cond o) acts e = cc
  by_status (Urgent o) acts e = cc
  by_status Ended acts e = cc
  by_status (Failed cause line) acts e = cc

  pub goes : (proc : Proc SourceActivation) (x : Common × Proc SourceActivation) → slice_get w.processes p ≡ Some proc →
      is_done_top (top_of (stack_at w p)) ≡ true → x ≡ advanced_top s w.common proc (top_of proc.activations) →
      with_process x ≡ GoOn source_meaning (source_silent s) w p
  goes proc x e done so =
      let at : stack_at w p ≡ stack_if_ready proc.status proc.activations = rw e refl in
      ap with_process so
      ∙ by_status proc.status proc.activations (rw (← at) done)
      ∙ ap (λ st. goes_on (below_of st) (top_of st)) (sym at)
