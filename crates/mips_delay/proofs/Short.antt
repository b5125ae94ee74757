-- Code with its slots filled keeps what the code kept, and is no slower.
use Rattle.std.proofs.Common.{◌≡◌, ℕ, zero, suc, List, [], ◌∷◌, length, Some, refl, ap, arith}
use Rattle.ec_base.specs.Bytes.{Bytes}
use Rattle.ec_machine_code.specs.declared.code.Code.{Code}
use Rattle.ec_machine_code.specs.Stops.{address_of}
use Rattle.ec_passes.specs.Following.{Follows, StopsAt}
use Rattle.ec_passes.proofs.Following.{following_is_short, following_keeps_faithful}
use Rattle.ec_target.proofs.Climbing.{passes_lead}
use Rattle.ec_target.proofs.Places.{place_of_word}
use Rattle.ec_target.specs.Code.{pc_of, word_at}
use Rattle.ec_target.specs.Paths.{Passes}
use Rattle.ec_target.specs.Runs.{Leads}
use Rattle.mips_code.specs.Meaning.{mips_meaning}
use Rattle.mips_delay.proofs.Follows.{behind_stop, filled_follows}
use Rattle.mips_delay.proofs.Kept.{some_or_none}
use Rattle.mips_delay.proofs.Runs.{goes_somewhere}
use Rattle.mips_delay.specs.Alike.{AreAlike}
use Rattle.mips_delay.specs.Fill.{FillAlike, FilledIsShort, FilledKeeps, HoldSame, RestsBehind, TakesNoMoreSteps}
use Rattle.mips_machine.specs.Machine.{mips_goes, mips_place, state_of}
use Rattle.mips_machine.specs.Step.{Data}
use Rattle.mips_machine.specs.declared.machine.MipsMachine.{MipsMachine}
use Rattle.std.proofs.Common.{⊎_elim, None}

-- ---- the words that a run passes

record Path (code : List ℕ) (s : MipsMachine) (b : Bytes) (k : ℕ) (n : MipsMachine) (c : Bytes) : Type 0 where
  path : List ℕ
  passes : Passes (mips_goes code) mips_place path s b n c
  long : length path ≡ k

word_of_step : (code : List ℕ) (s : MipsMachine) (b : Bytes) (u : MipsMachine) (d : Bytes) → mips_goes code s b u d →
    (i : ℕ) × (mips_place s ≡ pc_of i)
word_of_step code s b u d step = ⊎_elim
    (λ (z : (w : ℕ) × (word_at code (mips_place s) ≡ Some w)). let p = place_of_word code (mips_place s) z.0 z.1 in (p.0, p.2))
    (λ (none : word_at code (mips_place s) ≡ None). absurd (goes_somewhere code (state_of s b) (state_of u d) step none))
    (some_or_none (word_at code (mips_place s)))

path_of : (code : List ℕ) (k : ℕ) (s : MipsMachine) (b : Bytes) (n : MipsMachine) (c : Bytes) → Leads (mips_goes code) s b k n c →
    Path code s b k n c
unfolding Leads Passes
path_of code zero s b n c (e, f) = record { path = []; passes = (e, f); long = refl }
path_of code (suc k) s b n c (u, d, step, rest) =
    let i = word_of_step code s b u d step in
    let z = path_of code k u d n c rest in
    record { path = i.0 ∷ z.path; passes = (i.1, u, d, step, z.passes); long = ap suc z.long }

-- ---- the laws

pub filled_keeps : FilledKeeps
filled_keeps old new fills links few F p homes was =
    let z = filled_follows old new fills links few F in
    following_keeps_faithful mips_meaning (FillAlike fills) p old new homes z.1.0 z.0 z.1.1 was

-- a code that follows another one is no slower, where machines that hold the same behind a stop are alike, and machines that are alike
-- hold the same
pub no_more_steps : (Alike : Code → Code → MipsMachine → MipsMachine → Type 0) (old new : Code) (origin : ℕ → ℕ) →
    Follows mips_meaning old new (Alike old new) origin →
    ((op n a b : ℕ) (s t : MipsMachine) → StopsAt mips_meaning old op n a → address_of new op n ≡ Some b → RestsBehind s a →
    RestsBehind t b → HoldSame s t → Alike old new s t) →
    ((s t : MipsMachine) → Alike old new s t → HoldSame s t) → TakesNoMoreSteps old new
no_more_steps Alike old new origin follows begins hold op n a b at is s t behind too same bytes steps last memory (run, stop) =
    let path = path_of old.words steps s bytes last memory run in
    let alike = begins op n a b s t at is behind too same in
    let r = following_is_short mips_meaning Alike old new origin follows s t bytes path.path last memory alike path.passes stop in
    let long = path.long in
    let few_steps = r.3 in (
      length r.0,
      r.1,
      (passes_lead (mips_goes new.words) mips_place r.0 t bytes r.1 memory r.2, r.5.stops),
      omega (arith, few_steps, long),
      hold last r.1 r.4,
      r.5.at,
    )

pub filled_is_short : FilledIsShort
filled_is_short old new fills links few F =
    let z = filled_follows old new fills links few F in
    no_more_steps (FillAlike fills) old new z.1.0 z.1.1 (behind_stop old new fills links few F) (λ s t alike. hold_same s t (alike (λ a. None)))
  where
    hold_same : (s t : MipsMachine) → AreAlike old.words fills (state_of s (λ a. None)) (state_of t (λ a. None)) → HoldSame s t
    hold_same s t same = record {
      registers = ap (λ (d : Data). d.registers) same.held;
      hi = ap (λ (d : Data). d.hi) same.held;
      lo = ap (λ (d : Data). d.lo) same.held;
    }
