-- What `fill` promises, of each code with its slots filled.
use Rattle.std.proofs.Common.{ℕ, ◌≤◌, Bool, length, arith}
use Rattle.ec_machine_code.specs.Speaks.{words_end}
use Rattle.ec_machine_code.specs.declared.code.Code.{Code}
use Rattle.mips_delay.proofs.Kept.{place_small}
use Rattle.mips_delay.proofs.Left.{none_is_left}
use Rattle.mips_delay.proofs.Short.{filled_is_short, filled_keeps}
use Rattle.mips_delay.specs.Fill.{Filled, KeepsFaithful, TakesNoMoreSteps}
use Rattle.mips_delay.specs.Fillable.{HasNoLinks, HasNoneLeft}

pub record Promised (old new : Code) : Type 0 where
  pub fills : ℕ → Bool
  pub filled : Filled old new fills
  pub none_left : HasNoneLeft new.words
  pub few_words : length new.words ≤ length old.words
  pub keeps : KeepsFaithful old new
  pub few_steps : TakesNoMoreSteps old new

pub promised : (old new : Code) (fills : ℕ → Bool) → HasNoLinks old.words → length old.words ≤ words_end → Filled old new fills →
    Promised old new
promised old new fills links few F =
    let long = F.words.long in
    let small = place_small fills (length old.words) in
    record {
      fills = fills;
      filled = F;
      none_left = none_is_left old.words new.words fills F.words;
      few_words = omega (arith, long, small);
      keeps = filled_keeps old new fills links few F;
      few_steps = filled_is_short old new fills links few F;
    }
