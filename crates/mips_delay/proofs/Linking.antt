-- Words that are JAL, JR or JALR, and codes without any.
use Rattle.std.proofs.Common.{◌≡◌, ℕ, ◌+◌, ◌<◌, true, false, List, length, Some, sym, ap, ◌∙◌}
use Rattle.std.specs.Prelude.{slice_index}
use Rattle.ec_target.proofs.Places.{word_at-pc_of}
use Rattle.mips_delay.proofs.Deciding.{is_at}
use Rattle.mips_delay.proofs.Standing.{clash, low_of}
use Rattle.mips_delay.proofs.Written.{below}
use Rattle.mips_delay.specs.Fillable.{HasNoLinks, is_by_value}
use Rattle.mips_isa.specs.Words.{word_of}
use Rattle.mips_isa.specs.declared.instr.Instr.{Instr}

module _ (code : List ℕ) where
  pub none_more : (i : ℕ) → ((k : ℕ) (x : Instr) → k < i → word_of x ≡ slice_index code k → is_by_value x ≡ false) →
      ((x : Instr) → word_of x ≡ slice_index code i → is_by_value x ≡ false) →
      (k : ℕ) (x : Instr) → k < i + 1 → word_of x ≡ slice_index code k → is_by_value x ≡ false
  none_more i before here k x low =
      below (λ j. (y : Instr) → word_of y ≡ slice_index code j → is_by_value y ≡ false) i (λ j l y. before j y l) here k low x

  pub none_at_all : ((k : ℕ) (x : Instr) → k < length code → word_of x ≡ slice_index code k → is_by_value x ≡ false) → HasNoLinks code
  none_at_all none i x at = none i x (low_of code i (word_of x) at) (sym (is_at code i (word_of x) at))

  pub one_links : (i : ℕ) → i < length code → (x : Instr) × (word_of x ≡ slice_index code i) × (is_by_value x ≡ true) → HasNoLinks code → ⊥
  one_links i low (x, is, links) none = clash (is_by_value x) links (none i x (word_at-pc_of code i low ∙ ap Some (sym is)))
