-- What is found word by word: where jumps go, and which places can be filled.
use Rattle.std.proofs.Common.{◌≡◌, ◌≢◌, ◌⊎◌, ℕ, ◌+◌, ◌<◌, Bool, true, false, List, [], ◌∷◌, ◌++◌, length, Some, None, sym, ap, ◌∙◌}
use Rattle.std.proofs.Common.{subst, ⊎_elim, arith}
use Rattle.std.specs.Prelude.{slice_index, slice_index_or}
use Rattle.ec_target.specs.Code.{pc_of}
use Rattle.mips_delay.proofs.Decoded.{Decodes, has_none, has_word, just_one}
use Rattle.mips_delay.proofs.Marks.{goes_at, goes_before, goes_more, set_front, set_index, set_more, set_seam}
use Rattle.mips_delay.proofs.Standing.{clash}
use Rattle.mips_delay.proofs.Written.{below}
use Rattle.mips_delay.specs.Choice.{GoesBefore, LeadsTo, set_at}
use Rattle.mips_delay.specs.Fillable.{GoesTo}
use Rattle.mips_delay.specs.Swap.{is_turn, turned_to}
use Rattle.mips_isa.specs.declared.instr.Instr.{Instr}

-- ---- where one word leads

module _ (word at : ℕ) where
  pub leads_so : (x : Instr) (goal k : ℕ) → Decodes (Some x) word → (is_turn x ≡ true) × (turned_to x at ≡ goal) → goal ≡ pc_of k →
      LeadsTo word at k
  leads_so x goal k d (turns, is) e = (x, has_word word x d, turns, is ∙ e)

  pub goal_is : (x : Instr) (goal k : ℕ) → Decodes (Some x) word → turned_to x at ≡ goal → LeadsTo word at k → goal ≡ pc_of k
  goal_is x goal k d is (b, same, turns, leads) = sym is ∙ ap (λ y. turned_to y at) (sym (just_one word x b d same)) ∙ leads

  pub other_leads : (x : Instr) (k : ℕ) → Decodes (Some x) word → is_turn x ≡ false → LeadsTo word at k → ⊥
  other_leads x k d plain (b, same, turns, leads) = clash (is_turn b) turns (ap is_turn (just_one word x b d same) ∙ plain)

  pub none_leads : (k : ℕ) → Decodes None word → LeadsTo word at k → ⊥
  none_leads k d (b, same, turns, leads) = has_none word b d same

-- ---- where the words before lead, and one more

module _ (code : List ℕ) (i : ℕ) (old new : List Bool) where
  pub lands_yes : i < length code → ((k : ℕ) → set_at old k ≡ true → GoesBefore code i k) →
      ((k : ℕ) → set_at new k ≡ true → (set_at old k ≡ true) ⊎ LeadsTo (slice_index code i) (pc_of i) k) →
      (k : ℕ) → set_at new k ≡ true → GoesBefore code (i + 1) k
  lands_yes low before found k h = ⊎_elim
      (λ (e : set_at old k ≡ true). goes_more code i k (before k e))
      (λ (e : LeadsTo (slice_index code i) (pc_of i) k). goes_at code i k low e)
      (found k h)

  pub lands_no : length old ≡ length code → ((k : ℕ) → k < length code → GoesBefore code i k → set_at old k ≡ true) →
      ((k : ℕ) → set_at old k ≡ true → set_at new k ≡ true) →
      ((k : ℕ) → k < length old → LeadsTo (slice_index code i) (pc_of i) k → set_at new k ≡ true) →
      (k : ℕ) → k < length code → GoesBefore code (i + 1) k → set_at new k ≡ true
  lands_no long before stays more k low g = ⊎_elim
      (λ (e : GoesBefore code i k). stays k (before k low e))
      (λ (e : LeadsTo (slice_index code i) (pc_of i) k). more k (omega (arith, low, long)) e)
      (goes_before code i k g)

-- no jump goes to a word that isn't marked
pub unmarked : (code : List ℕ) (landed : List Bool) → length landed ≡ length code →
    ((k : ℕ) → k < length code → GoesTo code k → set_at landed k ≡ true) →
    (i : ℕ) → i < length code → slice_index_or landed i false ≡ false → (k : ℕ) → GoesTo code k → k ≢ i
unmarked code landed long marks i low is k g = λ e. clash
    (set_at landed i)
    (marks i low (subst (GoesTo code) e g))
    (sym (set_index landed false i (omega (arith, low, long))) ∙ is)

-- ---- the places before, and one more

module _ (P : ℕ → Type 0) (j : ℕ) (xs : List Bool) (b : Bool) (long : length xs ≡ j) where
  pub found_yes : ((k : ℕ) → set_at xs k ≡ true → P k) → (b ≡ true → P j) →
      (k : ℕ) → set_at (xs ++ b ∷ []) k ≡ true → P k
  found_yes before here k h = ⊎_elim
      (λ (e : set_at xs k ≡ true). before k e)
      (λ (e : (k ≡ length xs) × (b ≡ true)). subst P (sym (e.0 ∙ long)) (here e.1))
      (set_more xs b k h)

  pub found_no : ((k : ℕ) → k < j → P k → set_at xs k ≡ true) → (P j → b ≡ true) →
      (k : ℕ) → k < j + 1 → P k → set_at (xs ++ b ∷ []) k ≡ true
  found_no before here = below (λ k. P k → set_at (xs ++ b ∷ []) k ≡ true) j
      (λ k l f. set_front xs b k (omega (arith, l, long)) ∙ before k l f)
      (λ f. ap (set_at (xs ++ b ∷ [])) (sym long) ∙ set_seam xs b ∙ here f)
