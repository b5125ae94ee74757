-- The words of a question are those up to the slot of its branch, and those behind them.
use Rattle.std.proofs.Common.{◌≡◌, ℕ, ◌+◌, ◌^◌, List, [], ◌∷◌, ◌++◌, refl, sym}
use mathlib.Core.List.{append_assoc}
use Rattle.std.specs.Prelude.{not}
use Rattle.ec_machine_code.specs.declared.step.Question.{Question}
use Rattle.mips_code.specs.Sizes.{branch_words}
use Rattle.mips_code.specs.Words.{branch_at, branch_by, branch_distance, compared_words, far_words, jump, near_words, no_op}

pub near_is : (q : Question) (from to : ℕ) → near_words q from to ≡ branch_words q q.wanted (branch_distance (from + branch_at q + 1) to)
near_is q from to = refl

pub far_is : (q : Question) (from to : ℕ) →
    far_words q from to ≡ branch_words q (not q.wanted) 3 ++ jump (2 ^ 20 + to) ∷ no_op ∷ []
far_is q from to =
    sym (append_assoc (compared_words q.relation q.left q.right) (branch_by q (not q.wanted) 3 ∷ no_op ∷ [])
    (jump (2 ^ 20 + to) ∷ no_op ∷ []))
