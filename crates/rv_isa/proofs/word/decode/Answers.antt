use Rattle.std.proofs.Common.{◌≡◌, ◌≢◌, ◌↔◌, ℕ, ap, sym, ◌∙◌, Option, Some, None, IfSome, IfNone}
use Rattle.rv_isa.specs.declared.instr.Instr.{Instr}
use Rattle.rv_isa.specs.OneWord.{one_word}
use Rattle.rv_isa.specs.Words.{word_of}
use Rattle.rv_isa.proofs.word.decode.Goals as goal

exactly : (o : Option Instr) (w : ℕ) → IfSome o (λ i. word_of i ≡ w) → IfNone o ((i : Instr) → word_of i ≢ w) → (i : Instr) →
    (o ≡ Some i) ↔ (word_of i ≡ w)
exactly None w some none i = (λ e. (cc), λ e. absurd (none i e))
exactly (Some j) w some none i = (λ e. let same : j ≡ i = cc in sym (ap word_of same) ∙ some, λ e. ap Some (one_word j i (some ∙ sym e)))

pub returns : goal.returns
returns c = exactly c.row_of.result c.args.word c.row_of.ensures.some c.row_of.ensures.none
