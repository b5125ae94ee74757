use Rattle.std.proofs.Common.{sym, ◌∙◌, ◌≡◌, Bool, true, false, MatchBool, refl, List, ◌∷◌}
use Rattle.ec_parser.specs.declared.terminal.Terminal.{Terminal}
use Rattle.ec_parser.specs.Terminals.{terminal_of}
use Rattle.ec_lexer.specs.declared.token.Token.{Token as Word}
use Rattle.ec_parser.specs.declared.values.Values.{Values}
use Rattle.ec_parser.specs.declared.grammar.Symbol.{Symbol}
use Rattle.ec_parser.specs.declared.grammar.Symbol.TheVariants.{Token}
use Rattle.ec_parser.specs.Fits.{Fits}
use Rattle.ec_parser.specs.Follow.{Goes, Refuses, Same, Follows}
use Rattle.ec_parser.proofs.Theory.{takes_token, takes_keep, other_token, other_keep}
use Rattle.ec_parser.proofs.step.Goals as goal

tested : (b : Bool) (t : Word) (found k : Terminal) (s₀ : List Symbol) (v₀ : Values) (s : List Symbol) (v : Values) →
    found ≡ terminal_of t →
    (b ≡ true → k ≡ found) → (b ≡ false → k ≡ found → ⊥) →
    Same found s₀ v₀ (Token k ∷ s) v × Follows s × Fits (Token k ∷ s) v → MatchBool b (Goes t s₀ v₀ s v) (Refuses t s₀ v₀)
tested true t found k s₀ v₀ s v is y n h = takes_token t k s₀ v₀ s v (sym (y refl ∙ is)) (rw is at h)
tested false t found k s₀ v₀ s v is y n h = other_token t k s₀ v₀ s v (λ e. n refl (sym (is ∙ e))) (rw is at h)

pub returns-then-not-same : goal.returns-then-not-same
returns-then-not-same c =
    let is = c.terminal_of-found.ensures in
    other_keep _ _ _ _ _ _ (λ e. c.if-not-same.ensures.other refl (sym (is ∙ e))) (rw is at (rw c.in-Keep.is at c.in_ok-kind.ensures))

pub returns-in-Token : goal.returns-in-Token
returns-in-Token c = tested _ _ _ _ _ _ _ _ c.terminal_of-found.ensures c.same.ensures.same c.same.ensures.other
    (rw c.in-Token.is at c.in_ok-kind.ensures)

pub returns-in_ok-keep-in-Keep : goal.returns-in_ok-keep-in-Keep
returns-in_ok-keep-in-Keep c =
    let is = c.terminal_of-found.ensures in
    rw c.in_ok-keep-in-Keep.ensures
    (takes_keep _ _ _ _ _ _ (sym (c.if-not-same.ensures.same refl ∙ is)) (rw is at (rw c.in-Keep.is at c.in_ok-kind.ensures)))
