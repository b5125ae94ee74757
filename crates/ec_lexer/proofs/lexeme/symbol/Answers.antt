use Rattle.std.proofs.Common.{◌≡◌, ℕ, zero, suc, ◌-◌, ◌<◌, take, None, sym, ◌∙◌, ap, arith}
use Rattle.ec_lexer.specs.Words.{Bytes, symbol_of}
use Rattle.ec_lexer.specs.Lexemes.{symbol_up_to, or_else}
use Rattle.ec_lexer.proofs.lexeme.symbol.Goals as goal

less : (text : Bytes) (n : ℕ) → 0 < n → symbol_of (take n text) ≡ None → symbol_up_to (n - 1) text ≡ symbol_up_to n text
less text zero h e = absurd (omega arith)
less text (suc n) h e =
    let one : suc n - 1 ≡ n = omega arith in
    ap (λ k. symbol_up_to k text) one ∙ sym (ap (λ found. or_else found (suc n) (symbol_up_to n text)) e)

pub loop-end-preserved : goal.loop-end-preserved
loop-end-preserved c = (
  less c.args.text.now c.loop-end.end (omega arith) (sym c.symbol_of.ensures ∙ c.in_default.is)
      ∙ c.loop-end.invariant.0,
  omega (arith, c.loop-end.invariant.1),
)
