use Rattle.std.proofs.Common.{◌≡◌, ℕ, ◌+◌, ◌<◌, ◌≤◌, List, length, take, sym, ◌∙◌, arith, length-take, get_or, ◌++◌, ◌∷◌, [], ap}
use Rattle.ec_lexer.specs.declared.token.Token.{Token}
use Rattle.std.proofs.lemmas.List.{take_more, take_all}
use Rattle.ec_parser.proofs.Progress.{no_program_from, syntax_at, reached_more, not_deep, deep_at, unfinished, syntax_at_end, Reached}
use Rattle.ec_parser.proofs.Progress.{start, whole_found, whole_only}
use Rattle.ec_parser.specs.declared.grammar.Part.TheVariants as part
use Rattle.ec_parser.specs.declared.grammar.Symbol.{Symbol}
use Rattle.ec_parser.specs.declared.grammar.Symbol.TheVariants.{Part}
use Rattle.ec_parser.specs.declared.values.Values.{Values}
use Rattle.ec_parser.specs.Tops.{first_program}
use Rattle.ec_parser.specs.Values.{no_values}
use Rattle.ec_parser.proofs.read.Goals as goal

more_by : (xs : List Token) (i : ℕ) (t : Token) → i < length xs → t ≡ get_or xs i t → take (i + 1) xs ≡ take i xs ++ t ∷ []
more_by xs i t h is = take_more xs i t h ∙ ap (λ x. take i xs ++ x ∷ []) (sym is)

pub returns-then-not-branch-clause-only : goal.returns-then-not-branch-clause-only
returns-then-not-branch-clause-only c ns ws d h =
    let i = c.loop-i.i in
    let inside : i < length c.args.tokens.now = omega arith in
    absurd (no_program_from _ i _ _ c.loop-i.invariant _ inside
    (more_by c.args.tokens.now i c.index-tokens-i.result inside c.index-tokens-i.is)
    (rw c.if-not-branch.true at c.in_ok-step.ensures) ns ws d)

pub returns-then-not-branch-clause-refused : goal.returns-then-not-branch-clause-refused
returns-then-not-branch-clause-refused c =
    let i = c.loop-i.i in
    let inside : i < length c.args.tokens.now = omega arith in
    syntax_at _ i _ _ c.loop-i.invariant _ inside (more_by c.args.tokens.now i c.index-tokens-i.result inside c.index-tokens-i.is)
    (rw c.if-not-branch.true at c.in_ok-step.ensures)

pub returns-then-nesting-gt-DEEPEST-clause-only : goal.returns-then-nesting-gt-DEEPEST-clause-only
returns-then-nesting-gt-DEEPEST-clause-only c ns ws d h =
    let i = c.loop-i.i in
    let inside : i < length c.args.tokens.now = omega arith in
    absurd (not_deep _ i _ _ c.loop-i.invariant _ inside (more_by c.args.tokens.now i c.index-tokens-i.result inside c.index-tokens-i.is) _
    _ (rw c.if-not-branch.false at c.in_ok-step.ensures) _ c.nesting.ensures c.if-nesting-gt-DEEPEST.true ns ws d h)

pub returns-then-nesting-gt-DEEPEST-clause-refused : goal.returns-then-nesting-gt-DEEPEST-clause-refused
returns-then-nesting-gt-DEEPEST-clause-refused c =
    let i = c.loop-i.i in
    let inside : i < length c.args.tokens.now = omega arith in
    deep_at _ i _ _ c.loop-i.invariant _ inside (more_by c.args.tokens.now i c.index-tokens-i.result inside c.index-tokens-i.is) _ _
    (rw c.if-not-branch.false at c.in_ok-step.ensures) _ c.nesting.ensures c.if-nesting-gt-DEEPEST.true (simp length-take (omega arith))

pub loop-i-preserved : goal.loop-i-preserved
loop-i-preserved c =
    let i = c.loop-i.i in
    let inside : i < length c.args.tokens.now = omega arith in
    reached_more _ i _ _ c.loop-i.invariant _ inside (more_by c.args.tokens.now i c.index-tokens-i.result inside c.index-tokens-i.is) _ _
    (rw c.if-not-branch.false at c.in_ok-step.ensures) (omega (arith, c.nesting.ensures))

whole : (n : ℕ) (m : ℕ) → n ≤ m → m ≤ n → n ≡ m
whole n m h k = omega arith

pub returns-then-not-branch-2-clause-only : goal.returns-then-not-branch-2-clause-only
returns-then-not-branch-2-clause-only c ns ws d h =
    let all : take c.loop-i.i c.args.tokens.now ≡ c.args.tokens.now = take_all _ _ (omega arith) in
    let r : Reached c.args.tokens.now c.loop-i.symbols c.loop-i.values = rw all at c.loop-i.invariant in
    absurd (unfinished _ _ _ r (rw c.if-not-branch-2.true at c.in_ok-finish.ensures) ns ws d)

pub returns-then-not-branch-2-clause-refused : goal.returns-then-not-branch-2-clause-refused
returns-then-not-branch-2-clause-refused c =
    let all : take c.loop-i.i c.args.tokens.now ≡ c.args.tokens.now = take_all _ _ (omega arith) in
    let r : Reached c.args.tokens.now c.loop-i.symbols c.loop-i.values = rw all at c.loop-i.invariant in
    syntax_at_end _ _ _ r (take_all _ _ (omega arith)) (rw c.if-not-branch-2.true at c.in_ok-finish.ensures)

begins : (s : List Symbol) (vs : Values) → s ≡ Part part.Program ∷ [] → vs ≡ no_values → Reached [] s vs
begins s vs e f = rw (e, f) start

pub loop-i-init : goal.loop-i-init
loop-i-init c = begins _ _ (c.in_ok-push.ensures.ok ∙ ap (λ x. Part part.Program ∷ x) c.new-symbols.ensures) c.no_values-values.ensures

pub returns-clause-found : goal.returns-clause-found
returns-clause-found c =
    let all : take c.loop-i.i c.args.tokens.now ≡ c.args.tokens.now = take_all _ _ (omega arith) in
    let r : Reached c.args.tokens.now c.loop-i.symbols c.loop-i.values = rw all at c.loop-i.invariant in
    let f = whole_found _ _ _ _ r (rw c.if-not-branch-2.false at c.in_ok-finish.ensures) in
    (f.0, c.finish.new.values, f.1, f.2, c.take.ensures.first _)

pub returns-clause-only : goal.returns-clause-only
returns-clause-only c ns ws d h =
    let all : take c.loop-i.i c.args.tokens.now ≡ c.args.tokens.now = take_all _ _ (omega arith) in
    let r : Reached c.args.tokens.now c.loop-i.symbols c.loop-i.values = rw all at c.loop-i.invariant in
    c.take.ensures.first _ ∙ ap (λ w. first_program w.programs)
    (whole_only _ _ _ _ r (rw c.if-not-branch-2.false at c.in_ok-finish.ensures) ns ws d)
