-- Tokens have one tree only: each part is read by the one alternative that the table chooses.
use Rattle.std.proofs.Common.{◌≡◌, ℕ, List, ◌∷◌, ◌++◌, Some, refl, ap, subst}
use Rattle.ec_ast.specs.declared.Program.{Program}
use Rattle.ec_lexer.specs.declared.token.Token.{Token as Word}
use Rattle.ec_parser.specs.declared.grammar.Part.{Part as Part_of}
use Rattle.ec_parser.specs.declared.grammar.Symbol.{Symbol}
use Rattle.ec_parser.specs.declared.grammar.Symbol.TheVariants.{Part}
use Rattle.ec_parser.specs.declared.values.Values.{Values}
use Rattle.ec_parser.specs.Choose.{choose}
use Rattle.ec_parser.specs.Follow.{Follows, head}
use Rattle.ec_parser.specs.HasTree.{HasTree}
use Rattle.ec_parser.specs.Reads.{IsRule, Reads, finished, token, keep, part, bound, made}
use Rattle.ec_parser.specs.Rules.{rules}
use Rattle.ec_parser.specs.Filled.{top_or}
use Rattle.ec_parser.specs.Tops.{first_program}
use Rattle.ec_parser.specs.Values.{no_values}
use Rattle.ec_parser.proofs.Bridge.{read_of}
use Rattle.ec_parser.proofs.Meaning.{put_program}
use Rattle.ec_parser.proofs.Theory.{begins, chosen, follows_expand}

-- two alternatives of a part that read the same tokens are one
one_rule : (p : Part_of) (s q r : List Symbol) {vs ws zs : Values} {ts : List Word} {ns ms : List ℕ} → Follows (Part p ∷ s) →
    IsRule q (rules p) → IsRule r (rules p) → Reads (q ++ s) vs ts ns ws → Reads (r ++ s) vs ts ms zs → q ≡ r
one_rule p s q r {ts = ts} f i j d e =
    let a : choose p (head ts) ≡ Some q = chosen p s (head ts) q f i (begins d) in
    let b : choose p (head ts) ≡ Some r = chosen p s (head ts) r f j (begins e) in
    cc

-- symbols make the same values of the same tokens
same_values : {s : List Symbol} {vs ws zs : Values} {ts : List Word} {ns ms : List ℕ} → Follows s → Reads s vs ts ns ws →
    Reads s vs ts ms zs → ws ≡ zs
same_values f finished finished = refl
same_values f (token e d) (token g h) = same_values f.1 d h
same_values f (keep e d) (keep g h) = same_values f.1 d h
same_values {vs = vs} {zs = zs} {ts = ts} {ms = ms} f (part {p = p} {s = s} r i d) (part q j h) =
    let same : q ≡ r = one_rule p s q r f j i h d in
    same_values (follows_expand p s (head ts) r (chosen p s (head ts) r f i (begins d)) f) d
    (subst (λ x. Reads (x ++ s) vs ts ms zs) same h)
same_values f (bound d) (bound h) = same_values f d h
same_values f (made d) (made h) = same_values f d h

-- tokens have one tree only
pub same_tree : (ts : List Word) (a b : Program) → HasTree ts a → HasTree ts b → a ≡ b
unfolding top_or
same_tree ts a b g h =
    let same : put_program a no_values ≡ put_program b no_values =
    same_values (λ k i. i, tt) (read_of ts a g).reads (read_of ts b h).reads in
    ap (λ (x : Values). first_program x.programs) same
