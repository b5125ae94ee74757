-- What the parser's reading says is what the printed grammar and the nesting of tokens say.
use Rattle.std.proofs.Common.{◌≡◌, ℕ, ◌+◌, List, [], ◌∷◌, ◌++◌, length, take, drop, Some, slice_get, sym, ◌∙◌, ap, subst, arith}
use Rattle.std.proofs.Common.{append_assoc, length-append, length-take, take-append-drop, take-take, MatchResult, Result, Ok, Err}
use Rattle.ec_ast.specs.declared.Program.{Program}
use Rattle.ec_lexer.specs.declared.token.Token.{Token}
use Rattle.ec_parser.specs.declared.values.Values.{Values}
use Rattle.ec_parser.specs.declared.ParseError.{ParseError}
use Rattle.ec_parser.specs.declared.ParseError.TheVariants.{Syntax, Deep, Memory}
use Rattle.ec_parser.specs.HasTree.{HasTree}
use Rattle.ec_parser.specs.Nesting.{nestings_of}
use Rattle.ec_parser.specs.Filled.{top_or}
use Rattle.ec_parser.specs.Tops.{first_program}
use Rattle.ec_parser.specs.Values.{no_values}
use Rattle.ec_parser.specs.Program.{AreShallow, IsShallow, Begins, BeginsNone, IsSyntax, IsDeep, IsCause}
use Rattle.ec_parser.specs.Prefixes as reading
use Rattle.ec_parser.proofs.Depths.{nestings_append, nestings_length, fronts, behind_front}
use Rattle.ec_parser.proofs.Nested.{nestings_are}
use Rattle.ec_parser.proofs.Meaning.{put_program}
use Rattle.ec_parser.proofs.Bridge.{read_of, tree_of}

begins_of : (ts : List Token) → reading.Begins ts → Begins ts
begins_of ts b =
    let t = tree_of (ts ++ b.more) (b.nestings ++ b.others) b.values b.program in
    record { more = b.more; program = t.tree; has_tree = t.has_tree }

front_is : (ts : List Token) (b : reading.Begins ts) → b.nestings ≡ nestings_of ts
front_is ts b =
    let n = nestings_append ts b.more in
    fronts b.nestings b.others (nestings_of ts) n.0 (b.long ∙ sym (nestings_length ts))
    (nestings_are (ts ++ b.more) (b.nestings ++ b.others) b.values b.program ∙ n.1)

shallow_of : (ts : List Token) → reading.Begins ts → IsShallow ts
shallow_of ts b = subst AreShallow (front_is ts b) b.shallow

none_of : (ts : List Token) → reading.BeginsNone ts → BeginsNone ts
none_of ts n more program h = let d = read_of (ts ++ more) program h in n more d.nestings (put_program program no_values) d.reads

no_program_of : (ts : List Token) → ((ns : List ℕ) (ws : Values) → reading.IsProgram ts ns ws → ⊥) → (program : Program) →
    HasTree ts program → ⊥
no_program_of ts n program h = let d = read_of ts program h in n d.nestings (put_program program no_values) d.reads

syntax_of : (ts : List Token) (place : ℕ) → reading.IsSyntax ts place → IsSyntax ts place
syntax_of ts place s = record {
  within = s.within;
  before = begins_of (take place ts) s.before;
  shallow = shallow_of (take place ts) s.before;
  after = λ h. none_of (take (place + 1) ts) (s.after h);
  no_program = no_program_of ts s.no_program;
}

module _ (ts : List Token) (place : ℕ) (d : reading.IsDeep ts place) where
  abbrev upto : List Token
  upto = take (place + 1) ts

  abbrev before : List Token
  before = take place ts

  tree : Begins upto
  tree = let t = tree_of (upto ++ d.more) (d.nestings ++ d.nesting ∷ d.others) d.values d.program in
      record { more = d.more; program = t.tree; has_tree = t.has_tree }

  long : length upto ≡ place + 1
  long = let w = d.within in simp length-take (omega (arith, w))

  short : length before ≡ place
  short = let w = d.within in simp length-take (omega (arith, w))

  upto_are : d.nestings ++ d.nesting ∷ [] ≡ nestings_of upto
  upto_are =
      let n = nestings_append upto d.more in
      let l : length (d.nestings ++ d.nesting ∷ []) ≡ length (nestings_of upto) =
      length-append d.nestings (d.nesting ∷ []) ∙ ap (λ x. x + 1) d.long ∙ sym (nestings_length upto ∙ long) in
      fronts (d.nestings ++ d.nesting ∷ []) d.others (nestings_of upto) n.0 l
      (append_assoc d.nestings (d.nesting ∷ []) d.others ∙ nestings_are (upto ++ d.more)
      (d.nestings ++ d.nesting ∷ d.others) d.values d.program ∙ n.1)

  before_is : upto ≡ before ++ drop place upto
  before_is = sym (take-append-drop place upto) ∙ ap (λ x. x ++ drop place upto) (take-take place (place + 1) ts (omega arith))

  before_are : d.nestings ≡ nestings_of before
  before_are =
      let n = nestings_append before (drop place upto) in
      fronts d.nestings (d.nesting ∷ []) (nestings_of before) n.0 (d.long ∙ sym (nestings_length before ∙ short))
      (upto_are ∙ ap nestings_of before_is ∙ n.1)

  all_are : (zs : List ℕ) × (nestings_of ts ≡ d.nestings ++ d.nesting ∷ zs)
  all_are =
      let n = nestings_append upto (drop (place + 1) ts) in (
        n.0,
        ap nestings_of (sym (take-append-drop (place + 1) ts)) ∙ n.1 ∙ ap (λ x. x ++ n.0) (sym upto_are) ∙
            append_assoc d.nestings (d.nesting ∷ []) n.0,
      )

  nesting_is : slice_get (nestings_of ts) place ≡ Some d.nesting
  nesting_is =
      let l = d.long in
      ap (λ x. slice_get x place) all_are.1 ∙ subst (λ i. slice_get (d.nestings ++ d.nesting ∷ all_are.0) i ≡ Some d.nesting) l
      (behind_front d.nestings d.nesting all_are.0)

  deep_of : IsDeep ts place
  deep_of = record {
    within = d.within;
    begins = tree;
    shallow = subst AreShallow before_are d.shallow;
    nesting = d.nesting;
    nesting_is = nesting_is;
    deep = d.deep;
  }

pub cause_of : (ts : List Token) (e : ParseError) → reading.IsCause ts e → IsCause ts e
cause_of ts (Syntax place) s = syntax_of ts place s
cause_of ts (Deep place) d = deep_of ts place d
cause_of ts Memory m = tt

pub found_tree : (ts : List Token) (ns : List ℕ) (ws : Values) (program : Program) → reading.IsProgram ts ns ws → AreShallow ns →
    program ≡ first_program ws.programs →
    HasTree ts program × IsShallow ts
unfolding top_or
found_tree ts ns ws program d h e =
    let t = tree_of ts ns ws d in
    let same : program ≡ t.tree = e ∙ ap (λ x. first_program x.programs) t.values in
    (rw same t.has_tree, subst AreShallow (nestings_are ts ns ws d) h)

pub read_tree : (ts : List Token) (program : Program) → HasTree ts program → IsShallow ts →
    (ns : List ℕ) × reading.IsProgram ts ns (put_program program no_values) × AreShallow ns
read_tree ts program h s =
    let d = read_of ts program h in
    (d.nestings, d.reads, subst AreShallow (sym (nestings_are ts d.nestings (put_program program no_values) d.reads)) s)

pub read_only : (program : Program) (r : Result Program ParseError) →
    MatchResult r (λ found. found ≡ first_program (put_program program no_values).programs) (λ e. e ≡ Memory) →
    MatchResult r (λ found. found ≡ program) (λ e. e ≡ Memory)
unfolding top_or
read_only program (Ok found) h = h
read_only program (Err e) h = h
