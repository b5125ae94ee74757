use Rattle.std.proofs.Common.{◌≡◌, ℕ, List, Result, Ok, Err, IfOk, IfErr}
use Rattle.ec_ast.specs.declared.Program.{Program}
use Rattle.ec_lexer.specs.declared.token.Token.{Token}
use Rattle.ec_parser.specs.declared.ParseError.{ParseError}
use Rattle.ec_parser.specs.declared.values.Values.{Values}
use Rattle.ec_parser.specs.HasTree.{HasTree}
use Rattle.ec_parser.specs.Program.{AreShallow, IsShallow, IsCause}
use Rattle.ec_parser.specs.Prefixes as reading
use Rattle.ec_parser.specs.Tops.{first_program}
use Rattle.ec_parser.proofs.Answered.{found_tree, cause_of, read_tree, read_only}
use Rattle.ec_parser.proofs.parse.Goals as goal

found : (ts : List Token) (r : Result Program ParseError) →
    IfOk r (λ program. (ns : List ℕ) × (ws : Values) × reading.IsProgram ts ns ws × AreShallow ns × (program ≡ first_program ws.programs)) →
    IfOk r (λ program. HasTree ts program × IsShallow ts)
found ts (Ok program) h = found_tree ts h.0 h.1 program h.2 h.3 h.4
found ts (Err e) h = tt

refused : (ts : List Token) (r : Result Program ParseError) → IfErr r (reading.IsCause ts) → IfErr r (IsCause ts)
refused ts (Ok program) h = tt
refused ts (Err e) h = cause_of ts e h

pub returns-clause-tree : goal.returns-clause-tree
returns-clause-tree c = found _ _ c.read.ensures.found

pub returns-clause-only : goal.returns-clause-only
returns-clause-only c program h s =
    let d = read_tree _ program h s in
    read_only program _ (c.read.ensures.only d.0 _ d.1 d.2)

pub returns-clause-refused : goal.returns-clause-refused
returns-clause-refused c = refused _ _ c.read.ensures.refused
