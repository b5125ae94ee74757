-- The parser's reading and the printed grammar say the same.
use Rattle.std.proofs.Common.{◌≡◌, ℕ, List, [], ◌∷◌, refl, sym}
use Rattle.ec_ast.specs.declared.Program.{Program}
use Rattle.ec_lexer.specs.declared.token.Token.{Token as Word}
use Rattle.ec_parser.specs.declared.grammar.Part.TheVariants as part
use Rattle.ec_parser.specs.declared.grammar.Symbol.TheVariants.{Part}
use Rattle.ec_parser.specs.declared.values.Values.{Values}
use Rattle.ec_parser.specs.HasTree.{HasTree, program}
use Rattle.ec_parser.specs.Reads.{Reads}
use Rattle.ec_parser.specs.Values.{no_values}
use Rattle.ec_parser.proofs.Meaning.{a_Program, put_program}
use Rattle.ec_parser.proofs.Seq.{Seq, finished, part as reads_part, whole, is_read, IsRead}
use Rattle.ec_parser.proofs.Sound.{sound}
use Rattle.ec_parser.proofs.Complete.{complete}

-- a tree of the printed grammar is read
pub read_of : (ts : List Word) (x : Program) → HasTree ts x → IsRead (Part part.Program ∷ []) no_values ts (put_program x no_values)
read_of _ _ (program h) = is_read complete (Part part.Program ∷ []) no_values _ _ (reads_part (a_Program h) (finished refl))

-- what is read is a tree of the printed grammar
pub record IsTree (ts : List Word) (ws : Values) : Type 0 where
  pub tree : Program
  pub has_tree : HasTree ts tree
  pub values : ws ≡ put_program tree no_values

of_seq : {ts : List Word} {ws : Values} → Seq (Part part.Program ∷ []) no_values ts [] ws → IsTree ts ws
of_seq (reads_part (a_Program {xs = xs} h) (finished e)) = record { tree = record { constants = xs }; has_tree = program h; values = sym e }

pub tree_of : (ts : List Word) (ns : List ℕ) (ws : Values) → Reads (Part part.Program ∷ []) no_values ts ns ws → IsTree ts ws
tree_of ts ns ws d = of_seq (whole sound d)
