-- The parts of a statement that are those of trees are sound: each name that they declare has a type.
use Rattle.std.proofs.Common.{List, [], ◌∷◌, Some, None, subst}
use Rattle.ec_ast.specs.declared.Expression.TheOpen.{Statement-F}
use Rattle.ec_check.proofs.Every.{Every}
use Rattle.ec_check.proofs.GoodTrees.{good_part, good_block}
use Rattle.ec_check.proofs.SoundParts.{SoundPart, SoundPiece, SoundArm}
use Rattle.ec_check.proofs.SoundStatements.{SoundParts}
use Rattle.ec_check.specs.Parts.{Part, Piece, StatementPart, ArmPart, AStatement}
use Rattle.ec_core_laws.proofs.Trees.{IsPart, IsPiece}
use Rattle.ec_core_laws.proofs.Trees as trees

pub part_sound : (p : Part) → IsPart p → SoundPart p
part_sound p tree = subst SoundPart tree.1 (good_part tree.0).0

pub piece_sound : (b : Piece) → IsPiece b → SoundPiece b
piece_sound b tree = subst SoundPiece tree.1 (good_block tree.0).0

module _ (P : Part → Type 0) (S : StatementPart → Type 0) (B : Piece → Type 0) where
  arms_sound : (arms : List ArmPart) → Every (trees.ArmHas P S B) arms → Every SoundArm arms
  arms_sound [] h = tt
  arms_sound (a ∷ arms) h = ((part_sound a.condition h.0.0.0, piece_sound a.block h.0.1.0), arms_sound arms h.1)

  pub statement_parts_sound : (x : AStatement) → trees.StatementHas P S B x → SoundParts x
  statement_parts_sound (Statement-F.LocalVariable name of None) h = tt
  statement_parts_sound (Statement-F.LocalVariable name of (Some x)) h = part_sound x h.0
  statement_parts_sound (Statement-F.LocalConstant name of x) h = part_sound x h.0
  statement_parts_sound (Statement-F.Assign x y) h = (part_sound x h.0.0, part_sound y h.1.0)
  statement_parts_sound (Statement-F.Invoke x) h = part_sound x h.0
  statement_parts_sound (Statement-F.Print x at) h = part_sound x h.0
  statement_parts_sound (Statement-F.If arms None at) h = (arms_sound arms h.0, tt)
  statement_parts_sound (Statement-F.If arms (Some b) at) h = (arms_sound arms h.0, piece_sound b h.1.0)
  statement_parts_sound (Statement-F.Loop b at) h = piece_sound b h.0
  statement_parts_sound (Statement-F.Exit None at) h = tt
  statement_parts_sound (Statement-F.Exit (Some x) at) h = part_sound x h.0
  statement_parts_sound (Statement-F.Return at) h = tt
  statement_parts_sound (Statement-F.Assert x at) h = part_sound x h.0
  statement_parts_sound (Statement-F.Move x y at) h = (part_sound x h.0.0, part_sound y h.1.0)
  statement_parts_sound (Statement-F.Fix x y at) h = (part_sound x h.0.0, part_sound y h.1.0)
  statement_parts_sound (Statement-F.Refix x y at) h = (part_sound x h.0.0, part_sound y h.1.0)
  statement_parts_sound (Statement-F.Unfix x at) h = part_sound x h.0
  statement_parts_sound (Statement-F.Wait name at) h = tt
  statement_parts_sound (Statement-F.Signal name at) h = tt
