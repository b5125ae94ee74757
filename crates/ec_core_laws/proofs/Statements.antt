-- What a fold gives of a statement, an arm or a block of the core, and what an assignment becomes.
use Rattle.std.proofs.Common.{◌≡◌, ℕ, List, Option, Some, None, sym, ap, ◌∙◌}
use Rattle.ec_base.specs.Stack.{top_of, below_of}
use Rattle.ec_check.specs.Resolving.{chained, element_set, element_set_if, assigned}
use Rattle.ec_core.specs.declared.Addend.{Addend}
use Rattle.ec_core.specs.declared.Arm.{Arm, roll-Arm, map-Arm, fold-Arm, fold-roll-Arm}
use Rattle.ec_core.specs.declared.Block.{Block, roll-Block, map-Block, fold-Block, fold-roll-Block, out-Block, roll-out-Block}
use Rattle.ec_core.specs.declared.Expression.{Expression}
use Rattle.ec_core.specs.declared.Expression.TheOpen.{Expression-F as Core-F, Link-F as CoreLink-F}
use Rattle.ec_core.specs.declared.Factor.{Factor}
use Rattle.ec_core.specs.declared.Link.{Link, out-Link}
use Rattle.ec_core.specs.declared.Place.{Place}
use Rattle.ec_core.specs.declared.Statement.{Statement, roll-Statement, map-Statement, fold-Statement, fold-roll-Statement}
use Rattle.ec_core.specs.declared.Statement.TheOpen.{Statement-F, Arm-F, Block-F}
use Rattle.ec_core.specs.declared.Statement.TheVariants as s

module _ (D : Type 0) (f : Statement-F D D D → D) (g : Arm-F D D D → D) (h : Block-F D D D → D) where
  abbrev pub of_statement : Statement → D
  of_statement = fold-Statement D D D f g h

  abbrev pub of_arm : Arm → D
  of_arm = fold-Arm D D D f g h

  abbrev pub of_block : Block → D
  of_block = fold-Block D D D f g h

  pub statement_is : (x : Statement) (y : Statement-F Statement Arm Block) → roll-Statement y ≡ x →
      of_statement x ≡ f (map-Statement Statement Arm Block D D D of_statement of_arm of_block y)
  statement_is x y e = ap of_statement (sym e) ∙ fold-roll-Statement D D D f g h y

  pub arm_is : (y : Arm-F Statement Arm Block) →
      of_arm (roll-Arm y) ≡ g (map-Arm Statement Arm Block D D D of_statement of_arm of_block y)
  arm_is y = fold-roll-Arm D D D f g h y

  pub block_is : (y : Block-F Statement Arm Block) →
      of_block (roll-Block y) ≡ h (map-Block Statement Arm Block D D D of_statement of_arm of_block y)
  block_is y = fold-roll-Block D D D f g h y

  pub statements_are : (b : Block) →
      of_block b ≡ h (map-Block Statement Arm Block D D D of_statement of_arm of_block (out-Block b))
  statements_are b = ap of_block (sym (roll-out-Block b)) ∙ block_is (out-Block b)

-- ---- what an assignment becomes

module _ (Q : Statement → Type 0)
    (kept : (place : Place) (v : Expression) → Q (s.Assign place v))
    (element : (vector number v : Expression) (at : ℕ) → Q (s.SetElement vector number v at))
    (dropped : (v : Expression) → Q (s.Drop v)) where
  element_becomes : (vector : Expression) (l : CoreLink-F Expression Link Addend Factor) (v : Expression) → Q (element_set vector l v)
  element_becomes vector (CoreLink-F.Element number of at) v = element vector number v at
  element_becomes vector (CoreLink-F.Invoke name arguments of at) v = dropped v
  element_becomes vector (CoreLink-F.Call builtin arguments at) v = dropped v

  element_if_becomes : (head : Expression) (before : List Link) (last : Option Link) (v : Expression) → Q
      (element_set_if head before last v)
  element_if_becomes head before None v = dropped v
  element_if_becomes head before (Some last) v = element_becomes (chained head before) (out-Link last) v

  pub becomes : (t : Core-F Expression Link Addend Factor) (v : Expression) → Q (assigned t v)
  becomes (Core-F.Read place) v = kept place v
  becomes (Core-F.Chain head links) v = element_if_becomes head (below_of links) (top_of links) v
  becomes (Core-F.Number n) v = dropped v
  becomes (Core-F.Literal text) v = dropped v
  becomes (Core-F.Truth b) v = dropped v
  becomes Core-F.Nil v = dropped v
  becomes Core-F.Itself v = dropped v
  becomes Core-F.NodeCount v = dropped v
  becomes (Core-F.NodeAt x at) v = dropped v
  becomes (Core-F.NewVector of x at) v = dropped v
  becomes (Core-F.Construct class places) v = dropped v
  becomes (Core-F.Create class arguments) v = dropped v
  becomes (Core-F.Negative x) v = dropped v
  becomes (Core-F.Not x) v = dropped v
  becomes (Core-F.View x of at) v = dropped v
  becomes (Core-F.IsFixed x at) v = dropped v
  becomes (Core-F.Term x more) v = dropped v
  becomes (Core-F.Sum x more) v = dropped v
  becomes (Core-F.Compare x op what y) v = dropped v
  becomes (Core-F.And x more) v = dropped v
  becomes (Core-F.Or x more) v = dropped v
