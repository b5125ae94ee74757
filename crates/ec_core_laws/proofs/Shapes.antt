-- What each part of a core has by the way in which it is made: each chain has a link, no view is to nil, and the types of new
-- vectors and of views name nothing beyond a program's types.
use Rattle.std.specs.Prelude.{◌≡◌, ℕ, ◌<◌, ◌&&◌, Bool, true, Option, Some, None}
use Rattle.ec_check.proofs.Every.{Every}
use Rattle.ec_check.specs.Parts.{Made}
use Rattle.ec_core.specs.declared.Addend.{Addend, fold-Addend}
use Rattle.ec_core.specs.declared.Arm.{Arm, fold-Arm}
use Rattle.ec_core.specs.declared.Block.{Block, fold-Block}
use Rattle.ec_core.specs.declared.Class.{Class}
use Rattle.ec_core.specs.declared.Expression.{Expression, fold-Expression}
use Rattle.ec_core.specs.declared.Expression.TheOpen.{Expression-F, Link-F, Addend-F, Factor-F}
use Rattle.ec_core.specs.declared.Factor.{Factor, fold-Factor}
use Rattle.ec_core.specs.declared.Field.{Field}
use Rattle.ec_core.specs.declared.Link.{Link, fold-Link}
use Rattle.ec_core.specs.declared.Operation.{Operation}
use Rattle.ec_core.specs.declared.Statement.{Statement, fold-Statement}
use Rattle.ec_core.specs.declared.Statement.TheOpen.{Statement-F, Arm-F, Block-F}
use Rattle.ec_core_laws.proofs.Types.{is_below, IsBelow}
use Rattle.ec_core_laws.specs.Formed.{is_not_nil, all_formed, some_formed, formed_if}

module _ (types : ℕ) where
  -- ---- expressions

  abbrev pub expression_shaped : Expression-F Bool Bool Bool Bool → Bool
  expression_shaped (Expression-F.NodeAt x at) = x
  expression_shaped (Expression-F.NewVector of size at) = is_below types of && size
  expression_shaped (Expression-F.Create class arguments) = all_formed arguments
  expression_shaped (Expression-F.Chain head links) = head && some_formed links
  expression_shaped (Expression-F.Negative x) = x
  expression_shaped (Expression-F.Not x) = x
  expression_shaped (Expression-F.View x of at) = is_not_nil of && (is_below types of && x)
  expression_shaped (Expression-F.IsFixed x at) = x
  expression_shaped (Expression-F.Term first factors) = first && all_formed factors
  expression_shaped (Expression-F.Sum first addends) = first && all_formed addends
  expression_shaped (Expression-F.Compare left op what right) = left && right
  expression_shaped (Expression-F.And first more) = first && all_formed more
  expression_shaped (Expression-F.Or first more) = first && all_formed more
  expression_shaped _ = true

  abbrev pub link_shaped : Link-F Bool Bool Bool Bool → Bool
  link_shaped (Link-F.Invoke name arguments of at) = all_formed arguments
  link_shaped (Link-F.Call builtin arguments at) = all_formed arguments
  link_shaped (Link-F.Element number of at) = number

  abbrev pub addend_shaped : Addend-F Bool Bool Bool Bool → Bool
  addend_shaped a = a.value

  abbrev pub factor_shaped : Factor-F Bool Bool Bool Bool → Bool
  factor_shaped f = f.value

  abbrev pub shaped : Expression → Bool
  shaped = fold-Expression Bool Bool Bool Bool expression_shaped link_shaped addend_shaped factor_shaped

  abbrev pub shaped_link : Link → Bool
  shaped_link = fold-Link Bool Bool Bool Bool expression_shaped link_shaped addend_shaped factor_shaped

  abbrev pub shaped_addend : Addend → Bool
  shaped_addend = fold-Addend Bool Bool Bool Bool expression_shaped link_shaped addend_shaped factor_shaped

  abbrev pub shaped_factor : Factor → Bool
  shaped_factor = fold-Factor Bool Bool Bool Bool expression_shaped link_shaped addend_shaped factor_shaped

  -- ---- statements

  abbrev pub shaped_if : Option Expression → Bool
  shaped_if None = true
  shaped_if (Some x) = shaped x

  abbrev pub statement_shaped : Statement-F Bool Bool Bool → Bool
  statement_shaped (Statement-F.Declare n value) = shaped_if value
  statement_shaped (Statement-F.Assign place value) = shaped value
  statement_shaped (Statement-F.SetElement vector number value at) = shaped vector && (shaped number && shaped value)
  statement_shaped (Statement-F.Drop x) = shaped x
  statement_shaped (Statement-F.Print x) = shaped x
  statement_shaped (Statement-F.If arms other) = all_formed arms && formed_if other
  statement_shaped (Statement-F.Loop block) = block
  statement_shaped (Statement-F.Exit when) = shaped_if when
  statement_shaped Statement-F.Return = true
  statement_shaped (Statement-F.Assert x at) = shaped x
  statement_shaped (Statement-F.Move x to at) = shaped x && shaped to
  statement_shaped (Statement-F.Fix x to at) = shaped x && shaped to
  statement_shaped (Statement-F.Refix x to at) = shaped x && shaped to
  statement_shaped (Statement-F.Unfix x at) = shaped x
  statement_shaped (Statement-F.Wait n) = true
  statement_shaped (Statement-F.Signal n) = true

  abbrev pub arm_shaped : Arm-F Bool Bool Bool → Bool
  arm_shaped a = shaped a.condition && a.block

  abbrev pub block_shaped : Block-F Bool Bool Bool → Bool
  block_shaped b = all_formed b.statements

  abbrev pub shaped_statement : Statement → Bool
  shaped_statement = fold-Statement Bool Bool Bool statement_shaped arm_shaped block_shaped

  abbrev pub shaped_arm : Arm → Bool
  shaped_arm = fold-Arm Bool Bool Bool statement_shaped arm_shaped block_shaped

  abbrev pub shaped_block : Block → Bool
  shaped_block = fold-Block Bool Bool Bool statement_shaped arm_shaped block_shaped

  abbrev pub IsShaped : Expression → Type 0
  IsShaped x = shaped x ≡ true

  abbrev pub IsShapedLink : Link → Type 0
  IsShapedLink x = shaped_link x ≡ true

  abbrev pub IsShapedStatement : Statement → Type 0
  IsShapedStatement x = shaped_statement x ≡ true

-- ---- what is made

-- Its block is shaped so, and its variables are of types that name nothing beyond.
pub record OperationShaped (types : ℕ) (o : Operation) : Type 0 where
  pub block : shaped_block types o.block ≡ true
  pub variables : Every (IsBelow types) o.variables

pub record ClassBelow (types : ℕ) (c : Class) : Type 0 where
  pub captured : Every (IsBelow types) c.captured
  pub fields : Every (λ (f : Field). IsBelow types f.of) c.fields

pub record MadeShaped (types : ℕ) (m : Made) : Type 0 where
  pub operations : Every (OperationShaped types) m.operations
  pub classes : Every (ClassBelow types) m.classes

-- Each class has the number of a type of the program.
abbrev pub NumberBelow : ℕ → Class → Type 0
NumberBelow types c = c.number < types

abbrev pub NumbersBelow : ℕ → Made → Type 0
NumbersBelow types m = Every (NumberBelow types) m.classes
