-- A statement or a block that is shaped and well typed is formed, where each place at its site is of a type of the program.
use Rattle.std.proofs.Common.{◌≡◌, ℕ, ◌&&◌, Bool, true, List, [], ◌∷◌, map, Option, Some, None, option_and_then, refl, sym, ◌∙◌, subst}
use Rattle.std.proofs.Common.{slice_get}
use Rattle.ec_check.proofs.Every.{not_both, first_holds, second_holds}
use Rattle.ec_check.proofs.TypedRolled.{well_layer, statement_rolled, arm_rolled, block_rolled}
use Rattle.ec_check.proofs.WellValues.{both_hold}
use Rattle.ec_check.specs.WellTyped.{Site, Typed, typed, is_of as is_wanted, holds_if, all_well, goes_in_if, are_references, type_at}
use Rattle.ec_check.specs.WellTyped.{statement_is_well, is_well_statement, is_well_arm, is_well_block}
use Rattle.ec_types.specs.Table.{Table}
use Rattle.ec_types.specs.Types.{element_of}
use Rattle.ec_types.specs.declared.conform.static_type.StaticType.{StaticType}
use Rattle.ec_core.specs.declared.Arm.{Arm, roll-Arm, map-Arm, fold-roll-Arm}
use Rattle.ec_core.specs.declared.Block.{Block, roll-Block, map-Block, fold-roll-Block, ind-Block}
use Rattle.ec_core.specs.declared.Expression.{Expression}
use Rattle.ec_core.specs.declared.Statement.{Statement, roll-Statement, map-Statement, fold-roll-Statement}
use Rattle.ec_core.specs.declared.Statement.TheOpen.{Statement-F, Arm-F, Block-F}
use Rattle.ec_core_laws.proofs.FormedExpressions.{expression_forms}
use Rattle.ec_core_laws.proofs.Shapes.{shaped, shaped_if, statement_shaped, arm_shaped, block_shaped, shaped_statement, shaped_arm}
use Rattle.ec_core_laws.proofs.Shapes.{shaped_block}
use Rattle.ec_core_laws.proofs.Sites.{SiteOf}
use Rattle.ec_core_laws.specs.Formed.{all_formed, formed_expression, formed_expression_if, statement_formed, arm_formed, block_formed}
use Rattle.ec_core_laws.specs.Formed.{formed_statement, formed_arm, formed_block}
use Rattle.ec_rules.specs.declared.operands.Wanted.TheVariants as wanted

module _ (types : ℕ) (site : Site) (s : SiteOf types site) where
  -- ---- expressions

  one : (x : Expression) → shaped types x ≡ true → (typed site x).is_well ≡ true → formed_expression types x ≡ true
  one x h e = expression_forms types site s x h e

  if_formed : (x : Option Expression) (test : Typed → Bool) → ((t : Typed) → test t ≡ true → t.is_well ≡ true) →
      shaped_if types x ≡ true → holds_if site x test ≡ true → formed_expression_if types x ≡ true
  if_formed None test k h e = refl
  if_formed (Some x) test k h e = one x h (k (typed site x) e)

  goes_in_well : (table : Table) (wanted : Option StaticType) (t : Typed) → goes_in_if table wanted t ≡ true → t.is_well ≡ true
  goes_in_well table None t e = not_both e
  goes_in_well table (Some of) t e = first_holds _ _ e

  two_formed : (x y : Expression) → shaped types x && shaped types y ≡ true → are_references site x y ≡ true →
      formed_expression types x && formed_expression types y ≡ true
  two_formed x y h e =
      both_hold _ _ (one x (first_holds _ _ h) (first_holds _ _ (first_holds _ _ e)))
      (one y (second_holds _ _ h) (first_holds _ _ (second_holds _ _ e)))

  -- ---- each kind of part

  abbrev StatementForms : Statement → Type 0
  StatementForms x = shaped_statement types x ≡ true → is_well_statement site x ≡ true → formed_statement types x ≡ true

  abbrev ArmForms : Arm → Type 0
  ArmForms x = shaped_arm types x ≡ true → is_well_arm site x ≡ true → formed_arm types x ≡ true

  abbrev BlockForms : Block → Type 0
  BlockForms x = shaped_block types x ≡ true → is_well_block site x ≡ true → formed_block types x ≡ true

  abbrev StatementHeld : Type 0
  StatementHeld = (x : Statement) × StatementForms x

  abbrev ArmHeld : Type 0
  ArmHeld = (x : Arm) × ArmForms x

  abbrev BlockHeld : Type 0
  BlockHeld = (x : Block) × BlockForms x

  abbrev bare_s : StatementHeld → Statement
  bare_s x = x.0

  abbrev bare_arm : ArmHeld → Arm
  bare_arm x = x.0

  abbrev bare_b : BlockHeld → Block
  bare_b x = x.0

  abbrev bare_statement : Statement-F StatementHeld ArmHeld BlockHeld → Statement-F Statement Arm Block
  bare_statement = map-Statement StatementHeld ArmHeld BlockHeld Statement Arm Block bare_s bare_arm bare_b

  abbrev bare_arm_layer : Arm-F StatementHeld ArmHeld BlockHeld → Arm-F Statement Arm Block
  bare_arm_layer = map-Arm StatementHeld ArmHeld BlockHeld Statement Arm Block bare_s bare_arm bare_b

  abbrev bare_block_layer : Block-F StatementHeld ArmHeld BlockHeld → Block-F Statement Arm Block
  bare_block_layer = map-Block StatementHeld ArmHeld BlockHeld Statement Arm Block bare_s bare_arm bare_b

  arms_formed : (xs : List ArmHeld) → all_formed (map (shaped_arm types) (map bare_arm xs)) ≡ true →
      all_well site (map (is_well_arm site) (map bare_arm xs)) ≡ true → all_formed (map (formed_arm types) (map bare_arm xs)) ≡ true
  arms_formed [] h e = refl
  arms_formed (x ∷ xs) h e =
      both_hold _ _ (x.1 (first_holds _ _ h) (first_holds _ _ e)) (arms_formed xs (second_holds _ _ h) (second_holds _ _ e))

  statements_formed : (xs : List StatementHeld) → all_formed (map (shaped_statement types) (map bare_s xs)) ≡ true →
      all_well site (map (is_well_statement site) (map bare_s xs)) ≡ true →
      all_formed (map (formed_statement types) (map bare_s xs)) ≡ true
  statements_formed [] h e = refl
  statements_formed (x ∷ xs) h e =
      both_hold _ _ (x.1 (first_holds _ _ h) (first_holds _ _ e)) (statements_formed xs (second_holds _ _ h) (second_holds _ _ e))

  abbrev shaped_layer : Statement-F Statement Arm Block → Bool
  shaped_layer y =
      statement_shaped types
      (map-Statement Statement Arm Block Bool Bool Bool (shaped_statement types) (shaped_arm types) (shaped_block types) y)

  abbrev formed_layer : Statement-F Statement Arm Block → Bool
  formed_layer y =
      statement_formed types
      (map-Statement Statement Arm Block Bool Bool Bool (formed_statement types) (formed_arm types) (formed_block types) y)

  layer_formed : (y : Statement-F StatementHeld ArmHeld BlockHeld) → shaped_layer (bare_statement y) ≡ true →
      statement_is_well site (well_layer site (bare_statement y)) ≡ true → formed_layer (bare_statement y) ≡ true
  layer_formed (Statement-F.Declare n x) h e =
      if_formed x _ (goes_in_well site.table (slice_get site.variables n)) h (second_holds _ _ e)
  layer_formed (Statement-F.Assign p x) h e = one x h (goes_in_well site.table (type_at site p) (typed site x) e)
  layer_formed (Statement-F.SetElement vector number value at) h e =
      both_hold _ _ (one vector (first_holds _ _ h) (first_holds _ _ (second_holds _ _ e)))
      (both_hold _ _ (one number (first_holds _ _ (second_holds _ _ h)) (first_holds _ _ (first_holds _ _ e)))
      (one value (second_holds _ _ (second_holds _ _ h))
      (goes_in_well site.table (option_and_then element_of (typed site vector).of) (typed site value)
      (second_holds (typed site vector).is_well _ (second_holds (is_wanted wanted.Integer (typed site number)) _ e)))))
  layer_formed (Statement-F.Drop x) h e = one x h e
  layer_formed (Statement-F.Print x) h e = one x h (first_holds _ _ e)
  layer_formed (Statement-F.If arms None) h e = both_hold _ _ (arms_formed arms (first_holds _ _ h) (first_holds _ _ e)) refl
  layer_formed (Statement-F.If arms (Some b)) h e =
      both_hold _ _ (arms_formed arms (first_holds _ _ h) (first_holds _ _ e)) (b.1 (second_holds _ _ h) (second_holds _ _ e))
  layer_formed (Statement-F.Loop b) h e = b.1 h e
  layer_formed (Statement-F.Exit x) h e = if_formed x _ (λ t k. first_holds _ _ k) h e
  layer_formed Statement-F.Return h e = refl
  layer_formed (Statement-F.Assert x at) h e = one x h (first_holds _ _ e)
  layer_formed (Statement-F.Move x y at) h e = two_formed x y h e
  layer_formed (Statement-F.Fix x y at) h e = two_formed x y h e
  layer_formed (Statement-F.Refix x y at) h e = two_formed x y h e
  layer_formed (Statement-F.Unfix x at) h e = one x h (first_holds _ _ e)
  layer_formed (Statement-F.Wait n) h e = refl
  layer_formed (Statement-F.Signal n) h e = refl

  -- ---- the induction

  statement_from : (x : Statement-F Statement Arm Block) (y : Statement-F StatementHeld ArmHeld BlockHeld) → bare_statement y ≡ x →
      StatementForms (roll-Statement x)
  statement_from x y is =
      subst (λ z. StatementForms (roll-Statement z)) is
      (λ h e.
      fold-roll-Statement Bool Bool Bool (statement_formed types) (arm_formed types) (block_formed types) (bare_statement y)
      ∙ layer_formed y
      (sym (fold-roll-Statement Bool Bool Bool (statement_shaped types) (arm_shaped types) (block_shaped types) (bare_statement y))
      ∙ h)
      (sym (statement_rolled site (bare_statement y)) ∙ e))

  arm_from : (x : Arm-F Statement Arm Block) (y : Arm-F StatementHeld ArmHeld BlockHeld) → bare_arm_layer y ≡ x → ArmForms (roll-Arm x)
  arm_from x y is =
      subst (λ z. ArmForms (roll-Arm z)) is
      (λ h e.
      let well : is_wanted wanted.Boolean (typed site y.condition) && is_well_block site y.block.0 ≡ true =
      sym (arm_rolled site (bare_arm_layer y)) ∙ e in
      let shape : shaped types y.condition && shaped_block types y.block.0 ≡ true =
      sym (fold-roll-Arm Bool Bool Bool (statement_shaped types) (arm_shaped types) (block_shaped types) (bare_arm_layer y)) ∙ h in
      fold-roll-Arm Bool Bool Bool (statement_formed types) (arm_formed types) (block_formed types) (bare_arm_layer y)
      ∙ both_hold _ _ (one y.condition (first_holds _ _ shape) (first_holds _ _ (first_holds _ _ well)))
      (y.block.1 (second_holds _ _ shape) (second_holds _ _ well)))

  block_from : (x : Block-F Statement Arm Block) (y : Block-F StatementHeld ArmHeld BlockHeld) → bare_block_layer y ≡ x →
      BlockForms (roll-Block x)
  block_from x y is =
      subst (λ z. BlockForms (roll-Block z)) is
      (λ h e.
      fold-roll-Block Bool Bool Bool (statement_formed types) (arm_formed types) (block_formed types) (bare_block_layer y)
      ∙ statements_formed y.statements
      (sym (fold-roll-Block Bool Bool Bool (statement_shaped types) (arm_shaped types) (block_shaped types) (bare_block_layer y))
      ∙ h)
      (sym (block_rolled site (bare_block_layer y)) ∙ e))

  pub block_forms : (x : Block) → shaped_block types x ≡ true → is_well_block site x ≡ true → formed_block types x ≡ true
  block_forms = ind-Block StatementForms ArmForms BlockForms statement_from arm_from block_from
