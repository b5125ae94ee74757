-- Each block that is well typed fits.
use Rattle.std.proofs.Common.{◌≡◌, ℕ, Bool, true, ◌&&◌, List, [], ◌∷◌, ◌++◌, map, Option, Some, None, refl, sym}
use Rattle.std.proofs.Common.{ap, ◌∙◌, subst, is_some, option_and_then, slice_get, length}
use Rattle.ec_check.proofs.Every.{first_holds, second_holds}
use Rattle.ec_check.proofs.TypedRolled.{well_layer, statement_rolled, arm_rolled, block_rolled}
use Rattle.ec_check.proofs.WellValues.{both_hold}
use Rattle.ec_check.specs.WellTyped.{Site, typed, type_at, is_of, all_well, are_references, statement_is_well}
use Rattle.ec_check.specs.WellTyped.{is_well_statement, is_well_arm, is_well_block}
use Rattle.ec_code.specs.declared.code.Op.{Op}
use Rattle.ec_types.specs.Types.{element_of}
use Rattle.ec_types.specs.declared.conform.static_type.StaticType.{StaticType}
use Rattle.ec_core.specs.declared.Arm.{Arm, roll-Arm, map-Arm, fold-Arm, fold-roll-Arm}
use Rattle.ec_core.specs.declared.Block.{Block, roll-Block, map-Block, fold-roll-Block, ind-Block}
use Rattle.ec_core.specs.declared.Expression.{Expression}
use Rattle.ec_core.specs.declared.Statement.{Statement, roll-Statement, map-Statement, fold-Statement, fold-roll-Statement}
use Rattle.ec_core.specs.declared.Statement.TheOpen.{Statement-F, Arm-F, Block-F}
use Rattle.ec_emission.proofs.Literals.{AllAmong, among_first, among_second}
use Rattle.ec_emission.specs.Expressions.{fits_here, has_text}
use Rattle.ec_core.specs.Literals.{Texts, joined, texts_of, statement_texts, arm_texts, block_texts, texts_of_block}
use Rattle.ec_core.specs.Literals.{texts_of_statement, texts_of_arm}
use Rattle.ec_emission.specs.Statements.{Done, Choice, all_done, all_choices, is_given, are_given, value_of, statement_code, choice_code}
use Rattle.ec_emission.specs.Statements.{block_code, done_of, block_of}
use Rattle.ec_emission_laws.proofs.Expressions.{is_fit, fits_as}
use Rattle.ec_emission_laws.proofs.Values.{goes_in_if_value, vector_some}
use Rattle.ec_emission_laws.specs.Dropped.{all_drop, statement_drops, arm_drops, block_drops, drops_statement, drops_arm, drops_block}
use Rattle.ec_meaning.specs.Programs.{Source}
use Rattle.ec_meaning.specs.Steps.{default_if}
use Rattle.ec_meaning.specs.Types.{kind_of}
use Rattle.ec_rules.specs.declared.operands.Wanted.{Wanted}
use Rattle.ec_rules.specs.declared.operands.Wanted.TheVariants as wanted
use Rattle.ec_world.specs.Values.{default_of}
use Rattle.ec_world.specs.declared.value.ValueType.{ValueType}
use Rattle.ec_world.specs.declared.value.ValueType.TheVariants as kind

-- ---- defaults

kind_given : (literals : Texts) → has_text literals [] ≡ true → (k : ValueType) → is_given literals (default_of k) ≡ true
kind_given literals empty kind.Integer = refl
kind_given literals empty kind.Boolean = refl
kind_given literals empty kind.Bytes = empty
kind_given literals empty kind.Reference = refl

default_given : (literals : Texts) → has_text literals [] ≡ true → (of : Option StaticType) → is_given literals (default_if of) ≡ true
default_given literals empty None = refl
default_given literals empty (Some of) = kind_given literals empty (kind_of of)

pub defaults_given : (literals : Texts) → has_text literals [] ≡ true → (types : List StaticType) → are_given literals types ≡ true
defaults_given literals empty [] = refl
defaults_given literals empty (t ∷ ts) =
    both_hold (is_given literals (default_of (kind_of t))) (are_given literals ts) (kind_given literals empty (kind_of t))
    (defaults_given literals empty ts)

-- The code is of an operation with variables of these types, of objects whose class captures so many names; `leaves` is the
-- code of its end. The empty text is one of the literals.
module _ (site : Site) (s : Source) (captured : ℕ) (types : List StaticType) (literals : Texts) (leaves : List Op)
    (empty : has_text literals [] ≡ true) where
  abbrev of_layer : Statement-F Done Choice Done → Done
  of_layer = statement_code s captured types literals leaves

  abbrev of_arm_layer : Arm-F Done Choice Done → Choice
  of_arm_layer = choice_code s captured types literals leaves

  abbrev of_block_layer : Block-F Done Choice Done → Done
  of_block_layer = block_code s captured types literals leaves

  abbrev of_statement : Statement → Done
  of_statement = done_of s captured types literals leaves

  abbrev of_arm : Arm → Choice
  of_arm = fold-Arm Done Choice Done of_layer of_arm_layer of_block_layer

  abbrev of_block : Block → Done
  of_block = block_of s captured types literals leaves

  abbrev Among : Texts → Type 0
  Among ts = AllAmong literals ts

  abbrev StatementIs : Statement → Type 0
  StatementIs x =
      is_well_statement site x ≡ true → drops_statement x ≡ true → Among (texts_of_statement x) → (of_statement x).fits ≡ true

  abbrev ArmIs : Arm → Type 0
  ArmIs x = is_well_arm site x ≡ true → drops_arm x ≡ true → Among (texts_of_arm x) → (of_arm x).fits ≡ true

  abbrev BlockIs : Block → Type 0
  BlockIs x = is_well_block site x ≡ true → drops_block x ≡ true → Among (texts_of_block x) → (of_block x).fits ≡ true

  abbrev StatementHeld : Type 0
  StatementHeld = (x : Statement) × StatementIs x

  abbrev ArmHeld : Type 0
  ArmHeld = (x : Arm) × ArmIs x

  abbrev BlockHeld : Type 0
  BlockHeld = (x : Block) × BlockIs x

  abbrev bare_s : StatementHeld → Statement
  bare_s x = x.0

  abbrev bare_a : ArmHeld → Arm
  bare_a x = x.0

  abbrev bare_b : BlockHeld → Block
  bare_b x = x.0

  abbrev bare_statement : Statement-F StatementHeld ArmHeld BlockHeld → Statement-F Statement Arm Block
  bare_statement = map-Statement StatementHeld ArmHeld BlockHeld Statement Arm Block bare_s bare_a bare_b

  abbrev bare_arm : Arm-F StatementHeld ArmHeld BlockHeld → Arm-F Statement Arm Block
  bare_arm = map-Arm StatementHeld ArmHeld BlockHeld Statement Arm Block bare_s bare_a bare_b

  abbrev bare_block : Block-F StatementHeld ArmHeld BlockHeld → Block-F Statement Arm Block
  bare_block = map-Block StatementHeld ArmHeld BlockHeld Statement Arm Block bare_s bare_a bare_b

  abbrev coded : Statement-F Statement Arm Block → Statement-F Done Choice Done
  coded = map-Statement Statement Arm Block Done Choice Done of_statement of_arm of_block

  abbrev dropped : Statement-F Statement Arm Block → Statement-F Bool Bool Bool
  dropped = map-Statement Statement Arm Block Bool Bool Bool drops_statement drops_arm drops_block

  abbrev texts_in : Statement-F Statement Arm Block → Statement-F Texts Texts Texts
  texts_in = map-Statement Statement Arm Block Texts Texts Texts texts_of_statement texts_of_arm texts_of_block

  -- ---- expressions

  abbrev IsHere : Expression → Type 0
  IsHere x = fits_here (value_of s captured types literals leaves x) ≡ true

  value : (x : Expression) → ((typed site x).is_well ≡ true) × (is_some (typed site x).of ≡ true) → Among (texts_of x) → IsHere x
  value x v a = (is_fit site s captured (length types) literals x).value v.0 a v.1

  of_kind : (w : Wanted) (x : Expression) → is_of w (typed site x) ≡ true → Among (texts_of x) → IsHere x
  of_kind w x e a = fits_as site s captured (length types) literals w x e a

  references : (x y : Expression) → are_references site x y ≡ true → Among (texts_of x ++ texts_of y) →
      fits_here (value_of s captured types literals leaves x)
      && (fits_here (value_of s captured types literals leaves y) && true)
      ≡ true
  references x y e a =
      let r : Wanted = wanted.Reference in
      both_hold _ _
      (of_kind r x (first_holds (is_of r (typed site x)) _ e) (among_first literals (texts_of x) (texts_of y) a))
      (both_hold _ _
      (of_kind r y (second_holds (is_of r (typed site x)) _ e) (among_second literals (texts_of x) (texts_of y) a)) refl)

  -- ---- lists of parts

  abbrev texts_of_statements : List StatementHeld → Texts
  texts_of_statements xs = joined (map texts_of_statement (map bare_s xs))

  abbrev texts_of_arms : List ArmHeld → Texts
  texts_of_arms xs = joined (map texts_of_arm (map bare_a xs))

  statements_fit : (xs : List StatementHeld) → all_well site (map (is_well_statement site) (map bare_s xs)) ≡ true →
      all_drop (map drops_statement (map bare_s xs)) ≡ true → Among (texts_of_statements xs) →
      all_done (map of_statement (map bare_s xs)) ≡ true
  statements_fit [] e h a = refl
  statements_fit (x ∷ xs) e h a =
      both_hold _ _
      (x.1 (first_holds _ _ e) (first_holds _ _ h) (among_first literals (texts_of_statement x.0) (texts_of_statements xs) a))
      (statements_fit xs (second_holds _ _ e) (second_holds _ _ h)
      (among_second literals (texts_of_statement x.0) (texts_of_statements xs) a))

  arms_fit : (xs : List ArmHeld) → all_well site (map (is_well_arm site) (map bare_a xs)) ≡ true →
      all_drop (map drops_arm (map bare_a xs)) ≡ true → Among (texts_of_arms xs) → all_choices (map of_arm (map bare_a xs)) ≡ true
  arms_fit [] e h a = refl
  arms_fit (x ∷ xs) e h a =
      both_hold _ _ (x.1 (first_holds _ _ e) (first_holds _ _ h) (among_first literals (texts_of_arm x.0) (texts_of_arms xs) a))
      (arms_fit xs (second_holds _ _ e) (second_holds _ _ h) (among_second literals (texts_of_arm x.0) (texts_of_arms xs) a))

  -- ---- one layer

  layer : (y : Statement-F StatementHeld ArmHeld BlockHeld) →
      statement_is_well site (well_layer site (bare_statement y)) ≡ true → statement_drops (dropped (bare_statement y)) ≡ true →
      Among (statement_texts (texts_in (bare_statement y))) → (of_layer (coded (bare_statement y))).fits ≡ true
  layer (Statement-F.Declare n None) e h a = default_given literals empty (slice_get types n)
  layer (Statement-F.Declare n (Some x)) e h a =
      let v =
      goes_in_if_value site.table (slice_get site.variables n) (typed site x)
      (second_holds (is_some (slice_get site.variables n)) _ e) in
      value x v a
  layer (Statement-F.Assign p x) e h a = value x (goes_in_if_value site.table (type_at site p) (typed site x) e) a
  layer (Statement-F.SetElement x y z at) e h a =
      let g = second_holds (is_of wanted.Integer (typed site y)) _ e in
      let k = second_holds (typed site x).is_well _ g in
      let b = among_second literals (texts_of x) (texts_of y ++ texts_of z) a in
      both_hold _ _
      (value x (first_holds (typed site x).is_well _ g, vector_some site.table (typed site x).of (typed site z) k)
      (among_first literals (texts_of x) (texts_of y ++ texts_of z) a))
      (both_hold _ _
      (of_kind wanted.Integer y (first_holds (is_of wanted.Integer (typed site y)) _ e)
      (among_first literals (texts_of y) (texts_of z) b))
      (both_hold _ _
      (value z (goes_in_if_value site.table (option_and_then element_of (typed site x).of) (typed site z) k)
      (among_second literals (texts_of y) (texts_of z) b)) refl))
  layer (Statement-F.Drop x) e h a = (is_fit site s captured (length types) literals x).alone e a h
  layer (Statement-F.Print x) e h a = both_hold _ _ (of_kind wanted.String x e a) refl
  layer (Statement-F.If arms None) e h a =
      both_hold _ _ (arms_fit arms (first_holds _ _ e) (first_holds _ _ h) (among_first literals (texts_of_arms arms) [] a)) refl
  layer (Statement-F.If arms (Some b)) e h a =
      let texts : Texts = texts_of_arms arms in
      both_hold _ _
      (arms_fit arms (first_holds _ _ e) (first_holds _ _ h) (among_first literals texts (texts_of_block b.0) a))
      (b.1 (second_holds _ _ e) (second_holds _ _ h) (among_second literals texts (texts_of_block b.0) a))
  layer (Statement-F.Loop b) e h a = b.1 e h a
  layer (Statement-F.Exit None) e h a = refl
  layer (Statement-F.Exit (Some x)) e h a = of_kind wanted.Boolean x e a
  layer Statement-F.Return e h a = refl
  layer (Statement-F.Assert x at) e h a = of_kind wanted.Boolean x e a
  layer (Statement-F.Move x y at) e h a = references x y e a
  layer (Statement-F.Fix x y at) e h a = references x y e a
  layer (Statement-F.Refix x y at) e h a = references x y e a
  layer (Statement-F.Unfix x at) e h a = both_hold _ _ (of_kind wanted.Reference x e a) refl
  layer (Statement-F.Wait n) e h a = refl
  layer (Statement-F.Signal n) e h a = refl

  -- ---- the induction

  statement_from : (x : Statement-F Statement Arm Block) (y : Statement-F StatementHeld ArmHeld BlockHeld) →
      bare_statement y ≡ x → StatementIs (roll-Statement x)
  statement_from x y is =
      subst (λ z. StatementIs (roll-Statement z)) is
      (λ e h a.
      let b : Statement-F Statement Arm Block = bare_statement y in
      ap (λ (d : Done). d.fits) (fold-roll-Statement Done Choice Done of_layer of_arm_layer of_block_layer b)
      ∙ layer y (sym (statement_rolled site b) ∙ e)
      (sym (fold-roll-Statement Bool Bool Bool statement_drops arm_drops block_drops b) ∙ h)
      (subst (λ (k : Texts). Among k) (fold-roll-Statement Texts Texts Texts statement_texts arm_texts block_texts b) a))

  arm_from : (x : Arm-F Statement Arm Block) (y : Arm-F StatementHeld ArmHeld BlockHeld) → bare_arm y ≡ x → ArmIs (roll-Arm x)
  arm_from x y is =
      subst (λ z. ArmIs (roll-Arm z)) is
      (λ e h a.
      let b : Arm-F Statement Arm Block = bare_arm y in
      let well : is_of wanted.Boolean (typed site y.condition) && is_well_block site y.block.0 ≡ true = sym (arm_rolled site b) ∙ e in
      let among : Among (texts_of y.condition ++ texts_of_block y.block.0) =
      subst (λ (k : Texts). Among k) (fold-roll-Arm Texts Texts Texts statement_texts arm_texts block_texts b) a in
      ap (λ (d : Choice). d.fits) (fold-roll-Arm Done Choice Done of_layer of_arm_layer of_block_layer b)
      ∙ both_hold _ _
      (of_kind wanted.Boolean y.condition (first_holds (is_of wanted.Boolean (typed site y.condition)) _ well)
      (among_first literals (texts_of y.condition) (texts_of_block y.block.0) among))
      (y.block.1 (second_holds (is_of wanted.Boolean (typed site y.condition)) _ well)
      (sym (fold-roll-Arm Bool Bool Bool statement_drops arm_drops block_drops b) ∙ h)
      (among_second literals (texts_of y.condition) (texts_of_block y.block.0) among)))

  block_from : (x : Block-F Statement Arm Block) (y : Block-F StatementHeld ArmHeld BlockHeld) → bare_block y ≡ x →
      BlockIs (roll-Block x)
  block_from x y is =
      subst (λ z. BlockIs (roll-Block z)) is
      (λ e h a.
      let b : Block-F Statement Arm Block = bare_block y in
      ap (λ (d : Done). d.fits) (fold-roll-Block Done Choice Done of_layer of_arm_layer of_block_layer b)
      ∙ statements_fit y.statements (sym (block_rolled site b) ∙ e)
      (sym (fold-roll-Block Bool Bool Bool statement_drops arm_drops block_drops b) ∙ h)
      (subst (λ (k : Texts). Among k) (fold-roll-Block Texts Texts Texts statement_texts arm_texts block_texts b) a))

  pub block_fits : (b : Block) → is_well_block site b ≡ true → drops_block b ≡ true → AllAmong literals (texts_of_block b) →
      (block_of s captured types literals leaves b).fits ≡ true
  block_fits = ind-Block StatementIs ArmIs BlockIs statement_from arm_from block_from
