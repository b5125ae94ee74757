-- The code of each block that is well typed is: one induction over statements.
use Rattle.std.proofs.Common.{◌≡◌, ℕ, Bool, true, ◌&&◌, List, [], ◌∷◌, ◌++◌, length, map, Option, Some, None, is_some}
use Rattle.std.proofs.Common.{refl, sym, ap}
use Rattle.std.proofs.Common.{◌∙◌, subst}
use Rattle.std.specs.Prelude.{option_and_then, slice_get}
use Rattle.ec_check.proofs.Every.{Every}
use Rattle.ec_check.specs.Numbers.{Number, arm_numbers, block_numbers, in_arm, in_block, in_expression, in_statement}
use Rattle.ec_check.specs.Numbers.{joined}
use Rattle.ec_check.specs.Numbers.{statement_numbers}
use Rattle.ec_check.specs.WellTyped.{Typed, all_well, are_references, arm_is_well, block_is_well, conforms_if, goes_in_if}
use Rattle.ec_check.specs.WellTyped.{goes_in_vector}
use Rattle.ec_check.specs.WellTyped.{is_of, is_well_arm, is_well_block, is_well_statement, statement_is_well, type_at}
use Rattle.ec_code.specs.declared.code.Op.{Op}
use Rattle.ec_code.specs.Fine.{FineStop}
use Rattle.ec_code.specs.Typing.{any}
use Rattle.ec_types.specs.Types.{element_of}
use Rattle.ec_types.specs.declared.conform.static_type.StaticType.{StaticType}
use Rattle.ec_core.specs.declared.Arm.{Arm, roll-Arm, map-Arm, fold-Arm, fold-roll-Arm}
use Rattle.ec_core.specs.declared.Block.{Block, roll-Block, map-Block, fold-roll-Block, ind-Block}
use Rattle.ec_core.specs.declared.Expression.{Expression}
use Rattle.ec_core.specs.declared.Place.{Place}
use Rattle.ec_core.specs.declared.Place.TheVariants as place
use Rattle.ec_core.specs.declared.Statement.{Statement, roll-Statement, map-Statement, fold-roll-Statement}
use Rattle.ec_core.specs.declared.Statement.TheOpen.{Statement-F, Arm-F, Block-F}
use Rattle.ec_core_laws.specs.Waiting.{all_of, arm_conditions, block_conditions, statement_conditions}
use Rattle.ec_core_laws.specs.Waiting.{conditions_of_arm, conditions_of_block, conditions_of_statement}
use Rattle.ec_core_laws.specs.Formed.{all_formed, arm_formed, block_formed, formed_arm, formed_block, formed_expression}
use Rattle.ec_core_laws.specs.Formed.{formed_statement, statement_formed}
use Rattle.ec_emission.proofs.Forms.{both_true, not_true}
use Rattle.ec_emission.specs.Expressions.{all_fit, fits_here}
use Rattle.ec_emission.specs.Statements.{Done, Choice, all_choices, all_done, block_code, block_of, choice_code, done_of}
use Rattle.ec_emission.specs.Statements.{statement_code, stop_with, stored}
use Rattle.ec_accepted.proofs.Blocks.{IsFine, IsFineArm, all_fine, arms_fine}
use Rattle.ec_accepted.proofs.FineProgramsForms.{asked, bare, declares, drops, exits_where, jumps, prints, requires}
use Rattle.ec_accepted.proofs.FineProgramsForms.{sets_element, stores}
use Rattle.ec_accepted.proofs.FineProgramsForms.{takes_one, takes_two}
use Rattle.ec_accepted.proofs.Loops.{loop_fine}
use Rattle.ec_accepted.proofs.Reaching.{Begins, Continues, types, wanting}
use Rattle.ec_accepted.proofs.Stages.{CanUse, IsSound, Judged, Stage, code_of, type_of}
use Rattle.ec_accepted.proofs.Taking.{well_taken}
use Rattle.ec_accepted.proofs.Pieces.{Setting, FitsAs, Piece}
use Rattle.ec_accepted.proofs.Shown.{frame}
use Rattle.ec_meaning.specs.Programs.{line}
use Rattle.ec_rules.specs.declared.operands.Wanted.{Wanted}
use Rattle.ec_rules.specs.declared.operands.Wanted.TheVariants as wanted
use Rattle.ec_world.specs.declared.stop.Stop.{Stop}
use Rattle.ec_world.specs.declared.stop.Stop.TheVariants as stop

-- ---- tests and lists

well_in : (g : Stage) (o : Option StaticType) (x : Typed) → goes_in_if g.site.table o x ≡ true → x.is_well ≡ true
well_in g None x e = not_true e
well_in g (Some t) x e = (both_true x.is_well (conforms_if g.site.table x.of t) e).0

each_left : {A : Type 0} (P : A → Type 0) (xs ys : List A) → Every P (xs ++ ys) → Every P xs
each_left P [] ys h = tt
each_left P (x ∷ xs) ys h = (h.0, each_left P xs ys h.1)

each_right : {A : Type 0} (P : A → Type 0) (xs ys : List A) → Every P (xs ++ ys) → Every P ys
each_right P [] ys h = h
each_right P (x ∷ xs) ys h = each_right P xs ys h.1

module _ (g : Stage) (sound : IsSound g) where
  abbrev w : Setting
  w = g.setting

  abbrev count : ℕ
  count = length w.declared.types

  -- ---- what is known of a part: it is well typed, fits and is formed; and so of its numbers and conditions

  pub record Facts (well fits formed : Bool) (numbers : List Number) (conditions : List ℕ) : Type 0 where
    pub is_well : well ≡ true
    pub is_fit : fits ≡ true
    pub is_formed : formed ≡ true
    pub are_right : Every g.Right numbers
    pub are_usable : Every (CanUse g) conditions

  as_facts : {a b c x y z : Bool} {ms ns : List Number} {is js : List ℕ} → a ≡ x → b ≡ y → c ≡ z → ms ≡ ns → is ≡ js →
      Facts a b c ms is → Facts x y z ns js
  as_facts p q r n i f = record {
    is_well = sym p ∙ f.is_well;
    is_fit = sym q ∙ f.is_fit;
    is_formed = sym r ∙ f.is_formed;
    are_right = subst (λ z. Every g.Right z) n f.are_right;
    are_usable = subst (λ z. Every (CanUse g) z) i f.are_usable;
  }

  -- ---- the code of each kind of part

  abbrev of_statement_layer : Statement-F Done Choice Done → Done
  of_statement_layer = statement_code g.source g.captured (types w) w.parts.literals g.leaves

  abbrev of_arm_layer : Arm-F Done Choice Done → Choice
  of_arm_layer = choice_code g.source g.captured (types w) w.parts.literals g.leaves

  abbrev of_block_layer : Block-F Done Choice Done → Done
  of_block_layer = block_code g.source g.captured (types w) w.parts.literals g.leaves

  abbrev of_statement : Statement → Done
  of_statement = done_of g.source g.captured (types w) w.parts.literals g.leaves

  abbrev of_arm : Arm → Choice
  of_arm = fold-Arm Done Choice Done of_statement_layer of_arm_layer of_block_layer

  abbrev pub of_block : Block → Done
  of_block = block_of g.source g.captured (types w) w.parts.literals g.leaves

  -- ---- what is shown of each

  abbrev StatementFacts : Statement → Type 0
  StatementFacts x =
      Facts (is_well_statement g.site x) (of_statement x).fits (formed_statement count x) (in_statement x)
      (conditions_of_statement x)

  abbrev ArmFacts : Arm → Type 0
  ArmFacts x = Facts (is_well_arm g.site x) (of_arm x).fits (formed_arm count x) (in_arm x) (conditions_of_arm x)

  abbrev pub BlockFacts : Block → Type 0
  BlockFacts x = Facts (is_well_block g.site x) (of_block x).fits (formed_block count x) (in_block x)
      (conditions_of_block x)

  abbrev StatementIs : Statement → Type 0
  StatementIs x = StatementFacts x → IsFine w (of_statement x)

  abbrev ArmIs : Arm → Type 0
  ArmIs x = ArmFacts x → IsFineArm w (of_arm x)

  abbrev pub BlockIs : Block → Type 0
  BlockIs x = BlockFacts x → IsFine w (of_block x)

  abbrev StatementHeld : Type 0
  StatementHeld = (x : Statement) × StatementIs x

  abbrev ArmHeld : Type 0
  ArmHeld = (x : Arm) × ArmIs x

  abbrev BlockHeld : Type 0
  BlockHeld = (x : Block) × BlockIs x

  abbrev bare_s : StatementHeld → Statement
  bare_s x = x.0

  abbrev bare_a : ArmHeld → Arm
  bare_a x = x.0

  abbrev bare_b : BlockHeld → Block
  bare_b x = x.0

  abbrev bare_statement : Statement-F StatementHeld ArmHeld BlockHeld → Statement-F Statement Arm Block
  bare_statement = map-Statement StatementHeld ArmHeld BlockHeld Statement Arm Block bare_s bare_a bare_b

  abbrev bare_arm : Arm-F StatementHeld ArmHeld BlockHeld → Arm-F Statement Arm Block
  bare_arm = map-Arm StatementHeld ArmHeld BlockHeld Statement Arm Block bare_s bare_a bare_b

  abbrev bare_block : Block-F StatementHeld ArmHeld BlockHeld → Block-F Statement Arm Block
  bare_block = map-Block StatementHeld ArmHeld BlockHeld Statement Arm Block bare_s bare_a bare_b

  -- ---- one layer of what is known

  abbrev coded : Statement-F Statement Arm Block → Statement-F Done Choice Done
  coded = map-Statement Statement Arm Block Done Choice Done of_statement of_arm of_block

  abbrev LayerFacts : Statement-F Statement Arm Block → Type 0
  LayerFacts y =
      Facts
      (statement_is_well g.site
      (map-Statement Statement Arm Block Bool Bool Bool (is_well_statement g.site) (is_well_arm g.site) (is_well_block
      g.site) y))
      (of_statement_layer (coded y)).fits
      (statement_formed count
      (map-Statement Statement Arm Block Bool Bool Bool (formed_statement count) (formed_arm count) (formed_block count) y))
      (statement_numbers
      (map-Statement Statement Arm Block (List Number) (List Number) (List Number) in_statement in_arm in_block y))
      (statement_conditions
      (map-Statement Statement Arm Block (List ℕ) (List ℕ) (List ℕ) conditions_of_statement conditions_of_arm
      conditions_of_block y))

  layer_facts : (y : Statement-F Statement Arm Block) → StatementFacts (roll-Statement y) → LayerFacts y
  layer_facts y =
      as_facts
      (fold-roll-Statement Bool Bool Bool (statement_is_well g.site) (arm_is_well g.site) (block_is_well g.site) y)
      (ap (λ (d : Done). d.fits) (fold-roll-Statement Done Choice Done of_statement_layer of_arm_layer of_block_layer y))
      (fold-roll-Statement Bool Bool Bool (statement_formed count) (arm_formed count) (block_formed count) y)
      (fold-roll-Statement (List Number) (List Number) (List Number) statement_numbers arm_numbers block_numbers y)
      (fold-roll-Statement (List ℕ) (List ℕ) (List ℕ) statement_conditions arm_conditions block_conditions y)

  -- of an expression, where its own facts are
  judged : (x : Expression) → (type_of g x).is_well ≡ true → fits_here (code_of g x) ≡ true →
      formed_expression count x ≡ true →
      Every g.Right (in_expression x) → Judged g x
  judged x well fits formed numbers = record {
    well = well;
    fits = (both_true (code_of g x).gives (code_of g x).fits fits).1;
    formed = formed;
    numbers = numbers;
  }

  -- ---- lists of parts

  all_statements : (xs : List StatementHeld) →
      Facts (all_well g.site (map (is_well_statement g.site) (map bare_s xs))) (all_done (map of_statement (map bare_s xs)))
      (all_formed (map (formed_statement count) (map bare_s xs))) (joined (map in_statement (map bare_s xs)))
      (all_of (map conditions_of_statement (map bare_s xs))) →
      Every (IsFine w) (map of_statement (map bare_s xs))
  all_statements [] f = tt
  all_statements (x ∷ xs) f =
      let b = both_true (is_well_statement g.site x.0) _ f.is_well in
      let c = both_true (of_statement x.0).fits _ f.is_fit in
      let d = both_true (formed_statement count x.0) _ f.is_formed in (
        x.1
            (record {
              is_well = b.0;
              is_fit = c.0;
              is_formed = d.0;
              are_right = each_left g.Right (in_statement x.0) _ f.are_right;
              are_usable = each_left (CanUse g) (conditions_of_statement x.0) _ f.are_usable;
            }),
        all_statements xs
            (record {
              is_well = b.1;
              is_fit = c.1;
              is_formed = d.1;
              are_right = each_right g.Right (in_statement x.0) _ f.are_right;
              are_usable = each_right (CanUse g) (conditions_of_statement x.0) _ f.are_usable;
            }),
      )

  all_arms : (xs : List ArmHeld) →
      Facts (all_well g.site (map (is_well_arm g.site) (map bare_a xs))) (all_choices (map of_arm (map bare_a xs)))
      (all_formed (map (formed_arm count) (map bare_a xs))) (joined (map in_arm (map bare_a xs)))
      (all_of (map conditions_of_arm (map bare_a xs))) →
      Every (IsFineArm w) (map of_arm (map bare_a xs))
  all_arms [] f = tt
  all_arms (x ∷ xs) f =
      let b = both_true (is_well_arm g.site x.0) _ f.is_well in
      let c = both_true (of_arm x.0).fits _ f.is_fit in
      let d = both_true (formed_arm count x.0) _ f.is_formed in (
        x.1
            (record {
              is_well = b.0;
              is_fit = c.0;
              is_formed = d.0;
              are_right = each_left g.Right (in_arm x.0) _ f.are_right;
              are_usable = each_left (CanUse g) (conditions_of_arm x.0) _ f.are_usable;
            }),
        all_arms xs
            (record {
              is_well = b.1;
              is_fit = c.1;
              is_formed = d.1;
              are_right = each_right g.Right (in_arm x.0) _ f.are_right;
              are_usable = each_right (CanUse g) (conditions_of_arm x.0) _ f.are_usable;
            }),
      )

  -- ---- one layer

  stays_fine : {ops : List Op} → Piece w ops (frame w []) (Begins w) → (left : ℕ) →
      Piece w ops (frame w []) (Continues w left)
  stays_fine p left = wanting w p (λ rest c. c.0)

  stored_fine : (p : Place) (x : Expression) → goes_in_if g.site.table (type_at g.site p) (type_of g x) ≡ true →
      fits_here (code_of g x) ≡ true → formed_expression count x ≡ true → Every g.Right (in_expression x) →
      IsFine w (stored g.source g.captured (types w) w.parts.literals g.leaves p (code_of g x))
  stored_fine p x well fits formed numbers =
      stays_fine
      (stores g sound p x (judged x (well_in g (type_at g.site p) (type_of g x) well) fits formed numbers) well)

  -- a stop that takes two references
  two_fine : (x y : Expression) (action : Stop) →
      ((t u : StaticType) → FitsAs w t any → FitsAs w u any →
      FineStop w.declared w.parts w.number w.operation action (t ∷ u ∷ []) None) →
      are_references g.site x y ≡ true → all_fit (code_of g x ∷ code_of g y ∷ []) ≡ true →
      formed_expression count x && formed_expression count y ≡ true → Every g.Right (in_expression x ++ in_expression y) →
      IsFine w (stop_with g.source g.captured (types w) w.parts.literals g.leaves (x ∷ y ∷ []) action)
  two_fine x y action fine well fits formed numbers =
      let b = both_true (is_of wanted.Reference (type_of g x)) (is_of wanted.Reference (type_of g y)) well in
      let c = both_true (fits_here (code_of g x)) (fits_here (code_of g y) && true) fits in
      let d = both_true (fits_here (code_of g y)) true c.1 in
      let k = both_true (formed_expression count x) (formed_expression count y) formed in
      stays_fine
      (takes_two g sound x y
      (judged x (well_taken wanted.Reference (type_of g x) b.0) c.0 k.0 (each_left g.Right (in_expression x)
      (in_expression y) numbers))
      (judged y (well_taken wanted.Reference (type_of g y) b.1) d.0 k.1 (each_right g.Right (in_expression x)
      (in_expression y) numbers)) b.0 b.1 action fine)

  element_fine : (vector number x : Expression) (at : ℕ) →
      LayerFacts (Statement-F.SetElement vector number x at) →
      IsFine w
      (stop_with g.source g.captured (types w) w.parts.literals g.leaves (vector ∷ number ∷ x ∷ []) (stop.Set (line
      g.source at)))
  element_fine vector number x at f =
      let b = both_true (is_of wanted.Integer (type_of g number)) (goes_in_vector g.site (type_of g vector) (type_of g
      x)) f.is_well in
      let well = both_true (type_of g vector).is_well
      (goes_in_if g.site.table (option_and_then element_of (type_of g vector).of) (type_of g x)) b.1 in
      let c = both_true (fits_here (code_of g vector)) (fits_here (code_of g number) && (fits_here (code_of g x) &&
      true)) f.is_fit in
      let d = both_true (fits_here (code_of g number)) (fits_here (code_of g x) && true) c.1 in
      let e = both_true (fits_here (code_of g x)) true d.1 in
      let k = both_true (formed_expression count vector) (formed_expression count number && formed_expression count x)
      f.is_formed in
      let l = both_true (formed_expression count number) (formed_expression count x) k.1 in
      let more : Every g.Right (in_expression number ++ in_expression x) =
      each_right g.Right (in_expression vector) (in_expression number ++ in_expression x) f.are_right in
      stays_fine
      (sets_element g sound vector number x (line g.source at)
      (judged vector well.0 c.0 k.0
      (each_left g.Right (in_expression vector) (in_expression number ++ in_expression x) f.are_right))
      (judged number (well_taken wanted.Integer (type_of g number) b.0) d.0 l.0 (each_left g.Right (in_expression number)
      (in_expression x) more))
      (judged x (well_in g (option_and_then element_of (type_of g vector).of) (type_of g x) well.1) e.0 l.1
      (each_right g.Right (in_expression number) (in_expression x) more)) b.0 b.1)

  -- one expression, of a kind that is wanted
  one_judged : (k : Wanted) (x : Expression) → is_of k (type_of g x) ≡ true → fits_here (code_of g x) ≡ true →
      formed_expression count x ≡ true → Every g.Right (in_expression x) → Judged g x
  one_judged k x well fits formed numbers = judged x (well_taken k (type_of g x) well) fits formed numbers

  if_fine : (arms : List ArmHeld) (other : Option BlockHeld) → LayerFacts (bare_statement (Statement-F.If arms other)) →
      IsFine w (of_statement_layer (coded (bare_statement (Statement-F.If arms other))))
  if_fine arms None f =
      let b = both_true (all_well g.site (map (is_well_arm g.site) (map bare_a arms))) true f.is_well in
      let c = both_true (all_choices (map of_arm (map bare_a arms))) true f.is_fit in
      let d = both_true (all_formed (map (formed_arm count) (map bare_a arms))) true f.is_formed in
      let each : Every (IsFineArm w) (map of_arm (map bare_a arms)) =
      all_arms arms
      (record {
        is_well = b.0;
        is_fit = c.0;
        is_formed = d.0;
        are_right = each_left g.Right (joined (map in_arm (map bare_a arms))) [] f.are_right;
        are_usable = each_left (CanUse g) (all_of (map conditions_of_arm (map bare_a arms))) [] f.are_usable;
      }) in
      arms_fine g sound (map of_arm (map bare_a arms)) None each tt
  if_fine arms (Some o) f =
      let b = both_true (all_well g.site (map (is_well_arm g.site) (map bare_a arms))) (is_well_block g.site o.0)
      f.is_well in
      let c = both_true (all_choices (map of_arm (map bare_a arms))) (of_block o.0).fits f.is_fit in
      let d = both_true (all_formed (map (formed_arm count) (map bare_a arms))) (formed_block count o.0) f.is_formed in
      let ns : List Number = joined (map in_arm (map bare_a arms)) in
      let is : List ℕ = all_of (map conditions_of_arm (map bare_a arms)) in
      let each : Every (IsFineArm w) (map of_arm (map bare_a arms)) =
      all_arms arms
      (record {
        is_well = b.0;
        is_fit = c.0;
        is_formed = d.0;
        are_right = each_left g.Right ns (in_block o.0) f.are_right;
        are_usable = each_left (CanUse g) is (conditions_of_block o.0) f.are_usable;
      }) in
      arms_fine g sound (map of_arm (map bare_a arms)) (Some (of_block o.0)) each
      (o.1
      (record {
        is_well = b.1;
        is_fit = c.1;
        is_formed = d.1;
        are_right = each_right g.Right ns (in_block o.0) f.are_right;
        are_usable = each_right (CanUse g) is (conditions_of_block o.0) f.are_usable;
      }))

  layer : (y : Statement-F StatementHeld ArmHeld BlockHeld) → LayerFacts (bare_statement y) →
      IsFine w (of_statement_layer (coded (bare_statement y)))
  layer (Statement-F.Declare n None) f =
      stays_fine (declares g sound n (both_true (is_some (slice_get g.site.variables n)) true f.is_well).0)
  layer (Statement-F.Declare n (Some x)) f =
      let b = both_true (is_some (slice_get g.site.variables n))
      (goes_in_if g.site.table (slice_get g.site.variables n) (type_of g x)) f.is_well in
      stored_fine (place.Variable n) x b.1 f.is_fit f.is_formed f.are_right.1
  layer (Statement-F.Assign p x) f = stored_fine p x f.is_well f.is_fit f.is_formed f.are_right.1
  layer (Statement-F.SetElement vector number x at) f = element_fine vector number x at f
  layer (Statement-F.Drop x) f =
      stays_fine
      (drops g sound x (record { well = f.is_well; fits = f.is_fit; formed = f.is_formed; numbers = f.are_right }))
  layer (Statement-F.Print x) f =
      let c = both_true (fits_here (code_of g x)) true f.is_fit in
      stays_fine (prints g sound x (one_judged wanted.String x f.is_well c.0 f.is_formed f.are_right) f.is_well)
  layer (Statement-F.If arms other) f = if_fine arms other f
  layer (Statement-F.Loop b) f =
      stays_fine
      (loop_fine w (of_block b.0)
      (b.1
      (record {
        is_well = f.is_well;
        is_fit = f.is_fit;
        is_formed = f.is_formed;
        are_right = f.are_right;
        are_usable = f.are_usable;
      })))
  layer (Statement-F.Exit None) f = λ left. jumps g sound left
  layer (Statement-F.Exit (Some x)) f =
      λ left.
      exits_where g sound ((code_of g x).condition 0)
      (asked g sound x (one_judged wanted.Boolean x f.is_well f.is_fit f.is_formed f.are_right) f.is_well) left
  layer Statement-F.Return f = stays_fine sound.end
  layer (Statement-F.Assert x at) f =
      stays_fine
      (requires g sound ((code_of g x).condition 0)
      (asked g sound x (one_judged wanted.Boolean x f.is_well f.is_fit f.is_formed f.are_right) f.is_well) (line g.source
      at))
  layer (Statement-F.Move x y at) f =
      two_fine x y (stop.Move (line g.source at)) (λ t u a b. ((a, (b, tt)), refl)) f.is_well f.is_fit f.is_formed
      f.are_right
  layer (Statement-F.Fix x y at) f =
      two_fine x y (stop.Fix (line g.source at)) (λ t u a b. ((a, (b, tt)), refl)) f.is_well f.is_fit f.is_formed
      f.are_right
  layer (Statement-F.Refix x y at) f =
      two_fine x y (stop.Refix (line g.source at)) (λ t u a b. ((a, (b, tt)), refl)) f.is_well f.is_fit f.is_formed
      f.are_right
  layer (Statement-F.Unfix x at) f =
      let c = both_true (fits_here (code_of g x)) true f.is_fit in
      stays_fine
      (takes_one g sound x (one_judged wanted.Reference x f.is_well c.0 f.is_formed f.are_right) f.is_well
      (stop.Unfix (line g.source at)) (λ t a. ((a, tt), refl)))
  layer (Statement-F.Wait n) f = stays_fine (bare g sound (stop.Wait n) (f.are_usable.0, (tt, refl)))
  layer (Statement-F.Signal n) f = stays_fine (bare g sound (stop.Signal n) (f.are_usable.0, (tt, refl)))

  arm_layer : (y : Arm-F StatementHeld ArmHeld BlockHeld) →
      Facts (arm_is_well g.site (record { condition = y.condition; block = is_well_block g.site y.block.0 }))
      (of_arm_layer (record { condition = y.condition; block = of_block y.block.0 })).fits
      (arm_formed count (record { condition = y.condition; block = formed_block count y.block.0 }))
      (arm_numbers (record { condition = y.condition; block = in_block y.block.0 }))
      (arm_conditions (record { condition = y.condition; block = conditions_of_block y.block.0 })) →
      IsFineArm w (of_arm_layer (record { condition = y.condition; block = of_block y.block.0 }))
  arm_layer y f =
      let x : Expression = y.condition in
      let b = both_true (is_of wanted.Boolean (type_of g x)) (is_well_block g.site y.block.0) f.is_well in
      let c = both_true (fits_here (code_of g x)) (of_block y.block.0).fits f.is_fit in
      let d = both_true (formed_expression count x) (formed_block count y.block.0) f.is_formed in
      record {
        asked =
            asked g sound x
            (one_judged wanted.Boolean x b.0 c.0 d.0 (each_left g.Right (in_expression x) (in_block y.block.0)
            f.are_right)) b.0;
        block =
            y.block.1
            (record {
              is_well = b.1;
              is_fit = c.1;
              is_formed = d.1;
              are_right = each_right g.Right (in_expression x) (in_block y.block.0) f.are_right;
              are_usable = f.are_usable;
            });
      }

  block_layer : (y : Block-F StatementHeld ArmHeld BlockHeld) →
      Facts (all_well g.site (map (is_well_statement g.site) (map bare_s y.statements)))
      (all_done (map of_statement (map bare_s y.statements)))
      (all_formed (map (formed_statement count) (map bare_s y.statements))) (joined (map in_statement (map bare_s
      y.statements)))
      (all_of (map conditions_of_statement (map bare_s y.statements))) →
      IsFine w (of_block_layer (record { statements = map of_statement (map bare_s y.statements) }))
  block_layer y f = all_fine w (map of_statement (map bare_s y.statements)) (all_statements y.statements f)

  -- ---- the induction

  statement_from : (x : Statement-F Statement Arm Block) (y : Statement-F StatementHeld ArmHeld BlockHeld) →
      bare_statement y ≡ x →
      StatementIs (roll-Statement x)
  statement_from x y is =
      subst (λ z. StatementIs (roll-Statement z)) is
      (λ f.
      subst (λ d. IsFine w d)
      (sym (fold-roll-Statement Done Choice Done of_statement_layer of_arm_layer of_block_layer (bare_statement y)))
      (layer y (layer_facts (bare_statement y) f)))

  arm_from : (x : Arm-F Statement Arm Block) (y : Arm-F StatementHeld ArmHeld BlockHeld) → bare_arm y ≡ x →
      ArmIs (roll-Arm x)
  arm_from x y is =
      subst (λ z. ArmIs (roll-Arm z)) is
      (λ f.
      let z : Arm-F Statement Arm Block = bare_arm y in
      subst (λ c. IsFineArm w c) (sym (fold-roll-Arm Done Choice Done of_statement_layer of_arm_layer of_block_layer z))
      (arm_layer y
      (as_facts
      (fold-roll-Arm Bool Bool Bool (statement_is_well g.site) (arm_is_well g.site) (block_is_well g.site) z)
      (ap (λ (c : Choice). c.fits) (fold-roll-Arm Done Choice Done of_statement_layer of_arm_layer of_block_layer z))
      (fold-roll-Arm Bool Bool Bool (statement_formed count) (arm_formed count) (block_formed count) z)
      (fold-roll-Arm (List Number) (List Number) (List Number) statement_numbers arm_numbers block_numbers z)
      (fold-roll-Arm (List ℕ) (List ℕ) (List ℕ) statement_conditions arm_conditions block_conditions z) f)))

  block_from : (x : Block-F Statement Arm Block) (y : Block-F StatementHeld ArmHeld BlockHeld) → bare_block y ≡ x →
      BlockIs (roll-Block x)
  block_from x y is =
      subst (λ z. BlockIs (roll-Block z)) is
      (λ f.
      let z : Block-F Statement Arm Block = bare_block y in
      subst (λ d. IsFine w d) (sym (fold-roll-Block Done Choice Done of_statement_layer of_arm_layer of_block_layer z))
      (block_layer y
      (as_facts
      (fold-roll-Block Bool Bool Bool (statement_is_well g.site) (arm_is_well g.site) (block_is_well g.site) z)
      (ap (λ (d : Done). d.fits) (fold-roll-Block Done Choice Done of_statement_layer of_arm_layer of_block_layer z))
      (fold-roll-Block Bool Bool Bool (statement_formed count) (arm_formed count) (block_formed count) z)
      (fold-roll-Block (List Number) (List Number) (List Number) statement_numbers arm_numbers block_numbers z)
      (fold-roll-Block (List ℕ) (List ℕ) (List ℕ) statement_conditions arm_conditions block_conditions z) f)))

  pub block_fine : (b : Block) → BlockIs b
  block_fine = ind-Block StatementIs ArmIs BlockIs statement_from arm_from block_from
