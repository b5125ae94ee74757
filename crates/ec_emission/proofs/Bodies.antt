-- The code of a block does what it is to do, loops and returns among it.
use Rattle.std.proofs.Common.{◌≡◌, ℕ, suc, ◌+◌, ◌-◌, true, false, List, [], ◌∷◌, ◌++◌, map, length, Some, None, refl}
use Rattle.std.proofs.Common.{sym, ap, ◌∙◌, subst, arith, length-append}
use Rattle.std.specs.Prelude.{slice_get}
use Rattle.ec_code.specs.declared.code.Op.{Op}
use Rattle.ec_code.specs.declared.code.Op.TheVariants as op
use Rattle.ec_types.specs.declared.conform.static_type.StaticType.{StaticType}
use Rattle.ec_core.specs.declared.Arm.{Arm, roll-Arm, map-Arm, out-roll-Arm, fold-Arm, fold-roll-Arm}
use Rattle.ec_core.specs.declared.Block.{Block, roll-Block, map-Block, out-roll-Block, fold-roll-Block, ind-Block}
use Rattle.ec_core.specs.declared.Place.TheVariants as place
use Rattle.ec_core.specs.declared.Statement.{Statement, roll-Statement, map-Statement, out-roll-Statement, fold-roll-Statement}
use Rattle.ec_core.specs.declared.Statement.TheOpen.{Statement-F, Arm-F, Block-F}
use Rattle.ec_emission.proofs.Forms.{both_true}
use Rattle.ec_emission.proofs.Statements.{Does, Fine, FineArm, AllFine, AllArms, moved, stays_so, opens_so}
use Rattle.ec_emission.proofs.Statements.{given_turns}
use Rattle.ec_emission.proofs.Statements.{store_turns, stop_turns, dropped, asked, exits_where, requires, all_do, arms_do}
use Rattle.ec_emission.proofs.Turns.{Placed, placed_first, placed_second, Setting, Standing, Comes, Asked, whose, one}
use Rattle.ec_emission.specs.Expressions.{fits_here}
use Rattle.ec_emission.specs.Statements.{Done, Choice, all_choices, loop_code, statement_code, choice_code, block_code}
use Rattle.ec_emission.specs.Statements.{done_of}
use Rattle.ec_emission.specs.Statements.{block_of, value_of}
use Rattle.ec_meaning.specs.Meaning.{behind_loop}
use Rattle.ec_meaning.specs.Programs.{Source, line, operation_at}
use Rattle.ec_meaning.specs.Steps as meaning
use Rattle.ec_meaning.specs.Steps.{Goes, do_statement, block_items, default_if, types_if}
use Rattle.ec_meaning.specs.declared.item.Item.{Item}
use Rattle.ec_meaning.specs.declared.item.Item.TheVariants as i
use Rattle.ec_emission.specs.Stands as at
use Rattle.ec_world.specs.declared.stop.Stop.TheVariants as stop

-- The operation of this number is one of an object whose class captures so many names; its variables are of these types; these
-- are the program's literals; `leaves` is the code of its end; and this is its code.
module _ (s : Source) (number captured : ℕ) (types : List StaticType) (literals : List (List ℕ)) (leaves code : List Op) where
  abbrev pub body_of : Block → Done
  body_of = block_of s captured types literals leaves

  -- The code of a loop over b stands from its loop top up to the step that leads back.
  pub record IsLoop (top again : ℕ) (b : Block) : Type 0 where
    pub fits : (body_of b).fits ≡ true
    pub placed : Placed code (suc top) ((body_of b).code 1)
    pub again_is : again ≡ suc (top + length ((body_of b).code 1))
    pub leads : slice_get code again ≡ Some (op.Again (suc (length ((body_of b).code 1))))

  abbrev pub setting : Setting
  setting = record {
    source = s;
    number = number;
    captured = captured;
    count = length types;
    literals = literals;
    code = code;
    Loop = IsLoop;
  }

  -- ---- what is shown of each kind of part

  abbrev of_statement_layer : Statement-F Done Choice Done → Done
  of_statement_layer = statement_code s captured types literals leaves

  abbrev of_arm_layer : Arm-F Done Choice Done → Choice
  of_arm_layer = choice_code s captured types literals leaves

  abbrev of_block_layer : Block-F Done Choice Done → Done
  of_block_layer = block_code s captured types literals leaves

  abbrev of_statement : Statement → Done
  of_statement = done_of s captured types literals leaves

  abbrev of_arm : Arm → Choice
  of_arm = fold-Arm Done Choice Done of_statement_layer of_arm_layer of_block_layer

  abbrev StatementIs : Statement → Type 0
  StatementIs x = Fine setting (of_statement x) (i.Do x ∷ [])

  abbrev ArmIs : Arm → Type 0
  ArmIs x = FineArm setting (of_arm x) x

  abbrev pub BlockIs : Block → Type 0
  BlockIs x = Fine setting (body_of x) (block_items x)

  abbrev StatementHeld : Type 0
  StatementHeld = (x : Statement) × StatementIs x

  abbrev ArmHeld : Type 0
  ArmHeld = (x : Arm) × ArmIs x

  abbrev BlockHeld : Type 0
  BlockHeld = (x : Block) × BlockIs x

  abbrev bare_s : StatementHeld → Statement
  bare_s x = x.0

  abbrev bare_a : ArmHeld → Arm
  bare_a x = x.0

  abbrev bare_b : BlockHeld → Block
  bare_b x = x.0

  abbrev bare_statement : Statement-F StatementHeld ArmHeld BlockHeld → Statement-F Statement Arm Block
  bare_statement = map-Statement StatementHeld ArmHeld BlockHeld Statement Arm Block bare_s bare_a bare_b

  abbrev bare_arm : Arm-F StatementHeld ArmHeld BlockHeld → Arm-F Statement Arm Block
  bare_arm = map-Arm StatementHeld ArmHeld BlockHeld Statement Arm Block bare_s bare_a bare_b

  abbrev bare_block : Block-F StatementHeld ArmHeld BlockHeld → Block-F Statement Arm Block
  bare_block = map-Block StatementHeld ArmHeld BlockHeld Statement Arm Block bare_s bare_a bare_b

  abbrev coded : Statement-F Statement Arm Block → Statement-F Done Choice Done
  coded = map-Statement Statement Arm Block Done Choice Done of_statement of_arm body_of

  -- ---- lists of parts

  all_fine : (xs : List StatementHeld) → AllFine setting (map of_statement (map bare_s xs)) (map bare_s xs)
  all_fine [] = tt
  all_fine (x ∷ xs) = (x.1, all_fine xs)

  all_arms : (xs : List ArmHeld) → AllArms setting (map of_arm (map bare_a xs)) (map bare_a xs)
  all_arms [] = tt
  all_arms (x ∷ xs) = (x.1, all_arms xs)

  -- ---- loops

  loop_does : (b : Block) → BlockIs b → (body_of b).fits ≡ true → (x : Item) → Comes setting x (λ own st. Goes st (i.Again b ∷ [])) →
      Does setting (record { code = λ left. loop_code (body_of b); fits = (body_of b).fits; exits = false }) (x ∷ [])
  loop_does b t f x comes = record {
    go = λ left q r zs e p d k.
        let inner : List Op = (body_of b).code 1 in
        let back : List Op = op.Again (suc (length inner)) ∷ [] in
        let l : length (inner ++ back) ≡ length inner + 1 = length-append inner back in
        let m : ℕ = suc q + length inner in
        let there = placed_second code inner back (suc q) m refl p.1 in
        let body = placed_first code inner back (suc q) p.1 in
        let end : r ≡ suc m = omega arith in
        let end_too : r ≡ m + 1 = omega arith in
        let top : q ≡ m - suc (length inner) = omega arith in
        let at_end : m ≡ suc (q + length inner) = omega arith in
        let is : IsLoop q m b = record { fits = f; placed = body; again_is = at_end; leads = there.0 } in
        let over : Standing setting [] m (i.Again b ∷ zs) =
        at.again (suc (length inner)) there.0 (subst (λ j. IsLoop j m b) top is) (moved setting zs end d) in
        at.opens (i.Again b ∷ []) comes
        (at.enters p.0 ((t f).go 1 (suc q) m (i.Again b ∷ zs) refl body over (λ h. moved setting zs end_too d)));
  }

  do_comes_to : (x : Statement-F Statement Arm Block) →
      Comes setting (i.Do (roll-Statement x)) (λ own st. do_statement s (whose setting own) st x)
  do_comes_to x own st = ap (do_statement s (whose setting own) st) (out-roll-Statement x)

  -- ---- one layer

  abbrev pub TypesAre : Type 0
  TypesAre = types_if (operation_at s number) ≡ types

  -- The end of the operation stands wherever its code does.
  abbrev pub EndStands : Type 0
  EndStands = (q : ℕ) → Placed code q leaves → Standing setting [] q (i.Leave ∷ [])

  layer : TypesAre → EndStands → (y : Statement-F StatementHeld ArmHeld BlockHeld) →
      Fine setting (of_statement_layer (coded (bare_statement y))) (i.Do (roll-Statement (bare_statement y)) ∷ [])
  layer known end (Statement-F.Declare n None) f =
      stays_so _
      (given_turns types leaves refl n (default_if (slice_get types n)) f
      (λ own st.
      do_comes_to (Statement-F.Declare n None) own st
      ∙ ap (λ ts. Goes (meaning.stored s own st (place.Variable n) (default_if (slice_get ts n))) []) known))
  layer known end (Statement-F.Declare n (Some x)) f =
      stays_so _ (store_turns types leaves (place.Variable n) (do_comes_to (Statement-F.Declare n (Some x))) f)
  layer known end (Statement-F.Assign p x) f = stays_so _ (store_turns types leaves p (do_comes_to (Statement-F.Assign p x)) f)
  layer known end (Statement-F.SetElement x y z site) f =
      stays_so _ (stop_turns (x ∷ y ∷ z ∷ []) (stop.Set (line s site)) (do_comes_to (Statement-F.SetElement x y z site)) f)
  layer known end (Statement-F.Drop x) f = stays_so _ (dropped (do_comes_to (Statement-F.Drop x)) f)
  layer known end (Statement-F.Print x) f = stays_so _ (stop_turns (x ∷ []) stop.Print (do_comes_to (Statement-F.Print x)) f)
  layer known end (Statement-F.If arms None) f =
      let g = both_true (all_choices (map of_arm (map bare_a arms))) true f in
      opens_so (i.Choose (map bare_a arms) None ∷ []) (do_comes_to (Statement-F.If (map bare_a arms) None))
      (arms_do (map bare_a arms) None (map of_arm (map bare_a arms)) None (all_arms arms) tt g.0 refl)
  layer known end (Statement-F.If arms (Some b)) f =
      let g = both_true (all_choices (map of_arm (map bare_a arms))) (body_of b.0).fits f in
      opens_so (i.Choose (map bare_a arms) (Some b.0) ∷ []) (do_comes_to (Statement-F.If (map bare_a arms) (Some b.0)))
      (arms_do (map bare_a arms) (Some b.0) (map of_arm (map bare_a arms)) (Some (body_of b.0)) (all_arms arms) b.1 g.0 g.1)
  layer known end (Statement-F.Loop b) f = loop_does b.0 b.1 f _ (do_comes_to (Statement-F.Loop b.0))
  layer known end (Statement-F.Exit None) f = record {
    go = λ left q r zs e p d k.
        let g : r + left ≡ suc (q + left) = omega arith in
        at.breaks (do_comes_to (Statement-F.Exit None)) (at.jumps left p.0 (moved setting (behind_loop zs) g (k refl)));
  }
  layer known end (Statement-F.Exit (Some x)) f = exits_where _ (do_comes_to (Statement-F.Exit (Some x))) (asked f)
  layer known end Statement-F.Return f = record {
    go = λ left q r zs e p d k. at.returns (do_comes_to Statement-F.Return) (end q p);
  }
  layer known end (Statement-F.Assert x site) f = stays_so _ (requires site (do_comes_to (Statement-F.Assert x site)) (asked f))
  layer known end (Statement-F.Move x y site) f =
      stays_so _ (stop_turns (x ∷ y ∷ []) (stop.Move (line s site)) (do_comes_to (Statement-F.Move x y site)) f)
  layer known end (Statement-F.Fix x y site) f =
      stays_so _ (stop_turns (x ∷ y ∷ []) (stop.Fix (line s site)) (do_comes_to (Statement-F.Fix x y site)) f)
  layer known end (Statement-F.Refix x y site) f =
      stays_so _ (stop_turns (x ∷ y ∷ []) (stop.Refix (line s site)) (do_comes_to (Statement-F.Refix x y site)) f)
  layer known end (Statement-F.Unfix x site) f =
      stays_so _ (stop_turns (x ∷ []) (stop.Unfix (line s site)) (do_comes_to (Statement-F.Unfix x site)) f)
  layer known end (Statement-F.Wait n) f = stays_so _ (one (λ q zs is d. at.waits (do_comes_to (Statement-F.Wait n)) is d))
  layer known end (Statement-F.Signal n) f = stays_so _ (one (λ q zs is d. at.waits (do_comes_to (Statement-F.Signal n)) is d))

  arm_layer : (y : Arm-F StatementHeld ArmHeld BlockHeld) →
      FineArm setting (of_arm_layer (record { condition = y.condition; block = body_of y.block.0 })) (roll-Arm (bare_arm y))
  arm_layer y f =
      let x = value_of s captured types literals leaves y.condition in
      let g = both_true (fits_here x) (body_of y.block.0).fits f in
      let out = sym (out-roll-Arm (bare_arm y)) in
      record {
        asked = subst (λ (a : Arm-F Statement Arm Block). Asked setting (x.condition 0) [] (i.Evaluate a.condition ∷ [])) out (asked g.0);
        block = subst (λ (a : Arm-F Statement Arm Block). Does setting (body_of y.block.0) (block_items a.block)) out (y.block.1 g.1);
      }

  block_layer : (y : Block-F StatementHeld ArmHeld BlockHeld) →
      Fine setting (of_block_layer (record { statements = map of_statement (map bare_s y.statements) }))
      (block_items (roll-Block (bare_block y)))
  block_layer y f =
      let xs : List Statement = map bare_s y.statements in
      subst
      (λ (b : Block-F Statement Arm Block).
      Does setting (of_block_layer (record { statements = map of_statement xs })) (map i.Do b.statements))
      (sym (out-roll-Block (bare_block y))) (all_do xs (map of_statement xs) (all_fine y.statements) f)

  -- ---- the induction

  statement_from : TypesAre → EndStands → (x : Statement-F Statement Arm Block) (y : Statement-F StatementHeld ArmHeld BlockHeld) →
      bare_statement y ≡ x → StatementIs (roll-Statement x)
  statement_from known end x y is =
      subst (λ z. StatementIs (roll-Statement z)) is
      (subst (λ c. Fine setting c (i.Do (roll-Statement (bare_statement y)) ∷ []))
      (sym (fold-roll-Statement Done Choice Done of_statement_layer of_arm_layer of_block_layer (bare_statement y)))
      (layer known end y))

  arm_from : (x : Arm-F Statement Arm Block) (y : Arm-F StatementHeld ArmHeld BlockHeld) → bare_arm y ≡ x → ArmIs (roll-Arm x)
  arm_from x y is =
      subst (λ z. ArmIs (roll-Arm z)) is
      (subst (λ c. FineArm setting c (roll-Arm (bare_arm y)))
      (sym (fold-roll-Arm Done Choice Done of_statement_layer of_arm_layer of_block_layer (bare_arm y))) (arm_layer y))

  block_from : (x : Block-F Statement Arm Block) (y : Block-F StatementHeld ArmHeld BlockHeld) → bare_block y ≡ x →
      BlockIs (roll-Block x)
  block_from x y is =
      subst (λ z. BlockIs (roll-Block z)) is
      (subst (λ c. Fine setting c (block_items (roll-Block (bare_block y))))
      (sym (fold-roll-Block Done Choice Done of_statement_layer of_arm_layer of_block_layer (bare_block y))) (block_layer y))

  -- Where a block fits, its code does what it is to do.
  pub block_is : TypesAre → EndStands → (b : Block) → BlockIs b
  block_is known end = ind-Block StatementIs ArmIs BlockIs (statement_from known end) arm_from block_from

  -- behind a loop top, and behind the step that leads back to it
  pub loop_stands : TypesAre → EndStands → (top again : ℕ) (b : Block) (xs : List Item) → IsLoop top again b →
      Standing setting [] (suc again) xs → Standing setting [] (suc top) (block_items b ++ i.Again b ∷ xs)
  loop_stands known end top again b xs is d =
      let inner : List Op = (body_of b).code 1 in
      let e : again ≡ suc top + length inner = omega (arith, is.again_is) in
      let g : suc again ≡ again + 1 = omega arith in
      let top_is : top ≡ again - suc (length inner) = omega (arith, is.again_is) in
      let over : Standing setting [] again (i.Again b ∷ xs) =
      at.again (suc (length inner)) is.leads (subst (λ j. IsLoop j again b) top_is is) d in
      (block_is known end b is.fits).go 1 (suc top) again (i.Again b ∷ xs) e is.placed over (λ h. moved setting xs g d)
