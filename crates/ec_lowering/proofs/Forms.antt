-- The code of statements and blocks, by their forms.
use Rattle.std.proofs.Common.{◌≡◌, ℕ, suc, ◌+◌, ◌-◌, ◌<◌, true, false, List, [], ◌∷◌, ◌++◌, drop, get_or, length, map}
use Rattle.std.proofs.Common.{Option, Some, None}
use Rattle.std.proofs.Common.{refl, sym, ap, ap₂, ◌∙◌, append_assoc, arith, drop-cons, length-append, option_map}
use Rattle.std.specs.Prelude.{slice_get}
use Rattle.ec_code.specs.declared.code.Op.{Op}
use Rattle.ec_code.specs.declared.code.Op.TheVariants as op
use Rattle.ec_code.specs.declared.code.Operand.{Operand}
use Rattle.ec_core.specs.declared.Arm.{Arm, roll-Arm, out-Arm, roll-out-Arm, map-Arm, fold-roll-Arm}
use Rattle.ec_core.specs.declared.Block.{Block, roll-Block, out-Block, roll-out-Block, map-Block, fold-roll-Block}
use Rattle.ec_core.specs.declared.Place.{Place}
use Rattle.ec_core.specs.declared.Place.TheVariants as place
use Rattle.ec_core.specs.declared.Statement.{Statement, roll-Statement, out-Statement, roll-out-Statement, map-Statement}
use Rattle.ec_core.specs.declared.Statement.{fold-roll-Statement, out-roll-Statement}
use Rattle.ec_core.specs.declared.Statement.TheOpen.{Statement-F, Arm-F, Block-F}
use Rattle.ec_core.specs.declared.Statement.TheVariants as s
use Rattle.ec_emission.specs.Statements.{Done, Choice, statement_code, choice_code, block_code, arms_code, arm_code, store}
use Rattle.ec_emission.specs.Statements.{given}
use Rattle.ec_emission.specs.Expressions.{Condition, operand_of}
use Rattle.ec_emission.specs.Statements.{jump_over, unless, where_it_holds}
use Rattle.ec_expressions.proofs.Whole.{came}
use Rattle.ec_lowering.specs.Blocks.{done_by, choice_by, block_by, store_by, given_by, arm_over, arms_over, other_over}
use Rattle.ec_lowering.specs.Blocks.{statement_in}
use Rattle.ec_lowering.specs.Blocks.{statements_by, decided_by}
use Rattle.ec_expressions.specs.Emitting.{source_by, emitted_by, left_code}
use Rattle.ec_expressions.specs.declared.emitter.Emitter.{Emitter}
use Rattle.ec_meaning.specs.Programs.{line}
use Rattle.ec_meaning.specs.Steps.{default_if}
use Rattle.ec_emission.specs.Rows.{fail_row}
use Rattle.ec_world.specs.declared.process.Cause.TheVariants as cause
use Rattle.ec_world.specs.declared.value.Value.{Value}
use Rattle.ec_world.specs.declared.value.Value.TheVariants as value

-- an item, and those behind it
pub from_item : {A : Type 0} (xs : List A) (n k : ℕ) (x : A) → k ≡ n + 1 → n < length xs → x ≡ get_or xs n x →
    drop n xs ≡ x ∷ drop k xs
from_item xs n k x next within is =
    let more : suc n ≡ k = omega arith in drop-cons xs n x within ∙ ap₂ (λ y j. y ∷ drop j xs) (sym is) more

abbrev AStatement : Type 0
AStatement = Statement-F Statement Arm Block

module _ (m : Emitter) (leaves : List Op) where
  abbrev of_statement : Statement-F Done Choice Done → Done
  of_statement = statement_code (source_by m) m.captured m.types.now m.literals.now leaves

  abbrev of_arm : Arm-F Done Choice Done → Choice
  of_arm = choice_code (source_by m) m.captured m.types.now m.literals.now leaves

  abbrev of_block : Block-F Done Choice Done → Done
  of_block = block_code (source_by m) m.captured m.types.now m.literals.now leaves

  abbrev layer : AStatement → Statement-F Done Choice Done
  layer = map-Statement Statement Arm Block Done Choice Done (done_by m leaves) (choice_by m leaves) (block_by m leaves)

  abbrev arm_layer : Arm-F Statement Arm Block → Arm-F Done Choice Done
  arm_layer = map-Arm Statement Arm Block Done Choice Done (done_by m leaves) (choice_by m leaves) (block_by m leaves)

  abbrev block_layer : Block-F Statement Arm Block → Block-F Done Choice Done
  block_layer = map-Block Statement Arm Block Done Choice Done (done_by m leaves) (choice_by m leaves) (block_by m leaves)

  statement_rolled : (y : AStatement) → done_by m leaves (roll-Statement y) ≡ of_statement (layer y)
  unfolding done_by choice_by block_by
  statement_rolled y = fold-roll-Statement Done Choice Done of_statement of_arm of_block y

  arm_rolled : (y : Arm-F Statement Arm Block) → choice_by m leaves (roll-Arm y) ≡ of_arm (arm_layer y)
  unfolding done_by choice_by block_by
  arm_rolled y = fold-roll-Arm Done Choice Done of_statement of_arm of_block y

  block_rolled : (y : Block-F Statement Arm Block) → block_by m leaves (roll-Block y) ≡ of_block (block_layer y)
  unfolding done_by choice_by block_by
  block_rolled y = fold-roll-Block Done Choice Done of_statement of_arm of_block y

  statement_is : (x : Statement) → done_by m leaves x ≡ of_statement (layer (out-Statement x))
  statement_is x = ap (done_by m leaves) (sym (roll-out-Statement x)) ∙ statement_rolled (out-Statement x)

  arm_is : (x : Arm) → choice_by m leaves x ≡ of_arm (arm_layer (out-Arm x))
  arm_is x = ap (choice_by m leaves) (sym (roll-out-Arm x)) ∙ arm_rolled (out-Arm x)

  block_is : (x : Block) → block_by m leaves x ≡ of_block (block_layer (out-Block x))
  block_is x = ap (block_by m leaves) (sym (roll-out-Block x)) ∙ block_rolled (out-Block x)

  -- ---- what goes into a variable, whatever the end of the operation

  same_store : (p : Place) (from : Operand) →
      store (source_by m) m.captured m.types.now m.literals.now leaves p from ≡ store_by m p from
  same_store (place.Variable n) from = refl
  same_store (place.Field n) from = refl
  same_store (place.Captured n) from = refl
  same_store (place.Constant n) from = refl

  pub same_given : (n : ℕ) (v : Value) →
      given (source_by m) m.captured m.types.now m.literals.now leaves n v ≡ given_by m n v
  same_given n (value.Int z) = refl
  same_given n (value.Bool b) = refl
  same_given n (value.Str text) = refl
  same_given n value.Nil = refl
  same_given n (value.Ref oid) = refl

  -- ---- arms

  abbrev other_done : Option Block → Option Done
  other_done other = option_map (block_by m leaves) other

  one_arm : (a : Arm) (rest : List Op) (left : ℕ) →
      arm_code (choice_by m leaves a) rest left ≡ arm_over m leaves a (length rest) left ++ rest
  unfolding emitted_by
  one_arm a rest left =
      let over : List Op = jump_over (length rest) in
      let block : List Op = (block_by m leaves (out-Arm a).block).code (length over + (length rest + left)) in
      let c : Condition = (emitted_by m (out-Arm a).condition).condition 0 in
      let u : Op = unless c (length block + length over) in
      ap (λ (k : Choice). arm_code k rest left) (arm_is a)
      ∙ ap (λ xs. c.code ++ u ∷ xs) (sym (append_assoc block over rest))
      ∙ sym (append_assoc c.code (u ∷ []) ((block ++ over) ++ rest))
      ∙ sym (append_assoc (c.code ++ u ∷ []) (block ++ over) rest)

  -- with the arms behind it and what is behind these
  further_arm : (a : Arm) (rest behind : List Op) (left : ℕ) →
      arm_over m leaves a (length (rest ++ behind)) left ++ (rest ++ behind)
      ≡ (arm_over m leaves a (length rest + length behind) left ++ rest) ++ behind
  further_arm a rest behind left =
      ap (λ k. arm_over m leaves a k left ++ (rest ++ behind)) (length-append rest behind)
      ∙ sym (append_assoc (arm_over m leaves a (length rest + length behind) left) rest behind)

  all_arms : (arms : List Arm) (other : Option Block) (left : ℕ) →
      arms_code (map (choice_by m leaves) arms) (other_done other) left
      ≡ arms_over m leaves arms (length (other_over m leaves other left)) left ++ other_over m leaves other left
  all_arms [] None left = refl
  all_arms [] (Some b) left = refl
  all_arms (a ∷ arms) other left =
      let behind : List Op = other_over m leaves other left in
      let rest : List Op = arms_over m leaves arms (length behind) left in
      ap (λ xs. arm_code (choice_by m leaves a) xs left) (all_arms arms other left)
      ∙ one_arm a (rest ++ behind) left
      ∙ further_arm a rest behind left

  -- ---- by the form

  statement_at_layer : (y : AStatement) (left : ℕ) → (of_statement (layer y)).code left ≡ statement_in m leaves y left
  unfolding emitted_by
  statement_at_layer (Statement-F.Declare n None) left = same_given n (default_if (slice_get m.types.now n))
  statement_at_layer (Statement-F.Declare n (Some x)) left = refl
  statement_at_layer (Statement-F.Assign p x) left =
      ap (λ xs. left_code (emitted_by m x) true 0 ++ xs) (same_store p (operand_of (emitted_by m x) 0))
  statement_at_layer (Statement-F.SetElement vector number x at) left = refl
  statement_at_layer (Statement-F.Drop x) left = refl
  statement_at_layer (Statement-F.Print x) left = refl
  statement_at_layer (Statement-F.If arms None) left = all_arms arms None left
  statement_at_layer (Statement-F.If arms (Some b)) left = all_arms arms (Some b) left
  statement_at_layer (Statement-F.Loop body) left = refl
  statement_at_layer (Statement-F.Exit None) left = refl
  statement_at_layer (Statement-F.Exit (Some x)) left = refl
  statement_at_layer Statement-F.Return left = refl
  statement_at_layer (Statement-F.Assert x at) left =
      let c : Condition = (emitted_by m x).condition 0 in
      sym
      (append_assoc c.code (where_it_holds c 1 ∷ []) (op.Rest (fail_row cause.FalseAssertion (line (source_by m) at)) ∷ []))
  statement_at_layer (Statement-F.Move x to at) left = refl
  statement_at_layer (Statement-F.Fix x to at) left = refl
  statement_at_layer (Statement-F.Refix x to at) left = refl
  statement_at_layer (Statement-F.Unfix x at) left = refl
  statement_at_layer (Statement-F.Wait n) left = refl
  statement_at_layer (Statement-F.Signal n) left = refl

  pub done_of : (x : Statement) (left : ℕ) → (done_by m leaves x).code left ≡ statement_in m leaves (out-Statement x) left
  done_of x left = ap (λ (d : Done). d.code left) (statement_is x) ∙ statement_at_layer (out-Statement x) left

  -- a statement with arms
  pub choice_is : (x : Statement) (xs arms : List Arm) (other : Option Block) (left : ℕ) → x ≡ s.If arms other → xs ≡ arms →
      arms_over m leaves xs (length (other_over m leaves other left)) left ++ other_over m leaves other left
      ≡ statement_in m leaves (out-Statement x) left
  choice_is x xs arms other left e f =
      let y : AStatement = Statement-F.If arms other in
      let is : out-Statement x ≡ y = ap out-Statement (e ∙ sym (s.rolls-If arms other)) ∙ out-roll-Statement y in
      ap (λ zs. arms_over m leaves zs (length (other_over m leaves other left)) left ++ other_over m leaves other left) f
      ∙ ap (λ (z : AStatement). statement_in m leaves z left) (sym is)

  pub block_of : (x : Block) (left : ℕ) →
      (block_by m leaves x).code left ≡ statements_by m leaves (out-Block x).statements left
  block_of x left = ap (λ (d : Done). d.code left) (block_is x)

  -- ---- from their ends on: `end` is how many steps there were, and `more` how many came since

  -- one more statement before others
  pub one_statement : (x : Statement) (xs : List Statement) (left end more further : ℕ) (old mid new : List Op) →
      end ≡ length old → more ≡ length mid - end → further ≡ left + more → mid ≡ statements_by m leaves xs left ++ old →
      new ≡ (done_by m leaves x).code further ++ mid → new ≡ statements_by m leaves (x ∷ xs) left ++ old
  one_statement x xs left end more further old mid new h k l e f =
      let rest : List Op = statements_by m leaves xs left in
      let c : length mid - length old ≡ length rest = came rest old mid e in
      let d : further ≡ length rest + left = omega arith in
      f
      ∙ ap₂ (λ j ys. (done_by m leaves x).code j ++ ys) d e
      ∙ sym (append_assoc ((done_by m leaves x).code (length rest + left)) rest old)

  -- one more arm before others
  pub one_more_arm : (a : Arm) (arms : List Arm) (passed left end more behind : ℕ) (old mid new : List Op) →
      end ≡ length old → more ≡ length mid - end → behind ≡ passed + more →
      mid ≡ arms_over m leaves arms passed left ++ old →
      new ≡ arm_over m leaves a behind left ++ mid → new ≡ arms_over m leaves (a ∷ arms) passed left ++ old
  one_more_arm a arms passed left end more behind old mid new h k l e f =
      let rest : List Op = arms_over m leaves arms passed left in
      let c : length mid - length old ≡ length rest = came rest old mid e in
      let d : behind ≡ length rest + passed = omega arith in
      f
      ∙ ap₂ (λ j ys. arm_over m leaves a j left ++ ys) d e
      ∙ sym (append_assoc (arm_over m leaves a (length rest + passed) left) rest old)

  -- the code of one arm
  pub arm_made : (a : Arm) (passed left end more around further steps : ℕ) (old jumped blocked new : List Op) →
      end ≡ length old → jumped ≡ jump_over passed ++ old → around ≡ passed + left → more ≡ length jumped - end →
      further ≡ around + more → blocked ≡ (block_by m leaves (out-Arm a).block).code further ++ jumped →
      steps ≡ length blocked - end → new ≡ decided_by m false (out-Arm a).condition steps ++ blocked →
      new ≡ arm_over m leaves a passed left ++ old
  arm_made a passed left end more around further steps old jumped blocked new h e i k l f j g =
      let over : List Op = jump_over passed in
      let c : length jumped - length old ≡ length over = came over old jumped e in
      let d : further ≡ length over + (passed + left) = omega arith in
      let block : List Op = (block_by m leaves (out-Arm a).block).code (length over + (passed + left)) in
      let made : blocked ≡ (block ++ over) ++ old =
      f ∙ ap₂ (λ q ys. (block_by m leaves (out-Arm a).block).code q ++ ys) d e ∙ sym (append_assoc block over old) in
      let b : length blocked - length old ≡ length (block ++ over) = came (block ++ over) old blocked made in
      let n : length (block ++ over) ≡ length block + length over = length-append block over in
      let s : steps ≡ length block + length over = omega arith in
      g
      ∙ ap₂ (λ q ys. decided_by m false (out-Arm a).condition q ++ ys) s made
      ∙ sym (append_assoc (decided_by m false (out-Arm a).condition (length block + length over)) (block ++ over) old)

  -- the code of all arms, and of what runs where none does
  pub arms_made : (arms : List Arm) (other : Option Block) (left end passed : ℕ) (old mid new : List Op) →
      end ≡ length old → mid ≡ other_over m leaves other left ++ old → passed ≡ length mid - end →
      new ≡ arms_over m leaves arms passed left ++ mid →
      new
      ≡ (arms_over m leaves arms (length (other_over m leaves other left)) left ++ other_over m leaves other left) ++ old
  arms_made arms other left end passed old mid new h e k f =
      let behind : List Op = other_over m leaves other left in
      let c : length mid - length old ≡ length behind = came behind old mid e in
      let d : passed ≡ length behind = omega arith in
      f
      ∙ ap₂ (λ j ys. arms_over m leaves arms j left ++ ys) d e
      ∙ sym (append_assoc (arms_over m leaves arms (length behind) left) behind old)
