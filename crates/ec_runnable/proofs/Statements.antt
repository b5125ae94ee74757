-- The code of each statement that fits leads from where no temporary is in use to there: one induction over statements.
use Rattle.std.proofs.Common.{◌≡◌, ℕ, ◌+◌, Bool, true, List, [], ◌∷◌, length, map}
use Rattle.std.proofs.Common.{Option, Some, None, slice_get, refl, sym, subst}
use Rattle.std.proofs.lemmas.Bool.{and_parts}
use Rattle.ec_code.specs.declared.code.Op.{Op}
use Rattle.ec_code.specs.declared.code.Op.TheVariants as op
use Rattle.ec_code.specs.declared.code.Operand.{Operand}
use Rattle.ec_code.specs.declared.code.Variable.TheVariants as variable
use Rattle.ec_types.specs.declared.conform.static_type.StaticType.{StaticType}
use Rattle.ec_core.specs.declared.Arm.{Arm, roll-Arm, map-Arm, fold-Arm, fold-roll-Arm}
use Rattle.ec_core.specs.declared.Block.{Block, roll-Block, map-Block, fold-roll-Block, ind-Block}
use Rattle.ec_core.specs.declared.Expression.{Expression}
use Rattle.ec_core.specs.declared.Place.{Place}
use Rattle.ec_core.specs.declared.Place.TheVariants as place
use Rattle.ec_core.specs.declared.Statement.{Statement, roll-Statement, map-Statement, fold-roll-Statement}
use Rattle.ec_core.specs.declared.Statement.TheOpen.{Statement-F, Arm-F, Block-F}
use Rattle.ec_emission.specs.Expressions.{Condition, Emitted, all_code, all_fit, fits_here, operand_code, operand_of}
use Rattle.ec_core.specs.Literals.{Texts}
use Rattle.ec_emission.specs.Statements.{Choice, Done, all_choices, all_done, arms_code, block_code, block_of, choice_code}
use Rattle.ec_emission.specs.Statements.{done_of, given, in_order, statement_code}
use Rattle.ec_emission.specs.Statements.{stop_with, store, stored, value_of, where_it_holds}
use Rattle.ec_runnable.proofs.Expressions.{is_clean}
use Rattle.ec_runnable.proofs.Stops.{above, bare_rests, rests}
use Rattle.ec_runnable.proofs.Uses.{AreHeld, Leads}
use Rattle.ec_runnable.proofs.Uses.{lead, less}
use Rattle.ec_runnable.proofs.Uses.{nothing, step, temporaries_in}
use Rattle.ec_runnable.proofs.Values.{IsClean, alone, value}
use Rattle.ec_code.specs.Live.{read_in}
use Rattle.ec_meaning.specs.Programs.{Source, line}
use Rattle.ec_meaning.specs.Steps.{default_if}
use Rattle.ec_emission.specs.Rows.{fail_row}
use Rattle.ec_world.specs.declared.process.Cause.TheVariants as cause
use Rattle.ec_world.specs.declared.stop.Stop.{Stop}
use Rattle.ec_world.specs.declared.stop.Stop.TheVariants as stop
use Rattle.ec_world.specs.declared.value.Value.{Value}
use Rattle.ec_world.specs.declared.value.Value.TheVariants as value
use Rattle.ec_runnable.proofs.Exits.{Exits, Fits, FitsArm, arm_exits, conditional_exits, exits_where, forgets, goes_on, loop_exits}
use Rattle.ec_runnable.proofs.Exits.{straight, tests, writes_none}

-- The code is of an operation with variables of these types, of objects whose class captures so many names; `leaves` is the code of
-- its end.
module _ (s : Source) (captured : ℕ) (types : List StaticType) (literals : Texts) (leaves : List Op) (ends : Leads leaves [] []) where
  abbrev code_of : Expression → Emitted
  code_of x = value_of s captured types literals leaves x

  clean : (x : Expression) → IsClean (value_of s captured types literals leaves x)
  clean x = is_clean s captured (length types) literals x

  -- ---- forms of statements

  stores : (ks : List Bool) (p : Place) (from : Operand) → AreHeld ks (temporaries_in (read_in from)) →
      Leads (store s captured types literals leaves p from) ks []
  stores ks (place.Variable n) from read = writes_none ks (op.Copy (variable.Named n) from) read (λ uss. refl) (λ all place uss. tt)
  stores ks (place.Field n) from read = writes_none ks (op.SetField (captured + n) from) read (λ uss. refl) (λ all place uss. tt)
  stores ks (place.Captured n) from read = forgets ks
  stores ks (place.Constant n) from read = forgets ks

  stored_fits : (p : Place) (x : Expression) → Fits (stored s captured types literals leaves p (code_of x))
  stored_fits p x = record {
    code = λ e left.
        let a = alone [] [] (λ d n. n) (code_of x) (value (code_of x) (clean x) e []) in
        straight left (lead (operand_code (code_of x) 0) _ a.code (stores a.to p (operand_of (code_of x) 0) a.held));
  }

  pub given_leads : (n : ℕ) (v : Value) → Leads (given s captured types literals leaves n v) [] []
  given_leads n (value.Int z) = writes_none [] _ tt (λ uss. refl) (λ all place uss. tt)
  given_leads n (value.Bool b) = writes_none [] _ tt (λ uss. refl) (λ all place uss. tt)
  given_leads n (value.Str text) = writes_none [] _ tt (λ uss. refl) (λ all place uss. tt)
  given_leads n value.Nil = writes_none [] _ tt (λ uss. refl) (λ all place uss. tt)
  given_leads n (value.Ref oid) = writes_none [] _ tt (λ uss. refl) (λ all place uss. tt)

  values_lead : (xs : List Expression) → all_fit (map code_of xs) ≡ true → (hs : List Bool) →
      Leads (all_code (map code_of xs) (length hs)) hs (above hs (length xs))
  values_lead [] e hs = nothing
  values_lead (x ∷ xs) e hs =
      let p = and_parts (fits_here (code_of x)) (all_fit (map code_of xs)) e in
      lead ((code_of x).code (length hs)) _ (value (code_of x) (clean x) p.0 hs) (values_lead xs p.1 (true ∷ hs))

  stop_fits : (xs : List Expression) (action : Stop) → Fits (stop_with s captured types literals leaves xs action)
  stop_fits xs action = record {
    code = λ e left.
        straight left
        (lead (all_code (map code_of xs) 0) _ (values_lead xs e [])
        (less _ (above [] (length xs)) [] (λ d n. n) (λ d n. absurd n) (rests [] action (length xs) None)));
  }

  -- ---- the induction

  abbrev of_layer : Statement-F Done Choice Done → Done
  of_layer = statement_code s captured types literals leaves

  abbrev of_arm_layer : Arm-F Done Choice Done → Choice
  of_arm_layer = choice_code s captured types literals leaves

  abbrev of_block_layer : Block-F Done Choice Done → Done
  of_block_layer = block_code s captured types literals leaves

  abbrev of_statement : Statement → Done
  of_statement = done_of s captured types literals leaves

  abbrev of_arm : Arm → Choice
  of_arm = fold-Arm Done Choice Done of_layer of_arm_layer of_block_layer

  abbrev of_block : Block → Done
  of_block = block_of s captured types literals leaves

  abbrev StatementHeld : Type 0
  StatementHeld = (x : Statement) × Fits (of_statement x)

  abbrev ArmHeld : Type 0
  ArmHeld = (x : Arm) × FitsArm (of_arm x)

  abbrev BlockHeld : Type 0
  BlockHeld = (x : Block) × Fits (of_block x)

  abbrev bare_s : StatementHeld → Statement
  bare_s x = x.0

  abbrev bare_a : ArmHeld → Arm
  bare_a x = x.0

  abbrev bare_b : BlockHeld → Block
  bare_b x = x.0

  abbrev Layer : Type 0
  Layer = Statement-F StatementHeld ArmHeld BlockHeld

  abbrev bare_statement : Layer → Statement-F Statement Arm Block
  bare_statement = map-Statement StatementHeld ArmHeld BlockHeld Statement Arm Block bare_s bare_a bare_b

  abbrev bare_arm : Arm-F StatementHeld ArmHeld BlockHeld → Arm-F Statement Arm Block
  bare_arm = map-Arm StatementHeld ArmHeld BlockHeld Statement Arm Block bare_s bare_a bare_b

  abbrev bare_block : Block-F StatementHeld ArmHeld BlockHeld → Block-F Statement Arm Block
  bare_block = map-Block StatementHeld ArmHeld BlockHeld Statement Arm Block bare_s bare_a bare_b

  abbrev coded : Statement-F Statement Arm Block → Statement-F Done Choice Done
  coded = map-Statement Statement Arm Block Done Choice Done of_statement of_arm of_block

  abbrev all_of : List StatementHeld → List Done
  all_of xs = map of_statement (map bare_s xs)

  abbrev arms_of : List ArmHeld → List Choice
  arms_of xs = map of_arm (map bare_a xs)

  statements_exit : (xs : List StatementHeld) → all_done (all_of xs) ≡ true → (left : ℕ) → Exits left (in_order (all_of xs) left)
  statements_exit [] e left = straight left nothing
  statements_exit (x ∷ xs) e left =
      let p = and_parts (of_statement x.0).fits (all_done (all_of xs)) e in
      let rest : List Op = in_order (all_of xs) left in
      goes_on left ((of_statement x.0).code (length rest + left)) rest (x.1.code p.0 (length rest + left)) (statements_exit xs p.1 left)

  arms_exit : (xs : List ArmHeld) (other : Option Done) → all_choices (arms_of xs) ≡ true → (left : ℕ) →
      Exits left (arms_code [] other left) → Exits left (arms_code (arms_of xs) other left)
  arms_exit [] other e left k = k
  arms_exit (x ∷ xs) other e left k =
      let p = and_parts (of_arm x.0).fits (all_choices (arms_of xs)) e in
      arm_exits (of_arm x.0) x.1 p.0 (arms_code (arms_of xs) other left) left (arms_exit xs other p.1 left k)

  layer : (y : Layer) → Fits (of_layer (coded (bare_statement y)))
  layer (Statement-F.Declare n None) = record { code = λ e left. straight left (given_leads n (default_if (slice_get types n))) }
  layer (Statement-F.Declare n (Some x)) = stored_fits (place.Variable n) x
  layer (Statement-F.Assign p x) = stored_fits p x
  layer (Statement-F.SetElement x y z at) = stop_fits (x ∷ y ∷ z ∷ []) (stop.Set (line s at))
  layer (Statement-F.Drop x) = record {
    code = λ e left.
        straight left
        (less ((code_of x).code 0) [] [] (λ d n. n) (λ d n. absurd n) ((clean x).code e []));
  }
  layer (Statement-F.Print x) = stop_fits (x ∷ []) stop.Print
  layer (Statement-F.If arms None) = record {
    code = λ e left.
        arms_exit arms None (and_parts (all_choices (arms_of arms)) true e).0 left (straight left nothing);
  }
  layer (Statement-F.If arms (Some b)) = record {
    code = λ e left.
        let p = and_parts (all_choices (arms_of arms)) (of_block b.0).fits e in
        arms_exit arms (Some (of_block b.0)) p.0 left (b.1.code p.1 left);
  }
  layer (Statement-F.Loop b) = record { code = λ e left. loop_exits (of_block b.0) (b.1.code e) left }
  layer (Statement-F.Exit None) = record {
    code = λ e left. record {
      stands = step (op.Jump left) [] (straight left nothing).stands (λ uss b h. b.there) (λ all place uss f b h. tt);
    };
  }
  layer (Statement-F.Exit (Some x)) = record {
    code = λ e left.
        conditional_exits (code_of x) (clean x) e left (where_it_holds ((code_of x).condition 0) left ∷ [])
        (exits_where left ((code_of x).condition 0));
  }
  layer Statement-F.Return = record { code = λ e left. straight left ends }
  layer (Statement-F.Assert x at) = record {
    code = λ e left.
        let c : Condition = (code_of x).condition 0 in
        let fails : List Op = op.Rest (fail_row cause.FalseAssertion (line s at)) ∷ [] in
        conditional_exits (code_of x) (clean x) e left (where_it_holds c 1 ∷ fails)
        (λ hs read.
        tests left 1 c.asks c.wanted fails read (straight left (bare_rests [] (stop.Fail cause.FalseAssertion (line s at))))
        (λ uss b. b.here));
  }
  layer (Statement-F.Move x y at) = stop_fits (x ∷ y ∷ []) (stop.Move (line s at))
  layer (Statement-F.Fix x y at) = stop_fits (x ∷ y ∷ []) (stop.Fix (line s at))
  layer (Statement-F.Refix x y at) = stop_fits (x ∷ y ∷ []) (stop.Refix (line s at))
  layer (Statement-F.Unfix x at) = stop_fits (x ∷ []) (stop.Unfix (line s at))
  layer (Statement-F.Wait n) = record { code = λ e left. straight left (bare_rests [] (stop.Wait n)) }
  layer (Statement-F.Signal n) = record { code = λ e left. straight left (bare_rests [] (stop.Signal n)) }

  arm_layer : (y : Arm-F StatementHeld ArmHeld BlockHeld) →
      FitsArm (of_arm_layer (map-Arm Statement Arm Block Done Choice Done of_statement of_arm of_block (bare_arm y)))
  arm_layer y = record {
    condition = λ e. (clean y.condition).condition (and_parts (fits_here (code_of y.condition)) (of_block y.block.0).fits e).0 [];
    block = λ e. y.block.1.code (and_parts (fits_here (code_of y.condition)) (of_block y.block.0).fits e).1;
  }

  statement_from : (x : Statement-F Statement Arm Block) (y : Layer) → bare_statement y ≡ x → Fits (of_statement (roll-Statement x))
  statement_from x y is =
      subst (λ z. Fits (of_statement (roll-Statement z))) is
      (subst Fits (sym (fold-roll-Statement Done Choice Done of_layer of_arm_layer of_block_layer (bare_statement y))) (layer y))

  arm_from : (x : Arm-F Statement Arm Block) (y : Arm-F StatementHeld ArmHeld BlockHeld) → bare_arm y ≡ x → FitsArm (of_arm (roll-Arm x))
  arm_from x y is =
      subst (λ z. FitsArm (of_arm (roll-Arm z))) is
      (subst FitsArm (sym (fold-roll-Arm Done Choice Done of_layer of_arm_layer of_block_layer (bare_arm y))) (arm_layer y))

  block_from : (x : Block-F Statement Arm Block) (y : Block-F StatementHeld ArmHeld BlockHeld) → bare_block y ≡ x →
      Fits (of_block (roll-Block x))
  block_from x y is =
      subst (λ z. Fits (of_block (roll-Block z))) is
      (subst Fits (sym (fold-roll-Block Done Choice Done of_layer of_arm_layer of_block_layer (bare_block y)))
      (record { code = λ e left. statements_exit y.statements e left }))

  pub block_fits : (x : Block) → Fits (block_of s captured types literals leaves x)
  block_fits =
      ind-Block (λ x. Fits (of_statement x)) (λ x. FitsArm (of_arm x)) (λ x. Fits (of_block x)) statement_from arm_from block_from
