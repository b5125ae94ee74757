-- The code of statements and blocks does what they are to do: one induction over statements.
use Rattle.std.proofs.Common.{◌≡◌, ℕ, zero, suc, ◌+◌, Bool, true, false, ◌&&◌, ◌||◌, List, [], ◌∷◌, ◌++◌, map, length, Option}
use Rattle.std.proofs.Common.{Some, None, refl, sym, subst, arith, length-append}
use Rattle.ec_code.specs.declared.code.Op.{Op}
use Rattle.ec_code.specs.declared.code.Op.TheVariants as op
use Rattle.ec_types.specs.declared.conform.static_type.StaticType.{StaticType}
use Rattle.ec_core.specs.declared.Arm.{Arm, out-Arm}
use Rattle.ec_core.specs.declared.Block.{Block}
use Rattle.ec_core.specs.declared.Expression.{Expression}
use Rattle.ec_core.specs.declared.Place.{Place}
use Rattle.ec_core.specs.declared.Place.TheVariants as place
use Rattle.ec_core.specs.declared.Statement.{Statement}
use Rattle.ec_emission.proofs.Expressions.{code_of, is_emitted, found}
use Rattle.ec_emission.proofs.Forms.{AllGood, value, both_true, not_true, all_held, same_number}
use Rattle.ec_emission.proofs.Operands.{operand, held, reads}
use Rattle.ec_emission.proofs.Turns.{Placed, placed_first, placed_second, Setting, Standing, Comes, Turns, Asked, in_turn, framed}
use Rattle.ec_emission.proofs.Turns.{one, silent, opened}
use Rattle.ec_emission.specs.Expressions.{Condition, all_fit, all_code, fits_here, operand_or, operand_of, operand_code}
use Rattle.ec_emission.specs.Statements.{Done, Choice, all_done, some_exit, in_order, jump_over, unless, where_it_holds}
use Rattle.ec_emission.specs.Statements.{arms_code, all_choices, other_fits, some_choice_exits, store, stored}
use Rattle.ec_emission.specs.Statements.{given, is_given}
use Rattle.ec_meaning.specs.Meaning.{behind_loop}
use Rattle.ec_meaning.specs.Programs.{line}
use Rattle.ec_meaning.specs.Steps as meaning
use Rattle.ec_meaning.specs.Steps.{Goes, evaluated, block_items}
use Rattle.ec_meaning.specs.declared.item.Item.{Item}
use Rattle.ec_meaning.specs.declared.item.Item.TheVariants as i
use Rattle.ec_emission.specs.Leaves as leaf
use Rattle.ec_emission.specs.Leaves.{Leaf}
use Rattle.ec_emission.specs.Rows.{rest_row, fail_row}
use Rattle.ec_emission.specs.Stands as at
use Rattle.ec_emission.specs.Stands.{all_kept}
use Rattle.ec_world.specs.declared.process.Cause.TheVariants as cause
use Rattle.ec_world.specs.declared.stop.Stop.{Stop}
use Rattle.ec_world.specs.declared.value.Value.{Value}
use Rattle.ec_world.specs.declared.value.Value.TheVariants.{Int, Str, Ref, Nil, Bool as Truth}

first_of_two : (a b : Bool) → a ≡ true → a || b ≡ true
first_of_two true b e = refl
first_of_two false b e = not_true e

second_of_two : (a b : Bool) → b ≡ true → a || b ≡ true
second_of_two true b e = refl
second_of_two false b e = e

behind_statements : (xs : List Statement) (zs : List Item) → behind_loop (map i.Do xs ++ zs) ≡ behind_loop zs
behind_statements [] zs = refl
behind_statements (x ∷ xs) zs = behind_statements xs zs

-- the arms of a statement, and the block behind them
abbrev chosen : List Choice → Option Done → Done
chosen cs o = record { code = arms_code cs o; fits = all_choices cs && other_fits o; exits = some_choice_exits cs o }

module _ (w : Setting) where
  abbrev pub moved : (xs : List Item) {q r : ℕ} → q ≡ r → Standing w [] q xs → Standing w [] r xs
  moved xs e d = subst (λ j. Standing w [] j xs) e d

  -- Code of statements does these items: behind it is the rest, and, where it may leave a loop, what is behind the loop.
  pub record Does (d : Done) (xs : List Item) : Type 0 where
    pub go :
        (left q r : ℕ) (zs : List Item) → r ≡ q + length (d.code left) → Placed w.code q (d.code left) → Standing w [] r zs →
        (d.exits ≡ true → Standing w [] (r + left) (behind_loop zs)) → Standing w [] q (xs ++ zs)

  abbrev pub Fine : Done → List Item → Type 0
  Fine d xs = d.fits ≡ true → Does d xs

  -- the code of an arm: its condition and its block
  pub record DoesArm (c : Choice) (a : Arm) : Type 0 where
    pub asked : Asked w c.condition [] (i.Evaluate (out-Arm a).condition ∷ [])
    pub block : Does c.block (block_items (out-Arm a).block)

  abbrev pub FineArm : Choice → Arm → Type 0
  FineArm c a = c.fits ≡ true → DoesArm c a

  abbrev pub AllFine : List Done → List Statement → Type 0
  AllFine [] [] = Unit {0}
  AllFine [] (x ∷ xs) = ⊥
  AllFine (d ∷ ds) [] = ⊥
  AllFine (d ∷ ds) (x ∷ xs) = Fine d (i.Do x ∷ []) × AllFine ds xs

  abbrev pub AllArms : List Choice → List Arm → Type 0
  AllArms [] [] = Unit {0}
  AllArms [] (a ∷ arms) = ⊥
  AllArms (c ∷ cs) [] = ⊥
  AllArms (c ∷ cs) (a ∷ arms) = FineArm c a × AllArms cs arms

  abbrev pub OtherFine : Option Done → Option Block → Type 0
  OtherFine None None = Unit {0}
  OtherFine None (Some b) = ⊥
  OtherFine (Some d) None = ⊥
  OtherFine (Some d) (Some b) = Fine d (block_items b)

  every : (xs : List Expression) → AllGood w xs (map (code_of w) xs)
  every [] = tt
  every (x ∷ xs) = (is_emitted w x, every xs)

module _ {w : Setting} where
  -- ---- statements that don't leave a loop

  pub stays_so : {xs : List Item} {ops : List Op} → (fits : Bool) → Turns w ops [] [] xs [] →
      Does w (record { code = λ left. ops; fits = fits; exits = false }) xs
  stays_so fits t = record { go = λ left q r zs e p d k. t.go q r zs e p d }

  pub opens_so :
      {d : Done} {y : Item} → (more : List Item) → Comes w y (λ own st. Goes st more) → Does w d more → Does w d (y ∷ [])
  opens_so more comes t = record { go = λ left q r zs e p d k. at.opens more comes (t.go left q r zs e p d k) }

  pub given_turns :
      {x : Item} → (types : List StaticType) (leaves : List Op) → w.count ≡ length types → (n : ℕ) → (v : Value) →
      is_given w.literals v ≡ true →
      Comes w x (λ own st. Goes (meaning.stored w.source own st (place.Variable n) v) []) →
      Turns w (given w.source w.captured types w.literals leaves n v) [] [] (x ∷ []) []
  given_turns types leaves c n (Int z) f comes = one (λ q zs is d. at.resets (leaf.Number z) (Int z) (λ st. refl) comes is d)
  given_turns types leaves c n (Truth b) f comes = one (λ q zs is d. at.resets (leaf.Truth b) (Truth b) (λ st. refl) comes is d)
  given_turns types leaves c n (Str text) f comes =
      one (λ q zs is d. at.resets_text text comes (found w.literals text f) is d)
  given_turns types leaves c n Nil f comes = one (λ q zs is d. at.resets leaf.Nil Nil (λ st. refl) comes is d)
  given_turns types leaves c n (Ref oid) f comes = not_true f

  kept_in :
      (types : List StaticType) (leaves : List Op) (p : Place) (o : Option Leaf) →
      Turns w (store w.source w.captured types w.literals leaves p (operand_or 0 o)) (held o ∷ []) [] (i.Store p ∷ []) []
  kept_in types leaves (place.Variable n) o = one (λ q zs is d. at.stores_variable (operand_or 0 o) (reads o 0) is d)
  kept_in types leaves (place.Field n) o = one (λ q zs is d. at.stores_field (operand_or 0 o) (reads o 0) is d)
  kept_in types leaves (place.Captured n) o = silent (λ q zs d. at.stores_nothing (λ own st v. refl) d)
  kept_in types leaves (place.Constant n) o = silent (λ q zs d. at.stores_nothing (λ own st v. refl) d)

  pub store_turns :
      {y : Item} {x : Expression} → (types : List StaticType) (leaves : List Op) (p : Place) →
      Comes w y (λ own st. Goes st (i.Evaluate x ∷ i.Store p ∷ [])) → fits_here (code_of w x) ≡ true →
      Turns
      w
      (operand_code (code_of w x) 0 ++ store w.source w.captured types w.literals leaves p (operand_of (code_of w x) 0))
      []
      []
      (y ∷ [])
      []
  store_turns {y} {x} types leaves p comes f =
      opened (i.Evaluate x ∷ i.Store p ∷ []) comes
      (in_turn (framed (i.Store p ∷ []) (operand (value (is_emitted w x) f []))) (kept_in types leaves p (code_of w x).leaf))

  -- a stop with the values of expressions
  pub stop_turns :
      {y : Item} → (xs : List Expression) → (action : Stop) →
      Comes w y (λ own st. Goes st (evaluated xs ++ i.Rest action (length xs) ∷ [])) → all_fit (map (code_of w) xs) ≡ true →
      Turns w (all_code (map (code_of w) xs) 0 ++ op.Rest (rest_row action 0 (length xs) None) ∷ []) [] [] (y ∷ []) []
  stop_turns xs action comes f =
      opened (evaluated xs ++ i.Rest action (length xs) ∷ []) comes
      (in_turn (framed (i.Rest action (length xs) ∷ []) (all_held xs (map (code_of w) xs) (every w xs) f []))
      (subst
      (λ k. Turns w (op.Rest (rest_row action 0 (length xs) None) ∷ []) (all_kept k []) [] (i.Rest action (length xs) ∷ []) [])
      (sym (same_number w xs (map (code_of w) xs) (every w xs))) (one (λ q zs is d. at.rests [] None is d))))

  pub dropped :
      {y : Item} {x : Expression} → Comes w y (λ own st. Goes st (i.Evaluate x ∷ i.Discard ∷ [])) → (code_of w x).fits ≡ true →
      Turns w ((code_of w x).code 0) [] [] (y ∷ []) []
  dropped {y} {x} comes f =
      opened (i.Evaluate x ∷ i.Discard ∷ []) comes
      (record { go = λ q r zs e p d. ((is_emitted w x f).code []).go q r (i.Discard ∷ zs) e p (at.discards d) })

  -- ---- conditions

  pub asked : {x : Expression} → fits_here (code_of w x) ≡ true → Asked w ((code_of w x).condition 0) [] (i.Evaluate x ∷ [])
  asked {x} f =
      let b = both_true (code_of w x).gives (code_of w x).fits f in (is_emitted w x b.1).condition b.0 []

  pub exits_where :
      {y : Item} {x : Expression} {c : Condition} → (fits : Bool) → Comes w y (λ own st. Goes st (i.Evaluate x ∷ i.ExitIf ∷ [])) →
      Asked w c [] (i.Evaluate x ∷ []) →
      Does w (record { code = λ left. c.code ++ where_it_holds c left ∷ []; fits = fits; exits = true }) (y ∷ [])
  exits_where {y} {x} {c} fits comes a = record {
    go = λ left q r zs e p d k.
        let l : length (c.code ++ where_it_holds c left ∷ []) ≡ length c.code + 1 = length-append c.code _ in
        let m : ℕ = q + length c.code in
        let f : r ≡ suc m = omega arith in
        let g : r + left ≡ suc (m + left) = omega arith in
        let there = placed_second w.code c.code (where_it_holds c left ∷ []) q m refl p in
        at.opens (i.Evaluate x ∷ i.ExitIf ∷ []) comes
        (a.turns.go q m (i.ExitIf ∷ zs) refl (placed_first w.code c.code (where_it_holds c left ∷ []) q p)
        (at.exits zs left a.asks there.0 (moved w (behind_loop zs) g (k refl)) (moved w zs f d)));
  }

  pub requires :
      {y : Item} {x : Expression} {c : Condition} → (site : ℕ) →
      Comes w y (λ own st. Goes st (i.Evaluate x ∷ i.Require site ∷ [])) → Asked w c [] (i.Evaluate x ∷ []) →
      Turns w (c.code ++ where_it_holds c 1 ∷ op.Rest (fail_row cause.FalseAssertion (line w.source site)) ∷ []) [] [] (y ∷ []) []
  requires {y} {x} {c} site comes a =
      opened (i.Evaluate x ∷ i.Require site ∷ []) comes
      (record {
        go = λ q r zs e p d.
            let fails : Op = op.Rest (fail_row cause.FalseAssertion (line w.source site)) in
            let behind : List Op = where_it_holds c 1 ∷ fails ∷ [] in
            let l : length (c.code ++ behind) ≡ length c.code + 2 = length-append c.code behind in
            let m : ℕ = q + length c.code in
            let f : r ≡ suc (suc m) = omega arith in
            let there = placed_second w.code c.code behind q m refl p in
            a.turns.go q m (i.Require site ∷ zs) refl (placed_first w.code c.code behind q p)
            (at.requires site zs a.asks there.0 there.1.0 (moved w zs f d));
      })

  -- ---- blocks

  pub all_do :
      (xs : List Statement) (ds : List Done) → AllFine w ds xs → all_done ds ≡ true →
      Does w (record { code = in_order ds; fits = all_done ds; exits = some_exit ds }) (map i.Do xs)
  all_do [] [] a f = record { go = λ left q r zs e p d k. let g : r ≡ q = omega arith in moved w zs g d }
  all_do [] (y ∷ ds) a f = absurd a
  all_do (x ∷ xs) [] a f = absurd a
  all_do (x ∷ xs) (y ∷ ds) a f = record {
    go = λ left q r zs e p d k.
        let b = both_true y.fits (all_done ds) f in
        let rest : List Op = in_order ds left in
        let first : List Op = y.code (length rest + left) in
        let l : length (first ++ rest) ≡ length first + length rest = length-append first rest in
        let m : ℕ = q + length first in
        let n : r ≡ m + length rest = omega arith in
        let j : r + left ≡ m + (length rest + left) = omega arith in
        let there = (all_do xs ds a.1 b.1).go left m r zs n (placed_second w.code first rest q m refl p) d
        (λ h. k (second_of_two y.exits (some_exit ds) h)) in
        (a.0 b.0).go (length rest + left) q m (map i.Do xs ++ zs) refl (placed_first w.code first rest q p) there
        (λ h.
        subst (Standing w [] (m + (length rest + left))) (sym (behind_statements xs zs))
        (moved w (behind_loop zs) j (k (first_of_two y.exits (some_exit ds) h))));
  }

  -- ---- arms

  over_rest :
      (k n r : ℕ) (zs : List Item) → r ≡ n + length (jump_over k) + k → Placed w.code n (jump_over k) → Standing w [] r zs →
      Standing w [] n zs
  over_rest zero n r zs e p d = let g : r ≡ n = omega arith in moved w zs g d
  over_rest (suc k) n r zs e p d =
      let g : r ≡ suc (n + suc k) = omega arith in at.jumps (suc k) p.0 (moved w zs g d)

  -- an arm, and what does the arms behind it
  arm_does :
      (a : Arm) (arms : List Arm) (other : Option Block) (c : Choice) (cs : List Choice) (o : Option Done) → DoesArm w c a →
      Does w (chosen cs o) (i.Choose arms other ∷ []) → Does w (chosen (c ∷ cs) o) (i.Choose (a ∷ arms) other ∷ [])
  arm_does a arms other c cs o t rest_does = record {
    go = λ left q r zs e p d k.
        let rest : List Op = arms_code cs o left in
        let over : List Op = jump_over (length rest) in
        let block : List Op = c.block.code (length over + (length rest + left)) in
        let test : Op = unless c.condition (length block + length over) in
        let asks : List Op = c.condition.code in
        let l : length (asks ++ test ∷ (block ++ (over ++ rest))) ≡ length asks + suc (length (block ++ (over ++ rest))) =
        length-append asks _ in
        let l1 : length (block ++ (over ++ rest)) ≡ length block + length (over ++ rest) = length-append block _ in
        let l2 : length (over ++ rest) ≡ length over + length rest = length-append over rest in
        let m : ℕ = q + length asks in
        let n : ℕ = suc m + length block in
        let v : ℕ = n + length over in
        let there = placed_second w.code asks (test ∷ (block ++ (over ++ rest))) q m refl p in
        let behind = placed_second w.code block (over ++ rest) (suc m) n refl there.1 in
        let end : r ≡ v + length rest = omega arith in
        let last : Standing w [] v (i.Choose arms other ∷ zs) =
        rest_does.go left v r zs end (placed_second w.code over rest n v refl behind) d
        (λ h. k (second_of_two c.block.exits (some_choice_exits cs o) h)) in
        let passed : Standing w [] n zs = over_rest (length rest) n r zs end (placed_first w.code over rest n behind) d in
        let out : r + left ≡ n + (length over + (length rest + left)) = omega arith in
        let met : Standing w [] (suc m) (block_items (out-Arm a).block ++ zs) =
        t.block.go (length over + (length rest + left)) (suc m) n zs refl
        (placed_first w.code block (over ++ rest) (suc m) there.1) passed
        (λ h. moved w (behind_loop zs) out (k (first_of_two c.block.exits (some_choice_exits cs o) h))) in
        let far : v ≡ suc (m + (length block + length over)) = omega arith in
        at.opens (i.Evaluate (out-Arm a).condition ∷ i.Branch (out-Arm a).block arms other ∷ []) (λ own st. refl)
        (t.asked.turns.go q m (i.Branch (out-Arm a).block arms other ∷ zs) refl
        (placed_first w.code asks (test ∷ (block ++ (over ++ rest))) q p)
        (at.branches (out-Arm a).block arms other zs (length block + length over) t.asked.asks there.0 met
        (moved w (i.Choose arms other ∷ zs) far last)));
  }

  pub arms_do :
      (arms : List Arm) (other : Option Block) (cs : List Choice) (o : Option Done) → AllArms w cs arms → OtherFine w o other →
      all_choices cs ≡ true → other_fits o ≡ true → Does w (chosen cs o) (i.Choose arms other ∷ [])
  arms_do [] None [] None a b f g = record {
    go = λ left q r zs e p d k. let h : r ≡ q = omega arith in at.opens [] (λ own st. refl) (moved w zs h d);
  }
  arms_do [] (Some b) [] (Some o) a h f g = record {
    go = λ left q r zs e p d k. at.opens (block_items b) (λ own st. refl) ((h g).go left q r zs e p d k);
  }
  arms_do [] None [] (Some o) a b f g = absurd b
  arms_do [] (Some b) [] None a h f g = absurd h
  arms_do [] other (c ∷ cs) o a b f g = absurd a
  arms_do (x ∷ arms) other [] o a b f g = absurd a
  arms_do (x ∷ arms) other (c ∷ cs) o a b f g =
      let h = both_true c.fits (all_choices cs) f in
      arm_does x arms other c cs o (a.0 h.0) (arms_do arms other cs o a.1 b h.1 g)
