-- The code of each form of statement is short, and reads and writes only variables that are there, where that of its parts is and
-- does.
use Rattle.std.proofs.Common.{ℕ, zero, suc, ◌+◌, ◌<◌, ◌≤◌, List, [], ◌∷◌, ◌++◌, length}
use Rattle.std.proofs.Common.{None, arith}
use Rattle.ec_check.proofs.Every.{Every}
use Rattle.ec_code.specs.declared.code.Op.{Op}
use Rattle.ec_code.specs.declared.code.Op.TheVariants as op
use Rattle.ec_code.specs.declared.code.Operand.{Operand}
use Rattle.ec_code.specs.declared.code.Variable.TheVariants as variable
use Rattle.ec_compile.proofs.Forms.{IsKept}
use Rattle.ec_compile.proofs.Sized.{Asked, Sized, alone_reads, alone_within}
use Rattle.ec_compile.proofs.Within.{Reach, Within, join, more, nothing, one, step, temporaries_reach}
use Rattle.ec_types.specs.declared.conform.static_type.StaticType.{StaticType}
use Rattle.ec_core.specs.declared.Place.{Place}
use Rattle.ec_core.specs.declared.Place.TheVariants as place
use Rattle.ec_emission.specs.Expressions.{Condition, Emitted, all_code, operand_code, operand_of}
use Rattle.ec_core.specs.Literals.{Texts}
use Rattle.ec_emission.specs.Statements.{Choice, Done, arm_code, given, jump_over, loop_code}
use Rattle.ec_emission.specs.Statements.{store, stored, unless, where_it_holds}
use Rattle.ec_code.specs.Live.{read_in}
use Rattle.ec_meaning.specs.Programs.{Source}
use Rattle.ec_emission.specs.Rows.{bare_row, rest_row}
use Rattle.ec_world.specs.declared.stop.Stop.{Stop}
use Rattle.ec_world.specs.declared.stop.Stop.TheVariants as stop
use Rattle.ec_world.specs.declared.value.Value.{Value}
use Rattle.ec_world.specs.declared.value.Value.TheVariants as value

-- what is shown of a statement or a block: at most so many steps, over so many temporaries
pub record Short (count height most : ℕ) (d : Done) : Type 0 where
  pub code : (left top : ℕ) → height ≤ top → Within count top most (d.code left)

-- and of an arm, with the steps that lead past it
pub record ShortArm (count height most : ℕ) (a : Choice) : Type 0 where
  pub asks : ℕ
  pub does : ℕ
  pub under : (asks + does) + 2 ≤ most
  pub condition : (top : ℕ) → height ≤ top → Asked count top asks a.condition
  pub block : (left top : ℕ) → height ≤ top → Within count top does (a.block.code left)

module _ {count : ℕ} where
  -- ---- values one above the other, and a stop that takes them

  pub one_rests : (action : Stop) (top m : ℕ) (x : Emitted) → Within count top m (x.code 0) → 1 ≤ top →
      Within count top (m + 1) (all_code (x ∷ []) 0 ++ op.Rest (rest_row action 0 1 None) ∷ [])
  one_rests action top m x w l =
      more ((m + 0) + 1) (m + 1) _ (omega arith)
      (join (m + 0) 1 (x.code 0 ++ []) _ (join m 0 (x.code 0) [] w nothing)
      (one (op.Rest (rest_row action 0 1 None)) (temporaries_reach count top 0 1 (omega arith), tt)))

  pub two_rest : (action : Stop) (top m n : ℕ) (x y : Emitted) → Within count top m (x.code 0) → Within count top n (y.code 1) →
      2 ≤ top → Within count top ((m + n) + 1) (all_code (x ∷ y ∷ []) 0 ++ op.Rest (rest_row action 0 2 None) ∷ [])
  two_rest action top m n x y w v l =
      more ((m + (n + 0)) + 1) ((m + n) + 1) _ (omega arith)
      (join (m + (n + 0)) 1 (x.code 0 ++ (y.code 1 ++ [])) _
      (join m (n + 0) (x.code 0) (y.code 1 ++ []) w (join n 0 (y.code 1) [] v nothing))
      (one (op.Rest (rest_row action 0 2 None)) (temporaries_reach count top 0 2 (omega arith), tt)))

  pub three_rest : (action : Stop) (top m n k : ℕ) (x y z : Emitted) → Within count top m (x.code 0) → Within count top n (y.code 1) →
      Within count top k (z.code 2) → 3 ≤ top →
      Within count top ((m + (n + k)) + 1) (all_code (x ∷ y ∷ z ∷ []) 0 ++ op.Rest (rest_row action 0 3 None) ∷ [])
  three_rest action top m n k x y z w v u l =
      more ((m + (n + (k + 0))) + 1) ((m + (n + k)) + 1) _ (omega arith)
      (join (m + (n + (k + 0))) 1 (x.code 0 ++ (y.code 1 ++ (z.code 2 ++ []))) _
      (join m (n + (k + 0)) (x.code 0) (y.code 1 ++ (z.code 2 ++ [])) w
      (join n (k + 0) (y.code 1) (z.code 2 ++ []) v (join k 0 (z.code 2) [] u nothing)))
      (one (op.Rest (rest_row action 0 3 None)) (temporaries_reach count top 0 3 (omega arith), tt)))

  -- ---- conditions

  module _ {v b : ℕ} {x : Emitted} (k : Sized count v b x) (act : Condition → ℕ → List Op) (n c : ℕ) (l : b + n ≤ suc c)
      (steps : (top m left : ℕ) (a : Condition) → Asked count top m a → Within count top n (act a left)) where
    pub conditional_within : (left top : ℕ) → v ≤ top → Within count top c ((x.condition 0).code ++ act (x.condition 0) left)
    conditional_within left top h =
        let u : k.most < b = k.under in
        let a : Asked count top k.most (x.condition 0) = k.condition 0 top (omega arith) in
        more (k.most + n) c _ (omega arith)
        (join k.most n (x.condition 0).code (act (x.condition 0) left) a.code (steps top k.most left (x.condition 0) a))

  pub where_within : (top m left : ℕ) (a : Condition) → Asked count top m a → Within count top 1 (where_it_holds a left ∷ [])
  where_within top m left a h = one (where_it_holds a left) (h.asks, tt)

  -- ---- arms

  jump_within : (top n : ℕ) → Within count top 1 (jump_over n)
  jump_within top zero = more 0 1 [] (omega arith) nothing
  jump_within top (suc n) = one (op.Jump (suc n)) (tt, tt)

  pub arm_within : (v m top r left : ℕ) (a : Choice) (rest : List Op) → ShortArm count v m a → v ≤ top → Within count top r rest →
      Within count top (m + r) (arm_code a rest left)
  arm_within v m top r left a rest k l w =
      let u : (k.asks + k.does) + 2 ≤ m = k.under in
      let over : List Op = jump_over (length rest) in
      let block : List Op = a.block.code (length over + (length rest + left)) in
      let c : Asked count top k.asks a.condition = k.condition top l in
      more (k.asks + (1 + (k.does + (1 + r)))) (m + r) _ (omega arith)
      (join k.asks (1 + (k.does + (1 + r))) a.condition.code _ c.code
      (step (k.does + (1 + r)) (unless a.condition (length block + length over)) _ (c.asks, tt)
      (join k.does (1 + r) block (over ++ rest) (k.block (length over + (length rest + left)) top l)
      (join 1 r over rest (jump_within top (length rest)) w))))

  -- ---- loops

  pub loop_within : (v m top : ℕ) (body : Done) → Short count v m body → v ≤ top → Within count top (m + 2) (loop_code body)
  loop_within v m top body k l =
      more (1 + (m + 1)) (m + 2) _ (omega arith)
      (step (m + 1) (op.Rest (bare_row stop.LoopTop)) _ (tt, tt)
      (join m 1 (body.code 1) (op.Again (suc (length (body.code 1))) ∷ []) (k.code 1 top l)
      (one (op.Again (suc (length (body.code 1)))) (tt, tt))))

-- ---- what goes into places

module _ (s : Source) (captured : ℕ) (types : List StaticType) (literals : Texts) (leaves : List Op) where
  store_within : (p : Place) (from : Operand) (top : ℕ) → IsKept (length types) p → Every (Reach (length types) top) (read_in from) →
      Within (length types) top 1 (store s captured types literals leaves p from)
  store_within (place.Variable n) from top k r = one (op.Copy (variable.Named n) from) (r, k)
  store_within (place.Captured n) from top k r = more 0 1 [] (omega arith) nothing
  store_within (place.Field n) from top k r = one _ (r, tt)
  store_within (place.Constant n) from top k r = more 0 1 [] (omega arith) nothing

  pub stored_short : (p : Place) (v b : ℕ) (x : Emitted) → IsKept (length types) p → Sized (length types) v b x →
      Short (length types) v b (stored s captured types literals leaves p x)
  stored_short p v b x kept k =
      let u : k.most < b = k.under in
      record {
        code = λ left top l.
            more (k.most + 1) b _ (omega arith)
            (join k.most 1 (operand_code x 0) (store s captured types literals leaves p (operand_of x 0))
            (alone_within k.holds 0 top (omega arith))
            (store_within p (operand_of x 0) top kept (alone_reads k.holds 0 top (omega arith))));
      }

  pub given_within : (top n : ℕ) (v : Value) → n < length types →
      Within (length types) top 1 (given s captured types literals leaves n v)
  given_within top n (value.Int z) l = one _ (tt, l)
  given_within top n (value.Bool b) l = one _ (tt, l)
  given_within top n (value.Str text) l = one _ (tt, l)
  given_within top n value.Nil l = one _ (tt, l)
  given_within top n (value.Ref oid) l = one _ (tt, l)
