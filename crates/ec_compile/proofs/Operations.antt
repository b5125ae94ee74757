-- The code of each operation, and of the program's own, is short, and reads and writes only variables that are there.
use Rattle.std.proofs.Common.{◌≡◌, ℕ, suc, ◌+◌, ◌*◌, ◌-◌, ◌<◌, ◌≤◌, Bool, true, false, List, [], ◌∷◌, ◌++◌, drop, length, None, arith}
use Rattle.std.proofs.lemmas.List.{length-drop}
use Rattle.ec_check.proofs.Every.{Every}
use Rattle.ec_check.specs.Numbers.{in_block, in_expression}
use Rattle.ec_code.specs.declared.code.Op.{Op}
use Rattle.ec_code.specs.declared.code.Op.TheVariants as op
use Rattle.ec_compile.proofs.Blocks.{given_within}
use Rattle.ec_compile.proofs.Expressions.{is_sized}
use Rattle.ec_compile.proofs.Forms.{IsCounted}
use Rattle.ec_compile.proofs.Sized.{Sized}
use Rattle.ec_compile.proofs.Statements.{block_short}
use Rattle.ec_compile.proofs.Within.{Within, join, more, nothing, one, step, temporaries_reach}
use Rattle.ec_types.specs.declared.conform.static_type.StaticType.{StaticType}
use Rattle.ec_core.specs.declared.Constant.{Constant}
use Rattle.ec_core.specs.declared.Kind.{Kind}
use Rattle.ec_core.specs.declared.Kind.TheVariants as kind
use Rattle.ec_core.specs.declared.Operation.{Operation}
use Rattle.ec_core_laws.specs.Headings.{HeadingFits, result_count}
use Rattle.ec_core_laws.specs.Measures.{height_of, height_of_block, size_of, size_of_block}
use Rattle.ec_core_laws.specs.Captures.{captures_of, captures_of_block}
use Rattle.ec_core_laws.specs.Constants.{captures_of_constants, height_of_constants, size_of_constants}
use Rattle.ec_emission.specs.Expressions.{emitted}
use Rattle.ec_core.specs.Literals.{Texts}
use Rattle.ec_emission.specs.Statements.{body_done, constant_ops, default_ops, defaults_from, entry, given, leave_ops, leave_row}
use Rattle.ec_emission.specs.Statements.{operation_ops, program_ops, result_of}
use Rattle.ec_meaning.specs.Programs.{Source}
use Rattle.ec_meaning.specs.Types.{kind_of}
use Rattle.ec_emission.specs.Rows.{bare_row, rest_row, return_row}
use Rattle.ec_world.specs.Values.{default_of}
use Rattle.ec_world.specs.declared.stop.Stop.TheVariants as stop

-- ---- operations

module _ (s : Source) (captured : ℕ) (types : List StaticType) (literals : Texts) (leaves : List Op) where
  defaults_within : (top n : ℕ) (ts : List StaticType) → n + length ts ≤ length types →
      Within (length types) top (length ts) (defaults_from s captured types literals leaves n ts)
  defaults_within top n [] l = nothing
  defaults_within top n (t ∷ ts) l =
      more (1 + length ts) (suc (length ts)) _ (omega arith)
      (join 1 (length ts) (given s captured types literals leaves n (default_of (kind_of t)))
      (defaults_from s captured types literals leaves (suc n) ts)
      (given_within s captured types literals leaves top n (default_of (kind_of t)) (omega arith))
      (defaults_within top (suc n) ts (omega arith)))

returned : (top count : ℕ) (has : Bool) (n : ℕ) → n + result_count has ≤ count → Within count top 1 (op.Rest (result_of has n) ∷ [])
returned top count true n l = one (op.Rest (return_row n)) ((omega arith, tt), tt)
returned top count false n l = one (op.Rest (bare_row (stop.Return false))) (tt, tt)

leaves_within : (o : Operation) → HeadingFits o → (k : Kind) → (top : ℕ) →
    Within (length o.variables) top 1 (op.Rest (leave_row k o) ∷ [])
leaves_within o h kind.Named top = returned top (length o.variables) o.has_result o.parameters h
leaves_within o h kind.Initial top = one (op.Rest (bare_row (stop.Return true))) (tt, tt)
leaves_within o h kind.Process top = one (op.Rest (bare_row stop.End)) (tt, tt)

-- At most two steps for each node, one for each value that an object constructor captures, one for each variable, and two more.
pub operation_within : (s : Source) (captured : ℕ) (literals : Texts) (o : Operation) → HeadingFits o →
    Every (IsCounted (length o.variables)) (in_block o.block) →
    Within (length o.variables) (height_of_block o.block)
    (((2 * size_of_block o.block + captures_of_block o.block) + length o.variables) + 2) (operation_ops s captured literals o)
operation_within s captured literals o h c =
    let fits : o.parameters + result_count o.has_result ≤ length o.variables = h in
    let top : ℕ = height_of_block o.block in
    let b : ℕ = 2 * size_of_block o.block + captures_of_block o.block in
    let rest : List StaticType = drop o.parameters o.variables in
    let fewer : length rest ≡ length o.variables - o.parameters = length-drop o.parameters o.variables in
    more (1 + (length rest + (b + 1))) ((b + length o.variables) + 2) _ (omega arith)
    (step (length rest + (b + 1)) entry _ (tt, tt)
    (join (length rest) (b + 1) (default_ops s captured literals o) ((body_done s captured literals o).code 0 ++ leave_ops o)
    (defaults_within s captured o.variables literals (leave_ops o) top o.parameters rest (omega arith))
    (join b 1 ((body_done s captured literals o).code 0) (leave_ops o)
    ((block_short s captured o.variables literals (leave_ops o) (leaves_within o h o.kind) o.block c).code 0 top (omega arith))
    (leaves_within o h o.kind top))))

-- ---- the program's own operation

constants_within : (s : Source) (literals : Texts) (top n : ℕ) (cs : List Constant) →
    Every (λ (c : Constant). Every (IsCounted 0) (in_expression c.value)) cs → height_of_constants cs ≤ top →
    Within 0 top ((2 * size_of_constants cs + captures_of_constants cs) + 1) (constant_ops s literals n cs)
constants_within s literals top n [] h l = more 1 _ _ (omega arith) (one (op.Rest (bare_row stop.End)) (tt, tt))
constants_within s literals top n (c ∷ cs) h l =
    let k : Sized 0 (height_of c.value) (2 * size_of c.value + captures_of c.value) (emitted s 0 0 literals c.value) =
    is_sized s 0 0 literals c.value h.0 in
    let u : k.most < 2 * size_of c.value + captures_of c.value = k.under in
    let v : 1 ≤ height_of c.value = k.holds.some in
    let b : ℕ = (2 * size_of_constants cs + captures_of_constants cs) + 1 in
    more (k.most + (1 + b)) _ _ (omega arith)
    (join k.most (1 + b) ((emitted s 0 0 literals c.value).code 0) _ (k.holds.code 0 top (omega arith))
    (step b (op.Rest (rest_row (stop.Global n) 0 1 None)) (constant_ops s literals (suc n) cs)
    (temporaries_reach 0 top 0 1 (omega arith), tt)
    (constants_within s literals top (suc n) cs h.1 (omega arith))))

-- At most two steps for each node, one for each value that an object constructor captures, and two more.
pub program_within : (s : Source) (literals : Texts) →
    Every (λ (c : Constant). Every (IsCounted 0) (in_expression c.value)) s.core.constants →
    Within 0 (height_of_constants s.core.constants)
    ((2 * size_of_constants s.core.constants + captures_of_constants s.core.constants) + 2) (program_ops s literals)
program_within s literals h =
    let b : ℕ = (2 * size_of_constants s.core.constants + captures_of_constants s.core.constants) + 1 in
    more (1 + b) _ _ (omega arith)
    (step b entry (constant_ops s literals 0 s.core.constants) (tt, tt)
    (constants_within s literals (height_of_constants s.core.constants) 0 s.core.constants h (omega arith)))
