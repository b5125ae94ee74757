-- The code of an operation does what the operation is to do.
use Rattle.std.proofs.Common.{◌≡◌, ℕ, suc, ◌+◌, Bool, true, false, not, ◌&&◌, List, [], ◌∷◌, ◌++◌, drop, length, Some, None}
use Rattle.std.proofs.Common.{refl, sym, ap, ◌∙◌, arith}
use Rattle.std.specs.Prelude.{slice_get}
use Rattle.ec_code.specs.declared.code.Line.{Line}
use Rattle.ec_code.specs.declared.code.Op.{Op}
use Rattle.ec_code.specs.declared.code.Op.TheVariants as op
use Rattle.ec_core.specs.declared.Constant.{Constant}
use Rattle.ec_core.specs.declared.Kind.{Kind}
use Rattle.ec_core.specs.declared.Kind.TheVariants as kind
use Rattle.ec_core.specs.declared.Operation.{Operation}
use Rattle.ec_emission.proofs.Bodies.{IsLoop, setting, block_is, loop_stands}
use Rattle.ec_emission.proofs.Expressions.{is_emitted}
use Rattle.ec_emission.proofs.Forms.{both_true, not_true, value}
use Rattle.ec_emission.proofs.Turns.{Placed, placed_first, placed_second, Setting, Standing, Comes}
use Rattle.ec_emission.specs.Expressions.{emitted, fits_here}
use Rattle.ec_emission.specs.Statements.{operation_ops, operation_fits, leave_row, leave_ops, default_ops, body_done, are_given, result_of}
use Rattle.ec_emission.specs.Statements.{constant_ops, program_ops, program_fits}
use Rattle.ec_meaning.specs.Meaning.{constant_items, items_if}
use Rattle.ec_meaning.specs.Programs.{Source, operation_at}
use Rattle.ec_meaning.specs.Steps.{leave, leave_by, returned, types_if}
use Rattle.ec_meaning.specs.declared.item.Item.TheVariants as i
use Rattle.ec_emission.proofs.Meeting.{Routine}
use Rattle.ec_emission.specs.Ops.{ops}
use Rattle.ec_emission.specs.Rows.{rest_row}
use Rattle.ec_emission.specs.Stands as at
use Rattle.ec_world.specs.declared.stop.Stop.TheVariants as stop

-- ---- all code stands from its beginning on

placed_later : (x : Op) (code ops : List Op) (q : ℕ) → Placed code q ops → Placed (x ∷ code) (suc q) ops
placed_later x code [] q p = tt
placed_later x code (o ∷ ops) q p = (p.0, placed_later x code ops (suc q) p.1)

pub placed_all : (ops : List Op) → Placed ops 0 ops
placed_all [] = tt
placed_all (o ∷ ops) = (refl, placed_later o ops ops 0 (placed_all ops))

not_false : (b : Bool) → not b ≡ true → b ≡ false
not_false true e = not_true e
not_false false e = refl

-- An operation by its number, of an object whose class captures so many names, and the program's literals.
module _ (s : Source) (number captured : ℕ) (literals : List (List ℕ)) (o : Operation) where
  abbrev pub around : Setting
  around = setting s number captured o.variables literals (leave_ops o) (operation_ops s captured literals o)

  named_end : (q : ℕ) (b : Bool) → Comes around i.Leave (λ own st. returned st b (slice_get st.variables o.parameters)) →
      slice_get (operation_ops s captured literals o) q ≡ Some (op.Rest (result_of b o.parameters)) →
      Standing around [] q (i.Leave ∷ [])
  named_end q true comes is = at.gives_back comes is
  named_end q false comes is = at.leaves {action = stop.Return false} tt comes is

  kind_end : (q : ℕ) (k : Kind) → Comes around i.Leave (λ own st. leave_by k o st) →
      slice_get (operation_ops s captured literals o) q ≡ Some (op.Rest (leave_row k o)) → Standing around [] q (i.Leave ∷ [])
  kind_end q kind.Named comes is = named_end q o.has_result comes is
  kind_end q kind.Initial comes is = at.leaves {action = stop.Return true} tt comes is
  kind_end q kind.Process comes is = at.leaves {action = stop.End} tt comes is

  -- its end, wherever that stands
  pub end_stands : operation_at s number ≡ Some o → (q : ℕ) → Placed (operation_ops s captured literals o) q (leave_ops o) →
      Standing around [] q (i.Leave ∷ [])
  end_stands e q p = kind_end q o.kind (λ own st. ap (λ x. leave x st) e) p.0

  -- behind the code of the defaults
  pub operation_stands : operation_at s number ≡ Some o → operation_fits s captured literals o ≡ true →
      Standing around [] (suc (length (default_ops s captured literals o))) (items_if s (Some o))
  operation_stands e f =
      let body = body_done s captured literals o in
      let first : List Op = default_ops s captured literals o in
      let block : List Op = body.code 0 in
      let a = both_true body.fits (not body.exits && are_given literals (drop o.parameters o.variables)) f in
      let b = both_true (not body.exits) (are_given literals (drop o.parameters o.variables)) a.1 in
      let code : List Op = operation_ops s captured literals o in
      let q : ℕ = suc (length first) in
      let r : ℕ = q + length block in
      let at_q : q ≡ 1 + length first = omega arith in
      let p = placed_second code first (block ++ leave_ops o) 1 q at_q (placed_all code).1 in
      let there = end_stands e r (placed_second code block (leave_ops o) q r refl p) in
      (block_is s number captured o.variables literals (leave_ops o) code (ap types_if e) (end_stands e) o.block a.0).go 0 q r
      (i.Leave ∷ []) refl (placed_first code block (leave_ops o) q p) there
      (λ h. not_true (sym (not_false body.exits b.0) ∙ h))

  -- it as one that both its source and its code do
  abbrev pub routine : operation_at s number ≡ Some o → (lines : List Line) → operation_ops s captured literals o ≡ ops lines → Routine
  routine e lines same = record {
    source = s;
    number = number;
    captured = captured;
    count = length o.variables;
    literals = literals;
    code = operation_ops s captured literals o;
    lines = lines;
    same = same;
    Loop = IsLoop s number captured o.variables literals (leave_ops o) (operation_ops s captured literals o);
    loops_stand =
        loop_stands s number captured o.variables literals (leave_ops o) (operation_ops s captured literals o) (ap types_if e)
        (end_stands e);
  }

-- ---- the program's own operation

module _ (s : Source) (number : ℕ) (literals : List (List ℕ)) (code : List Op) where
  abbrev pub around_constants : Setting
  around_constants = record {
    source = s;
    number = number;
    captured = 0;
    count = 0;
    literals = literals;
    code = code;
    Loop = λ top again b. ⊥;
  }

  constants_stand : (n : ℕ) (cs : List Constant) → program_fits s literals cs ≡ true → (q : ℕ) →
      Placed code q (constant_ops s literals n cs) → Standing around_constants [] q (constant_items n cs)
  constants_stand n [] f q p = at.is_over p.0
  constants_stand n (c ∷ cs) f q p =
      let first : List Op = (emitted s 0 0 literals c.value).code 0 in
      let rest : List Op = op.Rest (rest_row (stop.Global n) 0 1 None) ∷ constant_ops s literals (suc n) cs in
      let b = both_true (fits_here (emitted s 0 0 literals c.value)) (program_fits s literals cs) f in
      let m : ℕ = q + length first in
      let there = placed_second code first rest q m refl p in
      (value {w = around_constants} (is_emitted around_constants c.value) b.0 []).code.go q m
      (i.Rest (stop.Global n) 1 ∷ constant_items (suc n) cs) refl (placed_first code first rest q p)
      (at.rests [] None there.0 (constants_stand (suc n) cs b.1 (suc m) there.1))

pub program_stands : (s : Source) (number : ℕ) (literals : List (List ℕ)) → program_fits s literals s.core.constants ≡ true →
    Standing (around_constants s number literals (program_ops s literals)) [] 1 (constant_items 0 s.core.constants)
program_stands s number literals f =
    constants_stand s number literals (program_ops s literals) 0 s.core.constants f 1 (placed_all (program_ops s literals)).1

abbrev pub program_routine : (s : Source) (number : ℕ) (literals : List (List ℕ)) (lines : List Line) →
    program_ops s literals ≡ ops lines → Routine
program_routine s number literals lines same = record {
  source = s;
  number = number;
  captured = 0;
  count = 0;
  literals = literals;
  code = program_ops s literals;
  lines = lines;
  same = same;
  Loop = λ top again b. ⊥;
  loops_stand = λ top again b xs is d. absurd is;
}
