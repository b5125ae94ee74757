-- The code of operations.
use Rattle.std.proofs.Common.{◌≡◌, ℕ, suc, List, [], ◌∷◌, ◌++◌, drop, length, None, refl, sym, ap, ap₂, ◌∙◌, append_assoc}
use Rattle.std.proofs.lemmas.List.{append-nil}
use Rattle.ec_code.specs.declared.code.Op.{Op}
use Rattle.ec_code.specs.declared.code.Op.TheVariants as op
use Rattle.ec_types.specs.declared.conform.static_type.StaticType.{StaticType}
use Rattle.ec_core.specs.declared.Constant.{Constant}
use Rattle.ec_core.specs.declared.Expression.{Expression}
use Rattle.ec_core.specs.declared.Operation.{Operation}
use Rattle.ec_emission.specs.Expressions.{Emitted, emitted}
use Rattle.ec_emission.specs.Statements as spec
use Rattle.ec_emission.specs.Statements.{given, leave_ops, defaults_from, constant_ops, entry, operation_ops, program_ops}
use Rattle.ec_expressions.proofs.Parts.{is_emitted}
use Rattle.ec_lowering.proofs.Forms.{same_given}
use Rattle.ec_lowering.specs.Blocks.{block_by, defaults_onto, constants_onto}
use Rattle.ec_expressions.specs.Emitting.{source_by, emitted_by}
use Rattle.ec_expressions.specs.declared.emitter.Emitter.{Emitter}
use Rattle.ec_meaning.specs.Types.{kind_of}
use Rattle.ec_emission.specs.Rows.{bare_row, rest_row}
use Rattle.ec_world.specs.Values.{default_of}
use Rattle.ec_world.specs.declared.stop.Stop.TheVariants as stop

module _ (m : Emitter) where
  -- ---- operations of objects

  defaults_are : (leaves : List Op) (n : ℕ) (ts : List StaticType) (old : List Op) →
      defaults_onto m n ts old ≡ defaults_from (source_by m) m.captured m.types.now m.literals.now leaves n ts ++ old
  defaults_are leaves n [] old = refl
  defaults_are leaves n (t ∷ ts) old =
      ap₂ (λ p q. p ++ q) (sym (same_given m leaves n (default_of (kind_of t)))) (defaults_are leaves (suc n) ts old)
      ∙ sym
      (append_assoc (given (source_by m) m.captured m.types.now m.literals.now leaves n (default_of (kind_of t)))
      (defaults_from (source_by m) m.captured m.types.now m.literals.now leaves (suc n) ts) old)

  -- with these types of its named variables
  abbrev defaults_with : Operation → List StaticType → List Op
  defaults_with o types =
      defaults_from (source_by m) m.captured types m.literals.now (leave_ops o) o.parameters (drop o.parameters o.variables)

  abbrev body_with : Operation → List StaticType → List Op
  body_with o types = (spec.block_of (source_by m) m.captured types m.literals.now (leave_ops o) o.block).code 0

  abbrev operation_with : Operation → List StaticType → List Op
  operation_with o types = entry ∷ (defaults_with o types ++ (body_with o types ++ leave_ops o))

  body_is : (o : Operation) → (block_by m (leave_ops o) o.block).code 0 ≡ body_with o m.types.now
  unfolding block_by
  body_is o = refl

  pub operation_made : (o : Operation) (start left block defaults all : List Op) → m.types.now ≡ o.variables → start ≡ [] →
      left ≡ leave_ops o ++ start → block ≡ (block_by m (leave_ops o) o.block).code 0 ++ left →
      defaults ≡ defaults_onto m o.parameters (drop o.parameters o.variables) block → all ≡ entry ∷ defaults →
      all ≡ operation_ops (source_by m) m.captured m.literals.now o
  operation_made o start left block defaults all types begins e f g h =
      let end : left ≡ leave_ops o = e ∙ ap (λ xs. leave_ops o ++ xs) begins ∙ append-nil (leave_ops o) in
      let body : block ≡ body_with o m.types.now ++ leave_ops o = f ∙ ap₂ (λ p q. p ++ q) (body_is o) end in
      h
      ∙ ap (λ xs. entry ∷ xs) (g ∙ defaults_are (leave_ops o) o.parameters (drop o.parameters o.variables) block)
      ∙ ap (λ xs. entry ∷ (defaults_with o m.types.now ++ xs)) body
      ∙ ap (operation_with o) types

  -- ---- the program's own

  own_emitted : m.captured ≡ 0 → m.types.now ≡ [] → (x : Expression) →
      emitted_by m x ≡ emitted (source_by m) 0 0 m.literals.now x
  own_emitted e f x =
      is_emitted m x ∙ ap₂ (λ captured count. emitted (source_by m) captured count m.literals.now x) e (ap length f)

  constants_are : m.captured ≡ 0 → m.types.now ≡ [] → (n : ℕ) (cs : List Constant) →
      constants_onto m n cs (op.Rest (bare_row stop.End) ∷ []) ≡ constant_ops (source_by m) m.literals.now n cs
  constants_are e f n [] = refl
  constants_are e f n (c ∷ cs) =
      ap₂ (λ (x : Emitted) ys. x.code 0 ++ (op.Rest (rest_row (stop.Global n) 0 1 None) ∷ ys)) (own_emitted e f c.value)
      (constants_are e f (suc n) cs)

  pub program_made : (start last constants all : List Op) → m.captured ≡ 0 → m.types.now ≡ [] → start ≡ [] →
      last ≡ op.Rest (bare_row stop.End) ∷ start → constants ≡ constants_onto m 0 (source_by m).core.constants last →
      all ≡ entry ∷ constants → all ≡ program_ops (source_by m) m.literals.now
  program_made start last constants all e f begins g h k =
      k
      ∙ ap (λ xs. entry ∷ xs)
      (h
      ∙ ap (constants_onto m 0 (source_by m).core.constants) (g ∙ ap (λ xs. op.Rest (bare_row stop.End) ∷ xs) begins)
      ∙ constants_are e f 0 (source_by m).core.constants)
