-- What the code does that gives variables their defaults.
use Rattle.std.proofs.Common.{◌≡◌, ℕ, suc, ◌+◌, ◌-◌, Bool, true, List, [], ◌∷◌, ◌++◌, drop, length, replicate}
use Rattle.std.proofs.Common.{Some, refl, sym, ap, ◌∙◌, subst, arith, append_assoc, length-append, length-drop}
use Rattle.std.specs.Prelude.{slice_get, slice_set, option_map}
use Rattle.ec_code.specs.Activations.{opened}
use Rattle.ec_code.specs.Steps.{Machine, Goes, with_variable, act, gives}
use Rattle.ec_code.specs.declared.code.Line.{Line}
use Rattle.ec_code.specs.declared.code.Op.{Op}
use Rattle.ec_code.specs.declared.code.Variable.TheVariants as variable
use Rattle.ec_types.specs.declared.conform.static_type.StaticType.{StaticType}
use Rattle.ec_core.specs.declared.Operation.{Operation}
use Rattle.ec_emission.proofs.Expressions.{found}
use Rattle.ec_emission.proofs.Forms.{both_true, not_true}
use Rattle.ec_emission.proofs.Operations.{placed_all}
use Rattle.ec_emission.proofs.Turns.{Placed, placed_first, placed_second}
use Rattle.ec_emission.specs.Statements.{given, is_given, are_given, defaults_from, default_ops, leave_ops, body_done, operation_ops}
use Rattle.ec_emission.specs.Statements.{operation_fits}
use Rattle.ec_meaning.specs.Meaning.{defaults}
use Rattle.ec_meaning.specs.Programs.{Source}
use Rattle.ec_meaning.specs.Types.{kind_of}
use Rattle.ec_emission.specs.Ops.{ops}
use Rattle.ec_emission.proofs.Walking.{from, from_done, one_op}
use Rattle.ec_world.specs.Values.{default_of}
use Rattle.ec_world.specs.declared.value.Value.{Value}
use Rattle.ec_world.specs.declared.value.Value.TheVariants as value

set_middle : (before rest : List Value) (x v : Value) → slice_set (before ++ x ∷ rest) (length before) v ≡ before ++ v ∷ rest
set_middle [] rest x v = refl
set_middle (y ∷ before) rest x v = ap (λ r. y ∷ r) (set_middle before rest x v)

module _ (s : Source) (captured : ℕ) (types : List StaticType) (literals : List (List ℕ)) (leaves : List Op)
    (own : ℕ) (lines : List Line) where
  abbrev Runs : ℕ → Machine → ℕ → Machine → Type 0
  Runs q m r n = from literals own lines q m ≡ from literals own lines r n

  -- a step that sets a variable
  sets : (q n : ℕ) (m : Machine) (v : Value) (o : Op) → slice_get (ops lines) q ≡ Some o →
      act literals own m o ≡ Goes (with_variable m (variable.Named n) v) 0 → Runs q m (suc q) (with_variable m (variable.Named n) v)
  sets q n m v o is does =
      let new : Machine = with_variable m (variable.Named n) v in
      let e : suc (q + 0) ≡ suc q = omega arith in
      one_op literals own lines q o m is
      ∙ ap (from_done literals own lines q m) does
      ∙ ap (λ k. from literals own lines k new) e

  at_next : (q : ℕ) (m new : Machine) → Runs q m (suc q) new → Runs q m (q + 1) new
  at_next q m new r = let e : suc q ≡ q + 1 = omega arith in r ∙ ap (λ k. from literals own lines k new) e

  one_given : (q n : ℕ) (m : Machine) (v : Value) → is_given literals v ≡ true →
      Placed (ops lines) q (given s captured types literals leaves n v) →
      Runs q m (q + length (given s captured types literals leaves n v)) (with_variable m (variable.Named n) v)
  one_given q n m (value.Int z) f p = at_next q m _ (sets q n m (value.Int z) _ p.0 refl)
  one_given q n m (value.Bool b) f p = at_next q m _ (sets q n m (value.Bool b) _ p.0 refl)
  one_given q n m (value.Str text) f p =
      at_next q m _
      (sets q n m (value.Str text) _ p.0 (ap (λ x. gives m (variable.Named n) (option_map value.Str x)) (found literals text f)))
  one_given q n m value.Nil f p = at_next q m _ (sets q n m value.Nil _ p.0 refl)
  one_given q n m (value.Ref oid) f p = not_true f

  defaults_run : (ts : List StaticType) (n : ℕ) (before : List Value) (q : ℕ) (m : Machine) → n ≡ length before →
      m.variables ≡ before ++ replicate (length ts) value.Nil → are_given literals ts ≡ true →
      Placed (ops lines) q (defaults_from s captured types literals leaves n ts) →
      Runs q m (q + length (defaults_from s captured types literals leaves n ts)) (record m { variables = before ++ defaults ts })
  defaults_run [] n before q m e h f p =
      let k : q ≡ q + 0 = omega arith in
      ap (λ j. from literals own lines j m) k ∙ ap (λ vs. from literals own lines (q + 0) (record m { variables = vs })) h
  defaults_run (t ∷ ts) n before q m e h f p =
      let v : Value = default_of (kind_of t) in
      let first : List Op = given s captured types literals leaves n v in
      let rest : List Op = defaults_from s captured types literals leaves (suc n) ts in
      let b = both_true (is_given literals v) (are_given literals ts) f in
      let new : Machine = with_variable m (variable.Named n) v in
      let more : List Value = before ++ v ∷ [] in
      let is_set : new.variables ≡ more ++ replicate (length ts) value.Nil =
      ap (λ vs. slice_set vs n v) h
      ∙ ap (λ i. slice_set (before ++ value.Nil ∷ replicate (length ts) value.Nil) i v) e
      ∙ set_middle before (replicate (length ts) value.Nil) value.Nil v
      ∙ sym (append_assoc before (v ∷ []) (replicate (length ts) value.Nil)) in
      let l : length more ≡ length before + 1 = length-append before (v ∷ []) in
      let next : suc n ≡ length more = omega arith in
      let r : ℕ = q + length first in
      let there = defaults_run ts (suc n) more r new next is_set b.1 (placed_second (ops lines) first rest q r refl p) in
      let k : length (first ++ rest) ≡ length first + length rest = length-append first rest in
      let end : r + length rest ≡ q + length (first ++ rest) = omega arith in
      one_given q n m v b.0 (placed_first (ops lines) first rest q p)
      ∙ there
      ∙ ap (λ j. from literals own lines j (record m { variables = more ++ defaults ts })) end
      ∙ ap (λ vs. from literals own lines (q + length (first ++ rest)) (record m { variables = vs }))
      (append_assoc before (v ∷ []) (defaults ts))

-- Behind the entry all variables are there: the arguments, and nil; the code of the defaults gives them their defaults.
pub defaults_given : (s : Source) (captured : ℕ) (literals : List (List ℕ)) (o : Operation) (own : ℕ) (lines : List Line)
    (m : Machine) (arguments : List Value) → ops lines ≡ operation_ops s captured literals o →
    operation_fits s captured literals o ≡ true → length arguments ≡ o.parameters →
    m.variables ≡ opened arguments (length o.variables) →
    from literals own lines 1 m
    ≡ from
    literals
    own
    lines
    (suc (length (default_ops s captured literals o)))
    (record m { variables = arguments ++ defaults (drop (length arguments) o.variables) })
defaults_given s captured literals o own lines m arguments is f n h =
    let body = body_done s captured literals o in
    let types : List StaticType = drop o.parameters o.variables in
    let a = both_true body.fits _ f in
    let b = both_true _ (are_given literals types) a.1 in
    let first : List Op = default_ops s captured literals o in
    let count : length types ≡ length o.variables - o.parameters = length-drop o.parameters o.variables in
    let k : length o.variables - length arguments ≡ length types = omega arith in
    let p : Placed (ops lines) 1 first =
    subst (λ c. Placed c 1 first) (sym is)
    (placed_first (operation_ops s captured literals o) first (body.code 0 ++ leave_ops o) 1
    (placed_all (operation_ops s captured literals o)).1) in
    let e : 1 + length first ≡ suc (length first) = omega arith in
    defaults_run s captured o.variables literals (leave_ops o) own lines types o.parameters arguments 1 m (sym n)
    (h ∙ ap (λ j. arguments ++ replicate j value.Nil) k) b.1 p
    ∙ ap (λ j. from literals own lines j (record m { variables = arguments ++ defaults types })) e
    ∙ ap
    (λ j.
    from literals own lines (suc (length first)) (record m { variables = arguments ++ defaults (drop j o.variables) })) (sym n)
