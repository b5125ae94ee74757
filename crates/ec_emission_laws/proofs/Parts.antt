-- What is known of the parts of a program by those of the source that it is lowered from.
use Rattle.std.proofs.Common.{◌≡◌, ℕ, zero, suc, List, [], ◌∷◌, length, map, All, Some, refl, ap, ap₂, ◌∙◌}
use Rattle.std.proofs.Common.{subst, arith}
use Rattle.std.specs.Prelude.{slice_get}
use Rattle.ec_code.specs.Typing as of_code
use Rattle.ec_code.specs.declared.code.Line.{Line}
use Rattle.ec_code.specs.declared.code.Op.{Op}
use Rattle.ec_code.specs.declared.code.Operation.{Operation as Made}
use Rattle.ec_code.specs.declared.code.Variable.{Variable}
use Rattle.ec_types.specs.declared.conform.static_type.Plain.{Plain as PlainStatic}
use Rattle.ec_types.specs.declared.conform.static_type.Plain.TheVariants as static
use Rattle.ec_types.specs.declared.conform.static_type.StaticType.{StaticType}
use Rattle.ec_types.specs.declared.conform.static_type.StaticType.TheVariants as type
use Rattle.ec_core.specs.declared.Constant.{Constant}
use Rattle.ec_core.specs.declared.Operation.{Operation}
use Rattle.ec_emission.specs.Lowered.{HasLines, IsOperationOf}
use Rattle.ec_emission.specs.Types.{Around, behind, lines_of}
use Rattle.ec_meaning.specs.Programs.{Source}
use Rattle.ec_meaning.specs.Types as of_source
use Rattle.ec_emission.specs.Ops.{ops}
use Rattle.ec_world.specs.Agree.{AllTwo}

-- ---- kinds of values

plain_kind : (of : PlainStatic) → of_code.plain_kind of ≡ of_source.plain_kind of
plain_kind static.Integer = refl
plain_kind static.Boolean = refl
plain_kind static.String = refl
plain_kind static.Any = refl
plain_kind static.Node = refl
plain_kind (static.Named n) = refl

same_kind : (of : StaticType) → of_code.kind_of of ≡ of_source.kind_of of
same_kind (type.Plain of) = plain_kind of
same_kind (type.Vector inner of) = refl
same_kind type.Nil = refl
same_kind type.Unknown = refl

pub constant_kinds : (cs : List Constant) →
    map of_code.kind_of (map (λ (c : Constant). c.of) cs) ≡ map (λ (c : Constant). of_source.kind_of c.of) cs
constant_kinds [] = refl
constant_kinds (c ∷ cs) = ap₂ (λ k ks. k ∷ ks) (same_kind c.of) (constant_kinds cs)

-- ---- lines

lines_have : (w : Around) (ts : List StaticType) (steps : List Op) (lists : List (List Variable)) → length lists ≡ length steps →
    ops (lines_of w ts steps lists) ≡ steps
lines_have w ts [] lists e = refl
lines_have w ts (o ∷ steps) [] e = absurd (omega arith)
lines_have w ts (o ∷ steps) (xs ∷ lists) e = ap (λ r. o ∷ r) (lines_have w (behind w ts o) steps lists (omega arith))

pub steps_are : (w : Around) (steps : List Op) (code : List Line) → HasLines w steps code → ops code ≡ steps
steps_are w steps code h = ap ops h.lines ∙ lines_have w [] steps h.lists h.count

-- ---- operations

pub all_at : {A : Type 0} (P : A → Type 0) (xs : List A) → All P xs → (n : ℕ) (x : A) → slice_get xs n ≡ Some x → P x
all_at P [] h n x e = cc
all_at P (y ∷ ys) h zero x e = let k : y ≡ x = cc in subst P k (h 0 y (omega arith))
all_at P (y ∷ ys) h (suc n) x e = all_at P ys (λ i d l. h (suc i) d (omega arith)) n x e

-- the source's operation of which one of the program is made
pub record MadeOf (s : Source) (os : List Operation) (n : ℕ) (m : Made) : Type 0 where
  pub operation : Operation
  pub is : slice_get os n ≡ Some operation
  pub made : IsOperationOf s operation m

pub made_of : (s : Source) (os : List Operation) (ms : List Made) → AllTwo (IsOperationOf s) os ms → (n : ℕ) (m : Made) →
    slice_get ms n ≡ Some m → MadeOf s os n m
made_of s [] [] h n m e = cc
made_of s [] (x ∷ ms) h n m e = absurd h
made_of s (o ∷ os) [] h n m e = absurd h
made_of s (o ∷ os) (x ∷ ms) h zero m e =
    let k : x ≡ m = cc in record { operation = o; is = refl; made = subst (λ z. IsOperationOf s o z) k h.0 }
made_of s (o ∷ os) (x ∷ ms) h (suc n) m e =
    let r = made_of s os ms h.1 n m e in record { operation = r.operation; is = r.is; made = r.made }
