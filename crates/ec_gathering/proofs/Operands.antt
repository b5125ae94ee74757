-- The operands of a stop that asks for a move: an object and where it is to go, so no texts. It is no action on the own object.
use Rattle.std.proofs.Common.{◌≡◌, ℕ, zero, suc, Bool, true, false, List, [], ◌∷◌, Option, Some, refl, subst, arith}
use Rattle.std.specs.Prelude.{slice_get}
use Rattle.ec_code.specs.Fine.{FineStopIf}
use Rattle.ec_code.specs.Typing.{Declared}
use Rattle.ec_code.specs.declared.code.Operation.{Operation}
use Rattle.ec_code.specs.declared.code.Parts.{Parts}
use Rattle.ec_types.specs.declared.conform.static_type.StaticType.{StaticType}
use Rattle.ec_world.specs.Doings.{doing_of}
use Rattle.ec_world.specs.Group.{Has}
use Rattle.ec_world.specs.Sights.{Sight}
use Rattle.ec_world.specs.declared.doing.Doing.TheVariants.{Moves}
use Rattle.ec_world.specs.declared.stop.Stop.{Stop}
use Rattle.ec_world.specs.declared.stop.Stop.TheVariants as stop
use Rattle.ec_world.specs.declared.stop.Who.{Who}
use Rattle.ec_world.specs.declared.value.Value.{Value}
use Rattle.ec_world.specs.declared.value.Value.TheVariants.{Ref, Str}

-- two references
pub record AreReferences (vs : List Value) : Type 0 where
  pub object : ℕ
  pub target : ℕ
  pub are : vs ≡ Ref object ∷ Ref target ∷ []

two_references : (s : Sight) (who : Who) (action : Stop) (vs : List Value) (members : List ℕ) (target : ℕ) (fixes : Option ℕ) →
    doing_of s who action vs ≡ Some (Moves members target fixes) → AreReferences vs
two_references s who action vs members target fixes e = grind arith

no_text_in : (object target : ℕ) (text : List ℕ) → Has (Ref object ∷ Ref target ∷ []) (Str text) → ⊥
no_text_in object target text h = by h.at h.is
  where
    by : (i : ℕ) → slice_get (Ref object ∷ Ref target ∷ []) i ≡ Some (Str text) → ⊥
    by zero e = cc
    by (suc zero) e = cc
    by (suc (suc i)) e = cc

pub no_text_moves : (s : Sight) (who : Who) (action : Stop) (vs : List Value) (members : List ℕ) (target : ℕ) (fixes : Option ℕ) →
    doing_of s who action vs ≡ Some (Moves members target fixes) → (text : List ℕ) → Has vs (Str text) → ⊥
no_text_moves s who action vs members target fixes e text h =
    let are = two_references s who action vs members target fixes e in
    no_text_in are.object are.target text (subst (λ (us : List Value). Has us (Str text)) are.are h)

-- ---- no action on the own object

invoke_moves_nothing : (s : Sight) (who : Who) (name line : ℕ) (vs : List Value) (members : List ℕ) (target : ℕ) (fixes : Option ℕ) →
    doing_of s who (stop.Invoke name line) vs ≡ Some (Moves members target fixes) → ⊥
invoke_moves_nothing s who name line vs members target fixes e = grind arith

pub moves_others : (d : Declared) (p : Parts) (number : ℕ) (o : Operation) (on_itself : Bool) (action : Stop) (ts : List StaticType)
    (gives : Option StaticType) (s : Sight) (who : Who) (vs : List Value) (members : List ℕ) (target : ℕ) (fixes : Option ℕ) →
    FineStopIf d p number o on_itself action ts gives → doing_of s who action vs ≡ Some (Moves members target fixes) →
    on_itself ≡ false
moves_others d p number o false action ts gives s who vs members target fixes f e = refl
moves_others d p number o true (stop.Invoke name line) ts gives s who vs members target fixes f e =
    absurd (invoke_moves_nothing s who name line vs members target fixes e)
moves_others d p number o true action ts gives s who vs members target fixes f e = absurd f
