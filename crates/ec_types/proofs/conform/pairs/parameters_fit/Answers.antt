use Rattle.std.proofs.Common.{◌≡◌, ◌≢◌, Bool, true, false, ◌&&◌, List, [], ◌∷◌, length, refl, arith}
use Rattle.ec_types.specs.Conforms.{Relation, conforms_in, parameters_fit}
use Rattle.ec_types.specs.declared.conform.named_type.NamedType.{NamedType}
use Rattle.ec_types.specs.declared.conform.static_type.StaticType.{StaticType}
use Rattle.ec_types.proofs.conform.pairs.parameters_fit.Goals as goal

and_false : (b c : Bool) → false ≡ c → false ≡ (b && c)
and_false true c h = h
and_false false c h = refl

unlike : (types : List NamedType) (r : Relation) (ws ps : List StaticType) → length ws ≢ length ps
    → false ≡ parameters_fit types r ws ps
unlike types r [] [] h = absurd (h refl)
unlike types r [] (p ∷ ps) h = refl
unlike types r (w ∷ ws) [] h = refl
unlike types r (w ∷ ws) (p ∷ ps) h =
    and_false (conforms_in types r w p) (parameters_fit types r ws ps) (unlike types r ws ps (λ e. h (omega (arith, e))))

pub returns-then-wanted-given : goal.returns-then-wanted-given
returns-then-wanted-given c = unlike _ _ _ _ c.if-wanted-given.true
