-- The operands of a stop are the values of its variables.
use Rattle.std.proofs.Common.{◌≡◌, List, [], ◌∷◌, Option, Some, None, refl, sym, ◌∙◌, subst}
use Rattle.ec_code.specs.Steps.{Machine, and_others, variable_at, variables_at}
use Rattle.ec_code.specs.declared.code.Variable.{Variable}
use Rattle.ec_code.proofs.Reading.{machine_held}
use Rattle.ec_code.specs.SoundValues.{AreHeld}
use Rattle.ec_world.specs.declared.value.Value.{Value}

pub none_held : (variables temporaries : List Value) (xs : List Variable) → xs ≡ [] → AreHeld xs variables temporaries []
none_held variables temporaries xs e = subst (λ ys. AreHeld ys variables temporaries []) (sym e) tt

-- what is read of a machine
pub all_held : (m : Machine) (xs : List Variable) (vs : List Value) → variables_at m xs ≡ Some vs →
    AreHeld xs m.variables m.temporaries vs
all_held m [] [] e = tt
all_held m [] (v ∷ vs) e = cc
all_held m (x ∷ xs) vs e = by (variable_at m x) refl (variables_at m xs) (λ us g. all_held m xs us g) e
  where
    by : (o : Option Value) → variable_at m x ≡ o → (os : Option (List Value)) →
        ((us : List Value) → os ≡ Some us → AreHeld xs m.variables m.temporaries us) → and_others o os ≡ Some vs →
        AreHeld (x ∷ xs) m.variables m.temporaries vs
    by None f os g h = cc
    by (Some v) f None g h = cc
    by (Some v) f (Some us) g h =
        let both : v ∷ us ≡ vs = cc in
        subst (λ ws. AreHeld (x ∷ xs) m.variables m.temporaries ws) both (sym (machine_held m x) ∙ f, g us refl)
