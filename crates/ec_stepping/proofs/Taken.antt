-- Values of variables that are taken one by one.
use Rattle.std.proofs.Common.{◌≡◌, ℕ, ◌+◌, List, [], ◌∷◌, ◌++◌, Option, Some, None, drop, refl, ap, ◌∙◌}
use Rattle.std.specs.Prelude.{option_map, slice_get}
use Rattle.ec_base.proofs.Lists.{drop_at}
use Rattle.ec_code.specs.Steps.{Machine, and_others, variable_at, variables_at, with_others}
use Rattle.ec_code.specs.declared.code.Variable.{Variable}
use Rattle.ec_stepping.proofs.Opened.{moved}
use Rattle.ec_world.specs.declared.value.Value.{Value}

-- with these in front, where there are any
abbrev pub behind : List Value → Option (List Value) → Option (List Value)
behind found vs = option_map (λ ws. found ++ ws) vs

one_behind : (found : List Value) (v : Value) (vs : Option (List Value)) → behind found (with_others v vs) ≡ behind (found ++ v ∷ []) vs
one_behind found v None = refl
one_behind found v (Some ws) = ap Some (moved found v ws)

module _ (m : Machine) (xs : List Variable) (n : ℕ) (x : Variable) (at : slice_get xs n ≡ Some x) where
  pub taken : (found : List Value) (v : Value) → variable_at m x ≡ Some v →
      behind found (variables_at m (drop n xs)) ≡ behind (found ++ v ∷ []) (variables_at m (drop (n + 1) xs))
  taken found v is =
      ap (λ l. behind found (variables_at m l)) (drop_at xs n x at)
      ∙ ap (λ o. behind found (and_others o (variables_at m (drop (n + 1) xs)))) is
      ∙ one_behind found v (variables_at m (drop (n + 1) xs))

  pub missing : (found : List Value) → variable_at m x ≡ None → behind found (variables_at m (drop n xs)) ≡ None
  missing found is =
      ap (λ l. behind found (variables_at m l)) (drop_at xs n x at)
      ∙ ap (λ o. behind found (and_others o (variables_at m (drop (n + 1) xs)))) is
