-- What is found of an expression, and left behind it, by its form.
use Rattle.std.proofs.Common.{◌≡◌, Bool, List, [], ◌∷◌, ◌++◌, map, Option, Some, refl, sym, ap, ◌∙◌, append_assoc}
use Rattle.std.proofs.lemmas.List.{append-nil}
use Rattle.ec_ast.specs.declared.Comparison.{Comparison}
use Rattle.ec_ast.specs.declared.Span.{Span}
use Rattle.ec_ast.specs.declared.Expression.TheOpen.{Expression-F}
use Rattle.ec_types.specs.declared.conform.static_type.StaticType.{StaticType}
use Rattle.ec_judge.specs.declared.walk.Walk.{Walk}
use Rattle.ec_judge.specs.Walks.{walked, over_layer, over_operand, over_operands, over_part, type_of_sum as last_of_sum}
use Rattle.ec_judge.proofs.Walks.{walked_walked}
use Rattle.ec_rules.specs.Judging.{type_of_sum}
use Rattle.ec_rules.specs.Lists.{each}
use Rattle.ec_rules.specs.Operands.{added_in, comparison_faults, result_type, sum_faults, wants, wants_all}
use Rattle.ec_rules.specs.Parts.{Part, FactorPart, AddendPart, value_in, values_in, faults_in, uses_in}
use Rattle.ec_rules.specs.declared.StaticFault.{StaticFault}
use Rattle.ec_rules.specs.Captures.{Use}
use Rattle.ec_rules.specs.declared.operands.Wanted.TheVariants as wanted
use Rattle.ec_types.specs.declared.scopes.scope.Scope.{Scope}

pub same_walked : (w : Walk) (f g : List StaticFault) (u v : List Use) → f ≡ g → u ≡ v → walked w f u ≡ walked w g v
same_walked w f g u v e h = ap (λ x. walked w x u) e ∙ ap (walked w g) h

regrouped : {A : Type 0} (a b c : List A) → a ++ (b ++ c) ≡ (a ++ b) ++ (c ++ [])
regrouped a b c = simp (append-nil, append_assoc) refl

-- ---- one operand

pub one_operand : (w : Walk) (p : Part) (own : List StaticFault) →
    over_operand w p own ≡ walked w ((faults_in w.scope p ++ []) ++ (own ++ [])) (uses_in w.scope p ++ [])
one_operand w p own = simp append-nil refl

pub parenthesised_walk : (needed : Bool) (w : Walk) (p : Part) (at : Span) →
    over_part w p ≡ over_layer needed w (Expression-F.Parenthesised p at)
parenthesised_walk needed w p at = simp append-nil refl

pub node_at_walk : (needed : Bool) (w : Walk) (p : Part) (at word : Span) →
    over_operand w p (wants wanted.Integer (value_in w.scope p)) ≡ over_layer needed w (Expression-F.NodeAt p at word)
node_at_walk needed w p at word = one_operand w p (wants wanted.Integer (value_in w.scope p))

pub negative_walk : (needed : Bool) (w : Walk) (p : Part) (at : Span) →
    over_operand w p (wants wanted.Integer (value_in w.scope p)) ≡ over_layer needed w (Expression-F.Negative p at)
negative_walk needed w p at = one_operand w p (wants wanted.Integer (value_in w.scope p))

pub is_fixed_walk : (needed : Bool) (w : Walk) (p : Part) (at : Span) →
    over_operand w p (wants wanted.Reference (value_in w.scope p)) ≡ over_layer needed w (Expression-F.IsFixed p at)
is_fixed_walk needed w p at = one_operand w p (wants wanted.Reference (value_in w.scope p))

pub not_walk : (needed : Bool) (w : Walk) (p : Part) (at : Span) →
    over_operand w p (wants wanted.Boolean (value_in w.scope p)) ≡ over_layer needed w (Expression-F.Not p at)
not_walk needed w p at = one_operand w p (wants wanted.Boolean (value_in w.scope p))

-- ---- several operands, the first of them before the others

module _ (w : Walk) (p : Part) where
  abbrev behind_first : List Part → List StaticFault → Walk
  behind_first more own = over_operands (over_part w p) more own

  several : (more : List Part) (own : List StaticFault) →
      behind_first more own ≡ walked w (each (faults_in w.scope) (p ∷ more) ++ (own ++ [])) (each (uses_in w.scope) (p ∷ more))
  unfolding walked
  several more own =
      walked_walked w (faults_in w.scope p) (each (faults_in w.scope) more ++ own) (uses_in w.scope p) (each (uses_in w.scope) more)
      ∙ ap (λ f. walked w f (each (uses_in w.scope) (p ∷ more))) (regrouped (faults_in w.scope p) (each (faults_in w.scope) more) own)

  pub compare_walk : (needed : Bool) (op : Comparison) (at : Span) (q : Part) →
      over_operand (over_part w p) q (comparison_faults op (value_in w.scope p) (value_in w.scope q)) ≡ over_layer needed w
      (Expression-F.Compare p op at q)
  unfolding walked
  compare_walk needed op at q =
      let own = comparison_faults op (value_in w.scope p) (value_in w.scope q) in
      walked_walked w (faults_in w.scope p) (faults_in w.scope q ++ own) (uses_in w.scope p) (uses_in w.scope q)
      ∙ same_walked w _ _ _ _ (simp (append-nil, append_assoc) refl)
      (ap (λ u. uses_in w.scope p ++ u) (sym (append-nil (uses_in w.scope q))))

  pub term_walk : (needed : Bool) (factors : List FactorPart) →
      behind_first (map (λ f. f.value) factors) (wants_all wanted.Integer
      (value_in w.scope p ∷ map (λ f. value_in w.scope f.value) factors))
      ≡ over_layer needed w (Expression-F.Term p factors)
  term_walk needed factors =
      several (map (λ f. f.value) factors) (wants_all wanted.Integer (value_in w.scope p ∷ map (λ f. value_in w.scope f.value) factors))

  pub and_walk : (needed : Bool) (more : List Part) →
      behind_first more (wants_all wanted.Boolean (values_in w.scope (p ∷ more))) ≡ over_layer needed w (Expression-F.And p more)
  and_walk needed more = several more (wants_all wanted.Boolean (values_in w.scope (p ∷ more)))

  pub or_walk : (needed : Bool) (more : List Part) →
      behind_first more (wants_all wanted.Boolean (values_in w.scope (p ∷ more))) ≡ over_layer needed w (Expression-F.Or p more)
  or_walk needed more = several more (wants_all wanted.Boolean (values_in w.scope (p ∷ more)))

  -- Its first token is that of its first operand.
  pub sum_walk : (needed : Bool) (addends : List AddendPart) → (value_in w.scope p).at ≡ p.at →
      behind_first (map (λ a. a.value) addends)
      (sum_faults (value_in w.scope p).at (value_in w.scope p).is_clean (value_in w.scope p).of (map (added_in w.scope) addends))
      ≡ over_layer needed w (Expression-F.Sum p addends)
  sum_walk needed addends e =
      rw e (several (map (λ a. a.value) addends) (sum_faults p.at (value_in w.scope p).is_clean (value_in w.scope p).of
      (map (added_in w.scope) addends)))

-- ---- sums

module _ (scope : Scope) where
  pub last_operator : (first : Option StaticType) (addends : List AddendPart) →
      last_of_sum first (map (added_in scope) addends) ≡ type_of_sum first addends
  last_operator first [] = refl
  last_operator first (a ∷ more) = last_operator (Some (result_type a.operator)) more

  pub values_of_addends : (addends : List AddendPart) → map (λ a. a.value) (map (added_in scope) addends) ≡ map
      (λ a. value_in scope a.value) addends
  values_of_addends [] = refl
  values_of_addends (a ∷ more) = ap (λ vs. value_in scope a.value ∷ vs) (values_of_addends more)
