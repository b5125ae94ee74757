-- Each expression in which the numbers are below 2^31 has code with small numbers.
use Rattle.std.proofs.Common.{◌≡◌, ℕ, suc, Bool, true, false, List, [], ◌∷◌, ◌++◌, map, pos, sym, subst}
use Rattle.std.specs.List.{AllByRecursion as Each}
use Rattle.ec_code.specs.declared.code.Op.{Op}
use Rattle.ec_code.specs.declared.code.Op.TheVariants as op
use Rattle.ec_code.specs.declared.code.StopRow.{StopRow}
use Rattle.ec_core.specs.declared.Addend.{Addend, roll-Addend, map-Addend, fold-Addend, fold-roll-Addend}
use Rattle.ec_core.specs.declared.Expression.{Expression, roll-Expression, map-Expression, ind-Expression, fold-roll-Expression}
use Rattle.ec_core.specs.declared.Expression.TheOpen.{Expression-F, Link-F, Addend-F, Factor-F}
use Rattle.ec_core.specs.declared.Factor.{Factor, roll-Factor, map-Factor, fold-Factor, fold-roll-Factor}
use Rattle.ec_core.specs.declared.Link.{Link, roll-Link, map-Link, fold-Link, fold-roll-Link}
use Rattle.ec_core_laws.specs.Numbers.{addend_numbers, expression_numbers, factor_numbers, link_numbers, numbers_in, numbers_in_addend}
use Rattle.ec_core_laws.specs.Numbers.{numbers_in_factor, numbers_in_link}
use Rattle.ec_core_laws.specs.TreeNumbers.{Fits, Numbers, joined}
use Rattle.ec_emission.specs.Expressions.{Applied, Emitted, Following, addend_code, emitted, expression_code, factor_code, link_code}
use Rattle.ec_emission.specs.Expressions.{stop_order}
use Rattle.ec_emission.specs.Expressions.{all_code, by_code, fetch_all, inverted}
use Rattle.ec_meaning.specs.Programs.{Source}
use Rattle.ec_emission_laws.proofs.Emitted.{Small, SmallApplied, SmallEmitted, SmallFollowing, addend_small, all_small, applied_small}
use Rattle.ec_emission_laws.proofs.Emitted.{both}
use Rattle.ec_emission_laws.proofs.Emitted.{chain_small, coded_small, comparison_small, conditional_small, factor_small, fetches_small}
use Rattle.ec_emission_laws.proofs.Emitted.{inverted_small, itself_small, leaf_small, needed_small, negated_small, read_small}
use Rattle.ec_emission.specs.Leaves.{Number, Truth, Nil}
use Rattle.ec_emission_laws.proofs.Lists.{each_left, each_right}

abbrev pub AllFit : Numbers → Type 0
AllFit ns = Each Fits ns

module _ (s : Source) (captured count : ℕ) (literals : List (List ℕ)) where
  abbrev of_layer : Expression-F Emitted Following Applied Applied → Emitted
  of_layer = expression_code s captured count literals

  abbrev of_link_layer : Link-F Emitted Following Applied Applied → Following
  of_link_layer = link_code s captured count literals

  abbrev of_addend_layer : Addend-F Emitted Following Applied Applied → Applied
  of_addend_layer = addend_code s captured count literals

  abbrev of_factor_layer : Factor-F Emitted Following Applied Applied → Applied
  of_factor_layer = factor_code s captured count literals

  abbrev code_of : Expression → Emitted
  code_of = emitted s captured count literals

  abbrev of_link : Link → Following
  of_link = fold-Link Emitted Following Applied Applied of_layer of_link_layer of_addend_layer of_factor_layer

  abbrev of_addend : Addend → Applied
  of_addend = fold-Addend Emitted Following Applied Applied of_layer of_link_layer of_addend_layer of_factor_layer

  abbrev of_factor : Factor → Applied
  of_factor = fold-Factor Emitted Following Applied Applied of_layer of_link_layer of_addend_layer of_factor_layer

  -- ---- what is shown of each part

  abbrev IsSmall : Expression → Type 0
  IsSmall x = AllFit (numbers_in x) → SmallEmitted (code_of x)

  abbrev LinkIs : Link → Type 0
  LinkIs x = AllFit (numbers_in_link x) → SmallFollowing (of_link x)

  abbrev AddendIs : Addend → Type 0
  AddendIs x = AllFit (numbers_in_addend x) → SmallApplied (of_addend x)

  abbrev FactorIs : Factor → Type 0
  FactorIs x = AllFit (numbers_in_factor x) → SmallApplied (of_factor x)

  abbrev ExpressionHeld : Type 0
  ExpressionHeld = (x : Expression) × IsSmall x

  abbrev LinkHeld : Type 0
  LinkHeld = (x : Link) × LinkIs x

  abbrev AddendHeld : Type 0
  AddendHeld = (x : Addend) × AddendIs x

  abbrev FactorHeld : Type 0
  FactorHeld = (x : Factor) × FactorIs x

  abbrev bare_x : ExpressionHeld → Expression
  bare_x x = x.0

  abbrev bare_l : LinkHeld → Link
  bare_l x = x.0

  abbrev bare_a : AddendHeld → Addend
  bare_a x = x.0

  abbrev bare_f : FactorHeld → Factor
  bare_f x = x.0

  abbrev bare : Expression-F ExpressionHeld LinkHeld AddendHeld FactorHeld → Expression-F Expression Link Addend Factor
  bare = map-Expression ExpressionHeld LinkHeld AddendHeld FactorHeld Expression Link Addend Factor bare_x bare_l bare_a bare_f

  abbrev bare_link : Link-F ExpressionHeld LinkHeld AddendHeld FactorHeld → Link-F Expression Link Addend Factor
  bare_link = map-Link ExpressionHeld LinkHeld AddendHeld FactorHeld Expression Link Addend Factor bare_x bare_l bare_a bare_f

  abbrev bare_addend : Addend-F ExpressionHeld LinkHeld AddendHeld FactorHeld → Addend-F Expression Link Addend Factor
  bare_addend = map-Addend ExpressionHeld LinkHeld AddendHeld FactorHeld Expression Link Addend Factor bare_x bare_l bare_a bare_f

  abbrev bare_factor : Factor-F ExpressionHeld LinkHeld AddendHeld FactorHeld → Factor-F Expression Link Addend Factor
  bare_factor = map-Factor ExpressionHeld LinkHeld AddendHeld FactorHeld Expression Link Addend Factor bare_x bare_l bare_a bare_f

  abbrev coded : Expression-F Expression Link Addend Factor → Expression-F Emitted Following Applied Applied
  coded = map-Expression Expression Link Addend Factor Emitted Following Applied Applied code_of of_link of_addend of_factor

  abbrev coded_link : Link-F Expression Link Addend Factor → Link-F Emitted Following Applied Applied
  coded_link = map-Link Expression Link Addend Factor Emitted Following Applied Applied code_of of_link of_addend of_factor

  abbrev numbered : Expression-F Expression Link Addend Factor → Expression-F Numbers Numbers Numbers Numbers
  numbered =
      map-Expression Expression Link Addend Factor Numbers Numbers Numbers Numbers numbers_in numbers_in_link numbers_in_addend
      numbers_in_factor

  abbrev numbered_link : Link-F Expression Link Addend Factor → Link-F Numbers Numbers Numbers Numbers
  numbered_link =
      map-Link Expression Link Addend Factor Numbers Numbers Numbers Numbers numbers_in numbers_in_link numbers_in_addend
      numbers_in_factor

  -- ---- lists

  abbrev numbers_of_all : List ExpressionHeld → Numbers
  numbers_of_all xs = joined (map numbers_in (map bare_x xs))

  abbrev numbers_of_links : List LinkHeld → Numbers
  numbers_of_links xs = joined (map numbers_in_link (map bare_l xs))

  abbrev numbers_of_addends : List AddendHeld → Numbers
  numbers_of_addends xs = joined (map numbers_in_addend (map bare_a xs))

  abbrev numbers_of_factors : List FactorHeld → Numbers
  numbers_of_factors xs = joined (map numbers_in_factor (map bare_f xs))

  expressions_small : (xs : List ExpressionHeld) → AllFit (numbers_of_all xs) → Each SmallEmitted (map code_of (map bare_x xs))
  expressions_small [] n = tt
  expressions_small (x ∷ xs) n = (
    x.1 (each_left Fits (numbers_in x.0) (numbers_of_all xs) n),
    expressions_small xs (each_right Fits (numbers_in x.0) (numbers_of_all xs) n),
  )

  links_small : (xs : List LinkHeld) → AllFit (numbers_of_links xs) → Each SmallFollowing (map of_link (map bare_l xs))
  links_small [] n = tt
  links_small (x ∷ xs) n = (
    x.1 (each_left Fits (numbers_in_link x.0) (numbers_of_links xs) n),
    links_small xs (each_right Fits (numbers_in_link x.0) (numbers_of_links xs) n),
  )

  addends_small : (xs : List AddendHeld) → AllFit (numbers_of_addends xs) → Each SmallApplied (map of_addend (map bare_a xs))
  addends_small [] n = tt
  addends_small (x ∷ xs) n = (
    x.1 (each_left Fits (numbers_in_addend x.0) (numbers_of_addends xs) n),
    addends_small xs (each_right Fits (numbers_in_addend x.0) (numbers_of_addends xs) n),
  )

  factors_small : (xs : List FactorHeld) → AllFit (numbers_of_factors xs) → Each SmallApplied (map of_factor (map bare_f xs))
  factors_small [] n = tt
  factors_small (x ∷ xs) n = (
    x.1 (each_left Fits (numbers_in_factor x.0) (numbers_of_factors xs) n),
    factors_small xs (each_right Fits (numbers_in_factor x.0) (numbers_of_factors xs) n),
  )

  -- a value, and a stop behind it
  stop_small : (x : Emitted) → SmallEmitted x → (fits : Bool) (ops : ℕ → List Op) → ((h : ℕ) → Small (ops h))
      → SmallEmitted (by_code fits (λ h. x.code h ++ ops h))
  stop_small x k fits ops f = coded_small fits (λ h. x.code h ++ ops h) (λ h. both (x.code h) (ops h) (k.code h) (f h))

  -- ---- one layer

  abbrev Layer : Type 0
  Layer = Expression-F ExpressionHeld LinkHeld AddendHeld FactorHeld

  layer : (y : Layer) → AllFit (expression_numbers (numbered (bare y))) → SmallEmitted (of_layer (coded (bare y)))
  layer (Expression-F.Number k) n = leaf_small (Number (pos k)) (record { sfits = n.0 })
  layer (Expression-F.Literal text) n = coded_small _ _ (λ h. (tt, tt))
  layer (Expression-F.Truth b) n = leaf_small (Truth b) tt
  layer Expression-F.Nil n = leaf_small Nil tt
  layer Expression-F.Itself n = itself_small
  layer (Expression-F.Read p) n = read_small s captured count literals p
  layer Expression-F.NodeCount n = coded_small _ _ (λ h. (tt, tt))
  layer (Expression-F.NodeAt x at) n = stop_small (code_of x.0) (x.1 n) _ _ (λ h. (tt, tt))
  layer (Expression-F.NewVector of x at) n = stop_small (code_of x.0) (x.1 n) _ _ (λ h. (tt, tt))
  layer (Expression-F.Construct class places) n =
      coded_small _ _
      (λ h. both (fetch_all s captured count literals places h) _ (fetches_small s captured count literals places h) (tt, tt))
  layer (Expression-F.Create class xs) n =
      let k = expressions_small xs n in
      coded_small _ _ (λ h. both (all_code (map code_of (map bare_x xs)) h) _ (all_small (map code_of (map bare_x xs)) k h) (tt, tt))
  layer (Expression-F.Chain head links) n =
      chain_small (code_of head.0) (map of_link (map bare_l links))
      (head.1 (each_left Fits (numbers_in head.0) (numbers_of_links links) n))
      (links_small links (each_right Fits (numbers_in head.0) (numbers_of_links links) n))
  layer (Expression-F.Negative x) n = coded_small _ _ (negated_small (code_of x.0) (x.1 n))
  layer (Expression-F.Not x) n = conditional_small _ (inverted (code_of x.0)) (inverted_small (code_of x.0) (x.1 n))
  layer (Expression-F.View x of at) n = stop_small (code_of x.0) (x.1 n) _ _ (λ h. (tt, tt))
  layer (Expression-F.IsFixed x at) n = stop_small (code_of x.0) (x.1 n) _ _ (λ h. (tt, tt))
  layer (Expression-F.Term first factors) n =
      coded_small _ _
      (applied_small (map of_factor (map bare_f factors))
      (factors_small factors (each_right Fits (numbers_in first.0) (numbers_of_factors factors) n)) (code_of first.0)
      (first.1 (each_left Fits (numbers_in first.0) (numbers_of_factors factors) n)))
  layer (Expression-F.Sum first addends) n =
      coded_small _ _
      (applied_small (map of_addend (map bare_a addends))
      (addends_small addends (each_right Fits (numbers_in first.0) (numbers_of_addends addends) n)) (code_of first.0)
      (first.1 (each_left Fits (numbers_in first.0) (numbers_of_addends addends) n)))
  layer (Expression-F.Compare x how what y) n =
      comparison_small how (code_of x.0) (code_of y.0) (stop_order how what)
      (x.1 (each_left Fits (numbers_in x.0) (numbers_in y.0) n)) (y.1 (each_right Fits (numbers_in x.0) (numbers_in y.0) n))
  layer (Expression-F.And first more) n =
      let k = first.1 (each_left Fits (numbers_in first.0) (numbers_of_all more) n) in
      stop_small (code_of first.0) k _ _
      (needed_small false (map code_of (map bare_x more))
      (expressions_small more (each_right Fits (numbers_in first.0) (numbers_of_all more) n)))
  layer (Expression-F.Or first more) n =
      let k = first.1 (each_left Fits (numbers_in first.0) (numbers_of_all more) n) in
      stop_small (code_of first.0) k _ _
      (needed_small true (map code_of (map bare_x more))
      (expressions_small more (each_right Fits (numbers_in first.0) (numbers_of_all more) n)))

  arguments_small : (xs : List ExpressionHeld) → AllFit (numbers_of_all xs) → (h : ℕ) (row : StopRow)
      → Small (all_code (map code_of (map bare_x xs)) (suc h) ++ op.Rest row ∷ [])
  arguments_small xs n h row =
      both (all_code (map code_of (map bare_x xs)) (suc h)) (op.Rest row ∷ [])
      (all_small (map code_of (map bare_x xs)) (expressions_small xs n) (suc h)) (tt, tt)

  link_layer : (y : Link-F ExpressionHeld LinkHeld AddendHeld FactorHeld) → AllFit (link_numbers (numbered_link (bare_link y)))
      → SmallFollowing (of_link_layer (coded_link (bare_link y)))
  link_layer (Link-F.Invoke name xs result at) n =
      record { code = λ h. arguments_small xs n h _; own_code = λ h. arguments_small xs n h _ }
  link_layer (Link-F.Call builtin xs at) n = record { code = λ h. arguments_small xs n h _; own_code = λ h. tt }
  link_layer (Link-F.Element x of at) n =
      let k = x.1 n in
      record { code = λ h. both ((code_of x.0).code (suc h)) _ (k.code (suc h)) (tt, tt); own_code = λ h. tt }

  -- ---- the induction

  expression_from : (x : Expression-F Expression Link Addend Factor) (y : Layer) → bare y ≡ x → IsSmall (roll-Expression x)
  expression_from x y is =
      subst (λ z. IsSmall (roll-Expression z)) is
      (λ n.
      subst SmallEmitted
      (sym (fold-roll-Expression Emitted Following Applied Applied of_layer of_link_layer of_addend_layer of_factor_layer (bare y)))
      (layer y
      (subst AllFit
      (fold-roll-Expression Numbers Numbers Numbers Numbers expression_numbers link_numbers addend_numbers factor_numbers (bare y)) n)))

  link_from : (x : Link-F Expression Link Addend Factor) (y : Link-F ExpressionHeld LinkHeld AddendHeld FactorHeld) →
      bare_link y ≡ x → LinkIs (roll-Link x)
  link_from x y is =
      subst (λ z. LinkIs (roll-Link z)) is
      (λ n.
      subst SmallFollowing
      (sym (fold-roll-Link Emitted Following Applied Applied of_layer of_link_layer of_addend_layer of_factor_layer (bare_link y)))
      (link_layer y
      (subst AllFit
      (fold-roll-Link Numbers Numbers Numbers Numbers expression_numbers link_numbers addend_numbers factor_numbers (bare_link y)) n)))

  addend_from : (x : Addend-F Expression Link Addend Factor) (y : Addend-F ExpressionHeld LinkHeld AddendHeld FactorHeld) →
      bare_addend y ≡ x → AddendIs (roll-Addend x)
  addend_from x y is =
      subst (λ z. AddendIs (roll-Addend z)) is
      (λ n.
      subst SmallApplied
      (sym (fold-roll-Addend Emitted Following Applied Applied of_layer of_link_layer of_addend_layer of_factor_layer (bare_addend y)))
      (addend_small y.operator (code_of y.value.0) _ _
      (y.value.1
      (subst AllFit
      (fold-roll-Addend Numbers Numbers Numbers Numbers expression_numbers link_numbers addend_numbers factor_numbers (bare_addend y))
      n))))

  factor_from : (x : Factor-F Expression Link Addend Factor) (y : Factor-F ExpressionHeld LinkHeld AddendHeld FactorHeld) →
      bare_factor y ≡ x → FactorIs (roll-Factor x)
  factor_from x y is =
      subst (λ z. FactorIs (roll-Factor z)) is
      (λ n.
      subst SmallApplied
      (sym (fold-roll-Factor Emitted Following Applied Applied of_layer of_link_layer of_addend_layer of_factor_layer (bare_factor y)))
      (factor_small y.operator (code_of y.value.0) _ _
      (y.value.1
      (subst AllFit
      (fold-roll-Factor Numbers Numbers Numbers Numbers expression_numbers link_numbers addend_numbers factor_numbers (bare_factor y))
      n))))

  pub is_small : (x : Expression) → IsSmall x
  is_small = ind-Expression IsSmall LinkIs AddendIs FactorIs expression_from link_from addend_from factor_from
