-- The code of each expression that fits leads from what is held to its value: one induction over expressions.
use Rattle.std.proofs.Common.{◌≡◌, ℕ, suc, ◌&&◌, inr, Bool, true, false, List, [], ◌∷◌, ◌++◌, length, map, None}
use Rattle.std.proofs.Common.{pos, refl, sym, subst, true≢false}
use Rattle.std.proofs.lemmas.Bool.{and_parts}
use Rattle.ec_code.specs.Typing.{integer}
use Rattle.ec_code.specs.declared.code.Op.{Op}
use Rattle.ec_code.specs.declared.code.Op.TheVariants as op
use Rattle.ec_code.specs.declared.code.Test.TheVariants as test
use Rattle.ec_code.specs.declared.code.Variable.TheVariants as variable
use Rattle.ec_types.specs.Types.{named}
use Rattle.ec_core.specs.declared.Addend.{Addend, roll-Addend, map-Addend, fold-Addend, fold-roll-Addend}
use Rattle.ec_core.specs.declared.Expression.{Expression, roll-Expression, map-Expression, ind-Expression, fold-roll-Expression}
use Rattle.ec_core.specs.declared.Expression.TheOpen.{Expression-F, Link-F, Addend-F, Factor-F}
use Rattle.ec_core.specs.declared.Factor.{Factor, roll-Factor, map-Factor, fold-Factor, fold-roll-Factor}
use Rattle.ec_core.specs.declared.Link.{Link, roll-Link, map-Link, fold-Link, fold-roll-Link}
use Rattle.ec_emission.specs.Expressions.{Applied, Emitted, Following, addend_code, all_apply, all_code, all_fit, applied_code}
use Rattle.ec_emission.specs.Expressions.{builtin_type, chain, chain_code, emitted, expression_code, factor_code}
use Rattle.ec_emission.specs.Expressions.{fetch, fetch_all, fits_here, gives_result, kept, leaf_at, link_code, links_code}
use Rattle.ec_emission.specs.Expressions.{links_fit, links_give, literal_number, needed_code}
use Rattle.ec_emission.specs.Expressions.{by_code}
use Rattle.ec_emission.specs.Expressions.{own_call, own_code, stop_order, stops_at}
use Rattle.ec_core.specs.Literals.{Texts}
use Rattle.ec_runnable.proofs.Stops.{above, own_rests, rests}
use Rattle.ec_runnable.proofs.Uses.{Leads, Within, lead, nothing}
use Rattle.ec_runnable.proofs.Values.{Applies, Follows, IsClean}
use Rattle.ec_runnable.proofs.Values.{held_by, value}
use Rattle.ec_meaning.specs.Programs.{Source, class_number, line, name_number}
use Rattle.ec_meaning.specs.Steps.{stop_of}
use Rattle.ec_emission.specs.Leaves.{Number, Truth, Nil, temporary}
use Rattle.ec_world.specs.declared.stop.Stop.{Stop}
use Rattle.ec_world.specs.declared.stop.Stop.TheVariants as stop
use Rattle.ec_runnable.proofs.Forms.{as_leaf_clean, comparison_clean, fetch_each, fetch_one, inverted_clean, joined_applies}
use Rattle.ec_runnable.proofs.Forms.{multiplied_applies, negated_clean, one, same, skips, stop_at, then_stop_clean}

module _ (s : Source) (captured count : ℕ) (literals : Texts) where
  abbrev of_layer : Expression-F Emitted Following Applied Applied → Emitted
  of_layer = expression_code s captured count literals

  abbrev of_link_layer : Link-F Emitted Following Applied Applied → Following
  of_link_layer = link_code s captured count literals

  abbrev of_addend_layer : Addend-F Emitted Following Applied Applied → Applied
  of_addend_layer = addend_code s captured count literals

  abbrev of_factor_layer : Factor-F Emitted Following Applied Applied → Applied
  of_factor_layer = factor_code s captured count literals

  abbrev code_of : Expression → Emitted
  code_of = emitted s captured count literals

  abbrev of_link : Link → Following
  of_link = fold-Link Emitted Following Applied Applied of_layer of_link_layer of_addend_layer of_factor_layer

  abbrev of_addend : Addend → Applied
  of_addend = fold-Addend Emitted Following Applied Applied of_layer of_link_layer of_addend_layer of_factor_layer

  abbrev of_factor : Factor → Applied
  of_factor = fold-Factor Emitted Following Applied Applied of_layer of_link_layer of_addend_layer of_factor_layer

  abbrev ExpressionIs : Expression → Type 0
  ExpressionIs x = IsClean (emitted s captured count literals x)

  abbrev LinkIs : Link → Type 0
  LinkIs x = Follows (of_link x)

  abbrev AddendIs : Addend → Type 0
  AddendIs x = Applies (of_addend x)

  abbrev FactorIs : Factor → Type 0
  FactorIs x = Applies (of_factor x)

  abbrev ExpressionHeld : Type 0
  ExpressionHeld = (x : Expression) × ExpressionIs x

  abbrev LinkHeld : Type 0
  LinkHeld = (x : Link) × LinkIs x

  abbrev AddendHeld : Type 0
  AddendHeld = (x : Addend) × AddendIs x

  abbrev FactorHeld : Type 0
  FactorHeld = (x : Factor) × FactorIs x

  abbrev bare_x : ExpressionHeld → Expression
  bare_x x = x.0

  abbrev bare_l : LinkHeld → Link
  bare_l x = x.0

  abbrev bare_a : AddendHeld → Addend
  bare_a x = x.0

  abbrev bare_f : FactorHeld → Factor
  bare_f x = x.0

  abbrev Layer : Type 0
  Layer = Expression-F ExpressionHeld LinkHeld AddendHeld FactorHeld

  abbrev LinkLayer : Type 0
  LinkLayer = Link-F ExpressionHeld LinkHeld AddendHeld FactorHeld

  abbrev bare : Layer → Expression-F Expression Link Addend Factor
  bare = map-Expression ExpressionHeld LinkHeld AddendHeld FactorHeld Expression Link Addend Factor bare_x bare_l bare_a bare_f

  abbrev bare_link : LinkLayer → Link-F Expression Link Addend Factor
  bare_link = map-Link ExpressionHeld LinkHeld AddendHeld FactorHeld Expression Link Addend Factor bare_x bare_l bare_a bare_f

  abbrev bare_addend : Addend-F ExpressionHeld LinkHeld AddendHeld FactorHeld → Addend-F Expression Link Addend Factor
  bare_addend = map-Addend ExpressionHeld LinkHeld AddendHeld FactorHeld Expression Link Addend Factor bare_x bare_l bare_a bare_f

  abbrev bare_factor : Factor-F ExpressionHeld LinkHeld AddendHeld FactorHeld → Factor-F Expression Link Addend Factor
  bare_factor = map-Factor ExpressionHeld LinkHeld AddendHeld FactorHeld Expression Link Addend Factor bare_x bare_l bare_a bare_f

  abbrev coded : Expression-F Expression Link Addend Factor → Expression-F Emitted Following Applied Applied
  coded = map-Expression Expression Link Addend Factor Emitted Following Applied Applied code_of of_link of_addend of_factor

  abbrev coded_link : Link-F Expression Link Addend Factor → Link-F Emitted Following Applied Applied
  coded_link = map-Link Expression Link Addend Factor Emitted Following Applied Applied code_of of_link of_addend of_factor

  -- ---- lists of parts

  abbrev codes : List ExpressionHeld → List Emitted
  codes xs = map code_of (map bare_x xs)

  abbrev followings : List LinkHeld → List Following
  followings xs = map of_link (map bare_l xs)

  abbrev addends : List AddendHeld → List Applied
  addends xs = map of_addend (map bare_a xs)

  abbrev factors : List FactorHeld → List Applied
  factors xs = map of_factor (map bare_f xs)

  -- one above the other
  all_lead : (xs : List ExpressionHeld) → all_fit (codes xs) ≡ true → (hs : List Bool) →
      Leads (all_code (codes xs) (length hs)) hs (above hs (length (codes xs)))
  all_lead [] e hs = nothing
  all_lead (x ∷ xs) e hs =
      let p = and_parts (fits_here (code_of x.0)) (all_fit (codes xs)) e in
      lead ((code_of x.0).code (length hs)) _ (value (code_of x.0) x.1 p.0 hs) (all_lead xs p.1 (true ∷ hs))

  -- each of them passed over by what is known so far
  needed_lead : (wanted : Bool) (xs : List ExpressionHeld) → all_fit (codes xs) ≡ true → (hs : List Bool) →
      Leads (needed_code wanted (codes xs) (length hs)) (true ∷ hs) (true ∷ hs)
  needed_lead wanted [] e hs = nothing
  needed_lead wanted (x ∷ xs) e hs =
      let p = and_parts (fits_here (code_of x.0)) (all_fit (codes xs)) e in
      let ops : List Op = (code_of x.0).code (length hs) in
      lead (op.Branch (test.Holds (temporary (length hs))) wanted (length ops) ∷ ops) _
      (skips ops wanted hs (value (code_of x.0) x.1 p.0 hs)) (needed_lead wanted xs p.1 hs)

  needed_clean : (wanted : Bool) (x : ExpressionHeld) (xs : List ExpressionHeld) →
      IsClean
      (by_code (fits_here (code_of x.0) && all_fit (codes xs)) (λ h. (code_of x.0).code h ++ needed_code wanted (codes xs) h))
  needed_clean wanted x xs =
      held_by None false true (fits_here (code_of x.0) && all_fit (codes xs)) _
      (λ e hs.
      let p = and_parts (fits_here (code_of x.0)) (all_fit (codes xs)) e in
      lead ((code_of x.0).code (length hs)) _ (value (code_of x.0) x.1 p.0 hs) (needed_lead wanted xs p.1 hs))

  -- ---- links

  -- `gives` tells of the link before
  links_lead : (xs : List LinkHeld) (gives : Bool) → gives ≡ true → links_fit (followings xs) ≡ true → (hs : List Bool) →
      Leads (links_code (followings xs) (length hs)) (true ∷ hs) (links_give gives (followings xs) ∷ hs)
  links_lead [] gives g e hs = subst (λ (b : Bool). Leads [] (true ∷ hs) (b ∷ hs)) (sym g) nothing
  links_lead (x ∷ []) gives g e hs = lead ((of_link x.0).code (length hs)) [] (x.1.code e hs) nothing
  links_lead (x ∷ y ∷ ys) gives g e hs =
      let p = and_parts ((of_link x.0).gives && (of_link x.0).fits) (links_fit (followings (y ∷ ys))) e in
      let q = and_parts (of_link x.0).gives (of_link x.0).fits p.0 in
      lead ((of_link x.0).code (length hs)) _
      (subst (λ (b : Bool). Leads ((of_link x.0).code (length hs)) (true ∷ hs) (b ∷ hs)) q.0 (x.1.code q.1 hs))
      (links_lead (y ∷ ys) (of_link x.0).gives q.0 p.1 hs)

  -- the same on the own object
  own_lead : (x : LinkHeld) (xs : List LinkHeld) → (of_link x.0).is_call ≡ true → links_fit (followings (x ∷ xs)) ≡ true →
      (hs : List Bool) → Leads (own_code (followings (x ∷ xs)) (length hs)) (true ∷ hs) (links_give true (followings (x ∷ xs)) ∷ hs)
  own_lead x [] c e hs = lead ((of_link x.0).own_code (length hs)) [] (x.1.own c e hs) nothing
  own_lead x (y ∷ ys) c e hs =
      let p = and_parts ((of_link x.0).gives && (of_link x.0).fits) (links_fit (followings (y ∷ ys))) e in
      let q = and_parts (of_link x.0).gives (of_link x.0).fits p.0 in
      lead ((of_link x.0).own_code (length hs)) _
      (subst (λ (b : Bool). Leads ((of_link x.0).own_code (length hs)) (true ∷ hs) (b ∷ hs)) q.0 (x.1.own c q.1 hs))
      (links_lead (y ∷ ys) (of_link x.0).gives q.0 p.1 hs)

  chain_lead : (x : ExpressionHeld) (xs : List LinkHeld) → fits_here (code_of x.0) ≡ true → links_fit (followings xs) ≡ true →
      (hs : List Bool) (own : Bool) → own_call (code_of x.0).is_itself (followings xs) ≡ own →
      Leads (chain_code (code_of x.0) (followings xs) (length hs) own) hs (links_give true (followings xs) ∷ hs)
  chain_lead x xs e f hs false o =
      lead ((code_of x.0).code (length hs)) _ (value (code_of x.0) x.1 e hs) (links_lead xs true refl f hs)
  chain_lead x [] e f hs true o = absurd (true≢false (sym o))
  chain_lead x (y ∷ ys) e f hs true o =
      lead ((code_of x.0).code (length hs)) _ (value (code_of x.0) x.1 e hs)
      (own_lead y ys (and_parts (code_of x.0).is_itself (of_link y.0).is_call o).1 f hs)

  chain_clean : (x : ExpressionHeld) (xs : List LinkHeld) → IsClean (chain (code_of x.0) (followings xs))
  chain_clean x xs =
      held_by None false (links_give true (followings xs)) (fits_here (code_of x.0) && links_fit (followings xs)) _
      (λ e hs.
      let p = and_parts (fits_here (code_of x.0)) (links_fit (followings xs)) e in
      chain_lead x xs p.0 p.1 hs (own_call (code_of x.0).is_itself (followings xs)) refl)

  -- ---- sums and products

  addends_lead : (xs : List AddendHeld) → all_apply (addends xs) ≡ true → (x : Emitted) (hs from : List Bool) → Within hs from →
      Leads (x.code (length hs)) from (true ∷ hs) → Leads (applied_code (addends xs) x (length hs)) from (true ∷ hs)
  addends_lead [] e x hs from within k = k
  addends_lead (a ∷ rest) e x hs from within k =
      let p = and_parts (of_addend a.0).fits (all_apply (addends rest)) e in
      lead ((of_addend a.0).code x (length hs)) _ (a.1.code p.0 x hs from within k)
      (addends_lead rest p.1 kept hs (true ∷ hs) (λ d h. inr h) nothing)

  factors_lead : (xs : List FactorHeld) → all_apply (factors xs) ≡ true → (x : Emitted) (hs from : List Bool) → Within hs from →
      Leads (x.code (length hs)) from (true ∷ hs) → Leads (applied_code (factors xs) x (length hs)) from (true ∷ hs)
  factors_lead [] e x hs from within k = k
  factors_lead (a ∷ rest) e x hs from within k =
      let p = and_parts (of_factor a.0).fits (all_apply (factors rest)) e in
      lead ((of_factor a.0).code x (length hs)) _ (a.1.code p.0 x hs from within k)
      (factors_lead rest p.1 kept hs (true ∷ hs) (λ d h. inr h) nothing)

  -- ---- one layer

  layer : (y : Layer) → IsClean (of_layer (coded (bare y)))
  layer (Expression-F.Number n) = as_leaf_clean (Number (pos n))
  layer (Expression-F.Literal text) =
      held_by None false true _ (λ h. op.Literal (variable.Temporary h) (literal_number s captured count literals text) ∷ [])
      (λ e hs. one hs _ tt (λ uss. refl) (λ all place uss. tt))
  layer (Expression-F.Truth b) = as_leaf_clean (Truth b)
  layer Expression-F.Nil = as_leaf_clean Nil
  layer Expression-F.Itself =
      held_by None true true true (λ h. op.Itself (variable.Temporary h) ∷ [])
      (λ e hs. one hs _ tt (λ uss. refl) (λ all place uss. tt))
  layer (Expression-F.Read p) =
      held_by (leaf_at s captured count literals p) false true true (λ h. fetch s captured count literals (variable.Temporary h) p ∷ [])
      (λ e hs. fetch_one s captured count literals p hs)
  layer Expression-F.NodeCount =
      held_by None false true true (λ h. stops_at stop.NodeCount h 0 integer) (λ e hs. stop_at hs stop.NodeCount 0 integer)
  layer (Expression-F.NodeAt x at) = then_stop_clean (code_of x.0) _ _ x.1
  layer (Expression-F.NewVector of x at) = then_stop_clean (code_of x.0) _ _ x.1
  layer (Expression-F.Construct class places) =
      held_by None false true true _
      (λ e hs.
      lead (fetch_all s captured count literals places (length hs)) _ (fetch_each s captured count literals places hs)
      (stop_at hs (stop.New (class_number s class)) (length places) (named class)))
  layer (Expression-F.Create class xs) =
      held_by None false true (all_fit (codes xs)) _
      (λ e hs.
      lead (all_code (codes xs) (length hs)) _ (all_lead xs e hs)
      (stop_at hs (stop.New (class_number s class)) (length (codes xs)) (named class)))
  layer (Expression-F.Chain head xs) = chain_clean head xs
  layer (Expression-F.Negative x) = negated_clean (code_of x.0) x.1
  layer (Expression-F.Not x) = inverted_clean (code_of x.0) x.1
  layer (Expression-F.View x of at) = then_stop_clean (code_of x.0) _ _ x.1
  layer (Expression-F.IsFixed x at) = then_stop_clean (code_of x.0) _ _ x.1
  layer (Expression-F.Term first xs) =
      held_by None false true (fits_here (code_of first.0) && all_apply (factors xs)) _
      (λ e hs.
      let p = and_parts (fits_here (code_of first.0)) (all_apply (factors xs)) e in
      factors_lead xs p.1 (code_of first.0) hs hs (same hs) (value (code_of first.0) first.1 p.0 hs))
  layer (Expression-F.Sum first xs) =
      held_by None false true (fits_here (code_of first.0) && all_apply (addends xs)) _
      (λ e hs.
      let p = and_parts (fits_here (code_of first.0)) (all_apply (addends xs)) e in
      addends_lead xs p.1 (code_of first.0) hs hs (same hs) (value (code_of first.0) first.1 p.0 hs))
  layer (Expression-F.Compare x how what y) =
      comparison_clean how (code_of x.0) (code_of y.0) (stop_order how what) x.1 y.1
  layer (Expression-F.And first xs) = needed_clean false first xs
  layer (Expression-F.Or first xs) = needed_clean true first xs

  -- ---- links, and what stands to the right of operators

  link_layer : (y : LinkLayer) → Follows (of_link_layer (coded_link (bare_link y)))
  link_layer (Link-F.Invoke name xs result at) =
      let action : Stop = stop.Invoke (name_number s name) (line s at) in
      record {
        code = λ e hs.
            lead (all_code (codes xs) (suc (length hs))) _ (all_lead xs e (true ∷ hs))
            (rests hs action (suc (length (codes xs))) result);
        own = λ c e hs.
            lead (all_code (codes xs) (suc (length hs))) _ (all_lead xs e (true ∷ hs))
            (own_rests hs action (suc (length (codes xs))) result);
      }
  link_layer (Link-F.Call builtin xs at) = record {
    code = λ e hs.
        lead (all_code (codes xs) (suc (length hs))) _ (all_lead xs e (true ∷ hs))
        (stop_at hs (stop_of builtin (line s at)) (suc (length (codes xs))) (builtin_type builtin));
    own = λ c e hs. absurd (true≢false (sym c));
  }
  link_layer (Link-F.Element x of at) = record {
    code = λ e hs.
        lead ((code_of x.0).code (suc (length hs))) _ (value (code_of x.0) x.1 e (true ∷ hs)) (stop_at hs (stop.Get (line s at)) 2 of);
    own = λ c e hs. absurd (true≢false (sym c));
  }

  -- ---- the induction

  expression_from : (x : Expression-F Expression Link Addend Factor) (y : Layer) → bare y ≡ x → ExpressionIs (roll-Expression x)
  expression_from x y is =
      subst (λ (z : Expression-F Expression Link Addend Factor). ExpressionIs (roll-Expression z)) is
      (subst IsClean
      (sym (fold-roll-Expression Emitted Following Applied Applied of_layer of_link_layer of_addend_layer of_factor_layer (bare y)))
      (layer y))

  link_from : (x : Link-F Expression Link Addend Factor) (y : LinkLayer) → bare_link y ≡ x → LinkIs (roll-Link x)
  link_from x y is =
      subst (λ (z : Link-F Expression Link Addend Factor). LinkIs (roll-Link z)) is
      (subst Follows
      (sym (fold-roll-Link Emitted Following Applied Applied of_layer of_link_layer of_addend_layer of_factor_layer (bare_link y)))
      (link_layer y))

  addend_from : (x : Addend-F Expression Link Addend Factor) (y : Addend-F ExpressionHeld LinkHeld AddendHeld FactorHeld) →
      bare_addend y ≡ x → AddendIs (roll-Addend x)
  addend_from x y is =
      subst (λ (z : Addend-F Expression Link Addend Factor). AddendIs (roll-Addend z)) is
      (subst Applies
      (sym (fold-roll-Addend Emitted Following Applied Applied of_layer of_link_layer of_addend_layer of_factor_layer (bare_addend y)))
      (joined_applies y.operator (code_of y.value.0) (line s y.at) y.value.1))

  factor_from : (x : Factor-F Expression Link Addend Factor) (y : Factor-F ExpressionHeld LinkHeld AddendHeld FactorHeld) →
      bare_factor y ≡ x → FactorIs (roll-Factor x)
  factor_from x y is =
      subst (λ (z : Factor-F Expression Link Addend Factor). FactorIs (roll-Factor z)) is
      (subst Applies
      (sym (fold-roll-Factor Emitted Following Applied Applied of_layer of_link_layer of_addend_layer of_factor_layer (bare_factor y)))
      (multiplied_applies y.operator (code_of y.value.0) (line s y.at) y.value.1))

  pub is_clean : (x : Expression) → ExpressionIs x
  is_clean = ind-Expression ExpressionIs LinkIs AddendIs FactorIs expression_from link_from addend_from factor_from
