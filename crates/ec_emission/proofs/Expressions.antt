-- The code of an expression does what the source is to do: one induction over expressions.
use Rattle.std.proofs.Common.{◌≡◌, ℕ, suc, ◌+◌, pos, Bool, true, false, ◌&&◌, ◌==◌, nat_lt, if◌then◌else◌, List, [], ◌∷◌, ◌++◌, map, length}
use Rattle.std.proofs.Common.{Some, None, refl, sym, ap, ap₂, ◌∙◌, subst, arith, ltb-true, eqb-true}
use Rattle.std.specs.Prelude.{slice_get}
use Rattle.ec_code.specs.declared.code.Op.TheVariants as op
use Rattle.ec_code.specs.declared.code.Variable.TheVariants as variable
use Rattle.ec_types.specs.Types.{named}
use Rattle.ec_types.specs.declared.conform.static_type.StaticType.{StaticType}
use Rattle.ec_core.specs.declared.Addend.{Addend, roll-Addend, fold-Addend, map-Addend, out-roll-Addend, fold-roll-Addend}
use Rattle.ec_core.specs.declared.Expression.{Expression, roll-Expression, out-roll-Expression, map-Expression}
use Rattle.ec_core.specs.declared.Expression.{ind-Expression, fold-roll-Expression}
use Rattle.ec_core.specs.declared.Expression.TheOpen.{Expression-F, Link-F, Addend-F, Factor-F}
use Rattle.ec_core.specs.declared.Expression.TheVariants as e
use Rattle.ec_core.specs.declared.Factor.{Factor, roll-Factor, fold-Factor, map-Factor, out-roll-Factor, fold-roll-Factor}
use Rattle.ec_core.specs.declared.Link.{Link, roll-Link, fold-Link, map-Link, out-roll-Link, fold-roll-Link}
use Rattle.ec_core.specs.declared.Place.{Place}
use Rattle.ec_core.specs.declared.Place.TheVariants as place
use Rattle.ec_emission.proofs.Chains.{GoodLink, AllLinks, chained, rested, rested_own}
use Rattle.ec_emission.proofs.Comparing.{compares_as}
use Rattle.ec_emission.proofs.Forms.{Emits, Good, AllGood, Says, value, plain, by_its_code, by_its_condition, says, copied, fetched}
use Rattle.ec_emission.proofs.Forms.{both_true, not_true, no_leaf, same_leaf, all_held, same_number, needs, all_needed}
use Rattle.ec_emission.proofs.Operands.{operand, held, reads}
use Rattle.ec_emission.proofs.Operators.{GoodApplied, AllApply, worked_out, adds, multiplies}
use Rattle.ec_emission.proofs.Turns.{Setting, Comes, Turns, whose, in_turn, framed, one, opened, nothing, stops, kept_under}
use Rattle.ec_emission.specs.Expressions.{Emitted, Following, Applied, fits_here, all_fit, all_code, fetch_all}
use Rattle.ec_emission.specs.Expressions.{as_leaf, by_code, by_condition, itself, leaf_at, variable_if, then_stop, negated}
use Rattle.ec_emission.specs.Expressions.{inverted, operand_of, fetch}
use Rattle.ec_emission.specs.Expressions.{expression_code, link_code, addend_code, factor_code, emitted, has_text, literal_from, is_text}
use Rattle.ec_emission.specs.Expressions.{needed_code, new_object, stops_at, builtin_type}
use Rattle.ec_meaning.specs.Programs.{line, class_number, name_number}
use Rattle.ec_meaning.specs.Steps.{Goes, gives_if, value_at, evaluate, evaluated, follow, stop_of}
use Rattle.ec_meaning.specs.Types.{vector_type, viewed_as}
use Rattle.ec_meaning.specs.declared.item.Item.{Item}
use Rattle.ec_meaning.specs.declared.item.Item.TheVariants as i
use Rattle.ec_emission.specs.Leaves.{Leaf, Named, Number, Truth, Nil, leaf_operand}
use Rattle.ec_emission.specs.Stands as at
use Rattle.ec_emission.specs.Stands.{Hold, Kept, Said, all_kept}
use Rattle.ec_world.specs.declared.stop.Stop.{Stop}
use Rattle.ec_world.specs.declared.stop.Stop.TheVariants as stop

-- ---- literals

by_first : (first rest : Bool) → (if first then rest else false) ≡ true → (first ≡ true) × (rest ≡ true)
by_first true rest e = (refl, e)
by_first false rest e = not_true e

same_text : (a b : List ℕ) → is_text a b ≡ true → a ≡ b
same_text [] [] e = refl
same_text [] (y ∷ b) e = not_true e
same_text (x ∷ a) [] e = not_true e
same_text (x ∷ a) (y ∷ b) e =
    let h = by_first (x == y) (is_text a b) e in ap₂ (λ z c. z ∷ c) (eqb-true x y h.0) (same_text a b h.1)

further : (n : ℕ) (ls : List (List ℕ)) (text : List ℕ) → literal_from (suc n) ls text ≡ suc (literal_from n ls text)
further n [] text = refl
further n (l ∷ ls) text = by_test (is_text l text) (further (suc n) ls text)
  where
    by_test : (b : Bool) → literal_from (suc (suc n)) ls text ≡ suc (literal_from (suc n) ls text) →
        (if b then suc n else literal_from (suc (suc n)) ls text) ≡ suc (if b then n else literal_from (suc n) ls text)
    by_test true e = refl
    by_test false e = e

-- a text that is one of the literals is found at its number
pub found : (ls : List (List ℕ)) (text : List ℕ) → has_text ls text ≡ true → slice_get ls (literal_from 0 ls text) ≡ Some text
found [] text e = not_true e
found (l ∷ ls) text e = at_test (is_text l text) refl e (found ls text)
  where
    at_test : (b : Bool) → is_text l text ≡ b → (if b then true else has_text ls text) ≡ true →
        (has_text ls text ≡ true → slice_get ls (literal_from 0 ls text) ≡ Some text) →
        slice_get (l ∷ ls) (if b then 0 else literal_from 1 ls text) ≡ Some text
    at_test true t h rest = ap Some (same_text l text t)
    at_test false t h rest = ap (slice_get (l ∷ ls)) (further 0 ls text) ∙ rest h

module _ (w : Setting) where
  -- ---- what is shown of each kind of part

  abbrev of_layer : Expression-F Emitted Following Applied Applied → Emitted
  of_layer = expression_code w.source w.captured w.count w.literals

  abbrev of_link_layer : Link-F Emitted Following Applied Applied → Following
  of_link_layer = link_code w.source w.captured w.count w.literals

  abbrev of_addend_layer : Addend-F Emitted Following Applied Applied → Applied
  of_addend_layer = addend_code w.source w.captured w.count w.literals

  abbrev of_factor_layer : Factor-F Emitted Following Applied Applied → Applied
  of_factor_layer = factor_code w.source w.captured w.count w.literals

  abbrev pub code_of : Expression → Emitted
  code_of = emitted w.source w.captured w.count w.literals

  abbrev of_link : Link → Following
  of_link = fold-Link Emitted Following Applied Applied of_layer of_link_layer of_addend_layer of_factor_layer

  abbrev of_addend : Addend → Applied
  of_addend = fold-Addend Emitted Following Applied Applied of_layer of_link_layer of_addend_layer of_factor_layer

  abbrev of_factor : Factor → Applied
  of_factor = fold-Factor Emitted Following Applied Applied of_layer of_link_layer of_addend_layer of_factor_layer

  abbrev pub IsEmitted : Expression → Type 0
  IsEmitted x = Good w x (code_of x)

  abbrev LinkIs : Link → Type 0
  LinkIs x = GoodLink w x (of_link x)

  abbrev AddendIs : Addend → Type 0
  AddendIs x = GoodApplied w (i.Add x) (of_addend x)

  abbrev FactorIs : Factor → Type 0
  FactorIs x = GoodApplied w (i.Multiply x) (of_factor x)

  abbrev ExpressionHeld : Type 0
  ExpressionHeld = (x : Expression) × IsEmitted x

  abbrev LinkHeld : Type 0
  LinkHeld = (x : Link) × LinkIs x

  abbrev AddendHeld : Type 0
  AddendHeld = (x : Addend) × AddendIs x

  abbrev FactorHeld : Type 0
  FactorHeld = (x : Factor) × FactorIs x

  abbrev bare_x : ExpressionHeld → Expression
  bare_x x = x.0

  abbrev bare_l : LinkHeld → Link
  bare_l x = x.0

  abbrev bare_a : AddendHeld → Addend
  bare_a x = x.0

  abbrev bare_f : FactorHeld → Factor
  bare_f x = x.0

  abbrev bare : Expression-F ExpressionHeld LinkHeld AddendHeld FactorHeld → Expression-F Expression Link Addend Factor
  bare = map-Expression ExpressionHeld LinkHeld AddendHeld FactorHeld Expression Link Addend Factor bare_x bare_l bare_a bare_f

  abbrev bare_link : Link-F ExpressionHeld LinkHeld AddendHeld FactorHeld → Link-F Expression Link Addend Factor
  bare_link = map-Link ExpressionHeld LinkHeld AddendHeld FactorHeld Expression Link Addend Factor bare_x bare_l bare_a bare_f

  abbrev bare_addend : Addend-F ExpressionHeld LinkHeld AddendHeld FactorHeld → Addend-F Expression Link Addend Factor
  bare_addend = map-Addend ExpressionHeld LinkHeld AddendHeld FactorHeld Expression Link Addend Factor bare_x bare_l bare_a bare_f

  abbrev bare_factor : Factor-F ExpressionHeld LinkHeld AddendHeld FactorHeld → Factor-F Expression Link Addend Factor
  bare_factor = map-Factor ExpressionHeld LinkHeld AddendHeld FactorHeld Expression Link Addend Factor bare_x bare_l bare_a bare_f

  abbrev coded : Expression-F Expression Link Addend Factor → Expression-F Emitted Following Applied Applied
  coded = map-Expression Expression Link Addend Factor Emitted Following Applied Applied code_of of_link of_addend of_factor

  abbrev coded_link : Link-F Expression Link Addend Factor → Link-F Emitted Following Applied Applied
  coded_link = map-Link Expression Link Addend Factor Emitted Following Applied Applied code_of of_link of_addend of_factor

  -- ---- lists of parts

  all_good : (xs : List ExpressionHeld) → AllGood w (map bare_x xs) (map code_of (map bare_x xs))
  all_good [] = tt
  all_good (x ∷ xs) = (x.1, all_good xs)

  all_links : (xs : List LinkHeld) → AllLinks w (map bare_l xs) (map of_link (map bare_l xs))
  all_links [] = tt
  all_links (x ∷ xs) = (x.1, all_links xs)

  all_addends : (xs : List AddendHeld) → AllApply w (map i.Add (map bare_a xs)) (map of_addend (map bare_a xs))
  all_addends [] = tt
  all_addends (x ∷ xs) = (x.1, all_addends xs)

  all_factors : (xs : List FactorHeld) → AllApply w (map i.Multiply (map bare_f xs)) (map of_factor (map bare_f xs))
  all_factors [] = tt
  all_factors (x ∷ xs) = (x.1, all_factors xs)

  -- ---- what items come to

  comes_to :
      (x : Expression-F Expression Link Addend Factor) →
      Comes w (i.Evaluate (roll-Expression x)) (λ own st. evaluate w.source (whose w own) st x)
  comes_to x own st = ap (evaluate w.source (whose w own) st) (out-roll-Expression x)

  link_comes_to :
      (x : Link-F Expression Link Addend Factor) → Comes w (i.Follow (roll-Link x)) (λ own st. follow w.source st x)
  link_comes_to x own st = ap (follow w.source st) (out-roll-Link x)

  read_comes_to : (p : Place) → Comes w (i.Evaluate (e.Read p)) (λ own st. gives_if st (value_at w.source own st p))
  read_comes_to p =
      subst (λ y. Comes w (i.Evaluate y) (λ own st. gives_if st (value_at w.source own st p))) (e.rolls-Read p)
      (comes_to (Expression-F.Read p))

module _ {w : Setting} where
  -- ---- leaves and places

  leaf_emitted : {x : Expression} {l : Leaf} → Says w (i.Evaluate x) l → Emits w x (as_leaf l)
  leaf_emitted {x} {l} s =
      plain (Some l) false (λ h. op.Copy (variable.Temporary h) (leaf_operand l) ∷ []) true true (copied s)
      (λ k e hs. subst (λ j. Turns w [] hs (Said j ∷ hs) (i.Evaluate x ∷ []) []) (same_leaf l k e) (says s hs))
      (λ e hs. not_true e)

  variable_says :
      {x : Item} {l : Leaf} → (n : ℕ) → (b : Bool) → nat_lt n w.count ≡ b →
      variable_if w.source w.captured w.count w.literals b n ≡ Some l →
      Comes w x (λ own st. gives_if st (slice_get st.variables n)) → Says w x l
  variable_says {x} {l} n true there e comes =
      subst (Says w x) (same_leaf (Named n) l e) (record { comes = comes; there = ltb-true n w.count there })
  variable_says {x} {l} n false there e comes = no_leaf l e

  place_says :
      {x : Item} {l : Leaf} → (p : Place) → leaf_at w.source w.captured w.count w.literals p ≡ Some l →
      Comes w x (λ own st. gives_if st (value_at w.source own st p)) → Says w x l
  place_says (place.Variable n) e comes = variable_says n (nat_lt n w.count) refl e comes
  place_says {x} {l} (place.Captured n) e comes = no_leaf l e
  place_says {x} {l} (place.Field n) e comes = no_leaf l e
  place_says {x} {l} (place.Constant n) e comes = no_leaf l e

  fetched_all :
      (ps : List Place) (hs : List Hold) →
      Turns w (fetch_all w.source w.captured w.count w.literals ps (length hs)) hs (all_kept (length ps) hs)
      (map (λ p. i.Evaluate (e.Read p)) ps) []
  fetched_all [] hs = nothing
  fetched_all (p ∷ ps) hs =
      in_turn (framed (map (λ r. i.Evaluate (e.Read r)) ps) (fetched p (read_comes_to w p) hs))
      (subst
      (λ ks.
      Turns w (fetch_all w.source w.captured w.count w.literals ps (suc (length hs))) (Kept ∷ hs) ks
      (map (λ r. i.Evaluate (e.Read r)) ps) [])
      (kept_under (length ps) hs) (fetched_all ps (Kept ∷ hs)))

  -- ---- a value alone, and a stop

  stopped :
      {x y : Expression} {r : Emitted} → (action : Stop) → (of : StaticType) →
      Comes w (i.Evaluate y) (λ own st. Goes st (i.Evaluate x ∷ i.Rest action 1 ∷ [])) → Good w x r → Good w y (then_stop r action of)
  stopped {x} {y} {r} action of comes g f =
      by_its_code (λ h. r.code h ++ stops_at action h 1 of) true (fits_here r)
      (λ hs.
      opened (i.Evaluate x ∷ i.Rest action 1 ∷ []) comes
      (in_turn (framed (i.Rest action 1 ∷ []) (value g f hs).code) (stops action 1 of hs)))

  created :
      {y : Expression} → (class : ℕ) → (xs : List Expression) → (es : List Emitted) → AllGood w xs es →
      Comes
      w
      (i.Evaluate y)
      (λ own st. Goes st (evaluated xs ++ i.Rest (stop.New (class_number w.source class)) (length xs) ∷ [])) →
      Good w y (new_object w.source w.captured w.count w.literals (all_fit es) class (length es) (all_code es))
  created class xs es a comes f =
      let action : Stop = stop.New (class_number w.source class) in
      by_its_code (λ h. all_code es h ++ stops_at action h (length es) (named class)) true (all_fit es)
      (λ hs.
      opened (evaluated xs ++ i.Rest action (length xs) ∷ []) comes
      (in_turn (framed (i.Rest action (length xs) ∷ []) (all_held xs es a f hs))
      (subst
      (λ k. Turns w (stops_at action (length hs) (length es) (named class)) (all_kept (length es) hs) (Kept ∷ hs) (i.Rest action k ∷ []) [])
      (same_number w xs es a) (stops action (length es) (named class) hs))))

  constructed :
      {y : Expression} → (class : ℕ) → (ps : List Place) →
      Comes
      w
      (i.Evaluate y)
      (λ own st.
      Goes st (map (λ p. i.Evaluate (e.Read p)) ps ++ i.Rest (stop.New (class_number w.source class)) (length ps) ∷ [])) →
      Emits
      w
      y
      (new_object w.source w.captured w.count w.literals true class (length ps)
      (fetch_all w.source w.captured w.count w.literals ps))
  constructed class ps comes =
      let action : Stop = stop.New (class_number w.source class) in
      by_its_code (λ h. fetch_all w.source w.captured w.count w.literals ps h ++ stops_at action h (length ps) (named class)) true true
      (λ hs.
      opened (map (λ p. i.Evaluate (e.Read p)) ps ++ i.Rest action (length ps) ∷ []) comes
      (in_turn (framed (i.Rest action (length ps) ∷ []) (fetched_all ps hs)) (stops action (length ps) (named class) hs)))

  -- ---- a condition

  inverted_decides :
      {x y : Expression} {r : Emitted} → Comes w (i.Evaluate y) (λ own st. Goes st (i.Evaluate x ∷ i.Invert ∷ [])) → Good w x r →
      Good w y (by_condition (fits_here r) (inverted r))
  inverted_decides {x} {y} {r} comes g f =
      by_its_condition (fits_here r) (inverted r)
      (λ hs. record {
        held = held r.leaf ∷ hs;
        item = i.Invert;
        decides = at.by_inverse (operand_of r (length hs)) (reads r.leaf (length hs));
        turns = opened (i.Evaluate x ∷ i.Invert ∷ []) comes (framed (i.Invert ∷ []) (operand (value g f hs)));
      })

  negates :
      {x y : Expression} {r : Emitted} → Comes w (i.Evaluate y) (λ own st. Goes st (i.Evaluate x ∷ i.Negate ∷ [])) → Good w x r →
      Good w y (by_code (fits_here r) (negated r))
  negates {x} {y} {r} comes g f =
      by_its_code (negated r) true (fits_here r)
      (λ hs.
      opened (i.Evaluate x ∷ i.Negate ∷ []) comes
      (in_turn (framed (i.Negate ∷ []) (operand (value g f hs)))
      (one (λ q zs is d. at.negates (operand_of r (length hs)) (reads r.leaf (length hs)) is d))))

  -- ---- and, or

  joins :
      {x y : Expression} {r : Emitted} → (wanted : Bool) → (xs : List Expression) → (es : List Emitted) → AllGood w xs es →
      Comes w (i.Evaluate y) (λ own st. Goes st (i.Evaluate x ∷ map (needs wanted) xs)) → Good w x r →
      Good w y (by_code (fits_here r && all_fit es) (λ h. r.code h ++ needed_code wanted es h))
  joins {x} {y} {r} wanted xs es a comes g f =
      let b = both_true (fits_here r) (all_fit es) f in
      by_its_code (λ h. r.code h ++ needed_code wanted es h) true (fits_here r && all_fit es)
      (λ hs.
      opened (i.Evaluate x ∷ map (needs wanted) xs) comes
      (in_turn (framed (map (needs wanted) xs) (value g b.0 hs).code) (all_needed wanted xs es a b.1 hs)))

module _ (w : Setting) where
  -- ---- one layer

  layer :
      (y : Expression-F (ExpressionHeld w) (LinkHeld w) (AddendHeld w) (FactorHeld w)) →
      Good w (roll-Expression (bare w y)) (of_layer w (coded w (bare w y)))
  layer (Expression-F.Number n) f =
      leaf_emitted {l = Number (pos n)} (record { comes = comes_to w (Expression-F.Number n); there = tt })
  layer (Expression-F.Literal t) f =
      by_its_code (λ h. op.Literal (variable.Temporary h) (literal_from 0 w.literals t) ∷ []) true (has_text w.literals t)
      (λ hs.
      one
      (λ q zs is d.
      at.literal t (literal_from 0 w.literals t) (comes_to w (Expression-F.Literal t)) (found w.literals t f) is d))
  layer (Expression-F.Truth b) f = leaf_emitted {l = Truth b} (record { comes = comes_to w (Expression-F.Truth b); there = tt })
  layer Expression-F.Nil f = leaf_emitted {l = Nil} (record { comes = comes_to w Expression-F.Nil; there = tt })
  layer Expression-F.Itself f =
      plain None true (λ h. op.Itself (variable.Temporary h) ∷ []) true true
      (λ hs. one (λ q zs is d. at.itself (comes_to w Expression-F.Itself) is d)) (λ l e hs. no_leaf l e)
      (λ e hs. one (λ q zs is d. at.is_own (comes_to w Expression-F.Itself) is d))
  layer (Expression-F.Read p) f =
      let comes = comes_to w (Expression-F.Read p) in
      plain (leaf_at w.source w.captured w.count w.literals p) false
      (λ h. fetch w.source w.captured w.count w.literals (variable.Temporary h) p ∷ []) true true (fetched p comes)
      (λ l e hs. says (place_says p e comes) hs) (λ e hs. not_true e)
  layer Expression-F.NodeCount f =
      by_its_code (λ h. stops_at stop.NodeCount h 0 _) true true
      (λ hs. opened (i.Rest stop.NodeCount 0 ∷ []) (comes_to w Expression-F.NodeCount) (stops stop.NodeCount 0 _ hs))
  layer (Expression-F.NodeAt x site) f =
      stopped (stop.NodeAt (line w.source site)) _ (comes_to w (Expression-F.NodeAt x.0 site)) x.1 f
  layer (Expression-F.NewVector of x site) f =
      stopped (stop.NewVector (vector_type of) (line w.source site)) _ (comes_to w (Expression-F.NewVector of x.0 site)) x.1 f
  layer (Expression-F.Construct class ps) f = constructed class ps (comes_to w (Expression-F.Construct class ps))
  layer (Expression-F.Create class xs) f =
      let ys : List Expression = map (bare_x w) xs in
      created class ys (map (code_of w) ys) (all_good w xs) (comes_to w (Expression-F.Create class ys)) f
  layer (Expression-F.Chain x ls) f =
      let ks : List Link = map (bare_l w) ls in
      chained ks (map (of_link w) ks) (comes_to w (Expression-F.Chain x.0 ks)) x.1 (all_links w ls) f
  layer (Expression-F.Negative x) f = negates (comes_to w (Expression-F.Negative x.0)) x.1 f
  layer (Expression-F.Not x) f = inverted_decides (comes_to w (Expression-F.Not x.0)) x.1 f
  layer (Expression-F.View x of site) f =
      stopped (stop.View (viewed_as w.source.table of) (line w.source site)) _ (comes_to w (Expression-F.View x.0 of site)) x.1 f
  layer (Expression-F.IsFixed x site) f =
      stopped (stop.IsFixed (line w.source site)) _ (comes_to w (Expression-F.IsFixed x.0 site)) x.1 f
  layer (Expression-F.Term x fs) f =
      let ks : List Factor = map (bare_f w) fs in
      worked_out (map i.Multiply ks) (map (of_factor w) ks) (comes_to w (Expression-F.Term x.0 ks)) x.1 (all_factors w fs) f
  layer (Expression-F.Sum x ds) f =
      let ks : List Addend = map (bare_a w) ds in
      worked_out (map i.Add ks) (map (of_addend w) ks) (comes_to w (Expression-F.Sum x.0 ks)) x.1 (all_addends w ds) f
  layer (Expression-F.Compare x how what y) f =
      compares_as how what (comes_to w (Expression-F.Compare x.0 how what y.0)) x.1 y.1 f
  layer (Expression-F.And x xs) f =
      let ys : List Expression = map (bare_x w) xs in
      joins false ys (map (code_of w) ys) (all_good w xs) (comes_to w (Expression-F.And x.0 ys)) x.1 f
  layer (Expression-F.Or x xs) f =
      let ys : List Expression = map (bare_x w) xs in
      joins true ys (map (code_of w) ys) (all_good w xs) (comes_to w (Expression-F.Or x.0 ys)) x.1 f

  -- a link that opens into arguments and a stop with these and the value before it
  call_opens :
      (l : Link) (xs : List Expression) (action : Stop) →
      Comes w (i.Follow l) (λ own st. Goes st (evaluated xs ++ i.Rest action (1 + length xs) ∷ [])) →
      Comes w (i.Follow l) (λ own st. Goes st (evaluated xs ++ i.Rest action (suc (length xs)) ∷ []))
  call_opens l xs action comes own st =
      let n : 1 + length xs ≡ suc (length xs) = omega arith in
      comes own st ∙ ap (λ k. Goes st (evaluated xs ++ i.Rest action k ∷ [])) n

  link_layer :
      (y : Link-F (ExpressionHeld w) (LinkHeld w) (AddendHeld w) (FactorHeld w)) →
      GoodLink w (roll-Link (bare_link w y)) (of_link_layer w (coded_link w (bare_link w y)))
  link_layer (Link-F.Invoke name xs of site) f =
      let ys : List Expression = map (bare_x w) xs in
      let action : Stop = stop.Invoke (name_number w.source name) (line w.source site) in
      let l : Link = roll-Link (Link-F.Invoke name ys of site) in
      let comes = call_opens l ys action (link_comes_to w (Link-F.Invoke name ys of site)) in
      record {
        code = λ hs.
            opened (evaluated ys ++ i.Rest action (suc (length ys)) ∷ []) comes
            (rested action of ys (map (code_of w) ys) (all_good w xs) f hs);
        own = λ c hs.
            opened (evaluated ys ++ i.Rest action (suc (length ys)) ∷ []) comes
            (rested_own action of ys (map (code_of w) ys) (all_good w xs) f hs);
      }
  link_layer (Link-F.Call b xs site) f =
      let ys : List Expression = map (bare_x w) xs in
      let action : Stop = stop_of b (line w.source site) in
      record {
        code = λ hs.
            opened (evaluated ys ++ i.Rest action (suc (length ys)) ∷ [])
            (call_opens (roll-Link (Link-F.Call b ys site)) ys action (link_comes_to w (Link-F.Call b ys site)))
            (rested action (Some (builtin_type b)) ys (map (code_of w) ys) (all_good w xs) f hs);
        own = λ c hs. not_true c;
      }
  link_layer (Link-F.Element x of site) f =
      let action : Stop = stop.Get (line w.source site) in
      record {
        code = λ hs.
            opened (i.Evaluate x.0 ∷ i.Rest action 2 ∷ []) (link_comes_to w (Link-F.Element x.0 of site))
            (in_turn (framed (i.Rest action 2 ∷ []) (value x.1 f (Kept ∷ hs)).code) (stops action 2 of hs));
        own = λ c hs. not_true c;
      }

  addend_opens :
      (y : Addend-F Expression Link Addend Factor) →
      Comes w (i.Add (roll-Addend y)) (λ own st. Goes st (i.Evaluate y.value ∷ i.Join y.operator y.at ∷ []))
  addend_opens y own st =
      ap (λ (z : Addend-F Expression Link Addend Factor). Goes st (i.Evaluate z.value ∷ i.Join z.operator z.at ∷ [])) (out-roll-Addend y)

  factor_opens :
      (y : Factor-F Expression Link Addend Factor) →
      Comes w (i.Multiply (roll-Factor y)) (λ own st. Goes st (i.Evaluate y.value ∷ i.Calculate y.operator y.at ∷ []))
  factor_opens y own st =
      ap (λ (z : Factor-F Expression Link Addend Factor). Goes st (i.Evaluate z.value ∷ i.Calculate z.operator z.at ∷ []))
      (out-roll-Factor y)

  -- ---- the induction

  expression_from :
      (x : Expression-F Expression Link Addend Factor) (y : Expression-F (ExpressionHeld w) (LinkHeld w) (AddendHeld w) (FactorHeld w)) →
      bare w y ≡ x → IsEmitted w (roll-Expression x)
  expression_from x y is =
      subst (λ z. IsEmitted w (roll-Expression z)) is
      (subst (Good w (roll-Expression (bare w y)))
      (sym
      (fold-roll-Expression Emitted Following Applied Applied (of_layer w) (of_link_layer w) (of_addend_layer w) (of_factor_layer w)
      (bare w y))) (layer y))

  link_from :
      (x : Link-F Expression Link Addend Factor) (y : Link-F (ExpressionHeld w) (LinkHeld w) (AddendHeld w) (FactorHeld w)) →
      bare_link w y ≡ x → LinkIs w (roll-Link x)
  link_from x y is =
      subst (λ z. LinkIs w (roll-Link z)) is
      (subst (GoodLink w (roll-Link (bare_link w y)))
      (sym
      (fold-roll-Link Emitted Following Applied Applied (of_layer w) (of_link_layer w) (of_addend_layer w) (of_factor_layer w)
      (bare_link w y))) (link_layer y))

  addend_from :
      (x : Addend-F Expression Link Addend Factor) (y : Addend-F (ExpressionHeld w) (LinkHeld w) (AddendHeld w) (FactorHeld w)) →
      bare_addend w y ≡ x → AddendIs w (roll-Addend x)
  addend_from x y is =
      subst (λ z. AddendIs w (roll-Addend z)) is
      (subst (GoodApplied w (i.Add (roll-Addend (bare_addend w y))))
      (sym
      (fold-roll-Addend Emitted Following Applied Applied (of_layer w) (of_link_layer w) (of_addend_layer w) (of_factor_layer w)
      (bare_addend w y)))
      (λ f. adds (i.Add (roll-Addend (bare_addend w y))) y.value.0 y.operator y.at (addend_opens (bare_addend w y)) y.value.1 f))

  factor_from :
      (x : Factor-F Expression Link Addend Factor) (y : Factor-F (ExpressionHeld w) (LinkHeld w) (AddendHeld w) (FactorHeld w)) →
      bare_factor w y ≡ x → FactorIs w (roll-Factor x)
  factor_from x y is =
      subst (λ z. FactorIs w (roll-Factor z)) is
      (subst (GoodApplied w (i.Multiply (roll-Factor (bare_factor w y))))
      (sym
      (fold-roll-Factor Emitted Following Applied Applied (of_layer w) (of_link_layer w) (of_addend_layer w) (of_factor_layer w)
      (bare_factor w y)))
      (λ f. multiplies (i.Multiply (roll-Factor (bare_factor w y))) y.value.0 y.operator y.at
      (factor_opens (bare_factor w y)) y.value.1 f))

  -- Where an expression fits, its code does what it is to do.
  pub is_emitted : (x : Expression) → IsEmitted w x
  is_emitted = ind-Expression (IsEmitted w) (LinkIs w) (AddendIs w) (FactorIs w) expression_from link_from addend_from factor_from
