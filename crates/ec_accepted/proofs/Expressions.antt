-- The code of each well typed expression leads to its value: one induction over expressions.
use Rattle.std.proofs.Common.{◌≡◌, ℕ, ◌==◌, ◌∙◌, ◌&&◌, Bool, true, false, List, [], ◌∷◌, ◌++◌, map, length, pos, Option}
use Rattle.std.proofs.Common.{Some, None, refl, sym, subst}
use Rattle.ec_ast.specs.declared.Additive.{Additive}
use Rattle.ec_ast.specs.declared.Comparison.{Comparison}
use Rattle.ec_ast.specs.declared.Multiplicative.{Multiplicative}
use Rattle.ec_check.proofs.Every.{Every, every_left, every_right}
use Rattle.ec_check.specs.Numbers.{Number, joined as all_numbers, expression_numbers, link_numbers, addend_numbers}
use Rattle.ec_check.specs.Numbers.{factor_numbers, in_expression, in_link, in_addend, in_factor}
use Rattle.ec_check.specs.WellTyped.{AfterLink, Typed, TypedAddend, added, all_are, along, are_compared, expression_typed}
use Rattle.ec_check.specs.WellTyped.{is_of, link_typed, addend_typed}
use Rattle.ec_check.specs.WellTyped.{factor_typed, typed, typed_link, typed_addend, typed_factor, typed_if, are_captured}
use Rattle.ec_check.specs.WellTyped.{go_in}
use Rattle.ec_check.specs.WellTyped.{parameters_of_class, some_class, type_at}
use Rattle.ec_code.specs.Typing.{integer, boolean}
use Rattle.ec_types.specs.Types.{named}
use Rattle.ec_types.specs.declared.conform.static_type.StaticType.{StaticType}
use Rattle.ec_types.specs.declared.conform.static_type.StaticType.TheVariants as type
use Rattle.ec_types.specs.Known.{IsOfProgram}
use Rattle.ec_core.specs.declared.Addend.{Addend, roll-Addend, fold-Addend, map-Addend, fold-roll-Addend}
use Rattle.ec_core.specs.declared.Compared.{Compared}
use Rattle.ec_core.specs.declared.Expression.{Expression, roll-Expression, map-Expression, ind-Expression}
use Rattle.ec_core.specs.declared.Expression.{fold-roll-Expression}
use Rattle.ec_core.specs.declared.Expression.TheOpen.{Expression-F, Link-F, Addend-F, Factor-F}
use Rattle.ec_core.specs.declared.Factor.{Factor, roll-Factor, fold-Factor, map-Factor, fold-roll-Factor}
use Rattle.ec_core.specs.declared.Link.{Link, roll-Link, fold-Link, map-Link, fold-roll-Link}
use Rattle.ec_core.specs.declared.Place.{Place}
use Rattle.ec_core_laws.specs.Formed.{is_of as is_of_types, is_of_if, is_not_nil, all_formed, expression_formed}
use Rattle.ec_core_laws.specs.Formed.{link_formed}
use Rattle.ec_core_laws.specs.Formed.{addend_formed, factor_formed, formed_expression, formed_link, formed_addend}
use Rattle.ec_core_laws.specs.Formed.{formed_factor}
use Rattle.ec_emission.proofs.Forms.{both_true, no_leaf, not_true, same_leaf}
use Rattle.ec_emission.specs.Expressions.{Applied, Emitted, Following, addend_code, all_apply, all_fit, applied_code}
use Rattle.ec_emission.specs.Expressions.{by_code, chain, comparison}
use Rattle.ec_emission.specs.Expressions.{emitted, expression_code, factor_code, fits_here, joined, link_code, links_fit}
use Rattle.ec_emission.specs.Expressions.{multiplied, needed_code}
use Rattle.ec_emission.specs.Expressions.{stop_order}
use Rattle.ec_accepted.proofs.Chains.{LinkReady, LinksReady, chain_known, chain_other, chain_shown}
use Rattle.ec_accepted.proofs.Comparing.{BothCompared, both_compared, compared_shown}
use Rattle.ec_accepted.proofs.FinenessForms.{by_its_code}
use Rattle.ec_accepted.proofs.Frames.{Held}
use Rattle.ec_accepted.proofs.Taking.{well_taken}
use Rattle.ec_accepted.proofs.Links.{builtin_ready, element_ready, invoke_ready}
use Rattle.ec_accepted.proofs.Making.{constructed, created}
use Rattle.ec_accepted.proofs.Pieces.{FitsAs}
use Rattle.ec_accepted.proofs.Shapes.{of_types}
use Rattle.ec_accepted.proofs.Shown.{Goes, Works, given, works}
use Rattle.ec_accepted.proofs.Standing.{Stand, Known, Ready, Stated, AllStated, setting, site, types_in, each_fits}
use Rattle.ec_accepted.proofs.Sums.{AddendReady, FactorReady, AddendsReady, FactorsReady, adds, multiplies, products}
use Rattle.ec_accepted.proofs.Sums.{right_operand, sum_known}
use Rattle.ec_accepted.proofs.Stopping.{held_if}
use Rattle.ec_accepted.proofs.Sums.{sum_begins, sum_well, sums}
use Rattle.ec_accepted.proofs.FinenessValues.{count_ready, fixed_ready, itself_ready, leaf_ready, needed_ready, negative_ready}
use Rattle.ec_accepted.proofs.FinenessValues.{node_ready, not_ready}
use Rattle.ec_accepted.proofs.FinenessValues.{number_of, read_ready, ready, ready_of, stated_of, text_ready, vector_ready}
use Rattle.ec_accepted.proofs.FinenessValues.{view_ready}
use Rattle.ec_meaning.specs.Programs.{line}
use Rattle.ec_rules.specs.Operands.{operand_of, result_type}
use Rattle.ec_rules.specs.declared.operands.Wanted.TheVariants as wanted
use Rattle.ec_emission.specs.Leaves.{Number as NumberLeaf, Truth, Nil}
use Rattle.ec_world.specs.declared.stop.Order.{Order}

-- what is known of equals is known
moved : {T E N : Type 0} (P : T → E → Bool → N → Type 0) {t t' : T} {e e' : E} {b b' : Bool} {n n' : N} → t ≡ t' → e ≡ e' →
    b ≡ b' → n ≡ n' → P t' e' b' n' → P t e b n
moved P {t} {t'} {e} {e'} {b} {b'} {n} {n'} p q r u h =
    subst (λ z. P z e b n) (sym p)
    (subst (λ z. P t' z b n) (sym q) (subst (λ z. P t' e' z n) (sym r) (subst (λ z. P t' e' b' z) (sym u) h)))

-- a result is, where there is one
of_types_if : (c : Stand) (of : Option StaticType) → is_of_if (length (types_in c)) of ≡ true → (u : StaticType) →
    of ≡ Some u → IsOfProgram (types_in c) u
of_types_if c None e u f = no_leaf u f
of_types_if c (Some of) e u f = subst (IsOfProgram (types_in c)) (same_leaf of u f) (of_types (types_in c) of e)

module _ (c : Stand) (Right : Number → Type 0) (known : Known c Right) where
  -- ---- what is shown of each kind of part

  abbrev types : ℕ
  types = length (types_in c)

  abbrev of_layer : Expression-F Emitted Following Applied Applied → Emitted
  of_layer = expression_code c.source (length c.captured) (length c.operation.variables) c.parts.literals

  abbrev of_link_layer : Link-F Emitted Following Applied Applied → Following
  of_link_layer = link_code c.source (length c.captured) (length c.operation.variables) c.parts.literals

  abbrev of_addend_layer : Addend-F Emitted Following Applied Applied → Applied
  of_addend_layer = addend_code c.source (length c.captured) (length c.operation.variables) c.parts.literals

  abbrev of_factor_layer : Factor-F Emitted Following Applied Applied → Applied
  of_factor_layer = factor_code c.source (length c.captured) (length c.operation.variables) c.parts.literals

  abbrev code_of : Expression → Emitted
  code_of = emitted c.source (length c.captured) (length c.operation.variables) c.parts.literals

  abbrev of_link : Link → Following
  of_link = fold-Link Emitted Following Applied Applied of_layer of_link_layer of_addend_layer of_factor_layer

  abbrev of_addend : Addend → Applied
  of_addend = fold-Addend Emitted Following Applied Applied of_layer of_link_layer of_addend_layer of_factor_layer

  abbrev of_factor : Factor → Applied
  of_factor = fold-Factor Emitted Following Applied Applied of_layer of_link_layer of_addend_layer of_factor_layer

  -- Where it fits, and its form and its numbers are right, this holds.
  abbrev Asked : Bool → Bool → List Number → Type 0 → Type 0
  Asked fits formed ns T = fits ≡ true → formed ≡ true → Every Right ns → T

  abbrev Good : Typed → Emitted → Bool → List Number → Type 0
  Good t e formed ns = Asked e.fits formed ns (Ready c t e)

  abbrev GoodLink : AfterLink → Following → Bool → List Number → Type 0
  GoodLink l f formed ns = Asked f.fits formed ns (LinkReady c l f)

  abbrev GoodAddend : TypedAddend → Applied → Bool → List Number → Type 0
  GoodAddend x a formed ns = Asked a.fits formed ns (AddendReady (setting c) x a)

  abbrev GoodFactor : Typed → Applied → Bool → List Number → Type 0
  GoodFactor x a formed ns = Asked a.fits formed ns (FactorReady (setting c) x a)

  abbrev IsFine : Expression → Type 0
  IsFine x = Good (typed (site c) x) (code_of x) (formed_expression types x) (in_expression x)

  abbrev LinkIs : Link → Type 0
  LinkIs x = GoodLink (typed_link (site c) x) (of_link x) (formed_link types x) (in_link x)

  abbrev AddendIs : Addend → Type 0
  AddendIs x = GoodAddend (typed_addend (site c) x) (of_addend x) (formed_addend types x) (in_addend x)

  abbrev FactorIs : Factor → Type 0
  FactorIs x = GoodFactor (typed_factor (site c) x) (of_factor x) (formed_factor types x) (in_factor x)

  abbrev ExpressionHeld : Type 0
  ExpressionHeld = (x : Expression) × IsFine x

  abbrev LinkHeld : Type 0
  LinkHeld = (x : Link) × LinkIs x

  abbrev AddendHeld : Type 0
  AddendHeld = (x : Addend) × AddendIs x

  abbrev FactorHeld : Type 0
  FactorHeld = (x : Factor) × FactorIs x

  abbrev bare_x : ExpressionHeld → Expression
  bare_x x = x.0

  abbrev bare_l : LinkHeld → Link
  bare_l x = x.0

  abbrev bare_a : AddendHeld → Addend
  bare_a x = x.0

  abbrev bare_f : FactorHeld → Factor
  bare_f x = x.0

  abbrev bare : Expression-F ExpressionHeld LinkHeld AddendHeld FactorHeld → Expression-F Expression Link Addend Factor
  bare = map-Expression ExpressionHeld LinkHeld AddendHeld FactorHeld Expression Link Addend Factor bare_x bare_l bare_a
      bare_f

  abbrev bare_link : Link-F ExpressionHeld LinkHeld AddendHeld FactorHeld → Link-F Expression Link Addend Factor
  bare_link = map-Link ExpressionHeld LinkHeld AddendHeld FactorHeld Expression Link Addend Factor bare_x bare_l bare_a
      bare_f

  abbrev bare_addend : Addend-F ExpressionHeld LinkHeld AddendHeld FactorHeld → Addend-F Expression Link Addend Factor
  bare_addend = map-Addend ExpressionHeld LinkHeld AddendHeld FactorHeld Expression Link Addend Factor bare_x bare_l bare_a
      bare_f

  abbrev bare_factor : Factor-F ExpressionHeld LinkHeld AddendHeld FactorHeld → Factor-F Expression Link Addend Factor
  bare_factor = map-Factor ExpressionHeld LinkHeld AddendHeld FactorHeld Expression Link Addend Factor bare_x bare_l bare_a
      bare_f

  -- what the layers of the folds are over
  abbrev as_typed : Expression-F Expression Link Addend Factor → Expression-F Typed AfterLink TypedAddend Typed
  as_typed =
      map-Expression Expression Link Addend Factor Typed AfterLink TypedAddend Typed (typed (site c)) (typed_link (site c))
      (typed_addend (site c)) (typed_factor (site c))

  abbrev as_code : Expression-F Expression Link Addend Factor → Expression-F Emitted Following Applied Applied
  as_code = map-Expression Expression Link Addend Factor Emitted Following Applied Applied code_of of_link of_addend
      of_factor

  abbrev as_formed : Expression-F Expression Link Addend Factor → Expression-F Bool Bool Bool Bool
  as_formed =
      map-Expression Expression Link Addend Factor Bool Bool Bool Bool (formed_expression types) (formed_link types)
      (formed_addend types) (formed_factor types)

  abbrev as_numbers :
      Expression-F Expression Link Addend Factor → Expression-F (List Number) (List Number) (List Number) (List Number)
  as_numbers =
      map-Expression Expression Link Addend Factor (List Number) (List Number) (List Number) (List Number) in_expression
      in_link in_addend in_factor

  -- ---- lists of parts

  all_stated :
      (xs : List ExpressionHeld) → all_fit (map code_of (map bare_x xs)) ≡ true →
      all_formed (map (formed_expression types) (map bare_x xs)) ≡ true →
      Every Right (all_numbers (map in_expression (map bare_x xs))) →
      AllStated c (map (typed (site c)) (map bare_x xs)) (map code_of (map bare_x xs))
  all_stated [] f d n = tt
  all_stated (x ∷ xs) f d n =
      let e : Emitted = code_of x.0 in
      let fs = both_true (fits_here e) (all_fit (map code_of (map bare_x xs))) f in
      let ds = both_true (formed_expression types x.0) (all_formed (map (formed_expression types) (map bare_x xs))) d in
      let ns : List Number = all_numbers (map in_expression (map bare_x xs)) in
      let r : Ready c (typed (site c) x.0) e =
      x.1 (both_true e.gives e.fits fs.0).1 ds.0 (every_left Right (in_expression x.0) ns n) in
      (r.stated, all_stated xs fs.1 ds.1 (every_right Right (in_expression x.0) ns n))

  first_fits : (f : Following) (fs : List Following) → links_fit (f ∷ fs) ≡ true → f.fits ≡ true
  first_fits f [] e = e
  first_fits f (g ∷ gs) e = (both_true f.gives f.fits (both_true (f.gives && f.fits) (links_fit (g ∷ gs)) e).0).1

  others_fit : (f : Following) (fs : List Following) → links_fit (f ∷ fs) ≡ true → links_fit fs ≡ true
  others_fit f [] e = refl
  others_fit f (g ∷ gs) e = (both_true (f.gives && f.fits) (links_fit (g ∷ gs)) e).1

  all_links :
      (xs : List LinkHeld) → links_fit (map of_link (map bare_l xs)) ≡ true →
      all_formed (map (formed_link types) (map bare_l xs)) ≡ true →
      Every Right (all_numbers (map in_link (map bare_l xs))) →
      LinksReady c (map (typed_link (site c)) (map bare_l xs)) (map of_link (map bare_l xs))
  all_links [] f d n = tt
  all_links (x ∷ xs) f d n =
      let fs : List Following = map of_link (map bare_l xs) in
      let ds = both_true (formed_link types x.0) (all_formed (map (formed_link types) (map bare_l xs))) d in
      let ns : List Number = all_numbers (map in_link (map bare_l xs)) in (
        x.1 (first_fits (of_link x.0) fs f) ds.0 (every_left Right (in_link x.0) ns n),
        all_links xs (others_fit (of_link x.0) fs f) ds.1 (every_right Right (in_link x.0) ns n),
      )

  all_addends :
      (xs : List AddendHeld) → all_apply (map of_addend (map bare_a xs)) ≡ true →
      all_formed (map (formed_addend types) (map bare_a xs)) ≡ true →
      Every Right (all_numbers (map in_addend (map bare_a xs))) →
      AddendsReady (setting c) (map (typed_addend (site c)) (map bare_a xs)) (map of_addend (map bare_a xs))
  all_addends [] f d n = tt
  all_addends (x ∷ xs) f d n =
      let a : Applied = of_addend x.0 in
      let fs = both_true a.fits (all_apply (map of_addend (map bare_a xs))) f in
      let ds = both_true (formed_addend types x.0) (all_formed (map (formed_addend types) (map bare_a xs))) d in
      let ns : List Number = all_numbers (map in_addend (map bare_a xs)) in (
        x.1 fs.0 ds.0 (every_left Right (in_addend x.0) ns n),
        all_addends xs fs.1 ds.1 (every_right Right (in_addend x.0) ns n),
      )

  all_factors :
      (xs : List FactorHeld) → all_apply (map of_factor (map bare_f xs)) ≡ true →
      all_formed (map (formed_factor types) (map bare_f xs)) ≡ true →
      Every Right (all_numbers (map in_factor (map bare_f xs))) →
      FactorsReady (setting c) (map (typed_factor (site c)) (map bare_f xs)) (map of_factor (map bare_f xs))
  all_factors [] f d n = tt
  all_factors (x ∷ xs) f d n =
      let a : Applied = of_factor x.0 in
      let fs = both_true a.fits (all_apply (map of_factor (map bare_f xs))) f in
      let ds = both_true (formed_factor types x.0) (all_formed (map (formed_factor types) (map bare_f xs))) d in
      let ns : List Number = all_numbers (map in_factor (map bare_f xs)) in (
        x.1 fs.0 ds.0 (every_left Right (in_factor x.0) ns n),
        all_factors xs fs.1 ds.1 (every_right Right (in_factor x.0) ns n),
      )

  -- ---- forms with lists of parts

  fits_of : (t : StaticType) → IsOfProgram (types_in c) t → FitsAs (setting c) t t
  fits_of = each_fits c known.operations

  chain_ready :
      (t : Typed) (e : Emitted) (l : AfterLink) (ls : List AfterLink) (f : Following) (fs : List Following) → Ready c t e →
      LinkReady c l f → LinksReady c ls fs → Ready c (along t (l ∷ ls)) (chain e (f ∷ fs))
  chain_ready t e l ls f fs r first more = record {
    same = chain_other c t l ls f fs first more;
    itself = λ g. not_true (sym (chain_other c t l ls f fs first more) ∙ g);
    stated = λ well. record {
      shown = chain_shown c t e l ls f fs (fits_here e && links_fit (f ∷ fs)) (fits_of boolean tt) r first more well;
      of = chain_known c t l ls f fs first more;
    };
  }

  sum_other : (left : Typed) (more : List TypedAddend) → (added left more).is_itself ≡ false
  sum_other left [] = refl
  sum_other left (a ∷ more) =
      sum_other (typed_if (is_of (operand_of a.operator) left && is_of (operand_of a.operator) a.value)
      (Some (result_type a.operator)))
      more

  sum_leads :
      (left : Typed) (e : Emitted) (more : List TypedAddend) (later : List Applied) → Stated c left e →
      AddendsReady (setting c) more later → (added left more).is_well ≡ true → (hs : Held) →
      Goes (setting c) (applied_code later e (length hs)) hs (held_if (added left more).of hs)
  sum_leads left e [] [] s ready well hs = s.shown.code hs
  sum_leads left e [] (a ∷ later) s ready well hs = absurd ready
  sum_leads left e (x ∷ more) [] s ready well hs = absurd ready
  sum_leads left e (x ∷ more) (a ∷ later) s ready well hs =
      let u : StaticType = result_type x.operator in
      let of : left.of ≡ Some u = sum_begins left x more well in
      sums left (x ∷ more) (a ∷ later) ready well u of e hs hs (given (works s.shown u of) hs)

  sum_ready :
      (left : Typed) (e : Emitted) (more : List TypedAddend) (later : List Applied) → Ready c left e →
      AddendsReady (setting c) more later →
      Ready c (added left more) (by_code (fits_here e && all_apply later) (applied_code later e))
  sum_ready left e more later r ready = record {
    same = sum_other left more;
    itself = λ g. not_true (sym (sum_other left more) ∙ g);
    stated = λ well.
        let s : Stated c left e = r.stated (sum_well left more well) in
        record {
          shown =
              by_its_code (fits_of boolean tt) (fits_here e && all_apply later) (applied_code later e)
              (λ hs. sum_leads left e more later s ready well hs);
          of = sum_known (setting c) left more s.of;
        };
  }

  term_ready :
      (t : Typed) (e : Emitted) (xs : List Typed) (later : List Applied) → Ready c t e → FactorsReady (setting c) xs later →
      Ready c (typed_if (all_are wanted.Integer (t ∷ xs)) (Some integer))
      (by_code (fits_here e && all_apply later) (applied_code later e))
  term_ready t e xs later r factors =
      ready_of c Right known (all_are wanted.Integer (t ∷ xs)) integer
      (by_code (fits_here e && all_apply later) (applied_code later e)) refl tt
      (λ h.
      let b = both_true (is_of wanted.Integer t) (all_are wanted.Integer xs) h in
      let v : Works (setting c) e integer = number_of c Right known t e r b.0 in
      by_its_code (fits_of boolean tt) (fits_here e && all_apply later) (applied_code later e)
      (λ hs. products xs later factors b.1 e hs hs (given v hs)))

  compared_other : (how : Comparison) (e f : Emitted) (o : Option Order) → (comparison how e f o).is_itself ≡ false
  compared_other how e f None = refl
  compared_other how e f (Some o) = refl

  compare_ready :
      (how : Comparison) (what : Compared) (t u : Typed) (e f : Emitted) → Ready c t e → Ready c u f →
      Ready c (typed_if (t.is_well && (u.is_well && are_compared how what t.of u.of)) (Some boolean))
      (comparison how e f (stop_order how what))
  compare_ready how what t u e f r q =
      ready_of c Right known (t.is_well && (u.is_well && are_compared how what t.of u.of)) boolean
      (comparison how e f (stop_order how what)) (compared_other how e f (stop_order how what)) tt
      (λ h.
      let a = both_true t.is_well (u.is_well && are_compared how what t.of u.of) h in
      let b = both_true u.is_well (are_compared how what t.of u.of) a.1 in
      let s : Stated c t e = r.stated a.0 in
      let v : Stated c u f = q.stated b.0 in
      let k : BothCompared how what t.of u.of = both_compared how what t.of u.of b.1 in
      compared_shown (t.is_well && (u.is_well && are_compared how what t.of u.of)) how what k.first k.second fits_of k.alike
      (s.of k.first k.first_is) (v.of k.second k.second_is) (works s.shown k.first k.first_is)
      (works v.shown k.second k.second_is))

  -- ---- one layer

  value :
      (x : ExpressionHeld) → fits_here (code_of x.0) ≡ true → formed_expression types x.0 ≡ true →
      Every Right (in_expression x.0) → Ready c (typed (site c) x.0) (code_of x.0)
  value x f d n = x.1 (both_true (code_of x.0).gives (code_of x.0).fits f).1 d n

  abbrev LayerIs : Expression-F Expression Link Addend Factor → Type 0
  LayerIs x =
      Good (expression_typed (site c) (as_typed x)) (of_layer (as_code x)) (expression_formed types (as_formed x))
      (expression_numbers (as_numbers x))

  construct_layer : (class : ℕ) (ps : List Place) → LayerIs (Expression-F.Construct class ps)
  construct_layer class ps f d n =
      let passes : Bool =
      some_class (λ z. z.number == class && are_captured z.captured (map (type_at (site c)) ps)) c.source.core.classes in
      ready c Right known passes (Some (named class)) (of_layer (Expression-F.Construct class ps)) refl
      (λ h.
      let s = constructed c Right known passes class ps n.0 h in
      stated_of c Right known passes (named class) (of_layer (Expression-F.Construct class ps)) s.1 s.0)

  create_layer : (class : ℕ) (xs : List ExpressionHeld) → LayerIs (Expression-F.Create class (map bare_x xs))
  create_layer class xs f d n =
      let ts : List Typed = map (typed (site c)) (map bare_x xs) in
      let es : List Emitted = map code_of (map bare_x xs) in
      let passes : Bool =
      some_class (λ z. z.number == class && go_in c.source.table (parameters_of_class z) ts) c.source.core.classes in
      ready c Right known passes (Some (named class)) (of_layer (Expression-F.Create class es)) refl
      (λ h.
      let s = created c Right known passes class (length (map in_expression (map bare_x xs))) ts es (all_stated xs f d n.1)
      n.0 h in
      stated_of c Right known passes (named class) (of_layer (Expression-F.Create class es)) s.1 s.0)

  chain_layer : (x : ExpressionHeld) (ls : List LinkHeld) → LayerIs (Expression-F.Chain x.0 (map bare_l ls))
  chain_layer x [] f d n = not_true (both_true (formed_expression types x.0) false d).1
  chain_layer x (l ∷ ls) f d n =
      let ms : List Link = map bare_l ls in
      let fs = both_true (fits_here (code_of x.0)) (links_fit (map of_link (l.0 ∷ ms))) f in
      let ds = both_true (formed_expression types x.0) (all_formed (map (formed_link types) (l.0 ∷ ms))) d in
      let ns : List Number = all_numbers (map in_link (l.0 ∷ ms)) in
      let links = all_links (l ∷ ls) fs.1 ds.1 (every_right Right (in_expression x.0) ns n) in
      chain_ready (typed (site c) x.0) (code_of x.0) (typed_link (site c) l.0) (map (typed_link (site c)) ms) (of_link l.0)
      (map of_link ms) (value x fs.0 ds.0 (every_left Right (in_expression x.0) ns n)) links.0 links.1

  term_layer : (x : ExpressionHeld) (ms : List FactorHeld) → LayerIs (Expression-F.Term x.0 (map bare_f ms))
  term_layer x ms f d n =
      let ys : List Factor = map bare_f ms in
      let fs = both_true (fits_here (code_of x.0)) (all_apply (map of_factor ys)) f in
      let ds = both_true (formed_expression types x.0) (all_formed (map (formed_factor types) ys)) d in
      let ns : List Number = all_numbers (map in_factor ys) in
      term_ready (typed (site c) x.0) (code_of x.0) (map (typed_factor (site c)) ys) (map of_factor ys)
      (value x fs.0 ds.0 (every_left Right (in_expression x.0) ns n))
      (all_factors ms fs.1 ds.1 (every_right Right (in_expression x.0) ns n))

  sum_layer : (x : ExpressionHeld) (ms : List AddendHeld) → LayerIs (Expression-F.Sum x.0 (map bare_a ms))
  sum_layer x ms f d n =
      let ys : List Addend = map bare_a ms in
      let fs = both_true (fits_here (code_of x.0)) (all_apply (map of_addend ys)) f in
      let ds = both_true (formed_expression types x.0) (all_formed (map (formed_addend types) ys)) d in
      let ns : List Number = all_numbers (map in_addend ys) in
      sum_ready (typed (site c) x.0) (code_of x.0) (map (typed_addend (site c)) ys) (map of_addend ys)
      (value x fs.0 ds.0 (every_left Right (in_expression x.0) ns n))
      (all_addends ms fs.1 ds.1 (every_right Right (in_expression x.0) ns n))

  -- `and`, or `or`
  needed_layer :
      (wanted_so : Bool) (x : ExpressionHeld) (xs : List ExpressionHeld) →
      fits_here (code_of x.0) && all_fit (map code_of (map bare_x xs)) ≡ true →
      formed_expression types x.0 && all_formed (map (formed_expression types) (map bare_x xs)) ≡ true →
      Every Right (in_expression x.0 ++ all_numbers (map in_expression (map bare_x xs))) →
      Ready c (typed_if (all_are wanted.Boolean (typed (site c) x.0 ∷ map (typed (site c)) (map bare_x xs))) (Some boolean))
      (by_code (fits_here (code_of x.0) && all_fit (map code_of (map bare_x xs)))
      (λ h. (code_of x.0).code h ++ needed_code wanted_so (map code_of (map bare_x xs)) h))
  needed_layer wanted_so x xs f d n =
      let ys : List Expression = map bare_x xs in
      let fs = both_true (fits_here (code_of x.0)) (all_fit (map code_of ys)) f in
      let ds = both_true (formed_expression types x.0) (all_formed (map (formed_expression types) ys)) d in
      let ns : List Number = all_numbers (map in_expression ys) in
      needed_ready c Right known wanted_so (typed (site c) x.0) (code_of x.0) (map (typed (site c)) ys) (map code_of ys)
      (value x fs.0 ds.0 (every_left Right (in_expression x.0) ns n))
      (all_stated xs fs.1 ds.1 (every_right Right (in_expression x.0) ns n))

  compared_fits : (how : Comparison) (o : Option Order) (e f : Emitted) → (comparison how e f o).fits ≡ true →
      fits_here e && fits_here f ≡ true
  compared_fits how None e f h = h
  compared_fits how (Some o) e f h = h

  compare_layer :
      (how : Comparison) (what : Compared) (x y : ExpressionHeld) → LayerIs (Expression-F.Compare x.0 how what y.0)
  compare_layer how what x y f d n =
      let fs = both_true (fits_here (code_of x.0)) (fits_here (code_of y.0))
      (compared_fits how (stop_order how what) (code_of x.0) (code_of y.0) f) in
      let ds = both_true (formed_expression types x.0) (formed_expression types y.0) d in
      compare_ready how what (typed (site c) x.0) (typed (site c) y.0) (code_of x.0) (code_of y.0)
      (value x fs.0 ds.0 (every_left Right (in_expression x.0) (in_expression y.0) n))
      (value y fs.1 ds.1 (every_right Right (in_expression x.0) (in_expression y.0) n))

  layer : (y : Expression-F ExpressionHeld LinkHeld AddendHeld FactorHeld) → LayerIs (bare y)
  layer (Expression-F.Number z) f d n = leaf_ready c Right known (NumberLeaf (pos z)) integer tt (λ hs. refl)
  layer (Expression-F.Literal text) f d n = text_ready c Right known text f
  layer (Expression-F.Truth b) f d n = leaf_ready c Right known (Truth b) boolean tt (λ hs. refl)
  layer Expression-F.Nil f d n = leaf_ready c Right known Nil type.Nil tt (λ hs. refl)
  layer Expression-F.Itself f d n = itself_ready c Right known
  layer (Expression-F.Read p) f d n = read_ready c Right known p
  layer Expression-F.NodeCount f d n = count_ready c Right known
  layer (Expression-F.NodeAt x at) f d n =
      node_ready c Right known (typed (site c) x.0) (code_of x.0) (line c.source at) (value x f d n)
  layer (Expression-F.NewVector of x at) f d n =
      let ds = both_true (is_of_types types of) (formed_expression types x.0) d in
      vector_ready c Right known (typed (site c) x.0) (code_of x.0) of (line c.source at) (of_types (types_in c) of ds.0)
      (value x f ds.1 n)
  layer (Expression-F.Construct class ps) f d n = construct_layer class ps f d n
  layer (Expression-F.Create class xs) f d n = create_layer class xs f d n
  layer (Expression-F.Chain x ls) f d n = chain_layer x ls f d n
  layer (Expression-F.Negative x) f d n =
      negative_ready c Right known (typed (site c) x.0) (code_of x.0) (value x f d n)
  layer (Expression-F.Not x) f d n = not_ready c Right known (typed (site c) x.0) (code_of x.0) (value x f d n)
  layer (Expression-F.View x of at) f d n =
      let ds = both_true (is_not_nil of) (is_of_types types of && formed_expression types x.0) d in
      let es = both_true (is_of_types types of) (formed_expression types x.0) ds.1 in
      view_ready c Right known (typed (site c) x.0) (code_of x.0) of (line c.source at) ds.0 (of_types (types_in c) of es.0)
      (value x f es.1 n)
  layer (Expression-F.IsFixed x at) f d n =
      fixed_ready c Right known (typed (site c) x.0) (code_of x.0) (line c.source at) (value x f d n)
  layer (Expression-F.Term x ms) f d n = term_layer x ms f d n
  layer (Expression-F.Sum x ms) f d n = sum_layer x ms f d n
  layer (Expression-F.Compare x how what y) f d n = compare_layer how what x y f d n
  layer (Expression-F.And x xs) f d n = needed_layer false x xs f d n
  layer (Expression-F.Or x xs) f d n = needed_layer true x xs f d n

  -- ---- links, addends and factors

  abbrev LinkLayerIs : Link-F Expression Link Addend Factor → Type 0
  LinkLayerIs x =
      GoodLink
      (link_typed (site c)
      (map-Link Expression Link Addend Factor Typed AfterLink TypedAddend Typed (typed (site c)) (typed_link (site c))
      (typed_addend (site c)) (typed_factor (site c)) x))
      (of_link_layer
      (map-Link Expression Link Addend Factor Emitted Following Applied Applied code_of of_link of_addend of_factor x))
      (link_formed types
      (map-Link Expression Link Addend Factor Bool Bool Bool Bool (formed_expression types) (formed_link types)
      (formed_addend types) (formed_factor types) x))
      (link_numbers
      (map-Link Expression Link Addend Factor (List Number) (List Number) (List Number) (List Number) in_expression in_link
      in_addend in_factor x))

  link_layer : (y : Link-F ExpressionHeld LinkHeld AddendHeld FactorHeld) → LinkLayerIs (bare_link y)
  link_layer (Link-F.Invoke name xs of at) f d n =
      let ys : List Expression = map bare_x xs in
      let ds = both_true (is_of_if types of) (all_formed (map (formed_expression types) ys)) d in
      invoke_ready c Right known name (line c.source at) (map (typed (site c)) ys) (map code_of ys)
      (all_stated xs f ds.1 n) of
      (of_types_if c of ds.0)
  link_layer (Link-F.Call b xs at) f d n =
      let ys : List Expression = map bare_x xs in
      builtin_ready c Right known b (line c.source at) (map (typed (site c)) ys) (map code_of ys) (all_stated xs f d n)
  link_layer (Link-F.Element x of at) f d n =
      let ds = both_true (is_of_types types of) (formed_expression types x.0) d in
      let r : Ready c (typed (site c) x.0) (code_of x.0) = value x f ds.1 n in
      element_ready c Right known (typed (site c) x.0) (code_of x.0) r.stated of (line c.source at)
      (of_types (types_in c) of ds.0)

  addend_ready :
      (how : Additive) (at : ℕ) (t : Typed) (e : Emitted) → Ready c t e →
      AddendReady (setting c) (record { operator = how; value = t }) (record { code = joined how e at; fits = fits_here e })
  addend_ready how at t e r h q before hs v =
      let s : Stated c t e = r.stated (well_taken (operand_of how) t h) in
      adds how at fits_of (works s.shown (result_type how) (right_operand how t h)) q before hs v

  factor_ready :
      (how : Multiplicative) (at : ℕ) (t : Typed) (e : Emitted) → Ready c t e →
      FactorReady (setting c) t (record { code = multiplied how e at; fits = fits_here e })
  factor_ready how at t e r h q before hs v =
      multiplies how at fits_of (number_of c Right known t e r h) q before hs v

  -- ---- the induction

  expression_from :
      (x : Expression-F Expression Link Addend Factor) (y : Expression-F ExpressionHeld LinkHeld AddendHeld FactorHeld) →
      bare y ≡ x → IsFine (roll-Expression x)
  expression_from x y is =
      subst (λ z. IsFine (roll-Expression z)) is
      (moved Good
      (fold-roll-Expression Typed AfterLink TypedAddend Typed (expression_typed (site c)) (link_typed (site c))
      (addend_typed (site c)) (factor_typed (site c)) (bare y))
      (fold-roll-Expression Emitted Following Applied Applied of_layer of_link_layer of_addend_layer of_factor_layer
      (bare y))
      (fold-roll-Expression Bool Bool Bool Bool (expression_formed types) (link_formed types) (addend_formed types)
      (factor_formed types) (bare y))
      (fold-roll-Expression (List Number) (List Number) (List Number) (List Number) expression_numbers link_numbers
      addend_numbers factor_numbers (bare y)) (layer y))

  link_from :
      (x : Link-F Expression Link Addend Factor) (y : Link-F ExpressionHeld LinkHeld AddendHeld FactorHeld) →
      bare_link y ≡ x → LinkIs (roll-Link x)
  link_from x y is =
      subst (λ z. LinkIs (roll-Link z)) is
      (moved GoodLink
      (fold-roll-Link Typed AfterLink TypedAddend Typed (expression_typed (site c)) (link_typed (site c))
      (addend_typed (site c)) (factor_typed (site c)) (bare_link y))
      (fold-roll-Link Emitted Following Applied Applied of_layer of_link_layer of_addend_layer of_factor_layer
      (bare_link y))
      (fold-roll-Link Bool Bool Bool Bool (expression_formed types) (link_formed types) (addend_formed types)
      (factor_formed types)
      (bare_link y))
      (fold-roll-Link (List Number) (List Number) (List Number) (List Number) expression_numbers link_numbers addend_numbers
      factor_numbers (bare_link y))
      (link_layer y))

  addend_from :
      (x : Addend-F Expression Link Addend Factor) (y : Addend-F ExpressionHeld LinkHeld AddendHeld FactorHeld) →
      bare_addend y ≡ x → AddendIs (roll-Addend x)
  addend_from x y is =
      subst (λ z. AddendIs (roll-Addend z)) is
      (moved GoodAddend
      (fold-roll-Addend Typed AfterLink TypedAddend Typed (expression_typed (site c)) (link_typed (site c))
      (addend_typed (site c)) (factor_typed (site c)) (bare_addend y))
      (fold-roll-Addend Emitted Following Applied Applied of_layer of_link_layer of_addend_layer of_factor_layer
      (bare_addend y))
      (fold-roll-Addend Bool Bool Bool Bool (expression_formed types) (link_formed types) (addend_formed types)
      (factor_formed types)
      (bare_addend y))
      (fold-roll-Addend (List Number) (List Number) (List Number) (List Number) expression_numbers link_numbers
      addend_numbers factor_numbers (bare_addend y)) (λ f d n.
      addend_ready y.operator (line c.source y.at) (typed (site c) y.value.0) (code_of y.value.0) (value y.value f d n)))

  factor_from :
      (x : Factor-F Expression Link Addend Factor) (y : Factor-F ExpressionHeld LinkHeld AddendHeld FactorHeld) →
      bare_factor y ≡ x → FactorIs (roll-Factor x)
  factor_from x y is =
      subst (λ z. FactorIs (roll-Factor z)) is
      (moved GoodFactor
      (fold-roll-Factor Typed AfterLink TypedAddend Typed (expression_typed (site c)) (link_typed (site c))
      (addend_typed (site c)) (factor_typed (site c)) (bare_factor y))
      (fold-roll-Factor Emitted Following Applied Applied of_layer of_link_layer of_addend_layer of_factor_layer
      (bare_factor y))
      (fold-roll-Factor Bool Bool Bool Bool (expression_formed types) (link_formed types) (addend_formed types)
      (factor_formed types)
      (bare_factor y))
      (fold-roll-Factor (List Number) (List Number) (List Number) (List Number) expression_numbers link_numbers
      addend_numbers factor_numbers (bare_factor y)) (λ f d n.
      factor_ready y.operator (line c.source y.at) (typed (site c) y.value.0) (code_of y.value.0) (value y.value f d n)))

  pub is_fine : (x : Expression) → IsFine x
  is_fine = ind-Expression IsFine LinkIs AddendIs FactorIs expression_from link_from addend_from factor_from
