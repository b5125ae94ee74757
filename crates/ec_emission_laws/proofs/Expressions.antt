-- Each expression that is well typed fits where it gives a value, and where it gives none, if it is a call.
use Rattle.std.proofs.Common.{◌≡◌, ℕ, Bool, true, false, ◌&&◌, ◌==◌, List, [], ◌∷◌, map, Option, Some, None, refl, sym, ap}
use Rattle.std.proofs.Common.{◌∙◌, subst, is_some}
use Rattle.ec_ast.specs.declared.Comparison.{Comparison}
use Rattle.ec_check.proofs.Every.{not_both, first_holds, second_holds}
use Rattle.ec_check.proofs.TypedRolled.{typed_layer, expression_rolled, typed_link_layer, link_rolled, addend_rolled, factor_rolled}
use Rattle.ec_check.proofs.WellValues.{both_hold}
use Rattle.ec_check.specs.WellTyped.{Site, Typed, AfterLink, TypedAddend, typed, typed_link, typed_addend, typed_factor}
use Rattle.ec_check.specs.WellTyped.{expression_typed, link_typed, along, added, is_of, all_are, go_in, some_class, some_operation}
use Rattle.ec_check.specs.WellTyped.{is_own, is_element, can_be_called, can_invoke, fits_operation, type_has, own_has, are_none}
use Rattle.ec_check.specs.WellTyped.{are_two_integers, parameters_of_class, parameters_of, result_of, is_named}
use Rattle.ec_types.specs.Table.{Table}
use Rattle.ec_types.specs.declared.conform.operations.NamedOperation.{NamedOperation}
use Rattle.ec_types.specs.declared.conform.static_type.Plain.TheVariants.{Integer, Boolean, String, Any, Node, Named}
use Rattle.ec_types.specs.declared.conform.static_type.StaticType.{StaticType}
use Rattle.ec_types.specs.declared.conform.static_type.StaticType.TheVariants.{Plain, Vector, Nil, Unknown}
use Rattle.ec_core.specs.declared.Addend.{Addend, roll-Addend, map-Addend, fold-Addend, fold-roll-Addend}
use Rattle.ec_core.specs.declared.Builtin.TheVariants.{AsString, Length, GetSlice, Size}
use Rattle.ec_core.specs.declared.Class.{Class}
use Rattle.ec_core.specs.declared.Expression.{Expression, roll-Expression, out-roll-Expression, map-Expression, ind-Expression}
use Rattle.ec_core.specs.declared.Expression.{fold-roll-Expression}
use Rattle.ec_core.specs.declared.Expression.TheOpen.{Expression-F, Link-F, Addend-F, Factor-F}
use Rattle.ec_core.specs.declared.Factor.{Factor, roll-Factor, map-Factor, fold-Factor, fold-roll-Factor}
use Rattle.ec_core.specs.declared.Link.{Link, roll-Link, map-Link, fold-Link, fold-roll-Link}
use Rattle.ec_core.specs.declared.Operation.{Operation}
use Rattle.ec_core_laws.proofs.Expressions.{addend_is, factor_is}
use Rattle.ec_emission.proofs.Literals.{AllAmong, among_first, among_second}
use Rattle.ec_emission.specs.Expressions.{Emitted, Following, Applied, fits_here, all_fit, all_apply, links_fit, links_give}
use Rattle.ec_emission.specs.Expressions.{comparison, stop_order, gives_result, expression_code, link_code, addend_code, factor_code}
use Rattle.ec_emission.specs.Expressions.{emitted}
use Rattle.ec_core.specs.Literals.{Texts, joined, texts_of, expression_texts, link_texts, addend_texts, factor_texts}
use Rattle.ec_core.specs.Literals.{texts_of_link, texts_of_addend, texts_of_factor}
use Rattle.ec_emission_laws.proofs.Values.{SelfIsValue, with_addend, one_of, taken_some, goes_in_value, element_some}
use Rattle.ec_emission_laws.proofs.Values.{receiver_some, compared_some, own_some, sum_some, sum_other}
use Rattle.ec_emission_laws.specs.Dropped.{last_gives, expression_gives, link_gives, addend_gives, factor_gives, gives_value}
use Rattle.ec_emission_laws.specs.Dropped.{link_gives_value, has_link, may_be_dropped}
use Rattle.ec_meaning.specs.Programs.{Source}
use Rattle.ec_types.specs.Names.{Text, is_same as is_same_name}
use Rattle.ec_rules.specs.Operands.{operand_of}
use Rattle.ec_rules.specs.Types.{is_vector}
use Rattle.ec_rules.specs.declared.operands.Wanted.{Wanted}
use Rattle.ec_rules.specs.declared.operands.Wanted.TheVariants as wanted
use Rattle.ec_world.specs.declared.stop.Order.{Order}

-- ---- what is shown

-- What becomes of a link fits, and it gives a value where the link has a type; before the link there is a value.
record LinkFits (before t : Typed) (f : Following) : Type 0 where
  pub well : before.is_well ≡ true
  pub some : is_some before.of ≡ true
  pub fits : f.fits ≡ true
  pub gives : f.gives ≡ is_some t.of

given_result : (result : Option StaticType) → gives_result result ≡ is_some result
given_result None = refl
given_result (Some of) = refl

comparison_fits : (how : Comparison) (x y : Emitted) (order : Option Order) → fits_here x && fits_here y ≡ true →
    fits_here (comparison how x y order) ≡ true
comparison_fits how x y None e = e
comparison_fits how x y (Some order) e = e

module _ (site : Site) (s : Source) (captured count : ℕ) (literals : Texts) where
  abbrev of_layer : Expression-F Emitted Following Applied Applied → Emitted
  of_layer = expression_code s captured count literals

  abbrev of_link_layer : Link-F Emitted Following Applied Applied → Following
  of_link_layer = link_code s captured count literals

  abbrev of_addend_layer : Addend-F Emitted Following Applied Applied → Applied
  of_addend_layer = addend_code s captured count literals

  abbrev of_factor_layer : Factor-F Emitted Following Applied Applied → Applied
  of_factor_layer = factor_code s captured count literals

  abbrev code_of : Expression → Emitted
  code_of = emitted s captured count literals

  abbrev of_link : Link → Following
  of_link = fold-Link Emitted Following Applied Applied of_layer of_link_layer of_addend_layer of_factor_layer

  abbrev of_addend : Addend → Applied
  of_addend = fold-Addend Emitted Following Applied Applied of_layer of_link_layer of_addend_layer of_factor_layer

  abbrev of_factor : Factor → Applied
  of_factor = fold-Factor Emitted Following Applied Applied of_layer of_link_layer of_addend_layer of_factor_layer

  -- Each text of a part is one of the literals.
  abbrev Among : Texts → Type 0
  Among ts = AllAmong literals ts

  -- A well-typed expression has a type where it gives a value; it fits as a value there, and alone where it may be dropped.
  pub record IsFit (x : Expression) : Type 0 where
    pub itself : SelfIsValue (typed site x)
    pub given : (typed site x).is_well ≡ true → gives_value x ≡ true → is_some (typed site x).of ≡ true
    pub value :
        (typed site x).is_well ≡ true → AllAmong literals (texts_of x) → is_some (typed site x).of ≡ true →
        fits_here (emitted s captured count literals x) ≡ true
    pub alone :
        (typed site x).is_well ≡ true → AllAmong literals (texts_of x) → may_be_dropped x ≡ true →
        (emitted s captured count literals x).fits ≡ true

  record LinkIs (x : Link) : Type 0 where
    pub other : (before : Typed) → (typed_link site x before).is_itself ≡ false
    pub given : (before : Typed) → is_some (typed_link site x before).of ≡ link_gives_value x
    pub behind :
        (before : Typed) → SelfIsValue before → (typed_link site x before).is_well ≡ true → Among (texts_of_link x) →
        LinkFits before (typed_link site x before) (of_link x)

  abbrev AddendIs : Addend → Type 0
  AddendIs x = (w : Wanted) → is_of w (typed_addend site x).value ≡ true → Among (texts_of_addend x) → (of_addend x).fits ≡ true

  abbrev FactorIs : Factor → Type 0
  FactorIs x = (w : Wanted) → is_of w (typed_factor site x) ≡ true → Among (texts_of_factor x) → (of_factor x).fits ≡ true

  abbrev ExpressionHeld : Type 0
  ExpressionHeld = (x : Expression) × IsFit x

  abbrev LinkHeld : Type 0
  LinkHeld = (x : Link) × LinkIs x

  abbrev AddendHeld : Type 0
  AddendHeld = (x : Addend) × AddendIs x

  abbrev FactorHeld : Type 0
  FactorHeld = (x : Factor) × FactorIs x

  abbrev bare_x : ExpressionHeld → Expression
  bare_x x = x.0

  abbrev bare_l : LinkHeld → Link
  bare_l x = x.0

  abbrev bare_a : AddendHeld → Addend
  bare_a x = x.0

  abbrev bare_f : FactorHeld → Factor
  bare_f x = x.0

  abbrev bare : Expression-F ExpressionHeld LinkHeld AddendHeld FactorHeld → Expression-F Expression Link Addend Factor
  bare = map-Expression ExpressionHeld LinkHeld AddendHeld FactorHeld Expression Link Addend Factor bare_x bare_l bare_a bare_f

  abbrev bare_link : Link-F ExpressionHeld LinkHeld AddendHeld FactorHeld → Link-F Expression Link Addend Factor
  bare_link = map-Link ExpressionHeld LinkHeld AddendHeld FactorHeld Expression Link Addend Factor bare_x bare_l bare_a bare_f

  abbrev bare_addend : Addend-F ExpressionHeld LinkHeld AddendHeld FactorHeld → Addend-F Expression Link Addend Factor
  bare_addend = map-Addend ExpressionHeld LinkHeld AddendHeld FactorHeld Expression Link Addend Factor bare_x bare_l bare_a bare_f

  abbrev bare_factor : Factor-F ExpressionHeld LinkHeld AddendHeld FactorHeld → Factor-F Expression Link Addend Factor
  bare_factor = map-Factor ExpressionHeld LinkHeld AddendHeld FactorHeld Expression Link Addend Factor bare_x bare_l bare_a bare_f

  abbrev coded : Expression-F Expression Link Addend Factor → Expression-F Emitted Following Applied Applied
  coded = map-Expression Expression Link Addend Factor Emitted Following Applied Applied code_of of_link of_addend of_factor

  abbrev coded_link : Link-F Expression Link Addend Factor → Link-F Emitted Following Applied Applied
  coded_link = map-Link Expression Link Addend Factor Emitted Following Applied Applied code_of of_link of_addend of_factor

  abbrev texts_in : Expression-F Expression Link Addend Factor → Expression-F Texts Texts Texts Texts
  texts_in =
      map-Expression Expression Link Addend Factor Texts Texts Texts Texts texts_of texts_of_link texts_of_addend texts_of_factor

  abbrev texts_in_link : Link-F Expression Link Addend Factor → Link-F Texts Texts Texts Texts
  texts_in_link =
      map-Link Expression Link Addend Factor Texts Texts Texts Texts texts_of texts_of_link texts_of_addend texts_of_factor

  abbrev of_addend_gives : Addend → Bool
  of_addend_gives = fold-Addend Bool Bool Bool Bool expression_gives link_gives addend_gives factor_gives

  abbrev of_factor_gives : Factor → Bool
  of_factor_gives = fold-Factor Bool Bool Bool Bool expression_gives link_gives addend_gives factor_gives

  -- ---- lists

  -- an expression of a kind that is wanted
  wanted_fits : (w : Wanted) (x : ExpressionHeld) → is_of w (typed site x.0) ≡ true → Among (texts_of x.0) →
      fits_here (code_of x.0) ≡ true
  wanted_fits w x e a =
      x.1.value (first_holds (typed site x.0).is_well _ e) a
      (taken_some w (typed site x.0).of (second_holds (typed site x.0).is_well _ e))

  abbrev typed_all : List ExpressionHeld → List Typed
  typed_all xs = map (typed site) (map bare_x xs)

  abbrev texts_of_all : List ExpressionHeld → Texts
  texts_of_all xs = joined (map texts_of (map bare_x xs))

  abbrev texts_of_links : List LinkHeld → Texts
  texts_of_links xs = joined (map texts_of_link (map bare_l xs))

  abbrev texts_of_addends : List AddendHeld → Texts
  texts_of_addends xs = joined (map texts_of_addend (map bare_a xs))

  abbrev texts_of_factors : List FactorHeld → Texts
  texts_of_factors xs = joined (map texts_of_factor (map bare_f xs))

  abbrev CodesFit : List ExpressionHeld → Type 0
  CodesFit xs = all_fit (map code_of (map bare_x xs)) ≡ true

  all_are_fit : (w : Wanted) (xs : List ExpressionHeld) → all_are w (typed_all xs) ≡ true → Among (texts_of_all xs) → CodesFit xs
  all_are_fit w [] e a = refl
  all_are_fit w (x ∷ xs) e a =
      both_hold _ _ (wanted_fits w x (first_holds _ _ e) (among_first literals (texts_of x.0) (texts_of_all xs) a))
      (all_are_fit w xs (second_holds _ _ e) (among_second literals (texts_of x.0) (texts_of_all xs) a))

  go_in_fit : (table : Table) (ts : List StaticType) (xs : List ExpressionHeld) → go_in table ts (typed_all xs) ≡ true →
      Among (texts_of_all xs) → CodesFit xs
  go_in_fit table [] [] e a = refl
  go_in_fit table [] (x ∷ xs) e a = not_both e
  go_in_fit table (t ∷ ts) [] e a = refl
  go_in_fit table (t ∷ ts) (x ∷ xs) e a =
      let v = goes_in_value table t (typed site x.0) (first_holds _ _ e) in
      both_hold _ _ (x.1.value v.0 (among_first literals (texts_of x.0) (texts_of_all xs) a) v.1)
      (go_in_fit table ts xs (second_holds _ _ e) (among_second literals (texts_of x.0) (texts_of_all xs) a))

  created_fit : (class : ℕ) (xs : List ExpressionHeld) (cs : List Class) →
      some_class (λ c. (c.number == class) && go_in site.table (parameters_of_class c) (typed_all xs)) cs ≡ true →
      Among (texts_of_all xs) → CodesFit xs
  created_fit class xs [] e a = not_both e
  created_fit class xs (c ∷ cs) e a =
      one_of _ _ (λ h. go_in_fit site.table (parameters_of_class c) xs (second_holds _ _ h) a)
      (λ h. created_fit class xs cs h a) e

  factors_fit : (xs : List FactorHeld) → all_are wanted.Integer (map (typed_factor site) (map bare_f xs)) ≡ true →
      Among (texts_of_factors xs) → all_apply (map of_factor (map bare_f xs)) ≡ true
  factors_fit [] e a = refl
  factors_fit (x ∷ xs) e a =
      both_hold _ _
      (x.1 wanted.Integer (first_holds _ _ e) (among_first literals (texts_of_factor x.0) (texts_of_factors xs) a))
      (factors_fit xs (second_holds _ _ e) (among_second literals (texts_of_factor x.0) (texts_of_factors xs) a))

  addends_fit : (xs : List AddendHeld) (left : Typed) →
      (added left (map (typed_addend site) (map bare_a xs))).is_well ≡ true → Among (texts_of_addends xs) →
      (left.is_well ≡ true) × (all_apply (map of_addend (map bare_a xs)) ≡ true)
  addends_fit [] left e a = (e, refl)
  addends_fit (x ∷ xs) left e a =
      let b : TypedAddend = typed_addend site x.0 in
      let w : Wanted = operand_of b.operator in
      let r =
      addends_fit xs (with_addend left b) e (among_second literals (texts_of_addend x.0) (texts_of_addends xs) a) in (
        first_holds left.is_well _ (first_holds (is_of w left) _ r.0),
        both_hold _ _
            (x.1 w (second_holds (is_of w left) _ r.0) (among_first literals (texts_of_addend x.0) (texts_of_addends xs) a)) r.1,
      )

  -- ---- links

  -- what is shown of a link and of those behind it, over what is before them
  record AlongFits (x : LinkHeld) (xs : List LinkHeld) (before : Typed) : Type 0 where
    pub well : before.is_well ≡ true
    pub some : is_some before.of ≡ true
    pub fits : links_fit (map of_link (map bare_l (x ∷ xs))) ≡ true
    pub gives :
        (b : Bool) →
        links_give b (map of_link (map bare_l (x ∷ xs)))
        ≡ is_some (along before (map (typed_link site) (map bare_l (x ∷ xs)))).of

  along_fits : (x : LinkHeld) (xs : List LinkHeld) (before : Typed) → SelfIsValue before →
      (along before (map (typed_link site) (map bare_l (x ∷ xs)))).is_well ≡ true → Among (texts_of_links (x ∷ xs)) →
      AlongFits x xs before
  along_fits x [] before v e a =
      let f = x.1.behind before v e (among_first literals (texts_of_link x.0) [] a) in
      record { well = f.well; some = f.some; fits = f.fits; gives = λ b. f.gives }
  along_fits x (y ∷ ys) before v e a =
      let t : Typed = typed_link site x.0 before in
      let r =
      along_fits y ys t (λ h w. not_both (sym (x.1.other before) ∙ h)) e
      (among_second literals (texts_of_link x.0) (texts_of_links (y ∷ ys)) a) in
      let f = x.1.behind before v r.well (among_first literals (texts_of_link x.0) (texts_of_links (y ∷ ys)) a) in
      record {
        well = f.well;
        some = f.some;
        fits = both_hold _ _ (both_hold _ _ (f.gives ∙ r.some) f.fits) r.fits;
        gives = λ b. r.gives (of_link x.0).gives;
      }

  along_self : (xs : List LinkHeld) (before : Typed) → SelfIsValue before →
      SelfIsValue (along before (map (typed_link site) (map bare_l xs)))
  along_self [] before v = v
  along_self (x ∷ xs) before v = along_self xs (typed_link site x.0 before) (λ h w. not_both (sym (x.1.other before) ∙ h))

  along_given : (xs : List LinkHeld) (before : Typed) (b : Bool) → is_some before.of ≡ b →
      is_some (along before (map (typed_link site) (map bare_l xs))).of ≡ last_gives b (map link_gives_value (map bare_l xs))
  along_given [] before b e = e
  along_given (x ∷ xs) before b e = along_given xs (typed_link site x.0 before) (link_gives_value x.0) (x.1.given before)

  -- ---- calls

  called_fit : (table : Table) (ps : List StaticType) (gives : Option StaticType) (xs : List ExpressionHeld)
      (result : Option StaticType) → can_be_called table ps gives (typed_all xs) result ≡ true → Among (texts_of_all xs) → CodesFit xs
  called_fit table ps gives xs result e a = go_in_fit table ps xs (first_holds _ _ e) a

  operation_fit : (table : Table) (o : Option NamedOperation) (xs : List ExpressionHeld) (result : Option StaticType) →
      fits_operation table o (typed_all xs) result ≡ true → Among (texts_of_all xs) → CodesFit xs
  operation_fit table None xs result e a = not_both e
  operation_fit table (Some o) xs result e a = called_fit table o.parameters o.result xs result e a

  has_fit : (of : Option StaticType) (name : Text) (xs : List ExpressionHeld) (result : Option StaticType) →
      type_has site.table of name (typed_all xs) result ≡ true → Among (texts_of_all xs) → CodesFit xs
  has_fit None name xs result e a = not_both e
  has_fit (Some (Plain Integer)) name xs result e a = not_both e
  has_fit (Some (Plain Boolean)) name xs result e a = not_both e
  has_fit (Some (Plain String)) name xs result e a = not_both e
  has_fit (Some (Plain Any)) name xs result e a = not_both e
  has_fit (Some (Plain Node)) name xs result e a = not_both e
  has_fit (Some (Plain (Named n))) name xs result e a = operation_fit site.table _ xs result e a
  has_fit (Some (Vector n t)) name xs result e a = not_both e
  has_fit (Some Nil) name xs result e a = not_both e
  has_fit (Some Unknown) name xs result e a = not_both e

  some_fit : (class : ℕ) (name : Text) (xs : List ExpressionHeld) (result : Option StaticType) (os : List Operation) →
      some_operation (is_own site.table class name (typed_all xs) result) os ≡ true → Among (texts_of_all xs) → CodesFit xs
  some_fit class name xs result [] e a = not_both e
  some_fit class name xs result (o ∷ os) e a =
      one_of (is_own site.table class name (typed_all xs) result o) _
      (λ h.
      called_fit site.table (parameters_of o) (result_of o) xs result
      (second_holds (is_same_name o.name name) _ (second_holds (is_named o.kind) _ (second_holds (o.class == class) _ h))) a)
      (λ h. some_fit class name xs result os h a) e

  own_fit : (own : Option ℕ) (name : Text) (xs : List ExpressionHeld) (result : Option StaticType) →
      own_has site own name (typed_all xs) result ≡ true → Among (texts_of_all xs) → CodesFit xs
  own_fit None name xs result e a = not_both e
  own_fit (Some class) name xs result e a = some_fit class name xs result site.core.operations e a

  invoked_fit : (before : Typed) (name : Text) (xs : List ExpressionHeld) (result : Option StaticType) → SelfIsValue before →
      before.is_well ≡ true → can_invoke site before name (typed_all xs) result ≡ true → Among (texts_of_all xs) →
      (is_some before.of ≡ true) × CodesFit xs
  invoked_fit before name xs result v w e a =
      one_of (before.is_itself && own_has site site.own name (typed_all xs) result) _
      (λ h. (v (first_holds before.is_itself _ h) w, own_fit site.own name xs result (second_holds before.is_itself _ h) a))
      (λ h. (receiver_some site.table before.of name (typed_all xs) result h, has_fit before.of name xs result h a)) e

  none_fit : (xs : List ExpressionHeld) → are_none (typed_all xs) ≡ true → CodesFit xs
  none_fit [] e = refl
  none_fit (x ∷ xs) e = not_both e

  two_fit : (xs : List ExpressionHeld) → are_two_integers (typed_all xs) ≡ true → Among (texts_of_all xs) → CodesFit xs
  two_fit [] e a = refl
  two_fit (x ∷ []) e a = not_both e
  two_fit (x ∷ y ∷ []) e a =
      let b = among_second literals (texts_of x.0) (texts_of_all (y ∷ [])) a in
      both_hold _ _
      (wanted_fits wanted.Integer x (first_holds (is_of wanted.Integer (typed site x.0)) _ e)
      (among_first literals (texts_of x.0) (texts_of_all (y ∷ [])) a))
      (both_hold _ _
      (wanted_fits wanted.Integer y (second_holds (is_of wanted.Integer (typed site x.0)) _ e)
      (among_first literals (texts_of y.0) [] b)) refl)
  two_fit (x ∷ y ∷ z ∷ xs) e a = not_both e

  -- a receiver of a kind
  of_kind : (w : Wanted) (before : Typed) → is_of w before ≡ true → (before.is_well ≡ true) × (is_some before.of ≡ true)
  of_kind w before e = (
    first_holds before.is_well _ e,
    taken_some w before.of (second_holds before.is_well _ e),
  )

  link_layer : (y : Link-F ExpressionHeld LinkHeld AddendHeld FactorHeld) (before : Typed) → SelfIsValue before →
      (link_typed site (typed_link_layer site (bare_link y)) before).is_well ≡ true →
      Among (link_texts (texts_in_link (bare_link y))) →
      LinkFits before (link_typed site (typed_link_layer site (bare_link y)) before) (of_link_layer (coded_link (bare_link y)))
  link_layer (Link-F.Invoke name xs result at) before v e a =
      let w = first_holds before.is_well _ e in
      let f = invoked_fit before name xs result v w (second_holds before.is_well _ e) a in
      record { well = w; some = f.0; fits = f.1; gives = given_result result }
  link_layer (Link-F.Call AsString xs at) before v e a =
      let k =
      one_of (is_of wanted.Integer before) _ (of_kind wanted.Integer before) (of_kind wanted.Boolean before) (first_holds _ _ e) in
      record { well = k.0; some = k.1; fits = none_fit xs (second_holds _ _ e); gives = refl }
  link_layer (Link-F.Call Length xs at) before v e a =
      let k = of_kind wanted.String before (first_holds _ _ e) in
      record { well = k.0; some = k.1; fits = none_fit xs (second_holds _ _ e); gives = refl }
  link_layer (Link-F.Call GetSlice xs at) before v e a =
      let k = of_kind wanted.String before (first_holds _ _ e) in
      record { well = k.0; some = k.1; fits = two_fit xs (second_holds _ _ e) a; gives = refl }
  link_layer (Link-F.Call Size xs at) before v e a =
      let k = of_kind wanted.Vector before (first_holds _ _ e) in
      record { well = k.0; some = k.1; fits = none_fit xs (second_holds _ _ e); gives = refl }
  link_layer (Link-F.Element number of at) before v e a =
      let h = first_holds (is_element before of) _ e in
      record {
        well = first_holds before.is_well _ h;
        some = element_some before.of of (second_holds before.is_well _ h);
        fits = wanted_fits wanted.Integer number (second_holds (is_element before of) _ e) a;
        gives = refl;
      }

  link_other : (y : Link-F ExpressionHeld LinkHeld AddendHeld FactorHeld) (before : Typed) →
      (link_typed site (typed_link_layer site (bare_link y)) before).is_itself ≡ false
  link_other (Link-F.Invoke name xs result at) before = refl
  link_other (Link-F.Call AsString xs at) before = refl
  link_other (Link-F.Call Length xs at) before = refl
  link_other (Link-F.Call GetSlice xs at) before = refl
  link_other (Link-F.Call Size xs at) before = refl
  link_other (Link-F.Element number of at) before = refl

  abbrev given_link : Link-F Expression Link Addend Factor → Link-F Bool Bool Bool Bool
  given_link =
      map-Link Expression Link Addend Factor Bool Bool Bool Bool gives_value link_gives_value of_addend_gives of_factor_gives

  link_given : (y : Link-F ExpressionHeld LinkHeld AddendHeld FactorHeld) (before : Typed) →
      is_some (link_typed site (typed_link_layer site (bare_link y)) before).of ≡ link_gives (given_link (bare_link y))
  link_given (Link-F.Invoke name xs result at) before = refl
  link_given (Link-F.Call AsString xs at) before = refl
  link_given (Link-F.Call Length xs at) before = refl
  link_given (Link-F.Call GetSlice xs at) before = refl
  link_given (Link-F.Call Size xs at) before = refl
  link_given (Link-F.Element number of at) before = refl

  -- ---- one layer

  abbrev Layer : Type 0
  Layer = Expression-F ExpressionHeld LinkHeld AddendHeld FactorHeld

  abbrev typed_as : Layer → Typed
  typed_as y = expression_typed site (typed_layer site (bare y))

  abbrev texts_at : Layer → Texts
  texts_at y = expression_texts (texts_in (bare y))

  abbrev code_at : Layer → Emitted
  code_at y = of_layer (coded (bare y))

  layer : (y : Layer) → (typed_as y).is_well ≡ true → Among (texts_at y) → is_some (typed_as y).of ≡ true →
      fits_here (code_at y) ≡ true
  layer (Expression-F.Number n) e a o = refl
  layer (Expression-F.Literal text) e a o = a.0
  layer (Expression-F.Truth b) e a o = refl
  layer Expression-F.Nil e a o = refl
  layer Expression-F.Itself e a o = refl
  layer (Expression-F.Read p) e a o = refl
  layer Expression-F.NodeCount e a o = refl
  layer (Expression-F.NodeAt x at) e a o = wanted_fits wanted.Integer x e a
  layer (Expression-F.NewVector of x at) e a o = wanted_fits wanted.Integer x (second_holds (is_vector of) _ e) a
  layer (Expression-F.Construct class places) e a o = refl
  layer (Expression-F.Create class xs) e a o = created_fit class xs site.core.classes e a
  layer (Expression-F.Chain head []) e a o =
      both_hold (fits_here (code_of head.0)) true (head.1.value e (among_first literals (texts_of head.0) [] a) o) refl
  layer (Expression-F.Chain head (x ∷ xs)) e a o =
      let r =
      along_fits x xs (typed site head.0) head.1.itself e
      (among_second literals (texts_of head.0) (texts_of_links (x ∷ xs)) a) in
      both_hold _ _ (r.gives true ∙ o)
      (both_hold _ _ (head.1.value r.well (among_first literals (texts_of head.0) (texts_of_links (x ∷ xs)) a) r.some) r.fits)
  layer (Expression-F.Negative x) e a o = wanted_fits wanted.Integer x e a
  layer (Expression-F.Not x) e a o = wanted_fits wanted.Boolean x e a
  layer (Expression-F.View x of at) e a o =
      wanted_fits wanted.Reference x (first_holds (is_of wanted.Reference (typed site x.0)) _ e) a
  layer (Expression-F.IsFixed x at) e a o = wanted_fits wanted.Reference x e a
  layer (Expression-F.Term first xs) e a o =
      both_hold _ _
      (wanted_fits wanted.Integer first (first_holds _ _ e) (among_first literals (texts_of first.0) (texts_of_factors xs) a))
      (factors_fit xs (second_holds _ _ e) (among_second literals (texts_of first.0) (texts_of_factors xs) a))
  layer (Expression-F.Sum first []) e a o =
      both_hold (fits_here (code_of first.0)) true (first.1.value e (among_first literals (texts_of first.0) [] a) o) refl
  layer (Expression-F.Sum first (x ∷ xs)) e a o =
      let b : TypedAddend = typed_addend site x.0 in
      let w : Wanted = operand_of b.operator in
      let left : Typed = typed site first.0 in
      let d = among_second literals (texts_of first.0) (texts_of_addends (x ∷ xs)) a in
      let r = addends_fit xs (with_addend left b) e (among_second literals (texts_of_addend x.0) (texts_of_addends xs) d) in
      both_hold _ _
      (wanted_fits w first (first_holds (is_of w left) _ r.0)
      (among_first literals (texts_of first.0) (texts_of_addends (x ∷ xs)) a))
      (both_hold _ _
      (x.1 w (second_holds (is_of w left) _ r.0) (among_first literals (texts_of_addend x.0) (texts_of_addends xs) d)) r.1)
  layer (Expression-F.Compare x how what y) e a o =
      let left : Typed = typed site x.0 in
      let right : Typed = typed site y.0 in
      let g = second_holds left.is_well _ e in
      let q = compared_some how what left.of right.of (second_holds right.is_well _ g) in
      comparison_fits how (code_of x.0) (code_of y.0) (stop_order how what)
      (both_hold _ _
      (x.1.value (first_holds left.is_well _ e) (among_first literals (texts_of x.0) (texts_of y.0) a) q.0)
      (y.1.value (first_holds right.is_well _ g) (among_second literals (texts_of x.0) (texts_of y.0) a) q.1))
  layer (Expression-F.And first xs) e a o =
      both_hold _ _
      (wanted_fits wanted.Boolean first (first_holds _ _ e) (among_first literals (texts_of first.0) (texts_of_all xs) a))
      (all_are_fit wanted.Boolean xs (second_holds _ _ e) (among_second literals (texts_of first.0) (texts_of_all xs) a))
  layer (Expression-F.Or first xs) e a o =
      both_hold _ _
      (wanted_fits wanted.Boolean first (first_holds _ _ e) (among_first literals (texts_of first.0) (texts_of_all xs) a))
      (all_are_fit wanted.Boolean xs (second_holds _ _ e) (among_second literals (texts_of first.0) (texts_of_all xs) a))

  abbrev given_in : Layer → Expression-F Bool Bool Bool Bool
  given_in y =
      map-Expression Expression Link Addend Factor Bool Bool Bool Bool gives_value link_gives_value of_addend_gives of_factor_gives
      (bare y)

  given_layer : (y : Layer) → (typed_as y).is_well ≡ true → expression_gives (given_in y) ≡ true → is_some (typed_as y).of ≡ true
  given_layer Expression-F.Itself e g = own_some site.own e
  given_layer (Expression-F.Read p) e g = e
  given_layer (Expression-F.Chain head []) e g = head.1.given e g
  given_layer (Expression-F.Chain head (x ∷ xs)) e g =
      along_given xs (typed_link site x.0 (typed site head.0)) (link_gives_value x.0) (x.1.given (typed site head.0)) ∙ g
  given_layer (Expression-F.Sum first []) e g = first.1.given e g
  given_layer (Expression-F.Sum first (x ∷ xs)) e g =
      sum_some (map (typed_addend site) (map bare_a xs)) (with_addend (typed site first.0) (typed_addend site x.0)) refl
  given_layer _ e g = refl

  linked_layer : (y : Layer) → (typed_as y).is_well ≡ true → Among (texts_at y) → has_link (bare y) ≡ true → (code_at y).fits ≡ true
  linked_layer (Expression-F.Chain head []) e a h = not_both h
  linked_layer (Expression-F.Chain head (x ∷ xs)) e a h =
      let r =
      along_fits x xs (typed site head.0) head.1.itself e
      (among_second literals (texts_of head.0) (texts_of_links (x ∷ xs)) a) in
      both_hold _ _ (head.1.value r.well (among_first literals (texts_of head.0) (texts_of_links (x ∷ xs)) a) r.some) r.fits
  linked_layer _ e a h = not_both h

  self_layer : (y : Layer) → SelfIsValue (typed_as y)
  self_layer Expression-F.Itself = λ h w. own_some site.own w
  self_layer (Expression-F.Chain head xs) = along_self xs (typed site head.0) head.1.itself
  self_layer (Expression-F.Sum first xs) =
      λ h w. not_both (sym (sum_other (map (typed_addend site) (map bare_a xs)) (typed site first.0)) ∙ h)
  self_layer _ = λ h w. not_both h

  -- ---- the induction

  fit_rolled : (y : Layer) → IsFit (roll-Expression (bare y))
  fit_rolled y =
      let t : typed site (roll-Expression (bare y)) ≡ typed_as y = expression_rolled site (bare y) in
      let code : code_of (roll-Expression (bare y)) ≡ code_at y =
      fold-roll-Expression Emitted Following Applied Applied of_layer of_link_layer of_addend_layer of_factor_layer (bare y) in
      let texts : texts_of (roll-Expression (bare y)) ≡ texts_at y =
      fold-roll-Expression Texts Texts Texts Texts expression_texts link_texts addend_texts factor_texts (bare y) in
      let well : (typed site (roll-Expression (bare y))).is_well ≡ true → (typed_as y).is_well ≡ true =
      subst (λ (k : Typed). k.is_well ≡ true) t in
      let among : Among (texts_of (roll-Expression (bare y))) → Among (texts_at y) = subst (λ (k : Texts). Among k) texts in
      let gives : gives_value (roll-Expression (bare y)) ≡ expression_gives (given_in y) =
      fold-roll-Expression Bool Bool Bool Bool expression_gives link_gives addend_gives factor_gives (bare y) in
      let given : (typed_as y).is_well ≡ true → gives_value (roll-Expression (bare y)) ≡ true → is_some (typed_as y).of ≡ true =
      λ e g. given_layer y e (sym gives ∙ g) in
      record {
        itself = subst (λ (k : Typed). SelfIsValue k) (sym t) (self_layer y);
        given = λ e g. subst (λ (k : Typed). is_some k.of ≡ true) (sym t) (given (well e) g);
        value = λ e a o.
            subst (λ (k : Emitted). fits_here k ≡ true) (sym code)
            (layer y (well e) (among a) (subst (λ (k : Typed). is_some k.of ≡ true) t o));
        alone = λ e a h.
            subst (λ (k : Emitted). k.fits ≡ true) (sym code)
            (one_of (gives_value (roll-Expression (bare y))) _
            (λ g. second_holds (code_at y).gives _ (layer y (well e) (among a) (given (well e) g)))
            (λ l.
            linked_layer y (well e) (among a)
            (subst (λ (k : Expression-F Expression Link Addend Factor). has_link k ≡ true) (out-roll-Expression (bare y)) l)) h);
      }

  expression_from : (x : Expression-F Expression Link Addend Factor) (y : Layer) → bare y ≡ x → IsFit (roll-Expression x)
  expression_from x y is = subst (λ z. IsFit (roll-Expression z)) is (fit_rolled y)

  link_rolled_is : (y : Link-F ExpressionHeld LinkHeld AddendHeld FactorHeld) → LinkIs (roll-Link (bare_link y))
  link_rolled_is y =
      let t = link_rolled site (bare_link y) in
      let code = fold-roll-Link Emitted Following Applied Applied of_layer of_link_layer of_addend_layer of_factor_layer (bare_link y) in
      let texts = fold-roll-Link Texts Texts Texts Texts expression_texts link_texts addend_texts factor_texts (bare_link y) in
      record {
        other = λ before. subst (λ (k : AfterLink). (k before).is_itself ≡ false) (sym t) (link_other y before);
        given = λ before.
            subst (λ (k : AfterLink). is_some (k before).of ≡ link_gives_value (roll-Link (bare_link y))) (sym t)
            (link_given y before
            ∙ sym (fold-roll-Link Bool Bool Bool Bool expression_gives link_gives addend_gives factor_gives (bare_link y)));
        behind = λ before v e a.
            subst (λ (k : AfterLink). LinkFits before (k before) (of_link (roll-Link (bare_link y)))) (sym t)
            (subst (λ (k : Following). LinkFits before (link_typed site (typed_link_layer site (bare_link y)) before) k) (sym code)
            (link_layer y before v (subst (λ (k : AfterLink). (k before).is_well ≡ true) t e) (subst (λ (k : Texts). Among k) texts a)));
      }

  link_from : (x : Link-F Expression Link Addend Factor) (y : Link-F ExpressionHeld LinkHeld AddendHeld FactorHeld) →
      bare_link y ≡ x → LinkIs (roll-Link x)
  link_from x y is = subst (λ z. LinkIs (roll-Link z)) is (link_rolled_is y)

  addend_from : (x : Addend-F Expression Link Addend Factor) (y : Addend-F ExpressionHeld LinkHeld AddendHeld FactorHeld) →
      bare_addend y ≡ x → AddendIs (roll-Addend x)
  addend_from x y is =
      subst (λ z. AddendIs (roll-Addend z)) is
      (λ w e a.
      ap (λ (f : Applied). f.fits)
      (fold-roll-Addend Emitted Following Applied Applied of_layer of_link_layer of_addend_layer of_factor_layer (bare_addend y))
      ∙ wanted_fits w y.value (subst (λ (b : TypedAddend). is_of w b.value ≡ true) (addend_rolled site (bare_addend y)) e)
      (subst (λ (k : Texts). Among k) (addend_is Texts expression_texts link_texts addend_texts factor_texts (bare_addend y)) a))

  factor_from : (x : Factor-F Expression Link Addend Factor) (y : Factor-F ExpressionHeld LinkHeld AddendHeld FactorHeld) →
      bare_factor y ≡ x → FactorIs (roll-Factor x)
  factor_from x y is =
      subst (λ z. FactorIs (roll-Factor z)) is
      (λ w e a.
      ap (λ (f : Applied). f.fits)
      (fold-roll-Factor Emitted Following Applied Applied of_layer of_link_layer of_addend_layer of_factor_layer (bare_factor y))
      ∙ wanted_fits w y.value (subst (λ (k : Typed). is_of w k ≡ true) (factor_rolled site (bare_factor y)) e)
      (subst (λ (k : Texts). Among k) (factor_is Texts expression_texts link_texts addend_texts factor_texts (bare_factor y)) a))

  pub is_fit : (x : Expression) → IsFit x
  is_fit = ind-Expression IsFit LinkIs AddendIs FactorIs expression_from link_from addend_from factor_from

  -- an expression of a kind
  pub fits_as : (w : Wanted) (x : Expression) → is_of w (typed site x) ≡ true → AllAmong literals (texts_of x) →
      fits_here (emitted s captured count literals x) ≡ true
  fits_as w x e a = wanted_fits w (x, is_fit x) e a
