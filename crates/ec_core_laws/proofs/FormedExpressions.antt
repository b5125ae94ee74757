-- An expression that is shaped and well typed is formed, and of a type of the program, where each place at its site is.
use Rattle.std.proofs.Common.{◌≡◌, ℕ, ◌==◌, ◌&&◌, Bool, true, false, List, [], ◌∷◌, map, Option, Some, None}
use Rattle.std.proofs.Common.{refl, sym, ◌∙◌, subst}
use Rattle.ec_ast.specs.declared.Additive.{Additive}
use Rattle.ec_ast.specs.declared.Additive.TheVariants.{Plus, Minus, Concat}
use Rattle.ec_check.proofs.Every.{Every, Where, not_both, first_holds, second_holds}
use Rattle.ec_check.proofs.TypedRolled.{typed_layer, expression_rolled, typed_link_layer, link_rolled, addend_rolled, factor_rolled}
use Rattle.ec_check.proofs.WellValues.{both_hold, result_is}
use Rattle.ec_check.specs.WellTyped.{Site, Typed, AfterLink, TypedAddend, typed, typed_link, typed_addend, typed_factor, expression_typed}
use Rattle.ec_check.specs.WellTyped.{link_typed, along, added, all_are, go_in, some_class, some_operation, is_own}
use Rattle.ec_check.specs.WellTyped.{can_be_called, fits_operation, type_has, own_has, call_typed, are_none, are_two_integers}
use Rattle.ec_check.specs.WellTyped.{are_captured, is_named, parameters_of_class, parameters_of, result_of, type_at}
use Rattle.ec_types.specs.Conforms.{operations_at}
use Rattle.ec_types.specs.Table.{Table}
use Rattle.ec_types.specs.Types.{operation_named}
use Rattle.ec_types.specs.declared.conform.operations.NamedOperation.{NamedOperation}
use Rattle.ec_types.specs.declared.conform.static_type.Plain.TheVariants.{Integer, Boolean, String, Any, Node, Named}
use Rattle.ec_types.specs.declared.conform.static_type.StaticType.{StaticType}
use Rattle.ec_types.specs.declared.conform.static_type.StaticType.TheVariants.{Plain, Vector, Nil, Unknown}
use Rattle.ec_core.specs.declared.Addend.{Addend, roll-Addend, map-Addend}
use Rattle.ec_core.specs.declared.Builtin.{Builtin}
use Rattle.ec_core.specs.declared.Builtin.TheVariants.{AsString, Length, GetSlice, Size}
use Rattle.ec_core.specs.declared.Class.{Class}
use Rattle.ec_core.specs.declared.Expression.{Expression, roll-Expression, map-Expression, ind-Expression, fold-roll-Expression}
use Rattle.ec_core.specs.declared.Expression.TheOpen.{Expression-F, Link-F, Addend-F, Factor-F}
use Rattle.ec_core.specs.declared.Factor.{Factor, roll-Factor, map-Factor}
use Rattle.ec_core.specs.declared.Link.{Link, roll-Link, map-Link, fold-roll-Link}
use Rattle.ec_core.specs.declared.Operation.{Operation}
use Rattle.ec_core_laws.proofs.Expressions.{addend_is, factor_is}
use Rattle.ec_core_laws.proofs.Shapes.{expression_shaped, link_shaped, addend_shaped, factor_shaped, shaped, shaped_link}
use Rattle.ec_core_laws.proofs.Shapes.{shaped_addend, shaped_factor}
use Rattle.ec_core_laws.proofs.Sites.{NamedBelow, SiteOf, VariablesBelow, one_of, class_there, declared_operation, own_class}
use Rattle.ec_core_laws.proofs.Sites.{own_result, place_is_of}
use Rattle.ec_core_laws.proofs.Types.{IsBelow, element_is_of, reference_is_of, result_is_of, vector_is_of, where_result}
use Rattle.ec_core_laws.specs.Formed.{IsOf, is_of_if, all_formed, expression_formed, link_formed, addend_formed}
use Rattle.ec_core_laws.specs.Formed.{factor_formed, formed_expression, formed_link, formed_addend, formed_factor}
use Rattle.ec_types.specs.Names.{Text, is_same as is_same_name}
use Rattle.ec_rules.specs.Operands.{result_type}
use Rattle.ec_rules.specs.declared.operands.Wanted.{Wanted}
use Rattle.ec_rules.specs.declared.operands.Wanted.TheVariants as wanted

module _ (types : ℕ) (site : Site) (s : SiteOf types site) where
  -- ---- each kind of part

  abbrev Forms : Expression → Type 0
  Forms x = shaped types x ≡ true → (typed site x).is_well ≡ true →
      (formed_expression types x ≡ true) × Where (IsOf types) (typed site x).of

  -- what stands before a link is well typed where it is
  abbrev LinkBack : Link → Type 0
  LinkBack x = (before : Typed) → (typed_link site x before).is_well ≡ true → before.is_well ≡ true

  abbrev LinkForth : Link → Type 0
  LinkForth x = (before : Typed) → Where (IsOf types) before.of → shaped_link types x ≡ true →
      (typed_link site x before).is_well ≡ true →
      (formed_link types x ≡ true) × Where (IsOf types) (typed_link site x before).of

  abbrev LinkForms : Link → Type 0
  LinkForms x = LinkBack x × LinkForth x

  abbrev AddendForms : Addend → Type 0
  AddendForms x = shaped_addend types x ≡ true → (typed_addend site x).value.is_well ≡ true → formed_addend types x ≡ true

  abbrev FactorForms : Factor → Type 0
  FactorForms x = shaped_factor types x ≡ true → (typed_factor site x).is_well ≡ true → formed_factor types x ≡ true

  abbrev ExpressionHeld : Type 0
  ExpressionHeld = (x : Expression) × Forms x

  abbrev LinkHeld : Type 0
  LinkHeld = (x : Link) × LinkForms x

  abbrev AddendHeld : Type 0
  AddendHeld = (x : Addend) × AddendForms x

  abbrev FactorHeld : Type 0
  FactorHeld = (x : Factor) × FactorForms x

  abbrev bare_x : ExpressionHeld → Expression
  bare_x x = x.0

  abbrev bare_l : LinkHeld → Link
  bare_l x = x.0

  abbrev bare_a : AddendHeld → Addend
  bare_a x = x.0

  abbrev bare_f : FactorHeld → Factor
  bare_f x = x.0

  abbrev bare_expression : Expression-F ExpressionHeld LinkHeld AddendHeld FactorHeld → Expression-F Expression Link Addend Factor
  bare_expression = map-Expression ExpressionHeld LinkHeld AddendHeld FactorHeld Expression Link Addend Factor bare_x bare_l bare_a bare_f

  abbrev bare_link : Link-F ExpressionHeld LinkHeld AddendHeld FactorHeld → Link-F Expression Link Addend Factor
  bare_link = map-Link ExpressionHeld LinkHeld AddendHeld FactorHeld Expression Link Addend Factor bare_x bare_l bare_a bare_f

  abbrev bare_addend : Addend-F ExpressionHeld LinkHeld AddendHeld FactorHeld → Addend-F Expression Link Addend Factor
  bare_addend = map-Addend ExpressionHeld LinkHeld AddendHeld FactorHeld Expression Link Addend Factor bare_x bare_l bare_a bare_f

  abbrev bare_factor : Factor-F ExpressionHeld LinkHeld AddendHeld FactorHeld → Factor-F Expression Link Addend Factor
  bare_factor = map-Factor ExpressionHeld LinkHeld AddendHeld FactorHeld Expression Link Addend Factor bare_x bare_l bare_a bare_f

  -- ---- lists

  abbrev typed_all : List ExpressionHeld → List Typed
  typed_all xs = map (typed site) (map bare_x xs)

  abbrev AllShaped : List ExpressionHeld → Type 0
  AllShaped xs = all_formed (map (shaped types) (map bare_x xs)) ≡ true

  abbrev AllFormed : List ExpressionHeld → Type 0
  AllFormed xs = all_formed (map (formed_expression types) (map bare_x xs)) ≡ true

  -- a part that is shaped and well typed, alone
  one : (x : ExpressionHeld) → shaped types x.0 ≡ true → (typed site x.0).is_well ≡ true → formed_expression types x.0 ≡ true
  one x h e = (x.1 h e).0

  all_are_formed : (w : Wanted) (xs : List ExpressionHeld) → AllShaped xs → all_are w (typed_all xs) ≡ true → AllFormed xs
  all_are_formed w [] h e = refl
  all_are_formed w (x ∷ xs) h e =
      both_hold _ _ (one x (first_holds _ _ h) (first_holds _ _ (first_holds _ _ e)))
      (all_are_formed w xs (second_holds _ _ h) (second_holds _ _ e))

  go_in_formed : (table : Table) (ts : List StaticType) (xs : List ExpressionHeld) → AllShaped xs →
      go_in table ts (typed_all xs) ≡ true → AllFormed xs
  go_in_formed table [] [] h e = refl
  go_in_formed table [] (x ∷ xs) h e = not_both e
  go_in_formed table (t ∷ ts) [] h e = refl
  go_in_formed table (t ∷ ts) (x ∷ xs) h e =
      both_hold _ _ (one x (first_holds _ _ h) (first_holds _ _ (first_holds _ _ e)))
      (go_in_formed table ts xs (second_holds _ _ h) (second_holds _ _ e))

  created_formed : (class : ℕ) (xs : List ExpressionHeld) (cs : List Class) → AllShaped xs →
      some_class (λ c. (c.number == class) && go_in site.table (parameters_of_class c) (typed_all xs)) cs ≡ true → AllFormed xs
  created_formed class xs [] h e = not_both e
  created_formed class xs (c ∷ cs) h e =
      one_of _ _ (λ k. go_in_formed site.table (parameters_of_class c) xs h (second_holds _ _ k)) (created_formed class xs cs h) e

  factors_formed : (xs : List FactorHeld) → all_formed (map (shaped_factor types) (map bare_f xs)) ≡ true →
      all_are wanted.Integer (map (typed_factor site) (map bare_f xs)) ≡ true →
      all_formed (map (formed_factor types) (map bare_f xs)) ≡ true
  factors_formed [] h e = refl
  factors_formed (x ∷ xs) h e =
      both_hold _ _ (x.1 (first_holds _ _ h) (first_holds _ _ (first_holds _ _ e)))
      (factors_formed xs (second_holds _ _ h) (second_holds _ _ e))

  -- ---- sums

  result_of_sum : (operator : Additive) → IsOf types (result_type operator)
  result_of_sum Plus = refl
  result_of_sum Minus = refl
  result_of_sum Concat = refl

  added_well : (xs : List AddendHeld) (left : Typed) → all_formed (map (shaped_addend types) (map bare_a xs)) ≡ true →
      (added left (map (typed_addend site) (map bare_a xs))).is_well ≡ true →
      (left.is_well ≡ true) × (all_formed (map (formed_addend types) (map bare_a xs)) ≡ true)
  added_well [] left h e = (e, refl)
  added_well (x ∷ xs) left h e =
      let r : _ × (all_formed (map (formed_addend types) (map bare_a xs)) ≡ true) = added_well xs _ (second_holds _ _ h) e in (
        first_holds _ _ (first_holds _ _ r.0),
        both_hold _ _ (x.1 (first_holds _ _ h) (first_holds _ _ (second_holds _ _ r.0))) r.1,
      )

  added_of : (more : List TypedAddend) (left : Typed) → Where (IsOf types) left.of → Where (IsOf types) (added left more).of
  added_of [] left h = h
  added_of (a ∷ more) left h = added_of more _ (result_of_sum a.operator)

  -- ---- calls

  called_formed : (table : Table) (ps : List StaticType) (gives : Option StaticType) (xs : List ExpressionHeld)
      (result : Option StaticType) → Where (IsBelow types) gives → AllShaped xs →
      can_be_called table ps gives (typed_all xs) result ≡ true →
      is_of_if types result && all_formed (map (formed_expression types) (map bare_x xs)) ≡ true
  called_formed table ps gives xs result g h e =
      both_hold _ _ (result_is_of types gives result g (second_holds _ _ e)) (go_in_formed table ps xs h (first_holds _ _ e))

  fits_formed : (table : Table) (o : Option NamedOperation) (xs : List ExpressionHeld) (result : Option StaticType) →
      Where (NamedBelow types) o → AllShaped xs → fits_operation table o (typed_all xs) result ≡ true →
      is_of_if types result && all_formed (map (formed_expression types) (map bare_x xs)) ≡ true
  fits_formed table None xs result g h e = not_both e
  fits_formed table (Some o) xs result g h e = called_formed table o.parameters o.result xs result g.result h e

  has_formed : (of : Option StaticType) (name : Text) (xs : List ExpressionHeld) (result : Option StaticType) → AllShaped xs →
      type_has site.table of name (typed_all xs) result ≡ true →
      is_of_if types result && all_formed (map (formed_expression types) (map bare_x xs)) ≡ true
  has_formed None name xs result h e = not_both e
  has_formed (Some (Plain Integer)) name xs result h e = not_both e
  has_formed (Some (Plain Boolean)) name xs result h e = not_both e
  has_formed (Some (Plain String)) name xs result h e = not_both e
  has_formed (Some (Plain Any)) name xs result h e = not_both e
  has_formed (Some (Plain Node)) name xs result h e = not_both e
  has_formed (Some (Plain (Named n))) name xs result h e =
      fits_formed site.table (operation_named (operations_at site.table.types n) name) xs result
      (declared_operation types site.table.types n name s.table) h e
  has_formed (Some (Vector n t)) name xs result h e = not_both e
  has_formed (Some Nil) name xs result h e = not_both e
  has_formed (Some Unknown) name xs result h e = not_both e

  some_formed_call : (class : ℕ) (name : Text) (xs : List ExpressionHeld) (result : Option StaticType) (os : List Operation) →
      Every (VariablesBelow types) os → AllShaped xs →
      some_operation (is_own site.table class name (typed_all xs) result) os ≡ true →
      is_of_if types result && all_formed (map (formed_expression types) (map bare_x xs)) ≡ true
  some_formed_call class name xs result [] v h e = not_both e
  some_formed_call class name xs result (o ∷ os) v h e =
      one_of (is_own site.table class name (typed_all xs) result o) _
      (λ k.
      called_formed site.table (parameters_of o) (result_of o) xs result (own_result types o v.0) h
      (second_holds (is_same_name o.name name) _ (second_holds (is_named o.kind) _ (second_holds (o.class == class) _ k))))
      (some_formed_call class name xs result os v.1 h) e

  own_formed : (own : Option ℕ) (name : Text) (xs : List ExpressionHeld) (result : Option StaticType) → AllShaped xs →
      own_has site own name (typed_all xs) result ≡ true →
      is_of_if types result && all_formed (map (formed_expression types) (map bare_x xs)) ≡ true
  own_formed None name xs result h e = not_both e
  own_formed (Some class) name xs result h e = some_formed_call class name xs result site.core.operations s.operations h e

  none_formed : (xs : List ExpressionHeld) → are_none (typed_all xs) ≡ true → AllFormed xs
  none_formed [] e = refl
  none_formed (x ∷ xs) e = not_both e

  two_formed : (xs : List ExpressionHeld) → AllShaped xs → are_two_integers (typed_all xs) ≡ true → AllFormed xs
  two_formed [] h e = refl
  two_formed (x ∷ []) h e = not_both e
  two_formed (x ∷ y ∷ []) h e =
      both_hold _ _ (one x (first_holds _ _ h) (first_holds _ _ (first_holds _ _ e)))
      (both_hold _ _ (one y (first_holds _ _ (second_holds _ _ h)) (first_holds _ _ (second_holds _ _ e))) refl)
  two_formed (x ∷ y ∷ z ∷ xs) h e = not_both e

  builtin_back : (before : Typed) (b : Builtin) (xs : List ExpressionHeld) →
      (call_typed before b (typed_all xs)).is_well ≡ true → before.is_well ≡ true
  builtin_back before AsString xs e = one_of _ _ (first_holds _ _) (first_holds _ _) (first_holds _ _ e)
  builtin_back before Length xs e = first_holds _ _ (first_holds _ _ e)
  builtin_back before GetSlice xs e = first_holds _ _ (first_holds _ _ e)
  builtin_back before Size xs e = first_holds _ _ (first_holds _ _ e)

  builtin_formed : (before : Typed) (b : Builtin) (xs : List ExpressionHeld) → AllShaped xs →
      (call_typed before b (typed_all xs)).is_well ≡ true →
      AllFormed xs × Where (IsOf types) (call_typed before b (typed_all xs)).of
  builtin_formed before AsString xs h e = (none_formed xs (second_holds _ _ e), refl)
  builtin_formed before Length xs h e = (none_formed xs (second_holds _ _ e), refl)
  builtin_formed before GetSlice xs h e = (two_formed xs h (second_holds _ _ e), refl)
  builtin_formed before Size xs h e = (none_formed xs (second_holds _ _ e), refl)

  -- ---- links

  abbrev shaped_link_layer : Link-F Expression Link Addend Factor → Bool
  shaped_link_layer y =
      link_shaped types
      (map-Link Expression Link Addend Factor Bool Bool Bool Bool (shaped types) (shaped_link types) (shaped_addend types)
      (shaped_factor types) y)

  abbrev formed_link_layer : Link-F Expression Link Addend Factor → Bool
  formed_link_layer y =
      link_formed types
      (map-Link Expression Link Addend Factor Bool Bool Bool Bool (formed_expression types) (formed_link types) (formed_addend types)
      (formed_factor types) y)

  link_layer_back : (y : Link-F ExpressionHeld LinkHeld AddendHeld FactorHeld) (before : Typed) →
      (link_typed site (typed_link_layer site (bare_link y)) before).is_well ≡ true → before.is_well ≡ true
  link_layer_back (Link-F.Invoke name xs result at) before e = first_holds _ _ e
  link_layer_back (Link-F.Call b xs at) before e = builtin_back before b xs e
  link_layer_back (Link-F.Element number of at) before e = first_holds _ _ (first_holds _ _ e)

  link_layer_forth : (y : Link-F ExpressionHeld LinkHeld AddendHeld FactorHeld) (before : Typed) → Where (IsOf types) before.of →
      shaped_link_layer (bare_link y) ≡ true →
      (link_typed site (typed_link_layer site (bare_link y)) before).is_well ≡ true →
      (formed_link_layer (bare_link y) ≡ true)
      × Where (IsOf types) (link_typed site (typed_link_layer site (bare_link y)) before).of
  link_layer_forth (Link-F.Invoke name xs result at) before b h e =
      let all : is_of_if types result && all_formed (map (formed_expression types) (map bare_x xs)) ≡ true =
      one_of _ _ (λ k. own_formed site.own name xs result h (second_holds _ _ k)) (has_formed before.of name xs result h)
      (second_holds _ _ e) in
      (all, where_result types result (first_holds _ _ all))
  link_layer_forth (Link-F.Call c xs at) before b h e = builtin_formed before c xs h e
  link_layer_forth (Link-F.Element number of at) before b h e =
      let is : IsOf types of =
      element_is_of types before.of of b (result_is _ of (second_holds _ _ (first_holds _ _ e))) in
      (both_hold _ _ is (one number h (first_holds _ _ (second_holds _ _ e))), is)

  along_back : (xs : List LinkHeld) (before : Typed) → (along before (map (typed_link site) (map bare_l xs))).is_well ≡ true →
      before.is_well ≡ true
  along_back [] before e = e
  along_back (x ∷ xs) before e = x.1.0 before (along_back xs (typed_link site x.0 before) e)

  along_forth : (xs : List LinkHeld) (before : Typed) → Where (IsOf types) before.of →
      all_formed (map (shaped_link types) (map bare_l xs)) ≡ true →
      (along before (map (typed_link site) (map bare_l xs))).is_well ≡ true →
      (all_formed (map (formed_link types) (map bare_l xs)) ≡ true)
      × Where (IsOf types) (along before (map (typed_link site) (map bare_l xs))).of
  along_forth [] before b h e = (refl, b)
  along_forth (x ∷ xs) before b h e =
      let first : (formed_link types x.0 ≡ true) × Where (IsOf types) (typed_link site x.0 before).of =
      x.1.1 before b (first_holds _ _ h) (along_back xs (typed_link site x.0 before) e) in
      let rest : (all_formed (map (formed_link types) (map bare_l xs)) ≡ true)
      × Where (IsOf types) (along (typed_link site x.0 before) (map (typed_link site) (map bare_l xs))).of =
      along_forth xs (typed_link site x.0 before) first.1 (second_holds _ _ h) e in
      (both_hold _ _ first.0 rest.0, rest.1)

  -- ---- expressions

  abbrev shaped_layer : Expression-F Expression Link Addend Factor → Bool
  shaped_layer y =
      expression_shaped types
      (map-Expression Expression Link Addend Factor Bool Bool Bool Bool (shaped types) (shaped_link types) (shaped_addend types)
      (shaped_factor types) y)

  abbrev formed_layer : Expression-F Expression Link Addend Factor → Bool
  formed_layer y =
      expression_formed types
      (map-Expression Expression Link Addend Factor Bool Bool Bool Bool (formed_expression types) (formed_link types)
      (formed_addend types) (formed_factor types) y)

  chain_formed : (head : ExpressionHeld) (xs : List LinkHeld) →
      shaped_layer (bare_expression (Expression-F.Chain head xs)) ≡ true →
      (along (typed site head.0) (map (typed_link site) (map bare_l xs))).is_well ≡ true →
      (formed_layer (bare_expression (Expression-F.Chain head xs)) ≡ true)
      × Where (IsOf types) (along (typed site head.0) (map (typed_link site) (map bare_l xs))).of
  chain_formed head [] h e = not_both (second_holds (shaped types head.0) false h)
  chain_formed head (x ∷ xs) h e =
      let first : (formed_expression types head.0 ≡ true) × Where (IsOf types) (typed site head.0).of =
      head.1 (first_holds _ _ h) (along_back (x ∷ xs) (typed site head.0) e) in
      let rest : (all_formed (map (formed_link types) (map bare_l (x ∷ xs))) ≡ true)
      × Where (IsOf types) (along (typed site head.0) (map (typed_link site) (map bare_l (x ∷ xs)))).of =
      along_forth (x ∷ xs) (typed site head.0) first.1 (second_holds _ _ h) e in
      (both_hold _ _ first.0 rest.0, rest.1)

  layer_formed_by : (y : Expression-F ExpressionHeld LinkHeld AddendHeld FactorHeld) → shaped_layer (bare_expression y) ≡ true →
      (expression_typed site (typed_layer site (bare_expression y))).is_well ≡ true →
      (formed_layer (bare_expression y) ≡ true)
      × Where (IsOf types) (expression_typed site (typed_layer site (bare_expression y))).of
  layer_formed_by (Expression-F.Number n) h e = (refl, refl)
  layer_formed_by (Expression-F.Literal t) h e = (refl, refl)
  layer_formed_by (Expression-F.Truth b) h e = (refl, refl)
  layer_formed_by Expression-F.Nil h e = (refl, refl)
  layer_formed_by Expression-F.Itself h e = (refl, own_class types site.own s.own)
  layer_formed_by (Expression-F.Read p) h e = (refl, place_is_of types site s p)
  layer_formed_by Expression-F.NodeCount h e = (refl, refl)
  layer_formed_by (Expression-F.NodeAt x at) h e = (one x h (first_holds _ _ e), refl)
  layer_formed_by (Expression-F.NewVector of x at) h e =
      let is : IsOf types of = vector_is_of types of (first_holds _ _ e) (first_holds _ _ h) in
      (both_hold _ _ is (one x (second_holds _ _ h) (first_holds _ _ (second_holds _ _ e))), is)
  layer_formed_by (Expression-F.Construct class places) h e =
      (refl, class_there types class (λ c. are_captured c.captured (map (type_at site) places)) site.core.classes s.classes e)
  layer_formed_by (Expression-F.Create class xs) h e = (
    created_formed class xs site.core.classes h e,
    class_there types class (λ c. go_in site.table (parameters_of_class c) (typed_all xs)) site.core.classes s.classes e,
  )
  layer_formed_by (Expression-F.Chain head xs) h e = chain_formed head xs h e
  layer_formed_by (Expression-F.Negative x) h e = (one x h (first_holds _ _ e), refl)
  layer_formed_by (Expression-F.Not x) h e = (one x h (first_holds _ _ e), refl)
  layer_formed_by (Expression-F.View x of at) h e =
      let is : IsOf types of = reference_is_of types of (second_holds _ _ e) (first_holds _ _ (second_holds _ _ h)) in (
        both_hold _ _ (first_holds _ _ h)
            (both_hold _ _ is (one x (second_holds _ _ (second_holds _ _ h)) (first_holds _ _ (first_holds _ _ e)))),
        is,
      )
  layer_formed_by (Expression-F.IsFixed x at) h e = (one x h (first_holds _ _ e), refl)
  layer_formed_by (Expression-F.Term first xs) h e = (
    both_hold _ _ (one first (first_holds _ _ h) (first_holds _ _ (first_holds _ _ e)))
        (factors_formed xs (second_holds _ _ h) (second_holds _ _ e)),
    refl,
  )
  layer_formed_by (Expression-F.Sum first xs) h e =
      let r : ((typed site first.0).is_well ≡ true) × (all_formed (map (formed_addend types) (map bare_a xs)) ≡ true) =
      added_well xs (typed site first.0) (second_holds _ _ h) e in
      let q : (formed_expression types first.0 ≡ true) × Where (IsOf types) (typed site first.0).of =
      first.1 (first_holds _ _ h) r.0 in
      (both_hold _ _ q.0 r.1, added_of (map (typed_addend site) (map bare_a xs)) (typed site first.0) q.1)
  layer_formed_by (Expression-F.Compare x op what y) h e = (
    both_hold _ _ (one x (first_holds _ _ h) (first_holds _ _ e)) (one y (second_holds _ _ h) (first_holds _ _ (second_holds _ _ e))),
    refl,
  )
  layer_formed_by (Expression-F.And first xs) h e = (
    both_hold _ _ (one first (first_holds _ _ h) (first_holds _ _ (first_holds _ _ e)))
        (all_are_formed wanted.Boolean xs (second_holds _ _ h) (second_holds _ _ e)),
    refl,
  )
  layer_formed_by (Expression-F.Or first xs) h e = (
    both_hold _ _ (one first (first_holds _ _ h) (first_holds _ _ (first_holds _ _ e)))
        (all_are_formed wanted.Boolean xs (second_holds _ _ h) (second_holds _ _ e)),
    refl,
  )

  -- ---- the induction

  expression_from : (x : Expression-F Expression Link Addend Factor) (y : Expression-F ExpressionHeld LinkHeld AddendHeld FactorHeld) →
      bare_expression y ≡ x → Forms (roll-Expression x)
  expression_from x y is =
      subst (λ z. Forms (roll-Expression z)) is
      (λ h e.
      let r : (formed_layer (bare_expression y) ≡ true)
      × Where (IsOf types) (expression_typed site (typed_layer site (bare_expression y))).of =
      layer_formed_by y
      (sym
      (fold-roll-Expression Bool Bool Bool Bool (expression_shaped types) (link_shaped types) (addend_shaped types)
      (factor_shaped types) (bare_expression y)) ∙ h)
      (subst (λ (t : Typed). t.is_well ≡ true) (expression_rolled site (bare_expression y)) e) in (
        fold-roll-Expression Bool Bool Bool Bool (expression_formed types) (link_formed types) (addend_formed types)
            (factor_formed types) (bare_expression y) ∙ r.0,
        subst (λ (t : Typed). Where (IsOf types) t.of) (sym (expression_rolled site (bare_expression y))) r.1,
      ))

  link_from : (x : Link-F Expression Link Addend Factor) (y : Link-F ExpressionHeld LinkHeld AddendHeld FactorHeld) →
      bare_link y ≡ x → LinkForms (roll-Link x)
  link_from x y is =
      subst (λ z. LinkForms (roll-Link z)) is (
        λ before e.
            link_layer_back y before (subst (λ (f : AfterLink). (f before).is_well ≡ true) (link_rolled site (bare_link y)) e),
        λ before b h e.
            let r : (formed_link_layer (bare_link y) ≡ true)
            × Where (IsOf types) (link_typed site (typed_link_layer site (bare_link y)) before).of =
            link_layer_forth y before b
            (sym
            (fold-roll-Link Bool Bool Bool Bool (expression_shaped types) (link_shaped types) (addend_shaped types)
            (factor_shaped types) (bare_link y)) ∙ h)
            (subst (λ (f : AfterLink). (f before).is_well ≡ true) (link_rolled site (bare_link y)) e) in (
              fold-roll-Link Bool Bool Bool Bool (expression_formed types) (link_formed types) (addend_formed types)
                  (factor_formed types) (bare_link y) ∙ r.0,
              subst (λ (f : AfterLink). Where (IsOf types) (f before).of) (sym (link_rolled site (bare_link y))) r.1,
            ),
      )

  addend_from : (x : Addend-F Expression Link Addend Factor) (y : Addend-F ExpressionHeld LinkHeld AddendHeld FactorHeld) →
      bare_addend y ≡ x → AddendForms (roll-Addend x)
  addend_from x y is =
      subst (λ z. AddendForms (roll-Addend z)) is
      (λ h e.
      addend_is Bool (expression_formed types) (link_formed types) (addend_formed types) (factor_formed types) (bare_addend y)
      ∙ one y.value
      (sym (addend_is Bool (expression_shaped types) (link_shaped types) (addend_shaped types) (factor_shaped types) (bare_addend y))
      ∙ h)
      (subst (λ (a : TypedAddend). a.value.is_well ≡ true) (addend_rolled site (bare_addend y)) e))

  factor_from : (x : Factor-F Expression Link Addend Factor) (y : Factor-F ExpressionHeld LinkHeld AddendHeld FactorHeld) →
      bare_factor y ≡ x → FactorForms (roll-Factor x)
  factor_from x y is =
      subst (λ z. FactorForms (roll-Factor z)) is
      (λ h e.
      factor_is Bool (expression_formed types) (link_formed types) (addend_formed types) (factor_formed types) (bare_factor y)
      ∙ one y.value
      (sym (factor_is Bool (expression_shaped types) (link_shaped types) (addend_shaped types) (factor_shaped types) (bare_factor y))
      ∙ h)
      (subst (λ (t : Typed). t.is_well ≡ true) (factor_rolled site (bare_factor y)) e))

  each_forms : (x : Expression) → Forms x
  each_forms = ind-Expression Forms LinkForms AddendForms FactorForms expression_from link_from addend_from factor_from

  pub expression_forms : (x : Expression) → shaped types x ≡ true → (typed site x).is_well ≡ true → formed_expression types x ≡ true
  expression_forms x h e = (each_forms x h e).0
