-- An assignment of a value to what is of the value's type, or of one to which this conforms, is well typed.
use Rattle.std.proofs.Common.{◌≡◌, true, List, [], ◌∷◌, map, Option, Some, None, option_and_then, refl, sym, ap, ◌∙◌, subst}
use Rattle.ec_base.specs.Stack.{top_of, below_of}
use Rattle.ec_check.proofs.Every.{first_holds, second_holds}
use Rattle.ec_check.proofs.TypedRolled.{typed_layer, typed_link_layer, link_is, chained_typed, statement_has}
use Rattle.ec_check.proofs.WellLinks.{Is}
use Rattle.ec_check.proofs.WellValues.{both_hold, result_is}
use Rattle.ec_check.specs.Resolving.{chained, element_set, element_set_if, assigned}
use Rattle.ec_check.specs.WellTyped.{Site, Typed as TypedValue, typed, typed_link, expression_typed, link_typed, along, goes_in, goes_in_if}
use Rattle.ec_check.specs.WellTyped.{conforms_if, is_of, is_element, is_same_result, goes_in_vector, is_well_statement}
use Rattle.ec_types.specs.Types.{element_of}
use Rattle.ec_types.specs.declared.conform.static_type.StaticType.{StaticType}
use Rattle.ec_core.specs.declared.Addend.{Addend}
use Rattle.ec_core.specs.declared.Expression.{Expression}
use Rattle.ec_core.specs.declared.Expression.TheOpen.{Expression-F as Core-F, Link-F as CoreLink-F}
use Rattle.ec_core.specs.declared.Factor.{Factor}
use Rattle.ec_core.specs.declared.Link.{Link, out-Link}
use Rattle.ec_core.specs.declared.Statement.TheOpen.{Statement-F as CoreStatement-F}
use Rattle.ec_core.specs.declared.Statement.TheVariants as s
use Rattle.ec_rules.specs.declared.operands.Wanted.TheVariants as wanted

pub dropped_well : (site : Site) (v : Expression) → (typed site v).is_well ≡ true → is_well_statement site (s.Drop v) ≡ true
dropped_well site v h = statement_has site (s.Drop v) (CoreStatement-F.Drop v) (s.rolls-Drop v) ∙ h

value_dropped : (site : Site) (of : StaticType) (v : Expression) → goes_in site.table of (typed site v) ≡ true →
    is_well_statement site (s.Drop v) ≡ true
value_dropped site of v h =
    dropped_well site v (first_holds (typed site v).is_well (conforms_if site.table (typed site v).of of) h)

-- ---- an element of a vector

element_goes_in : (site : Site) (vector value : TypedValue) (of same : StaticType) → is_element vector of ≡ true → Some of ≡ Some same →
    goes_in site.table same value ≡ true → goes_in_vector site vector value ≡ true
element_goes_in site vector value of same e is h =
    both_hold vector.is_well (goes_in_if site.table (option_and_then element_of vector.of) value)
    (first_holds vector.is_well (is_same_result (option_and_then element_of vector.of) (Some of)) e)
    (subst (λ o. goes_in_if site.table o value ≡ true)
    (sym
    (result_is (option_and_then element_of vector.of) of
    (second_holds vector.is_well (is_same_result (option_and_then element_of vector.of) (Some of)) e) ∙ is)) h)

element_well : (site : Site) (vector : Expression) (l : CoreLink-F Expression Link Addend Factor) (v : Expression) (of : StaticType) →
    Is (link_typed site (typed_link_layer site l) (typed site vector)) (Some of) → goes_in site.table of (typed site v) ≡ true →
    is_well_statement site (element_set vector l v) ≡ true
element_well site vector (CoreLink-F.Element number t at) v of i h =
    statement_has site (s.SetElement vector number v at) (CoreStatement-F.SetElement vector number v at)
    (s.rolls-SetElement vector number v at)
    ∙ both_hold (is_of wanted.Integer (typed site number)) (goes_in_vector site (typed site vector) (typed site v))
    (second_holds (is_element (typed site vector) t) (is_of wanted.Integer (typed site number)) i.is_well)
    (element_goes_in site (typed site vector) (typed site v) t of
    (first_holds (is_element (typed site vector) t) (is_of wanted.Integer (typed site number)) i.is_well) i.has_type h)
element_well site vector (CoreLink-F.Invoke name arguments result at) v of i h = value_dropped site of v h
element_well site vector (CoreLink-F.Call builtin arguments at) v of i h = value_dropped site of v h

-- the last link of a chain is behind the others
along_top : (links : List Link) (site : Site) (x : TypedValue) (last : Link) → top_of links ≡ Some last →
    along x (map (typed_link site) links) ≡ typed_link site last (along x (map (typed_link site) (below_of links)))
along_top [] site x last e = cc
along_top (l ∷ []) site x last e = let same : l ≡ last = cc in ap (λ k. typed_link site k x) same
along_top (l ∷ m ∷ links) site x last e = along_top (m ∷ links) site (typed_link site l x) last e

element_if_well : (site : Site) (head : Expression) (links : List Link) (last : Option Link) (v : Expression) (of : StaticType) →
    top_of links ≡ last → Is (along (typed site head) (map (typed_link site) links)) (Some of) →
    goes_in site.table of (typed site v) ≡ true → is_well_statement site (element_set_if head (below_of links) last v) ≡ true
element_if_well site head links None v of top i h = value_dropped site of v h
element_if_well site head links (Some last) v of top i h =
    element_well site (chained head (below_of links)) (out-Link last) v of
    (subst (λ x. Is x (Some of))
    (along_top links site (typed site head) last top
    ∙ (ap (λ f. f (along (typed site head) (map (typed_link site) (below_of links)))) (link_is site last)
    ∙ ap (link_typed site (typed_link_layer site (out-Link last))) (sym (chained_typed site head (below_of links)))))
    i)
    h

-- ---- whatever is assigned to

pub assigned_well : (site : Site) (t : Core-F Expression Link Addend Factor) (v : Expression) (of : StaticType) →
    Is (expression_typed site (typed_layer site t)) (Some of) → goes_in site.table of (typed site v) ≡ true →
    is_well_statement site (assigned t v) ≡ true
assigned_well site (Core-F.Read place) v of i h =
    statement_has site (s.Assign place v) (CoreStatement-F.Assign place v) (s.rolls-Assign place v)
    ∙ subst (λ o. goes_in_if site.table o (typed site v) ≡ true) (sym i.has_type) h
assigned_well site (Core-F.Chain head links) v of i h = element_if_well site head links (top_of links) v of refl i h
assigned_well site (Core-F.Number n) v of i h = value_dropped site of v h
assigned_well site (Core-F.Literal text) v of i h = value_dropped site of v h
assigned_well site (Core-F.Truth b) v of i h = value_dropped site of v h
assigned_well site Core-F.Nil v of i h = value_dropped site of v h
assigned_well site Core-F.Itself v of i h = value_dropped site of v h
assigned_well site Core-F.NodeCount v of i h = value_dropped site of v h
assigned_well site (Core-F.NodeAt x at) v of i h = value_dropped site of v h
assigned_well site (Core-F.NewVector t x at) v of i h = value_dropped site of v h
assigned_well site (Core-F.Construct class places) v of i h = value_dropped site of v h
assigned_well site (Core-F.Create class arguments) v of i h = value_dropped site of v h
assigned_well site (Core-F.Negative x) v of i h = value_dropped site of v h
assigned_well site (Core-F.Not x) v of i h = value_dropped site of v h
assigned_well site (Core-F.View x t at) v of i h = value_dropped site of v h
assigned_well site (Core-F.IsFixed x at) v of i h = value_dropped site of v h
assigned_well site (Core-F.Term x more) v of i h = value_dropped site of v h
assigned_well site (Core-F.Sum x more) v of i h = value_dropped site of v h
assigned_well site (Core-F.Compare x op what y) v of i h = value_dropped site of v h
assigned_well site (Core-F.And x more) v of i h = value_dropped site of v h
assigned_well site (Core-F.Or x more) v of i h = value_dropped site of v h
