-- The core of a target is a place, or ends in an index.
use Rattle.std.proofs.Common.{◌≡◌, ℕ, Bool, true, false, List, [], ◌∷◌, ◌++◌, map, Option, Some, None, sym, ap, ◌∙◌}
use Rattle.ec_ast.specs.declared.Expression.{Expression}
use Rattle.ec_ast.specs.declared.Link.{Link}
use Rattle.ec_ast.specs.declared.Link.TheVariants as tree_link
use Rattle.ec_ast.specs.declared.Span.{Span}
use Rattle.ec_base.specs.Stack.{top_of}
use Rattle.ec_check.proofs.Equations.{index_link}
use Rattle.ec_check.proofs.Every.{not_both}
use Rattle.ec_check.proofs.Fields.{part_core}
use Rattle.ec_check.proofs.RangedParts.{map_both}
use Rattle.ec_check.specs.Parts.{Part, LinkPart, index, link_judged}
use Rattle.ec_check.specs.Places.{Env, place_of, type_or}
use Rattle.ec_check.specs.Resolving.{arguments_in, chain_core, chain_of, chained, core_of_expression, link_core, links_core}
use Rattle.ec_check.specs.Resolving.{number_of_class}
use Rattle.ec_check.specs.Tree.{part_of, link_of, parts}
use Rattle.ec_types.specs.declared.conform.static_type.StaticType.{StaticType}
use Rattle.ec_core.specs.declared.Addend.{Addend as CoreAddend}
use Rattle.ec_core.specs.declared.Expression.{Expression as CoreExpression, out-Expression, out-roll-Expression}
use Rattle.ec_core.specs.declared.Expression.TheOpen.{Expression-F as Core-F, Link-F as CoreLink-F}
use Rattle.ec_core.specs.declared.Expression.TheVariants as e
use Rattle.ec_core.specs.declared.Factor.{Factor as CoreFactor}
use Rattle.ec_core.specs.declared.Link.{Link as CoreLink, out-Link, out-roll-Link}
use Rattle.ec_core.specs.declared.Link.TheVariants as l
use Rattle.ec_core_laws.proofs.AllTargets.{said}
use Rattle.ec_core_laws.proofs.TargetForms as target
use Rattle.ec_core_laws.proofs.TargetForms.{IsTarget, form_of_target}
use Rattle.ec_rules.specs.Calls.{Receiver, Creation, Own, Typed, class_created, link_type, receiver, receiver_if, type_indexed}
use Rattle.ec_rules.specs.Calls.{type_of_receiver}
use Rattle.ec_rules.specs.Forms.{Form, Literal, Negated, Constructor, Vector, Created, Itself, NameAlone, Other}
use Rattle.ec_rules.specs.Parts.{value_in}
use Rattle.ec_types.specs.Scopes.{class_named}
use Rattle.ec_ast.proofs.Layers as layers

abbrev pub is_index : CoreLink-F CoreExpression CoreLink CoreAddend CoreFactor → Bool
is_index (CoreLink-F.Element number of at) = true
is_index _ = false

abbrev pub ends_in_index : Option CoreLink → Bool
ends_in_index None = false
ends_in_index (Some k) = is_index (out-Link k)

-- whether a core is a place, or ends in an index
abbrev pub is_target : Core-F CoreExpression CoreLink CoreAddend CoreFactor → Bool
is_target (Core-F.Read at) = true
is_target (Core-F.Chain x ks) = ends_in_index (top_of ks)
is_target _ = false

element_is : (number : CoreExpression) (of : StaticType) (at : ℕ) → is_index (out-Link (l.Element number of at)) ≡ true
element_is number of at =
    ap (λ k. is_index (out-Link k)) (sym (l.rolls-Element number of at)) ∙ ap is_index (out-roll-Link (CoreLink-F.Element number of at))

-- Where the last of several links is an index, its core is an element.
last_is : (bs : List LinkPart) (env : Env) (before : Receiver) (p : Part) (at : Span) →
    ends_in_index (top_of (links_core env before (bs ++ index p at ∷ []))) ≡ true
last_is [] env before p at = element_is (p.core env) (type_or (type_indexed (type_of_receiver env.scope before))) at.from
last_is (b ∷ []) env before p at = last_is [] env (Typed (link_type env.scope before (link_judged b))) p at
last_is (b ∷ c ∷ bs) env before p at = last_is (c ∷ bs) env (Typed (link_type env.scope before (link_judged b))) p at

chained_is : (x : CoreExpression) (ks : List CoreLink) → ends_in_index (top_of ks) ≡ true → is_target (out-Expression (chained x ks)) ≡ true
chained_is x [] h = not_both h
chained_is x (k ∷ ks) h =
    ap (λ y. is_target (out-Expression y)) (sym (e.rolls-Chain x (k ∷ ks)))
    ∙ (ap is_target (out-roll-Expression (Core-F.Chain x (k ∷ ks))) ∙ h)

value_is : (env : Env) (before : Receiver) (head : Part) (bs : List LinkPart) (p : Part) (at : Span) →
    is_target (out-Expression (chained (head.core env) (links_core env before (bs ++ index p at ∷ [])))) ≡ true
value_is env before head bs p at =
    chained_is (head.core env) (links_core env before (bs ++ index p at ∷ [])) (last_is bs env before p at)

chain_is : (env : Env) (before : Receiver) (head : Part) (b : LinkPart) (bs : List LinkPart) (p : Part) (at : Span) →
    is_target (out-Expression (chain_core env before head (b ∷ (bs ++ index p at ∷ [])))) ≡ true
chain_is env (Creation name) head b bs p at =
    chained_is (e.Create (number_of_class (class_named env.scope name.text)) (arguments_in (out-Link (link_core env (Creation name) b))))
    (links_core env (Typed (link_type env.scope (Creation name) (link_judged b))) (bs ++ index p at ∷ []))
    (last_is bs env (Typed (link_type env.scope (Creation name) (link_judged b))) p at)
chain_is env Own head b bs p at = value_is env Own head (b ∷ bs) p at
chain_is env (Typed of) head b bs p at = value_is env (Typed of) head (b ∷ bs) p at

index_is : (env : Env) (form : Form) (of : Option StaticType) (head p : Part) (at : Span) →
    is_target
    (out-Expression
    (chain_core env (receiver_if (class_created env.scope form (map link_judged (index p at ∷ []))) form of) head (index p at ∷ [])))
    ≡ true
index_is env (Literal t) of head p at = value_is env (Typed of) head [] p at
index_is env Negated of head p at = value_is env (Typed of) head [] p at
index_is env (Constructor span) of head p at = value_is env (Typed of) head [] p at
index_is env (Vector t) of head p at = value_is env (Typed of) head [] p at
index_is env (Created name) of head p at = value_is env (Typed of) head [] p at
index_is env Itself of head p at = value_is env Own head [] p at
index_is env (NameAlone name) of head p at = value_is env (Typed of) head [] p at
index_is env Other of head p at = value_is env (Typed of) head [] p at

links_are : (env : Env) (head : Part) (bs : List LinkPart) (p : Part) (at : Span) →
    is_target (out-Expression (chain_of env head (bs ++ index p at ∷ []))) ≡ true
links_are env head [] p at = index_is env head.part.form (value_in env.scope head.part).of head p at
links_are env head (b ∷ bs) p at =
    chain_is env (receiver env.scope head.part (map link_judged (b ∷ (bs ++ index p at ∷ [])))) head b bs p at

abbrev links_of : List Link → Expression → Span → List LinkPart
links_of before number at = map link_of (before ++ tree_link.Index number at ∷ [])

links_end : (before : List Link) (number : Expression) (at : Span) →
    links_of before number at ≡ map link_of before ++ index (part_of number) at ∷ []
links_end before number at =
    map_both link_of before (tree_link.Index number at ∷ [])
    ∙ ap (λ x. map link_of before ++ x ∷ []) (index_link number at)

form_is : (x : Expression) → IsTarget x → (env : Env) → is_target (out-Expression ((part_of x).core env)) ≡ true
form_is x (target.a_name name) env =
    ap (λ y. is_target (out-Expression y))
    (part_core x env
    ∙ (ap (λ y. core_of_expression y env) (layers.variable_layer parts name) ∙ sym (e.rolls-Read (place_of env name.text))))
    ∙ ap is_target (out-roll-Expression (Core-F.Read (place_of env name.text)))
form_is x (target.an_index head before number at) env =
    ap (λ y. is_target (out-Expression y))
    (part_core x env
    ∙ (ap (λ y. core_of_expression y env) (layers.postfix_layer parts head (before ++ tree_link.Index number at ∷ []))
    ∙ ap (chain_of env (part_of head)) (links_end before number at)))
    ∙ links_are env (part_of head) (map link_of before) (part_of number) at

pub target_is : (x : Expression) → (said.expression x).is_target ≡ true → (env : Env) →
    is_target (out-Expression ((part_of x).core env)) ≡ true
target_is x h env = form_is x (form_of_target x h) env
