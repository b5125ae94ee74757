-- What is made of a part, by its form.
use Rattle.std.proofs.Common.{◌≡◌, ◌+◌, List, [], ◌++◌, length, map, refl, sym, ap, ◌∙◌, arith}
use Rattle.std.proofs.lemmas.List.{append-nil}
use Rattle.ec_ast.specs.declared.Expression.{Expression}
use Rattle.ec_ast.specs.declared.Statement.{Statement}
use Rattle.ec_check.proofs.Equations.{layer_of, statement_is_step, statement_layer}
use Rattle.ec_check.proofs.Fields.{made_in_part, made_in_statement, part_core, statement_core, statement_locals}
use Rattle.ec_check.proofs.Headings.{same_env}
use Rattle.ec_check.proofs.Steps.{gone_made, gone_same, same_made}
use Rattle.ec_check.specs.Layers.{statement_judged}
use Rattle.ec_check.specs.Making.{HasGone, HasMade, env_of}
use Rattle.ec_check.specs.Parts.{AnExpression, AStatement, StatementPart}
use Rattle.ec_check.specs.Places.{Env}
use Rattle.ec_check.specs.Resolving.{behind, core_of_expression, core_of_statement, expression_made, further, locals_of, statement_made}
use Rattle.ec_check.specs.Tree.{part_of, statement_of, statement_step}
use Rattle.ec_check.specs.declared.resolver.Resolver.{Resolver}
use Rattle.ec_types.specs.declared.conform.static_type.StaticType.{StaticType}
use Rattle.ec_rules.specs.Judging.{entries_of, statement_part}
use Rattle.ec_types.proofs.ScopesLemmas.{declaring-none}
use Rattle.ec_types.specs.Scopes.{declaring}
use Rattle.ec_types.specs.declared.scopes.entries.Entry.{Entry}
use Rattle.ec_types.specs.declared.scopes.scope.Scope.{Scope}

-- ---- expressions

module _ (x y : Expression) (l : AnExpression) (e : x ≡ y) (h : layer_of y ≡ l) where
  pub core_is : (env : Env) → core_of_expression l env ≡ (part_of x).core env
  core_is env = sym (part_core x env ∙ ap (λ z. core_of_expression z env) (ap layer_of e ∙ h))

  pub made_is : (scope : Scope) → expression_made l scope ≡ (part_of x).made scope
  made_is scope = sym (made_in_part x scope ∙ ap (λ z. expression_made z scope) (ap layer_of e ∙ h))

  pub has_made : (a b : Resolver) → HasMade a b (expression_made l a.walk.scope) → HasMade a b ((part_of x).made a.walk.scope)
  has_made a b k = same_made (made_is a.walk.scope) k

-- ---- statements

declared_by : (x : Statement) (scope : Scope) →
    (statement_of x).part.declares scope ≡ entries_of (statement_judged (statement_layer x)) scope
unfolding statement_step statement_part
declared_by x scope = ap (λ (p : StatementPart). p.part.declares scope) (statement_is_step x)

abbrev pub behind_layer : Env → List Entry → List StaticType → Env
behind_layer env entries locals = record {
  scope = declaring entries env.scope;
  captures = env.captures;
  numbers = env.numbers ++ map (λ entry. env.count) entries;
  count = env.count + length locals;
}

-- behind what declares no name
pub behind_none : (env : Env) (locals : List StaticType) → behind_layer env [] locals ≡ further (length locals) env
behind_none env locals = same_env (declaring-none env.scope) refl (append-nil env.numbers) refl

pub behind_nothing : (env : Env) → behind_layer env [] [] ≡ env
behind_nothing env = let e : env.count + 0 ≡ env.count = omega arith in same_env (declaring-none env.scope) refl (append-nil env.numbers) e

module _ (x y : Statement) (l : AStatement) (e : x ≡ y) (h : statement_layer y ≡ l) where
  is_layer : statement_layer x ≡ l
  is_layer = ap statement_layer e ∙ h

  pub statement_core_is : (env : Env) → core_of_statement l env ≡ (statement_of x).core env
  statement_core_is env = sym (statement_core x env ∙ ap (λ z. core_of_statement z env) is_layer)

  abbrev entries : Scope → List Entry
  entries scope = entries_of (statement_judged l) scope

  behind_is : (env : Env) → behind_layer env (entries env.scope) (locals_of l env.scope) ≡ behind env (statement_of x)
  behind_is env =
      let d = sym (declared_by x env.scope ∙ ap (λ z. entries_of (statement_judged z) env.scope) is_layer) in
      let k = sym (statement_locals x env.scope ∙ ap (λ z. locals_of z env.scope) is_layer) in
      same_env (ap (λ es. declaring es env.scope) d) refl (ap (λ es. env.numbers ++ map (λ entry. env.count) es) d)
      (ap (λ ls. env.count + length ls) k)

  pub has_gone : (a b : Resolver) →
      HasGone a b (behind_layer (env_of a) (entries a.walk.scope) (locals_of l a.walk.scope)) (locals_of l a.walk.scope)
      (statement_made l a.walk.scope) →
      HasGone a b (behind (env_of a) (statement_of x)) ((statement_of x).locals a.walk.scope) ((statement_of x).made a.walk.scope)
  has_gone a b k =
      let scope = a.walk.scope in
      gone_same (behind_is (env_of a)) (sym (statement_locals x scope ∙ ap (λ z. locals_of z scope) is_layer))
      (sym (made_in_statement x scope ∙ ap (λ z. statement_made z scope) is_layer)) k

  -- of a statement that declares nothing
  pub has_only_made : (a b : Resolver) → entries a.walk.scope ≡ [] → locals_of l a.walk.scope ≡ [] →
      HasMade a b (statement_made l a.walk.scope) →
      HasGone a b (behind (env_of a) (statement_of x)) ((statement_of x).locals a.walk.scope) ((statement_of x).made a.walk.scope)
  has_only_made a b n m k =
      has_gone a b
      (gone_same
      (sym (behind_nothing (env_of a)) ∙ ap (λ es. behind_layer (env_of a) es []) (sym n)
      ∙ ap (behind_layer (env_of a) (entries a.walk.scope)) (sym m))
      (sym m) refl (gone_made k))
