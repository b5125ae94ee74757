-- The variables that an operation begins with, and the class of an object.
use Rattle.std.proofs.Common.{◌≡◌, ℕ, zero, suc, ◌+◌, List, ◌∷◌, ◌++◌, length, Option, sym, ap, ◌∙◌, append_assoc, arith}
use Rattle.std.proofs.lemmas.List.{length-append, length-map}
use Rattle.ec_ast.specs.declared.Parameter.{Parameter}
use Rattle.ec_check.proofs.Steps.{made_none}
use Rattle.ec_check.specs.Making.{HasGone, env_of, made_of}
use Rattle.ec_check.specs.Parts.{nothing_made}
use Rattle.ec_check.specs.Places.{Env}
use Rattle.ec_check.specs.Resolving.{behind_heading, heading_entries, heading_types, numbers_from, result_written, types_written}
use Rattle.ec_check.specs.declared.resolver.Resolver.{Resolver}
use Rattle.ec_types.specs.declared.conform.static_type.StaticType.{StaticType}
use Rattle.ec_types.specs.Names.{Text}
use Rattle.ec_types.specs.Scopes.{declaring, written_in}
use Rattle.ec_types.specs.declared.scopes.scope.Scope.{Scope}

pub numbers_joined : (from a b : ℕ) → numbers_from from a ++ numbers_from (from + a) b ≡ numbers_from from (a + b)
numbers_joined from zero b = let e : from + 0 ≡ from = omega arith in let f : 0 + b ≡ b =
    omega arith in ap (λ n. numbers_from n b) e ∙ sym (ap (numbers_from from) f)
numbers_joined from (suc a) b =
    let e : from + suc a ≡ suc from + a = omega arith in
    let f : suc a + b ≡ suc (a + b) = omega arith in
    ap (λ n. from ∷ (numbers_from (suc from) a ++ numbers_from n b)) e
    ∙ ap (λ r. from ∷ r) (numbers_joined (suc from) a b)
    ∙ sym (ap (numbers_from from) f)

abbrev env_with : Scope → List Text → List ℕ → ℕ → Env
env_with scope captures numbers count = record { scope = scope; captures = captures; numbers = numbers; count = count }

pub same_env : {s t : Scope} {cs ds : List Text} {ns ms : List ℕ} {a b : ℕ} →
    s ≡ t → cs ≡ ds → ns ≡ ms → a ≡ b → env_with s cs ns a ≡ env_with t ds ms b
same_env {s} {t} {cs} {ds} {ns} {ms} {a} {b} e f g h =
    ap (λ x. env_with x cs ns a) e ∙ ap (λ x. env_with t x ns a) f ∙ ap (λ x. env_with t ds x a) g ∙ ap (env_with t ds ms) h

module _ (old : Resolver) (parameters : List Parameter) (returned : Option Parameter) where
  abbrev scope : Scope
  scope = old.walk.scope

  abbrev first : ℕ
  first = length old.variables.types

  types_counted : length (heading_types scope parameters returned) ≡ length parameters + length (result_written scope returned)
  types_counted =
      length-append (types_written scope parameters) (result_written scope returned)
      ∙ ap (λ n. n + length (result_written scope returned)) (length-map parameters (λ p. written_in scope p.of))

  -- its parameters were added, then its result, and then both came into scope
  pub behind_parameters : (new : Resolver) (numbers : List ℕ) (types : List StaticType) →
      numbers ≡ old.variables.numbers.items ++ numbers_from first (length parameters) →
      types ≡ old.variables.types ++ types_written scope parameters →
      new.variables.numbers.items ≡ numbers ++ numbers_from (length types) (length (result_written scope returned)) →
      new.variables.types ≡ types ++ result_written scope returned →
      new.walk.scope ≡ declaring (heading_entries scope parameters returned) scope →
      new.captures ≡ old.captures →
      made_of new.made ≡ made_of old.made →
      HasGone old new (behind_heading (env_of old) parameters returned) (heading_types scope parameters returned) nothing_made
  behind_parameters new numbers types a b e f s c m =
      let results = length (result_written scope returned) in
      let count = length parameters + results in
      let fit = length-append old.variables.types (types_written scope parameters)
      ∙ ap (λ n. first + n) (length-map parameters (λ p. written_in scope p.of)) in
      let all = f ∙ ap (λ x. x ++ result_written scope returned) b
      ∙ append_assoc old.variables.types (types_written scope parameters) (result_written scope returned) in
      let given = e ∙ ap (λ x. x ++ numbers_from (length types) results) a
      ∙ ap (λ n. (old.variables.numbers.items ++ numbers_from first (length parameters)) ++ numbers_from n results) (ap length b ∙ fit)
      ∙ append_assoc old.variables.numbers.items (numbers_from first (length parameters)) (numbers_from (first + length parameters) results)
      ∙ ap (λ x. old.variables.numbers.items ++ x) (numbers_joined first (length parameters) results)
      ∙ ap (λ n. old.variables.numbers.items ++ numbers_from first n) (sym types_counted) in
      record {
        place = same_env s c given (ap length all ∙ length-append old.variables.types (heading_types scope parameters returned));
        types = all;
        made = m ∙ sym (made_none (made_of old.made));
      }
