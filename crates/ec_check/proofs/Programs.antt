-- The constants of a program, and what is known of a program without a fault.
use Rattle.std.proofs.Common.{◌≡◌, ℕ, suc, ◌+◌, ◌<◌, List, [], ◌++◌, drop, get_or, length, refl, sym, ap, ◌∙◌, append_assoc, arith}
use Rattle.ec_ast.specs.declared.Constant.{Constant as ConstantTree}
use Rattle.ec_check.proofs.Along.{drop_more}
use Rattle.ec_check.proofs.Headings.{same_env}
use Rattle.ec_check.specs.Making.{HasMade, env_of}
use Rattle.ec_check.specs.Places.{Env}
use Rattle.ec_check.specs.Program.{constant_core, constants_core, constants_made, core_in}
use Rattle.ec_check.specs.Resolving.{env_in}
use Rattle.ec_check.specs.declared.resolver.Resolver.{Resolver}
use Rattle.ec_core.specs.declared.Class.{Class}
use Rattle.ec_core.specs.declared.Constant.{Constant}
use Rattle.ec_core.specs.declared.Core.{Core}
use Rattle.ec_core.specs.declared.Operation.{Operation}

-- one constant more
pub constant_found : (env : Env) (number : ℕ) (found more own : List Constant) (cs : List ConstantTree) (i : ℕ) (c : ConstantTree) →
    i < length cs → c ≡ get_or cs i c → more ≡ found ++ own → own ≡ constant_core env number c c.value →
    more ++ constants_core env (number + 1) (drop (i + 1) cs) ≡ found ++ constants_core env number (drop i cs)
constant_found env number found more own cs i c lt is p e =
    let rest = drop (i + 1) cs in
    let n : number + 1 ≡ suc number = omega arith in
    ap (λ x. x ++ constants_core env (number + 1) rest) (p ∙ ap (λ y. found ++ y) e)
    ∙ ap (λ x. (found ++ constant_core env number c c.value) ++ constants_core env x rest) n
    ∙ append_assoc found (constant_core env number c c.value) (constants_core env (suc number) rest)
    ∙ sym (ap (λ ys. found ++ constants_core env number ys) (drop_more cs i c lt is))

abbrev core_from : List Constant → List Class → List Operation → Core
core_from constants classes operations = record { constants = constants; classes = classes; operations = operations }

pub core_made : (old new : Resolver) (constants : List ConstantTree) (found : List Constant) →
    old.captures ≡ [] → old.variables.numbers.items ≡ [] → old.variables.types ≡ [] → old.made.classes ≡ [] → old.made.operations ≡ [] →
    found ≡ constants_core (env_of old) 0 constants → HasMade old new (constants_made old.walk.scope constants) →
    core_from found new.made.classes new.made.operations ≡ core_in old.walk.scope constants
core_made old new constants found c n t a b f h =
    let all = constants_made old.walk.scope constants in
    let env : env_of old ≡ env_in old.walk.scope [] = same_env refl c n (ap length t) in
    ap (λ x. core_from x new.made.classes new.made.operations) (f ∙ ap (λ e. constants_core e 0 constants) env)
    ∙ ap (λ m. core_from (constants_core (env_in old.walk.scope []) 0 constants) m.classes m.operations) h.made
    ∙ ap (λ x. core_from (constants_core (env_in old.walk.scope []) 0 constants) (x ++ all.classes)
    (old.made.operations ++ all.operations)) a
    ∙ ap (λ x. core_from (constants_core (env_in old.walk.scope []) 0 constants) all.classes (x ++ all.operations)) b
