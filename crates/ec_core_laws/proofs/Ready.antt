-- What is shown of each part of a tree: where it has no fault, its core is tied to it.
use Rattle.std.proofs.Common.{◌≡◌, Bool, true, List, [], ◌∷◌, ◌++◌, map, refl, sym, ap, ◌∙◌, subst, append_assoc}
use Rattle.ec_ast.specs.declared.Block.{Block}
use Rattle.ec_ast.specs.declared.Expression.{Expression}
use Rattle.ec_ast.specs.declared.Statement.{Statement}
use Rattle.ec_check.proofs.Every.{Every, none_left, none_right}
use Rattle.ec_check.proofs.ReachedNames.{IsReached}
use Rattle.ec_check.proofs.WellReady.{first_reach, second_reach}
use Rattle.ec_check.specs.Parts.{Part}
use Rattle.ec_check.specs.Places.{Env}
use Rattle.ec_check.specs.Resolving.{all_made, cores_of}
use Rattle.ec_check.specs.Tree.{part_of, statement_of, block_of}
use Rattle.ec_core_laws.proofs.Naming.{Fit}
use Rattle.ec_core_laws.specs.Ties.{TiedExpression, TiedStatement, TiedBlock, AreTied, expressions_end, expression}
use Rattle.ec_rules.specs.Captures.{Use, uses_outside}
use Rattle.ec_rules.specs.Lists.{each}
use Rattle.ec_rules.specs.Parts.{uses_in, faults_in}
use Rattle.ec_rules.specs.declared.StaticFault.{StaticFault}

-- what a part begins with: each local in scope has a number; each name that it uses from further out is among the captured ones;
-- and it has no fault
pub record Ready (env : Env) (uses : List Use) (faults : List StaticFault) : Type 0 where
  pub fit : Fit env
  pub reach : Every (IsReached env.captures) (uses_outside uses)
  pub faultless : faults ≡ []

pub first_ready : {env : Env} (us vs : List Use) (fs gs : List StaticFault) → Ready env (us ++ vs) (fs ++ gs) → Ready env us fs
first_ready {env} us vs fs gs r =
    record { fit = r.fit; reach = first_reach env.captures us vs r.reach; faultless = none_left fs gs r.faultless }

pub second_ready : {env : Env} (us vs : List Use) (fs gs : List StaticFault) → Ready env (us ++ vs) (fs ++ gs) → Ready env vs gs
second_ready {env} us vs fs gs r =
    record { fit = r.fit; reach = second_reach env.captures us vs r.reach; faultless = none_right fs gs r.faultless }

-- without the faults of the whole itself
pub ready_within : {env : Env} {us : List Use} (fs gs : List StaticFault) → Ready env us (fs ++ gs) → Ready env us fs
ready_within fs gs r = record { fit = r.fit; reach = r.reach; faultless = none_left fs gs r.faultless }

pub same_ready : {env : Env} {us vs : List Use} {fs gs : List StaticFault} → us ≡ vs → gs ≡ [] → Ready env us fs → Ready env vs gs
same_ready {env} e f r = record {
  fit = r.fit;
  reach = subst (λ us. Every (IsReached env.captures) (uses_outside us)) e r.reach;
  faultless = f;
}

-- ---- each kind of part

abbrev pub PartTied : Expression → Type 0
PartTied x = (needed : Bool) (env : Env) →
    Ready env ((part_of x).part.judged needed env.scope).uses ((part_of x).part.judged needed env.scope).faults →
    TiedExpression env x ((part_of x).core env) ((part_of x).made env.scope)

abbrev pub StatementTied : Statement → Type 0
StatementTied x = (env : Env) →
    Ready env ((statement_of x).part.finished env.scope).uses ((statement_of x).part.finished env.scope).faults →
    TiedStatement env x ((statement_of x).core env) ((statement_of x).locals env.scope) ((statement_of x).made env.scope)

abbrev pub BlockTied : Block → Type 0
BlockTied x = (env : Env) → Ready env ((block_of x).piece env.scope).uses ((block_of x).piece env.scope).faults →
    TiedBlock env x ((block_of x).core env) ((block_of x).locals env.scope) ((block_of x).made env.scope)

-- ---- expressions in their order

abbrev pub ReadyPart : Env → Part → Type 0
ReadyPart env p = Ready env (uses_in env.scope p.part) (faults_in env.scope p.part)

abbrev pub ReadyParts : Env → List Part → Type 0
ReadyParts env ps = Ready env (each (uses_in env.scope) (map (λ p. p.part) ps)) (each (faults_in env.scope) (map (λ p. p.part) ps))

pub first_part : (env : Env) (p : Part) (ps : List Part) → ReadyParts env (p ∷ ps) → ReadyPart env p
first_part env p ps r =
    first_ready (uses_in env.scope p.part) (each (uses_in env.scope) (map (λ p. p.part) ps)) (faults_in env.scope p.part)
    (each (faults_in env.scope) (map (λ p. p.part) ps)) r

pub other_parts : (env : Env) (p : Part) (ps : List Part) → ReadyParts env (p ∷ ps) → ReadyParts env ps
other_parts env p ps r =
    second_ready (uses_in env.scope p.part) (each (uses_in env.scope) (map (λ p. p.part) ps)) (faults_in env.scope p.part)
    (each (faults_in env.scope) (map (λ p. p.part) ps)) r

pub parts_tied : (xs : List Expression) → Every PartTied xs → (env : Env) → ReadyParts env (map part_of xs) →
    AreTied env xs (cores_of env (map part_of xs)) (all_made env.scope (map part_of xs))
parts_tied [] h env r = expressions_end
parts_tied (x ∷ xs) h env r =
    expression (h.0 true env (first_part env (part_of x) (map part_of xs) r))
    (parts_tied xs h.1 env (other_parts env (part_of x) (map part_of xs) r))

pub each_joined : {A B : Type 0} (f : A → List B) (xs ys : List A) → each f (xs ++ ys) ≡ each f xs ++ each f ys
each_joined f [] ys = refl
each_joined f (x ∷ xs) ys = ap (λ r. f x ++ r) (each_joined f xs ys) ∙ sym (append_assoc (f x) (each f xs) (each f ys))
