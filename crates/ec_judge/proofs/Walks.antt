-- What a walk leaves behind, one part after another.
use Rattle.std.proofs.Common.{◌≡◌, List, [], ◌++◌, refl, sym, ap, ◌∙◌, append_assoc}
use Rattle.std.proofs.lemmas.List.{append-nil}
use Rattle.ec_judge.specs.declared.walk.Walk.{Walk}
use Rattle.ec_judge.specs.Walks.{walked}
use Rattle.ec_rules.specs.Rules.{noted, begun, ended}
use Rattle.ec_rules.proofs.Noted.{noted_joined, noted_none}
use Rattle.ec_rules.specs.declared.StaticFault.{StaticFault}
use Rattle.ec_rules.specs.declared.faults.Faults.{Faults}
use Rattle.ec_rules.specs.Captures.{Use}
use Rattle.ec_types.specs.declared.scopes.scope.Scope.{Scope}

abbrev pub walk_of : Scope → Faults → List Use → Walk
walk_of scope faults uses = record { scope = scope; faults = faults; uses = uses }

pub walked_scope : (w : Walk) (f : List StaticFault) (u : List Use) → (walked w f u).scope ≡ w.scope
unfolding walked
walked_scope w f u = refl

-- one part behind another
pub walked_walked : (w : Walk) (f g : List StaticFault) (u v : List Use) → walked (walked w f u) g v ≡ walked w (f ++ g) (u ++ v)
unfolding walked
walked_walked w f g u v =
    ap (λ faults. walk_of w.scope faults ((w.uses ++ u) ++ v)) (noted_joined w.faults f g)
    ∙ ap (walk_of w.scope (noted w.faults (f ++ g))) (append_assoc w.uses u v)

pub walked_none : (w : Walk) → walked w [] [] ≡ w
unfolding walked
walked_none w =
    ap (λ faults. walk_of w.scope faults (w.uses ++ [])) (noted_none w.faults) ∙ ap (walk_of w.scope w.faults) (append-nil w.uses)

-- faults behind a part
pub walked_noted : (w : Walk) (f g : List StaticFault) (u : List Use) →
    walk_of (walked w f u).scope (noted (walked w f u).faults g) (walked w f u).uses ≡ walked w (f ++ g) u
unfolding walked
walked_noted w f g u = ap (λ faults. walk_of w.scope faults (w.uses ++ u)) (noted_joined w.faults f g)

pub noted_walk : (w : Walk) (g : List StaticFault) → walk_of w.scope (noted w.faults g) w.uses ≡ walked w g []
unfolding walked
noted_walk w g = ap (walk_of w.scope (noted w.faults g)) (sym (append-nil w.uses))

-- names behind faults
pub used_walk : (w : Walk) (g : List StaticFault) (u : List Use) → walk_of w.scope (noted w.faults g) (w.uses ++ u) ≡ walked w g u
unfolding walked
used_walk w g u = refl

-- a part begins and ends
pub ended_walk : (w : Walk) (f : List StaticFault) (u : List Use) (part : Walk) →
    part ≡ walked (walk_of w.scope (begun w.faults) w.uses) f u →
    walk_of part.scope (ended part.faults w.faults.is_clean) part.uses ≡ walked w f u
unfolding walked
ended_walk w f u part e = rw e refl
