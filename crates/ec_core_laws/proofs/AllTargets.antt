-- Assignments each of which has a target, and the fold that finds those within a part.
use Rattle.std.proofs.Common.{◌≡◌, Bool, true, [], ◌∷◌, ◌++◌, All}
use Rattle.std.proofs.lemmas.List.Elements.{All-nil, All-cons, All-head, All-tail}
use Rattle.ec_core_laws.specs.Targets.{Targets, kinds, steps}
use Rattle.ec_ast.proofs.Rolled.{Rolled, folded, folds_are_rolled}
use Rattle.ec_ast.specs.Kinds.{tree}
use Rattle.ec_ast.specs.Layers.{Maps}

-- ---- each assignment has a target

abbrev HasTarget : Bool → Type 0
HasTarget t = t ≡ true

pub data AreTargets : Targets → Type 0 where
  none : AreTargets []
  more : {t : Bool} {ts : Targets} → t ≡ true → AreTargets ts → AreTargets (t ∷ ts)

pub both : {ts us : Targets} → AreTargets ts → AreTargets us → AreTargets (ts ++ us)
both none k = k
both (more e h) k = more e (both h k)

pub first_target : {t : Bool} {ts : Targets} → AreTargets (t ∷ ts) → t ≡ true
first_target (more e h) = e

pub later_targets : {t : Bool} {ts : Targets} → AreTargets (t ∷ ts) → AreTargets ts
later_targets (more e h) = h

pub left_targets : (ts us : Targets) → AreTargets (ts ++ us) → AreTargets ts
left_targets [] us h = none
left_targets (t ∷ ts) us h = more (first_target h) (left_targets ts us (later_targets h))

pub right_targets : (ts us : Targets) → AreTargets (ts ++ us) → AreTargets us
right_targets [] us h = h
right_targets (t ∷ ts) us h = right_targets ts us (later_targets h)

pub all_are : {ts : Targets} → AreTargets ts → All HasTarget ts
all_are none = All-nil HasTarget
all_are (more {t = t} {ts = ts} e h) = All-cons HasTarget t ts e (all_are h)

pub are_all : (ts : Targets) → All HasTarget ts → AreTargets ts
are_all [] h = none
are_all (t ∷ ts) h =
    more (All-head HasTarget t ts h) (are_all ts (All-tail HasTarget t ts h))

-- ---- what is said of a part of each kind

abbrev pub said : Maps tree kinds
said = folded steps

pub rolled : Rolled steps said
rolled = folds_are_rolled steps
