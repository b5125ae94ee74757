use Rattle.std.proofs.Common.{◌≡◌, ℕ, ◌<◌, ◌^◌, Some}
use Rattle.std.specs.Prelude.{slice_get}
use Rattle.ec_world.specs.declared.class.ClassRec.{ClassRec}
use Rattle.ec_generate.proofs.conditions.look_at_conditions.Given as goal

-- it is so of each class that was looked at
abbrev pub invariant-loop-class : goal.invariant-loop-class
invariant-loop-class l =
    (k : ℕ) (class : ClassRec) → k < l.class-index → slice_get l.classes k ≡ Some class → class.conditions < 2 ^ 32
