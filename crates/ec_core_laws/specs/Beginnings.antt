-- Each class has one operation with which its objects begin, and no more than one process section.
use Rattle.std.specs.Prelude.{◌≡◌, ℕ, ◌==◌, ◌&&◌, ◌+◌, ◌≤◌, Bool, true, false, if◌then◌else◌, List, [], ◌∷◌}
use Rattle.ec_core.specs.declared.Class.{Class}
use Rattle.ec_core.specs.declared.Kind.{Kind}
use Rattle.ec_core.specs.declared.Kind.TheVariants as kind
use Rattle.ec_core.specs.declared.Operation.{Operation}

abbrev pub is_initial : Kind → Bool
is_initial kind.Named = false
is_initial kind.Initial = true
is_initial kind.Process = false

abbrev pub is_process : Kind → Bool
is_process kind.Named = false
is_process kind.Initial = false
is_process kind.Process = true

-- how many operations of such a kind the class with a number has
abbrev pub count_of_class : (Kind → Bool) → ℕ → List Operation → ℕ
count_of_class test n [] = 0
count_of_class test n (o ∷ os) = (if test o.kind && (o.class == n) then 1 else 0) + count_of_class test n os

-- One of the operations makes objects of the class, and at most one is its process section.
pub record BeginsOnce (operations : List Operation) (c : Class) : Type 0 where
  pub initial : count_of_class is_initial c.number operations ≡ 1
  pub process : count_of_class is_process c.number operations ≤ 1
