-- When activations of one meaning follow those of another, step by step, and when runs over both agree.
use Rattle.std.specs.Prelude.{◌≡◌, ℕ, false, List, Option}
use Rattle.ec_world.specs.declared.value.Value.{Value}
use Rattle.ec_world.specs.declared.common.Common.{Common}
use Rattle.ec_world.specs.Meaning.{ActivationMeaning}
use Rattle.ec_world.specs.Agree.{SameRest, AgreeBy}
use Rattle.ec_world.specs.Run.{RunState}

-- Related activations rest at the same stop with the same operands. New activations are related, and so are related
-- ones whose action gets done, and related ones after the silent steps behind a stop whose action is done, which make
-- the same of what a world has beside its processes.
pub record IsSimulation {A B : Type 0} (M : ActivationMeaning A) (N : ActivationMeaning B) (advance : Common → A → Common × A)
    (advance' : Common → B → Common × B) (R : A → B → Type 0) : Type 0 where
  pub same : (a : A) (b : B) → R a b → SameRest M N a b
  pub operands : (a : A) (b : B) → R a b → M.operands a ≡ N.operands b
  pub begun : (op own : ℕ) (args : List Value) → R (M.begun op own args) (N.begun op own args)
  pub finished : (a : A) (b : B) (given : Option Value) → R a b → R (M.finished a given) (N.finished b given)
  pub commons : (c : Common) (a : A) (b : B) → R a b → M.is_pending a ≡ false → (advance c a).0 ≡ (advance' c b).0
  pub activations : (c : Common) (a : A) (b : B) → R a b → M.is_pending a ≡ false → R (advance c a).1 (advance' c b).1

-- runs so far whose worlds agree, with the same entries done and left, and the same process of the last turn
pub record AgreeRun {A B : Type 0} (R : A → B → Type 0) (s : RunState A) (t : RunState B) : Type 0 where
  pub worlds : AgreeBy R s.world t.world
  pub left : s.left ≡ t.left
  pub last : s.last ≡ t.last
  pub done : s.done ≡ t.done
