-- The activation on top of a process that is Ready, and the world in which it has gone on.
use Rattle.std.proofs.Common.{◌≡◌, ℕ, suc, List, [], ◌∷◌, ◌++◌, length, Some, ap, ◌∙◌, subst, refl}
use Rattle.std.specs.Prelude.{slice_get, slice_set}
use Rattle.ec_base.proofs.Stacks.{below_of-push, top_of-push}
use Rattle.ec_base.specs.Stack.{below_of, top_of}
use Rattle.ec_cluster.specs.Cluster.{CodeWorld}
use Rattle.ec_code.specs.Activations.{code_meaning, code_silent}
use Rattle.ec_code.specs.Fine.{Fine}
use Rattle.ec_code.specs.Typing.{Declared}
use Rattle.ec_code.specs.declared.activation.CodeActivation.{CodeActivation}
use Rattle.ec_code.specs.declared.code.Parts.{Parts}
use Rattle.ec_legs.specs.Going.{IsDoneTop}
use Rattle.ec_world.proofs.Procs.{get_end}
use Rattle.ec_code.specs.Worlds.{RangedActivation, RangedProc, RangedWorld}
use Rattle.ec_code.proofs.Carried.{each_get}
use Rattle.ec_code.proofs.SoundWorlds.{tower_at}
use Rattle.ec_code.specs.Sound.{SoundDone, SoundTower, SoundWorld, TopIs}
use Rattle.ec_world.specs.World.{GoOn, advanced, go_on, go_on_unless, ready_stack, stack_at, stack_if_ready}
use Rattle.ec_world.specs.declared.common.Common.{Common}
use Rattle.ec_world.specs.declared.process.Proc.{Proc}
use Rattle.ec_world.specs.declared.process.ProcStatus.TheVariants.{Ready}

-- the process with this activation on top
abbrev pub with_top : List CodeActivation → CodeActivation → Proc CodeActivation
with_top below a = record { activations = below ++ a ∷ []; status = Ready }

-- process p has gone on to these
abbrev pub went : CodeWorld → ℕ → List CodeActivation → Common × CodeActivation → CodeWorld
went w p below x = record { common = x.0; processes = slice_set w.processes p (with_top below x.1) }

advanced_is : (silent : Common → CodeActivation → Common × CodeActivation) (w : CodeWorld) (p : ℕ) (below : List CodeActivation)
    (x : Common × CodeActivation) → advanced code_meaning silent w p below x ≡ went w p below x
advanced_is silent w p below (c, a) = refl

pub length_push : {A : Type 0} (xs : List A) (x : A) → length (xs ++ x ∷ []) ≡ suc (length xs)
length_push [] x = refl
length_push (y ∷ ys) x = ap suc (length_push ys x)

pub set_end : {A : Type 0} (xs : List A) (x y : A) → slice_set (xs ++ x ∷ []) (length xs) y ≡ xs ++ y ∷ []
set_end [] x y = refl
set_end (z ∷ zs) x y = ap (λ r. z ∷ r) (set_end zs x y)

module _ (w : CodeWorld) (p : ℕ) (below : List CodeActivation) (top : CodeActivation) (is : IsDoneTop w p below top) where
  stack_is : stack_at w p ≡ below ++ top ∷ []
  stack_is =
      ap ready_stack is.is_top.is ∙ ap (λ s. stack_if_ready s is.is_top.proc.activations) is.ready ∙ is.is_top.stack

  pub top_is : top_of (stack_at w p) ≡ Some top
  top_is = ap top_of stack_is ∙ top_of-push below top

  pub goes_on_is : (parts : Parts) → GoOn code_meaning (code_silent parts) w p ≡ went w p below (code_silent parts w.common top)
  goes_on_is parts =
      ap (λ xs. go_on code_meaning (code_silent parts) w p (below_of xs) (top_of xs)) stack_is
      ∙ ap (λ b. go_on code_meaning (code_silent parts) w p b (top_of (below ++ top ∷ []))) (below_of-push below top)
      ∙ ap (λ t. go_on code_meaning (code_silent parts) w p below t) (top_of-push below top)
      ∙ ap (λ b. go_on_unless code_meaning (code_silent parts) w p below top b) is.done
      ∙ advanced_is (code_silent parts) w p below (code_silent parts w.common top)

  pub there : slice_get is.is_top.proc.activations (length below) ≡ Some top
  there = ap (λ xs. slice_get xs (length below)) is.is_top.stack ∙ get_end below top

  pub count_is : length is.is_top.proc.activations ≡ suc (length below)
  count_is = ap length is.is_top.stack ∙ length_push below top

  module _ (d : Declared) (parts : Parts) (fine : Fine d parts) (sound : SoundWorld d parts w) where
    tower : SoundTower d parts w.common.objects (below_of (stack_at w p)) (Some top)
    tower =
        subst (λ x. SoundTower d parts w.common.objects (below_of (stack_at w p)) x) top_is
        (tower_at d parts fine w p (sound.common, sound.processes))

    pub top_sound : SoundDone d parts w.common.objects top
    top_sound = subst (λ b. TopIs d parts w.common.objects top b) is.done tower.2

  pub top_ranged : RangedWorld w → RangedActivation top
  top_ranged ranged =
      each_get RangedActivation is.is_top.proc.activations (length below) top
      (each_get RangedProc w.processes p is.is_top.proc ranged.processes is.is_top.is) there
