-- In an idle world the activation on top of a process can go on once its action is done.
use Rattle.std.proofs.Common.{◌≡◌, ℕ, false, List, length, Some, refl, sym, ap, ◌∙◌, subst}
use Rattle.std.specs.Prelude.{slice_get}
use Rattle.std.proofs.lemmas.Option.{same_Some}
use Rattle.ec_base.proofs.Stacks.{top_of-push}
use Rattle.ec_base.specs.Stack.{top_of}
use Rattle.ec_cluster.specs.Cluster.{CodeWorld}
use Rattle.ec_code.specs.Fine.{Fine}
use Rattle.ec_code.specs.Typing.{Declared}
use Rattle.ec_code.specs.declared.activation.CodeActivation.{CodeActivation}
use Rattle.ec_code.specs.declared.code.Parts.{Parts}
use Rattle.ec_legs.specs.Going.{IsDoneTop, IsInOneBlock}
use Rattle.ec_code.specs.Idle.{HasOperations, IdleProc, IdleWorld, IsIdle, IsIdleTop, IsPlain, OfClasses}
use Rattle.ec_world.proofs.Procs.{get_end}
use Rattle.ec_world.specs.Things.{class_blocks}
use Rattle.ec_code.proofs.Carried.{each_get, each_object}
use Rattle.ec_code.proofs.Facts.{activation_rests}
use Rattle.ec_code.specs.Sound.{SoundWorld}
use Rattle.ec_cluster.specs.Acting.{IsTop}
use Rattle.ec_world.specs.Sights.{class_of}
use Rattle.ec_world.specs.declared.class.ClassNo.{ClassNo}
use Rattle.ec_world.specs.declared.class.ClassNo.TheVariants.{Node, Program, Made, Vector}
use Rattle.ec_world.specs.declared.object.ObjectRec.{ObjectRec}
use Rattle.ec_world.specs.declared.process.ProcStatus.TheVariants.{Ready}

in_one_block : (o : ObjectRec) (class : ClassNo) → o.class ≡ class → HasOperations class → IsPlain o → IsInOneBlock class o
in_one_block o (Made k) e h plain = tt
in_one_block o Program e h plain =
    ap (λ x. class_blocks x (length o.fields)) e ∙ ap (λ vs. class_blocks Program (length vs)) (plain e)
in_one_block o Node e h plain = absurd h
in_one_block o (Vector of) e h plain = absurd h

pub idle_top_goes_on : (d : Declared) (p : Parts) (w : CodeWorld) (n : ℕ) (below : List CodeActivation) (top : CodeActivation)
    (t : IsTop w n below top) → Fine d p → OfClasses p → SoundWorld d p w → IdleWorld w → t.proc.status ≡ Ready → top.pending ≡ false →
    IsDoneTop w n below top
idle_top_goes_on d p w n below top t fine classes sound idle ready done =
    let proc = each_get IdleProc w.processes n t.proc idle.processes t.is in
    let is_top : top_of t.proc.activations ≡ Some top = ap top_of t.stack ∙ top_of-push below top in
    let its : top.pending ≡ false → IsIdle top = subst IsIdleTop is_top proc.top in
    let place : slice_get t.proc.activations (length below) ≡ Some top =
    ap (λ xs. slice_get xs (length below)) t.stack ∙ get_end below top in
    let rests = (activation_rests d p w sound n t.proc t.is (length below) top place).at in
    record {
      is_top = t;
      ready = ready;
      done = done;
      taken = (its done).taken;
      stays_on = (its done).goes_on;
      one_block = λ o e.
          let class : o.class ≡ rests.of.class = same_Some o.class rests.of.class (sym (ap class_of e) ∙ rests.own) in
          in_one_block o o.class refl (subst HasOperations (sym class) (classes top.operation rests.of rests.is_operation))
          (each_object IsPlain w.common.objects top.own o idle.objects e);
    }
