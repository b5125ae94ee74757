-- Silent steps leave the program's own object without fields, and lead to a stop whose action is to be done.
use Rattle.std.proofs.Common.{◌≡◌, ℕ, suc, false, drop, Option, Some, None}
use Rattle.ec_code.specs.Activations.{Arrived, code_if, code_silent, machine_behind, operation_at, resting, walk}
use Rattle.ec_code.specs.declared.activation.CodeActivation.{CodeActivation}
use Rattle.ec_code.specs.declared.code.Parts.{Parts}
use Rattle.ec_code.proofs.IdleObjects.{Plain, changed_plain, element_plain}
use Rattle.ec_code.proofs.Walks.{silent_keeps}
use Rattle.ec_code.specs.Idle.{IsIdle}
use Rattle.ec_world.specs.Outcomes.{with_element}
use Rattle.ec_world.specs.declared.common.Common.{Common}

abbrev PlainCommon : Common → Type 0
PlainCommon c = Plain c.objects

pub silent_plain : (p : Parts) (c : Common) (a : CodeActivation) → Plain c.objects → Plain (code_silent p c a).0.objects
silent_plain p c a h =
    silent_keeps PlainCommon p c a (λ m n v k. changed_plain m.common.objects a.own (with_element n v) k (element_plain n v)) h

resting_idle : (a : CodeActivation) (x : Common × Option Arrived) → (a.pending ≡ false → IsIdle a) → (resting a x).1.pending ≡ false →
    IsIdle (resting a x).1
resting_idle a (c, None) h e = h e
resting_idle a (c, Some r) h e = absurd (let no = e in cc)

abbrev reached : Parts → Common → CodeActivation → Common × Option Arrived
reached p c a = walk p.literals a.own (suc a.at) (drop (suc a.at) (code_if (operation_at p a.operation))) 0 (machine_behind p c a)

pub silent_idle : (p : Parts) (c : Common) (a : CodeActivation) → (a.pending ≡ false → IsIdle a) →
    (code_silent p c a).1.pending ≡ false → IsIdle (code_silent p c a).1
silent_idle p c a h = resting_idle a (reached p c a) h
