-- The code behind a stop, by its parts.
use Rattle.std.proofs.Common.{◌≡◌, ℕ, zero, suc, ◌+◌, List, length, drop, Option, refl, ap, ◌∙◌, arith}
use Rattle.ec_code.specs.Activations.{Arrived, code_if, code_silent, operation_at, resting, variables_behind, variables_if, walk}
use Rattle.ec_code.specs.Steps.{Machine}
use Rattle.ec_code.specs.declared.activation.CodeActivation.{CodeActivation}
use Rattle.ec_code.specs.declared.code.Line.{Line}
use Rattle.ec_code.specs.declared.code.Parts.{Parts}
use Rattle.ec_stepping.specs.Stepping.{variables_from}
use Rattle.ec_world.specs.declared.common.Common.{Common}
use Rattle.ec_world.specs.declared.value.Value.{Value}

abbrev machine : Common → List Value → List Value → Machine
machine c variables temporaries = record { common = c; variables = variables; temporaries = temporaries }

same_variables : (p : Parts) (a : CodeActivation) (at : ℕ) →
    variables_from a (length (variables_if (operation_at p a.operation))) at ≡ variables_behind p a at
same_variables p a zero = refl
same_variables p a (suc at) = refl

pub goes_on : (p : Parts) (c : Common) (a : CodeActivation) (code : List Line) (count : ℕ) (literals : List (List ℕ))
    (variables temporaries : List Value) (x : Common × Option Arrived) (r : Common × CodeActivation) →
    code ≡ code_if (operation_at p a.operation) → count ≡ length (variables_if (operation_at p a.operation)) →
    literals ≡ p.literals → variables ≡ variables_from a count a.at → temporaries ≡ a.temporaries →
    x ≡ walk literals a.own (a.at + 1) (drop (a.at + 1) code) 0 (machine c variables temporaries) → r ≡ resting a x →
    r ≡ code_silent p c a
goes_on p c a code count literals variables temporaries x r ec en el ev et ex er =
    let vs : variables ≡ variables_behind p a a.at =
    ev ∙ ap (λ n. variables_from a n a.at) en ∙ same_variables p a a.at in
    let place : a.at + 1 ≡ suc a.at = omega arith in
    er
    ∙ ap (resting a) (
    ex
    ∙ ap (λ l. walk l a.own (a.at + 1) (drop (a.at + 1) code) 0 (machine c variables temporaries)) el
    ∙ ap (λ k. walk p.literals a.own k (drop k code) 0 (machine c variables temporaries)) place
    ∙ ap (λ l. walk p.literals a.own (suc a.at) (drop (suc a.at) l) 0 (machine c variables temporaries)) ec
    ∙ ap (λ v. walk p.literals a.own (suc a.at) (drop (suc a.at) (code_if (operation_at p a.operation))) 0 (machine c v temporaries)) vs
    ∙ ap (λ t. walk p.literals a.own (suc a.at) (drop (suc a.at) (code_if (operation_at p a.operation))) 0
    (machine c (variables_behind p a a.at) t)) et
    )
