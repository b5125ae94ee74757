-- At most 100 values go with each activation of a program that carries at most 100 together at each stop.
use Rattle.std.proofs.Common.{◌+◌, ◌≤◌, Bool, true, false, length, length-append, arith}
use Rattle.ec_node_frames.specs.Carried.{carried}
use Rattle.ec_cluster.proofs.Resting.{of_operation}
use Rattle.ec_code.specs.declared.activation.CodeActivation.{CodeActivation}
use Rattle.ec_code.specs.declared.code.Parts.{Parts}
use Rattle.ec_node_frames.specs.Frames.{RestsAt}
use Rattle.ec_generate.specs.declared.table.StopEntry.{StopEntry}
use Rattle.ec_generate.specs.Limits.{CarriesFew}

few_carried : (e : StopEntry) (pending : Bool) → length e.operands + length e.live ≤ 100 → length (carried e pending) ≤ 100
few_carried e true few = let all = length-append e.operands e.live in omega (arith, all, few)
few_carried e false few = omega (arith, few)

pub few_go : (p : Parts) → CarriesFew p → (a : CodeActivation) (e : StopEntry) → RestsAt p a e → length (carried e a.pending) ≤ 100
few_go p few a e rests =
    let o = of_operation p a (record { number = rests.number; entry = e }) rests.is in
    few_carried e a.pending (few a.operation o.operation e o.is (record { at = rests.number; is = o.stop }))
