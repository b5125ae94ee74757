-- The parts are those of what goes, and they keep the rules of the wire form.
use Rattle.std.proofs.Common.{◌≡◌, ◌<◌, ◌^◌, List, length, sym, ◌∙◌, subst, arith}
use Rattle.ec_packing.proofs.ActivationParts.{are_there}
use Rattle.ec_packing.proofs.Frames.{processes_are}
use Rattle.ec_packing.proofs.Whole.{contents, keeps, packs}
use Rattle.ec_packing.proofs.packing.pack.Goals as goal
use Rattle.ec_packing.specs.Blocks.{AreThere, HaveSmallBlocks}
use Rattle.ec_packing.specs.Narrow.{NarrowContents}
use Rattle.ec_parcels.specs.Parcels.{Packs}
use Rattle.ec_stores.specs.Node.{store_of}
use Rattle.ec_wire.specs.WireForm.{KeepsRules}
use Rattle.ec_wire.specs.declared.parcel.ActivationPart.{ActivationPart}
use Rattle.ec_wire.specs.declared.parcel.Contents.{Contents}

pub look_at_blocks-requires : goal.look_at_blocks-requires
look_at_blocks-requires c =
    let z = c.requires in
    let s = c.args.system.now in
    let ms = c.args.members.now in
    let table = c.args.numbers.now in
    subst (λ (parts : List ActivationPart). AreThere (store_of c.at-node.result.now) parts)
    (sym (c.as_slice.ensures ∙ c.in_ok-activations.ensures z.declared z.world table z.goes))
    (are_there z.declared s z.world table ms c.args.from z.goes c.at-node.result.now c.at-node.ensures)

pub new-requires : goal.new-requires
new-requires c =
    let z = c.requires in
    let s = c.args.system.now in
    let ms = c.args.members.now in
    let table = c.args.numbers.now in
    let objects = c.in_ok-objects.ensures z.declared z.world z.goes in
    let monitors = c.in_ok-monitors.ensures z.declared z.world table z.goes in
    let activations = c.in_ok-activations.ensures z.declared z.world table z.goes in
    let x : Contents = record {
      objects = c.in_ok-objects.objects;
      monitors = c.in_ok-monitors.monitors;
      activations = c.in_ok-activations.activations;
    } in
    let is : x ≡ contents z.declared s z.world table ms c.args.from z.goes = cc in
    let same = processes_are z.declared s z.world table ms c.args.from z.goes in
    let small : length z.world.processes < 2 ^ 32 = omega (arith, same, c.len.ensures, c.if-len-ge4294967296.false) in
    let blocks = subst (λ (parts : List ActivationPart). HaveSmallBlocks (store_of c.at-node.result.now) parts)
    (c.as_slice.ensures ∙ activations) c.look_at_blocks.ensures.blocks in
    subst (λ (y : Contents). KeepsRules y) (sym is)
    (keeps z.declared s z.world table ms c.args.from z.goes (subst (λ (y : Contents). NarrowContents y) is c.look_at.ensures) small
    (store_of c.at-node.result.now) c.look_at_blocks.ensures.tidy blocks)

pub returns : goal.returns
returns c d w can =
    let s = c.args.system.now in
    let ms = c.args.members.now in
    let table = c.args.numbers.now in
    let objects = c.in_ok-objects.ensures d w can in
    let monitors = c.in_ok-monitors.ensures d w table can in
    let activations = c.in_ok-activations.ensures d w table can in
    let x : Contents = record {
      objects = c.in_ok-objects.objects;
      monitors = c.in_ok-monitors.monitors;
      activations = c.in_ok-activations.activations;
    } in
    let is : x ≡ contents d s w table ms c.args.from can = cc in
    subst (λ (y : Contents). Packs table s.cluster w ms c.args.from y) (sym (c.new.ensures ∙ is))
    (packs d s w table ms c.args.from can)
