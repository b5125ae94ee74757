-- The activation that is in the frame here, in each world that shows it.
use Rattle.std.proofs.Common.{ap, ◌∙◌}
use Rattle.ec_cluster.specs.Images.{homes_on, image_of}
use Rattle.ec_generate.specs.declared.image.Image.{Image}
use Rattle.ec_packing.proofs.Frames.{activation, entry, leaves_by}
use Rattle.ec_packing.proofs.Standing.{is_row, part_goes}
use Rattle.ec_packing.proofs.activations.part_at.Goals as goal

pub activation_part-requires : goal.activation_part-requires
activation_part-requires c =
    let z = c.requires.can.1 in
    let s = c.args.system.now in
    let ms = c.args.members.now in
    let n = c.at-node.result.now in
    let row = is_row n ms c.args.process c.args.depth (c.requires.there n c.at-node.ensures) in
    let tables = c.as_slice-tables.ensures
    ∙ ap (λ (i : Image). i.table.operations) (c.of-image.ensures ∙ ap (image_of s.cluster.images) c.kind.ensures.kind) in
    record {
      declared = z.declared;
      parts = s.cluster.parts;
      homes = homes_on s.cluster.images;
      activation = activation z.declared s z.world c.requires.can.0 ms c.args.from z.goes c.args.process c.args.depth n c.at-node.ensures
          row;
      entry = entry z.declared s z.world c.requires.can.0 ms c.args.from z.goes c.args.process c.args.depth n c.at-node.ensures row;
      leaves = leaves_by z.declared s z.world c.requires.can.0 ms c.args.from z.goes c.args.process c.args.depth n c.at-node.ensures row
          c.as_slice-tables.result.now tables;
    }

pub returns : goal.returns
returns c =
    let s = c.args.system.now in
    let n = c.at-node.result.now in
    let tables = c.as_slice-tables.ensures
    ∙ ap (λ (i : Image). i.table.operations) (c.of-image.ensures ∙ ap (image_of s.cluster.images) c.kind.ensures.kind) in
    part_goes s c.args.members.now c.args.from c.args.process c.args.depth n c.at-node.ensures
    (c.requires.there n c.at-node.ensures) c.as_slice-tables.result.now tables c.activation_part.result c.activation_part.ensures
