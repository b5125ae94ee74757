-- The images of a program on the kinds of machines.
use Rattle.std.specs.Prelude.{ℕ, List}
use Rattle.ec_cluster.specs.declared.cluster.Images.{Images}
use Rattle.ec_machine_code.specs.declared.homes.Home.{Home}
use Rattle.ec_generate.specs.declared.image.Image.{Image}
use Rattle.ec_generate.specs.Tables.{all_homes}
use Rattle.ec_world.specs.declared.node.Kind.{Kind}
use Rattle.ec_world.specs.declared.node.Kind.TheVariants.{Riscv, Mips}

abbrev pub image_of : Images → Kind → Image
image_of images Riscv = images.riscv
image_of images Mips = images.mips

-- the homes of each operation's variables on a kind
abbrev pub homes_on : Images → Kind → List (List Home)
homes_on images kind = all_homes (image_of images kind).table.operations
