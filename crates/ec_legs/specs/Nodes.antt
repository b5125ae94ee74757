-- An activation that goes on at one node, by the image for the node's kind.
use Rattle.std.specs.Prelude.{ℕ}
use Rattle.ec_cluster.specs.Images.{homes_on, image_of}
use Rattle.ec_cluster.specs.declared.cluster.Images.{Images}
use Rattle.ec_code.specs.Typing.{Declared}
use Rattle.ec_code.specs.declared.activation.CodeActivation.{CodeActivation}
use Rattle.ec_code.specs.declared.code.Parts.{Parts}
use Rattle.ec_legs.specs.Legs.{CanStep, IsCodeOf, Leg, ShowsAll}
use Rattle.ec_legs.specs.Runs.{RunsNatively}
use Rattle.ec_stores.specs.Node.{NodeData}
use Rattle.ec_things.specs.Store.{Store}
use Rattle.ec_world.specs.declared.common.Common.{Common}
use Rattle.ec_world.specs.declared.node.Kind.{Kind}
use Rattle.ec_world.specs.declared.node.Kind.TheVariants.{Riscv, Mips}
use Rattle.ec_world.specs.declared.object.ObjectRec.{ObjectRec}
use Rattle.mips_machine.specs.Machine.{mips_goes, mips_stops}
use Rattle.mips_code.specs.Meaning.{mips_meaning}
use Rattle.rv_machine.specs.Machine.{rv_goes, rv_stops}
use Rattle.rv_code.specs.Meaning.{rv_meaning}

-- the image for a kind is the code and the stop table of a program
abbrev pub IsCodeFor : Declared → Parts → Images → Kind → Type 0
IsCodeFor d p images Riscv = IsCodeOf rv_meaning images.riscv.code images.riscv.table d p (homes_on images)
IsCodeFor d p images Mips = IsCodeOf mips_meaning images.mips.code images.mips.table d p (homes_on images)

-- A node shows an activation that can go on in a program.
pub record StepsThere (d : Declared) (p : Parts) (images : Images) (c : Common) (a : CodeActivation) (o : ObjectRec) (s : Store)
    (process depth : ℕ) : Type 0 where
  pub is_code : IsCodeFor d p images s.kind
  pub can_step : CanStep p c a
  pub shows : ShowsAll p (homes_on images) c a o s process depth

-- it shows some
pub record SomeSteps (images : Images) (s : Store) (process depth : ℕ) : Type 0 where
  pub declared : Declared
  pub program : Parts
  pub common : Common
  pub activation : CodeActivation
  pub own : ObjectRec
  pub steps : StepsThere declared program images common activation own s process depth

-- Each activation that the node shows so has gone on.
abbrev pub EachHasGoneOn : Images → Store → Store → ℕ → ℕ → ℕ → Type 0
EachHasGoneOn images s s' process depth k =
    (d : Declared) (p : Parts) (c : Common) (a : CodeActivation) (o : ObjectRec) → StepsThere d p images c a o s process depth →
    Leg (image_of images s.kind).code p (homes_on images) c a s s' process depth k

-- The image for a kind was run on a machine of this kind, as the kind's table of instructions says.
abbrev pub RunsOn : Kind → Images → NodeData → NodeData → ℕ → ℕ → ℕ → Type 0
RunsOn Riscv images before after process depth k =
    RunsNatively rv_meaning rv_goes rv_stops images.riscv.code images.riscv.table before after process depth k
RunsOn Mips images before after process depth k =
    RunsNatively mips_meaning mips_goes mips_stops images.mips.code images.mips.table before after process depth k
