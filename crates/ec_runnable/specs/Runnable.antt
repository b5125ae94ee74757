-- Programs with images that nodes of each kind can run.
use Rattle.std.specs.Prelude.{[]}
use Rattle.ec_asking.specs.Typed.{IsTypedOnce}
use Rattle.ec_cluster.specs.Images.{homes_on, image_of}
use Rattle.ec_cluster.specs.declared.cluster.Images.{Images}
use Rattle.ec_code.specs.Typing.{Declared}
use Rattle.ec_code.specs.declared.code.Parts.{Parts}
use Rattle.ec_legs.specs.Nodes.{IsCodeFor}
use Rattle.ec_code.specs.Idle.{OfClasses}
use Rattle.ec_node_frames.specs.Frames.{HasTables}
use Rattle.ec_world.specs.Held.{Distinct}
use Rattle.ec_code.specs.Code.{SmallProgram}
use Rattle.ec_generate.specs.Limits.{CarriesFew}
use Rattle.ec_world.specs.Group.{Has}
use Rattle.ec_world.specs.declared.node.Kind.{Kind}

-- For each kind of node the images have the code of the program and its stop table. Its literals are texts each once, the empty one among
-- them; what its code names is in range; its operations are of classes or of the program; each live variable has one type; and few values go with an activation.
pub record IsRunnable (p : Parts) (images : Images) : Type 0 where
  pub declared : Declared
  pub code : (kind : Kind) → IsCodeFor declared p images kind
  pub tables : (kind : Kind) → HasTables declared p kind (homes_on images) (image_of images kind).table.operations
  pub once : Distinct p.literals
  pub empty : Has p.literals []
  pub small : SmallProgram p
  pub classes : OfClasses p
  pub typed : IsTypedOnce p
  pub few : CarriesFew p
