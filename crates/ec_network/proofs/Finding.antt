-- Where a node is found full for an action, objects are where the world has them that would come.
use Rattle.std.proofs.Common.{◌≡◌, ℕ, List, Option, Some}
use Rattle.ec_cluster.specs.Cluster.{CodeWorld, place}
use Rattle.ec_code.specs.Activations.{code_meaning}
use Rattle.ec_code.specs.Typing.{Declared}
use Rattle.ec_fullness.specs.Fullness.{IsFull, StaysPut, gathered, place_then}
use Rattle.ec_gathering.specs.Gathers.{LacksFor, MayGather, world_gathered}
use Rattle.ec_gathering.proofs.Acted.{acted_needs}
use Rattle.ec_gathering.proofs.Same.{full_same}
use Rattle.ec_network.proofs.Asking.{may_gather}
use Rattle.ec_network.proofs.Gathered.{members_there, target_has}
use Rattle.ec_network.specs.Acts.{AsksBetween, AsksOfEach}
use Rattle.ec_parcels.specs.Classes.{ClassTable}
use Rattle.ec_world.specs.declared.room.Lack.{Lack}
use Rattle.ec_rooms.proofs.Refusing.{agrees_gathered, agrees_then}
use Rattle.ec_rooms.specs.Full.{FindsFull}
use Rattle.ec_cluster.specs.declared.system.System.{System}
use Rattle.ec_world.specs.World.{Action}
use Rattle.ec_world.specs.declared.doing.Doing.{Doing}
use Rattle.ec_world.specs.declared.doing.Doing.TheVariants.{Moves}
use Rattle.ec_world.specs.declared.stop.Who.{Who}

-- an action that is no move
pub finds_full : (d : Declared) (s : System) (w : CodeWorld) (who : Who) (doing : Doing) (a : AsksOfEach d s w who doing) (lack : Lack) →
    StaysPut doing →
    IsFull s.cluster w (Action code_meaning w who.process) (place_then s.cluster who.own) lack.node lack.part lack.need lack.free →
    FindsFull s.cluster w (Action code_meaning w who.process) lack
finds_full d s w who doing a lack stays full = record {
  at = place_then s.cluster who.own;
  agree = agrees_then d s w a.below a.top who doing a.goes.runs a.asks stays a.goes.places;
  full = full;
}

-- a move of a group to another object
module _ (d : Declared) (s : System) (w : CodeWorld) (table : ClassTable) (who : Who) (members : List ℕ) (target : ℕ)
    (fixes : Option ℕ) (b : AsksBetween d s w table who (Moves members target fixes)) (lack : Lack)
    (lacks : LacksFor s.cluster w members target fixes lack) where
  abbrev next : CodeWorld
  next = Action code_meaning w who.process

  may : MayGather d s w table members target fixes
  may = may_gather d s w table who members target fixes b

  full_then : (to : ℕ) → place s.cluster target ≡ Some to → FindsFull s.cluster w next lack
  full_then to there = record {
    at = gathered (place s.cluster) members to;
    agree = agrees_gathered s.cluster w b.below b.top who members target fixes to b.asks
        (members_there d s w table members target fixes may) there b.begins.goes.places;
    full = full_same s.cluster w (world_gathered w members target fixes) next (gathered (place s.cluster) members to)
        (acted_needs d s w b.below b.top who members target fixes b.begins.goes.runs b.asks (gathered (place s.cluster) members to))
        lack.node lack.part lack.need lack.free (lacks to there);
  }

  pub move_finds_full : FindsFull s.cluster w next lack
  move_finds_full = let has = target_has d s w table members target fixes may in full_then has.node has.at
