-- The system that is loaded runs the first world.
use Rattle.std.proofs.Common.{ℕ, suc, ◌≤◌, List, [], ◌∷◌, map, sym, subst, arith}
use Rattle.std.specs.Prelude.{length, replicate}
use Rattle.ec_cluster.specs.Images.{homes_on, image_of}
use Rattle.ec_cluster.specs.declared.cluster.Images.{Images}
use Rattle.ec_code.specs.Fine.{Fine}
use Rattle.ec_code.specs.Typing.{Declared, kind_of}
use Rattle.ec_code.specs.declared.code.Parts.{Parts}
use Rattle.ec_acts.specs.Loaded.{AreImages, Loaded}
use Rattle.ec_acts.specs.Worlds.{world_first}
use Rattle.ec_node_frames.specs.Frames.{HasTables}
use Rattle.ec_code.proofs.RangesObjects.{defaults_ranged}
use Rattle.ec_code.proofs.RangesWorlds.{begun_ranged}
use Rattle.ec_code.specs.Worlds.{RangedObject, RangedWorld, most_nodes}
use Rattle.ec_code.proofs.Carried.{each_append, each_replicate}
use Rattle.ec_code.proofs.SoundWorlds.{start_sound}
use Rattle.ec_code.specs.Sound.{SoundWorld}
use Rattle.ec_cluster.specs.Systems.{Runs}
use Rattle.ec_cluster.specs.declared.system.System.{System}
use Rattle.ec_world.specs.Run.{node_object, program_object}
use Rattle.ec_world.specs.declared.node.Kind.TheVariants.{Riscv}
use Rattle.ec_world.specs.declared.node.NodeSpec.{NodeSpec}

first_ranged : (n : ℕ) (p : Parts) → n ≤ most_nodes → RangedWorld (world_first n p)
first_ranged n p few = record {
  common = record {
    nodes = few;
    objects = each_append RangedObject (replicate n node_object) (program_object ∷ [])
        (each_replicate RangedObject n node_object (record { values = tt; few = tt })) (record { values = tt; few = tt }, tt);
    constants = defaults_ranged (map kind_of p.constants);
  };
  processes = ((begun_ranged 0 (suc n) [] tt, tt), tt);
}

pub runs_first : (d : Declared) (p : Parts) (images : Images) (specs : List NodeSpec) (s : System) → length specs ≤ most_nodes →
    Loaded p images specs s → AreImages d p images → Runs d s (world_first (length specs) p)
runs_first d p images specs s few loaded are = record {
  mirrors = loaded.mirrors;
  steady = record {
    fine = subst (λ (q : Parts). Fine d q) (sym loaded.parts) (are Riscv).fine;
    images = λ kind.
        subst (λ (x : Images). HasTables d s.cluster.parts kind (homes_on x) (image_of x kind).table.operations) (sym loaded.images_are)
        (subst (λ (q : Parts). HasTables d q kind (homes_on images) (image_of images kind).table.operations) (sym loaded.parts) (are kind));
    few_nodes = (let n = loaded.nodes in omega (arith, n, few));
  };
  sound = subst (λ (q : Parts). SoundWorld d q (world_first (length specs) p)) (sym loaded.parts)
      (start_sound d p (are Riscv).fine (length specs));
  ranged = first_ranged (length specs) p few;
}
