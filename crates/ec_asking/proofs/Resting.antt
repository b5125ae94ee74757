-- What rests soundly at a stop rests at its entry, in its frame.
use Rattle.std.proofs.Common.{◌≡◌, ◌<◌, ◌≤◌, ℕ, List, Some, ap, arith}
use Rattle.std.specs.Prelude.{length, slice_get}
use Rattle.ec_cluster.specs.Cluster.{CodeWorld}
use Rattle.ec_cluster.specs.Frames.{RestsIn}
use Rattle.ec_code.specs.Activations.{operation_at, variables_if}
use Rattle.ec_code.specs.Typing.{Declared}
use Rattle.ec_code.specs.declared.activation.CodeActivation.{CodeActivation}
use Rattle.ec_code.specs.declared.code.Parts.{Parts}
use Rattle.ec_node_frames.specs.Frames.{RestsAt as RestsInFrame}
use Rattle.ec_activations.proofs.Entries.{rests_at_an_entry}
use Rattle.ec_activations.specs.RestingLaws.{its_entry}
use Rattle.ec_code.proofs.Facts.{each_is_there}
use Rattle.ec_code.specs.Sound.{RestsAt}
use Rattle.ec_cluster.specs.Systems.{Runs}
use Rattle.ec_cluster.specs.declared.system.System.{System}
use Rattle.ec_world.specs.declared.object.ObjectRec.{ObjectRec}
use Rattle.ec_world.specs.declared.process.Proc.{Proc}

module _ (d : Declared) (p : Parts) (objects : List ObjectRec) (a : CodeActivation) (r : RestsAt d p objects a) where
  named_there : 0 < a.at → length (variables_if (operation_at p a.operation)) ≤ length a.variables
  named_there behind =
      let count = each_is_there d p objects a r behind in
      let named = ap (λ o. length (variables_if o)) r.is_operation in
      omega (arith, count, named)

  pub rests_at : RestsInFrame p a (its_entry d p objects a r)
  rests_at = let e = rests_at_an_entry d p objects a r in record { number = e.0; is = e.1; named = named_there }

-- in a world that a system runs
pub rests_here : (d : Declared) (s : System) (w : CodeWorld) → Runs d s w → (q n : ℕ) (proc : Proc CodeActivation) (a : CodeActivation) →
    slice_get w.processes q ≡ Some proc → slice_get proc.activations n ≡ Some a →
    (r : RestsAt d s.cluster.parts w.common.objects a) →
    RestsInFrame s.cluster.parts a (its_entry d s.cluster.parts w.common.objects a r)
rests_here d s w runs q n proc a is_proc there r = rests_at d s.cluster.parts w.common.objects a r

-- so its nodes have it
pub rests_in : (d : Declared) (s : System) (w : CodeWorld) → Runs d s w → (q n : ℕ) (proc : Proc CodeActivation) (a : CodeActivation) →
    slice_get w.processes q ≡ Some proc → slice_get proc.activations n ≡ Some a →
    (r : RestsAt d s.cluster.parts w.common.objects a) →
    RestsIn d s.cluster w q n proc a (its_entry d s.cluster.parts w.common.objects a r)
rests_in d s w runs q n proc a is_proc there r = record {
  images = runs.steady.images;
  shows = runs.mirrors.shows;
  is_proc = is_proc;
  there = there;
  rests = rests_at d s.cluster.parts w.common.objects a r;
}
