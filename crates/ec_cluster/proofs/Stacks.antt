-- Activations come, go and change at their nodes.
use Rattle.std.proofs.Common.{◌≡◌, ℕ, List, [], ◌∷◌, ◌++◌, Option, Some, None, refl, ap, ◌∙◌}
use Rattle.std.specs.Prelude.{length, option_map, slice_get, slice_set}
use Rattle.ec_cluster.proofs.Putting.{put_shown, shown_there, with_node}
use Rattle.ec_cluster.specs.Cluster.{CodeWorld, Shows, frame_of, place}
use Rattle.ec_cluster.specs.declared.cluster.Cluster.{Cluster}
use Rattle.ec_cluster.specs.Frames.{with_one_more, with_stack}
use Rattle.ec_code.specs.declared.activation.CodeActivation.{CodeActivation}
use Rattle.ec_world.proofs.Procs.{activation_is}
use Rattle.ec_world.specs.declared.key.Key.TheVariants.{Frame}
use Rattle.ec_stores.specs.Node.{NodeData, store_of}
use Rattle.ec_things.proofs.Began.{process_came}
use Rattle.ec_things.proofs.Steps.{called, left, stepped}
use Rattle.ec_things.specs.Things.{Puts, Shown, frame_if}
use Rattle.ec_world.specs.declared.process.Proc.{Proc}
use Rattle.ec_world.specs.declared.process.ProcStatus.{ProcStatus}

module _ (c : Cluster) (k : ℕ) (n n' : NodeData) (w : CodeWorld) (is : slice_get c.nodes k ≡ Some n) (shows : Shows c w) where
  module _ (p : ℕ) (proc : Proc CodeActivation) (there : slice_get w.processes p ≡ Some proc) (status : ProcStatus) where
    -- an activation more, on its own object's node
    pub frame_came : (a : CodeActivation) → place c a.own ≡ Some k →
        Puts (store_of n) (store_of n') (Frame p (length proc.activations)) (Some (frame_of c p (length proc.activations) a)) →
        Shows (with_node c k n') (with_stack w p (proc.activations ++ a ∷ []) status)
    frame_came a at puts = put_shown c k n n' w (with_stack w p (proc.activations ++ a ∷ []) status) (Frame p (length proc.activations))
        (Some (frame_of c p (length proc.activations) a)) is puts
        (called (frame_of c) (place c) w w.common (record { objects = refl; globals = refl }) p proc
        (record { activations = proc.activations ++ a ∷ []; status = status }) there a k refl at) shows

    -- the last activation goes
    pub frame_went : (below : List CodeActivation) (a : CodeActivation) → proc.activations ≡ below ++ a ∷ [] → place c a.own ≡ Some k →
        Puts (store_of n) (store_of n') (Frame p (length below)) None → Shows (with_node c k n') (with_stack w p below status)
    frame_went below a e at puts = put_shown c k n n' w (with_stack w p below status) (Frame p (length below)) None is puts
        (left (frame_of c) (place c) w w.common (record { objects = refl; globals = refl }) p proc
        (record { activations = below; status = status }) there a k e at) shows

    -- an activation becomes another one of its own object
    pub frame_became : (d : ℕ) (a a' : CodeActivation) → slice_get proc.activations d ≡ Some a → a'.own ≡ a.own → place c a.own ≡ Some k →
        Puts (store_of n) (store_of n') (Frame p d) (Some (frame_of c p d a')) →
        Shows (with_node c k n') (with_stack w p (slice_set proc.activations d a') status)
    frame_became d a a' here own at puts = put_shown c k n n' w (with_stack w p (slice_set proc.activations d a') status) (Frame p d)
        (Some (frame_of c p d a')) is puts
        (stepped (frame_of c) (place c) w w.common (record { objects = refl; globals = refl }) p proc
        (record { activations = slice_set proc.activations d a'; status = status }) there d a a' k here refl own at) shows

    -- an activation is shown at the node of its own object
    pub frame_shown : (d : ℕ) (a : CodeActivation) → slice_get proc.activations d ≡ Some a → place c a.own ≡ Some k →
        Shown (store_of n) (Frame p d) (frame_of c p d a)
    frame_shown d a here at = shown_there c w k (store_of n) (Frame p d) (frame_of c p d a) shows
        (ap (frame_if (frame_of c) p d) (activation_is w.processes p d proc there ∙ here)) at (ap (option_map store_of) is)

  -- a process more, with one activation
  pub process_begun : (q : Proc CodeActivation) (a : CodeActivation) → q.activations ≡ a ∷ [] → place c a.own ≡ Some k →
      Puts (store_of n) (store_of n') (Frame (length w.processes) 0) (Some (frame_of c (length w.processes) 0 a)) →
      Shows (with_node c k n') (with_one_more w q)
  process_begun q a one at puts = put_shown c k n n' w (with_one_more w q) (Frame (length w.processes) 0)
      (Some (frame_of c (length w.processes) 0 a)) is puts
      (process_came (frame_of c) w q a one (place c) k at) shows
