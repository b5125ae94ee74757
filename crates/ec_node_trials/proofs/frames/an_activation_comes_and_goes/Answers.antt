-- Nothing is there yet, and the argument is no text.
use Rattle.std.proofs.Common.{◌≡◌, ℕ, zero, suc, List, ◌∷◌, [], pos}
use Rattle.std.specs.Prelude.{slice_get}
use Rattle.ec_activations.specs.Frames.{or_nil}
use Rattle.ec_node_frames.proofs.Texts.{no_texts_begun}
use Rattle.ec_node_trials.proofs.frames.an_activation_comes_and_goes.Goals as goal
use Rattle.ec_world.specs.declared.key.Key.TheVariants.{Frame}
use Rattle.ec_stores.specs.Node.{store_of}
use Rattle.ec_world.specs.declared.value.Value.TheVariants.{Int, Str}

no_text : (n : ℕ) (text : List ℕ) → or_nil (slice_get (Int (pos 5) ∷ []) n) ≡ Str text → ⊥
no_text zero text e = cc
no_text (suc n) text e = cc

pub begin_frame-requires-clause-new : goal.begin_frame-requires-clause-new
begin_frame-requires-clause-new g c = c.in_ok-node.ensures.rows (Frame 2 0)

pub begin_frame-requires-clause-texts : goal.begin_frame-requires-clause-texts
begin_frame-requires-clause-texts g c = no_texts_begun (Int (pos 5) ∷ []) no_text (store_of c.in_ok-node.node) c.in_ok-table.table 7
