-- Activations in the stacks of a world that nodes show.
use Rattle.std.proofs.Common.{◌≡◌, ℕ, zero, suc, List, [], ◌∷◌, ◌++◌, Option, Some, None, refl, sym, ap, ◌∙◌, length-append}
use Rattle.std.specs.Prelude.{length, slice_get, slice_set}
use Rattle.ec_base.proofs.Lists.{get_set_same, get_within}
use Rattle.ec_base.proofs.Stacks.{stack_parts, top_of_none}
use Rattle.ec_base.specs.Stack.{below_of, top_of}
use Rattle.ec_cluster.specs.Cluster.{CodeWorld, Shows, frame_of, place, stores}
use Rattle.ec_cluster.specs.Images.{homes_on}
use Rattle.ec_cluster.specs.declared.cluster.Cluster.{Cluster}
use Rattle.ec_cluster.specs.Finding.{NoFrame}
use Rattle.ec_cluster.specs.Frames.{FrameAt, with_stack}
use Rattle.ec_code.specs.Activations.{code_meaning, finished}
use Rattle.ec_code.specs.declared.activation.CodeActivation.{CodeActivation}
use Rattle.ec_node_frames.proofs.Shown.{shown_here}
use Rattle.ec_world.proofs.Procs.{activation_is}
use Rattle.ec_world.specs.Things.{activation_at}
use Rattle.ec_world.specs.declared.key.Key.TheVariants.{Frame}
use Rattle.ec_things.specs.Store.{Owned, Store}
use Rattle.ec_things.specs.Things.{ShownAt, frame_if, things_of}
use Rattle.ec_world.specs.World.{finish_top}
use Rattle.ec_world.specs.declared.process.Proc.{Proc}
use Rattle.ec_world.specs.declared.process.ProcStatus.{ProcStatus}
use Rattle.ec_world.specs.declared.value.Value.{Value}

module _ {A : Type 0} where
  pub set_twice : (xs : List A) (i : ℕ) (x y : A) → slice_set (slice_set xs i x) i y ≡ slice_set xs i y
  set_twice [] i x y = refl
  set_twice (z ∷ zs) zero x y = refl
  set_twice (z ∷ zs) (suc i) x y = ap (λ r. z ∷ r) (set_twice zs i x y)

  -- what stands between two parts of a list
  pub get_at : (low high : List A) (a : A) → slice_get (low ++ a ∷ high) (length low) ≡ Some a
  get_at [] high a = refl
  get_at (x ∷ low) high a = get_at low high a

  pub set_at : (low high : List A) (a b : A) → slice_set (low ++ a ∷ high) (length low) b ≡ low ++ b ∷ high
  set_at [] high a b = refl
  set_at (x ∷ low) high a b = ap (λ r. x ∷ r) (set_at low high a b)

-- what is below a top that goes stays as high
pub left_length : (xs : List CodeActivation) (given : Option Value) →
    length (finish_top code_meaning (below_of xs) (top_of xs) given) ≡ length xs
left_length xs given = by (top_of xs) refl
  where
    by : (t : Option CodeActivation) → top_of xs ≡ t → length (finish_top code_meaning (below_of xs) t given) ≡ length xs
    by None e = ap length (sym (top_of_none xs e))
    by (Some a) e =
        let now = length-append (below_of xs) (finished a given ∷ []) in
        let was = length-append (below_of xs) (a ∷ []) in
        let all : length xs ≡ length (below_of xs ++ a ∷ []) = ap length (stack_parts xs a e) in
        now ∙ sym was ∙ sym all

-- ---- of a world

abbrev pub stack_with : List CodeActivation → ProcStatus → Proc CodeActivation
stack_with activations status = record { activations = activations; status = status }

abbrev with_processes : CodeWorld → List (Proc CodeActivation) → CodeWorld
with_processes w processes = record w { processes = processes }

module _ (w : CodeWorld) (p : ℕ) where
  pub restack : (a b : List CodeActivation) (s t : ProcStatus) → with_stack (with_stack w p a s) p b t ≡ with_stack w p b t
  restack a b s t = ap (with_processes w) (set_twice w.processes p (stack_with a s) (stack_with b t))

  module _ (proc : Proc CodeActivation) (is : slice_get w.processes p ≡ Some proc) where
    pub stacked : (a : List CodeActivation) (s : ProcStatus) → slice_get (with_stack w p a s).processes p ≡ Some (stack_with a s)
    stacked a s = get_set_same w.processes p (stack_with a s) (get_within w.processes p proc is)

    -- the activation at a depth
    pub stacked_at : (low high : List CodeActivation) (a : CodeActivation) (s : ProcStatus) →
        activation_at (with_stack w p (low ++ a ∷ high) s).processes p (length low) ≡ Some a
    stacked_at low high a s =
        activation_is (with_stack w p (low ++ a ∷ high) s).processes p (length low) (stack_with (low ++ a ∷ high) s)
        (stacked (low ++ a ∷ high) s) ∙ get_at low high a

-- ---- of nodes

module _ (c : Cluster) (w : CodeWorld) (shows : Shows c w) (p : ℕ) (proc : Proc CodeActivation) (is : slice_get w.processes p ≡ Some proc)
    (depth : ℕ) (a : CodeActivation) (there : slice_get proc.activations depth ≡ Some a) where
  pub at_node : ShownAt (stores c) (place c) (Frame p depth) (frame_of c p depth a)
  at_node =
      shows.things_stand.each (Frame p depth) (frame_of c p depth a)
      (ap (frame_if (frame_of c) p depth) (activation_is w.processes p depth proc is ∙ there))

  pub frame_at : (own : ℕ) → own ≡ a.own → FrameAt c p depth own
  frame_at own same = record {
    node = at_node.node;
    at = ap (place c) same ∙ at_node.home;
    store = at_node.store;
    there = at_node.there;
    frame = shown_here at_node.store c.parts (homes_on c.images) p depth a at_node.shown;
  }

  -- some node has it
  pub not_nowhere : NoFrame c p depth → ⊥
  not_nowhere none =
      let gone = none at_node.node at_node.store at_node.there in
      let here = at_node.shown.there in
      cc

-- no node has an activation that is none of the world's
pub no_frame : (c : Cluster) (w : CodeWorld) (p depth : ℕ) → Shows c w → activation_at w.processes p depth ≡ None → (k : ℕ) (s : Store) →
    stores c k ≡ Some s → s.row (Frame p depth) ≡ None
no_frame c w p depth shows none k s e = by (s.row (Frame p depth)) refl
  where
    by : (r : Option Owned) → s.row (Frame p depth) ≡ r → s.row (Frame p depth) ≡ None
    by None f = f
    by (Some r) f =
        let z = shows.things_stand.only k s (Frame p depth) r e f in
        let nothing : things_of (frame_of c) w (Frame p depth) ≡ None = ap (frame_if (frame_of c) p depth) none in
        let something : things_of (frame_of c) w (Frame p depth) ≡ Some z.0 = z.1 in
        absurd cc
