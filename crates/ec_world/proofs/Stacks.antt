-- Stacks whose tops are related one way, and what waits below them another.
use Rattle.std.proofs.Common.{ℕ, List, [], ◌∷◌, ◌++◌, Option, Some, None, refl}
use Rattle.std.specs.Prelude.{slice_get}
use Rattle.ec_base.specs.Stack.{top_of, below_of}
use Rattle.ec_base.proofs.Stacks.{top_of-push, below_of-push}
use Rattle.ec_world.specs.declared.process.ProcStatus.{ProcStatus}
use Rattle.ec_world.specs.declared.process.ProcStatus.TheVariants.{Ready, Entry, Cond, Urgent, Ended, Failed}
use Rattle.ec_world.specs.declared.process.Proc.{Proc}
use Rattle.ec_world.specs.World.{stack_if_ready, ready_stack, readied, all_readied}
use Rattle.ec_world.specs.Agree.{AllTwo, Maybe}
use Rattle.ec_world.proofs.Related.{all-map, all-set, all-get}
use Rattle.ec_world.specs.Follows.{Stacked, StackedProc}

module _ {A B : Type 0} (On Below : A → B → Type 0) where
  -- one more on top
  pub stacked_push : (xs : List A) (ys : List B) (a : A) (b : B) → AllTwo Below xs ys → On a b →
      Stacked On Below (xs ++ a ∷ []) (ys ++ b ∷ [])
  stacked_push xs ys a b h k = record {
    below = rw (below_of-push xs a, below_of-push ys b) h;
    top = rw (top_of-push xs a, top_of-push ys b) k;
  }

  pub stacked_none : Stacked {A = A} {B = B} On Below [] []
  stacked_none = record { below = tt; top = tt }

  -- all that lie on a stack
  pub stacked_all : (R : A → B → Type 0) → ((a : A) (b : B) → On a b → R a b) → ((a : A) (b : B) → Below a b → R a b) →
      (xs : List A) (ys : List B) → AllTwo Below (below_of xs) (below_of ys) → Maybe On (top_of xs) (top_of ys) → AllTwo R xs ys
  stacked_all R f g [] [] h k = tt
  stacked_all R f g (x ∷ []) (y ∷ []) h k = (f x y k, tt)
  stacked_all R f g (x ∷ x' ∷ xs) (y ∷ y' ∷ ys) h k = (g x y h.0, stacked_all R f g (x' ∷ xs) (y' ∷ ys) h.1 k)
  stacked_all R f g (x ∷ []) (y ∷ y' ∷ ys) h k = absurd h
  stacked_all R f g (x ∷ x' ∷ xs) (y ∷ []) h k = absurd h
  stacked_all R f g [] (y ∷ []) h k = absurd k
  stacked_all R f g [] (y ∷ y' ∷ ys) h k = absurd h
  stacked_all R f g (x ∷ []) [] h k = absurd k
  stacked_all R f g (x ∷ x' ∷ xs) [] h k = absurd h

  stack_alike : (s : ProcStatus) (xs : List A) (ys : List B) → Stacked On Below xs ys →
      Stacked On Below (stack_if_ready s xs) (stack_if_ready s ys)
  stack_alike Ready xs ys h = h
  stack_alike (Entry oid) xs ys h = stacked_none
  stack_alike (Cond oid) xs ys h = stacked_none
  stack_alike (Urgent oid) xs ys h = stacked_none
  stack_alike Ended xs ys h = stacked_none
  stack_alike (Failed cause line) xs ys h = stacked_none

  pub ready_alike : (x : Option (Proc A)) (y : Option (Proc B)) → Maybe (StackedProc On Below) x y →
      Stacked On Below (ready_stack x) (ready_stack y)
  ready_alike None None h = stacked_none
  ready_alike (Some x) (Some y) h = rw h.status (stack_alike y.status x.activations y.activations h.activations)
  ready_alike None (Some y) h = absurd h
  ready_alike (Some x) None h = absurd h

  -- A process that was granted a monitor is Ready, with its activations as they were.
  readied_alike : (ps : List (Proc A)) (qs : List (Proc B)) (n : ℕ) (x : Option (Proc A)) (y : Option (Proc B)) →
      AllTwo (StackedProc On Below) ps qs → Maybe (StackedProc On Below) x y →
      AllTwo (StackedProc On Below) (readied ps n x) (readied qs n y)
  readied_alike ps qs n None None h k = h
  readied_alike ps qs n (Some x) (Some y) h k =
      all-set (StackedProc On Below) ps qs n _ _ h (record { status = refl; activations = k.activations })
  readied_alike ps qs n None (Some y) h k = absurd k
  readied_alike ps qs n (Some x) None h k = absurd k

  pub all_readied_alike : (ps : List (Proc A)) (qs : List (Proc B)) (granted : List ℕ) → AllTwo (StackedProc On Below) ps qs →
      AllTwo (StackedProc On Below) (all_readied ps granted) (all_readied qs granted)
  all_readied_alike ps qs [] h = h
  all_readied_alike ps qs (n ∷ more) h =
      all_readied_alike (readied ps n (slice_get ps n)) (readied qs n (slice_get qs n)) more
      (readied_alike ps qs n (slice_get ps n) (slice_get qs n) h (all-get (StackedProc On Below) ps qs n h))

-- relations that imply others, on a stack
module _ {A B : Type 0} (On Below On' Below' : A → B → Type 0) (on : (a : A) (b : B) → On a b → On' a b)
    (below : (a : A) (b : B) → Below a b → Below' a b) where
  maybe_map : (x : Option A) (y : Option B) → Maybe On x y → Maybe On' x y
  maybe_map None None h = tt
  maybe_map (Some a) (Some b) h = on a b h
  maybe_map None (Some b) h = absurd h
  maybe_map (Some a) None h = absurd h

  proc_map : (p : Proc A) (q : Proc B) → StackedProc On Below p q → StackedProc On' Below' p q
  proc_map p q h = record {
    status = h.status;
    activations = record {
      below = all-map Below Below' below (below_of p.activations) (below_of q.activations) h.activations.below;
      top = maybe_map (top_of p.activations) (top_of q.activations) h.activations.top;
    };
  }

  pub procs_map : (ps : List (Proc A)) (qs : List (Proc B)) → AllTwo (StackedProc On Below) ps qs → AllTwo (StackedProc On' Below') ps qs
  procs_map ps qs h = all-map (StackedProc On Below) (StackedProc On' Below') proc_map ps qs h
