-- What becomes of the stacks of processes: the one that acts has another, those that are granted a monitor keep theirs, and one may come.
use Rattle.std.proofs.Common.{◌≡◌, ℕ, zero, suc, List, [], ◌∷◌, ◌++◌, map, Option, Some, None, refl, sym, ap, ◌∙◌, subst}
use Rattle.std.specs.Prelude.{slice_get, slice_set}
use Rattle.std.proofs.lemmas.Option.{same_Some}
use Rattle.ec_activations.proofs.Stops.{each_of}
use Rattle.ec_base.proofs.Lists.{get_set_same, get_within, set_there}
use Rattle.ec_cluster.specs.Cluster.{CodeWorld}
use Rattle.ec_code.specs.Activations.{code_meaning}
use Rattle.ec_code.specs.declared.activation.CodeActivation.{CodeActivation}
use Rattle.ec_node_frames.proofs.Items.{get_front, get_map, map_both}
use Rattle.ec_world.specs.Things.{activation_at}
use Rattle.ec_things.proofs.Same.{stacks}
use Rattle.ec_world.specs.Outcomes.{all_granted}
use Rattle.ec_world.specs.World.{all_readied, begun_for, changed, readied, settled}
use Rattle.ec_world.specs.declared.common.Common.{Common}
use Rattle.ec_world.specs.declared.doing.Outcome.{Outcome}
use Rattle.ec_world.specs.declared.object.ObjectRec.{ObjectRec}
use Rattle.ec_world.specs.declared.process.Proc.{Proc}
use Rattle.ec_world.specs.declared.process.ProcStatus.TheVariants.{Ready}

-- ---- lists

map_set_to : {A B : Type 0} (f : A → B) (xs : List A) (i : ℕ) (y : A) → map f (slice_set xs i y) ≡ slice_set (map f xs) i (f y)
map_set_to f [] i y = refl
map_set_to f (x ∷ xs) zero y = refl
map_set_to f (x ∷ xs) (suc i) y = ap (λ r. f x ∷ r) (map_set_to f xs i y)

-- an item is set to one that looks the same
pub map_set : {A B : Type 0} (f : A → B) (xs : List A) (i : ℕ) (x y : A) → slice_get xs i ≡ Some x → f y ≡ f x →
    map f (slice_set xs i y) ≡ map f xs
map_set f xs i x y e h = map_set_to f xs i y ∙ set_there (map f xs) i (f y) (get_map f xs i x e ∙ ap Some (sym h))

pub all_set : {A : Type 0} (P : A → Type 0) (xs : List A) (i : ℕ) (y : A) → ((j : ℕ) (x : A) → slice_get xs j ≡ Some x → P x) → P y →
    (j : ℕ) (x : A) → slice_get (slice_set xs i y) j ≡ Some x → P x
all_set P [] i y each new j x e = absurd cc
all_set P (z ∷ zs) zero y each new zero x e = subst P (same_Some y x e) new
all_set P (z ∷ zs) zero y each new (suc j) x e = each (suc j) x e
all_set P (z ∷ zs) (suc i) y each new zero x e = each zero x e
all_set P (z ∷ zs) (suc i) y each new (suc j) x e = all_set P zs i y (λ m u f. each (suc m) u f) new j x e

-- each of a list, and one behind it
pub all_push : {A : Type 0} (P : A → Type 0) (xs : List A) (y : A) → ((j : ℕ) (x : A) → slice_get xs j ≡ Some x → P x) → P y →
    (j : ℕ) (x : A) → slice_get (xs ++ y ∷ []) j ≡ Some x → P x
all_push {A = A} P xs y each new = each_of P xs (y ∷ []) each one
  where
    one : (j : ℕ) (x : A) → slice_get (y ∷ []) j ≡ Some x → P x
    one zero x e = subst P (same_Some y x e) new
    one (suc j) x e = absurd cc

-- ---- stacks

one_readied : {A : Type 0} (ps : List (Proc A)) (q : ℕ) (x : Option (Proc A)) → slice_get ps q ≡ x → stacks (readied ps q x) ≡ stacks ps
one_readied ps q None e = refl
one_readied {A = A} ps q (Some proc) e = map_set (λ (r : Proc A). r.activations) ps q proc (record proc { status = Ready }) e refl

stacks_readied : {A : Type 0} (ps : List (Proc A)) (granted : List ℕ) → stacks (all_readied ps granted) ≡ stacks ps
stacks_readied ps [] = refl
stacks_readied ps (q ∷ qs) = stacks_readied (readied ps q (slice_get ps q)) qs ∙ one_readied ps q (slice_get ps q) refl

abbrev pub in_stack : {A : Type 0} → Option (List A) → ℕ → Option A
in_stack None d = None
in_stack (Some xs) d = slice_get xs d

pub by_stack : {A : Type 0} (ps : List (Proc A)) (q d : ℕ) → activation_at ps q d ≡ in_stack (slice_get (stacks ps) q) d
by_stack [] q d = refl
by_stack (p ∷ ps) zero d = refl
by_stack (p ∷ ps) (suc q) d = by_stack ps q d

-- ---- after an action

module _ (w : CodeWorld) (p : ℕ) (below : List CodeActivation) (top : CodeActivation) (c : Common) (o : Outcome)
    (g : List ObjectRec × List ℕ) where
  abbrev pub after : CodeWorld
  after = settled code_meaning w p below top c o g

  abbrev pub new_stack : List CodeActivation
  new_stack = (changed code_meaning below top o.effect).activations

  abbrev pub begun_stacks : List (List CodeActivation)
  begun_stacks = stacks (begun_for code_meaning o.started)

  pub stacks_after : stacks after.processes ≡ slice_set (stacks w.processes) p new_stack ++ begun_stacks
  stacks_after =
      let ps = slice_set w.processes p (changed code_meaning below top o.effect) in
      sym (map_both (λ (r : Proc CodeActivation). r.activations) (all_readied ps (all_granted o.granted g.1))
      (begun_for code_meaning o.started))
      ∙ ap (λ xs. xs ++ begun_stacks) (stacks_readied ps (all_granted o.granted g.1)
      ∙ map_set_to (λ (r : Proc CodeActivation). r.activations) w.processes p (changed code_meaning below top o.effect))

  -- what holds of each activation before, of each in the new stack and of each that begins, holds of each afterwards
  pub all_after : (P : CodeActivation → Type 0) →
      ((q d : ℕ) (a : CodeActivation) → activation_at w.processes q d ≡ Some a → P a) →
      ((d : ℕ) (a : CodeActivation) → slice_get new_stack d ≡ Some a → P a) →
      ((q : ℕ) (xs : List CodeActivation) → slice_get begun_stacks q ≡ Some xs →
      (d : ℕ) (a : CodeActivation) → slice_get xs d ≡ Some a → P a) →
      (q d : ℕ) (a : CodeActivation) → activation_at after.processes q d ≡ Some a → P a
  all_after P old new begun q d a e =
      found (slice_get (stacks after.processes) q) refl (sym (by_stack after.processes q d) ∙ e)
    where
      before : (i : ℕ) (xs : List CodeActivation) → slice_get (stacks w.processes) i ≡ Some xs →
          (j : ℕ) (x : CodeActivation) → slice_get xs j ≡ Some x → P x
      before i xs is j x f = old i j x (by_stack w.processes i j ∙ ap (λ s. in_stack s j) is ∙ f)

      all : (i : ℕ) (xs : List CodeActivation) → slice_get (slice_set (stacks w.processes) p new_stack ++ begun_stacks) i ≡ Some xs →
          (j : ℕ) (x : CodeActivation) → slice_get xs j ≡ Some x → P x
      all = each_of (λ xs. (j : ℕ) (x : CodeActivation) → slice_get xs j ≡ Some x → P x) (slice_set (stacks w.processes) p new_stack)
          begun_stacks
          (all_set (λ xs. (j : ℕ) (x : CodeActivation) → slice_get xs j ≡ Some x → P x) (stacks w.processes) p new_stack before new) begun

      found : (s : Option (List CodeActivation)) → slice_get (stacks after.processes) q ≡ s → in_stack s d ≡ Some a → P a
      found None is f = absurd cc
      found (Some xs) is f = all q xs (ap (λ ys. slice_get ys q) (sym stacks_after) ∙ is) d a f

  -- the new stack is that of the process
  pub there_after : (proc : Proc CodeActivation) → slice_get w.processes p ≡ Some proc →
      (d : ℕ) → activation_at after.processes p d ≡ slice_get new_stack d
  there_after proc is d =
      let within = get_within (stacks w.processes) p proc.activations
      (get_map (λ (r : Proc CodeActivation). r.activations) w.processes p proc is) in
      by_stack after.processes p d ∙ ap (λ xs. in_stack (slice_get xs p) d) stacks_after
      ∙ ap (λ s. in_stack s d) (get_front (slice_set (stacks w.processes) p new_stack) begun_stacks p new_stack
      (get_set_same (stacks w.processes) p new_stack within))
