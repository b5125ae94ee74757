-- When two worlds over different activations agree.
use Rattle.std.specs.Prelude.{◌≡◌, List, [], ◌∷◌, Option, Some, None}
use Rattle.ec_world.specs.declared.process.Proc.{Proc}
use Rattle.ec_world.specs.declared.world.World.{World}
use Rattle.ec_world.specs.Meaning.{ActivationMeaning}

-- lists that are related one by one
abbrev pub AllTwo : {A B : Type 0} → (A → B → Type 0) → List A → List B → Type 0
AllTwo R [] [] = Unit {0}
AllTwo R (a ∷ xs) (b ∷ ys) = R a b × AllTwo R xs ys
AllTwo R [] (b ∷ ys) = ⊥
AllTwo R (a ∷ xs) [] = ⊥

-- both there and related, or neither there
abbrev pub Maybe : {A B : Type 0} → (A → B → Type 0) → Option A → Option B → Type 0
Maybe R None None = Unit {0}
Maybe R (Some a) (Some b) = R a b
Maybe R None (Some b) = ⊥
Maybe R (Some a) None = ⊥

-- activations of the same operation and object, at the same stop, both pending or both done
pub record SameRest {A B : Type 0} (M : ActivationMeaning A) (N : ActivationMeaning B) (a : A) (b : B) : Type 0 where
  pub operation : M.operation a ≡ N.operation b
  pub own : M.own a ≡ N.own b
  pub stop : M.stop a ≡ N.stop b
  pub pending : M.is_pending a ≡ N.is_pending b

pub record AgreeProc {A B : Type 0} (R : A → B → Type 0) (p : Proc A) (q : Proc B) : Type 0 where
  pub status : p.status ≡ q.status
  pub activations : AllTwo R p.activations q.activations

-- worlds that are equal in all but activations, which are related
pub record AgreeBy {A B : Type 0} (R : A → B → Type 0) (w : World A) (v : World B) : Type 0 where
  pub common : w.common ≡ v.common
  pub processes : AllTwo (AgreeProc R) w.processes v.processes

abbrev pub Agree : {A B : Type 0} → ActivationMeaning A → ActivationMeaning B → World A → World B → Type 0
Agree M N w v = AgreeBy (SameRest M N) w v
