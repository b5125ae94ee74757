-- Processes once one of them has acted, others were granted monitors, and one more has begun.
use Rattle.std.proofs.Common.{◌≡◌, ◌≢◌, ◌∙◌, ◌⊎◌, ℕ, zero, suc, List, [], ◌∷◌, ◌++◌, length, Option, Some, None, ⊎_elim, inl, inr}
use Rattle.std.proofs.Common.{refl, sym, ap, subst}
use Rattle.std.specs.Prelude.{slice_get, slice_set}
use Rattle.ec_base.proofs.Lists.{length_set}
use Rattle.ec_world.specs.declared.process.Proc.{Proc}
use Rattle.ec_world.specs.declared.process.ProcStatus.TheVariants.{Ready}
use Rattle.ec_world.specs.World.{all_readied, readied}

module _ {B : Type 0} where
  -- what stands in a list of which one place is set
  pub set_parts : (xs : List B) (i : ℕ) (new : B) (q : ℕ) (x : B) → slice_get (slice_set xs i new) q ≡ Some x →
      ((q ≡ i) × (x ≡ new)) ⊎ ((q ≢ i) × (slice_get xs q ≡ Some x))
  set_parts [] i new q x e = absurd cc
  set_parts (y ∷ ys) zero new zero x e = inl (refl, cc)
  set_parts (y ∷ ys) zero new (suc q) x e = inr ((λ k. absurd cc), e)
  set_parts (y ∷ ys) (suc i) new zero x e = inr ((λ k. absurd cc), e)
  set_parts (y ∷ ys) (suc i) new (suc q) x e = ⊎_elim
      (λ (h : (q ≡ i) × (x ≡ new)). inl (ap suc h.0, h.1))
      (λ (h : (q ≢ i) × (slice_get ys q ≡ Some x)). inr ((λ k. h.0 (cc)), h.1))
      (set_parts ys i new q x e)

  pub set_none : (xs : List B) (i : ℕ) (new : B) (q : ℕ) → slice_get (slice_set xs i new) q ≡ None → slice_get xs q ≡ None
  set_none [] i new q e = refl
  set_none (y ∷ ys) zero new zero e = absurd cc
  set_none (y ∷ ys) zero new (suc q) e = e
  set_none (y ∷ ys) (suc i) new zero e = absurd cc
  set_none (y ∷ ys) (suc i) new (suc q) e = set_none ys i new q e

  -- what stands in two lists, one behind the other, the second of one item at most
  pub push_parts : (xs : List B) (new : B) (q : ℕ) (x : B) → slice_get (xs ++ new ∷ []) q ≡ Some x →
      (slice_get xs q ≡ Some x) ⊎ ((q ≡ length xs) × (x ≡ new))
  push_parts [] new zero x e = inr (refl, cc)
  push_parts [] new (suc q) x e = absurd cc
  push_parts (y ∷ ys) new zero x e = inl e
  push_parts (y ∷ ys) new (suc q) x e = ⊎_elim
      (λ (h : slice_get ys q ≡ Some x). inl h)
      (λ (h : (q ≡ length ys) × (x ≡ new)). inr (ap suc h.0, h.1))
      (push_parts ys new q x e)

  pub both_none : (xs ys : List B) (q : ℕ) → slice_get (xs ++ ys) q ≡ None → slice_get xs q ≡ None
  both_none [] ys q e = refl
  both_none (x ∷ xs) ys zero e = absurd cc
  both_none (x ∷ xs) ys (suc q) e = both_none xs ys q e

  pub none_behind : (xs : List B) → slice_get xs (length xs) ≡ None
  none_behind [] = refl
  none_behind (x ∷ xs) = none_behind xs

module _ {A : Type 0} where
  -- this holds of each process, with its number
  abbrev pub EachAt : (ℕ → Proc A → Type 0) → List (Proc A) → Type 0
  EachAt P ps = (q : ℕ) (proc : Proc A) → slice_get ps q ≡ Some proc → P q proc

  module _ (P : ℕ → Proc A → Type 0) where
    pub each_set : (ps : List (Proc A)) (i : ℕ) (new : Proc A) →
        ((q : ℕ) (proc : Proc A) → q ≢ i → slice_get ps q ≡ Some proc → P q proc) → P i new → EachAt P (slice_set ps i new)
    each_set ps i new all this q proc e = ⊎_elim
        (λ (h : (q ≡ i) × (proc ≡ new)). subst (λ n. P n proc) (sym h.0) (subst (λ t. P i t) (sym h.1) this))
        (λ (h : (q ≢ i) × (slice_get ps q ≡ Some proc)). all q proc h.0 h.1)
        (set_parts ps i new q proc e)

    pub each_push : (ps : List (Proc A)) (new : Proc A) → EachAt P ps → P (length ps) new → EachAt P (ps ++ new ∷ [])
    each_push ps new all this q proc e = ⊎_elim
        (λ (h : slice_get ps q ≡ Some proc). all q proc h)
        (λ (h : (q ≡ length ps) × (proc ≡ new)). subst (λ n. P n proc) (sym h.0) (subst (λ t. P (length ps) t) (sym h.1) this))
        (push_parts ps new q proc e)

    module _ (keeps : (q : ℕ) (proc : Proc A) → P q proc → P q (record proc { status = Ready })) where
      readied_if : (ps : List (Proc A)) (g : ℕ) (t : Option (Proc A)) → slice_get ps g ≡ t → EachAt P ps → EachAt P (readied ps g t)
      readied_if ps g None e all = all
      readied_if ps g (Some proc) e all =
          each_set ps g (record proc { status = Ready }) (λ q other n is. all q other is) (keeps g proc (all g proc e))

      pub each_readied : (ps : List (Proc A)) (gs : List ℕ) → EachAt P ps → EachAt P (all_readied ps gs)
      each_readied ps [] all = all
      each_readied ps (g ∷ gs) all =
          each_readied (readied ps g (slice_get ps g)) gs (readied_if ps g (slice_get ps g) refl all)

  readied_length : (ps : List (Proc A)) (g : ℕ) (t : Option (Proc A)) → length (readied ps g t) ≡ length ps
  readied_length ps g None = refl
  readied_length ps g (Some proc) = length_set ps g (record proc { status = Ready })

  pub all_length : (ps : List (Proc A)) (gs : List ℕ) → length (all_readied ps gs) ≡ length ps
  all_length ps [] = refl
  all_length ps (g ∷ gs) = all_length (readied ps g (slice_get ps g)) gs ∙ readied_length ps g (slice_get ps g)

  readied_none : (ps : List (Proc A)) (g : ℕ) (t : Option (Proc A)) (q : ℕ) → slice_get (readied ps g t) q ≡ None → slice_get ps q ≡ None
  readied_none ps g None q e = e
  readied_none ps g (Some proc) q e = set_none ps g (record proc { status = Ready }) q e

  pub all_none : (ps : List (Proc A)) (gs : List ℕ) (q : ℕ) → slice_get (all_readied ps gs) q ≡ None → slice_get ps q ≡ None
  all_none ps [] q e = e
  all_none ps (g ∷ gs) q e =
      readied_none ps g (slice_get ps g) q (all_none (readied ps g (slice_get ps g)) gs q e)
