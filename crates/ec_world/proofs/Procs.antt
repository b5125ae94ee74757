-- Activations by process and depth, and sums over lists, where a process has changed.
use Rattle.std.proofs.Common.{◌≡◌, ◌≢◌, ℕ, zero, suc, ◌+◌, ◌<◌, ◌≤◌, List, [], ◌∷◌, ◌++◌, length, Option, Some, None, refl, sym, ap}
use Rattle.std.proofs.Common.{◌∙◌, subst, arith, ◌⊎◌, inl, inr, ⊎_elim}
use Rattle.std.specs.Prelude.{slice_get, slice_set}
use Rattle.ec_world.specs.declared.process.Proc.{Proc}
use Rattle.ec_base.proofs.Lists.{get_set_same, get_set_other, get_within}
use Rattle.ec_world.specs.Things.{activation_at, in_process}
use Rattle.ec_world.specs.Held.{total}

module _ {A : Type 0} where
  pub activation_here : (procs : List (Proc A)) (p d : ℕ) (proc : Proc A) → p < length procs →
      activation_at (slice_set procs p proc) p d ≡ slice_get proc.activations d
  activation_here procs p d proc h = ap (λ x. in_process x d) (get_set_same procs p proc h)

  pub activation_there : (procs : List (Proc A)) (p q d : ℕ) (proc : Proc A) → q ≢ p →
      activation_at (slice_set procs p proc) q d ≡ activation_at procs q d
  activation_there procs p q d proc h = ap (λ x. in_process x d) (get_set_other procs p q proc h)

  pub activation_is : (procs : List (Proc A)) (p d : ℕ) (proc : Proc A) → slice_get procs p ≡ Some proc →
      activation_at procs p d ≡ slice_get proc.activations d
  activation_is procs p d proc e = ap (λ x. in_process x d) e

  pub get_end : (xs : List A) (x : A) → slice_get (xs ++ x ∷ []) (length xs) ≡ Some x
  get_end [] x = refl
  get_end (y ∷ ys) x = get_end ys x

  pub get_past : (xs : List A) (i : ℕ) → length xs ≤ i → slice_get xs i ≡ None
  get_past [] i h = refl
  get_past (x ∷ xs) zero h = absurd (omega arith)
  get_past (x ∷ xs) (suc i) h = get_past xs i (omega arith)

  -- all but the end
  pub get_but_end : (xs : List A) (x : A) (i : ℕ) → i ≢ length xs → slice_get (xs ++ x ∷ []) i ≡ slice_get xs i
  get_but_end [] x zero h = absurd (h refl)
  get_but_end [] x (suc i) h = refl
  get_but_end (y ∷ ys) x zero h = refl
  get_but_end (y ∷ ys) x (suc i) h = get_but_end ys x i (λ e. h (ap suc e))

  pub total_set : (f : ℕ → A → ℕ) (from : ℕ) (xs : List A) (i j : ℕ) (x y : A) → slice_get xs i ≡ Some x → j ≡ from + i →
      total f from (slice_set xs i y) + f j x ≡ total f from xs + f j y
  total_set f from [] i j x y e h = cc
  total_set f from (z ∷ zs) zero j x y e h =
      let same : j ≡ from = omega arith in
      let is : z ≡ x = cc in
      rw (same, is) (omega arith)
  total_set f from (z ∷ zs) (suc i) j x y e h =
      let t : total f (suc from) (slice_set zs i y) + f j x ≡ total f (suc from) zs + f j y =
      total_set f (suc from) zs i j x y e (omega arith) in
      omega arith

  pub total_push : (f : ℕ → A → ℕ) (from : ℕ) (xs : List A) (j : ℕ) (y : A) → j ≡ from + length xs →
      total f from (xs ++ y ∷ []) ≡ total f from xs + f j y
  total_push f from [] j y h = let same : j ≡ from = omega arith in rw same (omega arith)
  total_push f from (z ∷ zs) j y h =
      let t : total f (suc from) (zs ++ y ∷ []) ≡ total f (suc from) zs + f j y = total_push f (suc from) zs j y (omega arith) in
      omega arith
