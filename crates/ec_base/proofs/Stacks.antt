-- The top of a list and what lies below it.
use Rattle.std.proofs.Common.{◌≡◌, ℕ, suc, ◌-◌, ◌<◌, List, [], ◌∷◌, ◌++◌, length, Option, Some, None, refl, sym, ap, ◌∙◌, arith, get_or}
use Rattle.std.specs.Prelude.{IsSome, ◌↔◌}
use Rattle.std.specs.Option.{option_to_list}
use Rattle.ec_base.specs.Stack.{top_of, below_of}

module _ {A : Type 0} where
  pub top_of-push : (xs : List A) (x : A) → top_of (xs ++ x ∷ []) ≡ Some x
  top_of-push [] x = refl
  top_of-push (y ∷ []) x = refl
  top_of-push (y ∷ z ∷ zs) x = top_of-push (z ∷ zs) x

  pub below_of-push : (xs : List A) (x : A) → below_of (xs ++ x ∷ []) ≡ xs
  below_of-push [] x = refl
  below_of-push (y ∷ []) x = refl
  below_of-push (y ∷ z ∷ zs) x = ap (λ r. y ∷ r) (below_of-push (z ∷ zs) x)

  pub stack_parts : (xs : List A) (x : A) → top_of xs ≡ Some x → xs ≡ below_of xs ++ x ∷ []
  stack_parts [] x e = cc
  stack_parts (y ∷ []) x e = cc
  stack_parts (y ∷ z ∷ zs) x e = ap (λ r. y ∷ r) (stack_parts (z ∷ zs) x e)

  pub top_of_last : (xs : List A) (d : A) → 0 < length xs → top_of xs ≡ Some (get_or xs (length xs - 1) d)
  top_of_last [] d h = absurd (omega arith)
  top_of_last (y ∷ []) d h = refl
  top_of_last (y ∷ z ∷ zs) d h =
      let e : length (y ∷ z ∷ zs) - 1 ≡ suc (length (z ∷ zs) - 1) = omega arith in
      rw e (top_of_last (z ∷ zs) d (omega arith))

  pub top_of_some : (xs : List A) → IsSome (top_of xs) → 0 < length xs
  top_of_some [] h = cc
  top_of_some (y ∷ ys) h = omega arith

  -- the last item, as a `Vec` reads it
  pub top_read : (xs : List A) (n i : ℕ) (x : A) → IsSome (top_of xs) → n ≡ length xs → i ≡ n - 1 → x ≡ get_or xs i x → top_of xs ≡ Some x
  top_read xs n i x some e f g =
      let j : i ≡ length xs - 1 = omega arith in
      top_of_last xs x (top_of_some xs some) ∙ ap Some (rw (← j) (sym g))

  pub pop_parts : (old new : List A) (r : Option A) (n : ℕ) → n ≡ length old → old ≡ new ++ option_to_list r →
      (IsSome r ↔ (0 < n)) → (r ≡ top_of old) × (new ≡ below_of old)
  pop_parts old new (Some x) n l e some = rw e (sym (top_of-push new x), sym (below_of-push new x))
  pop_parts [] [] None n l e some = (refl, refl)
  pop_parts (y ∷ ys) new None n l e some = let h : IsSome {T = A} None = some.1 (omega arith) in cc
  pop_parts [] (z ∷ zs) None n l e some = cc

  pub top_of_none : (xs : List A) → top_of xs ≡ None → xs ≡ []
  top_of_none [] e = refl
  top_of_none (y ∷ []) e = cc
  top_of_none (y ∷ z ∷ zs) e = let h = top_of_none (z ∷ zs) e in cc
