-- Two lists of the variables that are live at one place are one.
use Rattle.std.proofs.Common.{◌≡◌, ℕ, ◌⊎◌, inl, inr, List, [], ◌∷◌, refl, sym, ap₂, subst, arith}
use Rattle.ec_code.specs.Fine.{IsIn}
use Rattle.ec_code.specs.declared.code.Op.{Op}
use Rattle.ec_code.specs.declared.code.Variable.{Variable}
use Rattle.ec_code.specs.declared.code.Variable.TheVariants.{Named, Temporary}
use Rattle.ec_code.specs.Live.{IsBefore, InOrder, IsLiveList}

apart : (x y : Variable) → IsBefore x y → IsBefore y x → ⊥
apart (Named m) (Named n) h k = omega arith
apart (Named m) (Temporary e) h k = k
apart (Temporary d) (Named n) h k = h
apart (Temporary d) (Temporary e) h k = omega arith

not_itself : (x y : Variable) → x ≡ y → IsBefore x y → ⊥
not_itself x y e h = apart x y h (subst (λ z. IsBefore z x) e (subst (λ z. IsBefore x z) (sym e) h))

heads : (x y : Variable) (xs ys : List Variable) → InOrder (x ∷ xs) → InOrder (y ∷ ys) → (x ≡ y) ⊎ IsIn x ys → (y ≡ x) ⊎ IsIn y xs →
    x ≡ y
heads x y xs ys a b (inl e) g = e
heads x y xs ys a b (inr i) (inl e) = sym e
heads x y xs ys a b (inr i) (inr j) = absurd (apart x y (a.0 y j) (b.0 x i))

behind : (x z : Variable) (xs ys : List Variable) → InOrder (x ∷ xs) → IsIn z xs → (z ≡ x) ⊎ IsIn z ys → IsIn z ys
behind x z xs ys a i (inl e) = absurd (not_itself x z (sym e) (a.0 z i))
behind x z xs ys a i (inr j) = j

in_order_same : (xs ys : List Variable) → InOrder xs → InOrder ys → ((x : Variable) → IsIn x xs → IsIn x ys) →
    ((x : Variable) → IsIn x ys → IsIn x xs) → xs ≡ ys
in_order_same [] [] a b f g = refl
in_order_same [] (y ∷ ys) a b f g = absurd (g y (inl refl))
in_order_same (x ∷ xs) [] a b f g = absurd (f x (inl refl))
in_order_same (x ∷ xs) (y ∷ ys) a b f g =
    let head : x ≡ y = heads x y xs ys a b (f x (inl refl)) (g y (inl refl)) in
    ap₂ (λ v vs. v ∷ vs) head
    (in_order_same xs ys a.1 b.1
    (λ z i. behind x z xs ys a i (subst (λ v. (z ≡ v) ⊎ IsIn z ys) (sym head) (f z (inr i))))
    (λ z i. behind y z ys xs b i (subst (λ v. (z ≡ v) ⊎ IsIn z xs) head (g z (inr i)))))

-- So the lists are determined by the code.
pub same_lists : {code : List Op} {q : ℕ} {xs ys : List Variable} → IsLiveList code q xs → IsLiveList code q ys → xs ≡ ys
same_lists {xs} {ys} a b =
    in_order_same xs ys a.in_order b.in_order (λ x i. b.all x (a.live x i)) (λ x i. a.all x (b.live x i))
