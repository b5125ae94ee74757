-- Steps of a reader that went well, or failed.
use Rattle.std.proofs.Common.{◌≡◌, ℕ, ◌⊎◌, Bool, true, false, ◌&&◌, cond, Result, Ok, Err, refl, ap, inl, inr}
use Rattle.ec_formats.specs.Format.{◌>>=◌}

-- the value of a step that went well
pub bind_ok : {A B : Type 0} (r : Result A ℕ) (f : A → Result B ℕ) (y : B) → (r >>= f) ≡ Ok y → (x : A) × (r ≡ Ok x) × (f x ≡ Ok y)
bind_ok (Ok x) f y e = (x, refl, e)
bind_ok (Err d) f y e = absurd cc

-- the first step failed, or the second one did
pub bind_err : {A B : Type 0} (r : Result A ℕ) (f : A → Result B ℕ) (d : ℕ) → (r >>= f) ≡ Err d
    → (r ≡ Err d) ⊎ ((x : A) × (r ≡ Ok x) × (f x ≡ Err d))
bind_err (Ok x) f d e = inr (x, refl, e)
bind_err (Err c) f d e =
    let same : c ≡ d = cc in
    inl (ap Err same)

abbrev pub done : {A : Type 0} → A → Result A ℕ
done x = Ok x

-- a test that has to be true went well
pub passed : {A : Type 0} (b : Bool) (d : ℕ) (x y : A) → cond b (done x) (Err d) ≡ Ok y → (b ≡ true) × (x ≡ y)
passed true d x y e = (refl, cc)
passed false d x y e = absurd cc

-- it failed at d
pub not_passed : {A : Type 0} (b : Bool) (d c : ℕ) (x : A) → cond b (done x) (Err d) ≡ Err c → d ≡ c
not_passed true d c x e = absurd cc
not_passed false d c x e = cc

-- a test that has to be false went well
pub guarded : {A : Type 0} (b : Bool) (d : ℕ) (x y : A) → cond b (Err d) (done x) ≡ Ok y → (b ≡ false) × (x ≡ y)
guarded true d x y e = absurd cc
guarded false d x y e = (refl, cc)

-- it failed at d
pub not_guarded : {A : Type 0} (b : Bool) (d c : ℕ) (x : A) → cond b (Err d) (done x) ≡ Err c → d ≡ c
not_guarded true d c x e = cc
not_guarded false d c x e = absurd cc

pub ok_is : {A : Type 0} (x y : A) → done x ≡ done y → x ≡ y
ok_is x y e = cc

pub both : (a b : Bool) → a ≡ true → b ≡ true → (a && b) ≡ true
both true b p q = q
both false b p q = cc

pub first_of_both : (a b : Bool) → (a && b) ≡ true → a ≡ true
first_of_both true b e = refl
first_of_both false b e = e

pub second_of_both : (a b : Bool) → (a && b) ≡ true → b ≡ true
second_of_both true b e = e
second_of_both false b e = absurd cc
