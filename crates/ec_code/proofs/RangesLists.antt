-- What holds of each item of a list holds of its parts.
use Rattle.std.proofs.Common.{ℕ, zero, suc, List, [], ◌∷◌, drop, take, map, Option, Some, None}
use Rattle.std.specs.Prelude.{slice_get}
use Rattle.std.specs.List.{AllByRecursion as Each}
use Rattle.ec_base.specs.Stack.{top_of, below_of}
use Rattle.ec_world.specs.declared.value.Value.{Value}
use Rattle.ec_code.specs.RangesValues.{AllInRange, GivenInRange}

pub each_drop : {A : Type 0} (P : A → Type 0) (n : ℕ) (xs : List A) → Each P xs → Each P (drop n xs)
each_drop P zero xs h = h
each_drop P (suc n) [] h = tt
each_drop P (suc n) (x ∷ xs) h = each_drop P n xs h.1

pub each_take : {A : Type 0} (P : A → Type 0) (n : ℕ) (xs : List A) → Each P xs → Each P (take n xs)
each_take P zero xs h = tt
each_take P (suc n) [] h = tt
each_take P (suc n) (x ∷ xs) h = (h.0, each_take P n xs h.1)

pub each_map : {A B : Type 0} (P : B → Type 0) (f : A → B) → ((x : A) → P (f x)) → (xs : List A) → Each P (map f xs)
each_map P f h [] = tt
each_map P f h (x ∷ xs) = (h x, each_map P f h xs)

-- ---- stacks

pub each_below : {A : Type 0} (P : A → Type 0) (xs : List A) → Each P xs → Each P (below_of xs)
each_below P [] h = tt
each_below P (x ∷ []) h = tt
each_below P (x ∷ y ∷ ys) h = (h.0, each_below P (y ∷ ys) h.1)

abbrev pub IfThere : {A : Type 0} → (A → Type 0) → Option A → Type 0
IfThere P None = Unit {0}
IfThere P (Some x) = P x

pub each_top : {A : Type 0} (P : A → Type 0) (xs : List A) → Each P xs → IfThere P (top_of xs)
each_top P [] h = tt
each_top P (x ∷ []) h = h.0
each_top P (x ∷ y ∷ ys) h = each_top P (y ∷ ys) h.1

-- ---- values

pub given_get : (vs : List Value) (i : ℕ) → AllInRange vs → GivenInRange (slice_get vs i)
given_get [] i h = tt
given_get (v ∷ vs) zero h = h.0
given_get (v ∷ vs) (suc i) h = given_get vs i h.1
