-- Lists with one item less.
use Rattle.std.proofs.Common.{◌≡◌, ◌≢◌, ℕ, zero, suc, ◌+◌, ◌<◌, ◌≤◌, List, [], ◌∷◌, length, Some}
use Rattle.std.proofs.Common.{refl, sym, ap, ◌∙◌, arith, ◌⊎◌, inl, inr, ⊎_elim}
use Rattle.std.specs.Prelude.{slice_get}
use Rattle.std.specs.List.{remove}
use Rattle.ec_world.specs.Held.{Distinct}
use Rattle.ec_world.specs.Words.{text_bytes}
use Rattle.ec_world.specs.Group.{Has}

-- where an item of a list with one less stood before
record Stood {A : Type 0} (xs : List A) (i j : ℕ) (x : A) : Type 0 where
  at : ℕ
  there : slice_get xs at ≡ Some x
  place : ((j < i) × (at ≡ j)) ⊎ ((i ≤ j) × (at ≡ suc j))

get_removed : {A : Type 0} (xs : List A) (i j : ℕ) (x : A) → slice_get (remove xs i) j ≡ Some x → Stood xs i j x
get_removed [] zero j x e = cc
get_removed [] (suc i) j x e = cc
get_removed (y ∷ ys) zero j x e = record { at = suc j; there = e; place = inr (omega arith, refl) }
get_removed (y ∷ ys) (suc i) zero x e = record { at = 0; there = e; place = inl (omega arith, refl) }
get_removed (y ∷ ys) (suc i) (suc j) x e =
    let r = get_removed ys i j x e in
    record {
      at = suc r.at;
      there = r.there;
      place = ⊎_elim (λ (p : (j < i) × (r.at ≡ j)). inl (let l = p.0 in omega arith, ap suc p.1))
          (λ (p : (i ≤ j) × (r.at ≡ suc j)). inr (let l = p.0 in omega arith, ap suc p.1)) r.place;
    }

pub bytes_removed : (xs : List (List ℕ)) (i : ℕ) (t : List ℕ) → slice_get xs i ≡ Some t →
    text_bytes (remove xs i) + length t ≡ text_bytes xs
bytes_removed [] i t e = cc
bytes_removed (x ∷ xs) zero t e = (let is : x ≡ t = cc in let n = ap (λ (l : List ℕ). length l) is in omega arith)
bytes_removed (x ∷ xs) (suc i) t e = (let r = bytes_removed xs i t e in omega arith)

pub bytes_of_one : (xs : List (List ℕ)) (i : ℕ) (t : List ℕ) → slice_get xs i ≡ Some t → length t ≤ text_bytes xs
bytes_of_one xs i t e = (let r = bytes_removed xs i t e in omega arith)

pub has_removed : (xs : List (List ℕ)) (i j : ℕ) (x : List ℕ) → slice_get xs j ≡ Some x → j ≢ i → Has (remove xs i) x
has_removed [] i j x e h = cc
has_removed (y ∷ ys) zero zero x e h = absurd (h refl)
has_removed (y ∷ ys) zero (suc j) x e h = record { at = j; is = e }
has_removed (y ∷ ys) (suc i) zero x e h = record { at = 0; is = e }
has_removed (y ∷ ys) (suc i) (suc j) x e h = (let t = has_removed ys i j x e (λ q. h (ap suc q)) in record { at = suc t.at; is = t.is })

-- what is left is another text that was there
pub left_was : (xs : List (List ℕ)) (i : ℕ) (t x : List ℕ) → Distinct xs → slice_get xs i ≡ Some t →
    Has (remove xs i) x → Has xs x × (x ≢ t)
left_was xs i t x once e h =
    let s = get_removed xs i h.at x h.is in (
      record { at = s.at; is = s.there },
      λ same.
          let at : s.at ≡ i = once.once s.at i t (s.there ∙ ap Some same) e in
          ⊎_elim (λ (p : (h.at < i) × (s.at ≡ h.at)). let l = p.0 in let m = p.1 in let f : ⊥ = omega arith in f)
          (λ (p : (i ≤ h.at) × (s.at ≡ suc h.at)). let l = p.0 in let m = p.1 in let f : ⊥ = omega arith in f) s.place,
    )

pub distinct_removed : (xs : List (List ℕ)) (i : ℕ) → Distinct xs → Distinct (remove xs i)
distinct_removed xs i once = record {
  once = λ j k x e f.
      let s = get_removed xs i j x e in
      let t = get_removed xs i k x f in
      let at = once.once s.at t.at x s.there t.there in
      ⊎_elim
      (λ (p : (j < i) × (s.at ≡ j)). ⊎_elim
      (λ (q : (k < i) × (t.at ≡ k)). sym p.1 ∙ at ∙ q.1)
      (λ (q : (i ≤ k) × (t.at ≡ suc k)). let l = p.0 in let m = p.1 in let n = q.0 in let o = q.1 in absurd (omega arith))
      t.place)
      (λ (p : (i ≤ j) × (s.at ≡ suc j)). ⊎_elim
      (λ (q : (k < i) × (t.at ≡ k)). let l = p.0 in let m = p.1 in let n = q.0 in let o = q.1 in absurd (omega arith))
      (λ (q : (i ≤ k) × (t.at ≡ suc k)). let m = p.1 in let o = q.1 in omega arith)
      t.place)
      s.place;
}
