-- Places, words and operations as they are written, one behind the other.
use Rattle.std.proofs.Common.{◌≡◌, ◌⊎◌, ℕ, zero, suc, ◌+◌, ◌-◌, ◌<◌, ◌≤◌, Bool, true, false, cond, List, [], ◌∷◌, ◌++◌, length, Some}
use Rattle.std.proofs.Common.{append_assoc, length-append, drop, map, refl, sym, ap, ◌∙◌, subst, ⊎_elim, arith}
use Rattle.std.proofs.lemmas.List.{get_or_append_left}
use Rattle.std.proofs.Math.Seq.{get_or-append_seam}
use Rattle.std.specs.Prelude.{slice_get, slice_index}
use Rattle.ec_base.proofs.Lists.{drop_at}
use Rattle.ec_machine_code.specs.Stops.{words_before}
use Rattle.ec_machine_code.specs.declared.code.OperationCode.{OperationCode}
use Rattle.mips_delay.proofs.Kept.{not_true, next_place}
use Rattle.mips_delay.proofs.Marks.{get_front, get_seam}
use Rattle.mips_delay.proofs.Order.{place_less, same_or_not}
use Rattle.mips_delay.specs.Places.{drops, place}

-- up to here, and here: at each place up to the next
pub up_to : (P : ℕ → Type 0) (i : ℕ) → ((k : ℕ) → k ≤ i → P k) → P (i + 1) → (k : ℕ) → k ≤ i + 1 → P k
up_to P i h p k low = ⊎_elim
    (λ (e : k ≡ i + 1). subst P (sym e) p)
    (λ (ne : (k < i + 1) ⊎ (i + 1 < k)). ⊎_elim
    (λ (l : k < i + 1). h k (omega (arith, l)))
    (λ (l : i + 1 < k). absurd (omega (arith, l, low)))
    ne)
    (same_or_not k (i + 1))

pub below : (P : ℕ → Type 0) (i : ℕ) → ((k : ℕ) → k < i → P k) → P i → (k : ℕ) → k < i + 1 → P k
below P i h p k low = ⊎_elim
    (λ (e : k ≡ i). subst P (sym e) p)
    (λ (ne : (k < i) ⊎ (i < k)). ⊎_elim
    (λ (l : k < i). h k l)
    (λ (l : i < k). absurd (omega (arith, l, low)))
    ne)
    (same_or_not k i)

-- ---- places

pub place_dropped : (fills : ℕ → Bool) (i : ℕ) → drops fills i ≡ true → place fills (i + 1) ≡ place fills i
place_dropped fills i h =
    let e : i + 1 ≡ suc i = omega arith in
    ap (place fills) e ∙ ap (λ b. cond b (place fills i) (suc (place fills i))) h

pub place_kept : (fills : ℕ → Bool) (i : ℕ) → drops fills i ≡ false → place fills (i + 1) ≡ place fills i + 1
place_kept fills i h =
    let e : i + 1 ≡ suc i = omega arith in
    let f : suc (place fills i) ≡ place fills i + 1 = omega arith in
    ap (place fills) e ∙ next_place fills i h ∙ f

-- behind the last word none goes
pub place_behind : (fills : ℕ → Bool) (n d : ℕ) → ((i : ℕ) → n ≤ i → drops fills i ≡ false) → place fills (d + n) ≡ d + place fills n
place_behind fills n zero h =
    let e : 0 + n ≡ n = omega arith in
    let f : place fills n ≡ 0 + place fills n = omega arith in
    ap (place fills) e ∙ f
place_behind fills n (suc d) h =
    let e : suc d + n ≡ suc (d + n) = omega arith in
    let rest = place_behind fills n d h in
    ap (place fills) e ∙ next_place fills (d + n) (h (d + n) (omega arith))
    ∙ (let f : suc (place fills (d + n)) ≡ suc d + place fills n = omega (arith, rest) in f)

pub none_drops : (fills : ℕ → Bool) (n : ℕ) → ((j : ℕ) → fills j ≡ true → suc (suc j) < n) → (i : ℕ) → n ≤ i → drops fills i ≡ false
none_drops fills n h zero low = refl
none_drops fills n h (suc zero) low = refl
none_drops fills n h (suc (suc j)) low = not_true (fills j) (λ e. let less = h j e in absurd (omega (arith, less, low)))

pub place_past : (fills : ℕ → Bool) (n i : ℕ) → ((j : ℕ) → fills j ≡ true → suc (suc j) < n) → n ≤ i →
    place fills i ≡ place fills n + (i - n)
place_past fills n i h low =
    let e : (i - n) + n ≡ i = omega (arith, low) in
    let f = place_behind fills n (i - n) (none_drops fills n h) in
    ap (place fills) (sym e) ∙ (let g : place fills ((i - n) + n) ≡ place fills n + (i - n) = omega (arith, f) in g)

one_more : (b : Bool) (x : ℕ) → cond b x (suc x) ≤ suc x
one_more true x = omega arith
one_more false x = omega arith

near_by : (fills : ℕ → Bool) (i d : ℕ) → place fills (d + i) ≤ d + place fills i
near_by fills i zero =
    let e : 0 + i ≡ i = omega arith in
    let same = ap (place fills) e in
    let all : place fills (0 + i) ≤ 0 + place fills i = omega (arith, same) in
    all
near_by fills i (suc d) =
    let e : suc d + i ≡ suc (d + i) = omega arith in
    let same = ap (place fills) e in
    let more : place fills (suc (d + i)) ≤ suc (place fills (d + i)) = one_more (drops fills (d + i)) (place fills (d + i)) in
    let rest = near_by fills i d in
    let all : place fills (suc d + i) ≤ suc d + place fills i = omega (arith, same, more, rest) in
    all

-- words come to no more places than they are
pub place_near : (fills : ℕ → Bool) (i k : ℕ) → i ≤ k → i + place fills k ≤ k + place fills i
place_near fills i k low =
    let e : (k - i) + i ≡ k = omega (arith, low) in
    let same = ap (place fills) e in
    let near = near_by fills i (k - i) in
    omega (arith, same, near, low)

pub drops_small : (fills : ℕ → Bool) (i : ℕ) → i < 2 → drops fills i ≡ false
drops_small fills zero h = refl
drops_small fills (suc zero) h = refl
drops_small fills (suc (suc j)) h = absurd (omega (arith, h))

pub drops_from : (fills : ℕ → Bool) (i : ℕ) → 2 ≤ i → drops fills i ≡ fills (i - 2)
drops_from fills zero h = absurd (omega (arith, h))
drops_from fills (suc zero) h = absurd (omega (arith, h))
drops_from fills (suc (suc j)) h = let e : j ≡ suc (suc j) - 2 = omega arith in ap fills e

-- one more place
module _ (fills : ℕ → Bool) (i : ℕ) (places : List ℕ) (long : length places ≡ suc i)
    (each : (k : ℕ) → k ≤ i → slice_get places k ≡ Some (place fills k)) where
  pub places_more : (to : ℕ) → to ≡ place fills (i + 1) → (new : List ℕ) → new ≡ places ++ to ∷ [] →
      (length new ≡ suc (i + 1)) × (to ≡ place fills (i + 1)) × ((k : ℕ) → k ≤ i + 1 → slice_get new k ≡ Some (place fills k))
  places_more to is new e = (longer, is, up_to (λ k. slice_get new k ≡ Some (place fills k)) i before here)
    where
      longer : length new ≡ suc (i + 1)
      longer = let l = ap length e in let m = length-append places (to ∷ []) in omega (arith, l, m, long)

      before : (k : ℕ) → k ≤ i → slice_get new k ≡ Some (place fills k)
      before k low = ap (λ l. slice_get l k) e ∙ get_front places (to ∷ []) k (omega (arith, long, low)) ∙ each k low

      here : slice_get new (i + 1) ≡ Some (place fills (i + 1))
      here =
          let at : i + 1 ≡ length places = omega (arith, long) in
          ap (λ l. slice_get l (i + 1)) e ∙ ap (slice_get (places ++ to ∷ [])) at ∙ get_seam places to ∙ ap Some is

-- ---- what is made of a list, and of the rest

pub map_next : (f : ℕ → ℕ) (new all xs : List ℕ) (i x : ℕ) → slice_get xs i ≡ Some x → new ++ map f (drop i xs) ≡ all →
    (new ++ f x ∷ []) ++ map f (drop (i + 1) xs) ≡ all
map_next f new all xs i x at is =
    append_assoc new (f x ∷ []) (map f (drop (i + 1) xs)) ∙ ap (λ l. new ++ map f l) (sym (drop_at xs i x at)) ∙ is

-- ---- words

-- `P` says of each word which word is to stand where it went
module _ (P : ℕ → ℕ → Type 0) (fills : ℕ → Bool) (i : ℕ) (new : List ℕ) (long : length new ≡ place fills i)
    (each : (k : ℕ) → k < i → drops fills k ≡ false → P k (slice_index new (place fills k))) where
  words_same : drops fills i ≡ true → (k : ℕ) → k < i + 1 → drops fills k ≡ false →
      P k (slice_index new (place fills k))
  words_same h = below (λ k. drops fills k ≡ false → P k (slice_index new (place fills k))) i each
      (λ stays. absurd (let e = sym h ∙ stays in cc))

  words_more : (w : ℕ) → drops fills i ≡ false → P i w → (k : ℕ) → k < i + 1 → drops fills k ≡ false →
      P k (slice_index (new ++ w ∷ []) (place fills k))
  words_more w h is = below (λ k. drops fills k ≡ false → P k (slice_index (new ++ w ∷ []) (place fills k))) i
      (λ k low stays.
      let less = place_less fills k i stays low in
      subst (λ v. P k v) (sym (get_or_append_left new (w ∷ []) 0 (place fills k) (omega (arith, less, long))))
      (each k low stays))
      (λ stays. subst (λ v. P i v)
      (sym (ap (slice_index (new ++ w ∷ [])) (sym long) ∙ get_or-append_seam new w [] 0)) is)

  pub words_none : drops fills i ≡ true → (now : List ℕ) → now ≡ new →
      (length now ≡ place fills (i + 1))
      × ((k : ℕ) → k < i + 1 → drops fills k ≡ false → P k (slice_index now (place fills k)))
  words_none h now is = (
    ap length is ∙ long ∙ sym (place_dropped fills i h),
    subst (λ (xs : List ℕ). (k : ℕ) → k < i + 1 → drops fills k ≡ false → P k (slice_index xs (place fills k))) (sym is)
        (words_same h),
  )

  pub words_one : (w : ℕ) → (drops fills i ≡ false) × P i w → (now : List ℕ) → now ≡ new ++ w ∷ [] →
      (length now ≡ place fills (i + 1))
      × ((k : ℕ) → k < i + 1 → drops fills k ≡ false → P k (slice_index now (place fills k)))
  words_one w (h, stands) now is = (
    (let l = ap length is in let m = length-append new (w ∷ []) in let p = place_kept fills i h in omega (arith, l, m, p, long)),
    subst (λ (xs : List ℕ). (k : ℕ) → k < i + 1 → drops fills k ≡ false → P k (slice_index xs (place fills k))) (sym is)
        (words_more w h stands),
  )

-- ---- operations

pub before_front : (xs : List OperationCode) (o : OperationCode) (op : ℕ) → op ≤ length xs →
    words_before (xs ++ o ∷ []) op ≡ words_before xs op
before_front [] o zero h = refl
before_front [] o (suc op) h = absurd (omega (arith, h))
before_front (x ∷ xs) o zero h = refl
before_front (x ∷ xs) o (suc op) h = ap (λ n. x.words + n) (before_front xs o op (omega (arith, h)))

pub before_seam : (xs : List OperationCode) (o : OperationCode) (n : ℕ) → length xs ≡ n →
    words_before (xs ++ o ∷ []) (n + 1) ≡ words_before xs n + o.words
before_seam xs o n e =
    let f : n + 1 ≡ suc (length xs) = omega (arith, e) in
    ap (words_before (xs ++ o ∷ [])) f ∙ seam xs o ∙ ap (λ k. words_before xs k + o.words) e
  where
    seam : (xs : List OperationCode) (o : OperationCode) →
        words_before (xs ++ o ∷ []) (suc (length xs)) ≡ words_before xs (length xs) + o.words
    seam [] o = omega arith
    seam (x ∷ xs) o = let rest = seam xs o in
        let all : x.words + words_before (xs ++ o ∷ []) (suc (length xs)) ≡ x.words + words_before xs (length xs) + o.words =
        omega (arith, rest) in
        all
