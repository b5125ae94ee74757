-- What a write to a stretch of a memory leaves.
use mathlib.Core.Path.{fun_ext}
use Rattle.std.proofs.Common.{◌≡◌, ℕ, zero, suc, ◌+◌, ◌-◌, ◌<◌, ◌≤◌, List, [], ◌∷◌, ◌++◌, length, None, refl, sym, ap, ◌∙◌, ⊎_elim}
use Rattle.std.proofs.Common.{arith, take, drop, true, false, cond, length-take-le, length-append, length-drop}
use Rattle.std.specs.Prelude.{Bool, slice_get, nat_le, nat_lt, ◌&&◌}
use Rattle.std.specs.Bool.{OnTrue}
use Rattle.std.proofs.lemmas.Bool.{cases_lt}
use Rattle.std.proofs.lemmas.Bool.Decides.{nat_tests}
use Rattle.ec_memory.specs.Store.{Store, IsWhole, store_byte, globals_base, blocks_base, overwritten}
use Rattle.ec_base.specs.Bytes.{with_bytes}

get_front : (a b : List ℕ) (k : ℕ) → k < length a → slice_get (a ++ b) k ≡ slice_get a k
get_front [] b k h = absurd (omega arith)
get_front (x ∷ a) b zero h = refl
get_front (x ∷ a) b (suc k) h = get_front a b k (omega arith)

get_back : (a b : List ℕ) (k : ℕ) → length a ≤ k → slice_get (a ++ b) k ≡ slice_get b (k - length a)
get_back [] b k h = let e : k ≡ k - 0 = omega arith in ap (slice_get b) e
get_back (x ∷ a) b zero h = absurd (omega arith)
get_back (x ∷ a) b (suc k) h = let e : k - length a ≡ suc k - suc (length a) =
    omega arith in get_back a b k (omega arith) ∙ ap (slice_get b) e

get_take : (n : ℕ) (xs : List ℕ) (k : ℕ) → k < n → slice_get (take n xs) k ≡ slice_get xs k
get_take zero xs k h = absurd (omega arith)
get_take (suc n) [] k h = refl
get_take (suc n) (x ∷ xs) zero h = refl
get_take (suc n) (x ∷ xs) (suc k) h = get_take n xs k (omega arith)

get_drop : (n : ℕ) (xs : List ℕ) (k : ℕ) → slice_get (drop n xs) k ≡ slice_get xs (n + k)
get_drop zero xs k = let e : k ≡ zero + k = omega arith in ap (slice_get xs) e
get_drop (suc n) [] k = refl
get_drop (suc n) (x ∷ xs) k = let e : suc (n + k) ≡ suc n + k = omega arith in get_drop n xs k ∙ ap (slice_get (x ∷ xs)) e

pub slice_get-overwritten : (xs : List ℕ) (at : ℕ) (ys : List ℕ) (k : ℕ) → at + length ys ≤ length xs →
    slice_get (overwritten xs at ys) k ≡ cond (nat_le at k && nat_lt k (at + length ys)) (slice_get ys (k - at)) (slice_get xs k)
slice_get-overwritten xs at ys k h =
    let front : length (take at xs) ≡ at = length-take-le at xs (omega arith) in
    ⊎_elim
    (λ below.
    let test : (nat_le at k && nat_lt k (at + length ys)) ≡ false = grind (arith, nat_tests) in
    get_front (take at xs) (ys ++ drop (at + length ys) xs) k (omega arith) ∙ get_take at xs k below
    ∙ sym (ap (λ b. cond b (slice_get ys (k - at)) (slice_get xs k)) test))
    (λ from.
    let past = get_back (take at xs) (ys ++ drop (at + length ys) xs) k (omega arith)
    ∙ ap (λ n. slice_get (ys ++ drop (at + length ys) xs) (k - n)) front in
    ⊎_elim
    (λ within.
    let test : (nat_le at k && nat_lt k (at + length ys)) ≡ true = grind (arith, nat_tests) in
    past ∙ get_front ys (drop (at + length ys) xs) (k - at) (omega arith)
    ∙ sym (ap (λ b. cond b (slice_get ys (k - at)) (slice_get xs k)) test))
    (λ over.
    let test : (nat_le at k && nat_lt k (at + length ys)) ≡ false = grind (arith, nat_tests) in
    let e : at + length ys + (k - at - length ys) ≡ k = omega arith in
    past ∙ get_back ys (drop (at + length ys) xs) (k - at) (omega arith) ∙ get_drop (at + length ys) xs (k - at - length ys)
    ∙ ap (slice_get xs) e ∙ sym (ap (λ b. cond b (slice_get ys (k - at)) (slice_get xs k)) test))
    (cases_lt k (at + length ys)))
    (cases_lt k at)

-- the test of a place in a region is that of its address
same_test : (at base a n : ℕ) → base ≤ at → base ≤ a →
    (nat_le (at - base) (a - base) && nat_lt (a - base) (at - base + n)) ≡ (nat_le at a && nat_lt a (at + n))
same_test at base a n low here =
    ⊎_elim
    (λ below.
    let one : (nat_le (at - base) (a - base) && nat_lt (a - base) (at - base + n)) ≡ false = grind (arith, nat_tests) in
    let two : (nat_le at a && nat_lt a (at + n)) ≡ false = grind (arith, nat_tests) in
    one ∙ sym two)
    (λ from.
    ⊎_elim
    (λ within.
    let one : (nat_le (at - base) (a - base) && nat_lt (a - base) (at - base + n)) ≡ true = grind (arith, nat_tests) in
    let two : (nat_le at a && nat_lt a (at + n)) ≡ true = grind (arith, nat_tests) in
    one ∙ sym two)
    (λ over.
    let one : (nat_le (at - base) (a - base) && nat_lt (a - base) (at - base + n)) ≡ false = grind (arith, nat_tests) in
    let two : (nat_le at a && nat_lt a (at + n)) ≡ false = grind (arith, nat_tests) in
    one ∙ sym two)
    (cases_lt a (at + n)))
    (cases_lt a at)

-- a region with bytes written, at the address a
in_region : (xs ys : List ℕ) (at base a : ℕ) → base ≤ at → base ≤ a → at - base + length ys ≤ length xs →
    slice_get (overwritten xs (at - base) ys) (a - base) ≡ cond (nat_le at a && nat_lt a (at + length ys)) (slice_get ys (a - at))
    (slice_get xs (a - base))
in_region xs ys at base a low here fits =
    slice_get-overwritten xs (at - base) ys (a - base) fits
    ∙ ap (λ b. cond b (slice_get ys (a - base - (at - base))) (slice_get xs (a - base))) (same_test at base a (length ys) low here)
    ∙ ⊎_elim
    (λ below.
    let test : (nat_le at a && nat_lt a (at + length ys)) ≡ false = grind (arith, nat_tests) in
    ap (λ b. cond b (slice_get ys (a - base - (at - base))) (slice_get xs (a - base))) test
    ∙ sym (ap (λ b. cond b (slice_get ys (a - at)) (slice_get xs (a - base))) test))
    (λ from. let e : a - base - (at - base) ≡ a - at =
    omega arith in ap (λ i. cond (nat_le at a && nat_lt a (at + length ys)) (slice_get ys i) (slice_get xs (a - base))) e)
    (cases_lt a at)

pub globals_written : (s t : Store) (at : ℕ) (ys : List ℕ) → t.blocks ≡ s.blocks →
    t.globals ≡ overwritten s.globals (at - globals_base) ys → globals_base ≤ at →
    at - globals_base + length ys ≤ length s.globals → store_byte t ≡ with_bytes (store_byte s) at ys
globals_written s t at ys same new low fits =
    fun_ext (λ a. ⊎_elim
    (λ below.
    let there : nat_le globals_base a ≡ false = grind (arith, nat_tests) in
    let test : (nat_le at a && nat_lt a (at + length ys)) ≡ false = grind (arith, nat_tests) in
    ap (λ b. cond b (slice_get t.globals (a - globals_base))
    (cond (nat_le blocks_base a) (slice_get t.blocks (a - blocks_base)) None)) there
    ∙ ap (λ xs. cond (nat_le blocks_base a) (slice_get xs (a - blocks_base)) None) same
    ∙ sym (ap (λ b. cond b (slice_get ys (a - at)) (store_byte s a)) test
    ∙ ap (λ b. cond b (slice_get s.globals (a - globals_base))
    (cond (nat_le blocks_base a) (slice_get s.blocks (a - blocks_base)) None)) there))
    (λ here.
    let there : nat_le globals_base a ≡ true = grind (arith, nat_tests) in
    ap (λ b. cond b (slice_get t.globals (a - globals_base))
    (cond (nat_le blocks_base a) (slice_get t.blocks (a - blocks_base)) None)) there
    ∙ ap (λ xs. slice_get xs (a - globals_base)) new
    ∙ in_region s.globals ys at globals_base a low here fits
    ∙ sym (ap
    (λ b. cond (nat_le at a && nat_lt a (at + length ys)) (slice_get ys (a - at))
    (cond b (slice_get s.globals (a - globals_base))
    (cond (nat_le blocks_base a) (slice_get s.blocks (a - blocks_base)) None))) there))
    (cases_lt a globals_base))

pub blocks_written : (s t : Store) (at : ℕ) (ys : List ℕ) → IsWhole s → t.globals ≡ s.globals →
    t.blocks ≡ overwritten s.blocks (at - blocks_base) ys → blocks_base ≤ at → at - blocks_base + length ys ≤ length s.blocks →
    store_byte t ≡ with_bytes (store_byte s) at ys
blocks_written s t at ys whole same new low fits =
    let few = whole.few_blocks in
    let long = whole.blocks_long in
    fun_ext (λ a. ⊎_elim
    (λ below.
    let there : nat_le globals_base a ≡ false = grind (arith, nat_tests) in
    ⊎_elim
    (λ outside.
    let no : nat_le blocks_base a ≡ false = grind (arith, nat_tests) in
    let test : (nat_le at a && nat_lt a (at + length ys)) ≡ false = grind (arith, nat_tests) in
    ap (λ b. cond b (slice_get t.globals (a - globals_base))
    (cond (nat_le blocks_base a) (slice_get t.blocks (a - blocks_base)) None)) there
    ∙ ap (λ b. cond b (slice_get t.blocks (a - blocks_base)) None) no
    ∙ sym (ap (λ b. cond b (slice_get ys (a - at)) (store_byte s a)) test
    ∙ ap (λ b. cond b (slice_get s.globals (a - globals_base))
    (cond (nat_le blocks_base a) (slice_get s.blocks (a - blocks_base)) None)) there
    ∙ ap (λ b. cond b (slice_get s.blocks (a - blocks_base)) None) no))
    (λ here.
    let yes : nat_le blocks_base a ≡ true = grind (arith, nat_tests) in
    ap (λ b. cond b (slice_get t.globals (a - globals_base))
    (cond (nat_le blocks_base a) (slice_get t.blocks (a - blocks_base)) None)) there
    ∙ ap (λ b. cond b (slice_get t.blocks (a - blocks_base)) None) yes
    ∙ ap (λ xs. slice_get xs (a - blocks_base)) new
    ∙ in_region s.blocks ys at blocks_base a low here fits
    ∙ sym (ap
    (λ b. cond (nat_le at a && nat_lt a (at + length ys)) (slice_get ys (a - at))
    (cond b (slice_get s.globals (a - globals_base))
    (cond (nat_le blocks_base a) (slice_get s.blocks (a - blocks_base)) None))) there
    ∙ ap (λ b. cond (nat_le at a && nat_lt a (at + length ys)) (slice_get ys (a - at))
    (cond b (slice_get s.blocks (a - blocks_base)) None)) yes))
    (cases_lt a blocks_base))
    (λ here.
    let there : nat_le globals_base a ≡ true = grind (arith, nat_tests) in
    let test : (nat_le at a && nat_lt a (at + length ys)) ≡ false = grind (arith, nat_tests) in
    ap (λ b. cond b (slice_get t.globals (a - globals_base))
    (cond (nat_le blocks_base a) (slice_get t.blocks (a - blocks_base)) None)) there
    ∙ ap (λ xs. slice_get xs (a - globals_base)) same
    ∙ sym (ap (λ b. cond b (slice_get ys (a - at)) (store_byte s a)) test
    ∙ ap (λ b. cond b (slice_get s.globals (a - globals_base))
    (cond (nat_le blocks_base a) (slice_get s.blocks (a - blocks_base)) None)) there))
    (cases_lt a globals_base))

pub length-overwritten : (xs : List ℕ) (at : ℕ) (ys : List ℕ) → at + length ys ≤ length xs → length (overwritten xs at ys) ≡ length xs
length-overwritten xs at ys h = simp (length-append, length-drop) (omega (arith, length-take-le at xs (omega arith)))

pub on_true : (b : Bool) (P : Type 0) → (b ≡ true → P) → OnTrue b P
on_true true P f = f refl
on_true false P f = tt

pub from_true : (b : Bool) (P : Type 0) → b ≡ true → OnTrue b P → P
from_true true P e h = h
from_true false P e h = (cc)
