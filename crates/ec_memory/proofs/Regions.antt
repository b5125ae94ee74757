-- A stretch of a memory.
use Rattle.std.proofs.Common.{◌≡◌, ℕ, zero, suc, ◌+◌, ◌-◌, ◌^◌, ◌<◌, ◌≤◌, List, length, Some, None, refl, sym, ap, ◌∙◌, ⊎_elim}
use Rattle.std.proofs.Common.{arith, get_or, take, drop, true, false, cond}
use Rattle.std.specs.Prelude.{slice_get, slice_range, nat_le}
use Rattle.std.proofs.lemmas.Option.{slice_get-get_or, slice_get_past}
use Rattle.std.proofs.lemmas.List.{drop_more}
use Rattle.std.proofs.lemmas.Bool.{cases_lt}
use Rattle.ec_memory.specs.Store.{Store, IsWhole, store_byte, globals_base, blocks_base}
use Rattle.ec_base.specs.Bytes.{Bytes, bytes_from, before_rest, with_front}

module _ (m : Bytes) (xs : List ℕ) (base limit : ℕ) (same : (k : ℕ) → k < limit → m (base + k) ≡ slice_get xs k)
    (within : length xs < limit) where
  inside : (n place : ℕ) → place + n ≤ length xs → bytes_from m (base + place) n ≡ Some (take n (drop place xs))
  unfolding bytes_from
  inside zero place h = refl
  inside (suc n) place h =
      let here = same place (omega arith) ∙ slice_get-get_or xs place 0 (omega arith) in
      let on : base + place + 1 ≡ base + (place + 1) = omega arith in
      let rest = ap (λ a. bytes_from m a n) on ∙ inside n (place + 1) (omega arith) in
      ap (λ o. before_rest o (bytes_from m (base + place + 1) n)) here
      ∙ ap (with_front (get_or xs place 0)) rest
      ∙ sym (ap (λ l. Some (take (suc n) l)) (drop_more xs place 0 (omega arith)))

  outside : (n place : ℕ) → 0 < n → length xs < place + n → place < limit → bytes_from m (base + place) n ≡ None
  unfolding bytes_from
  outside zero place pos h below = absurd (omega arith)
  outside (suc n) place pos h below =
      ⊎_elim
      (λ lt.
      let here = same place below ∙ slice_get-get_or xs place 0 lt in
      let on : base + place + 1 ≡ base + (place + 1) = omega arith in
      let rest = ap (λ a. bytes_from m a n) on ∙ outside n (place + 1) (omega arith) (omega arith) (omega arith) in
      ap (λ o. before_rest o (bytes_from m (base + place + 1) n)) here ∙ ap (with_front (get_or xs place 0)) rest)
      (λ past. ap (λ o. before_rest o (bytes_from m (base + place + 1) n)) (same place below ∙ slice_get_past xs place past))
      (cases_lt place (length xs))

-- ---- the two regions of a store

module _ (s : Store) (whole : IsWhole s) where
  pub globals_same : (k : ℕ) → k < 2 ^ 32 → store_byte s (globals_base + k) ≡ slice_get s.globals k
  globals_same k h =
      let there : nat_le globals_base (globals_base + k) ≡ true = grind arith in
      let back : globals_base + k - globals_base ≡ k = omega arith in
      ap (λ b. cond b (slice_get s.globals (globals_base + k - globals_base))
      (cond (nat_le blocks_base (globals_base + k)) (slice_get s.blocks (globals_base + k - blocks_base)) None)) there
      ∙ ap (slice_get s.globals) back

  pub blocks_same : (k : ℕ) → k < 0x10000000 → store_byte s (blocks_base + k) ≡ slice_get s.blocks k
  blocks_same k h =
      let not_there : nat_le globals_base (blocks_base + k) ≡ false = grind arith in
      let there : nat_le blocks_base (blocks_base + k) ≡ true = grind arith in
      let back : blocks_base + k - blocks_base ≡ k = omega arith in
      ap (λ b. cond b (slice_get s.globals (blocks_base + k - globals_base))
      (cond (nat_le blocks_base (blocks_base + k)) (slice_get s.blocks (blocks_base + k - blocks_base)) None)) not_there
      ∙ ap (λ b. cond b (slice_get s.blocks (blocks_base + k - blocks_base)) None) there
      ∙ ap (slice_get s.blocks) back

region_read : (m : Bytes) (xs : List ℕ) (base limit : ℕ) → ((k : ℕ) → k < limit → m (base + k) ≡ slice_get xs k) →
    length xs < limit → (at n : ℕ) → base ≤ at → at - base < limit → 0 < n →
    bytes_from m at n ≡ cond (nat_le (at - base + n) (length xs)) (Some (slice_range xs (at - base) (at - base + n))) None
region_read m xs base limit same within at n low high pos =
    let on : at ≡ base + (at - base) = omega arith in
    let place = at - base in
    ap (λ a. bytes_from m a n) on
    ∙ ⊎_elim
    (λ past. outside m xs base limit same within n place pos past high
    ∙ sym (ap (λ b. cond b (Some (slice_range xs place (place + n))) None)
    (let e : nat_le (place + n) (length xs) ≡ false = grind arith in e)))
    (λ le.
    let len : place + n - place ≡ n = omega arith in
    inside m xs base limit same within n place le
    ∙ ap (λ j. Some (take j (drop place xs))) (sym len)
    ∙ sym (ap (λ b. cond b (Some (slice_range xs place (place + n))) None)
    (let e : nat_le (place + n) (length xs) ≡ true = grind arith in e)))
    (cases_lt (length xs) (place + n))

pub globals_read : (s : Store) → IsWhole s → (at n : ℕ) → globals_base ≤ at → at < 2 ^ 32 → 0 < n →
    bytes_from (store_byte s) at n ≡ cond (nat_le (at - globals_base + n) (length s.globals))
    (Some (slice_range s.globals (at - globals_base) (at - globals_base + n))) None
globals_read s whole at n low high pos =
    let few = whole.few_globals in
    region_read (store_byte s) s.globals globals_base (2 ^ 32) (globals_same s whole) (omega arith) at n low (omega arith) pos

pub blocks_read : (s : Store) → IsWhole s → (at n : ℕ) → blocks_base ≤ at → at < globals_base → 0 < n →
    bytes_from (store_byte s) at n ≡ cond (nat_le (at - blocks_base + n) (length s.blocks))
    (Some (slice_range s.blocks (at - blocks_base) (at - blocks_base + n))) None
blocks_read s whole at n low high pos =
    let few = whole.few_blocks in
    let long = whole.blocks_long in
    region_read (store_byte s) s.blocks blocks_base 0x10000000 (blocks_same s whole) (omega arith) at n low (omega arith) pos

pub nowhere_read : (s : Store) (at n : ℕ) → at < blocks_base → 0 < n → bytes_from (store_byte s) at n ≡ None
unfolding bytes_from
nowhere_read s at zero low pos = absurd (omega arith)
nowhere_read s at (suc n) low pos =
    let one : nat_le globals_base at ≡ false = grind arith in
    let two : nat_le blocks_base at ≡ false = grind arith in
    ap (λ b. before_rest
    (cond b (slice_get s.globals (at - globals_base))
    (cond (nat_le blocks_base at) (slice_get s.blocks (at - blocks_base)) None)) (bytes_from (store_byte s) (at + 1) n)) one
    ∙ ap (λ b. before_rest (cond b (slice_get s.blocks (at - blocks_base)) None) (bytes_from (store_byte s) (at + 1) n)) two
