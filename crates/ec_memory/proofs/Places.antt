-- The words of blocks and globals.
use Rattle.std.proofs.Common.{◌≡◌, ◌≢◌, ℕ, zero, suc, ◌+◌, ◌*◌, ◌%◌, ◌^◌, ◌<◌, ◌≤◌, List, [], ◌∷◌, length, Some, refl, sym, ap, ◌∙◌}
use Rattle.std.proofs.Common.{subst, arith}
use Rattle.std.specs.Prelude.{slice_get, IsSome, replicate}
use Rattle.std.specs.Option.{option_map}
use Rattle.std.proofs.lemmas.Option.{slice_get-get_or}
use Rattle.byteorder.specs.Endian.{little_number}
use Rattle.ec_base.specs.Bytes.{Bytes, bytes_from, before_rest, with_front}
use Rattle.ec_memory.specs.Store.{Store, IsWhole, IsNew, Takes, Gives, store_byte, blocks_base, globals_base}
use Rattle.ec_memory.specs.Words.{HasWord, word_in, block_word_at, global_word_at}
use Rattle.ec_memory.proofs.Regions.{globals_same, blocks_same}
use Rattle.ec_memory.proofs.Words.{all_there}

get_is : (xs : List ℕ) (i : ℕ) → i < length xs → IsSome (slice_get xs i)
get_is xs i h = subst (λ o. IsSome o) (sym (slice_get-get_or xs i 0 h)) refl

-- ---- which words are there

pub block_word_there : (s : Store) → IsWhole s → (b i : ℕ) → b < length s.links → i < 128 → HasWord (store_byte s) (block_word_at b i)
block_word_there s whole b i hb hi =
    let long = whole.blocks_long in
    let few = whole.few_blocks in
    all_there (store_byte s) (block_word_at b i) 4 (λ k lt.
    let e : block_word_at b i + k ≡ blocks_base + (512 * b + 4 * i + k) = omega arith in
    subst (λ o. IsSome o) (sym (ap (store_byte s) e ∙ blocks_same s whole (512 * b + 4 * i + k) (omega arith)))
    (get_is s.blocks (512 * b + 4 * i + k) (omega arith)))

pub global_word_there : (s : Store) → IsWhole s → (i : ℕ) → 4 * i + 4 ≤ length s.globals → HasWord (store_byte s) (global_word_at i)
global_word_there s whole i h =
    let few = whole.few_globals in
    all_there (store_byte s) (global_word_at i) 4 (λ k lt.
    let e : global_word_at i + k ≡ globals_base + (4 * i + k) = omega arith in
    subst (λ o. IsSome o) (sym (ap (store_byte s) e ∙ globals_same s whole (4 * i + k) (omega arith)))
    (get_is s.globals (4 * i + k) (omega arith)))

-- ---- addresses

pub block_word_even : (b i : ℕ) → block_word_at b i % 4 ≡ 0
block_word_even b i = omega arith

pub global_word_even : (i : ℕ) → global_word_at i % 4 ≡ 0
global_word_even i = omega arith

-- an address is a word of one block alone
pub same_block_word : (b c i j : ℕ) → i < 128 → j < 128 → block_word_at b i ≡ block_word_at c j → (b ≡ c) × (i ≡ j)
same_block_word b c i j hi hj e = (omega arith, omega arith)

pub block_global_apart : (b i j : ℕ) → b < 65536 → i < 128 → block_word_at b i ≢ global_word_at j
block_global_apart b i j hb hi e = let no : ⊥ = omega (arith, e) in no

pub same_global_word : (i j : ℕ) → global_word_at i ≡ global_word_at j → i ≡ j
same_global_word i j e = omega arith

-- ---- a new memory

zero_byte : (n k : ℕ) → k < n → slice_get {X = ℕ} (replicate n 0) k ≡ Some 0
zero_byte zero k h = absurd (omega arith)
zero_byte (suc n) zero h = refl
zero_byte (suc n) (suc k) h = zero_byte n k (omega arith)

zero_bytes : (m : Bytes) (at n : ℕ) → ((k : ℕ) → k < n → m (at + k) ≡ Some 0) → bytes_from m at n ≡ Some (replicate n 0)
unfolding bytes_from
zero_bytes m at zero h = refl
zero_bytes m at (suc n) h =
    let here : at ≡ at + zero = omega arith in
    let rest = zero_bytes m (at + 1) n (λ k lt. let on : at + 1 + k ≡ at + suc k = omega arith in ap m on ∙ h (suc k) (omega arith)) in
    ap (λ o. before_rest o (bytes_from m (at + 1) n)) (ap m here ∙ h 0 (omega arith)) ∙ ap (with_front 0) rest

module _ (number : ℕ → List ℕ → ℕ) (zeros : number 4 (0 ∷ 0 ∷ 0 ∷ 0 ∷ []) ≡ 0) (s : Store) (whole : IsWhole s) (blocks globals : ℕ)
    (new : IsNew s blocks globals) where
  pub new_global_word : (i : ℕ) → i < globals → i < 2 ^ 20 → word_in number (store_byte s) (global_word_at i) ≡ Some 0
  new_global_word i hi few =
      ap (option_map (number 4)) (zero_bytes (store_byte s) (global_word_at i) 4 (λ k lt.
      let e : global_word_at i + k ≡ globals_base + (4 * i + k) = omega arith in
      ap (store_byte s) e ∙ globals_same s whole (4 * i + k) (omega arith) ∙ ap (λ xs. slice_get xs (4 * i + k)) new.all_globals
      ∙ zero_byte (4 * globals) (4 * i + k) (omega arith)))
      ∙ ap Some zeros

-- four zero bytes are 0, the least byte first
pub little_zeros : little_number 4 (0 ∷ 0 ∷ 0 ∷ 0 ∷ []) ≡ 0
little_zeros = refl

-- ---- what takes and gives leave

same_regions : (s t : Store) → t.blocks ≡ s.blocks → t.globals ≡ s.globals → store_byte t ≡ store_byte s
same_regions s t b g =
    ap (λ xs. store_byte (record { blocks = xs; globals = t.globals; links = []; free = [] })) b
    ∙ ap (λ xs. store_byte (record { blocks = s.blocks; globals = xs; links = []; free = [] })) g

-- no byte changes where blocks are taken
pub taken_bytes : (s t : Store) (first n : ℕ) → Takes s t first n → store_byte t ≡ store_byte s
taken_bytes s t first n h = same_regions s t h.blocks h.globals

-- no byte changes where blocks are given
pub given_bytes : (s t : Store) (first n : ℕ) → Gives s t first n → store_byte t ≡ store_byte s
given_bytes s t first n h = same_regions s t h.blocks h.globals
