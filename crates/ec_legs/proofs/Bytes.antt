-- Words of a memory whose bytes are the same; and addresses beside the slots of a frame and the fields of an own object.
use Rattle.std.proofs.Common.{◌≡◌, ◌≢◌, ℕ, zero, suc, ◌+◌, ◌<◌, ◌≤◌, ◌⊎◌, inl, inr, ⊎_elim, List, Option, Some, refl, sym, ap, ◌∙◌, arith}
use Rattle.std.specs.Option.{option_map}
use Rattle.std.proofs.lemmas.Bool.{cases_lt}
use Rattle.ec_base.specs.Bytes.{Bytes, before_rest, bytes_from}
use Rattle.ec_code.specs.Steps.{Machine, own_field}
use Rattle.ec_machine_code.specs.Machine.{MachineMeaning}
use Rattle.ec_machine_code.specs.Standing.{IsBeside}
use Rattle.ec_memory.specs.Words.{block_word_at, global_word_at, word_in}
use Rattle.ec_world.specs.declared.value.Value.{Value}

bytes_same : (m m' : Bytes) (at n : ℕ) → ((k : ℕ) → k < n → m' (at + k) ≡ m (at + k)) → bytes_from m' at n ≡ bytes_from m at n
unfolding bytes_from
bytes_same m m' at zero h = refl
bytes_same m m' at (suc n) h =
    let here : at ≡ at + 0 = omega arith in
    let one : m' at ≡ m at = ap m' here ∙ h 0 (omega arith) ∙ sym (ap m here) in
    let rest = bytes_same m m' (at + 1) n (λ k l.
    let on : at + 1 + k ≡ at + suc k = omega arith in
    ap m' on ∙ h (suc k) (omega arith) ∙ sym (ap m on)) in
    ap (λ o. before_rest o (bytes_from m' (at + 1) n)) one ∙ ap (before_rest (m at)) rest

pub word_same : (number : ℕ → List ℕ → ℕ) (m m' : Bytes) (at : ℕ) → ((k : ℕ) → k < 4 → m' (at + k) ≡ m (at + k)) →
    word_in number m' at ≡ word_in number m at
word_same number m m' at h = ap (option_map (number 4)) (bytes_same m m' at 4 h)

-- ---- bytes of two words

other_block : (b f i k j : ℕ) → b ≢ f → i < 128 → k < 4 → j < 128 →
    (block_word_at b i + k < block_word_at f j) ⊎ (block_word_at f j + 4 ≤ block_word_at b i + k)
other_block b f i k j ne hi hk hj =
    ⊎_elim (λ (l : b < f). inl (omega arith)) (λ (l : f ≤ b). inr (omega arith)) (cases_lt b f)

other_word : (f i k j : ℕ) → i < j → k < 4 →
    (block_word_at f i + k < block_word_at f j) ⊎ (block_word_at f j + 4 ≤ block_word_at f i + k)
other_word f i k j l hk = inl (omega arith)

module _ {S : Type 0} (M : MachineMeaning S) (local : ℕ → Option ℕ) (text : ℕ → Option (List ℕ)) (f own self : ℕ) (m : Machine)
    (few : (i : ℕ) (v : Value) → own_field m.common self i ≡ Some v → i < 128) where
  -- a byte of a word of another block
  pub beside_other : (b i k : ℕ) → b ≢ f → b ≢ own → i < 128 → k < 4 → IsBeside M local text f own self m (block_word_at b i + k)
  beside_other b i k nf ns hi hk = record {
    slot = λ n l. other_block b f i k (28 + n) nf hi hk (omega arith);
    field = λ j v e. other_block b own i k j ns hi hk (few j v e);
  }

  -- a byte of a word of the frame before the slots
  pub beside_heading : (i k : ℕ) → f ≢ own → i < 28 → k < 4 → IsBeside M local text f own self m (block_word_at f i + k)
  beside_heading i k ne hi hk = record {
    slot = λ n l. other_word f i k (28 + n) (omega arith) hk;
    field = λ j v e. other_block f own i k j ne (omega arith) hk (few j v e);
  }

  -- a byte of a constant
  pub beside_constant : (i k : ℕ) → f < 65536 → own < 65536 → IsBeside M local text f own self m (global_word_at i + k)
  beside_constant i k hf ho = record {
    slot = λ n l. inr (omega arith);
    field = λ j v e. (let l = few j v e in inr (omega arith));
  }
