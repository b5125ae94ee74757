-- Words of a memory after a write, in a byte order of which only two laws count.
use Rattle.std.proofs.Common.{◌≡◌, ◌≢◌, ℕ, zero, suc, ◌+◌, ◌-◌, ◌%◌, ◌^◌, ◌<◌, ◌≤◌, ◌⊎◌, ◌++◌, ◌↔◌, List, [], length, Option, Some}
use Rattle.std.proofs.Common.{None, refl, sym, ap, ◌∙◌, subst, ⊎_elim, arith, cond, true, false, get_or, take, drop, inl, inr}
use Rattle.std.specs.Prelude.{slice_get, nat_le, nat_lt, ◌&&◌, IsSome}
use Rattle.std.specs.Option.{option_map}
use Rattle.std.proofs.lemmas.Bool.{cases_lt}
use Rattle.std.proofs.lemmas.Bool.Decides.{nat_tests}
use Rattle.std.proofs.lemmas.List.{append-nil, drop_more, take_all}
use Rattle.std.proofs.lemmas.Option.{slice_get-get_or}
use Rattle.ec_base.specs.Bytes.{Bytes, bytes_from, with_bytes, before_rest, with_front}
use Rattle.ec_memory.specs.Words.{word_in, HasWord}

-- ---- bytes

-- a byte that isn't written
pub byte_other : (m : Bytes) (at : ℕ) (bs : List ℕ) (a : ℕ) → (a < at) ⊎ (at + length bs ≤ a) → with_bytes m at bs a ≡ m a
byte_other m at bs a h =
    let test : (nat_le at a && nat_lt a (at + length bs)) ≡ false =
    ⊎_elim (λ p. grind (arith, nat_tests)) (λ p. grind (arith, nat_tests)) h in
    ap (λ b. cond b (slice_get bs (a - at)) (m a)) test

-- a byte that is written
pub byte_written : (m : Bytes) (at : ℕ) (bs : List ℕ) (k : ℕ) → k < length bs → with_bytes m at bs (at + k) ≡ Some (get_or bs k 0)
byte_written m at bs k h =
    let test : (nat_le at (at + k) && nat_lt (at + k) (at + length bs)) ≡ true = grind (arith, nat_tests) in
    let e : at + k - at ≡ k = omega arith in
    ap (λ b. cond b (slice_get bs (at + k - at)) (m (at + k))) test ∙ ap (slice_get bs) e ∙ slice_get-get_or bs k 0 h

-- bytes beside the written ones
pub bytes_other : (m : Bytes) (at : ℕ) (bs : List ℕ) (a n : ℕ) → (a + n ≤ at) ⊎ (at + length bs ≤ a) →
    bytes_from (with_bytes m at bs) a n ≡ bytes_from m a n
unfolding bytes_from
bytes_other m at bs a zero h = refl
bytes_other m at bs a (suc n) h =
    let one = byte_other m at bs a (⊎_elim (λ p. inl (omega arith)) (λ p. inr p) h) in
    let rest = bytes_other m at bs (a + 1) n (⊎_elim (λ p. inl (omega arith)) (λ p. inr (omega arith)) h) in
    ap (λ o. before_rest o (bytes_from (with_bytes m at bs) (a + 1) n)) one ∙ ap (before_rest (m a)) rest

bytes_within : (m : Bytes) (at : ℕ) (bs : List ℕ) (n k : ℕ) → k + n ≤ length bs →
    bytes_from (with_bytes m at bs) (at + k) n ≡ Some (take n (drop k bs))
unfolding bytes_from
bytes_within m at bs zero k h = refl
bytes_within m at bs (suc n) k h =
    let one = byte_written m at bs k (omega arith) in
    let on : at + k + 1 ≡ at + (k + 1) = omega arith in
    let rest = ap (λ a. bytes_from (with_bytes m at bs) a n) on ∙ bytes_within m at bs n (k + 1) (omega arith) in
    ap (λ o. before_rest o (bytes_from (with_bytes m at bs) (at + k + 1) n)) one ∙ ap (with_front (get_or bs k 0)) rest
    ∙ sym (ap (λ l. Some (take (suc n) l)) (drop_more bs k 0 (omega arith)))

-- the written bytes themselves
pub bytes_written : (m : Bytes) (at : ℕ) (bs : List ℕ) → bytes_from (with_bytes m at bs) at (length bs) ≡ Some bs
bytes_written m at bs =
    let here : at ≡ at + 0 = omega arith in
    ap (λ a. bytes_from (with_bytes m at bs) a (length bs)) here ∙ bytes_within m at bs (length bs) 0 (omega arith)
    ∙ ap Some (take_all (length bs) bs (omega arith))

-- ---- which bytes are there

both_there : (one : Option ℕ) (rest : Option (List ℕ)) → IsSome (before_rest one rest) → IsSome one × IsSome rest
both_there None rest h = absurd (cc)
both_there (Some b) None h = absurd (cc)
both_there (Some b) (Some bs) h = (refl, refl)

whole_there : (one : Option ℕ) (rest : Option (List ℕ)) → IsSome one → IsSome rest → IsSome (before_rest one rest)
whole_there None rest h k = h
whole_there (Some b) None h k = k
whole_there (Some b) (Some bs) h k = refl

-- each byte of a stretch that is there is there
pub each_there : (m : Bytes) (at n : ℕ) → IsSome (bytes_from m at n) → (k : ℕ) → k < n → IsSome (m (at + k))
unfolding bytes_from
each_there m at zero h k lt = absurd (omega arith)
each_there m at (suc n) h zero lt =
    let here : at + zero ≡ at = omega arith in
    subst (λ a. IsSome (m a)) (sym here) (both_there (m at) (bytes_from m (at + 1) n) h).0
each_there m at (suc n) h (suc k) lt =
    let on : at + suc k ≡ at + 1 + k = omega arith in
    subst (λ a. IsSome (m a)) (sym on) (each_there m (at + 1) n (both_there (m at) (bytes_from m (at + 1) n) h).1 k (omega arith))

-- and the other way
pub all_there : (m : Bytes) (at n : ℕ) → ((k : ℕ) → k < n → IsSome (m (at + k))) → IsSome (bytes_from m at n)
unfolding bytes_from
all_there m at zero h = refl
all_there m at (suc n) h =
    let here : at + zero ≡ at = omega arith in
    whole_there (m at) (bytes_from m (at + 1) n) (subst (λ a. IsSome (m a)) here (h 0 (omega arith)))
    (all_there m (at + 1) n
    (λ k lt. let on : at + suc k ≡ at + 1 + k = omega arith in subst (λ a. IsSome (m a)) on (h (suc k) (omega arith))))

-- ---- words

-- two aligned words at different places share no byte
pub words_apart : (a at : ℕ) → a % 4 ≡ 0 → at % 4 ≡ 0 → a ≢ at → (a + 4 ≤ at) ⊎ (at + 4 ≤ a)
words_apart a at e f ne =
    ⊎_elim (λ below. inl (omega arith))
    (λ from. ⊎_elim (λ same. absurd (ne (omega arith))) (λ above. inr (omega arith)) (cases_lt a (at + 1)))
    (cases_lt a at)

-- the laws of a byte order: a number is read back, and its bytes are as many as were asked for
module _ (number : ℕ → List ℕ → ℕ) (bytes : ℕ → ℕ → List ℕ)
    (reads_back : (n x : ℕ) (rest : List ℕ) → x < 256 ^ n → number n (bytes n x ++ rest) ≡ x)
    (length_bytes : (n x : ℕ) → length (bytes n x) ≡ n) where
  four : (w : ℕ) → w < 2 ^ 32 → number 4 (bytes 4 w) ≡ w
  four w h = ap (number 4) (sym (append-nil (bytes 4 w))) ∙ reads_back 4 w [] h

  -- the word just written
  pub word_written : (m : Bytes) (at w : ℕ) → w < 2 ^ 32 → word_in number (with_bytes m at (bytes 4 w)) at ≡ Some w
  word_written m at w h =
      let read : bytes_from (with_bytes m at (bytes 4 w)) at 4 ≡ Some (bytes 4 w) =
      ap (bytes_from (with_bytes m at (bytes 4 w)) at) (sym (length_bytes 4 w)) ∙ bytes_written m at (bytes 4 w) in
      ap (option_map (number 4)) read ∙ ap Some (four w h)

  -- a word that shares no byte with the written one
  pub word_beside : (m : Bytes) (at w a : ℕ) → (a + 4 ≤ at) ⊎ (at + 4 ≤ a) →
      word_in number (with_bytes m at (bytes 4 w)) a ≡ word_in number m a
  word_beside m at w a h =
      let long = length_bytes 4 w in
      ap (option_map (number 4)) (bytes_other m at (bytes 4 w) a 4 (⊎_elim (λ p. inl p) (λ p. inr (omega (arith, long, p))) h))

  -- any other aligned word
  pub word_other : (m : Bytes) (at w a : ℕ) → a % 4 ≡ 0 → at % 4 ≡ 0 → a ≢ at →
      word_in number (with_bytes m at (bytes 4 w)) a ≡ word_in number m a
  word_other m at w a e f ne = word_beside m at w a (words_apart a at e f ne)

  -- a byte outside the written word
  pub byte_beside : (m : Bytes) (at w a : ℕ) → (a < at) ⊎ (at + 4 ≤ a) → with_bytes m at (bytes 4 w) a ≡ m a
  byte_beside m at w a h =
      let long = length_bytes 4 w in
      byte_other m at (bytes 4 w) a (⊎_elim (λ p. inl p) (λ p. inr (omega (arith, long, p))) h)

some_word : (number : ℕ → List ℕ → ℕ) (o : Option (List ℕ)) → IsSome o → (w : ℕ) × (option_map (number 4) o ≡ Some w)
some_word number None h = absurd (cc)
some_word number (Some bs) h = (number 4 bs, refl)

-- a word that is there is some number
pub word_there : (number : ℕ → List ℕ → ℕ) (m : Bytes) (at : ℕ) → HasWord m at → (w : ℕ) × (word_in number m at ≡ Some w)
word_there number m at h = some_word number (bytes_from m at 4) h
