-- Lists of blocks.
use Rattle.std.proofs.Common.{◌≡◌, ◌≢◌, ℕ, zero, suc, ◌+◌, ◌-◌, ◌*◌, ◌<◌, ◌≤◌, List, [], ◌∷◌, ◌++◌, length, refl, sym, ap, ◌∙◌}
use Rattle.std.proofs.Common.{subst, arith, set, append_assoc, length-set}
use Rattle.std.proofs.lemmas.List.{get_or-set_other, get_or-set_same}
use Rattle.std.specs.Prelude.{slice_index}
use Rattle.std.specs.List.{AllByRecursion}
use Rattle.ec_memory.specs.Store.{IsWhole, Takes, Gives, IsRising, chain, after, IsApart, AreApart}

pub length-chain : (links : List ℕ) (first n : ℕ) → length (chain links first n) ≡ n
unfolding chain
length-chain links first zero = refl
length-chain links first (suc n) = ap suc (length-chain links (slice_index links first) n)

pub chain-none : (links : List ℕ) (first : ℕ) → chain links first 0 ≡ []
unfolding chain
chain-none links first = refl

pub chain-add : (links : List ℕ) (first n m : ℕ) → chain links first (n + m) ≡ chain links first n ++ chain links (after links first n) m
unfolding chain after
chain-add links first zero m = let e : zero + m ≡ m = omega arith in ap (chain links first) e
chain-add links first (suc n) m =
    let e : suc n + m ≡ suc (n + m) = omega arith in
    ap (chain links first) e ∙ ap (λ l. first ∷ l) (chain-add links (slice_index links first) n m)

-- a link of a block that isn't in the list
pub chain-set_other : (links : List ℕ) (b x first n : ℕ) → IsApart b (chain links first n) →
    chain (set links b x) first n ≡ chain links first n
unfolding chain
chain-set_other links b x first zero apart = refl
chain-set_other links b x first (suc n) apart =
    let ne : first ≢ b = λ e. apart.0 (sym e) in
    let next : slice_index (set links b x) first ≡ slice_index links first = get_or-set_other links b first x 0 ne in
    ap (λ l. first ∷ l) (ap (λ f. chain (set links b x) f n) next ∙ chain-set_other links b x (slice_index links first) n apart.1)

pub all_front : (P : ℕ → Type 0) (xs ys : List ℕ) → AllByRecursion P (xs ++ ys) → AllByRecursion P xs
all_front P [] ys h = tt
all_front P (x ∷ xs) ys h = (h.0, all_front P xs ys h.1)

pub all_back : (P : ℕ → Type 0) (xs ys : List ℕ) → AllByRecursion P (xs ++ ys) → AllByRecursion P ys
all_back P [] ys h = h
all_back P (x ∷ xs) ys h = all_back P xs ys h.1

pub apart_back : (xs ys : List ℕ) → AreApart (xs ++ ys) → AreApart ys
apart_back [] ys h = h
apart_back (x ∷ xs) ys h = apart_back xs ys h.1

pub after-none : (links : List ℕ) (first : ℕ) → after links first 0 ≡ first
unfolding after
after-none links first = refl

-- one block on
pub after-more : (links : List ℕ) (first n : ℕ) → after links first (n + 1) ≡ slice_index links (after links first n)
unfolding after
after-more links first zero = refl
after-more links first (suc n) =
    let e : suc n + 1 ≡ suc (n + 1) = omega arith in
    ap (after links first) e ∙ after-more links (slice_index links first) n

-- a block on the way is in the list
pub after_in : (P : ℕ → Type 0) (links : List ℕ) (first n i : ℕ) → AllByRecursion P (chain links first n) → i < n → P (after links first i)
unfolding chain after
after_in P links first zero i all h = absurd (omega arith)
after_in P links first (suc n) zero all h = all.0
after_in P links first (suc n) (suc i) all h = after_in P links (slice_index links first) n i all.1 (omega arith)

pub chain-split : (links : List ℕ) (first n all : ℕ) → n ≤ all →
    chain links first all ≡ chain links first n ++ chain links (after links first n) (all - n)
chain-split links first n all h = let e : all ≡ n + (all - n) = omega arith in ap (chain links first) e ∙ chain-add links first n (all - n)

-- ---- n blocks taken from the front of the free ones

module _ (blocks globals links : List ℕ) (head free n next : ℕ) (within : n ≤ free) (is : next ≡ after links head n) where
  split : chain links head free ≡ chain links head n ++ chain links next (free - n)
  split = chain-split links head n free within ∙ ap (λ b. chain links head n ++ chain links b (free - n)) (sym is)

  pub taken_whole : IsWhole (record { blocks = blocks; globals = globals; links = links; free = chain links head free }) →
      IsWhole (record { blocks = blocks; globals = globals; links = links; free = chain links next (free - n) })
  taken_whole h = record {
    blocks_long = h.blocks_long;
    few_blocks = h.few_blocks;
    few_globals = h.few_globals;
    in_range = all_back (λ b. b < length links) (chain links head n) (chain links next (free - n))
        (subst (AllByRecursion (λ b. b < length links)) split h.in_range);
    apart = apart_back (chain links head n) (chain links next (free - n)) (subst AreApart split h.apart);
  }

  pub taken : Takes (record { blocks = blocks; globals = globals; links = links; free = chain links head free })
      (record { blocks = blocks; globals = globals; links = links; free = chain links next (free - n) }) head n
  taken = record { list = split; links = refl; blocks = refl; globals = refl }

-- ---- a list given back to the front of the free ones

apart_front : (xs ys : List ℕ) → AreApart (xs ++ ys) → AreApart xs
apart_front [] ys h = tt
apart_front (x ∷ xs) ys h = (all_front (λ y. x ≢ y) xs ys h.0, apart_front xs ys h.1)

-- what stands at a place behind a list is none of the list
none_before : (xs ys : List ℕ) (y : ℕ) → AreApart (xs ++ y ∷ ys) → IsApart y xs
none_before [] ys y h = tt
none_before (x ∷ xs) ys y h = ((λ e. (all_back (λ z. x ≢ z) xs (y ∷ ys) h.0).0 (sym e)), none_before xs ys y h.1)

after-set_other : (links : List ℕ) (b x first n : ℕ) → IsApart b (chain links first n) → after (set links b x) first n ≡ after links first n
unfolding chain after
after-set_other links b x first zero apart = refl
after-set_other links b x first (suc n) apart =
    let ne : first ≢ b = λ e. apart.0 (sym e) in
    let next : slice_index (set links b x) first ≡ slice_index links first = get_or-set_other links b first x 0 ne in
    ap (λ f. after (set links b x) f n) next ∙ after-set_other links b x (slice_index links first) n apart.1

pub chain-one : (links : List ℕ) (first : ℕ) → chain links first 1 ≡ first ∷ []
unfolding chain
chain-one links first = refl

module _ (links : List ℕ) (first n head free last : ℕ) (is : last ≡ after links first n) (within : last < length links)
    (apart : AreApart (chain links first (n + 1) ++ chain links head free)) where
  by_last : chain links first (n + 1) ≡ chain links first n ++ last ∷ []
  by_last = chain-add links first n 1 ∙ ap (λ l. chain links first n ++ l) (chain-one links (after links first n))
      ∙ ap (λ b. chain links first n ++ b ∷ []) (sym is)

  before : IsApart last (chain links first n)
  before = none_before (chain links first n) [] last
      (subst AreApart by_last (apart_front (chain links first (n + 1)) (chain links head free) apart))

  behind : IsApart last (chain links head free)
  behind =
      let flat = subst (λ l. AreApart (l ++ chain links head free)) by_last apart in
      let one = subst AreApart (append_assoc (chain links first n) (last ∷ []) (chain links head free)) flat in
      (apart_back (chain links first n) (last ∷ chain links head free) one).0

  pub given : chain (set links last head) first (n + 1 + free) ≡ chain links first (n + 1) ++ chain links head free
  given =
      let new = set links last head in
      let on : after new first (n + 1) ≡ head =
      after-more new first n ∙ ap (slice_index new) (after-set_other links last head first n before ∙ sym is)
      ∙ get_or-set_same links last head 0 within in
      let same : chain new first (n + 1) ≡ chain links first (n + 1) =
      chain-add new first n 1 ∙ ap (λ l. l ++ chain new (after new first n) 1) (chain-set_other links last head first n before)
      ∙ ap (λ l. chain links first n ++ l) (chain-one new (after new first n))
      ∙ ap (λ b. chain links first n ++ b ∷ []) (after-set_other links last head first n before ∙ sym is) ∙ sym by_last in
      chain-add new first (n + 1) free ∙ ap (λ l. l ++ chain new (after new first (n + 1)) free) same
      ∙ ap (λ b. chain links first (n + 1) ++ chain new b free) on
      ∙ ap (λ l. chain links first (n + 1) ++ l) (chain-set_other links last head head free behind)

pub all_both : (P : ℕ → Type 0) (xs ys : List ℕ) → AllByRecursion P xs → AllByRecursion P ys → AllByRecursion P (xs ++ ys)
all_both P [] ys h k = k
all_both P (x ∷ xs) ys h k = (h.0, all_both P xs ys h.1 k)

-- what isn't in a list isn't the block on the way
apart_on_way : (links : List ℕ) (b first n i : ℕ) → IsApart b (chain links first n) → i < n → b ≢ after links first i
apart_on_way links b first n i h lt = after_in (λ y. b ≢ y) links first n i h lt

module _ (blocks globals links : List ℕ) (head free first count last : ℕ)
    (whole : IsWhole (record { blocks = blocks; globals = globals; links = links; free = chain links head free }))
    (some : 0 < count) (is : last ≡ after links first (count - 1))
    (in_range : AllByRecursion (λ b. b < length links) (chain links first count))
    (apart : AreApart (chain links first count ++ chain links head free)) where
  one_less : count - 1 + 1 ≡ count
  one_less = omega arith

  pub last_within : last < length links
  last_within = subst (λ b. b < length links) (sym is)
      (after_in (λ b. b < length links) links first count (count - 1) in_range (omega arith))

  all_links : chain (set links last head) first (free + count) ≡ chain links first count ++ chain links head free
  all_links =
      let n : free + count ≡ count - 1 + 1 + free = omega arith in
      ap (chain (set links last head) first) n
      ∙ given links first (count - 1) head free last is last_within
      (subst (λ k. AreApart (chain links first k ++ chain links head free)) (sym one_less) apart)
      ∙ ap (λ k. chain links first k ++ chain links head free) one_less

  pub given_whole : IsWhole
      (record { blocks = blocks; globals = globals; links = set links last head; free = chain (set links last head) first (free + count) })
  given_whole =
      let len = length-set links last head in
      record {
        blocks_long = whole.blocks_long ∙ ap (λ n. 512 * n) (sym len);
        few_blocks = (let w = whole.few_blocks in omega (arith, len));
        few_globals = whole.few_globals;
        in_range = subst (λ n. AllByRecursion (λ b. b < n) (chain (set links last head) first (free + count))) (sym len)
            (subst (AllByRecursion (λ b. b < length links)) (sym all_links)
            (all_both (λ b. b < length links) (chain links first count) (chain links head free) in_range whole.in_range));
        apart = subst AreApart (sym all_links) apart;
      }

  pub gives : Gives (record { blocks = blocks; globals = globals; links = links; free = chain links head free })
      (record {
        blocks = blocks;
        globals = globals;
        links = set links last head;
        free =
            chain (set links last head) first (free + count);
      }) first count
  gives = record {
    free = all_links;
    sized = length-set links last head;
    links = λ b other. get_or-set_other links last b head 0
        (λ e. apart_on_way links b first count (count - 1) other (omega arith) (e ∙ is));
    blocks = refl;
    globals = refl;
  }

-- ---- the first list: each block leads to the next

module _ (links : List ℕ) (n : ℕ) (rising : IsRising links n) where
  pub rising_below : (k first : ℕ) → first + k ≤ n → AllByRecursion (λ b. b < n) (chain links first k)
  unfolding chain
  rising_below zero first h = tt
  rising_below (suc k) first h =
      let e = rising.1 first (omega arith) in
      (omega arith, subst (λ f. AllByRecursion (λ b. b < n) (chain links f k)) (sym e) (rising_below k (first + 1) (omega arith)))

  above : (b k first : ℕ) → b < first → first + k ≤ n → IsApart b (chain links first k)
  unfolding chain
  above b zero first lt h = tt
  above b (suc k) first lt h =
      let e = rising.1 first (omega arith) in (
        (λ q. (let f : ⊥ = omega (arith, q, lt) in f)),
        subst (λ f. IsApart b (chain links f k)) (sym e)
            (above b k (first + 1) (omega arith) (omega arith)),
      )

  pub rising_apart : (k first : ℕ) → first + k ≤ n → AreApart (chain links first k)
  unfolding chain
  rising_apart zero first h = tt
  rising_apart (suc k) first h =
      let e = rising.1 first (omega arith) in
      subst (λ f. IsApart first (chain links f k) × AreApart (chain links f k)) (sym e)
      (above first k (first + 1) (omega arith) (omega arith), rising_apart k (first + 1) (omega arith))

pub new_whole : (blocks globals links : List ℕ) (n m : ℕ) → IsRising links n → n ≤ 65536 → m ≤ 1048576 → length blocks ≡ 512 * n →
    length globals ≡ 4 * m → IsWhole (record { blocks = blocks; globals = globals; links = links; free = chain links 0 n })
new_whole blocks globals links n m rising few fewer b g = record {
  blocks_long = b ∙ ap (λ k. 512 * k) (sym rising.0);
  few_blocks = omega (arith, rising.0);
  few_globals = omega (arith, g);
  in_range = subst (λ k. AllByRecursion (λ b. b < k) (chain links 0 n)) (sym rising.0) (rising_below links n rising n 0 (omega arith));
  apart = rising_apart links n rising n 0 (omega arith);
}
