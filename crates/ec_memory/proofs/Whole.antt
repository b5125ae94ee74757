-- What leaves a memory whole.
use Rattle.std.proofs.Common.{◌≡◌, ◌≢◌, ℕ, ◌*◌, ◌<◌, ◌≤◌, List, [], ◌∷◌, ◌++◌, length, refl, sym, ap, ◌∙◌, subst, arith, Bool, true, false}
use lib.Dec.{eqb}
use Rattle.std.specs.Prelude.{◌||◌}
use Rattle.std.proofs.lemmas.Bool.Decides.{nat_tests}
use Rattle.std.proofs.lemmas.Map.Steps.{length-le_from_distinct_below}
use Rattle.std.specs.List.{AllByRecursion, IsDistinct, list_any}
use Rattle.ec_memory.specs.Store.{Store, IsWhole, SameLists, Takes, Gives, chain, IsApart, AreApart}
use Rattle.ec_memory.proofs.Chains.{all_back, all_both, apart_back}

-- bytes alone have changed
pub whole_same : (s t : Store) → IsWhole s → SameLists s t → IsWhole t
whole_same s t w h = record {
  blocks_long = h.blocks ∙ w.blocks_long ∙ ap (λ (l : List ℕ). 512 * length l) (sym h.links);
  few_blocks = subst (λ (l : List ℕ). length l ≤ 65536) (sym h.links) w.few_blocks;
  few_globals = subst (λ n. n ≤ 4194304) (sym h.globals) w.few_globals;
  in_range = subst (λ (l : List ℕ). AllByRecursion (λ b. b < length l) t.free) (sym h.links)
      (subst (λ (f : List ℕ). AllByRecursion (λ b. b < length s.links) f) (sym h.free) w.in_range);
  apart = subst (λ (f : List ℕ). AreApart f) (sym h.free) w.apart;
}

pub whole_taken : (s t : Store) (first n : ℕ) → IsWhole s → Takes s t first n → IsWhole t
whole_taken s t first n w h = record {
  blocks_long = ap (λ (l : List ℕ). length l) h.blocks ∙ w.blocks_long ∙ ap (λ (l : List ℕ). 512 * length l) (sym h.links);
  few_blocks = subst (λ (l : List ℕ). length l ≤ 65536) (sym h.links) w.few_blocks;
  few_globals = subst (λ (l : List ℕ). length l ≤ 4194304) (sym h.globals) w.few_globals;
  in_range = subst (λ (l : List ℕ). AllByRecursion (λ b. b < length l) t.free) (sym h.links)
      (all_back (λ b. b < length s.links) (chain s.links first n) t.free
      (subst (λ (f : List ℕ). AllByRecursion (λ b. b < length s.links) f) h.list w.in_range));
  apart = apart_back (chain s.links first n) t.free (subst (λ (f : List ℕ). AreApart f) h.list w.apart);
}

pub whole_given : (s t : Store) (first n : ℕ) → IsWhole s → AllByRecursion (λ b. b < length s.links) (chain s.links first n) →
    AreApart (chain s.links first n ++ s.free) → Gives s t first n → IsWhole t
whole_given s t first n w within apart h = record {
  blocks_long = ap (λ (l : List ℕ). length l) h.blocks ∙ w.blocks_long ∙ ap (λ m. 512 * m) (sym h.sized);
  few_blocks = subst (λ m. m ≤ 65536) (sym h.sized) w.few_blocks;
  few_globals = subst (λ (l : List ℕ). length l ≤ 4194304) (sym h.globals) w.few_globals;
  in_range = subst (λ m. AllByRecursion (λ b. b < m) t.free) (sym h.sized)
      (subst (λ (f : List ℕ). AllByRecursion (λ b. b < length s.links) f) (sym h.free)
      (all_both (λ b. b < length s.links) (chain s.links first n) s.free within w.in_range));
  apart = subst (λ (f : List ℕ). AreApart f) (sym h.free) apart;
}

distinct_from : (x : ℕ) (xs : List ℕ) → IsApart x xs → AllByRecursion (λ y. eqb x y ≡ false) xs
distinct_from x [] h = tt
distinct_from x (y ∷ ys) h = (not_equal x y h.0, distinct_from x ys h.1)
  where
    not_equal : (m n : ℕ) → m ≢ n → eqb m n ≡ false
    not_equal m n ne = grind (arith, nat_tests)

distinct : (xs : List ℕ) → AreApart xs → IsDistinct eqb xs
unfolding IsDistinct
distinct [] h = tt
distinct (x ∷ xs) h = (distinct_from x xs h.0, distinct xs h.1)

below : (n : ℕ) (xs : List ℕ) → AllByRecursion (λ b. b < n) xs → (q : ℕ) → list_any (eqb q) xs ≡ true → q < n
below n [] h q e = cc
below n (x ∷ xs) h q e = by (eqb q x) refl e (below n xs h.1 q)
  where
    by : (b : Bool) → eqb q x ≡ b → (b || list_any (eqb q) xs) ≡ true → (list_any (eqb q) xs ≡ true → q < n) → q < n
    by true is f rest = let same : q ≡ x = grind (arith, nat_tests) in let l = h.0 in omega arith
    by false is f rest = rest f

-- numbers below n, each once, are at most n
pub few_apart : (n : ℕ) (xs : List ℕ) → AllByRecursion (λ b. b < n) xs → AreApart xs → length xs ≤ n
few_apart n xs h apart = length-le_from_distinct_below xs n (distinct xs apart) (below n xs h)
