-- Lists of answers, one for each word, as they are made.
use Rattle.std.proofs.Common.{◌≡◌, ◌≢◌, ◌⊎◌, ℕ, zero, suc, ◌+◌, ◌<◌, Bool, true, false, List, [], ◌∷◌, ◌++◌, length, None}
use Rattle.std.proofs.Common.{Some}
use Rattle.std.proofs.Common.{refl, sym, ap, ◌∙◌, inl, inr, ⊎_elim, arith}
use Rattle.std.proofs.lemmas.Option.{same_Some}
use Rattle.std.specs.Prelude.{replicate, slice_get, slice_index, slice_index_or, slice_set}
use Rattle.ec_base.proofs.Lists.{get_set_other, get_set_same}
use Rattle.ec_target.proofs.Places.{word_at-pc_of}
use Rattle.ec_target.specs.Code.{pc_of, word_at}
use Rattle.mips_delay.proofs.Order.{same_or_not}
use Rattle.mips_delay.proofs.Standing.{low_of}
use Rattle.mips_delay.specs.Choice.{GoesBefore, LeadsTo, is_set, set_at}
use Rattle.mips_delay.specs.Fillable.{GoesTo}
use Rattle.mips_delay.specs.Swap.{turned_to}
use Rattle.mips_isa.specs.Words.{word_of}

-- ---- lists

pub get_front : {A : Type 0} (xs ys : List A) (i : ℕ) → i < length xs → slice_get (xs ++ ys) i ≡ slice_get xs i
get_front [] ys i h = absurd (omega (arith, h))
get_front (x ∷ xs) ys zero h = refl
get_front (x ∷ xs) ys (suc i) h = get_front xs ys i (omega (arith, h))

pub get_seam : {A : Type 0} (xs : List A) (y : A) → slice_get (xs ++ y ∷ []) (length xs) ≡ Some y
get_seam [] y = refl
get_seam (x ∷ xs) y = get_seam xs y

pub get_past : {A : Type 0} (xs : List A) (y : A) (i : ℕ) → length xs < i → slice_get (xs ++ y ∷ []) i ≡ None
get_past [] y zero h = absurd (omega (arith, h))
get_past [] y (suc i) h = refl
get_past (x ∷ xs) y zero h = absurd (omega (arith, h))
get_past (x ∷ xs) y (suc i) h = get_past xs y i (omega (arith, h))

-- ---- answers

pub none_set : (n k : ℕ) → set_at (replicate n false) k ≡ false
none_set zero k = refl
none_set (suc n) zero = refl
none_set (suc n) (suc k) = none_set n k

pub not_set : (n k : ℕ) → set_at (replicate n false) k ≡ true → ⊥
not_set n k h = let e = sym (none_set n k) ∙ h in (cc)

-- the answer at a place of the list
pub set_index : (xs : List Bool) (b : Bool) (k : ℕ) → k < length xs → slice_index_or xs k b ≡ set_at xs k
set_index [] b k h = absurd (omega (arith, h))
set_index (x ∷ xs) b zero h = refl
set_index (x ∷ xs) b (suc k) h = set_index xs b k (omega (arith, h))

-- one more answer
pub set_more : (xs : List Bool) (b : Bool) (k : ℕ) → set_at (xs ++ b ∷ []) k ≡ true →
    (set_at xs k ≡ true) ⊎ ((k ≡ length xs) × (b ≡ true))
set_more [] b zero h = inr (refl, h)
set_more [] b (suc k) h = absurd (cc)
set_more (x ∷ xs) b zero h = inl h
set_more (x ∷ xs) b (suc k) h = ⊎_elim
    (λ (a : set_at xs k ≡ true). inl a)
    (λ (a : (k ≡ length xs) × (b ≡ true)). inr (ap suc a.0, a.1))
    (set_more xs b k h)

pub set_front : (xs : List Bool) (b : Bool) (k : ℕ) → k < length xs → set_at (xs ++ b ∷ []) k ≡ set_at xs k
set_front xs b k h = ap is_set (get_front xs (b ∷ []) k h)

pub set_seam : (xs : List Bool) (b : Bool) → set_at (xs ++ b ∷ []) (length xs) ≡ b
set_seam xs b = ap is_set (get_seam xs b)

-- one answer that becomes yes
pub set_same : (xs : List Bool) (i : ℕ) → i < length xs → set_at (slice_set xs i true) i ≡ true
set_same xs i h = ap is_set (get_set_same xs i true h)

pub set_is : (xs : List Bool) (i k : ℕ) → set_at (slice_set xs i true) k ≡ true → (set_at xs k ≡ true) ⊎ (k ≡ i)
set_is xs i k h = ⊎_elim
    (λ (e : k ≡ i). inr e)
    (λ (ne : (k < i) ⊎ (i < k)).
    let apart : k ≢ i = (λ e. ⊎_elim (λ (l : k < i). absurd (omega (arith, l, e))) (λ (l : i < k). absurd (omega (arith, l, e))) ne) in
    inl (sym (ap is_set (get_set_other xs i k true apart)) ∙ h))
    (same_or_not k i)

pub set_stays : (xs : List Bool) (i k : ℕ) → i < length xs → set_at xs k ≡ true → set_at (slice_set xs i true) k ≡ true
set_stays xs i k low h = ⊎_elim
    (λ (e : k ≡ i). ap (set_at (slice_set xs i true)) e ∙ set_same xs i low)
    (λ (ne : (k < i) ⊎ (i < k)).
    let apart : k ≢ i = (λ e. ⊎_elim (λ (l : k < i). absurd (omega (arith, l, e))) (λ (l : i < k). absurd (omega (arith, l, e))) ne) in
    ap is_set (get_set_other xs i k true apart) ∙ h)
    (same_or_not k i)

-- ---- where jumps go

module _ (code : List ℕ) where
  pub goes_more : (i k : ℕ) → GoesBefore code i k → GoesBefore code (i + 1) k
  goes_more i k g =
      let low = g.before in
      record { from = g.from; before = omega (arith, low); by = g.by; stands = g.stands; turns = g.turns; leads = g.leads }

  pub goes_at : (i k : ℕ) → i < length code → LeadsTo (slice_index code i) (pc_of i) k → GoesBefore code (i + 1) k
  goes_at i k low (b, is, turns, leads) = record {
    from = i;
    before = omega arith;
    by = b;
    stands = word_at-pc_of code i low ∙ ap Some (sym is);
    turns = turns;
    leads = leads;
  }

  pub goes_before : (i k : ℕ) → GoesBefore code (i + 1) k → GoesBefore code i k ⊎ LeadsTo (slice_index code i) (pc_of i) k
  goes_before i k g = ⊎_elim
      (λ (e : g.from ≡ i). inr (at e))
      (λ (ne : (g.from < i) ⊎ (i < g.from)). ⊎_elim
      (λ (l : g.from < i).
      inl (record { from = g.from; before = l; by = g.by; stands = g.stands; turns = g.turns; leads = g.leads }))
      (λ (l : i < g.from). absurd (let low = g.before in omega (arith, low, l)))
      ne)
      (same_or_not g.from i)
    where
      at : g.from ≡ i → LeadsTo (slice_index code i) (pc_of i) k
      at e =
          let stands = ap (λ j. word_at code (pc_of j)) (sym e) ∙ g.stands in
          let low = low_of code i (word_of g.by) stands in (
            g.by,
            sym (same_Some (slice_index code i) (word_of g.by) (sym (word_at-pc_of code i low) ∙ stands)),
            g.turns,
            ap (λ j. turned_to g.by (pc_of j)) (sym e) ∙ g.leads,
          )

  pub goes_none : (k : ℕ) → GoesBefore code 0 k → ⊥
  goes_none k g = let low = g.before in absurd (omega (arith, low))

  pub goes_all : (k : ℕ) → GoesBefore code (length code) k → GoesTo code k
  goes_all k g = record { from = g.from; by = g.by; stands = g.stands; turns = g.turns; leads = g.leads }

  pub all_goes : (k : ℕ) → GoesTo code k → GoesBefore code (length code) k
  all_goes k g = record {
    from = g.from;
    before = low_of code g.from (word_of g.by) g.stands;
    by = g.by;
    stands = g.stands;
    turns = g.turns;
    leads = g.leads;
  }
