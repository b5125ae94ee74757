-- Operations as they are written, one behind the other: each begins where its first word goes.
use Rattle.std.proofs.Common.{◌≡◌, ◌⊎◌, ℕ, zero, suc, ◌+◌, ◌<◌, ◌≤◌, Bool, true, List, [], ◌∷◌, ◌++◌, length, map, Option, Some, refl}
use Rattle.std.proofs.Common.{length-append, sym, ap, ◌∙◌, subst, inl, inr, ⊎_elim, arith}
use Rattle.std.specs.Prelude.{slice_get}
use Rattle.ec_machine_code.specs.Stops.{stops_if, words_before, words_if}
use Rattle.ec_machine_code.specs.declared.code.OperationCode.{OperationCode}
use Rattle.mips_delay.proofs.Assembly.{before_next}
use Rattle.mips_delay.proofs.Marks.{get_front, get_seam}
use Rattle.mips_delay.proofs.Order.{same_or_not}
use Rattle.mips_delay.proofs.Written.{before_front, before_seam, below, place_past, up_to}
use Rattle.mips_delay.specs.Places.{moved_to, place}

-- ---- where an operation begins

-- at its first word, or at the code's end, where its first word is behind that
abbrev pub BeginsAt : (end begin word : ℕ) → Type 0
BeginsAt end begin word = (begin ≡ word) ⊎ ((begin ≡ end) × (end ≤ word))

pub begins_next : (end begin word many next : ℕ) → BeginsAt end begin word → begin ≤ end →
    (begin + many ≤ end → next ≡ begin + many) → (end ≤ begin + many → next ≡ end) → BeginsAt end next (word + many)
begins_next end begin word many next begins within exact last = ⊎_elim
    (λ (e : begin ≡ word). there e)
    (λ (z : (begin ≡ end) × (end ≤ word)).
    let is = z.0 in
    let low = z.1 in
    inr (last (omega (arith, is)), omega (arith, low)))
    begins
  where
    there : begin ≡ word → BeginsAt end next (word + many)
    there e = ⊎_elim
        (λ (f : begin + many ≡ end). let g = exact (omega (arith, f)) in inl (omega (arith, e, g)))
        (λ (ne : (begin + many < end) ⊎ (end < begin + many)). ⊎_elim
        (λ (l : begin + many < end). let g = exact (omega (arith, l)) in inl (omega (arith, e, g)))
        (λ (l : end < begin + many). inr (last (omega (arith, l)), omega (arith, e, l)))
        ne)
        (same_or_not (begin + many) end)

-- so many words from where it begins have as many places as from its first word
pub same_span : (fills : ℕ → Bool) (end begin word many span : ℕ) → ((j : ℕ) → fills j ≡ true → suc (suc j) < end) →
    BeginsAt end begin word → place fills begin + span ≡ place fills (begin + many) → place fills word + span ≡ place fills (word + many)
same_span fills end begin word many span within begins is = ⊎_elim
    (λ (e : begin ≡ word). subst (λ b. place fills b + span ≡ place fills (b + many)) e is)
    (λ (z : (begin ≡ end) × (end ≤ word)). behind (subst (λ b. place fills b + span ≡ place fills (b + many)) z.0 is) z.1)
    begins
  where
    behind : place fills end + span ≡ place fills (end + many) → end ≤ word → place fills word + span ≡ place fills (word + many)
    behind last low =
        let from = place_past fills end (end + many) within (omega arith) in
        let at = place_past fills end word within low in
        let to = place_past fills end (word + many) within (omega (arith, low)) in
        omega (arith, last, from, at, to, low)

-- ---- one more operation

pub before_none : (os : List OperationCode) (op : ℕ) → op ≤ 0 → words_before os op ≡ 0
before_none [] op h = refl
before_none (o ∷ os) zero h = refl
before_none (o ∷ os) (suc op) h = absurd (omega (arith, h))

pub begins_none : (fills : ℕ → Bool) (old new : List OperationCode) → new ≡ [] → (op : ℕ) → op ≤ 0 →
    words_before new op ≡ place fills (words_before old op)
begins_none fills old new e op h = ap (λ os. words_before os op) e ∙ sym (ap (place fills) (before_none old op h))

pub before_more : (os : List OperationCode) (o : OperationCode) (i : ℕ) → slice_get os i ≡ Some o →
    words_before os (i + 1) ≡ words_before os i + o.words
before_more os o i at =
    let e : i + 1 ≡ suc i = omega arith in
    ap (words_before os) e ∙ sym (before_next os i) ∙ ap (λ (p : Option OperationCode). words_before os i + words_if p) at

module _ (fills : ℕ → Bool) (old new : List OperationCode) (i : ℕ) (x o : OperationCode) (at : slice_get old i ≡ Some x)
    (long : length new ≡ i) (now : List OperationCode) (is : now ≡ new ++ o ∷ []) where
  pub long_more : length now ≡ i + 1
  long_more = let l = ap length is in let m = length-append new (o ∷ []) in omega (arith, l, m, long)

  pub begins_more : ((op : ℕ) → op ≤ i → words_before new op ≡ place fills (words_before old op)) →
      place fills (words_before old i) + o.words ≡ place fills (words_before old i + x.words) →
      (op : ℕ) → op ≤ i + 1 → words_before now op ≡ place fills (words_before old op)
  begins_more begins spans op within =
      ap (λ (os : List OperationCode). words_before os op) is
      ∙ up_to (λ op. words_before (new ++ o ∷ []) op ≡ place fills (words_before old op)) i
      (λ op low. before_front new o op (omega (arith, long, low)) ∙ begins op low)
      (before_seam new o i long ∙ ap (λ (k : ℕ). k + o.words) (begins i (omega arith)) ∙ spans
      ∙ ap (place fills) (sym (before_more old x i at)))
      op within

  pub stops_more : ((op : ℕ) → op < i → stops_if (slice_get new op) ≡ map (moved_to fills) (stops_if (slice_get old op))) →
      o.stops ≡ map (moved_to fills) x.stops →
      (op : ℕ) → op < i + 1 → stops_if (slice_get now op) ≡ map (moved_to fills) (stops_if (slice_get old op))
  stops_more stops moved op within =
      ap (λ (os : List OperationCode). stops_if (slice_get os op)) is
      ∙ below (λ op. stops_if (slice_get (new ++ o ∷ []) op) ≡ map (moved_to fills) (stops_if (slice_get old op))) i
      (λ op low. ap stops_if (get_front new (o ∷ []) op (omega (arith, long, low))) ∙ stops op low)
      (ap (λ (k : ℕ). stops_if (slice_get (new ++ o ∷ []) k)) (sym long) ∙ ap stops_if (get_seam new o) ∙ moved
      ∙ ap (λ (p : Option OperationCode). map (moved_to fills) (stops_if p)) (sym at))
      op within
