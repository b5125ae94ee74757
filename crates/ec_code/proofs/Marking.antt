-- The places at which a variable is live can be marked: by sweeps from all unmarked on, up to one that finds none missing.
use Rattle.std.proofs.Common.{◌≡◌, ℕ, zero, suc, ◌+◌, ◌<◌, Bool, true, false, List, length, replicate, set, Some, slice_get, refl}
use Rattle.std.proofs.Common.{◌∙◌, arith}
use Rattle.std.proofs.lemmas.List.{length-replicate}
use Rattle.ec_base.proofs.Lists.{get_there}
use Rattle.ec_code.specs.declared.code.Op.{Op}
use Rattle.ec_code.specs.declared.code.Variable.{Variable}
use Rattle.ec_code.proofs.Sweeping.{swept_none, swept_marked, swept_passed, are_live}
use Rattle.ec_code.specs.Marks.{is_marked, is_missing, unmarked, OnlyLive, Swept, AreLive}

none_marked : (n q : ℕ) → is_marked (replicate n false) q ≡ false
none_marked zero q = refl
none_marked (suc n) zero = refl
none_marked (suc n) (suc q) = none_marked n q

module _ (code : List Op) (x : Variable) where
  -- a sweep down to a place
  abbrev Sweep : List Bool → ℕ → Type 0
  Sweep old from = (found : Bool) × (new : List Bool) × Swept code x old from found new

  one_more : (old : List Bool) (from : ℕ) (o : Op) (found : Bool) (marks : List Bool) → Swept code x old (suc from) found marks →
      from < length marks → slice_get code from ≡ Some o → (b : Bool) → is_missing marks x from o ≡ b → Sweep old from
  one_more old from o found marks s within is true e =
      (true, set marks from true, swept_marked code x old (suc from) from o found marks s within is e)
  one_more old from o found marks s within is false e =
      (found, marks, swept_passed code x old (suc from) from o found marks s (omega arith) is e)

  sweep : (old : List Bool) → length old ≡ length code → (k from : ℕ) → from + k ≡ length code → Sweep old from
  sweep old l zero from e = (false, old, swept_none code x old from (omega arith))
  sweep old l (suc k) from e =
      let s = sweep old l k (suc from) (omega arith) in
      let o = get_there code from (omega arith) in
      one_more old from o.0 s.0 s.1 s.2 (omega (arith, s.2.full)) o.1 (is_missing s.1 x from o.0) refl

  abbrev Marks : Type 0
  Marks = (marks : List Bool) × AreLive code x marks

  -- behind a sweep that found one there is a further one, with fewer places unmarked
  further : (old : List Bool) → length old ≡ length code → OnlyLive code x old →
      ((new : List Bool) → unmarked new < unmarked old → length new ≡ length code → OnlyLive code x new → Marks) →
      (found : Bool) (new : List Bool) → Swept code x old 0 found new → Marks
  further old l only again true new s = again new (s.fewer refl) (s.full ∙ l) (s.only only)
  further old l only again false new s = (new, are_live code x new (s.only only) (s.none refl))

  sweeps : (n : ℕ) (old : List Bool) → unmarked old < n → length old ≡ length code → OnlyLive code x old → Marks
  sweeps zero old few l only = absurd (omega arith)
  sweeps (suc n) old few l only =
      let s = sweep old l (length code) 0 (omega arith) in
      further old l only (λ new less. sweeps n new (omega (arith, less))) s.0 s.1 s.2

  pub marks_of : Marks
  marks_of =
      let none = replicate (length code) false in
      sweeps (suc (unmarked none)) none (omega arith) (length-replicate (length code) false)
      (λ q e. absurd (let f : is_marked none q ≡ false = none_marked (length code) q in cc))
