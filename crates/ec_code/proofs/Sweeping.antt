-- What a sweep over the marks of a variable leaves.
use Rattle.std.proofs.Common.{◌≡◌, ℕ, zero, suc, ◌<◌, ◌≤◌, Bool, true, false, not, ⊎_elim, List, [], ◌∷◌, length}
use Rattle.std.proofs.Common.{set, Some, slice_get, refl, sym, ap, subst, ◌∙◌, arith, length-set, get_or-set_other}
use Rattle.std.proofs.lemmas.Bool.{and_parts, cases_eq}
use Rattle.ec_base.proofs.Lists.{get_within}
use Rattle.ec_code.specs.declared.code.Op.{Op}
use Rattle.ec_code.specs.declared.code.Variable.{Variable}
use Rattle.ec_code.specs.Live.{IsLive}
use Rattle.ec_code.specs.Marks.{is_marked, lives, is_missing, unmarked, OnlyLive, NoneMissing, Swept, AreLive}
use Rattle.ec_code.proofs.Among.{false_of, live_by, all_marked}

count_set : (marks : List Bool) (q : ℕ) → q < length marks → is_marked marks q ≡ false →
    suc (unmarked (set marks q true)) ≡ unmarked marks
count_set [] q h e = absurd (omega arith)
count_set (true ∷ marks) zero h e = absurd (let f : true ≡ false = e in cc)
count_set (false ∷ marks) zero h e = refl
count_set (true ∷ marks) (suc q) h e = count_set marks q (omega arith) e
count_set (false ∷ marks) (suc q) h e = ap suc (count_set marks q (omega arith) e)

module _ (code : List Op) (x : Variable) (old : List Bool) where
  pub swept_none : (from : ℕ) → length code ≤ from → Swept code x old from false old
  swept_none from h = record {
    full = refl;
    only = λ o. o;
    least = omega arith;
    fewer = λ e. absurd (let f : false ≡ true = e in cc);
    same = λ e. refl;
    none = λ e q o from_q is. let w = get_within code q o is in absurd (omega arith);
  }

  pub swept_marked : (from q : ℕ) (o : Op) (found : Bool) (marks : List Bool) → Swept code x old from found marks → q < length marks →
      slice_get code q ≡ Some o → is_missing marks x q o ≡ true → Swept code x old q true (set marks q true)
  swept_marked from q o found marks s within is missing = record {
    full = length-set marks q true ∙ s.full;
    only = λ live r h. ⊎_elim (λ (e : r ≡ q). subst (λ z. IsLive code z x) (sym e) (here live))
        (λ ne. s.only live r (other r ne h)) (cases_eq r q);
    least = omega (arith, count, s.least);
    fewer = λ e. omega (arith, count, s.least);
    same = λ e. absurd (let f : true ≡ false = e in cc);
    none = λ e. absurd (let f : true ≡ false = e in cc);
  }
    where
      parts : (not (is_marked marks q) ≡ true) × (lives marks x q o ≡ true)
      parts = and_parts (not (is_marked marks q)) (lives marks x q o) missing

      count : suc (unmarked (set marks q true)) ≡ unmarked marks
      count = count_set marks q within (false_of (is_marked marks q) parts.0)

      here : OnlyLive code x old → IsLive code q x
      here live = live_by code x marks q o (s.only live) is parts.1

      other : (r : ℕ) → (r ≡ q → ⊥) → is_marked (set marks q true) r ≡ true → is_marked marks r ≡ true
      other r ne h = sym (get_or-set_other marks q r true false ne) ∙ h

  pub swept_passed : (from q : ℕ) (o : Op) (found : Bool) (marks : List Bool) → Swept code x old from found marks → from ≤ suc q →
      slice_get code q ≡ Some o → is_missing marks x q o ≡ false → Swept code x old q found marks
  swept_passed from q o found marks s near is right = record {
    full = s.full;
    only = s.only;
    least = s.least;
    fewer = s.fewer;
    same = s.same;
    none = λ e r p from_r there. ⊎_elim (λ (same : r ≡ q). here r p same there)
        (λ (ne : r ≡ q → ⊥). s.none e r p (omega arith) there) (cases_eq r q);
  }
    where
      here : (r : ℕ) (p : Op) → r ≡ q → slice_get code r ≡ Some p → is_missing marks x r p ≡ false
      here r p same there =
          let at : slice_get code q ≡ Some p = subst (λ z. slice_get code z ≡ Some p) same there in
          let one : o ≡ p = cc in
          subst (λ z. is_missing marks x z p ≡ false) (sym same) (subst (λ z. is_missing marks x q z ≡ false) one right)

pub are_live : (code : List Op) (x : Variable) (marks : List Bool) → OnlyLive code x marks → NoneMissing code x 0 marks →
    AreLive code x marks
are_live code x marks only none = record { only = only; all = λ q l. all_marked marks none l }
