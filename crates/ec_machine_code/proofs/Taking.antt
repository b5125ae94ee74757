-- Registers that are taken one after another.
use Rattle.std.proofs.Common.{◌≡◌, ◌≢◌, ℕ, zero, suc, ◌+◌, ◌<◌, Bool, true, false, ◌⊎◌, inl, inr, ⊎_elim, List, length}
use Rattle.std.proofs.Common.{Some, replicate, slice_get, refl, sym, ap, subst, ◌∙◌, arith}
use Rattle.std.proofs.lemmas.Bool.{cases_eq}
use Rattle.std.specs.Prelude.{slice_set}
use Rattle.ec_base.proofs.Lists.{get_set_same, get_set_other, get_within, length_set}
use Rattle.ec_machine_code.proofs.Marking.{length_replicate, none_marked}
use Rattle.ec_machine_code.specs.Rows.{HaveRegisters, IsChosen, with_home}
use Rattle.ec_machine_code.specs.declared.homes.Home.{Home}
use Rattle.ec_machine_code.specs.declared.homes.Home.TheVariants.{Register, Slot}

module _ (row : List Bool) (homes : List Home) (registers : ℕ) where
  pub none_taken : HaveRegisters row homes registers 0 (replicate registers false)
  none_taken = record {
    all = length_replicate registers;
    only = λ k e. absurd (none_marked registers k e);
    each = λ c k h. absurd (omega (arith, h));
  }

  -- what is taken stays so
  stays : (taken : List Bool) (j k : ℕ) → slice_get taken k ≢ Some false → slice_get (slice_set taken j true) k ≢ Some false
  stays taken j k h e = ⊎_elim
      (λ (same : k ≡ j).
      let there : j < length taken =
      subst (λ n. j < n) (length_set taken j true)
      (subst (λ i. i < length (slice_set taken j true)) same (get_within (slice_set taken j true) k false e)) in
      let is : slice_get (slice_set taken j true) k ≡ Some true =
      subst (λ i. slice_get (slice_set taken j true) i ≡ Some true) (sym same) (get_set_same taken j true there) in
      let no : Some true ≡ Some false = sym is ∙ e in
      cc)
      (λ (other : k ≡ j → ⊥). h (sym (get_set_other taken j k true other) ∙ e)) (cases_eq k j)

  set_not : (taken : List Bool) (j : ℕ) → slice_get (slice_set taken j true) j ≢ Some false
  set_not taken j e =
      let there : j < length taken =
      subst (λ n. j < n) (length_set taken j true) (get_within (slice_set taken j true) j false e) in
      let no : Some true ≡ Some false = sym (get_set_same taken j true there) ∙ e in
      cc

  below_next : (c d : ℕ) → d < c + 1 → (d < c) ⊎ (d ≡ c)
  below_next c d h = ⊎_elim (λ (e : d ≡ c). inr e) (λ (n : d ≡ c → ⊥). inl (less c d h n)) (cases_eq d c)
    where
      less : (c d : ℕ) → d < c + 1 → (d ≡ c → ⊥) → d < c
      less zero zero h n = absurd (n refl)
      less zero (suc d) h n = absurd (omega (arith, h))
      less (suc c) zero h n = omega arith
      less (suc c) (suc d) h n = let l = less c d (omega (arith, h)) (λ e. n (ap suc e)) in omega (arith, l)

  module _ (c : ℕ) (home : Home) (taken : List Bool) (at : slice_get homes c ≡ Some home) (h : HaveRegisters row homes registers c taken)
    where
      -- a marked variable's register is taken
      pub one_taken : slice_get row c ≡ Some true → HaveRegisters row homes registers (c + 1) (with_home taken home)
      one_taken marked = by home at
        where
          by : (g : Home) → slice_get homes c ≡ Some g → HaveRegisters row homes registers (c + 1) (with_home taken g)
          by (Register j) e = record {
            all = length_set taken j true ∙ h.all;
            only = λ k is. ⊎_elim (λ (same : k ≡ j). (c, marked, subst (λ i. slice_get homes c ≡ Some (Register i)) (sym same) e))
                (λ (other : k ≡ j → ⊥). h.only k (sym (get_set_other taken j k true other) ∙ is)) (cases_eq k j);
            each = λ d k l m f. ⊎_elim (λ (b : d < c). stays taken j k (h.each d k b m f))
                (λ (same : d ≡ c).
                let both : Some (Register k) ≡ Some (Register j) =
                sym (subst (λ i. slice_get homes i ≡ Some (Register k)) same f) ∙ e in
                let one : k ≡ j = cc in
                subst (λ i. slice_get (slice_set taken j true) i ≢ Some false) (sym one) (set_not taken j))
                (below_next c d l);
          }
          by (Slot n) e = record {
            all = h.all;
            only = h.only;
            each = λ d k l m f. ⊎_elim (λ (b : d < c). h.each d k b m f)
                (λ (same : d ≡ c).
                let both : Some (Register k) ≡ Some (Slot n) = sym (subst (λ i. slice_get homes i ≡ Some (Register k)) same f) ∙ e in
                absurd (let no : Register k ≡ Slot n = cc in cc))
                (below_next c d l);
          }

      -- one that isn't marked takes none
      pub none_more : (slice_get row c ≡ Some true → ⊥) → HaveRegisters row homes registers (c + 1) taken
      none_more unmarked = record {
        all = h.all;
        only = h.only;
        each = λ d k l m f. ⊎_elim (λ (b : d < c). h.each d k b m f)
            (λ (same : d ≡ c). absurd (unmarked (subst (λ i. slice_get row i ≡ Some true) same m))) (below_next c d l);
      }

  -- the choice of a register that isn't taken, or of a slot where each is
  pub free_chosen : (taken : List Bool) (k : ℕ) → HaveRegisters row homes registers (length homes) taken →
      slice_get taken k ≡ Some false → IsChosen row homes registers (Register k)
  free_chosen taken k h e = (
    (let l = get_within taken k false e in omega (arith, l, h.all)),
    (λ c j marked at same.
        h.each c j (get_within homes c (Register j) at) marked at (subst (λ i. slice_get taken i ≡ Some false) (sym same) e)),
  )

  pub slot_chosen : (taken : List Bool) → HaveRegisters row homes registers (length homes) taken →
      ((k : ℕ) → k < length taken → slice_get taken k ≡ Some true) → IsChosen row homes registers (Slot (length homes))
  slot_chosen taken h each = (refl, (λ k l. h.only k (each k (omega (arith, l, h.all)))))
