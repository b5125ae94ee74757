-- What is known of a word that was decoded, and of the word that is written for it.
use Rattle.std.proofs.Common.{◌≡◌, ◌↔◌, ℕ, zero, suc, ◌+◌, ◌-◌, ◌<◌, Bool, true, false, cond, List, Option, Some, None, refl, sym, ap, ◌∙◌}
use Rattle.std.proofs.Common.{subst, inl, inr, arith}
use Rattle.std.proofs.lemmas.Option.{same_Some}
use Rattle.std.specs.Prelude.{slice_index}
use Rattle.mips_delay.specs.Choice.{IsMoved, IsWordFor}
use Rattle.mips_delay.specs.Places.{LeadsAlong, drops, is_within, place}
use Rattle.mips_delay.specs.Swap.{is_same_turn, is_turn}
use Rattle.mips_isa.specs.Words.{word_of}
use Rattle.mips_isa.specs.declared.instr.Instr.{Instr}

-- ---- decoded

-- it is the instruction that has this word
abbrev pub Decodes : Option Instr → ℕ → Type 0
Decodes o w = (i : Instr) → (o ≡ Some i) ↔ (word_of i ≡ w)

pub has_word : (w : ℕ) (x : Instr) → Decodes (Some x) w → word_of x ≡ w
has_word w x d = (d x).0 refl

pub just_one : (w : ℕ) (x y : Instr) → Decodes (Some x) w → word_of y ≡ w → y ≡ x
just_one w x y d is = sym (same_Some x y ((d y).1 is))

pub has_none : (w : ℕ) (y : Instr) → Decodes None w → word_of y ≡ w → ⊥
has_none w y d is = let e = (d y).1 is in (cc)

-- ---- moved

module _ (fills : ℕ → Bool) (from to w : ℕ) where
  pub turn_moved : (b led : Instr) (v : ℕ) → Decodes (Some b) w → v ≡ word_of led → is_turn b ≡ true → is_same_turn b led →
      LeadsAlong fills from to b led → IsMoved fills from to w v
  turn_moved b led v d is turns same leads =
      inl (record { branch = b; led = led; was = sym (has_word w b d); is = is; turns = turns; same = same; leads = leads })

  pub other_moved : (x : Instr) → Decodes (Some x) w → is_turn x ≡ false → IsMoved fills from to w w
  other_moved x d plain = inr (refl, λ b e. ap is_turn (just_one w x b d (sym e)) ∙ plain)

  pub none_moved : Decodes None w → IsMoved fills from to w w
  none_moved d = inr (refl, λ b e. absurd (has_none w b d (sym e)))

-- ---- the word to be written

not_within : (fills : ℕ → Bool) (i : ℕ) → drops fills i ≡ false → (0 < i → fills (i - 1) ≡ false) → is_within fills i ≡ false
not_within fills zero stays h = refl
not_within fills (suc j) stays h =
    let e : suc j - 1 ≡ j = omega arith in
    ap (λ b. cond b true (drops fills (suc j))) (ap fills (sym e) ∙ h (omega arith)) ∙ stays

module _ (old : List ℕ) (fills : ℕ → Bool) (i : ℕ) (stays : drops fills i ≡ false) where
  pub word_of_branch : (v : ℕ) → fills i ≡ true → IsMoved fills (i + 1) (place fills i) (slice_index old (i + 1)) v →
      IsWordFor old fills i (Some v)
  word_of_branch v h is =
      let e : i + 1 ≡ suc i = omega arith in
      (stays, inl (h, subst (λ k. IsMoved fills k (place fills i) (slice_index old k) v) e is))

  pub word_of_slot : 0 < i → fills (i - 1) ≡ true → IsWordFor old fills i (Some (slice_index old (i - 1)))
  word_of_slot low h =
      let e : i ≡ suc (i - 1) = omega (arith, low) in
      (stays, inr (inl (i - 1, e, h, refl)))

  pub word_of_kept : (v : ℕ) → fills i ≡ false → (0 < i → fills (i - 1) ≡ false) → IsMoved fills i (place fills i) (slice_index old i) v →
      IsWordFor old fills i (Some v)
  word_of_kept v unfilled before is = (stays, inr (inr (unfilled, not_within fills i stays before, is)))
