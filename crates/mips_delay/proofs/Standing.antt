-- What stands in a code with its slots filled, word by word.
use Rattle.std.proofs.Common.{◌≡◌, ◌≢◌, ◌⊎◌, ℕ, suc, ◌+◌, ◌<◌, Bool, true, false, List, length, Some, refl, sym, ap, ◌∙◌}
use Rattle.std.proofs.Common.{subst, ⊎_elim, arith}
use Rattle.std.proofs.lemmas.Option.{same_Some}
use Rattle.std.specs.Prelude.{slice_index}
use Rattle.ec_target.proofs.Places.{place_of_word, word_at-pc_of}
use Rattle.ec_target.specs.Code.{pc_of, word_at}
use Rattle.mips_delay.proofs.Kept.{leads_at, next_place, not_true, turn_jumps}
use Rattle.mips_delay.proofs.Order.{GoApart, dropped_is, less_of_place, which}
use Rattle.mips_delay.proofs.Swap.{no_op, turns_too}
use Rattle.mips_delay.specs.Fillable.{GoesTo, StandsAt}
use Rattle.mips_delay.specs.Places.{FillsWords, Retargets, SwapsAt, drops, is_within, place}
use Rattle.mips_delay.specs.Swap.{is_same_turn, is_turn, turned_to}
use Rattle.mips_isa.specs.OneWord.{one_word}
use Rattle.mips_isa.specs.Words.{word_of}
use Rattle.mips_isa.specs.declared.instr.Instr.{Instr}
use Rattle.mips_machine.specs.Hazards.{is_jump}

pub clash : (b : Bool) → b ≡ true → b ≡ false → ⊥
clash true e f = cc
clash false e f = cc

-- where two instructions stand at one place, they are one
pub one_there : (code : List ℕ) (i : ℕ) (x y : Instr) → StandsAt code i x → StandsAt code i y → x ≡ y
one_there code i x y h k = one_word x y (same_Some (word_of x) (word_of y) (sym h ∙ k))

pub low_of : (code : List ℕ) (i w : ℕ) → word_at code (pc_of i) ≡ Some w → i < length code
low_of code i w h =
    let z = place_of_word code (pc_of i) w h in
    let low = z.1 in
    let same = z.2 in
    omega (arith, low, same)

-- a branch is none that goes into a slot, nor a no-op
pub turn_not_moves : (x b : Instr) → is_jump x ≡ false → is_turn b ≡ true → x ≡ b → ⊥
turn_not_moves x b plain turns e = clash (is_jump b) (turn_jumps b turns) (ap is_jump (sym e) ∙ plain)

pub turn_not_nothing : (b : Instr) → is_turn b ≡ true → word_of b ≡ 0 → ⊥
turn_not_nothing b turns e = turn_not_moves no_op b refl turns (one_word no_op b (sym e))

module _ (old new : List ℕ) (fills : ℕ → Bool) (F : FillsWords old new fills) where
  -- behind the first word of a filled place is none of another
  pub single : (j : ℕ) → fills j ≡ true → fills (suc j) ≡ false
  single j h = not_true (fills (suc j)) (λ k.
      let x = F.each j h in
      let y = F.each (suc j) k in
      turn_not_moves y.moves x.branch y.may.no_jump x.may.turn (one_there old (suc j) y.moves x.branch y.first x.second))

  -- so no two words in a row go
  pub apart : GoApart fills
  apart i h k = let z = dropped_is fills i h in
      absurd (clash (drops fills (suc i)) k (ap (λ j. drops fills (suc j)) z.1 ∙ single z.0 z.2))

  -- a word that goes is a no-op
  pub dropped_is_nothing : (i : ℕ) → drops fills i ≡ true → word_at old (pc_of i) ≡ Some 0
  dropped_is_nothing i h =
      let z = dropped_is fills i h in
      ap (λ k. word_at old (pc_of k)) z.1 ∙ (F.each z.0 z.2).third

  -- so what stands there else stays
  pub stays : (i : ℕ) (x : Instr) → StandsAt old i x → word_of x ≢ 0 → drops fills i ≡ false
  stays i x at some = not_true (drops fills i) (λ h. some (same_Some (word_of x) 0 (sym at ∙ dropped_is_nothing i h)))

  -- a word of the old code that comes to one of the new code is there
  pub low_from : (i w : ℕ) → word_at new (pc_of (place fills i)) ≡ Some w → i < length old
  low_from i w at =
      let low = low_of new (place fills i) w at in
      let long = F.long in
      less_of_place fills i (length old) (omega (arith, low, long))

  pub there : (i w : ℕ) → word_at new (pc_of (place fills i)) ≡ Some w → word_at old (pc_of i) ≡ Some (slice_index old i)
  there i w at = word_at-pc_of old i (low_from i w at)

  -- the second word of a filled place, in the new code
  pub slot_of : (j : ℕ) (h : fills j ≡ true) → word_at new (pc_of (suc (place fills j))) ≡ Some (word_of (F.swaps j h).moves)
  slot_of j h =
      let e : suc (place fills j) ≡ place fills j + 1 = omega arith in
      ap (λ k. word_at new (pc_of k)) e ∙ (F.swaps j h).swaps.slot

  -- the place behind the first word of a filled place
  pub behind_place : (j : ℕ) → drops fills j ≡ false → place fills (suc j) ≡ suc (place fills j)
  behind_place j h = next_place fills j h

  -- the first word of a filled place is no no-op, so it stays
  pub first_stays : (j : ℕ) → fills j ≡ true → drops fills j ≡ false
  first_stays j h = let x = F.each j h in stays j x.moves x.first x.no_nothing

  -- the instruction at a word outside of filled places, where it is no branch
  pub plain_kept : (i : ℕ) (x : Instr) → fills i ≡ false → is_within fills i ≡ false → StandsAt old i x → is_turn x ≡ false →
      StandsAt new (place fills i) x
  plain_kept i x f out at plain =
      let k = F.kept i (word_of x) f out at in
      k.1 ∙ ap Some (⊎_elim
      (λ (r : Retargets fills i (place fills i) (word_of x) k.0).
      absurd (clash (is_turn r.branch) r.turns (ap is_turn (sym (one_word x r.branch r.was)) ∙ plain)))
      (λ (q : (k.0 ≡ word_of x) × ((b : Instr) → word_of x ≡ word_of b → is_turn b ≡ false)). q.0)
      k.2)

  -- what a branch of the old code is in the new one, wherever it stands
  pub record Led (i : ℕ) (b : Instr) : Type 0 where
    pub to : ℕ
    pub led : Instr
    pub stands : StandsAt new to led
    pub same : is_same_turn b led
    pub leads : (k : ℕ) → turned_to b (pc_of i) ≡ pc_of k → turned_to led (pc_of to) ≡ pc_of (place fills k)

  pub turn_led : (i : ℕ) (b : Instr) → StandsAt old i b → is_turn b ≡ true → Led i b
  turn_led i b at turns = ⊎_elim
      (λ (h : fills i ≡ true).
      let x = F.each i h in absurd (turn_not_moves x.moves b x.may.no_jump turns (one_there old i x.moves b x.first at)))
      (λ (h : ((j : ℕ) × (i ≡ suc j) × (fills j ≡ true)) ⊎ ((fills i ≡ false) × (is_within fills i ≡ false))). ⊎_elim
      (λ (z : (j : ℕ) × (i ≡ suc j) × (fills j ≡ true)). second z.0 z.1 z.2)
      (λ (z : (fills i ≡ false) × (is_within fills i ≡ false)). outside (F.kept i (word_of b) z.0 z.1 at))
      h)
      (which fills i (stays i b at (λ e. turn_not_nothing b turns e)))
    where
      second : (j : ℕ) → i ≡ suc j → fills j ≡ true → Led i b
      second j e h =
          let z : SwapsAt old new fills j = F.swaps j h in
          let step : j + 1 ≡ i = omega (arith, e) in
          let same : z.branch ≡ b = one_there old i z.branch b (ap (λ k. word_at old (pc_of k)) (sym step) ∙ z.swaps.second) at in
          record {
            to = place fills j;
            led = z.led;
            stands = z.swaps.turn;
            same = subst (λ x. is_same_turn x z.led) same z.swaps.same;
            leads = λ k l. leads_at fills (suc j) (place fills j) z.branch z.led z.leads k
                (ap (λ x. turned_to x (pc_of (suc j))) same ∙ ap (λ x. turned_to b (pc_of x)) (sym e) ∙ l);
          }

      outside : (v : ℕ) × (word_at new (pc_of (place fills i)) ≡ Some v)
          × (Retargets fills i (place fills i) (word_of b) v ⊎ ((v ≡ word_of b) × ((x : Instr) → word_of b ≡ word_of x → is_turn x ≡ false))) →
          Led i b
      outside (v, at_new, kept) = ⊎_elim
          (λ (r : Retargets fills i (place fills i) (word_of b) v).
          let same : r.branch ≡ b = one_word r.branch b (sym r.was) in
          record {
            to = place fills i;
            led = r.led;
            stands = at_new ∙ ap Some r.is;
            same = subst (λ x. is_same_turn x r.led) same r.same;
            leads = λ k l. leads_at fills i (place fills i) r.branch r.led r.leads k (ap (λ x. turned_to x (pc_of i)) same ∙ l);
          })
          (λ (q : (v ≡ word_of b) × ((x : Instr) → word_of b ≡ word_of x → is_turn x ≡ false)). absurd (clash (is_turn b) turns (q.1 b refl)))
          kept

  -- so where it goes to a word, the new code goes to that word's place
  pub goes_too : (k : ℕ) → GoesTo old k → GoesTo new (place fills k)
  goes_too k g =
      let l = turn_led g.from g.by g.stands g.turns in
      record { from = l.to; by = l.led; stands = l.stands; turns = turns_too g.by l.led l.same; leads = l.leads k g.leads }
