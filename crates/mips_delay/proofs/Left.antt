-- Filling makes no other place fillable.
use Rattle.std.proofs.Common.{◌≡◌, ◌⊎◌, ℕ, zero, suc, Bool, true, false, List, Some, refl, sym, ap, ◌∙◌}
use Rattle.std.proofs.Common.{subst, cond, inl, inr, ⊎_elim, arith}
use Rattle.std.proofs.lemmas.Option.{same_Some}
use Rattle.std.specs.Prelude.{◌||◌, ◌&&◌, ◌==◌, not, slice_index}
use Rattle.ec_target.specs.Code.{pc_of, word_at}
use Rattle.mips_delay.proofs.Kept.{next_outside, next_place, not_true, outside_behind, turn_jumps, turn_slot}
use Rattle.mips_delay.proofs.Order.{dropped_is, goes_or_stays, origin, origin_stays, place_of_origin, which}
use Rattle.mips_delay.proofs.Swap.{no_op, turns_too}
use Rattle.mips_delay.proofs.Standing.{apart, clash, dropped_is_nothing, first_stays, goes_too, one_there, slot_of, there, turn_not_moves}
use Rattle.mips_delay.proofs.Standing.{turn_not_nothing}
use Rattle.mips_delay.specs.Fillable.{Fillable, StandsAt, has_slot, is_load}
use Rattle.mips_delay.specs.Places.{FillsWords, IsKept, NoneIsLeft, Retargets, drops, is_within, place}
use Rattle.mips_delay.specs.Swap.{is_read_of, is_same_turn, is_turn}
use Rattle.mips_isa.specs.OneWord.{one_word}
use Rattle.mips_isa.specs.Words.{word_of}
use Rattle.mips_isa.specs.declared.instr.Instr.{Instr}
use Rattle.mips_isa.specs.declared.instr.Instr.TheVariants.{BranchIf, BranchOnZero, J}
use Rattle.mips_machine.specs.Hazards.{is_jump, writes}

same_reads : (b c : Instr) (r : ℕ) → is_same_turn b c → is_read_of b r ≡ is_read_of c r
same_reads (J target) (J other) r h = refl
same_reads (BranchIf branch rs rt offset) (BranchIf row x y other) r (f, g, i) =
    ap (λ q. not (r == 0) && ((q.number == r) || (rt.number == r))) g ∙ ap (λ q. not (r == 0) && ((x.number == r) || (q.number == r))) i
same_reads (BranchOnZero branch rs offset) (BranchOnZero row x other) r (f, g) =
    ap (λ q. not (r == 0) && ((q.number == r) || (0 == r))) g
same_reads _ _ r h = absurd h

module _ (old new : List ℕ) (fills : ℕ → Bool) (F : FillsWords old new fills) where
  -- what a word outside of filled places was
  record Was (i : ℕ) (y : Instr) : Type 0 where
    x : Instr
    at : StandsAt old i x
    -- a branch with its target moved along, or the same
    same : (is_turn x ≡ true) × (is_turn y ≡ true) × is_same_turn x y ⊎ ((x ≡ y) × (is_turn y ≡ false))

  was_by : (i : ℕ) (y : Instr) (w : ℕ) → word_at old (pc_of i) ≡ Some w → StandsAt new (place fills i) y →
      (v : ℕ) × (word_at new (pc_of (place fills i)) ≡ Some v) × IsKept fills i w v → Was i y
  was_by i y w at is (v, at_new, kept) = ⊎_elim
      (λ (r : Retargets fills i (place fills i) w v).
      let led : r.led ≡ y = one_word r.led y (sym r.is ∙ same_v) in
      record {
        x = r.branch;
        at = at ∙ ap Some r.was;
        same = inl (
          r.turns,
          ap is_turn (sym led) ∙ turns_too r.branch r.led r.same,
          subst (λ z. is_same_turn r.branch z) led r.same,
        );
      })
      (λ (q : (v ≡ w) × ((b : Instr) → w ≡ word_of b → is_turn b ≡ false)).
      let w_is : w ≡ word_of y = sym q.0 ∙ same_v in
      record { x = y; at = at ∙ ap Some w_is; same = inr (refl, q.1 y w_is) })
      kept
    where
      same_v : v ≡ word_of y
      same_v = same_Some v (word_of y) (sym at_new ∙ is)

  was : (i : ℕ) (y : Instr) → fills i ≡ false → is_within fills i ≡ false → StandsAt new (place fills i) y → Was i y
  was i y f out is =
      let at = there old new fills F i (word_of y) is in was_by i y (slice_index old i) at is (F.kept i (slice_index old i) f out at)

  -- where it isn't a branch, it was the same
  was_plain : (i : ℕ) (y : Instr) → fills i ≡ false → is_within fills i ≡ false → StandsAt new (place fills i) y → is_turn y ≡ false →
      StandsAt old i y
  was_plain i y f out is plain =
      let z = was i y f out is in
      ⊎_elim
      (λ (r : (is_turn z.x ≡ true) × (is_turn y ≡ true) × is_same_turn z.x y). absurd (clash (is_turn y) r.1 plain))
      (λ (r : (z.x ≡ y) × (is_turn y ≡ false)). subst (λ x. StandsAt old i x) r.0 z.at)
      z.same

  plain_of_jump : (x : Instr) → is_jump x ≡ false → is_turn x ≡ false
  plain_of_jump x h = not_true (is_turn x) (λ e. clash (is_jump x) (turn_jumps x e) h)

  -- a branch of the new code with a no-op in its slot was outside of filled places
  module _ (j : ℕ) (N : Fillable new j) where
    abbrev b : ℕ
    b = origin fills (apart old new fills F) (suc j)

    b_place : place fills b ≡ suc j
    b_place = place_of_origin fills (apart old new fills F) (suc j)

    b_at : StandsAt new (place fills b) N.branch
    b_at = ap (λ k. word_at new (pc_of k)) b_place ∙ N.second

    b_outside : (fills b ≡ false) × (is_within fills b ≡ false)
    b_outside = ⊎_elim
        (λ (h : fills b ≡ true).
        let z = F.swaps b h in
        let slot = slot_of old new fills F b h ∙ refl in
        let nothing : word_of z.moves ≡ 0 = same_Some (word_of z.moves) 0
        (sym slot ∙ ap (λ k. word_at new (pc_of (suc k))) b_place ∙ N.third) in
        let x = F.each b h in
        absurd (x.no_nothing (same_Some (word_of x.moves) (word_of z.moves) (sym x.first ∙ z.swaps.first) ∙ nothing)))
        (λ (h : ((k : ℕ) × (b ≡ suc k) × (fills k ≡ true)) ⊎ ((fills b ≡ false) × (is_within fills b ≡ false))). ⊎_elim
        (λ (z : (k : ℕ) × (b ≡ suc k) × (fills k ≡ true)). absurd (in_slot z.0 z.1 z.2))
        (λ (z : (fills b ≡ false) × (is_within fills b ≡ false)). z)
        h)
        (which fills b (origin_stays fills (apart old new fills F) (suc j)))
      where
        in_slot : (k : ℕ) → b ≡ suc k → fills k ≡ true → ⊥
        in_slot k e h =
            let z = F.swaps k h in
            let p = ap (place fills) e ∙ next_place fills k (first_stays old new fills F k h) in
            turn_not_moves z.moves N.branch z.swaps.may.no_jump N.may.turn
            (one_there new (suc (place fills k)) z.moves N.branch (slot_of old new fills F k h)
            (ap (λ q. word_at new (pc_of q)) (sym p) ∙ b_at))

    abbrev B : Was b N.branch
    B = was b N.branch b_outside.0 b_outside.1 b_at

    -- the branch that it was
    b_turns : (is_turn B.x ≡ true) × is_same_turn B.x N.branch
    b_turns = ⊎_elim
        (λ (r : (is_turn B.x ≡ true) × (is_turn N.branch ≡ true) × is_same_turn B.x N.branch). (r.0, r.2))
        (λ (r : (B.x ≡ N.branch) × (is_turn N.branch ≡ false)). absurd (clash (is_turn N.branch) N.may.turn r.1))
        B.same

    -- its no-op
    slot_place : place fills (suc b) ≡ suc (suc j)
    slot_place = next_place fills b (origin_stays fills (apart old new fills F) (suc j)) ∙ ap suc b_place

    slot_unfilled : fills (suc b) ≡ false
    slot_unfilled = not_true (fills (suc b)) (λ h.
        clash (has_slot B.x) (turn_slot B.x b_turns.0) ((F.each (suc b) h).free b B.x refl B.at).0)

    slot_was : StandsAt old (suc b) no_op
    slot_was =
        was_plain (suc b) no_op slot_unfilled (next_outside fills b b_outside.1 b_outside.0)
        (ap (λ k. word_at new (pc_of k)) slot_place ∙ N.third) refl

    -- ---- the word before it

    module _ (c : ℕ) (b_is : b ≡ suc c) where
      c_stays : drops fills c ≡ false
      c_stays = ⊎_elim
          (λ (h : drops fills c ≡ true). let z = dropped_is fills c h in absurd (in_slot z.0 z.1 z.2))
          (λ (h : drops fills c ≡ false). h)
          (goes_or_stays fills c)
        where
          in_slot : (k : ℕ) → c ≡ suc (suc k) → fills k ≡ true → ⊥
          in_slot k e h =
              let z = F.swaps k h in
              let one = next_place fills k (first_stays old new fills F k h) in
              let two = next_place fills (suc k) (second_stays k h) in
              let three = drop_place k h in
              let all = ap (place fills) (b_is ∙ ap suc e) in
              let from : suc (place fills k) ≡ j = omega (arith, one, two, three, all, b_place) in
              clash (has_slot z.led) (turn_slot z.led (turns_too z.branch z.led z.swaps.same)) ((N.free (place fills k) z.led from z.swaps.turn).0)
            where
              second_stays : (k : ℕ) → fills k ≡ true → drops fills (suc k) ≡ false
              second_stays k h =
                  let x = F.each k h in
                  not_true (drops fills (suc k)) (λ d.
                  turn_not_nothing x.branch x.may.turn
                  (same_Some (word_of x.branch) 0 (sym x.second ∙ dropped_is_nothing old new fills F (suc k) d)))

              drop_place : (k : ℕ) → fills k ≡ true → place fills (suc (suc (suc k))) ≡ place fills (suc (suc k))
              drop_place k h = ap (λ q. cond q (place fills (suc (suc k))) (suc (place fills (suc (suc k))))) h

      c_place : place fills c ≡ j
      c_place =
          let next = next_place fills c c_stays in
          let same = ap (place fills) b_is in
          omega (arith, next, same, b_place)

      c_unfilled : fills c ≡ false
      c_unfilled = outside_behind fills c (subst (λ k. is_within fills k ≡ false) b_is b_outside.1)

      c_outside : is_within fills c ≡ false
      c_outside = ⊎_elim
          (λ (h : fills c ≡ true). absurd (clash (fills c) h c_unfilled))
          (λ (h : ((k : ℕ) × (c ≡ suc k) × (fills k ≡ true)) ⊎ ((fills c ≡ false) × (is_within fills c ≡ false))). ⊎_elim
          (λ (z : (k : ℕ) × (c ≡ suc k) × (fills k ≡ true)).
          absurd (clash (drops fills b) (ap (drops fills) (b_is ∙ ap suc z.1) ∙ z.2) (origin_stays fills (apart old new fills F) (suc j))))
          (λ (z : (fills c ≡ false) × (is_within fills c ≡ false)). z.1)
          h)
          (which fills c c_stays)

      c_was : StandsAt old c N.moves
      c_was =
          was_plain c N.moves c_unfilled c_outside (ap (λ k. word_at new (pc_of k)) c_place ∙ N.first)
          (plain_of_jump N.moves N.may.no_jump)

      -- and the one before that
      free : (i : ℕ) (x : Instr) → suc i ≡ c → StandsAt old i x → (has_slot x ≡ false) × (is_load x ≡ false)
      free i x e at = ⊎_elim
          (λ (h : drops fills i ≡ true).
          let nothing = one_there old i no_op x (dropped_is_nothing old new fills F i h) at in
          (ap has_slot (sym nothing), ap is_load (sym nothing)))
          (λ (h : drops fills i ≡ false).
          let next = next_place fills i h in
          let same = ap (place fills) e in
          let to : suc (place fills i) ≡ j = omega (arith, next, same, c_place) in
          before i x e at to h)
          (goes_or_stays fills i)
        where
          kept : (i : ℕ) (x : Instr) → StandsAt old i x → suc (place fills i) ≡ j →
              (v : ℕ) × (word_at new (pc_of (place fills i)) ≡ Some v) × IsKept fills i (word_of x) v →
              (has_slot x ≡ false) × (is_load x ≡ false)
          kept i x at to (v, at_new, is) = ⊎_elim
              (λ (r : Retargets fills i (place fills i) (word_of x) v).
              absurd (clash (has_slot r.led) (turn_slot r.led (turns_too r.branch r.led r.same))
              ((N.free (place fills i) r.led to (at_new ∙ ap Some r.is)).0)))
              (λ (q : (v ≡ word_of x) × ((y : Instr) → word_of x ≡ word_of y → is_turn y ≡ false)).
              N.free (place fills i) x to (at_new ∙ ap Some q.0))
              is

          before : (i : ℕ) (x : Instr) → suc i ≡ c → StandsAt old i x → suc (place fills i) ≡ j → drops fills i ≡ false →
              (has_slot x ≡ false) × (is_load x ≡ false)
          before i x e at to h = ⊎_elim
              (λ (f : fills i ≡ true). absurd (clash (is_within fills c) (subst (λ k. is_within fills k ≡ true) e (within_first i f)) c_outside))
              (λ (f : ((k : ℕ) × (i ≡ suc k) × (fills k ≡ true)) ⊎ ((fills i ≡ false) × (is_within fills i ≡ false))). ⊎_elim
              (λ (z : (k : ℕ) × (i ≡ suc k) × (fills k ≡ true)).
              absurd (clash (drops fills c) (ap (drops fills) (sym e ∙ ap suc z.1) ∙ z.2) c_stays))
              (λ (z : (fills i ≡ false) × (is_within fills i ≡ false)). kept i x at to (F.kept i (word_of x) z.0 z.1 at))
              f)
              (which fills i h)
            where
              within_first : (i : ℕ) → fills i ≡ true → is_within fills (suc i) ≡ true
              within_first i f = ap (λ q. cond q true (drops fills (suc i))) f

      -- it was a place that can be filled
      fillable : Fillable old c
      fillable = record {
        moves = N.moves;
        branch = B.x;
        first = c_was;
        second = ap (λ k. word_at old (pc_of k)) (sym b_is) ∙ B.at;
        third = ap (λ k. word_at old (pc_of (suc k))) (sym b_is) ∙ slot_was;
        may = record {
          no_jump = N.may.no_jump;
          no_load = N.may.no_load;
          no_set = N.may.no_set;
          no_read = N.may.no_read;
          turn = b_turns.0;
          other = same_reads B.x N.branch (writes N.moves) b_turns.1 ∙ N.may.other;
        };
        no_load = N.no_load;
        no_nothing = N.no_nothing;
        free = free;
        unled = λ k g.
            let z = N.unled (place fills k) (goes_too old new fills F k g) in (
              λ e. z.0 (ap (place fills) e ∙ c_place),
              λ e. z.1 (ap (place fills) (e ∙ sym b_is) ∙ b_place),
              λ e. z.2 (ap (place fills) (e ∙ ap suc (sym b_is)) ∙ slot_place),
            );
      }

      none : ⊥
      none = clash (fills c) (F.all c fillable) c_unfilled

    none_here : (k : ℕ) → b ≡ k → ⊥
    none_here zero e = absurd (let same = ap (place fills) e in omega (arith, same, b_place))
    none_here (suc c) e = none c e

pub none_is_left : NoneIsLeft
none_is_left old new fills F j N = none_here old new fills F j N (origin fills (apart old new fills F) (suc j)) refl
