-- At a filled place three steps of the old code are two of the new one, and both codes are alike again.
use Rattle.std.proofs.Common.{◌≡◌, ◌⊎◌, ℕ, suc, ◌+◌, ◌<◌, ◌≤◌, Bool, true, false, cond, List, length, None, Some}
use Rattle.std.proofs.Common.{sym, ap, ◌∙◌, inl, inr, ⊎_elim, arith}
use Rattle.std.proofs.lemmas.Option.{same_Some}
use Rattle.ec_target.proofs.Places.{place_of_word}
use Rattle.ec_machine_code.specs.Speaks.{words_end}
use Rattle.ec_target.specs.Code.{pc_of, word_at}
use Rattle.mips_isa.specs.OneWord.{one_word}
use Rattle.mips_isa.specs.Words.{word_of}
use Rattle.mips_machine.specs.Hazards.{is_jump}
use Rattle.mips_machine.specs.Step.{Goes, MipsStep, State}
use Rattle.mips_machine.specs.Values.{plus}
use Rattle.mips_machine.specs.declared.flow.Flow.{Flow}
use Rattle.mips_delay.proofs.Kept.{leads_at, next_drops, next_pc, next_place, not_true, outside_drops, place_small}
use Rattle.mips_delay.proofs.Kept.{some_or_none, turn_jumps, within_is}
use Rattle.mips_delay.proofs.Swap.{swap_rejoins}
use Rattle.mips_delay.specs.Alike.{AreAlike, FilledGoes, GoOnAlike, LeadsAlike}
use Rattle.mips_delay.specs.Fillable.{GoesTo}
use Rattle.mips_delay.specs.Places.{FillsWords, SwapsAt, drops, is_within, place}
use Rattle.mips_delay.specs.Swap.{IsStraight, Rejoins, RestsAt, Swaps, turned_to}

clash : (b : Bool) → b ≡ true → b ≡ false → ⊥
clash true e f = cc
clash false e f = cc

module _ (old new : List ℕ) (fills : ℕ → Bool) (F : FillsWords old new fills) (few : length old ≤ words_end) where
  -- both at rest at a word and where it went
  alike_at : (w n : State) (from to k : ℕ) → RestsAt w n from to → from ≡ pc_of k → to ≡ pc_of (place fills k) → is_within fills k ≡ false →
      AreAlike old fills w n
  alike_at w n from to k r e f out =
      let old_is = r.old_at in
      let new_is = r.new_at in
      record {
        here = k;
        held = r.held;
        old_at = ap (λ (x : Flow). x.pc) old_is ∙ e;
        new_at = ap (λ (x : Flow). x.pc) new_is ∙ f;
        delayed = ap (λ (x : Flow). x.delayed) old_is ∙ sym (ap (λ (x : Flow). x.delayed) new_is);
        loaded = ap (λ (x : Flow). x.loaded) old_is ∙ sym (ap (λ (x : Flow). x.loaded) new_is);
        since = ap (λ (x : Flow). x.since) old_is ∙ sym (ap (λ (x : Flow). x.since) new_is);
        outside = out;
        ready = λ h. (ap (λ (x : Flow). x.delayed) old_is, ap (λ (x : Flow). x.loaded) old_is);
        onward = inl (
          ap (λ (x : Flow). x.delayed) old_is,
          (
            ap (λ (x : Flow). x.next) old_is ∙ ap (λ pc. plus pc 4) (sym (ap (λ (x : Flow). x.pc) old_is)),
            ap (λ (x : Flow). x.next) new_is ∙ ap (λ pc. plus pc 4) (sym (ap (λ (x : Flow). x.pc) new_is)),
          ),
        );
      }

  module _ (s t u v w : State) (a : AreAlike old fills s t) (filled : fills a.here ≡ true) where
    abbrev j : ℕ
    j = a.here

    abbrev p : ℕ
    p = place fills j

    abbrev z : SwapsAt old new fills j
    z = F.swaps j filled

    abbrev has : Swaps old new j p z.moves z.branch z.led
    has = z.swaps

    rest : (s.flow.delayed ≡ false) × (s.flow.loaded ≡ 0)
    rest = a.ready filled

    on : GoOnAlike s.flow t.flow
    on = ⊎_elim
        (λ (h : (s.flow.delayed ≡ false) × GoOnAlike s.flow t.flow). h.1)
        (λ (h : (s.flow.delayed ≡ true) × LeadsAlike old fills j s.flow t.flow). absurd (clash s.flow.delayed h.0 rest.0))
        a.onward

    here : IsStraight s (pc_of j)
    here = record { at = a.old_at; next = on.0 ∙ ap (λ pc. plus pc 4) a.old_at; no_slot = rest.0; no_load = rest.1 }

    there : IsStraight t (pc_of p)
    there = record {
      at = a.new_at;
      next = on.1 ∙ ap (λ pc. plus pc 4) a.new_at;
      no_slot = sym a.delayed ∙ rest.0;
      no_load = sym a.loaded ∙ rest.1;
    }

    low : j + 2 < length old
    low =
        let q = place_of_word old (pc_of (j + 2)) 0 has.third in
        let x = q.1 in
        let y = q.2 in
        omega (arith, x, y)

    p_small : p ≤ j
    p_small = place_small fills j

    one : plus (pc_of j) 4 ≡ pc_of (j + 1)
    one = next_pc j (omega (arith, low, few)) ∙ ap pc_of (omega arith)

    two : plus (pc_of (j + 1)) 4 ≡ pc_of (j + 2)
    two = next_pc (j + 1) (omega (arith, low, few)) ∙ ap pc_of (omega arith)

    three : plus (pc_of (j + 2)) 4 ≡ pc_of (suc (suc (suc j)))
    three = next_pc (j + 2) (omega (arith, low, few)) ∙ ap pc_of (omega arith)

    far : plus (pc_of p) 4 ≡ pc_of (p + 1)
    far = next_pc p (omega (arith, low, few, p_small)) ∙ ap pc_of (omega arith)

    -- where the words behind went
    second_went : place fills (suc j) ≡ suc p
    second_went = next_place fills j (outside_drops fills j a.outside)

    third_went : place fills (suc (suc j)) ≡ suc (suc p)
    third_went = next_place fills (suc j) (next_drops fills j a.outside) ∙ ap suc second_went

    fourth_went : place fills (suc (suc (suc j))) ≡ suc (suc p)
    fourth_went =
        ap (λ b. cond b (place fills (suc (suc j))) (suc (place fills (suc (suc j))))) filled ∙ third_went

    branch_at : word_at old (pc_of (suc j)) ≡ Some (word_of z.branch)
    branch_at = let e : suc j ≡ j + 1 = omega arith in ap (λ i. word_at old (pc_of i)) e ∙ has.second

    nothing_at : word_at old (pc_of (suc (suc j))) ≡ Some 0
    nothing_at = let e : suc (suc j) ≡ j + 2 = omega arith in ap (λ i. word_at old (pc_of i)) e ∙ has.third

    -- neither the branch nor its no-op is the first of a filled place
    not_second : fills (suc j) ≡ false
    not_second = not_true (fills (suc j)) (λ h.
        let q = F.each (suc j) h in
        let same : z.branch ≡ q.moves = one_word z.branch q.moves (same_Some (word_of z.branch) (word_of q.moves) (sym branch_at ∙ q.first)) in
        clash (is_jump z.branch) (turn_jumps z.branch has.may.turn) (ap is_jump same ∙ q.may.no_jump))

    not_third : fills (suc (suc j)) ≡ false
    not_third = not_true (fills (suc (suc j))) (λ h.
        let q = F.each (suc (suc j)) h in
        q.no_nothing (same_Some (word_of q.moves) 0 (sym q.first ∙ nothing_at)))

    fourth_outside : is_within fills (suc (suc (suc j))) ≡ false
    fourth_outside = ap (λ b. cond b true (drops fills (suc (suc (suc j))))) not_third ∙ not_second

    -- where the branch leads
    target_outside : (k : ℕ) → turned_to z.branch (pc_of (suc j)) ≡ pc_of k → is_within fills k ≡ false
    target_outside k e = not_true (is_within fills k) (λ h.
        let q = within_is fills k h in
        let led : GoesTo old k = record { from = suc j; by = z.branch; stands = branch_at; turns = has.may.turn; leads = e } in
        let ne = (F.each q.0 q.1).unled k led in
        ⊎_elim (λ (x : k ≡ suc q.0). ne.1 x) (λ (x : k ≡ suc (suc q.0)). ne.2 x) q.2)

    old_goal : turned_to z.branch (plus (pc_of j) 4) ≡ turned_to z.branch (pc_of (suc j))
    old_goal = let e : j + 1 ≡ suc j = omega arith in ap (turned_to z.branch) (one ∙ ap pc_of e)

    rejoined : (n : State) → Rejoins j p z.branch z.led w n → AreAlike old fills w n ⊎ (word_at old w.flow.pc ≡ None)
    rejoined n h = ⊎_elim
        (λ (r : RestsAt w n (plus (plus (plus (pc_of j) 4) 4) 4) (plus (plus (pc_of p) 4) 4)).
        inl (alike_at w n _ _ (suc (suc (suc j))) r (ap (λ x. plus (plus x 4) 4) one ∙ ap (λ x. plus x 4) two ∙ three)
        (ap (λ x. plus x 4) far ∙ next_pc (p + 1) (omega (arith, low, few, p_small))
        ∙ ap pc_of ((let e : suc (p + 1) ≡ suc (suc p) = omega arith in e) ∙ sym fourth_went))
        fourth_outside))
        (λ (r : RestsAt w n (turned_to z.branch (plus (pc_of j) 4)) (turned_to z.led (pc_of p))). ⊎_elim
        (λ (g : (x : ℕ) × (word_at old (turned_to z.branch (pc_of (suc j))) ≡ Some x)).
        let k = place_of_word old (turned_to z.branch (pc_of (suc j))) g.0 g.1 in
        inl (alike_at w n _ _ k.0 r (old_goal ∙ k.2) (leads_at fills (suc j) p z.branch z.led z.leads k.0 k.2) (target_outside k.0 k.2)))
        (λ (g : word_at old (turned_to z.branch (pc_of (suc j))) ≡ None).
        inr (ap (λ (x : Flow). word_at old x.pc) r.old_at ∙ ap (word_at old) old_goal ∙ g))
        (some_or_none (word_at old (turned_to z.branch (pc_of (suc j))))))
        h

    pub filled_goes_so : MipsStep old s (Goes u) → MipsStep old u (Goes v) → MipsStep old v (Goes w) →
        (m n : State) × MipsStep new t (Goes m) × MipsStep new m (Goes n) × (m.held ≡ t.held)
        × (AreAlike old fills w n ⊎ (word_at old w.flow.pc ≡ None))
    filled_goes_so first second third =
        let r = swap_rejoins old new j p z.moves z.branch z.led has s t u v w a.held here there one two far first second third in
        (r.0, r.1, r.2, r.3, r.4, rejoined r.1 r.5)

pub filled_step : FilledGoes
filled_step old new fills F few s t u v w a filled first second third =
    filled_goes_so old new fills F few s t u v w a filled first second third
