-- A step at a word that stays is one of both codes; one at a word that goes is one of the old code alone.
use Rattle.std.proofs.Common.{◌≡◌, ◌⊎◌, ℕ, suc, ◌<◌, ◌≤◌, Bool, true, false, cond, List, length, None}
use Rattle.std.proofs.Common.{Some, refl}
use Rattle.std.proofs.Common.{sym, ap, ◌∙◌, subst, inl, inr, ⊎_elim, arith}
use Rattle.std.specs.Prelude.{◌&&◌}
use Rattle.ec_target.proofs.Places.{place_of_word}
use Rattle.ec_machine_code.specs.Speaks.{words_end}
use Rattle.ec_target.specs.Code.{pc_of, word_at}
use Rattle.mips_delay.proofs.Kept.{Passed, leads_at, listed_so, next_pc, next_place, no_jump, no_stop_goes, passed, place_small}
use Rattle.mips_delay.proofs.Kept.{same_touches, same_turned, some_or_none, turn_jumps}
use Rattle.mips_delay.proofs.Order.{dropped_is}
use Rattle.mips_delay.proofs.Runs.{performed}
use Rattle.mips_delay.proofs.Standing.{clash, low_of, one_there}
use Rattle.mips_delay.proofs.Swap.{and_false, behind_is, behind_plain, behind_turn, both_false, comes_plain, does_plain, no_op, passes_on}
use Rattle.mips_delay.proofs.Swap.{plain_goes, turn_does, turn_loads, turn_reads, turn_sets, turns_too, two_later, went}
use Rattle.mips_delay.specs.Alike.{GoOnAlike}
use Rattle.mips_delay.specs.Fillable.{GoesTo, HasNoLinks, StandsAt}
use Rattle.mips_delay.specs.Places.{IsKept, LeadsAlong, Retargets, drops, place}
use Rattle.mips_delay.specs.Swap.{is_same_turn, is_turn, is_turned, turned_to}
use Rattle.mips_waits.proofs.Facts.{behind_read, gone_is_nothing, gone_then_load, load_reads, load_then_read, nothing_touches, read_before}
use Rattle.mips_waits.proofs.Facts.{read_loads, target_stays, turn_goes_on}
use Rattle.mips_waits.specs.Alike.{AgesAlike, AreAlike, GoneGoes, IsReady, KeptGoes, LeadsAlike, LoadsAlike, LongSince, OneFree, Same, TwoFree, Waits}
use Rattle.mips_waits.specs.Waits.{BehindLoad, IsNeedless, IsOfRead, LeavesHiLo, LeavesRegister, WritesNeither}
use Rattle.mips_waits.specs.Words.{SkipsWords}
use Rattle.mips_isa.specs.OneWord.{one_word}
use Rattle.mips_isa.specs.Words.{word_of}
use Rattle.mips_isa.specs.declared.instr.Instr.{Instr}
use Rattle.mips_isa.specs.declared.instr.Instr.TheVariants.{Syscall}
use Rattle.mips_machine.specs.Hazards.{is_jump, is_stop, loads, reads_hilo, sets_hilo, touches}
use Rattle.mips_machine.specs.Step.{Data, Done, Goes, MipsStep, State, behind, comes_to, effect, is_recent, later, listed, performs}
use Rattle.mips_machine.specs.Values.{plus}
use Rattle.mips_machine.specs.declared.flow.Flow.{Flow}
use Rattle.mips_machine.specs.declared.flow.Since.{Since}
use Rattle.mips_machine.specs.declared.flow.Since.TheVariants.{JustNow, LongAgo}

read_now : (i : Instr) (since : Since) → reads_hilo i ≡ true → behind i since ≡ JustNow
read_now i since e = ap (λ b. cond b JustNow (later since)) e

module _ (old new : List ℕ) (skips : ℕ → Bool) (F : SkipsWords old new skips) (few : length old ≤ words_end) (s t u : State)
    (a : AreAlike old skips s t) where
  on_old : a.here < length old → plus s.flow.pc 4 ≡ pc_of (suc a.here)
  on_old low = ap (λ pc. plus pc 4) a.old_at ∙ next_pc a.here (omega (arith, low, few))

  -- ---- at a word that goes

  module _ (gone : drops skips a.here ≡ true) (step : MipsStep old s (Goes u)) where
    nothing_at : word_at old s.flow.pc ≡ Some (word_of no_op)
    nothing_at = ap (word_at old) a.old_at ∙ gone_is_nothing old new skips F a.here gone

    -- which of them it is
    abbrev j : ℕ
    j = (dropped_is skips a.here gone).0

    here_is : a.here ≡ suc (suc j)
    here_is = (dropped_is skips a.here gone).1

    needless : IsNeedless old j
    needless = F.each j (dropped_is skips a.here gone).2

    reached_straight : s.flow.delayed ≡ false
    reached_straight = ⊎_elim
        (λ (r : IsOfRead old j). (a.ready.read j here_is r).0)
        (λ (l : BehindLoad old j). (a.ready.load j here_is l).0)
        needless

    goes_straight : GoOnAlike s.flow t.flow
    goes_straight = ⊎_elim
        (λ (h : (s.flow.delayed ≡ false) × GoOnAlike s.flow t.flow). h.1)
        (λ (h : (s.flow.delayed ≡ true) × LeadsAlike old skips a.here s.flow t.flow).
        absurd (clash s.flow.delayed h.0 reached_straight))
        a.onward

    same_goes : (x y : State) → Goes x ≡ Goes y → x ≡ y
    same_goes x y e = cc

    is_behind : u ≡ behind_plain no_op s s.held
    is_behind =
        same_goes u (behind_plain no_op s s.held)
        (sym (performed old s (Goes u) no_op nothing_at step)
        ∙ plain_goes no_op s s.held refl (nothing_touches s.flow.loaded) refl refl)

    gone_low : a.here < length old
    gone_low = low_of old a.here 0 (gone_is_nothing old new skips F a.here gone)

    u_straight : u.flow.delayed ≡ false
    u_straight = ap (λ (z : State). z.flow.delayed) is_behind

    u_loads : u.flow.loaded ≡ 0
    u_loads = ap (λ (z : State). z.flow.loaded) is_behind

    next_is : suc a.here ≡ suc (suc (suc j))
    next_is = ap suc here_is

    -- behind it nothing waits for a load
    no_load : (k : ℕ) → suc a.here ≡ suc (suc k) → BehindLoad old k → ⊥
    no_load k e l = gone_then_load old new skips F a.here k gone e l

    -- what is pending behind it
    record Pending : Type 0 where
      loaded : LoadsAlike old (suc a.here) u.flow t.flow
      ages : AgesAlike old skips (suc a.here) u.flow t.flow
      ready : IsReady old (suc a.here) u.flow t.flow

    behind_of_read : IsOfRead old j → Pending
    behind_of_read r =
        let is = a.ready.read j here_is r in
        record {
          loaded = inl (u_loads ∙ sym is.1);
          ages = ⊎_elim
              (λ (h : drops skips (suc (suc (suc j))) ≡ true). Waits (ap (drops skips) next_is ∙ h))
              (λ (h : LeavesHiLo old (suc (suc (suc j)))). TwoFree u_straight (subst (LeavesHiLo old) (sym next_is) h))
              (behind_read old new skips F j r);
          ready = record {
            read = λ k e q. (u_straight, is.1);
            load = λ k e l. absurd (no_load k e l);
          };
        }

    behind_of_load : BehindLoad old j → Pending
    behind_of_load l =
        let is = a.ready.load j here_is l in
        record {
          loaded = inr (
            u_loads,
            subst (λ r. LeavesRegister old (suc a.here) r) (sym is.1) (subst (λ k. LeavesRegister old k (loads l.load)) (sym next_is) l.free),
          );
          ages = OneFree (subst (WritesNeither old) (sym next_is) l.leaves) is.2;
          ready = record {
            read = λ k e q. absurd (load_then_read old j k l (sym next_is ∙ e) q);
            load = λ k e q. absurd (no_load k e q);
          };
        }

    pending : Pending
    pending = ⊎_elim behind_of_read behind_of_load needless

    pub gone_goes : AreAlike old skips u t × (u.held ≡ s.held)
    gone_goes = (
      record {
        here = suc a.here;
        held = ap (λ (z : State). z.held) is_behind ∙ a.held;
        old_at = ap (λ (z : State). z.flow.pc) is_behind ∙ goes_straight.0 ∙ on_old gone_low;
        new_at = a.new_at ∙ ap pc_of (sym (ap (λ b. cond b (place skips a.here) (suc (place skips a.here))) gone));
        delayed = u_straight ∙ sym reached_straight ∙ a.delayed;
        loaded = pending.loaded;
        ages = pending.ages;
        ready = pending.ready;
        onward = inl (
          u_straight,
          (
            ap (λ (z : State). z.flow.next) is_behind ∙ ap (λ n. plus n 4) (sym (ap (λ (z : State). z.flow.pc) is_behind)),
            goes_straight.1,
          ),
        );
      },
      ap (λ (z : State). z.held) is_behind,
    )

  -- ---- at a word that stays

  module _ (links : HasNoLinks old) (stays : drops skips a.here ≡ false) (i : Instr) (at : word_at old s.flow.pc ≡ Some (word_of i))
      (done : performs i s ≡ Goes u) where
    is_at : word_at old (pc_of a.here) ≡ Some (word_of i)
    is_at = ap (word_at old) (sym a.old_at) ∙ at

    low : a.here < length old
    low = low_of old a.here (word_of i) is_at

    tested : Passed i s u
    tested = passed i s u done

    abbrev p : ℕ
    p = place skips a.here

    p_next : place skips (suc a.here) ≡ suc p
    p_next = next_place skips a.here stays

    p_small : p ≤ a.here
    p_small = place_small skips a.here

    on_new : plus t.flow.pc 4 ≡ pc_of (place skips (suc a.here))
    on_new = ap (λ pc. plus pc 4) a.new_at ∙ next_pc p (omega (arith, low, few, p_small)) ∙ ap pc_of (sym p_next)

    abbrev After : State → Type 0
    After v = AreAlike old skips u v ⊎ (word_at old u.flow.pc ≡ None)

    -- the new code's test of HI and LO is passed too
    clear_by : AgesAlike old skips a.here s.flow t.flow → (sets_hilo i && is_recent t.flow.since) ≡ false
    clear_by (Same e) = ap (λ x. sets_hilo i && is_recent x) (sym e) ∙ tested.hilo
    clear_by (Waits h) = absurd (clash (drops skips a.here) h stays)
    clear_by (TwoFree d free) = and_false (sets_hilo i) (is_recent t.flow.since) (free.0 i is_at)
    clear_by (OneFree free l) = and_false (sets_hilo i) (is_recent t.flow.since) (free i is_at)
    clear_by (LongSince l) = both_false (sets_hilo i) (is_recent t.flow.since) (ap is_recent l)

    clear : (sets_hilo i && is_recent t.flow.since) ≡ false
    clear = clear_by a.ages

    -- and so is its test of what was loaded
    free_of_load : touches i t.flow.loaded ≡ false
    free_of_load = ⊎_elim
        (λ (e : s.flow.loaded ≡ t.flow.loaded). ap (touches i) (sym e) ∙ tested.load)
        (λ (h : (s.flow.loaded ≡ 0) × LeavesRegister old a.here t.flow.loaded). (h.1 i is_at).0)
        a.loaded

    -- what is free behind an instruction that goes on
    behind_free : LeavesHiLo old a.here → WritesNeither old (suc a.here)
    behind_free free = ⊎_elim
        (λ (stop : StandsAt old a.here Syscall).
        absurd (clash (is_stop i) (ap is_stop (one_there old a.here i Syscall is_at stop)) (no_stop_goes i s u tested.does_it)))
        (λ (rest : WritesNeither old (suc a.here)). rest)
        free.1

    -- at the next word, k
    ages_by : (k : ℕ) (f g : Flow) → f.since ≡ behind i s.flow.since → g.since ≡ behind i t.flow.since →
        (s.flow.delayed ≡ false → k ≡ suc a.here) → (b : Bool) → reads_hilo i ≡ b → AgesAlike old skips a.here s.flow t.flow →
        AgesAlike old skips k f g
    ages_by k f g e h straight true r ages = Same (e ∙ read_now i s.flow.since r ∙ sym (read_now i t.flow.since r) ∙ sym h)
    ages_by k f g e h straight false r (Same q) = Same (e ∙ ap (behind i) q ∙ sym h)
    ages_by k f g e h straight false r (Waits w) = absurd (clash (drops skips a.here) w stays)
    ages_by k f g e h straight false r (TwoFree d free) =
        OneFree (subst (WritesNeither old) (sym (straight d)) (behind_free free))
        (ap later (h ∙ behind_is i t.flow.since r) ∙ two_later t.flow.since)
    ages_by k f g e h straight false r (OneFree free l) = LongSince (h ∙ behind_is i t.flow.since r ∙ l)
    ages_by k f g e h straight false r (LongSince l) = LongSince (h ∙ behind_is i t.flow.since r ∙ ap later l)

    ages_on : (k : ℕ) (f g : Flow) → f.since ≡ behind i s.flow.since → g.since ≡ behind i t.flow.since →
        (s.flow.delayed ≡ false → k ≡ suc a.here) → AgesAlike old skips k f g
    ages_on k f g e h straight = ages_by k f g e h straight (reads_hilo i) refl a.ages

    -- ---- an instruction that doesn't turn

    module _ (plain : is_turn i ≡ false) (same : word_at new (pc_of p) ≡ Some (word_of i)) where
      jumps_not : is_jump i ≡ false
      jumps_not = no_jump i plain (links a.here i is_at) (no_stop_goes i s u tested.does_it)

      gone_on : (d : Data) × (effect i s.held ≡ Done d) × (u ≡ behind_plain i s d)
      gone_on = went i s u jumps_not done

      abbrev v : State
      v = behind_plain i t gone_on.0

      v_step : MipsStep new t (Goes v)
      v_step =
          listed i (ap (word_at new) a.new_at ∙ same)
          (sym (passes_on i t (ap (λ x. is_jump i && x) (sym a.delayed) ∙ tested.slot) free_of_load clear
          ∙ does_plain i t jumps_not
          ∙ ap (λ h. comes_to i t (effect i h)) (sym a.held)
          ∙ ap (comes_to i t) gone_on.1 ∙ comes_plain i t gone_on.0 jumps_not))

      u_pc : u.flow.pc ≡ s.flow.next
      u_pc = ap (λ (z : State). z.flow.pc) gone_on.2

      out_of_slot : u.flow.delayed ≡ false
      out_of_slot = ap (λ (z : State). z.flow.delayed) gone_on.2 ∙ jumps_not

      -- the word before the no-ops of a read loads nothing
      loads_nothing : (j : ℕ) → suc a.here ≡ suc (suc j) → IsOfRead old j → loads i ≡ 0
      loads_nothing j e r =
          let z = read_before old new skips F a.here j stays e r in
          ap loads (one_there old a.here i z.0 is_at z.1) ∙ read_loads z.0 z.2

      -- and the word before the no-op of a load is the load
      is_loading : (j : ℕ) → suc a.here ≡ suc (suc j) → (n : BehindLoad old j) → i ≡ n.load
      is_loading j e n =
          let same : suc j ≡ a.here = omega (arith, e) in
          one_there old a.here i n.load is_at (subst (λ k. StandsAt old k n.load) same n.first)

      read_before_load : (j : ℕ) → suc a.here ≡ suc (suc j) → (n : BehindLoad old j) → later (behind i t.flow.since) ≡ LongAgo
      read_before_load j e n =
          ap later (behind_is i t.flow.since (ap reads_hilo (is_loading j e n) ∙ load_reads n.load n.is_load)) ∙ two_later t.flow.since

      -- at word k, where that goes, it is the next
      ready_at : (k : ℕ) → (drops skips k ≡ true → k ≡ suc a.here) → IsReady old k u.flow v.flow
      ready_at k first = record {
        read = λ j e r. (out_of_slot, loads_nothing j (sym (first (ap (drops skips) e ∙ F.all j (inl r))) ∙ e) r);
        load = λ j e n.
            let next = sym (first (ap (drops skips) e ∙ F.all j (inr n))) ∙ e in
            (out_of_slot, ap loads (is_loading j next n), read_before_load j next n);
      }

      -- at word k
      alike_at : (k : ℕ) → s.flow.next ≡ pc_of k → t.flow.next ≡ pc_of (place skips k) → (drops skips k ≡ true → k ≡ suc a.here) →
          (s.flow.delayed ≡ false → k ≡ suc a.here) → AreAlike old skips u v
      alike_at k e f first straight = record {
        here = k;
        held = ap (λ (z : State). z.held) gone_on.2;
        old_at = u_pc ∙ e;
        new_at = f;
        delayed = ap (λ (z : State). z.flow.delayed) gone_on.2;
        loaded = inl (ap (λ (z : State). z.flow.loaded) gone_on.2);
        ages = ages_on k u.flow v.flow (ap (λ (z : State). z.flow.since) gone_on.2) refl straight;
        ready = ready_at k first;
        onward = inl (
          out_of_slot,
          (ap (λ (z : State). z.flow.next) gone_on.2 ∙ ap (λ n. plus n 4) (sym u_pc), refl),
        );
      }

      plain_after : After v
      plain_after = ⊎_elim
          (λ (h : (s.flow.delayed ≡ false) × GoOnAlike s.flow t.flow).
          inl (alike_at (suc a.here) (h.1.0 ∙ on_old low) (h.1.1 ∙ on_new) (λ e. refl) (λ e. refl)))
          (λ (h : (s.flow.delayed ≡ true) × LeadsAlike old skips a.here s.flow t.flow). ⊎_elim
          (λ (z : (k : ℕ) × (s.flow.next ≡ pc_of k) × (t.flow.next ≡ pc_of (place skips k)) × (drops skips k ≡ true → k ≡ suc a.here)).
          inl (alike_at z.0 z.1 z.2 z.3 (λ e. absurd (clash s.flow.delayed h.0 e))))
          (λ (z : word_at old s.flow.next ≡ None). inr (ap (word_at old) u_pc ∙ z))
          h.1)
          a.onward

    -- ---- a branch

    module _ (c : Instr) (turns : is_turn i ≡ true) (like : is_same_turn i c) (moved : LeadsAlong skips a.here p i c)
        (same : word_at new (pc_of p) ≡ Some (word_of c)) where
      turns_c : is_turn c ≡ true
      turns_c = turns_too i c like

      no_slot : s.flow.delayed ≡ false
      no_slot = ap (λ x. x && s.flow.delayed) (sym (turn_jumps i turns)) ∙ tested.slot

      straight : GoOnAlike s.flow t.flow
      straight = ⊎_elim
          (λ (h : (s.flow.delayed ≡ false) × GoOnAlike s.flow t.flow). h.1)
          (λ (h : (s.flow.delayed ≡ true) × LeadsAlike old skips a.here s.flow t.flow). absurd (clash s.flow.delayed h.0 no_slot))
          a.onward

      u_is : u ≡ behind_turn i s
      u_is = let e : Goes (behind_turn i s) ≡ Goes u = sym (turn_does i s turns) ∙ tested.does_it in sym (cc)

      abbrev turned : State
      turned = behind_turn c t

      turned_step : MipsStep new t (Goes turned)
      turned_step =
          listed c (ap (word_at new) a.new_at ∙ same)
          (sym (passes_on c t (both_false (is_jump c) t.flow.delayed (sym a.delayed ∙ no_slot))
          (sym (same_touches i c t.flow.loaded like) ∙ free_of_load)
          (and_false (sets_hilo c) (is_recent t.flow.since) (turn_sets c turns_c))
          ∙ turn_does c t turns_c))

      abbrev goal_old : ℕ
      goal_old = cond (is_turned i s.held) (turned_to i s.flow.pc) (plus s.flow.next 4)

      same_turn : is_turned c t.held ≡ is_turned i s.held
      same_turn = sym (same_turned i c t.held like) ∙ ap (is_turned i) (sym a.held)

      abbrev Led : ℕ → ℕ → Type 0
      Led f g =
          ((k : ℕ) × (f ≡ pc_of k) × (g ≡ pc_of (place skips k)) × (drops skips k ≡ true → k ≡ suc (suc a.here))) ⊎ (word_at old f ≡ None)

      next_stays : drops skips (suc a.here) ≡ false
      next_stays = turn_goes_on old new skips F a.here i stays is_at turns

      falls : Led (plus s.flow.next 4) (plus t.flow.next 4)
      falls = inl (
        suc (suc a.here),
        ap (λ n. plus n 4) (straight.0 ∙ on_old low) ∙ next_pc (suc a.here) (omega (arith, low, few)),
        ap (λ n. plus n 4) (straight.1 ∙ on_new ∙ ap pc_of p_next) ∙ next_pc (suc p) (omega (arith, low, few, p_small))
            ∙ ap pc_of (sym (next_place skips (suc a.here) next_stays ∙ ap suc p_next)),
        λ e. refl,
      )

      leads_far : Led (turned_to i s.flow.pc) (turned_to c t.flow.pc)
      leads_far = ⊎_elim
          (λ (z : (w : ℕ) × (word_at old (turned_to i (pc_of a.here)) ≡ Some w)).
          let k = place_of_word old (turned_to i (pc_of a.here)) z.0 z.1 in
          let led : GoesTo old k.0 = record { from = a.here; by = i; stands = is_at; turns = turns; leads = k.2 } in
          inl (
            k.0,
            ap (turned_to i) a.old_at ∙ k.2,
            ap (turned_to c) a.new_at ∙ leads_at skips a.here p i c moved k.0 k.2,
            λ e. absurd (clash (drops skips k.0) e (target_stays old new skips F k.0 led)),
          ))
          (λ (z : word_at old (turned_to i (pc_of a.here)) ≡ None). inr (ap (λ pc. word_at old (turned_to i pc)) a.old_at ∙ z))
          (some_or_none (word_at old (turned_to i (pc_of a.here))))

      goals : (q : Bool) → Led (cond q (turned_to i s.flow.pc) (plus s.flow.next 4)) (cond q (turned_to c t.flow.pc) (plus t.flow.next 4))
      goals true = leads_far
      goals false = falls

      led_both : Led goal_old (cond (is_turned c t.held) (turned_to c t.flow.pc) (plus t.flow.next 4))
      led_both =
          subst (λ q. Led goal_old (cond q (turned_to c t.flow.pc) (plus t.flow.next 4))) (sym same_turn) (goals (is_turned i s.held))

      led_u : LeadsAlike old skips (suc a.here) u.flow turned.flow
      led_u = subst (λ (z : State). LeadsAlike old skips (suc a.here) z.flow turned.flow) (sym u_is) led_both

      turned_after : AreAlike old skips u turned
      turned_after = record {
        here = suc a.here;
        held = ap (λ (z : State). z.held) u_is ∙ a.held;
        old_at = ap (λ (z : State). z.flow.pc) u_is ∙ straight.0 ∙ on_old low;
        new_at = straight.1 ∙ on_new;
        delayed = ap (λ (z : State). z.flow.delayed) u_is ∙ turn_jumps i turns ∙ sym (turn_jumps c turns_c);
        loaded = inl (ap (λ (z : State). z.flow.loaded) u_is ∙ turn_loads i turns ∙ sym (turn_loads c turns_c));
        ages = ages_on (suc a.here) u.flow turned.flow (ap (λ (z : State). z.flow.since) u_is)
            (behind_is c t.flow.since (turn_reads c turns_c) ∙ sym (behind_is i t.flow.since (turn_reads i turns))) (λ e. refl);
        ready = record {
          read = λ j e r. absurd (clash (drops skips (suc a.here)) (ap (drops skips) e ∙ F.all j (inl r)) next_stays);
          load = λ j e n. absurd (clash (drops skips (suc a.here)) (ap (drops skips) e ∙ F.all j (inr n)) next_stays);
        };
        onward = inr (ap (λ (z : State). z.flow.delayed) u_is ∙ turn_jumps i turns, led_u);
      }

    kept_goes_by : (v : ℕ) → word_at new (pc_of p) ≡ Some v → IsKept skips a.here (word_of i) v →
        (z : State) × MipsStep new t (Goes z) × After z
    kept_goes_by w there kept = ⊎_elim
        (λ (r : Retargets skips a.here p (word_of i) w).
        let same : i ≡ r.branch = one_word i r.branch r.was in
        let turns : is_turn i ≡ true = ap is_turn same ∙ r.turns in
        let like : is_same_turn i r.led = subst (λ b. is_same_turn b r.led) (sym same) r.same in
        let moved : LeadsAlong skips a.here p i r.led = subst (λ b. LeadsAlong skips a.here p b r.led) (sym same) r.leads in
        let stands = there ∙ ap Some r.is in
        (turned r.led turns like moved stands, turned_step r.led turns like moved stands, inl (turned_after r.led turns like moved stands)))
        (λ (q : (w ≡ word_of i) × ((b : Instr) → word_of i ≡ word_of b → is_turn b ≡ false)).
        let plain = q.1 i refl in
        let same = there ∙ ap Some q.0 in
        (v plain same, v_step plain same, plain_after plain same))
        kept

  module _ (links : HasNoLinks old) (stays : drops skips a.here ≡ false) where
    pub kept_goes : MipsStep old s (Goes u) → (v : State) × MipsStep new t (Goes v) × (AreAlike old skips u v ⊎ (word_at old u.flow.pc ≡ None))
    kept_goes step =
        let l = listed_so old s u step in
        let k = F.kept a.here (word_of l.0) stays (is_at links stays l.0 l.1 l.2) in
        kept_goes_by links stays l.0 l.1 l.2 k.0 k.1 k.2

pub kept_step : KeptGoes
kept_step old new skips F links few s t u a stays step = kept_goes old new skips F few s t u a links stays step

pub gone_step : GoneGoes
gone_step old new skips F few s t u a gone step = gone_goes old new skips F few s t u a gone step
