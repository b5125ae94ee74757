-- A step outside of filled places is one of both codes.
use Rattle.std.proofs.Common.{◌≡◌, ◌⊎◌, ℕ, zero, suc, ◌+◌, ◌<◌, ◌≤◌, Bool, true, false, cond, List, length, Option, None}
use Rattle.std.proofs.Common.{Some, refl}
use Rattle.std.proofs.Common.{sym, ap, ◌∙◌, subst, inl, inr, ⊎_elim, arith}
use Rattle.std.proofs.Common.{◌-◌, ◌/◌, ◌%◌}
use Rattle.std.proofs.lemmas.Bool.Decides.{nat_tests}
use Rattle.std.specs.Prelude.{◌&&◌, ◌||◌, ◌==◌, nat_le, not}
use Rattle.ec_target.proofs.Places.{place_of_word}
use Rattle.ec_machine_code.specs.Speaks.{words_end}
use Rattle.ec_target.specs.Code.{code_base, pc_of, word_at}
use Rattle.ec_target.specs.declared.outcome.Cause.TheVariants.{HiLo, LoadDelay, Slot}
use Rattle.mips_isa.specs.OneWord.{one_word}
use Rattle.mips_isa.specs.Words.{word_of}
use Rattle.mips_isa.specs.declared.instr.Instr.{Instr}
use Rattle.mips_isa.specs.declared.instr.Instr.TheVariants.{BranchIf, BranchOnZero, J, Jal, Jalr, Jr, LoadFrom, Syscall}
use Rattle.mips_machine.specs.Hazards.{is_jump, is_stop, loads, sets_hilo, touches}
use Rattle.mips_machine.specs.Step.{Data, Done, Goes, MipsStep, Next, State, Traps, behind, comes_to, does, effect, is_recent}
use Rattle.mips_machine.specs.Step.{later, listed, nowhere}
use Rattle.mips_machine.specs.Step.{performs, unlisted}
use Rattle.mips_machine.specs.Values.{plus}
use Rattle.mips_delay.proofs.Swap.{and_false, behind_is, behind_plain, behind_turn, does_plain, both_false, comes_plain, passes_on}
use Rattle.mips_delay.proofs.Swap.{turn_does, turn_loads, turn_reads}
use Rattle.mips_delay.proofs.Swap.{turn_sets, turns_too, went}
use Rattle.mips_delay.specs.Alike.{AreAlike, GoOnAlike, KeptGoes, LeadsAlike}
use Rattle.mips_delay.specs.Fillable.{GoesTo, HasNoLinks, is_by_value, is_load}
use Rattle.mips_delay.specs.Places.{FillsWords, IsKept, LeadsAlong, Retargets, drops, is_within, moved_to, place}
use Rattle.mips_delay.specs.Swap.{is_same_turn, is_turn, is_turned, turned_to}

-- ---- tests that were passed

pub record Passed (i : Instr) (s t : State) : Type 0 where
  pub slot : (is_jump i && s.flow.delayed) ≡ false
  pub load : touches i s.flow.loaded ≡ false
  pub hilo : (sets_hilo i && is_recent s.flow.since) ≡ false
  pub does_it : does i s ≡ Goes t

three : (a b c : Bool) (n : Next) (t : State) → cond a (Traps Slot) (cond b (Traps LoadDelay) (cond c (Traps HiLo) n)) ≡ Goes t →
    (a ≡ false) × (b ≡ false) × (c ≡ false) × (n ≡ Goes t)
three true b c n t e = absurd (cc)
three false true c n t e = absurd (cc)
three false false true n t e = absurd (cc)
three false false false n t e = (refl, refl, refl, e)

pub passed : (i : Instr) (s t : State) → performs i s ≡ Goes t → Passed i s t
passed i s t e =
    let p = three (is_jump i && s.flow.delayed) (touches i s.flow.loaded) (sets_hilo i && is_recent s.flow.since) (does i s) t e in
    record { slot = p.0; load = p.1; hilo = p.2; does_it = p.3 }

pub no_stop_goes : (i : Instr) (s t : State) → does i s ≡ Goes t → is_stop i ≡ false
no_stop_goes Syscall s t e = absurd (cc)
no_stop_goes _ s t e = refl

-- what isn't a branch, nor led by a value, nor a stop, doesn't jump
pub no_jump : (i : Instr) → is_turn i ≡ false → is_by_value i ≡ false → is_stop i ≡ false → is_jump i ≡ false
no_jump (Jr rs) a b c = absurd (cc)
no_jump (Jalr link) a b c = absurd (cc)
no_jump (Jal target) a b c = absurd (cc)
no_jump Syscall a b c = absurd (cc)
no_jump (J target) a b c = absurd (cc)
no_jump (BranchIf branch rs rt offset) a b c = absurd (cc)
no_jump (BranchOnZero branch rs offset) a b c = absurd (cc)
no_jump _ a b c = refl

pub turn_jumps : (b : Instr) → is_turn b ≡ true → is_jump b ≡ true
turn_jumps (J target) e = refl
turn_jumps (BranchIf branch rs rt offset) e = refl
turn_jumps (BranchOnZero branch rs offset) e = refl
turn_jumps _ e = absurd (cc)

pub turn_slot : (b : Instr) → is_turn b ≡ true → (is_jump b && not (is_stop b)) ≡ true
turn_slot (J target) e = refl
turn_slot (BranchIf branch rs rt offset) e = refl
turn_slot (BranchOnZero branch rs offset) e = refl
turn_slot _ e = absurd (cc)

loads_none : (i : Instr) → is_load i ≡ false → loads i ≡ 0
loads_none (LoadFrom load rt rs offset) e = absurd (cc)
loads_none _ e = refl

pub same_touches : (b c : Instr) (r : ℕ) → is_same_turn b c → touches b r ≡ touches c r
same_touches (J target) (J other) r h = refl
same_touches (BranchIf branch rs rt offset) (BranchIf row x y other) r (f, g, i) =
    ap (λ q. not (r == 0) && ((0 == r) || ((q.number == r) || (rt.number == r)))) g
    ∙ ap (λ q. not (r == 0) && ((0 == r) || ((x.number == r) || (q.number == r)))) i
same_touches (BranchOnZero branch rs offset) (BranchOnZero row x other) r (f, g) =
    ap (λ q. not (r == 0) && ((0 == r) || ((q.number == r) || (0 == r)))) g
same_touches _ _ r h = absurd h

pub same_turned : (b c : Instr) (d : Data) → is_same_turn b c → is_turned b d ≡ is_turned c d
same_turned (J target) (J other) d h = refl
same_turned (BranchIf branch rs rt offset) (BranchIf row x y other) d (f, g, i) =
    ap (λ q. is_turned (BranchIf q rs rt offset) d) f ∙ ap (λ q. is_turned (BranchIf row q rt offset) d) g
    ∙ ap (λ q. is_turned (BranchIf row x q other) d) i
same_turned (BranchOnZero branch rs offset) (BranchOnZero row x other) d (f, g) =
    ap (λ q. is_turned (BranchOnZero q rs offset) d) f ∙ ap (λ q. is_turned (BranchOnZero row q other) d) g
same_turned _ _ d h = absurd h

-- ---- the map of places

pub outside_drops : (fills : ℕ → Bool) (i : ℕ) → is_within fills i ≡ false → drops fills i ≡ false
outside_drops fills zero h = refl
outside_drops fills (suc i) h = by (fills i) h
  where
    by : (b : Bool) → cond b true (drops fills (suc i)) ≡ false → drops fills (suc i) ≡ false
    by true e = absurd (cc)
    by false e = e

pub outside_behind : (fills : ℕ → Bool) (i : ℕ) → is_within fills (suc i) ≡ false → fills i ≡ false
outside_behind fills i h = by (fills i) h
  where
    by : (b : Bool) → cond b true (drops fills (suc i)) ≡ false → b ≡ false
    by true e = absurd (cc)
    by false e = refl

-- behind a word that is outside of filled places, and not the first of one, the next is outside
pub next_drops : (fills : ℕ → Bool) (i : ℕ) → is_within fills i ≡ false → drops fills (suc i) ≡ false
next_drops fills zero h = refl
next_drops fills (suc i) h = outside_behind fills i h

pub next_outside : (fills : ℕ → Bool) (i : ℕ) → is_within fills i ≡ false → fills i ≡ false → is_within fills (suc i) ≡ false
next_outside fills i h f = ap (λ b. cond b true (drops fills (suc i))) f ∙ next_drops fills i h

pub next_place : (fills : ℕ → Bool) (i : ℕ) → drops fills i ≡ false → place fills (suc i) ≡ suc (place fills i)
next_place fills i h = ap (λ b. cond b (place fills i) (suc (place fills i))) h

small_by : (b : Bool) (x i : ℕ) → x ≤ i → cond b x (suc x) ≤ suc i
small_by true x i h = omega (arith, h)
small_by false x i h = omega (arith, h)

pub place_small : (fills : ℕ → Bool) (i : ℕ) → place fills i ≤ i
place_small fills zero = omega arith
place_small fills (suc i) = small_by (drops fills i) (place fills i) i (place_small fills i)

pub next_pc : (i : ℕ) → i ≤ words_end + 2 → plus (pc_of i) 4 ≡ pc_of (suc i)
next_pc i small = omega (arith, small)

-- a place of a word goes where the word goes
pub moved_word : (fills : ℕ → Bool) (k : ℕ) → moved_to fills (pc_of k) ≡ pc_of (place fills k)
moved_word fills k =
    let e : (pc_of k - code_base) / 4 ≡ k = omega arith in
    let test : (nat_le code_base (pc_of k) && (pc_of k % 4 == 0)) ≡ true = grind (arith, nat_tests) in
    ap (λ t. cond t (pc_of (place fills ((pc_of k - code_base) / 4))) (pc_of k)) test ∙ ap (λ j. pc_of (place fills j)) e

pub leads_at : (fills : ℕ → Bool) (from to : ℕ) (b c : Instr) → LeadsAlong fills from to b c → (k : ℕ) →
    turned_to b (pc_of from) ≡ pc_of k → turned_to c (pc_of to) ≡ pc_of (place fills k)
leads_at fills from to b c h k e = h ∙ ap (moved_to fills) e ∙ moved_word fills k

-- a word within a filled place is its branch or its no-op
pub within_is : (fills : ℕ → Bool) (k : ℕ) → is_within fills k ≡ true →
    (j : ℕ) × (fills j ≡ true) × ((k ≡ suc j) ⊎ (k ≡ suc (suc j)))
within_is fills zero h = absurd (cc)
within_is fills (suc i) h = by (fills i) refl h
  where
    two : (i : ℕ) → drops fills (suc i) ≡ true → (j : ℕ) × (fills j ≡ true) × ((suc i ≡ suc j) ⊎ (suc i ≡ suc (suc j)))
    two zero e = absurd (cc)
    two (suc j) e = (j, e, inr refl)

    by : (b : Bool) → fills i ≡ b → cond b true (drops fills (suc i)) ≡ true →
        (j : ℕ) × (fills j ≡ true) × ((suc i ≡ suc j) ⊎ (suc i ≡ suc (suc j)))
    by true e f = (i, e, inl refl)
    by false e f = two i f

pub not_true : (b : Bool) → (b ≡ true → ⊥) → b ≡ false
not_true true h = absurd (h refl)
not_true false h = refl

pub some_or_none : (o : Option ℕ) → ((w : ℕ) × (o ≡ Some w)) ⊎ (o ≡ None)
some_or_none None = inr refl
some_or_none (Some w) = inl (w, refl)

-- ---- the step

pub listed_so : (code : List ℕ) (s t : State) → MipsStep code s (Goes t) →
    (i : Instr) × (word_at code s.flow.pc ≡ Some (word_of i)) × (performs i s ≡ Goes t)
listed_so code s t (nowhere h e) = absurd (cc)
listed_so code s t (unlisted w h none e) = absurd (cc)
listed_so code s t (listed i h e) = (i, h, sym e)

module _ (old new : List ℕ) (fills : ℕ → Bool) (F : FillsWords old new fills) (links : HasNoLinks old) (few : length old ≤ words_end)
    (s t u : State) (a : AreAlike old fills s t) (unfilled : fills a.here ≡ false) where
  -- a target of a branch of the old code is outside of filled places, and no first of one
  module _ (from : ℕ) (b : Instr) (k : ℕ) (stands : word_at old (pc_of from) ≡ Some (word_of b)) (turns : is_turn b ≡ true)
      (leads : turned_to b (pc_of from) ≡ pc_of k) where
    abbrev led_there : GoesTo old k
    led_there = record { from = from; by = b; stands = stands; turns = turns; leads = leads }

    target_outside : is_within fills k ≡ false
    target_outside = not_true (is_within fills k) (λ h.
        let z = within_is fills k h in
        let no = (F.each z.0 z.1).unled k led_there in
        ⊎_elim (λ (e : k ≡ suc z.0). no.1 e) (λ (e : k ≡ suc (suc z.0)). no.2 e) z.2)

    target_first : fills k ≡ false
    target_first = not_true (fills k) (λ h. ((F.each k h).unled k led_there).0 refl)

  module _ (i : Instr) (at : word_at old s.flow.pc ≡ Some (word_of i)) (done : performs i s ≡ Goes u) where
    is_at : word_at old (pc_of a.here) ≡ Some (word_of i)
    is_at = ap (word_at old) (sym a.old_at) ∙ at

    low : a.here < length old
    low =
        let z = place_of_word old (pc_of a.here) (word_of i) is_at in
        let p = z.1 in
        let q = z.2 in
        omega (arith, p, q)

    tested : Passed i s u
    tested = passed i s u done

    abbrev p : ℕ
    p = place fills a.here

    p_next : place fills (suc a.here) ≡ suc p
    p_next = next_place fills a.here (outside_drops fills a.here a.outside)

    p_small : p ≤ a.here
    p_small = place_small fills a.here

    next_is_outside : is_within fills (suc a.here) ≡ false
    next_is_outside = next_outside fills a.here a.outside unfilled

    on_old : plus s.flow.pc 4 ≡ pc_of (suc a.here)
    on_old = ap (λ pc. plus pc 4) a.old_at ∙ next_pc a.here (omega (arith, low, few))

    on_new : plus t.flow.pc 4 ≡ pc_of (place fills (suc a.here))
    on_new = ap (λ pc. plus pc 4) a.new_at ∙ next_pc p (omega (arith, low, few, p_small)) ∙ ap pc_of (sym p_next)

    abbrev After : State → Type 0
    After v = AreAlike old fills u v ⊎ (word_at old u.flow.pc ≡ None)

    -- ---- an instruction that doesn't turn

    module _ (plain : is_turn i ≡ false) (same : word_at new (pc_of p) ≡ Some (word_of i)) where
      jumps_not : is_jump i ≡ false
      jumps_not = no_jump i plain (links a.here i is_at) (no_stop_goes i s u tested.does_it)

      gone : (d : Data) × (effect i s.held ≡ Done d) × (u ≡ behind_plain i s d)
      gone = went i s u jumps_not done

      abbrev v : State
      v = behind_plain i t gone.0

      v_step : MipsStep new t (Goes v)
      v_step =
          listed i (ap (word_at new) a.new_at ∙ same)
          (sym (passes_on i t (ap (λ x. is_jump i && x) (sym a.delayed) ∙ tested.slot) (ap (touches i) (sym a.loaded) ∙ tested.load)
          (ap (λ x. sets_hilo i && is_recent x) (sym a.since) ∙ tested.hilo)
          ∙ does_plain i t jumps_not
          ∙ ap (λ h. comes_to i t (effect i h)) (sym a.held)
          ∙ ap (comes_to i t) gone.1 ∙ comes_plain i t gone.0 jumps_not))

      u_pc : u.flow.pc ≡ s.flow.next
      u_pc = ap (λ (z : State). z.flow.pc) gone.2

      -- at word k
      alike_at : (k : ℕ) → s.flow.next ≡ pc_of k → t.flow.next ≡ pc_of (place fills k) → is_within fills k ≡ false →
          (fills k ≡ true → k ≡ suc a.here) → AreAlike old fills u v
      alike_at k e f out first = record {
        here = k;
        held = ap (λ (z : State). z.held) gone.2;
        old_at = u_pc ∙ e;
        new_at = f;
        delayed = ap (λ (z : State). z.flow.delayed) gone.2;
        loaded = ap (λ (z : State). z.flow.loaded) gone.2;
        since = ap (λ (z : State). z.flow.since) gone.2 ∙ ap (λ x. behind i x) a.since;
        outside = out;
        ready = λ h. (
          ap (λ (z : State). z.flow.delayed) gone.2 ∙ jumps_not,
          ap (λ (z : State). z.flow.loaded) gone.2
              ∙ loads_none i (((F.each k h).free a.here i (sym (first h)) is_at).1),
        );
        onward = inl (
          ap (λ (z : State). z.flow.delayed) gone.2 ∙ jumps_not,
          (ap (λ (z : State). z.flow.next) gone.2 ∙ ap (λ n. plus n 4) (sym u_pc), refl),
        );
      }

      plain_after : After v
      plain_after = ⊎_elim
          (λ (h : (s.flow.delayed ≡ false) × GoOnAlike s.flow t.flow).
          inl (alike_at (suc a.here) (h.1.0 ∙ on_old) (h.1.1 ∙ on_new) next_is_outside (λ e. refl)))
          (λ (h : (s.flow.delayed ≡ true) × LeadsAlike old fills a.here s.flow t.flow). ⊎_elim
          (λ (z : (k : ℕ) × (s.flow.next ≡ pc_of k) × (t.flow.next ≡ pc_of (place fills k)) × (is_within fills k ≡ false)
          × (fills k ≡ true → k ≡ suc a.here)).
          inl (alike_at z.0 z.1 z.2 z.3 z.4))
          (λ (z : word_at old s.flow.next ≡ None). inr (ap (word_at old) u_pc ∙ z))
          h.1)
          a.onward

    -- ---- a branch

    module _ (c : Instr) (turns : is_turn i ≡ true) (like : is_same_turn i c) (moved : LeadsAlong fills a.here p i c)
        (same : word_at new (pc_of p) ≡ Some (word_of c)) where
      turns_c : is_turn c ≡ true
      turns_c = turns_too i c like

      no_slot : s.flow.delayed ≡ false
      no_slot = ap (λ x. x && s.flow.delayed) (sym (turn_jumps i turns)) ∙ tested.slot

      straight : GoOnAlike s.flow t.flow
      straight = ⊎_elim
          (λ (h : (s.flow.delayed ≡ false) × GoOnAlike s.flow t.flow). h.1)
          (λ (h : (s.flow.delayed ≡ true) × LeadsAlike old fills a.here s.flow t.flow).
          absurd (two_truths s.flow.delayed h.0 no_slot))
          a.onward
        where
          two_truths : (b : Bool) → b ≡ true → b ≡ false → ⊥
          two_truths true e f = cc
          two_truths false e f = cc

      u_is : u ≡ behind_turn i s
      u_is = let e : Goes (behind_turn i s) ≡ Goes u = sym (turn_does i s turns) ∙ tested.does_it in sym (cc)

      abbrev turned : State
      turned = behind_turn c t

      turned_step : MipsStep new t (Goes turned)
      turned_step =
          listed c (ap (word_at new) a.new_at ∙ same)
          (sym (passes_on c t (both_false (is_jump c) t.flow.delayed (sym a.delayed ∙ no_slot))
          (sym (same_touches i c t.flow.loaded like) ∙ ap (touches i) (sym a.loaded) ∙ tested.load)
          (and_false (sets_hilo c) (is_recent t.flow.since) (turn_sets c turns_c))
          ∙ turn_does c t turns_c))

      abbrev goal_old : ℕ
      goal_old = cond (is_turned i s.held) (turned_to i s.flow.pc) (plus s.flow.next 4)

      abbrev goal_new : ℕ
      goal_new = cond (is_turned c t.held) (turned_to c t.flow.pc) (plus t.flow.next 4)

      same_turn : is_turned c t.held ≡ is_turned i s.held
      same_turn = sym (same_turned i c t.held like) ∙ ap (is_turned i) (sym a.held)

      abbrev Led : ℕ → ℕ → Type 0
      Led f g =
          ((k : ℕ) × (f ≡ pc_of k) × (g ≡ pc_of (place fills k)) × (is_within fills k ≡ false) × (fills k ≡ true → k ≡ suc (suc a.here)))
          ⊎ (word_at old f ≡ None)

      no_first : fills (suc a.here) ≡ false
      no_first = not_true (fills (suc a.here)) (λ h.
          slot_clash (is_jump i && not (is_stop i)) (turn_slot i turns) (((F.each (suc a.here) h).free a.here i refl is_at).0))
        where
          slot_clash : (b : Bool) → b ≡ true → b ≡ false → ⊥
          slot_clash true e f = cc
          slot_clash false e f = cc

      falls : Led (plus s.flow.next 4) (plus t.flow.next 4)
      falls = inl (
        suc (suc a.here),
        ap (λ n. plus n 4) (straight.0 ∙ on_old) ∙ next_pc (suc a.here) (omega (arith, low, few)),
        ap (λ n. plus n 4) (straight.1 ∙ on_new ∙ ap pc_of p_next) ∙ next_pc (suc p) (omega (arith, low, few, p_small))
            ∙ ap pc_of (sym (next_place fills (suc a.here) (next_drops fills a.here a.outside) ∙ ap suc p_next)),
        next_outside fills (suc a.here) next_is_outside no_first,
        λ e. refl,
      )

      leads_far : Led (turned_to i s.flow.pc) (turned_to c t.flow.pc)
      leads_far = ⊎_elim
          (λ (z : (w : ℕ) × (word_at old (turned_to i (pc_of a.here)) ≡ Some w)).
          let k = place_of_word old (turned_to i (pc_of a.here)) z.0 z.1 in
          inl (
            k.0,
            ap (turned_to i) a.old_at ∙ k.2,
            ap (turned_to c) a.new_at ∙ leads_at fills a.here p i c moved k.0 k.2,
            target_outside a.here i k.0 is_at turns k.2,
            λ e. absurd (clash (fills k.0) e (target_first a.here i k.0 is_at turns k.2)),
          ))
          (λ (z : word_at old (turned_to i (pc_of a.here)) ≡ None). inr (ap (λ pc. word_at old (turned_to i pc)) a.old_at ∙ z))
          (some_or_none (word_at old (turned_to i (pc_of a.here))))
        where
          clash : (b : Bool) → b ≡ true → b ≡ false → ⊥
          clash true e f = cc
          clash false e f = cc

      goals : (q : Bool) → Led (cond q (turned_to i s.flow.pc) (plus s.flow.next 4)) (cond q (turned_to c t.flow.pc) (plus t.flow.next 4))
      goals true = leads_far
      goals false = falls

      led_both : Led goal_old goal_new
      led_both =
          subst (λ q. Led goal_old (cond q (turned_to c t.flow.pc) (plus t.flow.next 4))) (sym same_turn) (goals (is_turned i s.held))

      led_u : LeadsAlike old fills (suc a.here) u.flow turned.flow
      led_u = subst (λ (z : State). LeadsAlike old fills (suc a.here) z.flow turned.flow) (sym u_is) led_both

      turned_after : AreAlike old fills u turned
      turned_after = record {
        here = suc a.here;
        held = ap (λ (z : State). z.held) u_is ∙ a.held;
        old_at = ap (λ (z : State). z.flow.pc) u_is ∙ straight.0 ∙ on_old;
        new_at = straight.1 ∙ on_new;
        delayed = ap (λ (z : State). z.flow.delayed) u_is ∙ turn_jumps i turns ∙ sym (turn_jumps c turns_c);
        loaded = ap (λ (z : State). z.flow.loaded) u_is ∙ turn_loads i turns ∙ sym (turn_loads c turns_c);
        since = ap (λ (z : State). z.flow.since) u_is ∙ behind_is i s.flow.since (turn_reads i turns) ∙ ap later a.since
            ∙ sym (behind_is c t.flow.since (turn_reads c turns_c));
        outside = next_is_outside;
        ready = λ h. absurd (clash_first (fills (suc a.here)) h no_first);
        onward = inr (ap (λ (z : State). z.flow.delayed) u_is ∙ turn_jumps i turns, led_u);
      }
        where
          clash_first : (b : Bool) → b ≡ true → b ≡ false → ⊥
          clash_first true e f = cc
          clash_first false e f = cc

    kept_goes_by : (v : ℕ) → word_at new (pc_of p) ≡ Some v → IsKept fills a.here (word_of i) v →
        (z : State) × MipsStep new t (Goes z) × After z
    kept_goes_by w there kept = ⊎_elim
        (λ (r : Retargets fills a.here p (word_of i) w).
        let same : i ≡ r.branch = one_word i r.branch r.was in
        let turns : is_turn i ≡ true = ap is_turn same ∙ r.turns in
        let like : is_same_turn i r.led = subst (λ b. is_same_turn b r.led) (sym same) r.same in
        let moved : LeadsAlong fills a.here p i r.led = subst (λ b. LeadsAlong fills a.here p b r.led) (sym same) r.leads in
        let stands = there ∙ ap Some r.is in
        (turned r.led turns like moved stands, turned_step r.led turns like moved stands, inl (turned_after r.led turns like moved stands)))
        (λ (q : (w ≡ word_of i) × ((b : Instr) → word_of i ≡ word_of b → is_turn b ≡ false)).
        let plain = q.1 i refl in
        let same = there ∙ ap Some q.0 in
        (v plain same, v_step plain same, plain_after plain same))
        kept

  pub kept_goes : MipsStep old s (Goes u) → (v : State) × MipsStep new t (Goes v) × (AreAlike old fills u v ⊎ (word_at old u.flow.pc ≡ None))
  kept_goes step =
      let l = listed_so old s u step in
      let k = F.kept a.here (word_of l.0) unfilled a.outside (is_at l.0 l.1 l.2) in
      kept_goes_by l.0 l.1 l.2 k.0 k.1 k.2

pub kept_step : KeptGoes
kept_step old new fills F links few s t u a unfilled step = kept_goes old new fills F links few s t u a unfilled step
