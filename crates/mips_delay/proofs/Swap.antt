-- One swap: the old code's three instructions and the new code's two.
use Rattle.std.proofs.Common.{◌≡◌, ℕ, ◌+◌, Bool, true, false, cond, List, Some, refl, sym, ap, ◌∙◌, inl, inr, lit<}
use Rattle.std.specs.Prelude.{◌&&◌}
use Rattle.ec_target.specs.Code.{pc_of, word_at}
use Rattle.ec_target.specs.declared.outcome.Cause.TheVariants.{HiLo, LoadDelay, Slot}
use Rattle.mips_isa.specs.Words.{word_of}
use Rattle.mips_isa.specs.declared.instr.Instr.{Instr}
use Rattle.mips_isa.specs.declared.instr.Instr.TheVariants.{OnShift, Jr}
use Rattle.mips_isa.specs.declared.instr.Instr.TheVariants.{Jalr, Syscall, J, Jal, BranchIf, BranchOnZero}
use Rattle.mips_isa.specs.declared.instr.Shift.TheVariants.{Sll}
use Rattle.mips_machine.specs.Hazards.{is_jump, is_stop, loads, reads_hilo, sets_hilo, touches, writes}
use Rattle.mips_machine.specs.MachineLaws.{one_next}
use Rattle.mips_machine.specs.Step.{Data, Done, Effect, Fails, Goes, MipsStep, Next, State, Stops, Traps, after, behind, comes_to, does}
use Rattle.mips_machine.specs.Step.{effect}
use Rattle.mips_machine.specs.Step.{is_recent, later, led, linked, listed, performs, resting}
use Rattle.mips_machine.specs.Values.{plus}
use Rattle.mips_machine.specs.declared.flow.Flow.{Flow}
use Rattle.mips_machine.specs.declared.flow.Since.{Since}
use Rattle.mips_machine.specs.declared.flow.Since.TheVariants.{JustNow, OneAgo, LongAgo}
use Rattle.mips_delay.proofs.Keeps.{keeps, turned_same}
use Rattle.mips_delay.specs.Swap.{IsStraight, Rejoins, SwapRejoins, Swaps, is_same_turn, is_turn, is_turned, turned_to}

abbrev pub no_op : Instr
no_op = OnShift Sll (record { number = 0; in_range = lit< tt }) (record { number = 0; in_range = lit< tt }) (record { bits = 0; in_range = lit< tt })

-- ---- tests

pub both_false : (a b : Bool) → b ≡ false → (a && b) ≡ false
both_false true b e = e
both_false false b e = refl

pub and_false : (a b : Bool) → a ≡ false → (a && b) ≡ false
and_false a b e = ap (λ x. x && b) e

pub passes_on : (i : Instr) (s : State) → (is_jump i && s.flow.delayed) ≡ false → touches i s.flow.loaded ≡ false →
    (sets_hilo i && is_recent s.flow.since) ≡ false → performs i s ≡ does i s
passes_on i s a b c =
    ap (λ x. cond x (Traps Slot) (cond (touches i s.flow.loaded) (Traps LoadDelay)
    (cond (sets_hilo i && is_recent s.flow.since) (Traps HiLo) (does i s)))) a
    ∙ ap (λ x. cond x (Traps LoadDelay) (cond (sets_hilo i && is_recent s.flow.since) (Traps HiLo) (does i s))) b
    ∙ ap (λ x. cond x (Traps HiLo) (does i s)) c

tests : (a b c : Bool) (n : Next) (t : State) → cond a (Traps Slot) (cond b (Traps LoadDelay) (cond c (Traps HiLo) n)) ≡ Goes t → n ≡ Goes t
tests true b c n t e = absurd (cc)
tests false true c n t e = absurd (cc)
tests false false true n t e = absurd (cc)
tests false false false n t e = e

pub does_on : (i : Instr) (s t : State) → performs i s ≡ Goes t → does i s ≡ Goes t
does_on i s t e = tests (is_jump i && s.flow.delayed) (touches i s.flow.loaded) (sets_hilo i && is_recent s.flow.since) (does i s) t e

-- ---- a plain instruction

no_stop : (x : Instr) → is_jump x ≡ false → is_stop x ≡ false
no_stop Syscall e = absurd (cc)
no_stop _ e = refl

no_link : (x : Instr) (pc : ℕ) (d : Data) → is_jump x ≡ false → linked x pc d ≡ d
no_link (Jal target) pc d e = absurd (cc)
no_link (Jalr link) pc d e = absurd (cc)
no_link _ pc d e = refl

goes_on : (x : Instr) (f : Flow) (d : Data) → is_jump x ≡ false → after x f d ≡ plus f.next 4
goes_on (Jr rs) f d e = absurd (cc)
goes_on (Jalr link) f d e = absurd (cc)
goes_on (J target) f d e = absurd (cc)
goes_on (Jal target) f d e = absurd (cc)
goes_on (BranchIf branch rs rt offset) f d e = absurd (cc)
goes_on (BranchOnZero branch rs offset) f d e = absurd (cc)
goes_on _ f d e = refl

abbrev pub behind_plain : Instr → State → Data → State
behind_plain x s d = record { held = d; flow = led x s.flow (plus s.flow.next 4) }

pub comes_plain : (x : Instr) (s : State) (d : Data) → is_jump x ≡ false → comes_to x s (Done d) ≡ Goes (behind_plain x s d)
comes_plain x s d e =
    ap (λ h. Goes (record { held = h; flow = led x s.flow (after x s.flow s.held) })) (no_link x s.flow.pc d e)
    ∙ ap (λ n. Goes (record { held = d; flow = led x s.flow n })) (goes_on x s.flow s.held e)

pub does_plain : (x : Instr) (s : State) → is_jump x ≡ false → does x s ≡ comes_to x s (effect x s.held)
does_plain x s e = ap (λ b. cond b Stops (comes_to x s (effect x s.held))) (no_stop x e)

-- what it went on to
went_by : (x : Instr) (s t : State) (e : Effect) → is_jump x ≡ false → comes_to x s e ≡ Goes t → (d : Data) × (e ≡ Done d) × (t ≡ behind_plain x s d)
went_by x s t (Done d) ne h = let same : Goes (behind_plain x s d) ≡ Goes t = sym (comes_plain x s d ne) ∙ h in (d, refl, sym (cc))
went_by x s t (Fails c) ne h = absurd (cc)

pub went : (x : Instr) (s t : State) → is_jump x ≡ false → performs x s ≡ Goes t → (d : Data) × (effect x s.held ≡ Done d) × (t ≡ behind_plain x s d)
went x s t ne h = went_by x s t (effect x s.held) ne (sym (does_plain x s ne) ∙ does_on x s t h)

pub plain_goes : (x : Instr) (s : State) (d : Data) → is_jump x ≡ false → touches x s.flow.loaded ≡ false → sets_hilo x ≡ false →
    effect x s.held ≡ Done d → performs x s ≡ Goes (behind_plain x s d)
plain_goes x s d ne clear sets e =
    passes_on x s (and_false (is_jump x) s.flow.delayed ne) clear (and_false (sets_hilo x) (is_recent s.flow.since) sets)
    ∙ does_plain x s ne ∙ ap (comes_to x s) e ∙ comes_plain x s d ne

-- ---- a branch

abbrev pub behind_turn : Instr → State → State
behind_turn b s = record { held = s.held; flow = led b s.flow (cond (is_turned b s.held) (turned_to b s.flow.pc) (plus s.flow.next 4)) }

pub turn_sets : (b : Instr) → is_turn b ≡ true → sets_hilo b ≡ false
turn_sets (J target) e = refl
turn_sets (BranchIf branch rs rt offset) e = refl
turn_sets (BranchOnZero branch rs offset) e = refl
turn_sets _ e = absurd (cc)

pub turn_reads : (b : Instr) → is_turn b ≡ true → reads_hilo b ≡ false
turn_reads (J target) e = refl
turn_reads (BranchIf branch rs rt offset) e = refl
turn_reads (BranchOnZero branch rs offset) e = refl
turn_reads _ e = absurd (cc)

pub turn_loads : (b : Instr) → is_turn b ≡ true → loads b ≡ 0
turn_loads (J target) e = refl
turn_loads (BranchIf branch rs rt offset) e = refl
turn_loads (BranchOnZero branch rs offset) e = refl
turn_loads _ e = absurd (cc)

pub turn_does : (b : Instr) (s : State) → is_turn b ≡ true → does b s ≡ Goes (behind_turn b s)
turn_does (J target) s e = refl
turn_does (BranchIf branch rs rt offset) s e = refl
turn_does (BranchOnZero branch rs offset) s e = refl
turn_does _ s e = absurd (cc)

turn_goes : (b : Instr) (s : State) → is_turn b ≡ true → s.flow.delayed ≡ false → s.flow.loaded ≡ 0 → performs b s ≡ Goes (behind_turn b s)
turn_goes b s e slot load =
    passes_on b s (both_false (is_jump b) s.flow.delayed slot) (ap (touches b) load)
    (and_false (sets_hilo b) (is_recent s.flow.since) (turn_sets b e))
    ∙ turn_does b s e

pub turns_too : (b c : Instr) → is_same_turn b c → is_turn c ≡ true
turns_too (J target) (J other) h = refl
turns_too (BranchIf branch rs rt offset) (BranchIf row a b other) h = refl
turns_too (BranchOnZero branch rs offset) (BranchOnZero row a other) h = refl
turns_too _ _ h = absurd h

-- ---- where HI and LO were read

pub two_later : (since : Since) → later (later since) ≡ LongAgo
two_later JustNow = refl
two_later OneAgo = refl
two_later LongAgo = refl

pub behind_is : (i : Instr) (since : Since) → reads_hilo i ≡ false → behind i since ≡ later since
behind_is i since e = ap (λ b. cond b JustNow (later since)) e

abbrev flow_of : (pc next : ℕ) (delayed : Bool) (loaded : ℕ) (since : Since) → Flow
flow_of pc next delayed loaded since = record { pc = pc; next = next; delayed = delayed; loaded = loaded; since = since }

same_goes : (s t : State) → Goes s ≡ Goes t → s ≡ t
same_goes s t e = cc

-- ---- the swap

module _ (old new : List ℕ) (i j : ℕ) (x b c : Instr) (is : Swaps old new i j x b c) (s t u v w : State) (held : s.held ≡ t.held)
    (here : IsStraight s (pc_of i)) (there : IsStraight t (pc_of j)) (one : plus (pc_of i) 4 ≡ pc_of (i + 1))
    (two : plus (pc_of (i + 1)) 4 ≡ pc_of (i + 2)) (far : plus (pc_of j) 4 ≡ pc_of (j + 1)) (first : MipsStep old s (Goes u))
    (second : MipsStep old u (Goes v)) (third : MipsStep old v (Goes w)) where
  performed : (code : List ℕ) (a z : State) (k : Instr) → word_at code a.flow.pc ≡ Some (word_of k) → MipsStep code a (Goes z) → performs k a ≡ Goes z
  performed code a z k at step = sym (one_next code a (Goes z) (performs k a) step (listed k at refl))

  turns : is_turn c ≡ true
  turns = turns_too b c is.same

  -- the old code's first
  x_went : (d : Data) × (effect x s.held ≡ Done d) × (u ≡ behind_plain x s d)
  x_went = went x s u is.may.no_jump (performed old s u x (ap (word_at old) here.at ∙ is.first) first)

  abbrev d : Data
  d = x_went.0

  u_pc : u.flow.pc ≡ plus (pc_of i) 4
  u_pc = ap (λ (z : State). z.flow.pc) x_went.2 ∙ here.next

  u_next : u.flow.next ≡ plus (plus (pc_of i) 4) 4
  u_next = ap (λ (z : State). z.flow.next) x_went.2 ∙ ap (λ n. plus n 4) here.next

  u_slot : u.flow.delayed ≡ false
  u_slot = ap (λ (z : State). z.flow.delayed) x_went.2 ∙ is.may.no_jump

  u_load : u.flow.loaded ≡ 0
  u_load = ap (λ (z : State). z.flow.loaded) x_went.2 ∙ is.may.no_load

  u_since : u.flow.since ≡ later s.flow.since
  u_since = ap (λ (z : State). z.flow.since) x_went.2 ∙ behind_is x s.flow.since is.may.no_read

  u_held : u.held ≡ d
  u_held = ap (λ (z : State). z.held) x_went.2

  -- its branch
  v_is : v ≡ behind_turn b u
  v_is =
      same_goes v (behind_turn b u)
      (sym (performed old u v b (ap (word_at old) (u_pc ∙ one) ∙ is.second) second) ∙ turn_goes b u is.may.turn u_slot u_load)

  abbrev goal_of_old : ℕ
  goal_of_old = cond (is_turned b u.held) (turned_to b u.flow.pc) (plus u.flow.next 4)

  v_pc : v.flow.pc ≡ pc_of (i + 2)
  v_pc = ap (λ (z : State). z.flow.pc) v_is ∙ u_next ∙ ap (λ n. plus n 4) one ∙ two

  v_since : v.flow.since ≡ LongAgo
  v_since =
      ap (λ (z : State). z.flow.since) v_is ∙ behind_is b u.flow.since (turn_reads b is.may.turn) ∙ ap later u_since ∙ two_later s.flow.since

  -- its no-op
  w_is : w ≡ behind_plain no_op v v.held
  w_is =
      same_goes w (behind_plain no_op v v.held)
      (sym (performed old v w no_op (ap (word_at old) v_pc ∙ is.third) third)
      ∙ plain_goes no_op v v.held refl (ap (touches no_op) (ap (λ (z : State). z.flow.loaded) v_is ∙ turn_loads b is.may.turn)) refl refl)

  w_held : w.held ≡ d
  w_held = ap (λ (z : State). z.held) w_is ∙ ap (λ (z : State). z.held) v_is ∙ u_held

  w_flow : w.flow ≡ resting goal_of_old
  w_flow =
      ap (λ (z : State). z.flow) w_is
      ∙ ap (λ since. flow_of v.flow.next (plus v.flow.next 4) false 0 (later since)) v_since
      ∙ ap (λ (z : State). resting z.flow.next) v_is

  -- the new code's branch
  abbrev m : State
  m = behind_turn c t

  m_step : MipsStep new t (Goes m)
  m_step = listed c (ap (word_at new) there.at ∙ is.turn) (sym (turn_goes c t turns there.no_slot there.no_load))

  abbrev n : State
  n = behind_plain x m d

  n_step : MipsStep new m (Goes n)
  n_step =
      listed x (ap (word_at new) (there.next ∙ far) ∙ is.slot)
      (sym (plain_goes x m d is.may.no_jump (ap (touches x) (turn_loads c turns)) is.may.no_set (ap (effect x) (sym held) ∙ x_went.1)))

  abbrev goal_of_new : ℕ
  goal_of_new = cond (is_turned c t.held) (turned_to c t.flow.pc) (plus t.flow.next 4)

  m_since : behind x (behind c t.flow.since) ≡ LongAgo
  m_since =
      behind_is x (behind c t.flow.since) is.may.no_read ∙ ap later (behind_is c t.flow.since (turn_reads c turns)) ∙ two_later t.flow.since

  n_flow : n.flow ≡ resting goal_of_new
  n_flow =
      ap (λ delayed. flow_of goal_of_new (plus goal_of_new 4) delayed (loads x) (behind x (behind c t.flow.since))) is.may.no_jump
      ∙ ap (λ loaded. flow_of goal_of_new (plus goal_of_new 4) false loaded (behind x (behind c t.flow.since))) is.may.no_load
      ∙ ap (λ since. flow_of goal_of_new (plus goal_of_new 4) false 0 since) m_since

  -- both are taken, or neither is
  same_turn : is_turned b u.held ≡ is_turned c t.held
  same_turn =
      ap (is_turned b) u_held ∙ turned_same b c s.held d (writes x) is.same (keeps x s.held d x_went.1) is.may.other ∙ ap (is_turned c) held

  held_so : w.held ≡ n.held
  held_so = w_held

  by : (p q : Bool) → is_turned b u.held ≡ p → is_turned c t.held ≡ p → Rejoins i j b c w n
  by true q e f = inr (record {
    held = held_so;
    old_at = w_flow ∙ ap (λ z. resting (cond z (turned_to b u.flow.pc) (plus u.flow.next 4))) e ∙ ap (λ pc. resting (turned_to b pc)) u_pc;
    new_at = n_flow ∙ ap (λ z. resting (cond z (turned_to c t.flow.pc) (plus t.flow.next 4))) f ∙ ap (λ pc. resting (turned_to c pc)) there.at;
  })
  by false q e f = inl (record {
    held = held_so;
    old_at = w_flow ∙ ap (λ z. resting (cond z (turned_to b u.flow.pc) (plus u.flow.next 4))) e ∙ ap (λ pc. resting (plus pc 4)) u_next;
    new_at = n_flow ∙ ap (λ z. resting (cond z (turned_to c t.flow.pc) (plus t.flow.next 4))) f ∙ ap (λ pc. resting (plus pc 4)) there.next;
  })

  rejoins : Rejoins i j b c w n
  rejoins = by (is_turned b u.held) true refl (sym same_turn)

  pub swapped : (m n : State) × MipsStep new t (Goes m) × MipsStep new m (Goes n) × (m.held ≡ t.held) × Rejoins i j b c w n
  swapped = (m, n, m_step, n_step, refl, rejoins)

pub swap_rejoins : SwapRejoins
swap_rejoins old new i j x b c is s t u v w held here there one two far first second third =
    swapped old new i j x b c is s t u v w held here there one two far first second third
