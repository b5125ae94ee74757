-- What stands in a code around needless no-ops, and where these are.
use Rattle.std.proofs.Common.{◌≡◌, ◌⊎◌, ℕ, zero, suc, Bool, true, false, List, Some, refl, sym, ap, ◌∙◌, subst, inl, inr, ⊎_elim, arith}
use Rattle.std.proofs.lemmas.Bool.Decides.{nat_tests}
use Rattle.std.proofs.lemmas.Option.{same_Some}
use Rattle.std.specs.Prelude.{◌==◌, ◌||◌, not}
use Rattle.ec_target.specs.Code.{pc_of, word_at}
use Rattle.mips_delay.proofs.Kept.{not_true}
use Rattle.mips_delay.proofs.Order.{GoApart}
use Rattle.mips_delay.proofs.Runs.{stop_word}
use Rattle.mips_delay.proofs.Standing.{clash, one_there}
use Rattle.mips_delay.proofs.Swap.{both_false, no_op, turns_too}
use Rattle.mips_delay.specs.Fillable.{GoesTo, StandsAt, is_load}
use Rattle.mips_delay.specs.Places.{Retargets, drops, place}
use Rattle.mips_delay.specs.Swap.{is_turn}
use Rattle.mips_waits.specs.Waits.{BehindLoad, BehindRead, IsOfRead, LeavesHiLo}
use Rattle.mips_waits.specs.Words.{SkipsWords}
use Rattle.mips_isa.specs.OneWord.{one_word}
use Rattle.mips_isa.specs.Words.{word_of}
use Rattle.mips_isa.specs.declared.instr.Instr.{Instr}
use Rattle.mips_isa.specs.declared.instr.Instr.TheVariants.{LoadFrom, ReadHiLo}
use Rattle.mips_machine.specs.Hazards.{loads, reads_hilo, touches}

pub read_loads : (x : Instr) → reads_hilo x ≡ true → loads x ≡ 0
read_loads (ReadHiLo from rd) e = refl
read_loads _ e = absurd (cc)

pub read_turns : (x : Instr) → reads_hilo x ≡ true → is_turn x ≡ false
read_turns (ReadHiLo from rd) e = refl
read_turns _ e = absurd (cc)

pub load_turns : (x : Instr) → is_load x ≡ true → is_turn x ≡ false
load_turns (LoadFrom load rt rs offset) e = refl
load_turns _ e = absurd (cc)

pub load_reads : (x : Instr) → is_load x ≡ true → reads_hilo x ≡ false
load_reads (LoadFrom load rt rs offset) e = refl
load_reads _ e = absurd (cc)

-- a no-op touches no register
pub nothing_touches : (r : ℕ) → touches no_op r ≡ false
nothing_touches zero = refl
nothing_touches (suc r) =
    let other : (0 == suc r) ≡ false = grind (arith, nat_tests) in
    both_false (not (suc r == 0)) ((0 == suc r) || ((0 == suc r) || (0 == suc r))) (ap (λ b. b || (b || b)) other)

module _ (old : List ℕ) where
  nothing_there : (i : ℕ) (x : Instr) → StandsAt old i x → word_at old (pc_of i) ≡ Some 0 → x ≡ no_op
  nothing_there i x at e = one_word x no_op (same_Some (word_of x) 0 (sym at ∙ e))

  -- a no-op is no read, and no load,
  no_read_there : (i : ℕ) (x : Instr) → StandsAt old i x → reads_hilo x ≡ true → word_at old (pc_of i) ≡ Some 0 → ⊥
  no_read_there i x at reads e = clash (reads_hilo x) reads (ap reads_hilo (nothing_there i x at e))

  no_load_there : (i : ℕ) (x : Instr) → StandsAt old i x → is_load x ≡ true → word_at old (pc_of i) ≡ Some 0 → ⊥
  no_load_there i x at is e = clash (is_load x) is (ap is_load (nothing_there i x at e))

  -- and no load is a read
  not_both : (i : ℕ) (x y : Instr) → StandsAt old i x → StandsAt old i y → is_load x ≡ true → reads_hilo y ≡ true → ⊥
  not_both i x y at too is reads = clash (reads_hilo y) reads (ap reads_hilo (one_there old i y x too at) ∙ load_reads x is)

  of_read_is_nothing : (j : ℕ) → IsOfRead old j → word_at old (pc_of (suc (suc j))) ≡ Some 0
  of_read_is_nothing j r = ⊎_elim
      (λ (n : BehindRead old j). n.second)
      (λ (z : (m : ℕ) × (j ≡ suc m) × BehindRead old m). ap (λ k. word_at old (pc_of (suc (suc k)))) z.1 ∙ z.2.third)
      r

  -- behind a no-op of a load is none of a read
  pub load_then_read : (j k : ℕ) → BehindLoad old j → suc (suc (suc j)) ≡ suc (suc k) → IsOfRead old k → ⊥
  load_then_read j k l e r =
      let one : k ≡ suc j = omega (arith, e) in
      ⊎_elim
      (λ (n : BehindRead old k).
      no_read_there (suc (suc j)) n.read (subst (λ i. StandsAt old (suc i) n.read) one n.first) n.reads l.second)
      (λ (z : (m : ℕ) × (k ≡ suc m) × BehindRead old m).
      let same : z.0 ≡ j = let is = z.1 in omega (arith, one, is) in
      not_both (suc j) l.load z.2.read l.first (subst (λ i. StandsAt old (suc i) z.2.read) same z.2.first) l.is_load z.2.reads)
      r

module _ (old new : List ℕ) (skips : ℕ → Bool) (F : SkipsWords old new skips) where
  -- a word that goes is a no-op
  pub gone_is_nothing : (i : ℕ) → drops skips i ≡ true → word_at old (pc_of i) ≡ Some 0
  gone_is_nothing zero h = absurd (cc)
  gone_is_nothing (suc zero) h = absurd (cc)
  gone_is_nothing (suc (suc j)) h = ⊎_elim
      (λ (r : IsOfRead old j). of_read_is_nothing old j r)
      (λ (l : BehindLoad old j). l.second)
      (F.each j h)

  no_read_goes : (i : ℕ) (x : Instr) → StandsAt old i x → reads_hilo x ≡ true → drops skips i ≡ true → ⊥
  no_read_goes i x at reads h = no_read_there old i x at reads (gone_is_nothing i h)

  no_load_goes : (i : ℕ) (x : Instr) → StandsAt old i x → is_load x ≡ true → drops skips i ≡ true → ⊥
  no_load_goes i x at is h = no_load_there old i x at is (gone_is_nothing i h)

  -- behind a word that goes is no no-op of a load
  pub gone_then_load : (i j : ℕ) → drops skips i ≡ true → suc i ≡ suc (suc j) → BehindLoad old j → ⊥
  gone_then_load i j h e l =
      let same : suc j ≡ i = omega (arith, e) in
      no_load_goes i l.load (subst (λ k. StandsAt old k l.load) same l.first) l.is_load h

  -- what stands before the first of two behind a read is the read
  pub read_before : (i j : ℕ) → drops skips i ≡ false → suc i ≡ suc (suc j) → IsOfRead old j → (x : Instr) × StandsAt old i x × (reads_hilo x ≡ true)
  read_before i j stays e r =
      let same : suc j ≡ i = omega (arith, e) in
      ⊎_elim
      (λ (n : BehindRead old j). (n.read, subst (λ k. StandsAt old k n.read) same n.first, n.reads))
      (λ (z : (m : ℕ) × (j ≡ suc m) × BehindRead old m).
      absurd (clash (drops skips i) (ap (drops skips) (sym same ∙ ap suc z.1) ∙ F.all z.0 (inl (inl z.2))) stays))
      r

  -- so it is no jump
  no_turn_before : (j : ℕ) → drops skips (suc j) ≡ false → skips j ≡ true → (x : Instr) × StandsAt old (suc j) x × (is_turn x ≡ false)
  no_turn_before j stays h = ⊎_elim
      (λ (r : IsOfRead old j). let z = read_before (suc j) j stays refl r in (z.0, z.1, read_turns z.0 z.2))
      (λ (l : BehindLoad old j). (l.load, l.first, load_turns l.load l.is_load))
      (F.each j h)

  pub turn_goes_on : (i : ℕ) (x : Instr) → drops skips i ≡ false → StandsAt old i x → is_turn x ≡ true → drops skips (suc i) ≡ false
  turn_goes_on zero x stays at turns = refl
  turn_goes_on (suc j) x stays at turns = not_true (skips j) (λ h.
      let z = no_turn_before j stays h in
      clash (is_turn x) turns (ap is_turn (one_there old (suc j) x z.0 at z.1) ∙ z.2))

  -- no jump goes to a word that goes
  pub target_stays : (k : ℕ) → GoesTo old k → drops skips k ≡ false
  target_stays zero g = refl
  target_stays (suc zero) g = refl
  target_stays (suc (suc j)) g = not_true (skips j) (λ h. ⊎_elim
      (λ (r : IsOfRead old j). ⊎_elim
      (λ (n : BehindRead old j). (n.unled (suc (suc j)) g).0 refl)
      (λ (z : (m : ℕ) × (j ≡ suc m) × BehindRead old m). (z.2.unled (suc (suc j)) g).1 (ap (λ k. suc (suc k)) z.1))
      r)
      (λ (l : BehindLoad old j). l.unled (suc (suc j)) g refl)
      (F.each j h))

  -- two words in a row go, and no more
  pub go_apart : GoApart skips
  go_apart zero h k = absurd (cc)
  go_apart (suc zero) h k = absurd (cc)
  go_apart (suc (suc j)) h k = not_true (drops skips (suc (suc (suc (suc j))))) (λ l. ⊎_elim
      (λ (r : IsOfRead old (suc (suc j))). ⊎_elim
      (λ (n : BehindRead old (suc (suc j))). no_read_goes (suc (suc (suc j))) n.read n.first n.reads k)
      (λ (z : (m : ℕ) × (suc (suc j) ≡ suc m) × BehindRead old m).
      no_read_goes (suc (suc j)) z.2.read (subst (λ i. StandsAt old i z.2.read) (sym z.1) z.2.first) z.2.reads h)
      r)
      (λ (n : BehindLoad old (suc (suc j))). no_load_goes (suc (suc (suc j))) n.load n.first n.is_load k)
      (F.each (suc (suc j)) l))

  -- what is behind a no-op of a read: the second one, or what leaves HI and LO alone
  pub behind_read : (j : ℕ) → IsOfRead old j → (drops skips (suc (suc (suc j))) ≡ true) ⊎ LeavesHiLo old (suc (suc (suc j)))
  behind_read j r = ⊎_elim
      (λ (n : BehindRead old j). inl (F.all (suc j) (inl (inr (j, refl, n)))))
      (λ (z : (m : ℕ) × (j ≡ suc m) × BehindRead old m).
      inr (subst (λ k. LeavesHiLo old (suc (suc (suc k)))) (sym z.1) z.2.free))
      r

  -- ---- stops

  pub stop_stays : (i : ℕ) → word_at old (pc_of i) ≡ Some stop_word → drops skips i ≡ false
  stop_stays i at = not_true (drops skips i) (λ h. let e = same_Some stop_word 0 (sym at ∙ gone_is_nothing i h) in (cc))

  -- an instruction that is no branch stands where it went
  pub plain_kept : (i : ℕ) (x : Instr) → drops skips i ≡ false → StandsAt old i x → is_turn x ≡ false → StandsAt new (place skips i) x
  plain_kept i x stays at plain =
      let k = F.kept i (word_of x) stays at in
      k.1 ∙ ap Some (⊎_elim
      (λ (r : Retargets skips i (place skips i) (word_of x) k.0).
      absurd (clash (is_turn r.branch) r.turns (ap is_turn (sym (one_word x r.branch r.was)) ∙ plain)))
      (λ (q : (k.0 ≡ word_of x) × ((b : Instr) → word_of x ≡ word_of b → is_turn b ≡ false)). q.0)
      k.2)

  -- what stood where a word of the new code comes from: the same, or a branch that leads along
  pub record Was (i : ℕ) (y : Instr) : Type 0 where
    pub was : Instr
    pub at : StandsAt old i was
    pub same : ((is_turn was ≡ true) × (is_turn y ≡ true)) ⊎ (was ≡ y)

  pub was_at : (i w : ℕ) (y : Instr) → drops skips i ≡ false → word_at old (pc_of i) ≡ Some w → StandsAt new (place skips i) y → Was i y
  was_at i w y stays at stands =
      let k = F.kept i w stays at in
      let same : k.0 ≡ word_of y = same_Some k.0 (word_of y) (sym k.1 ∙ stands) in
      ⊎_elim
      (λ (r : Retargets skips i (place skips i) w k.0).
      let led : r.led ≡ y = one_word r.led y (sym r.is ∙ same) in
      record {
        was = r.branch;
        at = at ∙ ap Some r.was;
        same = inl (r.turns, ap is_turn (sym led) ∙ turns_too r.branch r.led r.same);
      })
      (λ (q : (k.0 ≡ w) × ((b : Instr) → w ≡ word_of b → is_turn b ≡ false)).
      record { was = y; at = at ∙ ap Some (sym q.0 ∙ same); same = inr refl })
      k.2
