-- An instruction changes no register but the one that it writes, and a branch looks at the registers that it reads.
use Rattle.std.proofs.Common.{◌≡◌, ◌≢◌, ◌⊎◌, ℕ, Bool, true, false, cond, List, Option, Some, None, refl, sym, ap, ◌∙◌, arith, inl, inr}
use Rattle.std.proofs.Common.{⊎_elim}
use Rattle.std.specs.Prelude.{slice_set, ◌==◌, ◌||◌, ◌&&◌, not}
use Rattle.std.proofs.lemmas.Bool.Decides.{nat_tests}
use Rattle.std.proofs.lemmas.List.{get_or-set_other}
use Rattle.ec_target.specs.declared.outcome.Cause.{Cause}
use Rattle.mips_isa.specs.declared.field.Register.{Register}
use Rattle.mips_isa.specs.declared.instr.Instr.{Instr}
use Rattle.mips_isa.specs.declared.instr.Instr.TheVariants.{OnShift, OnVariableShift, OnRegisters, OnHiLo, ReadHiLo, WriteHiLo, Jr}
use Rattle.mips_isa.specs.declared.instr.Instr.TheVariants.{Jalr, Syscall, J, Jal, BranchIf, BranchOnZero, OnImmediate, Lui}
use Rattle.mips_isa.specs.declared.instr.Instr.TheVariants.{LoadFrom, StoreTo}
use Rattle.mips_isa.specs.declared.instr.MoveTo.{MoveTo}
use Rattle.mips_isa.specs.declared.instr.MoveTo.TheVariants.{Mthi, Mtlo}
use Rattle.mips_machine.specs.Hazards.{writes}
use Rattle.mips_machine.specs.Step.{Data, Effect, Done, Fails, effect, written, loaded_to, stored, read, register_of, with_hilo}
use Rattle.mips_machine.specs.Step.{with_register}
use Rattle.mips_machine.specs.Values.{is_taken, is_zero_taken}
use Rattle.mips_delay.specs.Swap.{is_read_of, is_same_turn, is_turned}

-- a register other than w holds what it did; every one where w is register 0
abbrev pub Keeps : Data → Data → ℕ → Type 0
Keeps d e w = (r : Register) → ((w == 0) ≡ true) ⊎ ((r.number == w) ≡ false) → read e r ≡ read d r

done_same : (d e : Data) → Done d ≡ Done e → d ≡ e
done_same d e h = cc

same_keeps : (d e : Data) (w : ℕ) → d.registers ≡ e.registers → Keeps d e w
same_keeps d e w h r ne = ap (λ l. register_of l r.number) (sym h)

in_register : (l : List ℕ) (rd r : Register) (v : ℕ) → (r.number == rd.number) ≡ false →
    register_of (with_register l rd.number v) r.number ≡ register_of l r.number
in_register l rd r v ne = by_zero (rd.number == 0)
  where
    apart : r.number ≢ rd.number
    apart e = (let f : ⊥ = grind (arith, nat_tests) in f)

    by_zero : (b : Bool) → register_of (cond b l (slice_set l rd.number v)) r.number ≡ register_of l r.number
    by_zero true = refl
    by_zero false = ap (λ x. cond (r.number == 0) 0 x) (get_or-set_other l rd.number r.number v 0 apart)

written_keeps : (d e : Data) (rd : Register) (v : ℕ) → written d rd v ≡ Done e → Keeps d e rd.number
written_keeps d e rd v h r ne =
    let made : Data = record { registers = with_register d.registers rd.number v; hi = d.hi; lo = d.lo; bytes = d.bytes } in
    ap (λ (x : Data). read x r) (sym (done_same made e h))
    ∙ ⊎_elim
    (λ (zero : (rd.number == 0) ≡ true). ap (λ b. register_of (cond b d.registers (slice_set d.registers rd.number v)) r.number) zero)
    (λ (other : (r.number == rd.number) ≡ false). in_register d.registers rd r v other)
    ne

-- a test that may fail first
unless : (b : Bool) (c : Cause) (f : Effect) (e : Data) → cond b (Fails c) f ≡ Done e → f ≡ Done e
unless true c f e h = absurd (cc)
unless false c f e h = h

where_so : (b : Bool) (c : Cause) (f : Effect) (e : Data) → cond b f (Fails c) ≡ Done e → f ≡ Done e
where_so true c f e h = h
where_so false c f e h = absurd (cc)

loads_keeps : (d e : Data) (rt : Register) (o : Option ℕ) → loaded_to d rt o ≡ Done e → Keeps d e rt.number
loads_keeps d e rt None h = absurd (cc)
loads_keeps d e rt (Some n) h = written_keeps d e rt n h

stores_keeps : (d e : Data) (at : ℕ) (bs : List ℕ) (b : Bool) → stored d at bs b ≡ Done e → d.registers ≡ e.registers
stores_keeps d e at bs true h = ap (λ (x : Data). x.registers) (done_same _ e h)
stores_keeps d e at bs false h = absurd (cc)

sets_keeps : (d e : Data) (b : Bool) (c : Cause) (hi lo : ℕ) → cond b (Fails c) (Done (record d { hi = hi; lo = lo })) ≡ Done e →
    d.registers ≡ e.registers
sets_keeps d e true c hi lo h = absurd (cc)
sets_keeps d e false c hi lo h = ap (λ (x : Data). x.registers) (done_same _ e h)

hilo_keeps : (d e : Data) (to : MoveTo) (v : ℕ) → Done (with_hilo to d v) ≡ Done e → d.registers ≡ e.registers
hilo_keeps d e Mthi v h = ap (λ (x : Data). x.registers) (done_same _ e h)
hilo_keeps d e Mtlo v h = ap (λ (x : Data). x.registers) (done_same _ e h)

jump_keeps : (d e : Data) → Done d ≡ Done e → d.registers ≡ e.registers
jump_keeps d e h = ap (λ (x : Data). x.registers) (done_same d e h)

pub keeps : (x : Instr) (d e : Data) → effect x d ≡ Done e → Keeps d e (writes x)
keeps (OnShift shift rd rt amount) d e h = written_keeps d e rd _ h
keeps (OnVariableShift shift rd rt rs) d e h = written_keeps d e rd _ h
keeps (OnRegisters operation rd rs rt) d e h = written_keeps d e rd _ (unless _ _ _ e h)
keeps (OnHiLo operation rs rt) d e h = same_keeps d e 0 (sets_keeps d e _ _ _ _ h)
keeps (ReadHiLo from rd) d e h = written_keeps d e rd _ h
keeps (WriteHiLo to rs) d e h = same_keeps d e 0 (hilo_keeps d e to _ h)
keeps (Jr rs) d e h = same_keeps d e 0 (jump_keeps d e h)
keeps (Jalr link) d e h = same_keeps d e link.rd.number (jump_keeps d e h)
keeps Syscall d e h = same_keeps d e 0 (jump_keeps d e h)
keeps (J target) d e h = same_keeps d e 0 (jump_keeps d e h)
keeps (Jal target) d e h = same_keeps d e 31 (jump_keeps d e h)
keeps (BranchIf branch rs rt offset) d e h = same_keeps d e 0 (jump_keeps d e h)
keeps (BranchOnZero branch rs offset) d e h = same_keeps d e 0 (jump_keeps d e h)
keeps (OnImmediate operation rt rs number) d e h = written_keeps d e rt _ (unless _ _ _ e h)
keeps (Lui rt number) d e h = written_keeps d e rt _ h
keeps (LoadFrom load rt rs offset) d e h = loads_keeps d e rt _ (where_so _ _ _ e h)
keeps (StoreTo store rt rs offset) d e h = same_keeps d e 0 (stores_keeps d e _ _ _ (where_so _ _ _ e h))

-- what isn't read is register 0, or none of the two
unread : (z a b : Bool) → (not z && (a || b)) ≡ false → (z ≡ true) ⊎ ((a ≡ false) × (b ≡ false))
unread true a b h = inl refl
unread false true b h = absurd (cc)
unread false false true h = absurd (cc)
unread false false false h = inr (refl, refl)

pub turned_same : (b c : Instr) (d e : Data) (w : ℕ) → is_same_turn b c → Keeps d e w → is_read_of b w ≡ false →
    is_turned b e ≡ is_turned c d
turned_same (BranchIf branch rs rt offset) (BranchIf row x y other) d e w (f, g, i) k h =
    let t = unread (w == 0) (rs.number == w) (rt.number == w) h in
    let one : read e rs ≡ read d rs = k rs (⊎_elim (λ z. inl z) (λ (p : ((rs.number == w) ≡ false) × ((rt.number == w) ≡ false)). inr p.0) t) in
    let two : read e rt ≡ read d rt = k rt (⊎_elim (λ z. inl z) (λ (p : ((rs.number == w) ≡ false) × ((rt.number == w) ≡ false)). inr p.1) t) in
    ap (λ v. is_taken branch v (read e rt)) one ∙ ap (λ v. is_taken branch (read d rs) v) two
    ∙ ap (λ q. is_taken q (read d rs) (read d rt)) f ∙ ap (λ q. is_taken row (read d q) (read d rt)) g
    ∙ ap (λ q. is_taken row (read d x) (read d q)) i
turned_same (BranchOnZero branch rs offset) (BranchOnZero row x other) d e w (f, g) k h =
    let t = unread (w == 0) (rs.number == w) (0 == w) h in
    let one : read e rs ≡ read d rs = k rs (⊎_elim (λ z. inl z) (λ (p : ((rs.number == w) ≡ false) × ((0 == w) ≡ false)). inr p.0) t) in
    ap (λ v. is_zero_taken branch v) one ∙ ap (λ q. is_zero_taken q (read d rs)) f ∙ ap (λ q. is_zero_taken row (read d q)) g
turned_same (J target) (J other) d e w same k h = refl
turned_same _ _ d e w same k h = absurd same
