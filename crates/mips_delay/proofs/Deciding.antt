-- What the program looks at is what makes a place fillable.
use Rattle.std.proofs.Common.{◌≡◌, ◌≢◌, ℕ, suc, ◌+◌, ◌<◌, Bool, true, false, List, length, Some, refl, sym, ap, ◌∙◌}
use Rattle.std.proofs.Common.{arith}
use Rattle.std.proofs.lemmas.Option.{same_Some}
use Rattle.std.specs.Prelude.{◌&&◌, ◌||◌, not, slice_index}
use Rattle.ec_target.proofs.Places.{word_at-pc_of}
use Rattle.ec_target.specs.Code.{pc_of, word_at}
use Rattle.mips_delay.proofs.Standing.{low_of}
use Rattle.mips_delay.specs.Choice.{has_hold, is_movable, may_move}
use Rattle.mips_delay.specs.Fillable.{Fillable, GoesTo, StandsAt, has_slot, is_load}
use Rattle.mips_delay.specs.Swap.{MayFill, is_read_of, is_turn}
use Rattle.mips_isa.specs.Words.{word_of}
use Rattle.mips_isa.specs.declared.instr.Instr.{Instr}
use Rattle.mips_isa.specs.declared.instr.Instr.TheVariants.{OnShift, OnVariableShift, OnRegisters, OnHiLo, ReadHiLo, WriteHiLo, Jr}
use Rattle.mips_isa.specs.declared.instr.Instr.TheVariants.{Jalr, Syscall, J, Jal, BranchIf, BranchOnZero, OnImmediate, Lui}
use Rattle.mips_isa.specs.declared.instr.Instr.TheVariants.{LoadFrom, StoreTo}
use Rattle.mips_machine.specs.Hazards.{is_jump, loads, reads_hilo, sets_hilo, writes}

-- ---- one instruction

record Movable (x : Instr) : Type 0 where
  no_jump : is_jump x ≡ false
  no_load : loads x ≡ 0
  no_set : sets_hilo x ≡ false
  no_read : reads_hilo x ≡ false
  none : is_load x ≡ false

movable_is : (x : Instr) → is_movable x ≡ true → Movable x
movable_is (OnShift shift rd rt amount) e = record { no_jump = refl; no_load = refl; no_set = refl; no_read = refl; none = refl }
movable_is (OnVariableShift shift rd rt rs) e = record { no_jump = refl; no_load = refl; no_set = refl; no_read = refl; none = refl }
movable_is (OnRegisters operation rd rs rt) e = record { no_jump = refl; no_load = refl; no_set = refl; no_read = refl; none = refl }
movable_is (OnImmediate operation rt rs number) e = record { no_jump = refl; no_load = refl; no_set = refl; no_read = refl; none = refl }
movable_is (Lui rt number) e = record { no_jump = refl; no_load = refl; no_set = refl; no_read = refl; none = refl }
movable_is (StoreTo store rt rs offset) e = record { no_jump = refl; no_load = refl; no_set = refl; no_read = refl; none = refl }
movable_is _ e = absurd (cc)

is_movable_so : (x : Instr) → is_jump x ≡ false → sets_hilo x ≡ false → reads_hilo x ≡ false → is_load x ≡ false → is_movable x ≡ true
is_movable_so (OnHiLo operation rs rt) a b c d = absurd (cc)
is_movable_so (ReadHiLo from rd) a b c d = absurd (cc)
is_movable_so (WriteHiLo to rs) a b c d = absurd (cc)
is_movable_so (Jr rs) a b c d = absurd (cc)
is_movable_so (Jalr link) a b c d = absurd (cc)
is_movable_so Syscall a b c d = absurd (cc)
is_movable_so (J target) a b c d = absurd (cc)
is_movable_so (Jal target) a b c d = absurd (cc)
is_movable_so (BranchIf branch rs rt offset) a b c d = absurd (cc)
is_movable_so (BranchOnZero branch rs offset) a b c d = absurd (cc)
is_movable_so (LoadFrom load rt rs offset) a b c d = absurd (cc)
is_movable_so _ a b c d = refl

three_true : (a b c : Bool) → (a && b && not c) ≡ true → (a ≡ true) × (b ≡ true) × (c ≡ false)
three_true true true false e = (refl, refl, refl)
three_true true true true e = absurd (cc)
three_true true false c e = absurd (cc)
three_true false b c e = absurd (cc)

all_true : (a b c : Bool) → a ≡ true → b ≡ true → c ≡ false → (a && b && not c) ≡ true
all_true true true false e f g = refl
all_true true true true e f g = absurd (cc)
all_true true false c e f g = absurd (cc)
all_true false b c e f g = absurd (cc)

pub may_of : (x b : Instr) → may_move x b ≡ true → MayFill x b × (is_load x ≡ false)
may_of x b e =
    let z = three_true (is_movable x) (is_turn b) (is_read_of b (writes x)) e in
    let m = movable_is x z.0 in (
      record { no_jump = m.no_jump; no_load = m.no_load; no_set = m.no_set; no_read = m.no_read; turn = z.1; other = z.2 },
      m.none,
    )

pub move_of : (x b : Instr) → MayFill x b → is_load x ≡ false → may_move x b ≡ true
move_of x b may load =
    all_true (is_movable x) (is_turn b) (is_read_of b (writes x)) (is_movable_so x may.no_jump may.no_set may.no_read load)
    may.turn may.other

none_of : (a b : Bool) → (a || b) ≡ false → (a ≡ false) × (b ≡ false)
none_of true b e = absurd (cc)
none_of false b e = (refl, e)

of_none : (a b : Bool) → a ≡ false → b ≡ false → (a || b) ≡ false
of_none true b e f = absurd (cc)
of_none false b e f = f

-- ---- one place

-- what the program looks at
pub record Looks (code : List ℕ) (j : ℕ) : Type 0 where
  pub some : slice_index code j ≢ 0
  pub nothing : slice_index code (j + 2) ≡ 0
  pub free : (i : ℕ) (x : Instr) → i + 1 ≡ j → word_of x ≡ slice_index code i → has_hold x ≡ false
  pub fits : (x b : Instr) × (word_of x ≡ slice_index code j) × (word_of b ≡ slice_index code (j + 1)) × (may_move x b ≡ true)
  pub unled : (k : ℕ) → GoesTo code k → (k ≢ j) × (k ≢ j + 1) × (k ≢ j + 2)

pub is_at : (code : List ℕ) (i w : ℕ) → word_at code (pc_of i) ≡ Some w → slice_index code i ≡ w
is_at code i w at = same_Some (slice_index code i) w (sym (word_at-pc_of code i (low_of code i w at)) ∙ at)

pub looks_fillable : (code : List ℕ) (j : ℕ) → j + 2 < length code → Looks code j → Fillable code j
looks_fillable code j low l =
    let z = l.fits in
    let one : suc j ≡ j + 1 = omega arith in
    let two : suc (suc j) ≡ j + 2 = omega arith in
    let may = may_of z.0 z.1 z.4 in
    record {
      moves = z.0;
      branch = z.1;
      first = word_at-pc_of code j (omega (arith, low)) ∙ ap Some (sym z.2);
      second = ap (λ k. word_at code (pc_of k)) one ∙ word_at-pc_of code (j + 1) (omega (arith, low)) ∙ ap Some (sym z.3);
      third = ap (λ k. word_at code (pc_of k)) two ∙ word_at-pc_of code (j + 2) low ∙ ap Some l.nothing;
      may = may.0;
      no_load = may.1;
      no_nothing = λ e. l.some (sym z.2 ∙ e);
      free = λ i x e at.
          let f : i + 1 ≡ j = omega (arith, e) in
          none_of (has_slot x) (is_load x) (l.free i x f (sym (is_at code i (word_of x) at)));
      unled = λ k g. let u = l.unled k g in (u.0, λ e. u.1 (e ∙ one), λ e. u.2 (e ∙ two));
    }

pub fillable_low : (code : List ℕ) (j : ℕ) → Fillable code j → j + 2 < length code
fillable_low code j f = let low = low_of code (suc (suc j)) 0 f.third in omega (arith, low)

pub fillable_looks : (code : List ℕ) (j : ℕ) → Fillable code j → Looks code j
fillable_looks code j f =
    let one : suc j ≡ j + 1 = omega arith in
    let two : suc (suc j) ≡ j + 2 = omega arith in
    let low = fillable_low code j f in
    record {
      some = λ e. f.no_nothing (sym (is_at code j (word_of f.moves) f.first) ∙ e);
      nothing = is_at code (j + 2) 0 (ap (λ k. word_at code (pc_of k)) (sym two) ∙ f.third);
      free = λ i x e is.
          let at : StandsAt code i x = word_at-pc_of code i (omega (arith, low, e)) ∙ ap Some (sym is) in
          let z = f.free i x (omega (arith, e)) at in
          of_none (has_slot x) (is_load x) z.0 z.1;
      fits = (
        f.moves,
        f.branch,
        sym (is_at code j (word_of f.moves) f.first),
        sym (is_at code (j + 1) (word_of f.branch) (ap (λ k. word_at code (pc_of k)) (sym one) ∙ f.second)),
        move_of f.moves f.branch f.may f.no_load,
      );
      unled = λ k g. let u = f.unled k g in (u.0, λ e. u.1 (e ∙ sym one), λ e. u.2 (e ∙ sym two));
    }
