-- What the program looks at is what makes a no-op needless.
use Rattle.std.proofs.Common.{◌≡◌, ◌≢◌, ℕ, suc, ◌+◌, ◌-◌, ◌<◌, ◌≤◌, Bool, true, false, List, length, Some, refl, sym, ap, ◌∙◌}
use Rattle.std.proofs.Common.{subst, inl, inr, arith}
use Rattle.std.specs.Prelude.{slice_index}
use Rattle.ec_target.proofs.Places.{word_at-pc_of}
use Rattle.ec_target.specs.Code.{pc_of, word_at}
use Rattle.mips_delay.proofs.Deciding.{is_at}
use Rattle.mips_delay.proofs.Standing.{low_of}
use Rattle.mips_delay.specs.Fillable.{GoesTo, StandsAt, is_load}
use Rattle.mips_waits.specs.Waits.{BehindLoad, BehindRead, IsNeedless, IsOfRead, LeavesHiLo, LeavesRegister, WritesNeither}
use Rattle.mips_isa.specs.Words.{word_of}
use Rattle.mips_isa.specs.declared.instr.Instr.{Instr}
use Rattle.mips_machine.specs.Hazards.{loads, reads_hilo}

-- ---- what stands at a word

pub stands_of : (code : List ℕ) (i : ℕ) (x : Instr) → i < length code → word_of x ≡ slice_index code i → StandsAt code i x
stands_of code i x low is = word_at-pc_of code i low ∙ ap Some (sym is)

pub word_of_stands : (code : List ℕ) (i : ℕ) (x : Instr) → StandsAt code i x → word_of x ≡ slice_index code i
word_of_stands code i x at = sym (is_at code i (word_of x) at)

-- behind the last word nothing stands
pub none_stands : (code : List ℕ) (i : ℕ) → length code ≤ i → WritesNeither code i
none_stands code i high x at = let low = low_of code i (word_of x) at in absurd (omega (arith, low, high))

pub not_set : (b : Bool) → (b ≡ true → ⊥) → b ≡ false
not_set true h = absurd (h refl)
not_set false h = refl

-- ---- one place

-- what the program looks at
pub record Looks (code : List ℕ) (j : ℕ) : Type 0 where
  pub reads : (x : Instr) × (word_of x ≡ slice_index code (j + 1)) × (reads_hilo x ≡ true)
  pub second : slice_index code (j + 2) ≡ 0
  pub third : slice_index code (j + 3) ≡ 0
  pub unled : (k : ℕ) → GoesTo code k → (k ≢ j + 2) × (k ≢ j + 3)
  pub free : LeavesHiLo code (j + 4)

pub looks_read : (code : List ℕ) (j : ℕ) → j + 3 < length code → Looks code j → BehindRead code j
looks_read code j low l =
    let z = l.reads in
    let one : suc j ≡ j + 1 = omega arith in
    let two : suc (suc j) ≡ j + 2 = omega arith in
    let three : suc (suc (suc j)) ≡ j + 3 = omega arith in
    let four : suc (suc (suc (suc j))) ≡ j + 4 = omega arith in
    record {
      read = z.0;
      first = ap (λ k. word_at code (pc_of k)) one ∙ stands_of code (j + 1) z.0 (omega (arith, low)) z.1;
      reads = z.2;
      second = ap (λ k. word_at code (pc_of k)) two ∙ word_at-pc_of code (j + 2) (omega (arith, low)) ∙ ap Some l.second;
      third = ap (λ k. word_at code (pc_of k)) three ∙ word_at-pc_of code (j + 3) low ∙ ap Some l.third;
      unled = λ k g. let u = l.unled k g in (λ e. u.0 (e ∙ two), λ e. u.1 (e ∙ three));
      free = subst (LeavesHiLo code) (sym four) l.free;
    }

pub read_low : (code : List ℕ) (j : ℕ) → BehindRead code j → j + 3 < length code
read_low code j n = let low = low_of code (suc (suc (suc j))) 0 n.third in omega (arith, low)

pub read_looks : (code : List ℕ) (j : ℕ) → BehindRead code j → Looks code j
read_looks code j n =
    let one : suc j ≡ j + 1 = omega arith in
    let two : suc (suc j) ≡ j + 2 = omega arith in
    let three : suc (suc (suc j)) ≡ j + 3 = omega arith in
    let four : suc (suc (suc (suc j))) ≡ j + 4 = omega arith in
    record {
      reads = (
        n.read,
        word_of_stands code (j + 1) n.read (ap (λ k. word_at code (pc_of k)) (sym one) ∙ n.first),
        n.reads,
      );
      second = is_at code (j + 2) 0 (ap (λ k. word_at code (pc_of k)) (sym two) ∙ n.second);
      third = is_at code (j + 3) 0 (ap (λ k. word_at code (pc_of k)) (sym three) ∙ n.third);
      unled = λ k g. let u = n.unled k g in (λ e. u.0 (e ∙ sym two), λ e. u.1 (e ∙ sym three));
      free = subst (LeavesHiLo code) four n.free;
    }

pub of_read_low : (code : List ℕ) (j : ℕ) → IsOfRead code j → j + 2 < length code
of_read_low code j (inl n) = let low = read_low code j n in omega (arith, low)
of_read_low code j (inr (m, e, n)) = let low = read_low code m n in omega (arith, low, e)

pub behind_first : (code : List ℕ) (j : ℕ) → 0 < j → BehindRead code (j - 1) → IsOfRead code j
behind_first code j some n = inr (j - 1, (omega (arith, some)), n)

pub first_behind : (code : List ℕ) (j m : ℕ) → j ≡ suc m → BehindRead code m → (0 < j) × BehindRead code (j - 1)
first_behind code j m e n =
    let same : m ≡ j - 1 = omega (arith, e) in (omega (arith, e), subst (BehindRead code) same n)

-- ---- behind a load

-- what the program looks at
pub record LooksAhead (code : List ℕ) (j r : ℕ) : Type 0 where
  pub load : Instr
  pub is : word_of load ≡ slice_index code (j + 1)
  pub is_load : is_load load ≡ true
  pub loads : loads load ≡ r
  pub second : slice_index code (j + 2) ≡ 0
  pub unled : (k : ℕ) → GoesTo code k → k ≢ j + 2
  pub free : LeavesRegister code (j + 3) r
  pub leaves : WritesNeither code (j + 3)

pub looks_load : (code : List ℕ) (j r : ℕ) → j + 2 < length code → LooksAhead code j r → BehindLoad code j
looks_load code j r low l =
    let one : suc j ≡ j + 1 = omega arith in
    let two : suc (suc j) ≡ j + 2 = omega arith in
    let three : suc (suc (suc j)) ≡ j + 3 = omega arith in
    record {
      load = l.load;
      first = ap (λ k. word_at code (pc_of k)) one ∙ stands_of code (j + 1) l.load (omega (arith, low)) l.is;
      is_load = l.is_load;
      second = ap (λ k. word_at code (pc_of k)) two ∙ word_at-pc_of code (j + 2) low ∙ ap Some l.second;
      unled = λ k g. λ e. l.unled k g (e ∙ two);
      free = subst (λ q. LeavesRegister code (suc (suc (suc j))) q) (sym l.loads) (subst (λ k. LeavesRegister code k r) (sym three) l.free);
      leaves = subst (WritesNeither code) (sym three) l.leaves;
    }

pub load_low : (code : List ℕ) (j : ℕ) → BehindLoad code j → j + 2 < length code
load_low code j n = let low = low_of code (suc (suc j)) 0 n.second in omega (arith, low)

pub load_looks : (code : List ℕ) (j : ℕ) (n : BehindLoad code j) → LooksAhead code j (loads n.load)
load_looks code j n =
    let one : suc j ≡ j + 1 = omega arith in
    let two : suc (suc j) ≡ j + 2 = omega arith in
    let three : suc (suc (suc j)) ≡ j + 3 = omega arith in
    record {
      load = n.load;
      is = word_of_stands code (j + 1) n.load (ap (λ k. word_at code (pc_of k)) (sym one) ∙ n.first);
      is_load = n.is_load;
      loads = refl;
      second = is_at code (j + 2) 0 (ap (λ k. word_at code (pc_of k)) (sym two) ∙ n.second);
      unled = λ k g. λ e. n.unled k g (e ∙ sym two);
      free = subst (λ k. LeavesRegister code k (loads n.load)) three n.free;
      leaves = subst (WritesNeither code) three n.leaves;
    }

-- ---- either

pub is_low : (code : List ℕ) (j : ℕ) → IsNeedless code j → j + 2 < length code
is_low code j (inl r) = of_read_low code j r
is_low code j (inr l) = load_low code j l
