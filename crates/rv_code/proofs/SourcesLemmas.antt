-- A number is in a register behind its words, and so is a source.
use Rattle.std.proofs.Common.{◌≡◌, ◌≢◌, ℕ, ◌+◌, ◌*◌, ◌^◌, ◌<◌, ◌≤◌, List, [], ◌∷◌, length, refl, sym, ap, ◌∙◌, subst, arith, true}
use Rattle.std.proofs.Common.{false}
use Rattle.std.specs.Prelude.{◌==◌, Bool, if◌then◌else◌}
use Rattle.byteorder.specs.Endian.{little_number}
use Rattle.ec_base.specs.Bytes.{Bytes}
use Rattle.ec_machine_code.specs.Frames.{most_blocks, slot_at}
use Rattle.ec_machine_code.specs.declared.homes.Home.TheVariants.{Register as Homely, Slot}
use Rattle.ec_memory.specs.Words.{word_in}
use Rattle.ec_machine_code.specs.Micro.{CanFind, found, or_zero}
use Rattle.ec_machine_code.specs.Speaks.{HasAt, Sees, words_end}
use Rattle.ec_machine_code.specs.declared.step.Source.{Source}
use Rattle.ec_machine_code.specs.declared.step.Source.TheVariants.{Home, Word}
use Rattle.ec_target.specs.Code.{pc_of}
use Rattle.rv_isa.specs.Parts.{high_of, low_of}
use Rattle.rv_isa.specs.declared.field.Register.{Register}
use Rattle.rv_isa.specs.declared.field.Twelve.{Twelve}
use Rattle.rv_isa.specs.declared.field.Twenty.{Twenty}
use Rattle.rv_isa.specs.declared.instr.Immediate.TheVariants.{Addi}
use Rattle.rv_machine.proofs.Effects.{high_low, immediate_goes, lui_goes, register-wrote_other, register-wrote_same, wrote}
use Rattle.rv_machine.specs.Machine.{rv_goes, rv_register}
use Rattle.rv_machine.specs.Values.{extended, plus}
use Rattle.rv_machine.specs.declared.machine.RvMachine.{RvMachine}
use Rattle.rv_code.proofs.NumbersLemmas.{added_to_none, from_base, high_alone, is_none}
use Rattle.rv_code.proofs.Places.{first_at, rest_at}
use Rattle.rv_code.proofs.Runs.{Run, load_step, no_run, one_more, sized, x0, x8}
use Rattle.rv_code.specs.Meaning.{rv_meaning}
use Rattle.rv_code.specs.Words.{is_small, lui, number_words, on_number, slot_offset, source_register, source_words}

-- Register x holds w, and only register r is another than it was.
pub record Fetched (r x w : ℕ) (m n : RvMachine) : Type 0 where
  pub holds : rv_register n x ≡ w
  pub others : (q : ℕ) → q ≢ r → rv_register n q ≡ rv_register m q

-- ---- numbers

module _ (code : List ℕ) (b : Bytes) (r : Register) (pos : 0 < r.number) where
  abbrev Gets : ℕ → List ℕ → Type 0
  Gets n ws =
      (i : ℕ) (m : RvMachine) → HasAt code i ws → m.pc ≡ pc_of i → i + length ws ≤ words_end →
      Run code b m i (i + length ws) (Fetched r.number r.number n m)

  wrote_fetched : (m n : RvMachine) (w : ℕ) → ((q : ℕ) → q ≢ r.number → rv_register n q ≡ rv_register m q) →
      Fetched r.number r.number w m (wrote n r.number w)
  wrote_fetched m n w same = record {
    holds = register-wrote_same n r.number w pos (let h = r.in_range in omega (arith, h));
    others = λ q ne. register-wrote_other n r.number w q ne ∙ same q ne;
  }

  by_addi : (n : ℕ) → n < 2 ^ 32 → is_small n ≡ true → Gets n (on_number Addi r.number 0 (low_of n) ∷ [])
  by_addi n low small i m has at room =
      let lower : Twelve = record { bits = low_of n; in_range = omega arith } in
      let here = first_at code i (on_number Addi r.number 0 (low_of n)) m.pc [] has at in
      let goes = immediate_goes code m b Addi r x0 lower here (omega (arith, at, room)) pos in
      one_more code b m i i (λ n. n ≡ m) (Fetched r.number r.number n m) (no_run code b m i i (λ n. n ≡ m) (omega arith) at refl) (wrote m r.number n)
      (subst (λ x. rv_goes code m b (wrote m r.number x) b) (added_to_none n low small) goes) refl
      (wrote_fetched m m n (λ q ne. refl))

  by_lui : (n : ℕ) → n < 2 ^ 32 → (low_of n == 0) ≡ true → Gets n (lui r.number (high_of n) ∷ [])
  by_lui n low none i m has at room =
      let high : Twenty = record { bits = high_of n; in_range = omega arith } in
      let z = is_none (low_of n) none in
      let here = first_at code i (lui r.number (high_of n)) m.pc [] has at in
      let goes = lui_goes code m b r high here (omega (arith, at, room)) pos in
      one_more code b m i i (λ n. n ≡ m) (Fetched r.number r.number n m) (no_run code b m i i (λ n. n ≡ m) (omega arith) at refl) (wrote m r.number n)
      (subst (λ x. rv_goes code m b (wrote m r.number x) b) (high_alone n low z) goes) refl
      (wrote_fetched m m n (λ q ne. refl))

  by_both : (n : ℕ) → n < 2 ^ 32 → Gets n (lui r.number (high_of n) ∷ on_number Addi r.number r.number (low_of n) ∷ [])
  by_both n low i m has at room =
      let high : Twenty = record { bits = high_of n; in_range = omega arith } in
      let lower : Twelve = record { bits = low_of n; in_range = omega arith } in
      let upper = high_of n * 2 ^ 12 in
      let add = on_number Addi r.number r.number (low_of n) in
      let m1 = wrote m r.number upper in
      let here = first_at code i (lui r.number (high_of n)) m.pc (add ∷ []) has at in
      let first = lui_goes code m b r high here (omega (arith, at, room)) pos in
      let at1 : m1.pc ≡ pc_of (i + 1) = omega (arith, at) in
      let there = first_at code (i + 1) add m1.pc [] (rest_at code i (lui r.number (high_of n)) (add ∷ []) has) at1 in
      let second = immediate_goes code m1 b Addi r r lower there (omega (arith, at1, room)) pos in
      let holds = register-wrote_same m r.number upper pos (let h = r.in_range in omega (arith, h)) in
      let sum : plus (rv_register m1 r.number) (extended 12 (low_of n)) ≡ n =
      ap (λ x. plus x (extended 12 (low_of n))) holds ∙ high_low n low in
      let start = no_run code b m i i (λ n. n ≡ m) (omega arith) at refl in
      let one = one_more code b m i i (λ n. n ≡ m) (λ n. n ≡ m1) start m1 first refl refl in
      let two = one_more code b m i (i + 1) (λ n. n ≡ m1) (Fetched r.number r.number n m) one (wrote m1 r.number n)
      (subst (λ x. rv_goes code m1 b (wrote m1 r.number x) b) sum second) refl
      (wrote_fetched m m1 n (λ q ne. register-wrote_other m r.number upper q ne)) in
      sized code b m i (i + 1 + 1) (i + 2) (Fetched r.number r.number n m) (omega arith) two

  number_by : (n : ℕ) → n < 2 ^ 32 → (s z : Bool) → is_small n ≡ s → (low_of n == 0) ≡ z →
      Gets n (if s then
      on_number Addi r.number 0 (low_of n) ∷ []
      else
      (if z then lui r.number (high_of n) ∷ [] else lui r.number (high_of n) ∷ on_number Addi r.number r.number (low_of n) ∷ []))
  number_by n low true z e g = by_addi n low e
  number_by n low false true e g = by_lui n low g
  number_by n low false false e g = by_both n low

  pub number : (n : ℕ) → n < 2 ^ 32 → Gets n (number_words r.number n)
  number n low = number_by n low (is_small n) (low_of n == 0) refl refl

-- ---- sources

module _ (code : List ℕ) (f own : ℕ) (f_small : f < most_blocks) (home : ℕ → ℕ) (b : Bytes) (r : Register) (pos : 0 < r.number) where
  abbrev Value : Source → ℕ
  Value x = found rv_meaning f own x home b

  -- behind these words register x holds w
  abbrev Brings : (x w : ℕ) → List ℕ → Type 0
  Brings x w ws =
      (i : ℕ) (m : RvMachine) → HasAt code i ws → m.pc ≡ pc_of i → i + length ws ≤ words_end → Sees rv_meaning f own m home →
      Run code b m i (i + length ws) (Fetched r.number x w m)

  none_needed : (x w i : ℕ) (m : RvMachine) → m.pc ≡ pc_of i → rv_register m x ≡ w → Run code b m i (i + 0) (Fetched r.number x w m)
  none_needed x w i m at is =
      no_run code b m i (i + 0) (Fetched r.number x w m) (omega arith) (omega (arith, at)) (record { holds = is; others = λ q ne. refl })

  by_slot : (n : ℕ) → CanFind rv_meaning f own (Home (Slot n)) home b →
      Brings r.number (Value (Home (Slot n))) (source_words r.number (Home (Slot n)))
  by_slot n can i m has at room g =
      let few = can.0.0 in
      let offset : Twelve = record { bits = slot_offset n; in_range = omega (arith, few) } in
      let w = or_zero (word_in little_number b (slot_at f n)) in
      let here = first_at code i _ m.pc [] has at in
      let is = from_base (rv_register m 8) f (28 + n) (slot_offset n) (slot_at f n) g.frame f_small (omega (arith, few))
      (omega arith) refl in
      let goes = load_step code m b r x8 offset (slot_at f n) is (omega arith) can.0.1 here (omega (arith, at, room)) pos in
      one_more code b m i i (λ n. n ≡ m) (Fetched r.number r.number w m) (no_run code b m i i (λ n. n ≡ m) (omega arith) at refl)
      (wrote m r.number w)
      goes refl
      (record {
        holds = register-wrote_same m r.number w pos (let h = r.in_range in omega (arith, h));
        others = λ q ne. register-wrote_other m r.number w q ne;
      })

  by_word : (n : ℕ) → n < 2 ^ 32 → (z : Bool) → (n == 0) ≡ z →
      Brings (if z then 0 else r.number) n (if z then [] else number_words r.number n)
  by_word n low true e i m has at room g =
      none_needed 0 n i m at (sym (is_none n e))
  by_word n low false e i m has at room g = number code b r pos n low i m has at room

  -- a source is in its register behind its words
  pub got : (x : Source) → CanFind rv_meaning f own x home b → Brings (source_register r.number x) (Value x) (source_words r.number x)
  got (Home (Slot n)) can = by_slot n can
  got (Home (Homely k)) can = λ i m has at room g. none_needed (18 + k) (home k) i m at (g.home k can.0)
  got (Word n) can = by_word n can (n == 0) refl
