-- Words of memory and numbers come into registers, and words of registers into homes and fields.
use Rattle.std.proofs.Common.{◌≡◌, ◌≢◌, ℕ, ◌+◌, ◌-◌, ◌*◌, ◌%◌, ◌^◌, ◌<◌, ◌≤◌, List, [], ◌∷◌, ◌++◌, length, length-append}
use Rattle.std.proofs.Common.{Option, Some, None, refl, sym, ap, ◌∙◌, subst, arith, ⊎_elim, cond, true, false, lit<}
use Rattle.std.specs.Prelude.{Bool, ◌==◌, ◌||◌, nat_le, nat_lt, IsSome}
use Rattle.std.specs.Option.{option_map}
use Rattle.std.proofs.lemmas.Bool.{cases_lt}
use Rattle.std.proofs.lemmas.Bool.Decides.{nat_tests}
use Rattle.byteorder.specs.Endian.{big_bytes, big_number}
use Rattle.ec_base.specs.Bytes.{Bytes, bytes_from, with_bytes}
use Rattle.ec_machine_code.specs.Frames.{block_at, most_blocks, slot_at, slots}
use Rattle.ec_machine_code.specs.declared.homes.Home.{Home}
use Rattle.ec_machine_code.specs.declared.homes.Home.TheVariants as home
use Rattle.ec_memory.specs.Words.{HasWord, word_in}
use Rattle.ec_machine_code.specs.Micro.{CanFind, HasHome, Sight, found, gets, or_zero}
use Rattle.ec_machine_code.specs.Speaks.{Ends, HasAt, words_end}
use Rattle.ec_machine_code.specs.declared.step.Source.{Source}
use Rattle.ec_machine_code.specs.declared.step.Source.TheVariants as source
use Rattle.ec_target.proofs.Climbing.{climbs_two}
use Rattle.ec_target.specs.Code.{pc_of, word_at}
use Rattle.mips_isa.specs.Parts.{high_of, low_of}
use Rattle.mips_isa.specs.declared.field.Register.{Register}
use Rattle.mips_isa.specs.declared.field.Sixteen.{Sixteen}
use Rattle.mips_isa.specs.declared.instr.Immediate.TheVariants.{Addiu}
use Rattle.mips_isa.specs.declared.instr.Load.TheVariants.{Lw}
use Rattle.mips_isa.specs.declared.instr.Store.TheVariants.{Sw}
use Rattle.mips_machine.proofs.Effects.{high_low, immediate_goes, load_climbs, lui_goes, moved, register-wrote_other}
use Rattle.mips_machine.proofs.Effects.{register-wrote_same, small_offset, store_goes, wrote}
use Rattle.mips_machine.specs.Machine.{mips_goes, mips_place, mips_register, mips_rests}
use Rattle.mips_machine.specs.Values.{extended, load_value, plus}
use Rattle.mips_machine.specs.declared.machine.MipsMachine.{MipsMachine}
use Rattle.mips_code.specs.Meaning.{mips_meaning}
use Rattle.mips_code.specs.Words.{is_small, loaded_words, lui, number_words, on_number, slot_offset, source_register, source_words}
use Rattle.mips_code.specs.Words.{sw, target_register, target_words}
use Rattle.mips_code.proofs.Ways.{Gave, Seen, Way, has_back, nth_at, seen_gave, seen_home, way_by, way_none, way_on, way_one, way_to}

-- ---- fields of instructions

abbrev pub reg : (n : ℕ) → n < 2 ^ 5 → Register
reg n h = record { number = n; in_range = h }

abbrev pub sixteen : (n : ℕ) → n < 2 ^ 16 → Sixteen
sixteen n h = record { bits = n; in_range = h }

abbrev pub low_part : ℕ → Sixteen
low_part n = sixteen (low_of n) (omega arith)

abbrev pub high_part : ℕ → Sixteen
high_part n = sixteen (high_of n) (omega arith)

abbrev pub r0 : Register
r0 = reg 0 (lit< tt)

-- ---- a register has a word behind some words of code; only register r is another

pub record Got (code : List ℕ) (m : MipsMachine) (b : Bytes) (from to r h w : ℕ) : Type 0 where
  pub last : MipsMachine
  pub way : Way code m b from to to last b
  pub rests : mips_rests last
  pub holds : mips_register last h ≡ w
  pub others : (q : ℕ) → q ≢ r → mips_register last q ≡ mips_register m q

-- the same, where scratch registers may be others too
pub record Made (code : List ℕ) (m : MipsMachine) (b : Bytes) (from to r w : ℕ) : Type 0 where
  pub last : MipsMachine
  pub way : Way code m b from to to last b
  pub gave : Gave m last r w

pub made_of : (code : List ℕ) (m : MipsMachine) (b : Bytes) (from to r w : ℕ) → Got code m b from to r r w → Made code m b from to r w
made_of code m b from to r w got = record {
  last = got.last;
  way = got.way;
  gave = record { rests = got.rests; holds = got.holds; others = λ q h ne. got.others q ne };
}

word_some : (o : Option (List ℕ)) → IsSome o → option_map (big_number 4) o ≡ Some (or_zero (option_map (big_number 4) o))
word_some None h = absurd (cc)
word_some (Some bs) h = refl

-- an address by what a base register holds
pub from_base : (x base offset at : ℕ) → x ≡ base → offset < 2 ^ 15 → base + offset < 2 ^ 32 → at ≡ base + offset →
    at ≡ plus x (extended 16 offset)
from_base x base offset at e small fits is =
    is ∙ sym (small_offset base offset small fits) ∙ ap (λ y. plus y (extended 16 offset)) (sym e)

-- a word of memory
pub loads : (code : List ℕ) (m : MipsMachine) (b : Bytes) (i r base offset at : ℕ) → mips_rests m → m.flow.pc ≡ pc_of i →
    i + 2 ≤ words_end → 0 < r → r < 2 ^ 5 → base < 2 ^ 5 → offset < 2 ^ 16 → at ≡ plus (mips_register m base) (extended 16 offset) →
    at % 4 ≡ 0 → HasWord b at → HasAt code i (loaded_words r base offset) →
    Got code m b i (i + 2) r r (or_zero (word_in big_number b at))
loads code m b i r base offset at rest pc low pos small_r small_base small is even there has =
    let w = or_zero (word_in big_number b at) in
    let n = wrote m r w (m.flow.pc + 8) in
    let climbs = load_climbs code m b rest i pc Lw (reg r small_r) (reg base small_base) (sixteen offset small) at w is even
    (ap (option_map (load_value Lw)) (word_some (bytes_from b at 4) there))
    (nth_at code i (loaded_words r base offset) 0 _ m.flow.pc has (omega (arith, pc)) refl)
    (nth_at code i (loaded_words r base offset) 1 0 (m.flow.pc + 4) has (omega (arith, pc)) refl) (omega (arith, pc, low)) pos in
    record {
      last = n;
      way = way_by code m n b b i (i + 2) (i + 2) climbs (omega (arith, pc));
      rests = refl;
      holds = register-wrote_same m r w (m.flow.pc + 8) pos small_r;
      others = λ q ne. register-wrote_other m r w (m.flow.pc + 8) q ne;
    }

-- ---- numbers

pub small_is : (n : ℕ) → n < 2 ^ 32 → is_small n ≡ true → extended 16 (low_of n) ≡ n
small_is n h e = ⊎_elim
    (λ (lt : n < 2 ^ 15).
    let t : nat_lt (low_of n) (2 ^ 15) ≡ true = grind (arith, nat_tests) in
    ap (λ b. cond b (low_of n) (low_of n + (2 ^ 32 - 2 ^ 16))) t ∙ omega (arith, lt))
    (λ (le : 2 ^ 15 ≤ n).
    let first : nat_lt n (2 ^ 15) ≡ false = grind (arith, nat_tests) in
    let second : nat_le (2 ^ 32 - 2 ^ 15) n ≡ true = sym (ap (λ b. b || nat_le (2 ^ 32 - 2 ^ 15) n) first) ∙ e in
    let high : 2 ^ 32 - 2 ^ 15 ≤ n = grind (arith, nat_tests) in
    let t : nat_lt (low_of n) (2 ^ 15) ≡ false = grind (arith, nat_tests) in
    ap (λ b. cond b (low_of n) (low_of n + (2 ^ 32 - 2 ^ 16))) t ∙ omega (arith, high, h))
    (cases_lt n (2 ^ 15))

abbrev number_if : Bool → ℕ → ℕ → List ℕ
number_if t r n = cond t (on_number Addiu r 0 (low_of n) ∷ []) (lui r (high_of n) ∷ on_number Addiu r r (low_of n) ∷ [])

module _ (code : List ℕ) (m : MipsMachine) (b : Bytes) (i r : ℕ) (rest : mips_rests m) (pc : m.flow.pc ≡ pc_of i) (pos : 0 < r)
    (small_r : r < 2 ^ 5) where
  number_by : (t : Bool) (n : ℕ) → n < 2 ^ 32 → is_small n ≡ t → i + length (number_if t r n) ≤ words_end →
      HasAt code i (number_if t r n) → Got code m b i (i + length (number_if t r n)) r r n
  number_by true n fits e low has =
      let on = m.flow.pc + 4 in
      let sum : plus 0 (extended 16 (low_of n)) ≡ n = ap (plus 0) (small_is n fits e) ∙ omega arith in
      let st = immediate_goes code m b rest Addiu (reg r small_r) r0 (low_part n) refl
      (nth_at code i (number_if true r n) 0 _ m.flow.pc has (omega (arith, pc)) refl) (omega (arith, pc, low)) pos in
      record {
        last = wrote m r n on;
        way = way_one code m (wrote m r n on) b b i pc (subst (λ x. mips_goes code m b (wrote m r x on) b) sum st) (omega (arith, pc));
        rests = refl;
        holds = register-wrote_same m r n on pos small_r;
        others = λ q ne. register-wrote_other m r n on q ne;
      }
  number_by false n fits e low has =
      let upper = high_of n * 2 ^ 16 in
      let on = m.flow.pc + 4 in
      let m1 = wrote m r upper on in
      let one = lui_goes code m b rest (reg r small_r) (high_part n)
      (nth_at code i (number_if false r n) 0 _ m.flow.pc has (omega (arith, pc)) refl) (omega (arith, pc, low)) pos in
      let two = immediate_goes code m1 b refl Addiu (reg r small_r) (reg r small_r) (low_part n) refl
      (nth_at code i (number_if false r n) 1 _ on has (omega (arith, pc)) refl) (omega (arith, pc, low)) pos in
      let sum : plus (mips_register m1 r) (extended 16 (low_of n)) ≡ n =
      ap (λ x. plus x (extended 16 (low_of n))) (register-wrote_same m r upper on pos small_r) ∙ high_low n fits in
      let n2 = wrote m1 r n (on + 4) in
      record {
        last = n2;
        way = way_by code m n2 b b i (i + 2) (i + 2)
            (climbs_two (mips_goes code) mips_place i m b m1 b n2 b pc one (omega (arith, pc))
            (subst (λ x. mips_goes code m1 b (wrote m1 r x (on + 4)) b) sum two)) (omega (arith, pc));
        rests = refl;
        holds = register-wrote_same m1 r n (on + 4) pos small_r;
        others = λ q ne. register-wrote_other m1 r n (on + 4) q ne ∙ register-wrote_other m r upper on q ne;
      }

  pub number_got : (n : ℕ) → n < 2 ^ 32 → i + length (number_words r n) ≤ words_end → HasAt code i (number_words r n) →
      Got code m b i (i + length (number_words r n)) r r n
  number_got n fits low has = number_by (is_small n) n fits refl low has

  -- 0 is in $0
  zero_by : (z : Bool) (n : ℕ) → n < 2 ^ 32 → (n == 0) ≡ z → i + length (cond z [] (number_words r n)) ≤ words_end →
      HasAt code i (cond z [] (number_words r n)) →
      Got code m b i (i + length (cond z [] (number_words r n))) r (cond z 0 r) n
  zero_by true n fits e low has = record {
    last = m;
    way = way_none code m b i (i + 0) (omega arith) (omega (arith, pc));
    rests = rest;
    holds = let none : 0 ≡ n = grind (arith, nat_tests) in none;
    others = λ q ne. refl;
  }
  zero_by false n fits e low has = number_got n fits low has

-- ---- sources

module _ (code : List ℕ) (f own : ℕ) (f_small : f < most_blocks) (own_small : own < most_blocks) where
  abbrev pub Finds : Source → (ℕ → ℕ) → Bytes → Type 0
  Finds s held b = CanFind mips_meaning f own s held b

  abbrev pub Word : Source → (ℕ → ℕ) → Bytes → ℕ
  Word s held b = found mips_meaning f own s held b

  -- a slot of the frame
  pub slot_got : (m : MipsMachine) (held : ℕ → ℕ) (b : Bytes) (i r n : ℕ) → Seen f own m held → m.flow.pc ≡ pc_of i →
      i + 2 ≤ words_end → 0 < r → r < 2 ^ 5 → n < slots → HasWord b (slot_at f n) → HasAt code i (loaded_words r 30 (slot_offset n)) →
      Got code m b i (i + 2) r r (or_zero (word_in big_number b (slot_at f n)))
  slot_got m held b i r n g pc low pos small_r few there has =
      loads code m b i r 30 (slot_offset n) (slot_at f n) g.rests pc low pos small_r (lit< tt) (omega (arith, few))
      (from_base (mips_register m 30) (block_at f) (slot_offset n) (slot_at f n) g.frame (omega (arith, few))
      (omega (arith, few, f_small)) (omega arith)) (omega arith) there has

  pub source_got : (s : Source) (m : MipsMachine) (held : ℕ → ℕ) (b : Bytes) (i r : ℕ) → Seen f own m held → m.flow.pc ≡ pc_of i →
      i + length (source_words r s) ≤ words_end → 0 < r → r < 2 ^ 5 → Finds s held b → HasAt code i (source_words r s) →
      Got code m b i (i + length (source_words r s)) r (source_register r s) (Word s held b)
  source_got (source.Home (home.Slot n)) m held b i r g pc low pos small_r can has =
      slot_got m held b i r n g pc low pos small_r can.0.0 can.0.1 has
  source_got (source.Home (home.Register k)) m held b i r g pc low pos small_r can has = record {
    last = m;
    way = way_none code m b i (i + 0) (omega arith) (omega (arith, pc));
    rests = g.rests;
    holds = g.home k can.0;
    others = λ q ne. refl;
  }
  source_got (source.Word n) m held b i r g pc low pos small_r can has =
      zero_by code m b i r g.rests pc pos small_r (n == 0) n can refl low has

  zero_other : (z : Bool) (r q : ℕ) → 0 < q → q ≢ r → cond z 0 r ≢ q
  zero_other true r q pos ne e = omega (arith, e, pos)
  zero_other false r q pos ne e = ne (sym e)

  zero_low : (z : Bool) (r : ℕ) → r < 2 ^ 5 → cond z 0 r < 2 ^ 5
  zero_low true r h = omega arith
  zero_low false r h = h

  -- the register of a source is none of the other scratch registers
  pub source_other : (s : Source) (held : ℕ → ℕ) (b : Bytes) (r q : ℕ) → Finds s held b → 0 < q → q < 16 → q ≢ r →
      source_register r s ≢ q
  source_other (source.Home (home.Slot n)) held b r q can pos low ne e = ne (sym e)
  source_other (source.Home (home.Register k)) held b r q can pos low ne e = omega (arith, e, low)
  source_other (source.Word n) held b r q can pos low ne e = zero_other (n == 0) r q pos ne e

  pub source_low : (s : Source) (held : ℕ → ℕ) (b : Bytes) (r : ℕ) → Finds s held b → r < 2 ^ 5 → source_register r s < 2 ^ 5
  source_low (source.Home (home.Slot n)) held b r can h = h
  source_low (source.Home (home.Register k)) held b r can h = let l = can.0 in omega (arith, l)
  source_low (source.Word n) held b r can h = zero_low (n == 0) r h

  -- ---- what a home gets

  abbrev pub Arrives : MipsMachine → Sight → (from to : ℕ) → Sight → Type 0
  Arrives m v from to v' = Ends mips_meaning f own code m v from to to v'

  abbrev pub Gets : Home → ℕ → Sight → Sight
  Gets into w v = gets mips_meaning f own into w v

  abbrev pub IsHome : Home → Bytes → Type 0
  IsHome into b = HasHome mips_meaning f own into b

  -- a word of a block gets the word of a register
  pub stores : (n : MipsMachine) (b : Bytes) (i r base offset at w : ℕ) → mips_rests n → n.flow.pc ≡ pc_of i → i + 1 ≤ words_end →
      r < 2 ^ 5 → base < 2 ^ 5 → offset < 2 ^ 16 → at ≡ plus (mips_register n base) (extended 16 offset) → at % 4 ≡ 0 → HasWord b at →
      mips_register n r ≡ w → word_at code n.flow.pc ≡ Some (sw r base offset) →
      Way code n b i (i + 1) (i + 1) (moved n (n.flow.pc + 4)) (with_bytes b at (big_bytes 4 w))
  stores n b i r base offset at w rest pc low small_r small_base small is even there has here =
      way_one code n (moved n (n.flow.pc + 4)) b (with_bytes b at (big_bytes 4 w)) i pc
      (subst (λ x. mips_goes code n b (moved n (n.flow.pc + 4)) (with_bytes b at (big_bytes 4 x))) has
      (store_goes code n b rest Sw (reg r small_r) (reg base small_base) (sixteen offset small) at is even there here
      (omega (arith, pc, low)))) (omega (arith, pc))

  pub keeps : (into : Home) (w from i : ℕ) (m n : MipsMachine) (v : Sight) → Way code m v.bytes from i i n v.bytes →
      Gave m n (target_register into) w → Seen f own m v.home → i + length (target_words into) ≤ words_end →
      HasAt code i (target_words into) → IsHome into v.bytes →
      Arrives m v from (i + length (target_words into)) (Gets into w v)
  keeps (home.Register k) w from i m n v way gave g low has can =
      let seen = seen_home f own m n v.home k w can gave g in
      let all = way_to code m n v.bytes v.bytes from i from (i + 0) i (i + 0) way (omega arith) (omega arith) (omega arith) in
      record {
        last = n;
        climbs = all.climbs;
        at = all.at;
        sees = record { rests = seen.rests; frame = seen.frame; owns = seen.owns; home = seen.home };
      }
  keeps (home.Slot s) w from i m n v way gave g low has can =
      let seen = seen_gave f own m n v.home 8 w (omega arith) gave g in
      let pc = way.at in
      let few = can.0 in
      let stored = stores n v.bytes i 8 30 (slot_offset s) (slot_at f s) w gave.rests pc low (lit< tt) (lit< tt) (omega (arith, few))
      (from_base (mips_register n 30) (block_at f) (slot_offset s) (slot_at f s) seen.frame (omega (arith, few))
      (omega (arith, few, f_small)) (omega arith)) (omega arith) can.1 gave.holds
      (nth_at code i (target_words (home.Slot s)) 0 _ n.flow.pc has (omega (arith, pc)) refl) in
      let last = moved n (n.flow.pc + 4) in
      let all = way_on code m n last v.bytes v.bytes (with_bytes v.bytes (slot_at f s) (big_bytes 4 w)) from i i (i + 1) i (i + 1) way
      stored (omega arith) in
      record {
        last = last;
        climbs = all.climbs;
        at = all.at;
        sees = record { rests = refl; frame = seen.frame; owns = seen.owns; home = seen.home };
      }

  -- what some words bring into a register goes on into a home
  pub made_keeps : (into : Home) (w i : ℕ) (m : MipsMachine) (v : Sight) (ws : List ℕ) →
      Made code m v.bytes i (i + length ws) (target_register into) w → Seen f own m v.home →
      i + length (ws ++ target_words into) ≤ words_end → HasAt code i (ws ++ target_words into) → IsHome into v.bytes →
      Arrives m v i (i + length (ws ++ target_words into)) (Gets into w v)
  made_keeps into w i m v ws made g low has can =
      let long = length-append ws (target_words into) in
      let e = keeps into w i (i + length ws) m made.last v made.way made.gave g (omega (arith, low, long))
      (has_back code i ws (target_words into) has) can in
      let sum : i + length ws + length (target_words into) ≡ i + length (ws ++ target_words into) = omega (arith, long) in
      subst (λ to. Arrives m v i to (Gets into w v)) sum e
