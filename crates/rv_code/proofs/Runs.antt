-- Runs that leave the memory, one behind another, and what one instruction adds.
use Rattle.std.proofs.Common.{◌≡◌, ℕ, ◌+◌, ◌*◌, ◌/◌, ◌%◌, ◌^◌, ◌<◌, ◌≤◌, List, Option, Some, None, refl, sym, ap, ◌∙◌, subst}
use Rattle.std.proofs.Common.{arith, cond}
use Rattle.std.proofs.Common.{true, lit<}
use Rattle.std.proofs.lemmas.Bool.Decides.{nat_tests}
use Rattle.std.specs.Option.{option_map}
use Rattle.std.specs.Prelude.{◌==◌, IsSome}
use Rattle.byteorder.specs.Endian.{little_bytes, little_number}
use Rattle.ec_base.specs.Bytes.{Bytes, bytes_from, with_bytes}
use Rattle.ec_memory.specs.Words.{HasWord, word_in}
use Rattle.ec_machine_code.specs.Micro.{or_zero}
use Rattle.ec_target.proofs.Climbing.{climbs_append, climbs_none, climbs_one, climbs_wider}
use Rattle.ec_target.specs.Code.{pc_of, word_at}
use Rattle.ec_target.specs.Paths.{Climbs}
use Rattle.ec_target.specs.declared.outcome.Cause.TheVariants.{Unaligned}
use Rattle.rv_isa.specs.Words.{word_of}
use Rattle.rv_isa.specs.declared.field.JumpOffset.{JumpOffset}
use Rattle.rv_isa.specs.declared.field.Register.{Register}
use Rattle.rv_isa.specs.declared.field.Twelve.{Twelve}
use Rattle.rv_isa.specs.declared.instr.Instr.TheVariants.{Jal, Jalr, LoadFrom, StoreTo}
use Rattle.rv_isa.specs.declared.instr.Load.TheVariants.{Lw}
use Rattle.rv_isa.specs.declared.instr.Store.TheVariants.{Sw}
use Rattle.rv_machine.proofs.Effects.{load_goes, moved, passed, store_goes, wrote}
use Rattle.rv_machine.specs.Machine.{rv_goes, rv_register, state_of}
use Rattle.rv_machine.specs.Step.{Goes, Next, Traps, aligned, does, jumps, linked, listed}
use Rattle.rv_machine.specs.Values.{extended, load_value, plus}
use Rattle.rv_machine.specs.declared.machine.RvMachine.{RvMachine}

-- ---- registers

abbrev pub x0 : Register
x0 = record { number = 0; in_range = lit< tt }

abbrev pub x5 : Register
x5 = record { number = 5; in_range = lit< tt }

abbrev pub x6 : Register
x6 = record { number = 6; in_range = lit< tt }

abbrev pub x8 : Register
x8 = record { number = 8; in_range = lit< tt }

abbrev pub x9 : Register
x9 = record { number = 9; in_range = lit< tt }

-- ---- runs

abbrev pub pc : RvMachine → ℕ
pc m = m.pc

module _ (code : List ℕ) (b : Bytes) where
  -- From a machine, by words that rise from word `from` on and lie below word `to`, to one at that word, of which something holds. The
  -- memory is left.
  pub record Run (m : RvMachine) (from to : ℕ) (P : RvMachine → Type 0) : Type 0 where
    pub last : RvMachine
    pub climbs : Climbs (rv_goes code) pc m b from to last b
    pub at : last.pc ≡ pc_of to
    pub is : P last

  abbrev pub no_run : (m : RvMachine) (from to : ℕ) (P : RvMachine → Type 0) → from ≤ to → m.pc ≡ pc_of to → P m → Run m from to P
  no_run m from to P rise at is = record { last = m; climbs = climbs_none (rv_goes code) pc m b from to rise; at = at; is = is }

  -- one instruction behind a run
  abbrev pub one_more : (m : RvMachine) (from to : ℕ) (P Q : RvMachine → Type 0) (r : Run m from to P) (n : RvMachine) →
      rv_goes code r.last b n b → n.pc ≡ r.last.pc + 4 → Q n → Run m from (to + 1) Q
  one_more m from to P Q r n goes on is = record {
    last = n;
    climbs = climbs_append (rv_goes code) pc m b from to r.last b (to + 1) n b r.climbs
        (climbs_one (rv_goes code) pc to r.last b n b r.at goes);
    at = (let at = r.at in omega (arith, at, on));
    is = is;
  }

  -- a run behind another
  pub joined : (m : RvMachine) (from to on : ℕ) (P Q : RvMachine → Type 0) (r : Run m from to P) → Run r.last to on Q → Run m from on Q
  joined m from to on P Q r s = record {
    last = s.last;
    climbs = climbs_append (rv_goes code) pc m b from to r.last b on s.last b r.climbs s.climbs;
    at = s.at;
    is = s.is;
  }

  -- the same run, of which something else is said
  pub sized : (m : RvMachine) (from to on : ℕ) (P : RvMachine → Type 0) → to ≡ on → Run m from to P → Run m from on P
  sized m from to on P e r = record {
    last = r.last;
    climbs = climbs_wider (rv_goes code) pc m b from to from on r.last b (omega arith) (omega (arith, e)) r.climbs;
    at = r.at ∙ ap pc_of e;
    is = r.is;
  }

  pub weaker : (m : RvMachine) (from to : ℕ) (P Q : RvMachine → Type 0) → ((n : RvMachine) → P n → Q n) → Run m from to P → Run m from to Q
  weaker m from to P Q f r = record { last = r.last; climbs = r.climbs; at = r.at; is = f r.last r.is }

-- ---- loads, stores and jumps

word_there : (o : Option (List ℕ)) → IsSome o → option_map (little_number 4) o ≡ Some (or_zero (option_map (little_number 4) o))
word_there None h = absurd (cc)
word_there (Some bs) h = refl

module _ (code : List ℕ) (m : RvMachine) (b : Bytes) where
  pub load_step : (rd base : Register) (offset : Twelve) (at : ℕ) → at ≡ plus (rv_register m base.number) (extended 12 offset.bits) →
      at % 4 ≡ 0 → HasWord b at → word_at code m.pc ≡ Some (word_of (LoadFrom Lw rd base offset)) → m.pc + 4 < 2 ^ 32 → 0 < rd.number →
      rv_goes code m b (wrote m rd.number (or_zero (word_in little_number b at))) b
  load_step rd base offset at is even there here fits pos =
      load_goes code m b Lw rd base offset at (or_zero (word_in little_number b at)) is even
      (ap (option_map (load_value Lw)) (word_there (bytes_from b at 4) there)) here fits pos

  pub store_step : (rs base : Register) (offset : Twelve) (at v : ℕ) → at ≡ plus (rv_register m base.number) (extended 12 offset.bits) →
      at % 4 ≡ 0 → HasWord b at → rv_register m rs.number ≡ v → word_at code m.pc ≡ Some (word_of (StoreTo Sw base rs offset)) →
      m.pc + 4 < 2 ^ 32 → rv_goes code m b (passed m) (with_bytes b at (little_bytes 4 v))
  store_step rs base offset at v is even there has here fits =
      subst (λ x. rv_goes code m b (passed m) (with_bytes b at (little_bytes 4 x))) has
      (store_goes code m b Sw base rs offset at is even there here fits)

  aligned_is : (size at : ℕ) (next : Next) → at % size ≡ 0 → aligned size at next ≡ next
  aligned_is size at next e =
      let test : (at % size == 0) ≡ true = grind (arith, nat_tests) in
      ap (λ t. cond t next (Traps Unaligned)) test

  -- JAL x0
  pub jump_goes : (offset : JumpOffset) (target : ℕ) → target ≡ plus m.pc (extended 21 offset.bits) → target % 4 ≡ 0 →
      word_at code m.pc ≡ Some (word_of (Jal x0 offset)) → rv_goes code m b (moved m target) b
  jump_goes offset target is even here =
      let e : does (Jal x0 offset) (state_of m b) ≡ Goes (state_of (moved m target) b) =
      ap (jumps (linked (state_of m b) x0)) (sym is) ∙ aligned_is 4 target (Goes (state_of (moved m target) b)) even in
      listed (Jal x0 offset) here (sym e)

  -- JALR x0
  pub jump_there_goes : (rs : Register) (offset : Twelve) (target : ℕ) →
      target ≡ plus (rv_register m rs.number) (extended 12 offset.bits) → target % 4 ≡ 0 →
      word_at code m.pc ≡ Some (word_of (Jalr x0 rs offset)) → rv_goes code m b (moved m target) b
  jump_there_goes rs offset target is even here =
      let whole : target / 2 * 2 ≡ target = omega (arith, even) in
      let e : does (Jalr x0 rs offset) (state_of m b) ≡ Goes (state_of (moved m target) b) =
      ap (λ a. jumps (linked (state_of m b) x0) (a / 2 * 2)) (sym is) ∙ ap (jumps (linked (state_of m b) x0)) whole
      ∙ aligned_is 4 target (Goes (state_of (moved m target) b)) even in
      listed (Jalr x0 rs offset) here (sym e)
