-- Words that make something of sources: what they bring to a register, what they leave in a home, and what they store.
use Rattle.std.proofs.Common.{◌≡◌, ◌≢◌, ℕ, ◌+◌, ◌*◌, ◌%◌, ◌^◌, ◌<◌, ◌≤◌, List, [], ◌∷◌, ◌++◌, length, length-append, Some, refl, sym, ap}
use Rattle.std.proofs.Common.{◌∙◌}
use Rattle.std.proofs.Common.{subst, arith, cond, true, false, ⊎_elim}
use Rattle.std.proofs.lemmas.Bool.Decides.{nat_tests}
use Rattle.std.proofs.lemmas.List.{append-nil}
use Rattle.std.specs.Prelude.{◌==◌, Bool, if◌then◌else◌}
use Rattle.byteorder.specs.Endian.{little_bytes, little_number}
use Rattle.ec_base.specs.Bytes.{with_bytes}
use Rattle.ec_machine_code.specs.Frames.{most_blocks, slot_at}
use Rattle.ec_machine_code.specs.declared.homes.Home.{Home as Homes}
use Rattle.ec_machine_code.specs.declared.homes.Home.TheVariants.{Register as Homely, Slot}
use Rattle.ec_memory.specs.Words.{HasWord, word_in}
use Rattle.ec_machine_code.specs.Micro.{CanFind, HasHome, Sight, found, gets, or_zero}
use Rattle.ec_machine_code.specs.Speaks.{Ends, HasAt, Sees, words_end}
use Rattle.ec_machine_code.specs.declared.step.Source.{Source}
use Rattle.ec_machine_code.specs.declared.step.Source.TheVariants.{Home, Word}
use Rattle.ec_target.proofs.Climbing.{climbs_append, climbs_one, climbs_wider}
use Rattle.ec_target.specs.Code.{pc_of, word_at}
use Rattle.rv_isa.specs.Parts.{low_of}
use Rattle.rv_isa.specs.declared.field.Register.{Register}
use Rattle.rv_isa.specs.declared.field.Twelve.{Twelve}
use Rattle.rv_isa.specs.declared.field.Twenty.{Twenty}
use Rattle.rv_isa.specs.declared.instr.Immediate.{Immediate}
use Rattle.rv_isa.specs.declared.instr.Operation.{Operation}
use Rattle.rv_machine.proofs.Effects.{immediate_goes, lui_goes, operation_goes, passed, register-wrote_other, register-wrote_same, wrote}
use Rattle.rv_machine.specs.Machine.{rv_goes, rv_register}
use Rattle.rv_machine.specs.Values.{extended, immediate_value, operation_value, plus}
use Rattle.rv_machine.specs.declared.machine.RvMachine.{RvMachine}
use Rattle.rv_code.proofs.NumbersLemmas.{from_base, same_or_not}
use Rattle.rv_code.proofs.Places.{back_at, first_at, front_at}
use Rattle.rv_code.proofs.Runs.{Run, joined, load_step, no_run, one_more, pc, sized, store_step, weaker, x0, x5, x6, x8}
use Rattle.rv_code.proofs.SourcesLemmas.{Fetched, got}
use Rattle.rv_code.specs.Meaning.{rv_meaning}
use Rattle.rv_code.specs.Words.{both_words, lui, lw, on_number, on_registers, slot_offset, source_register, source_words, sw}
use Rattle.rv_code.specs.Words.{target_register}
use Rattle.rv_code.specs.Words.{target_words}

-- Register r holds w, and all others but x5, x6 and register t are as they were.
pub record Holds (r w t : ℕ) (m n : RvMachine) : Type 0 where
  pub holds : rv_register n r ≡ w
  pub others : (q : ℕ) → q ≢ 5 → q ≢ 6 → q ≢ t → rv_register n q ≡ rv_register m q

module _ (code : List ℕ) (f own : ℕ) (f_small : f < most_blocks) (v : Sight) where
  abbrev pub Value : Source → ℕ
  Value x = found rv_meaning f own x v.home v.bytes

  abbrev pub Has : Source → Type 0
  Has x = CanFind rv_meaning f own x v.home v.bytes

  abbrev pub Seen : RvMachine → Type 0
  Seen m = Sees rv_meaning f own m v.home

  -- behind these words the machine is another one, with the same memory
  abbrev pub Brings : List ℕ → (RvMachine → RvMachine → Type 0) → Type 0
  Brings ws P =
      (i : ℕ) (m : RvMachine) → HasAt code i ws → m.pc ≡ pc_of i → i + length ws ≤ words_end → Seen m →
      Run code v.bytes m i (i + length ws) (P m)

  -- behind these words it shows another sight
  abbrev pub Leaves : List ℕ → Sight → Type 0
  Leaves ws after =
      (i : ℕ) (m : RvMachine) → HasAt code i ws → m.pc ≡ pc_of i → i + length ws ≤ words_end → Seen m →
      Ends rv_meaning f own code m v i (i + length ws) (i + length ws) after

  -- the registers that a sight shows are as they were
  pub still_seen : (m n : RvMachine) → ((q : ℕ) → q ≢ 5 → q ≢ 6 → rv_register n q ≡ rv_register m q) → Seen m → Seen n
  still_seen m n same g = record {
    rests = tt;
    frame = same 8 (λ e. omega (arith, e)) (λ e. omega (arith, e)) ∙ g.frame;
    owns = same 9 (λ e. omega (arith, e)) (λ e. omega (arith, e)) ∙ g.owns;
    home = λ k h. same (18 + k) (λ e. omega (arith, e)) (λ e. omega (arith, e)) ∙ g.home k h;
  }

  -- ---- one and two sources

  pub scratch_low : (x : Source) → Has x → source_register 5 x < 2 ^ 5
  scratch_low (Home (Slot n)) can = omega arith
  scratch_low (Home (Homely k)) can = (let h = can.0 in omega (arith, h))
  scratch_low (Word n) can = low (n == 0)
    where
      low : (z : Bool) → (if z then 0 else 5) < 2 ^ 5
      low true = omega arith
      low false = omega arith

  pub second_low : (x : Source) → Has x → source_register 6 x < 2 ^ 5
  second_low (Home (Slot n)) can = omega arith
  second_low (Home (Homely k)) can = (let h = can.0 in omega (arith, h))
  second_low (Word n) can = low (n == 0)
    where
      low : (z : Bool) → (if z then 0 else 6) < 2 ^ 5
      low true = omega arith
      low false = omega arith

  not_second : (x : Source) → source_register 5 x ≢ 6
  not_second (Home (Slot n)) = λ e. omega (arith, e)
  not_second (Home (Homely k)) = λ e. omega (arith, e)
  not_second (Word n) = other (n == 0)
    where
      other : (z : Bool) → ◌≢◌ {A = ℕ} (if z then 0 else 5) 6
      other true = λ e. omega (arith, e)
      other false = λ e. omega (arith, e)

  abbrev pub first_register : (x : Source) → Has x → Register
  first_register x can = record { number = source_register 5 x; in_range = scratch_low x can }

  abbrev pub second_register : (x : Source) → Has x → Register
  second_register x can = record { number = source_register 6 x; in_range = second_low x can }

  pub one_source : (x : Source) → Has x → Brings (source_words 5 x) (Holds (source_register 5 x) (Value x) 5)
  one_source x can i m has at room g =
      weaker code v.bytes m i (i + length (source_words 5 x))
      (Fetched 5 (source_register 5 x) (Value x) m) (Holds (source_register 5 x) (Value x) 5 m)
      (λ n p. record { holds = p.holds; others = λ q five six t. p.others q five })
      (got code f own f_small v.home v.bytes x5 (omega arith) x can i m has at room g)

  -- both sources are in their registers
  pub record Both (x y : Source) (m n : RvMachine) : Type 0 where
    pub left : rv_register n (source_register 5 x) ≡ Value x
    pub right : rv_register n (source_register 6 y) ≡ Value y
    pub others : (q : ℕ) → q ≢ 5 → q ≢ 6 → rv_register n q ≡ rv_register m q

  pub both_sources : (x y : Source) → Has x → Has y → Brings (both_words x y) (Both x y)
  both_sources x y can_x can_y i m has at room g =
      let xs = source_words 5 x in
      let ys = source_words 6 y in
      let long : length (xs ++ ys) ≡ length xs + length ys = length-append xs ys in
      let first = one_source x can_x i m (front_at code i xs ys has) at (omega (arith, room, long)) g in
      let n = first.last in
      let p = first.is in
      let seen = still_seen m n (λ q five six. p.others q five six five) g in
      let second = got code f own f_small v.home v.bytes x6 (omega arith) y can_y (i + length xs) n (back_at code i xs ys has) first.at
      (omega (arith, room, long)) seen in
      let done = weaker code v.bytes n (i + length xs) (i + length xs + length ys) (Fetched 6 (source_register 6 y) (Value y) n) (Both x y m)
      (λ t e. record {
        left = e.others (source_register 5 x) (not_second x) ∙ p.holds;
        right = e.holds;
        others = λ q five six. e.others q six ∙ p.others q five six five;
      }) second in
      sized code v.bytes m i (i + length xs + length ys) (i + length (xs ++ ys)) (Both x y m) (omega (arith, long))
      (joined code v.bytes m i (i + length xs) (i + length xs + length ys)
      (Holds (source_register 5 x) (Value x) 5 m) (Both x y m) first done)

  -- ---- an instruction behind what words brought

  pub register_next : (ws : List ℕ) (P : RvMachine → RvMachine → Type 0) (u w : ℕ) (rd : Register) → 0 < rd.number → Brings ws P →
      ((m n : RvMachine) → P m n → (q : ℕ) → q ≢ 5 → q ≢ 6 → q ≢ rd.number → rv_register n q ≡ rv_register m q) →
      ((m n : RvMachine) → Seen m → P m n → word_at code n.pc ≡ Some u → n.pc + 4 < 2 ^ 32 →
      rv_goes code n v.bytes (wrote n rd.number w) v.bytes) →
      Brings (ws ++ u ∷ []) (Holds rd.number w rd.number)
  register_next ws P u w rd pos brings same goes i m has at room g =
      let long : length (ws ++ u ∷ []) ≡ length ws + 1 = length-append ws (u ∷ []) in
      let first = brings i m (front_at code i ws (u ∷ []) has) at (omega (arith, room, long)) g in
      let n = first.last in
      let at1 = first.at in
      let here = first_at code (i + length ws) u n.pc [] (back_at code i ws (u ∷ []) has) at1 in
      let step = goes m n g first.is here (omega (arith, at1, room, long)) in
      let low : rd.number < 32 = (let h = rd.in_range in omega (arith, h)) in
      sized code v.bytes m i (i + length ws + 1) (i + length (ws ++ u ∷ [])) (Holds rd.number w rd.number m) (omega (arith, long))
      (one_more code v.bytes m i (i + length ws) (P m) (Holds rd.number w rd.number m) first (wrote n rd.number w) step refl
      (record {
        holds = register-wrote_same n rd.number w pos low;
        others = λ q five six t. register-wrote_other n rd.number w q t ∙ same m n first.is q five six t;
      }))

  pub two : (o : Operation) (rd : Register) → 0 < rd.number → (x y : Source) → Has x → Has y →
      Brings (both_words x y ++ on_registers o rd.number (source_register 5 x) (source_register 6 y) ∷ [])
      (Holds rd.number (operation_value o (Value x) (Value y)) rd.number)
  two o rd pos x y can_x can_y =
      register_next (both_words x y) (Both x y) (on_registers o rd.number (source_register 5 x) (source_register 6 y))
      (operation_value o (Value x) (Value y)) rd pos (both_sources x y can_x can_y) (λ m n p q five six t. p.others q five six)
      (λ m n g p here fits.
      subst (λ w. rv_goes code n v.bytes (wrote n rd.number w) v.bytes)
      (ap (λ a. operation_value o a (rv_register n (source_register 6 y))) p.left ∙ ap (operation_value o (Value x)) p.right)
      (operation_goes code n v.bytes o rd (first_register x can_x) (second_register y can_y) here fits pos))

  -- an instruction on a number, of what a register holds
  pub number_next : (o : Immediate) (rd rs : Register) (number : Twelve) (ws : List ℕ) (w : ℕ) → 0 < rd.number →
      Brings ws (Holds rs.number w 5) →
      Brings (ws ++ on_number o rd.number rs.number number.bits ∷ [])
      (Holds rd.number (immediate_value o w (extended 12 number.bits)) rd.number)
  number_next o rd rs number ws w pos brings =
      register_next ws (Holds rs.number w 5) (on_number o rd.number rs.number number.bits)
      (immediate_value o w (extended 12 number.bits)) rd pos brings (λ m n p q five six t. p.others q five six five)
      (λ m n g p here fits.
      subst (λ a. rv_goes code n v.bytes (wrote n rd.number a) v.bytes) (ap (λ a. immediate_value o a (extended 12 number.bits)) p.holds)
      (immediate_goes code n v.bytes o rd rs number here fits pos))

  pub one : (o : Immediate) (rd : Register) → 0 < rd.number → (x : Source) (n : ℕ) → Has x →
      Brings (source_words 5 x ++ on_number o rd.number (source_register 5 x) (low_of n) ∷ [])
      (Holds rd.number (immediate_value o (Value x) (extended 12 (low_of n))) rd.number)
  one o rd pos x n can =
      let lower : Twelve = record { bits = low_of n; in_range = omega arith } in
      number_next o rd (first_register x can) lower (source_words 5 x) (Value x) pos (one_source x can)

  -- an instruction on x0 and what a register holds
  pub beside_none : (o : Operation) (rd rs : Register) (ws : List ℕ) (w : ℕ) → 0 < rd.number → Brings ws (Holds rs.number w 5) →
      Brings (ws ++ on_registers o rd.number 0 rs.number ∷ []) (Holds rd.number (operation_value o 0 w) rd.number)
  beside_none o rd rs ws w pos brings =
      register_next ws (Holds rs.number w 5) (on_registers o rd.number 0 rs.number) (operation_value o 0 w) rd pos brings
      (λ m n p q five six t. p.others q five six five)
      (λ m n g p here fits.
      subst (λ a. rv_goes code n v.bytes (wrote n rd.number a) v.bytes) (ap (operation_value o 0) p.holds)
      (operation_goes code n v.bytes o rd x0 rs here fits pos))

  -- the same words bring the same to the same register
  pub same_word : (ws : List ℕ) (r w u t : ℕ) → w ≡ u → Brings ws (Holds r w t) → Brings ws (Holds r u t)
  same_word ws r w u t e brings = subst (λ x. Brings ws (Holds r x t)) e brings

  -- ---- loads

  -- nothing has happened
  record Nothing (m n : RvMachine) : Type 0 where
    same : (q : ℕ) → rv_register n q ≡ rv_register m q

  -- a word of a block, from a register that has the block's address
  pub loaded : (rd base : Register) (offset : Twelve) (at : ℕ) → 0 < rd.number → at % 4 ≡ 0 → HasWord v.bytes at →
      ((m : RvMachine) → Seen m → at ≡ plus (rv_register m base.number) (extended 12 offset.bits)) →
      Brings (lw rd.number base.number offset.bits ∷ []) (Holds rd.number (or_zero (word_in little_number v.bytes at)) rd.number)
  loaded rd base offset at pos even there is =
      register_next [] Nothing (lw rd.number base.number offset.bits) (or_zero (word_in little_number v.bytes at)) rd pos
      (λ i m has pc room g. no_run code v.bytes m i (i + 0) (Nothing m) (omega arith) (omega (arith, pc)) (record { same = λ q. refl }))
      (λ m n p q five six t. p.same q)
      (λ m n g p here fits.
      load_step code n v.bytes rd base offset at
      (is m g ∙ ap (λ a. plus a (extended 12 offset.bits)) (sym (p.same base.number))) even there here fits pos)

  -- LUI
  pub upper : (rd : Register) (high : Twenty) → 0 < rd.number →
      Brings (lui rd.number high.bits ∷ []) (Holds rd.number (high.bits * 2 ^ 12) rd.number)
  upper rd high pos =
      register_next [] Nothing (lui rd.number high.bits) (high.bits * 2 ^ 12) rd pos
      (λ i m has pc room g. no_run code v.bytes m i (i + 0) (Nothing m) (omega arith) (omega (arith, pc)) (record { same = λ q. refl }))
      (λ m n p q five six t. p.same q)
      (λ m n g p here fits. lui_goes code n v.bytes rd high here fits pos)

  -- ---- what is left in a home

  -- what a home register holds is as it was, or what it got
  pub into_register : (k w : ℕ) (ws : List ℕ) → k < 10 → Brings ws (Holds (18 + k) w (18 + k)) →
      Leaves ws (gets rv_meaning f own (Homely k) w v)
  into_register k w ws low brings i m has at room g =
      let run = brings i m has at room g in
      let p = run.is in
      record {
        last = run.last;
        climbs = run.climbs;
        at = run.at;
        sees = record {
          rests = tt;
          frame = p.others 8 (λ e. omega (arith, e)) (λ e. omega (arith, e)) (λ e. omega (arith, e)) ∙ g.frame;
          owns = p.others 9 (λ e. omega (arith, e)) (λ e. omega (arith, e)) (λ e. omega (arith, e)) ∙ g.owns;
          home = λ j h. ⊎_elim
              (λ (e : j ≡ k).
              let test : (j == k) ≡ true = grind (arith, nat_tests) in
              ap (λ q. rv_register run.last (18 + q)) e ∙ p.holds ∙ sym (ap (λ t. cond t w (v.home j)) test))
              (λ (ne : j ≢ k).
              let test : (j == k) ≡ false = grind (arith, nat_tests) in
              p.others (18 + j) (λ e. omega (arith, e)) (λ e. omega (arith, e)) (λ e. ne (omega (arith, e)))
              ∙ g.home j h ∙ sym (ap (λ t. cond t w (v.home j)) test))
              (same_or_not j k);
        };
      }

  -- a word of the memory gets what a register holds
  pub stored : (rs base : Register) (offset : Twelve) (at w : ℕ) (ws : List ℕ) → Brings ws (Holds rs.number w 5) → at % 4 ≡ 0 →
      HasWord v.bytes at → ((m : RvMachine) → Seen m → at ≡ plus (rv_register m base.number) (extended 12 offset.bits)) →
      Leaves (ws ++ sw rs.number base.number offset.bits ∷ [])
      (record { home = v.home; bytes = with_bytes v.bytes at (little_bytes 4 w) })
  stored rs base offset at w ws brings even there is i m has start room g =
      let u = sw rs.number base.number offset.bits in
      let long : length (ws ++ u ∷ []) ≡ length ws + 1 = length-append ws (u ∷ []) in
      let run = brings i m (front_at code i ws (u ∷ []) has) start (omega (arith, room, long)) g in
      let n = run.last in
      let p = run.is in
      let at1 = run.at in
      let seen = still_seen m n (λ q five six. p.others q five six five) g in
      let here = first_at code (i + length ws) u n.pc [] (back_at code i ws (u ∷ []) has) at1 in
      let bytes = with_bytes v.bytes at (little_bytes 4 w) in
      let goes = store_step code n v.bytes rs base offset at w (is n seen) even there p.holds here (omega (arith, at1, room, long)) in
      record {
        last = passed n;
        climbs = climbs_wider (rv_goes code) pc m v.bytes i (i + length ws + 1) i (i + length (ws ++ u ∷ [])) (passed n) bytes
            (omega arith) (omega (arith, long))
            (climbs_append (rv_goes code) pc m v.bytes i (i + length ws) n v.bytes (i + length ws + 1) (passed n) bytes run.climbs
            (climbs_one (rv_goes code) pc (i + length ws) n v.bytes (passed n) bytes at1 goes));
        at = omega (arith, at1, long);
        sees = record { rests = tt; frame = seen.frame; owns = seen.owns; home = seen.home };
      }

  -- the offset of a slot of the frame
  pub slot_is : (n : ℕ) → n < 100 → (m : RvMachine) → Seen m →
      slot_at f n ≡ plus (rv_register m 8) (extended 12 (slot_offset n))
  slot_is n few m g =
      from_base (rv_register m 8) f (28 + n) (slot_offset n) (slot_at f n) g.frame f_small (omega (arith, few)) (omega arith) refl

  abbrev pub slot_twelve : (n : ℕ) → n < 100 → Twelve
  slot_twelve n few = record { bits = slot_offset n; in_range = omega (arith, few) }

  -- a home has what words brought to its register
  pub put : (into : Homes) (w : ℕ) (ws : List ℕ) → HasHome rv_meaning f own into v.bytes →
      Brings ws (Holds (target_register into) w (target_register into)) →
      Leaves (ws ++ target_words into) (gets rv_meaning f own into w v)
  put (Slot n) w ws can brings =
      stored x5 x8 (slot_twelve n can.0) (slot_at f n) w ws brings (omega arith) can.1 (slot_is n can.0)
  put (Homely k) w ws can brings =
      subst (λ xs. Leaves xs (gets rv_meaning f own (Homely k) w v)) (sym (append-nil ws)) (into_register k w ws can brings)

  pub target_low : (into : Homes) → HasHome rv_meaning f own into v.bytes → target_register into < 2 ^ 5
  target_low (Slot n) can = omega arith
  target_low (Homely k) can = omega (arith, can)

  pub target_pos : (into : Homes) → 0 < target_register into
  target_pos (Slot n) = omega arith
  target_pos (Homely k) = omega arith

  abbrev pub target : (into : Homes) → HasHome rv_meaning f own into v.bytes → Register
  target into can = record { number = target_register into; in_range = target_low into can }
