-- What the words of each step do.
use Rattle.std.proofs.Common.{◌≡◌, ℕ, ◌+◌, ◌*◌, ◌^◌, ◌<◌, List, [], ◌∷◌, length, refl, sym, ap, ◌∙◌, arith, lit<}
use Rattle.std.specs.Int.{from_bool}
use Rattle.byteorder.specs.Endian.{little_number}
use Rattle.ec_code.specs.declared.code.Arithmetic.{Arithmetic}
use Rattle.ec_machine_code.specs.Frames.{block_words, field_at, most_blocks, own_reference, slot_at}
use Rattle.ec_machine_code.specs.declared.homes.Home.{Home as Homes}
use Rattle.ec_machine_code.specs.declared.homes.Home.TheVariants.{Register as Homely, Slot}
use Rattle.ec_memory.specs.Words.{HasWord, block_word_at, global_word_at, word_in}
use Rattle.ec_machine_code.specs.Micro.{Can, Sight, asked, does, or_zero, reckoned}
use Rattle.ec_machine_code.specs.declared.step.Question.{Question}
use Rattle.ec_machine_code.specs.declared.step.Source.{Source}
use Rattle.ec_machine_code.specs.declared.step.Source.TheVariants.{Home, Word}
use Rattle.ec_machine_code.specs.declared.step.Step.{Step}
use Rattle.ec_machine_code.specs.declared.step.Step.TheVariants.{Constant, Decide, Field, Itself, Move, SetField, Work}
use Rattle.rv_isa.specs.Parts.{high_of, low_of}
use Rattle.rv_isa.specs.declared.field.Register.{Register}
use Rattle.rv_isa.specs.declared.field.Twelve.{Twelve}
use Rattle.rv_isa.specs.declared.field.Twenty.{Twenty}
use Rattle.rv_isa.specs.declared.instr.Immediate.TheVariants.{Addi}
use Rattle.rv_machine.proofs.Effects.{high_low}
use Rattle.rv_machine.specs.Machine.{rv_register}
use Rattle.rv_machine.specs.Values.{extended, plus}
use Rattle.rv_machine.specs.declared.machine.RvMachine.{RvMachine}
use Rattle.rv_code.proofs.AnswersLemmas.{answered}
use Rattle.rv_code.proofs.Arithmetics.{Gives, Of, There, work}
use Rattle.rv_code.proofs.NumbersLemmas.{from_base, none_added}
use Rattle.rv_code.proofs.Results.{Holds, Leaves, Seen, first_register, into_register, loaded, number_next, one_source, put}
use Rattle.rv_code.proofs.Results.{register_next}
use Rattle.rv_code.proofs.Results.{same_word, slot_is, slot_twelve, stored, target, target_pos, upper}
use Rattle.rv_code.proofs.Runs.{load_step, weaker, x8, x9}
use Rattle.rv_code.proofs.SourcesLemmas.{Fetched, number}
use Rattle.rv_code.specs.Meaning.{rv_meaning}
use Rattle.rv_code.specs.Words.{answer_words, constant_words, copied_words, lui, lw, number_words, on_number, source_words, step_words}
use Rattle.rv_code.specs.Words.{target_register, work_words}

abbrev nothing_added : Twelve
nothing_added = record { bits = 0; in_range = lit< tt }

module _ (code : List ℕ) (f own : ℕ) (f_small : f < most_blocks) (own_small : own < most_blocks) (v : Sight) where
  abbrev Law : Step → Type 0
  Law m = Can rv_meaning f own m v → Leaves code f own f_small v (step_words m) (does rv_meaning f own m v)

  abbrev Gets : List ℕ → (r w : ℕ) → Type 0
  Gets ws r w = Gives code f own f_small v ws r w

  -- ---- a register gets a source

  number_gets : (rd : Register) → 0 < rd.number → (n : ℕ) → n < 2 ^ 32 → Gets (number_words rd.number n) rd.number n
  number_gets rd pos n low i m has at room g =
      weaker code v.bytes m i (i + length (number_words rd.number n))
      (Fetched rd.number rd.number n m) (Holds rd.number n rd.number m)
      (λ t p. record { holds = p.holds; others = λ q five six ne. p.others q ne })
      (number code v.bytes rd pos n low i m has at room)

  register_gets : (rd : Register) → 0 < rd.number → (k : ℕ) → There code f own f_small v (Home (Homely k)) →
      Gets (on_number Addi rd.number (18 + k) 0 ∷ []) rd.number (v.home k)
  register_gets rd pos k can =
      same_word code f own f_small v (on_number Addi rd.number (18 + k) 0 ∷ []) rd.number (plus (v.home k) (extended 12 0)) (v.home k)
      rd.number (none_added (v.home k) can.1)
      (number_next code f own f_small v Addi rd (first_register code f own f_small v (Home (Homely k)) can) nothing_added [] (v.home k) pos
      (one_source code f own f_small v (Home (Homely k)) can))

  source_gets : (rd : Register) → 0 < rd.number → (x : Source) → There code f own f_small v x →
      Gets (copied_words rd.number x) rd.number (Of code f own f_small v x)
  source_gets rd pos (Home (Slot n)) can =
      loaded code f own f_small v rd x8 (slot_twelve code f own f_small v n can.0.0) (slot_at f n) pos (omega arith) can.0.1
      (slot_is code f own f_small v n can.0.0)
  source_gets rd pos (Home (Homely k)) can = register_gets rd pos k can
  source_gets rd pos (Word n) can = number_gets rd pos n can

  -- ---- words of memory

  own_twelve : (i : ℕ) → i < block_words → 4 * i < 2 ^ 12
  own_twelve i few = omega (arith, few)

  abbrev field_twelve : (i : ℕ) → i < block_words → Twelve
  field_twelve i few = record { bits = 4 * i; in_range = own_twelve i few }

  field_is : (i : ℕ) → i < block_words → (m : RvMachine) → Seen code f own f_small v m →
      field_at own i ≡ plus (rv_register m 9) (extended 12 (4 * i))
  field_is i few m g = from_base (rv_register m 9) own i (4 * i) (field_at own i) g.owns own_small few refl refl

  itself_is : (m : RvMachine) → Seen code f own f_small v m →
      block_word_at f own_reference ≡ plus (rv_register m 8) (extended 12 24)
  itself_is m g = from_base (rv_register m 8) f 6 24 (block_word_at f 6) g.frame f_small (omega arith) refl refl

  constant_gets : (rd : Register) → 0 < rd.number → (i : ℕ) → i < 2 ^ 20 → HasWord v.bytes (global_word_at i) →
      Gets (constant_words rd.number i) rd.number (or_zero (word_in little_number v.bytes (global_word_at i)))
  constant_gets rd pos i few there =
      let address = global_word_at i in
      let high : Twenty = record { bits = high_of address; in_range = omega arith } in
      let lower : Twelve = record { bits = low_of address; in_range = omega arith } in
      let small : address < 2 ^ 32 = omega (arith, few) in
      register_next code f own f_small v (lui rd.number (high_of address) ∷ []) (Holds rd.number (high_of address * 2 ^ 12) rd.number)
      (lw rd.number rd.number (low_of address)) (or_zero (word_in little_number v.bytes address)) rd pos
      (upper code f own f_small v rd high pos) (λ m n p q five six t. p.others q five six t)
      (λ m n g p here fits.
      load_step code n v.bytes rd rd lower address
      (sym (ap (λ x. plus x (extended 12 (low_of address))) p.holds ∙ high_low address small)) (omega arith) there here fits pos)

  -- ---- each step

  move : (into : Homes) (from : Source) → Law (Move into from)
  move (Slot n) from can =
      stored code f own f_small v (first_register code f own f_small v from can.1) x8 (slot_twelve code f own f_small v n can.0.0)
      (slot_at f n) (Of code f own f_small v from) (source_words 5 from) (one_source code f own f_small v from can.1) (omega arith) can.0.1
      (slot_is code f own f_small v n can.0.0)
  move (Homely k) from can =
      let rd = target code f own f_small v (Homely k) can.0 in
      into_register code f own f_small v k (Of code f own f_small v from) (copied_words (18 + k) from) can.0
      (source_gets rd (omega arith) from can.1)

  itself : (into : Homes) → Law (Itself into)
  itself into can =
      let rd = target code f own f_small v into can.0 in
      let offset : Twelve = record { bits = 24; in_range = lit< tt } in
      put code f own f_small v into (or_zero (word_in little_number v.bytes (block_word_at f own_reference)))
      (lw (target_register into) 8 24 ∷ []) can.0
      (loaded code f own f_small v rd x8 offset (block_word_at f own_reference) (target_pos code f own f_small v into) (omega arith) can.1
      itself_is)

  field : (into : Homes) (i : ℕ) → Law (Field into i)
  field into i can =
      let rd = target code f own f_small v into can.0 in
      put code f own f_small v into (or_zero (word_in little_number v.bytes (field_at own i))) (lw (target_register into) 9 (4 * i) ∷ [])
      can.0
      (loaded code f own f_small v rd x9 (field_twelve i can.1) (field_at own i) (target_pos code f own f_small v into) (omega arith) can.2
      (field_is i can.1))

  set_field : (i : ℕ) (from : Source) → Law (SetField i from)
  set_field i from can =
      stored code f own f_small v (first_register code f own f_small v from can.0) x9 (field_twelve i can.1) (field_at own i)
      (Of code f own f_small v from) (source_words 5 from) (one_source code f own f_small v from can.0) (omega arith) can.2
      (field_is i can.1)

  constant : (into : Homes) (i : ℕ) → Law (Constant into i)
  constant into i can =
      let rd = target code f own f_small v into can.0 in
      put code f own f_small v into (or_zero (word_in little_number v.bytes (global_word_at i))) (constant_words (target_register into) i)
      can.0 (constant_gets rd (target_pos code f own f_small v into) i can.1 can.2)

  works : (how : Arithmetic) (into : Homes) (x y : Source) → Law (Work how into x y)
  works how into x y can =
      let rd = target code f own f_small v into can.0 in
      put code f own f_small v into (reckoned how (Of code f own f_small v x) (Of code f own f_small v y))
      (work_words how (target_register into) x y) can.0
      (work code f own f_small v rd (target_pos code f own f_small v into) x y can.1 can.2 how can.3)

  decide : (into : Homes) (q : Question) → Law (Decide into q)
  decide into q can =
      let rd = target code f own f_small v into can.0 in
      put code f own f_small v into (from_bool (asked rv_meaning f own q v.home v.bytes))
      (answer_words q.relation q.wanted (target_register into) q.left q.right) can.0
      (answered code f own f_small v q.relation q.wanted rd (target_pos code f own f_small v into) q.left q.right can.1.0 can.1.1)

  pub step : (m : Step) → Law m
  step (Move into from) = move into from
  step (Itself into) = itself into
  step (Field into i) = field into i
  step (SetField i from) = set_field i from
  step (Constant into i) = constant into i
  step (Work how into x y) = works how into x y
  step (Decide into q) = decide into q
