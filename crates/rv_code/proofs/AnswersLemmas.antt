-- What words of questions bring to a register: 1 or 0.
use Rattle.std.proofs.Common.{◌≡◌, ℕ, ◌^◌, ◌<◌, List, [], ◌∷◌, ◌++◌, Option, Some, None, refl, sym, ap, ◌∙◌, arith, true}
use Rattle.std.proofs.Common.{false}
use Rattle.std.proofs.Common.{lit<}
use Rattle.std.specs.Int.{from_bool}
use Rattle.std.specs.Prelude.{◌==◌, Bool, if◌then◌else◌, not}
use Rattle.ec_code.specs.declared.code.Arithmetic.TheVariants.{Difference}
use Rattle.ec_machine_code.specs.Frames.{most_blocks}
use Rattle.ec_machine_code.specs.Micro.{Sight, reckoned, related}
use Rattle.ec_machine_code.specs.declared.step.Relation.{Relation}
use Rattle.ec_machine_code.specs.declared.step.Relation.TheVariants.{Less, Same}
use Rattle.ec_machine_code.specs.declared.step.Source.{Source}
use Rattle.ec_machine_code.specs.declared.step.Source.TheVariants.{Home, Word}
use Rattle.ec_world.specs.Same.{is_same_truth}
use Rattle.rv_isa.specs.declared.field.Register.{Register}
use Rattle.rv_isa.specs.declared.field.Twelve.{Twelve}
use Rattle.rv_isa.specs.declared.instr.Immediate.TheVariants.{Slti, Sltiu, Xori}
use Rattle.rv_isa.specs.declared.instr.Operation.TheVariants.{Slt, Sltu}
use Rattle.rv_machine.specs.Values.{is_less}
use Rattle.rv_code.proofs.Arithmetics.{Gives, Of, There, difference, is_small_number, low}
use Rattle.rv_code.proofs.NumbersLemmas.{above_zero, below_one, is_none, no_difference, same_turned, small_is, turned}
use Rattle.rv_code.proofs.Results.{Brings, Holds, beside_none, number_next, one, one_source, same_word, scratch_low, two}
use Rattle.rv_code.proofs.Runs.{x5}
use Rattle.rv_code.specs.Words.{answer_words, compared_words, difference_words, is_zero, less_by, less_words, same_words, small}
use Rattle.rv_code.specs.Words.{on_number, one_words, source_register, source_words, zero_word}

abbrev once : Twelve
once = record { bits = 1; in_range = lit< tt }

-- the word of an answer
abbrev pub answer : Relation → Bool → ℕ → ℕ → ℕ
answer relation wanted a b = from_bool (is_same_truth wanted (related relation a b))

module _ (code : List ℕ) (f own : ℕ) (f_small : f < most_blocks) (v : Sight) where
  -- behind these words register r holds w, and beside scratch no other is another
  abbrev Has : List ℕ → (r w : ℕ) → Type 0
  Has ws r w = Brings code f own f_small v ws (Holds r w 5)

  abbrev At : Source → ℕ
  At x = Of code f own f_small v x

  abbrev Found : Source → Type 0
  Found x = There code f own f_small v x

  abbrev Gets : List ℕ → (r w : ℕ) → Type 0
  Gets ws r w = Gives code f own f_small v ws r w

  -- ---- less

  less_of : (rd : Register) → 0 < rd.number → (x y : Source) → Found x → Found y → (o : Option ℕ) → small y ≡ o →
      Gets (less_by o rd.number x y) rd.number (from_bool (is_less (At x) (At y)))
  less_of rd pos x y can_x can_y (Some n) e =
      let s = is_small_number code f own f_small v y n can_y e in
      same_word code f own f_small v (one_words Slti rd.number x n) rd.number _ (from_bool (is_less (At x) (At y))) rd.number
      (ap (λ a. from_bool (is_less (At x) a)) (small_is n s.few s.fits ∙ sym s.is)) (one code f own f_small v Slti rd pos x n can_x)
  less_of rd pos x y can_x can_y None e = two code f own f_small v Slt rd pos x y can_x can_y

  less : (rd : Register) → 0 < rd.number → (x y : Source) → Found x → Found y →
      Gets (less_words rd.number x y) rd.number (from_bool (is_less (At x) (At y)))
  less rd pos x y can_x can_y = less_of rd pos x y can_x can_y (small y) refl

  -- ---- same

  -- whether a register has 0
  zero_next : (wanted : Bool) (rd rs : Register) → 0 < rd.number → (ws : List ℕ) (w : ℕ) → Has ws rs.number w →
      Gets (ws ++ zero_word wanted rd.number rs.number ∷ []) rd.number (from_bool (is_same_truth wanted (w == 0)))
  zero_next true rd rs pos ws w has =
      same_word code f own f_small v (ws ++ zero_word true rd.number rs.number ∷ []) rd.number _ (from_bool (w == 0)) rd.number
      (ap from_bool (below_one w))
      (number_next code f own f_small v Sltiu rd rs once ws w pos has)
  zero_next false rd rs pos ws w has =
      same_word code f own f_small v (ws ++ zero_word false rd.number rs.number ∷ []) rd.number _ (from_bool (not (w == 0))) rd.number
      (ap from_bool (above_zero w))
      (beside_none code f own f_small v Sltu rd rs ws w pos has)

  apart_low : (x : Source) → Found x → (z : Bool) → (if z then source_register 5 x else 5) < 2 ^ 5
  apart_low x can true = scratch_low code f own f_small v x can
  apart_low x can false = omega arith

  compared_by : (wanted : Bool) (rd : Register) → 0 < rd.number → (x y : Source) → Found x → Found y → (z : Bool) → is_zero y ≡ z →
      Gets
      ((if z then source_words 5 x else difference_words 5 x y) ++ zero_word wanted rd.number (if z then source_register 5 x else 5) ∷ [])
      rd.number (answer Same wanted (At x) (At y))
  compared_by wanted rd pos x (Word n) can_x can_y true e =
      let none = is_none n e in
      let rs : Register = record { number = source_register 5 x; in_range = scratch_low code f own f_small v x can_x } in
      let ws = source_words 5 x ++ zero_word wanted rd.number rs.number ∷ [] in
      same_word code f own f_small v ws rd.number _ (answer Same wanted (At x) n) rd.number
      (ap (λ b. from_bool (is_same_truth wanted (At x == b))) (sym none))
      (zero_next wanted rd rs pos (source_words 5 x) (At x) (one_source code f own f_small v x can_x))
  compared_by wanted rd pos x (Home h) can_x can_y true e = absurd (cc)
  compared_by wanted rd pos x y can_x can_y false e =
      let ws = difference_words 5 x y ++ zero_word wanted rd.number 5 ∷ [] in
      same_word code f own f_small v ws rd.number _ (answer Same wanted (At x) (At y)) rd.number
      (ap (λ t. from_bool (is_same_truth wanted t))
      (no_difference (At x) (At y) (low code f own f_small v x can_x) (low code f own f_small v y can_y)))
      (zero_next wanted rd x5 pos (difference_words 5 x y) (reckoned Difference (At x) (At y))
      (difference code f own f_small v x5 (omega arith) x y can_x can_y))

  compared : (wanted : Bool) (rd : Register) → 0 < rd.number → (x y : Source) → Found x → Found y →
      Gets (compared_words wanted rd.number x y) rd.number (answer Same wanted (At x) (At y))
  compared wanted rd pos x y can_x can_y = compared_by wanted rd pos x y can_x can_y (is_zero y) refl

  same : (wanted : Bool) (rd : Register) → 0 < rd.number → (x y : Source) → Found x → Found y →
      Gets (same_words wanted rd.number x y) rd.number (answer Same wanted (At x) (At y))
  same wanted rd pos (Home h) y can_x can_y = compared wanted rd pos (Home h) y can_x can_y
  same wanted rd pos (Word n) y can_x can_y =
      same_word code f own f_small v (compared_words wanted rd.number y (Word n)) rd.number _ (answer Same wanted n (At y)) rd.number
      (ap (λ t. from_bool (is_same_truth wanted t)) (same_turned (At y) n)) (compared wanted rd pos y (Word n) can_y can_x)

  -- ---- either

  pub answered : (relation : Relation) (wanted : Bool) (rd : Register) → 0 < rd.number → (x y : Source) → Found x → Found y →
      Gets (answer_words relation wanted rd.number x y) rd.number (answer relation wanted (At x) (At y))
  answered Same wanted rd pos x y can_x can_y = same wanted rd pos x y can_x can_y
  answered Less true rd pos x y can_x can_y = less rd pos x y can_x can_y
  answered Less false rd pos x y can_x can_y =
      let ws = less_words 5 x y ++ on_number Xori rd.number 5 1 ∷ [] in
      same_word code f own f_small v ws rd.number _ (answer Less false (At x) (At y)) rd.number (turned (is_less (At x) (At y)))
      (number_next code f own f_small v Xori rd x5 once (less_words 5 x y) (from_bool (is_less (At x) (At y))) pos
      (less x5 (omega arith) x y can_x can_y))
