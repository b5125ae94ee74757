-- What words of arithmetic bring to a register.
use Rattle.std.proofs.Common.{◌≡◌, ℕ, ◌^◌, ◌<◌, List, Option, Some, None, refl, sym, ap, ◌∙◌, arith, true}
use Rattle.ec_code.specs.declared.code.Arithmetic.{Arithmetic}
use Rattle.ec_code.specs.declared.code.Arithmetic.TheVariants.{Sum, Difference, Product, Quotient, Remainder}
use Rattle.ec_machine_code.specs.Frames.{most_blocks}
use Rattle.ec_machine_code.specs.declared.homes.Home.TheVariants.{Register as Homely, Slot}
use Rattle.ec_machine_code.specs.Micro.{CanReckon, Sight, reckoned}
use Rattle.ec_machine_code.specs.declared.step.Source.{Source}
use Rattle.ec_machine_code.specs.declared.step.Source.TheVariants.{Home, Word}
use Rattle.rv_isa.specs.declared.field.Register.{Register}
use Rattle.rv_isa.specs.declared.instr.Immediate.TheVariants.{Addi}
use Rattle.rv_isa.specs.declared.instr.Operation.TheVariants.{Add, Div, Mul, Rem, Sub}
use Rattle.rv_machine.specs.Values.{plus, quotient, remainder}
use Rattle.rv_code.proofs.NumbersLemmas.{chosen_is, negative_added, negative_low, quotient_is, remainder_is, small_is}
use Rattle.rv_code.proofs.Results.{Brings, Has, Holds, Value, one, same_word, two}
use Rattle.rv_code.specs.Words.{difference_by, difference_words, is_small, negative, one_words, small, small_negative, sum_by, two_words}
use Rattle.rv_code.specs.Words.{work_words}

module _ (code : List ℕ) (f own : ℕ) (f_small : f < most_blocks) (v : Sight) where
  abbrev pub Of : Source → ℕ
  Of x = Value code f own f_small v x

  abbrev pub There : Source → Type 0
  There x = Has code f own f_small v x

  -- behind these words register r holds w
  abbrev pub Gives : List ℕ → (r w : ℕ) → Type 0
  Gives ws r w = Brings code f own f_small v ws (Holds r w r)

  pub low : (x : Source) → There x → Of x < 2 ^ 32
  low (Home (Slot n)) can = can.1
  low (Home (Homely k)) can = can.1
  low (Word n) can = can

  -- a source that is a small number
  pub record IsSmall (x : Source) (n : ℕ) : Type 0 where
    pub is : Of x ≡ n
    pub few : n < 2 ^ 32
    pub fits : is_small n ≡ true

  pub is_small_number : (x : Source) (n : ℕ) → There x → small x ≡ Some n → IsSmall x n
  is_small_number (Home h) n can e = absurd (cc)
  is_small_number (Word k) n can e =
      let c = chosen_is (is_small k) k n e in
      record { is = c.1; few = (let h = c.1 in omega (arith, h, can)); fits = ap is_small (sym c.1) ∙ c.0 }

  -- a source whose negative is small
  pub record IsSmallNegative (x : Source) (n : ℕ) : Type 0 where
    pub is : negative (Of x) ≡ n
    pub few : n < 2 ^ 32
    pub fits : is_small n ≡ true

  is_small_negative : (x : Source) (n : ℕ) → There x → small_negative x ≡ Some n → IsSmallNegative x n
  is_small_negative (Home h) n can e = absurd (cc)
  is_small_negative (Word k) n can e =
      let c = chosen_is (is_small (negative k)) (negative k) n e in
      let h = c.1 in
      record { is = h; few = omega (arith, h, negative_low k); fits = ap is_small (sym h) ∙ c.0 }

  module _ (rd : Register) (pos : 0 < rd.number) (x y : Source) (can_x : There x) (can_y : There y) where
    sum_of : (o p : Option ℕ) → small x ≡ o → small y ≡ p →
        Gives (sum_by o p rd.number x y) rd.number (reckoned Sum (Of x) (Of y))
    sum_of None (Some n) e g =
        let s = is_small_number y n can_y g in
        same_word code f own f_small v (one_words Addi rd.number x n) rd.number _ (reckoned Sum (Of x) (Of y)) rd.number
        (ap (plus (Of x)) (small_is n s.few s.fits ∙ sym s.is)) (one code f own f_small v Addi rd pos x n can_x)
    sum_of (Some k) (Some n) e g =
        let s = is_small_number y n can_y g in
        same_word code f own f_small v (one_words Addi rd.number x n) rd.number _ (reckoned Sum (Of x) (Of y)) rd.number
        (ap (plus (Of x)) (small_is n s.few s.fits ∙ sym s.is)) (one code f own f_small v Addi rd pos x n can_x)
    sum_of (Some n) None e g =
        let s = is_small_number x n can_x e in
        let turned : plus (Of y) (Of x) ≡ plus (Of x) (Of y) = omega arith in
        same_word code f own f_small v (one_words Addi rd.number y n) rd.number _ (reckoned Sum (Of x) (Of y)) rd.number
        (ap (plus (Of y)) (small_is n s.few s.fits ∙ sym s.is) ∙ turned) (one code f own f_small v Addi rd pos y n can_y)
    sum_of None None e g = two code f own f_small v Add rd pos x y can_x can_y

    difference_of : (o : Option ℕ) → small_negative y ≡ o →
        Gives (difference_by o rd.number x y) rd.number (reckoned Difference (Of x) (Of y))
    difference_of (Some n) e =
        let s = is_small_negative y n can_y e in
        same_word code f own f_small v (one_words Addi rd.number x n) rd.number _ (reckoned Difference (Of x) (Of y)) rd.number
        (ap (plus (Of x)) (small_is n s.few s.fits) ∙ negative_added (Of x) (Of y) n (low y can_y) s.is)
        (one code f own f_small v Addi rd pos x n can_x)
    difference_of None e = two code f own f_small v Sub rd pos x y can_x can_y

    pub difference : Gives (difference_words rd.number x y) rd.number (reckoned Difference (Of x) (Of y))
    difference = difference_of (small_negative y) refl

    pub work : (how : Arithmetic) → CanReckon how (Of y) → Gives (work_words how rd.number x y) rd.number (reckoned how (Of x) (Of y))
    work Sum can = sum_of (small x) (small y) refl refl
    work Difference can = difference
    work Product can = two code f own f_small v Mul rd pos x y can_x can_y
    work Quotient can =
        same_word code f own f_small v (two_words Div rd.number x y) rd.number (quotient (Of x) (Of y)) (reckoned Quotient (Of x) (Of y))
        rd.number (quotient_is (Of x) (Of y) (low x can_x) can) (two code f own f_small v Div rd pos x y can_x can_y)
    work Remainder can =
        same_word code f own f_small v (two_words Rem rd.number x y) rd.number (remainder (Of x) (Of y)) (reckoned Remainder (Of x) (Of y))
        rd.number (remainder_is (Of x) (Of y) can) (two code f own f_small v Rem rd pos x y can_x can_y)
