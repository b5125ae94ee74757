-- Words that stand for values: what arithmetic and tests on words come to.
use Rattle.std.proofs.Common.{◌≡◌, ◌≢◌, ℕ, zero, suc, ◌^◌, ◌<◌, ◌≤◌, List, [], ◌∷◌, Option, Some, None, refl, sym, ap, ◌∙◌}
use Rattle.std.proofs.Common.{subst, arith, Bool, true, false, not, if◌then◌else◌, ◌==◌, ℤ, pos, negsuc, int_lt, int_le, int_rem, int_div}
use Rattle.std.proofs.Common.{FitsSigned, neg_ℤ, ◌/◌, div-le_self}
use Rattle.std.specs.Int.{w32, cast_signed, cast_unsigned, from_bool, int_wrapping_add, int_wrapping_sub, int_wrapping_mul}
use Rattle.std.specs.Int.{int_wrapping_div}
use lib.Signed.{mag_rem}
use Rattle.std.proofs.Math.Facts.{sfits_to_z}
use Rattle.std.proofs.lemmas.Bool.Decides.{nat_tests}
use Rattle.std.proofs.lemmas.Int.{to_z-of_z, of_z-to_z, ints}
use Rattle.std.proofs.lemmas.Option.{same_Some}
use Rattle.ec_code.specs.Steps.{as_wanted, computed, on_numbers, on_two, truth_in, unless_zero}
use Rattle.ec_code.specs.declared.code.Arithmetic.{Arithmetic}
use Rattle.ec_code.specs.declared.code.Arithmetic.TheVariants.{Sum, Difference, Product, Quotient, Remainder}
use Rattle.ec_code.specs.declared.code.Parts.{Parts}
use Rattle.ec_machine_code.specs.Standing.{AreTables, FitsWord}
use Rattle.ec_machine_code.specs.Micro.{CanReckon, reckoned, related}
use Rattle.ec_machine_code.specs.declared.step.Relation.TheVariants.{Same, Less}
use Rattle.ec_world.specs.Words.{StandsFor}
use Rattle.ec_world.specs.Same.{are_same, is_same_number, is_same_text, is_same_truth, is_zero}
use Rattle.ec_world.specs.declared.value.Value.{Value}
use Rattle.ec_world.specs.declared.value.Value.TheVariants.{Int, Str, Ref, Nil, Bool as Truth}

-- ---- numbers as words

pub below : (z : ℤ) → FitsSigned w32 z → cast_unsigned w32 z < 2 ^ 32
below z h = (let k = h.sfits in omega (arith, ints))

pub bool_small : (b : Bool) → from_bool b < 2 ^ 32
bool_small true = omega arith
bool_small false = omega arith

-- what is left in 32 bits
wrapped : (n : ℕ) → n < 2 ^ 32 → FitsSigned w32 (cast_signed w32 n)
wrapped n small = sfits_to_z {w = w32} (record { fits = small })

remainder : (a b : ℤ) → FitsSigned w32 a → FitsSigned w32 (int_rem a b)
remainder a b f = record { sfits = omega (arith, mag_rem a b, f.sfits) }

opposite_small : (q : ℕ) → q ≤ 2 ^ 31 → cast_unsigned w32 (neg_ℤ (pos q)) < 2 ^ 32
opposite_small zero h = omega arith
opposite_small (suc q) h = omega (arith, h)

-- a quotient is no further from 0 than what is divided
quotient_small : (a b : ℤ) → FitsSigned w32 a → cast_unsigned w32 (int_div a b) < 2 ^ 32
quotient_small (pos a) (pos b) f = (let k = f.sfits in let le = div-le_self a b in omega (arith, k, le))
quotient_small (pos a) (negsuc b) f =
    (let k = f.sfits in let le = div-le_self a (suc b) in opposite_small (a / suc b) (omega (arith, k, le)))
quotient_small (negsuc a) (pos b) f =
    (let k = f.sfits in let le = div-le_self (suc a) b in opposite_small (suc a / b) (omega (arith, k, le)))
quotient_small (negsuc a) (negsuc b) f = (let k = f.sfits in let le = div-le_self (suc a) (suc b) in omega (arith, k, le))

back : (z : ℤ) (w : ℕ) → FitsSigned w32 z → w ≡ cast_unsigned w32 z → cast_signed w32 w ≡ z
back z w f e = ap (cast_signed w32) e ∙ to_z-of_z w32 z f

not_zero : (b : ℤ) → FitsSigned w32 b → is_zero b ≡ false → cast_unsigned w32 b ≢ 0
not_zero (pos zero) f e = absurd cc
not_zero (pos (suc n)) f e = λ h. absurd (omega (arith, h))
not_zero (negsuc n) f e = (let k = f.sfits in λ h. absurd (omega (arith, k, h)))

unless_some : (b z : ℤ) (v : Value) → unless_zero b z ≡ Some v → (is_zero b ≡ false) × (Int z ≡ v)
unless_some (pos zero) z v e = absurd cc
unless_some (pos (suc n)) z v e = (refl, same_Some (Int z) v e)
unless_some (negsuc n) z v e = (refl, same_Some (Int z) v e)

-- ---- what is the same

same_numbers : (a b : ℤ) → FitsSigned w32 a → FitsSigned w32 b → (cast_unsigned w32 a == cast_unsigned w32 b) ≡ is_same_number a b
same_numbers (pos a) (pos b) f g = refl
same_numbers (pos a) (negsuc b) f g = (let k = f.sfits in let l = g.sfits in grind (arith, nat_tests))
same_numbers (negsuc a) (pos b) f g = (let k = f.sfits in let l = g.sfits in grind (arith, nat_tests))
same_numbers (negsuc a) (negsuc b) f g = (let k = f.sfits in let l = g.sfits in grind (arith, nat_tests))

text_itself : (s : List ℕ) → is_same_text s s ≡ true
text_itself [] = refl
text_itself (a ∷ s) =
    let test : (a == a) ≡ true = grind (arith, nat_tests) in
    ap (λ t. if t then is_same_text s s else false) test ∙ text_itself s

if_both : (t u : Bool) → (if t then u else false) ≡ true → (t ≡ true) × (u ≡ true)
if_both true u e = (refl, e)
if_both false u e = absurd cc

one_text : (s t : List ℕ) → is_same_text s t ≡ true → s ≡ t
one_text [] [] e = refl
one_text [] (b ∷ t) e = absurd cc
one_text (a ∷ s) [] e = absurd cc
one_text (a ∷ s) (b ∷ t) e =
    let both = if_both (a == b) (is_same_text s t) e in
    let test = both.0 in
    let first : a ≡ b = grind (arith, nat_tests) in
    ap (λ x. x ∷ s) first ∙ ap (λ r. b ∷ r) (one_text s t both.1)

-- two tests that tell one another are one
one_test : (t u : Bool) → (t ≡ true → u ≡ true) → (u ≡ true → t ≡ true) → t ≡ u
one_test true u f g = sym (f refl)
one_test false true f g = g refl
one_test false false f g = refl

-- a test of two words is whether they are one
words_same : (a b : ℕ) → (a == b) ≡ true → a ≡ b
words_same a b e = grind (arith, nat_tests)

words_one : (a b : ℕ) → a ≡ b → (a == b) ≡ true
words_one a b e = grind (arith, nat_tests)

words_two : (a b : ℕ) → a ≢ b → (a == b) ≡ false
words_two a b ne = grind (arith, nat_tests)

at_most : (a b : ℤ) → int_le a b ≡ not (int_lt b a)
at_most (pos a) (pos b) = grind (arith, nat_tests)
at_most (pos a) (negsuc b) = refl
at_most (negsuc a) (pos b) = refl
at_most (negsuc a) (negsuc b) = grind (arith, nat_tests)

none_some : {A : Type 0} (x : A) → None ≡ Some x → ⊥
none_some x e = cc

module _ (p : Parts) (local : ℕ → Option ℕ) (text : ℕ → Option (List ℕ)) (tables : AreTables p local text) where
  -- the word of a value in range is one of 32 bits
  pub stands_small : (v : Value) (w : ℕ) → FitsWord v → StandsFor local text v w → w < 2 ^ 32
  stands_small (Int z) w f e = let lt = below z f in omega (arith, e, lt)
  stands_small (Truth true) w f e = omega (arith, e)
  stands_small (Truth false) w f e = omega (arith, e)
  stands_small (Str s) w f e = tables.small_texts w s e
  stands_small (Ref o) w f e = tables.small_locals w o e
  stands_small Nil w f e = omega (arith, e)

  pub truth_stands : (b : Bool) → StandsFor local text (Truth b) (from_bool b)
  truth_stands true = refl
  truth_stands false = refl

  -- ---- arithmetic

  -- the value that is worked out, and the word
  pub record Reckons (how : Arithmetic) (b : ℕ) (v : Value) (w : ℕ) : Type 0 where
    pub can : CanReckon how b
    pub fits : FitsWord v
    pub stands : StandsFor local text v w

  in_words : (how : Arithmetic) (b n : ℕ) (v : Value) → CanReckon how b → n < 2 ^ 32 → Int (cast_signed w32 n) ≡ v → Reckons how b v n
  in_words how b n v can small e =
      subst (λ u. Reckons how b u n) e (record { can = can; fits = wrapped n small; stands = sym (of_z-to_z w32 n small) })

  reckons_words :
      (how : Arithmetic) (x y : ℤ) (v : Value) → FitsSigned w32 x → FitsSigned w32 y → computed how x y ≡ Some v →
      Reckons how (cast_unsigned w32 y) v (reckoned how (cast_unsigned w32 x) (cast_unsigned w32 y))
  reckons_words Sum x y v f g e =
      in_words Sum (cast_unsigned w32 y) (reckoned Sum (cast_unsigned w32 x) (cast_unsigned w32 y)) v tt (omega arith)
      (same_Some (Int (int_wrapping_add w32 x y)) v e)
  reckons_words Difference x y v f g e =
      in_words Difference (cast_unsigned w32 y) (reckoned Difference (cast_unsigned w32 x) (cast_unsigned w32 y)) v tt (omega arith)
      (same_Some (Int (int_wrapping_sub w32 x y)) v e)
  reckons_words Product x y v f g e =
      in_words Product (cast_unsigned w32 y) (reckoned Product (cast_unsigned w32 x) (cast_unsigned w32 y)) v tt (omega arith)
      (same_Some (Int (int_wrapping_mul w32 x y)) v e)
  reckons_words Quotient x y v f g e =
      let some = unless_some y (int_wrapping_div w32 x y) v e in
      let word : reckoned Quotient (cast_unsigned w32 x) (cast_unsigned w32 y) ≡ cast_unsigned w32 (int_wrapping_div w32 x y) =
      ap (λ a. cast_unsigned w32 (int_wrapping_div w32 a (cast_signed w32 (cast_unsigned w32 y)))) (to_z-of_z w32 x f)
      ∙ ap (λ b. cast_unsigned w32 (int_wrapping_div w32 x b)) (to_z-of_z w32 y g) in
      subst (λ u. Reckons Quotient (cast_unsigned w32 y) u (reckoned Quotient (cast_unsigned w32 x) (cast_unsigned w32 y))) some.1
      (record { can = not_zero y g some.0; fits = wrapped (cast_unsigned w32 (int_div x y)) (quotient_small x y f); stands = word })
  reckons_words Remainder x y v f g e =
      let some = unless_some y (int_rem x y) v e in
      let word : reckoned Remainder (cast_unsigned w32 x) (cast_unsigned w32 y) ≡ cast_unsigned w32 (int_rem x y) =
      ap (λ a. cast_unsigned w32 (int_rem a (cast_signed w32 (cast_unsigned w32 y)))) (to_z-of_z w32 x f)
      ∙ ap (λ b. cast_unsigned w32 (int_rem x b)) (to_z-of_z w32 y g) in
      subst (λ u. Reckons Remainder (cast_unsigned w32 y) u (reckoned Remainder (cast_unsigned w32 x) (cast_unsigned w32 y))) some.1
      (record { can = not_zero y g some.0; fits = remainder x y f; stands = word })

  -- two numbers at their words
  at_words :
      (x y : ℤ) (a b : ℕ) (P : ℕ → ℕ → Type 0) → a ≡ cast_unsigned w32 x → b ≡ cast_unsigned w32 y →
      P (cast_unsigned w32 x) (cast_unsigned w32 y) → P a b
  at_words x y a b P e g h = subst (λ n. P n b) (sym e) (subst (λ n. P (cast_unsigned w32 x) n) (sym g) h)

  pub reckons :
      (how : Arithmetic) (u t : Value) (a b : ℕ) (v : Value) → FitsWord u → FitsWord t → StandsFor local text u a →
      StandsFor local text t b → on_numbers (computed how) u t ≡ Some v → Reckons how b v (reckoned how a b)
  reckons how (Int x) (Int y) a b v f g e h is =
      at_words x y a b (λ n k. Reckons how k v (reckoned how n k)) e h (reckons_words how x y v f g is)
  reckons how (Int x) _ a b v f g e h is = absurd (none_some v is)
  reckons how _ t a b v f g e h is = absurd (none_some v is)

  -- ---- tests

  pub below_is :
      (u t : Value) (a b : ℕ) (r : Bool) → FitsWord u → FitsWord t → StandsFor local text u a → StandsFor local text t b →
      on_numbers (λ x y. Some (int_lt x y)) u t ≡ Some r → related Less a b ≡ r
  below_is (Int x) (Int y) a b r f g e h is =
      ap (λ z. int_lt z (cast_signed w32 b)) (back x a f e) ∙ ap (int_lt x) (back y b g h) ∙ same_Some (int_lt x y) r is
  below_is (Int x) _ a b r f g e h is = absurd (none_some r is)
  below_is _ t a b r f g e h is = absurd (none_some r is)

  pub at_most_is :
      (u t : Value) (a b : ℕ) (r : Bool) → FitsWord u → FitsWord t → StandsFor local text u a → StandsFor local text t b →
      on_numbers (λ x y. Some (int_le x y)) u t ≡ Some r → not (related Less b a) ≡ r
  at_most_is (Int x) (Int y) a b r f g e h is =
      ap (λ z. not (int_lt z (cast_signed w32 a))) (back y b g h) ∙ ap (λ z. not (int_lt y z)) (back x a f e)
      ∙ sym (at_most x y) ∙ same_Some (int_le x y) r is
  at_most_is (Int x) _ a b r f g e h is = absurd (none_some r is)
  at_most_is _ t a b r f g e h is = absurd (none_some r is)

  zero_word : (y : ℤ) → FitsSigned w32 y → (cast_unsigned w32 y == 0) ≡ is_zero y
  zero_word (pos zero) f = refl
  zero_word (pos (suc n)) f = words_two (suc n) 0 (λ e. omega (arith, e))
  zero_word (negsuc n) f = (let k = f.sfits in grind (arith, nat_tests))

  pub divides_is :
      (u t : Value) (b : ℕ) (r : Bool) → FitsWord t → StandsFor local text t b →
      on_numbers (λ x y. Some (not (is_zero y))) u t ≡ Some r → not (related Same b 0) ≡ r
  divides_is (Int x) (Int y) b r g h is =
      ap (λ n. not (n == 0)) h ∙ ap not (zero_word y g) ∙ same_Some (not (is_zero y)) r is
  divides_is (Int x) _ b r g h is = absurd (none_some r is)
  divides_is _ t b r g h is = absurd (none_some r is)

  pub holds_is :
      (u : Option Value) (v : Value) (a : ℕ) (r : Bool) → u ≡ Some v → StandsFor local text v a → truth_in u ≡ Some r →
      not (related Same a 0) ≡ r
  holds_is None v a r s e is = absurd (none_some r is)
  holds_is (Some u) v a r s e is = on_value v e (sym (ap truth_in s) ∙ is)
    where
      on_value : (v : Value) → StandsFor local text v a → truth_in (Some v) ≡ Some r → not (related Same a 0) ≡ r
      on_value (Truth true) e is = ap (λ n. not (n == 0)) e ∙ same_Some true r is
      on_value (Truth false) e is = ap (λ n. not (n == 0)) e ∙ same_Some false r is
      on_value _ e is = absurd (none_some r is)

  same_truths : (x y : Bool) (a b : ℕ) → a ≡ (if x then 1 else 0) → b ≡ (if y then 1 else 0) → related Same a b ≡ is_same_truth x y
  same_truths true true a b e h = ap (λ n. n == b) e ∙ ap (λ n. 1 == n) h
  same_truths true false a b e h = ap (λ n. n == b) e ∙ ap (λ n. 1 == n) h
  same_truths false true a b e h = ap (λ n. n == b) e ∙ ap (λ n. 0 == n) h
  same_truths false false a b e h = ap (λ n. n == b) e ∙ ap (λ n. 0 == n) h

  same_texts : (s t : List ℕ) (a b : ℕ) → text a ≡ Some s → text b ≡ Some t → related Same a b ≡ is_same_text s t
  same_texts s t a b e h = one_test (a == b) (is_same_text s t)
      (λ is. let one = same_Some s t (sym e ∙ ap text (words_same a b is) ∙ h) in ap (is_same_text s) (sym one) ∙ text_itself s)
      (λ is. words_one a b (tables.texts a b s e (h ∙ ap Some (sym (one_text s t is)))))

  same_references : (x y a b : ℕ) → local a ≡ Some x → local b ≡ Some y → related Same a b ≡ (x == y)
  same_references x y a b e h = one_test (a == b) (x == y)
      (λ is. words_one x y (same_Some x y (sym e ∙ ap local (words_same a b is) ∙ h)))
      (λ is. words_one a b (tables.locals a b x e (h ∙ ap Some (sym (words_same x y is)))))

  not_nil : (x a : ℕ) → local a ≡ Some x → a ≢ 0
  not_nil x a e z = none_some x (sym tables.nil ∙ ap local (sym z) ∙ e)

  pub same_is :
      (u t : Value) (a b : ℕ) (r : Bool) → FitsWord u → FitsWord t → StandsFor local text u a → StandsFor local text t b →
      are_same u t ≡ Some r → related Same a b ≡ r
  same_is (Int x) (Int y) a b r f g e h is =
      ap (λ n. n == b) e ∙ ap (λ n. cast_unsigned w32 x == n) h ∙ same_numbers x y f g ∙ same_Some (is_same_number x y) r is
  same_is (Truth x) (Truth y) a b r f g e h is = same_truths x y a b e h ∙ same_Some (is_same_truth x y) r is
  same_is (Str s) (Str t) a b r f g e h is = same_texts s t a b e h ∙ same_Some (is_same_text s t) r is
  same_is (Ref x) (Ref y) a b r f g e h is = same_references x y a b e h ∙ same_Some (x == y) r is
  same_is (Ref x) Nil a b r f g e h is =
      ap (λ n. a == n) h ∙ words_two a 0 (not_nil x a e) ∙ same_Some false r is
  same_is Nil (Ref y) a b r f g e h is =
      ap (λ n. n == b) e ∙ words_two 0 b (λ z. not_nil y b h (sym z)) ∙ same_Some false r is
  same_is Nil Nil a b r f g e h is = ap (λ n. n == b) e ∙ ap (λ n. 0 == n) h ∙ same_Some true r is
  same_is (Int x) _ a b r f g e h is = absurd (none_some r is)
  same_is (Truth x) _ a b r f g e h is = absurd (none_some r is)
  same_is (Str s) _ a b r f g e h is = absurd (none_some r is)
  same_is (Ref x) _ a b r f g e h is = absurd (none_some r is)
  same_is Nil _ a b r f g e h is = absurd (none_some r is)

-- ---- what is wanted

pub wanted_some :
    (wanted b : Bool) (c : Option Bool) → as_wanted wanted c ≡ Some b →
    (r : Bool) × (c ≡ Some r) × (is_same_truth wanted r ≡ b)
wanted_some wanted b None e = absurd (none_some b e)
wanted_some wanted b (Some r) e = (r, refl, same_Some (is_same_truth wanted r) b e)

pub turned : (wanted r : Bool) → is_same_truth (not wanted) r ≡ is_same_truth wanted (not r)
turned true true = refl
turned true false = refl
turned false true = refl
turned false false = refl

pub two_some :
    {A : Type 0} (act : Value → Value → Option A) (x y : Option Value) (r : A) → on_two act x y ≡ Some r →
    (u : Value) × (t : Value) × (x ≡ Some u) × (y ≡ Some t) × (act u t ≡ Some r)
two_some act None y r e = absurd (none_some r e)
two_some act (Some u) None r e = absurd (none_some r e)
two_some act (Some u) (Some t) r e = (u, t, refl, refl, e)
