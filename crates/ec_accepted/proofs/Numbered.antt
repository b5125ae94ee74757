-- Classes and constants by their numbers: where they stand among the others.
use Rattle.std.proofs.Common.{◌≡◌, ℕ, zero, suc, ◌+◌, ◌<◌, ◌==◌, Bool, true, false, if◌then◌else◌, List, [], ◌∷◌, map, Some}
use Rattle.std.proofs.Common.{refl, sym, ap, ◌∙◌, subst, inl, inr, arith, eq-eqb, ne_eqb}
use Rattle.std.specs.Prelude.{slice_get}
use Rattle.ec_check.specs.WellTyped.{constant_type_at}
use Rattle.ec_code.specs.Fine.{IsIn}
use Rattle.ec_types.specs.declared.conform.static_type.StaticType.{StaticType}
use Rattle.ec_core.specs.declared.Class.{Class}
use Rattle.ec_core.specs.declared.Constant.{Constant}
use Rattle.ec_emission.proofs.Forms.{no_leaf}
use Rattle.ec_meaning.specs.Programs.{class_from, constant_from}
use Rattle.ec_places.specs.Rising.{IsRising}

-- ---- lists

in_map : {A B : Type 0} (f : A → B) (x : A) (xs : List A) → IsIn x xs → IsIn (f x) (map f xs)
in_map f x [] i = absurd i
in_map f x (y ∷ xs) (inl e) = inl (ap f e)
in_map f x (y ∷ xs) (inr i) = inr (in_map f x xs i)

slice_map : {A B : Type 0} (f : A → B) (xs : List A) (n : ℕ) (x : A) → slice_get xs n ≡ Some x →
    slice_get (map f xs) n ≡ Some (f x)
slice_map f [] n x e = cc
slice_map f (y ∷ xs) zero x e = let same : y ≡ x = cc in ap (λ z. Some (f z)) same
slice_map f (y ∷ xs) (suc n) x e = slice_map f xs n x e

-- ---- numbers that rise

rising_rest : (n : ℕ) (ns : List ℕ) → IsRising (n ∷ ns) → IsRising ns
rising_rest n [] h = tt
rising_rest n (m ∷ ns) h = h.1

rising_above : (n : ℕ) (ns : List ℕ) → IsRising (n ∷ ns) → (m : ℕ) → IsIn m ns → n < m
rising_above n [] h m i = absurd i
rising_above n (k ∷ ks) h m (inl e) = let less : n < k = h.0 in let same : m ≡ k = e in omega arith
rising_above n (k ∷ ks) h m (inr i) =
    let less : n < k = h.0 in let more : k < m = rising_above k ks h.1 m i in omega arith

-- ---- classes

-- a class with its place among these
record PlaceOf (n : ℕ) (ks : List Class) (k : Class) : Type 0 where
  pub place : ℕ
  pub number : class_from n ks k.number ≡ n + place
  pub is : slice_get ks place ≡ Some k

class_first : (n : ℕ) (c : Class) (cs : List Class) (k : Class) → c.number ≡ k.number → class_from n (c ∷ cs) k.number ≡ n
class_first n c cs k e = ap (λ b. if b then n else class_from (suc n) cs k.number) (eq-eqb c.number k.number e)

class_later : (n : ℕ) (c : Class) (cs : List Class) (k : Class) → (c.number ≡ k.number → ⊥) →
    class_from n (c ∷ cs) k.number ≡ class_from (suc n) cs k.number
class_later n c cs k ne = ap (λ b. if b then n else class_from (suc n) cs k.number) (ne_eqb c.number k.number ne)

class_place : (n : ℕ) (ks : List Class) → IsRising (map (λ (c : Class). c.number) ks) → (k : Class) → IsIn k ks →
    PlaceOf n ks k
class_place n [] rising k i = absurd i
class_place n (c ∷ cs) rising k (inl e) =
    let at : n ≡ n + 0 = omega arith in
    let same : c.number ≡ k.number = ap (λ (z : Class). z.number) (sym e) in
    record { place = 0; number = class_first n c cs k same ∙ at; is = ap Some (sym e) }
class_place n (c ∷ cs) rising k (inr i) =
    let numbers : List ℕ = map (λ (z : Class). z.number) cs in
    let above : c.number < k.number =
    rising_above c.number numbers rising k.number (in_map (λ (z : Class). z.number) k cs i) in
    let r : PlaceOf (suc n) cs k = class_place (suc n) cs (rising_rest c.number numbers rising) k i in
    let at : suc n + r.place ≡ n + suc r.place = omega arith in
    record {
      place = suc r.place;
      number = class_later n c cs k (λ e. let same : c.number ≡ k.number = e in omega arith) ∙ r.number ∙ at;
      is = r.is;
    }

-- what becomes of a class stands at its place
pub class_at :
    {B : Type 0} (f : Class → B) (ks : List Class) → IsRising (map (λ (c : Class). c.number) ks) → (k : Class) → IsIn k ks →
    slice_get (map f ks) (class_from 0 ks k.number) ≡ Some (f k)
class_at f ks rising k i =
    let r : PlaceOf 0 ks k = class_place 0 ks rising k i in
    let at : 0 + r.place ≡ r.place = omega arith in
    subst (λ n. slice_get (map f ks) n ≡ Some (f k)) (sym (r.number ∙ at)) (slice_map f ks r.place k r.is)

-- ---- constants

-- a constant with its place among these
record ConstantPlace (m : ℕ) (cs : List Constant) (n : ℕ) (t : StaticType) : Type 0 where
  pub place : ℕ
  pub number : constant_from m cs n ≡ m + place
  pub is : slice_get (map (λ (c : Constant). c.of) cs) place ≡ Some t

constant_place : (m : ℕ) (cs : List Constant) (n : ℕ) (t : StaticType) → constant_type_at cs n ≡ Some t →
    ConstantPlace m cs n t
constant_place m [] n t e = no_leaf t e
constant_place m (c ∷ cs) n t e = by_test (c.number == n) refl e (λ f. constant_place (suc m) cs n t f)
  where
    by_test : (b : Bool) → c.number == n ≡ b → (if b then Some c.of else constant_type_at cs n) ≡ Some t →
        (constant_type_at cs n ≡ Some t → ConstantPlace (suc m) cs n t) → ConstantPlace m (c ∷ cs) n t
    by_test true is f later =
        let at : m ≡ m + 0 = omega arith in
        record { place = 0; number = ap (λ b. if b then m else constant_from (suc m) cs n) is ∙ at; is = f }
    by_test false is f later =
        let r = later f in
        let at : suc m + r.place ≡ m + suc r.place = omega arith in
        record {
          place = suc r.place;
          number = ap (λ b. if b then m else constant_from (suc m) cs n) is ∙ r.number ∙ at;
          is = r.is;
        }

pub constant_at : (cs : List Constant) (n : ℕ) (t : StaticType) → constant_type_at cs n ≡ Some t →
    slice_get (map (λ (c : Constant). c.of) cs) (constant_from 0 cs n) ≡ Some t
constant_at cs n t e =
    let r : ConstantPlace 0 cs n t = constant_place 0 cs n t e in
    let at : 0 + r.place ≡ r.place = omega arith in
    subst (λ z. slice_get (map (λ (c : Constant). c.of) cs) z ≡ Some t) (sym (r.number ∙ at)) r.is
