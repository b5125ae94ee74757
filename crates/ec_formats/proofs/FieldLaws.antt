-- The laws of single fields.
use Rattle.std.proofs.Common.{◌≡◌, ℕ, zero, suc, ◌^◌, ◌<◌, ◌≤◌, Bool, true, false, ◌&&◌, cond, ltb, ◌-◌, List, [], ◌∷◌, ◌++◌, length, take}
use Rattle.std.proofs.Common.{drop, Ok, Err, refl, sym, ap, subst, ◌∙◌, append_assoc, arith, inl, inr}
use Rattle.std.specs.Prelude.{ℤ, pos, negsuc, nat_eq}
use Rattle.std.specs.List.{starts_with}
use Rattle.std.specs.Cmp.Lexicographic.{pointwise}
use Rattle.std.specs.Int.{w32, from_be_bytes, to_be_bytes, cast_signed, cast_unsigned}
use Rattle.std.proofs.lemmas.Bool.{ltb-false, ltb-true, le-ltb, lt-ltb, eqb-true, eq-eqb}
use Rattle.std.proofs.lemmas.Int.{of_z-to_z, to_z-of_z}
use Rattle.std.proofs.lemmas.List.{take_at, drop_at, take-append-drop, length-append, length-take}
use Rattle.std.proofs.lemmas.Nat.{be_bytes_4, from_be_bytes-to_be_bytes_4}
use Rattle.ec_formats.specs.Format.{Read, IsBytes, Takes, IsLawful}
use Rattle.ec_formats.specs.Combinators.{such_that}
use Rattle.ec_formats.specs.Fields.{byte_at, byte, number_at, word, number, at_most, at_least, above, number_up_to, number_from}
use Rattle.ec_formats.specs.Fields.{number_above, mark, integer_fits, integer, truth_of, number_of_truth, truth, text_at, text}
use Rattle.ec_formats.proofs.Bytes.{IsBytes-drop, IsBytes-take, IsBytes-rest, Takes-then, rest_within}
use Rattle.ec_formats.proofs.Steps.{bind_ok, bind_err, done, passed, not_passed, guarded, not_guarded, ok_is, both, first_of_both}
use Rattle.ec_formats.proofs.Steps.{second_of_both}
use Rattle.ec_formats.proofs.CombinatorLaws.{such_that_law, through_law}

-- bytes

byte_takes : (bytes : List ℕ) (x : ℕ × List ℕ) → IsBytes bytes → byte_at bytes ≡ Ok x → Takes bytes (x.0 ∷ []) x.1 × (ltb x.0 256 ≡ true)
byte_takes [] x fits e = absurd cc
byte_takes (b ∷ bytes) x fits e =
    subst (λ (y : ℕ × List ℕ). Takes (b ∷ bytes) (y.0 ∷ []) y.1 × (ltb y.0 256 ≡ true)) (ok_is (b, bytes) x e)
    (record { parts = refl; rest_fits = IsBytes-rest b bytes fits }, lt-ltb _ _ (fits 0))

byte_within : (bytes : List ℕ) (left : ℕ) → IsBytes bytes → byte_at bytes ≡ Err left → left ≤ length bytes
byte_within [] left fits e = let none : 0 ≡ left = cc in omega arith
byte_within (b ∷ bytes) left fits e = absurd cc

pub byte_law : IsLawful byte
byte_law = record { takes = byte_takes; again = λ b rest h. refl; within = byte_within }

-- numbers

number_takes : (bytes : List ℕ) (x : ℕ × List ℕ) → IsBytes bytes → number_at bytes ≡ Ok x
    → Takes bytes (word x.0) x.1 × (ltb x.0 (2 ^ 32) ≡ true)
unfolding word
number_takes bytes x fits e =
    let g = guarded (ltb (length bytes) 4) (length bytes) (from_be_bytes w32 (take 4 bytes), drop 4 bytes) x e in
    let long : 4 ≤ length bytes = ltb-false _ _ g.0 in
    let len : length (take 4 bytes) ≡ 4 = omega (arith, length-take 4 bytes) in
    let small = IsBytes-take 4 bytes fits in
    let front : to_be_bytes w32 (from_be_bytes w32 (take 4 bytes)) ≡ take 4 bytes = be_bytes_4 (take 4 bytes) _ len small refl in
    let below : from_be_bytes w32 (take 4 bytes) < 2 ^ 32 = omega (arith, small 0, small 1, small 2, small 3) in
    subst (λ (y : ℕ × List ℕ). Takes bytes (to_be_bytes w32 y.0) y.1 × (ltb y.0 (2 ^ 32) ≡ true)) g.1 (
      record {
        parts = sym (ap (λ (t : List ℕ). t ++ drop 4 bytes) front ∙ take-append-drop 4 bytes);
        rest_fits =
            IsBytes-drop 4 bytes fits;
      },
      lt-ltb _ _ below,
    )

front_again : (front rest : List ℕ) (k : ℕ) → length front ≡ k
    → cond {A = Read ℕ} (ltb (length (front ++ rest)) k) (Err (length (front ++ rest)))
    (done (from_be_bytes w32 (take k (front ++ rest)), drop k (front ++ rest))) ≡ Ok (from_be_bytes w32 front, rest)
front_again front rest k len =
    let long : ltb (length (front ++ rest)) k ≡ false = le-ltb _ _ (omega (arith, length-append front rest)) in
    rw (long, take_at front rest k len, drop_at front rest k len) refl

number_again : (n : ℕ) (rest : List ℕ) → ltb n (2 ^ 32) ≡ true → number_at (word n ++ rest) ≡ Ok (n, rest)
unfolding word
number_again n rest h = front_again (to_be_bytes w32 n) rest 4 refl
    ∙ ap (λ (m : ℕ). done (m, rest)) (from_be_bytes-to_be_bytes_4 n (ltb-true _ _ h))

number_within : (bytes : List ℕ) (left : ℕ) → IsBytes bytes → number_at bytes ≡ Err left → left ≤ length bytes
number_within bytes left fits e =
    let here : length bytes ≡ left =
    not_guarded (ltb (length bytes) 4) (length bytes) left (from_be_bytes w32 (take 4 bytes), drop 4 bytes) e in
    omega arith

pub number_law : IsLawful number
number_law = record { takes = number_takes; again = number_again; within = number_within }

pub number_up_to_law : (limit : ℕ) → IsLawful (number_up_to limit)
number_up_to_law limit = such_that_law number (at_most limit) number_law

pub number_from_law : (least : ℕ) → IsLawful (number_from least)
number_from_law least = such_that_law number (at_least least) number_law

pub number_above_law : (bound : ℕ) → IsLawful (number_above bound)
number_above_law bound = such_that_law number (above bound) number_law

-- marks

same : (sign front : List ℕ) → pointwise nat_eq sign front ≡ true → sign ≡ front
same [] [] e = refl
same [] (b ∷ front) e = absurd cc
same (a ∷ sign) [] e = absurd cc
same (a ∷ sign) (b ∷ front) e =
    let one : a ≡ b = eqb-true _ _ (first_of_both (nat_eq a b) _ e) in
    let others = same sign front (second_of_both (nat_eq a b) _ e) in
    cc

itself : (sign : List ℕ) → pointwise nat_eq sign sign ≡ true
itself [] = refl
itself (a ∷ sign) = both _ _ (eq-eqb a a refl) (itself sign)

pub mark_law : (sign : List ℕ) → IsLawful (mark sign)
mark_law sign = record {
  takes = λ bytes x fits e.
      let p = passed (starts_with nat_eq bytes sign) (length bytes) (tt, drop (length sign) bytes) x e in
      let front : sign ≡ take (length sign) bytes = same sign (take (length sign) bytes) p.0 in
      let parts : bytes ≡ sign ++ drop (length sign) bytes =
      sym (take-append-drop (length sign) bytes) ∙ ap (λ (t : List ℕ). t ++ drop (length sign) bytes) (sym front) in
      subst (λ (y : Unit {0} × List ℕ). Takes bytes sign y.1 × (true ≡ true)) p.1
      (record { parts = parts; rest_fits = IsBytes-drop (length sign) bytes fits }, refl);
  again = λ a rest h.
      rw (take_at sign rest (length sign) refl, itself sign, drop_at sign rest (length sign) refl) refl;
  within = λ bytes left fits e.
      let here : length bytes ≡ left = not_passed (starts_with nat_eq bytes sign) (length bytes) left (tt, drop (length sign) bytes) e in
      omega arith;
}

-- integers

signed_fits : (n : ℕ) (b : Bool) → ltb n (2 ^ 31) ≡ b → n < 2 ^ 32 → integer_fits (cond b (pos n) (negsuc (2 ^ 32 - suc n))) ≡ true
signed_fits n true e h = e
signed_fits n false e h = let le : 2 ^ 31 ≤ n = ltb-false _ _ e in lt-ltb _ _ (omega arith)

integer_back : (z : ℤ) → integer_fits z ≡ true → cast_signed w32 (cast_unsigned w32 z) ≡ z
integer_back (pos n) h = to_z-of_z w32 (pos n) (record { sfits = ltb-true _ _ h })
integer_back (negsuc n) h = to_z-of_z w32 (negsuc n) (record { sfits = ltb-true _ _ h })

integer_bits : (z : ℤ) → integer_fits z ≡ true → ltb (cast_unsigned w32 z) (2 ^ 32) ≡ true
integer_bits (pos n) h = let lt : n < 2 ^ 31 = ltb-true _ _ h in lt-ltb _ _ (omega arith)
integer_bits (negsuc n) h = let lt : n < 2 ^ 31 = ltb-true _ _ h in lt-ltb _ _ (omega arith)

abbrev integer_of : ℕ × List ℕ → Read ℤ
integer_of n = Ok (cast_signed w32 n.0, n.1)

abbrev integer_is : ℤ × List ℕ → Read ℤ
integer_is x = Ok x

pub integer_law : IsLawful integer
integer_law = record {
  takes = λ bytes x fits e.
      let a = bind_ok (number.read bytes) integer_of x e in
      let t = number_law.takes bytes a.0 fits a.1 in
      let lt : a.0.0 < 2 ^ 32 = ltb-true _ _ t.1 in
      let bits : cast_unsigned w32 (cast_signed w32 a.0.0) ≡ a.0.0 = of_z-to_z w32 a.0.0 lt in
      subst (λ (y : ℤ × List ℕ). Takes bytes (word (cast_unsigned w32 y.0)) y.1 × (integer_fits y.0 ≡ true))
      (ok_is (cast_signed w32 a.0.0, a.0.1) x a.2)
      (subst (λ (m : ℕ). Takes bytes (word m) a.0.1) (sym bits) t.0, signed_fits a.0.0 (ltb a.0.0 (2 ^ 31)) refl lt);
  again = λ z rest h. rw (number_law.again (cast_unsigned w32 z) rest (integer_bits z h))
      (ap (λ (y : ℤ). integer_is (y, rest)) (integer_back z h));
  within = λ bytes left fits e.
      elim (bind_err (number.read bytes) integer_of left e) [
        | inl at_number ↦ number_law.within bytes left fits at_number
        | inr a ↦ absurd cc
      ];
}

-- truth values

truth_back : (b : Bool) → truth_of (number_of_truth b) ≡ b
truth_back true = refl
truth_back false = refl

truth_there : (n : ℕ) → n < 2 → number_of_truth (truth_of n) ≡ n
truth_there zero h = refl
truth_there (suc zero) h = refl
truth_there (suc (suc n)) h = absurd (omega arith)

pub truth_law : IsLawful truth
truth_law =
    through_law truth_of number_of_truth (such_that byte (at_most 1))
    (λ n h. truth_there n (ltb-true _ _ (second_of_both (ltb n 256) (at_most 1 n) h))) truth_back
    (such_that_law byte (at_most 1) byte_law)

pub truth_fits : (b : Bool) → truth.fits b ≡ true
truth_fits true = refl
truth_fits false = refl

-- texts

pub text_law : (limit : ℕ) → IsLawful (text limit)
text_law limit =
    let counted = number_up_to_law limit in
    record {
      takes = λ bytes x fits e.
          let a = bind_ok ((number_up_to limit).read bytes) text_at x e in
          let t = counted.takes bytes a.0 fits a.1 in
          let n = a.0.0 in
          let after = a.0.1 in
          let g = guarded (ltb (length after) n) (length after) (take n after, drop n after) x a.2 in
          let long : n ≤ length after = ltb-false _ _ g.0 in
          let len : length (take n after) ≡ n = omega (arith, length-take n after) in
          let second : Takes after (take n after) (drop n after) =
          record { parts = sym (take-append-drop n after); rest_fits = IsBytes-drop n after t.0.rest_fits } in
          let all = Takes-then bytes (word n) after (take n after) (drop n after) t.0 second in
          subst (λ (p : List ℕ × List ℕ). Takes bytes (word (length p.0) ++ p.0) p.1
          × ((ltb (length p.0) (2 ^ 32) && at_most limit (length p.0)) ≡ true)) g.1 (
            subst (λ (k : ℕ). Takes bytes (word k ++ take n after) (drop n after)) (sym len) all,
            subst (λ (k : ℕ). (ltb k (2 ^ 32) && at_most limit k) ≡ true) (sym len) t.1,
          );
      again = λ s rest h.
          let one = counted.again (length s) (s ++ rest) h in
          let long : ltb (length (s ++ rest)) (length s) ≡ false = le-ltb _ _ (omega (arith, length-append s rest)) in
          ap ((text limit).read) (append_assoc (word (length s)) s rest)
          ∙ rw (one, long, take_at s rest (length s) refl, drop_at s rest (length s) refl) refl;
      within = λ bytes left fits e.
          elim (bind_err ((number_up_to limit).read bytes) text_at left e) [
            | inl at_length ↦ counted.within bytes left fits at_length
            | inr a ↦
                let t = counted.takes bytes a.0 fits a.1 in
                let shorter = rest_within bytes (word a.0.0) a.0.1 t.0 in
                let here : length a.0.1 ≡ left =
                not_guarded (ltb (length a.0.1) a.0.0) (length a.0.1) left (take a.0.0 a.0.1, drop a.0.0 a.0.1) a.2 in
                omega arith
          ];
    }
