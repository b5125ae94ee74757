-- How many bytes texts have, each once.
use Rattle.std.proofs.Common.{◌≡◌, ◌≤◌, ◌+◌, ◌⊎◌, ℕ, zero, suc, inl, inr, ⊎_elim, List, [], ◌∷◌, ◌++◌, length, Some}
use Rattle.std.proofs.Common.{refl, sym, ap, ◌∙◌, arith}
use Rattle.std.specs.Prelude.{◌↔◌, slice_get}
use Rattle.std.proofs.lemmas.Option.{same_Some}
use Rattle.ec_world.specs.Held.{Distinct}
use Rattle.ec_world.specs.Words.{text_bytes}
use Rattle.ec_things.proofs.Sums.{summed, summed_le}
use Rattle.ec_things.specs.Store.{Filled, Store}
use Rattle.ec_things.specs.Texts.{BytesOf, InPool}
use Rattle.ec_world.proofs.Members.{has_back, has_either, has_first, has_front, has_later, has_none}
use Rattle.ec_world.specs.Group.{Has}

text_sum : (xs : List (List ℕ)) → text_bytes xs ≡ summed length xs
text_sum [] = refl
text_sum (x ∷ xs) = ap (λ n. length x + n) (text_sum xs)

-- texts that are among others have no more bytes
pub bytes_le : (T U : List ℕ → Type 0) (n m : ℕ) → ((text : List ℕ) → T text → U text) → BytesOf T n → BytesOf U m → n ≤ m
bytes_le T U n m among a b =
    let le : summed length a.texts ≤ summed length b.texts =
    summed_le length length a.texts b.texts a.once (λ x h. inr ((b.these x).1 (among x ((a.these x).0 h)), omega arith)) in
    omega (arith, le, a.bytes, b.bytes, text_sum a.texts, text_sum b.texts)

-- no order matters
pub bytes_once : (T : List ℕ → Type 0) (n m : ℕ) → BytesOf T n → BytesOf T m → n ≡ m
bytes_once T n m a b =
    let there = bytes_le T T n m (λ text h. h) a b in
    let back = bytes_le T T m n (λ text h. h) b a in
    omega (arith, there, back)

pub bytes_along : (T U : List ℕ → Type 0) (n : ℕ) → ((text : List ℕ) → T text ↔ U text) → BytesOf T n → BytesOf U n
bytes_along T U n same b = record {
  texts = b.texts;
  once = b.once;
  these = λ text. (λ h. (same text).0 ((b.these text).0 h), λ h. (b.these text).1 ((same text).1 h));
  bytes = b.bytes;
}

pub none_bytes : BytesOf (λ text. ⊥) 0
none_bytes = record {
  texts = [];
  once = record { once = λ i j x e f. cc };
  these = λ text. (λ h. has_none text h, λ h. absurd h);
  bytes = refl;
}

-- the texts of a pool
pub pool_bytes : (s : Store) (f : Filled s) → BytesOf (InPool s) (text_bytes f.texts)
pool_bytes s f = record { texts = f.texts; once = f.once; these = f.these; bytes = refl }

-- ---- two kinds of texts that have none in common

bytes_append : (xs ys : List (List ℕ)) → text_bytes (xs ++ ys) ≡ text_bytes xs + text_bytes ys
bytes_append [] ys = omega arith
bytes_append (x ∷ xs) ys = let rest = bytes_append xs ys in omega (arith, rest)

abbrev Apart : List (List ℕ) → List (List ℕ) → Type 0
Apart xs ys = (x : List ℕ) → Has xs x → Has ys x → ⊥

first_once : (x : List ℕ) (xs ys : List (List ℕ)) → Distinct (x ∷ xs) → Apart (x ∷ xs) ys → Has (xs ++ ys) x → ⊥
first_once x xs ys once apart h = ⊎_elim
    (λ (g : Has xs x). let same : zero ≡ suc g.at = once.once zero (suc g.at) x refl g.is in absurd cc)
    (λ (g : Has ys x). apart x (has_first x xs) g)
    (has_either x xs ys h)

tail_once : (x : List ℕ) (xs : List (List ℕ)) → Distinct (x ∷ xs) → Distinct xs
tail_once x xs once =
    record { once = λ i j y e f. let same : suc i ≡ suc j = once.once (suc i) (suc j) y e f in omega (arith, same) }

with_first : (x : List ℕ) (rest : List (List ℕ)) → (Has rest x → ⊥) → Distinct rest → Distinct (x ∷ rest)
with_first x rest absent once = record { once = part }
  where
    no : (i : ℕ) (y : List ℕ) → Some x ≡ Some y → slice_get rest i ≡ Some y → ⊥
    no i y e f = absent (record { at = i; is = f ∙ ap Some (sym (same_Some x y e)) })

    part : (i j : ℕ) (y : List ℕ) → slice_get (x ∷ rest) i ≡ Some y → slice_get (x ∷ rest) j ≡ Some y → i ≡ j
    part zero zero y e f = refl
    part zero (suc j) y e f = absurd (no j y e f)
    part (suc i) zero y e f = absurd (no i y f e)
    part (suc i) (suc j) y e f = ap suc (once.once i j y e f)

both_once : (xs ys : List (List ℕ)) → Distinct xs → Distinct ys → Apart xs ys → Distinct (xs ++ ys)
both_once [] ys a b apart = b
both_once (x ∷ xs) ys a b apart =
    with_first x (xs ++ ys) (first_once x xs ys a apart)
    (both_once xs ys (tail_once x xs a) b (λ y h g. apart y (has_later x y xs h) g))

pub bytes_both : (T U : List ℕ → Type 0) (n m : ℕ) → ((text : List ℕ) → T text → U text → ⊥) → BytesOf T n → BytesOf U m →
    BytesOf (λ text. T text ⊎ U text) (n + m)
bytes_both T U n m apart a b = record {
  texts = a.texts ++ b.texts;
  once = both_once a.texts b.texts a.once b.once (λ x h g. apart x ((a.these x).0 h) ((b.these x).0 g));
  these = λ text. (
    λ h. ⊎_elim
        (λ (g : Has a.texts text). inl ((a.these text).0 g))
        (λ (g : Has b.texts text). inr ((b.these text).0 g))
        (has_either text a.texts b.texts h),
    λ h. ⊎_elim
        (λ (g : T text). has_front text a.texts b.texts ((a.these text).1 g))
        (λ (g : U text). has_back text a.texts b.texts ((b.these text).1 g))
        h,
  );
  bytes = (let both = bytes_append a.texts b.texts in omega (arith, both, a.bytes, b.bytes));
}
