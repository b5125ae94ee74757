-- Items read one after the other, as a loop reads them: what is still to be read from here on gives the whole answer.
use Rattle.std.proofs.Common.{◌≡◌, ℕ, suc, ◌-◌, ◌+◌, ◌*◌, ◌≤◌, ◌<◌, List, [], ◌∷◌, ◌++◌, Ok, Err, refl, sym, ap, ◌∙◌, arith, add-mul, one-mul}
use Rattle.ec_formats.specs.declared.error.FieldError.{FieldError}
use Rattle.ec_formats.specs.declared.error.FieldError.TheVariants.{Memory, Fault}
use Rattle.ec_formats.specs.Format.{Format, Read}
use Rattle.ec_formats.specs.Answers.{Fails}
use Rattle.ec_formats.specs.Lists.{items_read}

module _ {A : Type 0} (item : List A → Format A) where
  -- one item more is read
  pub goes_on : (before : List A) (count i : ℕ) (bytes : List ℕ) (x : A) (after : List ℕ) (answer : Read (List A)) → i < count
      → (item before).read bytes ≡ Ok (x, after) → items_read item before (count - i) bytes ≡ answer
      → items_read item (before ++ x ∷ []) (count - (i + 1)) after ≡ answer
  unfolding items_read
  goes_on before count i bytes x after answer lt h so_far =
      let k : count - i ≡ suc (count - (i + 1)) = omega arith in
      let one : items_read item before (count - i) bytes ≡ items_read item (before ++ x ∷ []) (count - (i + 1)) after = rw (k, h) refl in
      sym one ∙ so_far

  -- an item that fails is the answer
  pub fails : (e : FieldError) (before : List A) (count i : ℕ) (bytes : List ℕ) (answer : Read (List A)) → i < count
      → Fails e ((item before).read bytes) → items_read item before (count - i) bytes ≡ answer → Fails e answer
  unfolding items_read
  fails Memory before count i bytes answer lt h so_far = tt
  fails (Fault left) before count i bytes answer lt h so_far =
      let k : count - i ≡ suc (count - (i + 1)) = omega arith in
      let one : items_read item before (count - i) bytes ≡ Err left = rw (k, h) refl in
      sym so_far ∙ one

  -- all are read
  pub ends : (before : List A) (count i : ℕ) (bytes : List ℕ) (answer : Read (List A)) → count ≤ i
      → items_read item before (count - i) bytes ≡ answer → answer ≡ Ok (before, bytes)
  unfolding items_read
  ends before count i bytes answer le so_far =
      let k : count - i ≡ 0 = omega arith in
      let one : items_read item before (count - i) bytes ≡ Ok (before, bytes) = rw k refl in
      sym so_far ∙ one

-- an item more that takes k bytes at least
pub one_more : (n k behind rest all : ℕ) → behind + k ≤ rest → n * k + rest ≤ all → (n + 1) * k + behind ≤ all
one_more n k behind rest all least held =
    let e : (n + 1) * k ≡ n * k + k = add-mul n 1 k ∙ ap (λ m. n * k + m) (one-mul k) in
    omega (arith, e, least, held)
