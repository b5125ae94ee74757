-- What the loop over a program's operations keeps.
use Rattle.std.proofs.Common.{◌≡◌, ℕ, suc, ◌+◌, List, [], ◌∷◌, ◌++◌, length, length-append, append_assoc, drop, Some, sym}
use Rattle.std.proofs.Common.{ap, ◌∙◌, arith}
use Rattle.std.specs.Prelude.{slice_get}
use Rattle.ec_base.proofs.Lists.{drop_at}
use Rattle.ec_code.specs.declared.code.Operation.{Operation}
use Rattle.ec_machine_code.specs.declared.code.OperationCode.{OperationCode}
use Rattle.ec_generate.specs.Puts.{IsSized}
use Rattle.ec_machine_code.specs.declared.homes.Home.{Home}
use Rattle.ec_machine_code.specs.Layout.{Vocabularies, home_of, operation_codes, operation_words, ops_of, order_of, program_words}
use Rattle.ec_machine_code.specs.Layout.{size_of_all, stop_addresses, vocabulary_of, words_in}
use Rattle.ec_machine_code.proofs.LaidOutSizes.{from_long}

module _ (vs : Vocabularies) (homes : List (List Home)) (orders : List (List ℕ)) where
  abbrev pub words_at : ℕ → Operation → ℕ → List ℕ
  words_at n o start =
      operation_words (vocabulary_of vs homes orders n o) (home_of homes n o) (ops_of o.code) (order_of vs homes orders n)
      start

  abbrev pub rest_words : List Operation → ℕ → ℕ → List ℕ
  rest_words os n start = program_words vs homes orders n start (drop n os)

  abbrev pub rest_codes : List Operation → ℕ → ℕ → List OperationCode
  rest_codes os n start = operation_codes vs homes orders n start (drop n os)

  -- how many words there are still to come
  abbrev pub rest_size : List Operation → ℕ → ℕ
  rest_size os n = size_of_all vs homes orders n (drop n os)

module _ (vs : Vocabularies) (homes : List (List Home)) (orders : List (List ℕ))
    (sized : (n : ℕ) (o : Operation) → IsSized (vocabulary_of vs homes orders n o)) where
  module _ (os : List Operation) (n : ℕ) (o : Operation) (there : slice_get os n ≡ Some o) (old new : List ℕ)
      (is : new ≡ old ++ words_at vs homes orders n o (length old)) where
    next : n + 1 ≡ suc n
    next = omega arith

    pub longer : length new ≡ length old + words_in vs homes orders n o
    longer =
        let V = vocabulary_of vs homes orders n o in
        ap length is ∙ length-append old (words_at vs homes orders n o (length old))
        ∙ ap (λ k. length old + k) (from_long V (home_of homes n o) (sized n o).asks (sized n o).jumps (ops_of o.code)
        (order_of vs homes orders n) (length old) (length old) (order_of vs homes orders n))

    pub size_more : (all : ℕ) → length old + rest_size vs homes orders os n ≡ all → length new + rest_size vs homes orders os (n + 1) ≡ all
    size_more all so_far =
        let a : rest_size vs homes orders os n ≡ words_in vs homes orders n o + size_of_all vs homes orders (suc n) (drop (n + 1) os) =
        ap (λ l. size_of_all vs homes orders n l) (drop_at os n o there) in
        let b : rest_size vs homes orders os (n + 1) ≡ size_of_all vs homes orders (suc n) (drop (n + 1) os) =
        ap (λ k. size_of_all vs homes orders k (drop (n + 1) os)) next in
        omega (arith, a, b, so_far, longer)

    pub words_more : (all : List ℕ) → old ++ rest_words vs homes orders os n (length old) ≡ all →
        new ++ rest_words vs homes orders os (n + 1) (length new) ≡ all
    words_more all so_far =
        let rest : ℕ → List ℕ = λ k. program_words vs homes orders (n + 1) k (drop (n + 1) os) in
        ap (λ l. l ++ rest (length new)) is ∙ append_assoc old (words_at vs homes orders n o (length old)) (rest (length new))
        ∙ ap (λ k. old ++ (words_at vs homes orders n o (length old) ++ rest k)) longer
        ∙ ap (λ k. old ++ (words_at vs homes orders n o (length old) ++ program_words vs homes orders k (length old + words_in vs homes orders n o)
        (drop (n + 1) os))) next
        ∙ sym (ap (λ l. old ++ program_words vs homes orders n (length old) l) (drop_at os n o there)) ∙ so_far

    pub codes_more : (before after all : List OperationCode) (code : OperationCode) → after ≡ before ++ code ∷ [] →
        code ≡ record { words = words_in vs homes orders n o; stops = stop_addresses vs homes orders n (length old) o } →
        before ++ rest_codes vs homes orders os n (length old) ≡ all → after ++ rest_codes vs homes orders os (n + 1) (length new) ≡ all
    codes_more before after all code more same so_far =
        let rest : ℕ → List OperationCode = λ k. operation_codes vs homes orders (n + 1) k (drop (n + 1) os) in
        let made : OperationCode = record { words = words_in vs homes orders n o; stops = stop_addresses vs homes orders n (length old) o } in
        ap (λ l. l ++ rest (length new)) more ∙ append_assoc before (code ∷ []) (rest (length new))
        ∙ ap (λ c. before ++ c ∷ rest (length new)) same
        ∙ ap (λ k. before ++ made ∷ rest k) longer
        ∙ ap (λ k. before ++ made ∷ operation_codes vs homes orders k (length old + words_in vs homes orders n o) (drop (n + 1) os)) next
        ∙ sym (ap (λ l. before ++ operation_codes vs homes orders n (length old) l) (drop_at os n o there)) ∙ so_far
