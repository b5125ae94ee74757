-- How the words of a program are laid out: operation behind operation, and in each the words of its steps in an order of its own.
use Rattle.std.specs.Prelude.{◌≡◌, ℕ, suc, ◌+◌, ◌-◌, ◌<◌, ◌≤◌, ◌==◌, nat_le, Bool, if◌then◌else◌, List, [], ◌∷◌, ◌++◌, length, map}
use Rattle.std.specs.Prelude.{Option, Some, None, slice_get}
use Rattle.ec_code.specs.declared.code.Line.{Line}
use Rattle.ec_code.specs.declared.code.Op.{Op}
use Rattle.ec_code.specs.declared.code.Operation.{Operation}
use Rattle.ec_code.specs.declared.code.Parts.{Parts}
use Rattle.ec_code.specs.declared.code.Variable.{Variable}
use Rattle.ec_code.specs.Fine.{IsIn}
use Rattle.ec_machine_code.specs.Once.{AreDifferent}
use Rattle.ec_machine_code.specs.Stops.{home_in, row_or_empty, stop_places}
use Rattle.ec_machine_code.specs.declared.code.Code.{Code}
use Rattle.ec_machine_code.specs.declared.code.OperationCode.{OperationCode}
use Rattle.ec_machine_code.specs.declared.homes.Home.{Home}
use Rattle.ec_machine_code.specs.declared.homes.Home.TheVariants.{Slot}
use Rattle.ec_target.specs.Code.{pc_of}
use Rattle.ec_machine_code.specs.Direct.{laid_from}
use Rattle.ec_machine_code.specs.Lowering.{ending_of, opposite, steps_of}
use Rattle.ec_machine_code.specs.Speaks.{Vocabulary, words_end}
use Rattle.ec_machine_code.specs.declared.step.Ending.{Ending}
use Rattle.ec_machine_code.specs.declared.step.Ending.TheVariants.{Again, Branch, Jump, Stop}
use Rattle.ec_machine_code.specs.declared.step.Question.{Question}
use Rattle.ec_machine_code.specs.declared.step.Step.{Step}

-- the steps for which there are words
abbrev pub ops_of : List Line → List Op
ops_of code = laid_from code 0 code

-- ---- orders

-- In an order of so many steps each of them has just one spot.
pub record IsOrder (count : ℕ) (order : List ℕ) : Type 0 where
  pub all : (p : ℕ) → p < count → IsIn p order
  pub within : (p : ℕ) → IsIn p order → p < count
  pub different : AreDifferent order

-- the first of these steps; what stands behind the last of all is named as one step more
abbrev pub first_of : ℕ → List ℕ → ℕ
first_of count [] = count
first_of count (p ∷ ps) = p

-- the step that stands next behind step p
abbrev pub next_of : ℕ → List ℕ → ℕ → ℕ
next_of count [] p = count
next_of count (q ∷ qs) p = if q == p then first_of count qs else next_of count qs p

-- ---- the words of one operation

module _ (V : Vocabulary) where
  abbrev pub words_of_steps : List Step → List ℕ
  words_of_steps [] = []
  words_of_steps (m ∷ ms) = V.step_words m ++ words_of_steps ms

  -- What leads on to a step is a jump, but for the one that stands next: the code falls there.
  abbrev pub on_size : (next to : ℕ) → ℕ
  on_size next to = if next == to then 0 else V.jump_size

  -- A question whose target stands next is asked the other way round.
  abbrev pub branch_size : (next p : ℕ) → Question → ℕ → ℕ
  branch_size next p q over =
      if next == suc (p + over) then V.ask_size (opposite q) else V.ask_size q + on_size next (suc p)

  -- how many words stand behind the steps of step p, where this one stands next
  abbrev pub ending_size : (next p : ℕ) → Option Ending → ℕ
  ending_size next p None = on_size next (suc p)
  ending_size next p (Some (Branch q over)) = branch_size next p q over
  ending_size next p (Some (Jump over)) = on_size next (suc (p + over))
  ending_size next p (Some (Again back)) = on_size next (p - back)
  ending_size next p (Some Stop) = suc (on_size next (suc p))

  -- where each step begins
  module _ (place : ℕ → ℕ) where
    -- the words, the first of which is word `from`
    abbrev pub on_words : (next to from : ℕ) → List ℕ
    on_words next to from = if next == to then [] else V.jump_words from (place to)

    abbrev pub branch_words : (next p : ℕ) → Question → ℕ → ℕ → List ℕ
    branch_words next p q over from =
        if next == suc (p + over) then V.ask_words (opposite q) from (place (suc p))
        else V.ask_words q from (place (suc (p + over))) ++ on_words next (suc p) (from + V.ask_size q)

    abbrev pub ending_words : (next p from : ℕ) → Option Ending → List ℕ
    ending_words next p from None = on_words next (suc p) from
    ending_words next p from (Some (Branch q over)) = branch_words next p q over from
    ending_words next p from (Some (Jump over)) = on_words next (suc (p + over)) from
    ending_words next p from (Some (Again back)) = on_words next (p - back) from
    ending_words next p from (Some Stop) = V.stop_word ∷ on_words next (suc p) (suc from)

  module _ (home : Variable → Home) where
    -- how many words the steps of one step of three-address code have
    abbrev pub plain_size : Op → ℕ
    plain_size o = length (words_of_steps (steps_of home o))

    abbrev pub op_size : (next p : ℕ) → Op → ℕ
    op_size next p o = plain_size o + ending_size next p (ending_of home o)

    abbrev pub op_words : (place : ℕ → ℕ) (next p from : ℕ) → Op → List ℕ
    op_words place next p from o =
        words_of_steps (steps_of home o) ++ ending_words place next p (from + plain_size o) (ending_of home o)

    module _ (ops : List Op) where
      -- of the step at a place, if there is one
      abbrev pub size_if : (next p : ℕ) → Option Op → ℕ
      size_if next p None = 0
      size_if next p (Some o) = op_size next p o

      abbrev pub words_if : (place : ℕ → ℕ) (next p from : ℕ) → Option Op → List ℕ
      words_if place next p from None = []
      words_if place next p from (Some o) = op_words place next p from o

      -- of step p, where these stand behind it
      abbrev pub size_at : ℕ → List ℕ → ℕ
      size_at p rest = size_if (first_of (length ops) rest) p (slice_get ops p)

      -- how many words stand before step p, of steps in this order; and in all
      abbrev pub before : List ℕ → ℕ → ℕ
      before [] p = 0
      before (q ∷ qs) p = if q == p then 0 else size_at q qs + before qs p

      abbrev pub size_of : List ℕ → ℕ
      size_of [] = 0
      size_of (q ∷ qs) = size_at q qs + size_of qs

      -- of an operation with this code in this order, which begins at word `start`
      module _ (order : List ℕ) (start : ℕ) where
        -- the word at which step p begins
        abbrev pub place : ℕ → ℕ
        place p = start + before order p

        -- the words of these steps, the first of which is word `from`
        abbrev pub words_from : ℕ → List ℕ → List ℕ
        words_from from [] = []
        words_from from (q ∷ qs) =
            words_if place (first_of (length ops) qs) q from (slice_get ops q) ++ words_from (from + size_at q qs) qs

        abbrev pub operation_words : List ℕ
        operation_words = words_from start order

-- ---- near and far words

-- A kind of machine has three vocabularies: the less far questions and jumps reach, the fewer words they have.
pub record Vocabularies : Type 0 where
  pub near : Vocabulary
  pub middle : Vocabulary
  pub far : Vocabulary

-- the words are within the reach of their questions and jumps
abbrev pub is_within : Vocabulary → (Variable → Home) → List Op → List ℕ → Bool
is_within V home ops order = nat_le (size_of V home ops order) V.reach

-- An operation takes the first of them within whose reach all of its code is.
abbrev pub chosen : Vocabularies → (Variable → Home) → List Op → List ℕ → Vocabulary
chosen vs home ops order =
    if is_within vs.near home ops order then vs.near else (if is_within vs.middle home ops order then vs.middle else vs.far)

-- ---- the words of a program

abbrev pub home_or : Option Home → Home
home_or None = Slot 0
home_or (Some h) = h

-- the home of a variable of operation n
abbrev pub home_of : List (List Home) → ℕ → Operation → Variable → Home
home_of homes n o x = home_or (home_in homes n (length o.variables) x)

-- by the homes of each operation's variables and the order of its steps
module _ (vs : Vocabularies) (homes : List (List Home)) (orders : List (List ℕ)) where
  abbrev pub order_of : ℕ → List ℕ
  order_of n = row_or_empty (slice_get orders n)

  abbrev pub vocabulary_of : ℕ → Operation → Vocabulary
  vocabulary_of n o = chosen vs (home_of homes n o) (ops_of o.code) (order_of n)

  -- how many words operation n has
  abbrev pub words_in : ℕ → Operation → ℕ
  words_in n o = size_of (vocabulary_of n o) (home_of homes n o) (ops_of o.code) (order_of n)

  -- the word at which a step of operation n begins, which begins at word `start`
  abbrev pub place_of : ℕ → ℕ → Operation → ℕ → ℕ
  place_of n start o q = place (vocabulary_of n o) (home_of homes n o) (ops_of o.code) (order_of n) start q

  -- the addresses of the stops of operation n
  abbrev pub stop_addresses : ℕ → ℕ → Operation → List ℕ
  stop_addresses n start o = map (λ q. pc_of (place_of n start o q)) (stop_places o.code)

  -- these operations, the first of which is operation n and begins at word `start`
  abbrev pub program_words : ℕ → ℕ → List Operation → List ℕ
  program_words n start [] = []
  program_words n start (o ∷ os) =
      operation_words (vocabulary_of n o) (home_of homes n o) (ops_of o.code) (order_of n) start
      ++ program_words (suc n) (start + words_in n o) os

  abbrev pub operation_codes : ℕ → ℕ → List Operation → List OperationCode
  operation_codes n start [] = []
  operation_codes n start (o ∷ os) =
      record { words = words_in n o; stops = stop_addresses n start o } ∷ operation_codes (suc n) (start + words_in n o) os

  abbrev pub code_of : List Operation → Code
  code_of os = record { words = program_words 0 0 os; operations = operation_codes 0 0 os }

  abbrev pub size_of_all : ℕ → List Operation → ℕ
  size_of_all n [] = 0
  size_of_all n (o ∷ os) = words_in n o + size_of_all (suc n) os

  -- the words of each operation are within the reach of its words, and all of them within the room for code
  pub record HasRoom (p : Parts) : Type 0 where
    pub near : (n : ℕ) (o : Operation) → slice_get p.operations n ≡ Some o → words_in n o ≤ (vocabulary_of n o).reach
    pub low : size_of_all 0 p.operations ≤ words_end

-- each operation of a program has an order of its steps
abbrev pub HasOrders : List (List ℕ) → Parts → Type 0
HasOrders orders p =
    (n : ℕ) (o : Operation) → slice_get p.operations n ≡ Some o → IsOrder (length o.code) (row_or_empty (slice_get orders n))
