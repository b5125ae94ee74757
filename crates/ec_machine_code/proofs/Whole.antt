-- Code of a program that is laid out is faithful to it.
use Rattle.std.proofs.Common.{◌≡◌, ◌≢◌, ℕ, ◌+◌, ◌<◌, ◌≤◌, List, length, Option, Some, None, refl, sym}
use Rattle.std.proofs.Common.{ap, ◌∙◌, subst, arith, ⊎_elim, option_map}
use Rattle.std.specs.Prelude.{slice_get}
use Rattle.std.proofs.lemmas.Bool.{cases_order}
use Rattle.std.proofs.lemmas.Option.{same_Some, slice_get-map, slice_get-get_or}
use Rattle.ec_base.proofs.Lists.{get_within}
use Rattle.ec_code.specs.Activations.{operation_at}
use Rattle.ec_code.specs.Fine.{IsIn}
use Rattle.ec_code.specs.declared.code.Line.{Line}
use Rattle.ec_code.specs.declared.code.Op.TheVariants as op
use Rattle.ec_code.specs.declared.code.Operation.{Operation}
use Rattle.ec_code.specs.declared.code.Parts.{Parts}
use Rattle.ec_code.specs.declared.code.StopRow.{StopRow}
use Rattle.ec_code.specs.Typing.{Declared}
use Rattle.ec_machine_code.specs.Machine.{MachineMeaning}
use Rattle.ec_machine_code.specs.Stops.{address_of, stop_in, stop_of, stop_places, stops_if, words_before, words_if, words_in_all, words_of}
use Rattle.ec_machine_code.specs.declared.code.Code.{Code}
use Rattle.ec_machine_code.specs.declared.code.OperationCode.{OperationCode}
use Rattle.ec_machine_code.specs.declared.homes.Home.{Home}
use Rattle.ec_machine_code.proofs.Direct.{laid_there, ops_long, rest_laid, stop_line as stop_laid}
use Rattle.ec_machine_code.specs.Fitting.{CanBeLaidOut}
use Rattle.ec_machine_code.specs.Layout.{IsOrder, Vocabularies, before, code_of, home_of, next_of, ops_of, order_of, size_if}
use Rattle.ec_machine_code.specs.Layout.{stop_addresses, vocabulary_of, words_in}
use Rattle.ec_machine_code.specs.Speaks.{Speaks}
use Rattle.ec_target.proofs.Places.{place_of_word}
use Rattle.ec_target.specs.Code.{pc_of, word_at}
use Rattle.ec_machine_code.proofs.Laying.{laid_is}
use Rattle.ec_machine_code.proofs.Programs.{before_is, code_there, itself, long_is, operation_there, place_in, speaks_of, start_of}
use Rattle.ec_machine_code.proofs.Programs.{start_rises, start_within, stop_word_found, sum_is, words_there}
use Rattle.ec_machine_code.proofs.Sites.{Laid}
use Rattle.ec_machine_code.proofs.Different.{same_or_not}
use Rattle.ec_machine_code.proofs.LaidOutSizes.{behind, behind_within, spots_apart}
use Rattle.ec_machine_code.proofs.Stops.{number_of, numbered, one_number, rest_is}

-- a stop is laid out as it is
pub op_at :
    (code : List Line) (q : ℕ) (line : Line) (row : StopRow) → slice_get code q ≡ Some line → stop_of line.op ≡ Some row →
    slice_get (ops_of code) q ≡ Some line.op
op_at code q line row e stop = laid_there code q line e ∙ ap Some (rest_laid code q line row e stop)

pub stop_line : (o : Option Line) (row : StopRow) → stop_in o ≡ Some row → (line : Line) × (o ≡ Some line) × (stop_of line.op ≡ Some row)
stop_line None row e = absurd cc
stop_line (Some line) row e = (line, refl, e)

code_in : (o : Option OperationCode) (n address : ℕ) → slice_get (stops_if o) n ≡ Some address → (c : OperationCode) × (o ≡ Some c)
code_in None n address e = absurd cc
code_in (Some c) n address e = (c, refl)

mapped : {A B : Type 0} (f : A → B) (o : Option A) (y : B) → option_map f o ≡ Some y → (x : A) × (o ≡ Some x) × (f x ≡ y)
mapped f None y e = absurd cc
mapped f (Some x) y e = (x, refl, same_Some (f x) y e)

module _ {S : Type 0} (M : MachineMeaning S) (vs : Vocabularies) (homes : List (List Home)) (orders : List (List ℕ)) (d : Declared)
    (p : Parts)
    (can : CanBeLaidOut M vs homes orders d p) where
  abbrev pub code : Code
  code = code_of vs homes orders p.operations

  abbrev pub start : ℕ → ℕ
  start n = start_of M vs can.near can.middle can.far homes orders 0 0 p.operations n

  abbrev pub at_place : ℕ → Operation → ℕ → ℕ
  at_place n o q = place_in M vs can.near can.middle can.far homes orders n o (start n) q

  abbrev pub speaks : (n : ℕ) (o : Operation) → Speaks M (vocabulary_of vs homes orders n o)
  speaks n o = speaks_of M vs can.near can.middle can.far homes orders n o

  -- the steps that are laid out have an order
  ordered_at : (n : ℕ) (o : Operation) → operation_at p n ≡ Some o → IsOrder (length (ops_of o.code)) (order_of vs homes orders n)
  ordered_at n o e = subst (λ k. IsOrder k (order_of vs homes orders n)) (sym (ops_long o.code)) (can.ordered n o e)

  pub laid_at :
      (n : ℕ) (o : Operation) → operation_at p n ≡ Some o →
      Laid (vocabulary_of vs homes orders n o) (home_of homes n o) (ops_of o.code) (order_of vs homes orders n) code.words (start n)
  laid_at n o e =
      let within = start_within M vs can.near can.middle can.far homes orders 0 0 n n p.operations o (omega arith) e in
      let low = can.room.low in
      laid_is M (vocabulary_of vs homes orders n o) (speaks n o) (home_of homes n o) (ops_of o.code) (order_of vs homes orders n) (start n)
      code.words (ordered_at n o e)
      (words_there M vs can.near can.middle can.far homes orders code.words 0 0 n n p.operations o (omega arith) (itself code.words) e)
      (omega (arith, within, low)) (can.room.near n o e)

  code_is :
      (n : ℕ) (o : Operation) → operation_at p n ≡ Some o →
      slice_get code.operations n ≡ Some (record { words = words_in vs homes orders n o; stops = stop_addresses vs homes orders n (start n) o })
  code_is n o e = code_there M vs can.near can.middle can.far homes orders 0 0 n n p.operations o (omega arith) e

  pub words_are : (n : ℕ) (o : Operation) → operation_at p n ≡ Some o → words_of code n ≡ words_in vs homes orders n o
  words_are n o e = ap words_if (code_is n o e)

  stops_are : (n k : ℕ) (o : Operation) → operation_at p n ≡ Some o →
      address_of code n k ≡ option_map (λ q. pc_of (at_place n o q)) (slice_get (stop_places o.code) k)
  stops_are n k o e =
      ap (λ c. slice_get (stops_if c) k) (code_is n o e) ∙ slice_get-map (λ q. pc_of (at_place n o q)) (stop_places o.code) k

  -- the address of a stop
  pub address_is :
      (n k q : ℕ) (o : Operation) → operation_at p n ≡ Some o → slice_get (stop_places o.code) k ≡ Some q →
      address_of code n k ≡ Some (pc_of (at_place n o q))
  address_is n k q o e is = stops_are n k o e ∙ ap (option_map (λ q. pc_of (at_place n o q))) is

  -- a stop word stands there
  pub stop_word_at :
      (n q : ℕ) (o : Operation) (line : Line) (row : StopRow) → operation_at p n ≡ Some o → slice_get o.code q ≡ Some line →
      stop_of line.op ≡ Some row → word_at code.words (pc_of (at_place n o q)) ≡ Some M.stop_word
  stop_word_at n q o line row e is stop =
      let here : at_place n o q ≡ at_place n o q + 0 = omega arith in
      ap (λ i. word_at code.words (pc_of i)) here
      ∙ (laid_at n o e).stand q (op.Rest row) (op_at o.code q line row is stop ∙ ap Some (rest_is line.op row stop)) 0 M.stop_word
      (ap Some (speaks n o).stop_same)

  -- ---- what is said of stops

  pub stops :
      (n k q : ℕ) (o : Operation) → operation_at p n ≡ Some o → slice_get (stop_places o.code) k ≡ Some q →
      (address : ℕ) × (address_of code n k ≡ Some address) × (word_at code.words address ≡ Some M.stop_word)
  stops n k q o e is =
      let s = numbered o.code 0 k q is in
      let sum = s.sum in
      let same : s.place ≡ q = omega (arith, sum) in (
        pc_of (at_place n o q),
        address_is n k q o e is,
        stop_word_at n q o s.line s.row e (subst (λ i. slice_get o.code i ≡ Some s.line) same s.is_line) s.is_stop,
      )

  -- a stop, by its address
  pub record Known (n k address : ℕ) : Type 0 where
    pub operation : Operation
    pub is_operation : operation_at p n ≡ Some operation
    pub place_of : ℕ
    pub is_place : slice_get (stop_places operation.code) k ≡ Some place_of
    pub sum : address ≡ pc_of (at_place n operation place_of)

  pub known_is : (n k address : ℕ) → address_of code n k ≡ Some address → Known n k address
  known_is n k address e =
      let c = code_in (slice_get code.operations n) k address e in
      let o = operation_there M vs can.near can.middle can.far homes orders 0 0 n p.operations c.0 c.1 in
      let q = mapped (λ q. pc_of (at_place n o.0 q)) (slice_get (stop_places o.0.code) k) address (sym (stops_are n k o.0 o.1) ∙ e) in
      record { operation = o.0; is_operation = o.1; place_of = q.0; is_place = q.1; sum = sym q.2 }

  pub known :
      (n k address : ℕ) → address_of code n k ≡ Some address →
      (o : Operation) × (operation_at p n ≡ Some o) × (q : ℕ) × (slice_get (stop_places o.code) k ≡ Some q)
  known n k address e = let s = known_is n k address e in (s.operation, s.is_operation, s.place_of, s.is_place)

  pub only : (address : ℕ) → word_at code.words address ≡ Some M.stop_word → (n k : ℕ) × (address_of code n k ≡ Some address)
  only address e =
      let w = place_of_word code.words address M.stop_word e in
      let found = stop_word_found M vs can.near can.middle can.far homes orders 0 0 p.operations w.0
      (λ k n o sum there. (can.ordered n o (ap (slice_get p.operations) (let same : n ≡ k = omega (arith, sum) in same) ∙ there)).different)
      (slice_get-get_or code.words w.0 0 w.1 ∙ ap Some w.3) in
      let o = found.operation in
      let q = found.place in
      let line = stop_laid o.code q found.row found.is_stop in
      let number = number_of o.code 0 q line.0 found.row line.1 (ap stop_of line.2) in
      let none : 0 + q ≡ q = omega arith in
      let is_at = found.is_at in
      let same : found.at ≡ found.number = omega (arith, is_at) in
      let sum = found.sum in
      let there = ap (λ n. place_in M vs can.near can.middle can.far homes orders n o (start found.number) q) same in
      let address_there = address_is found.number number.0 q o found.is_operation (number.1 ∙ ap Some none) in
      let here : at_place found.number o q ≡ w.0 = omega (arith, sum, there) in
      (found.number, number.0, address_there ∙ ap (λ i. Some (pc_of i)) here ∙ ap Some (sym w.2))

  -- where a stop begins and ends
  pub record Stopped (n q : ℕ) (o : Operation) : Type 0 where
    pub row : StopRow
    pub is_row : slice_get (ops_of o.code) q ≡ Some (op.Rest row)
    pub spot : IsIn q (order_of vs homes orders n)
    pub end : at_place n o q < start n + behind (vocabulary_of vs homes orders n o) (home_of homes n o) (ops_of o.code)
        (order_of vs homes orders n) q

  pub stopped :
      (n k q : ℕ) (o : Operation) → operation_at p n ≡ Some o → slice_get (stop_places o.code) k ≡ Some q → Stopped n q o
  stopped n k q o e is =
      let s = numbered o.code 0 k q is in
      let sum = s.sum in
      let same : s.place ≡ q = omega (arith, sum) in
      let V = vocabulary_of vs homes orders n o in
      let home = home_of homes n o in
      let ops = ops_of o.code in
      let order = order_of vs homes orders n in
      let here : slice_get ops q ≡ Some (op.Rest s.row) =
      op_at o.code q s.line s.row (subst (λ i. slice_get o.code i ≡ Some s.line) same s.is_line) s.is_stop
      ∙ ap Some (rest_is s.line.op s.row s.is_stop) in
      let size = ap (size_if V home ops (next_of (length ops) order q) q) here in
      record {
        row = s.row;
        is_row = here;
        spot = (ordered_at n o e).all q (get_within ops q (op.Rest s.row) here);
        end = omega (arith, size);
      }

  -- a stop's word is one of its operation's
  within_one :
      (n k q : ℕ) (o : Operation) → operation_at p n ≡ Some o → slice_get (stop_places o.code) k ≡ Some q →
      at_place n o q < start n + words_in vs homes orders n o
  within_one n k q o e is =
      let s = stopped n k q o e is in
      let end = s.end in
      let within = behind_within (vocabulary_of vs homes orders n o) (home_of homes n o) (ops_of o.code) (order_of vs homes orders n) q
      s.spot in
      omega (arith, end, within)

  two_stops :
      (n k j q r : ℕ) (o : Operation) → operation_at p n ≡ Some o → slice_get (stop_places o.code) k ≡ Some q →
      slice_get (stop_places o.code) j ≡ Some r → q ≢ r → at_place n o q ≡ at_place n o r → ⊥
  two_stops n k j q r o e is_q is_r other same =
      let V = vocabulary_of vs homes orders n o in
      let home = home_of homes n o in
      let order = order_of vs homes orders n in
      let a = stopped n k q o e is_q in
      let b = stopped n j r o e is_r in
      let a_end = a.end in
      let b_end = b.end in
      ⊎_elim
      (λ (h : behind V home (ops_of o.code) order q ≤ before V home (ops_of o.code) order r). omega (arith, h, a_end, same))
      (λ (h : behind V home (ops_of o.code) order r ≤ before V home (ops_of o.code) order q). omega (arith, h, b_end, same))
      (spots_apart V home (ops_of o.code) order q r a.spot b.spot other)

  -- stops of two operations
  two_operations :
      (n k j i address : ℕ) → n < j → Known n k address → Known j i address → ⊥
  two_operations n k j i address lt a b =
      let within = within_one n k a.place_of a.operation a.is_operation a.is_place in
      let rise = start_rises M vs can.near can.middle can.far homes orders 0 0 n j n p.operations a.operation (omega arith) lt a.is_operation in
      let one = a.sum in
      let two = b.sum in
      omega (arith, within, rise, one, two)

  -- stops of one operation
  one_operation : (n k j address : ℕ) → Known n k address → Known n j address → k ≡ j
  one_operation n k j address a b =
      let same = same_Some b.operation a.operation (sym b.is_operation ∙ a.is_operation) in
      let o = a.operation in
      let is_b : slice_get (stop_places o.code) j ≡ Some b.place_of =
      subst (λ (x : Operation). slice_get (stop_places x.code) j ≡ Some b.place_of) same b.is_place in
      let sum_b : address ≡ pc_of (at_place n o b.place_of) = b.sum ∙ ap (λ (x : Operation). pc_of (at_place n x b.place_of)) same in
      let sum_a = a.sum in
      ⊎_elim
      (λ (e : a.place_of ≡ b.place_of). one_number o.code 0 k j b.place_of (a.is_place ∙ ap Some e) is_b)
      (λ (ne : a.place_of ≢ b.place_of).
      absurd (two_stops n k j a.place_of b.place_of o a.is_operation a.is_place is_b ne (omega (arith, sum_a, sum_b))))
      (same_or_not a.place_of b.place_of)

  pub apart :
      (n k j i address : ℕ) → address_of code n k ≡ Some address → address_of code j i ≡ Some address → (n ≡ j) × (k ≡ i)
  apart n k j i address e h =
      let a = known_is n k address e in
      let b = known_is j i address h in
      ⊎_elim
      (λ (same : n ≡ j). (same, one_operation n k i address a (subst (λ x. Known x i address) (sym same) b)))
      (⊎_elim
      (λ (lt : n < j). absurd (two_operations n k j i address lt a b))
      (λ (lt : j < n). absurd (two_operations j i n k address lt b a)))
      (cases_order n j)

  pub whole : words_in_all code.operations ≡ length code.words
  whole =
      sum_is M vs can.near can.middle can.far homes orders 0 0 p.operations ∙ sym (long_is M vs can.near can.middle can.far homes orders 0 0 p.operations)

  pub within :
      (n k address : ℕ) → address_of code n k ≡ Some address →
      (pc_of (words_before code.operations n) ≤ address) × (address < pc_of (words_before code.operations n + words_of code n))
  within n k address e =
      let a = known_is n k address e in
      let sum = a.sum in
      let first = before_is M vs can.near can.middle can.far homes orders 0 0 p.operations n in
      let below = within_one n k a.place_of a.operation a.is_operation a.is_place in
      let size = words_are n a.operation a.is_operation in
      ((omega (arith, sum, first)), (omega (arith, sum, first, below, size)))
