-- An activation at any stop, and a state that fits it: each live variable is 0, false, the first text or nil, and each word 0 but the
-- frame's reference to the own object.
use Rattle.std.proofs.Common.{◌≡◌, ◌≢◌, ℕ, zero, suc, ◌+◌, ◌-◌, ◌%◌, ◌^◌, ◌<◌, ◌≤◌, List, [], ◌∷◌, length, map, Option, Some, None}
use Rattle.std.proofs.Common.{refl, sym, ap, ◌∙◌, subst, arith, inl, inr, ⊎_elim, max, replicate, option_map, IsSome, Bool, true, false}
use Rattle.std.proofs.Common.{if◌then◌else◌, append-nil, drop, length-append}
use Rattle.std.specs.Prelude.{slice_get}
use Rattle.std.proofs.lemmas.Bool.{cases_eq}
use Rattle.std.proofs.lemmas.Bool.Decides.{nat_tests}
use Rattle.std.proofs.lemmas.List.{length-map}
use Rattle.std.proofs.lemmas.Option.{same_Some, slice_get-map}
use Rattle.ec_base.proofs.Lists.{get_within}
use Rattle.ec_base.specs.Bytes.{Bytes, bytes_from, before_rest, with_bytes, with_front}
use Rattle.ec_code.specs.Activations.{machine_behind, operation_at, variables_behind, variables_if}
use Rattle.ec_code.specs.Fine.{FineOp, Has, live_at, live_if}
use Rattle.ec_code.specs.Steps.{Machine, own_field, variable_at}
use Rattle.ec_code.specs.Typing.{Declared, field_types, kind_of}
use Rattle.ec_code.specs.declared.activation.CodeActivation.{CodeActivation}
use Rattle.ec_code.specs.declared.code.Line.{Line}
use Rattle.ec_code.specs.declared.code.Live.{Live}
use Rattle.ec_code.specs.declared.code.Operation.{Operation}
use Rattle.ec_code.specs.declared.code.Parts.{Parts}
use Rattle.ec_code.specs.declared.code.Variable.{Variable}
use Rattle.ec_code.specs.declared.code.Variable.TheVariants.{Named, Temporary}
use Rattle.ec_types.specs.declared.conform.static_type.StaticType.{StaticType}
use Rattle.ec_machine_code.specs.Faithful.{homes_of}
use Rattle.ec_machine_code.specs.Frames.{block_at, field_at, own_reference, slot_at, slots}
use Rattle.ec_machine_code.specs.Machine.{MachineMeaning}
use Rattle.ec_machine_code.specs.Standing.{AreTables, Fits, FitsWord, HasWhatIsSet, HomeStands, Lives, WordStands}
use Rattle.ec_machine_code.specs.Stops.{stop_places}
use Rattle.ec_machine_code.specs.Homes.{IsWithin}
use Rattle.ec_machine_code.specs.declared.homes.Home.{Home}
use Rattle.ec_machine_code.specs.declared.homes.Home.TheVariants.{Register, Slot}
use Rattle.ec_code.specs.Marks.{is_same}
use Rattle.ec_memory.proofs.Words.{word_other, word_written}
use Rattle.ec_memory.specs.Words.{HasWord, block_word_at, global_word_at, word_in}
use Rattle.ec_machine_code.specs.Fitting.{CanBeLaidOut}
use Rattle.ec_machine_code.specs.Layout.{Vocabularies, home_of, ops_of, order_of, vocabulary_of}
use Rattle.ec_machine_code.specs.Speaks.{Speaks}
use Rattle.ec_world.specs.Words.{StandsFor}
use Rattle.ec_target.specs.Code.{pc_of}
use Rattle.ec_target.specs.Runs.{ReadsBack, WritesBytes}
use Rattle.ec_world.specs.declared.common.Common.{Common}
use Rattle.ec_world.specs.declared.stop.Stop.TheVariants as stop
use Rattle.ec_world.specs.declared.value.Value.{Value}
use Rattle.ec_world.specs.declared.value.Value.TheVariants.{Nil}
use Rattle.ec_world.specs.declared.value.ValueType.{ValueType}
use Rattle.ec_world.specs.declared.value.ValueType.TheVariants.{Integer, Boolean, Bytes as Text, Reference}
use Rattle.ec_machine_code.proofs.FineAt.{fine_at}
use Rattle.ec_machine_code.proofs.Stretches.{get_front}
use Rattle.ec_machine_code.proofs.LaidOutSizes.{before_within}
use Rattle.ec_machine_code.proofs.Whole.{address_is, at_place, code, laid_at, speaks}
use Rattle.ec_machine_code.specs.Fitted.{CanRest, EachStopHasAFit, HasFew, FitAt, RestsWith, first_text, value_of_zero}

-- ---- tables

-- object 1 alone has a number, which is 1
abbrev local_of : ℕ → Option ℕ
local_of zero = None
local_of (suc zero) = Some 1
local_of (suc (suc i)) = None

only_one : (i oid : ℕ) → local_of i ≡ Some oid → i ≡ 1
only_one zero oid e = absurd cc
only_one (suc zero) oid e = refl
only_one (suc (suc i)) oid e = absurd cc

-- the literals; where there are none, the empty text
abbrev texts_of : List (List ℕ) → List (List ℕ)
texts_of [] = [] ∷ []
texts_of (t ∷ ts) = t ∷ ts

first_there : (literals : List (List ℕ)) → slice_get (texts_of literals) 0 ≡ Some (first_text literals)
first_there [] = refl
first_there (t ∷ ts) = refl

literal_there : (literals : List (List ℕ)) (i : ℕ) (t : List ℕ) → slice_get literals i ≡ Some t → slice_get (texts_of literals) i ≡ Some t
literal_there [] i t e = absurd cc
literal_there (s ∷ ts) i t e = e

one_place :
    (literals : List (List ℕ)) →
    ((i j : ℕ) (t : List ℕ) → slice_get literals i ≡ Some t → slice_get literals j ≡ Some t → i ≡ j) → (i j : ℕ) (t : List ℕ) →
    slice_get (texts_of literals) i ≡ Some t → slice_get (texts_of literals) j ≡ Some t → i ≡ j
one_place [] one zero zero t e h = refl
one_place [] one zero (suc j) t e h = absurd cc
one_place [] one (suc i) j t e h = absurd cc
one_place (s ∷ ts) one i j t e h = one i j t e h

texts_few : (literals : List (List ℕ)) → length literals < 2 ^ 32 → length (texts_of literals) < 2 ^ 32
texts_few [] h = omega arith
texts_few (t ∷ ts) h = h

abbrev text_of : List (List ℕ) → ℕ → Option (List ℕ)
text_of literals i = slice_get (texts_of literals) i

tables_of : (d : Declared) (p : Parts) → HasFew d p → AreTables p local_of (text_of p.literals)
tables_of d p few = record {
  nil = refl;
  locals = λ i j oid e h. only_one i oid e ∙ sym (only_one j oid h);
  texts = one_place p.literals few.literals;
  small_locals = λ i oid e. let one = only_one i oid e in omega (arith, one);
  small_texts = λ i t e.
      let within = get_within (texts_of p.literals) i t e in
      let all = texts_few p.literals few.few_literals in
      omega (arith, within, all);
  literals = literal_there p.literals;
}

-- ---- values

module _ (literals : List (List ℕ)) where
  abbrev value_as : StaticType → Value
  value_as t = value_of_zero literals (kind_of t)

  kind_fits : (k : ValueType) → FitsWord (value_of_zero literals k)
  kind_fits Integer = record { sfits = omega arith }
  kind_fits Boolean = tt
  kind_fits Text = tt
  kind_fits Reference = tt

  kind_stands : (k : ValueType) → StandsFor local_of (text_of literals) (value_of_zero literals k) 0
  kind_stands Integer = refl
  kind_stands Boolean = refl
  kind_stands Text = first_there literals
  kind_stands Reference = refl

  -- the value of a variable, by the first of these types
  abbrev value_in : List Live → Variable → Value
  value_in [] x = Nil
  value_in (l ∷ ls) x = if is_same x l.variable then value_as l.of else value_in ls x

  abbrev Zero : Value → Type 0
  Zero v = FitsWord v × StandsFor local_of (text_of literals) v 0

  as_zero : (t : StaticType) → Zero (value_as t)
  as_zero t = (kind_fits (kind_of t), kind_stands (kind_of t))

  value_zero : (ls : List Live) (x : Variable) → Zero (value_in ls x)
  value_zero [] x = (tt, refl)
  value_zero (l ∷ ls) x = by (is_same x l.variable) (value_zero ls x)
    where
      by : (b : Bool) → Zero (value_in ls x) → Zero (if b then value_as l.of else value_in ls x)
      by true rest = as_zero l.of
      by false rest = rest

  same_variable : (x y : Variable) → is_same x y ≡ true → x ≡ y
  same_variable (Named m) (Named n) e = let same : m ≡ n = grind (arith, nat_tests) in ap Named same
  same_variable (Temporary m) (Temporary n) e = let same : m ≡ n = grind (arith, nat_tests) in ap Temporary same
  same_variable (Named m) (Temporary n) e = absurd cc
  same_variable (Temporary m) (Named n) e = absurd cc

  variable_itself : (x : Variable) → is_same x x ≡ true
  variable_itself (Named n) = grind (arith, nat_tests)
  variable_itself (Temporary d) = grind (arith, nat_tests)

  value_typed :
      (ls : List Live) (x : Variable) (t : StaticType) → Has ls x t →
      (s : StaticType) × Has ls x s × (value_in ls x ≡ value_as s)
  value_typed [] x t h = absurd h
  value_typed (l ∷ ls) x t h = by (is_same x l.variable) refl (value_typed ls x t) h
    where
      by :
          (b : Bool) → is_same x l.variable ≡ b →
          (Has ls x t → (s : StaticType) × Has ls x s × (value_in ls x ≡ value_as s)) → Has (l ∷ ls) x t →
          (s : StaticType) × Has (l ∷ ls) x s × ((if b then value_as l.of else value_in ls x) ≡ value_as s)
      by true same rest h =
          let is : ◌≡◌ {A = Live} (record { variable = x; of = l.of }) l =
          ap (λ y. record { variable = y; of = l.of }) (same_variable x l.variable same) in
          (l.of, inl is, refl)
      by false same rest h = ⊎_elim
          (λ (e : ◌≡◌ {A = Live} (record { variable = x; of = t }) l).
          absurd (false_true (sym same ∙ ap (λ (k : Live). is_same x k.variable) (sym e) ∙ variable_itself x)))
          (λ (k : Has ls x t). let r = rest k in (r.0, inr r.1, r.2))
          h
        where
          false_true : false ≡ true → ⊥
          false_true e = cc

  -- ---- lists of values

  abbrev named_values : List Live → ℕ → ℕ → List Value
  named_values ls first zero = []
  named_values ls first (suc count) = value_in ls (Named first) ∷ named_values ls (suc first) count

  named_length : (ls : List Live) (first count : ℕ) → length (named_values ls first count) ≡ count
  named_length ls first zero = refl
  named_length ls first (suc count) = ap suc (named_length ls (suc first) count)

  named_get :
      (ls : List Live) (first count n : ℕ) → n < count → slice_get (named_values ls first count) n ≡ Some (value_in ls (Named (first + n)))
  named_get ls first zero n lt = absurd (omega (arith, lt))
  named_get ls first (suc count) zero lt = let none : first ≡ first + 0 = omega arith in ap (λ k. Some (value_in ls (Named k))) none
  named_get ls first (suc count) (suc n) lt =
      let next : suc first + n ≡ first + suc n = omega arith in
      named_get ls (suc first) count n (omega (arith, lt)) ∙ ap (λ k. Some (value_in ls (Named k))) next

  abbrev temporary_values : List Live → ℕ → ℕ → List Value
  temporary_values ls first zero = []
  temporary_values ls first (suc count) = value_in ls (Temporary first) ∷ temporary_values ls (suc first) count

  temporary_get :
      (ls : List Live) (first count n : ℕ) → n < count →
      slice_get (temporary_values ls first count) n ≡ Some (value_in ls (Temporary (first + n)))
  temporary_get ls first zero n lt = absurd (omega (arith, lt))
  temporary_get ls first (suc count) zero lt =
      let none : first ≡ first + 0 = omega arith in ap (λ k. Some (value_in ls (Temporary k))) none
  temporary_get ls first (suc count) (suc n) lt =
      let next : suc first + n ≡ first + suc n = omega arith in
      temporary_get ls (suc first) count n (omega (arith, lt)) ∙ ap (λ k. Some (value_in ls (Temporary k))) next

-- one more than the number of each temporary among these
abbrev temporary_number : Variable → ℕ
temporary_number (Named n) = 0
temporary_number (Temporary d) = d

abbrev behind_all : List Live → ℕ
behind_all [] = 0
behind_all (l ∷ ls) = max (suc (temporary_number l.variable)) (behind_all ls)

before_all : (ls : List Live) (d : ℕ) (t : StaticType) → Has ls (Temporary d) t → d < behind_all ls
before_all [] d t h = absurd h
before_all (l ∷ ls) d t h = ⊎_elim
    (λ (e : ◌≡◌ {A = Live} (record { variable = Temporary d; of = t }) l).
    let same = ap (λ (k : Live). temporary_number k.variable) e in
    omega (arith, same))
    (λ (rest : Has ls (Temporary d) t). let far = before_all ls d t rest in omega (arith, far))
    h

-- ---- variables behind a stop

behind_there :
    (p : Parts) (a : CodeActivation) (q n : ℕ) (v : Value) → slice_get a.variables n ≡ Some v →
    slice_get (variables_behind p a q) n ≡ Some v
behind_there p a zero n v e = get_front a.variables _ n v e
behind_there p a (suc q) n v e = e

behind_many : (p : Parts) (a : CodeActivation) (q : ℕ) → length a.variables ≤ length (variables_behind p a q)
behind_many p a zero =
    let all = length-append a.variables (replicate (length (variables_if (operation_at p a.operation)) - length a.variables) Nil) in
    omega (arith, all)
behind_many p a (suc q) = omega arith

-- ---- memory

is_there : (number : ℕ → List ℕ → ℕ) (o : Option (List ℕ)) (w : ℕ) → option_map (number 4) o ≡ Some w → IsSome o
is_there number None w e = (cc)
is_there number (Some bs) w e = refl

from_four :
    (bs : List ℕ) (m : Bytes) (a : ℕ) → length bs ≡ 4 → m a ≡ slice_get bs 0 → m (a + 1) ≡ slice_get bs 1 →
    m (a + 1 + 1) ≡ slice_get bs 2 → m (a + 1 + 1 + 1) ≡ slice_get bs 3 → bytes_from m a 4 ≡ Some bs
unfolding bytes_from
from_four [] m a long e f g h = absurd (omega (arith, long))
from_four (x ∷ []) m a long e f g h = absurd (omega (arith, long))
from_four (x ∷ y ∷ []) m a long e f g h = absurd (omega (arith, long))
from_four (x ∷ y ∷ z ∷ []) m a long e f g h = absurd (omega (arith, long))
from_four (x ∷ y ∷ z ∷ w ∷ []) m a long e f g h =
    ap (λ o. before_rest o (bytes_from m (a + 1) 3)) e
    ∙ ap (with_front x) (ap (λ o. before_rest o (bytes_from m (a + 1 + 1) 2)) f
    ∙ ap (with_front y) (ap (λ o. before_rest o (bytes_from m (a + 1 + 1 + 1) 1)) g
    ∙ ap (with_front z) (ap (λ o. before_rest o (Some [])) h)))
from_four (x ∷ y ∷ z ∷ w ∷ v ∷ bs) m a long e f g h = absurd (omega (arith, long))

module _ (number : ℕ → List ℕ → ℕ) (bytes_of : ℕ → ℕ → List ℕ) (reads_back : ReadsBack number bytes_of)
    (length_bytes : WritesBytes bytes_of) where
  abbrev zeros : Bytes
  zeros a = slice_get (bytes_of 4 0) (a % 4)

  -- where the frame's reference to the own object lies
  abbrev own_place : ℕ
  own_place = block_word_at 0 own_reference

  abbrev memory : Bytes
  memory = with_bytes zeros own_place (bytes_of 4 1)

  zero_in : (a : ℕ) → a % 4 ≡ 0 → word_in number zeros a ≡ Some 0
  zero_in a even =
      let first : a % 4 ≡ 0 = even in
      let second : (a + 1) % 4 ≡ 1 = omega (arith, even) in
      let third : (a + 1 + 1) % 4 ≡ 2 = omega (arith, even) in
      let fourth : (a + 1 + 1 + 1) % 4 ≡ 3 = omega (arith, even) in
      ap (option_map (number 4)) (from_four (bytes_of 4 0) zeros a (length_bytes 4 0) (ap (slice_get (bytes_of 4 0)) first)
      (ap (slice_get (bytes_of 4 0)) second) (ap (slice_get (bytes_of 4 0)) third) (ap (slice_get (bytes_of 4 0)) fourth))
      ∙ ap Some (ap (number 4) (sym (append-nil (bytes_of 4 0))) ∙ reads_back 4 0 [] (omega arith))

  zero_word : (a : ℕ) → a % 4 ≡ 0 → a ≢ own_place → word_in number memory a ≡ Some 0
  zero_word a even ne = word_other number bytes_of reads_back length_bytes zeros own_place 1 a even (omega arith) ne ∙ zero_in a even

  own_word : word_in number memory own_place ≡ Some 1
  own_word = word_written number bytes_of reads_back length_bytes zeros own_place 1 (omega arith)

  word_here : (a : ℕ) → a % 4 ≡ 0 → HasWord memory a
  word_here a even = ⊎_elim
      (λ (e : a ≡ own_place). is_there number (bytes_from memory a 4) 1 (ap (word_in number memory) e ∙ own_word))
      (λ (ne : a ≢ own_place). is_there number (bytes_from memory a 4) 0 (zero_word a even ne))
      (cases_eq a own_place)

-- ---- an activation at a stop

mapped : {A B : Type 0} (f : A → B) (o : Option A) (y : B) → option_map f o ≡ Some y → (x : A) × (o ≡ Some x) × (f x ≡ y)
mapped f None y e = absurd cc
mapped f (Some x) y e = (x, refl, same_Some (f x) y e)

live_line : (o : Option Line) (x : Variable) (t : StaticType) → Has (live_if o) x t → (line : Line) × (o ≡ Some line) × Has line.live x t
live_line None x t h = absurd h
live_line (Some line) x t h = (line, refl, h)

module _ {S : Type 0} (M : MachineMeaning S) (vs : Vocabularies) (homes : List (List Home)) (orders : List (List ℕ)) (d : Declared)
    (p : Parts)
    (can : CanBeLaidOut M vs homes orders d p) (rest : CanRest M) (few : HasFew d p) (n k q : ℕ) (o : Operation)
    (is : operation_at p n ≡ Some o) (number_is : slice_get (stop_places o.code) k ≡ Some q) where
  abbrev alive : List Live
  alive = live_at o.code (suc q)

  abbrev fields : List Value
  fields = map (value_as p.literals) (field_types d o.class)

  abbrev globals : List Value
  globals = map (value_as p.literals) p.constants

  abbrev common : Common
  common = record {
    nodes = 0;
    classes = [];
    objects = record { class = o.class; fields = fields; fixed = false; monitor = None } ∷ [];
    globals = globals;
    output = [];
    events = [];
  }

  abbrev activation : CodeActivation
  activation = record {
    operation = n;
    own = 1;
    at = q;
    stop = stop.Entry;
    operands = [];
    into = None;
    pending = false;
    variables = named_values p.literals alive 0 (length o.variables);
    temporaries = temporary_values p.literals alive 0 (behind_all alive);
  }

  abbrev machine : Machine
  machine = machine_behind p common activation

  abbrev kind_speaks : Speaks M (vocabulary_of vs homes orders n o)
  kind_speaks = speaks M vs homes orders d p can n o

  abbrev bytes : Bytes
  bytes = memory M.number M.bytes_of kind_speaks.reads_back kind_speaks.length_bytes

  abbrev address : ℕ
  address = pc_of (at_place M vs homes orders d p can n o q)

  low : address + 4 < 2 ^ 32
  low =
      let laid = laid_at M vs homes orders d p can n o is in
      let end = laid.low in
      let within = before_within (vocabulary_of vs homes orders n o) (home_of homes n o) (ops_of o.code) (order_of vs homes orders n) q in
      omega (arith, end, within)

  rested : RestsWith M (address + 4) (block_at 0) (block_at 1) (λ i. 0)
  rested = rest (address + 4) (block_at 0) (block_at 1) (λ i. 0) low (omega arith) (omega arith) (λ i. omega arith)

  -- ---- what is there

  is_variable : (x : Variable) (t : StaticType) → Has alive x t → variable_at machine x ≡ Some (value_in p.literals alive x)
  is_variable (Named i) t h =
      let lt = (can.fine.operations n o is).named (suc q) i t h in
      let first : 0 + i ≡ i = omega arith in
      behind_there p activation q i (value_in p.literals alive (Named i))
      (named_get p.literals alive 0 (length o.variables) i lt ∙ ap (λ j. Some (value_in p.literals alive (Named j))) first)
  is_variable (Temporary i) t h =
      let lt = before_all alive i t h in
      let first : 0 + i ≡ i = omega arith in
      temporary_get p.literals alive 0 (behind_all alive) i lt ∙ ap (λ j. Some (value_in p.literals alive (Temporary j))) first

  abbrev Word : ℕ → Value → Type 0
  Word a v = WordStands M local_of (text_of p.literals) bytes a v

  word_zero :
      (a : ℕ) (v : Value) → a % 4 ≡ 0 → a ≢ own_place M.number M.bytes_of kind_speaks.reads_back kind_speaks.length_bytes →
      Zero p.literals v → Word a v
  word_zero a v even ne is_zero = record {
    word = 0;
    there = zero_word M.number M.bytes_of kind_speaks.reads_back kind_speaks.length_bytes a even ne;
    stands = is_zero.1;
  }

  home_zero :
      (h : Home) (v : Value) → IsWithin M.homes slots h → Zero p.literals v →
      HomeStands M local_of (text_of p.literals) 0 rested.state bytes h v
  home_zero (Slot i) v lt is_zero = (lt, word_zero (slot_at 0 i) v (omega arith) (λ e. omega (arith, e)) is_zero)
  home_zero (Register i) v lt is_zero =
      (lt, subst (λ w. StandsFor local_of (text_of p.literals) v w) (sym (rested.homes i lt)) is_zero.1)

  lives :
      (x : Variable) (t : StaticType) → Has alive x t →
      Lives M local_of (text_of p.literals) (homes_of homes n o) 0 rested.state bytes machine x
  lives x t h =
      let line = live_line (slice_get o.code (suc q)) x t h in
      let there = (can.homes_fit n o is).each (suc q) line.0 x line.1 (inr (inr (t, line.2))) in
      let of_zero = value_zero p.literals alive x in
      record {
        value = value_in p.literals alive x;
        is = is_variable x t h;
        fits = of_zero.0;
        home = there.0;
        has = there.1;
        stands = home_zero there.0 (value_in p.literals alive x) there.2 of_zero;
      }

  -- a value of a list of them
  one_of :
      (ts : List StaticType) (i : ℕ) (v : Value) → slice_get (map (value_as p.literals) ts) i ≡ Some v →
      (i < length ts) × Zero p.literals v
  one_of ts i v e =
      let t = mapped (value_as p.literals) (slice_get ts i) v (sym (slice_get-map (value_as p.literals) ts i) ∙ e) in
      (get_within ts i t.0 t.1, subst (λ u. Zero p.literals u) t.2 (as_zero p.literals t.0))

  field_there : (i : ℕ) (t : StaticType) → slice_get (field_types d o.class) i ≡ Some t →
      own_field common 1 i ≡ Some (value_as p.literals t)
  field_there i t e =
      slice_get-map (value_as p.literals) (field_types d o.class) i ∙ ap (option_map (value_as p.literals)) e

  has_all : HasWhatIsSet o 1 machine
  has_all = record {
    variables = (let all = behind_many p activation q in let count = named_length p.literals alive 0 (length o.variables) in
        omega (arith, all, count));
    fields = λ i j line from e set.
        let fine = fine_at d p n o i line (can.fine.operations n o is) e in
        let stores = subst (λ x. FineOp d p n o i (drop (suc i) o.code) line.live x) set fine in
        (value_as p.literals stores.0.0, field_there j stores.0.0 stores.0.1);
  }

  fits_it :
      Fits M local_of (text_of p.literals) (homes_of homes n o) alive 0 1 1 machine rested.state bytes
  fits_it = record {
    rests = rested.rests;
    frame_base = rested.frame_is;
    own_base = rested.own_is;
    frame_small = omega arith;
    own_small = omega arith;
    apart = λ e. omega (arith, e);
    frame = λ i lt. word_here M.number M.bytes_of kind_speaks.reads_back kind_speaks.length_bytes (block_word_at 0 i) (omega arith);
    itself = (1, own_word M.number M.bytes_of kind_speaks.reads_back kind_speaks.length_bytes, refl);
    live = lives;
    fields = record {
      each = λ i v e.
          let one = one_of (field_types d o.class) i v e in
          (one.1.0, word_zero (field_at 1 i) v (omega arith) (λ h. omega (arith, h)) one.1);
      few = λ i v e.
          let one = one_of (field_types d o.class) i v e in
          let lt = one.0 in
          let all = few.few_fields o.class in
          omega (arith, lt, all);
    };
    constants = record {
      each = λ i v e.
          let one = one_of p.constants i v e in
          (one.1.0, word_zero (global_word_at i) v (omega arith) (λ h. omega (arith, h)) one.1);
      few = (let all = few.few_constants in let count = length-map p.constants (value_as p.literals) in omega (arith, all, count));
    };
  }

  pub fit : FitAt M p (code M vs homes orders d p can) homes n q o
  fit = record {
    local = local_of;
    text = text_of p.literals;
    tables = tables_of d p few;
    activation = activation;
    is_operation = refl;
    is_at = refl;
    common = common;
    address = address;
    frame = 0;
    own = 1;
    state = rested.state;
    bytes = bytes;
    stop = record {
      operation = o;
      is_operation = is;
      number = k;
      is_number = number_is;
      is_address = address_is M vs homes orders d p can n k q o is number_is;
    };
    behind = rested.at;
    has = has_all;
    fits = fits_it;
    typed = λ x t h.
        let s = value_typed p.literals alive x t h in
        (s.0, s.1, is_variable x t h ∙ ap Some s.2);
  }

module _ {S : Type 0} (M : MachineMeaning S) where
  pub each_fit : EachStopHasAFit M
  each_fit vs homes orders d p can rest few n k q o is number_is = fit M vs homes orders d p can rest few n k q o is number_is
