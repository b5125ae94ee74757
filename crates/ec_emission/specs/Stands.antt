-- Where the code of what is still to do stands: a case for each way in which a silent step of the source goes on.
use Rattle.std.specs.Prelude.{◌≡◌, ℕ, zero, suc, ◌+◌, ◌-◌, Bool, true, false, not, List, [], ◌∷◌, ◌++◌, length}
use Rattle.std.specs.Prelude.{Option, Some, None, slice_get, pos}
use Rattle.ec_ast.specs.declared.Multiplicative.{Multiplicative}
use Rattle.ec_ast.specs.declared.Multiplicative.TheVariants as product
use Rattle.ec_code.specs.Steps.{Machine, computed, on_numbers, operand_at, tested, as_wanted}
use Rattle.ec_code.specs.declared.code.Arithmetic.{Arithmetic}
use Rattle.ec_code.specs.declared.code.Arithmetic.TheVariants.{Difference, Product, Quotient, Remainder}
use Rattle.ec_code.specs.declared.code.Op.{Op}
use Rattle.ec_code.specs.declared.code.Op.TheVariants as op
use Rattle.ec_code.specs.declared.code.Operand.{Operand}
use Rattle.ec_code.specs.declared.code.Operand.TheVariants as operand
use Rattle.ec_code.specs.declared.code.Test.{Test}
use Rattle.ec_code.specs.declared.code.Test.TheVariants as test
use Rattle.ec_code.specs.declared.code.Variable.{Variable}
use Rattle.ec_code.specs.declared.code.Variable.TheVariants as variable
use Rattle.ec_types.specs.declared.conform.static_type.StaticType.{StaticType}
use Rattle.ec_core.specs.declared.Arm.{Arm}
use Rattle.ec_core.specs.declared.Block.{Block}
use Rattle.ec_core.specs.declared.Expression.{Expression}
use Rattle.ec_core.specs.declared.Place.{Place}
use Rattle.ec_core.specs.declared.Place.TheVariants as place
use Rattle.ec_meaning.specs.Meaning.{behind_loop}
use Rattle.ec_meaning.specs.Programs.{Source, line, constant_number}
use Rattle.ec_meaning.specs.Steps.{Step, Goes, Rests, Breaks, Returns, NoCase, step, gives, gives_if, value_at, stored, returned}
use Rattle.ec_meaning.specs.Steps.{block_items, divides, last_two}
use Rattle.ec_meaning.specs.declared.item.Item.{Item}
use Rattle.ec_meaning.specs.declared.item.Item.TheVariants as i
use Rattle.ec_meaning.specs.declared.state.State.{State}
use Rattle.ec_meaning.specs.declared.state.Whose.{Whose}
use Rattle.ec_emission.specs.Leaves.{IsThereOf, Leaf, leaf_operand, said, temporary}
use Rattle.ec_emission.specs.Rows.{rest_row, own_row, bare_row, fail_row, return_row}
use Rattle.ec_world.specs.declared.process.Cause.TheVariants as cause
use Rattle.ec_world.specs.declared.stop.Stop.{Stop}
use Rattle.ec_world.specs.declared.stop.Stop.TheVariants as stop
use Rattle.ec_world.specs.declared.value.Value.{Value}
use Rattle.ec_world.specs.declared.value.Value.TheVariants as value

-- ---- values that are held

-- A value that is held lies in the temporary of its depth, or the code says it, or it lies there and is the own object.
pub data Hold : Type 0 where
  Kept : Hold
  Said : Leaf → Hold
  Own : Hold

-- what reads a value held above so many others
abbrev pub read : ℕ → Hold → Option Operand
read h Kept = Some (temporary h)
read h (Said l) = Some (leaf_operand l)
read h Own = Some (temporary h)

-- so many values in their temporaries, above others
abbrev pub all_kept : ℕ → List Hold → List Hold
all_kept zero hs = hs
all_kept (suc k) hs = Kept ∷ all_kept k hs

-- what a stop gives is held above the others
abbrev pub one_more : Option StaticType → List Hold → List Hold
one_more (Some of) hs = Kept ∷ hs
one_more None hs = hs

-- ---- steps of the source

abbrev pub decided : State → Option Bool → Step
decided under None = NoCase
decided under (Some b) = gives under (value.Bool b)

abbrev pub arithmetic_of : Multiplicative → Arithmetic
arithmetic_of product.Times = Product
arithmetic_of product.Over = Quotient
arithmetic_of product.Remainder = Remainder

-- no code goes on behind these
abbrev pub IsLast : Stop → Type 0
IsLast (stop.Return gives_self) = Unit {0}
IsLast stop.End = Unit {0}
IsLast (stop.Fail why line) = Unit {0}
IsLast _ = ⊥

-- an operation is invoked
abbrev pub IsInvocation : Stop → Type 0
IsInvocation (stop.Invoke name line) = Unit {0}
IsInvocation _ = ⊥

-- The activation is one of operation `number`, whose own object's class captures so many names; it has so many named
-- variables; `literals` are the program's. `Loop top again b`: the code of a loop over b stands from its loop top up to the
-- step that leads back.
module _ (s : Source) (number captured count : ℕ) (literals : List (List ℕ)) (code : List Op) (Loop : ℕ → ℕ → Block → Type 0) where
  abbrev pub whose : ℕ → Whose
  whose own = record { operation = number; own = own }

  abbrev pub Is : ℕ → Op → Type 0
  Is q o = slice_get code q ≡ Some o

  -- what an item comes to, in each activation and state
  abbrev pub Comes : Item → (ℕ → State → Step) → Type 0
  Comes x to = (own : ℕ) (st : State) → step s (whose own) st x ≡ to own st

  -- a value is fetched from its place
  abbrev pub fetched : Variable → Place → Op
  fetched to (place.Variable n) = op.Copy to (operand.Of (variable.Named n))
  fetched to (place.Captured n) = op.Field to n
  fetched to (place.Field n) = op.Field to (captured + n)
  fetched to (place.Constant n) = op.Constant to (constant_number s n)

  abbrev pub leaf_value : State → Leaf → Option Value
  leaf_value st l = said st.variables l

  -- the variable is there
  abbrev pub IsThere : Leaf → Type 0
  IsThere l = IsThereOf count l

  -- Two operands are tested as a comparison compares them.
  abbrev pub TestsAs : (State → Value → Value → Step) → Operand → Operand → Test → Bool → Type 0
  TestsAs compares x y asks wanted =
      (m : Machine) (under : State) (u v : Value) → operand_at m x ≡ Some u → operand_at m y ≡ Some v →
      compares under u v ≡ decided under (as_wanted wanted (tested m asks))

  -- An item that makes a truth of values that are held: those before it, those that stay, the test that comes to the same
  -- truth, and what is wanted of it.
  pub data Decides : List Hold → Item → List Hold → Test → Bool → Type 0 where
    by_inverse :
        {hs : List Hold} {h : Hold} → (x : Operand) → read (length hs) h ≡ Some x →
        Decides (h ∷ hs) i.Invert hs (test.Holds x) false
    by_comparison :
        {hs : List Hold} {h k : Hold} {compares : Item} → (act : State → Value → Value → Step) →
        Comes compares (λ own st. last_two st act) → (x y : Operand) → read (length hs) h ≡ Some x →
        read (suc (length hs)) k ≡ Some y → (asks : Test) → (wanted : Bool) → TestsAs act x y asks wanted →
        Decides (k ∷ h ∷ hs) compares hs asks wanted

  -- What a condition asks: a truth that is held, or one that is still to be made by an item.
  pub data Asks : List Hold → List Item → List Hold → Test → Bool → Type 0 where
    a_value : {hs : List Hold} {h : Hold} → (x : Operand) → read (length hs) h ≡ Some x → Asks (h ∷ hs) [] hs (test.Holds x) true
    an_item :
        {hs : List Hold} {ks : List Hold} {x : Item} {asks : Test} {wanted : Bool} → Decides ks x hs asks wanted →
        Asks ks (x ∷ []) hs asks wanted

  -- The values that are held, the last one first; the place of the code; and what is still to do.
  pub data Stands : List Hold → ℕ → List Item → Type 0 where
    -- a way of the code
    jumps : {hs : List Hold} {q : ℕ} {xs : List Item} → (over : ℕ) → Is q (op.Jump over) → Stands hs (suc (q + over)) xs → Stands hs q xs
    -- what opens into parts, or goes elsewhere
    opens :
        {hs : List Hold} {q : ℕ} {x : Item} {xs : List Item} → (more : List Item) → Comes x (λ own st. Goes st more) →
        Stands hs q (more ++ xs) → Stands hs q (x ∷ xs)
    opens_with_two :
        {hs : List Hold} {h k : Hold} {q : ℕ} {x : Item} {xs : List Item} → (more : List Item) →
        Comes x (λ own st. last_two st (λ under u v. Goes st more)) → Stands (k ∷ h ∷ hs) q (more ++ xs) →
        Stands (k ∷ h ∷ hs) q (x ∷ xs)
    breaks :
        {hs : List Hold} {q : ℕ} {x : Item} {xs : List Item} → Comes x (λ own st. Breaks st) → Stands hs q (behind_loop xs) →
        Stands hs q (x ∷ xs)
    returns :
        {hs : List Hold} {q : ℕ} {x : Item} {xs : List Item} → Comes x (λ own st. Returns st) → Stands hs q (i.Leave ∷ []) →
        Stands hs q (x ∷ xs)
    discards : {hs : List Hold} {q : ℕ} {xs : List Item} → Stands [] q xs → Stands hs q (i.Discard ∷ xs)
    -- values
    says :
        {hs : List Hold} {q : ℕ} {x : Item} {xs : List Item} → (l : Leaf) → Comes x (λ own st. gives_if st (leaf_value st l)) →
        IsThere l → Stands (Said l ∷ hs) q xs → Stands hs q (x ∷ xs)
    is_own :
        {hs : List Hold} {q : ℕ} {x : Item} {xs : List Item} → Comes x (λ own st. gives st (value.Ref own)) →
        Is q (op.Itself (variable.Temporary (length hs))) → Stands (Own ∷ hs) (suc q) xs → Stands hs q (x ∷ xs)
    copies :
        {hs : List Hold} {q : ℕ} {x : Item} {xs : List Item} → (l : Leaf) → Comes x (λ own st. gives_if st (leaf_value st l)) →
        Is q (op.Copy (variable.Temporary (length hs)) (leaf_operand l)) → Stands (Kept ∷ hs) (suc q) xs → Stands hs q (x ∷ xs)
    literal :
        {hs : List Hold} {q : ℕ} {x : Item} {xs : List Item} → (text : List ℕ) → (index : ℕ) →
        Comes x (λ own st. gives st (value.Str text)) → slice_get literals index ≡ Some text →
        Is q (op.Literal (variable.Temporary (length hs)) index) → Stands (Kept ∷ hs) (suc q) xs → Stands hs q (x ∷ xs)
    itself :
        {hs : List Hold} {q : ℕ} {x : Item} {xs : List Item} → Comes x (λ own st. gives st (value.Ref own)) →
        Is q (op.Itself (variable.Temporary (length hs))) → Stands (Kept ∷ hs) (suc q) xs → Stands hs q (x ∷ xs)
    fetches :
        {hs : List Hold} {q : ℕ} {x : Item} {xs : List Item} → (p : Place) → Comes x (λ own st. gives_if st (value_at s own st p)) →
        Is q (fetched (variable.Temporary (length hs)) p) → Stands (Kept ∷ hs) (suc q) xs → Stands hs q (x ∷ xs)
    -- arithmetic and tests
    negates :
        {hs : List Hold} {h : Hold} {q : ℕ} {xs : List Item} → (a : Operand) → read (length hs) h ≡ Some a →
        Is q (op.Compute Difference (variable.Temporary (length hs)) (operand.Number (pos 0)) a) → Stands (Kept ∷ hs) (suc q) xs →
        Stands (h ∷ hs) q (i.Negate ∷ xs)
    computes :
        {hs : List Hold} {h k : Hold} {q : ℕ} {x : Item} {xs : List Item} → (how : Arithmetic) →
        (act : State → State → Value → Value → Step) → Comes x (λ own st. last_two st (act st)) →
        ((st under : State) (u v : Value) → act st under u v ≡ gives_if under (on_numbers (computed how) u v)) →
        (a b : Operand) → read (length hs) h ≡ Some a → read (suc (length hs)) k ≡ Some b →
        Is q (op.Compute how (variable.Temporary (length hs)) a b) → Stands (Kept ∷ hs) (suc q) xs → Stands (k ∷ h ∷ hs) q (x ∷ xs)
    divides_by :
        {hs : List Hold} {h k : Hold} {q at : ℕ} {by : Multiplicative} {xs : List Item} → divides by ≡ true → (a b : Operand) →
        read (length hs) h ≡ Some a → read (suc (length hs)) k ≡ Some b → Is q (op.Branch (test.Divides a b) true 1) →
        Is (suc q) (op.Rest (fail_row cause.ZeroDivisor (line s at))) →
        Is (suc (suc q)) (op.Compute (arithmetic_of by) (variable.Temporary (length hs)) a b) →
        Stands (Kept ∷ hs) (suc (suc (suc q))) xs → Stands (k ∷ h ∷ hs) q (i.Calculate by at ∷ xs)
    decides :
        {hs ks : List Hold} {q : ℕ} {x : Item} {xs : List Item} {asks : Test} {wanted : Bool} → Decides ks x hs asks wanted →
        Is q (op.Decide (variable.Temporary (length hs)) asks wanted) → Stands (Kept ∷ hs) (suc q) xs → Stands ks q (x ∷ xs)
    -- what is done by a truth
    and_then :
        {hs : List Hold} {q : ℕ} {x : Expression} {xs : List Item} → (over : ℕ) →
        Is q (op.Branch (test.Holds (temporary (length hs))) false over) → Stands hs (suc q) (i.Evaluate x ∷ xs) →
        Stands (Kept ∷ hs) (suc (q + over)) xs → Stands (Kept ∷ hs) q (i.AndThen x ∷ xs)
    or_else :
        {hs : List Hold} {q : ℕ} {x : Expression} {xs : List Item} → (over : ℕ) →
        Is q (op.Branch (test.Holds (temporary (length hs))) true over) → Stands hs (suc q) (i.Evaluate x ∷ xs) →
        Stands (Kept ∷ hs) (suc (q + over)) xs → Stands (Kept ∷ hs) q (i.OrElse x ∷ xs)
    branches :
        {hs ks : List Hold} {q : ℕ} {before : List Item} {asks : Test} {wanted : Bool} → (b : Block) → (arms : List Arm) →
        (other : Option Block) → (xs : List Item) → (over : ℕ) → Asks ks before hs asks wanted → Is q (op.Branch asks (not wanted) over) →
        Stands hs (suc q) (block_items b ++ xs) → Stands hs (suc (q + over)) (i.Choose arms other ∷ xs) →
        Stands ks q (before ++ i.Branch b arms other ∷ xs)
    exits :
        {hs ks : List Hold} {q : ℕ} {before : List Item} {asks : Test} {wanted : Bool} → (xs : List Item) → (over : ℕ) →
        Asks ks before hs asks wanted → Is q (op.Branch asks wanted over) → Stands hs (suc (q + over)) (behind_loop xs) →
        Stands hs (suc q) xs → Stands ks q (before ++ i.ExitIf ∷ xs)
    requires :
        {hs ks : List Hold} {q : ℕ} {before : List Item} {asks : Test} {wanted : Bool} → (at : ℕ) → (xs : List Item) →
        Asks ks before hs asks wanted → Is q (op.Branch asks wanted 1) →
        Is (suc q) (op.Rest (fail_row cause.FalseAssertion (line s at))) → Stands hs (suc (suc q)) xs →
        Stands ks q (before ++ i.Require at ∷ xs)
    -- stores
    stores_variable :
        {h : Hold} {q k : ℕ} {xs : List Item} → (a : Operand) → read 0 h ≡ Some a → Is q (op.Copy (variable.Named k) a) →
        Stands [] (suc q) xs → Stands (h ∷ []) q (i.Store (place.Variable k) ∷ xs)
    stores_field :
        {h : Hold} {q k : ℕ} {xs : List Item} → (a : Operand) → read 0 h ≡ Some a → Is q (op.SetField (captured + k) a) →
        Stands [] (suc q) xs → Stands (h ∷ []) q (i.Store (place.Field k) ∷ xs)
    stores_nothing :
        {h : Hold} {q : ℕ} {p : Place} {xs : List Item} → ((own : ℕ) (st : State) (v : Value) → stored s own st p v ≡ st) →
        Stands [] q xs → Stands (h ∷ []) q (i.Store p ∷ xs)
    resets :
        {q k : ℕ} {x : Item} {xs : List Item} → (l : Leaf) → (v : Value) → ((st : State) → leaf_value st l ≡ Some v) →
        Comes x (λ own st. Goes (stored s own st (place.Variable k) v) []) → Is q (op.Copy (variable.Named k) (leaf_operand l)) →
        Stands [] (suc q) xs → Stands [] q (x ∷ xs)
    resets_text :
        {q k index : ℕ} {x : Item} {xs : List Item} → (text : List ℕ) →
        Comes x (λ own st. Goes (stored s own st (place.Variable k) (value.Str text)) []) → slice_get literals index ≡ Some text →
        Is q (op.Literal (variable.Named k) index) → Stands [] (suc q) xs → Stands [] q (x ∷ xs)
    -- loops
    enters :
        {q : ℕ} {b : Block} {xs : List Item} → Is q (op.Rest (bare_row stop.LoopTop)) →
        Stands [] (suc q) (block_items b ++ i.Again b ∷ xs) → Stands [] q (i.Again b ∷ xs)
    again :
        {q : ℕ} {b : Block} {xs : List Item} → (back : ℕ) → Is q (op.Again back) → Loop (q - back) q b → Stands [] (suc q) xs →
        Stands [] q (i.Again b ∷ xs)
    -- stops
    rests :
        {q takes : ℕ} {action : Stop} {xs : List Item} → (hs : List Hold) → (gives : Option StaticType) →
        Is q (op.Rest (rest_row action (length hs) takes gives)) → Stands (one_more gives hs) (suc q) xs →
        Stands (all_kept takes hs) q (i.Rest action takes ∷ xs)
    calls_own :
        {q takes : ℕ} {action : Stop} {xs : List Item} → (hs : List Hold) → (gives : Option StaticType) →
        Is q (op.Rest (own_row action (length hs) (suc takes) gives)) → Stands (one_more gives hs) (suc q) xs →
        Stands (all_kept takes (Own ∷ hs)) q (i.Rest action (suc takes) ∷ xs)
    waits :
        {hs : List Hold} {q : ℕ} {x : Item} {action : Stop} {xs : List Item} → Comes x (λ own st. Rests action [] st []) →
        Is q (op.Rest (bare_row action)) → Stands hs (suc q) xs → Stands hs q (x ∷ xs)
    -- ends
    leaves :
        {hs : List Hold} {q : ℕ} {x : Item} {action : Stop} {xs : List Item} → IsLast action →
        Comes x (λ own st. Rests action [] st []) → Is q (op.Rest (bare_row action)) → Stands hs q (x ∷ xs)
    gives_back :
        {hs : List Hold} {q k : ℕ} {x : Item} {xs : List Item} → Comes x (λ own st. returned st true (slice_get st.variables k)) →
        Is q (op.Rest (return_row k)) → Stands hs q (x ∷ xs)
    is_over : {hs : List Hold} {q : ℕ} {xs : List Item} → Is q (op.Rest (bare_row stop.End)) → Stands hs q (i.Rest stop.End 0 ∷ xs)
