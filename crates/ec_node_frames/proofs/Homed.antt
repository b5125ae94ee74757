-- The words of variables by the table of their operation.
use Rattle.std.proofs.Common.{◌≡◌, ℕ, zero, suc, ◌<◌, ◌≤◌, List, [], ◌∷◌, length, Option, Some, None, refl, sym, ap, ◌∙◌, subst, arith}
use Rattle.std.specs.Option.{option_map}
use Rattle.std.specs.Prelude.{slice_get}
use Rattle.std.proofs.lemmas.Option.{same_Some}
use Rattle.ec_activations.specs.Frames.{variable_word}
use Rattle.ec_activations.specs.Laws.{AreHomesOf}
use Rattle.ec_code.specs.Activations.{operation_at, variables_if}
use Rattle.ec_code.specs.Typing.{Declared}
use Rattle.ec_code.specs.declared.code.Operation.{Operation}
use Rattle.ec_code.specs.declared.code.Parts.{Parts}
use Rattle.ec_code.specs.declared.code.Variable.{Variable}
use Rattle.ec_machine_code.specs.Limits.{HasColumn}
use Rattle.ec_machine_code.specs.Frames.{home_word, slots}
use Rattle.ec_machine_code.specs.Stops.{row_or_empty}
use Rattle.ec_machine_code.specs.Homes.{IsWithin, column}
use Rattle.ec_machine_code.specs.declared.homes.Home.{Home}
use Rattle.ec_machine_code.specs.declared.homes.Home.TheVariants.{Register, Slot}
use Rattle.ec_node_frames.specs.Frames.{HasTables}
use Rattle.ec_generate.proofs.Homed.{has_home}
use Rattle.ec_generate.specs.Tables.{IsTableOf, all_homes, home_in, or_first}
use Rattle.ec_generate.specs.declared.table.OperationTable.{OperationTable}
use Rattle.ec_world.specs.Agree.{AllTwo}
use Rattle.ec_world.specs.declared.node.Kind.{Kind}

-- homes by tables are homes
pub homes_of : (d : Declared) (p : Parts) (kind : Kind) (homes : Kind → List (List Home)) (tables : List OperationTable) →
    HasTables d p kind homes tables → AreHomesOf d p kind homes
homes_of d p kind homes tables has = record {
  fine = has.fine;
  limits = has.limits;
  registers = has.registers;
  few = has.few;
  tables = tables;
  are = has.are;
  homes_are = has.homes_are;
}

two_at : {A B : Type 0} (R : A → B → Type 0) (xs : List A) (ys : List B) (i : ℕ) (y : B) → AllTwo R xs ys → slice_get ys i ≡ Some y →
    (x : A) × (slice_get xs i ≡ Some x) × R x y
two_at R [] [] i y all e = absurd cc
two_at R [] (z ∷ ys) i y all e = absurd all
two_at R (x ∷ xs) [] i y all e = absurd all
two_at R (x ∷ xs) (z ∷ ys) zero y all e = (x, refl, subst (λ w. R x w) (same_Some z y e) all.0)
two_at R (x ∷ xs) (z ∷ ys) (suc i) y all e = two_at R xs ys i y all.1 e

homes_at : (ts : List OperationTable) (i : ℕ) (t : OperationTable) → slice_get ts i ≡ Some t → slice_get (all_homes ts) i ≡ Some t.homes
homes_at [] i t e = absurd cc
homes_at (u ∷ ts) zero t e = ap (λ (x : OperationTable). Some x.homes) (same_Some u t e)
homes_at (u ∷ ts) (suc i) t e = homes_at ts i t e

-- a home's word is one of a frame's, and behind its headings
word_of_home : (registers : ℕ) (h : Home) → registers ≤ 20 → IsWithin registers slots h → home_word h < 128
word_of_home registers (Register k) few w = omega (arith, few, w)
word_of_home registers (Slot n) few w = omega (arith, w)

pub behind_eight : (h : Home) → 8 ≤ home_word h
behind_eight (Register k) = omega arith
behind_eight (Slot n) = omega arith

from_eight : (h : Option Home) (at : ℕ) → option_map home_word h ≡ Some at → 8 ≤ at
from_eight None at e = absurd cc
from_eight (Some h) at e =
    let is : home_word h ≡ at = same_Some (home_word h) at e in
    let low = behind_eight h in
    omega (arith, is, low)

-- the word of any variable that has one is behind the headings
pub word_from_eight : (homes : List (List Home)) (p : Parts) (operation at : ℕ) (x : Variable) →
    variable_word homes p operation x ≡ Some at → 8 ≤ at
word_from_eight homes p operation at x e =
    from_eight (slice_get (row_or_empty (slice_get homes operation)) (column (length (variables_if (operation_at p operation))) x)) at e

-- the word of a variable, by the table
pub record IsSpot (table : OperationTable) (x : Variable) (at : ℕ) : Type 0 where
  pub is : home_word (home_in table x) ≡ at
  pub low : at < 128

module _ (d : Declared) (p : Parts) (kind : Kind) (homes : Kind → List (List Home)) (tables : List OperationTable)
    (has : HasTables d p kind homes tables) (operation : ℕ) (table : OperationTable) (its : slice_get tables operation ≡ Some table) where
  -- the operation of which this is the table
  pub its_operation : (o : Operation) × (operation_at p operation ≡ Some o) × IsTableOf has.registers slots o table
  its_operation = two_at (IsTableOf has.registers slots) p.operations tables operation table has.are its

  row_is : row_or_empty (slice_get (homes kind) operation) ≡ table.homes
  row_is = ap row_or_empty (ap (λ (hs : List (List Home)). slice_get hs operation) has.homes_are ∙ homes_at tables operation table its)

  named_is : length (variables_if (operation_at p operation)) ≡ table.named
  named_is = ap (λ x. length (variables_if x)) its_operation.1 ∙ sym its_operation.2.named

  word_by_table : (x : Variable) →
      variable_word (homes kind) p operation x ≡ option_map home_word (slice_get table.homes (column table.named x))
  word_by_table x =
      ap (λ (r : List Home). option_map home_word (slice_get r (column (length (variables_if (operation_at p operation))) x))) row_is
      ∙ ap (λ n. option_map home_word (slice_get table.homes (column n x))) named_is

  from_home : (x : Variable) (at : ℕ) (h : Option Home) → slice_get table.homes (column table.named x) ≡ h →
      option_map home_word h ≡ Some at → IsSpot table x at
  from_home x at None e f = absurd cc
  from_home x at (Some h) e f =
      let is : home_word h ≡ at = same_Some (home_word h) at f in
      let within = its_operation.2.homes.within (column table.named x) h e in
      let low = word_of_home has.registers h has.few within in
      record { is = ap (λ y. home_word (or_first y)) e ∙ is; low = subst (λ n. n < 128) is low }

  -- where a variable has a word, this is what the table says
  pub spot_is : (x : Variable) (at : ℕ) → variable_word (homes kind) p operation x ≡ Some at → IsSpot table x at
  spot_is x at e = from_home x at (slice_get table.homes (column table.named x)) refl (sym (word_by_table x) ∙ e)

  -- a variable with a column has a word
  pub has_spot : (x : Variable) → HasColumn (length its_operation.0.variables) x →
      variable_word (homes kind) p operation x ≡ Some (home_word (home_in table x))
  has_spot x c =
      let t = its_operation.2 in
      let g = has_home table.named has.registers its_operation.0.code table.homes t.homes x (subst (λ n. HasColumn n x) (sym t.named) c) in
      word_by_table x ∙ ap (option_map home_word) g.1 ∙ ap (λ y. Some (home_word (or_first y))) (sym g.1)
