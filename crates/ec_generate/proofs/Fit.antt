-- The homes of a program's stop table fit its operations.
use Rattle.std.proofs.Common.{◌≡◌, ℕ, zero, suc, ◌⊎◌, inl, inr, ⊎_elim, List, [], ◌∷◌, length, Option, Some, None, option_map, refl}
use Rattle.std.proofs.Common.{sym, ap, ◌≤◌, arith}
use Rattle.std.proofs.Common.{◌∙◌, subst}
use Rattle.std.specs.Prelude.{slice_get}
use Rattle.std.proofs.lemmas.Option.{same_Some, slice_get-map}
use Rattle.ec_code.specs.Fine.{Has, IsIn, live_at, live_if}
use Rattle.ec_code.specs.declared.code.Line.{Line}
use Rattle.ec_code.specs.declared.code.Operation.{Operation}
use Rattle.ec_code.specs.declared.code.Parts.{Parts}
use Rattle.ec_code.specs.declared.code.Variable.{Variable}
use Rattle.ec_machine_code.specs.Limits.{HasColumn, HasLimits, IsSmallOperation}
use Rattle.ec_types.specs.declared.conform.static_type.StaticType.{StaticType}
use Rattle.ec_machine_code.specs.Frames.{slots}
use Rattle.ec_machine_code.specs.Stops.{row_or_empty}
use Rattle.ec_machine_code.specs.Homes.{IsVariable, IsWithin, column}
use Rattle.ec_machine_code.specs.declared.homes.Home.{Home}
use Rattle.ec_machine_code.specs.declared.homes.Home.TheVariants.{Register, Slot}
use Rattle.ec_code.specs.Live.{reads, writes}
use Rattle.ec_machine_code.specs.Fitting.{HomesFit, IsNamedBy}
use Rattle.ec_machine_code.specs.Layout.{home_of, home_or}
use Rattle.ec_generate.proofs.Homed.{has_home, has_in, homes_apart}
use Rattle.ec_generate.proofs.Listing.{all_at}
use Rattle.ec_generate.specs.Tables.{AreTablesOf, AreTablesWithin, IsTableOf, all_homes}
use Rattle.ec_generate.specs.declared.table.OperationTable.{OperationTable}
use Rattle.ec_world.specs.Agree.{AllTwo}

-- the homes of an operation's table
pub row_at : (ts : List OperationTable) (n : ℕ) (t : OperationTable) → slice_get ts n ≡ Some t → slice_get (all_homes ts) n ≡ Some t.homes
row_at ts n t e = slice_get-map (λ (t : OperationTable). t.homes) ts n ∙ ap (option_map (λ (t : OperationTable). t.homes)) e

two_at : {A B : Type 0} (R : A → B → Type 0) (xs : List A) (ys : List B) (n : ℕ) (x : A) → AllTwo R xs ys → slice_get xs n ≡ Some x →
    (y : B) × (slice_get ys n ≡ Some y) × R x y
two_at R [] ys n x all e = absurd cc
two_at R (a ∷ xs) [] n x all e = absurd all
two_at R (a ∷ xs) (b ∷ ys) zero x all e = (b, refl, subst (λ z. R z b) (same_Some a x e) all.0)
two_at R (a ∷ xs) (b ∷ ys) (suc n) x all e = two_at R xs ys n x all.1 e

module _ (registers : ℕ) (p : Parts) (ts : List OperationTable) (limits : HasLimits p) (tables : AreTablesOf registers slots p ts)
    (n : ℕ) (o : Operation) (there : slice_get p.operations n ≡ Some o) where
  table : (t : OperationTable) × (slice_get ts n ≡ Some t) × IsTableOf registers slots o t
  table = two_at (IsTableOf registers slots) p.operations ts n o tables there

  abbrev named : ℕ
  named = length o.variables

  small : IsSmallOperation o
  small = all_at IsSmallOperation p.operations n o limits.operations there

  columns : (q : ℕ) (line : Line) (x : Variable) → slice_get o.code q ≡ Some line → IsNamedBy line x → HasColumn named x
  columns q line x e named_by =
      let c = small.lines q line e in
      ⊎_elim
      (λ (r : IsIn x (reads line.op)). c.read x r)
      (λ (rest : (writes line.op ≡ Some x) ⊎ ((t : StaticType) × Has line.live x t)). ⊎_elim
      (λ (w : writes line.op ≡ Some x). c.written x w)
      (λ (l : (t : StaticType) × Has line.live x t). c.live x (has_in line.live x l.0 l.1))
      rest)
      named_by

  -- the row of the operation's homes
  row : List Home
  row = table.0.homes

  row_is : slice_get (all_homes ts) n ≡ Some table.0.homes
  row_is = row_at ts n table.0 table.1

  in_row : (x : Variable) → slice_get (row_or_empty (slice_get (all_homes ts) n)) (column named x) ≡ slice_get table.0.homes
      (column named x)
  in_row x = ap (λ r. slice_get (row_or_empty r) (column named x)) row_is

  home : (x : Variable) → HasColumn named x →
      (h : Home) × (slice_get table.0.homes (column named x) ≡ Some h) × IsWithin registers slots h
  home x c =
      let t = table.2 in
      let same = t.named in
      let found = has_home table.0.named registers o.code table.0.homes t.homes x (subst (λ k. HasColumn k x) (sym same) c) in
      (found.0, ap (λ k. slice_get table.0.homes (column k x)) (sym same) ∙ found.1, found.2)

  -- what is live behind a place is live before a line, or nothing is
  live_line : (q : ℕ) (x : Variable) (t : StaticType) → Has (live_at o.code q) x t →
      (line : Line) × (slice_get o.code q ≡ Some line) × Has line.live x t
  live_line q x t h = by (slice_get o.code q) refl h
    where
      by : (l : Option Line) → slice_get o.code q ≡ l → Has (live_if l) x t →
          (line : Line) × (slice_get o.code q ≡ Some line) × Has line.live x t
      by None e h = absurd h
      by (Some line) e h = (line, e, h)

  pub tables_fit : HomesFit registers (all_homes ts) n o
  tables_fit = record {
    each = λ q line x e named_by.
        let h = home x (columns q line x e named_by) in
        (h.0, in_row x ∙ h.1, h.2);
    apart = λ q line to x t e w live ne.
        let behind = live_line (suc q) x t live in
        let cx = columns (suc q) behind.0 x behind.1 (inr (inr (t, behind.2))) in
        let ct = columns q line to e (inr (inl w)) in
        let hx = home x cx in
        let ht = home to ct in
        let k = table.2 in
        let same = k.named in
        let at : (y : Variable) (h : Home) → slice_get table.0.homes (column named y) ≡ Some h →
        slice_get table.0.homes (column table.0.named y) ≡ Some h = λ y h f. ap (λ j. slice_get table.0.homes (column j y)) same ∙ f in
        let apart = homes_apart table.0.named registers o.code table.0.homes k.homes q line to x t hx.0 ht.0 e w live ne
        (subst (λ j. IsVariable j x) (sym same) cx.is_variable) (subst (λ j. IsVariable j to) (sym same) ct.is_variable)
        (at x hx.0 hx.1) (at to ht.0 ht.1) in
        let ox : home_of (all_homes ts) n o x ≡ hx.0 = ap home_or (in_row x ∙ hx.1) in
        let ot : home_of (all_homes ts) n o to ≡ ht.0 = ap home_or (in_row to ∙ ht.1) in
        λ equal. apart (sym ox ∙ equal ∙ ot);
  }

-- ---- tables for fewer registers

within_more : (few most count : ℕ) (h : Home) → few ≤ most → IsWithin few count h → IsWithin most count h
within_more few most count (Register k) le w = omega arith
within_more few most count (Slot n) le w = w

homes_fit_more : (few most : ℕ) (homes : List (List Home)) (n : ℕ) (o : Operation) → few ≤ most → HomesFit few homes n o →
    HomesFit most homes n o
homes_fit_more few most homes n o le fit = record {
  each = λ q line x e named_by. let h = fit.each q line x e named_by in (h.0, h.1, within_more few most slots h.0 le h.2);
  apart = fit.apart;
}

pub tables_fit_within : (most : ℕ) (p : Parts) (ts : List OperationTable) (limits : HasLimits p) (tables : AreTablesWithin most p ts)
    (n : ℕ) (o : Operation) (there : slice_get p.operations n ≡ Some o) → HomesFit most (all_homes ts) n o
tables_fit_within most p ts limits tables n o there =
    homes_fit_more tables.registers most (all_homes ts) n o tables.few (tables_fit tables.registers p ts limits tables.are n o there)
