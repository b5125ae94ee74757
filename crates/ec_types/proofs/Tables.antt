-- Declarations have one table, and how it comes about.
use Rattle.std.proofs.Common.{◌≡◌, ◌↔◌, ℕ, ◌+◌, ◌*◌, ◌/◌, ◌%◌, ◌<◌, ◌≤◌, Bool, true, false, ◌&&◌, List, length, map, get_or}
use Rattle.std.proofs.Common.{refl, sym, ◌∙◌, ap, subst, arith}
use Rattle.std.specs.Prelude.{nat_lt}
use Rattle.std.proofs.lemmas.Bool.{lt-ltb}
use Rattle.std.proofs.lemmas.Grind.{common_steps}
use Rattle.std.proofs.lemmas.List.{ext_get_or}
use Rattle.ec_types.specs.Conforms.{Conforms}
use Rattle.ec_types.specs.Pairs.{compared, in_rows, in_table, rows, IsLargest}
use Rattle.ec_types.specs.Table.{Table, IsTable, conforms}
use Rattle.ec_types.specs.Types.{firsts_of, named, names_of, places_of, type_with}
use Rattle.ec_types.specs.declared.conform.declared.Declarations.{Declarations}
use Rattle.ec_types.specs.declared.conform.named_type.NamedType.{NamedType}
use Rattle.ec_types.proofs.Striking.{answers}
use Rattle.ec_types.specs.Names.{Text}

-- two answers that are yes to the same question are one
same_answer : {P : Type 0} (p q : Bool) → ((p ≡ true) ↔ P) → ((q ≡ true) ↔ P) → p ≡ q
same_answer true true f g = refl
same_answer true false f g = sym (g.1 (f.0 refl))
same_answer false true f g = f.1 (g.0 refl)
same_answer false false f g = refl

within : (m i : ℕ) → i < m * m → (i / m < m) × (i % m < m) × ((i / m) * m + i % m ≡ i)
within m i h = grind (arith, common_steps)

at_pair : (n : ℕ) (pairs : List Bool) (i : ℕ) → i < compared n * compared n
    → in_table n pairs (i / compared n) (i % compared n) ≡ get_or pairs i false
at_pair n pairs i h = by (compared n) (omega arith) h
  where
    by : (m : ℕ) → m ≤ n → i < m * m → nat_lt (i / m) n && (nat_lt (i % m) n && in_rows m pairs (i / m) (i % m)) ≡ get_or pairs i false
    by m few h =
        let w = within m i h in
        let row : i / m < m = w.0 in
        let column : i % m < m = w.1 in
        rw (lt-ltb (i / m) n (omega arith), lt-ltb (i % m) n (omega arith), lt-ltb (i / m) m row, lt-ltb (i % m) m column, w.2) refl

same_pairs : {declared : Declarations} (a b : Table) → IsTable declared a → IsTable declared b → a.types ≡ b.types → a.pairs ≡ b.pairs
same_pairs a b p q types =
    ext_get_or false a.pairs b.pairs (p.full ∙ ap (λ ts. rows ts * rows ts) types ∙ sym q.full)
    (λ i h.
    let n = length a.types in
    let s = named (i / compared n) in
    let t = named (i % compared n) in
    let h' : i < compared n * compared n = subst (λ l. i < l) p.full h in
    let other = subst (λ ts. (conforms b s t ≡ true) ↔ Conforms ts s t) (sym types) (q.conforms s t) in
    let answer = same_answer (conforms a s t) (conforms b s t) (p.conforms s t) other in
    let same_count = ap (λ m. in_table m b.pairs (i / compared n) (i % compared n)) (ap length (sym types)) in
    sym (at_pair n a.pairs i h') ∙ answer ∙ same_count ∙ at_pair n b.pairs i h')

abbrev pub made : List Text → List ℕ → List NamedType → List Bool → List ℕ → Table
made names places types pairs operations =
    record { names = names; places = places; types = types; pairs = pairs; operations = operations }

pub same_table : {declared : Declarations} (a b : Table) → IsTable declared a → IsTable declared b → a ≡ b
same_table a b p q =
    let names = p.names ∙ sym q.names in
    let places = p.places ∙ sym q.places in
    let types = p.types ∙ sym q.types in
    let pairs = same_pairs a b p q types in
    let operations = p.operations ∙ sym q.operations in
    let same : made a.names a.places a.types a.pairs a.operations ≡ made b.names b.places b.types b.pairs b.operations = cc in
    same

-- how a table comes about
pub built : (declared : Declarations) (table : Table) → table.names ≡ names_of declared.types → table.places ≡ places_of declared.types
    → table.types ≡ map (type_with table.names) declared.types → table.operations ≡ firsts_of declared.operations
    → IsLargest table.types table.pairs → IsTable declared table
built declared table names places types operations largest = record {
  names = names;
  places = places;
  types = types ∙ ap (λ ns. map (type_with ns) declared.types) names;
  operations = operations;
  full = largest.full;
  conforms = answers table.types table.pairs largest;
}
