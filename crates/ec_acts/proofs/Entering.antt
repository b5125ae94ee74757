-- Operation 0 has an entry, at which nothing but the own object is held.
use Rattle.std.proofs.Common.{◌≡◌, ℕ, zero, suc, List, [], ◌∷◌, map, Option, Some, refl, ap, ◌∙◌}
use Rattle.std.specs.Prelude.{slice_get}
use Rattle.std.proofs.lemmas.Option.{same_Some}
use Rattle.ec_activations.proofs.Frames.{all_two_at}
use Rattle.ec_code.specs.Typing.{Declared}
use Rattle.ec_code.specs.declared.code.Line.{Line}
use Rattle.ec_code.specs.declared.code.Live.{Live}
use Rattle.ec_code.specs.declared.code.Parts.{Parts}
use Rattle.ec_code.specs.declared.code.StopRow.{StopRow}
use Rattle.ec_code.specs.declared.code.Variable.{Variable}
use Rattle.ec_code.specs.declared.code.Variable.TheVariants.{Named, Temporary}
use Rattle.ec_machine_code.specs.Frames.{slots}
use Rattle.ec_machine_code.specs.Stops.{stop_of}
use Rattle.ec_machine_code.specs.declared.homes.Home.{Home}
use Rattle.ec_acts.proofs.MakingLemmas.{fit_none}
use Rattle.ec_node_frames.specs.Beginning.{HasEntry, first_held, first_value, first_values}
use Rattle.ec_node_frames.specs.Frames.{HasTables}
use Rattle.ec_objects.specs.Values.{TextsFit}
use Rattle.ec_generate.specs.Entries.{entries_from, entries_of, entry_of, with_entry}
use Rattle.ec_generate.specs.Tables.{IsTableOf}
use Rattle.ec_generate.specs.declared.table.OperationTable.{OperationTable}
use Rattle.ec_generate.specs.declared.table.StopEntry.{StopEntry}
use Rattle.ec_things.specs.Store.{Store}
use Rattle.ec_world.specs.Group.{Has}
use Rattle.ec_world.specs.declared.node.Kind.{Kind}
use Rattle.ec_world.specs.declared.value.Value.TheVariants.{Str}

-- the first stop of code that begins with one
first_stop : (code : List Line) (line : Line) (row : StopRow) → slice_get code 0 ≡ Some line → stop_of line.op ≡ Some row →
    slice_get (entries_of code) 0 ≡ Some (entry_of code 0 line row)
first_stop code line row e rests = by code e
  where
    by : (rest : List Line) → slice_get rest 0 ≡ Some line →
        slice_get (entries_from code 0 rest) 0 ≡ Some (entry_of code 0 line row)
    by [] f = absurd cc
    by (l ∷ ls) f =
        let is : l ≡ line = same_Some l line f in
        ap (λ (x : Line). slice_get (with_entry code 0 x (stop_of x.op) (entries_from code 1 ls)) 0) is
        ∙ ap (λ (r : Option StopRow). slice_get (with_entry code 0 line r (entries_from code 1 ls)) 0) rests

module _ (d : Declared) (p : Parts) (kind : Kind) (homes : Kind → List (List Home)) (tables : List OperationTable)
    (has : HasTables d p kind homes tables) where
  pub entry_there : (table : OperationTable) × (slice_get tables 0 ≡ Some table) × HasEntry table
  entry_there =
      let begins = has.fine.begins in
      let t = all_two_at (IsTableOf has.registers slots) p.operations tables 0 begins.operation has.are begins.is in
      let entry = (has.fine.operations 0 begins.operation begins.is).entry in (
        t.0,
        t.1,
        record {
          entry = entry_of begins.operation.code 0 entry.line entry.row;
          is = ap (λ (es : List StopEntry). slice_get es 0) t.2.stops
              ∙ first_stop begins.operation.code entry.line entry.row entry.is (ap stop_of entry.rests);
          first = refl;
        },
      )

-- ---- what it holds

nil_there : (x : Variable) (text : List ℕ) → first_value [] x ≡ Str text → ⊥
nil_there (Named n) text e = absurd cc
nil_there (Temporary n) text e = absurd cc

no_text_held : (held : List Live) (i : ℕ) (text : List ℕ) →
    slice_get (map (λ (l : Live). first_value [] l.variable) held) i ≡ Some (Str text) → ⊥
no_text_held [] i text e = absurd cc
no_text_held (l ∷ ls) zero text e = nil_there l.variable text (same_Some (first_value [] l.variable) (Str text) e)
no_text_held (l ∷ ls) (suc i) text e = no_text_held ls i text e

pub no_first_text : (table : OperationTable) (own : ℕ) (text : List ℕ) → Has (first_values table own []) (Str text) → ⊥
no_first_text table own text h = by h.at h.is
  where
    by : (i : ℕ) → slice_get (first_values table own []) i ≡ Some (Str text) → ⊥
    by zero e = absurd cc
    by (suc i) e = no_text_held (first_held table) i text e

pub first_values_fit : (s : Store) (table : OperationTable) (own : ℕ) → TextsFit s (first_values table own [])
first_values_fit s table own = fit_none s (first_values table own []) (no_first_text table own)
