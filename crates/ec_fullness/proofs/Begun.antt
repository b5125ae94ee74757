-- What a new activation holds.
use Rattle.std.proofs.Common.{◌≡◌, ℕ, ◌-◌, ◌==◌, true, eq-eqb, List, [], ◌∷◌, length, map, Option, Some, None, refl, sym, ap, ◌∙◌}
use Rattle.std.specs.Prelude.{if◌then◌else◌, slice_get}
use Rattle.std.proofs.lemmas.Option.{same_Some}
use Rattle.ec_activations.specs.Frames.{Held, Numbered, at_place, entries_if, held_if, held_in, held_of, stop_of, value_in}
use Rattle.ec_code.specs.Activations.{begun, operation_at, variables_if}
use Rattle.ec_code.specs.Fine.{FineEntry}
use Rattle.ec_code.specs.Typing.{Declared}
use Rattle.ec_code.specs.declared.activation.CodeActivation.{CodeActivation}
use Rattle.ec_code.specs.declared.code.Line.{Line}
use Rattle.ec_code.specs.declared.code.Live.{Live}
use Rattle.ec_code.specs.declared.code.Operation.{Operation}
use Rattle.ec_code.specs.declared.code.Parts.{Parts}
use Rattle.ec_code.specs.declared.code.StopRow.{StopRow}
use Rattle.ec_code.specs.declared.code.Variable.{Variable}
use Rattle.ec_code.specs.declared.code.Variable.TheVariants.{Named, Temporary}
use Rattle.ec_machine_code.specs.Stops as stops
use Rattle.ec_fullness.proofs.Values.{HoldsText, Holds, held_text, has_either, in_held, values_of}
use Rattle.ec_node_frames.proofs.Items.{filled_up, map_both}
use Rattle.ec_node_frames.specs.Beginning.{HasEntry, first_held, first_held_in, first_value, first_values}
use Rattle.ec_generate.specs.Entries.{entries_from, entries_of, entry_of, with_entry}
use Rattle.ec_generate.specs.declared.table.OperationTable.{OperationTable}
use Rattle.ec_generate.specs.declared.table.StopEntry.{StopEntry}
use Rattle.ec_world.specs.Group.{Has}
use Rattle.ec_world.specs.declared.value.Value.{Value}
use Rattle.ec_world.specs.declared.value.Value.TheVariants.{Ref, Str}
use Rattle.std.proofs.Common.{⊎_elim}

-- ---- the entry

first_entry : (code lines : List Line) (line : Line) (row : StopRow) → slice_get lines 0 ≡ Some line → stops.stop_of line.op ≡ Some row →
    slice_get (entries_from code 0 lines) 0 ≡ Some (entry_of code 0 line row)
first_entry code [] line row e r = absurd cc
first_entry code (l ∷ rest) line row e r =
    let same : l ≡ line = same_Some l line e in
    ap (λ (x : Line). slice_get (with_entry code 0 x (stops.stop_of x.op) (entries_from code 1 rest)) 0) same
    ∙ ap (λ x. slice_get (with_entry code 0 line x (entries_from code 1 rest)) 0) r

-- the table of an operation that begins with its entry has it
pub table_begins : (d : Declared) (p : Parts) (o : Operation) (table : OperationTable) → table.stops ≡ entries_of o.code →
    FineEntry d p o → HasEntry table
table_begins d p o table is entry = record {
  entry = entry_of o.code 0 entry.line entry.row;
  is = ap (λ (es : List StopEntry). slice_get es 0) is
      ∙ first_entry o.code o.code entry.line entry.row entry.is (ap stops.stop_of entry.rests);
  first = refl;
}

-- ---- its values

abbrev numbered : ℕ → StopEntry → Numbered
numbered n e = record { number = n; entry = e }

first_stop : (es : List StopEntry) (e : StopEntry) → slice_get es 0 ≡ Some e → e.place ≡ 0 → at_place 0 0 es ≡ Some (numbered 0 e)
first_stop [] e is first = absurd cc
first_stop (f ∷ fs) e is first =
    let same : f ≡ e = same_Some f e is in
    let here : (f.place == 0) ≡ true = eq-eqb f.place 0 (ap (λ (x : StopEntry). x.place) same ∙ first) in
    ap (λ b. if b then Some (numbered 0 f) else at_place 0 1 fs) here ∙ ap (λ (x : StopEntry). Some (numbered 0 x)) same

map_twice : {A B C : Type 0} (f : A → B) (g : B → C) (h : A → C) (xs : List A) → ((x : A) → g (f x) ≡ h x) → map g (map f xs) ≡ map h xs
map_twice f g h [] each = refl
map_twice {C = C} f g h (x ∷ xs) each =
    ap (λ (y : C). y ∷ map g (map f xs)) (each x) ∙ ap (λ (ys : List C). h x ∷ ys) (map_twice f g h xs each)

module _ (p : Parts) (operation own : ℕ) (arguments : List Value) where
  abbrev new : CodeActivation
  new = begun operation own arguments

  value_first : (x : Variable) → value_in p new x ≡ first_value arguments x
  value_first (Named n) = filled_up arguments (length (variables_if (operation_at p operation)) - length arguments) n
  value_first (Temporary c) = refl

  module _ (o : Operation) (is : operation_at p operation ≡ Some o) (table : OperationTable) (same : table.stops ≡ entries_of o.code)
      (entry : HasEntry table) where
    at_entry : stop_of p new ≡ Some (numbered 0 entry.entry)
    at_entry =
        ap (λ x. at_place 0 0 (entries_if x)) is ∙ ap (at_place 0 0) (sym same) ∙ first_stop table.stops entry.entry entry.is entry.first

    held_first : held_of p new ≡ held_in p new (first_held table)
    held_first =
        ap (held_if p new) at_entry
        ∙ map_both (λ (l : Live). record { variable = l.variable; value = value_in p new l.variable }) entry.entry.operands
        entry.entry.live
        ∙ ap (held_in p new) (sym (ap first_held_in entry.is))

    -- it holds the values of its entry
    pub values_first : values_of p (begun operation own arguments) ≡ first_values table own arguments
    values_first =
        ap (λ (hs : List Held). Ref own ∷ map (λ (h : Held). h.value) hs) held_first
        ∙ ap (λ (vs : List Value). Ref own ∷ vs)
        (map_twice (λ (l : Live). record { variable = l.variable; value = value_in p new l.variable }) (λ (h : Held). h.value)
        (λ (l : Live). first_value arguments l.variable) (first_held table) (λ l. value_first l.variable))

-- ---- without arguments

module _ (p : Parts) (operation own : ℕ) where
  no_value : (x : Variable) (text : List ℕ) → first_value [] x ≡ Str text → ⊥
  no_value (Named n) text e = absurd cc
  no_value (Temporary k) text e = absurd cc

  none_held : (ls : List Live) (text : List ℕ) → Holds p (begun operation own []) ls text → ⊥
  none_held ls text h = no_value h.live.variable text (sym (value_first p operation own [] h.live.variable) ∙ h.is)

  -- it holds no text
  pub no_text_begun : (text : List ℕ) → Has (values_of p (begun operation own [])) (Str text) → ⊥
  no_text_begun text h = by (stop_of p (begun operation own [])) (held_text p (begun operation own []) text h)
    where
      by : (s : Option Numbered) → HoldsText (held_if p (begun operation own []) s) text → ⊥
      by None x = let e = x.there in absurd cc
      by (Some s) x = ⊎_elim
          (λ (f : Has (held_in p (begun operation own []) s.entry.operands) x.held).
          none_held s.entry.operands text (in_held p (begun operation own []) s.entry.operands text f.at x.held f.is x.is))
          (λ (b : Has (held_in p (begun operation own []) s.entry.live) x.held).
          none_held s.entry.live text (in_held p (begun operation own []) s.entry.live text b.at x.held b.is x.is))
          (has_either (held_in p (begun operation own []) s.entry.operands) (held_in p (begun operation own []) s.entry.live) x.at x.held
          x.there)
