-- An activation that goes has its table and its stop at each node, and its values are read there.
use Rattle.std.proofs.Common.{◌≡◌, ℕ, Bool, List, Option, Some, None, refl, sym, ap, ◌∙◌, subst}
use Rattle.std.specs.Prelude.{slice_get}
use Rattle.ec_activations.proofs.Frames.{all_two_at}
use Rattle.ec_activations.specs.Frames.{at_place, entries_if, value_in}
use Rattle.ec_node_frames.proofs.Carrying.{many_carried}
use Rattle.ec_node_frames.proofs.Stops.{stop_in_table}
use Rattle.ec_node_frames.specs.Carried.{CarriedHere, IsCarried, carried}
use Rattle.ec_code.specs.Activations.{operation_at}
use Rattle.ec_code.specs.Typing.{Declared, kind_of}
use Rattle.ec_code.specs.declared.activation.CodeActivation.{CodeActivation}
use Rattle.ec_code.specs.declared.code.Live.{Live}
use Rattle.ec_code.specs.declared.code.Operation.{Operation}
use Rattle.ec_code.specs.declared.code.Parts.{Parts}
use Rattle.ec_machine_code.specs.Frames.{slots}
use Rattle.ec_machine_code.specs.declared.homes.Home.{Home}
use Rattle.ec_parcels.specs.Activations.{HasStop, Leaves, activation_part_of, headings_in}
use Rattle.ec_node_frames.specs.Frames.{AreHeadings, HasTables}
use Rattle.ec_node_frames.specs.declared.frames.Headings.{Headings}
use Rattle.ec_objects.specs.Kinds.{IsOfKind}
use Rattle.ec_generate.specs.Tables.{IsTableOf}
use Rattle.ec_generate.specs.declared.table.OperationTable.{OperationTable}
use Rattle.ec_generate.specs.declared.table.StopEntry.{StopEntry}
use Rattle.ec_things.specs.Store.{Store}
use Rattle.ec_world.specs.declared.node.Kind.{Kind}

-- ---- the table and the stop

module _ (d : Declared) (p : Parts) (kind : Kind) (homes : Kind → List (List Home)) (tables : List OperationTable)
    (has : HasTables d p kind homes tables) (a : CodeActivation) (e : StopEntry) (goes : IsCarried p a e) where
  -- what rests at a stop is of an operation
  operation_there : (o : Operation) × (operation_at p a.operation ≡ Some o)
  operation_there = by (operation_at p a.operation) refl
    where
      by : (o : Option Operation) → operation_at p a.operation ≡ o → (x : Operation) × (o ≡ Some x)
      by None is = absurd (let none = ap (λ (o : Option Operation). at_place a.at 0 (entries_if o)) (sym is) ∙ goes.rests.is in cc)
      by (Some o) is = (o, refl)

  -- its operation has a table
  pub table_there : (t : OperationTable) × (slice_get tables a.operation ≡ Some t)
  table_there =
      let o = operation_there in
      let r = all_two_at (IsTableOf has.registers slots) p.operations tables a.operation o.0 has.are o.1 in
      (r.0, r.1)

  -- in which its stop stands
  pub stop_there : (h : Headings) (t : OperationTable) → AreHeadings p a h → slice_get tables h.operation ≡ Some t →
      slice_get t.stops h.stop ≡ Some e
  stop_there h t heads its = stop_in_table d p kind homes tables t a e h has its goes.rests heads

-- the headings that a part tells are those of its activation
pub part_heads : (process depth : ℕ) (p : Parts) (a : CodeActivation) (e : StopEntry) →
    AreHeadings p a (headings_in (activation_part_of process depth p a e))
part_heads process depth p a e = record { operation = refl; stop = refl; pending = refl; own = refl }

-- a part has its stop by the tables of each kind
pub part_has_its_stop : (d : Declared) (p : Parts) (kind : Kind) (homes : Kind → List (List Home)) (tables : List OperationTable)
    (a : CodeActivation) (e : StopEntry) (process depth : ℕ) → HasTables d p kind homes tables → IsCarried p a e →
    HasStop tables (activation_part_of process depth p a e)
part_has_its_stop d p kind homes tables a e process depth has goes =
    let t = table_there d p kind homes tables has a e goes in
    let part = activation_part_of process depth p a e in
    record {
      table = t.0;
      entry = e;
      is = record {
        its = t.1;
        stop = stop_there d p kind homes tables has a e goes (headings_in part) t.0 (part_heads process depth p a e) t.1;
      };
      many = many_carried p a e a.pending;
    }

-- ---- what is carried

module _ (s : Store) (tables : List OperationTable) (process depth : ℕ) (d : Declared) (p : Parts) (homes : Kind → List (List Home))
    (a : CodeActivation) (e : StopEntry) (leaves : Leaves s tables process depth d p homes a e) (h : Headings)
    (heads : AreHeadings p a h) (table : OperationTable) (its : slice_get tables h.operation ≡ Some table) where
  pub carried_from : CarriedHere s table e process depth h.pending d p homes tables a
  carried_from = record {
    here = record {
      shown = leaves.shown;
      rests = leaves.goes.rests;
      has = leaves.has;
      its = ap (slice_get tables) (sym heads.operation) ∙ its;
    };
    goes = leaves.goes;
    when = sym heads.pending;
    kinds =
        subst
        (λ (b : Bool). (i : ℕ) (l : Live) → slice_get (carried e b) i ≡ Some l → IsOfKind (kind_of l.of) (value_in p a l.variable))
        (sym heads.pending) leaves.kinds;
  }

  pub stop_of_leaving : slice_get table.stops h.stop ≡ Some e
  stop_of_leaving = stop_there d p s.kind homes tables leaves.has a e leaves.goes h table heads its
