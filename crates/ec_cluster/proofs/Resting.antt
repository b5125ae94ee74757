-- The stop of an activation that is shown stands in the table of its operation.
use Rattle.std.proofs.Common.{◌≡◌, ℕ, zero, suc, ◌+◌, ◌==◌, Bool, true, false, List, [], ◌∷◌, Option, Some, None, refl, sym, ap, ◌∙◌, subst}
use Rattle.std.proofs.Common.{arith}
use Rattle.std.specs.Prelude.{if◌then◌else◌, slice_get}
use Rattle.std.proofs.lemmas.Option.{same_Some}
use Rattle.ec_activations.proofs.Frames.{all_two_at}
use Rattle.ec_activations.specs.Frames.{Numbered, at_place, entries_if, number_if, stop_of}
use Rattle.ec_code.specs.Activations.{operation_at}
use Rattle.ec_code.specs.Typing.{Declared}
use Rattle.ec_code.specs.declared.activation.CodeActivation.{CodeActivation}
use Rattle.ec_code.specs.declared.code.Operation.{Operation}
use Rattle.ec_code.specs.declared.code.Parts.{Parts}
use Rattle.ec_machine_code.specs.Frames.{slots}
use Rattle.ec_machine_code.specs.declared.homes.Home.{Home}
use Rattle.ec_node_frames.specs.Frames.{HasTables, RestsAt}
use Rattle.ec_generate.specs.Entries.{entries_of}
use Rattle.ec_generate.specs.Tables.{IsTableOf}
use Rattle.ec_generate.specs.declared.table.OperationTable.{OperationTable}
use Rattle.ec_generate.specs.declared.table.StopEntry.{StopEntry}
use Rattle.ec_world.specs.declared.node.Kind.{Kind}

-- the stop at a place stands at its number
pub record StandsAt (n : ℕ) (es : List StopEntry) (s : Numbered) : Type 0 where
  pub index : ℕ
  pub number : s.number ≡ n + index
  pub is : slice_get es index ≡ Some s.entry

pub stands_at : (q n : ℕ) (es : List StopEntry) (s : Numbered) → at_place q n es ≡ Some s → StandsAt n es s
stands_at q n [] s e = absurd cc
stands_at q n (x ∷ xs) s e = by (x.place == q) e (λ f. stands_at q (suc n) xs s f)
  where
    by : (b : Bool) → (if b then Some (record { number = n; entry = x }) else at_place q (suc n) xs) ≡ Some s →
        (at_place q (suc n) xs ≡ Some s → StandsAt (suc n) xs s) → StandsAt n (x ∷ xs) s
    by true f rest =
        let is : record { number = n; entry = x } ≡ s = same_Some (record { number = n; entry = x }) s f in
        record {
          index = 0;
          number = (let m = ap (λ (z : Numbered). z.number) is in omega (arith, m));
          is = ap (λ (z : Numbered). Some z.entry) is;
        }
    by false f rest =
        let r = rest f in
        record { index = suc r.index; number = (let m = r.number in omega (arith, m)); is = r.is }

-- an activation that rests at a stop is of an operation, among whose stops this is
pub record OfOperation (p : Parts) (a : CodeActivation) (s : Numbered) : Type 0 where
  pub operation : Operation
  pub is : operation_at p a.operation ≡ Some operation
  pub stop : slice_get (entries_of operation.code) s.number ≡ Some s.entry

pub of_operation : (p : Parts) (a : CodeActivation) (s : Numbered) → stop_of p a ≡ Some s → OfOperation p a s
of_operation p a s e = by (operation_at p a.operation) refl e
  where
    by : (o : Option Operation) → operation_at p a.operation ≡ o → at_place a.at 0 (entries_if o) ≡ Some s → OfOperation p a s
    by None f g = absurd cc
    by (Some o) f g =
        let r = stands_at a.at 0 (entries_of o.code) s g in
        record {
          operation = o;
          is = f;
          stop = (let m : s.number ≡ r.index = (let k = r.number in omega (arith, k)) in ap (slice_get (entries_of o.code)) m ∙ r.is);
        }

module _ (d : Declared) (p : Parts) (kind : Kind) (homes : Kind → List (List Home)) (tables : List OperationTable)
    (has : HasTables d p kind homes tables) (a : CodeActivation) (e : StopEntry) (rests : RestsAt p a e) where
  abbrev stop : Numbered
  stop = record { number = rests.number; entry = e }

  of : OfOperation p a stop
  of = of_operation p a stop rests.is

  -- its operation has a table
  pub table_there : (t : OperationTable) × (slice_get tables a.operation ≡ Some t)
  table_there = let r = all_two_at (IsTableOf has.registers slots) p.operations tables a.operation of.operation has.are of.is in (r.0, r.1)

  -- in which the stop stands
  pub entry_there : (t : OperationTable) → slice_get tables a.operation ≡ Some t → slice_get t.stops (number_if (stop_of p a)) ≡ Some e
  entry_there t at =
      let r = all_two_at (IsTableOf has.registers slots) p.operations tables a.operation of.operation has.are of.is in
      let same : r.0 ≡ t = same_Some r.0 t (sym r.1 ∙ at) in
      let number : number_if (stop_of p a) ≡ rests.number = ap number_if rests.is in
      ap (λ (u : OperationTable). slice_get u.stops (number_if (stop_of p a))) (sym same)
      ∙ ap (λ es. slice_get es (number_if (stop_of p a))) r.2.stops
      ∙ ap (slice_get (entries_of of.operation.code)) number ∙ of.stop
