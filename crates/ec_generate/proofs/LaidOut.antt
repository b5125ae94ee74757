-- What code that is laid out rests on, for a kind with so many home registers.
use Rattle.std.proofs.Common.{◌≡◌, ℕ, List, Some, sym, subst}
use Rattle.std.specs.Prelude.{slice_get}
use Rattle.ec_code.specs.Fine.{Fine}
use Rattle.ec_code.specs.Typing.{Declared}
use Rattle.ec_code.specs.declared.code.Line.{Line}
use Rattle.ec_code.specs.declared.code.Operation.{Operation}
use Rattle.ec_code.specs.declared.code.Parts.{Parts}
use Rattle.ec_machine_code.specs.Machine.{MachineMeaning}
use Rattle.ec_machine_code.specs.declared.homes.Home.{Home}
use Rattle.ec_machine_code.specs.Fitting.{CanBeLaidOut, HomesFit, NumbersFit}
use Rattle.ec_machine_code.specs.Layout.{HasOrders, HasRoom, Vocabularies}
use Rattle.ec_machine_code.specs.Speaks.{Speaks}

pub can_be_laid_out : {S : Type 0} (M : MachineMeaning S) (vs : Vocabularies) (homes : List (List Home))
    (orders : List (List ℕ)) (d : Declared) (p : Parts) (registers : ℕ) → Speaks M vs.near → Speaks M vs.middle → Speaks M vs.far → M.homes ≡ registers → Fine d p →
    ((n q : ℕ) (o : Operation) (line : Line) → slice_get p.operations n ≡ Some o → slice_get o.code q ≡ Some line → NumbersFit line.op) →
    ((n : ℕ) (o : Operation) → slice_get p.operations n ≡ Some o → HomesFit registers homes n o) → HasOrders orders p →
    HasRoom vs homes orders p → CanBeLaidOut M vs homes orders d p
can_be_laid_out M vs homes orders d p registers near middle far same fine numbers fit ordered room = record {
  near = near;
  middle = middle;
  far = far;
  fine = fine;
  numbers = numbers;
  homes_fit = λ n o e. subst (λ k. HomesFit k homes n o) (sym same) (fit n o e);
  ordered = ordered;
  room = room;
}
