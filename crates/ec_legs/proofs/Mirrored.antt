-- The system shows the world in which a process has gone on: its rows, its output and its numbers are as they were.
use Rattle.std.proofs.Common.{◌≡◌, ℕ, zero, suc, List, [], ◌∷◌, length, Some, refl, sym, ap, ◌∙◌, subst, map}
use Rattle.std.specs.Prelude.{slice_get, slice_set}
use Rattle.ec_base.proofs.Lists.{length_set}
use Rattle.ec_cluster.proofs.Putting.{with_node}
use Rattle.ec_cluster.specs.Cluster.{CodeWorld, place}
use Rattle.ec_cluster.specs.Images.{homes_on}
use Rattle.ec_code.specs.Activations.{code_meaning, code_silent}
use Rattle.ec_code.specs.declared.activation.CodeActivation.{CodeActivation}
use Rattle.ec_machine_code.specs.declared.code.Code.{Code}
use Rattle.ec_legs.proofs.Shown.{went_shown}
use Rattle.ec_legs.proofs.Tops.{count_is, goes_on_is, length_push, went, with_top}
use Rattle.ec_legs.proofs.Walked.{OwnRan, silent_ran}
use Rattle.ec_legs.specs.Going.{IsDoneTop}
use Rattle.ec_legs.specs.Legs.{Leg}
use Rattle.ec_stores.specs.Node.{NodeData, store_of}
use Rattle.ec_cluster.specs.Systems.{Mirrors, row_of}
use Rattle.ec_cluster.specs.declared.system.ProcessRow.{ProcessRow}
use Rattle.ec_cluster.specs.declared.system.System.{System}
use Rattle.ec_world.specs.World.{GoOn}
use Rattle.ec_world.specs.declared.common.Common.{Common}
use Rattle.ec_world.specs.declared.object.ObjectRec.{ObjectRec}
use Rattle.ec_world.specs.declared.process.ProcStatus.{ProcStatus}
use Rattle.ec_world.specs.declared.process.ProcStatus.TheVariants.{Ready}

-- where an item is set of which the same is told, the same is told of all
map_set : {A B : Type 0} (f : A → B) (xs : List A) (i : ℕ) (x y : A) → slice_get xs i ≡ Some x → f y ≡ f x →
    map f (slice_set xs i y) ≡ map f xs
map_set f [] i x y e h = refl
map_set f (z ∷ zs) zero x y e h = let same : z ≡ x = cc in ap (λ r. r ∷ map f zs) (h ∙ ap f (sym same))
map_set f (z ∷ zs) (suc i) x y e h = ap (λ r. f z ∷ r) (map_set f zs i x y e h)

row_is : (w : CodeWorld) (p : ℕ) (below : List CodeActivation) (top a : CodeActivation) (is : IsDoneTop w p below top) →
    row_of (with_top below a) ≡ row_of is.is_top.proc
row_is w p below top a is =
    ap (λ n. row n Ready) (length_push below a ∙ sym (count_is w p below top is))
    ∙ ap (row (length is.is_top.proc.activations)) (sym is.ready)
  where
    row : ℕ → ProcStatus → ProcessRow
    row n status = record { activations = n; status = status }

module _ (s : System) (k : ℕ) (n n' : NodeData) (w : CodeWorld) (here : slice_get s.cluster.nodes k ≡ Some n) (mirrors : Mirrors s w)
    (p : ℕ) (below : List CodeActivation) (top : CodeActivation) (is : IsDoneTop w p below top) (at : place s.cluster top.own ≡ Some k)
    (i : ℕ) (own : top.own ≡ suc i) (o : ObjectRec) (object_is : slice_get w.common.objects i ≡ Some o) (code : Code) (count : ℕ)
    (leg : Leg code s.cluster.parts (homes_on s.cluster.images) w.common top (store_of n) (store_of n') p (length below) count) where
  abbrev x : Common × CodeActivation
  x = code_silent s.cluster.parts w.common top

  ran : OwnRan i o w.common x.0
  ran = silent_ran s.cluster.parts w.common top i o object_is own

  -- the same system with another node
  abbrev pub with_other : System
  with_other = record s { cluster = with_node s.cluster k n' }

  went_mirrored : Mirrors with_other (went w p below x)
  went_mirrored = record {
    shows = went_shown s.cluster k n n' w here mirrors.shows p below top is at i own o object_is code count leg;
    rows =
        mirrors.rows
        ∙ sym (map_set row_of w.processes p is.is_top.proc (with_top below x.1) is.is_top.is (row_is w p below top x.1 is));
    output = mirrors.output ∙ sym ran.output;
    nodes = ran.nodes ∙ mirrors.nodes ∙ sym (length_set s.cluster.nodes k n');
    classes = ran.classes ∙ mirrors.classes;
    objects = ap length ran.objects ∙ length_set w.common.objects i ran.object ∙ mirrors.objects;
    constants = ap length ran.globals ∙ mirrors.constants;
  }

  pub goes_mirrored : Mirrors with_other (GoOn code_meaning (code_silent s.cluster.parts) w p)
  goes_mirrored = subst (λ z. Mirrors with_other z) (sym (goes_on_is w p below top is s.cluster.parts)) went_mirrored
