-- Members of a group at the node from which they go.
use Rattle.std.proofs.Common.{◌≡◌, ◌==◌, ℕ, zero, suc, true, false, List, [], ◌∷◌, length, Option, Some, None, refl, ap, ◌∙◌}
use Rattle.std.proofs.Common.{arith, eqb-true}
use Rattle.std.specs.Prelude.{IsSome, if◌then◌else◌, option_map, option_to_list, slice_get}
use Rattle.ec_asking.proofs.Programs.{bare_shown, runs_program}
use Rattle.ec_base.proofs.Lists.{get_there}
use Rattle.ec_cluster.proofs.Places.{place_made}
use Rattle.ec_cluster.proofs.Putting.{shown_there}
use Rattle.ec_cluster.specs.Cluster.{CodeWorld, place}
use Rattle.ec_cluster.specs.declared.cluster.Cluster.{Cluster}
use Rattle.ec_code.specs.Typing.{Declared}
use Rattle.ec_cluster.specs.Whereabouts.{Traces, place_at}
use Rattle.ec_parcels.specs.Classes.{ClassTable, number_of}
use Rattle.ec_parcels.specs.Objects.{GoesAs, monitor_part_of, part_of}
use Rattle.ec_world.specs.declared.key.Key.TheVariants.{Object}
use Rattle.ec_packing.specs.Packing.{CanGo, is_at, is_here, monitor_goes, monitor_if, object_goes, object_if, with_number}
use Rattle.ec_parcels.specs.Parcels.{ObjectGoes}
use Rattle.ec_stores.specs.Node.{NodeData, store_of}
use Rattle.ec_cluster.specs.declared.system.System.{System}
use Rattle.ec_things.specs.Things.{Shown, object_if as thing_if, object_thing}
use Rattle.ec_world.specs.Group.{Has}
use Rattle.ec_world.specs.Objects.{object_at}
use Rattle.ec_world.specs.declared.object.ObjectRec.{ObjectRec}

-- ---- where an object is

at_is : (k : ℕ) (x : Option ℕ) → is_at k x ≡ true → x ≡ Some k
at_is k None e = absurd cc
at_is k (Some j) e = ap Some (eqb-true j k e)

is_at_it : (k : ℕ) (x : Option ℕ) → x ≡ Some k → is_at k x ≡ true
is_at_it k x e = ap (is_at k) e ∙ same k
  where
    same : (n : ℕ) → (n == n) ≡ true
    same n = grind arith

pub here_is : (c : Cluster) (k oid : ℕ) → is_here c k oid ≡ true → place c oid ≡ Some k
here_is c k oid = at_is k (place c oid)

pub is_here_it : (c : Cluster) (k oid : ℕ) → place c oid ≡ Some k → is_here c k oid ≡ true
is_here_it c k oid = is_at_it k (place c oid)

-- so many objects have places
placed : (ws : Traces) (objects : List ObjectRec) (oid k : ℕ) → length objects ≡ length ws → place_at ws oid ≡ Some k →
    (o : ObjectRec) × (object_at objects oid ≡ Some o)
placed ws objects zero k many e = absurd cc
placed ws objects (suc i) k many e =
    let l = (place_made ws (suc i) k e).1 in
    get_there objects i (omega arith)

-- ---- a member

number_there : (x : Option ℕ) → IsSome x → (n : ℕ) × (x ≡ Some n)
number_there None h = absurd cc
number_there (Some n) h = (n, refl)

module _ (d : Declared) (s : System) (w : CodeWorld) (table : ClassTable) (members : List ℕ) (from : ℕ)
    (can : CanGo d s w table members from) (oid : ℕ) where
  abbrev c : Cluster
  c = s.cluster

  -- one that is elsewhere brings nothing
  pub absent_object : is_here c from oid ≡ false → object_goes table c w from oid ≡ []
  absent_object e = ap (λ b. if b then object_if table oid (object_at w.common.objects oid) else []) e

  pub absent_monitor : is_here c from oid ≡ false → monitor_goes c w from oid ≡ []
  absent_monitor e = ap (λ b. if b then monitor_if oid (object_at w.common.objects oid) else []) e

  module _ (member : Has members oid) (here : is_here c from oid ≡ true) where
    at : place c oid ≡ Some from
    at = here_is c from oid here

    pub object_there : (o : ObjectRec) × (object_at w.common.objects oid ≡ Some o)
    object_there = placed c.whereabouts w.common.objects oid from can.runs.mirrors.objects at

    abbrev pub object : ObjectRec
    object = object_there.0

    pub goes : ObjectGoes c w members from oid object
    goes = record { member = member; at = at; is = object_there.1 }

    pub number : (n : ℕ) × (number_of table object.class ≡ Some n)
    number = number_there (number_of table object.class) (can.numbered oid object goes)

    abbrev pub class : ℕ
    class = number.0

    pub object_part_is : object_goes table c w from oid ≡ part_of oid class object ∷ []
    object_part_is =
        ap (λ b. if b then object_if table oid (object_at w.common.objects oid) else []) here
        ∙ ap (object_if table oid) object_there.1
        ∙ ap (with_number oid object) number.1

    pub monitor_part_is : monitor_goes c w from oid ≡ option_to_list (monitor_part_of oid object.monitor)
    monitor_part_is =
        ap (λ b. if b then monitor_if oid (object_at w.common.objects oid) else []) here
        ∙ ap (monitor_if oid) object_there.1

    module _ (n : NodeData) (is : slice_get c.nodes from ≡ Some n) where
      pub shown : Shown (store_of n) (Object oid) (object_thing oid object)
      shown = shown_there c w from (store_of n) (Object oid) (object_thing oid object) can.runs.mirrors.shows
          (ap (thing_if oid) object_there.1) at (ap (option_map store_of) is)

      pub leaves : GoesAs table c.parts.classes (store_of n) oid object class
      leaves = record {
        shown = shown;
        kinds = λ i v e. (runs_program d s w can.runs (bare_shown c w can.runs.mirrors.shows can.bare)).kinds oid i object v object_there.1 e;
        number_is = number.1;
      }
