-- Activations at the node from which a group goes.
use Rattle.std.proofs.Common.{◌≡◌, ◌&&◌, ℕ, true, List, [], ◌∷◌, length, Option, Some, None, refl, sym, ap, ◌∙◌}
use Rattle.std.proofs.Common.{subst}
use Rattle.std.proofs.lemmas.List.{length-map}
use Rattle.std.proofs.lemmas.Option.{same_Some}
use Rattle.std.specs.Prelude.{IsSome, if◌then◌else◌, option_map, slice_get}
use Rattle.ec_activations.specs.Frames.{stop_of}
use Rattle.ec_cluster.proofs.Putting.{shown_there}
use Rattle.ec_cluster.specs.Cluster.{CodeWorld, frame_of, place, stores}
use Rattle.ec_cluster.specs.Images.{homes_on}
use Rattle.ec_cluster.specs.declared.cluster.Cluster.{Cluster}
use Rattle.ec_cluster.proofs.Looking.{here_is_frame}
use Rattle.ec_cluster.specs.Frames.{tables_on}
use Rattle.ec_code.specs.Typing.{Declared}
use Rattle.ec_code.specs.declared.activation.CodeActivation.{CodeActivation}
use Rattle.ec_packing.specs.Between.{RestsBetween}
use Rattle.ec_parcels.specs.Activations.{Leaves, activation_part_of}
use Rattle.ec_parcels.specs.Classes.{ClassTable}
use Rattle.ec_node_frames.specs.Frames.{IsFrame}
use Rattle.ec_world.specs.Things.{activation_at, in_process}
use Rattle.ec_world.specs.declared.key.Key.TheVariants.{Frame}
use Rattle.ec_packing.proofs.Carrying.{Knows, can_go, carried_good, entry_of, known, rests_of}
use Rattle.ec_packing.proofs.Members.{is_here_it}
use Rattle.ec_packing.specs.Packing.{CanGo, activation_goes, activation_if, at_stop}
use Rattle.ec_code.specs.Worlds.{RangedActivation, RangedProc}
use Rattle.ec_activations.proofs.Entries.{rests_at_an_entry}
use Rattle.ec_code.proofs.Carried.{each_get}
use Rattle.ec_code.specs.Sound.{SoundProc}
use Rattle.ec_generate.specs.declared.table.OperationTable.{OperationTable}
use Rattle.ec_generate.specs.declared.table.StopEntry.{StopEntry}
use Rattle.ec_stores.specs.Node.{NodeData, store_of}
use Rattle.ec_cluster.specs.Systems.{row_of}
use Rattle.ec_cluster.specs.declared.system.System.{System}
use Rattle.ec_things.specs.Things.{Shown, Thing, frame_if}
use Rattle.ec_world.specs.Group.{is_in}
use Rattle.ec_world.specs.declared.process.Proc.{Proc}

-- an activation is one of a process
pub record IsOf (procs : List (Proc CodeActivation)) (p depth : ℕ) (a : CodeActivation) : Type 0 where
  pub proc : Proc CodeActivation
  pub is_proc : slice_get procs p ≡ Some proc
  pub there : slice_get proc.activations depth ≡ Some a

pub is_of : (procs : List (Proc CodeActivation)) (p depth : ℕ) (a : CodeActivation) → activation_at procs p depth ≡ Some a →
    IsOf procs p depth a
is_of procs p depth a e = by (slice_get procs p) refl e
  where
    by : (x : Option (Proc CodeActivation)) → slice_get procs p ≡ x → in_process x depth ≡ Some a → IsOf procs p depth a
    by None f g = absurd cc
    by (Some proc) f g = record { proc = proc; is_proc = f; there = g }

some_there : {A : Type 0} (x : Option A) → IsSome x → (y : A) × (x ≡ Some y)
some_there None h = absurd cc
some_there (Some y) h = (y, refl)

module _ (d : Declared) (s : System) (w : CodeWorld) (table : ClassTable) (members : List ℕ) (from : ℕ)
    (can : CanGo d s w table members from) where
  abbrev c : Cluster
  c = s.cluster

  -- what is known of each activation
  pub knows : (p depth : ℕ) (a : CodeActivation) → activation_at w.processes p depth ≡ Some a → Knows d c.parts w.common.objects a
  knows p depth a e =
      let o = is_of w.processes p depth a e in
      known d c.parts w.common.objects o.proc
      (each_get (SoundProc d c.parts w.common.objects) w.processes p o.proc can.runs.sound.processes o.is_proc)
      (each_get (RestsBetween c.parts) w.processes p o.proc can.rest o.is_proc) depth a o.there

  pub ranged : (p depth : ℕ) (a : CodeActivation) → activation_at w.processes p depth ≡ Some a → RangedActivation a
  ranged p depth a e =
      let o = is_of w.processes p depth a e in
      each_get RangedActivation o.proc.activations depth a (each_get RangedProc w.processes p o.proc can.runs.ranged.processes o.is_proc)
      o.there

  module _ (p depth : ℕ) (n : NodeData) (is : slice_get c.nodes from ≡ Some n) where
    stands : stores c from ≡ Some (store_of n)
    stands = ap (option_map store_of) is

    module _ (row : IsSome ((store_of n).row (Frame p depth))) where
      pub frame : IsFrame (store_of n) p depth
      frame = here_is_frame n p depth row

      -- the activation in the frame
      pub record IsThere (a : CodeActivation) : Type 0 where
        pub found : activation_at w.processes p depth ≡ Some a
        pub at : place c a.own ≡ Some from

      pub there : (a : CodeActivation) × IsThere a
      there =
          let z = can.runs.mirrors.shows.things_stand.only from (store_of n) (Frame p depth) frame.row stands frame.there in
          by (activation_at w.processes p depth) refl z.0 z.1 z.2
        where
          by : (x : Option CodeActivation) → activation_at w.processes p depth ≡ x → (t : Thing) →
              frame_if (frame_of c) p depth x ≡ Some t → place c t.home ≡ Some from → (a : CodeActivation) × IsThere a
          by None e t f home = absurd cc
          by (Some a) e t f home =
              (a, record { found = e; at = ap (λ (u : Thing). place c u.home) (same_Some (frame_of c p depth a) t f) ∙ home })

      abbrev pub activation : CodeActivation
      activation = there.0

      pub its : Knows d c.parts w.common.objects activation
      its = knows p depth activation there.1.found

      abbrev pub entry : StopEntry
      entry = entry_of d c.parts w.common.objects activation its

      pub shown : Shown (store_of n) (Frame p depth) (frame_of c p depth activation)
      shown = shown_there c w from (store_of n) (Frame p depth) (frame_of c p depth activation) can.runs.mirrors.shows
          (ap (frame_if (frame_of c) p depth) there.1.found) there.1.at stands

      pub leaves : Leaves (store_of n) (tables_on c (store_of n).kind) p depth d c.parts (homes_on c.images) activation entry
      leaves = record {
        shown = shown;
        has = can.runs.steady.images (store_of n).kind;
        goes = can_go d c.parts w.common.objects activation its;
        kinds = λ i l e. (carried_good d c.parts w.common.objects activation (ranged p depth activation there.1.found) its can.typed i l e).1;
      }

      pub leaves_by : (tables : List OperationTable) → tables ≡ tables_on c (store_of n).kind →
          Leaves (store_of n) tables p depth d c.parts (homes_on c.images) activation entry
      leaves_by tables e =
          subst (λ (ts : List OperationTable). Leaves (store_of n) ts p depth d c.parts (homes_on c.images) activation entry) (sym e) leaves

      its_goes : activation_goes c w members from p depth ≡
          (if is_in activation.own members then at_stop c w members from p depth activation (stop_of c.parts activation) else [])
      its_goes =
          ap (activation_if c w members from p depth) there.1.found
          ∙ ap (λ b. if b && is_in activation.own members then at_stop c w members from p depth activation (stop_of c.parts activation)
          else []) (is_here_it c from activation.own there.1.at)

      pub part_is : is_in activation.own members ≡ true →
          activation_goes c w members from p depth ≡ activation_part_of p depth c.parts activation entry ∷ []
      part_is e = its_goes
          ∙ ap (λ b. if b then at_stop c w members from p depth activation (stop_of c.parts activation) else []) e
          ∙ ap (at_stop c w members from p depth activation)
          (rests_at_an_entry d c.parts w.common.objects activation (rests_of d c.parts w.common.objects activation its)).1

  -- ---- how many processes there are

  pub processes_are : length s.processes ≡ length w.processes
  processes_are = ap length can.runs.mirrors.rows ∙ length-map w.processes row_of
