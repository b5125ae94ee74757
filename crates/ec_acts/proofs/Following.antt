-- A section begins as a new process.
use Rattle.std.proofs.Common.{◌≡◌, ◌<◌, ℕ, List, [], ◌∷◌, ◌++◌, Option, Some, None, refl, sym, ap, ◌∙◌, subst, arith}
use Rattle.std.specs.Prelude.{length, slice_get}
use Rattle.std.proofs.lemmas.List.{append-nil, map-append}
use Rattle.ec_base.proofs.Lists.{length_set}
use Rattle.ec_base.proofs.Stacks.{stack_parts}
use Rattle.ec_base.specs.Stack.{below_of, top_of}
use Rattle.ec_cluster.specs.Cluster.{CodeWorld, Shows, place, stores}
use Rattle.ec_cluster.specs.Images.{image_of}
use Rattle.ec_cluster.specs.Steps.{Changes}
use Rattle.ec_cluster.specs.declared.cluster.Cluster.{Cluster}
use Rattle.ec_cluster.specs.declared.cluster.Images.{Images}
use Rattle.ec_cluster.proofs.Finishing.{finished_own}
use Rattle.ec_cluster.specs.Frames.{BeginsWith, CanBegin, HasImages, HasNode, with_one_more, with_stack}
use Rattle.ec_code.specs.Activations.{begun, code_meaning, finished}
use Rattle.ec_code.specs.Typing.{Declared}
use Rattle.ec_code.specs.declared.activation.CodeActivation.{CodeActivation}
use Rattle.ec_cluster.specs.Whereabouts.{Traces, place_at}
use Rattle.ec_node_frames.proofs.Texts.{no_texts_begun}
use Rattle.ec_world.proofs.Procs.{get_end, get_past}
use Rattle.ec_world.specs.Things.{activation_at, in_process}
use Rattle.ec_acts.proofs.Doing.{begun_string}
use Rattle.ec_acts.proofs.Freed.{block_free}
use Rattle.ec_acts.proofs.Mirrored.{mirrors_still}
use Rattle.ec_acts.proofs.Readied.{rows_many}
use Rattle.ec_acts.proofs.Stacking.{at_node, get_at, no_frame}
use Rattle.ec_acts.proofs.Wording.{nothing_changes, nothing_said, strings_moved}
use Rattle.ec_acts.specs.Taking.{Becomes, CanFollow, TakesIn, with_changed, with_section}
use Rattle.ec_cluster.proofs.Pools.{strings_come}
use Rattle.ec_cluster.specs.SystemSteps.{CanStart, TakesBelow}
use Rattle.ec_cluster.specs.Systems.{Mirrors, Strings, row_of}
use Rattle.ec_cluster.specs.declared.system.ProcessRow.{ProcessRow}
use Rattle.ec_cluster.specs.declared.system.System.{System}
use Rattle.ec_things.specs.Store.{Store}
use Rattle.ec_world.specs.World.{changed, finish_top}
use Rattle.ec_world.specs.declared.doing.Section.{Section}
use Rattle.ec_world.specs.declared.process.Proc.{Proc}
use Rattle.ec_world.specs.declared.process.ProcStatus.{ProcStatus}
use Rattle.ec_world.specs.declared.process.ProcStatus.TheVariants.{Ready}
use Rattle.ec_world.specs.declared.stop.Effect.TheVariants.{Leaves}
use Rattle.ec_world.specs.declared.stop.Who.{Who}
use Rattle.ec_world.specs.declared.value.Value.{Value}

-- ---- none begins

pub none_mirrors : (s : System) (w : CodeWorld) → Mirrors s w → Mirrors s (with_section w None)
none_mirrors s w m =
    subst (λ (ps : List (Proc CodeActivation)). Mirrors s (record w { processes = ps })) (sym (append-nil w.processes)) m

pub none_changes : (s : System) (w : CodeWorld) → Mirrors s w → Changes (Strings s.cluster (with_section w None)) s.cluster s.cluster
none_changes s w m =
    nothing_said s.cluster s.cluster (with_section w None) (nothing_changes s.cluster) (none_mirrors s w m).shows

-- ---- one begins

abbrev new_row : ProcessRow
new_row = record { activations = 1; status = Ready }

abbrev new_process : Section → Proc CodeActivation
new_process section = record { activations = begun section.operation section.own [] ∷ []; status = Ready }

module _ (s s' : System) (section : Section) (d : Declared) (w : CodeWorld) (images : HasImages d s.cluster) (m : Mirrors s w)
    (can : CanBegin s.cluster (length s.processes) 0 section.operation section.own [])
    (changes : Changes (BeginsWith s.cluster section.operation section.own []) s.cluster s'.cluster)
    (whereabouts : s'.cluster.whereabouts ≡ s.cluster.whereabouts)
    (shown : Shows s'.cluster (with_section w (Some section))) where
  pub one_mirrors : s'.output ≡ s.output → s'.processes ≡ s.processes ++ record { activations = 1; status = Ready } ∷ [] →
      Mirrors s' (with_section w (Some section))
  one_mirrors output rows =
      mirrors_still (BeginsWith s.cluster section.operation section.own []) s s' w w.common.objects
      (w.processes ++ new_process section ∷ []) m changes whereabouts output refl shown
      (rows ∙ ap (λ (rs : List ProcessRow). rs ++ new_row ∷ []) m.rows ∙ sym (map-append row_of w.processes (new_process section ∷ [])))

  pub one_changes : Changes (Strings s'.cluster (with_section w (Some section))) s.cluster s'.cluster
  one_changes =
      let at : activation_at (w.processes ++ new_process section ∷ []) (length w.processes) 0
      ≡ Some (begun section.operation section.own []) =
      ap (λ (x : Option (Proc CodeActivation)). in_process x 0) (get_end w.processes (new_process section)) in
      strings_come (BeginsWith s.cluster section.operation section.own []) s.cluster s'.cluster (with_section w (Some section)) changes
      shown
      (λ k text h. strings_moved s.cluster s'.cluster (with_section w (Some section)) k text changes.parts changes.images whereabouts
      (begun_string d s.cluster images (with_section w (Some section)) k (length w.processes) 0 section.operation section.own [] text
      can.entry at h))

-- as a function begins it
module _ (s : System) (c' : Cluster) (section : Section) (process : ℕ) (arguments : List Value) (none : arguments ≡ [])
    (number : process ≡ length s.processes) (started : Option Section) (is : started ≡ Some section) (can : CanFollow s started)
    (changes : Changes (BeginsWith s.cluster section.operation section.own arguments) s.cluster c')
    (whereabouts : c'.whereabouts ≡ s.cluster.whereabouts)
    (begun_so : (d : Declared) (w : CodeWorld) (status : ProcStatus) → HasImages d s.cluster → Shows s.cluster w →
    process ≡ length w.processes → ◌≡◌ {A = ℕ} 0 0 → Shows c'
    (with_one_more w (record { activations = begun section.operation section.own arguments ∷ []; status = status })))
    (rows : List ProcessRow) (rows_are : rows ≡ s.processes ++ record { activations = 1; status = Ready } ∷ []) where
  abbrev now : System
  now = record { cluster = c'; processes = rows; output = s.output }

  can_one : CanBegin s.cluster (length s.processes) 0 section.operation section.own []
  can_one = subst (λ (x : Option Section). CanFollow s x) is can

  changes_one : Changes (BeginsWith s.cluster section.operation section.own []) s.cluster c'
  changes_one = subst (λ (vs : List Value). Changes (BeginsWith s.cluster section.operation section.own vs) s.cluster c') none changes

  module _ (d : Declared) (w : CodeWorld) (images : HasImages d s.cluster) (m : Mirrors s w) where
    shown_one : Shows c' (with_section w (Some section))
    shown_one =
        subst
        (λ (vs : List Value). Shows c'
        (with_one_more w (record { activations = begun section.operation section.own vs ∷ []; status = Ready }))) none
        (begun_so d w Ready images m.shows (number ∙ ap length m.rows ∙ rows_many w.processes) refl)

    pub follows_mirrors : Mirrors (record { cluster = c'; processes = rows; output = s.output }) (with_section w started)
    follows_mirrors =
        subst (λ (x : Option Section). Mirrors now (with_section w x)) (sym is)
        (one_mirrors s now section d w images m can_one changes_one whereabouts shown_one refl rows_are)

    pub follows_changes : Changes (Strings c' (with_section w started)) s.cluster c'
    follows_changes =
        subst (λ (x : Option Section). Changes (Strings c' (with_section w x)) s.cluster c') (sym is)
        (one_changes s now section d w images m can_one changes_one whereabouts shown_one)

-- ---- it can begin where an activation on its object has gone

module _ (d : Declared) (c c' : Cluster) (w : CodeWorld) (below : List CodeActivation) (top : CodeActivation) (who : Who)
    (given : Option Value) (t : TakesIn d c w below top who (Leaves given))
    (becomes : Becomes c c' (with_changed w who.process below top (Leaves given))) where
  abbrev later : CodeWorld
  later = with_changed w who.process below top (Leaves given)

  free_by : (x : Option CodeActivation) → top_of below ≡ x → TakesBelow c x given → (k : ℕ) (s : Store) → place c' top.own ≡ Some k →
      stores c' k ≡ Some s → 0 < s.free
  free_by None e h k s at there = absurd h
  free_by (Some a) e h k s at there =
      let shows_top = t.shows_top in
      let stack : finish_top code_meaning (below_of below) (top_of below) given ≡ below_of below ++ finished a given ∷ [] =
      ap (λ (y : Option CodeActivation). finish_top code_meaning (below_of below) y given) e in
      let after : Shows c' (with_stack w who.process (below_of below ++ finished a given ∷ []) Ready) =
      subst (λ (xs : List CodeActivation). Shows c' (with_stack w who.process xs Ready)) stack becomes.shows in
      block_free (Strings c' later) c c' becomes.texts becomes.whereabouts w shows_top.shows who.process shows_top.is_top.proc
      shows_top.is_top.is below (below_of below) top a (finished a given) shows_top.is_top.stack (stack_parts below a e)
      (finished_own a given) Ready after k s at there

  node_there : HasNode c' top.own
  node_there =
      let s = t.shows_top in
      let there : slice_get s.is_top.proc.activations (length below) ≡ Some top =
      ap (λ (xs : List CodeActivation). slice_get xs (length below)) s.is_top.stack ∙ get_at below [] top in
      let node = at_node c w s.shows who.process s.is_top.proc s.is_top.is (length below) top there in
      let x = becomes.texts.each node.node node.store node.there in
      record {
        node = node.node;
        at = ap (λ (y : Traces). place_at y top.own) becomes.whereabouts ∙ node.home;
        store = x.0;
        there = x.1;
      }

  pub can_start : (section : Section) → CanStart c top.own (Some section) →
      CanBegin c' (length w.processes) 0 section.operation section.own []
  can_start section starts = record {
    own_is = subst (λ o. HasNode c' o) (sym starts.0) node_there;
    new = λ k s there.
        let many : length later.processes ≡ length w.processes =
        length_set w.processes who.process (changed code_meaning below top (Leaves given)) in
        no_frame c' later (length w.processes) 0 becomes.shows
        (ap (λ (x : Option (Proc CodeActivation)). in_process x 0) (get_past later.processes (length w.processes) (omega (arith, many))))
        k s there;
    room = λ k s at there. free_by (top_of below) refl t.can k s (ap (place c') (sym starts.0) ∙ at) there;
    entry = λ kind.
        let e = starts.1 kind in (
          e.0,
          ap (λ (x : Images). slice_get (image_of x kind).table.operations section.operation) becomes.texts.images ∙ e.1,
          e.2,
        );
    texts = λ k s table at there is. no_texts_begun [] (λ n text e. cc) s table section.own;
  }
