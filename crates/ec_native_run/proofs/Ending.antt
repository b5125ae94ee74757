-- From a run by machine code that has come to its end to the run of the source: their worlds differ in activations alone.
use Rattle.std.proofs.Common.{◌≡◌, ℕ, suc, ◌<◌, List, ◌++◌, length, drop, None, Some, refl, sym, ap, subst, ◌∙◌, arith}
use Rattle.std.proofs.lemmas.Option.{same_Some}
use Rattle.ec_accepted.proofs.Accepted.{runs_agree}
use Rattle.ec_cluster.specs.Cluster.{CodeWorld}
use Rattle.ec_cluster.specs.declared.cluster.Images.{Images}
use Rattle.ec_code.specs.Activations.{code_meaning, code_silent}
use Rattle.ec_code.specs.declared.code.Parts.{Parts}
use Rattle.ec_compile.proofs.Texts.{text_is_accepted}
use Rattle.ec_compile.specs.Texts.{IsOfText}
use Rattle.ec_report.proofs.Coming.{end_here, run_ends}
use Rattle.ec_report.specs.Driver.{EndsAs}
use Rattle.ec_report.specs.Progress.{Progress}
use Rattle.ec_acts.specs.Loading.{CanLoad, LacksFirst, first_needs}
use Rattle.ec_acts.specs.Worlds.{world_first}
use Rattle.ec_emission.specs.Lowered.{IsLowered}
use Rattle.ec_meaning.specs.Activations.{source_meaning}
use Rattle.ec_meaning.specs.ClassNames.{class_name}
use Rattle.ec_meaning.specs.Meaning.{source_silent, source_start}
use Rattle.ec_meaning.specs.Programs.{Source}
use Rattle.ec_meaning.specs.declared.activation.SourceActivation.{SourceActivation}
use Rattle.ec_native_run.specs.Entries.{Along, HasDone}
use Rattle.ec_native_run.specs.Following.{Follows, FullNext, IsReported}
use Rattle.ec_native_run.specs.Runs.{AreNodes, EndsAfter, RunsTo, run_report}
use Rattle.ec_native_run.specs.Runs.EndsAfter.{ByItself, AsFull}
use Rattle.ec_native_run.specs.Runs.RunsTo.{LoadIsFull, RanUntil}
use Rattle.ec_world.specs.declared.room.Lack.{Lack}
use Rattle.ec_world.specs.declared.room.Part.{Part}
use Rattle.ec_network.specs.Nets.{Net, counts_of, numbers_of}
use Rattle.ec_network.specs.Networks.{CanRun, NetLoaded}
use Rattle.ec_parcels.specs.Vectors.{table_of}
use Rattle.ec_plain.specs.Plain.{source_run}
use Rattle.ec_report.specs.Report.{end_line, line_feed, load_report, node_lines, object_lines, process_lines, turns_line}
use Rattle.ec_report.specs.Status.{status_of}
use Rattle.ec_report.specs.declared.end.ReportEnd.{ReportEnd}
use Rattle.ec_report.specs.declared.end.ReportEnd.TheVariants.{Ends, IsFull}
use Rattle.ec_report.specs.declared.status.Status.{Status}
use Rattle.ec_report.specs.declared.status.Status.TheVariants as statuses
use Rattle.ec_rooms.proofs.Loads.{loads_full}
use Rattle.ec_rooms.specs.Rooms.{LoadFull}
use Rattle.ec_rooms.specs.Runs.{code_run}
use Rattle.ec_runnable.specs.Runnable.{IsRunnable}
use Rattle.ec_cluster.specs.declared.system.System.{System}
use Rattle.ec_world.proofs.Simulation.{ends_agree, statuses_agree}
use Rattle.ec_world.specs.Agree.{SameRest}
use Rattle.ec_world.specs.Places.{places}
use Rattle.ec_world.specs.Run.{Reaches, end_of, statuses_of}
use Rattle.ec_world.specs.Simulation.{AgreeRun}
use Rattle.ec_world.specs.declared.common.Common.{Common}
use Rattle.ec_world.specs.declared.class.VectorType.{VectorType}
use Rattle.ec_world.specs.declared.node.NodeSpec.{NodeSpec}
use Rattle.ec_world.specs.declared.process.ProcStatus.{ProcStatus}
use Rattle.ec_world.specs.declared.run.Entry.{Entry}
use Rattle.ec_world.specs.declared.run.RunEntry.{RunEntry}
use Rattle.ec_world.specs.declared.world.World.{World}

-- ---- reports

abbrev text_of : Source → Common → List ProcStatus → List NodeSpec → (ℕ → ℕ) → ℕ → ReportEnd → List ℕ
text_of s c ss specs counts entries how =
    c.output ++ line_feed ++ turns_line entries ++ process_lines 0 ss
    ++ object_lines (class_name s) specs (places c.nodes c.events) (suc c.nodes) (drop c.nodes c.objects)
    ++ node_lines counts 0 specs ++ end_line specs how

-- the report of a world says nothing of activations
report_same : (s : Source) (w : World SourceActivation) (v : CodeWorld) (specs : List NodeSpec) (counts : ℕ → ℕ) (k : ℕ)
    (how : ReportEnd) → w.common ≡ v.common → statuses_of w ≡ statuses_of v →
    run_report s v specs counts k how ≡ run_report s w specs counts k how
report_same s w v specs counts k how c same =
    ap (λ (x : Common). text_of s x (statuses_of v) specs counts k how) (sym c)
    ∙ ap (λ (x : List ProcStatus). text_of s w.common x specs counts k how) (sym same)

-- ---- runs

module _ (s : Source) (text : IsOfText s) (p : Parts) (lowered : IsLowered s p) (n : ℕ) (schedule : List Entry) where
  same_run : (k : ℕ) → AgreeRun (SameRest source_meaning code_meaning) (source_run s n schedule k) (code_run p n schedule k)
  same_run k = runs_agree s text.program (text_is_accepted s text) p lowered n schedule k

  same_statuses : (k : ℕ) → statuses_of (source_run s n schedule k).world ≡ statuses_of (code_run p n schedule k).world
  same_statuses k = statuses_agree (SameRest source_meaning code_meaning) (source_run s n schedule k).world
      (code_run p n schedule k).world (same_run k).worlds

  same_end : (budget k : ℕ) → end_of budget (source_run s n schedule k) ≡ end_of budget (code_run p n schedule k)
  same_end budget k =
      ends_agree (SameRest source_meaning code_meaning) budget (source_run s n schedule k) (code_run p n schedule k) (same_run k)

  reached : (budget k : ℕ) → ((j : ℕ) → j < k → end_of budget (code_run p n schedule j) ≡ None) →
      Reaches source_meaning (source_silent s) (source_start s n) schedule budget k (source_run s n schedule k)
  reached budget k going = record { is = refl; going = λ j l. same_end budget j ∙ going j l }

-- how the run of the source ends, where that of the code has come to its end on a network
ends_after : (s : Source) (text : IsOfText s) (specs : List NodeSpec) (old : Net) (schedule : List Entry) (budget : ℕ)
    (statuses : List ProcStatus) (progress : Progress) (net : Net)
    (f : Follows specs old schedule budget statuses progress net) → IsLowered s f.start.cluster.parts → (how : ReportEnd) →
    EndsAs (Follows specs) (FullNext specs) old schedule budget statuses progress how →
    EndsAfter s f.start.cluster.parts specs schedule budget progress.done how
ends_after s text specs old schedule budget statuses progress net f lowered (Ends how) step =
    let p = f.start.cluster.parts in
    let n = length specs in
    let comes = f.come.comes in
    let e = run_ends code_meaning (code_silent p) (world_first n p) schedule budget statuses progress f.world comes how step in
    ByItself how
    (record {
      reaches = reached s text p lowered n schedule budget progress.done comes.going;
      ends = same_end s text p lowered n schedule budget progress.done ∙ e.ends;
    })
ends_after s text specs old schedule budget statuses progress net f lowered (IsFull node part need free) (e, full) =
    let p = f.start.cluster.parts in
    let n = length specs in
    let comes = f.come.comes in
    let here = end_here code_meaning (code_silent p) (world_first n p) schedule budget statuses progress f.world comes in
    AsFull node need free part (reached s text p lowered n schedule budget progress.done comes.going)
    (same_end s text p lowered n schedule budget progress.done ∙ (here ∙ e)) (full f.start f.started)

module _ (s : Source) (text : IsOfText s) (vectors : List VectorType) (specs : List NodeSpec) (schedule : List Entry) (budget : ℕ)
    (net old net' : Net) (status : Status) (written : List ℕ) (r : IsReported s specs schedule budget old net' status written) where
  abbrev f : Follows specs old schedule budget r.ended.statuses r.ended.progress net'
  f = r.ended.stands

  abbrev p : Parts
  p = f.start.cluster.parts

  abbrev n : ℕ
  n = length specs

  abbrev k : ℕ
  k = r.ended.progress.done

  -- the nodes have run the entries of the source
  ran : IsLowered s p → numbers_of old ≡ Some (table_of p vectors) → HasDone p vectors specs (source_run s n schedule k).done net'
  ran lowered numbered = record {
    declared = f.come.declared;
    images = f.start.cluster.images;
    code = f.come.code;
    start = f.start;
    loaded = f.come.loaded;
    now = f.now;
    is = f.is;
    numbers = f.numbers ∙ numbered;
    along = subst (λ (es : List RunEntry). Along p f.start (world_first n p) es f.now)
        (sym (same_run s text p lowered n schedule k).done) f.come.along;
  }

  -- what is told is told of the world of the source
  status_told : IsLowered s p → status ≡ status_of (statuses_of (source_run s n schedule k).world) r.how
  status_told lowered =
      r.status_is
      ∙ (ap (λ (v : CodeWorld). status_of (statuses_of v) r.how) f.come.comes.world_is
      ∙ ap (λ (x : List ProcStatus). status_of x r.how) (sym (same_statuses s text p lowered n schedule k)))

  text_told : IsLowered s p → written ≡ run_report s (source_run s n schedule k).world specs (counts_of net') k r.how
  text_told lowered =
      r.text_is
      ∙ (ap (λ (j : ℕ). run_report s f.world specs (counts_of net') j r.how) r.ended.counted
      ∙ (ap (λ (v : CodeWorld). run_report s v specs (counts_of net') k r.how) f.come.comes.world_is
      ∙ report_same s (source_run s n schedule k).world (code_run p n schedule k).world specs (counts_of net') k r.how
      (same_run s text p lowered n schedule k).worlds.common (same_statuses s text p lowered n schedule k)))

  reported_runs : IsLowered s p → numbers_of old ≡ Some (table_of p vectors) →
      ((node need free : ℕ) (part : Part) → LoadFull p specs node part need free → ⊥) →
      RunsTo s vectors specs schedule budget net net' status written
  reported_runs lowered numbered fits =
      let ends = ends_after s text specs old schedule budget r.ended.statuses r.ended.progress net' f lowered r.how r.ended.ends in
      let runs = RanUntil p k r.how lowered fits f.come.fits ends (ran lowered numbered) in
      subst (λ (x : Status). RunsTo s vectors specs schedule budget net net' x written) (sym (status_told lowered))
      (subst (λ (y : List ℕ). RunsTo s vectors specs schedule budget net net'
      (status_of (statuses_of (source_run s n schedule k).world) r.how) y) (sym (text_told lowered)) runs)

-- a run that is reported, from a network that was just loaded
pub runs_to : (s : Source) → IsOfText s → (vectors : List VectorType) (p : Parts) (images : Images) (specs : List NodeSpec) (schedule : List Entry) (budget : ℕ)
    (net old net' : Net) (status : Status) (written : List ℕ) → IsLowered s p → CanLoad p images specs → NetLoaded p vectors images specs old →
    IsReported s specs schedule budget old net' status written → RunsTo s vectors specs schedule budget net net' status written
runs_to s text vectors p images specs schedule budget net old net' status written lowered can l r =
    let start : r.ended.stands.start ≡ l.start = same_Some r.ended.stands.start l.start (sym r.ended.stands.started ∙ l.is) in
    let parts : r.ended.stands.start.cluster.parts ≡ p = ap (λ (x : System). x.cluster.parts) start ∙ l.loaded.parts in
    reported_runs s text vectors specs schedule budget net old net' status written r
    (subst (λ (x : Parts). IsLowered s x) (sym parts) lowered)
    (subst (λ (x : Parts). numbers_of old ≡ Some (table_of x vectors)) (sym parts) l.numbers)
    (subst (λ (x : Parts). (node need free : ℕ) (part : Part) → LoadFull x specs node part need free → ⊥) (sym parts)
    (λ node need free part full. loads_full.fits p images specs l.start can l.loaded node need free part full))

-- a load that found no room
pub load_full : (s : Source) (vectors : List VectorType) (p : Parts) (images : Images) (specs : List NodeSpec) (schedule : List Entry) (budget : ℕ) (net : Net)
    (lack : Lack) (status : Status) (written : List ℕ) → IsLowered s p → CanLoad p images specs →
    LacksFirst (first_needs p images (length specs)) specs lack → status ≡ statuses.Full →
    written ≡ load_report specs (IsFull lack.node lack.part lack.need lack.free) → RunsTo s vectors specs schedule budget net net status written
load_full s vectors p images specs schedule budget net lack status written lowered can lacks status_is text_is =
    rw (status_is, text_is) (LoadIsFull p lack.node lack.need lack.free lack.part lowered (loads_full.full p images specs lack can lacks)
    refl)

-- ---- before a run

-- what an accepted text is lowered to can be loaded onto nodes and run there
pub can_run : (p : Parts) (images : Images) (specs : List NodeSpec) → IsRunnable p images → AreNodes specs → CanRun p images specs
can_run p images specs r nodes = record {
  loads = record {
    declared = r.declared;
    tables = r.tables;
    some = omega (arith, nodes.some);
    few = nodes.few;
    sizes = nodes.sizes;
    once = r.once;
    empty = r.empty;
  };
  code = r.code;
  small = r.small;
  classes = r.classes;
  typed = r.typed;
  few = r.few;
}
