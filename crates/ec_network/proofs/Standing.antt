-- What is kept of a system that stands in a world when it acts, and when a process goes on.
use Rattle.std.proofs.Common.{◌≡◌, ℕ, false, List, sym, ap, ◌∙◌, subst}
use Rattle.std.specs.Prelude.{length, slice_get}
use Rattle.ec_asking.specs.Typed.{IsTypedOnce}
use Rattle.ec_cluster.specs.Cluster.{CodeWorld}
use Rattle.ec_cluster.specs.Steps.{Changes}
use Rattle.ec_cluster.specs.declared.cluster.Cluster.{Cluster}
use Rattle.ec_code.specs.Activations.{code_meaning}
use Rattle.ec_code.specs.Typing.{Declared}
use Rattle.ec_code.specs.declared.code.Parts.{Parts}
use Rattle.ec_legs.proofs.Idling.{idle_top_goes_on}
use Rattle.ec_legs.proofs.GoingKeeping.{code_kept, literals_kept, runs_kept}
use Rattle.ec_legs.specs.Going.{GoesIn, HasLiterals, IsDoneTop, IsFew, Ran, RanNatively}
use Rattle.ec_code.proofs.IdleWorlds.{go_on_idle}
use Rattle.ec_code.specs.Idle.{OfClasses}
use Rattle.ec_cluster.proofs.Before.{before}
use Rattle.ec_network.specs.Acts.{HasActed}
use Rattle.ec_node_frames.specs.declared.frames.Headings.{Headings}
use Rattle.ec_network.specs.Running.{TopTold, WentOn}
use Rattle.ec_network.specs.Showing.{gone_on}
use Rattle.ec_network.specs.Standing.{Works}
use Rattle.ec_rooms.proofs.Stepping.{silent_steps_keep_places}
use Rattle.ec_code.specs.Code.{SmallProgram}
use Rattle.ec_cluster.specs.Systems.{Mirrors}
use Rattle.ec_cluster.specs.declared.system.System.{System}
use Rattle.ec_generate.specs.Limits.{CarriesFew, FewConditions}
use Rattle.ec_world.specs.World.{Action}

-- where texts come, each that was there keeps its place
pub literals_after : (Added : ℕ → List ℕ → Type 0) (c c' : Cluster) → Changes Added c c' → HasLiterals c → HasLiterals c'
literals_after Added c c' changes has k i s text there is =
    let b = before Added c c' k s changes there in
    b.gets.stay i text (has k i b.store text b.there (ap (λ (p : Parts). slice_get p.literals i) (sym changes.parts) ∙ is))

-- after an action
pub works_acted : (d : Declared) (old new : System) (w : CodeWorld) (p : ℕ) → Works d old w → HasActed d old new w p →
    Works d new (Action code_meaning w p)
works_acted d old new w p s acted = record {
  goes = acted.goes;
  code = code_kept d old.cluster new.cluster acted.texts.parts acted.texts.images s.code;
  literals = literals_after _ old.cluster new.cluster acted.texts s.literals;
  small = subst SmallProgram (sym acted.texts.parts) s.small;
  classes = subst OfClasses (sym acted.texts.parts) s.classes;
  few = subst CarriesFew (sym acted.texts.parts) s.few;
  conditions = subst FewConditions (sym acted.texts.parts) s.conditions;
}

-- once a process has gone on
pub works_on : (d : Declared) (old new : System) (w : CodeWorld) (p own count : ℕ) → Works d old w →
    new.cluster.parts ≡ old.cluster.parts → new.cluster.images ≡ old.cluster.images → Ran old.cluster new.cluster own count →
    new.cluster.whereabouts ≡ old.cluster.whereabouts → Mirrors new (gone_on old w p) → Works d new (gone_on old w p)
works_on d old new w p own count s parts images ran whereabouts mirrors = record {
  goes = record {
    runs = runs_kept d old new w p own count s.goes.runs s.small parts images ran mirrors;
    idle = go_on_idle old.cluster.parts w p s.goes.idle;
    typed = subst IsTypedOnce (sym parts) s.goes.typed;
    places = silent_steps_keep_places old.cluster.parts old.cluster new.cluster w p whereabouts s.goes.places;
  };
  code = code_kept d old.cluster new.cluster parts images s.code;
  literals = literals_kept old.cluster new.cluster own count parts ran s.literals;
  small = subst SmallProgram (sym parts) s.small;
  classes = subst OfClasses (sym parts) s.classes;
  few = subst CarriesFew (sym parts) s.few;
  conditions = subst FewConditions (sym parts) s.conditions;
}

module _ (d : Declared) (s : System) (w : CodeWorld) (p : ℕ) (works : Works d s w) (h : Headings) (t : TopTold w p h)
    (done : h.pending ≡ false) where
  -- the activation on top can go on
  pub is_done : IsDoneTop w p t.below t.top
  is_done =
      idle_top_goes_on d s.cluster.parts w p t.below t.top t.is_top works.goes.runs.steady.fine works.classes works.goes.runs.sound
      works.goes.idle t.ready (sym t.pending ∙ done)

  pub goes_in : GoesIn d s w p t.below t.top
  goes_in = record { runs = works.goes.runs; code = works.code; literals = works.literals; is = is_done }

  -- what is known of it once it has gone on
  pub went_on : (new : System) (steps : ℕ) → new.cluster.parts ≡ s.cluster.parts → new.cluster.images ≡ s.cluster.images →
      Mirrors new (gone_on s w p) → Ran s.cluster new.cluster t.top.own steps →
      RanNatively s.cluster new.cluster p (length t.below) t.top.own steps → IsFew s.cluster t.top steps →
      new.cluster.whereabouts ≡ s.cluster.whereabouts → new.output ≡ s.output → WentOn d s new w p steps
  went_on new steps parts images mirrors ran native few whereabouts output = record {
    works = works_on d s new w p t.top.own steps works parts images ran whereabouts mirrors;
    ran = record {
      below = t.below;
      top = t.top;
      is_done = is_done;
      ran = ran;
      native = native;
      few = few;
      parts = parts;
      images = images;
      whereabouts = whereabouts;
      output = output;
    };
  }
