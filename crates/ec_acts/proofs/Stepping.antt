-- A step on the nodes of a system is one on the world that it shows.
use Rattle.std.proofs.Common.{◌≡◌, ℕ, List, ◌++◌, refl, sym, ap, ◌∙◌, subst}
use Rattle.std.specs.Prelude.{Err, None, Ok, OnOk, Result, length}
use Rattle.ec_cluster.proofs.Putting.{nothing_got}
use Rattle.ec_cluster.specs.Cluster.{CodeWorld, Shows}
use Rattle.ec_cluster.specs.Steps.{Changes, Nothing, with_common}
use Rattle.ec_cluster.specs.declared.cluster.Cluster.{Cluster}
use Rattle.ec_cluster.specs.Whereabouts.{made_count}
use Rattle.ec_cluster.proofs.Pools.{strings_come}
use Rattle.ec_cluster.specs.SystemSteps.{Does}
use Rattle.ec_cluster.specs.Systems.{Mirrors, Strings}
use Rattle.ec_cluster.specs.declared.system.System.{System}
use Rattle.ec_world.specs.Outcomes.{Done, done, only}
use Rattle.ec_world.specs.declared.common.Common.{Common}
use Rattle.ec_world.specs.declared.doing.Doing.{Doing}
use Rattle.ec_world.specs.declared.doing.Doing.TheVariants.{Prints}
use Rattle.ec_world.specs.declared.doing.Outcome.{Outcome}
use Rattle.ec_world.specs.declared.stop.Effect.TheVariants.{GoesOn}
use Rattle.ec_world.specs.declared.stop.Who.{Who}

-- what is on nodes has become this
abbrev pub with_cluster : System → Cluster → System
with_cluster s c = record s { cluster = c }

-- no node gets a text
pub unchanged : (c : Cluster) → Changes Nothing c c
unchanged c = record { parts = refl; images = refl; nodes = refl; each = λ k s e. (s, e, nothing_got s) }

-- what always holds does so where all went well
pub always : {X E P : Type 0} (r : Result X E) → P → OnOk r P
always (Ok x) p = p
always (Err e) p = tt

pub same_nodes : (c c' : Cluster) → c' ≡ c → Changes Nothing c c'
same_nodes c c' same = subst (λ (x : Cluster). Changes Nothing c x) (sym same) (unchanged c)

-- beside its objects a world has what it had, and as many constants
pub record Beside (c c' : Common) : Type 0 where
  pub nodes : c'.nodes ≡ c.nodes
  pub classes : c'.classes ≡ c.classes
  pub constants : length c'.globals ≡ length c.globals

-- Nodes show a world with another common part, of which all else is as it was.
pub mirrors_with_common : (old new : System) (w : CodeWorld) (c : Common) (Added : ℕ → List ℕ → Type 0) → Mirrors old w →
    Changes Added old.cluster new.cluster →
    Shows new.cluster (with_common w c) → Beside w.common c → new.processes ≡ old.processes → new.output ≡ c.output →
    length c.objects ≡ made_count new.cluster.whereabouts → Mirrors new (with_common w c)
mirrors_with_common old new w c Added mirrors changes shows beside rows output objects = record {
  shows = shows;
  rows = rows ∙ mirrors.rows;
  output = output;
  nodes = beside.nodes ∙ mirrors.nodes ∙ sym changes.nodes;
  classes = beside.classes ∙ mirrors.classes ∙ sym (ap (λ p. p.classes) changes.parts);
  objects = objects;
  constants = beside.constants ∙ mirrors.constants ∙ sym (ap (λ p. length p.constants) changes.parts);
}

-- What has been done is what the table of actions has.
pub does_so : (old new : System) (w : CodeWorld) (who : Who) (doing : Doing) (o : Outcome) (c : Common) →
    done w.common who doing ≡ (c, o) → Mirrors new (with_common w c) →
    Changes (Strings new.cluster (with_common w c)) old.cluster new.cluster → Does old new w who doing o
does_so old new w who doing o c is mirrors texts =
    let common : c ≡ (done w.common who doing).0 = sym (ap (λ (d : Done). d.0) is) in
    record {
      answers = ap (λ (d : Done). d.1) is;
      mirrors = subst (λ (x : Common). Mirrors new (with_common w x)) common mirrors;
      texts = subst (λ (x : Common). Changes (Strings new.cluster (with_common w x)) old.cluster new.cluster) common texts;
    }

-- the same answer
pub answered : {old new : System} {w : CodeWorld} {who : Who} {doing : Doing} {o o' : Outcome} → o' ≡ o → Does old new w who doing o →
    Does old new w who doing o'
answered {old = old} {new = new} {w = w} {who = who} {doing = doing} e does =
    subst (λ (x : Outcome). Does old new w who doing x) (sym e) does

-- the same doing
pub named : {old new : System} {w : CodeWorld} {who : Who} {doing doing' : Doing} {o : Outcome} → doing' ≡ doing →
    Does old new w who doing o → Does old new w who doing' o
named {old = old} {new = new} {w = w} {who = who} {o = o} e does = subst (λ (x : Doing). Does old new w who x o) (sym e) does

module _ (s : System) (w : CodeWorld) (who : Who) (mirrors : Mirrors s w) where
  -- Nothing is done.
  pub done_nothing : (doing : Doing) (o : Outcome) → done w.common who doing ≡ (w.common, o) → Does s s w who doing o
  done_nothing doing o is = does_so s s w who doing o w.common is mirrors
      (strings_come Nothing s.cluster s.cluster w (unchanged s.cluster) mirrors.shows (λ k text none. absurd none))

  -- Only the output is another.
  pub done_output : (text output : List ℕ) → output ≡ s.output ++ text →
      Does s (record s { output = output }) w who (Prints text) (only (GoesOn None))
  done_output text output is =
      let c : Common = record w.common { output = w.common.output ++ text } in
      let shows : Shows s.cluster (with_common w c) = mirrors.shows in
      does_so s (record s { output = output }) w who (Prints text) (only (GoesOn None)) c refl
      (record {
        shows = shows;
        rows = mirrors.rows;
        output = is ∙ ap (λ x. x ++ text) mirrors.output;
        nodes = mirrors.nodes;
        classes = mirrors.classes;
        objects = mirrors.objects;
        constants = mirrors.constants;
      })
      (strings_come Nothing s.cluster s.cluster (with_common w c) (unchanged s.cluster) shows (λ k text none. absurd none))

  -- Only the nodes are others, and the texts that came to them are those of the world that is shown.
  pub done_there : (c' : Cluster) (c : Common) (Added : ℕ → List ℕ → Type 0) (doing : Doing) (o : Outcome) → Changes Added s.cluster c' →
      Shows c' (with_common w c) → Beside w.common c → c.output ≡ w.common.output →
      length c.objects ≡ made_count c'.whereabouts →
      ((k : ℕ) (text : List ℕ) → Added k text → Strings c' (with_common w c) k text) → done w.common who doing ≡ (c, o) →
      Does s (with_cluster s c') w who doing o
  done_there c' c Added doing o changes shows beside output objects come is =
      does_so s (with_cluster s c') w who doing o c is
      (mirrors_with_common s (with_cluster s c') w c Added mirrors changes shows beside refl (mirrors.output ∙ sym output) objects)
      (strings_come Added s.cluster c' (with_common w c) changes shows come)
