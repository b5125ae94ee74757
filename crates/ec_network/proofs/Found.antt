-- What stands when an object was looked for: each object is where it was.
use mathlib.Core.Path.{fun_ext}
use Rattle.std.proofs.Common.{◌≡◌, ℕ, Option, sym, ◌∙◌, ap, refl, subst, Some}
use Rattle.ec_cluster.specs.Cluster.{CodeWorld, frame_of, place, stores}
use Rattle.ec_cluster.specs.Located.{Located}
use Rattle.ec_cluster.specs.Systems.{Mirrors, Runs}
use Rattle.ec_cluster.specs.Whereabouts.{Gives, Traces}
use Rattle.ec_cluster.specs.declared.system.System.{System}
use Rattle.ec_cluster.proofs.Places.{gives_located, located}
use Rattle.ec_code.specs.Typing.{Declared}
use Rattle.ec_network.proofs.Networks.{IsLeft, for_standing}
use Rattle.ec_network.specs.Nets.{Net, system_of}
use Rattle.ec_network.specs.Networks.{ForStanding, Now}
use Rattle.ec_network.specs.Standing.{Stands, StandsInSome, Works}
use Rattle.ec_network.specs.declared.nodes_running.network.Numbered.{Numbered}
use Rattle.ec_things.specs.Shows.{ShowsWorld}

-- a system whose nodes know otherwise where objects are
abbrev pub with_known : System → Traces → System
with_known s x = record s { cluster = record s.cluster { whereabouts = x } }

module _ (s : System) (x : Traces) (kept : (w : Located) → Gives s.cluster.whereabouts w → Gives x w) where
  pub same : Gives x (located s.cluster.whereabouts)
  same = kept (located s.cluster.whereabouts) (gives_located s.cluster.whereabouts)

  pub same_places : place (with_known s x).cluster ≡ place s.cluster
  same_places = fun_ext same.places

  module _ (d : Declared) (w : CodeWorld) where
    mirrors_still : Mirrors s w → Mirrors (with_known s x) w
    mirrors_still m = record {
      shows = subst (λ (at : ℕ → Option ℕ). ShowsWorld (frame_of s.cluster) (stores s.cluster) w at) (sym same_places) m.shows;
      rows = m.rows;
      output = m.output;
      nodes = m.nodes;
      classes = m.classes;
      objects = m.objects ∙ sym same.made;
      constants = m.constants;
    }

    runs_still : Runs d s w → Runs d (with_known s x) w
    runs_still r = record {
      mirrors = mirrors_still r.mirrors;
      steady = record { fine = r.steady.fine; images = r.steady.images; few_nodes = r.steady.few_nodes };
      sound = r.sound;
      ranged = r.ranged;
    }

    works_still : Works d s w → Works d (with_known s x) w
    works_still r = record {
      goes = record {
        runs = runs_still r.goes.runs;
        idle = r.goes.idle;
        typed = r.goes.typed;
        places = record { each = r.goes.places.each; placed = λ oid. same.places oid ∙ r.goes.places.placed oid };
      };
      code = record { riscv = r.code.riscv; mips = r.code.mips };
      literals = r.literals;
      small = r.small;
      classes = r.classes;
      few = r.few;
      conditions = r.conditions;
    }

    pub stands_still : Stands d s w → Stands d (with_known s x) w
    stands_still r = record { works = works_still r.works; between = r.between; placed = r.placed }

  pub left_still : StandsInSome s → IsLeft s (with_known s x)
  left_still some = record { stands = (some.0, (some.1.0, stands_still some.0 some.1.0 some.1.1)); parts = refl }

-- so the network shows the world that it showed
pub net_still : (old : Net) (n : Numbered) (x : Traces) → old ≡ Some n →
    ((w : Located) → Gives n.system.cluster.whereabouts w → Gives x w) →
    ForStanding old (λ d s w. Now (Some (record { system = with_known n.system x; numbers = n.numbers })) (λ t. Stands d t w))
net_still old n x is kept =
    for_standing (λ d s w. Now (Some (record { system = with_known n.system x; numbers = n.numbers })) (λ t. Stands d t w)) old n.system
    (ap system_of is)
    (λ d w stands. record { system = with_known n.system x; is = refl; told = stands_still n.system x kept d w stands })
