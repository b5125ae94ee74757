-- What has been loaded stands in its first world.
use Rattle.std.proofs.Common.{◌<◌, List, [], sym, ap, ◌∙◌, subst}
use Rattle.std.specs.Prelude.{length, slice_get}
use Rattle.ec_asking.specs.Typed.{IsTypedOnce}
use Rattle.ec_base.proofs.Lists.{get_there}
use Rattle.ec_cluster.proofs.Putting.{is_node}
use Rattle.ec_cluster.specs.Images.{homes_on}
use Rattle.ec_cluster.specs.declared.cluster.Images.{Images}
use Rattle.ec_code.specs.Fine.{Fine}
use Rattle.ec_code.specs.Typing.{Declared}
use Rattle.ec_code.specs.declared.code.Parts.{Parts}
use Rattle.ec_legs.specs.Going.{HasCode, HasLiterals}
use Rattle.ec_code.proofs.IdleWorlds.{run_idle}
use Rattle.ec_code.specs.Idle.{OfClasses}
use Rattle.ec_packing.proofs.Worlds.{first_between}
use Rattle.ec_packing.specs.Between.{IsBetween}
use Rattle.ec_legs.specs.Legs.{IsCodeOf}
use Rattle.ec_acts.specs.Loaded.{Loaded}
use Rattle.ec_acts.specs.Worlds.{world_first}
use Rattle.ec_network.proofs.Homes.{first_placed}
use Rattle.ec_network.specs.Nets.{AreCode}
use Rattle.ec_network.specs.Networks.{CanRun}
use Rattle.ec_network.specs.Standing.{Stands, Works}
use Rattle.ec_rooms.proofs.First.{first_are_placed}
use Rattle.ec_code.specs.Code.{SmallProgram}
use Rattle.ec_cluster.specs.Systems.{Runs}
use Rattle.ec_cluster.specs.declared.system.System.{System}
use Rattle.ec_generate.specs.Limits.{CarriesFew, FewConditions}
use Rattle.ec_world.specs.declared.node.Kind.TheVariants.{Riscv, Mips}
use Rattle.ec_world.specs.declared.node.NodeSpec.{NodeSpec}
use Rattle.mips_code.specs.Meaning.{mips_meaning}
use Rattle.rv_code.specs.Meaning.{rv_meaning}

module _ (p : Parts) (images : Images) (specs : List NodeSpec) (s : System) (loaded : Loaded p images specs s) where
  -- what is said of the program and its images is said of those of the nodes
  there : (P : Parts → Images → Type 0) → P p images → P s.cluster.parts s.cluster.images
  there P h = subst (λ q. P q s.cluster.images) (sym loaded.parts) (subst (λ i. P p i) (sym loaded.images_are) h)

  code_there : (d : Declared) → AreCode d p images → HasCode d s.cluster
  code_there d code = record {
    riscv = there (λ q i. IsCodeOf rv_meaning i.riscv.code i.riscv.table d q (homes_on i)) (code Riscv);
    mips = there (λ q i. IsCodeOf mips_meaning i.mips.code i.mips.table d q (homes_on i)) (code Mips);
  }

  literals_there : HasLiterals s.cluster
  literals_there k i store text at is =
      let within : k < length specs = subst (λ n. k < n) loaded.nodes (is_node s.cluster k store at) in
      let spec = get_there specs k within in
      (loaded.sizes k spec.0 store spec.1 at).texts i ∙ ap (λ (q : Parts). slice_get q.literals i) (sym loaded.parts) ∙ is

  module _ (d : Declared) (can : CanRun p images specs) (conditions : FewConditions p) (runs : Runs d s (world_first (length specs) p))
      (code : AreCode d p images) where
    works_first : Works d s (world_first (length specs) p)
    works_first = record {
      goes = record {
        runs = runs;
        idle = run_idle d p (subst (Fine d) loaded.parts runs.steady.fine) (length specs) [];
        typed = subst IsTypedOnce (sym loaded.parts) can.typed;
        places = first_are_placed p images specs s loaded;
      };
      code = code_there d code;
      literals = literals_there;
      small = subst SmallProgram (sym loaded.parts) can.small;
      classes = subst OfClasses (sym loaded.parts) can.classes;
      few = subst CarriesFew (sym loaded.parts) can.few;
      conditions = subst FewConditions (sym loaded.parts) conditions;
    }

    pub stands_first : Stands d s (world_first (length specs) p)
    stands_first = record {
      works = works_first;
      between = subst (λ (q : Parts). IsBetween q (world_first (length specs) p)) (sym loaded.parts)
          (first_between d p (subst (Fine d) loaded.parts runs.steady.fine) (length specs));
      placed = first_placed (length specs) p;
    }
