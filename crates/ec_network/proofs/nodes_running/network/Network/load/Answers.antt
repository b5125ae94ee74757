-- What is loaded stands in its first world, and has the numbers of its classes.
use Rattle.std.proofs.Common.{List, Some, ap, length, refl, subst, sym, ◌∙◌}
use Rattle.ec_cluster.proofs.Going.{first_none}
use Rattle.ec_parcels.specs.Vectors.{table_of}
use Rattle.ec_acts.specs.Worlds.{world_first}
use Rattle.ec_network.proofs.Loading.{stands_first}
use Rattle.ec_network.proofs.nodes_running.network.Network.load.Goals as goal
use Rattle.ec_code.specs.declared.code.Parts.{Parts}
use Rattle.ec_generate.specs.Limits.{FewConditionsIn}
use Rattle.ec_world.specs.declared.class.ClassRec.{ClassRec}

pub load-requires : goal.load-requires
load-requires c = c.requires.loads

pub returns-in-Ok-load-clause-loaded : goal.returns-in-Ok-load-clause-loaded
returns-in-Ok-load-clause-loaded c =
    let conditions = subst (λ (classes : List ClassRec). FewConditionsIn classes) c.as_slice.ensures c.look_at_conditions.ensures in
    record {
      start = c.in-Ok-load.system;
      is = refl;
      numbers = ap Some c.in-Ok.ensures;
      loaded = c.in-Ok-load.ensures.loaded;
      stands = λ d are code.
          stands_first c.args.parts c.args.images c.args.specs.now c.in-Ok-load.system c.in-Ok-load.ensures.loaded d c.requires conditions
          (c.in-Ok-load.ensures.runs d are) code;
    }

pub returns-in-Ok-load-clause-moves : goal.returns-in-Ok-load-clause-moves
returns-in-Ok-load-clause-moves c = λ x.
    c.in-Ok-load.ensures.loaded.whereabouts.moves x ∙ first_none (length c.args.specs.now) x

pub invariant_of-result : goal.invariant_of-result
invariant_of-result c =
    let d = c.requires.loads.declared in
    let conditions = subst (λ (classes : List ClassRec). FewConditionsIn classes) c.as_slice.ensures c.look_at_conditions.ensures in (
      (
        d,
        (
          world_first (length c.args.specs.now) c.args.parts,
          stands_first c.args.parts c.args.images c.args.specs.now c.in-Ok-load.system c.in-Ok-load.ensures.loaded d c.requires conditions
              (c.in-Ok-load.ensures.runs d c.requires.loads.tables) c.requires.code,
        ),
      ),
      record {
        written = c.args.written.now;
        is = c.in-Ok.ensures ∙ ap (λ (p : Parts). table_of p c.args.written.now) (sym c.in-Ok-load.ensures.loaded.parts);
      },
    )
