-- Process 0 begins at node 0.
use Rattle.std.proofs.Common.{◌≡◌, ℕ, List, [], ◌∷◌, ◌++◌, Some, refl, sym, ap, subst}
use Rattle.std.specs.Prelude.{length, slice_get}
use Rattle.ec_cluster.proofs.Putting.{with_node}
use Rattle.ec_cluster.specs.Cluster.{CodeWorld, Shows, frame_of, place}
use Rattle.ec_cluster.specs.Images.{homes_on}
use Rattle.ec_cluster.specs.declared.cluster.Cluster.{Cluster}
use Rattle.ec_cluster.specs.declared.cluster.Images.{Images}
use Rattle.ec_cluster.proofs.Stacks.{process_begun}
use Rattle.ec_cluster.specs.Frames.{HasImages, tables_on}
use Rattle.ec_code.specs.Activations.{begun}
use Rattle.ec_code.specs.Typing.{Declared}
use Rattle.ec_code.specs.declared.activation.CodeActivation.{CodeActivation}
use Rattle.ec_code.specs.declared.code.Parts.{Parts}
use Rattle.ec_cluster.specs.Located.{Located}
use Rattle.ec_acts.proofs.Entering.{no_first_text}
use Rattle.ec_acts.proofs.Setting.{gets_none, set_with}
use Rattle.ec_acts.specs.Loading.{IsSet}
use Rattle.ec_acts.specs.Worlds.{first_process, with_first}
use Rattle.ec_node_frames.specs.Beginning.{BeginsFrame, first_values}
use Rattle.ec_world.specs.declared.key.Key.TheVariants.{Frame}
use Rattle.ec_generate.specs.declared.table.OperationTable.{OperationTable}
use Rattle.ec_stores.specs.Node.{NodeData, store_of}
use Rattle.ec_things.specs.Texts.{GetsTexts}
use Rattle.ec_things.specs.Things.{Puts}
use Rattle.ec_world.specs.Group.{Has}
use Rattle.ec_world.specs.declared.node.NodeSpec.{NodeSpec}
use Rattle.ec_world.specs.declared.process.Proc.{Proc}
use Rattle.ec_world.specs.declared.value.Value.TheVariants.{Str}

module _ (c : Cluster) (n n' : NodeData) (is : slice_get c.nodes 0 ≡ Some n) (own : ℕ) (table : OperationTable)
    (its : slice_get (tables_on c (store_of n).kind) 0 ≡ Some table)
    (begins : BeginsFrame (store_of n) (store_of n') table 0 0 0 own [])
    (gets : GetsTexts (λ text. Has (first_values table own []) (Str text)) (store_of n) (store_of n'))
    (d : Declared) (p : Parts) (images : Images) (specs : List NodeSpec) (w : CodeWorld) (at : Located) (has : HasImages d c)
    (set : IsSet p images specs w at c) (none : w.processes ≡ []) (here : place c own ≡ Some 0) where
  abbrev first : CodeActivation
  first = begun 0 own []

  puts : Puts (store_of n) (store_of n') (Frame 0 0) (Some (frame_of c 0 0 first))
  puts = begins d c.parts (homes_on c.images) (tables_on c (store_of n).kind) (has (store_of n).kind) its

  shown : Shows (with_node c 0 n') (with_first w own)
  shown =
      let many : length w.processes ≡ 0 = ap length none in
      subst (λ (ps : List (Proc CodeActivation)).
      Shows (with_node c 0 n') (record w { processes = ps ++ first_process own ∷ [] })) none
      (process_begun c 0 n n' w is set.shows (first_process own) first refl here
      (subst (λ x. Puts (store_of n) (store_of n') (Frame x 0) (Some (frame_of c x 0 first))) (sym many) puts))

  pub first_set : IsSet p images specs (with_first w own) at (with_node c 0 n')
  first_set = set_with p images specs w at c set 0 n n' is (Frame 0 0) (Some (frame_of c 0 0 first)) puts
      (gets_none (λ text. Has (first_values table own []) (Str text)) (store_of n) (store_of n') (no_first_text table own) gets)
      c.whereabouts (with_first w own) at set.whereabouts set.many shown
