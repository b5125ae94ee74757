-- What a system keeps when an activation has gone on.
use Rattle.std.proofs.Common.{◌≡◌, ◌<◌, ◌≤◌, ℕ, length, Some, sym, ap, ◌∙◌, subst}
use Rattle.std.specs.Prelude.{option_map, slice_get}
use Rattle.std.proofs.lemmas.Option.{same_Some}
use Rattle.ec_base.proofs.Lists.{get_there}
use Rattle.ec_cluster.proofs.Putting.{is_node}
use Rattle.ec_cluster.specs.Cluster.{CodeWorld, stores}
use Rattle.ec_cluster.specs.Images.{homes_on, image_of}
use Rattle.ec_cluster.specs.declared.cluster.Cluster.{Cluster}
use Rattle.ec_cluster.specs.declared.cluster.Images.{Images}
use Rattle.ec_code.specs.Activations.{code_meaning, code_silent}
use Rattle.ec_code.specs.Fine.{Fine}
use Rattle.ec_code.specs.Typing.{Declared}
use Rattle.ec_code.specs.declared.code.Parts.{Parts}
use Rattle.ec_legs.specs.Going.{HasCode, HasLiterals, Ran}
use Rattle.ec_legs.specs.Legs.{IsCodeOf}
use Rattle.ec_node_frames.specs.Frames.{HasTables}
use Rattle.ec_code.proofs.RangesWorlds.{go_on_ranged}
use Rattle.ec_code.specs.Code.{SmallProgram}
use Rattle.ec_code.specs.Worlds.{most_nodes}
use Rattle.ec_code.proofs.SoundWorlds.{go_on_sound}
use Rattle.ec_code.specs.Sound.{SoundWorld}
use Rattle.ec_stores.specs.Node.{store_of}
use Rattle.ec_cluster.specs.Systems.{Mirrors, Runs, Steady}
use Rattle.ec_cluster.specs.declared.system.System.{System}
use Rattle.ec_things.specs.Store.{Store}
use Rattle.ec_world.specs.World.{GoOn}
use Rattle.mips_code.specs.Meaning.{mips_meaning}
use Rattle.rv_code.specs.Meaning.{rv_meaning}

module _ (d : Declared) (c c' : Cluster) (parts : c'.parts ≡ c.parts) (images : c'.images ≡ c.images) where
  -- what is said of a program and its images
  same : (P : Parts → Images → Type 0) → P c.parts c.images → P c'.parts c'.images
  same P h = subst (λ q. P q c'.images) (sym parts) (subst (λ i. P c.parts i) (sym images) h)

  pub code_kept : HasCode d c → HasCode d c'
  code_kept h = record {
    riscv = same (λ q i. IsCodeOf rv_meaning i.riscv.code i.riscv.table d q (homes_on i)) h.riscv;
    mips = same (λ q i. IsCodeOf mips_meaning i.mips.code i.mips.table d q (homes_on i)) h.mips;
  }

  pub steady_kept : length c'.nodes ≡ length c.nodes → Steady d c → Steady d c'
  steady_kept nodes h = record {
    fine = subst (Fine d) (sym parts) h.fine;
    images = λ kind. same (λ q i. HasTables d q kind (homes_on i) (image_of i kind).table.operations) (h.images kind);
    few_nodes = subst (λ n. n ≤ most_nodes) (sym nodes) h.few_nodes;
  }

pub literals_kept : (c c' : Cluster) (own count : ℕ) → c'.parts ≡ c.parts → Ran c c' own count → HasLiterals c → HasLiterals c'
literals_kept c c' own count parts ran h k i s text e f =
    let within : k < length c.nodes = subst (λ n. k < n) ran.nodes (is_node c' k s e) in
    let n = get_there c.nodes k within in
    let was : stores c k ≡ Some (store_of n.0) = ap (option_map store_of) n.1 in
    let now = ran.each k (store_of n.0) was in
    let is : now.0 ≡ s = same_Some now.0 s (sym now.1 ∙ e) in
    let had : (store_of n.0).text i ≡ Some text = h k i (store_of n.0) text was (ap (λ (q : Parts). slice_get q.literals i) (sym parts) ∙
    f) in
    subst (λ (x : Store). x.text i ≡ Some text) is (now.2.same.text i ∙ had)

pub runs_kept : (d : Declared) (s t : System) (w : CodeWorld) (p own count : ℕ) → Runs d s w → SmallProgram s.cluster.parts →
    t.cluster.parts ≡ s.cluster.parts → t.cluster.images ≡ s.cluster.images → Ran s.cluster t.cluster own count →
    Mirrors t (GoOn code_meaning (code_silent s.cluster.parts) w p) → Runs d t (GoOn code_meaning (code_silent s.cluster.parts) w p)
runs_kept d s t w p own count runs small parts images ran mirrors = record {
  mirrors = mirrors;
  steady = steady_kept d s.cluster t.cluster parts images ran.nodes runs.steady;
  sound =
      subst (λ q. SoundWorld d q (GoOn code_meaning (code_silent s.cluster.parts) w p)) (sym parts)
      (go_on_sound d s.cluster.parts runs.steady.fine w p runs.sound);
  ranged = go_on_ranged s.cluster.parts small w p runs.ranged;
}
