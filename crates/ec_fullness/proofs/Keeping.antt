-- What holds of texts and of the program still holds after a step.
use Rattle.std.proofs.Common.{◌≡◌, ◌≤◌, ◌⊎◌, ℕ, List, inl, inr, ⊎_elim, sym, ◌∙◌, subst}
use Rattle.ec_cluster.specs.Cluster.{CodeWorld, Shows}
use Rattle.ec_cluster.specs.Steps.{Changes}
use Rattle.ec_cluster.specs.declared.cluster.Cluster.{Cluster}
use Rattle.ec_cluster.specs.declared.cluster.Images.{Images}
use Rattle.ec_cluster.specs.Frames.{HasImages}
use Rattle.ec_code.specs.Fine.{Fine}
use Rattle.ec_code.specs.Typing.{Declared}
use Rattle.ec_code.specs.declared.code.Parts.{Parts}
use Rattle.ec_code.specs.Worlds.{most_nodes}
use Rattle.ec_cluster.proofs.Pools.{strings_in_pool}
use Rattle.ec_cluster.specs.Systems.{Steady, Strings}
use Rattle.ec_things.specs.Texts.{GetsTexts, InPool}

-- A step brings the texts of a world, and the next one those of another, which has each text of the first that the nodes hadn't at first:
-- both bring the texts of the second world.
pub strings_then : (c c1 c2 : Cluster) (w w1 w2 : CodeWorld) → Changes (Strings c1 w1) c c1 → Changes (Strings c2 w2) c1 c2 → Shows c w →
    ((k : ℕ) (text : List ℕ) → Strings c1 w1 k text → Strings c w k text ⊎ Strings c2 w2 k text) → Changes (Strings c2 w2) c c2
strings_then c c1 c2 w w1 w2 first second shows each = record {
  parts = second.parts ∙ first.parts;
  images = second.images ∙ first.images;
  nodes = second.nodes ∙ first.nodes;
  each = λ k s e.
      let x = first.each k s e in
      let y = second.each k x.0 x.1 in
      let one : GetsTexts (Strings c1 w1 k) s x.0 = x.2 in
      let two : GetsTexts (Strings c2 w2 k) x.0 y.0 = y.2 in (
        y.0,
        y.1,
        record {
          kind = two.kind ∙ one.kind;
          room = two.room ∙ one.room;
          text_room = two.text_room ∙ one.text_room;
          count = two.count ∙ one.count;
          texts = λ text. (
            λ h. ⊎_elim
                (λ (between : InPool x.0 text). ⊎_elim
                (λ (old : InPool s text). inl old)
                (λ (came : Strings c1 w1 k text). ⊎_elim
                (λ (had : Strings c w k text). inl (strings_in_pool c w k s text shows e had))
                (λ (has : Strings c2 w2 k text). inr has)
                (each k text came))
                ((one.texts text).0 between))
                (λ (has : Strings c2 w2 k text). inr has)
                ((two.texts text).0 h),
            λ h. ⊎_elim
                (λ (old : InPool s text). (two.texts text).1 (inl ((one.texts text).1 (inl old))))
                (λ (has : Strings c2 w2 k text). (two.texts text).1 (inr has))
                h,
          );
          stay = λ i text h. two.stay i text (one.stay i text h);
        },
      );
}

images_same : (d : Declared) (c c' : Cluster) → c'.parts ≡ c.parts → c'.images ≡ c.images → HasImages d c → HasImages d c'
images_same d c c' parts images has = subst (λ (i : Images). HasImages d (record c' { images = i })) (sym images)
    (subst (λ (p : Parts). HasImages d (record c' { parts = p; images = c.images })) (sym parts) has)

-- the images are still those of the program
pub images_after : (d : Declared) (Added : ℕ → List ℕ → Type 0) (c c' : Cluster) → Changes Added c c' → HasImages d c → HasImages d c'
images_after d Added c c' changes has = images_same d c c' changes.parts changes.images has

pub steady_after : (d : Declared) (Added : ℕ → List ℕ → Type 0) (c c' : Cluster) → Changes Added c c' → Steady d c → Steady d c'
steady_after d Added c c' changes steady = record {
  fine = subst (λ (p : Parts). Fine d p) (sym changes.parts) steady.fine;
  images = images_after d Added c c' changes steady.images;
  few_nodes = subst (λ n. n ≤ most_nodes) (sym changes.nodes) steady.few_nodes;
}
