-- Worlds with the same objects look the same.
use Rattle.std.proofs.Common.{◌≡◌, ℕ, List, Option, sym, ap, ◌∙◌, subst}
use Rattle.std.specs.Prelude.{IsSome, length, option_map}
use mathlib.Core.Path.{fun_ext}
use Rattle.std.proofs.lemmas.List.{length-map}
use Rattle.ec_cluster.specs.Cluster.{CodeWorld}
use Rattle.ec_cluster.specs.declared.cluster.Cluster.{Cluster}
use Rattle.ec_cluster.proofs.Reading.{objects_read}
use Rattle.ec_cluster.specs.Decoded.{seen_common}
use Rattle.ec_cluster.specs.Seeing.{ShowsProgram}
use Rattle.ec_world.proofs.Rounds.{group_of_is, group_of_same}
use Rattle.ec_world.specs.Group.{Has, InGroup, group_of, links_if, links_of}
use Rattle.ec_world.specs.Group.InGroup.{Itself, Linked}
use Rattle.ec_world.specs.Objects.{elements_if, fixed_if, object_at}
use Rattle.ec_world.specs.Sights.{Sight, class_of, element_in, sight_of}
use Rattle.ec_world.specs.declared.class.ClassRec.{ClassRec}
use Rattle.ec_world.specs.declared.common.Common.{Common}
use Rattle.ec_world.specs.declared.object.ObjectRec.{ObjectRec}
use Rattle.ec_world.specs.declared.value.Value.TheVariants.{Nil}

module _ (c d : Common) (classes : c.classes ≡ d.classes) (objects : c.objects ≡ d.objects) where
  there_same : (x : ℕ) → object_at c.objects x ≡ object_at d.objects x
  there_same x = ap (λ (os : List ObjectRec). object_at os x) objects

  links_same : (x : ℕ) → links_of c x ≡ links_of d x
  links_same x =
      ap (λ (ks : List ClassRec). links_if ks (object_at c.objects x)) classes ∙ ap (links_if d.classes) (there_same x)

  into : (x y : ℕ) → InGroup c x y → InGroup d x y
  into x _ (Itself there) = Itself (subst (λ (o : Option ObjectRec). IsSome o) (there_same x) there)
  into x _ (Linked y z g h i) =
      Linked y z (into x y g) (subst (λ (zs : List ℕ). Has zs z) (links_same y) h)
      (subst (λ (o : Option ObjectRec). IsSome o) (there_same z) i)

group_same : (c d : Common) → c.classes ≡ d.classes → c.objects ≡ d.objects → (x : ℕ) → group_of c x ≡ group_of d x
group_same c d classes objects x =
    let g = group_of_is c x in
    group_of_same d x (group_of c x) (record {
      rising = g.rising;
      each = λ y. (λ h. into c d classes objects x y ((g.each y).0 h), λ i. (g.each y).1 (into d c (sym classes) (sym objects) x y i));
    })

abbrev sight_with : ℕ → List ClassRec → ℕ → List ObjectRec → (ℕ → List ℕ) → Sight
sight_with nodes classes constants objects group = record {
  nodes = nodes;
  classes = classes;
  constants = constants;
  class = λ oid. class_of (object_at objects oid);
  size = λ oid. option_map length (elements_if (object_at objects oid));
  element = λ oid index. element_in (elements_if (object_at objects oid)) index;
  fixed = λ oid. fixed_if (object_at objects oid);
  group = group;
}

pub sight_same : (c d : Common) → c.nodes ≡ d.nodes → c.classes ≡ d.classes → length c.globals ≡ length d.globals →
    c.objects ≡ d.objects → sight_of c ≡ sight_of d
sight_same c d nodes classes constants objects =
    ap (λ n. sight_with n c.classes (length c.globals) c.objects (group_of c)) nodes
    ∙ ap (λ ks. sight_with d.nodes ks (length c.globals) c.objects (group_of c)) classes
    ∙ ap (λ n. sight_with d.nodes d.classes n c.objects (group_of c)) constants
    ∙ ap (λ os. sight_with d.nodes d.classes (length d.globals) os (group_of c)) objects
    ∙ ap (sight_with d.nodes d.classes (length d.globals) d.objects) (fun_ext (group_same c d classes objects))

-- a reader of nodes sees the world that they show
pub sight_shown : (c : Cluster) (w : CodeWorld) → ShowsProgram c w → sight_of (seen_common c) ≡ sight_of w.common
sight_shown c w h =
    sight_same (seen_common c) w.common (sym h.nodes) (sym h.classes) (length-map c.parts.constants (λ t. Nil) ∙ sym h.constants)
    (objects_read c w h)
