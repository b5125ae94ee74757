-- Parts of activations, by the tables of a node's kind.
use Rattle.std.proofs.Common.{◌≡◌, ℕ, List, ◌∷◌, sym, ap, ◌∙◌, subst, inl, inr, ⊎_elim}
use Rattle.ec_node_frames.specs.Carried.{IsCarried}
use Rattle.ec_carrying.specs.Landing.{IsPartOf}
use Rattle.ec_cluster.specs.Images.{homes_on, image_of}
use Rattle.ec_cluster.specs.declared.cluster.Cluster.{Cluster}
use Rattle.ec_cluster.specs.declared.cluster.Images.{Images}
use Rattle.ec_cluster.specs.Frames.{HasImages}
use Rattle.ec_cluster.specs.Stops.{tables_for}
use Rattle.ec_code.specs.Typing.{Declared}
use Rattle.ec_code.specs.declared.activation.CodeActivation.{CodeActivation}
use Rattle.ec_code.specs.declared.code.Parts.{Parts}
use Rattle.ec_generate.specs.declared.image.Image.{Image}
use Rattle.ec_parcels.proofs.Stops.{part_heads, stop_there, table_there}
use Rattle.ec_parcels.specs.Activations.{IsStopOf, activation_part_of, headings_in}
use Rattle.ec_node_frames.specs.Frames.{HasTables}
use Rattle.ec_generate.specs.declared.table.OperationTable.{OperationTable}
use Rattle.ec_generate.specs.declared.table.StopEntry.{StopEntry}
use Rattle.ec_things.specs.Store.{Store}
use Rattle.ec_things.specs.Texts.{GetsTexts, InPool}
use Rattle.ec_wire.specs.declared.parcel.ActivationPart.{ActivationPart}
use Rattle.ec_world.proofs.Members.{has_later, has_parts}
use Rattle.ec_world.specs.Group.{Has}
use Rattle.ec_world.specs.declared.node.Kind.{Kind}
use Rattle.ec_world.specs.declared.value.Value.{Value}
use Rattle.ec_world.specs.declared.value.Value.TheVariants.{Ref, Str}

-- the tables of an image are those for the kind of a node
pub tables_are : (images : Images) (s : Store) (kind : Kind) (image : Image) → kind ≡ s.kind → image ≡ image_of images kind →
    image.table.operations ≡ tables_for images s
tables_are images s kind image kind_is is =
    ap (λ (i : Image). i.table.operations) is ∙ ap (λ k. (image_of images k).table.operations) kind_is

module _ (c : Cluster) (s : Store) (tables : List OperationTable) (same : tables ≡ tables_for c.images s) (d : Declared)
    (images : HasImages d c) (part : ActivationPart) (a : CodeActivation) (e : StopEntry) (of : IsPartOf c part a e) where
  abbrev its_part : ActivationPart
  its_part = activation_part_of part.process part.depth c.parts a e

  has : HasTables d c.parts s.kind (homes_on c.images) tables
  has = subst (λ (ts : List OperationTable). HasTables d c.parts s.kind (homes_on c.images) ts) (sym same) (images s.kind)

  -- the node's tables have its stop
  pub is_stop : (t : OperationTable) × IsStopOf tables part t e
  is_stop =
      let t = table_there d c.parts s.kind (homes_on c.images) tables has a e of.carried in (
        t.0,
        subst (λ (x : ActivationPart). IsStopOf tables x t.0 e) (sym of.is) (record {
          its = t.1;
          stop = stop_there d c.parts s.kind (homes_on c.images) tables has a e of.carried (headings_in its_part) t.0
              (part_heads part.process part.depth c.parts a e) t.1;
        }),
      )

-- a reference in front brings no text
pub gets_behind : (s s' : Store) (own : ℕ) (values : List Value) → GetsTexts (λ text. Has (Ref own ∷ values) (Str text)) s s' →
    GetsTexts (λ text. Has values (Str text)) s s'
gets_behind s s' own values gets = record {
  kind = gets.kind;
  room = gets.room;
  text_room = gets.text_room;
  count = gets.count;
  texts = λ text. (
    λ h. ⊎_elim
        (λ (old : InPool s text). inl old)
        (λ (new : Has (Ref own ∷ values) (Str text)). ⊎_elim
        (λ (e : Str text ≡ Ref own). absurd cc)
        (λ (l : Has values (Str text)). inr l)
        (has_parts (Ref own) (Str text) values new))
        ((gets.texts text).0 h),
    λ h. (gets.texts text).1 (⊎_elim
        (λ (old : InPool s text). inl old)
        (λ (new : Has values (Str text)). inr (has_later (Ref own) (Str text) values new))
        h),
  );
  stay = gets.stay;
}

-- ---- on other nodes of the program

abbrev ImagesBy : Declared → Parts → Images → Type 0
ImagesBy d parts images = (kind : Kind) → HasTables d parts kind (homes_on images) ((image_of images kind).table.operations)

module _ (c now : Cluster) (parts : now.parts ≡ c.parts) (images : now.images ≡ c.images) where
  pub images_along : (d : Declared) → HasImages d c → HasImages d now
  images_along d has =
      subst (λ (p : Parts). ImagesBy d p now.images) (sym parts) (subst (λ (i : Images). ImagesBy d c.parts i) (sym images) has)

  pub part_along : (part : ActivationPart) (a : CodeActivation) (e : StopEntry) → IsPartOf c part a e → IsPartOf now part a e
  part_along part a e of = record {
    carried = subst (λ (p : Parts). IsCarried p a e) (sym parts) of.carried;
    is = subst (λ (p : Parts). part ≡ activation_part_of part.process part.depth p a e) (sym parts) of.is;
  }
