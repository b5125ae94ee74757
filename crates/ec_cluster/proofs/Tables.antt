-- What is read of images and tables by the headings of a frame.
use Rattle.std.proofs.Common.{◌≡◌, ◌<◌, ℕ, Some, sym, ap, ◌∙◌, subst}
use Rattle.std.specs.Prelude.{length, slice_get}
use Rattle.std.proofs.lemmas.Option.{same_Some}
use Rattle.ec_base.proofs.Lists.{get_within}
use Rattle.ec_cluster.specs.Images.{image_of}
use Rattle.ec_cluster.specs.declared.cluster.Images.{Images}
use Rattle.ec_cluster.specs.Stops.{tables_for}
use Rattle.ec_generate.specs.declared.image.Image.{Image}
use Rattle.ec_generate.specs.declared.table.OperationTable.{OperationTable}
use Rattle.ec_things.specs.Store.{Store}
use Rattle.ec_world.specs.declared.node.Kind.{Kind}

module _ (images : Images) (s : Store) (kind : Kind) (image : Image) (kind_is : kind ≡ s.kind) (is : image ≡ image_of images kind) where
  tables_same : image.table.operations ≡ tables_for images s
  tables_same = ap (λ (i : Image). i.table.operations) is ∙ ap (λ k. (image_of images k).table.operations) kind_is

  pub table_within : (op named : ℕ) (t : OperationTable) → named ≡ op → slice_get (tables_for images s) op ≡ Some t →
      named < length image.table.operations
  table_within op named t same there =
      get_within image.table.operations named t (ap (λ ts. slice_get ts named) tables_same ∙ ap (slice_get (tables_for images s)) same
      ∙ there)

  pub table_got : (op named : ℕ) (t : OperationTable) → named ≡ op → slice_get image.table.operations named ≡ Some t →
      slice_get (tables_for images s) op ≡ Some t
  table_got op named t same got =
      ap (slice_get (tables_for images s)) (sym same) ∙ ap (λ ts. slice_get ts named) (sym tables_same) ∙ got
