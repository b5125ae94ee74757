-- What is seen of an object that has been found.
use Rattle.std.proofs.Common.{◌≡◌, ℕ, ◌+◌, ◌*◌, ◌/◌, ◌<◌, ◌≤◌, max, List, [], length, Option, Some, None, refl, sym, ap, ◌∙◌, subst, arith}
use Rattle.std.proofs.lemmas.Option.{same_Some}
use Rattle.std.specs.Prelude.{IsSome, option_map, slice_get}
use Rattle.ec_activations.specs.Frames.{or_nil}
use Rattle.ec_cluster.specs.declared.cluster.Cluster.{Cluster}
use Rattle.ec_world.specs.Things.{class_blocks}
use Rattle.ec_world.specs.declared.key.Key.TheVariants.{Object}
use Rattle.ec_objects.specs.Values.{value_of}
use Rattle.ec_cluster.proofs.Listing.{each-get, each-length, each-past}
use Rattle.ec_cluster.specs.Decoded.{decoded, field_of, fields_of, read_as, seen_common}
use Rattle.ec_cluster.specs.Kinds.{kind_at}
use Rattle.ec_cluster.specs.Seeing.{IsSeenAt}
use Rattle.ec_stores.specs.Changes.{OwnsWord, WordIs}
use Rattle.ec_stores.specs.declared.rows.Object.{Object as ObjectData}
use Rattle.ec_things.specs.Store.{Owned, Store, word_of}
use Rattle.ec_world.specs.Group.{fields_if, links_if, links_in, links_of}
use Rattle.ec_world.specs.Objects.{class_at, element_kind, elements_if, elements_of_class, fixed_if, object_at}
use Rattle.ec_world.specs.Sights.{class_of, element_in}
use Rattle.ec_world.specs.declared.class.ClassNo.{ClassNo}
use Rattle.ec_world.specs.declared.class.ClassNo.TheVariants.{Node, Program, Made, Vector}
use Rattle.ec_world.specs.declared.class.ClassRec.{ClassRec}
use Rattle.ec_world.specs.declared.class.FieldRec.{FieldRec}
use Rattle.ec_world.specs.declared.class.VectorType.{VectorType}
use Rattle.ec_world.specs.declared.object.ObjectRec.{ObjectRec}
use Rattle.ec_world.specs.declared.value.Value.{Value}
use Rattle.ec_world.specs.declared.value.ValueType.{ValueType}

within_blocks : (size i : ℕ) → i < size → i < 128 * max 1 ((size + 127) / 128)
within_blocks size i l = omega arith

-- an object of a made class or a vector has a word for each field
pub fits_made : (class : ClassNo) (k size i blocks : ℕ) → class ≡ Made k → blocks ≡ class_blocks class size → i < size → i < 128 * blocks
fits_made class k size i blocks is many l =
    let e : blocks ≡ max 1 ((size + 127) / 128) = many ∙ ap (λ (x : ClassNo). class_blocks x size) is in
    subst (λ b. i < 128 * b) (sym e) (within_blocks size i l)

pub fits_vector : (class : ClassNo) (of : VectorType) (size i blocks : ℕ) → class ≡ Vector of → blocks ≡ class_blocks class size →
    i < size → i < 128 * blocks
fits_vector class of size i blocks is many l =
    let e : blocks ≡ max 1 ((size + 127) / 128) = many ∙ ap (λ (x : ClassNo). class_blocks x size) is in
    subst (λ b. i < 128 * b) (sym e) (within_blocks size i l)

abbrev pub values_if : Option ObjectRec → List Value
values_if None = []
values_if (Some o) = o.fields

-- the fields or elements of an object that is seen
abbrev pub values_of : Cluster → ℕ → List Value
values_of c oid = values_if (object_at (decoded c) oid)

module _ (c : Cluster) (oid : ℕ) (s : Store) (o : ObjectData) (h : IsSeenAt c oid s o) where
  -- ---- class, size and fixedness

  pub class_seen : class_of (object_at (decoded c) oid) ≡ Some o.class
  class_seen = ap class_of h.seen

  pub fixed_seen : fixed_if (object_at (decoded c) oid) ≡ o.fixed
  fixed_seen = ap fixed_if h.seen

  pub size_seen : (class : ClassNo) → o.class ≡ class →
      option_map length (elements_if (object_at (decoded c) oid)) ≡
      option_map length (elements_of_class class (fields_of c.parts.classes s o.class h.row.blocks o.size))
  size_seen class is =
      ap (λ (x : Option ObjectRec). option_map length (elements_if x)) h.seen
      ∙ ap (λ (k : ClassNo). option_map length (elements_of_class k (fields_of c.parts.classes s o.class h.row.blocks o.size))) is

  pub vector_size : (of : VectorType) → o.class ≡ Vector of → option_map length (elements_if (object_at (decoded c) oid)) ≡ Some o.size
  vector_size of is =
      size_seen (Vector of) is ∙ ap Some (each-length (λ i. or_nil (field_of c.parts.classes s o.class h.row.blocks i)) 0 o.size)

  -- ---- words

  pub word_read : (i w : ℕ) (kind : ValueType) → WordIs s (Object oid) i w → kind_at c.parts.classes o.class i ≡ Some kind →
      field_of c.parts.classes s o.class h.row.blocks i ≡ value_of s kind w
  word_read i w kind is k =
      let row : is.row ≡ h.row = same_Some is.row h.row (sym is.there ∙ h.kept) in
      let word : word_of s h.row.blocks i ≡ Some w = subst (λ (r : Owned). word_of s r.blocks i ≡ Some w) row is.is in
      ap (λ (t : Option ValueType). read_as s t (word_of s h.row.blocks i)) k ∙ ap (read_as s (Some kind)) word

  pub word_can : (i w : ℕ) (kind : ValueType) → WordIs s (Object oid) i w → kind_at c.parts.classes o.class i ≡ Some kind → i < o.size →
      IsSome (value_of s kind w)
  word_can i w kind is k l = subst (λ (v : Option Value). IsSome v) (word_read i w kind is k) (h.each i l)

  -- a field that has been read is that of the object
  pub value_seen : (i w : ℕ) (kind : ValueType) (v : Value) → WordIs s (Object oid) i w → kind_at c.parts.classes o.class i ≡ Some kind →
      i < o.size → value_of s kind w ≡ Some v → slice_get (fields_of c.parts.classes s o.class h.row.blocks o.size) i ≡ Some v
  value_seen i w kind v is k l e =
      let z : 0 + i ≡ i = omega arith in
      each-get (λ j. or_nil (field_of c.parts.classes s o.class h.row.blocks j)) 0 o.size i l
      ∙ ap (λ j. Some (or_nil (field_of c.parts.classes s o.class h.row.blocks j))) z
      ∙ ap (λ (u : Option Value). Some (or_nil u)) (word_read i w kind is k ∙ e)

  -- the same of the object that is seen
  pub value_is : (i w : ℕ) (kind : ValueType) (v : Value) → WordIs s (Object oid) i w → kind_at c.parts.classes o.class i ≡ Some kind →
      i < o.size → value_of s kind w ≡ Some v → slice_get (values_of c oid) i ≡ Some v
  value_is i w kind v is k l e =
      ap (λ (x : Option ObjectRec). slice_get (values_if x) i) h.seen ∙ value_seen i w kind v is k l e

  pub values_many : length (values_of c oid) ≡ o.size
  values_many =
      ap (λ (x : Option ObjectRec). length (values_if x)) h.seen
      ∙ each-length (λ i. or_nil (field_of c.parts.classes s o.class h.row.blocks i)) 0 o.size

  -- ---- elements

  pub vector_owns : (of : VectorType) (i : ℕ) → o.class ≡ Vector of → i < o.size → OwnsWord s (Object oid) i
  vector_owns of i is l =
      record { row = h.row; there = h.kept; within = fits_vector o.class of o.size i (length h.row.blocks) is h.blocks l }

  vector_kind : (of : VectorType) (i : ℕ) → o.class ≡ Vector of → kind_at c.parts.classes o.class i ≡ Some (element_kind of)
  vector_kind of i is = ap (λ (k : ClassNo). kind_at c.parts.classes k i) is

  pub vector_can : (of : VectorType) (i w : ℕ) → o.class ≡ Vector of → WordIs s (Object oid) i w → i < o.size →
      IsSome (value_of s (element_kind of) w)
  vector_can of i w is word l = word_can i w (element_kind of) word (vector_kind of i is) l

  element_is : (class : ClassNo) (i : ℕ) → o.class ≡ class →
      element_in (elements_if (object_at (decoded c) oid)) i ≡
      element_in (elements_of_class class (fields_of c.parts.classes s o.class h.row.blocks o.size)) i
  element_is class i is =
      ap (λ (x : Option ObjectRec). element_in (elements_if x) i) h.seen
      ∙ ap (λ (k : ClassNo). element_in (elements_of_class k (fields_of c.parts.classes s o.class h.row.blocks o.size)) i) is

  pub element_seen : (of : VectorType) (i w : ℕ) (v : Value) → o.class ≡ Vector of → WordIs s (Object oid) i w → i < o.size →
      value_of s (element_kind of) w ≡ Some v → element_in (elements_if (object_at (decoded c) oid)) i ≡ Some v
  element_seen of i w v is word l e =
      element_is (Vector of) i is ∙ value_seen i w (element_kind of) v word (vector_kind of i is) l e

  pub element_past : (of : VectorType) (i : ℕ) → o.class ≡ Vector of → o.size ≤ i →
      element_in (elements_if (object_at (decoded c) oid)) i ≡ None
  element_past of i is l =
      element_is (Vector of) i is ∙ each-past (λ j. or_nil (field_of c.parts.classes s o.class h.row.blocks j)) 0 o.size i l

  -- no element is seen of what is no vector
  pub no_elements : (i : ℕ) → ((of : VectorType) → o.class ≡ Vector of → ⊥) → element_in (elements_if (object_at (decoded c) oid)) i ≡ None
  no_elements i other = element_is o.class i refl ∙ by o.class other
    where
      by : (class : ClassNo) → ((of : VectorType) → class ≡ Vector of → ⊥) →
          element_in (elements_of_class class (fields_of c.parts.classes s o.class h.row.blocks o.size)) i ≡ None
      by Node other = refl
      by Program other = refl
      by (Made k) other = refl
      by (Vector of) other = absurd (other of refl)

  -- ---- links

  pub made_owns : (k i : ℕ) → o.class ≡ Made k → i < o.size → OwnsWord s (Object oid) i
  made_owns k i is l =
      record { row = h.row; there = h.kept; within = fits_made o.class k o.size i (length h.row.blocks) is h.blocks l }

  pub made_kind : (k i : ℕ) (class : ClassRec) (f : FieldRec) → o.class ≡ Made k → slice_get c.parts.classes k ≡ Some class →
      slice_get class.fields i ≡ Some f → kind_at c.parts.classes o.class i ≡ Some f.of
  made_kind k i class f is there field =
      ap (λ (x : ClassNo). kind_at c.parts.classes x i) is
      ∙ ap (λ (x : Option ClassRec). option_map (λ (g : FieldRec). g.of) (slice_get (fields_if x) i)) there
      ∙ ap (option_map (λ (g : FieldRec). g.of)) field

  links_are : links_of (seen_common c) oid ≡ links_in (fields_if (class_at c.parts.classes o.class)) (values_of c oid)
  links_are = ap (links_if c.parts.classes) h.seen
      ∙ ap (λ (x : Option ObjectRec). links_in (fields_if (class_at c.parts.classes o.class)) (values_if x)) (sym h.seen)

  pub made_links : (k : ℕ) (class : ClassRec) → o.class ≡ Made k → slice_get c.parts.classes k ≡ Some class →
      links_of (seen_common c) oid ≡ links_in class.fields (values_of c oid)
  made_links k class is there =
      links_are
      ∙ ap (λ (x : ClassNo). links_in (fields_if (class_at c.parts.classes x)) (values_of c oid)) is
      ∙ ap (λ (x : Option ClassRec). links_in (fields_if x) (values_of c oid)) there

  -- an object without a class record has no links
  pub no_links : class_at c.parts.classes o.class ≡ None → links_of (seen_common c) oid ≡ []
  no_links none =
      links_are ∙ ap (λ (x : Option ClassRec). links_in (fields_if x) (values_of c oid)) none

  pub no_class : ((k : ℕ) → o.class ≡ Made k → ⊥) → class_at c.parts.classes o.class ≡ None
  no_class other = by o.class other
    where
      by : (class : ClassNo) → ((k : ℕ) → class ≡ Made k → ⊥) → class_at c.parts.classes class ≡ None
      by Node other = refl
      by Program other = refl
      by (Vector of) other = refl
      by (Made k) other = absurd (other k refl)

  pub lost_class : (k : ℕ) → o.class ≡ Made k → slice_get c.parts.classes k ≡ None → class_at c.parts.classes o.class ≡ None
  lost_class k is none = ap (class_at c.parts.classes) is ∙ none

-- nothing is seen of a number that names no object
pub nothing_linked : (c : Cluster) (oid : ℕ) → object_at (decoded c) oid ≡ None → links_of (seen_common c) oid ≡ []
nothing_linked c oid none = ap (links_if c.parts.classes) none
