-- The fields of an object that a node shows are read from its words.
use Rattle.std.proofs.Common.{◌≡◌, ℕ, ◌+◌, ◌*◌, ◌/◌, ◌<◌, max, List, length, Some, sym, ap, ◌∙◌, subst, arith}
use Rattle.std.proofs.lemmas.Option.{same_Some}
use Rattle.std.specs.Prelude.{slice_get}
use Rattle.ec_base.proofs.Lists.{get_there, get_within}
use Rattle.ec_parcels.specs.Classes.{ClassTable, number_of}
use Rattle.ec_parcels.specs.Objects.{AreFields, FieldReads, GoesAs, HasFields}
use Rattle.ec_world.specs.Things.{class_blocks}
use Rattle.ec_stores.specs.Changes.{IsObject}
use Rattle.ec_stores.specs.declared.rows.Object.{Object as ObjectData}
use Rattle.ec_things.specs.Store.{Owned, StandsAt, Store}
use Rattle.ec_world.specs.declared.class.ClassNo.{ClassNo}
use Rattle.ec_world.specs.declared.class.ClassNo.TheVariants.{Node, Program, Made, Vector}
use Rattle.ec_world.specs.declared.class.ClassRec.{ClassRec}
use Rattle.ec_world.specs.declared.object.ObjectRec.{ObjectRec}
use Rattle.ec_world.specs.declared.value.Value.{Value}

enough : (size i blocks : ℕ) → blocks ≡ max 1 ((size + 127) / 128) → i < size → i < 128 * blocks
enough size i blocks many l = omega arith

-- an object whose class has a number has a word for each field
has_word : (t : ClassTable) (class : ClassNo) (number size i blocks : ℕ) → number_of t class ≡ Some number →
    blocks ≡ class_blocks class size → i < size → i < 128 * blocks
has_word t Node number size i blocks is many l = absurd cc
has_word t Program number size i blocks is many l = enough size i blocks many l
has_word t (Made place) number size i blocks is many l = enough size i blocks many l
has_word t (Vector of) number size i blocks is many l = enough size i blocks many l

module _ (t : ClassTable) (classes : List ClassRec) (s : Store) (oid : ℕ) (o : ObjectRec) (number : ℕ)
    (goes : GoesAs t classes s oid o number) where
  reads : (i : ℕ) (v : Value) → slice_get o.fields i ≡ Some v → FieldReads classes s oid o.class i v
  reads i v e =
      let x = goes.shown.spells.values i v e in
      record {
        row = goes.shown.row;
        there = goes.shown.there;
        within = has_word t o.class number (length o.fields) i (length goes.shown.row.blocks) goes.number_is goes.shown.spells.counted
            (get_within o.fields i v e);
        stands = subst (λ n. StandsAt s goes.shown.row.blocks n v) (sym (same_Some i x.0 x.1)) x.2;
        of_kind = goes.kinds i v e;
      }

  module _ (found : ObjectData) (is : IsObject s oid found) where
    row_is : goes.shown.row ≡ is.row
    row_is = same_Some goes.shown.row is.row (sym goes.shown.there ∙ is.there)

    pub class_is : o.class ≡ found.class
    class_is =
        same_Some o.class found.class (sym goes.shown.spells.class ∙ ap (λ (r : Owned). r.class) row_is ∙ is.class)

    size_is : length o.fields ≡ found.size
    size_is = sym goes.shown.spells.size ∙ ap (λ (r : Owned). r.size) row_is ∙ is.size

    pub are_fields : AreFields classes s oid found.class found.size o.fields
    are_fields = record {
      many = size_is;
      each = λ i v e. subst (λ (k : ClassNo). FieldReads classes s oid k i v) class_is (reads i v e);
    }

    pub has_fields : HasFields classes s oid found.class found.size
    has_fields i l =
        let many = size_is in
        let v = get_there o.fields i (omega (arith, many)) in
        record { value = v.0; reads = are_fields.each i v.0 v.1 }
