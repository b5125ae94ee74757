-- The links of an object, field by field.
use Rattle.std.proofs.Common.{◌≡◌, ℕ, zero, suc, ◌+◌, ◌≤◌, ◌==◌, min, Bool, true, false, if◌then◌else◌, List, [], ◌∷◌, ◌++◌, length}
use Rattle.std.proofs.Common.{drop, Option, Some, None, refl, sym, ap, ◌∙◌, subst, append_assoc, append-nil, arith}
use Rattle.std.proofs.lemmas.Option.{same_Some}
use Rattle.std.specs.Prelude.{IsSome, option_map, slice_get}
use Rattle.std.specs.Int.{cast_signed, w32}
use Rattle.ec_base.proofs.Lists.{drop_at}
use Rattle.ec_objects.specs.Values.{reference_of, value_of}
use Rattle.ec_things.specs.Store.{Store}
use Rattle.ec_world.specs.Group.{link_of, links_in}
use Rattle.ec_world.specs.declared.class.FieldRec.{FieldRec}
use Rattle.ec_world.specs.declared.value.Value.{Value}
use Rattle.ec_world.specs.declared.value.Value.TheVariants.{Int, Str, Ref, Nil, Bool as Truth}
use Rattle.ec_world.specs.declared.value.ValueType.{ValueType}
use Rattle.ec_world.specs.declared.value.ValueType.TheVariants.{Integer, Boolean, Bytes, Reference}

-- ---- one field

-- a field that isn't attached has no link
pub loose : (f : FieldRec) (v : Value) → f.attached ≡ false → link_of f v [] ≡ []
loose f (Ref o) e = rw e refl
loose f (Int z) e = refl
loose f (Truth b) e = refl
loose f (Str s) e = refl
loose f Nil e = refl

text_linked : (f : FieldRec) (t : Option (List ℕ)) (v : Value) → option_map Str t ≡ Some v → link_of f v [] ≡ []
text_linked f None v e = absurd cc
text_linked f (Some t) v e = let is : Str t ≡ v = same_Some (Str t) v e in ap (λ (u : Value). link_of f u []) (sym is)

-- a field of another kind has none
pub plain : (f : FieldRec) (s : Store) (kind : ValueType) (w : ℕ) (v : Value) → (kind ≡ Reference → ⊥) → value_of s kind w ≡ Some v →
    link_of f v [] ≡ []
plain f s Integer w v ne e =
    let is : Int (cast_signed w32 w) ≡ v = same_Some (Int (cast_signed w32 w)) v e in ap (λ (u : Value). link_of f u []) (sym is)
plain f s Boolean w v ne e =
    let is : Truth (w == 1) ≡ v = same_Some (Truth (w == 1)) v e in ap (λ (u : Value). link_of f u []) (sym is)
plain f s Bytes w v ne e = text_linked f (s.text w) v e
plain f s Reference w v ne e = absurd (ne refl)

-- nor has nil
pub no_link : (f : FieldRec) (s : Store) (w : ℕ) (v : Value) → w ≡ 0 → value_of s f.of w ≡ Some v → f.of ≡ Reference → link_of f v [] ≡ []
no_link f s w v z e k =
    let is : Some Nil ≡ Some v = ap (reference_of s.local) (sym z) ∙ ap (λ (t : ValueType). value_of s t w) (sym k) ∙ e in
    ap (λ (u : Value). link_of f u []) (sym (same_Some Nil v is))

-- an attached field has the object of its word
pub linked : (f : FieldRec) (s : Store) (w oid : ℕ) (v : Value) → f.attached ≡ true → f.of ≡ Reference → (w ≡ 0 → ⊥) →
    s.local w ≡ Some oid → value_of s f.of w ≡ Some v → link_of f v [] ≡ oid ∷ []
linked f s zero oid v a k ne l e = absurd (ne refl)
linked f s (suc w) oid v a k ne l e =
    let is : Some (Ref oid) ≡ Some v = ap (option_map Ref) (sym l) ∙ ap (λ (t : ValueType). value_of s t (suc w)) (sym k) ∙ e in
    let b : link_of f (Ref oid) [] ≡ oid ∷ [] = rw a refl in
    ap (λ (u : Value). link_of f u []) (sym (same_Some (Ref oid) v is)) ∙ b

mapped : (x : Option ℕ) → IsSome (option_map Ref x) → IsSome x
mapped None h = h
mapped (Some oid) h = refl

-- its word is a reference of the node
pub local_there : (f : FieldRec) (s : Store) (w : ℕ) → f.of ≡ Reference → (w ≡ 0 → ⊥) → IsSome (value_of s f.of w) → IsSome (s.local w)
local_there f s zero k ne h = absurd (ne refl)
local_there f s (suc w) k ne h = mapped (s.local (suc w)) (subst (λ (t : ValueType). IsSome (value_of s t (suc w))) k h)

-- ---- the fields of an object

link_if : (b : Bool) (o : ℕ) (rest : List ℕ) → (if b then o ∷ rest else rest) ≡ (if b then o ∷ [] else []) ++ rest
link_if true o rest = refl
link_if false o rest = refl

link_front : (f : FieldRec) (v : Value) (rest : List ℕ) → link_of f v rest ≡ link_of f v [] ++ rest
link_front f (Ref o) rest = link_if f.attached o rest
link_front f (Int z) rest = refl
link_front f (Truth b) rest = refl
link_front f (Str s) rest = refl
link_front f Nil rest = refl

-- the links that are still to be read, after one field more
pub links_more : (fs : List FieldRec) (vs : List Value) (i : ℕ) (f : FieldRec) (v : Value) (before after links : List ℕ) →
    slice_get fs i ≡ Some f → slice_get vs i ≡ Some v → link_of f v [] ≡ links → after ≡ before ++ links →
    after ++ links_in (drop (i + 1) fs) (drop (i + 1) vs) ≡ before ++ links_in (drop i fs) (drop i vs)
links_more fs vs i f v before after links d e l r =
    let next = links_in (drop (i + 1) fs) (drop (i + 1) vs) in
    let front : links_in (drop i fs) (drop i vs) ≡ links ++ next =
    rw (drop_at fs i f d, drop_at vs i v e) (link_front f v next ∙ ap (λ x. x ++ next) l) in
    rw (r, front) (append_assoc before links next)

links_none : (fs : List FieldRec) → links_in fs [] ≡ []
links_none [] = refl
links_none (f ∷ fs) = refl

links_past : (fs : List FieldRec) (vs : List Value) (i : ℕ) → min (length fs) (length vs) ≤ i → links_in (drop i fs) (drop i vs) ≡ []
links_past [] vs zero h = refl
links_past [] vs (suc i) h = refl
links_past (f ∷ fs) [] zero h = refl
links_past (f ∷ fs) [] (suc i) h = links_none (drop i fs)
links_past (f ∷ fs) (v ∷ vs) zero h = absurd (omega arith)
links_past (f ∷ fs) (v ∷ vs) (suc i) h = links_past fs vs i (omega arith)

-- none are left at the end
pub links_end : (fs : List FieldRec) (vs : List Value) (i : ℕ) (before : List ℕ) → min (length fs) (length vs) ≤ i →
    before ++ links_in (drop i fs) (drop i vs) ≡ before
links_end fs vs i before l = ap (λ (x : List ℕ). before ++ x) (links_past fs vs i l) ∙ append-nil before
