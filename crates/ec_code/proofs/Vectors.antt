-- What the actions of stops with vectors make.
use Rattle.std.proofs.Common.{◌≡◌, ℕ, suc, ◌==◌, Bool, true, false, ◌&&◌, List, [], ◌∷◌, ◌++◌, length, replicate, Option, Some, None}
use Rattle.std.proofs.Common.{refl, sym, ◌∙◌, ap, subst, ℤ, pos, negsuc, option_map}
use Rattle.std.proofs.lemmas.Bool.{eqb-true}
use Rattle.std.specs.Prelude.{slice_get, slice_set, nat_lt, nat_le}
use Rattle.std.specs.List.{AllByRecursion as Each}
use Rattle.ec_code.specs.declared.code.Operation.{Operation}
use Rattle.ec_code.specs.declared.code.Parts.{Parts}
use Rattle.ec_code.specs.Fine.{Fine}
use Rattle.ec_code.specs.Typing.{Declared, DeclaredClass, class_type, element_static, integer, plain_static, type_if, vector_static}
use Rattle.ec_types.specs.Conforms.{Conforms}
use Rattle.ec_types.specs.Types.{element_from, is_same}
use Rattle.ec_types.specs.declared.conform.named_type.NamedType.{NamedType}
use Rattle.ec_types.specs.declared.conform.static_type.Plain.{Plain as PlainStatic}
use Rattle.ec_types.specs.declared.conform.static_type.Plain.TheVariants as static
use Rattle.ec_types.specs.declared.conform.static_type.StaticType.{StaticType}
use Rattle.ec_types.specs.declared.conform.static_type.StaticType.TheVariants as type
use Rattle.ec_types.specs.Known.{IsOfProgram}
use Rattle.ec_world.specs.Agree.{AllTwo}
use Rattle.ec_world.specs.Doings.{Asked, breaks, element_at, element_or, get_asks, largest, of_vector, one, set_asks, set_at, size_asks}
use Rattle.ec_world.specs.Doings.{size_or}
use Rattle.ec_world.specs.Doings.{three, two, vector_asks}
use Rattle.ec_world.specs.Objects.{changed_object, element_kind, elements_if, elements_of_class, object_at}
use Rattle.ec_world.specs.Outcomes.{with_element}
use Rattle.ec_world.specs.Sights.{Sight, class_of, element_in, sight_of}
use Rattle.ec_world.specs.Values.{default_of}
use Rattle.ec_world.specs.declared.class.ClassNo.{ClassNo}
use Rattle.ec_world.specs.declared.class.ClassNo.TheVariants.{Node, Program, Made, Vector}
use Rattle.ec_world.specs.declared.class.VectorType.{VectorType}
use Rattle.ec_world.specs.declared.common.Common.{Common}
use Rattle.ec_world.specs.declared.doing.Doing.TheVariants.{MakesVector, Stores}
use Rattle.ec_world.specs.declared.event.Event.TheVariants.{Created}
use Rattle.ec_world.specs.declared.object.ObjectRec.{ObjectRec}
use Rattle.ec_world.specs.declared.process.Cause.TheVariants as cause
use Rattle.ec_world.specs.declared.stop.Who.{Who}
use Rattle.ec_world.specs.declared.value.Value.{Value}
use Rattle.ec_world.specs.declared.value.Value.TheVariants.{Int, Ref}
use Rattle.ec_code.specs.Sound.{FineFields, FineObject, SoundCommon}
use Rattle.ec_code.specs.SoundValues.{HasType}
use Rattle.ec_code.proofs.Carried.{each_get, each_object, each_replicate, each_set, get_end, later_append, later_changed, option_case}
use Rattle.ec_code.proofs.Carried.{there, with_changed}
use Rattle.ec_code.proofs.Carried.{with_events, with_more}
use Rattle.ec_code.proofs.Done.{Acts, fails, gets, if_case, none_given, one_operand, three_operands, two_operands, value_given}
use Rattle.ec_code.proofs.Typed.{IsObject, element_fits, fits_itself, int_case, never, of_int, of_object, ref_case}

-- ---- what is seen as a vector

pub record IsVector (k : ClassNo) (t : StaticType) : Type 0 where
  pub of : VectorType
  pub is : k ≡ Vector of
  pub element : element_static of ≡ t

plain_is : (a b : PlainStatic) → is_same a b ≡ true → a ≡ b
plain_is static.Integer static.Integer h = refl
plain_is static.Boolean static.Boolean h = refl
plain_is static.String static.String h = refl
plain_is static.Any static.Any h = refl
plain_is static.Node static.Node h = refl
plain_is (static.Named a) (static.Named b) h = ap static.Named (eqb-true a b h)
plain_is _ _ h = never h

pub both_left : (a b : Bool) → (a && b) ≡ true → a ≡ true
both_left true b h = refl
both_left false b h = h

pub both_right : (a b : Bool) → (a && b) ≡ true → b ≡ true
both_right true b h = h
both_right false b h = never h

no_vector : (types : List NamedType) (t : Option DeclaredClass) (inner : ℕ) (of : PlainStatic)
    → Conforms types (type_if t) (type.Vector inner of) → ⊥
no_vector types None inner of h = never h.2
no_vector types (Some t) inner of h = never h.2

vector_is : (d : Declared) (k : ClassNo) (inner : ℕ) (of : PlainStatic) → Conforms d.types (class_type d k) (type.Vector inner of)
    → IsVector k (element_from inner of)
vector_is d (Vector v) inner of h =
    let i : v.inner ≡ inner = eqb-true v.inner inner (both_left (v.inner == inner) (is_same (plain_static v.of) of) h.2) in
    let e : plain_static v.of ≡ of = plain_is (plain_static v.of) of (both_right (v.inner == inner) (is_same (plain_static v.of) of) h.2) in
    record { of = v; is = refl; element = ap (λ n. element_from n (plain_static v.of)) i ∙ ap (λ x. element_from inner x) e }
vector_is d Node inner of h = never h.2
vector_is d Program inner of h = never h.2
vector_is d (Made k) inner of h = absurd (no_vector d.types (slice_get d.classes k) inner of h)

module _ (d : Declared) (p : Parts) (fine : Fine d p) (c : Common) (sound : SoundCommon d p c) (o : Operation)
    (given : Option StaticType) (who : Who) where
  abbrev sight : Sight
  sight = sight_of c

  abbrev Well : Asked → Type 0
  Well asked = Acts d p c sound o given who asked

  abbrev Typed : List StaticType → List Value → Type 0
  Typed ts vs = AllTwo (HasType d c.objects) ts vs

  -- the elements of an object that is seen as a vector
  record Elements (x : ℕ) (t : StaticType) : Type 0 where
    pub values : List Value
    pub are : elements_if (object_at c.objects x) ≡ Some values
    pub fit : Each (HasType d c.objects t) values
    pub keep :
        (i : ℕ) (v : Value) (r : ObjectRec) → HasType d c.objects t v → object_at c.objects x ≡ Some r →
        FineObject d p c.objects (with_element i v r)

  fields_set : (k : ClassNo) (vec : VectorType) (vs : List Value) (i : ℕ) (v : Value) → k ≡ Vector vec → FineFields d p c.objects k vs
      → HasType d c.objects (element_static vec) v → FineFields d p c.objects k (slice_set vs i v)
  fields_set k vec vs i v e h f =
      subst (λ k. FineFields d p c.objects k (slice_set vs i v)) (sym e)
      (each_set (HasType d c.objects (element_static vec)) vs i v (subst (λ k. FineFields d p c.objects k vs) e h) f)

  elements : (x inner : ℕ) (of : PlainStatic) → IsObject d c.objects x (type.Vector inner of) → Elements x (element_from inner of)
  elements x inner of i =
      let r = there c.objects x i.class i.is in
      let v = vector_is d i.class inner of i.fits.conforms in
      let e : r.object.class ≡ Vector v.of = r.class ∙ v.is in
      record {
        values = r.object.fields;
        are = ap elements_if r.is ∙ ap (λ k. elements_of_class k r.object.fields) e;
        fit =
            subst (λ t. Each (HasType d c.objects t) r.object.fields) v.element
            (subst (λ k. FineFields d p c.objects k r.object.fields) e
            (each_object (FineObject d p c.objects) c.objects x r.object sound.objects r.is));
        keep = λ n w s f at.
            let same : s ≡ r.object = (let m = r.is in cc) in
            fields_set s.class v.of s.fields n w (ap (λ (z : ObjectRec). z.class) same ∙ e)
            (each_object (FineObject d p c.objects) c.objects x s sound.objects at)
            (subst (λ t. HasType d c.objects t w) (sym v.element) f);
      }

  -- ---- elements that are read

  read_by : (line : ℕ) (t : StaticType) (values : List Value) (i : ℕ) → Each (HasType d c.objects t) values → given ≡ Some t
      → Well (element_or line (slice_get values i))
  read_by line t values i h g =
      option_case (λ x. Well (element_or line x)) (slice_get values i) (λ e. fails d p c sound o given who cause.OutOfRange line)
      (λ v e. gets d p c sound o given who t v g (each_get (HasType d c.objects t) values i v h e))

  read_at : (line x : ℕ) (t : StaticType) (index : ℤ) → Elements x t → given ≡ Some t
      → Well (of_vector (sight.size x) (element_or line (element_at sight x index)))
  read_at line x t (negsuc i) e g =
      subst (λ z. Well (of_vector (option_map length z) (breaks cause.OutOfRange line))) (sym e.are)
      (fails d p c sound o given who cause.OutOfRange line)
  read_at line x t (pos i) e g =
      subst (λ z. Well (of_vector (option_map length z) (element_or line (element_in z i)))) (sym e.are) (read_by line t e.values i e.fit g)

  pub get_sound : (line inner : ℕ) (of : PlainStatic) (vs : List Value) → Typed (type.Vector inner of ∷ integer ∷ []) vs
      → given ≡ Some (element_from inner of) → Well (get_asks sight line (two vs))
  get_sound line inner of vs h g =
      two_operands d p c.objects (type.Vector inner of) integer vs h (λ vs. Well (get_asks sight line (two vs))) (λ v u a b.
      int_case d c.objects u b (λ u. Well (get_asks sight line (Some (v, u)))) (λ index.
      ref_case d c.objects v (type.Vector inner of) refl a (λ v. Well (get_asks sight line (Some (v, Int index))))
      (fails d p c sound o given who cause.Nil line) (λ x i. read_at line x (element_from inner of) index (elements x inner of i) g)))

  -- ---- elements that are set

  stores : (line x : ℕ) (t : StaticType) (i : ℕ) (v : Value) → Elements x t → HasType d c.objects t v → given ≡ None
      → Well (Some (Stores x i v))
  stores line x t i v e f g = (
    later_changed c.objects x (with_element i v) (λ r. refl),
    with_changed d p c sound x (with_element i v) (λ r. refl) (λ r at. e.keep i v r f at),
    none_given d p (changed_object c.objects x (with_element i v)) given g,
    tt,
  )

  set_by : (line x : ℕ) (t : StaticType) (index : ℤ) (v : Value) → Elements x t → HasType d c.objects t v → (size : ℕ) → given ≡ None
      → Well (set_at line x index v (Some size))
  set_by line x t (negsuc i) v e f size g = fails d p c sound o given who cause.OutOfRange line
  set_by line x t (pos i) v e f size g =
      if_case d p c sound o given who (nat_lt i size) (Some (Stores x i v)) (breaks cause.OutOfRange line) (stores line x t i v e f g)
      (fails d p c sound o given who cause.OutOfRange line)

  pub set_sound : (line inner : ℕ) (of : PlainStatic) (vs : List Value)
      → Typed (type.Vector inner of ∷ integer ∷ element_from inner of ∷ []) vs
      → given ≡ None → Well (set_asks sight line (three vs))
  set_sound line inner of vs h g =
      three_operands d p c.objects (type.Vector inner of) integer (element_from inner of) vs h (λ vs. Well (set_asks sight line (three vs)))
      (λ v u w a b f. int_case d c.objects u b (λ u. Well (set_asks sight line (Some (v, u, w)))) (λ index.
      ref_case d c.objects v (type.Vector inner of) refl a (λ v. Well (set_asks sight line (Some (v, Int index, w))))
      (fails d p c sound o given who cause.Nil line)
      (λ x i. let e = elements x inner of i in
      subst (λ z. Well (set_at line x index w (option_map length z))) (sym e.are)
      (set_by line x (element_from inner of) index w e f (length e.values) g))))

  pub size_sound : (line inner : ℕ) (of : PlainStatic) (vs : List Value) → Typed (type.Vector inner of ∷ []) vs → given ≡ Some integer
      → Well (size_asks sight line (one vs))
  size_sound line inner of vs h g =
      one_operand d p c.objects (type.Vector inner of) vs h (λ vs. Well (size_asks sight line (one vs))) (λ v a.
      ref_case d c.objects v (type.Vector inner of) refl a (λ v. Well (size_asks sight line (Some v)))
      (fails d p c sound o given who cause.Nil line)
      (λ x i. let e = elements x inner of i in
      subst (λ z. Well (size_or (option_map length z))) (sym e.are)
      (gets d p c sound o given who integer (Int (pos (length e.values))) g (of_int d c.objects (pos (length e.values))))))

  -- ---- new vectors

  made : (of : VectorType) (n : ℕ) → IsOfProgram d.types (vector_static of) → given ≡ Some (vector_static of)
      → Well (Some (MakesVector of n))
  made of n known g =
      let r : ObjectRec =
      record { class = Vector of; fields = replicate n (default_of (element_kind of)); fixed = false; monitor = None } in
      let fine_r : Each (HasType d c.objects (element_static of)) (replicate n (default_of (element_kind of))) =
      each_replicate (HasType d c.objects (element_static of)) n (default_of (element_kind of)) (element_fits d c.objects of known) in
      let objects : List ObjectRec = c.objects ++ r ∷ [] in (
        later_append c.objects (r ∷ []),
        with_events d p (record c { objects = objects }) (c.events ++ Created (suc (length c.objects)) who.own ∷ [])
            (with_more d p c sound r fine_r),
        value_given d p objects (vector_static of) (Ref (suc (length c.objects))) given g
            (of_object d objects (suc (length c.objects)) (Vector of) (vector_static of) (ap class_of (get_end c.objects r))
            (fits_itself d p fine (vector_static of) known)),
        tt,
      )

  vector_by : (of : VectorType) (line : ℕ) (z : ℤ) → IsOfProgram d.types (vector_static of) → given ≡ Some (vector_static of)
      → Well (vector_asks of line (Some (Int z)))
  vector_by of line (negsuc n) known g = fails d p c sound o given who cause.VectorSize line
  vector_by of line (pos n) known g =
      if_case d p c sound o given who (nat_le n largest) (Some (MakesVector of n)) (breaks cause.VectorSize line) (made of n known g)
      (fails d p c sound o given who cause.VectorSize line)

  pub vector_sound : (of : VectorType) (line : ℕ) (vs : List Value) → Typed (integer ∷ []) vs → IsOfProgram d.types (vector_static of)
      → given ≡ Some (vector_static of) → Well (vector_asks of line (one vs))
  vector_sound of line vs h known g =
      one_operand d p c.objects integer vs h (λ vs. Well (vector_asks of line (one vs))) (λ v a.
      int_case d c.objects v a (λ v. Well (vector_asks of line (Some v))) (λ z. vector_by of line z known g))
