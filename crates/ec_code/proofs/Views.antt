-- What the action of a view makes: an object is seen as one of a type to which its class conforms.
use Rattle.std.proofs.Common.{◌≡◌, ℕ, ◌==◌, Bool, true, false, ◌&&◌, List, [], ◌∷◌, Option, Some, None, refl, sym, ◌∙◌, ap, subst}
use Rattle.std.specs.Prelude.{slice_get}
use Rattle.ec_code.specs.declared.code.Operation.{Operation}
use Rattle.ec_code.specs.declared.code.Parts.{Parts}
use Rattle.ec_code.specs.Fine.{Fine, FineView}
use Rattle.ec_code.specs.Typing.{Declared, DeclaredClass, any, class_type, node, plain_static, type_if, vector_static, viewed}
use Rattle.ec_types.specs.Conforms.{Conforms}
use Rattle.ec_types.specs.Types.{is_same, named}
use Rattle.ec_types.specs.declared.conform.static_type.StaticType.{StaticType}
use Rattle.ec_types.specs.Known.{IsOfProgram}
use Rattle.ec_world.specs.Agree.{AllTwo}
use Rattle.ec_world.specs.Doings.{Asked, breaks, gives, one, view_asks, view_of}
use Rattle.ec_world.specs.Objects.{class_conforms, conforms, is_same_plain, true_at}
use Rattle.ec_world.specs.Sights.{Sight, sight_of}
use Rattle.ec_world.specs.declared.class.ClassNo.{ClassNo}
use Rattle.ec_world.specs.declared.class.ClassNo.TheVariants.{Node, Program, Made, Vector}
use Rattle.ec_world.specs.declared.class.ClassRec.{ClassRec}
use Rattle.ec_world.specs.declared.class.PlainType.{PlainType}
use Rattle.ec_world.specs.declared.class.PlainType.TheVariants as plain
use Rattle.ec_world.specs.declared.class.ViewedAs.{ViewedAs}
use Rattle.ec_world.specs.declared.class.ViewedAs.TheVariants as seen
use Rattle.ec_world.specs.declared.common.Common.{Common}
use Rattle.ec_world.specs.declared.process.Cause.TheVariants as cause
use Rattle.ec_world.specs.declared.stop.Who.{Who}
use Rattle.ec_world.specs.declared.value.Value.{Value}
use Rattle.ec_world.specs.declared.value.Value.TheVariants.{Ref, Nil}
use Rattle.ec_code.specs.Sound.{SoundCommon}
use Rattle.ec_code.specs.SoundValues.{HasType}
use Rattle.ec_code.proofs.Done.{Acts, fails, gets, if_known, one_operand}
use Rattle.ec_code.proofs.Typed.{IsObject, at_once, never, of_nil, of_object, ref_case}
use Rattle.ec_code.proofs.Vectors.{both_left, both_right}

both : (a b : Bool) → a ≡ true → b ≡ true → (a && b) ≡ true
both true b h k = k
both false b h k = h

plain_same : (a b : PlainType) → is_same_plain a b ≡ true → is_same (plain_static a) (plain_static b) ≡ true
plain_same plain.Integer plain.Integer h = refl
plain_same plain.Boolean plain.Boolean h = refl
plain_same plain.Bytes plain.Bytes h = refl
plain_same plain.Any plain.Any h = refl
plain_same plain.Node plain.Node h = refl
plain_same (plain.Named a) (plain.Named b) h = h
plain_same _ _ h = never h

module _ (d : Declared) (p : Parts) (fine : Fine d p) (c : Common) (sound : SoundCommon d p c) (o : Operation)
    (given : Option StaticType) (who : Who) where
  abbrev sight : Sight
  sight = sight_of c

  abbrev Well : Asked → Type 0
  Well asked = Acts d p c sound o given who asked

  to_any : (t : Option DeclaredClass) → Conforms d.types (type_if t) any
  to_any None = at_once d.types any any refl
  to_any (Some t) = at_once d.types (named t.number) any refl

  made_named : (k n : ℕ) (r : Option ClassRec) → slice_get c.classes k ≡ r → class_conforms r n ≡ true
      → Conforms d.types (type_if (slice_get d.classes k)) (named n)
  made_named k n None e h = never h
  made_named k n (Some r) e h =
      let at : slice_get p.classes k ≡ Some r = ap (λ cs. slice_get cs k) (sym sound.classes) ∙ e in
      let t = fine.declared k r at in
      let f = fine.classes k t.0 t.1 in
      let same : f.0 ≡ r = (let m = f.1 in cc) in
      subst (λ x. Conforms d.types (type_if x) (named n)) (sym t.1)
      (f.2.conforms n (subst (λ (z : ClassRec). true_at z.conforms n ≡ true) (sym same) h))

  view_conforms : (k : ClassNo) (to : ViewedAs) → FineView d p to → conforms c.classes k to ≡ true
      → Conforms d.types (class_type d k) (viewed to)
  view_conforms Node seen.Any f h = at_once d.types node any refl
  view_conforms Program seen.Any f h = at_once d.types any any refl
  view_conforms (Vector of) seen.Any f h = at_once d.types (vector_static of) any refl
  view_conforms (Made k) seen.Any f h = to_any (slice_get d.classes k)
  view_conforms Node seen.Node f h = at_once d.types node node refl
  view_conforms Program seen.Node f h = never h
  view_conforms (Vector of) seen.Node f h = never h
  view_conforms (Made k) seen.Node f h = never h
  view_conforms (Vector of) (seen.Vector to) f h =
      at_once d.types (vector_static of) (vector_static to)
      (both (of.inner == to.inner) (is_same (plain_static of.of) (plain_static to.of))
      (both_left (of.inner == to.inner) (is_same_plain of.of to.of) h)
      (plain_same of.of to.of (both_right (of.inner == to.inner) (is_same_plain of.of to.of) h)))
  view_conforms Node (seen.Vector to) f h = never h
  view_conforms Program (seen.Vector to) f h = never h
  view_conforms (Made k) (seen.Vector to) f h = never h
  view_conforms (Made k) (seen.Named n is_bare) f h = made_named k n (slice_get c.classes k) refl h
  view_conforms (Vector of) (seen.Named n is_bare) f h = at_once d.types (vector_static of) (named n) (f h)
  view_conforms Node (seen.Named n is_bare) f h = at_once d.types node (named n) (f h)
  view_conforms Program (seen.Named n is_bare) f h = at_once d.types any (named n) (f h)

  viewed_nil : (to : ViewedAs) → IsOfProgram d.types (viewed to) → HasType d c.objects (viewed to) Nil
  viewed_nil seen.Any k = of_nil d c.objects any tt refl
  viewed_nil seen.Node k = of_nil d c.objects node tt refl
  viewed_nil (seen.Vector of) k = of_nil d c.objects (vector_static of) k refl
  viewed_nil (seen.Named n is_bare) k = of_nil d c.objects (named n) k refl

  view_by : (line x : ℕ) (to : ViewedAs) → FineView d p to → IsOfProgram d.types (viewed to) → given ≡ Some (viewed to)
      → IsObject d c.objects x any → Well (view_of sight line to x (sight.class x))
  view_by line x to f known g i =
      subst (λ z. Well (view_of sight line to x z)) (sym i.is)
      (if_known d p c sound o given who (conforms c.classes i.class to) (gives (Ref x)) (breaks cause.NotConforming line)
      (λ e. gets d p c sound o given who (viewed to) (Ref x) g
      (of_object d c.objects x i.class (viewed to) i.is
      (record { given = i.fits.given; wanted = known; conforms = view_conforms i.class to f e })))
      (λ e. fails d p c sound o given who cause.NotConforming line))

  pub view_sound : (line : ℕ) (to : ViewedAs) (vs : List Value) → AllTwo (HasType d c.objects) (any ∷ []) vs → FineView d p to
      → IsOfProgram d.types (viewed to) → given ≡ Some (viewed to) → Well (view_asks sight line to (one vs))
  view_sound line to vs h f known g =
      one_operand d p c.objects any vs h (λ vs. Well (view_asks sight line to (one vs))) (λ v a.
      ref_case d c.objects v any refl a (λ v. Well (view_asks sight line to (Some v)))
      (gets d p c sound o given who (viewed to) Nil g (viewed_nil to known)) (λ x i. view_by line x to f known g i))
