-- What comes of the action of a stop: the plain cases, and operands one by one.
use Rattle.std.proofs.Common.{◌≡◌, ℕ, suc, ◌<◌, Bool, true, false, List, [], ◌∷◌, Option, Some, None, refl, sym, ◌∙◌, ap, subst}
use Rattle.std.specs.Prelude.{if◌then◌else◌}
use Rattle.std.specs.List.{AllByRecursion as Each}
use Rattle.ec_code.specs.declared.code.Operation.{Operation}
use Rattle.ec_code.specs.declared.code.Parts.{Parts}
use Rattle.ec_code.specs.Typing.{Declared}
use Rattle.ec_types.specs.declared.conform.static_type.StaticType.{StaticType}
use Rattle.ec_world.specs.Agree.{AllTwo}
use Rattle.ec_world.specs.Doings.{Asked, breaks, gives, passes}
use Rattle.ec_world.specs.Outcomes.{acted_if}
use Rattle.ec_world.specs.declared.common.Common.{Common}
use Rattle.ec_world.specs.declared.object.ObjectRec.{ObjectRec}
use Rattle.ec_world.specs.declared.process.Cause.{Cause}
use Rattle.ec_world.specs.declared.stop.Who.{Who}
use Rattle.ec_world.specs.declared.value.Value.{Value}
use Rattle.ec_code.specs.Sound.{FineActed, FineObject, OfGiven, SoundCommon}
use Rattle.ec_code.specs.SoundValues.{HasType, class_in}
use Rattle.ec_code.proofs.Carried.{later_same}

module _ (d : Declared) (p : Parts) where
  pub value_given : (objects : List ObjectRec) (s : StaticType) (v : Value) (given : Option StaticType) → given ≡ Some s
      → HasType d objects s v
      → OfGiven d p objects given (Some v)
  value_given objects s v None e h = cc
  value_given objects s v (Some t) e h = let same : s ≡ t = cc in subst (λ z. HasType d objects z v) same h

  pub none_given : (objects : List ObjectRec) (given : Option StaticType) → given ≡ None → OfGiven d p objects given None
  none_given objects None e = tt
  none_given objects (Some s) e = cc

  module _ (c : Common) (sound : SoundCommon d p c) where
    -- only output, events and constants change
    pub same_objects : (e : Common) → e.classes ≡ c.classes → e.objects ≡ c.objects → e.nodes ≡ c.nodes
        → AllTwo (HasType d c.objects) p.constants e.globals → SoundCommon d p e
    same_objects e classes objects nodes h = record {
      classes = classes ∙ sound.classes;
      objects = subst (λ os. Each (FineObject d p os) os) (sym objects) sound.objects;
      constants = subst (λ os. AllTwo (HasType d os) p.constants e.globals) (sym objects) h;
      nodes = λ k l. ap (λ os. class_in os (suc k)) objects ∙ sound.nodes k (subst (λ n. k < n) nodes l);
    }

    module _ (o : Operation) (given : Option StaticType) (who : Who) where
      -- what an action comes to is fine
      abbrev pub Acts : Asked → Type 0
      Acts asked = FineActed d p c o given (acted_if c who asked)

      pub does : given ≡ None → Acts passes
      does g = (later_same c.objects, sound, none_given c.objects given g, tt)

      pub gets : (s : StaticType) (v : Value) → given ≡ Some s → HasType d c.objects s v → Acts (gives v)
      gets s v g h = (later_same c.objects, sound, value_given c.objects s v given g h, tt)

      pub fails : (why : Cause) (line : ℕ) → Acts (breaks why line)
      fails why line = (later_same c.objects, sound, tt, tt)

      pub if_case : (b : Bool) (x y : Asked) → Acts x → Acts y → Acts (if b then x else y)
      if_case true x y h k = h
      if_case false x y h k = k

      -- the same, where it is known how the test went
      pub if_known : (b : Bool) (x y : Asked) → (b ≡ true → Acts x) → (b ≡ false → Acts y) → Acts (if b then x else y)
      if_known true x y h k = h refl
      if_known false x y h k = k refl

  -- ---- operands, one by one

  module _ (objects : List ObjectRec) where
    pub one_operand : (t : StaticType) (vs : List Value) → AllTwo (HasType d objects) (t ∷ []) vs → (P : List Value → Type 0)
        → ((v : Value) → HasType d objects t v → P (v ∷ [])) → P vs
    one_operand t (v ∷ []) h P f = f v h.0
    one_operand t [] h P f = absurd h
    one_operand t (v ∷ u ∷ vs) h P f = absurd h.1

    pub two_operands : (t s : StaticType) (vs : List Value) → AllTwo (HasType d objects) (t ∷ s ∷ []) vs → (P : List Value → Type 0)
        → ((v u : Value) → HasType d objects t v → HasType d objects s u → P (v ∷ u ∷ [])) → P vs
    two_operands t s (v ∷ u ∷ []) h P f = f v u h.0 h.1.0
    two_operands t s [] h P f = absurd h
    two_operands t s (v ∷ []) h P f = absurd h.1
    two_operands t s (v ∷ u ∷ w ∷ vs) h P f = absurd h.1.1

    pub three_operands : (t s r : StaticType) (vs : List Value) → AllTwo (HasType d objects) (t ∷ s ∷ r ∷ []) vs → (P : List Value → Type 0)
        → ((v u w : Value) → HasType d objects t v → HasType d objects s u → HasType d objects r w → P (v ∷ u ∷ w ∷ [])) → P vs
    three_operands t s r (v ∷ u ∷ w ∷ []) h P f = f v u w h.0 h.1.0 h.1.1.0
    three_operands t s r [] h P f = absurd h
    three_operands t s r (v ∷ []) h P f = absurd h.1
    three_operands t s r (v ∷ u ∷ []) h P f = absurd h.1.1
    three_operands t s r (v ∷ u ∷ w ∷ x ∷ vs) h P f = absurd h.1.1.1
