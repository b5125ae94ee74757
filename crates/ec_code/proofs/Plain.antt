-- What the actions of the plain stops make: texts, output, constants, nodes and moves.
use Rattle.std.proofs.Common.{◌≡◌, ℕ, suc, ◌+◌, Bool, true, false, ◌⊎◌, inl, inr, if◌then◌else◌, List, [], ◌∷◌, ◌++◌, length, Option, Some}
use Rattle.std.proofs.Common.{None}
use Rattle.std.proofs.Common.{refl, sym, ◌∙◌, subst, ℤ, pos, negsuc}
use Rattle.std.proofs.lemmas.Bool.{true≢false, lt-ltb, ltb-true}
use Rattle.std.specs.Prelude.{slice_get, slice_set, nat_lt, nat_le}
use Rattle.std.specs.Fmt.{signed_decimal}
use Rattle.ec_code.specs.declared.code.Operation.{Operation}
use Rattle.ec_code.specs.declared.code.Parts.{Parts}
use Rattle.ec_code.specs.Typing.{Declared, any, boolean, integer, node, string}
use Rattle.ec_types.specs.declared.conform.static_type.StaticType.{StaticType}
use Rattle.ec_world.specs.Agree.{AllTwo}
use Rattle.ec_world.specs.Doings.{Asked, any_fixed, breaks, compare_asks, concat_asks, fix_at, fixed_asks, gives, global_asks, is_node}
use Rattle.ec_world.specs.Doings.{length_asks}
use Rattle.ec_world.specs.Doings.{move_asks, move_to, node_asks, one, passes, print_asks, refix_at, slice_asks, slice_or, text_asks, three}
use Rattle.ec_world.specs.Doings.{two}
use Rattle.ec_world.specs.Doings.{unfix_asks, without}
use Rattle.ec_world.specs.Objects.{changed_object}
use Rattle.ec_world.specs.Outcomes.{flagged, goes_on}
use Rattle.ec_world.specs.Sights.{Sight, sight_of}
use Rattle.ec_world.specs.Texts.{in_order, longest, slice_of, truth_text}
use Rattle.ec_world.specs.declared.class.ClassNo.TheVariants.{Node}
use Rattle.ec_world.specs.declared.common.Common.{Common}
use Rattle.ec_world.specs.declared.doing.Doing.TheVariants.{Defines, Moves, Unfixes}
use Rattle.ec_world.specs.declared.event.Event.TheVariants.{Moved}
use Rattle.ec_world.specs.declared.process.Cause.TheVariants as cause
use Rattle.ec_world.specs.declared.stop.Order.{Order}
use Rattle.ec_world.specs.declared.stop.Who.{Who}
use Rattle.ec_world.specs.declared.value.Value.{Value}
use Rattle.ec_world.specs.declared.value.Value.TheVariants.{Int, Str, Ref, Nil, Bool as Truth}
use Rattle.ec_code.specs.Sound.{FineDone, FineObject, SoundCommon}
use Rattle.ec_code.specs.SoundValues.{HasType, Later}
use Rattle.ec_code.proofs.Carried.{all_two_get, all_two_set, each_object, get_below, later_changed, later_same, with_changed}
use Rattle.ec_code.proofs.Done.{Acts, does, fails, gets, if_case, if_known, none_given, one_operand, same_objects, three_operands}
use Rattle.ec_code.proofs.Done.{two_operands}
use Rattle.ec_code.proofs.Typed.{fit_at_once, int_case, of_int, of_object, of_text, of_truth, ref_case, text_case, truth_case}

module _ (d : Declared) (p : Parts) (c : Common) (sound : SoundCommon d p c) (o : Operation) (given : Option StaticType) (who : Who) where
  abbrev sight : Sight
  sight = sight_of c

  abbrev Well : Asked → Type 0
  Well asked = Acts d p c sound o given who asked

  abbrev Typed : List StaticType → List Value → Type 0
  Typed ts vs = AllTwo (HasType d c.objects) ts vs

  abbrev gets_value : (s : StaticType) (v : Value) → given ≡ Some s → HasType d c.objects s v → Well (gives v)
  gets_value s v g h = gets d p c sound o given who s v g h

  -- ---- texts and output

  pub concat_sound : (line : ℕ) (vs : List Value) → Typed (string ∷ string ∷ []) vs → given ≡ Some string → Well (concat_asks line (two vs))
  concat_sound line vs h g =
      two_operands d p c.objects string string vs h (λ vs. Well (concat_asks line (two vs))) (λ v u a b.
      text_case d c.objects v a (λ v. Well (concat_asks line (Some (v, u)))) (λ s.
      text_case d c.objects u b (λ u. Well (concat_asks line (Some (Str s, u)))) (λ t.
      if_case d p c sound o given who (nat_le (length s + length t) longest) (gives (Str (s ++ t))) (breaks cause.LongText line)
      (gets_value string (Str (s ++ t)) g (of_text d c.objects (s ++ t))) (fails d p c sound o given who cause.LongText line))))

  pub length_sound : (vs : List Value) → Typed (string ∷ []) vs → given ≡ Some integer → Well (length_asks (one vs))
  length_sound vs h g =
      one_operand d p c.objects string vs h (λ vs. Well (length_asks (one vs))) (λ v a.
      text_case d c.objects v a (λ v. Well (length_asks (Some v))) (λ s.
      gets_value integer (Int (pos (length s))) g (of_int d c.objects (pos (length s)))))

  pub compare_sound : (order : Order) (vs : List Value) → Typed (string ∷ string ∷ []) vs → given ≡ Some boolean
      → Well (compare_asks order (two vs))
  compare_sound order vs h g =
      two_operands d p c.objects string string vs h (λ vs. Well (compare_asks order (two vs))) (λ v u a b.
      text_case d c.objects v a (λ v. Well (compare_asks order (Some (v, u)))) (λ s.
      text_case d c.objects u b (λ u. Well (compare_asks order (Some (Str s, u)))) (λ t.
      gets_value boolean (Truth (in_order order s t)) g (of_truth d c.objects (in_order order s t)))))

  slice_by : (line : ℕ) (s : Option (List ℕ)) → given ≡ Some string → Well (slice_or line s)
  slice_by line None g = fails d p c sound o given who cause.OutOfRange line
  slice_by line (Some t) g = gets_value string (Str t) g (of_text d c.objects t)

  pub slice_sound : (line : ℕ) (vs : List Value) → Typed (string ∷ integer ∷ integer ∷ []) vs → given ≡ Some string
      → Well (slice_asks line (three vs))
  slice_sound line vs h g =
      three_operands d p c.objects string integer integer vs h (λ vs. Well (slice_asks line (three vs))) (λ v u w a b e.
      text_case d c.objects v a (λ v. Well (slice_asks line (Some (v, u, w)))) (λ s.
      int_case d c.objects u b (λ u. Well (slice_asks line (Some (Str s, u, w)))) (λ from.
      int_case d c.objects w e (λ w. Well (slice_asks line (Some (Str s, Int from, w)))) (λ count.
      slice_by line (slice_of s from count) g))))

  pub print_sound : (vs : List Value) → Typed (string ∷ []) vs → given ≡ None → Well (print_asks vs)
  print_sound vs h g =
      one_operand d p c.objects string vs h (λ vs. Well (print_asks vs)) (λ v a.
      text_case d c.objects v a (λ v. Well (print_asks (v ∷ []))) (λ s. (
        later_same c.objects,
        same_objects d p c sound (record c { output = c.output ++ s }) refl refl refl sound.constants,
        none_given d p c.objects given g,
        tt,
      )))

  pub text_sound : (vs : List Value) → Typed (integer ∷ []) vs ⊎ Typed (boolean ∷ []) vs → given ≡ Some string → Well (text_asks (one vs))
  text_sound vs (inl h) g =
      one_operand d p c.objects integer vs h (λ vs. Well (text_asks (one vs))) (λ v a.
      int_case d c.objects v a (λ v. Well (text_asks (Some v))) (λ z.
      gets_value string (Str (signed_decimal z)) g (of_text d c.objects (signed_decimal z))))
  text_sound vs (inr h) g =
      one_operand d p c.objects boolean vs h (λ vs. Well (text_asks (one vs))) (λ v a.
      truth_case d c.objects v a (λ v. Well (text_asks (Some v))) (λ b.
      gets_value string (Str (truth_text b)) g (of_text d c.objects (truth_text b))))

  -- ---- constants and nodes

  defined : (index : ℕ) (t : StaticType) (v : Value) → slice_get p.constants index ≡ Some t → HasType d c.objects t v → given ≡ None
      → Well (Some (Defines index v))
  defined index t v e a g = (
    later_same c.objects,
    same_objects d p c sound (record c { globals = slice_set c.globals index v }) refl refl refl
        (all_two_set (HasType d c.objects) p.constants c.globals index t v sound.constants e a),
    none_given d p c.objects given g,
    tt,
  )

  pub global_sound : (index : ℕ) (t : StaticType) (vs : List Value) → slice_get p.constants index ≡ Some t → Typed (t ∷ []) vs
      → given ≡ None
      → Well (global_asks sight index vs)
  global_sound index t vs e h g =
      one_operand d p c.objects t vs h (λ vs. Well (global_asks sight index vs)) (λ v a.
      if_known d p c sound o given who (nat_lt index (length c.globals)) (Some (Defines index v)) None (λ _. defined index t v e a g)
      (λ f. let r = all_two_get (HasType d c.objects) p.constants c.globals index t sound.constants e in
      true≢false (sym (lt-ltb index (length c.globals) (get_below c.globals index r.item r.is)) ∙ f)))

  node_by : (line : ℕ) (z : ℤ) → given ≡ Some node → Well (node_asks sight line (Some (Int z)))
  node_by line (pos k) g =
      if_known d p c sound o given who (nat_lt k c.nodes) (gives (Ref (suc k))) (breaks cause.NoSuchNode line)
      (λ f. gets_value node (Ref (suc k)) g
      (of_object d c.objects (suc k) Node node (sound.nodes k (ltb-true k c.nodes f)) (fit_at_once d.types node node tt tt refl)))
      (λ f. fails d p c sound o given who cause.NoSuchNode line)
  node_by line (negsuc k) g = fails d p c sound o given who cause.NoSuchNode line

  pub node_sound : (line : ℕ) (vs : List Value) → Typed (integer ∷ []) vs → given ≡ Some node → Well (node_asks sight line (one vs))
  node_sound line vs h g =
      one_operand d p c.objects integer vs h (λ vs. Well (node_asks sight line (one vs))) (λ v a.
      int_case d c.objects v a (λ v. Well (node_asks sight line (Some v))) (λ z. node_by line z g))

  -- ---- moves

  flag_sound : (e : Common) (x : ℕ) (flag : Bool) → e.objects ≡ c.objects → SoundCommon d p e → given ≡ None
      → FineDone d p c o given (goes_on (flagged e x flag))
  flag_sound e x flag same s g = (
    subst (λ os. Later os (changed_object e.objects x (λ r. record r { fixed = flag }))) same
        (later_changed e.objects x (λ r. record r { fixed = flag }) (λ r. refl)),
    with_changed d p e s x (λ r. record r { fixed = flag }) (λ r. refl)
        (λ r at. each_object (FineObject d p e.objects) e.objects x r s.objects at),
    none_given d p (changed_object e.objects x (λ r. record r { fixed = flag })) given g,
    tt,
  )

  abbrev gone_to : ℕ → ℕ → Common
  gone_to x to = record c { events = c.events ++ Moved (sight.group x) to ∷ [] }

  goes_sound : (x to : ℕ) → SoundCommon d p (gone_to x to)
  goes_sound x to = same_objects d p c sound (gone_to x to) refl refl refl sound.constants

  pub move_by : (line : ℕ) (act : ℕ → ℕ → Asked) → ((x to : ℕ) → Well (act x to)) → (vs : List Value) → Typed (any ∷ any ∷ []) vs
      → Well (move_asks line act (two vs))
  move_by line act f vs h =
      two_operands d p c.objects any any vs h (λ vs. Well (move_asks line act (two vs))) (λ v u a b.
      ref_case d c.objects v any refl a (λ v. Well (move_asks line act (Some (v, u))))
      (ref_case d c.objects u any refl b (λ u. Well (move_asks line act (Some (Nil, u)))) (fails d p c sound o given who cause.Nil line)
      (λ to i. fails d p c sound o given who cause.Nil line))
      (λ x i. ref_case d c.objects u any refl b (λ u. Well (move_asks line act (Some (Ref x, u))))
      (fails d p c sound o given who cause.Nil line)
      (λ to j. f x to)))

  pub move_sound : given ≡ None → (x to : ℕ) → Well (move_to sight x to)
  move_sound g x to =
      if_case d p c sound o given who (any_fixed sight (sight.group x)) passes (Some (Moves (sight.group x) to None))
      (does d p c sound o given who g)
      (later_same c.objects, goes_sound x to, none_given d p c.objects given g, tt)

  fixes : given ≡ None → (x to : ℕ) → Well (Some (Moves (sight.group x) to (Some x)))
  fixes g x to = flag_sound (gone_to x to) x true refl (goes_sound x to) g

  pub fix_sound : given ≡ None → (line x to : ℕ) → Well (fix_at sight line x to)
  fix_sound g line x to =
      if_case d p c sound o given who (any_fixed sight (sight.group x)) (breaks cause.GroupFixed line)
      (Some (Moves (sight.group x) to (Some x)))
      (fails d p c sound o given who cause.GroupFixed line) (fixes g x to)

  pub refix_sound : given ≡ None → (line x to : ℕ) → Well (refix_at sight line x to)
  refix_sound g line x to =
      if_case d p c sound o given who (is_node (sight.class x)) (breaks cause.NodeFixed line)
      (if any_fixed sight (without x (sight.group x)) then breaks cause.GroupFixed line else Some (Moves (sight.group x) to (Some x)))
      (fails d p c sound o given who cause.NodeFixed line)
      (if_case d p c sound o given who (any_fixed sight (without x (sight.group x))) (breaks cause.GroupFixed line)
      (Some (Moves (sight.group x) to (Some x))) (fails d p c sound o given who cause.GroupFixed line) (fixes g x to))

  pub unfix_sound : (line : ℕ) (vs : List Value) → Typed (any ∷ []) vs → given ≡ None → Well (unfix_asks sight line (one vs))
  unfix_sound line vs h g =
      one_operand d p c.objects any vs h (λ vs. Well (unfix_asks sight line (one vs))) (λ v a.
      ref_case d c.objects v any refl a (λ v. Well (unfix_asks sight line (Some v))) (fails d p c sound o given who cause.Nil line)
      (λ x i. if_case d p c sound o given who (is_node (sight.class x)) (breaks cause.NodeFixed line) (Some (Unfixes x))
      (fails d p c sound o given who cause.NodeFixed line) (flag_sound c x false refl sound g)))

  pub fixed_sound : (line : ℕ) (vs : List Value) → Typed (any ∷ []) vs → given ≡ Some boolean → Well (fixed_asks sight line (one vs))
  fixed_sound line vs h g =
      one_operand d p c.objects any vs h (λ vs. Well (fixed_asks sight line (one vs))) (λ v a.
      ref_case d c.objects v any refl a (λ v. Well (fixed_asks sight line (Some v))) (fails d p c sound o given who cause.Nil line)
      (λ x i. gets_value boolean (Truth (sight.fixed x)) g (of_truth d c.objects (sight.fixed x))))
