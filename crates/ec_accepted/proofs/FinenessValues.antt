-- What is stated of the forms of expressions whose parts are values.
use Rattle.std.proofs.Common.{◌≡◌, ℕ, zero, suc, ◌<◌, ◌&&◌, Bool, true, false, is_some, List, [], ◌∷◌, ◌++◌, length, Option}
use Rattle.std.proofs.Common.{Some, None, option_map}
use Rattle.std.proofs.Common.{refl, sym, ap, subst, arith}
use Rattle.std.specs.Prelude.{slice_get}
use Rattle.ec_check.specs.Numbers.{Number}
use Rattle.ec_check.specs.WellTyped.{Typed, all_are, is_of, type_at as place_type, typed_if}
use Rattle.ec_code.specs.Fine.{FineStop, FineView}
use Rattle.ec_code.specs.Typing.{boolean, integer, string, node, any, plain_static, vector_static, viewed}
use Rattle.ec_code.specs.declared.code.Op.{Op}
use Rattle.ec_code.specs.declared.code.Op.TheVariants as op
use Rattle.ec_code.specs.declared.code.Variable.TheVariants as variable
use Rattle.ec_types.specs.Types.{is_reference_type, named}
use Rattle.ec_types.specs.declared.conform.static_type.Plain.{Plain as PlainType}
use Rattle.ec_types.specs.declared.conform.static_type.Plain.TheVariants as static
use Rattle.ec_types.specs.declared.conform.static_type.StaticType.{StaticType}
use Rattle.ec_types.specs.declared.conform.static_type.StaticType.TheVariants as type
use Rattle.ec_types.specs.Known.{IsOfProgram}
use Rattle.ec_core.specs.declared.Place.{Place}
use Rattle.ec_core_laws.specs.Formed.{is_not_nil}
use Rattle.ec_emission.proofs.Expressions.{found}
use Rattle.ec_emission.proofs.Forms.{both_true, not_true, no_leaf, same_leaf}
use Rattle.ec_emission.specs.Expressions.{Emitted, all_fit, as_leaf, by_code, by_condition, fits_here, has_text, inverted}
use Rattle.ec_emission.specs.Expressions.{itself}
use Rattle.ec_emission.specs.Expressions.{literal_from, needed_code, negated, read, stops_at, then_stop}
use Rattle.ec_accepted.proofs.FinenessForms.{by_its_code, by_its_condition, copied, inverted_asked, itself_had, literal}
use Rattle.ec_accepted.proofs.FinenessForms.{negated_leads, plain, stopped}
use Rattle.ec_accepted.proofs.Frames.{Held}
use Rattle.ec_accepted.proofs.Taking.{Taken, TakesOnly, fits_any, only_booleans, only_integers, taken}
use Rattle.ec_accepted.proofs.Pieces.{FitsAs, go_on}
use Rattle.ec_accepted.proofs.Places.{leaf_of, fetched, place_known, place_leads, place_leaf}
use Rattle.ec_accepted.proofs.Shown.{Goes, IsOf, Shown, Works, live_in, works}
use Rattle.ec_accepted.proofs.Skipping.{EachTruth, all_needed}
use Rattle.ec_accepted.proofs.Standing.{Stand, Known, KnownOwn, Ready, Stated, AllStated, setting, site, types_in}
use Rattle.ec_accepted.proofs.Standing.{each_fits}
use Rattle.ec_accepted.proofs.Stopping.{held_if, rests}
use Rattle.ec_emission.specs.Lowered.{declared_of}
use Rattle.ec_meaning.specs.Types.{plain_type, vector_type, viewed_as}
use Rattle.ec_rules.specs.Types.{is_vector, takes}
use Rattle.ec_rules.specs.declared.operands.Wanted.{Wanted}
use Rattle.ec_rules.specs.declared.operands.Wanted.TheVariants as wanted
use Rattle.ec_emission.specs.Leaves.{Leaf, leaf_operand}
use Rattle.ec_world.specs.declared.stop.Stop.{Stop}
use Rattle.ec_world.specs.declared.stop.Stop.TheVariants as stop

there_below : (xs : List (List ℕ)) (n : ℕ) (x : List ℕ) → slice_get xs n ≡ Some x → n < length xs
there_below [] n x e = cc
there_below (y ∷ xs) zero x e = let long : 0 < suc (length xs) = omega arith in long
there_below (y ∷ xs) (suc n) x e = let less : n < length xs = there_below xs n x e in omega arith

-- ---- types that stops name

same_plain : (p : PlainType) → plain_static (plain_type p) ≡ p
same_plain static.Integer = refl
same_plain static.Boolean = refl
same_plain static.String = refl
same_plain static.Any = refl
same_plain static.Node = refl
same_plain (static.Named n) = refl

same_vector : (of : StaticType) → is_vector of ≡ true → vector_static (vector_type of) ≡ of
same_vector (type.Vector inner p) e = ap (type.Vector inner) (same_plain p)
same_vector (type.Plain p) e = not_true e
same_vector type.Nil e = not_true e
same_vector type.Unknown e = not_true e

module _ (c : Stand) where
  same_view : (of : StaticType) → is_reference_type of ≡ true → is_not_nil of ≡ true →
      viewed (viewed_as c.source.table of) ≡ of
  same_view (type.Plain static.Any) r e = refl
  same_view (type.Plain static.Node) r e = refl
  same_view (type.Plain (static.Named n)) r e = refl
  same_view (type.Vector inner p) r e = ap (type.Vector inner) (same_plain p)
  same_view (type.Plain static.Integer) r e = not_true r
  same_view (type.Plain static.Boolean) r e = not_true r
  same_view (type.Plain static.String) r e = not_true r
  same_view type.Nil r e = not_true e
  same_view type.Unknown r e = not_true r

module _ (c : Stand) (Right : Number → Type 0) (known : Known c Right) where
  fits_of : (t : StaticType) → IsOfProgram (types_in c) t → FitsAs (setting c) t t
  fits_of = each_fits c known.operations

  -- Any conforms to a named type only where this has no operations.
  fine_view : (of : StaticType) → FineView (declared_of c.source) c.parts (viewed_as c.source.table of)
  fine_view (type.Plain (static.Named n)) =
      λ e. let k = known.conforms (type.Plain static.Any) (type.Plain (static.Named n)) e in k.2
  fine_view (type.Plain static.Any) = tt
  fine_view (type.Plain static.Node) = tt
  fine_view (type.Plain static.Integer) = tt
  fine_view (type.Plain static.Boolean) = tt
  fine_view (type.Plain static.String) = tt
  fine_view (type.Vector inner p) = tt
  fine_view type.Nil = tt
  fine_view type.Unknown = tt

  -- ---- what is ready

  -- a value that isn't said to be the own object
  pub ready : (b : Bool) (of : Option StaticType) (e : Emitted) → e.is_itself ≡ false →
      (b ≡ true → Stated c (typed_if b of) e) → Ready c (typed_if b of) e
  ready b of e own h = record { same = sym own; itself = λ f. not_true f; stated = h }

  pub stated_of : (b : Bool) (u : StaticType) (e : Emitted) → IsOfProgram (types_in c) u →
      Shown (setting c) (typed_if b (Some u)) e → Stated c (typed_if b (Some u)) e
  stated_of b u e of shown =
      record { shown = shown; of = λ v f. subst (IsOfProgram (types_in c)) (same_leaf u v f) of }

  pub ready_of : (b : Bool) (u : StaticType) (e : Emitted) → e.is_itself ≡ false → IsOfProgram (types_in c) u →
      (b ≡ true → Shown (setting c) (typed_if b (Some u)) e) → Ready c (typed_if b (Some u)) e
  ready_of b u e own of h = ready b (Some u) e own (λ f. stated_of b u e of (h f))

  -- an operand of a kind
  record OperandOf (w : Wanted) (e : Emitted) : Type 0 where
    pub kind : StaticType
    pub accepted : takes w kind ≡ true
    pub works : Works (setting c) e kind
    pub of_program : IsOfProgram (types_in c) kind

  operand : (w : Wanted) (x : Typed) (e : Emitted) → (x.is_well ≡ true → Stated c x e) → is_of w x ≡ true → OperandOf w e
  operand w x e good h =
      let k : Taken w x = taken w x h in
      let s : Stated c x e = good k.is_well in
      record { kind = k.kind; accepted = k.accepted; works = works s.shown k.kind k.of; of_program = s.of k.kind k.of }

  only : (w : Wanted) (t : StaticType) (e : Emitted) → TakesOnly w t → OperandOf w e → Works (setting c) e t
  only w t e takes_only o = subst (Works (setting c) e) (takes_only o.kind o.accepted) o.works

  pub number_of : (x : Typed) (e : Emitted) → Ready c x e → is_of wanted.Integer x ≡ true → Works (setting c) e integer
  number_of x e r h = only wanted.Integer integer e only_integers (operand wanted.Integer x e r.stated h)

  truth_of : (x : Typed) (e : Emitted) → (x.is_well ≡ true → Stated c x e) → is_of wanted.Boolean x ≡ true →
      Works (setting c) e boolean
  truth_of x e good h = only wanted.Boolean boolean e only_booleans (operand wanted.Boolean x e good h)

  -- ---- alone

  pub leaf_ready : (l : Leaf) (t : StaticType) → IsOfProgram (types_in c) t →
      ((hs : Held) → IsOf (live_in (setting c) hs) (leaf_operand l) t) → Ready c (typed_if true (Some t)) (as_leaf l)
  leaf_ready l t of is =
      ready_of true t (as_leaf l) refl of
      (λ e.
      plain (fits_of boolean tt) (Some l) false (λ h. op.Copy (variable.Temporary h) (leaf_operand l) ∷ []) true true
      (λ hs. copied (leaf_operand l) t hs (fits_of t of) (is hs))
      (λ k f u g hs.
      subst (λ z. IsOf (live_in (setting c) hs) (leaf_operand z) u) (same_leaf l k f)
      (subst (λ z. IsOf (live_in (setting c) hs) (leaf_operand l) z) (same_leaf t u g) (is hs))))

  pub text_ready : (text : List ℕ) → has_text c.parts.literals text ≡ true →
      Ready c (typed_if true (Some string))
      (by_code (has_text c.parts.literals text)
      (λ h. op.Literal (variable.Temporary h) (literal_from 0 c.parts.literals text) ∷ []))
  text_ready text f =
      let code : ℕ → List Op = λ h. op.Literal (variable.Temporary h) (literal_from 0 c.parts.literals text) ∷ [] in
      ready_of true string (by_code (has_text c.parts.literals text) code) refl tt
      (λ e.
      by_its_code (fits_of boolean tt) (has_text c.parts.literals text) code
      (λ hs.
      literal (literal_from 0 c.parts.literals text) hs (fits_of string tt)
      (there_below c.parts.literals (literal_from 0 c.parts.literals text) text (found c.parts.literals text f))))

  own_shown : (o : Option ℕ) → c.own ≡ o → is_some o ≡ true → (hs : Held) →
      Goes (setting c) (op.Itself (variable.Temporary (length hs)) ∷ []) hs (held_if (option_map named o) hs)
  own_shown None is e hs = not_true e
  own_shown (Some n) is e hs =
      let own : KnownOwn c n = known.own n is in
      itself_had hs (named n) own.type (fits_of (named n) own.there) own.there

  own_known : (o : Option ℕ) → c.own ≡ o → (u : StaticType) → option_map named o ≡ Some u → IsOfProgram (types_in c) u
  own_known None is u e = no_leaf u e
  own_known (Some n) is u e =
      let own : KnownOwn c n = known.own n is in subst (IsOfProgram (types_in c)) (same_leaf (named n) u e) own.there

  pub itself_ready : Ready c (record { of = option_map named c.own; is_well = is_some c.own; is_itself = true }) itself
  itself_ready = record {
    same = refl;
    itself = λ e. refl;
    stated = λ e. record {
      shown =
          plain (fits_of boolean tt) None true (λ h. op.Itself (variable.Temporary h) ∷ []) true true
          (λ hs. own_shown c.own refl e hs) (λ l f u g hs. no_leaf l f);
      of = λ u f. own_known c.own refl u f;
    };
  }

  place_shown : (p : Place) (o : Option StaticType) → place_type (site c) p ≡ o → is_some o ≡ true → (hs : Held) →
      Goes (setting c) (fetched c Right known (length hs) p) hs (held_if o hs)
  place_shown p None is e hs = not_true e
  place_shown p (Some t) is e hs = place_leads c Right known p t is hs

  pub read_ready : (p : Place) →
      Ready c (typed_if (is_some (place_type (site c) p)) (place_type (site c) p))
      (read c.source (length c.captured) (length c.operation.variables) c.parts.literals p)
  read_ready p =
      ready (is_some (place_type (site c) p)) (place_type (site c) p)
      (read c.source (length c.captured) (length c.operation.variables) c.parts.literals p) refl
      (λ e. record {
        shown =
            plain (fits_of boolean tt) (leaf_of c Right known p) false (λ h. fetched c Right known h p) true true
            (λ hs. place_shown p (place_type (site c) p) refl e hs)
            (λ l f u g hs. place_leaf c Right known p l f u g hs);
        of = λ u f. place_known c Right known p u f;
      })

  -- ---- a value, and a stop

  -- what a stop does with a value
  record Stops (e : Emitted) (action : Stop) (u : StaticType) : Type 0 where
    pub kind : StaticType
    pub works : Works (setting c) e kind
    pub fine : FineStop (declared_of c.source) c.parts c.number c.operation action (kind ∷ []) (Some u)

  stop_ready : (b : Bool) (e : Emitted) (action : Stop) (u : StaticType) → IsOfProgram (types_in c) u →
      (b ≡ true → Stops e action u) → Ready c (typed_if b (Some u)) (then_stop e action u)
  stop_ready b e action u of h =
      ready_of b u (then_stop e action u) refl of
      (λ f.
      let s : Stops e action u = h f in
      by_its_code (fits_of boolean tt) (fits_here e) (λ n. e.code n ++ stops_at action n 1 u)
      (λ hs. stopped s.works u action s.fine (fits_of u of) hs))

  pub node_ready : (x : Typed) (e : Emitted) (at : ℕ) → Ready c x e →
      Ready c (typed_if (is_of wanted.Integer x) (Some node)) (then_stop e (stop.NodeAt at) node)
  node_ready x e at r =
      stop_ready (is_of wanted.Integer x) e (stop.NodeAt at) node tt
      (λ h. record { kind = integer; works = number_of x e r h; fine = ((fits_of integer tt, tt), refl) })

  pub vector_ready : (x : Typed) (e : Emitted) (of : StaticType) (at : ℕ) → IsOfProgram (types_in c) of → Ready c x e →
      Ready c (typed_if (is_vector of && is_of wanted.Integer x) (Some of))
      (then_stop e (stop.NewVector (vector_type of) at) of)
  vector_ready x e of at there r =
      stop_ready (is_vector of && is_of wanted.Integer x) e (stop.NewVector (vector_type of) at) of there
      (λ h.
      let b = both_true (is_vector of) (is_of wanted.Integer x) h in
      let same : of ≡ vector_static (vector_type of) = sym (same_vector of b.0) in
      record {
        kind = integer;
        works = number_of x e r b.1;
        fine = (subst (IsOfProgram (types_in c)) same there, ((fits_of integer tt, tt), ap Some same));
      })

  reference_fits : (o : StaticType) → is_reference_type o ≡ true → IsOfProgram (types_in c) o → FitsAs (setting c) o any
  reference_fits o r of = fits_any (types_in c) o r of

  pub view_ready : (x : Typed) (e : Emitted) (of : StaticType) (at : ℕ) → is_not_nil of ≡ true →
      IsOfProgram (types_in c) of → Ready c x e →
      Ready c (typed_if (is_of wanted.Reference x && takes wanted.Reference of) (Some of))
      (then_stop e (stop.View (viewed_as c.source.table of) at) of)
  view_ready x e of at nil there r =
      stop_ready (is_of wanted.Reference x && takes wanted.Reference of) e (stop.View (viewed_as c.source.table of) at) of
      there
      (λ h.
      let b = both_true (is_of wanted.Reference x) (takes wanted.Reference of) h in
      let o : OperandOf wanted.Reference e = operand wanted.Reference x e r.stated b.0 in
      let same : of ≡ viewed (viewed_as c.source.table of) = sym (same_view c of b.1 nil) in
      record {
        kind = o.kind;
        works = o.works;
        fine = (
          fine_view of,
          subst (IsOfProgram (types_in c)) same there,
          ((reference_fits o.kind o.accepted o.of_program, tt), ap Some same),
        );
      })

  pub fixed_ready : (x : Typed) (e : Emitted) (at : ℕ) → Ready c x e →
      Ready c (typed_if (is_of wanted.Reference x) (Some boolean)) (then_stop e (stop.IsFixed at) boolean)
  fixed_ready x e at r =
      stop_ready (is_of wanted.Reference x) e (stop.IsFixed at) boolean tt
      (λ h.
      let o : OperandOf wanted.Reference e = operand wanted.Reference x e r.stated h in
      record { kind = o.kind; works = o.works; fine = ((reference_fits o.kind o.accepted o.of_program, tt), refl) })

  pub count_ready : Ready c (typed_if true (Some integer)) (by_code true (λ h. stops_at stop.NodeCount h 0 integer))
  count_ready =
      ready_of true integer (by_code true (λ h. stops_at stop.NodeCount h 0 integer)) refl tt
      (λ e.
      by_its_code (fits_of boolean tt) true (λ h. stops_at stop.NodeCount h 0 integer)
      (λ hs. rests (length c.operation.variables) integer hs [] (fits_of integer tt) stop.NodeCount (tt, refl)))

  -- ---- operators of one operand, and of truths

  pub negative_ready : (x : Typed) (e : Emitted) → Ready c x e →
      Ready c (typed_if (is_of wanted.Integer x) (Some integer)) (by_code (fits_here e) (negated e))
  negative_ready x e r =
      ready_of (is_of wanted.Integer x) integer (by_code (fits_here e) (negated e)) refl tt
      (λ h.
      by_its_code (fits_of boolean tt) (fits_here e) (negated e)
      (λ hs. negated_leads (number_of x e r h) (fits_of integer tt) hs))

  pub not_ready : (x : Typed) (e : Emitted) → Ready c x e →
      Ready c (typed_if (is_of wanted.Boolean x) (Some boolean)) (by_condition (fits_here e) (inverted e))
  not_ready x e r =
      ready_of (is_of wanted.Boolean x) boolean (by_condition (fits_here e) (inverted e)) refl tt
      (λ h.
      by_its_condition (fits_of boolean tt) (fits_here e) (inverted e) refl
      (λ hs. inverted_asked (truth_of x e r.stated h) (fits_of boolean tt) hs))

  each_truth : (xs : List Typed) (es : List Emitted) → AllStated c xs es → all_are wanted.Boolean xs ≡ true →
      EachTruth (setting c) es
  each_truth [] [] all e = tt
  each_truth [] (r ∷ es) all e = absurd all
  each_truth (x ∷ xs) [] all e = absurd all
  each_truth (x ∷ xs) (r ∷ es) all e =
      let b = both_true (is_of wanted.Boolean x) (all_are wanted.Boolean xs) e in
      (truth_of x r all.0 b.0, each_truth xs es all.1 b.1)

  pub needed_ready : (wanted_so : Bool) (x : Typed) (e : Emitted) (xs : List Typed) (es : List Emitted) → Ready c x e →
      AllStated c xs es → Ready c (typed_if (all_are wanted.Boolean (x ∷ xs)) (Some boolean))
      (by_code (fits_here e && all_fit es) (λ h. e.code h ++ needed_code wanted_so es h))
  needed_ready wanted_so x e xs es r all =
      let code : ℕ → List Op = λ h. e.code h ++ needed_code wanted_so es h in
      ready_of (all_are wanted.Boolean (x ∷ xs)) boolean (by_code (fits_here e && all_fit es) code) refl tt
      (λ h.
      let b = both_true (is_of wanted.Boolean x) (all_are wanted.Boolean xs) h in
      let v : Works (setting c) e boolean = truth_of x e r.stated b.0 in
      by_its_code (fits_of boolean tt) (fits_here e && all_fit es) code
      (λ hs. go_on (v.code hs) (all_needed wanted_so es (fits_of boolean tt) (each_truth xs es all b.1) hs)))
