-- The code of statements without blocks, each from where no value is held to where none is.
use Rattle.std.proofs.Common.{◌≡◌, ℕ, suc, ◌+◌, Bool, true, false, not, List, [], ◌∷◌, ◌++◌, length, Option, Some, None}
use Rattle.std.proofs.Common.{is_some}
use Rattle.std.proofs.Common.{refl, sym, ap, ◌∙◌, subst, arith, append-nil}
use Rattle.std.proofs.lemmas.Option.{slice_get_within}
use Rattle.std.specs.Prelude.{option_and_then, slice_get, pos}
use Rattle.ec_check.specs.WellTyped.{goes_in, goes_in_if, goes_in_vector, is_of, type_at}
use Rattle.ec_code.specs.declared.code.Op.{Op}
use Rattle.ec_code.specs.declared.code.Op.TheVariants as op
use Rattle.ec_code.specs.declared.code.Operand.{Operand}
use Rattle.ec_code.specs.declared.code.Operand.TheVariants as operand
use Rattle.ec_code.specs.declared.code.Test.{Test}
use Rattle.ec_code.specs.declared.code.Variable.TheVariants.{Named}
use Rattle.ec_code.specs.Fine.{FineStop, FineTest, Tells}
use Rattle.ec_code.specs.Typing.{any, boolean, field_types, integer, string}
use Rattle.ec_types.specs.Conforms.{IsClosed, Relation, conforms_in}
use Rattle.ec_types.specs.Types.{element_from, element_of, is_reference_type}
use Rattle.ec_types.specs.declared.conform.named_type.NamedType.{NamedType}
use Rattle.ec_types.specs.declared.conform.static_type.Plain.{Plain as PlainStatic}
use Rattle.ec_types.specs.declared.conform.static_type.Plain.TheVariants as static
use Rattle.ec_types.specs.declared.conform.static_type.StaticType.{StaticType}
use Rattle.ec_types.specs.declared.conform.static_type.StaticType.TheVariants as type
use Rattle.ec_types.specs.Fits.{Fits}
use Rattle.ec_types.specs.Known.{IsOfProgram}
use Rattle.ec_core.specs.declared.Expression.{Expression}
use Rattle.ec_core.specs.declared.Place.{Place}
use Rattle.ec_core.specs.declared.Place.TheVariants as place
use Rattle.ec_emission.proofs.Expressions.{found}
use Rattle.ec_emission.proofs.Forms.{both_true, not_true}
use Rattle.ec_emission.specs.Expressions.{Condition, Emitted, all_code, literal_from, operand_code, operand_of}
use Rattle.ec_emission.specs.Statements.{given, store, where_it_holds}
use Rattle.ec_accepted.proofs.Frames.{Held}
use Rattle.ec_accepted.proofs.Taking.{Taken, fits_any, only_booleans, only_integers, only_strings, taken, type_of_taken}
use Rattle.ec_accepted.proofs.Pieces.{Setting, FitsAs, From, Piece, around_of, go_on, in_turn, one_step, opened_divisor}
use Rattle.ec_accepted.proofs.Shown as shown
use Rattle.ec_accepted.proofs.Shown.{AskedOf, Works, frame, live_in, operand_is, operand_leads, slot}
use Rattle.ec_accepted.proofs.Stopping.{held_if, stop_alone}
use Rattle.ec_accepted.proofs.Reaching.{Begins, Continues, agreed, as_ops, behind_piece, divides_nothing, held_at}
use Rattle.ec_accepted.proofs.Reaching.{passes, types}
use Rattle.ec_accepted.proofs.Stages.{GoesIn, HasElements, IsSound, IsType, Judged, Stage, Value, code_of}
use Rattle.ec_accepted.proofs.Stages.{element_of_program}
use Rattle.ec_accepted.proofs.Stages.{goes_into, has_elements, itself, of_type, type_of, value_for}
use Rattle.ec_accepted.proofs.Unread.{unread}
use Rattle.ec_accepted.proofs.FineProgramsValues.{stops_with}
use Rattle.ec_accepted.proofs.Writing.{Covers, all_covered, copies, copies_text, keeps}
use Rattle.ec_emission.specs.Types.{behind}
use Rattle.ec_meaning.specs.Steps.{default_if}
use Rattle.ec_meaning.specs.Types.{kind_of}
use Rattle.ec_rules.specs.declared.operands.Wanted.TheVariants as wanted
use Rattle.ec_emission.specs.Rows.{bare_row, fail_row, rest_row}
use Rattle.ec_world.specs.Values.{default_of}
use Rattle.ec_world.specs.declared.process.Cause.TheVariants as cause
use Rattle.ec_world.specs.declared.stop.Stop.{Stop}
use Rattle.ec_world.specs.declared.stop.Stop.TheVariants as stop

-- what is behind the first of two lists
behind_first : (xs ys : List StaticType) (n : ℕ) (t : StaticType) → slice_get ys n ≡ Some t →
    slice_get (xs ++ ys) (length xs + n) ≡ Some t
behind_first [] ys n t e = let at : 0 + n ≡ n = omega arith in ap (λ j. slice_get ys j) at ∙ e
behind_first (x ∷ xs) ys n t e =
    let at : suc (length xs) + n ≡ suc (length xs + n) = omega arith in
    ap (λ j. slice_get (x ∷ (xs ++ ys)) j) at ∙ behind_first xs ys n t e

-- ---- nil

abbrev no_pairs : Relation
no_pairs a b = false

none_closed : (all : List NamedType) → IsClosed all no_pairs
none_closed all = record { left = λ a b e. not_true e; right = λ a b e. not_true e; clauses = λ a b i j e. not_true e }

nil_conforms : (all : List NamedType) (t : StaticType) → is_reference_type t ≡ true →
    conforms_in all no_pairs type.Nil t ≡ true
nil_conforms all (type.Plain of) e = e
nil_conforms all (type.Vector inner of) e = refl
nil_conforms all type.Nil e = refl
nil_conforms all type.Unknown e = refl

-- nil fits where a reference is wanted
nil_fits : (all : List NamedType) (t : StaticType) → is_reference_type t ≡ true → IsOfProgram all t → Fits all type.Nil t
nil_fits all t e h = record { given = tt; wanted = h; conforms = (no_pairs, none_closed all, nil_conforms all t e) }

module _ (g : Stage) (sound : IsSound g) where
  abbrev w : Setting
  w = g.setting

  abbrev all : ℕ
  all = length (types w)

  -- code from where statements begin to where the next one does
  abbrev pub Does : List Op → Type 0
  Does ops = Piece w ops (frame w []) (Begins w)

  -- ---- defaults

  -- A variable gets the default of its type; it and those that are known before are known behind.
  module _ (known n more : ℕ) (covers : Covers w known n more) where
    abbrev Gives : List Op → Type 0
    Gives ops = Piece w ops (held_at known []) (From w (held_at more []))

    abbrev default_code : StaticType → List Op
    default_code t = given g.source g.captured (types w) w.parts.literals g.leaves n (default_of (kind_of t))

    gives_nil : (t : StaticType) → slice_get (types w) n ≡ Some t → is_reference_type t ≡ true → IsType g t →
        Gives (op.Copy (Named n) operand.Nil ∷ [])
    gives_nil t at e is =
        copies w known n more [] covers operand.Nil type.Nil t refl (nil_fits w.declared.types type.Nil refl tt)
        (nil_fits w.declared.types t e is) at

    gives_plain : (of : PlainStatic) → slice_get (types w) n ≡ Some (type.Plain of) → IsType g (type.Plain of) →
        Gives (default_code (type.Plain of))
    gives_plain static.Integer at is =
        copies w known n more [] covers (operand.Number (pos 0)) integer integer refl (itself g sound integer is)
        (itself g sound integer is) at
    gives_plain static.Boolean at is =
        copies w known n more [] covers (operand.Truth false) boolean boolean refl (itself g sound boolean is)
        (itself g sound boolean is) at
    gives_plain static.String at is =
        let place : ℕ = literal_from 0 w.parts.literals [] in
        copies_text w known n more place covers string (itself g sound string is) at
        (slice_get_within w.parts.literals place [] (found w.parts.literals [] sound.empty))
    gives_plain static.Any at is = gives_nil any at refl is
    gives_plain static.Node at is = gives_nil (type.Plain static.Node) at refl is
    gives_plain (static.Named m) at is = gives_nil (type.Plain (static.Named m)) at refl is

    pub gives_default : (t : StaticType) → slice_get (types w) n ≡ Some t → Gives (default_code t)
    gives_default (type.Plain of) at = gives_plain of at (sound.declared n (type.Plain of) at)
    gives_default (type.Vector inner of) at =
        gives_nil (type.Vector inner of) at refl (sound.declared n (type.Vector inner of) at)
    gives_default type.Nil at = gives_nil type.Nil at refl tt
    gives_default type.Unknown at = absurd (sound.declared n type.Unknown at)

  there : (n : ℕ) (o : Option StaticType) → slice_get (types w) n ≡ o → is_some o ≡ true →
      Does (given g.source g.captured (types w) w.parts.literals g.leaves n (default_if o))
  there n None at e = not_true e
  there n (Some t) at e = gives_default all n all (all_covered w all n) t at

  -- a variable begins with its default
  pub declares : (n : ℕ) → is_some (slice_get g.site.variables n) ≡ true →
      Does (given g.source g.captured (types w) w.parts.literals g.leaves n (default_if (slice_get (types w) n)))
  declares n e =
      there n (slice_get (types w) n) refl (subst (λ ts. is_some (slice_get ts n) ≡ true) sound.variables e)

  -- ---- places

  abbrev put : Place → Operand → List Op
  put p a = store g.source g.captured (types w) w.parts.literals g.leaves p a

  abbrev stored_code : Place → Expression → List Op
  stored_code p x = operand_code (code_of g x) 0 ++ put p (operand_of (code_of g x) 0)

  -- a value that goes into a place whose type is known
  record Takes (p : Place) (x : Expression) : Type 0 where
    pub kind : StaticType
    pub at : type_at g.site p ≡ Some kind
    pub goes : goes_in g.site.table kind (type_of g x) ≡ true

  wanted_at : (p : Place) (x : Expression) → goes_in_if g.site.table (type_at g.site p) (type_of g x) ≡ true → Takes p x
  wanted_at p x e = by (type_at g.site p) refl e
    where
      by : (o : Option StaticType) → type_at g.site p ≡ o → goes_in_if g.site.table o (type_of g x) ≡ true → Takes p x
      by None at f = not_true f
      by (Some t) at f = record { kind = t; at = at; goes = f }

  stored_variable : (n : ℕ) (x : Expression) → Judged g x → Takes (place.Variable n) x →
      Does (stored_code (place.Variable n) x)
  stored_variable n x j k =
      let at : slice_get (types w) n ≡ Some k.kind = sym (ap (λ ts. slice_get ts n) sound.variables) ∙ k.at in
      let v : Value g sound x k.kind = value_for g sound x j k.kind (sound.declared n k.kind at) k.goes in
      let e : Emitted = code_of g x in
      let hs : Held = slot e.leaf v.kind ∷ [] in
      go_on (operand_leads (shown.given v.works []))
      (copies w all n all hs (all_covered w all n) (operand_of e 0) v.kind k.kind
      (operand_is (shown.given v.works []) hs (λ d t h. h)) v.own v.fits at)

  stored_field : (n : ℕ) (x : Expression) → Judged g x → Takes (place.Field n) x → Does (stored_code (place.Field n) x)
  stored_field n x j k =
      let v : Value g sound x k.kind = value_for g sound x j k.kind (sound.kept n k.kind k.at) k.goes in
      let e : Emitted = code_of g x in
      let hs : Held = slot e.leaf v.kind ∷ [] in
      let at : slice_get (field_types w.declared w.operation.class) (g.captured + n) ≡ Some k.kind =
      ap (λ ts. slice_get ts (g.captured + n)) sound.fields
      ∙ ap (λ i. slice_get (g.site.captured ++ g.site.fields) (i + n)) sound.before
      ∙ behind_first g.site.captured g.site.fields n k.kind k.at in
      go_on (operand_leads (shown.given v.works []))
      (keeps w (g.captured + n) hs (operand_of e 0) v.kind k.kind (operand_is (shown.given v.works []) hs (λ d t h. h))
      v.fits at)

  -- Captured names and constants get nothing.
  stored_nowhere : (p : Place) (x : Expression) → Judged g x → Takes p x → Does (operand_code (code_of g x) 0 ++ [])
  stored_nowhere p x j k =
      let i : GoesIn g.site.table k.kind (type_of g x) = goes_into g.site.table k.kind (type_of g x) k.goes in
      let v : Works w (code_of g x) i.kind = of_type g sound x j i.kind i.of in
      as_ops w (sym (append-nil (operand_code (code_of g x) 0)))
      (unread w (operand_code (code_of g x) 0) (slot (code_of g x).leaf i.kind ∷ []) (operand_leads (shown.given v [])))

  pub stores : (p : Place) (x : Expression) → Judged g x → goes_in_if g.site.table (type_at g.site p) (type_of g x) ≡ true →
      Does (stored_code p x)
  stores (place.Variable n) x j e = stored_variable n x j (wanted_at (place.Variable n) x e)
  stores (place.Field n) x j e = stored_field n x j (wanted_at (place.Field n) x e)
  stores (place.Captured n) x j e = stored_nowhere (place.Captured n) x j (wanted_at (place.Captured n) x e)
  stores (place.Constant n) x j e = stored_nowhere (place.Constant n) x j (wanted_at (place.Constant n) x e)

  -- ---- stops that take values

  abbrev stop_code : List Emitted → ℕ → Stop → List Op
  stop_code es takes action = all_code es 0 ++ op.Rest (rest_row action 0 takes None) ∷ []

  pub prints : (x : Expression) → Judged g x → is_of wanted.String (type_of g x) ≡ true →
      Does (stop_code (code_of g x ∷ []) 1 stop.Print)
  prints x j e =
      let v : Works w (code_of g x) string = of_type g sound x j string (type_of_taken wanted.String (type_of g x) string
      only_strings e) in
      stops_with w (code_of g x ∷ []) (string ∷ []) (v, tt) stop.Print ((itself g sound string tt, tt), refl)

  pub sets_element : (vector number x : Expression) (line : ℕ) → Judged g vector → Judged g number → Judged g x →
      is_of wanted.Integer (type_of g number) ≡ true →
      goes_in_vector g.site (type_of g vector) (type_of g x) ≡ true →
      Does (stop_code (code_of g vector ∷ code_of g number ∷ code_of g x ∷ []) 3 (stop.Set line))
  sets_element vector number x line jv jn jx e f =
      let b = both_true (type_of g vector).is_well
      (goes_in_if g.site.table (option_and_then element_of (type_of g vector).of) (type_of g x)) f in
      let h : HasElements g.site.table (type_of g vector).of (type_of g x) =
      has_elements g.site.table (type_of g vector).of (type_of g x) b.1 in
      let t : StaticType = type.Vector h.inner h.of in
      let is : IsType g t = sound.of_program vector jv t h.is in
      let v : Works w (code_of g vector) t = of_type g sound vector jv t h.is in
      let n : Works w (code_of g number) integer = of_type g sound number jn integer (type_of_taken wanted.Integer
      (type_of g number) integer only_integers e) in
      let k : Value g sound x (element_from h.inner h.of) =
      value_for g sound x jx (element_from h.inner h.of) (element_of_program w.declared.types h.inner h.of is) h.goes in
      stops_with w (code_of g vector ∷ code_of g number ∷ code_of g x ∷ []) (t ∷ integer ∷ k.kind ∷ []) (
        v,
        (
          n,
          (
            k.works,
            tt,
          ),
        ),
      )
      (stop.Set line) ((itself g sound integer tt, (k.fits, tt)), refl)

  -- a reference, as which any object is taken
  record Reference (x : Expression) : Type 0 where
    pub kind : StaticType
    pub works : Works w (code_of g x) kind
    pub fits : FitsAs w kind any

  reference : (x : Expression) → Judged g x → is_of wanted.Reference (type_of g x) ≡ true → Reference x
  reference x j e =
      let k : Taken wanted.Reference (type_of g x) = taken wanted.Reference (type_of g x) e in
      record {
        kind = k.kind;
        works = of_type g sound x j k.kind k.of;
        fits = fits_any w.declared.types k.kind k.accepted (sound.of_program x j k.kind k.of);
      }

  -- a stop that takes one reference
  pub takes_one : (x : Expression) → Judged g x → is_of wanted.Reference (type_of g x) ≡ true → (action : Stop) →
      ((t : StaticType) → FitsAs w t any → FineStop w.declared w.parts w.number w.operation action (t ∷ []) None) →
      Does (stop_code (code_of g x ∷ []) 1 action)
  takes_one x j e action fine =
      let r : Reference x = reference x j e in
      stops_with w (code_of g x ∷ []) (r.kind ∷ []) (r.works, tt) action (fine r.kind r.fits)

  -- and one that takes two
  pub takes_two : (x y : Expression) → Judged g x → Judged g y → is_of wanted.Reference (type_of g x) ≡ true →
      is_of wanted.Reference (type_of g y) ≡ true → (action : Stop) →
      ((t u : StaticType) → FitsAs w t any → FitsAs w u any →
      FineStop w.declared w.parts w.number w.operation action (t ∷ u ∷ []) None) →
      Does (stop_code (code_of g x ∷ code_of g y ∷ []) 2 action)
  takes_two x y j k e f action fine =
      let r : Reference x = reference x j e in
      let q : Reference y = reference y k f in
      stops_with w (code_of g x ∷ code_of g y ∷ []) (r.kind ∷ q.kind ∷ []) (r.works, (q.works, tt)) action
      (fine r.kind q.kind r.fits q.fits)

  -- what an expression gives is dropped
  pub drops : (x : Expression) → Judged g x → Does ((code_of g x).code 0)
  drops x j = unread w ((code_of g x).code 0) (held_if (type_of g x).of []) ((sound.shown x j).code [])

  -- ---- stops that take nothing

  pub bare : (action : Stop) → FineStop w.declared w.parts w.number w.operation action [] None →
      Does (op.Rest (bare_row action) ∷ [])
  bare action fine = stop_alone all [] [] (λ d t h. h) (bare_row action) refl refl [] tt fine

  -- ---- conditions

  pub asked : (x : Expression) → Judged g x → is_of wanted.Boolean (type_of g x) ≡ true →
      AskedOf w ((code_of g x).condition 0) []
  asked x j e = (sound.shown x j).condition (type_of_taken wanted.Boolean (type_of g x) boolean only_booleans e) []

  -- so many steps are passed over where the test comes out so
  pub branches : (hs : Held) (t : Test) → FineTest w.declared w.parts (live_in w hs) t → (side : Bool) (over : ℕ) →
      Piece w (op.Branch t side over ∷ []) (frame w hs) (Continues w over)
  branches hs t test side over =
      one_step (op.Branch t side over) refl
      (λ lines place rest c e.
      record {
        typed = (test, passes w hs rest 0 c.0, passes w hs rest over c.1);
        agrees = λ ts a. agreed w all rest c.0 (behind (around_of w) ts (op.Branch t side over));
        leads = (
          subst (λ o. Tells t (not side) o) (sym (opened_divisor w rest (frame w []) c.0)) tt,
          subst (λ o. Tells t side o) (sym (divides_nothing w rest over c.1)) tt,
        );
      })

  pub jumps : (over : ℕ) → Piece w (op.Jump over ∷ []) (frame w []) (Continues w over)
  jumps over =
      one_step (op.Jump over) refl
      (λ lines place rest c e.
      record {
        typed = passes w [] rest over c.1;
        agrees = λ ts a. agreed w all rest c.0 (behind (around_of w) ts (op.Jump over));
        leads = divides_nothing w rest over c.1;
      })

  pub exits_where : (c : Condition) → AskedOf w c [] → (left : ℕ) →
      Piece w (c.code ++ where_it_holds c left ∷ []) (frame w []) (Continues w left)
  exits_where c a left = go_on a.code (branches a.held c.asks a.test c.wanted left)

  pub requires : (c : Condition) → AskedOf w c [] → (line : ℕ) →
      Does (c.code ++ where_it_holds c 1 ∷ op.Rest (fail_row cause.FalseAssertion line) ∷ [])
  requires c a line =
      let fails : Does (op.Rest (fail_row cause.FalseAssertion line) ∷ []) = bare (stop.Fail cause.FalseAssertion line)
      tt in
      go_on a.code
      (in_turn (branches a.held c.asks a.test c.wanted 1) fails
      (λ rest b opens. (opens, subst (Begins w) (sym (behind_piece w fails rest)) b)))
