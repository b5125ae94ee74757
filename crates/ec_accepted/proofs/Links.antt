-- The links of chains: invocations, operations that need no declaration, and elements.
use Rattle.std.proofs.Common.{◌≡◌, ℕ, suc, ◌&&◌, ◌||◌, Bool, true, false, List, [], ◌∷◌, ◌++◌, length, Option, Some, None}
use Rattle.std.proofs.Common.{option_map}
use Rattle.std.proofs.Common.{option_and_then, refl, sym, ap, ◌∙◌, subst, inl, inr, ◌⊎◌}
use Rattle.std.proofs.lemmas.Bool.{or_cases}
use Rattle.ec_check.proofs.WellValues.{result_is}
use Rattle.ec_check.specs.Numbers.{Number}
use Rattle.ec_check.specs.WellTyped.{AfterLink, Typed, are_none, are_two_integers, call_typed, can_invoke, is_element}
use Rattle.ec_check.specs.WellTyped.{is_of, own_has}
use Rattle.ec_check.specs.WellTyped.{is_same_result, type_has, typed_if}
use Rattle.ec_code.specs.Fine.{FineStop}
use Rattle.ec_code.specs.Typing.{integer, boolean, string}
use Rattle.ec_code.specs.declared.code.Op.TheVariants as op
use Rattle.ec_types.specs.Types.{element_from, element_of, named}
use Rattle.ec_types.specs.declared.conform.static_type.Plain.{Plain as PlainType}
use Rattle.ec_types.specs.declared.conform.static_type.StaticType.{StaticType}
use Rattle.ec_types.specs.declared.conform.static_type.StaticType.TheVariants as type
use Rattle.ec_types.specs.Known.{IsOfProgram}
use Rattle.ec_core.specs.declared.Builtin.{Builtin}
use Rattle.ec_core.specs.declared.Builtin.TheVariants as builtin
use Rattle.ec_emission.proofs.Forms.{both_true, not_true, no_leaf, same_leaf}
use Rattle.ec_emission.specs.Expressions.{Emitted, Following, all_code, all_fit, builtin_type, fits_here, gives_result}
use Rattle.ec_emission.specs.Expressions.{stops_at}
use Rattle.ec_accepted.proofs.Calling.{ByType, ByOwn, by_type, by_own, fine_invoke, own_call}
use Rattle.ec_accepted.proofs.Chains.{Follows, LinkReady}
use Rattle.ec_accepted.proofs.FinenessForms.{AllWork, all_lead}
use Rattle.ec_accepted.proofs.Frames.{Held}
use Rattle.ec_accepted.proofs.Taking.{Taken, taken, only_integers, only_booleans, only_strings, type_of_taken, well_taken}
use Rattle.ec_accepted.proofs.Making.{Arguments}
use Rattle.ec_accepted.proofs.Pieces.{FitsAs, go_on}
use Rattle.ec_accepted.proofs.Shown.{Goes, Works, works}
use Rattle.ec_accepted.proofs.Standing.{Stand, Known, KnownOwn, Stated, AllStated, setting, site, types_in, each_fits}
use Rattle.ec_accepted.proofs.Stopping.{above, held_if, own_with, rests, rests_with}
use Rattle.ec_emission.specs.Lowered.{declared_of}
use Rattle.ec_meaning.specs.Programs.{name_number}
use Rattle.ec_meaning.specs.Steps.{stop_of}
use Rattle.ec_types.specs.Names.{Text}
use Rattle.ec_rules.specs.Types.{is_vector}
use Rattle.ec_rules.specs.declared.operands.Wanted.TheVariants as wanted
use Rattle.ec_emission.specs.Rows.{own_row, rest_row}
use Rattle.ec_world.specs.declared.stop.Stop.{Stop}
use Rattle.ec_world.specs.declared.stop.Stop.TheVariants as stop

not_both : {A : Type 0} → (a b : Bool) → a ≡ true → a && b ≡ false → b ≡ true → A
not_both a b e f g = not_true (sym f ∙ ap (λ z. z && b) e ∙ g)

never_call : {A : Type 0} → (a : Bool) → a && false ≡ true → A
never_call a e = not_true (both_true a false e).1

named_own : (o : Option ℕ) (m : ℕ) → option_map named o ≡ Some (named m) → o ≡ Some m
named_own None m e = no_leaf (named m) e
named_own (Some n) m e = let same : n ≡ m = cc in ap Some same

module _ (c : Stand) (Right : Number → Type 0) (here : Known c Right) where
  -- what a value of a type, or of the boolean or the integer type, fits
  fits_of : (t : StaticType) → IsOfProgram (types_in c) t → FitsAs (setting c) t t
  fits_of = each_fits c here.operations

  -- ---- invocations

  module _ (name : Text) (line : ℕ) (xs : List Typed) (es : List Emitted) (all : AllStated c xs es)
      (result : Option StaticType)
      (known : (u : StaticType) → result ≡ Some u → IsOfProgram (types_in c) u) where
    abbrev action : Stop
    action = stop.Invoke (name_number c.source name) line

    abbrev invoked : AfterLink
    invoked before = typed_if (before.is_well && can_invoke (site c) before name xs result) result

    abbrev invokes : Following
    invokes = record {
      code = λ h. all_code es (suc h) ++ op.Rest (rest_row action h (suc (length es)) result) ∷ [];
      own_code = λ h. all_code es (suc h) ++ op.Rest (own_row action h (suc (length es)) result) ∷ [];
      is_call = true;
      gives = gives_result result;
      fits = all_fit es;
    }

    fits_result : (u : StaticType) → result ≡ Some u → FitsAs (setting c) u u
    fits_result u e = fits_of u (known u e)

    invoke_leads :
        (of : Option StaticType) (b : ByType c Right here of name es result) (hs : Held) →
        Goes (setting c) (invokes.code (length hs)) (Some (named b.number) ∷ hs) (held_if result hs)
    invoke_leads of b hs =
        let args : Arguments c b.operation.parameters es = b.call.taken in
        let held : Held = above (Some (named b.number) ∷ hs) args.types in
        go_on (all_lead es args.types args.work (Some (named b.number) ∷ hs))
        (subst
        (λ n. Goes (setting c) (op.Rest (rest_row action (length hs) (suc n) result) ∷ []) held (held_if result hs))
        args.count
        (rests_with (length c.operation.variables) hs (named b.number ∷ args.types) result fits_result action
        (fine_invoke c Right here of name es result b)))

    own_leads :
        (n : ℕ) (b : ByOwn c Right here n name es result) → c.own ≡ Some n → (hs : Held) →
        Goes (setting c) (invokes.own_code (length hs)) (Some (named n) ∷ hs) (held_if result hs)
    own_leads n b is hs =
        let own : KnownOwn c n = here.own n is in
        let args = b.call.taken in
        let held : Held = above (Some (named n) ∷ hs) args.types in
        go_on (all_lead es args.types args.work (Some (named n) ∷ hs))
        (subst (λ k. Goes (setting c) (op.Rest (own_row action (length hs) (suc k) result) ∷ []) held (held_if result hs))
        args.count
        (own_with (length c.operation.variables) hs (named n ∷ args.types) result fits_result action
        (sym own.type, own_call c Right here n name es result own b)))

    -- the own object has the operation
    own_number : (o : Option ℕ) → own_has (site c) o name xs result ≡ true → (n : ℕ) × (o ≡ Some n)
    own_number None e = not_true e
    own_number (Some n) e = (n, refl)

    by_itself :
        (before : Typed) → before.is_well ≡ true → before.is_itself ≡ true → before.of ≡ option_map named c.own →
        own_has (site c) c.own name xs result ≡ true → Follows c before (invoked before) invokes
    by_itself before well itself of has =
        let n = own_number c.own has in
        let b : ByOwn c Right here n.0 name es result =
        by_own c Right here n.0 name xs es result (here.own n.0 n.1) all
        (inl (subst (λ o. own_has (site c) o name xs result ≡ true) n.1 has)) in
        record {
          well = well;
          kind = named n.0;
          is = of ∙ ap (option_map named) n.1;
          code = λ e hs. not_both before.is_itself true itself e refl;
          own = λ e hs. own_leads n.0 b n.1 hs;
        }

    by_receiver :
        (before : Typed) → before.is_well ≡ true → (before.is_itself ≡ true → before.of ≡ option_map named c.own) →
        type_has c.source.table before.of name xs result ≡ true → Follows c before (invoked before) invokes
    by_receiver before well itself has =
        let b : ByType c Right here before.of name es result = by_type c Right here before.of name xs es result all has in
        record {
          well = well;
          kind = named b.number;
          is = b.is;
          code = λ e hs. invoke_leads before.of b hs;
          own = λ e hs.
              let is_own : before.is_itself ≡ true = (both_true before.is_itself true e).0 in
              let own : c.own ≡ Some b.number = named_own c.own b.number (sym (itself is_own) ∙ b.is) in
              let same : type_has c.source.table (Some (named b.number)) name xs result ≡ true =
              subst (λ o. type_has c.source.table o name xs result ≡ true) b.is has in
              own_leads b.number
              (by_own c Right here b.number name xs es result (here.own b.number own) all (inr same)) own hs;
        }

    invoke_follows :
        (before : Typed) → (before.is_itself ≡ true → before.of ≡ option_map named c.own) →
        (invoked before).is_well ≡ true → Follows c before (invoked before) invokes
    invoke_follows before itself e =
        let own : Bool = before.is_itself && own_has (site c) c.own name xs result in
        let b = both_true before.is_well (can_invoke (site c) before name xs result) e in
        by_case (or_cases own (type_has c.source.table before.of name xs result) b.1) b.0
      where
        by_case :
            (before.is_itself && own_has (site c) c.own name xs result ≡ true)
            ⊎ (type_has c.source.table before.of name xs result ≡ true) → before.is_well ≡ true →
            Follows c before (invoked before) invokes
        by_case (inl f) well =
            let g = both_true before.is_itself (own_has (site c) c.own name xs result) f in
            by_itself before well g.0 (itself g.0) g.1
        by_case (inr f) well = by_receiver before well itself f

    pub invoke_ready : LinkReady c invoked invokes
    invoke_ready = record { other = λ before. refl; known = λ before u e. known u e; follows = invoke_follows }

  -- ---- operations that need no declaration

  -- the types of a call's arguments, behind a receiver of a type, and that the stop takes them
  record Suits (b : Builtin) (line : ℕ) (before : Typed) (es : List Emitted) : Type 0 where
    pub well : before.is_well ≡ true
    pub kind : StaticType
    pub is : before.of ≡ Some kind
    pub types : List StaticType
    pub work : AllWork (setting c) es types
    pub count : length types ≡ length es
    pub fine :
        FineStop (declared_of c.source) c.parts c.number c.operation (stop_of b line) (kind ∷ types) (Some (builtin_type b))

  abbrev calls_builtin : Builtin → ℕ → List Emitted → Following
  calls_builtin b line es = record {
    code = λ h. all_code es (suc h) ++ stops_at (stop_of b line) h (suc (length es)) (builtin_type b);
    own_code = λ h. [];
    is_call = false;
    gives = true;
    fits = all_fit es;
  }

  builtin_known : (b : Builtin) → IsOfProgram (types_in c) (builtin_type b)
  builtin_known builtin.AsString = tt
  builtin_known builtin.Length = tt
  builtin_known builtin.GetSlice = tt
  builtin_known builtin.Size = tt

  call_gives : (b : Builtin) (before : Typed) (xs : List Typed) → (call_typed before b xs).of ≡ Some (builtin_type b)
  call_gives builtin.AsString before xs = refl
  call_gives builtin.Length before xs = refl
  call_gives builtin.GetSlice before xs = refl
  call_gives builtin.Size before xs = refl

  call_other : (b : Builtin) (before : Typed) (xs : List Typed) → (call_typed before b xs).is_itself ≡ false
  call_other builtin.AsString before xs = refl
  call_other builtin.Length before xs = refl
  call_other builtin.GetSlice before xs = refl
  call_other builtin.Size before xs = refl

  suited :
      (b : Builtin) (line : ℕ) (before after : Typed) (es : List Emitted) → after.of ≡ Some (builtin_type b) →
      Suits b line before es → Follows c before after (calls_builtin b line es)
  suited b line before after es of s = record {
    well = s.well;
    kind = s.kind;
    is = s.is;
    code = λ e hs.
        let held : Held = above (Some s.kind ∷ hs) s.types in
        subst (λ z. Goes (setting c) ((calls_builtin b line es).code (length hs)) (Some s.kind ∷ hs) (held_if z hs))
        (sym of)
        (go_on (all_lead es s.types s.work (Some s.kind ∷ hs))
        (subst
        (λ n.
        Goes (setting c) (stops_at (stop_of b line) (length hs) (suc n) (builtin_type b)) held (Some (builtin_type b) ∷ hs))
        s.count
        (rests (length c.operation.variables) (builtin_type b) hs (s.kind ∷ s.types)
        (fits_of (builtin_type b) (builtin_known b))
        (stop_of b line) s.fine)));
    own = λ e hs. never_call before.is_itself e;
  }

  -- no arguments, or two numbers
  no_arguments : (xs : List Typed) (es : List Emitted) → AllStated c xs es → are_none xs ≡ true → AllWork (setting c) es []
  no_arguments [] [] all e = tt
  no_arguments [] (r ∷ es) all e = absurd all
  no_arguments (x ∷ xs) es all e = not_true e

  none_long : (xs : List Typed) (es : List Emitted) → AllStated c xs es → are_none xs ≡ true → 0 ≡ length es
  none_long [] [] all e = refl
  none_long [] (r ∷ es) all e = absurd all
  none_long (x ∷ xs) es all e = not_true e

  -- a value of a kind that is taken, where it is stated
  number_works :
      (x : Typed) (r : Emitted) → (x.is_well ≡ true → Stated c x r) → is_of wanted.Integer x ≡ true →
      Works (setting c) r integer
  number_works x r good e =
      let s : Stated c x r = good (well_taken wanted.Integer x e) in
      works s.shown integer (type_of_taken wanted.Integer x integer only_integers e)

  two_numbers : (xs : List Typed) (es : List Emitted) → AllStated c xs es → are_two_integers xs ≡ true →
      AllWork (setting c) es (integer ∷ integer ∷ [])
  two_numbers (x ∷ y ∷ []) (r ∷ q ∷ []) all e =
      let b = both_true (is_of wanted.Integer x) (is_of wanted.Integer y) e in
      (number_works x r all.0 b.0, (number_works y q all.1.0 b.1, tt))
  two_numbers (x ∷ y ∷ []) [] all e = absurd all
  two_numbers (x ∷ y ∷ []) (r ∷ []) all e = absurd all.1
  two_numbers (x ∷ y ∷ []) (r ∷ q ∷ s ∷ es) all e = absurd all.1.1
  two_numbers [] es all e = not_true e
  two_numbers (x ∷ []) es all e = not_true e
  two_numbers (x ∷ y ∷ z ∷ xs) es all e = not_true e

  two_long : (xs : List Typed) (es : List Emitted) → AllStated c xs es → are_two_integers xs ≡ true → 2 ≡ length es
  two_long (x ∷ y ∷ []) (r ∷ q ∷ []) all e = refl
  two_long (x ∷ y ∷ []) [] all e = absurd all
  two_long (x ∷ y ∷ []) (r ∷ []) all e = absurd all.1
  two_long (x ∷ y ∷ []) (r ∷ q ∷ s ∷ es) all e = absurd all.1.1
  two_long [] es all e = not_true e
  two_long (x ∷ []) es all e = not_true e
  two_long (x ∷ y ∷ z ∷ xs) es all e = not_true e

  -- a receiver of one type alone, and no arguments
  suits_alone :
      (b : Builtin) (line : ℕ) (before : Typed) (xs : List Typed) (es : List Emitted) (t : StaticType) → AllStated c xs es →
      before.is_well ≡ true → before.of ≡ Some t → are_none xs ≡ true →
      FineStop (declared_of c.source) c.parts c.number c.operation (stop_of b line) (t ∷ []) (Some (builtin_type b)) →
      Suits b line before es
  suits_alone b line before xs es t all well is none fine = record {
    well = well;
    kind = t;
    is = is;
    types = [];
    work = no_arguments xs es all none;
    count = none_long xs es all none;
    fine = fine;
  }

  suits_text :
      (line : ℕ) (before : Typed) (xs : List Typed) (es : List Emitted) → AllStated c xs es → are_none xs ≡ true →
      (is_of wanted.Integer before ≡ true) ⊎ (is_of wanted.Boolean before ≡ true) → Suits builtin.AsString line before es
  suits_text line before xs es all none (inl e) =
      suits_alone builtin.AsString line before xs es integer all (well_taken wanted.Integer before e)
      (type_of_taken wanted.Integer before integer only_integers e) none (inl (fits_of integer tt, tt), refl)
  suits_text line before xs es all none (inr e) =
      suits_alone builtin.AsString line before xs es boolean all (well_taken wanted.Boolean before e)
      (type_of_taken wanted.Boolean before boolean only_booleans e) none (inr (fits_of boolean tt, tt), refl)

  vector_size :
      (t : StaticType) → is_vector t ≡ true →
      FineStop (declared_of c.source) c.parts c.number c.operation (stop_of builtin.Size 0) (t ∷ []) (Some integer)
  vector_size (type.Vector inner of) e = (tt, refl)
  vector_size (type.Plain of) e = not_true e
  vector_size type.Nil e = not_true e
  vector_size type.Unknown e = not_true e

  suits :
      (b : Builtin) (line : ℕ) (before : Typed) (xs : List Typed) (es : List Emitted) → AllStated c xs es →
      (call_typed before b xs).is_well ≡ true → Suits b line before es
  suits builtin.AsString line before xs es all e =
      let b = both_true (is_of wanted.Integer before || is_of wanted.Boolean before) (are_none xs) e in
      suits_text line before xs es all b.1 (or_cases (is_of wanted.Integer before) (is_of wanted.Boolean before) b.0)
  suits builtin.Length line before xs es all e =
      let b = both_true (is_of wanted.String before) (are_none xs) e in
      suits_alone builtin.Length line before xs es string all (well_taken wanted.String before b.0)
      (type_of_taken wanted.String before string only_strings b.0) b.1 ((fits_of string tt, tt), refl)
  suits builtin.GetSlice line before xs es all e =
      let b = both_true (is_of wanted.String before) (are_two_integers xs) e in
      record {
        well = well_taken wanted.String before b.0;
        kind = string;
        is = type_of_taken wanted.String before string only_strings b.0;
        types = integer ∷ integer ∷ [];
        work = two_numbers xs es all b.1;
        count = two_long xs es all b.1;
        fine = ((fits_of string tt, (fits_of integer tt, (fits_of integer tt, tt))), refl);
      }
  suits builtin.Size line before xs es all e =
      let b = both_true (is_of wanted.Vector before) (are_none xs) e in
      let k : Taken wanted.Vector before = taken wanted.Vector before b.0 in
      suits_alone builtin.Size line before xs es k.kind all k.is_well k.of b.1 (vector_size k.kind k.accepted)

  pub builtin_ready :
      (b : Builtin) (line : ℕ) (xs : List Typed) (es : List Emitted) → AllStated c xs es →
      LinkReady c (λ before. call_typed before b xs) (calls_builtin b line es)
  builtin_ready b line xs es all = record {
    other = λ before. call_other b before xs;
    known = λ before u e.
        subst (IsOfProgram (types_in c)) (same_leaf (builtin_type b) u (sym (call_gives b before xs) ∙ e))
        (builtin_known b);
    follows = λ before itself e.
        suited b line before (call_typed before b xs) es (call_gives b before xs) (suits b line before xs es all e);
  }

  -- ---- elements

  -- what has elements of a type
  record VectorOf (o : Option StaticType) (of : StaticType) : Type 0 where
    pub inner : ℕ
    pub plain : PlainType
    pub is : o ≡ Some (type.Vector inner plain)
    pub element : element_from inner plain ≡ of

  vector_with : (o : Option StaticType) (of : StaticType) → option_and_then element_of o ≡ Some of → VectorOf o of
  vector_with None of e = no_leaf of e
  vector_with (Some (type.Vector inner p)) of e =
      record { inner = inner; plain = p; is = refl; element = same_leaf (element_from inner p) of e }
  vector_with (Some (type.Plain p)) of e = no_leaf of e
  vector_with (Some type.Nil) of e = no_leaf of e
  vector_with (Some type.Unknown) of e = no_leaf of e

  module _ (x : Typed) (r : Emitted) (good : x.is_well ≡ true → Stated c x r) (of : StaticType) (line : ℕ)
      (known : IsOfProgram (types_in c) of) where
    abbrev indexed : AfterLink
    indexed before = typed_if (is_element before of && is_of wanted.Integer x) (Some of)

    abbrev indexes : Following
    indexes = record {
      code = λ h. r.code (suc h) ++ stops_at (stop.Get line) h 2 of;
      own_code = λ h. [];
      is_call = false;
      gives = true;
      fits = fits_here r;
    }

    element_follows : (before : Typed) → (indexed before).is_well ≡ true → Follows c before (indexed before) indexes
    element_follows before e =
        let b = both_true (is_element before of) (is_of wanted.Integer x) e in
        let g = both_true before.is_well (is_same_result (option_and_then element_of before.of) (Some of)) b.0 in
        let v : VectorOf before.of of = vector_with before.of of (result_is (option_and_then element_of before.of) of g.1)
        in
        let vector : StaticType = type.Vector v.inner v.plain in
        let k : Works (setting c) r integer = number_works x r good b.1 in
        record {
          well = g.0;
          kind = vector;
          is = v.is;
          code = λ e hs.
              go_on (k.code (Some vector ∷ hs))
              (rests (length c.operation.variables) of hs (vector ∷ integer ∷ []) (fits_of of known) (stop.Get line)
              ((fits_of integer tt, tt), ap Some (sym v.element)));
          own = λ e hs. never_call before.is_itself e;
        }

    pub element_ready : LinkReady c indexed indexes
    element_ready = record {
      other = λ before. refl;
      known = λ before u e. subst (IsOfProgram (types_in c)) (same_leaf of u e) known;
      follows = λ before itself e. element_follows before e;
    }
