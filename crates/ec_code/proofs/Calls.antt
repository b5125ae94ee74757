-- What the actions of invocations and creations make: a call of an operation that is there, with arguments of its parameters' types.
use Rattle.std.proofs.Common.{◌≡◌, ℕ, zero, suc, ◌+◌, ◌≤◌, Bool, true, false, ◌&&◌, ◌||◌, inl, inr, List, [], ◌∷◌, ◌++◌, length, drop}
use Rattle.std.proofs.Common.{Option}
use Rattle.std.proofs.Common.{Some, None}
use Rattle.std.proofs.Common.{refl, sym, ◌∙◌, ap, ap₂, subst, arith}
use Rattle.std.proofs.lemmas.List.Elements.{recursion_from_All}
use Rattle.std.specs.Cmp.Lexicographic.{bytes_decides}
use Rattle.std.specs.List.{All, AllByRecursion as Each}
use Rattle.std.specs.Prelude.{slice_get, IfSome, IsSome, if◌then◌else◌}
use Rattle.std.specs.Str.{bytes_eq, str_to_ascii_lowercase}
use Rattle.ec_code.specs.declared.code.Operation.{Operation}
use Rattle.ec_code.specs.declared.code.Parts.{Parts}
use Rattle.ec_code.specs.Fine.{Fine, FineInvoke, FineNew, FitAll, IsFieldOf, IsIn, IsNameOf, OwnCall, number_if}
use Rattle.ec_code.specs.Typing.{Declared, DeclaredClass, class_type, fields_if as class_fields, type_if}
use Rattle.ec_types.specs.Conforms.{Conforms, IsClosed, Relation, conforms_in, has_operation, has_operations, is_none, most_types}
use Rattle.ec_types.specs.Conforms.{operations_at}
use Rattle.ec_types.specs.Conforms.{operations_in}
use Rattle.ec_types.specs.Conforms.{parameters_fit, results_fit, stands_for}
use Rattle.ec_types.specs.Types.{named}
use Rattle.ec_types.specs.declared.conform.named_type.NamedType.{NamedType}
use Rattle.ec_types.specs.declared.conform.operations.NamedOperation.{NamedOperation}
use Rattle.ec_types.specs.declared.conform.static_type.Plain.TheVariants as static
use Rattle.ec_types.specs.declared.conform.static_type.StaticType.{StaticType}
use Rattle.ec_types.specs.declared.conform.static_type.StaticType.TheVariants as type
use Rattle.ec_types.specs.Known.{IsOfProgram, IsOperationOfProgram, NoneUnknown}
use Rattle.ec_types.specs.Names.{Text, first_from, is_same as is_same_name}
use Rattle.ec_world.specs.Agree.{AllTwo}
use Rattle.ec_world.specs.Doings.{Asked, called, invoke_asks, new_asks}
use Rattle.ec_world.specs.Objects.{class_at, operation_in}
use Rattle.ec_world.specs.Outcomes.{made_object, monitor_for}
use Rattle.ec_world.specs.Sights.{Sight, class_if, class_of, sight_of}
use Rattle.ec_world.specs.Values.{default_of, field_defaults, new_fields}
use Rattle.ec_world.specs.declared.class.ClassNo.{ClassNo}
use Rattle.ec_world.specs.declared.class.ClassNo.TheVariants.{Node, Program, Made, Vector}
use Rattle.ec_world.specs.declared.class.FieldRec.{FieldRec}
use Rattle.ec_world.specs.declared.common.Common.{Common}
use Rattle.ec_world.specs.declared.event.Event.TheVariants.{Created}
use Rattle.ec_world.specs.declared.object.ObjectRec.{ObjectRec}
use Rattle.ec_world.specs.declared.process.Cause.TheVariants as cause
use Rattle.ec_world.specs.declared.stop.Who.{Who}
use Rattle.ec_world.specs.declared.value.Value.{Value}
use Rattle.ec_world.specs.declared.value.Value.TheVariants.{Ref}
use Rattle.ec_code.specs.Sound.{FineCall, FineDone, FineFields, ResultFits, SoundCommon}
use Rattle.ec_code.specs.SoundValues.{HasType, class_in}
use Rattle.ec_code.proofs.Carried.{all_two_append, all_two_drop, all_two_length, get_end, later_append, later_same, with_events, with_more}
use Rattle.ec_code.proofs.Done.{Acts, fails}
use Rattle.ec_code.proofs.Typed.{default_fits, never, ref_case, stand_all}
use Rattle.ec_code.proofs.Vectors.{both_left, both_right}

-- ---- operations by their names

no_operation : (ws : List NamedOperation) (w : NamedOperation) → is_none ws ≡ true → IsIn w ws → ⊥
no_operation [] w h i = i
no_operation (x ∷ ws) w h i = never h

each_in : {A : Type 0} (P : A → Type 0) (xs : List A) (x : A) → Each P xs → IsIn x xs → P x
each_in P [] x h i = absurd i
each_in P (y ∷ ys) x h (inl e) = subst P (sym e) h.0
each_in P (y ∷ ys) x h (inr i) = each_in P ys x h.1 i

operations_by : (types some : List NamedType) → Each (λ (t : NamedType). All (IsOperationOfProgram types) t.operations) some → (n : ℕ)
    → Each (IsOperationOfProgram types) (operations_in (slice_get some n))
operations_by types [] h n = tt
operations_by types (t ∷ ts) h zero = recursion_from_All (IsOperationOfProgram types) t.operations h.0
operations_by types (t ∷ ts) h (suc n) = operations_by types ts h.1 n

operations_of_program : (types : List NamedType) → NoneUnknown types → (n : ℕ) → Each (IsOperationOfProgram types) (operations_at types n)
operations_of_program types known n =
    operations_by types types (recursion_from_All (λ (t : NamedType). All (IsOperationOfProgram types) t.operations) types known) n

letters : (a b : Text) → is_same_name a b ≡ true → str_to_ascii_lowercase a ≡ str_to_ascii_lowercase b
letters a b same = (bytes_decides _ _).0 same

-- Names that are the same have one number.
first_joined : (n : ℕ) (names : List Text) (q w : Text) → is_same_name q w ≡ true → first_from n names w ≡ first_from n names q
first_joined n [] q w same = refl
first_joined n (own ∷ names) q w same =
    let here : is_same_name own w ≡ is_same_name own q =
    ap (λ small. bytes_eq (str_to_ascii_lowercase own) small) (sym (letters q w same)) in
    ap₂ (λ b other. if b then Some n else other) here (first_joined (n + 1) names q w same)

module _ (types : List NamedType) (r : Relation) where
  -- the operation that stands for a wanted one
  record StandIn (os : List NamedOperation) (w : NamedOperation) : Type 0 where
    pub operation : NamedOperation
    pub there : IsIn operation os
    pub stands : stands_for types r w operation ≡ true

  stand_in : (os : List NamedOperation) (w : NamedOperation) → has_operation types r os w ≡ true → StandIn os w
  stand_in [] w h = never h
  stand_in (q ∷ os) w h = by (λ e. stand_in os w e) (stands_for types r w q) refl
    where
      by : (has_operation types r os w ≡ true → StandIn os w) → (b : Bool) → stands_for types r w q ≡ b → StandIn (q ∷ os) w
      by more true e = record { operation = q; there = inl refl; stands = e }
      by more false e =
          let s = more (subst (λ b. (b || has_operation types r os w) ≡ true) e h) in
          record { operation = s.operation; there = inr s.there; stands = s.stands }

  has_each : (os ws : List NamedOperation) (w : NamedOperation) → has_operations types r os ws ≡ true → IsIn w ws
      → has_operation types r os w ≡ true
  has_each os [] w h i = absurd i
  has_each os (x ∷ ws) w h (inl e) =
      subst (λ x. has_operation types r os x ≡ true) (sym e) (both_left (has_operation types r os x) (has_operations types r os ws) h)
  has_each os (x ∷ ws) w h (inr i) = has_each os ws w (both_right (has_operation types r os x) (has_operations types r os ws) h) i

module _ (d : Declared) (p : Parts) (fine : Fine d p) where
  of_program : (n : ℕ) (w : NamedOperation) → IsIn w (operations_at d.types n) → IsOperationOfProgram d.types w
  of_program n w i =
      each_in (IsOperationOfProgram d.types) (operations_at d.types n) w (operations_of_program d.types fine.known n) i

  fit_by : (r : Relation) → IsClosed d.types r → (ws qs : List StaticType) → Each (IsOfProgram d.types) ws → Each (IsOfProgram d.types) qs
      → parameters_fit d.types r ws qs ≡ true → FitAll d p ws qs
  fit_by r closed [] [] a b h = tt
  fit_by r closed (w ∷ ws) (q ∷ qs) a b h = (
    record {
      given = a.0;
      wanted = b.0;
      conforms = (r, closed, both_left (conforms_in d.types r w q) (parameters_fit d.types r ws qs) h);
    },
    fit_by r closed ws qs a.1 b.1 (both_right (conforms_in d.types r w q) (parameters_fit d.types r ws qs) h),
  )
  fit_by r closed [] (q ∷ qs) a b h = never h
  fit_by r closed (w ∷ ws) [] a b h = never h

  result_by : (objects : List ObjectRec) (r : Relation) → IsClosed d.types r → (q w : Option StaticType) → IfSome q (IsOfProgram d.types)
      → IfSome w (IsOfProgram d.types) → results_fit d.types r q w ≡ true → ResultFits d p objects q w
  result_by objects r closed None None a b h = tt
  result_by objects r closed (Some q) (Some w) a b h = record { given = a; wanted = b; conforms = (r, closed, h) }
  result_by objects r closed None (Some w) a b h = never h
  result_by objects r closed (Some q) None a b h = never h

  parameters_of : (w : NamedOperation) → IsOperationOfProgram d.types w → Each (IsOfProgram d.types) w.parameters
  parameters_of w k = recursion_from_All (IsOfProgram d.types) w.parameters k.parameters

module _ (d : Declared) (p : Parts) (fine : Fine d p) (c : Common) (sound : SoundCommon d p c) (o : Operation)
    (given : Option StaticType) (who : Who) where
  abbrev sight : Sight
  sight = sight_of c

  abbrev Well : Asked → Type 0
  Well asked = Acts d p c sound o given who asked

  abbrev Typed : List StaticType → List Value → Type 0
  Typed ts vs = AllTwo (HasType d c.objects) ts vs

  -- ---- invocations

  -- the class has the operation that is named, with a result that may be given
  calls : (x n : ℕ) (args : List Value) (found : Option ℕ) → found ≡ Some n → FineCall d p c.objects given n x args
      → Well (called x args found)
  calls x n args found e f =
      subst (λ z. Well (called x args z)) (sym e) (later_same c.objects, sound, f, tt)

  -- a stand-in for an operation of the receiver's type is called
  call_stand_in : (x name m : ℕ) (w : NamedOperation) (args : List Value) (k : ℕ) (t : DeclaredClass) → slice_get d.classes k ≡ Some t
      → class_in c.objects x ≡ Some (Made k) → (r : Relation) → IsClosed d.types r → IsIn w (operations_at d.types m)
      → StandIn d.types r (operations_at d.types t.number) w → IsNameOf d p name w.name → Typed w.parameters args → given ≡ w.result
      → Well (called x args (operation_in (class_at c.classes (Made k)) name))
  call_stand_in x name m w args k t e at r closed there s is a g =
      let q = s.operation in
      let f = fine.classes k t e in
      let fits = parameters_fit d.types r w.parameters q.parameters in
      let result = results_fit d.types r q.result w.result in
      let same = both_left (is_same_name q.name w.name) (fits && result) s.stands in
      let rest = both_right (is_same_name q.name w.name) (fits && result) s.stands in
      let i =
      f.2.operations q name s.there (is ∙ ap (number_if d p) (first_joined 0 d.names q.name w.name same)) in
      let kw = of_program d p fine m w there in
      let kq = of_program d p fine t.number q s.there in
      let here : operation_in (class_at c.classes (Made k)) name ≡ Some i.number =
      ap (λ cs. operation_in (slice_get cs k) name) sound.classes ∙ ap (λ z. operation_in z name) f.1 ∙ i.is_named in
      let fit_all =
      fit_by d p fine r closed w.parameters q.parameters (parameters_of d p fine w kw) (parameters_of d p fine q kq)
      (both_left fits result rest) in
      let result_fits = result_by d p fine c.objects r closed q.result w.result kq.result kw.result (both_right fits result rest) in
      calls x i.number args (operation_in (class_at c.classes (Made k)) name) here
      (record {
        called = i.operation;
        is = i.is;
        is_own = at ∙ ap Some (sym i.class);
        arguments =
            subst (λ ts. AllTwo (HasType d c.objects) ts args) (sym i.parameters)
            (stand_all d p fine c.objects w.parameters q.parameters args a fit_all);
        result =
            inr
            (subst (λ z. ResultFits d p c.objects i.operation.result z) (sym g)
            (subst (λ z. ResultFits d p c.objects z w.result) (sym i.result) result_fits));
      })

  call_by : (x name m : ℕ) (w : NamedOperation) (args : List Value) (k : ℕ) (t : Option DeclaredClass) → slice_get d.classes k ≡ t
      → class_in c.objects x ≡ Some (Made k) → Conforms d.types (type_if t) (named m) → IsIn w (operations_at d.types m)
      → IsNameOf d p name w.name
      → Typed w.parameters args → given ≡ w.result → Well (called x args (operation_in (class_at c.classes (Made k)) name))
  call_by x name m w args k None e at h there is a g = absurd (no_operation (operations_at d.types m) w h.2 there)
  call_by x name m w args k (Some t) e at h there is a g =
      let r = h.0 in
      let few : length d.types ≤ most_types = fine.few in
      let left = h.1.left t.number m h.2 in
      let right = h.1.right t.number m h.2 in
      let meets = h.1.clauses t.number m (omega arith) (omega arith) h.2 in
      let own : List NamedOperation = operations_at d.types t.number in
      let s = stand_in d.types r own w (has_each d.types r own (operations_at d.types m) w meets there) in
      call_stand_in x name m w args k t e at r h.1 there s is a g

  call_of : (x name m : ℕ) (w : NamedOperation) (args : List Value) (k : ClassNo) → class_in c.objects x ≡ Some k
      → Conforms d.types (class_type d k) (named m) → IsIn w (operations_at d.types m) → IsNameOf d p name w.name → Typed w.parameters args
      → given ≡ w.result → Well (called x args (operation_in (class_at c.classes k) name))
  call_of x name m w args (Made k) at h there is a g = call_by x name m w args k (slice_get d.classes k) refl at h there is a g
  call_of x name m w args Node at h there is a g = absurd (no_operation (operations_at d.types m) w h.2 there)
  call_of x name m w args Program at h there is a g = absurd (no_operation (operations_at d.types m) w h.2 there)
  call_of x name m w args (Vector of) at h there is a g = absurd (no_operation (operations_at d.types m) w h.2 there)

  invoke_by : (name line m : ℕ) (w : NamedOperation) (v : Value) (args : List Value) → HasType d c.objects (named m) v
      → IsIn w (operations_at d.types m) → IsNameOf d p name w.name → Typed w.parameters args → given ≡ w.result
      → Well (invoke_asks sight name line (v ∷ args))
  invoke_by name line m w v args h there is a g =
      ref_case d c.objects v (named m) refl h (λ v. Well (invoke_asks sight name line (v ∷ args)))
      (fails d p c sound o given who cause.Nil line)
      (λ x i. subst (λ z. Well (called x args (operation_in (class_if c.classes z) name))) (sym i.is)
      (call_of x name m w args i.class i.is i.fits.conforms there is a g))

  pub invoke_sound : (name line : ℕ) (ts : List StaticType) (vs : List Value) → Typed ts vs → FineInvoke d p name ts given
      → Well (invoke_asks sight name line vs)
  invoke_sound name line (type.Plain (static.Named m) ∷ ts) (v ∷ args) h f =
      invoke_by name line m f.0 v args h.0 f.1 f.2 (stand_all d p fine c.objects ts f.0.parameters args h.1 f.3.0) f.3.1
  invoke_sound name line (type.Plain (static.Named m) ∷ ts) [] h f = absurd h
  invoke_sound name line [] vs h f = absurd f
  invoke_sound name line (type.Plain static.Integer ∷ ts) vs h f = absurd f
  invoke_sound name line (type.Plain static.Boolean ∷ ts) vs h f = absurd f
  invoke_sound name line (type.Plain static.String ∷ ts) vs h f = absurd f
  invoke_sound name line (type.Plain static.Any ∷ ts) vs h f = absurd f
  invoke_sound name line (type.Plain static.Node ∷ ts) vs h f = absurd f
  invoke_sound name line (type.Vector inner of ∷ ts) vs h f = absurd f
  invoke_sound name line (type.Nil ∷ ts) vs h f = absurd f
  invoke_sound name line (type.Unknown ∷ ts) vs h f = absurd f

  pub own_call : (number name line : ℕ) (ts : List StaticType) (vs : List Value) → class_in c.objects who.own ≡ Some o.class → Typed ts vs
      → OwnCall d p number o name ts given → Well (invoke_asks sight name line (Ref who.own ∷ vs))
  own_call number name line ts vs at h f =
      let here : operation_in (class_if c.classes (sight.class who.own)) name ≡ Some f.called_number =
      ap (λ z. operation_in (class_if c.classes z) name) (at ∙ ap Some f.is_class)
      ∙ ap (λ cs. operation_in (slice_get cs f.place) name) sound.classes
      ∙ ap (λ z. operation_in z name) f.is ∙ f.is_named in
      calls who.own f.called_number vs (operation_in (class_if c.classes (sight.class who.own)) name) here
      (record {
        called = f.called;
        is = f.is_called;
        is_own = at ∙ ap Some (f.is_class ∙ sym f.same);
        arguments = stand_all d p fine c.objects ts f.called.parameters vs h f.fits.0;
        result = inl (sym f.fits.1);
      })

  -- ---- new objects

  defaults_fit : (ts : List StaticType) (fs : List FieldRec) → AllTwo (IsFieldOf d p) ts fs
      → AllTwo (HasType d c.objects) ts (field_defaults fs)
  defaults_fit [] [] h = tt
  defaults_fit (t ∷ ts) (f ∷ fs) h = (
    subst (λ k. HasType d c.objects t (default_of k)) (sym h.0.0) (default_fits d c.objects t h.0.1),
    defaults_fit ts fs h.1,
  )
  defaults_fit [] (f ∷ fs) h = absurd h
  defaults_fit (t ∷ ts) [] h = absurd h

  new_fit : (first others : List StaticType) (all : List StaticType) (vs : List Value) (fs : List FieldRec) → all ≡ first ++ others
      → AllTwo (IsFieldOf d p) all fs → Typed first vs → Typed all (new_fields vs fs)
  new_fit first others all vs fs e f h =
      let size = all_two_length (HasType d c.objects) first vs h in
      let split : AllTwo (IsFieldOf d p) (first ++ others) fs = subst (λ z. AllTwo (IsFieldOf d p) z fs) e f in
      let rest =
      defaults_fit others (drop (length vs) fs)
      (all_two_drop (IsFieldOf d p) first others fs (length vs) size split) in
      subst (λ z. AllTwo (HasType d c.objects) z (new_fields vs fs)) (sym e)
      (all_two_append (HasType d c.objects) first vs others (field_defaults (drop (length vs) fs)) h rest)

  made_sound : (k : ℕ) (t : DeclaredClass) (vs : List Value) (e : slice_get d.classes k ≡ Some t) → Typed t.given vs
      → given ≡ Some (named t.number) → FineDone d p c o given (made_object c who (Made k) vs (Some (fine.classes k t e).0))
  made_sound k t vs e h g =
      let f = fine.classes k t e in
      let r : ObjectRec =
      record { class = Made k; fields = new_fields vs f.0.fields; fixed = false; monitor = monitor_for f.0 } in
      let objects : List ObjectRec = c.objects ++ r ∷ [] in
      let fit : AllTwo (HasType d c.objects) t.fields (new_fields vs f.0.fields) =
      new_fit t.given f.2.others t.fields vs f.0.fields f.2.given f.2.fields h in
      let fine_r : FineFields d p c.objects (Made k) (new_fields vs f.0.fields) = (
        subst (λ z. IsSome z) (sym e) refl,
        subst (λ z. AllTwo (HasType d c.objects) (class_fields z) (new_fields vs f.0.fields)) (sym e) fit,
      ) in
      let made = f.2.creates in (
        later_append c.objects (r ∷ []),
        with_events d p (record c { objects = objects }) (c.events ++ Created (suc (length c.objects)) who.own ∷ [])
            (with_more d p c sound r fine_r),
        record {
          called = made.operation;
          is = made.is;
          is_own = ap class_of (get_end c.objects r) ∙ ap Some (sym made.class);
          arguments = subst (λ z. AllTwo (HasType d objects) z []) (sym made.parameters) tt;
          result = inl (made.result ∙ sym g);
        },
        tt,
      )

  new_by : (k : ℕ) (t : DeclaredClass) (vs : List Value) → slice_get d.classes k ≡ Some t → Typed t.given vs → given ≡ Some (named t.number)
      → Well (new_asks (Made k) vs (class_if c.classes (Some (Made k))))
  new_by k t vs e h g =
      let f = fine.classes k t e in
      let here : slice_get c.classes k ≡ Some f.0 = ap (λ cs. slice_get cs k) sound.classes ∙ f.1 in
      subst (λ z. Well (new_asks (Made k) vs z)) (sym here)
      (subst (λ z. FineDone d p c o given (made_object c who (Made k) vs z)) (sym here) (made_sound k t vs e h g))

  pub new_sound : (class : ClassNo) (ts : List StaticType) (vs : List Value) → Typed ts vs → FineNew d p class ts given
      → Well (new_asks class vs (class_if c.classes (Some class)))
  new_sound (Made k) ts vs h f = new_by k f.0 vs f.1 (stand_all d p fine c.objects ts f.0.given vs h f.2.0) f.2.1
  new_sound Node ts vs h f = absurd f
  new_sound Program ts vs h f = absurd f
  new_sound (Vector of) ts vs h f = absurd f
