-- What a doing names is there.
use Rattle.std.proofs.Common.{◌≡◌, ◌≤◌, ◌<◌, ◌*◌, ◌^◌, ℕ, suc, Bool, true, false, List, [], ◌∷◌, ◌++◌, length, refl, sym}
use Rattle.std.proofs.Common.{Option, Some, None}
use Rattle.std.proofs.Common.{ap, ◌∙◌, ◌&&◌, ◌+◌, subst, ℤ, pos, negsuc, option_map, replicate, arith, leb-true, ltb-true}
use Rattle.std.proofs.lemmas.List.{length-append, length-replicate}
use Rattle.std.proofs.lemmas.List.Elements.{recursion_from_All}
use Rattle.std.proofs.lemmas.Option.{none-some, same_Some}
use Rattle.std.specs.List.{AllByRecursion as Each}
use Rattle.std.specs.Prelude.{if◌then◌else◌, nat_le, nat_lt, slice_get}
use Rattle.ec_cluster.specs.Cluster.{CodeWorld, Shows}
use Rattle.ec_cluster.specs.Steps.{HasField, HasObject}
use Rattle.ec_cluster.specs.declared.cluster.Cluster.{Cluster}
use Rattle.ec_code.specs.Fine.{Fine, FineNew, FineOwn, FineStop, FineStopIf, FitAll, FitsHere, IsFieldOf}
use Rattle.ec_code.specs.Steps.{with_itself}
use Rattle.ec_code.specs.Typing.{Declared, DeclaredClass, class_type}
use Rattle.ec_code.specs.declared.activation.CodeActivation.{CodeActivation}
use Rattle.ec_code.specs.declared.code.Operation.{Operation}
use Rattle.ec_machine_code.specs.Limits.{HasFewFields, HasLimits}
use Rattle.ec_types.specs.declared.conform.static_type.StaticType.{StaticType}
use Rattle.ec_fullness.proofs.Asking.{its_own, its_stop}
use Rattle.ec_fullness.proofs.FittingBlocks.{made_fits, new_length, vector_fits}
use Rattle.ec_fullness.proofs.Shown.{has_constant, has_field, has_object, no_object}
use Rattle.ec_fullness.specs.Fitting.{HasNamed, IsMakable}
use Rattle.ec_cluster.specs.Whereabouts.{made_count}
use Rattle.ec_world.specs.Things.{class_blocks}
use Rattle.ec_code.proofs.Carried.{all_two_length, each_get, there}
use Rattle.ec_code.specs.Sound.{SoundPending}
use Rattle.ec_code.specs.SoundValues.{HasType, class_in}
use Rattle.ec_cluster.specs.Acting.{Asks}
use Rattle.ec_cluster.specs.SystemSteps.{ByClass}
use Rattle.ec_cluster.specs.Systems.{Runs}
use Rattle.ec_cluster.specs.declared.system.System.{System}
use Rattle.ec_world.specs.Agree.{AllTwo}
use Rattle.ec_world.specs.Doings.{Asked, any_fixed, breaks, called, compare_asks, concat_asks, condition_asks, conditions_of, doing_of}
use Rattle.ec_world.specs.Doings.{element_at, element_or, entry_asks, fix_at, fixed_asks, get_asks, gives, global_asks, invoke_asks}
use Rattle.ec_world.specs.Doings.{is_inside, is_node, largest, length_asks, move_asks, move_to, new_asks, node_asks, of_vector, one, passes}
use Rattle.ec_world.specs.Doings.{print_asks, refix_at, return_asks, set_asks, set_at, size_asks, size_or, slice_asks, slice_or, text_asks}
use Rattle.ec_world.specs.Doings.{three, two, unfix_asks, vector_asks, view_asks, view_of, without}
use Rattle.ec_world.specs.Objects.{conforms, element_kind, elements_if, elements_of_class, object_at, operation_in}
use Rattle.ec_world.specs.Sights.{Sight, class_if, class_record, sight_of}
use Rattle.ec_world.specs.Texts.{longest, slice_of}
use Rattle.ec_world.specs.Values.{default_of, new_fields}
use Rattle.ec_world.specs.declared.class.ClassNo.{ClassNo}
use Rattle.ec_world.specs.declared.class.ClassNo.TheVariants.{Node, Program, Made, Vector}
use Rattle.ec_world.specs.declared.class.ClassRec.{ClassRec}
use Rattle.ec_world.specs.declared.class.VectorType.{VectorType}
use Rattle.ec_world.specs.declared.class.ViewedAs.{ViewedAs}
use Rattle.ec_world.specs.declared.doing.Doing.{Doing}
use Rattle.ec_world.specs.declared.doing.Doing.TheVariants.{Defines, Makes, MakesVector, Moves, Signals, Stores, Unfixes, Waits}
use Rattle.ec_world.specs.declared.node.Kind.TheVariants.{Riscv}
use Rattle.ec_world.specs.declared.object.ObjectRec.{ObjectRec}
use Rattle.ec_world.specs.declared.process.Cause.TheVariants as cause
use Rattle.ec_world.specs.declared.stop.Order.{Order}
use Rattle.ec_world.specs.declared.stop.Stop.{Stop}
use Rattle.ec_world.specs.declared.stop.Stop.TheVariants as stop
use Rattle.ec_world.specs.declared.stop.Who.{Who}
use Rattle.ec_world.specs.declared.value.Value.{Value}
use Rattle.ec_world.specs.declared.value.Value.TheVariants.{Int, Str, Ref, Nil, Bool as Truth}

-- the object of a reference is there
abbrev pub IsReferred : Cluster → Value → Type 0
IsReferred c (Ref o) = HasObject c o
IsReferred c (Int z) = Unit {0}
IsReferred c (Truth b) = Unit {0}
IsReferred c (Str t) = Unit {0}
IsReferred c Nil = Unit {0}

-- ---- references

module _ (d : Declared) (c : Cluster) (w : CodeWorld) (shows : Shows c w) where
  pub class_there : (oid : ℕ) (k : ClassNo) → class_in w.common.objects oid ≡ Some k → HasObject c oid
  class_there oid k e = let r = there w.common.objects oid k e in has_object c w shows oid r.object r.is

  ref_there : (oid : ℕ) (t : StaticType) (k : Option ClassNo) → class_in w.common.objects oid ≡ k → option_map (class_type d) k ≡ Some t →
      HasObject c oid
  ref_there oid t None e h = absurd (none-some t h)
  ref_there oid t (Some k) e h = class_there oid k e

  value_there : (t : StaticType) (v : Value) → HasType d w.common.objects t v → IsReferred c v
  value_there t (Ref o) h = ref_there o h.of (class_in w.common.objects o) refl h.is
  value_there t (Int z) h = tt
  value_there t (Truth b) h = tt
  value_there t (Str s) h = tt
  value_there t Nil h = tt

  values_there : (ts : List StaticType) (vs : List Value) → AllTwo (HasType d w.common.objects) ts vs → Each (IsReferred c) vs
  values_there [] [] h = tt
  values_there (t ∷ ts) (v ∷ vs) h = (value_there t v h.0, values_there ts vs h.1)
  values_there [] (v ∷ vs) h = absurd h
  values_there (t ∷ ts) [] h = absurd h

-- ---- the table, case by case

module _ (c : Cluster) (w : CodeWorld) (who : Who) (shows : Shows c w) (many : length w.common.objects ≡ made_count c.whereabouts)
    (own : HasObject c who.own) where
  abbrev sight : Sight
  sight = sight_of w.common

  -- what a doing names that an action comes to is there
  abbrev Named : Asked → Type 0
  Named None = Unit {0}
  Named (Some doing) = HasNamed c who doing

  named_if : (b : Bool) (x y : Asked) → (b ≡ true → Named x) → (b ≡ false → Named y) → Named (if b then x else y)
  named_if true x y h k = h refl
  named_if false x y h k = k refl

  -- an object is made of these fields
  makable : (class : ClassNo) (fields : List Value) → length fields < 2 ^ 32 → length fields ≤ 128 * class_blocks class (length fields) →
      IsMakable c who.own class fields
  makable class fields small few =
      record { maker_is = own; small = small; few = few; new = no_object c w shows many }

  elements_makable : (of : VectorType) (n : ℕ) → n ≤ largest →
      IsMakable c who.own (Vector of) (replicate n (default_of (element_kind of)))
  elements_makable of n few =
      let e = length-replicate n (default_of (element_kind of)) in
      makable (Vector of) (replicate n (default_of (element_kind of))) (omega (arith, e, few))
      (vector_fits of (length (replicate n (default_of (element_kind of)))))

  -- ---- elements

  element_in : (oid i size : ℕ) (o : ObjectRec) (class : ClassNo) → o.class ≡ class → object_at w.common.objects oid ≡ Some o →
      option_map length (elements_of_class class o.fields) ≡ Some size → i < size → HasField c oid i
  element_in oid i size o (Vector of) is e h below =
      let same : length o.fields ≡ size = same_Some (length o.fields) size h in
      has_field c w shows oid i o e (omega (arith, same, below))
      (subst (λ k. length o.fields ≤ 128 * class_blocks k (length o.fields)) (sym is) (vector_fits of (length o.fields)))
  element_in oid i size o Node is e h below = absurd (none-some size h)
  element_in oid i size o Program is e h below = absurd (none-some size h)
  element_in oid i size o (Made k) is e h below = absurd (none-some size h)

  element_there : (oid i size : ℕ) → sight.size oid ≡ Some size → i < size → HasField c oid i
  element_there oid i size h below = by (object_at w.common.objects oid) refl h
    where
      by : (o : Option ObjectRec) → object_at w.common.objects oid ≡ o → option_map length (elements_if o) ≡ Some size → HasField c oid i
      by None e g = absurd (none-some size g)
      by (Some o) e g = element_in oid i size o o.class refl e g below

  -- ---- operations, objects and monitors

  entry_named : (inside : Bool) → Named (entry_asks inside)
  entry_named true = own
  entry_named false = tt

  called_named : (oid : ℕ) (args : List Value) (op : Option ℕ) → HasObject c oid → Named (called oid args op)
  called_named oid args None h = tt
  called_named oid args (Some op) h = h

  invoke_named : (name line : ℕ) (vs : List Value) → Each (IsReferred c) vs → Named (invoke_asks sight name line vs)
  invoke_named name line [] h = tt
  invoke_named name line (Nil ∷ args) h = tt
  invoke_named name line (Ref oid ∷ args) h = called_named oid args (operation_in (class_record sight oid) name) h.0
  invoke_named name line (Int z ∷ args) h = tt
  invoke_named name line (Truth b ∷ args) h = tt
  invoke_named name line (Str t ∷ args) h = tt

  new_named : (class : ClassNo) (given : List Value) (k : Option ClassRec) → Named (Some (Makes class given)) →
      Named (new_asks class given k)
  new_named class given None h = tt
  new_named class given (Some k) h = h

  return_named : (gives_self : Bool) (vs : List Value) → Named (return_asks sight who gives_self vs)
  return_named true [] = own
  return_named true (v ∷ vs) = tt
  return_named false [] = own
  return_named false (v ∷ []) = own
  return_named false (v ∷ u ∷ vs) = tt

  condition_named : (condition : ℕ) (act : Doing) → Named (Some act) → Named (condition_asks sight who condition act)
  condition_named condition act h = by (is_inside sight who && nat_lt condition (conditions_of (class_record sight who.own)))
    where
      by : (b : Bool) → Named (if b then Some act else None)
      by true = h
      by false = tt

  -- ---- output, constants and nodes

  print_named : (vs : List Value) → Named (print_asks vs)
  print_named (Str s ∷ []) = tt
  print_named _ = tt

  global_named : (index : ℕ) (vs : List Value) → Named (global_asks sight index vs)
  global_named index (v ∷ []) =
      named_if (nat_lt index (length w.common.globals)) (Some (Defines index v)) None
      (λ e. has_constant c w shows index (ltb-true index (length w.common.globals) e)) (λ e. tt)
  global_named index [] = tt
  global_named index (v ∷ u ∷ vs) = tt

  node_named : (line : ℕ) (v : Option Value) → Named (node_asks sight line v)
  node_named line (Some (Int (pos k))) =
      named_if (nat_lt k w.common.nodes) (gives (Ref (suc k))) (breaks cause.NoSuchNode line) (λ e. tt) (λ e. tt)
  node_named line (Some (Int (negsuc k))) = tt
  node_named line _ = tt

  -- ---- vectors

  vector_named : (of : VectorType) (line : ℕ) (v : Option Value) → Named (vector_asks of line v)
  vector_named of line (Some (Int (pos n))) =
      named_if (nat_le n largest) (Some (MakesVector of n)) (breaks cause.VectorSize line)
      (λ e. elements_makable of n (leb-true n largest e)) (λ e. tt)
  vector_named of line (Some (Int (negsuc n))) = tt
  vector_named of line _ = tt

  element_named : (line : ℕ) (v : Option Value) → Named (element_or line v)
  element_named line None = tt
  element_named line (Some v) = tt

  of_vector_named : (size : Option ℕ) (line : ℕ) (v : Option Value) → Named (of_vector size (element_or line v))
  of_vector_named None line v = tt
  of_vector_named (Some size) line v = element_named line v

  get_named : (line : ℕ) (v : Option (Value × Value)) → Named (get_asks sight line v)
  get_named line (Some (Nil, Int index)) = tt
  get_named line (Some (Ref oid, Int index)) = of_vector_named (sight.size oid) line (element_at sight oid index)
  get_named line _ = tt

  set_at_named : (line oid : ℕ) (index : ℤ) (v : Value) (size : Option ℕ) → sight.size oid ≡ size → Named (set_at line oid index v size)
  set_at_named line oid index v None e = tt
  set_at_named line oid (pos i) v (Some size) e =
      named_if (nat_lt i size) (Some (Stores oid i v)) (breaks cause.OutOfRange line)
      (λ h. element_there oid i size e (ltb-true i size h)) (λ h. tt)
  set_at_named line oid (negsuc i) v (Some size) e = tt

  set_named : (line : ℕ) (v : Option (Value × Value × Value)) → Named (set_asks sight line v)
  set_named line (Some (Nil, Int index, v)) = tt
  set_named line (Some (Ref oid, Int index, v)) = set_at_named line oid index v (sight.size oid) refl
  set_named line _ = tt

  size_or_named : (size : Option ℕ) → Named (size_or size)
  size_or_named None = tt
  size_or_named (Some size) = tt

  size_named : (line : ℕ) (v : Option Value) → Named (size_asks sight line v)
  size_named line (Some Nil) = tt
  size_named line (Some (Ref oid)) = size_or_named (sight.size oid)
  size_named line _ = tt

  -- ---- texts

  concat_named : (line : ℕ) (v : Option (Value × Value)) → Named (concat_asks line v)
  concat_named line (Some (Str s, Str t)) =
      named_if (nat_le (length s + length t) longest) (gives (Str (s ++ t))) (breaks cause.LongText line) (λ e. tt) (λ e. tt)
  concat_named line _ = tt

  length_named : (v : Option Value) → Named (length_asks v)
  length_named (Some (Str s)) = tt
  length_named _ = tt

  compare_named : (order : Order) (v : Option (Value × Value)) → Named (compare_asks order v)
  compare_named order (Some (Str s, Str t)) = tt
  compare_named order _ = tt

  slice_or_named : (line : ℕ) (t : Option (List ℕ)) → Named (slice_or line t)
  slice_or_named line None = tt
  slice_or_named line (Some t) = tt

  slice_named : (line : ℕ) (v : Option (Value × Value × Value)) → Named (slice_asks line v)
  slice_named line (Some (Str s, Int from, Int count)) = slice_or_named line (slice_of s from count)
  slice_named line _ = tt

  text_named : (v : Option Value) → Named (text_asks v)
  text_named (Some (Int z)) = tt
  text_named (Some (Truth b)) = tt
  text_named _ = tt

  -- ---- moves and views

  move_to_named : (x to : ℕ) → Named (move_to sight x to)
  move_to_named x to = named_if (any_fixed sight (sight.group x)) passes (Some (Moves (sight.group x) to None)) (λ e. tt) (λ e. tt)

  fix_named : (line x to : ℕ) → Named (fix_at sight line x to)
  fix_named line x to =
      named_if (any_fixed sight (sight.group x)) (breaks cause.GroupFixed line) (Some (Moves (sight.group x) to (Some x))) (λ e. tt)
      (λ e. tt)

  refix_named : (line x to : ℕ) → Named (refix_at sight line x to)
  refix_named line x to =
      named_if (is_node (sight.class x)) (breaks cause.NodeFixed line)
      (if any_fixed sight (without x (sight.group x)) then breaks cause.GroupFixed line else Some (Moves (sight.group x) to (Some x)))
      (λ e. tt)
      (λ e. named_if (any_fixed sight (without x (sight.group x))) (breaks cause.GroupFixed line)
      (Some (Moves (sight.group x) to (Some x))) (λ f. tt) (λ f. tt))

  move_named : (line : ℕ) (act : ℕ → ℕ → Asked) → ((x to : ℕ) → Named (act x to)) → (v : Option (Value × Value)) →
      Named (move_asks line act v)
  move_named line act f (Some (Ref x, Ref to)) = f x to
  move_named line act f (Some (Ref x, Nil)) = tt
  move_named line act f (Some (Nil, Ref to)) = tt
  move_named line act f (Some (Nil, Nil)) = tt
  move_named line act f _ = tt

  unfix_one : (line : ℕ) (v : Value) → IsReferred c v → Named (unfix_asks sight line (Some v))
  unfix_one line (Ref x) h =
      named_if (is_node (sight.class x)) (breaks cause.NodeFixed line) (Some (Unfixes x)) (λ e. tt) (λ e. h)
  unfix_one line Nil h = tt
  unfix_one line _ h = tt

  unfix_named : (line : ℕ) (vs : List Value) → Each (IsReferred c) vs → Named (unfix_asks sight line (one vs))
  unfix_named line [] h = tt
  unfix_named line (v ∷ []) h = unfix_one line v h.0
  unfix_named line (v ∷ u ∷ vs) h = tt

  fixed_named : (line : ℕ) (v : Option Value) → Named (fixed_asks sight line v)
  fixed_named line (Some Nil) = tt
  fixed_named line (Some (Ref x)) = tt
  fixed_named line _ = tt

  view_of_named : (line : ℕ) (to : ViewedAs) (oid : ℕ) (k : Option ClassNo) → Named (view_of sight line to oid k)
  view_of_named line to oid None = tt
  view_of_named line to oid (Some class) =
      named_if (conforms w.common.classes class to) (gives (Ref oid)) (breaks cause.NotConforming line) (λ e. tt) (λ e. tt)

  view_named : (line : ℕ) (to : ViewedAs) (v : Option Value) → Named (view_asks sight line to v)
  view_named line to (Some Nil) = tt
  view_named line to (Some (Ref oid)) = view_of_named line to oid (sight.class oid)
  view_named line to _ = tt

  -- ---- the table

  -- but for new objects, whose class is another matter
  abbrev NewIsNamed : Stop → List Value → Type 0
  NewIsNamed (stop.New class) vs = Named (Some (Makes class vs))
  NewIsNamed s vs = Unit {0}

  pub doing_named : (s : Stop) (vs : List Value) → Each (IsReferred c) vs → NewIsNamed s vs → Named (doing_of sight who s vs)
  doing_named stop.Entry vs h n = entry_named (is_inside sight who)
  doing_named (stop.Invoke name line) vs h n = invoke_named name line vs h
  doing_named (stop.New class) vs h n = new_named class vs (class_if w.common.classes (Some class)) n
  doing_named (stop.Return gives_self) vs h n = return_named gives_self vs
  doing_named (stop.NewVector of line) vs h n = vector_named of line (one vs)
  doing_named (stop.Get line) vs h n = get_named line (two vs)
  doing_named (stop.Set line) vs h n = set_named line (three vs)
  doing_named (stop.Size line) vs h n = size_named line (one vs)
  doing_named (stop.Concat line) vs h n = concat_named line (two vs)
  doing_named stop.Length vs h n = length_named (one vs)
  doing_named (stop.Compare order) vs h n = compare_named order (two vs)
  doing_named (stop.GetSlice line) vs h n = slice_named line (three vs)
  doing_named stop.AsString vs h n = text_named (one vs)
  doing_named stop.Print vs h n = print_named vs
  doing_named (stop.Global index) vs h n = global_named index vs
  doing_named (stop.NodeAt line) vs h n = node_named line (one vs)
  doing_named stop.NodeCount vs h n = tt
  doing_named (stop.Move line) vs h n = move_named line (move_to sight) move_to_named (two vs)
  doing_named (stop.Fix line) vs h n = move_named line (fix_at sight line) (fix_named line) (two vs)
  doing_named (stop.Refix line) vs h n = move_named line (refix_at sight line) (refix_named line) (two vs)
  doing_named (stop.Unfix line) vs h n = unfix_named line vs h
  doing_named (stop.IsFixed line) vs h n = fixed_named line (one vs)
  doing_named (stop.View to line) vs h n = view_named line to (one vs)
  doing_named (stop.Wait condition) vs h n = condition_named condition (Waits condition) own
  doing_named (stop.Signal condition) vs h n = condition_named condition (Signals condition) own
  doing_named stop.LoopTop vs h n = tt
  doing_named stop.End vs h n = tt
  doing_named (stop.Fail why line) vs h n = tt

-- ---- a new object of a class

module _ (d : Declared) (c : Cluster) (w : CodeWorld) (who : Who) (fine : Fine d c.parts) (limits : HasLimits c.parts) (shows : Shows c w)
    (many : length w.common.objects ≡ made_count c.whereabouts) (own : HasObject c who.own) where
  few_fields : (k : ℕ) (r : ClassRec) → slice_get c.parts.classes k ≡ Some r → length r.fields ≤ 100
  few_fields k r e =
      each_get HasFewFields c.parts.classes k r (recursion_from_All HasFewFields c.parts.classes limits.fields) e

  -- what is given are the first fields
  given_few : (k : ℕ) (t : DeclaredClass) (e : slice_get d.classes k ≡ Some t) (ts : List StaticType) (vs : List Value) →
      AllTwo (HasType d w.common.objects) ts vs → FitAll d c.parts ts t.given → length vs ≤ length (fine.classes k t e).0.fields
  given_few k t e ts vs h f =
      let class = (fine.classes k t e).2 in
      let one = all_two_length (HasType d w.common.objects) ts vs h in
      let two = all_two_length (FitsHere d c.parts) ts t.given f in
      let three = all_two_length (IsFieldOf d c.parts) t.fields (fine.classes k t e).0.fields class.fields in
      let four : length t.fields ≡ length (t.given ++ class.others) = ap length class.given in
      let five = length-append t.given class.others in
      omega (arith, one, two, three, four, five)

  new_is_named : (class : ClassNo) (ts : List StaticType) (vs : List Value) (gives : Option StaticType) →
      AllTwo (HasType d w.common.objects) ts vs → FineNew d c.parts class ts gives → HasNamed c who (Makes class vs)
  new_is_named (Made k) ts vs gives h f =
      let class = fine.classes k f.0 f.1 in
      let few = given_few k f.0 f.1 ts vs h f.2.0 in
      let same = new_length vs class.0.fields few in
      let small = few_fields k class.0 class.1 in
      subst (λ x. ByClass x (λ r. IsMakable c who.own (Made k) (new_fields vs r.fields))) (sym class.1)
      (makable c w who shows many own (Made k) (new_fields vs class.0.fields) (omega (arith, same, small))
      (made_fits k (length (new_fields vs class.0.fields))))
  new_is_named Node ts vs gives h f = absurd f
  new_is_named Program ts vs gives h f = absurd f
  new_is_named (Vector of) ts vs gives h f = absurd f

  stop_named : (number : ℕ) (o : Operation) (s : Stop) (ts : List StaticType) (vs : List Value) (gives : Option StaticType) →
      AllTwo (HasType d w.common.objects) ts vs → FineStop d c.parts number o s ts gives → NewIsNamed c w who shows many own s vs
  stop_named number o (stop.New class) ts vs gives h f = new_is_named class ts vs gives h f
  stop_named number o s ts vs gives h f = tt

  own_named : (number : ℕ) (o : Operation) (s : Stop) (ts : List StaticType) (vs : List Value) (gives : Option StaticType) →
      FineOwn d c.parts number o s ts gives → NewIsNamed c w who shows many own s vs
  own_named number o (stop.Invoke name line) ts vs gives f = tt
  own_named number o s ts vs gives f = absurd f

  itself_there : (vs : List Value) → Each (IsReferred c) vs → Each (IsReferred c) (with_itself true who.own vs)
  itself_there [] h = tt
  itself_there (v ∷ vs) h = (own, h.1)

  asked_named : (number : ℕ) (o : Operation) (on_itself : Bool) (s : Stop) (ts : List StaticType) (vs : List Value)
      (gives : Option StaticType) → AllTwo (HasType d w.common.objects) ts vs → FineStopIf d c.parts number o on_itself s ts gives →
      Named c w who shows many own (doing_of (sight_of w.common) who s (with_itself on_itself who.own vs))
  asked_named number o true s ts vs gives h f =
      doing_named c w who shows many own s (with_itself true who.own vs) (itself_there vs (values_there d c w shows ts vs h))
      (own_named number o s ts (with_itself true who.own vs) gives f)
  asked_named number o false s ts vs gives h f =
      doing_named c w who shows many own s vs (values_there d c w shows ts vs h) (stop_named number o s ts vs gives h f)

pub doing_is_there : (d : Declared) (s : System) (w : CodeWorld) (below : List CodeActivation) (top : CodeActivation) (who : Who)
    (doing : Doing) → Runs d s w → Asks w below top who doing → HasNamed s.cluster who doing
doing_is_there d s w below top who doing runs asks =
    let c : Cluster = s.cluster in
    let h : SoundPending d c.parts w.common.objects top = its_stop d s w below top who doing runs asks in
    let is : who.own ≡ top.own = its_own d s w below top who doing runs asks in
    let own : HasObject c who.own =
    class_there d c w runs.mirrors.shows who.own h.rests.of.class (ap (class_in w.common.objects) is ∙ h.rests.own) in
    let operands : top.operands ≡ with_itself h.rests.row.on_itself who.own h.operands.values =
    h.operands.are ∙ ap (λ o. with_itself h.rests.row.on_itself o h.operands.values) (sym is) in
    let asked : doing_of (sight_of w.common) who h.rests.row.stop (with_itself h.rests.row.on_itself who.own h.operands.values)
    ≡ Some doing =
    ap (λ vs. doing_of (sight_of w.common) who h.rests.row.stop vs) (sym operands)
    ∙ ap (λ x. doing_of (sight_of w.common) who x top.operands) (sym h.rests.stop) ∙ asks.is in
    subst (λ x. Named c w who runs.mirrors.shows runs.mirrors.objects own x) asked
    (asked_named d c w who runs.steady.fine (runs.steady.images Riscv).limits runs.mirrors.shows runs.mirrors.objects own top.operation
    h.rests.of h.rests.row.on_itself h.rests.row.stop h.rests.typed.types h.operands.values h.rests.row.gives h.operands.fit
    h.rests.typed.stop)
