-- What an action comes to names only what is seen: a constant that there is, and an element that a vector has.
use Rattle.std.proofs.Common.{◌≡◌, ◌+◌, ◌<◌, ◌&&◌, ℕ, Bool, true, false, List, [], ◌∷◌, Option, Some, None, ℤ, pos, negsuc, refl}
use Rattle.std.proofs.Common.{subst, arith}
use Rattle.std.specs.Prelude.{if◌then◌else◌, length, nat_le, nat_lt}
use Rattle.ec_world.specs.Doings.{Asked, any_fixed, called, compare_asks, concat_asks, condition_asks, conditions_of, doing_of, element_at}
use Rattle.ec_world.specs.Doings.{element_or, entry_asks, fix_at, fixed_asks, get_asks, global_asks, invoke_asks, is_inside, is_node}
use Rattle.ec_world.specs.Doings.{largest}
use Rattle.ec_world.specs.Doings.{length_asks, move_asks, move_to, new_asks, node_asks, of_vector, one, print_asks, refix_at, return_asks}
use Rattle.ec_world.specs.Doings.{set_asks, set_at, size_asks, size_or, slice_asks, slice_or, text_asks, three, two, unfix_asks}
use Rattle.ec_world.specs.Doings.{vector_asks}
use Rattle.ec_world.specs.Doings.{view_asks, view_of, without}
use Rattle.ec_world.specs.Objects.{conforms, operation_in}
use Rattle.ec_world.specs.Sights.{Sight, class_if, class_record}
use Rattle.ec_world.specs.Texts.{longest, slice_of}
use Rattle.ec_world.specs.declared.class.ClassNo.{ClassNo}
use Rattle.ec_world.specs.declared.class.ClassRec.{ClassRec}
use Rattle.ec_world.specs.declared.class.VectorType.{VectorType}
use Rattle.ec_world.specs.declared.class.ViewedAs.{ViewedAs}
use Rattle.ec_world.specs.declared.doing.Doing.{Doing}
use Rattle.ec_world.specs.declared.doing.Doing.TheVariants.{Passes, Prints, Defines, Stores, Makes, MakesVector, Invokes, Returns}
use Rattle.ec_world.specs.declared.doing.Doing.TheVariants.{Moves, Unfixes, Enters, Waits, Signals, Finishes, Breaks}
use Rattle.ec_world.specs.declared.stop.Order.{Order}
use Rattle.ec_world.specs.declared.stop.Stop.{Stop}
use Rattle.ec_world.specs.declared.stop.Stop.TheVariants as stop
use Rattle.ec_world.specs.declared.stop.Who.{Who}
use Rattle.ec_world.specs.declared.value.Value.{Value}
use Rattle.ec_world.specs.declared.value.Value.TheVariants.{Int, Str, Ref, Nil, Bool as Truth}

-- an element that is seen of a vector
pub record HasElement (s : Sight) (oid i : ℕ) : Type 0 where
  pub size : ℕ
  pub is : s.size oid ≡ Some size
  pub within : i < size

-- what is named by an action that changes something is there
abbrev pub NamesWhatIsThere : Sight → Doing → Type 0
NamesWhatIsThere s (Passes given) = Unit {0}
NamesWhatIsThere s (Prints text) = Unit {0}
NamesWhatIsThere s (Defines index v) = index < s.constants
NamesWhatIsThere s (Stores oid i v) = HasElement s oid i
NamesWhatIsThere s (Makes class given) = Unit {0}
NamesWhatIsThere s (MakesVector of n) = Unit {0}
NamesWhatIsThere s (Invokes op own args) = Unit {0}
NamesWhatIsThere s (Returns given leaves section) = Unit {0}
NamesWhatIsThere s (Moves members to fixes) = Unit {0}
NamesWhatIsThere s (Unfixes x) = Unit {0}
NamesWhatIsThere s Enters = Unit {0}
NamesWhatIsThere s (Waits condition) = Unit {0}
NamesWhatIsThere s (Signals condition) = Unit {0}
NamesWhatIsThere s Finishes = Unit {0}
NamesWhatIsThere s (Breaks why line) = Unit {0}

below_by_test : (m n : ℕ) → nat_lt m n ≡ true → m < n
below_by_test m n h = grind arith

module _ (s : Sight) (who : Who) where
  abbrev Fine : Asked → Type 0
  Fine None = Unit {0}
  Fine (Some doing) = NamesWhatIsThere s doing

  -- by a test
  if_both : (b : Bool) (x y : Asked) → Fine x → Fine y → Fine (if b then x else y)
  if_both true x y f g = f
  if_both false x y f g = g

  if_so : (b : Bool) (x y : Asked) → (b ≡ true → Fine x) → Fine y → Fine (if b then x else y)
  if_so true x y f g = f refl
  if_so false x y f g = g

  entry : (b : Bool) → Fine (entry_asks b)
  entry true = tt
  entry false = tt

  invoked : (oid : ℕ) (args : List Value) (op : Option ℕ) → Fine (called oid args op)
  invoked oid args None = tt
  invoked oid args (Some op) = tt

  invoke : (name line : ℕ) (vs : List Value) → Fine (invoke_asks s name line vs)
  invoke name line [] = tt
  invoke name line (Int z ∷ args) = tt
  invoke name line (Truth b ∷ args) = tt
  invoke name line (Str t ∷ args) = tt
  invoke name line (Ref oid ∷ args) = invoked oid args (operation_in (class_record s oid) name)
  invoke name line (Nil ∷ args) = tt

  makes : (class : ClassNo) (vs : List Value) (k : Option ClassRec) → Fine (new_asks class vs k)
  makes class vs None = tt
  makes class vs (Some k) = tt

  returns : (b : Bool) (vs : List Value) → Fine (return_asks s who b vs)
  returns true [] = tt
  returns true (v ∷ vs) = tt
  returns false [] = tt
  returns false (v ∷ []) = tt
  returns false (v ∷ u ∷ vs) = tt

  vector : (of : VectorType) (line : ℕ) (x : Option Value) → Fine (vector_asks of line x)
  vector of line None = tt
  vector of line (Some (Int (pos n))) = if_both (nat_le n largest) _ _ tt tt
  vector of line (Some (Int (negsuc n))) = tt
  vector of line (Some (Truth b)) = tt
  vector of line (Some (Str t)) = tt
  vector of line (Some (Ref oid)) = tt
  vector of line (Some Nil) = tt

  element : (line : ℕ) (x : Option Value) → Fine (element_or line x)
  element line None = tt
  element line (Some v) = tt

  in_vector : (x : Option ℕ) (a : Asked) → Fine a → Fine (of_vector x a)
  in_vector None a h = tt
  in_vector (Some n) a h = h

  gets : (line : ℕ) (x : Option (Value × Value)) → Fine (get_asks s line x)
  gets line None = tt
  gets line (Some (Int z, u)) = tt
  gets line (Some (Truth b, u)) = tt
  gets line (Some (Str t, u)) = tt
  gets line (Some (Ref oid, Int z)) = in_vector (s.size oid) _ (element line (element_at s oid z))
  gets line (Some (Ref oid, Truth b)) = tt
  gets line (Some (Ref oid, Str t)) = tt
  gets line (Some (Ref oid, Ref o)) = tt
  gets line (Some (Ref oid, Nil)) = tt
  gets line (Some (Nil, Int z)) = tt
  gets line (Some (Nil, Truth b)) = tt
  gets line (Some (Nil, Str t)) = tt
  gets line (Some (Nil, Ref o)) = tt
  gets line (Some (Nil, Nil)) = tt

  sets_at : (line oid : ℕ) (z : ℤ) (v : Value) (x : Option ℕ) → s.size oid ≡ x → Fine (set_at line oid z v x)
  sets_at line oid (pos i) v None e = tt
  sets_at line oid (negsuc i) v None e = tt
  sets_at line oid (pos i) v (Some size) e =
      if_so (nat_lt i size) _ _ (λ t. record { size = size; is = e; within = below_by_test i size t }) tt
  sets_at line oid (negsuc i) v (Some size) e = tt

  sets : (line : ℕ) (x : Option (Value × Value × Value)) → Fine (set_asks s line x)
  sets line None = tt
  sets line (Some (Int z, u, v)) = tt
  sets line (Some (Truth b, u, v)) = tt
  sets line (Some (Str t, u, v)) = tt
  sets line (Some (Ref oid, Int z, v)) = sets_at line oid z v (s.size oid) refl
  sets line (Some (Ref oid, Truth b, v)) = tt
  sets line (Some (Ref oid, Str t, v)) = tt
  sets line (Some (Ref oid, Ref o, v)) = tt
  sets line (Some (Ref oid, Nil, v)) = tt
  sets line (Some (Nil, Int z, v)) = tt
  sets line (Some (Nil, Truth b, v)) = tt
  sets line (Some (Nil, Str t, v)) = tt
  sets line (Some (Nil, Ref o, v)) = tt
  sets line (Some (Nil, Nil, v)) = tt

  sized : (x : Option ℕ) → Fine (size_or x)
  sized None = tt
  sized (Some n) = tt

  size : (line : ℕ) (x : Option Value) → Fine (size_asks s line x)
  size line None = tt
  size line (Some (Int z)) = tt
  size line (Some (Truth b)) = tt
  size line (Some (Str t)) = tt
  size line (Some (Ref oid)) = sized (s.size oid)
  size line (Some Nil) = tt

  concat : (line : ℕ) (x : Option (Value × Value)) → Fine (concat_asks line x)
  concat line None = tt
  concat line (Some (Int z, u)) = tt
  concat line (Some (Truth b, u)) = tt
  concat line (Some (Str t, Int z)) = tt
  concat line (Some (Str t, Truth b)) = tt
  concat line (Some (Str t, Str r)) = if_both (nat_le (length t + length r) longest) _ _ tt tt
  concat line (Some (Str t, Ref o)) = tt
  concat line (Some (Str t, Nil)) = tt
  concat line (Some (Ref o, u)) = tt
  concat line (Some (Nil, u)) = tt

  long : (x : Option Value) → Fine (length_asks x)
  long None = tt
  long (Some (Int z)) = tt
  long (Some (Truth b)) = tt
  long (Some (Str t)) = tt
  long (Some (Ref o)) = tt
  long (Some Nil) = tt

  compares : (order : Order) (x : Option (Value × Value)) → Fine (compare_asks order x)
  compares order None = tt
  compares order (Some (Int z, u)) = tt
  compares order (Some (Truth b, u)) = tt
  compares order (Some (Str t, Int z)) = tt
  compares order (Some (Str t, Truth b)) = tt
  compares order (Some (Str t, Str r)) = tt
  compares order (Some (Str t, Ref o)) = tt
  compares order (Some (Str t, Nil)) = tt
  compares order (Some (Ref o, u)) = tt
  compares order (Some (Nil, u)) = tt

  sliced : (line : ℕ) (x : Option (List ℕ)) → Fine (slice_or line x)
  sliced line None = tt
  sliced line (Some t) = tt

  slices : (line : ℕ) (x : Option (Value × Value × Value)) → Fine (slice_asks line x)
  slices line None = tt
  slices line (Some (Int z, u, v)) = tt
  slices line (Some (Truth b, u, v)) = tt
  slices line (Some (Str t, Int z, Int y)) = sliced line (slice_of t z y)
  slices line (Some (Str t, Int z, Truth b)) = tt
  slices line (Some (Str t, Int z, Str r)) = tt
  slices line (Some (Str t, Int z, Ref o)) = tt
  slices line (Some (Str t, Int z, Nil)) = tt
  slices line (Some (Str t, Truth b, v)) = tt
  slices line (Some (Str t, Str r, v)) = tt
  slices line (Some (Str t, Ref o, v)) = tt
  slices line (Some (Str t, Nil, v)) = tt
  slices line (Some (Ref o, u, v)) = tt
  slices line (Some (Nil, u, v)) = tt

  texts : (x : Option Value) → Fine (text_asks x)
  texts None = tt
  texts (Some (Int z)) = tt
  texts (Some (Truth b)) = tt
  texts (Some (Str t)) = tt
  texts (Some (Ref o)) = tt
  texts (Some Nil) = tt

  prints : (vs : List Value) → Fine (print_asks vs)
  prints [] = tt
  prints (Int z ∷ vs) = tt
  prints (Truth b ∷ vs) = tt
  prints (Str t ∷ []) = tt
  prints (Str t ∷ v ∷ vs) = tt
  prints (Ref o ∷ vs) = tt
  prints (Nil ∷ vs) = tt

  defines : (index : ℕ) (vs : List Value) → Fine (global_asks s index vs)
  defines index [] = tt
  defines index (v ∷ []) = if_so (nat_lt index s.constants) _ _ (λ t. below_by_test index s.constants t) tt
  defines index (v ∷ u ∷ vs) = tt

  nodes : (line : ℕ) (x : Option Value) → Fine (node_asks s line x)
  nodes line None = tt
  nodes line (Some (Int (pos k))) = if_both (nat_lt k s.nodes) _ _ tt tt
  nodes line (Some (Int (negsuc k))) = tt
  nodes line (Some (Truth b)) = tt
  nodes line (Some (Str t)) = tt
  nodes line (Some (Ref o)) = tt
  nodes line (Some Nil) = tt

  moves_by : (line : ℕ) (act : ℕ → ℕ → Asked) → ((x to : ℕ) → Fine (act x to)) → (x : Option (Value × Value)) →
      Fine (move_asks line act x)
  moves_by line act h None = tt
  moves_by line act h (Some (Int z, u)) = tt
  moves_by line act h (Some (Truth b, u)) = tt
  moves_by line act h (Some (Str t, u)) = tt
  moves_by line act h (Some (Ref x, Int z)) = tt
  moves_by line act h (Some (Ref x, Truth b)) = tt
  moves_by line act h (Some (Ref x, Str t)) = tt
  moves_by line act h (Some (Ref x, Ref to)) = h x to
  moves_by line act h (Some (Ref x, Nil)) = tt
  moves_by line act h (Some (Nil, Int z)) = tt
  moves_by line act h (Some (Nil, Truth b)) = tt
  moves_by line act h (Some (Nil, Str t)) = tt
  moves_by line act h (Some (Nil, Ref to)) = tt
  moves_by line act h (Some (Nil, Nil)) = tt

  moves : (x to : ℕ) → Fine (move_to s x to)
  moves x to = if_both (any_fixed s (s.group x)) _ _ tt tt

  fixes : (line x to : ℕ) → Fine (fix_at s line x to)
  fixes line x to = if_both (any_fixed s (s.group x)) _ _ tt tt

  refixes : (line x to : ℕ) → Fine (refix_at s line x to)
  refixes line x to =
      if_both (is_node (s.class x)) _ _ tt (if_both (any_fixed s (without x (s.group x))) _ _ tt tt)

  unfixes : (line : ℕ) (x : Option Value) → Fine (unfix_asks s line x)
  unfixes line None = tt
  unfixes line (Some (Int z)) = tt
  unfixes line (Some (Truth b)) = tt
  unfixes line (Some (Str t)) = tt
  unfixes line (Some (Ref x)) = if_both (is_node (s.class x)) _ _ tt tt
  unfixes line (Some Nil) = tt

  fixed : (line : ℕ) (x : Option Value) → Fine (fixed_asks s line x)
  fixed line None = tt
  fixed line (Some (Int z)) = tt
  fixed line (Some (Truth b)) = tt
  fixed line (Some (Str t)) = tt
  fixed line (Some (Ref x)) = tt
  fixed line (Some Nil) = tt

  viewed_as : (line : ℕ) (to : ViewedAs) (oid : ℕ) (x : Option ClassNo) → Fine (view_of s line to oid x)
  viewed_as line to oid None = tt
  viewed_as line to oid (Some class) = if_both (conforms s.classes class to) _ _ tt tt

  views : (line : ℕ) (to : ViewedAs) (x : Option Value) → Fine (view_asks s line to x)
  views line to None = tt
  views line to (Some (Int z)) = tt
  views line to (Some (Truth b)) = tt
  views line to (Some (Str t)) = tt
  views line to (Some (Ref oid)) = viewed_as line to oid (s.class oid)
  views line to (Some Nil) = tt

  condition_by : (condition : ℕ) (act : Doing) → NamesWhatIsThere s act → Fine (condition_asks s who condition act)
  condition_by condition act h =
      if_both (is_inside s who && nat_lt condition (conditions_of (class_record s who.own))) _ _ h tt

  each : (x : Stop) (vs : List Value) → Fine (doing_of s who x vs)
  each stop.Entry vs = entry (is_inside s who)
  each (stop.Invoke name line) vs = invoke name line vs
  each (stop.New class) vs = makes class vs (class_if s.classes (Some class))
  each (stop.Return gives_self) vs = returns gives_self vs
  each (stop.NewVector of line) vs = vector of line (one vs)
  each (stop.Get line) vs = gets line (two vs)
  each (stop.Set line) vs = sets line (three vs)
  each (stop.Size line) vs = size line (one vs)
  each (stop.Concat line) vs = concat line (two vs)
  each stop.Length vs = long (one vs)
  each (stop.Compare order) vs = compares order (two vs)
  each (stop.GetSlice line) vs = slices line (three vs)
  each stop.AsString vs = texts (one vs)
  each stop.Print vs = prints vs
  each (stop.Global index) vs = defines index vs
  each (stop.NodeAt line) vs = nodes line (one vs)
  each stop.NodeCount vs = tt
  each (stop.Move line) vs = moves_by line (move_to s) moves (two vs)
  each (stop.Fix line) vs = moves_by line (fix_at s line) (fixes line) (two vs)
  each (stop.Refix line) vs = moves_by line (refix_at s line) (refixes line) (two vs)
  each (stop.Unfix line) vs = unfixes line (one vs)
  each (stop.IsFixed line) vs = fixed line (one vs)
  each (stop.View to line) vs = views line to (one vs)
  each (stop.Wait condition) vs = condition_by condition (Waits condition) tt
  each (stop.Signal condition) vs = condition_by condition (Signals condition) tt
  each stop.LoopTop vs = tt
  each stop.End vs = tt
  each (stop.Fail why line) vs = tt

  -- what is done names what is there
  pub names_what_is_there : (x : Stop) (vs : List Value) (doing : Doing) → doing_of s who x vs ≡ Some doing → NamesWhatIsThere s doing
  names_what_is_there x vs doing e = subst (λ (a : Asked). Fine a) e (each x vs)
