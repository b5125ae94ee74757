-- What the table of actions asks for, of operands in range and a sight in range, says values in range: one lemma a stop.
use Rattle.std.proofs.Common.{◌≡◌, ℕ, suc, ◌+◌, ◌≤◌, arith, Bool, true, false, ◌&&◌, if◌then◌else◌, List, [], ◌∷◌, ◌++◌, length}
use Rattle.std.proofs.Common.{Option, Some, None, refl, ℤ, pos, negsuc}
use Rattle.std.proofs.lemmas.Bool.{leb-true}
use Rattle.std.specs.Prelude.{nat_lt, nat_le}
use Rattle.ec_world.specs.Doings.{Asked, any_fixed, breaks, called, compare_asks, concat_asks, condition_asks, conditions_of, doing_of}
use Rattle.ec_world.specs.Doings.{element_at}
use Rattle.ec_world.specs.Doings.{element_or, entry_asks, fix_at, fixed_asks, get_asks, gives, global_asks, invoke_asks, is_inside, is_node}
use Rattle.ec_world.specs.Doings.{largest}
use Rattle.ec_world.specs.Doings.{length_asks, move_asks, move_to, new_asks, node_asks, of_vector, one, passes, print_asks, refix_at}
use Rattle.ec_world.specs.Doings.{return_asks}
use Rattle.ec_world.specs.Doings.{set_asks, set_at, size_asks, size_or, slice_asks, slice_or, text_asks, three, two, unfix_asks}
use Rattle.ec_world.specs.Doings.{vector_asks}
use Rattle.ec_world.specs.Doings.{view_asks, view_of, without}
use Rattle.ec_world.specs.Objects.{conforms, operation_in}
use Rattle.ec_world.specs.Sights.{Sight, class_if, class_record}
use Rattle.ec_world.specs.Texts.{longest, slice_of}
use Rattle.ec_world.specs.declared.class.ClassNo.{ClassNo}
use Rattle.ec_world.specs.declared.class.ClassRec.{ClassRec}
use Rattle.ec_world.specs.declared.class.VectorType.{VectorType}
use Rattle.ec_world.specs.declared.class.ViewedAs.{ViewedAs}
use Rattle.ec_world.specs.declared.doing.Doing.{Doing}
use Rattle.ec_world.specs.declared.doing.Doing.TheVariants.{Defines, MakesVector, Moves, Stores, Unfixes, Waits, Signals}
use Rattle.ec_world.specs.declared.process.Cause.TheVariants as cause
use Rattle.ec_world.specs.declared.stop.Order.{Order}
use Rattle.ec_world.specs.declared.stop.Stop.{Stop}
use Rattle.ec_world.specs.declared.stop.Stop.TheVariants as stop
use Rattle.ec_world.specs.declared.stop.Who.{Who}
use Rattle.ec_world.specs.declared.value.Value.{Value}
use Rattle.ec_world.specs.declared.value.Value.TheVariants.{Int, Str, Ref, Nil, Bool as Truth}
use Rattle.ec_code.specs.Actions.{RangedAsked, RangedDoing, RangedSight}
use Rattle.ec_code.specs.RangesValues.{AllInRange, InRange, IsText}
use Rattle.ec_code.proofs.RangesLists.{IfThere}
use Rattle.ec_code.proofs.Texts.{concat_text, number_text, slice_text, truth_is_text}

-- ---- operands

two_ranged : (vs : List Value) → AllInRange vs → IfThere (λ (x : Value × Value). InRange x.0 × InRange x.1) (two vs)
two_ranged (v ∷ u ∷ []) h = (h.0, h.1.0)
two_ranged _ h = tt

three_ranged : (vs : List Value) → AllInRange vs
    → IfThere (λ (x : Value × Value × Value). InRange x.0 × InRange x.1 × InRange x.2) (three vs)
three_ranged (v ∷ u ∷ w ∷ []) h = (h.0, h.1.0, h.1.1.0)
three_ranged _ h = tt

one_ranged : (vs : List Value) → AllInRange vs → IfThere InRange (one vs)
one_ranged (v ∷ []) h = h.0
one_ranged _ h = tt

-- ---- tests

-- each way in which a test may go
either : (b : Bool) (x y : Asked) → RangedAsked x → RangedAsked y → RangedAsked (if b then x else y)
either true x y h k = h
either false x y h k = k

where_true : (b : Bool) (x y : Asked) → (b ≡ true → RangedAsked x) → RangedAsked y → RangedAsked (if b then x else y)
where_true true x y h k = h refl
where_true false x y h k = k

-- ---- operations, objects and monitors

entry_ranged : (b : Bool) → RangedAsked (entry_asks b)
entry_ranged true = tt
entry_ranged false = tt

called_ranged : (o : ℕ) (args : List Value) (op : Option ℕ) → AllInRange args → RangedAsked (called o args op)
called_ranged o args None h = tt
called_ranged o args (Some op) h = h

invoke_ranged : (s : Sight) (name line : ℕ) (vs : List Value) → AllInRange vs → RangedAsked (invoke_asks s name line vs)
invoke_ranged s name line (Nil ∷ args) h = tt
invoke_ranged s name line (Ref o ∷ args) h = called_ranged o args (operation_in (class_record s o) name) h.1
invoke_ranged s name line _ h = tt

new_ranged : (class : ClassNo) (given : List Value) (k : Option ClassRec) → AllInRange given → RangedAsked (new_asks class given k)
new_ranged class given None h = tt
new_ranged class given (Some k) h = h

return_ranged : (s : Sight) (who : Who) (gives_self : Bool) (vs : List Value) → AllInRange vs
    → RangedAsked (return_asks s who gives_self vs)
return_ranged s who true [] h = tt
return_ranged s who true (v ∷ vs) h = tt
return_ranged s who false [] h = tt
return_ranged s who false (v ∷ []) h = h.0
return_ranged s who false (v ∷ u ∷ vs) h = tt

-- ---- output, constants and nodes

print_ranged : (vs : List Value) → RangedAsked (print_asks vs)
print_ranged (Str s ∷ []) = tt
print_ranged _ = tt

global_ranged : (s : Sight) (index : ℕ) (vs : List Value) → AllInRange vs → RangedAsked (global_asks s index vs)
global_ranged s index (v ∷ []) h = either (nat_lt index s.constants) (Some (Defines index v)) None h.0 tt
global_ranged s index _ h = tt

node_ranged : (s : Sight) (line : ℕ) (v : Option Value) → RangedAsked (node_asks s line v)
node_ranged s line (Some (Int (pos k))) = either (nat_lt k s.nodes) (gives (Ref (suc k))) (breaks cause.NoSuchNode line) tt tt
node_ranged s line (Some (Int (negsuc k))) = tt
node_ranged s line _ = tt

count_ranged : (s : Sight) → RangedSight s → InRange (Int (pos s.nodes))
count_ranged s h = record { sfits = omega (arith, h.nodes) }

-- ---- vectors

vector_ranged : (of : VectorType) (line : ℕ) (v : Option Value) → RangedAsked (vector_asks of line v)
vector_ranged of line (Some (Int (pos n))) =
    where_true (nat_le n largest) (Some (MakesVector of n)) (breaks cause.VectorSize line) (λ e. leb-true n largest e) tt
vector_ranged of line (Some (Int (negsuc n))) = tt
vector_ranged of line _ = tt

element_or_ranged : (line : ℕ) (v : Option Value) → ((u : Value) → v ≡ Some u → InRange u) → RangedAsked (element_or line v)
element_or_ranged line None f = tt
element_or_ranged line (Some v) f = f v refl

none_given : (u : Value) → None ≡ Some u → InRange u
none_given u e = cc

element_ranged : (s : Sight) → RangedSight s → (line o : ℕ) (i : ℤ) → RangedAsked (element_or line (element_at s o i))
element_ranged s h line o (pos i) = element_or_ranged line (s.element o i) (λ u e. h.element o i u e)
element_ranged s h line o (negsuc i) = tt

of_vector_ranged : (size : Option ℕ) (asked : Asked) → RangedAsked asked → RangedAsked (of_vector size asked)
of_vector_ranged None asked h = tt
of_vector_ranged (Some size) asked h = h

get_ranged : (s : Sight) → RangedSight s → (line : ℕ) (x : Option (Value × Value)) → RangedAsked (get_asks s line x)
get_ranged s h line (Some (Nil, Int i)) = tt
get_ranged s h line (Some (Ref o, Int i)) =
    of_vector_ranged (s.size o) (element_or line (element_at s o i)) (element_ranged s h line o i)
get_ranged s h line _ = tt

set_at_ranged : (line o : ℕ) (i : ℤ) (v : Value) (size : Option ℕ) → InRange v → RangedAsked (set_at line o i v size)
set_at_ranged line o i v None h = tt
set_at_ranged line o (pos i) v (Some size) h =
    either (nat_lt i size) (Some (Stores o i v)) (breaks cause.OutOfRange line) h tt
set_at_ranged line o (negsuc i) v (Some size) h = tt

set_ranged : (s : Sight) (line : ℕ) (x : Option (Value × Value × Value))
    → IfThere (λ (x : Value × Value × Value). InRange x.0 × InRange x.1 × InRange x.2) x → RangedAsked (set_asks s line x)
set_ranged s line (Some (Nil, Int i, v)) h = tt
set_ranged s line (Some (Ref o, Int i, v)) h = set_at_ranged line o i v (s.size o) h.2
set_ranged s line _ h = tt

size_or_ranged : (size : Option ℕ) → ((n : ℕ) → size ≡ Some n → n ≤ largest) → RangedAsked (size_or size)
size_or_ranged None f = tt
size_or_ranged (Some n) f = record { sfits = omega (arith, f n refl) }

size_ranged : (s : Sight) → RangedSight s → (line : ℕ) (v : Option Value) → RangedAsked (size_asks s line v)
size_ranged s h line (Some Nil) = tt
size_ranged s h line (Some (Ref o)) = size_or_ranged (s.size o) (λ n e. h.size o n e)
size_ranged s h line _ = tt

-- ---- texts

concat_ranged : (line : ℕ) (x : Option (Value × Value)) → IfThere (λ (x : Value × Value). InRange x.0 × InRange x.1) x
    → RangedAsked (concat_asks line x)
concat_ranged line (Some (Str s, Str t)) h =
    where_true (nat_le (length s + length t) longest) (gives (Str (s ++ t))) (breaks cause.LongText line)
    (λ e. concat_text s t h.0 h.1 (leb-true (length s + length t) longest e)) tt
concat_ranged line _ h = tt

length_ranged : (v : Option Value) → IfThere InRange v → RangedAsked (length_asks v)
length_ranged (Some (Str s)) h = record { sfits = omega (arith, h.short) }
length_ranged _ h = tt

compare_ranged : (order : Order) (x : Option (Value × Value)) → RangedAsked (compare_asks order x)
compare_ranged order (Some (Str s, Str t)) = tt
compare_ranged order _ = tt

slice_or_ranged : (line : ℕ) (t : Option (List ℕ)) → IfThere IsText t → RangedAsked (slice_or line t)
slice_or_ranged line None h = tt
slice_or_ranged line (Some t) h = h

slice_ranged : (line : ℕ) (x : Option (Value × Value × Value))
    → IfThere (λ (x : Value × Value × Value). InRange x.0 × InRange x.1 × InRange x.2) x → RangedAsked (slice_asks line x)
slice_ranged line (Some (Str s, Int from, Int count)) h = slice_or_ranged line (slice_of s from count) (slice_text s from count h.0)
slice_ranged line _ h = tt

text_ranged : (v : Option Value) → IfThere InRange v → RangedAsked (text_asks v)
text_ranged (Some (Int z)) h = number_text z h
text_ranged (Some (Truth b)) h = truth_is_text b
text_ranged _ h = tt

-- ---- moves

module _ (s : Sight) where
  move_by : (line : ℕ) (act : ℕ → ℕ → Asked) → ((x to : ℕ) → RangedAsked (act x to)) → (x : Option (Value × Value))
      → RangedAsked (move_asks line act x)
  move_by line act f (Some (Ref x, Ref to)) = f x to
  move_by line act f (Some (Ref x, Nil)) = tt
  move_by line act f (Some (Nil, Ref to)) = tt
  move_by line act f (Some (Nil, Nil)) = tt
  move_by line act f _ = tt

  moves : (x to : ℕ) → RangedAsked (move_to s x to)
  moves x to = either (any_fixed s (s.group x)) passes (Some (Moves (s.group x) to None)) tt tt

  fixes : (line x to : ℕ) → RangedAsked (fix_at s line x to)
  fixes line x to = either (any_fixed s (s.group x)) (breaks cause.GroupFixed line) (Some (Moves (s.group x) to (Some x))) tt tt

  refixes : (line x to : ℕ) → RangedAsked (refix_at s line x to)
  refixes line x to =
      either (is_node (s.class x)) (breaks cause.NodeFixed line)
      (if any_fixed s (without x (s.group x)) then breaks cause.GroupFixed line else Some (Moves (s.group x) to (Some x))) tt
      (either (any_fixed s (without x (s.group x))) (breaks cause.GroupFixed line) (Some (Moves (s.group x) to (Some x))) tt tt)

  unfix_ranged : (line : ℕ) (v : Option Value) → RangedAsked (unfix_asks s line v)
  unfix_ranged line (Some Nil) = tt
  unfix_ranged line (Some (Ref x)) = either (is_node (s.class x)) (breaks cause.NodeFixed line) (Some (Unfixes x)) tt tt
  unfix_ranged line _ = tt

  fixed_ranged : (line : ℕ) (v : Option Value) → RangedAsked (fixed_asks s line v)
  fixed_ranged line (Some Nil) = tt
  fixed_ranged line (Some (Ref x)) = tt
  fixed_ranged line _ = tt

  -- ---- views

  view_by : (line : ℕ) (to : ViewedAs) (o : ℕ) (class : Option ClassNo) → RangedAsked (view_of s line to o class)
  view_by line to o None = tt
  view_by line to o (Some class) = either (conforms s.classes class to) (gives (Ref o)) (breaks cause.NotConforming line) tt tt

  view_ranged : (line : ℕ) (to : ViewedAs) (v : Option Value) → RangedAsked (view_asks s line to v)
  view_ranged line to (Some Nil) = tt
  view_ranged line to (Some (Ref o)) = view_by line to o (s.class o)
  view_ranged line to _ = tt

  condition_ranged : (who : Who) (condition : ℕ) (act : Doing) → RangedDoing act → RangedAsked (condition_asks s who condition act)
  condition_ranged who condition act h =
      either (is_inside s who && nat_lt condition (conditions_of (class_record s who.own))) (Some act) None h tt

-- ---- the table

module _ (s : Sight) (sight : RangedSight s) (who : Who) where
  pub doing_ranged : (action : Stop) (vs : List Value) → AllInRange vs → RangedAsked (doing_of s who action vs)
  doing_ranged stop.Entry vs h = entry_ranged (is_inside s who)
  doing_ranged (stop.Invoke name line) vs h = invoke_ranged s name line vs h
  doing_ranged (stop.New class) vs h = new_ranged class vs (class_if s.classes (Some class)) h
  doing_ranged (stop.Return gives_self) vs h = return_ranged s who gives_self vs h
  doing_ranged (stop.NewVector of line) vs h = vector_ranged of line (one vs)
  doing_ranged (stop.Get line) vs h = get_ranged s sight line (two vs)
  doing_ranged (stop.Set line) vs h = set_ranged s line (three vs) (three_ranged vs h)
  doing_ranged (stop.Size line) vs h = size_ranged s sight line (one vs)
  doing_ranged (stop.Concat line) vs h = concat_ranged line (two vs) (two_ranged vs h)
  doing_ranged stop.Length vs h = length_ranged (one vs) (one_ranged vs h)
  doing_ranged (stop.Compare order) vs h = compare_ranged order (two vs)
  doing_ranged (stop.GetSlice line) vs h = slice_ranged line (three vs) (three_ranged vs h)
  doing_ranged stop.AsString vs h = text_ranged (one vs) (one_ranged vs h)
  doing_ranged stop.Print vs h = print_ranged vs
  doing_ranged (stop.Global index) vs h = global_ranged s index vs h
  doing_ranged (stop.NodeAt line) vs h = node_ranged s line (one vs)
  doing_ranged stop.NodeCount vs h = count_ranged s sight
  doing_ranged (stop.Move line) vs h = move_by s line (move_to s) (moves s) (two vs)
  doing_ranged (stop.Fix line) vs h = move_by s line (fix_at s line) (fixes s line) (two vs)
  doing_ranged (stop.Refix line) vs h = move_by s line (refix_at s line) (refixes s line) (two vs)
  doing_ranged (stop.Unfix line) vs h = unfix_ranged s line (one vs)
  doing_ranged (stop.IsFixed line) vs h = fixed_ranged s line (one vs)
  doing_ranged (stop.View to line) vs h = view_ranged s line to (one vs)
  doing_ranged (stop.Wait condition) vs h = condition_ranged s who condition (Waits condition) tt
  doing_ranged (stop.Signal condition) vs h = condition_ranged s who condition (Signals condition) tt
  doing_ranged stop.LoopTop vs h = tt
  doing_ranged stop.End vs h = tt
  doing_ranged (stop.Fail why line) vs h = tt
