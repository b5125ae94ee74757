-- The action table, first half: what the action of a stop comes to, once its operands and the world are looked at. One case a
-- stop; none where the table has no case. Strings, indices, ranges and the order of failures stand here, for whoever sees a world.
-- (Jul, Levy, Hutchinson, Black 1988; the Emerald report.)
use Rattle.std.specs.Prelude.{ℕ, suc, ◌+◌, ◌==◌, ◌||◌, ◌&&◌, not, Bool, true, false, if◌then◌else◌, List, [], ◌∷◌, ◌++◌, length}
use Rattle.std.specs.Prelude.{nat_lt, nat_le}
use Rattle.std.specs.Prelude.{Option, Some, None, ℤ, pos, negsuc}
use Rattle.std.specs.Fmt.{signed_decimal}
use Rattle.ec_world.specs.declared.value.Value.{Value}
use Rattle.ec_world.specs.declared.value.Value.TheVariants.{Int, Str, Ref, Nil, Bool as Truth}
use Rattle.ec_world.specs.declared.class.ClassNo.{ClassNo}
use Rattle.ec_world.specs.declared.class.ClassRec.{ClassRec}
use Rattle.ec_world.specs.declared.class.VectorType.{VectorType}
use Rattle.ec_world.specs.declared.class.ViewedAs.{ViewedAs}
use Rattle.ec_world.specs.declared.doing.Doing.{Doing}
use Rattle.ec_world.specs.declared.doing.Doing.TheVariants.{Passes, Prints, Defines, Stores, Makes, MakesVector, Invokes, Returns}
use Rattle.ec_world.specs.declared.doing.Doing.TheVariants.{Moves, Unfixes, Enters, Waits, Signals, Finishes, Breaks}
use Rattle.ec_world.specs.declared.process.Cause.{Cause}
use Rattle.ec_world.specs.declared.process.Cause.TheVariants as cause
use Rattle.ec_world.specs.declared.stop.Order.{Order}
use Rattle.ec_world.specs.declared.stop.Stop.{Stop}
use Rattle.ec_world.specs.declared.stop.Stop.TheVariants as stop
use Rattle.ec_world.specs.declared.stop.Who.{Who}
use Rattle.ec_world.specs.Objects.{is_node_class, operation_in, conforms}
use Rattle.ec_world.specs.Sights.{Sight, class_if, class_record}
use Rattle.ec_world.specs.Texts.{longest, in_order, slice_of, truth_text}

-- what an action comes to
abbrev pub Asked : Type 0
Asked = Option Doing

-- ---- operands

abbrev pub one : List Value → Option Value
one (v ∷ []) = Some v
one _ = None

abbrev pub two : List Value → Option (Value × Value)
two (v ∷ u ∷ []) = Some (v, u)
two _ = None

abbrev pub three : List Value → Option (Value × Value × Value)
three (v ∷ u ∷ w ∷ []) = Some (v, u, w)
three _ = None

-- ---- the plain ones

-- nothing is to be done but to go on
abbrev pub passes : Asked
passes = Some (Passes None)

abbrev pub gives : Value → Asked
gives v = Some (Passes (Some v))

abbrev pub breaks : Cause → ℕ → Asked
breaks why line = Some (Breaks why line)

-- ---- operations, objects and monitors

abbrev pub is_section : Option ℕ → ℕ → Bool
is_section None op = false
is_section (Some section) op = section == op

abbrev pub runs_inside : Option ClassRec → ℕ → Bool
runs_inside None op = false
runs_inside (Some k) op = k.monitored && not (is_section k.process op)

-- An operation of a monitored object runs in the object's monitor; a process section never does.
abbrev pub is_inside : Sight → Who → Bool
is_inside s who = runs_inside (class_record s who.own) who.operation

-- entry
abbrev pub entry_asks : Bool → Asked
entry_asks true = Some Enters
entry_asks false = passes

-- invocation: the receiver's operation of that name
abbrev pub called : ℕ → List Value → Option ℕ → Asked
called oid args None = None
called oid args (Some op) = Some (Invokes op oid args)

abbrev pub invoke_asks : Sight → ℕ → ℕ → List Value → Asked
invoke_asks s name line (Nil ∷ args) = breaks cause.Nil line
invoke_asks s name line (Ref oid ∷ args) = called oid args (operation_in (class_record s oid) name)
invoke_asks s name line _ = None

-- new object
abbrev pub new_asks : ClassNo → List Value → Option ClassRec → Asked
new_asks class given None = None
new_asks class given (Some k) = Some (Makes class given)

-- the process section that begins behind operation 0 of a class that has one
abbrev pub section_in : Option ClassRec → Option ℕ
section_in None = None
section_in (Some k) = k.process

-- return: the result is a value of the caller; operation 0 of a class gives its object
abbrev pub return_asks : Sight → Who → Bool → List Value → Asked
return_asks s who true [] = Some (Returns (Some (Ref who.own)) (is_inside s who) (section_in (class_record s who.own)))
return_asks s who true (v ∷ vs) = None
return_asks s who false [] = Some (Returns None (is_inside s who) None)
return_asks s who false (v ∷ []) = Some (Returns (Some v) (is_inside s who) None)
return_asks s who false (v ∷ u ∷ vs) = None

abbrev pub conditions_of : Option ClassRec → ℕ
conditions_of None = 0
conditions_of (Some k) = k.conditions

-- a condition of the own object, by its number from 0
abbrev pub condition_asks : Sight → Who → ℕ → Doing → Asked
condition_asks s who condition act =
    if is_inside s who && nat_lt condition (conditions_of (class_record s who.own)) then Some act else None

-- ---- output, constants and nodes

abbrev pub print_asks : List Value → Asked
print_asks (Str s ∷ []) = Some (Prints s)
print_asks _ = None

abbrev pub global_asks : Sight → ℕ → List Value → Asked
global_asks s index (v ∷ []) = if nat_lt index s.constants then Some (Defines index v) else None
global_asks s index _ = None

-- the object of node k is object k + 1
abbrev pub node_asks : Sight → ℕ → Option Value → Asked
node_asks s line (Some (Int (pos k))) = if nat_lt k s.nodes then gives (Ref (suc k)) else breaks cause.NoSuchNode line
node_asks s line (Some (Int (negsuc k))) = breaks cause.NoSuchNode line
node_asks s line _ = None

-- ---- vectors

-- the most elements of a vector
abbrev pub largest : ℕ
largest = 16384

abbrev pub vector_asks : VectorType → ℕ → Option Value → Asked
vector_asks of line (Some (Int (pos n))) = if nat_le n largest then Some (MakesVector of n) else breaks cause.VectorSize line
vector_asks of line (Some (Int (negsuc n))) = breaks cause.VectorSize line
vector_asks of line _ = None

abbrev pub element_at : Sight → ℕ → ℤ → Option Value
element_at s oid (pos i) = s.element oid i
element_at s oid (negsuc i) = None

abbrev pub element_or : ℕ → Option Value → Asked
element_or line None = breaks cause.OutOfRange line
element_or line (Some v) = gives v

-- the object is a vector, of some size
abbrev pub of_vector : Option ℕ → Asked → Asked
of_vector None asked = None
of_vector (Some size) asked = asked

abbrev pub get_asks : Sight → ℕ → Option (Value × Value) → Asked
get_asks s line (Some (Nil, Int index)) = breaks cause.Nil line
get_asks s line (Some (Ref oid, Int index)) = of_vector (s.size oid) (element_or line (element_at s oid index))
get_asks s line _ = None

abbrev pub set_at : ℕ → ℕ → ℤ → Value → Option ℕ → Asked
set_at line oid index v None = None
set_at line oid (pos i) v (Some size) = if nat_lt i size then Some (Stores oid i v) else breaks cause.OutOfRange line
set_at line oid (negsuc i) v (Some size) = breaks cause.OutOfRange line

abbrev pub set_asks : Sight → ℕ → Option (Value × Value × Value) → Asked
set_asks s line (Some (Nil, Int index, v)) = breaks cause.Nil line
set_asks s line (Some (Ref oid, Int index, v)) = set_at line oid index v (s.size oid)
set_asks s line _ = None

abbrev pub size_or : Option ℕ → Asked
size_or None = None
size_or (Some size) = gives (Int (pos size))

abbrev pub size_asks : Sight → ℕ → Option Value → Asked
size_asks s line (Some Nil) = breaks cause.Nil line
size_asks s line (Some (Ref oid)) = size_or (s.size oid)
size_asks s line _ = None

-- ---- texts

abbrev pub concat_asks : ℕ → Option (Value × Value) → Asked
concat_asks line (Some (Str s, Str t)) = if nat_le (length s + length t) longest then gives (Str (s ++ t)) else breaks cause.LongText line
concat_asks line _ = None

abbrev pub length_asks : Option Value → Asked
length_asks (Some (Str s)) = gives (Int (pos (length s)))
length_asks _ = None

abbrev pub compare_asks : Order → Option (Value × Value) → Asked
compare_asks order (Some (Str s, Str t)) = gives (Truth (in_order order s t))
compare_asks order _ = None

abbrev pub slice_or : ℕ → Option (List ℕ) → Asked
slice_or line None = breaks cause.OutOfRange line
slice_or line (Some t) = gives (Str t)

abbrev pub slice_asks : ℕ → Option (Value × Value × Value) → Asked
slice_asks line (Some (Str s, Int from, Int count)) = slice_or line (slice_of s from count)
slice_asks line _ = None

abbrev pub text_asks : Option Value → Asked
text_asks (Some (Int z)) = gives (Str (signed_decimal z))
text_asks (Some (Truth b)) = gives (Str (truth_text b))
text_asks _ = None

-- ---- moves

abbrev pub any_fixed : Sight → List ℕ → Bool
any_fixed s [] = false
any_fixed s (m ∷ ms) = s.fixed m || any_fixed s ms

abbrev pub without : ℕ → List ℕ → List ℕ
without x [] = []
without x (m ∷ ms) = if x == m then without x ms else (m ∷ without x ms)

abbrev pub is_node : Option ClassNo → Bool
is_node None = false
is_node (Some class) = is_node_class class

-- Nothing moves where a member of the group is fixed.
abbrev pub move_to : Sight → ℕ → ℕ → Asked
move_to s x to = if any_fixed s (s.group x) then passes else Some (Moves (s.group x) to None)

abbrev pub fix_at : Sight → ℕ → ℕ → ℕ → Asked
fix_at s line x to = if any_fixed s (s.group x) then breaks cause.GroupFixed line else Some (Moves (s.group x) to (Some x))

abbrev pub refix_at : Sight → ℕ → ℕ → ℕ → Asked
refix_at s line x to =
    if is_node (s.class x) then breaks cause.NodeFixed line
    else if any_fixed s (without x (s.group x)) then breaks cause.GroupFixed line
    else Some (Moves (s.group x) to (Some x))

-- two objects; where one is nil the process fails
abbrev pub move_asks : ℕ → (ℕ → ℕ → Asked) → Option (Value × Value) → Asked
move_asks line act (Some (Ref x, Ref to)) = act x to
move_asks line act (Some (Ref x, Nil)) = breaks cause.Nil line
move_asks line act (Some (Nil, Ref to)) = breaks cause.Nil line
move_asks line act (Some (Nil, Nil)) = breaks cause.Nil line
move_asks line act _ = None

abbrev pub unfix_asks : Sight → ℕ → Option Value → Asked
unfix_asks s line (Some Nil) = breaks cause.Nil line
unfix_asks s line (Some (Ref x)) = if is_node (s.class x) then breaks cause.NodeFixed line else Some (Unfixes x)
unfix_asks s line _ = None

abbrev pub fixed_asks : Sight → ℕ → Option Value → Asked
fixed_asks s line (Some Nil) = breaks cause.Nil line
fixed_asks s line (Some (Ref x)) = gives (Truth (s.fixed x))
fixed_asks s line _ = None

-- ---- views

abbrev pub view_of : Sight → ℕ → ViewedAs → ℕ → Option ClassNo → Asked
view_of s line to oid None = None
view_of s line to oid (Some class) = if conforms s.classes class to then gives (Ref oid) else breaks cause.NotConforming line

-- Nil is viewed as nil.
abbrev pub view_asks : Sight → ℕ → ViewedAs → Option Value → Asked
view_asks s line to (Some Nil) = gives Nil
view_asks s line to (Some (Ref oid)) = view_of s line to oid (s.class oid)
view_asks s line to _ = None

-- ---- the table

abbrev pub doing_of : Sight → Who → Stop → List Value → Asked
doing_of s who stop.Entry vs = entry_asks (is_inside s who)
doing_of s who (stop.Invoke name line) vs = invoke_asks s name line vs
doing_of s who (stop.New class) vs = new_asks class vs (class_if s.classes (Some class))
doing_of s who (stop.Return gives_self) vs = return_asks s who gives_self vs
doing_of s who (stop.NewVector of line) vs = vector_asks of line (one vs)
doing_of s who (stop.Get line) vs = get_asks s line (two vs)
doing_of s who (stop.Set line) vs = set_asks s line (three vs)
doing_of s who (stop.Size line) vs = size_asks s line (one vs)
doing_of s who (stop.Concat line) vs = concat_asks line (two vs)
doing_of s who stop.Length vs = length_asks (one vs)
doing_of s who (stop.Compare order) vs = compare_asks order (two vs)
doing_of s who (stop.GetSlice line) vs = slice_asks line (three vs)
doing_of s who stop.AsString vs = text_asks (one vs)
doing_of s who stop.Print vs = print_asks vs
doing_of s who (stop.Global index) vs = global_asks s index vs
doing_of s who (stop.NodeAt line) vs = node_asks s line (one vs)
doing_of s who stop.NodeCount vs = gives (Int (pos s.nodes))
doing_of s who (stop.Move line) vs = move_asks line (move_to s) (two vs)
doing_of s who (stop.Fix line) vs = move_asks line (fix_at s line) (two vs)
doing_of s who (stop.Refix line) vs = move_asks line (refix_at s line) (two vs)
doing_of s who (stop.Unfix line) vs = unfix_asks s line (one vs)
doing_of s who (stop.IsFixed line) vs = fixed_asks s line (one vs)
doing_of s who (stop.View to line) vs = view_asks s line to (one vs)
doing_of s who (stop.Wait condition) vs = condition_asks s who condition (Waits condition)
doing_of s who (stop.Signal condition) vs = condition_asks s who condition (Signals condition)
doing_of s who stop.LoopTop vs = passes
doing_of s who stop.End vs = Some Finishes
doing_of s who (stop.Fail why line) vs = breaks why line
