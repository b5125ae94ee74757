-- Readers that see the same do the same.
use Rattle.std.proofs.Common.{◌≡◌, ℕ, suc, Bool, true, false, ◌&&◌, ◌||◌, List, [], ◌∷◌, Option, Some, None, refl, ap, ◌∙◌}
use Rattle.std.specs.Prelude.{if◌then◌else◌, nat_lt, ℤ, pos, negsuc}
use Rattle.ec_world.specs.declared.value.Value.{Value}
use Rattle.ec_world.specs.declared.value.Value.TheVariants.{Int, Str, Ref, Nil, Bool as Truth}
use Rattle.ec_world.specs.declared.class.ClassNo.{ClassNo}
use Rattle.ec_world.specs.declared.class.ClassRec.{ClassRec}
use Rattle.ec_world.specs.declared.class.ViewedAs.{ViewedAs}
use Rattle.ec_world.specs.declared.doing.Doing.{Doing}
use Rattle.ec_world.specs.declared.doing.Doing.TheVariants.{Defines, Returns, Moves, Unfixes, Waits, Signals}
use Rattle.ec_world.specs.declared.process.Cause.TheVariants as cause
use Rattle.ec_world.specs.declared.stop.Stop.{Stop}
use Rattle.ec_world.specs.declared.stop.Stop.TheVariants as stop
use Rattle.ec_world.specs.declared.stop.Who.{Who}
use Rattle.ec_world.specs.Objects.{class_at, operation_in, conforms}
use Rattle.ec_world.specs.Sights.{Sight, class_if, class_record}
use Rattle.ec_world.specs.Doings.{Asked, one, two, three, passes, gives, breaks, runs_inside, is_inside, entry_asks, called}
use Rattle.ec_world.specs.Doings.{invoke_asks, new_asks, section_in, return_asks, conditions_of, condition_asks, global_asks}
use Rattle.ec_world.specs.Doings.{node_asks, element_at, element_or, of_vector, get_asks, set_at, set_asks, size_or, size_asks}
use Rattle.ec_world.specs.Doings.{any_fixed, without, is_node, move_to, fix_at, refix_at, move_asks, unfix_asks, fixed_asks}
use Rattle.ec_world.specs.Doings.{view_of, view_asks, doing_of}

-- sights that are equal at each point
pub record SameSight (s t : Sight) : Type 0 where
  pub nodes : s.nodes ≡ t.nodes
  pub classes : s.classes ≡ t.classes
  pub constants : s.constants ≡ t.constants
  pub class : (oid : ℕ) → s.class oid ≡ t.class oid
  pub size : (oid : ℕ) → s.size oid ≡ t.size oid
  pub element : (oid index : ℕ) → s.element oid index ≡ t.element oid index
  pub fixed : (oid : ℕ) → s.fixed oid ≡ t.fixed oid
  pub group : (oid : ℕ) → s.group oid ≡ t.group oid

-- an act on two objects that may be another one, where it does the same on both
acts_same : (line : ℕ) (act act' : ℕ → ℕ → Asked) → ((x to : ℕ) → act x to ≡ act' x to) → (o : Option (Value × Value)) →
    move_asks line act o ≡ move_asks line act' o
acts_same line act act' h None = refl
acts_same line act act' h (Some (Int z, Int i)) = refl
acts_same line act act' h (Some (Int z, Truth d)) = refl
acts_same line act act' h (Some (Int z, Str w)) = refl
acts_same line act act' h (Some (Int z, Ref to)) = refl
acts_same line act act' h (Some (Int z, Nil)) = refl
acts_same line act act' h (Some (Truth b, Int i)) = refl
acts_same line act act' h (Some (Truth b, Truth d)) = refl
acts_same line act act' h (Some (Truth b, Str w)) = refl
acts_same line act act' h (Some (Truth b, Ref to)) = refl
acts_same line act act' h (Some (Truth b, Nil)) = refl
acts_same line act act' h (Some (Str y, Int i)) = refl
acts_same line act act' h (Some (Str y, Truth d)) = refl
acts_same line act act' h (Some (Str y, Str w)) = refl
acts_same line act act' h (Some (Str y, Ref to)) = refl
acts_same line act act' h (Some (Str y, Nil)) = refl
acts_same line act act' h (Some (Ref x, Int i)) = refl
acts_same line act act' h (Some (Ref x, Truth d)) = refl
acts_same line act act' h (Some (Ref x, Str w)) = refl
acts_same line act act' h (Some (Ref x, Ref to)) = h x to
acts_same line act act' h (Some (Ref x, Nil)) = refl
acts_same line act act' h (Some (Nil, Int i)) = refl
acts_same line act act' h (Some (Nil, Truth d)) = refl
acts_same line act act' h (Some (Nil, Str w)) = refl
acts_same line act act' h (Some (Nil, Ref to)) = refl
acts_same line act act' h (Some (Nil, Nil)) = refl

module _ (s t : Sight) (h : SameSight s t) where
  record_same : (oid : ℕ) → class_record s oid ≡ class_record t oid
  record_same oid = ap (λ (ks : List ClassRec). class_if ks (s.class oid)) h.classes ∙ ap (class_if t.classes) (h.class oid)

  -- ---- operations

  inside_same : (who : Who) → is_inside s who ≡ is_inside t who
  inside_same who = ap (λ (k : Option ClassRec). runs_inside k who.operation) (record_same who.own)

  invoke_same : (name line : ℕ) (vs : List Value) → invoke_asks s name line vs ≡ invoke_asks t name line vs
  invoke_same name line [] = refl
  invoke_same name line (Nil ∷ args) = refl
  invoke_same name line (Ref oid ∷ args) = ap (λ (k : Option ClassRec). called oid args (operation_in k name)) (record_same oid)
  invoke_same name line (Int z ∷ args) = refl
  invoke_same name line (Truth b ∷ args) = refl
  invoke_same name line (Str y ∷ args) = refl

  return_same : (who : Who) (gives_self : Bool) (vs : List Value) → return_asks s who gives_self vs ≡ return_asks t who gives_self vs
  return_same who true [] =
      ap (λ (b : Bool). Some (Returns (Some (Ref who.own)) b (section_in (class_record s who.own)))) (inside_same who)
      ∙ ap (λ (k : Option ClassRec). Some (Returns (Some (Ref who.own)) (is_inside t who) (section_in k))) (record_same who.own)
  return_same who true (v ∷ vs) = refl
  return_same who false [] = ap (λ (b : Bool). Some (Returns None b None)) (inside_same who)
  return_same who false (v ∷ []) = ap (λ (b : Bool). Some (Returns (Some v) b None)) (inside_same who)
  return_same who false (v ∷ u ∷ vs) = refl

  condition_same : (who : Who) (condition : ℕ) (act : Doing) → condition_asks s who condition act ≡ condition_asks t who condition act
  condition_same who condition act =
      ap (λ (b : Bool). if b && nat_lt condition (conditions_of (class_record s who.own)) then Some act else None) (inside_same who)
      ∙ ap (λ (k : Option ClassRec). if is_inside t who && nat_lt condition (conditions_of k) then Some act else None) (record_same who.own)

  -- ---- constants and nodes

  global_same : (index : ℕ) (vs : List Value) → global_asks s index vs ≡ global_asks t index vs
  global_same index [] = refl
  global_same index (v ∷ []) = ap (λ (n : ℕ). if nat_lt index n then Some (Defines index v) else None) h.constants
  global_same index (v ∷ u ∷ vs) = refl

  node_same : (line : ℕ) (o : Option Value) → node_asks s line o ≡ node_asks t line o
  node_same line None = refl
  node_same line (Some (Int (pos k))) = ap (λ (n : ℕ). if nat_lt k n then gives (Ref (suc k)) else breaks cause.NoSuchNode line) h.nodes
  node_same line (Some (Int (negsuc k))) = refl
  node_same line (Some (Truth b)) = refl
  node_same line (Some (Str y)) = refl
  node_same line (Some (Ref x)) = refl
  node_same line (Some Nil) = refl

  -- ---- vectors

  element_same : (oid : ℕ) (index : ℤ) → element_at s oid index ≡ element_at t oid index
  element_same oid (pos i) = h.element oid i
  element_same oid (negsuc i) = refl

  get_same : (line : ℕ) (o : Option (Value × Value)) → get_asks s line o ≡ get_asks t line o
  get_same line None = refl
  get_same line (Some (Int z, Int i)) = refl
  get_same line (Some (Int z, Truth d)) = refl
  get_same line (Some (Int z, Str w)) = refl
  get_same line (Some (Int z, Ref to)) = refl
  get_same line (Some (Int z, Nil)) = refl
  get_same line (Some (Truth b, Int i)) = refl
  get_same line (Some (Truth b, Truth d)) = refl
  get_same line (Some (Truth b, Str w)) = refl
  get_same line (Some (Truth b, Ref to)) = refl
  get_same line (Some (Truth b, Nil)) = refl
  get_same line (Some (Str y, Int i)) = refl
  get_same line (Some (Str y, Truth d)) = refl
  get_same line (Some (Str y, Str w)) = refl
  get_same line (Some (Str y, Ref to)) = refl
  get_same line (Some (Str y, Nil)) = refl
  get_same line (Some (Ref x, Int i)) =
      ap (λ (n : Option ℕ). of_vector n (element_or line (element_at s x i))) (h.size x)
      ∙ ap (λ (v : Option Value). of_vector (t.size x) (element_or line v)) (element_same x i)
  get_same line (Some (Ref x, Truth d)) = refl
  get_same line (Some (Ref x, Str w)) = refl
  get_same line (Some (Ref x, Ref to)) = refl
  get_same line (Some (Ref x, Nil)) = refl
  get_same line (Some (Nil, Int i)) = refl
  get_same line (Some (Nil, Truth d)) = refl
  get_same line (Some (Nil, Str w)) = refl
  get_same line (Some (Nil, Ref to)) = refl
  get_same line (Some (Nil, Nil)) = refl

  set_same : (line : ℕ) (o : Option (Value × Value × Value)) → set_asks s line o ≡ set_asks t line o
  set_same line None = refl
  set_same line (Some (Int z, Int i, v)) = refl
  set_same line (Some (Int z, Truth d, v)) = refl
  set_same line (Some (Int z, Str w, v)) = refl
  set_same line (Some (Int z, Ref to, v)) = refl
  set_same line (Some (Int z, Nil, v)) = refl
  set_same line (Some (Truth b, Int i, v)) = refl
  set_same line (Some (Truth b, Truth d, v)) = refl
  set_same line (Some (Truth b, Str w, v)) = refl
  set_same line (Some (Truth b, Ref to, v)) = refl
  set_same line (Some (Truth b, Nil, v)) = refl
  set_same line (Some (Str y, Int i, v)) = refl
  set_same line (Some (Str y, Truth d, v)) = refl
  set_same line (Some (Str y, Str w, v)) = refl
  set_same line (Some (Str y, Ref to, v)) = refl
  set_same line (Some (Str y, Nil, v)) = refl
  set_same line (Some (Ref x, Int i, v)) = ap (set_at line x i v) (h.size x)
  set_same line (Some (Ref x, Truth d, v)) = refl
  set_same line (Some (Ref x, Str w, v)) = refl
  set_same line (Some (Ref x, Ref to, v)) = refl
  set_same line (Some (Ref x, Nil, v)) = refl
  set_same line (Some (Nil, Int i, v)) = refl
  set_same line (Some (Nil, Truth d, v)) = refl
  set_same line (Some (Nil, Str w, v)) = refl
  set_same line (Some (Nil, Ref to, v)) = refl
  set_same line (Some (Nil, Nil, v)) = refl

  size_same : (line : ℕ) (o : Option Value) → size_asks s line o ≡ size_asks t line o
  size_same line None = refl
  size_same line (Some (Int z)) = refl
  size_same line (Some (Truth b)) = refl
  size_same line (Some (Str y)) = refl
  size_same line (Some (Ref x)) = ap size_or (h.size x)
  size_same line (Some Nil) = refl

  -- ---- moves

  fixed_all_same : (ms : List ℕ) → any_fixed s ms ≡ any_fixed t ms
  fixed_all_same [] = refl
  fixed_all_same (m ∷ ms) =
      ap (λ (b : Bool). b || any_fixed s ms) (h.fixed m) ∙ ap (λ (b : Bool). t.fixed m || b) (fixed_all_same ms)

  move_same : (x to : ℕ) → move_to s x to ≡ move_to t x to
  move_same x to =
      ap (λ (ms : List ℕ). if any_fixed s ms then passes else Some (Moves ms to None)) (h.group x)
      ∙ ap (λ (b : Bool). if b then passes else Some (Moves (t.group x) to None)) (fixed_all_same (t.group x))

  fix_same : (line x to : ℕ) → fix_at s line x to ≡ fix_at t line x to
  fix_same line x to =
      ap (λ (ms : List ℕ). if any_fixed s ms then breaks cause.GroupFixed line else Some (Moves ms to (Some x))) (h.group x)
      ∙ ap (λ (b : Bool). if b then breaks cause.GroupFixed line else Some (Moves (t.group x) to (Some x))) (fixed_all_same (t.group x))

  refix_same : (line x to : ℕ) → refix_at s line x to ≡ refix_at t line x to
  refix_same line x to =
      ap (λ (k : Option ClassNo). if is_node k then breaks cause.NodeFixed line else if any_fixed s (without x (s.group x)) then
      breaks cause.GroupFixed line else Some (Moves (s.group x) to (Some x))) (h.class x)
      ∙ ap (λ (ms : List ℕ). if is_node (t.class x) then breaks cause.NodeFixed line else if any_fixed s (without x ms) then breaks
      cause.GroupFixed line else Some (Moves ms to (Some x))) (h.group x)
      ∙ ap (λ (b : Bool). if is_node (t.class x) then breaks cause.NodeFixed line else if b then breaks cause.GroupFixed line else
      Some (Moves (t.group x) to (Some x))) (fixed_all_same (without x (t.group x)))

  unfix_same : (line : ℕ) (o : Option Value) → unfix_asks s line o ≡ unfix_asks t line o
  unfix_same line None = refl
  unfix_same line (Some (Int z)) = refl
  unfix_same line (Some (Truth b)) = refl
  unfix_same line (Some (Str y)) = refl
  unfix_same line (Some (Ref x)) =
      ap (λ (k : Option ClassNo). if is_node k then breaks cause.NodeFixed line else Some (Unfixes x)) (h.class x)
  unfix_same line (Some Nil) = refl

  fixed_same : (line : ℕ) (o : Option Value) → fixed_asks s line o ≡ fixed_asks t line o
  fixed_same line None = refl
  fixed_same line (Some (Int z)) = refl
  fixed_same line (Some (Truth b)) = refl
  fixed_same line (Some (Str y)) = refl
  fixed_same line (Some (Ref x)) = ap (λ (b : Bool). gives (Truth b)) (h.fixed x)
  fixed_same line (Some Nil) = refl

  -- ---- views

  view_if : (line : ℕ) (to : ViewedAs) (oid : ℕ) (k : Option ClassNo) → view_of s line to oid k ≡ view_of t line to oid k
  view_if line to oid None = refl
  view_if line to oid (Some class) =
      ap (λ (ks : List ClassRec). if conforms ks class to then gives (Ref oid) else breaks cause.NotConforming line) h.classes

  view_same : (line : ℕ) (to : ViewedAs) (o : Option Value) → view_asks s line to o ≡ view_asks t line to o
  view_same line to None = refl
  view_same line to (Some (Int z)) = refl
  view_same line to (Some (Truth b)) = refl
  view_same line to (Some (Str y)) = refl
  view_same line to (Some (Ref x)) = ap (view_of s line to x) (h.class x) ∙ view_if line to x (t.class x)
  view_same line to (Some Nil) = refl

  -- ---- the table

  pub doing_same : (who : Who) (it : Stop) (vs : List Value) → doing_of s who it vs ≡ doing_of t who it vs
  doing_same who stop.Entry vs = ap entry_asks (inside_same who)
  doing_same who (stop.Invoke name line) vs = invoke_same name line vs
  doing_same who (stop.New class) vs = ap (λ (ks : List ClassRec). new_asks class vs (class_at ks class)) h.classes
  doing_same who (stop.Return gives_self) vs = return_same who gives_self vs
  doing_same who (stop.NewVector of line) vs = refl
  doing_same who (stop.Get line) vs = get_same line (two vs)
  doing_same who (stop.Set line) vs = set_same line (three vs)
  doing_same who (stop.Size line) vs = size_same line (one vs)
  doing_same who (stop.Concat line) vs = refl
  doing_same who stop.Length vs = refl
  doing_same who (stop.Compare order) vs = refl
  doing_same who (stop.GetSlice line) vs = refl
  doing_same who stop.AsString vs = refl
  doing_same who stop.Print vs = refl
  doing_same who (stop.Global index) vs = global_same index vs
  doing_same who (stop.NodeAt line) vs = node_same line (one vs)
  doing_same who stop.NodeCount vs = ap (λ (n : ℕ). gives (Int (pos n))) h.nodes
  doing_same who (stop.Move line) vs = acts_same line (move_to s) (move_to t) move_same (two vs)
  doing_same who (stop.Fix line) vs = acts_same line (fix_at s line) (fix_at t line) (fix_same line) (two vs)
  doing_same who (stop.Refix line) vs = acts_same line (refix_at s line) (refix_at t line) (refix_same line) (two vs)
  doing_same who (stop.Unfix line) vs = unfix_same line (one vs)
  doing_same who (stop.IsFixed line) vs = fixed_same line (one vs)
  doing_same who (stop.View to line) vs = view_same line to (one vs)
  doing_same who (stop.Wait condition) vs = condition_same who condition (Waits condition)
  doing_same who (stop.Signal condition) vs = condition_same who condition (Signals condition)
  doing_same who stop.LoopTop vs = refl
  doing_same who stop.End vs = refl
  doing_same who (stop.Fail why line) vs = refl
