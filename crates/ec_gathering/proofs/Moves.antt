-- Moves for which activations and the operator ask: who moves, and where.
use Rattle.std.proofs.Common.{◌≡◌, ◌≢◌, ◌<◌, ◌⊎◌, ◌∙◌, ◌∷◌, ℕ, suc, Bool, true, false, [], List, Option, Some, None, inl, inr, ⊎_elim}
use Rattle.std.proofs.Common.{ap, arith, refl, subst, sym}
use Rattle.std.proofs.lemmas.Bool.{ltb-true}
use Rattle.std.proofs.lemmas.Grind.{common_steps}
use Rattle.std.proofs.lemmas.Option.{none-some}
use Rattle.std.specs.Prelude.{◌==◌, ◌||◌, IsSome, if◌then◌else◌, nat_lt, not, option_map}
use Rattle.ec_cluster.specs.Cluster.{CodeWorld}
use Rattle.ec_code.specs.Steps.{with_itself}
use Rattle.ec_code.specs.Typing.{Declared, class_type}
use Rattle.ec_code.specs.declared.activation.CodeActivation.{CodeActivation}
use Rattle.ec_types.specs.declared.conform.static_type.StaticType.{StaticType}
use Rattle.ec_fullness.proofs.Asking.{its_stop}
use Rattle.ec_gathering.specs.Gathers.{MayLeave, LetsGo, MayGather}
use Rattle.ec_packing.specs.Between.{NodesAreFixed}
use Rattle.ec_parcels.specs.Classes.{ClassTable}
use Rattle.ec_world.proofs.Keys.{same_or_not}
use Rattle.ec_code.specs.SoundValues.{HasType, class_in}
use Rattle.ec_cluster.specs.Acting.{Asks}
use Rattle.ec_cluster.specs.declared.system.System.{System}
use Rattle.ec_world.proofs.Members.{has_none, has_parts, has_first, has_later}
use Rattle.ec_world.proofs.Rounds.{group_of_is}
use Rattle.ec_world.specs.Agree.{AllTwo}
use Rattle.ec_world.specs.Doings.{any_fixed, doing_of, is_node, without}
use Rattle.ec_world.specs.Group.{Has, InGroup, IsRising, group_of}
use Rattle.ec_world.specs.Group.InGroup.{Itself, Linked}
use Rattle.ec_world.specs.Group as groups
use Rattle.ec_world.specs.Moves.{is_idle_move, is_there}
use Rattle.ec_world.specs.Objects.{fixed_if, object_at}
use Rattle.ec_world.specs.Sights.{Sight, class_of, sight_of}
use Rattle.ec_world.specs.declared.class.ClassNo.{ClassNo}
use Rattle.ec_world.specs.declared.class.ClassNo.TheVariants.{Node}
use Rattle.ec_world.specs.declared.common.Common.{Common}
use Rattle.ec_world.specs.declared.doing.Doing.TheVariants.{Moves}
use Rattle.ec_world.specs.declared.object.ObjectRec.{ObjectRec}
use Rattle.ec_world.specs.declared.stop.Stop.{Stop}
use Rattle.ec_world.specs.declared.stop.Who.{Who}
use Rattle.ec_world.specs.declared.value.Value.{Value}
use Rattle.ec_world.specs.declared.value.Value.TheVariants.{Ref}

-- ---- what a stop asks for

pub operands_of : (s : Sight) (who : Who) (stop : Stop) (vs : List Value) (members : List ℕ) (target : ℕ) (fixes : Option ℕ) →
    doing_of s who stop vs ≡ Some (Moves members target fixes) → (x : ℕ) × (vs ≡ Ref x ∷ Ref target ∷ [])
operands_of s who stop vs members target fixes e = grind arith

pub group_is : (s : Sight) (who : Who) (stop : Stop) (vs : List Value) (members : List ℕ) (target x : ℕ) (fixes : Option ℕ) →
    doing_of s who stop vs ≡ Some (Moves members target fixes) → vs ≡ Ref x ∷ Ref target ∷ [] → members ≡ s.group x
group_is s who stop vs members target x fixes e f = grind arith

pub its_own : (s : Sight) (who : Who) (stop : Stop) (vs : List Value) (members : List ℕ) (target x y : ℕ) (fixes : Option ℕ) →
    doing_of s who stop vs ≡ Some (Moves members target fixes) → vs ≡ Ref x ∷ Ref target ∷ [] → fixes ≡ Some y → y ≡ x
its_own s who stop vs members target x y fixes e f g = grind arith

-- no member of the group is fixed; or none but the first object, which is no node, and is fixed then
pub is_loose : (s : Sight) (who : Who) (stop : Stop) (vs : List Value) (members : List ℕ) (target x : ℕ) (fixes : Option ℕ) →
    doing_of s who stop vs ≡ Some (Moves members target fixes) → vs ≡ Ref x ∷ Ref target ∷ [] →
    (any_fixed s (s.group x) ≡ false)
    ⊎ ((fixes ≡ Some x) × (is_node (s.class x) ≡ false) × (any_fixed s (without x (s.group x)) ≡ false))
is_loose s who stop vs members target x fixes e f = grind arith

-- ---- members that aren't fixed

none_fixed : (s : Sight) (ms : List ℕ) (y : ℕ) → any_fixed s ms ≡ false → Has ms y → s.fixed y ≡ false
none_fixed s [] y e h = absurd (has_none y h)
none_fixed s (m ∷ ms) y e h = ⊎_elim
    (λ (same : y ≡ m). rw same (left (s.fixed m) e))
    (λ (later : Has ms y). none_fixed s ms y (right (s.fixed m) e) later)
    (has_parts m y ms h)
  where
    left : (b : Bool) → (b || any_fixed s ms) ≡ false → b ≡ false
    left true f = absurd cc
    left false f = refl

    right : (b : Bool) → (b || any_fixed s ms) ≡ false → any_fixed s ms ≡ false
    right true f = absurd cc
    right false f = f

is_same : (x y : ℕ) → (x == y) ≡ true → x ≡ y
is_same x y e = grind (arith, common_steps)

-- the rest of a list but for x, with one more in front, unless this is x
stays_in : (x m : ℕ) (ms : List ℕ) (y : ℕ) (b : Bool) → (x == m) ≡ b → y ≢ x → (y ≡ m) ⊎ Has (without x ms) y →
    Has (if b then without x ms else (m ∷ without x ms)) y
stays_in x m ms y true e ne h = ⊎_elim
    (λ (same : y ≡ m). absurd (ne (same ∙ sym (is_same x m e))))
    (λ (later : Has (without x ms) y). later)
    h
stays_in x m ms y false e ne h = ⊎_elim
    (λ (same : y ≡ m). rw same (has_first m (without x ms)))
    (λ (later : Has (without x ms) y). has_later m y (without x ms) later)
    h

others_stay : (x : ℕ) (ms : List ℕ) (y : ℕ) → Has ms y → y ≢ x → Has (without x ms) y
others_stay x [] y h ne = absurd (has_none y h)
others_stay x (m ∷ ms) y h ne = stays_in x m ms y (x == m) refl ne (⊎_elim
    (λ (same : y ≡ m). inl same)
    (λ (later : Has ms y). inr (others_stay x ms y later ne))
    (has_parts m y ms h))

-- ---- objects that are there

-- the object of a number, where it has a class
class_there : (objects : List ObjectRec) (x : ℕ) (k : ClassNo) → class_in objects x ≡ Some k → IsSome (object_at objects x)
class_there objects x k e = by (object_at objects x) e
  where
    by : (o : Option ObjectRec) → class_of o ≡ Some k → IsSome o
    by None f = absurd cc
    by (Some o) f = refl

pub object_of : (objects : List ObjectRec) (x : ℕ) → IsSome (object_at objects x) → (o : ObjectRec) × (object_at objects x ≡ Some o)
object_of objects x there = by (object_at objects x) refl there
  where
    by : (o : Option ObjectRec) → object_at objects x ≡ o → IsSome o → (o : ObjectRec) × (object_at objects x ≡ Some o)
    by None e h = absurd cc
    by (Some o) e h = (o, e)

module _ (d : Declared) (objects : List ObjectRec) (x : ℕ) where
  typed_there : (t : StaticType) → HasType d objects t (Ref x) → IsSome (object_at objects x)
  typed_there t h = by (class_in objects x) refl h.is
    where
      by : (k : Option ClassNo) → class_in objects x ≡ k → option_map (class_type d) k ≡ Some h.of → IsSome (object_at objects x)
      by None e is = absurd (none-some h.of is)
      by (Some k) e is = class_there objects x k e

  one_there : (t : StaticType) (v : Value) → HasType d objects t v → v ≡ Ref x → IsSome (object_at objects x)
  one_there t v h same = typed_there t (subst (λ (u : Value). HasType d objects t u) same h)

  -- each reference of some operands is to an object
  operand_there : (ts : List StaticType) (vs : List Value) → AllTwo (HasType d objects) ts vs → Has vs (Ref x) →
      IsSome (object_at objects x)
  operand_there [] [] fit h = absurd (has_none (Ref x) h)
  operand_there [] (v ∷ vs) fit h = absurd fit
  operand_there (t ∷ ts) [] fit h = absurd fit
  operand_there (t ∷ ts) (v ∷ vs) fit h = ⊎_elim
      (λ (same : Ref x ≡ v). one_there t v fit.0 (sym same))
      (λ (later : Has vs (Ref x)). operand_there ts vs fit.1 later)
      (has_parts v (Ref x) vs h)

  each_there : (on_itself : Bool) (own : ℕ) (ts : List StaticType) (vs : List Value) → IsSome (object_at objects own) →
      AllTwo (HasType d objects) ts vs → Has (with_itself on_itself own vs) (Ref x) → IsSome (object_at objects x)
  each_there true own ts [] there fit h = absurd (has_none (Ref x) h)
  each_there true own [] (v ∷ vs) there fit h = absurd fit
  each_there true own (t ∷ ts) (v ∷ vs) there fit h = ⊎_elim
      (λ (same : Ref x ≡ Ref own). let is : x ≡ own = cc in rw is there)
      (λ (later : Has vs (Ref x)). operand_there ts vs fit.1 later)
      (has_parts (Ref own) (Ref x) vs h)
  each_there false own ts vs there fit h = operand_there ts vs fit h

-- ---- members of a group

member_there : (c : Common) (x y : ℕ) → InGroup c x y → IsSome (object_at c.objects y)
member_there c x _ (Itself there) = there
member_there c x _ (Linked y z g link there) = there

in_group : (c : Common) (x y : ℕ) → Has (group_of c x) y → IsSome (object_at c.objects y)
in_group c x y h = member_there c x y (((group_of_is c x).each y).0 h)

-- what isn't fixed is no node
fixed_is : (objects : List ObjectRec) (y : ℕ) (o : ObjectRec) → object_at objects y ≡ Some o → fixed_if (object_at objects y) ≡ false →
    o.fixed ≡ false
fixed_is objects y o is free = sym (ap fixed_if is) ∙ free

module _ (w : CodeWorld) (nodes : NodesAreFixed w) (fixes : Option ℕ) where
  leaves_loose : (y : ℕ) → IsSome (object_at w.common.objects y) → fixed_if (object_at w.common.objects y) ≡ false → MayLeave w fixes y
  leaves_loose y there free =
      let o = object_of w.common.objects y there in
      let loose : o.0.fixed ≡ false = fixed_is w.common.objects y o.0 o.1 free in
      record {
        object = o.0;
        is = o.1;
        no_node = λ node. absurd (let f : o.0.fixed ≡ true = nodes y o.0 o.1 node in cc);
        loose = λ other. loose;
      }

  leaves_itself : (x : ℕ) → IsSome (object_at w.common.objects x) → fixes ≡ Some x →
      is_node (class_of (object_at w.common.objects x)) ≡ false → MayLeave w fixes x
  leaves_itself x there its free =
      let o = object_of w.common.objects x there in
      let kind : is_node (Some o.0.class) ≡ false = sym (ap (λ u. is_node (class_of u)) o.1) ∙ free in
      record {
        object = o.0;
        is = o.1;
        no_node = λ node. absurd (let f : true ≡ false = sym (ap (λ k. is_node (Some k)) node) ∙ kind in cc);
        loose = λ other. absurd (other its);
      }

  group_leaves : (x : ℕ) → (any_fixed (sight_of w.common) (group_of w.common x) ≡ false) → (y : ℕ) →
      Has (group_of w.common x) y → MayLeave w fixes y
  group_leaves x free y h =
      leaves_loose y (in_group w.common x y h) (none_fixed (sight_of w.common) (group_of w.common x) y free h)

  others_leave : (x : ℕ) → fixes ≡ Some x → is_node (class_of (object_at w.common.objects x)) ≡ false →
      any_fixed (sight_of w.common) (without x (group_of w.common x)) ≡ false → (y : ℕ) → Has (group_of w.common x) y → MayLeave w fixes y
  others_leave x its kind free y h = ⊎_elim
      (λ (same : y ≡ x).
      let there : IsSome (object_at w.common.objects x) =
      subst (λ z. IsSome (object_at w.common.objects z)) same (in_group w.common x y h) in
      subst (MayLeave w fixes) (sym same) (leaves_itself x there its kind))
      (λ (other : y ≢ x). leaves_loose y (in_group w.common x y h)
      (none_fixed (sight_of w.common) (without x (group_of w.common x)) y free (others_stay x (group_of w.common x) y h other)))
      (same_or_not y x)

-- ---- moves for which activations ask

pub asks_may : (d : Declared) (s : System) (w : CodeWorld) (table : ClassTable) (below : List CodeActivation) (top : CodeActivation)
    (who : Who) (members : List ℕ) (target : ℕ) (fixes : Option ℕ) → LetsGo d s w table →
    Asks w below top who (Moves members target fixes) → MayGather d s w table members target fixes
asks_may d s w table below top who members target fixes lets asks =
    let nodes : NodesAreFixed w = lets.between.nodes in
    let sight : Sight = sight_of w.common in
    let objects : List ObjectRec = w.common.objects in
    let stop = its_stop d s w below top who (Moves members target fixes) lets.runs asks in
    let vs = operands_of sight who top.stop top.operands members target fixes asks.is in
    let x : ℕ = vs.0 in
    let own : IsSome (object_at objects top.own) = class_there objects top.own stop.rests.of.class stop.rests.own in
    let are : with_itself stop.rests.row.on_itself top.own stop.operands.values ≡ Ref x ∷ Ref target ∷ [] =
    sym stop.operands.are ∙ vs.1 in
    let there : (y : ℕ) → Has (Ref x ∷ Ref target ∷ []) (Ref y) → IsSome (object_at objects y) = λ y h.
    each_there d objects y stop.rests.row.on_itself top.own stop.rests.typed.types stop.operands.values own stop.operands.fit
    (subst (λ us. Has us (Ref y)) (sym are) h) in
    let group : members ≡ group_of w.common x = group_is sight who top.stop top.operands members target x fixes asks.is vs.1 in
    let leaves : (y : ℕ) → Has (group_of w.common x) y → MayLeave w fixes y = λ y h. ⊎_elim
    (λ (free : any_fixed sight (group_of w.common x) ≡ false). group_leaves w nodes fixes x free y h)
    (λ (free : (fixes ≡ Some x) × (is_node (sight.class x) ≡ false) × (any_fixed sight (without x (group_of w.common x)) ≡ false)).
    others_leave w nodes fixes x free.0 free.1 free.2 y h)
    (is_loose sight who top.stop top.operands members target x fixes asks.is vs.1) in
    record {
      lets = lets;
      rising = subst (λ ms. IsRising ms) (sym group) (group_of_is w.common x).rising;
      each = λ y h. leaves y (subst (λ ms. Has ms y) group h);
      target_there = there target (has_later (Ref x) (Ref target) (Ref target ∷ []) (has_first (Ref target) []));
      its = λ y e.
          let is : y ≡ x = its_own sight who top.stop top.operands members target x y fixes asks.is vs.1 e in
          subst (λ ms. Has ms y) (sym group) (subst (Has (group_of w.common x)) (sym is)
          (((group_of_is w.common x).each x).1 (Itself (there x (has_first (Ref x) (Ref target ∷ []))))));
    }

-- ---- moves by the operator

-- a move that isn't idle: the object and the node are there, and no member is fixed
record NotIdle (c : Common) (oid k : ℕ) : Type 0 where
  pub node : k < c.nodes
  pub loose : groups.any_fixed c (group_of c oid) ≡ false

not_idle : (c : Common) (oid k : ℕ) → is_idle_move c oid k ≡ false → NotIdle c oid k
not_idle c oid k e = by (is_there (object_at c.objects oid)) (nat_lt k c.nodes) refl e
  where
    by : (a b : Bool) → nat_lt k c.nodes ≡ b → (not a || (not b || groups.any_fixed c (group_of c oid))) ≡ false → NotIdle c oid k
    by false b f g = absurd cc
    by true false f g = absurd cc
    by true true f g = record { node = ltb-true k c.nodes f; loose = g }

none_fixed_in : (c : Common) (ms : List ℕ) (y : ℕ) → groups.any_fixed c ms ≡ false → Has ms y → fixed_if (object_at c.objects y) ≡ false
none_fixed_in c ms y e h = none_fixed (sight_of c) ms y (same ms ∙ e) h
  where
    same : (ns : List ℕ) → any_fixed (sight_of c) ns ≡ groups.any_fixed c ns
    same [] = refl
    same (n ∷ ns) = ap (λ b. fixed_if (object_at c.objects n) || b) (same ns)

pub operator_may : (d : Declared) (s : System) (w : CodeWorld) (table : ClassTable) (oid k : ℕ) → LetsGo d s w table →
    is_idle_move w.common oid k ≡ false → MayGather d s w table (group_of w.common oid) (suc k) None
operator_may d s w table oid k lets moves =
    let nodes : NodesAreFixed w = lets.between.nodes in
    let m = not_idle w.common oid k moves in
    record {
      lets = lets;
      rising = (group_of_is w.common oid).rising;
      each = λ y h. leaves_loose w nodes None y (in_group w.common oid y h) (none_fixed_in w.common (group_of w.common oid) y m.loose h);
      target_there = class_there w.common.objects (suc k) Node (lets.runs.sound.common.nodes k m.node);
      its = λ y e. absurd cc;
    }
