-- What is told of one node is what is told of the node of an object.
use Rattle.std.proofs.Common.{◌≡◌, ◌+◌, ◌≤◌, ⊎_elim, true, false, suc, ◌≢◌, ℕ, List, [], ◌∷◌, Option, Some, None, sym, ap, ◌∙◌, subst}
use Rattle.std.proofs.Common.{arith}
use Rattle.std.specs.Prelude.{Err, IfNone, IfOk, IfSome, Ok, Result, is_some, length, option_map, slice_get}
use Rattle.std.proofs.lemmas.Option.{same_Some}
use Rattle.ec_cluster.proofs.Putting.{is_node}
use Rattle.ec_cluster.specs.Cluster.{place, stores}
use Rattle.ec_cluster.specs.declared.cluster.Cluster.{Cluster}
use Rattle.ec_cluster.specs.Frames.{tables_on}
use Rattle.ec_code.specs.declared.code.Live.{Live}
use Rattle.ec_fullness.proofs.Needs.{fits_without}
use Rattle.ec_fullness.specs.Room.{HasRoomWith}
use Rattle.ec_fullness.specs.Told.{HaveRoomBefore, LacksFirst, Tells, TellsOfAll, TellsOfMaking, taken}
use Rattle.ec_objects.specs.Lacks.{HasRoomForAll, LacksRoom}
use Rattle.ec_node_frames.specs.Beginning.{first_values}
use Rattle.ec_world.specs.Things.{class_blocks}
use Rattle.ec_world.specs.declared.room.Lack.{Lack}
use Rattle.ec_generate.specs.declared.table.OperationTable.{OperationTable}
use Rattle.ec_stores.specs.Node.{NodeData, store_of}
use Rattle.ec_things.proofs.Put.{same_or_not}
use Rattle.ec_things.specs.Store.{Store}
use Rattle.ec_world.specs.Objects.{class_at}
use Rattle.ec_world.specs.Values.{new_fields}
use Rattle.ec_world.specs.declared.class.ClassNo.{ClassNo}
use Rattle.ec_world.specs.declared.class.ClassNo.TheVariants.{Made}
use Rattle.ec_world.specs.declared.class.ClassRec.{ClassRec}
use Rattle.ec_world.specs.declared.value.Value.{Value}

-- ---- the node of an object

module _ (c : Cluster) (oid k : ℕ) (n : NodeData) (at : place c oid ≡ Some k) (is : slice_get c.nodes k ≡ Some n) (blocks : ℕ)
    (values : List Value) where
  told : (r : Option Lack) → IfSome r (λ lack. LacksRoom (store_of n) k blocks values lack) →
      IfNone r (HasRoomForAll (store_of n) blocks values) → Tells c oid blocks values r
  told None some none = λ j s home there.
      let same : k ≡ j = same_Some k j (sym at ∙ home) in
      let store : store_of n ≡ s = same_Some (store_of n) s (sym (ap (option_map store_of) is) ∙ ap (stores c) same ∙ there) in
      subst (λ (x : Store). HasRoomForAll x blocks values) store none
  told (Some lack) some none = record {
    store = store_of n;
    at = at ∙ ap Some (sym some.node);
    there = ap (stores c) some.node ∙ ap (option_map store_of) is;
    lacks = subst (λ x. LacksRoom (store_of n) x blocks values lack) (sym some.node) some;
  }

  pub told_ok : {E : Type 0} (r : Result (Option Lack) E) → IfOk r (λ x. IfSome x (λ lack. LacksRoom (store_of n) k blocks values lack)) →
      IfOk r (λ x. IfNone x (HasRoomForAll (store_of n) blocks values)) → IfOk r (λ x. Tells c oid blocks values x)
  told_ok (Ok x) some none = told x some none
  told_ok (Err e) some none = tt

-- ---- what is taken

pub empty_room : (c : Cluster) (oid : ℕ) → HasRoomWith c oid 0 []
empty_room c oid k s at there = record { blocks_fit = omega arith; texts_fit = fits_without s [] (λ text h. let e = h.is in cc) }

pub none_given : (c : Cluster) (oid : ℕ) (r : Option Live) (given : Option Value) → given ≡ None → Tells c oid 0 (taken r given) None
none_given c oid None given e = empty_room c oid
none_given c oid (Some l) given e = subst (λ g. HasRoomWith c oid 0 (taken (Some l) g)) (sym e) (empty_room c oid)

pub none_takes : (c : Cluster) (oid : ℕ) (r : Option Live) (given : Option Value) → r ≡ None → Tells c oid 0 (taken r given) None
none_takes c oid r given e = subst (λ x. HasRoomWith c oid 0 (taken x given)) (sym e) (empty_room c oid)

pub one_takes : (c : Cluster) (oid : ℕ) (r : Option Live) (l : Live) (given : Option Value) (v : Value) (x : Option Lack) → r ≡ Some l →
    given ≡ Some v → Tells c oid 0 (v ∷ []) x → Tells c oid 0 (taken r given) x
one_takes c oid r l given v x e f t =
    subst (λ (q : Option Live). Tells c oid 0 (taken q given) x) (sym e)
    (subst (λ (g : Option Value). Tells c oid 0 (taken (Some l) g) x) (sym f) t)

-- ---- all nodes

pub none_before : (c : Cluster) (values : List Value) → HaveRoomBefore c values 0
none_before c values k s low there = absurd (omega (arith, low))

pub one_more : (c : Cluster) (values : List Value) (k : ℕ) (n : NodeData) → HaveRoomBefore c values k → slice_get c.nodes k ≡ Some n →
    HasRoomForAll (store_of n) 0 values → HaveRoomBefore c values (k + 1)
one_more c values k n before is room j s low there = ⊎_elim
    (λ (same : j ≡ k).
    let store : store_of n ≡ s = same_Some (store_of n) s
    (sym (ap (stores c) same ∙ ap (option_map store_of) is) ∙ there) in
    subst (λ (x : Store). HasRoomForAll x 0 values) store room)
    (λ (ne : j ≢ k). before j s (omega (arith, low, ne)) there)
    (same_or_not j k)

pub all_before : (c : Cluster) (values : List Value) (count : ℕ) → HaveRoomBefore c values count → length c.nodes ≤ count →
    TellsOfAll c values None
all_before c values count before many k s there =
    let l = is_node c k s there in
    before k s (omega (arith, l, many)) there

first_lacks : (c : Cluster) (values : List Value) (k : ℕ) (n : NodeData) (lack : Lack) → HaveRoomBefore c values k →
    slice_get c.nodes k ≡ Some n → LacksRoom (store_of n) k 0 values lack → LacksFirst c values lack
first_lacks c values k n lack before is lacks = record {
  store = store_of n;
  there = ap (stores c) lacks.node ∙ ap (option_map store_of) is;
  lacks = subst (λ x. LacksRoom (store_of n) x 0 values lack) (sym lacks.node) lacks;
  before = subst (λ x. HaveRoomBefore c values x) (sym lacks.node) before;
}

pub first_told : (c : Cluster) (values : List Value) (k : ℕ) (n : NodeData) (r : Option Lack) → HaveRoomBefore c values k →
    slice_get c.nodes k ≡ Some n → is_some r ≡ true → IfSome r (λ lack. LacksRoom (store_of n) k 0 values lack) → TellsOfAll c values r
first_told c values k n None before is some lacks = absurd cc
first_told c values k n (Some lack) before is some lacks = first_lacks c values k n lack before is lacks

pub none_told : (r : Option Lack) (P : Type 0) → is_some r ≡ false → IfNone r P → P
none_told None P e p = p
none_told (Some lack) P e p = absurd cc

-- ---- a new object

pub made_told : (c : Cluster) (maker : ℕ) (class : ClassNo) (given : List Value) (number : ℕ) (k : ClassRec) (fields : List Value)
    (blocks size : ℕ) (r : Option Lack) → class ≡ Made number → slice_get c.parts.classes number ≡ Some k →
    fields ≡ new_fields given k.fields → size ≡ length fields → blocks ≡ suc (class_blocks class size) → Tells c maker blocks fields r →
    TellsOfMaking c maker class given (class_at c.parts.classes class) r
made_told c maker class given number k fields blocks size r is there are long many told =
    let found : class_at c.parts.classes class ≡ Some k = ap (class_at c.parts.classes) is ∙ there in
    let count : blocks ≡ suc (class_blocks class (length (new_fields given k.fields))) =
    many ∙ ap (λ n. suc (class_blocks class n)) (long ∙ ap length are) in
    subst (λ (x : Option ClassRec). TellsOfMaking c maker class given x r) (sym found)
    (subst (λ n. Tells c maker n (new_fields given k.fields) r) count (subst (λ (vs : List Value). Tells c maker blocks vs r) are told))

-- ---- a new activation

pub start_told : (c : Cluster) (own k : ℕ) (n : NodeData) (op : ℕ) (args : List Value) (t : OperationTable) (vs : List Value)
    (r : Option Lack) → place c own ≡ Some k → slice_get c.nodes k ≡ Some n → slice_get (tables_on c (store_of n).kind) op ≡ Some t →
    vs ≡ first_values t own args → Tells c own 1 vs r → (j : ℕ) (s : Store) (u : OperationTable) → place c own ≡ Some j →
    stores c j ≡ Some s → slice_get (tables_on c s.kind) op ≡ Some u → Tells c own 1 (first_values u own args) r
start_told c own k n op args t vs r at is its are told j s u home there found =
    let same : k ≡ j = same_Some k j (sym at ∙ home) in
    let store : store_of n ≡ s = same_Some (store_of n) s (sym (ap (option_map store_of) is) ∙ ap (stores c) same ∙ there) in
    let table : t ≡ u = same_Some t u (sym its ∙ ap (λ (x : Store). slice_get (tables_on c x.kind) op) store ∙ found) in
    subst (λ (x : OperationTable). Tells c own 1 (first_values x own args) r) table
    (subst (λ (ws : List Value). Tells c own 1 ws r) are told)
