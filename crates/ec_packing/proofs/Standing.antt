-- The activations on members, in their order: what goes of them, one after another, is what goes of all processes.
use Rattle.std.proofs.Common.{◌≡◌, ◌<◌, ◌⊎◌, ◌↔◌, ℕ, Bool, true, false, true≢false, List, [], ◌∷◌, ◌++◌, length, Option, Some, None, Result, Ok, Err, IfOk, Vec, refl, sym, ap, ◌∙◌}
use Rattle.std.proofs.Common.{subst, arith, inl, inr, ⊎_elim}
use Rattle.std.proofs.lemmas.Option.{same_Some}
use Rattle.std.specs.BTreeMap.{is_at}
use Rattle.std.specs.BTreeSet.{BTreeSet, Updates, contains}
use Rattle.std.specs.List.{AllByRecursion, flat_map, list_any}
use Rattle.std.specs.List.Sorted.{IsStrictlySortedBy}
use Rattle.std.specs.Ordering.{nat_cmp, ordering_then}
use Rattle.std.specs.Prelude.{IsSome, is_some, option_map, slice_get}
use Rattle.std.specs.declared.cmp.Ordering.{Ordering}
use Rattle.std.specs.declared.cmp.Ordering.TheVariants.{Less, Equal, Greater}
use Rattle.ec_cluster.proofs.Putting.{shown_there}
use Rattle.ec_cluster.specs.Cluster.{CodeWorld, frame_of, stores}
use Rattle.ec_cluster.specs.Images.{homes_on}
use Rattle.ec_cluster.specs.Frames.{tables_on}
use Rattle.ec_cluster.specs.declared.cluster.Cluster.{Cluster}
use Rattle.ec_code.specs.Typing.{Declared}
use Rattle.ec_code.specs.declared.activation.CodeActivation.{CodeActivation}
use Rattle.ec_code.specs.declared.code.Parts.{Parts}
use Rattle.ec_machine_code.specs.declared.homes.Home.{Home}
use Rattle.ec_parcels.specs.Activations.{Leaves, activation_part_of}
use Rattle.ec_generate.specs.declared.table.OperationTable.{OperationTable}
use Rattle.ec_generate.specs.declared.table.StopEntry.{StopEntry}
use Rattle.ec_world.specs.declared.node.Kind.{Kind}
use Rattle.ec_parcels.specs.Classes.{ClassTable}
use Rattle.ec_world.specs.Things.{activation_at}
use Rattle.ec_world.specs.declared.key.Key.TheVariants.{Frame}
use Rattle.ec_packing.proofs.ActivationParts.{activation_parts, activations_sorted, part_from, sorted_part, source}
use Rattle.ec_packing.proofs.Frames.{activation, entry, is_of, leaves_by, part_is, shown}
use Rattle.ec_packing.proofs.Joining.{has_joined, has_up_to, joined_has, up_to_has}
use Rattle.ec_packing.proofs.Rules.{ActivationBefore}
use Rattle.ec_packing.proofs.Searching.{has_is_in}
use Rattle.ec_packing.proofs.Sorting.{Sorted, sorted_over}
use Rattle.ec_packing.specs.Packing.{CanGo, activation_goes, activation_if, depths_if, process_goes, up_to}
use Rattle.ec_packing.specs.Standing.{AreOnMembers, AreOnOneMore, IsFound, IsOnMember}
use Rattle.ec_parcels.specs.Parcels.{ActivationGoes}
use Rattle.ec_stores.proofs.Standing.{any_has, has_any_frame, same_frame}
use Rattle.ec_stores.specs.Changes.{HasOn, StandsOn}
use Rattle.ec_stores.specs.Node.{NodeData, store_of}
use Rattle.ec_stores.specs.Tables.{frame_cmp}
use Rattle.ec_cluster.specs.declared.system.System.{System}
use Rattle.ec_things.specs.Store.{Owned, Store}
use Rattle.ec_things.specs.Things.{Shown, frame_if}
use Rattle.ec_wire.specs.declared.parcel.ActivationPart.{ActivationPart}
use Rattle.ec_base.proofs.Lists.{get_within}
use Rattle.ec_world.proofs.Members.{has_back, has_either, has_first, has_front, has_later, has_none, has_one, has_parts}
use Rattle.ec_world.specs.Group.{Has}

-- ---- lists in order with the same items are the same

module _ {A : Type 0} (Before : A → A → Type 0) (one_way : (x y : A) → Before x y → Before y x → ⊥) where
  pub same_sorted : (xs ys : List A) → Sorted Before xs → Sorted Before ys → ((x : A) → Has xs x → Has ys x) →
      ((x : A) → Has ys x → Has xs x) → xs ≡ ys
  same_sorted [] [] s t to from = refl
  same_sorted [] (y ∷ ys) s t to from = absurd (has_none y (from y (has_first y ys)))
  same_sorted (x ∷ xs) [] s t to from = absurd (has_none x (to x (has_first x xs)))
  same_sorted (x ∷ xs) (y ∷ ys) s t to from =
      ap (λ (z : A). z ∷ xs) heads ∙ ap (λ (zs : List A). y ∷ zs) (same_sorted xs ys s.1 t.1 down up)
    where
      heads : x ≡ y
      heads = ⊎_elim
          (λ (e : x ≡ y). e)
          (λ (h : Has ys x). ⊎_elim
          (λ (e : y ≡ x). sym e)
          (λ (g : Has xs y). absurd (one_way x y (s.0 y g) (t.0 x h)))
          (has_parts x y xs (from y (has_first y ys))))
          (has_parts y x ys (to x (has_first x xs)))

      down : (z : A) → Has xs z → Has ys z
      down z h = ⊎_elim
          (λ (e : z ≡ y).
          let b : Before x x = subst (λ (u : A). Before x u) (e ∙ sym heads) (s.0 z h) in absurd (one_way x x b b))
          (λ (k : Has ys z). k)
          (has_parts y z ys (to z (has_later x z xs h)))

      up : (z : A) → Has ys z → Has xs z
      up z h = ⊎_elim
          (λ (e : z ≡ x).
          let b : Before y y = subst (λ (u : A). Before y u) (e ∙ heads) (t.0 z h) in absurd (one_way y y b b))
          (λ (k : Has xs z). k)
          (has_parts x z xs (from z (has_later y z ys h)))

-- ---- keys in order

abbrev pub KeyBefore : ℕ × ℕ → ℕ × ℕ → Type 0
KeyBefore a b = (a.0 < b.0) ⊎ ((a.0 ≡ b.0) × (a.1 < b.1))

less_before : (a b : ℕ × ℕ) → frame_cmp a b ≡ Less → KeyBefore a b
less_before (p, d) (q, e) is = by (nat_cmp p q) refl is
  where
    less : (m n : ℕ) → nat_cmp m n ≡ Less → m < n
    less m n h = grind (arith, h)

    equal : (m n : ℕ) → nat_cmp m n ≡ Equal → m ≡ n
    equal m n h = grind (arith, h)

    by : (x : Ordering) → nat_cmp p q ≡ x → ordering_then x (nat_cmp d e) ≡ Less → KeyBefore (p, d) (q, e)
    by Less h g = inl (less p q h)
    by Equal h g = inr (equal p q h, less d e g)
    by Greater h g = cc

each_before : (k : ℕ × ℕ) (ks : List (ℕ × ℕ)) → AllByRecursion (λ y. frame_cmp k y ≡ Less) ks → (y : ℕ × ℕ) → Has ks y → KeyBefore k y
each_before k [] all y h = absurd (has_none y h)
each_before k (x ∷ xs) all y h = ⊎_elim
    (λ (e : y ≡ x). subst (λ (z : ℕ × ℕ). KeyBefore k z) (sym e) (less_before k x all.0))
    (λ (g : Has xs y). each_before k xs all.1 y g)
    (has_parts x y xs h)

pub keys_sorted : (ks : List (ℕ × ℕ)) → IsStrictlySortedBy frame_cmp ks → Sorted KeyBefore ks
unfolding IsStrictlySortedBy
keys_sorted [] s = tt
keys_sorted (k ∷ ks) s = (each_before k ks s.0, keys_sorted ks s.1)

-- ---- what is found

-- one more is found
pub one_found : (old new : BTreeSet (ℕ × ℕ)) (k : ℕ × ℕ) → Updates frame_cmp old new k true → (at : ℕ × ℕ) →
    IsFound new at ↔ (IsFound old at ⊎ (at ≡ k))
one_found old new (p, d) updates at = by (is_at (frame_cmp (p, d)) at) refl
  where
    by : (b : Bool) → is_at (frame_cmp (p, d)) at ≡ b → IsFound new at ↔ (IsFound old at ⊎ (at ≡ (p, d)))
    by true e =
        let same : (p, d) ≡ at = same_frame (p, d) at e in (
          λ h. inr (sym same),
          λ h. subst (λ (k : ℕ × ℕ). IsFound new k) same updates.1,
        )
    by false e = (
      λ h. inl (sym (updates.2 at e) ∙ h),
      λ h. ⊎_elim
          (λ (g : IsFound old at). updates.2 at e ∙ g)
          (λ (same : at ≡ (p, d)).
          let t = ap (is_at (frame_cmp (p, d))) same in
          updates.2 at e ∙ absurd (true≢false (sym (itself p d) ∙ sym t ∙ e)))
          h,
    )
      where
        itself : (m n : ℕ) → is_at (frame_cmp (m, n)) (m, n) ≡ true
        itself m n = grind arith

-- those on the first members are found
abbrev pub AreFound : Store → List ℕ → BTreeSet (ℕ × ℕ) → Type 0
AreFound s members found = (at : ℕ × ℕ) → IsFound found at ↔ IsOnMember s members at

pub none_found : (s : Store) (found : BTreeSet (ℕ × ℕ)) → found.keys ≡ [] → AreFound s [] found
none_found s found none at = (
  λ h.
      let lacks : contains frame_cmp found at ≡ false = ap (λ (ks : List (ℕ × ℕ)). list_any (is_at (frame_cmp at)) ks) none in
      absurd (true≢false (sym h ∙ lacks)),
  λ h. absurd (has_none h.oid h.member),
)

pub more_found : (s : Store) (xs : List ℕ) (x : ℕ) (ys : List ℕ) (old new : BTreeSet (ℕ × ℕ)) → ys ≡ xs ++ x ∷ [] → AreFound s xs old →
    AreOnOneMore s x old new → AreFound s ys new
more_found s xs x ys old new is found one at = (
  λ h. ⊎_elim
      (λ (g : IsFound old at). let z = (found at).0 g in
      record { oid = z.oid; member = subst (λ (l : List ℕ). Has l z.oid) (sym is) (has_front z.oid xs (x ∷ []) z.member); stands = z.stands })
      (λ (g : StandsOn s at.0 at.1 x).
      record { oid = x; member = subst (λ (l : List ℕ). Has l x) (sym is) (has_back x xs (x ∷ []) (has_first x [])); stands = g })
      ((one at).0 h),
  λ h. (one at).1 (⊎_elim
      (λ (g : Has xs h.oid). inl ((found at).1 (record { oid = h.oid; member = g; stands = h.stands })))
      (λ (g : Has (x ∷ []) h.oid). inr (subst (λ n. StandsOn s at.0 at.1 n) (has_one x h.oid g) h.stands))
      (has_either h.oid xs (x ∷ []) (subst (λ (l : List ℕ). Has l h.oid) is h.member))),
)

pub all_found : (s : Store) (members : List ℕ) (found : BTreeSet (ℕ × ℕ)) → AreFound s members found →
    IsStrictlySortedBy frame_cmp found.keys → AreOnMembers s members found.keys
all_found s members found are ordered = record {
  each = λ at h. (are at).0 (has_any_frame at found.keys h);
  all = λ at h.
      let z = any_has (is_at (frame_cmp at)) found.keys ((are at).1 h) in
      subst (λ (k : ℕ × ℕ). Has found.keys k) (sym (same_frame at z.0 z.2)) z.1;
  ordered = ordered;
}

-- those of a list have been found too
abbrev pub AreFirst : List (ℕ × ℕ) → BTreeSet (ℕ × ℕ) → BTreeSet (ℕ × ℕ) → Type 0
AreFirst standing old new = (at : ℕ × ℕ) → IsFound new at ↔ (IsFound old at ⊎ Has standing at)

pub none_first : (found : BTreeSet (ℕ × ℕ)) → AreFirst [] found found
none_first found at = (λ h. inl h, λ h. ⊎_elim (λ (g : IsFound found at). g) (λ (g : Has [] at). absurd (has_none at g)) h)

pub more_first : (xs ys : List (ℕ × ℕ)) (k : ℕ × ℕ) (old now new : BTreeSet (ℕ × ℕ)) → ys ≡ xs ++ k ∷ [] →
    AreFirst xs old now → Updates frame_cmp now new k true → AreFirst ys old new
more_first xs ys k old now new is first updates at =
    let one = one_found now new k updates at in (
      λ h. ⊎_elim
          (λ (g : IsFound now at). ⊎_elim
          (λ (was : IsFound old at). inl was)
          (λ (front : Has xs at). inr (subst (λ (l : List (ℕ × ℕ)). Has l at) (sym is) (has_front at xs (k ∷ []) front)))
          ((first at).0 g))
          (λ (same : at ≡ k).
          inr (subst (λ (l : List (ℕ × ℕ)). Has l at) (sym is)
          (has_back at xs (k ∷ []) (subst (λ (j : ℕ × ℕ). Has (k ∷ []) j) (sym same) (has_first k [])))))
          (one.0 h),
      λ h. one.1 (⊎_elim
          (λ (was : IsFound old at). inl ((first at).1 (inl was)))
          (λ (g : Has ys at). ⊎_elim
          (λ (front : Has xs at). inl ((first at).1 (inr front)))
          (λ (back : Has (k ∷ []) at). inr (has_one k at back))
          (has_either at xs (k ∷ []) (subst (λ (l : List (ℕ × ℕ)). Has l at) is g)))
          h),
    )

pub some_found : (s : Store) (oid : ℕ) (standing : List (ℕ × ℕ)) (old new : BTreeSet (ℕ × ℕ)) → HasOn s oid standing →
    AreFirst standing old new → AreOnOneMore s oid old new
some_found s oid standing old new has found at = (
  λ h. ⊎_elim (λ (g : IsFound old at). inl g) (λ (g : Has standing at). inr ((has.these at).0 g)) ((found at).0 h),
  λ h. (found at).1 (⊎_elim (λ (g : IsFound old at). inl g) (λ (g : StandsOn s at.0 at.1 oid). inr ((has.these at).1 g)) h),
)

pub items_if : {X E : Type 0} (s : Store) (members : List ℕ) (found : BTreeSet (ℕ × ℕ)) (r : Result (Vec (ℕ × ℕ) X) E) →
    AreOnMembers s members found.keys → IfOk r (λ v. v.items ≡ found.keys) → IfOk r (λ v. AreOnMembers s members v.items)
items_if s members found (Ok v) are is = subst (λ (ks : List (ℕ × ℕ)). AreOnMembers s members ks) (sym is) are
items_if s members found (Err e) are is = tt

-- ---- what goes

pub is_row : (n : NodeData) (members : List ℕ) (p depth : ℕ) → IsOnMember (store_of n) members (p, depth) →
    IsSome ((store_of n).row (Frame p depth))
is_row n members p depth on = ap is_some on.stands.there

module _ (s : System) (members : List ℕ) (from p depth : ℕ) (n : NodeData) (is : slice_get s.cluster.nodes from ≡ Some n)
    (on : IsOnMember (store_of n) members (p, depth)) (tables : List OperationTable)
    (its : tables ≡ tables_on s.cluster (store_of n).kind) where
  pub part_goes : {E : Type 0} (r : Result ActivationPart E) →
      ((d : Declared) (q : Parts) (homes : Kind → List (List Home)) (a : CodeActivation) (e : StopEntry) →
      Leaves (store_of n) tables p depth d q homes a e → IfOk r (λ part. part ≡ activation_part_of p depth q a e)) →
      IfOk r (λ part. (d : Declared) (w : CodeWorld) (table : ClassTable) → CanGo d s w table members from →
      activation_goes s.cluster w members from p depth ≡ part ∷ [])
  part_goes (Err e) is_part = tt
  part_goes (Ok part) is_part = λ d w table can.
      let row = is_row n members p depth on in
      let a = activation d s w table members from can p depth n is row in
      let e = entry d s w table members from can p depth n is row in
      let own : a.own ≡ on.oid =
      sym (ap (λ (r : Owned). r.home) (same_Some on.stands.row (shown d s w table members from can p depth n is row).row
      (sym on.stands.there ∙ (shown d s w table members from can p depth n is row).there))
      ∙ (shown d s w table members from can p depth n is row).spells.home)
      ∙ on.stands.home in
      part_is d s w table members from can p depth n is row (has_is_in a.own members (subst (λ o. Has members o) (sym own) on.member))
      ∙ ap (λ (x : ActivationPart). x ∷ [])
      (sym (is_part d s.cluster.parts (homes_on s.cluster.images) a e (leaves_by d s w table members from can p depth n is row tables its)))

module _ (d : Declared) (s : System) (w : CodeWorld) (table : ClassTable) (members : List ℕ) (from : ℕ)
    (can : CanGo d s w table members from) where
  abbrev c : Cluster
  c = s.cluster

  abbrev pub goes_at : ℕ × ℕ → List ActivationPart
  goes_at at = activation_goes c w members from at.0 at.1

  one_way : (x y : ActivationPart) → ActivationBefore x y → ActivationBefore y x → ⊥
  one_way x y a b = ⊎_elim
      (λ (l : x.process < y.process). ⊎_elim
      (λ (k : y.process < x.process). omega arith)
      (λ (k : (y.process ≡ x.process) × (y.depth < x.depth)). omega (arith, k.0))
      b)
      (λ (l : (x.process ≡ y.process) × (x.depth < y.depth)). ⊎_elim
      (λ (k : y.process < x.process). omega (arith, l.0))
      (λ (k : (y.process ≡ x.process) × (y.depth < x.depth)). omega (arith, l.1, k.1))
      b)
      a

  goes_apart : (j k : ℕ × ℕ) (x y : ActivationPart) → KeyBefore j k → Has (goes_at j) x → Has (goes_at k) y → ActivationBefore x y
  goes_apart j k x y before h g =
      let a = part_from c w members from j.0 j.1 x h in
      let b = part_from c w members from k.0 k.1 y g in
      ⊎_elim
      (λ (l : j.0 < k.0). inl (omega (arith, a.0, b.0)))
      (λ (l : (j.0 ≡ k.0) × (j.1 < k.1)). inr (a.0 ∙ l.0 ∙ sym b.0, omega (arith, a.1, b.1, l.1)))
      before

  module _ (n : NodeData) (is : slice_get c.nodes from ≡ Some n) (keys : List (ℕ × ℕ)) (on : AreOnMembers (store_of n) members keys) where
    stands : stores c from ≡ Some (store_of n)
    stands = ap (option_map store_of) is

    -- an activation that goes is found
    found : (p depth : ℕ) (a : CodeActivation) → ActivationGoes c w members from p depth a → Has keys (p, depth)
    found p depth a goes =
        let shown : Shown (store_of n) (Frame p depth) (frame_of c p depth a) =
        shown_there c w from (store_of n) (Frame p depth) (frame_of c p depth a) can.runs.mirrors.shows
        (ap (frame_if (frame_of c) p depth) goes.is) goes.at stands in
        on.all (p, depth) (record {
          oid = a.own;
          member = goes.member;
          stands = record { row = shown.row; there = shown.there; home = shown.spells.home };
        })

    to : (x : ActivationPart) → Has (flat_map goes_at keys) x → Has (activation_parts d s w table members from can) x
    to x h =
        let z = has_joined goes_at keys x h in
        let f = part_from c w members from z.0.0 z.0.1 x z.1.1 in
        by z.0.0 z.0.1 (activation_at w.processes z.0.0 z.0.1) refl z.1.1
      where
        by : (p depth : ℕ) (q : Option CodeActivation) → activation_at w.processes p depth ≡ q → Has (goes_at (p, depth)) x →
            Has (activation_parts d s w table members from can) x
        by p depth None e g =
            absurd (has_none x (subst (λ (xs : List ActivationPart). Has xs x) (ap (activation_if c w members from p depth) e) g))
        by p depth (Some a) e g =
            let o = is_of w.processes p depth a e in
            let deep : depth < depths_if (slice_get w.processes p) =
            subst (λ m. depth < m) (sym (ap depths_if o.is_proc)) (get_within o.proc.activations depth a o.there) in
            up_to_has (process_goes c w members from) (length w.processes) p x (get_within w.processes p o.proc o.is_proc)
            (up_to_has (activation_goes c w members from p) (depths_if (slice_get w.processes p)) depth x deep g)

    from_all : (x : ActivationPart) → Has (activation_parts d s w table members from can) x → Has (flat_map goes_at keys) x
    from_all x h =
        let p = has_up_to (process_goes c w members from) (length w.processes) x h in
        let z = has_up_to (activation_goes c w members from p.0) (depths_if (slice_get w.processes p.0)) x p.1.1 in
        let from_it = part_from c w members from p.0 z.0 x z.1.1 in
        let src = source d s w table members from can x h in
        let key = found x.process x.depth src.activation src.part_is.goes in
        joined_has goes_at keys (x.process, x.depth) x key
        (subst (λ m. Has (activation_goes c w members from x.process m) x) (sym from_it.1)
        (subst (λ m. Has (activation_goes c w members from m z.0) x) (sym from_it.0) z.1.1))

    pub those_go : flat_map goes_at keys ≡ up_to (process_goes c w members from) (length w.processes)
    those_go = same_sorted ActivationBefore one_way (flat_map goes_at keys) (activation_parts d s w table members from can)
        (sorted_over KeyBefore ActivationBefore goes_at (λ k. sorted_part c w members from k.0 k.1) goes_apart keys
        (keys_sorted keys on.ordered))
        (activations_sorted d s w table members from can) to from_all
