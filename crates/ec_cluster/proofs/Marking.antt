-- A search that keeps the numbers of what it has found is one by marks.
use Rattle.std.proofs.Common.{◌≡◌, ◌≢◌, ℕ, zero, suc, ◌+◌, ◌-◌, ◌<◌, ◌≤◌, ⊎_elim, Bool, true, false, ◌||◌, List, [], ◌∷◌}
use Rattle.std.proofs.Common.{◌++◌, length, drop, Some, None, refl, sym, ap, ◌∙◌, subst, arith}
use Rattle.std.proofs.lemmas.Bool.{cases_lt}
use Rattle.std.proofs.lemmas.Cmp.{ranked}
use Rattle.std.proofs.lemmas.Map.Keys.{below_from_sorted, sorted_tail}
use Rattle.std.proofs.lemmas.Map.Lookups.{exact_unsigned}
use Rattle.std.specs.BTreeSet.{BTreeSet, IsOrdered, IsUnchanged, Updates, contains}
use Rattle.std.specs.BTreeMap.{is_at}
use Rattle.std.specs.List.{list_any}
use Rattle.std.specs.List.Sorted.{IsStrictlySortedBy}
use Rattle.std.specs.Ordering.{MatchOrdering, is_eq, nat_cmp}
use Rattle.std.specs.Prelude.{slice_get, slice_set}
use Rattle.std.specs.declared.cmp.Ordering.{Ordering}
use Rattle.std.specs.declared.cmp.Ordering.TheVariants.{Less, Equal, Greater}
use Rattle.ec_base.proofs.Lists.{drop_at}
use Rattle.ec_cluster.specs.declared.cluster.Cluster.{Cluster}
use Rattle.ec_cluster.specs.Whereabouts.{made_count}
use Rattle.ec_cluster.proofs.Listing.{each-get, each-length, each-one, each-past, each-set}
use Rattle.ec_cluster.specs.Decoded.{decoded_at, seen_common}
use Rattle.ec_cluster.specs.Each.{each_from}
use Rattle.ec_cluster.specs.Searches.{Finds, HasGroup, IsWithin, marks_of}
use Rattle.ec_cluster.specs.declared.seen.searching.Search.{Search}
use Rattle.ec_things.proofs.Put.{same_or_not}
use Rattle.ec_world.proofs.Members.{has_first, has_later, has_none, has_parts}
use Rattle.ec_world.proofs.Rounds.{group_of_same}
use Rattle.ec_world.proofs.Searching.{IsSearch, found_first, found_next, search_done, work_next, work_of}
use Rattle.ec_base.specs.Stack.{below_of, top_of}
use Rattle.ec_world.specs.Group.{Has, IsRising, group_of, links_of, mark_at}
use Rattle.ec_world.specs.Search.{all_found, found_if}

-- ---- numbers in a set

apart : (a b : ℕ) → a ≢ b → is_at (nat_cmp a) b ≡ false
apart a b ne = part (nat_cmp a b) refl
  where
    part : (o : Ordering) → nat_cmp a b ≡ o → is_eq o ≡ false
    part Less e = refl
    part Equal e = absurd (ne (exact_unsigned a b e))
    part Greater e = refl

itself : (a : ℕ) → is_at (nat_cmp a) a ≡ true
itself a = part (nat_cmp a a) (ranked a a (nat_cmp a a) refl)
  where
    part : (o : Ordering) → MatchOrdering o (a < a) (a ≡ a) (a < a) → is_eq o ≡ true
    part Less h = let l : a < a = h in absurd (omega arith)
    part Equal h = refl
    part Greater h = let l : a < a = h in absurd (omega arith)

-- a number is in a set exactly where it is one of its list
in_list : (y : ℕ) (xs : List ℕ) → list_any (is_at (nat_cmp y)) xs ≡ true → Has xs y
in_list y [] e = absurd cc
in_list y (x ∷ xs) e = ⊎_elim
    (λ (q : y ≡ x). subst (λ z. Has (x ∷ xs) z) (sym q) (has_first x xs))
    (λ (ne : y ≢ x). has_later x y xs (in_list y xs (rw (apart y x ne) at e)))
    (same_or_not y x)

listed : (y : ℕ) (xs : List ℕ) → Has xs y → list_any (is_at (nat_cmp y)) xs ≡ true
listed y [] h = absurd (has_none y h)
listed y (x ∷ xs) h = ⊎_elim
    (λ (q : y ≡ x). let a : is_at (nat_cmp y) x ≡ true = subst (λ z. is_at (nat_cmp y) z ≡ true) q (itself y) in rw a refl)
    (λ (k : Has xs y). or_later (is_at (nat_cmp y) x) (list_any (is_at (nat_cmp y)) xs) (listed y xs k))
    (has_parts x y xs h)
  where
    or_later : (a b : Bool) → b ≡ true → (a || b) ≡ true
    or_later true b e = refl
    or_later false b e = e

-- ---- marks

module _ (n : ℕ) (m : BTreeSet ℕ) where
  pub mark_is : (oid : ℕ) → 0 < oid → oid ≤ n → mark_at (marks_of n m) oid ≡ Some (contains nat_cmp m oid)
  mark_is zero p l = absurd (omega arith)
  mark_is (suc i) p l =
      let e : 1 + i ≡ suc i = omega arith in
      each-get (contains nat_cmp m) 1 n i (omega arith) ∙ ap (λ k. Some (contains nat_cmp m k)) e

  pub no_mark : (oid : ℕ) → (0 < oid → oid ≤ n → ⊥) → mark_at (marks_of n m) oid ≡ None
  no_mark zero h = refl
  no_mark (suc i) h = let past : suc i ≤ n → ⊥ = h (omega arith) in each-past (contains nat_cmp m) 1 n i (omega arith)

  mark_in : (oid : ℕ) → mark_at (marks_of n m) oid ≡ Some true → contains nat_cmp m oid ≡ true
  mark_in zero e = absurd cc
  mark_in (suc i) e = ⊎_elim
      (λ (l : i < n). let is = mark_is (suc i) (omega arith) (omega arith) in
      let b : Some (contains nat_cmp m (suc i)) ≡ Some true = sym is ∙ e in cc)
      (λ (l : n ≤ i). let none = each-past (contains nat_cmp m) 1 n i l in absurd cc)
      (cases_lt i n)

module _ (n oid : ℕ) (m m' : BTreeSet ℕ) (positive : 0 < oid) (inside : oid ≤ n) (updates : Updates nat_cmp m m' oid true) where
  marks_set : marks_of n m' ≡ slice_set (marks_of n m) (oid - 1) true
  marks_set =
      let at : 1 + (oid - 1) ≡ oid = omega arith in
      each-set (contains nat_cmp m) (contains nat_cmp m') true 1 n (oid - 1) (omega arith)
      (ap (contains nat_cmp m') at ∙ updates.1)
      (λ j ne. updates.2 j (apart oid j (λ e. ne (sym e ∙ sym at))))

  pub one_more : (todo todo' : List ℕ) → contains nat_cmp m oid ≡ false → todo' ≡ todo ++ oid ∷ [] →
      Finds n (record { members = m; todo = todo }) (record { members = m'; todo = todo' }) (oid ∷ [])
  one_more todo todo' absent more = record {
    is =
        let mark : mark_at (marks_of n m) oid ≡ Some false = mark_is n m oid positive inside ∙ ap Some absent in
        ap (found_if (record { marks = marks_of n m; todo = todo }) oid) mark
        ∙ ap (λ (bs : List Bool). found_if (record { marks = bs; todo = todo ++ oid ∷ [] }) oid None) (sym marks_set)
        ∙ ap (λ (os : List ℕ). found_if (record { marks = marks_of n m'; todo = os }) oid None) (sym more);
    within = λ w. record {
      each = λ y e. ⊎_elim
          (λ (q : y ≡ oid). (omega (arith, positive, q), omega (arith, inside, q)))
          (λ (ne : y ≢ oid). w.each y (sym (updates.2 y (apart oid y (λ q. ne (sym q)))) ∙ e))
          (same_or_not y oid);
    };
  }

-- a number that is there already
pub as_before : (n oid : ℕ) (m m' : BTreeSet ℕ) (todo todo' : List ℕ) → IsUnchanged m m' → todo' ≡ todo →
    contains nat_cmp m oid ≡ true → 0 < oid → oid ≤ n →
    Finds n (record { members = m; todo = todo }) (record { members = m'; todo = todo' }) (oid ∷ [])
as_before n oid m m' todo todo' same still there p l = record {
  is =
      let mark : mark_at (marks_of n m) oid ≡ Some true = mark_is n m oid p l ∙ ap Some there in
      ap (found_if (record { marks = marks_of n m; todo = todo }) oid) mark
      ∙ ap (λ (ks : List ℕ). found_if (record { marks = each_from (λ q. list_any (is_at (nat_cmp q)) ks) 1 n; todo = todo }) oid None)
      (sym same)
      ∙ ap (λ (os : List ℕ). found_if (record { marks = marks_of n m'; todo = os }) oid None) (sym still);
  within = λ w. record { each = λ y e. w.each y (sym (ap (λ (ks : List ℕ). list_any (is_at (nat_cmp y)) ks) same) ∙ e) };
}

-- a number of no object
pub no_object : (n oid : ℕ) (s : Search) → (0 < oid → oid ≤ n → ⊥) → Finds n s s (oid ∷ [])
no_object n oid s h = record {
  is = ap (found_if (record { marks = marks_of n s.members; todo = s.todo }) oid) (no_mark n s.members oid h);
  within = λ w. w;
}

-- ---- a search over a list

-- those that are left are found, after one more
pub left_found : (ms ns : List Bool) (todo todo' zs : List ℕ) (i x : ℕ) → slice_get zs i ≡ Some x →
    all_found (record { marks = ms; todo = todo }) (x ∷ []) ≡ record { marks = ns; todo = todo' } →
    all_found (record { marks = ns; todo = todo' }) (drop (i + 1) zs) ≡ all_found (record { marks = ms; todo = todo }) (drop i zs)
left_found ms ns todo todo' zs i x e r = rw (← r, drop_at zs i x e) refl

-- the search goes on over the numbers from place i on
pub record FindsOn (n : ℕ) (s now : Search) (oids : List ℕ) (i : ℕ) : Type 0 where
  pub is : all_found (record { marks = marks_of n now.members; todo = now.todo }) (drop i oids) ≡ all_found (record {
    marks = marks_of n s.members;
    todo = s.todo;
  }) oids
  pub within : IsWithin n s.members → IsWithin n now.members

pub finds_first : (n : ℕ) (s : Search) (oids : List ℕ) → FindsOn n s s oids 0
finds_first n s oids = record { is = refl; within = λ w. w }

pub finds_next : (n : ℕ) (s now next : Search) (oids : List ℕ) (i x : ℕ) → slice_get oids i ≡ Some x → FindsOn n s now oids i →
    Finds n now next (x ∷ []) → FindsOn n s next oids (i + 1)
finds_next n s now next oids i x e h f = record {
  is = left_found (marks_of n now.members) (marks_of n next.members) now.todo next.todo oids i x e f.is ∙ h.is;
  within = λ w. f.within (h.within w);
}

drop_past : (xs : List ℕ) (i : ℕ) → length xs ≤ i → drop i xs ≡ []
drop_past [] zero l = refl
drop_past [] (suc i) l = refl
drop_past (x ∷ xs) zero l = absurd (omega arith)
drop_past (x ∷ xs) (suc i) l = drop_past xs i (omega arith)

pub finds_all : (n : ℕ) (s now : Search) (oids : List ℕ) (i : ℕ) → length oids ≤ i → FindsOn n s now oids i → Finds n s now oids
finds_all n s now oids i l h = record {
  is =
      sym h.is ∙ ap (λ (zs : List ℕ). all_found (record { marks = marks_of n now.members; todo = now.todo }) zs) (drop_past oids i l);
  within = h.within;
}

-- ---- a whole search

-- the search finds members of a group among the objects of nodes
pub record Searches (c : Cluster) (x : ℕ) (s : Search) : Type 0 where
  pub is : IsSearch (seen_common c) x (record { marks = marks_of (made_count c.whereabouts) s.members; todo = s.todo })
  pub within : IsWithin (made_count c.whereabouts) s.members

pub search_begun : (c : Cluster) (x : ℕ) (s t : Search) → s.members.keys ≡ [] → s.todo ≡ [] →
    Finds (made_count c.whereabouts) s t (x ∷ []) → Searches c x t
search_begun c x s t none nothing finds =
    let n = made_count c.whereabouts in
    let lacks : (y : ℕ) → contains nat_cmp s.members y ≡ false = λ y. ap (λ (ks : List ℕ). list_any (is_at (nat_cmp y)) ks) none in
    record {
      is =
          found_first (seen_common c) x n (record { marks = marks_of n s.members; todo = s.todo })
          (record { marks = marks_of n t.members; todo = t.todo }) (sym (each-length (decoded_at c) 1 n))
          (each-one (contains nat_cmp s.members) false 1 n lacks) nothing (sym finds.is);
      within = finds.within (record { each = λ y e. absurd (let f = lacks y in cc) });
    }

-- what lay on top is done
pub search_more : (c : Cluster) (x y : ℕ) (s t u : Search) (links : List ℕ) → Searches c x s → Some y ≡ top_of s.todo →
    t.members ≡ s.members → t.todo ≡ below_of s.todo → links ≡ links_of (seen_common c) y →
    Finds (made_count c.whereabouts) t u links → Searches c x u
search_more c x y s t u links h top same below are finds =
    let n = made_count c.whereabouts in
    let follows =
    ap (λ (zs : List ℕ). all_found (record { marks = marks_of n s.members; todo = t.todo }) zs) (sym are)
    ∙ ap (λ (m : BTreeSet ℕ). all_found (record { marks = marks_of n m; todo = t.todo }) links) (sym same)
    ∙ finds.is in
    record {
      is =
          found_next (seen_common c) x y (record { marks = marks_of n s.members; todo = s.todo })
          (record { marks = marks_of n u.members; todo = u.todo }) t.todo h.is top below (sym follows);
      within = finds.within (subst (λ (m : BTreeSet ℕ). IsWithin n m) (sym same) h.within);
    }

-- how much is left to be done
abbrev pub work : ℕ → Search → ℕ
work n s = work_of (record { marks = marks_of n s.members; todo = s.todo })

pub work_less : (n y : ℕ) (s t u : Search) (links : List ℕ) → Some y ≡ top_of s.todo → t.members ≡ s.members → t.todo ≡ below_of s.todo →
    Finds n t u links → work n u < work n s
work_less n y s t u links top same below finds =
    let follows =
    ap (λ (m : BTreeSet ℕ). all_found (record { marks = marks_of n m; todo = t.todo }) links) (sym same) ∙ finds.is in
    work_next (record { marks = marks_of n s.members; todo = s.todo }) (record { marks = marks_of n u.members; todo = u.todo }) y t.todo
    links top below (sym follows)

pub search_ended : (c : Cluster) (x : ℕ) (s : Search) → Searches c x s → None ≡ top_of s.todo → HasGroup c x s.members
search_ended c x s h e =
    let n = made_count c.whereabouts in
    let g = search_done (seen_common c) x (record { marks = marks_of n s.members; todo = s.todo }) h.is e in
    record {
      each = λ y. (
        λ k. (let w = h.within.each y k in (g.each y).0 (mark_is n s.members y w.0 w.1 ∙ ap Some k)),
        λ i. mark_in n s.members y ((g.each y).1 i),
      );
    }

-- ---- the members in order

rises : (xs : List ℕ) → IsStrictlySortedBy nat_cmp xs → IsRising xs
rises [] s = tt
rises (x ∷ []) s = tt
rises (x ∷ y ∷ ys) s =
    (below_from_sorted (x ∷ y ∷ ys) 0 1 0 s (omega arith) (omega arith), rises (y ∷ ys) (sorted_tail nat_cmp x (y ∷ ys) s))

pub group_listed : (c : Cluster) (x : ℕ) (m : BTreeSet ℕ) → HasGroup c x m → IsOrdered nat_cmp m → m.keys ≡ group_of (seen_common c) x
group_listed c x m h ordered = group_of_same (seen_common c) x m.keys (record {
  rising = rises m.keys ordered;
  each = λ y. (λ k. (h.each y).0 (listed y m.keys k), λ i. in_list y m.keys ((h.each y).1 i));
})
