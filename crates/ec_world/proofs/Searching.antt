-- A search along attached fields finds the whole group.
use Rattle.std.proofs.Common.{◌≡◌, ℕ, zero, suc, ◌+◌, ◌-◌, ◌<◌, ◌≤◌, min, ◌⊎◌, inl, inr, ⊎_elim, Bool, true, false, List, [], ◌∷◌}
use Rattle.std.proofs.Common.{◌++◌, length, drop, replicate, Option, Some, None, refl, sym, ap, ◌∙◌, arith, append_assoc}
use Rattle.std.proofs.Common.{length-append, if◌then◌else◌}
use Rattle.std.specs.Prelude.{slice_get, slice_set, IsSome}
use Rattle.ec_base.specs.Stack.{top_of, below_of}
use Rattle.ec_base.proofs.Lists.{length_set, get_there, drop_at}
use Rattle.ec_base.proofs.Stacks.{stack_parts, top_of_none}
use Rattle.ec_world.specs.declared.value.Value.{Value}
use Rattle.ec_world.specs.declared.value.Value.TheVariants.{Int, Str, Ref, Nil, Bool as Truth}
use Rattle.ec_world.specs.declared.class.FieldRec.{FieldRec}
use Rattle.ec_world.specs.declared.group.Search.{Search}
use Rattle.ec_world.specs.declared.common.Common.{Common}
use Rattle.ec_world.specs.Objects.{object_at}
use Rattle.ec_world.specs.Group.{Has, InGroup, MarksGroup, link_of, links_in, links_of, mark_at, marked_from}
use Rattle.ec_world.specs.Group.InGroup.{Itself, Linked}
use Rattle.ec_world.specs.Search.{found_if, found, all_found}
use Rattle.ec_world.proofs.Members.{has_none, has_first, has_parts, has_one, has_front, has_back, has_either, object_within}
use Rattle.ec_world.proofs.Members.{within_object, mark_within}
use Rattle.ec_world.proofs.Rounds.{MarksSome, closed_group, unmarked}

-- ---- the links in fields, one by one

link_if : (s : Search) (b : Bool) (o : ℕ) (rest : List ℕ) →
    all_found (all_found s (if b then o ∷ [] else [])) rest ≡ all_found s (if b then o ∷ rest else rest)
link_if s true o rest = refl
link_if s false o rest = refl

link_first : (s : Search) (f : FieldRec) (v : Value) (rest : List ℕ) →
    all_found (all_found s (link_of f v [])) rest ≡ all_found s (link_of f v rest)
link_first s f (Ref o) rest = link_if s f.attached o rest
link_first s f (Int z) rest = refl
link_first s f (Truth b) rest = refl
link_first s f (Str t) rest = refl
link_first s f Nil rest = refl

pub links_next : (s t : Search) (fs : List FieldRec) (vs : List Value) (i : ℕ) (f : FieldRec) (v : Value) →
    slice_get fs i ≡ Some f → slice_get vs i ≡ Some v → t ≡ all_found s (link_of f v []) →
    all_found t (links_in (drop (i + 1) fs) (drop (i + 1) vs)) ≡ all_found s (links_in (drop i fs) (drop i vs))
links_next s t fs vs i f v d e r =
    rw (r, drop_at fs i f d, drop_at vs i v e) (link_first s f v (links_in (drop (i + 1) fs) (drop (i + 1) vs)))

links_none : (fs : List FieldRec) → links_in fs [] ≡ []
links_none [] = refl
links_none (f ∷ fs) = refl

links_past : (fs : List FieldRec) (vs : List Value) (i : ℕ) → min (length fs) (length vs) ≤ i → links_in (drop i fs) (drop i vs) ≡ []
links_past [] vs zero h = refl
links_past [] vs (suc i) h = refl
links_past (f ∷ fs) [] zero h = refl
links_past (f ∷ fs) [] (suc i) h = links_none (drop i fs)
links_past (f ∷ fs) (v ∷ vs) zero h = absurd (omega arith)
links_past (f ∷ fs) (v ∷ vs) (suc i) h = links_past fs vs i (omega arith)

pub links_over : (s : Search) (fs : List FieldRec) (vs : List Value) (i : ℕ) → min (length fs) (length vs) ≤ i →
    all_found s (links_in (drop i fs) (drop i vs)) ≡ s
links_over s fs vs i h = rw (links_past fs vs i h) refl

-- ---- the numbers of marks, one by one

pub marked_next : (xs ys : List ℕ) (ms : List Bool) (i : ℕ) → slice_get ms i ≡ Some true → ys ≡ xs ++ (i + 1) ∷ [] →
    ys ++ marked_from (i + 1 + 1) (drop (i + 1) ms) ≡ xs ++ marked_from (i + 1) (drop i ms)
marked_next xs ys ms i e r =
    let s : i + 1 + 1 ≡ suc (i + 1) = omega arith in
    rw (r, drop_at ms i true e, s) (append_assoc xs ((i + 1) ∷ []) (marked_from (suc (i + 1)) (drop (i + 1) ms)))

pub unmarked_next : (xs : List ℕ) (ms : List Bool) (i : ℕ) → slice_get ms i ≡ Some false →
    xs ++ marked_from (i + 1 + 1) (drop (i + 1) ms) ≡ xs ++ marked_from (i + 1) (drop i ms)
unmarked_next xs ms i e =
    let s : i + 1 + 1 ≡ suc (i + 1) = omega arith in
    rw (drop_at ms i false e, s) refl

-- ---- setting a mark

set_same : (ms : List Bool) (i : ℕ) (m : Bool) → slice_get ms i ≡ Some m → slice_get (slice_set ms i true) i ≡ Some true
set_same [] i m e = cc
set_same (n ∷ ms) zero m e = refl
set_same (n ∷ ms) (suc i) m e = set_same ms i m e

set_kept : (ms : List Bool) (i j : ℕ) → slice_get ms j ≡ Some true → slice_get (slice_set ms i true) j ≡ Some true
set_kept [] i j e = cc
set_kept (n ∷ ms) zero zero e = refl
set_kept (n ∷ ms) zero (suc j) e = e
set_kept (n ∷ ms) (suc i) zero e = e
set_kept (n ∷ ms) (suc i) (suc j) e = set_kept ms i j e

set_old : (ms : List Bool) (i j : ℕ) → slice_get (slice_set ms i true) j ≡ Some true → (j ≡ i) ⊎ (slice_get ms j ≡ Some true)
set_old [] i j e = inr e
set_old (n ∷ ms) zero zero e = inl refl
set_old (n ∷ ms) zero (suc j) e = inr e
set_old (n ∷ ms) (suc i) zero e = inr e
set_old (n ∷ ms) (suc i) (suc j) e = ⊎_elim (λ (q : j ≡ i). inl (ap suc q)) (λ (k : slice_get ms j ≡ Some true). inr k) (set_old ms i j e)

set_fewer : (ms : List Bool) (i : ℕ) → slice_get ms i ≡ Some false → suc (unmarked (slice_set ms i true)) ≡ unmarked ms
unfolding unmarked
set_fewer [] i e = cc
set_fewer (true ∷ ms) zero e = cc
set_fewer (false ∷ ms) zero e = refl
set_fewer (true ∷ ms) (suc i) e = set_fewer ms i e
set_fewer (false ∷ ms) (suc i) e = ap suc (set_fewer ms i e)

mark_same : (ms : List Bool) (z : ℕ) (m : Bool) → mark_at ms z ≡ Some m → mark_at (slice_set ms (z - 1) true) z ≡ Some true
mark_same ms zero m e = cc
mark_same ms (suc i) m e = let s : suc i - 1 ≡ i = omega arith in rw s (set_same ms i m e)

mark_kept : (ms : List Bool) (z w : ℕ) → mark_at ms w ≡ Some true → mark_at (slice_set ms (z - 1) true) w ≡ Some true
mark_kept ms z zero e = cc
mark_kept ms z (suc j) e = set_kept ms (z - 1) j e

mark_old : (ms : List Bool) (z w : ℕ) → 0 < z → mark_at (slice_set ms (z - 1) true) w ≡ Some true → (w ≡ z) ⊎ (mark_at ms w ≡ Some true)
mark_old ms z zero p e = cc
mark_old ms z (suc j) p e =
    ⊎_elim (λ (q : j ≡ z - 1). inl (omega arith)) (λ (k : slice_get ms j ≡ Some true). inr k) (set_old ms (z - 1) j e)

mark_fewer : (ms : List Bool) (z : ℕ) → mark_at ms z ≡ Some false → suc (unmarked (slice_set ms (z - 1) true)) ≡ unmarked ms
mark_fewer ms zero e = cc
mark_fewer ms (suc i) e = let s : suc i - 1 ≡ i = omega arith in rw s (set_fewer ms i e)

mark_there : (ms : List Bool) (z : ℕ) → 0 < z → z ≤ length ms → (m : Bool) × (mark_at ms z ≡ Some m)
mark_there ms zero p l = absurd (omega arith)
mark_there ms (suc i) p l = get_there ms i (omega arith)

-- ---- the search

-- what an object is attached to is marked
pub record LinksMarked (c : Common) (ms : List Bool) (y : ℕ) : Type 0 where
  pub each : (z : ℕ) → Has (links_of c y) z → IsSome (object_at c.objects z) → mark_at ms z ≡ Some true

-- what is marked are members; the links of those that aren't still to be followed are marked
pub record IsSearch (c : Common) (x : ℕ) (s : Search) : Type 0 where
  pub some : MarksSome c x s.marks
  pub pending : (y : ℕ) → Has s.todo y → mark_at s.marks y ≡ Some true
  pub closed : (y : ℕ) → mark_at s.marks y ≡ Some true → Has s.todo y ⊎ LinksMarked c s.marks y

-- the same, while the links of y are followed
record IsFollowing (c : Common) (x y : ℕ) (s : Search) : Type 0 where
  some : MarksSome c x s.marks
  pending : (w : ℕ) → Has s.todo w → mark_at s.marks w ≡ Some true
  closed : (w : ℕ) → mark_at s.marks w ≡ Some true → (Has s.todo w ⊎ LinksMarked c s.marks w) ⊎ (w ≡ y)

links_kept : (c : Common) (ms : List Bool) (z y : ℕ) → LinksMarked c ms y → LinksMarked c (slice_set ms (z - 1) true) y
links_kept c ms z y h = record { each = λ w k i. mark_kept ms z w (h.each w k i) }

one_found : (c : Common) (x y z : ℕ) (s : Search) → IsFollowing c x y s → (IsSome (object_at c.objects z) → InGroup c x z) →
    mark_at s.marks z ≡ Some false → IsFollowing c x y (record { marks = slice_set s.marks (z - 1) true; todo = s.todo ++ z ∷ [] })
one_found c x y z s f g e =
    let w = mark_within s.marks z false e in
    record {
      some = record {
        one_each = length_set s.marks (z - 1) true ∙ f.some.one_each;
        sound = λ v m. ⊎_elim
            (λ (q : v ≡ z). rw q (g (within_object c.objects z w.0 (let n = f.some.one_each in let l = w.1 in omega arith))))
            (λ (k : mark_at s.marks v ≡ Some true). f.some.sound v k)
            (mark_old s.marks z v w.0 m);
        start = λ there. mark_kept s.marks z x (f.some.start there);
      };
      pending = λ v h. ⊎_elim
          (λ (k : Has s.todo v). mark_kept s.marks z v (f.pending v k))
          (λ (k : Has (z ∷ []) v). (let q = has_one z v k in rw q (mark_same s.marks z false e)))
          (has_either v s.todo (z ∷ []) h);
      closed = λ v m. ⊎_elim
          (λ (q : v ≡ z). inl (inl (rw q (has_back z s.todo (z ∷ []) (has_first z [])))))
          (λ (k : mark_at s.marks v ≡ Some true). ⊎_elim
          (λ (o : Has s.todo v ⊎ LinksMarked c s.marks v). inl (⊎_elim
          (λ (t : Has s.todo v). inl (has_front v s.todo (z ∷ []) t))
          (λ (l : LinksMarked c s.marks v). inr (links_kept c s.marks z v l))
          o))
          (λ (q : v ≡ y). inr q)
          (f.closed v k))
          (mark_old s.marks z v w.0 m);
    }

found_following : (c : Common) (x y z : ℕ) (s : Search) → IsFollowing c x y s → (IsSome (object_at c.objects z) → InGroup c x z) →
    IsFollowing c x y (found s z)
found_following c x y z s f g = part (mark_at s.marks z) refl
  where
    part : (m : Option Bool) → mark_at s.marks z ≡ m → IsFollowing c x y (found_if s z m)
    part None e = f
    part (Some true) e = f
    part (Some false) e = one_found c x y z s f g e

found_kept : (s : Search) (z w : ℕ) → mark_at s.marks w ≡ Some true → mark_at (found s z).marks w ≡ Some true
found_kept s z w h = part (mark_at s.marks z)
  where
    part : (m : Option Bool) → mark_at (found_if s z m).marks w ≡ Some true
    part None = h
    part (Some true) = h
    part (Some false) = mark_kept s.marks z w h

found_marks : (s : Search) (z : ℕ) → 0 < z → z ≤ length s.marks → mark_at (found s z).marks z ≡ Some true
found_marks s z p l = part (mark_at s.marks z) refl
  where
    part : (m : Option Bool) → mark_at s.marks z ≡ m → mark_at (found_if s z m).marks z ≡ Some true
    part None e = let t = mark_there s.marks z p l in let q = t.1 in cc
    part (Some true) e = e
    part (Some false) e = mark_same s.marks z false e

found_length : (s : Search) (z : ℕ) → length (found s z).marks ≡ length s.marks
found_length s z = part (mark_at s.marks z)
  where
    part : (m : Option Bool) → length (found_if s z m).marks ≡ length s.marks
    part None = refl
    part (Some true) = refl
    part (Some false) = length_set s.marks (z - 1) true

all_following : (c : Common) (x y : ℕ) (zs : List ℕ) (s : Search) → IsFollowing c x y s →
    ((z : ℕ) → Has zs z → IsSome (object_at c.objects z) → InGroup c x z) → IsFollowing c x y (all_found s zs)
all_following c x y [] s f g = f
all_following c x y (z ∷ zs) s f g =
    all_following c x y zs (found s z) (found_following c x y z s f (g z (has_first z zs)))
    (λ w h. g w (record { at = suc h.at; is = h.is }))

all_kept : (zs : List ℕ) (s : Search) (w : ℕ) → mark_at s.marks w ≡ Some true → mark_at (all_found s zs).marks w ≡ Some true
all_kept [] s w h = h
all_kept (z ∷ zs) s w h = all_kept zs (found s z) w (found_kept s z w h)

all_marks : (zs : List ℕ) (s : Search) (w : ℕ) → Has zs w → 0 < w → w ≤ length s.marks → mark_at (all_found s zs).marks w ≡ Some true
all_marks [] s w h p l = absurd (has_none w h)
all_marks (z ∷ zs) s w h p l = ⊎_elim
    (λ (q : w ≡ z). all_kept zs (found s z) w (let z' : z ≡ w = sym q in rw z' (found_marks s w p l)))
    (λ (k : Has zs w). all_marks zs (found s z) w k p (let n = found_length s z in omega arith))
    (has_parts z w zs h)

-- the search goes on with what lies on top
pub next_search : (c : Common) (x y : ℕ) (s : Search) → IsSearch c x s → top_of s.todo ≡ Some y →
    IsSearch c x (all_found (record { marks = s.marks; todo = below_of s.todo }) (links_of c y))
next_search c x y s h e =
    let rest : Search = record { marks = s.marks; todo = below_of s.todo } in
    let parts = stack_parts s.todo y e in
    let top : Has s.todo y = rw parts (has_back y (below_of s.todo) (y ∷ []) (has_first y [])) in
    let member : InGroup c x y = h.some.sound y (h.pending y top) in
    let begun : IsFollowing c x y rest = record {
      some = h.some;
      pending = λ w k. h.pending w (rw parts (has_front w (below_of s.todo) (y ∷ []) k));
      closed = λ w m. ⊎_elim
          (λ (k : Has s.todo w). ⊎_elim
          (λ (b : Has (below_of s.todo) w). inl (inl b))
          (λ (t : Has (y ∷ []) w). inr (has_one y w t))
          (has_either w (below_of s.todo) (y ∷ []) (rw parts at k)))
          (λ (l : LinksMarked c s.marks w). inl (inr l))
          (h.closed w m);
    } in
    let after : IsFollowing c x y (all_found rest (links_of c y)) =
    all_following c x y (links_of c y) rest begun (λ z k i. Linked y z member k i) in
    let own : LinksMarked c (all_found rest (links_of c y)).marks y = record {
      each = λ z k i.
          (let w = object_within c.objects z i in all_marks (links_of c y) rest z k w.0
          (let l = w.1 in let n = h.some.one_each in omega arith));
    } in
    record {
      some = after.some;
      pending = after.pending;
      closed = λ w m. ⊎_elim
          (λ (o : Has (all_found rest (links_of c y)).todo w ⊎ LinksMarked c (all_found rest (links_of c y)).marks w). o)
          (λ (q : w ≡ y). inr (rw q own))
          (after.closed w m);
    }

-- a search with nothing still to be followed has found the group
pub search_done : (c : Common) (x : ℕ) (s : Search) → IsSearch c x s → None ≡ top_of s.todo → MarksGroup c x s.marks
search_done c x s h e =
    let none = top_of_none s.todo (sym e) in
    closed_group c x s.marks h.some (record {
      links = λ y z m k i. ⊎_elim
          (λ (t : Has s.todo y). absurd (has_none y (rw none at t)))
          (λ (l : LinksMarked c s.marks y). l.each z k i)
          (h.closed y m);
    })

-- ---- how a search begins

unset-get : (n i : ℕ) → i < n → slice_get (replicate n false) i ≡ Some false
unset-get zero i l = absurd (omega arith)
unset-get (suc n) zero l = refl
unset-get (suc n) (suc i) l = unset-get n i (omega arith)

unset-none : (n i : ℕ) → slice_get (replicate n false) i ≡ Some true → ⊥
unset-none zero i e = cc
unset-none (suc n) zero e = cc
unset-none (suc n) (suc i) e = unset-none n i e

unset-mark : (n y : ℕ) → mark_at (replicate n false) y ≡ Some true → ⊥
unset-mark n zero e = cc
unset-mark n (suc i) e = unset-none n i e

unset-first : (n x : ℕ) → 0 < x → x ≤ n → mark_at (replicate n false) x ≡ Some false
unset-first n zero p l = absurd (omega arith)
unset-first n (suc i) p l = unset-get n i (omega arith)

unset-length : (n : ℕ) → length (replicate n false) ≡ n
unset-length zero = refl
unset-length (suc n) = ap suc (unset-length n)

first_found : (c : Common) (x : ℕ) → 0 < x → x ≤ length c.objects →
    IsSearch c x (record { marks = slice_set (replicate (length c.objects) false) (x - 1) true; todo = [] ++ x ∷ [] })
first_found c x p l =
    let n = length c.objects in
    record {
      some = record {
        one_each = length_set (replicate n false) (x - 1) true ∙ unset-length n;
        sound = λ y m. ⊎_elim
            (λ (q : y ≡ x). rw q (Itself (within_object c.objects x p l)))
            (λ (k : mark_at (replicate n false) y ≡ Some true). absurd (unset-mark n y k))
            (mark_old (replicate n false) x y p m);
        start = λ there. mark_same (replicate n false) x false (unset-first n x p l);
      };
      pending = λ y h. (let q = has_one x y h in rw q (mark_same (replicate n false) x false (unset-first n x p l)));
      closed = λ y m. ⊎_elim
          (λ (q : y ≡ x). inl (rw q (has_first x [])))
          (λ (k : mark_at (replicate n false) y ≡ Some true). absurd (unset-mark n y k))
          (mark_old (replicate n false) x y p m);
    }

-- a number that names no object is not found
none_found : (c : Common) (x : ℕ) → (IsSome (object_at c.objects x) → ⊥) →
    IsSearch c x (record { marks = replicate (length c.objects) false; todo = [] })
none_found c x missing =
    let n = length c.objects in
    record {
      some = record {
        one_each = unset-length n;
        sound = λ y m. absurd (unset-mark n y m);
        start = λ there. absurd (missing there);
      };
      pending = λ y h. absurd (has_none y h);
      closed = λ y m. absurd (unset-mark n y m);
    }

pub first_search : (c : Common) (x : ℕ) → IsSearch c x (found (record { marks = replicate (length c.objects) false; todo = [] }) x)
first_search c x = part (mark_at (replicate n false) x) refl
  where
    n : ℕ
    n = length c.objects

    start : Search
    start = record { marks = replicate n false; todo = [] }

    missing : mark_at (replicate n false) x ≡ None → IsSome (object_at c.objects x) → ⊥
    missing e there = let w = object_within c.objects x there in let f = unset-first n x w.0 w.1 in cc

    part : (m : Option Bool) → mark_at (replicate n false) x ≡ m → IsSearch c x (found_if start x m)
    part None e = none_found c x (missing e)
    part (Some true) e = absurd (unset-mark n x e)
    part (Some false) e =
        let w = mark_within (replicate n false) x false e in
        first_found c x w.0 (let l = w.1 in let k = unset-length n in omega arith)

-- ---- a search comes to an end

unfoldable pub work_of : Search → ℕ
work_of s = unmarked s.marks + length s.todo

found_work : (s : Search) (z : ℕ) → work_of (found s z) ≡ work_of s
unfolding work_of
found_work s z = part (mark_at s.marks z) refl
  where
    part : (m : Option Bool) → mark_at s.marks z ≡ m → work_of (found_if s z m) ≡ work_of s
    part None e = refl
    part (Some true) e = refl
    part (Some false) e = let k = mark_fewer s.marks z e in let l = length-append s.todo (z ∷ []) in omega arith

all_work : (zs : List ℕ) (s : Search) → work_of (all_found s zs) ≡ work_of s
all_work [] s = refl
all_work (z ∷ zs) s = all_work zs (found s z) ∙ found_work s z

-- what lay on top is done
pub less_work : (zs : List ℕ) (s : Search) (y : ℕ) → top_of s.todo ≡ Some y →
    work_of (all_found (record { marks = s.marks; todo = below_of s.todo }) zs) < work_of s
unfolding work_of
less_work zs s y e =
    let a = all_work zs (record { marks = s.marks; todo = below_of s.todo }) in
    let b = length-append (below_of s.todo) (y ∷ []) in
    let p = ap length (stack_parts s.todo y e) in
    omega arith

-- ---- as the code has them

pub found_first : (c : Common) (x n : ℕ) (s t : Search) → n ≡ length c.objects → s.marks ≡ replicate n false → s.todo ≡ [] →
    t ≡ found s x → IsSearch c x t
found_first c x n s t e m d r =
    let q : s ≡ record { marks = replicate (length c.objects) false; todo = [] } = (rw e at (parts s.marks s.todo m d)) in
    rw (r, q) (first_search c x)
  where
    parts : (ms : List Bool) (todo : List ℕ) → ms ≡ replicate n false → todo ≡ [] →
        (let k : Search = record { marks = ms; todo = todo } in k) ≡ record { marks = replicate n false; todo = [] }
    parts ms todo a b = rw (a, b) refl

pub found_next : (c : Common) (x y : ℕ) (s t : Search) (rest : List ℕ) → IsSearch c x s → Some y ≡ top_of s.todo →
    rest ≡ below_of s.todo → t ≡ all_found (record { marks = s.marks; todo = rest }) (links_of c y) → IsSearch c x t
found_next c x y s t rest h e b r = rw (r, b) (next_search c x y s h (sym e))

pub work_next : (s t : Search) (y : ℕ) (rest zs : List ℕ) → Some y ≡ top_of s.todo → rest ≡ below_of s.todo →
    t ≡ all_found (record { marks = s.marks; todo = rest }) zs → work_of t < work_of s
work_next s t y rest zs e b r = rw (r, b) (less_work zs s y (sym e))
