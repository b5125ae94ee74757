-- The variables that are marked at a place are those that are live there, in order.
use Rattle.std.proofs.Common.{◌≡◌, ℕ, suc, ◌+◌, ◌<◌, ◌≤◌, Bool, true, false, if◌then◌else◌, ◌⊎◌, inl, inr, ⊎_elim, List, [], ◌∷◌}
use Rattle.std.proofs.Common.{◌++◌, length, drop, Some, slice_get, refl, sym, ap, subst, ◌∙◌, arith, add-one}
use Rattle.std.proofs.lemmas.Bool.{cases_eq}
use Rattle.ec_base.proofs.Lists.{drop_at}
use Rattle.ec_code.specs.Fine.{IsIn}
use Rattle.ec_code.specs.declared.code.Op.{Op}
use Rattle.ec_code.specs.declared.code.Variable.{Variable}
use Rattle.ec_code.specs.declared.code.Variable.TheVariants.{Named, Temporary}
use Rattle.ec_code.specs.Live.{IsLive, IsBefore, InOrder, IsLiveList}
use Rattle.ec_code.specs.Marks.{is_marked, AreLive}
use Rattle.ec_code.specs.Listed.{with_code, variable_of, AreRows, marked_at, listed}
use Rattle.ec_code.specs.declared.extent.Extent.{Extent}
use Rattle.ec_code.specs.declared.rows.Kind.{Kind}
use Rattle.ec_code.specs.declared.rows.Kind.TheVariants as kind
use Rattle.ec_code.proofs.Among.{in_append, in_left, in_right}
use Rattle.ec_code.proofs.Covering.{Covers, covers_live}

-- ---- lists

module _ {A : Type 0} where
  -- with an item in front, or without
  front : (b : Bool) (v : A) (xs : List A) (x : A) → IsIn x (if b then v ∷ xs else xs) → ((b ≡ true) × (x ≡ v)) ⊎ IsIn x xs
  front true v xs x (inl e) = inl (refl, e)
  front true v xs x (inr i) = inr i
  front false v xs x i = inr i

  at_front : (b : Bool) (v : A) (xs : List A) → b ≡ true → IsIn v (if b then v ∷ xs else xs)
  at_front true v xs e = inl refl
  at_front false v xs e = absurd (let f : false ≡ true = e in cc)

  behind_front : (b : Bool) (v : A) (xs : List A) (x : A) → IsIn x xs → IsIn x (if b then v ∷ xs else xs)
  behind_front true v xs x i = inr i
  behind_front false v xs x i = i

  append_front : (b : Bool) (ws xs : List A) (v : A) → ws ++ (if b then v ∷ xs else xs) ≡ (if b then ws ++ v ∷ [] else ws) ++ xs
  append_front true ws xs v = moved ws
    where
      moved : (us : List A) → us ++ v ∷ xs ≡ (us ++ v ∷ []) ++ xs
      moved [] = refl
      moved (u ∷ us) = ap (λ r. u ∷ r) (moved us)
  append_front false ws xs v = refl

-- ---- rows

pub append_rows : (code : List Op) (k : Kind) (n m : ℕ) (rows : List (List Bool)) (marks : List Bool) → m ≡ n + length rows →
    AreRows code k n rows → AreLive code (variable_of k m) marks → AreRows code k n (rows ++ marks ∷ [])
append_rows code k n m [] marks e h l =
    let same : m ≡ n = omega arith in
    (subst (λ i. AreLive code (variable_of k i) marks) same l, tt)
append_rows code k n m (r ∷ rows) marks e h l = (h.0, append_rows code k (suc n) m rows marks (omega arith) h.1 l)

-- what is marked of the rows from a number on, with that number's
pub marked_step : (k : Kind) (n : ℕ) (rows : List (List Bool)) (q : ℕ) (marks : List Bool) (list : List Variable) →
    slice_get rows n ≡ Some marks →
    list ++ marked_at k n (drop n rows) q
    ≡ (if is_marked marks q then list ++ variable_of k n ∷ [] else list) ++ marked_at k (n + 1) (drop (n + 1) rows) q
marked_step k n rows q marks list is =
    ap (λ r. list ++ marked_at k n r q) (drop_at rows n marks is)
    ∙ rw add-one (append_front (is_marked marks q) list (marked_at k (suc n) (drop (suc n) rows) q) (variable_of k n))

module _ (code : List Op) (k : Kind) (q : ℕ) where
  live_at : (n : ℕ) (rows : List (List Bool)) (x : Variable) → AreRows code k n rows → IsIn x (marked_at k n rows q) → IsLive code q x
  live_at n [] x h i = absurd i
  live_at n (marks ∷ rows) x h i = ⊎_elim
      (λ (e : (is_marked marks q ≡ true) × (x ≡ variable_of k n)). subst (λ v. IsLive code q v) (sym e.1) (h.0.only q e.0))
      (λ j. live_at (suc n) rows x h.1 j) (front (is_marked marks q) (variable_of k n) (marked_at k (suc n) rows q) x i)

  -- each has a number from here on
  number_at : (n : ℕ) (rows : List (List Bool)) (x : Variable) → IsIn x (marked_at k n rows q) →
      (m : ℕ) × (n ≤ m) × (x ≡ variable_of k m)
  number_at n [] x i = absurd i
  number_at n (marks ∷ rows) x i = ⊎_elim (λ (e : (is_marked marks q ≡ true) × (x ≡ variable_of k n)). (n, omega arith, e.1))
      (λ j. let f = number_at (suc n) rows x j in let h : n ≤ f.0 = omega (arith, f.1) in (f.0, h, f.2))
      (front (is_marked marks q) (variable_of k n) (marked_at k (suc n) rows q) x i)

  all_at : (n : ℕ) (rows : List (List Bool)) (m : ℕ) → AreRows code k n rows → n ≤ m → m < n + length rows →
      IsLive code q (variable_of k m) → IsIn (variable_of k m) (marked_at k n rows q)
  all_at n [] m h low high l = absurd (omega arith)
  all_at n (marks ∷ rows) m h low high l = ⊎_elim here
      (λ (ne : m ≡ n → ⊥).
      behind_front (is_marked marks q) (variable_of k n) (marked_at k (suc n) rows q) (variable_of k m)
      (all_at (suc n) rows m h.1 (omega arith) (omega arith) l))
      (cases_eq m n)
    where
      here : m ≡ n → IsIn (variable_of k m) (marked_at k n (marks ∷ rows) q)
      here e =
          let own : IsLive code q (variable_of k n) = subst (λ i. IsLive code q (variable_of k i)) e l in
          subst (λ i. IsIn (variable_of k i) (marked_at k n (marks ∷ rows) q)) (sym e)
          (at_front (is_marked marks q) (variable_of k n) (marked_at k (suc n) rows q) (h.0.all q own))

-- ---- order

before : (k : Kind) (m n : ℕ) → m < n → IsBefore (variable_of k m) (variable_of k n)
before kind.Named m n h = h
before kind.Temporary m n h = h

order_front : (b : Bool) (x : Variable) (xs : List Variable) → ((y : Variable) → IsIn y xs → IsBefore x y) → InOrder xs →
    InOrder (if b then x ∷ xs else xs)
order_front true x xs f o = (f, o)
order_front false x xs f o = o

order_at : (k : Kind) (n : ℕ) (rows : List (List Bool)) (q : ℕ) → InOrder (marked_at k n rows q)
order_at k n [] q = tt
order_at k n (marks ∷ rows) q =
    order_front (is_marked marks q) (variable_of k n) (marked_at k (suc n) rows q) later (order_at k (suc n) rows q)
  where
    later : (y : Variable) → IsIn y (marked_at k (suc n) rows q) → IsBefore (variable_of k n) y
    later y i =
        let f = number_at [] k q (suc n) rows y i in
        let h : n < f.0 = omega (arith, f.1) in
        subst (λ v. IsBefore (variable_of k n) v) (sym f.2) (before k n f.0 h)

order_append : (xs ys : List Variable) → InOrder xs → InOrder ys → ((x y : Variable) → IsIn x xs → IsIn y ys → IsBefore x y) →
    InOrder (xs ++ ys)
order_append [] ys a b f = b
order_append (x ∷ xs) ys a b f = (
  λ y i. ⊎_elim (λ j. a.0 y j) (λ j. f x y (inl refl) j) (in_append y xs ys i),
  order_append xs ys a.1 b (λ z y i j. f z y (inr i) j),
)

-- ---- both kinds

module _ (code : List Op) (named temporaries : List (List Bool)) (q : ℕ) where
  kinds_in_order : (x y : Variable) → IsIn x (marked_at kind.Named 0 named q) → IsIn y (marked_at kind.Temporary 0 temporaries q) →
      IsBefore x y
  kinds_in_order x y i j =
      let f = number_at code kind.Named q 0 named x i in
      let g = number_at code kind.Temporary q 0 temporaries y j in
      subst (λ v. IsBefore v y) (sym f.2) (subst (λ v. IsBefore (Named f.0) v) (sym g.2) tt)

  -- so many rows of each kind as the code has numbers
  pub is_live_list : (e : Extent) → e ≡ with_code (record { named = 0; temporaries = 0 }) code →
      AreRows code kind.Named 0 named → AreRows code kind.Temporary 0 temporaries →
      length named ≡ e.named → length temporaries ≡ e.temporaries → IsLiveList code q (listed named temporaries q)
  is_live_list e is a b m n = record {
    live = λ x i. ⊎_elim (λ j. live_at code kind.Named q 0 named x a j) (λ j. live_at code kind.Temporary q 0 temporaries x b j)
        (in_append x (marked_at kind.Named 0 named q) (marked_at kind.Temporary 0 temporaries q) i);
    all = all;
    in_order = order_append (marked_at kind.Named 0 named q) (marked_at kind.Temporary 0 temporaries q)
        (order_at kind.Named 0 named q) (order_at kind.Temporary 0 temporaries q) kinds_in_order;
  }
    where
      covered : (x : Variable) → IsLive code q x → Covers e x
      covered x l = subst (λ f. Covers f x) (sym is) (covers_live (record { named = 0; temporaries = 0 }) l)

      all : (x : Variable) → IsLive code q x → IsIn x (listed named temporaries q)
      all (Named i) l =
          let c : i < e.named = covered (Named i) l in
          in_left (Named i) (marked_at kind.Named 0 named q) (marked_at kind.Temporary 0 temporaries q)
          (all_at code kind.Named q 0 named i a (omega arith) (omega arith) l)
      all (Temporary i) l =
          let c : i < e.temporaries = covered (Temporary i) l in
          in_right (Temporary i) (marked_at kind.Named 0 named q) (marked_at kind.Temporary 0 temporaries q)
          (all_at code kind.Temporary q 0 temporaries i b (omega arith) (omega arith) l)
