-- Relations of named types: what more pairs allow, and what striking one out of a table does.
use Rattle.std.proofs.Common.{◌≡◌, ◌↔◌, ℕ, ◌+◌, ◌*◌, ◌/◌, ◌%◌, ◌<◌, ◌≤◌, Bool, true, false, ◌&&◌, ◌||◌, ◌⊎◌, ⊎_elim, inl, inr, ltb}
use Rattle.std.proofs.Common.{List, [], ◌∷◌, length, get_or, set, Option, Some, None, refl, sym, ◌∙◌, ap, subst, arith, length-set}
use Rattle.std.proofs.Common.{length-append, ◌++◌, get_or-set_other, replicate, zero, suc}
use Rattle.std.proofs.lemmas.Bool.{cases_lt, lt-ltb, le-ltb}
use Rattle.std.proofs.lemmas.Nat.{div-mul-add, mod-mul-add, mul-add-lt}
use Rattle.std.proofs.lemmas.List.{get_or-replicate}
use borrow.Author.Tests.{ltb-true}
use Rattle.ec_types.specs.Conforms.{Relation, named_conforms, plain_conforms, conforms_to_plain, conforms_in, parameters_fit}
use Rattle.ec_types.specs.Conforms.{results_fit, stands_for, has_operation, has_operations, operations_at, meets, most_types}
use Rattle.ec_types.specs.Conforms.{IsClosed, Conforms}
use Rattle.ec_types.specs.Pairs.{compared, in_rows, in_table, rows, IsFull, IsStable, IsWithin, KeepsClosed, IsWrong, IsRight}
use Rattle.ec_types.specs.Pairs.{IsLargest, Follows, Fewer, Passed, Struck, count_true}
use Rattle.ec_types.specs.declared.conform.named_type.NamedType.{NamedType}
use Rattle.ec_types.specs.declared.conform.operations.NamedOperation.{NamedOperation}
use Rattle.ec_types.specs.declared.conform.static_type.Plain.{Plain as PlainType}
use Rattle.ec_types.specs.declared.conform.static_type.Plain.TheVariants.{Integer, Boolean, String, Any, Node, Named}
use Rattle.ec_types.specs.declared.conform.static_type.StaticType.{StaticType}
use Rattle.ec_types.specs.declared.conform.static_type.StaticType.TheVariants.{Plain, Vector, Nil, Unknown}

and_left : (a b : Bool) → (a && b) ≡ true → a ≡ true
and_left true b h = refl
and_left false b h = h

and_right : (a b : Bool) → (a && b) ≡ true → b ≡ true
and_right true b h = h
and_right false b h = absurd (let e : false ≡ true = h in cc)

both : (a b : Bool) → a ≡ true → b ≡ true → (a && b) ≡ true
both true b h k = k
both false b h k = h

or_more : (a b c d : Bool) → (a ≡ true → c ≡ true) → (b ≡ true → d ≡ true) → (a || b) ≡ true → (c || d) ≡ true
or_more true b true d f g h = refl
or_more true b false d f g h = absurd (let e : false ≡ true = f refl in cc)
or_more false b true d f g h = refl
or_more false b false d f g h = g h

and_more : (a b c d : Bool) → (a ≡ true → c ≡ true) → (b ≡ true → d ≡ true) → (a && b) ≡ true → (c && d) ≡ true
and_more a b c d f g h = both c d (f (and_left a b h)) (g (and_right a b h))

-- a larger relation allows what a smaller one does
module _ (types : List NamedType) (r q : Relation) (more : (a b : ℕ) → r a b ≡ true → q a b ≡ true) where
  named_more : (a : ℕ) (t : PlainType) → named_conforms r a t ≡ true → named_conforms q a t ≡ true
  named_more a (Named b) h = more a b h
  named_more a Any h = h
  named_more a Integer h = h
  named_more a Boolean h = h
  named_more a String h = h
  named_more a Node h = h

  plain_more : (s t : PlainType) → plain_conforms types r s t ≡ true → plain_conforms types q s t ≡ true
  plain_more Integer t h = h
  plain_more Boolean t h = h
  plain_more String t h = h
  plain_more Any t h = h
  plain_more Node t h = h
  plain_more (Named a) t h = named_more a t h

  to_plain_more : (s : StaticType) (t : PlainType) → conforms_to_plain types r s t ≡ true → conforms_to_plain types q s t ≡ true
  to_plain_more (Plain s) t h = plain_more s t h
  to_plain_more (Vector inner of) t h = h
  to_plain_more Nil t h = h
  to_plain_more Unknown t h = h

  pub conforms_more : (s t : StaticType) → conforms_in types r s t ≡ true → conforms_in types q s t ≡ true
  conforms_more s (Plain t) h = to_plain_more s t h
  conforms_more s (Vector inner of) h = h
  conforms_more s Nil h = h
  conforms_more s Unknown h = h

  parameters_more : (ws ps : List StaticType) → parameters_fit types r ws ps ≡ true → parameters_fit types q ws ps ≡ true
  parameters_more [] [] h = refl
  parameters_more [] (p ∷ ps) h = h
  parameters_more (w ∷ ws) [] h = h
  parameters_more (w ∷ ws) (p ∷ ps) h =
      and_more (conforms_in types r w p) (parameters_fit types r ws ps) (conforms_in types q w p) (parameters_fit types q ws ps)
      (conforms_more w p) (parameters_more ws ps) h

  results_more : (a b : Option StaticType) → results_fit types r a b ≡ true → results_fit types q a b ≡ true
  results_more None None h = refl
  results_more None (Some b) h = h
  results_more (Some a) None h = h
  results_more (Some a) (Some b) h = conforms_more a b h

  stands_more : (w o : NamedOperation) → stands_for types r w o ≡ true → stands_for types q w o ≡ true
  stands_more w o h =
      and_more _ _ _ _ (λ e. e)
      (λ e. and_more _ _ _ _ (parameters_more w.parameters o.parameters) (results_more o.result w.result) e) h

  has_more : (os : List NamedOperation) (w : NamedOperation) → has_operation types r os w ≡ true
      → has_operation types q os w ≡ true
  has_more [] w h = h
  has_more (o ∷ os) w h =
      or_more (stands_for types r w o) (has_operation types r os w) (stands_for types q w o) (has_operation types q os w)
      (stands_more w o) (has_more os w) h

  all_more : (os ws : List NamedOperation) → has_operations types r os ws ≡ true → has_operations types q os ws ≡ true
  all_more os [] h = refl
  all_more os (w ∷ ws) h =
      and_more (has_operation types r os w) (has_operations types r os ws) (has_operation types q os w)
      (has_operations types q os ws) (has_more os w) (all_more os ws) h

  pub meets_more : (a b : ℕ) → meets types r a b ≡ true → meets types q a b ≡ true
  meets_more a b h = all_more (operations_at types a) (operations_at types b) h

-- a table that is stable and within which each closed relation is answers for conformity
in_left : (n : ℕ) (table : List Bool) (a b : ℕ) → in_table n table a b ≡ true → a < n
in_left n table a b h = ltb-true _ _ (and_left (ltb a n) _ h)

in_right : (n : ℕ) (table : List Bool) (a b : ℕ) → in_table n table a b ≡ true → b < n
in_right n table a b h = ltb-true _ _ (and_left (ltb b n) _ (and_right (ltb a n) _ h))

-- the types that are compared
within_most : (n a : ℕ) → a < compared n → a < most_types
within_most n a h = omega arith

among_compared : (n a : ℕ) → a < n → a < most_types → a < compared n
among_compared n a h k = omega arith

-- what the rows say of two types that have one
in_place : (m : ℕ) (table : List Bool) (a b : ℕ) → a < m → b < m → in_rows m table a b ≡ true → get_or table (a * m + b) false ≡ true
in_place m table a b i j h = rw (lt-ltb a m i, lt-ltb b m j) at h

at_place : (n : ℕ) (table : List Bool) (a b : ℕ) → a < compared n → b < compared n → in_table n table a b ≡ true
    → get_or table (a * compared n + b) false ≡ true
at_place n table a b i j h = in_place (compared n) table a b i j (and_right (ltb b n) _ (and_right (ltb a n) _ h))

pub answers : (types : List NamedType) (table : List Bool) → IsLargest types table → (s t : StaticType) →
    (conforms_in types (in_table (length types) table) s t ≡ true) ↔ Conforms types s t
answers types table largest s t = (
  λ h. (
    in_table (length types) table,
    record {
      left = λ x y e. in_left (length types) table x y e;
      right = λ x y e. in_right (length types) table x y e;
      clauses = largest.stable;
    },
    h,
  ),
  λ c. conforms_more types c.0 (in_table (length types) table) (largest.within c.0 c.1) s t c.2,
)

-- the table from which nothing is struck yet
all_in_rows : (m a b : ℕ) → in_rows m (replicate (m * m) true) a b ≡ true
all_in_rows m a b = by (cases_lt a m) (cases_lt b m)
  where
    by : (a < m) ⊎ (m ≤ a) → (b < m) ⊎ (m ≤ b) → in_rows m (replicate (m * m) true) a b ≡ true
    by (inl x) (inl y) =
        let here = get_or-replicate (m * m) (a * m + b) true false (mul-add-lt a m b m x y) in
        rw (lt-ltb a m x, lt-ltb b m y) here
    by (inl x) (inr y) = rw (lt-ltb a m x, le-ltb b m y) refl
    by (inr x) y = rw (le-ltb a m x) refl

pub all_within : (types : List NamedType) (table : List Bool) → table ≡ replicate (rows types * rows types) true
    → (r : Relation) → IsClosed types r → IsWithin r (length types) table
all_within types table is r closed a b h =
    let n = length types in
    let all = subst (λ t. in_rows (rows types) t a b ≡ true) (sym is) (all_in_rows (rows types) a b) in
    both (ltb a n) _ (lt-ltb a n (closed.left a b h)) (both (ltb b n) _ (lt-ltb b n (closed.right a b h)) all)

kept_in_rows : (m : ℕ) (table : List Bool) (i a b : ℕ) → in_rows m table a b ≡ true
    → (a < m → b < m → a * m + b ≡ i → ⊥) → in_rows m (set table i false) a b ≡ true
kept_in_rows m table i a b h other = by (cases_lt a m) (cases_lt b m)
  where
    by : (a < m) ⊎ (m ≤ a) → (b < m) ⊎ (m ≤ b) → in_rows m (set table i false) a b ≡ true
    by (inl x) (inl y) =
        let here = get_or-set_other table i (a * m + b) false false (other x y) in
        let old = in_place m table a b x y h in
        rw (lt-ltb a m x, lt-ltb b m y) (here ∙ old)
    by (inl x) (inr y) = rw (lt-ltb a m x, le-ltb b m y) refl
    by (inr x) y = rw (le-ltb a m x) refl

kept : (n : ℕ) (table : List Bool) (i a b : ℕ) → in_table n table a b ≡ true
    → (a < compared n → b < compared n → a * compared n + b ≡ i → ⊥) → in_table n (set table i false) a b ≡ true
kept n table i a b h other =
    both (ltb a n) _ (and_left (ltb a n) _ h) (both (ltb b n) _ (and_left (ltb b n) _ (and_right (ltb a n) _ h))
    (kept_in_rows (compared n) table i a b (and_right (ltb b n) _ (and_right (ltb a n) _ h)) other))

module _ (types : List NamedType) (init table : List Bool) (i : ℕ) where
  pub struck_keeps : KeepsClosed types init table → IsWrong types table i → KeepsClosed types init (set table i false)
  struck_keeps keeps wrong r closed within a b h = kept (length types) table i a b (keeps r closed within a b h) clash
    where
      meet : ℕ → ℕ → Bool
      meet = meets types (in_table (length types) table)

      clash : a < rows types → b < rows types → a * rows types + b ≡ i → ⊥
      clash x y e =
          let m : meet a b ≡ true =
          meets_more types r (in_table (length types) table) (keeps r closed within) a b
          (closed.clauses a b (within_most (length types) a x) (within_most (length types) b y) h) in
          let left : i / rows types ≡ a = ap (λ k. k / rows types) (sym e) ∙ div-mul-add a (rows types) b y in
          let right : i % rows types ≡ b = ap (λ k. k % rows types) (sym e) ∙ mod-mul-add a (rows types) b y in
          let w : meet (i / rows types) b ≡ false = subst (λ y. meet (i / rows types) y ≡ false) right wrong.1 in
          let apart : meet a b ≡ false = subst (λ x. meet x b ≡ false) left w in
          cc

count_set : (xs : List Bool) (i : ℕ) → get_or xs i false ≡ true → count_true (set xs i false) + 1 ≡ count_true xs
count_set [] i h = absurd (let e : false ≡ true = h in cc)
count_set (true ∷ xs) zero h = refl
count_set (false ∷ xs) zero h = absurd (let e : false ≡ true = h in cc)
count_set (true ∷ xs) (suc i) h = omega (arith, count_set xs i h)
count_set (false ∷ xs) (suc i) h = count_set xs i h

-- ---- what follows a pair that is struck

pub follows_none : (types : List NamedType) (table : List Bool) (struck : List ℕ) → IsFull types table
    → Follows types table struck table struck
follows_none types table struck full = record {
  full = full;
  keeps = λ r c w. w;
  count = refl;
  more = omega arith;
}

pub follows_one : (types : List NamedType) (table : List Bool) (struck : List ℕ) (i : ℕ) →
    IsFull types table → IsWrong types table i
    → Follows types table struck (set table i false) (struck ++ i ∷ [])
follows_one types table struck i full wrong = record {
  full = length-set table i false ∙ full;
  keeps = struck_keeps types table table i (λ r c w. w) wrong;
  count = omega (arith, count_set table i wrong.0, length-append struck (i ∷ []));
  more = omega (arith, length-append struck (i ∷ []));
}

pub follows_on : {types : List NamedType} {p q r : List Bool} {a b c : List ℕ} → Follows types p a q b → Follows types q b r c
    → Follows types p a r c
follows_on f g = record {
  full = g.full;
  keeps = λ s closed w. g.keeps s closed (f.keeps s closed w);
  count = omega (arith, f.count, g.count);
  more = omega (arith, f.more, g.more);
}

pub fewer_by : {types : List NamedType} {old new : List Bool} {after : List ℕ} → Follows types old [] new after → 0 < length after
    → Fewer types old new
fewer_by f h = record {
  full = f.full;
  keeps = f.keeps;
  fewer = omega (arith, f.count, h);
}

-- ---- a pass over the table

pub passed_none : (types : List NamedType) (table : List Bool) (top bottom left right : ℕ)
    → IsFull types table → ((a b : ℕ) → top ≤ a → a < bottom → left ≤ b → b < right → ⊥)
    → Passed types table top bottom left right false table
passed_none types table top bottom left right full none = record {
  full = full;
  keeps = λ r closed w. w;
  least = omega arith;
  fewer = λ e. absurd (let f : false ≡ true = e in cc);
  same = λ e. refl;
  seen = λ e a b h i j k small. absurd (none a b h i j k);
}

module _ (types : List NamedType) (old mid new : List Bool) where
  pub passed_struck : {t b l r top bottom left right : ℕ} {x : Bool} → Passed types old t b l r x mid → Fewer types mid new
      → Passed types old top bottom left right true new
  passed_struck p f = record {
    full = f.full;
    keeps = λ r closed w. f.keeps r closed (p.keeps r closed w);
    least = omega (arith, f.fewer, p.least);
    fewer = λ e. omega (arith, f.fewer, p.least);
    same = λ e. absurd (let g : true ≡ false = e in cc);
    seen = λ e. absurd (let g : true ≡ false = e in cc);
  }

  fewer_of : {t b l r : ℕ} → Passed types mid t b l r true new → Fewer types mid new
  fewer_of p = record { full = p.full; keeps = p.keeps; fewer = p.fewer refl }

  pub passed_later : {t b l r u c m s top bottom left right : ℕ} {x : Bool} → Passed types old t b l r x mid
      → Passed types mid u c m s true new → Passed types old top bottom left right true new
  passed_later p q = passed_struck p (fewer_of q)

  -- What was looked at before and what was looked at now are what was to be looked at.
  passed_more : {t b l r u c m s top bottom left right : ℕ} {x : Bool} → Passed types old t b l r x mid
      → Passed types mid u c m s false new
      → ((i j : ℕ) → top ≤ i → i < bottom → left ≤ j → j < right
      → ((t ≤ i) × (i < b) × (l ≤ j) × (j < r)) ⊎ ((u ≤ i) × (i < c) × (m ≤ j) × (j < s)))
      → Passed types old top bottom left right x new
  passed_more p q cover = record {
    full = q.full;
    keeps = λ r closed w. q.keeps r closed (p.keeps r closed w);
    least = omega (arith, q.least, p.least);
    fewer = λ e. omega (arith, q.least, p.fewer e);
    same = λ e. q.same refl ∙ p.same e;
    seen = λ e i j h k y z small. ⊎_elim
        (λ w. subst (λ table. IsRight types table (i * rows types + j)) (sym (q.same refl))
        (p.seen e i j w.0 w.1 w.2 w.3 small))
        (λ w. q.seen refl i j w.0 w.1 w.2 w.3 small) (cover i j h k y z);
  }

  pub passed_rows : {top middle bottom left right : ℕ} {x : Bool} → Passed types old top middle left right x mid
      → Passed types mid middle bottom left right false new → Passed types old top bottom left right x new
  passed_rows {middle} p q =
      passed_more p q (λ i j h k y z. ⊎_elim (λ l. inl (h, l, y, z)) (λ l. inr (l, k, y, z)) (cases_lt i middle))

  pub passed_columns : {top bottom left middle right : ℕ} {x : Bool} → Passed types old top bottom left middle x mid
      → Passed types mid top bottom middle right false new → Passed types old top bottom left right x new
  passed_columns {middle} p q =
      passed_more p q (λ i j h k y z. ⊎_elim (λ l. inl (h, k, y, l)) (λ l. inr (h, k, l, z)) (cases_lt j middle))

-- one pair
pub passed_one : (types : List NamedType) (table : List Bool) (s t : ℕ) → IsFull types table
    → IsRight types table (s * rows types + t) → Passed types table s (s + 1) t (t + 1) false table
passed_one types table s t full right = record {
  full = full;
  keeps = λ r closed w. w;
  least = omega arith;
  fewer = λ e. absurd (let f : false ≡ true = e in cc);
  same = λ e. refl;
  seen = λ e a b h i j k small.
      let row : s ≡ a = omega arith in
      let column : t ≡ b = omega arith in
      subst (λ c. IsRight types table (c * rows types + b)) row
      (subst (λ c. IsRight types table (s * rows types + c)) column right);
}

-- There are no more columns.
pub passed_wide : {types : List NamedType} {old new : List Bool} {top bottom left right : ℕ} {x : Bool} (more : ℕ)
    → Passed types old top bottom left right x new → ((b : ℕ) → b < more → b < rows types → b < right)
    → Passed types old top bottom left more x new
passed_wide more p within = record {
  full = p.full;
  keeps = p.keeps;
  least = p.least;
  fewer = p.fewer;
  same = p.same;
  seen = λ e a b h i j k small. p.seen e a b h i j (within b k small) small;
}

stable_from : (types : List NamedType) (table : List Bool)
    → ((a b : ℕ) → a < rows types → b < rows types → IsRight types table (a * rows types + b)) → IsStable types table
stable_from types table seen a b i j h =
    let x : a < rows types = among_compared (length types) a (in_left (length types) table a b h) i in
    let y : b < rows types = among_compared (length types) b (in_right (length types) table a b h) j in
    let m = seen a b x y (at_place (length types) table a b x y h) in
    subst (λ row. meets types (in_table (length types) table) row b ≡ true) (div-mul-add a (rows types) b y)
    (subst (λ column. meets types (in_table (length types) table) ((a * rows types + b) / rows types) column ≡ true)
    (mod-mul-add a (rows types) b y) m)

-- all pairs
pub struck_from : {types : List NamedType} {old new : List Bool} {x : Bool} (columns : ℕ) → rows types ≤ columns
    → Passed types old 0 (rows types) 0 columns x new → Struck types old x new
struck_from {types} {new} columns wide p = record {
  full = p.full;
  keeps = p.keeps;
  fewer = p.fewer;
  stable = λ e. stable_from types new
      (λ a b x y. p.seen e a b (omega arith) x (omega arith) (omega arith) y);
}
