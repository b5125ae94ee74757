-- What is to be shown of an expression's code, and each shape of it: a leaf, a value alone, a condition.
use Rattle.std.proofs.Common.{◌≡◌, ℕ, suc, ◌+◌, Bool, true, false, ◌&&◌, List, [], ◌∷◌, map, length, Option, Some, None, refl}
use Rattle.std.proofs.Common.{subst, arith}
use Rattle.ec_code.specs.declared.code.Op.{Op}
use Rattle.ec_code.specs.declared.code.Op.TheVariants as op
use Rattle.ec_code.specs.declared.code.Test.TheVariants as test
use Rattle.ec_code.specs.declared.code.Variable.TheVariants as variable
use Rattle.ec_core.specs.declared.Expression.{Expression}
use Rattle.ec_core.specs.declared.Place.{Place}
use Rattle.ec_core.specs.declared.Place.TheVariants as place
use Rattle.ec_emission.proofs.Operands.{Works, value_asked}
use Rattle.ec_emission.proofs.Turns.{Setting, Standing, Comes, Turns, Asked, Decided, in_turn, framed, one, silent, nothing, kept_under}
use Rattle.ec_emission.specs.Expressions.{Emitted, Condition, holds, by_condition, fits_here, all_fit, all_code, needed_code}
use Rattle.ec_emission.specs.Expressions.{fetch}
use Rattle.ec_meaning.specs.Steps.{gives_if, value_at, evaluated}
use Rattle.ec_meaning.specs.declared.item.Item.{Item}
use Rattle.ec_meaning.specs.declared.item.Item.TheVariants as i
use Rattle.ec_emission.specs.Leaves.{Leaf, leaf_operand, temporary}
use Rattle.ec_emission.specs.Stands as at
use Rattle.ec_emission.specs.Stands.{Hold, Kept, Said, Own, all_kept}

pub both_true : (a b : Bool) → a && b ≡ true → (a ≡ true) × (b ≡ true)
both_true true true e = (refl, refl)
both_true true false e = cc
both_true false true e = cc
both_true false false e = cc

pub not_true : {A : Type 0} → false ≡ true → A
not_true e = cc

pub no_leaf : {A B : Type 0} → (a : A) → None ≡ Some a → B
no_leaf a e = cc

pub same_leaf : {A : Type 0} → (a b : A) → Some a ≡ Some b → a ≡ b
same_leaf a b e = cc

-- what is held behind an expression that may give no value
abbrev pub given : Bool → List Hold → List Hold
given true hs = Kept ∷ hs
given false hs = hs

-- what is done behind a truth, by which truth needs no more
abbrev pub needs : Bool → Expression → Item
needs false x = i.AndThen x
needs true x = i.OrElse x

module _ (w : Setting) where
  -- the code of an expression, it as an operand that needs none, it as the own object, and it as a condition
  pub record Emits (x : Expression) (e : Emitted) : Type 0 where
    pub code : (hs : List Hold) → Turns w (e.code (length hs)) hs (given e.gives hs) (i.Evaluate x ∷ []) []
    pub leaf : (l : Leaf) → e.leaf ≡ Some l → (hs : List Hold) → Turns w [] hs (Said l ∷ hs) (i.Evaluate x ∷ []) []
    pub own : e.is_itself ≡ true → (hs : List Hold) → Turns w (e.code (length hs)) hs (Own ∷ hs) (i.Evaluate x ∷ []) []
    pub condition : e.gives ≡ true → (hs : List Hold) → Asked w (e.condition (length hs)) hs (i.Evaluate x ∷ [])

  abbrev pub Good : Expression → Emitted → Type 0
  Good x e = e.fits ≡ true → Emits x e

  abbrev pub AllGood : List Expression → List Emitted → Type 0
  AllGood [] [] = Unit {0}
  AllGood [] (e ∷ es) = ⊥
  AllGood (x ∷ xs) [] = ⊥
  AllGood (x ∷ xs) (e ∷ es) = Good x e × AllGood xs es

  pub same_number : (xs : List Expression) (es : List Emitted) → AllGood xs es → length es ≡ length xs
  same_number [] [] a = refl
  same_number [] (e ∷ es) a = absurd a
  same_number (x ∷ xs) [] a = absurd a
  same_number (x ∷ xs) (e ∷ es) a = let f : length es ≡ length xs = same_number xs es a.1 in omega arith

  -- The item gives the value of a leaf.
  pub record Says (x : Item) (l : Leaf) : Type 0 where
    pub comes :
        Comes w x (λ own st. gives_if st (at.leaf_value w.source w.number w.captured w.count w.literals w.code w.Loop st l))
    pub there : at.IsThere w.source w.number w.captured w.count w.literals w.code w.Loop l

module _ {w : Setting} where
  pub works :
      {x : Expression} {e : Emitted} → Emits w x e → e.gives ≡ true → (hs : List Hold) → Works w e hs hs (i.Evaluate x ∷ [])
  works {x} {e} t g hs = record {
    code = subst (λ b. Turns w (e.code (length hs)) hs (given b hs) (i.Evaluate x ∷ []) []) g (t.code hs);
    leaf = λ l f. t.leaf l f hs;
  }

  -- an expression of which a value is wanted
  pub value :
      {x : Expression} {e : Emitted} → Good w x e → fits_here e ≡ true → (hs : List Hold) → Works w e hs hs (i.Evaluate x ∷ [])
  value {x} {e} t f hs = let b = both_true e.gives e.fits f in works (t b.1) b.0 hs

  -- ---- shapes

  -- code that gives a value or none, and maybe a leaf or the own object; no condition is known of it
  pub plain :
      {x : Expression} → (leaf : Option Leaf) → (is_itself : Bool) → (code : ℕ → List Op) → (gives fits : Bool) →
      ((hs : List Hold) → Turns w (code (length hs)) hs (given gives hs) (i.Evaluate x ∷ []) []) →
      ((l : Leaf) → leaf ≡ Some l → (hs : List Hold) → Turns w [] hs (Said l ∷ hs) (i.Evaluate x ∷ []) []) →
      (is_itself ≡ true → (hs : List Hold) → Turns w (code (length hs)) hs (Own ∷ hs) (i.Evaluate x ∷ []) []) →
      Emits
      w
      x
      (record { leaf = leaf; is_itself = is_itself; code = code; condition = holds leaf code; gives = gives; fits = fits })
  plain {x} leaf is_itself code gives fits t l o = record { code = t; leaf = l; own = o; condition = asked }
    where
      asked : gives ≡ true → (hs : List Hold) → Asked w (holds leaf code (length hs)) hs (i.Evaluate x ∷ [])
      asked g hs =
          let e : Emitted =
          record { leaf = leaf; is_itself = is_itself; code = code; condition = holds leaf code; gives = gives; fits = fits } in
          let v : Works w e hs hs (i.Evaluate x ∷ []) = record {
            code = subst (λ b. Turns w (code (length hs)) hs (given b hs) (i.Evaluate x ∷ []) []) g (t hs);
            leaf = λ k f. l k f hs;
          } in
          value_asked v

  pub by_its_code :
      {x : Expression} → (code : ℕ → List Op) → (gives fits : Bool) →
      ((hs : List Hold) → Turns w (code (length hs)) hs (given gives hs) (i.Evaluate x ∷ []) []) →
      Emits
      w
      x
      (record { leaf = None; is_itself = false; code = code; condition = holds None code; gives = gives; fits = fits })
  by_its_code code gives fits t = plain None false code gives fits t (λ l e hs. no_leaf l e) (λ e hs. not_true e)

  pub by_its_condition :
      {x : Expression} → (fits : Bool) → (condition : ℕ → Condition) →
      ((hs : List Hold) → Decided w (condition (length hs)) hs (i.Evaluate x ∷ [])) → Emits w x (by_condition fits condition)
  by_its_condition fits condition t = record {
    code = λ hs. let d = t hs in in_turn d.turns (one (λ q zs is k. at.decides d.decides is k));
    leaf = λ l e hs. no_leaf l e;
    own = λ e hs. not_true e;
    condition = λ g hs.
        let d = t hs in record { held = d.held; before = d.item ∷ []; asks = at.an_item d.decides; turns = d.turns };
  }

  -- ---- leaves and places

  pub says : {x : Item} {l : Leaf} → Says w x l → (hs : List Hold) → Turns w [] hs (Said l ∷ hs) (x ∷ []) []
  says {x} {l} t hs = silent (λ q zs d. at.says l t.comes t.there d)

  pub copied :
      {x : Item} {l : Leaf} → Says w x l → (hs : List Hold) →
      Turns w (op.Copy (variable.Temporary (length hs)) (leaf_operand l) ∷ []) hs (Kept ∷ hs) (x ∷ []) []
  copied {x} {l} t hs = one (λ q zs is d. at.copies l t.comes is d)

  pub fetched :
      {x : Item} → (p : Place) → Comes w x (λ own st. gives_if st (value_at w.source own st p)) → (hs : List Hold) →
      Turns w (fetch w.source w.captured w.count w.literals (variable.Temporary (length hs)) p ∷ []) hs (Kept ∷ hs) (x ∷ []) []
  fetched (place.Variable n) comes hs = one (λ q zs is d. at.fetches (place.Variable n) comes is d)
  fetched (place.Captured n) comes hs = one (λ q zs is d. at.fetches (place.Captured n) comes is d)
  fetched (place.Field n) comes hs = one (λ q zs is d. at.fetches (place.Field n) comes is d)
  fetched (place.Constant n) comes hs = one (λ q zs is d. at.fetches (place.Constant n) comes is d)

  -- ---- values one above the other

  pub all_held :
      (xs : List Expression) (es : List Emitted) → AllGood w xs es → all_fit es ≡ true → (hs : List Hold) →
      Turns w (all_code es (length hs)) hs (all_kept (length es) hs) (evaluated xs) []
  all_held [] [] a f hs = nothing
  all_held [] (e ∷ es) a f hs = absurd a
  all_held (x ∷ xs) [] a f hs = absurd a
  all_held (x ∷ xs) (e ∷ es) a f hs =
      let b = both_true (fits_here e) (all_fit es) f in
      in_turn (framed (evaluated xs) (value a.0 b.0 hs).code)
      (subst (λ ks. Turns w (all_code es (suc (length hs))) (Kept ∷ hs) ks (evaluated xs) []) (kept_under (length es) hs)
      (all_held xs es a.1 b.1 (Kept ∷ hs)))

  -- ---- and, or

  one_needed :
      (wanted : Bool) → {x : Expression} {e : Emitted} → Good w x e → fits_here e ≡ true → (hs : List Hold) →
      Turns w (op.Branch (test.Holds (temporary (length hs))) wanted (length (e.code (length hs))) ∷ e.code (length hs)) (Kept ∷ hs)
      (Kept ∷ hs) (needs wanted x ∷ []) []
  one_needed false {x} {e} g f hs = record {
    go = λ q r zs l p d.
        let n : r ≡ suc (q + length (e.code (length hs))) = omega arith in
        let m : r ≡ suc q + length (e.code (length hs)) = omega arith in
        at.and_then (length (e.code (length hs))) p.0 ((value g f hs).code.go (suc q) r zs m p.1 d)
        (subst (λ j. Standing w (Kept ∷ hs) j zs) n d);
  }
  one_needed true {x} {e} g f hs = record {
    go = λ q r zs l p d.
        let n : r ≡ suc (q + length (e.code (length hs))) = omega arith in
        let m : r ≡ suc q + length (e.code (length hs)) = omega arith in
        at.or_else (length (e.code (length hs))) p.0 ((value g f hs).code.go (suc q) r zs m p.1 d)
        (subst (λ j. Standing w (Kept ∷ hs) j zs) n d);
  }

  pub all_needed :
      (wanted : Bool) → (xs : List Expression) (es : List Emitted) → AllGood w xs es → all_fit es ≡ true → (hs : List Hold) →
      Turns w (needed_code wanted es (length hs)) (Kept ∷ hs) (Kept ∷ hs) (map (needs wanted) xs) []
  all_needed wanted [] [] a f hs = nothing
  all_needed wanted [] (e ∷ es) a f hs = absurd a
  all_needed wanted (x ∷ xs) [] a f hs = absurd a
  all_needed wanted (x ∷ xs) (e ∷ es) a f hs =
      let b = both_true (fits_here e) (all_fit es) f in
      in_turn (framed (map (needs wanted) xs) (one_needed wanted a.0 b.0 hs)) (all_needed wanted xs es a.1 b.1 hs)
