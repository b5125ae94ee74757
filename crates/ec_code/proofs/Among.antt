-- Variables and places that are among others, and what marks say of them.
use Rattle.std.proofs.Common.{◌≡◌, ◌≢◌, ℕ, Bool, true, false, not, ◌&&◌, ◌||◌, ◌⊎◌, inl, inr, ⊎_elim, List, [], ◌∷◌, ◌++◌}
use Rattle.std.proofs.Common.{Option, Some, None, slice_get, refl, sym, ap, subst, arith, eqb-true, eq-eqb}
use Rattle.std.proofs.lemmas.Bool.{or_cases, and_parts}
use Rattle.ec_code.specs.Fine.{IsIn}
use Rattle.ec_code.specs.declared.code.Op.{Op}
use Rattle.ec_code.specs.declared.code.Variable.{Variable}
use Rattle.ec_code.specs.declared.code.Variable.TheVariants.{Named, Temporary}
use Rattle.ec_code.specs.Live.{reads, writes, goes_on, IsLive, is_read, is_passed}
use Rattle.ec_code.specs.Marks.{is_same, is_among, is_written, is_marked, any_marked, lives, OnlyLive, NoneMissing}

-- ---- truths

or_left : (a b : Bool) → a ≡ true → (a || b) ≡ true
or_left true b h = refl
or_left false b h = absurd (let e : false ≡ true = h in cc)

or_right : (a b : Bool) → b ≡ true → (a || b) ≡ true
or_right true b h = refl
or_right false b h = h

both : (a b : Bool) → a ≡ true → b ≡ true → (a && b) ≡ true
both true b h k = k
both false b h k = absurd (let e : false ≡ true = h in cc)

pub false_of : (b : Bool) → not b ≡ true → b ≡ false
false_of true h = absurd (let e : false ≡ true = h in cc)
false_of false h = refl

not_false : (b : Bool) → (b ≡ true → ⊥) → not b ≡ true
not_false true h = absurd (h refl)
not_false false h = refl

marked_if : (m l : Bool) → (not m && l) ≡ false → l ≡ true → m ≡ true
marked_if true l h e = refl
marked_if false l h e = absurd (let f : l ≡ false = h in cc)

-- ---- lists

module _ {A : Type 0} where
  pub in_append : (x : A) (ys zs : List A) → IsIn x (ys ++ zs) → IsIn x ys ⊎ IsIn x zs
  in_append x [] zs h = inr h
  in_append x (y ∷ ys) zs (inl e) = inl (inl e)
  in_append x (y ∷ ys) zs (inr i) = ⊎_elim (λ j. inl (inr j)) (λ j. inr j) (in_append x ys zs i)

  pub in_left : (x : A) (ys zs : List A) → IsIn x ys → IsIn x (ys ++ zs)
  in_left x [] zs h = absurd h
  in_left x (y ∷ ys) zs (inl e) = inl e
  in_left x (y ∷ ys) zs (inr i) = inr (in_left x ys zs i)

  pub in_right : (x : A) (ys zs : List A) → IsIn x zs → IsIn x (ys ++ zs)
  in_right x [] zs h = h
  in_right x (y ∷ ys) zs h = inr (in_right x ys zs h)

-- ---- variables

pub same_is : (x y : Variable) → is_same x y ≡ true → x ≡ y
same_is (Named m) (Named n) h = ap Named (eqb-true m n h)
same_is (Named m) (Temporary e) h = absurd (let f : false ≡ true = h in cc)
same_is (Temporary d) (Named n) h = absurd (let f : false ≡ true = h in cc)
same_is (Temporary d) (Temporary e) h = ap Temporary (eqb-true d e h)

pub is_same_self : (x : Variable) → is_same x x ≡ true
is_same_self (Named m) = eq-eqb m m refl
is_same_self (Temporary d) = eq-eqb d d refl

pub among_in : (x : Variable) (ys : List Variable) → is_among x ys ≡ true → IsIn x ys
among_in x [] h = absurd (let f : false ≡ true = h in cc)
among_in x (y ∷ ys) h =
    ⊎_elim (λ e. inl (same_is x y e)) (λ e. inr (among_in x ys e)) (or_cases (is_same x y) (is_among x ys) h)

pub in_among : (x : Variable) (ys : List Variable) → IsIn x ys → is_among x ys ≡ true
in_among x [] h = absurd h
in_among x (y ∷ ys) (inl e) =
    or_left (is_same x y) (is_among x ys) (subst (λ z. is_same x z ≡ true) e (is_same_self x))
in_among x (y ∷ ys) (inr i) = or_right (is_same x y) (is_among x ys) (in_among x ys i)

unwritten : (w : Option Variable) (x : Variable) → is_written w x ≡ false → w ≢ Some x
unwritten None x h e = cc
unwritten (Some y) x h e =
    let f : x ≡ y = cc in
    let t : is_same x y ≡ true = subst (λ z. is_same x z ≡ true) f (is_same_self x) in
    cc

not_written : (w : Option Variable) (x : Variable) → w ≢ Some x → not (is_written w x) ≡ true
not_written None x h = refl
not_written (Some y) x h = not_false (is_same x y) (λ t. h (ap Some (sym (same_is x y t))))

-- ---- places

-- one of these that is marked
marked_in : (marks : List Bool) (ps : List ℕ) → any_marked marks ps ≡ true → (p : ℕ) × IsIn p ps × (is_marked marks p ≡ true)
marked_in marks [] h = absurd (let f : false ≡ true = h in cc)
marked_in marks (p ∷ ps) h =
    ⊎_elim (λ e. (p, inl refl, e)) (λ e. let m = marked_in marks ps e in (m.0, inr m.1, m.2))
    (or_cases (is_marked marks p) (any_marked marks ps) h)

in_marked : (marks : List Bool) (ps : List ℕ) (p : ℕ) → IsIn p ps → is_marked marks p ≡ true → any_marked marks ps ≡ true
in_marked marks [] p h e = absurd h
in_marked marks (r ∷ ps) p (inl same) e =
    or_left (is_marked marks r) (any_marked marks ps) (subst (λ z. is_marked marks z ≡ true) same e)
in_marked marks (r ∷ ps) p (inr i) e = or_right (is_marked marks r) (any_marked marks ps) (in_marked marks ps p i e)

-- Where the variable is live at each marked place, it is live where these say so.
pub live_by : (code : List Op) (x : Variable) (marks : List Bool) (q : ℕ) (o : Op) → OnlyLive code x marks → slice_get code q ≡ Some o →
    lives marks x q o ≡ true → IsLive code q x
live_by code x marks q o only is h = ⊎_elim (λ r. is_read o is (among_in x (reads o) r)) passed (or_cases _ _ h)
  where
    passed : (not (is_written (writes o) x) && any_marked marks (goes_on o q)) ≡ true → IsLive code q x
    passed p =
        let parts = and_parts (not (is_written (writes o) x)) (any_marked marks (goes_on o q)) p in
        let m = marked_in marks (goes_on o q) parts.1 in
        is_passed o m.0 is (unwritten (writes o) x (false_of _ parts.0)) m.1 (only m.0 m.2)

-- Where none is missing, each place at which the variable is live is marked.
pub all_marked : {code : List Op} {q : ℕ} {x : Variable} (marks : List Bool) → NoneMissing code x 0 marks → IsLive code q x →
    is_marked marks q ≡ true
all_marked {q} {x} marks none (is_read o is r) =
    marked_if (is_marked marks q) (lives marks x q o) (none q o (omega arith) is)
    (or_left (is_among x (reads o)) (not (is_written (writes o) x) && any_marked marks (goes_on o q)) (in_among x (reads o) r))
all_marked {q} {x} marks none (is_passed o p is w g l) =
    let behind : any_marked marks (goes_on o q) ≡ true = in_marked marks (goes_on o q) p g (all_marked marks none l) in
    marked_if (is_marked marks q) (lives marks x q o) (none q o (omega arith) is)
    (or_right (is_among x (reads o)) (not (is_written (writes o) x) && any_marked marks (goes_on o q))
    (both (not (is_written (writes o) x)) (any_marked marks (goes_on o q)) (not_written (writes o) x w) behind))
