-- Objects that are kept by any numbers, of which those from 1 on were noted.
use Rattle.std.proofs.Common.{◌≡◌, ◌≢◌, ◌⊎◌, ℕ, zero, suc, ◌+◌, ◌<◌, ◌≤◌, [], Option, Some, None}
use Rattle.std.proofs.Common.{refl, sym, ap, ◌∙◌, subst, arith, inl, inr, ⊎_elim}
use Rattle.std.proofs.lemmas.Bool.Decides.{Decides-ltb, leb_tells}
use Rattle.std.specs.Prelude.{◌↔◌, Err, IsSome, IsTrue, nat_lt, Ok, OnErr, OnOk, Result, option_map, unwrap_or}
use Rattle.ec_cluster.proofs.Listing.{each-get, each-length, each-past}
use Rattle.ec_cluster.proofs.Noting.{with-other, with-same}
use Rattle.ec_cluster.specs.Located.{Located, made_at, moved_to, nothing_made}
use Rattle.ec_cluster.specs.Whereabouts.{AreNumbered, Gives, Traces, known_of, made_count, moves_of, numbered, place_at}
use Rattle.ec_forwarding.specs.Forwardings.{ObjectTraces, count_of_move, trace_at}
use Rattle.ec_forwarding.specs.Forwardings.{moves_of as moves_on, place_at as place_on}
use Rattle.ec_forwarding.specs.Traces.{Trace, first_trace, newest_of}
use Rattle.ec_world.proofs.Keys.{same_or_not}

is_noted : {B : Type 0} (f : Trace → B) (x : Option Trace) (y : B) → option_map f x ≡ Some y → IsSome x
is_noted f None y e = absurd cc
is_noted f (Some t) y e = refl

unwrapped : (x : Option Trace) (t : Trace) → IsSome x → Some (unwrap_or x t) ≡ x
unwrapped None t h = absurd cc
unwrapped (Some a) t h = refl

lacks : (x : Option Trace) → IsSome (option_map (λ t. (newest_of t).node) x) → x ≡ None → ⊥
lacks None h e = cc
lacks (Some t) h e = cc

pub within_or_past : (i n : ℕ) → (i ≤ n) ⊎ (n < i)
within_or_past i n = of (leb_tells i n)
  where
    of : {A B C D : Type 0} → (A × B) ⊎ (C × D) → B ⊎ D
    of (inl h) = inl h.1
    of (inr h) = inr h.1

abbrev kept_of : ObjectTraces → ℕ → Trace
kept_of d oid = unwrap_or (trace_at d oid) (first_trace 0)

pub count_is : (d : ObjectTraces) (n : ℕ) → made_count (numbered d n) ≡ n
count_is d n = each-length (kept_of d) 1 n

module _ (d : ObjectTraces) (n : ℕ) (are : AreNumbered d n) where
  known_next : (i : ℕ) → known_of (numbered d n) (suc i) ≡ trace_at d (suc i)
  known_next i = ⊎_elim
      (λ (h : suc i ≤ n).
      let at : 1 + i ≡ suc i = omega arith in
      each-get (kept_of d) 1 n i (omega (arith, h)) ∙ ap (λ k. Some (kept_of d k)) at
      ∙ unwrapped (trace_at d (suc i)) (first_trace 0) (are.noted (suc i) (omega arith) h))
      (λ (h : n < suc i). each-past (kept_of d) 1 n i (omega (arith, h)) ∙ sym (are.past (suc i) h))
      (within_or_past (suc i) n)

  -- what is known of an object is what is kept of it
  pub known_is : (oid : ℕ) → known_of (numbered d n) oid ≡ trace_at d oid
  known_is zero = sym are.none
  known_is (suc i) = known_next i

  pub place_is : (oid : ℕ) → place_at (numbered d n) oid ≡ place_on d oid
  place_is oid = ap (option_map (λ (t : Trace). (newest_of t).node)) (known_is oid)

  pub moves_is : (oid : ℕ) → moves_of (numbered d n) oid ≡ moves_on d oid
  moves_is oid = ap (λ (x : Option Trace). unwrap_or (option_map (λ t. (newest_of t).moves) x) 0) (known_is oid)

  -- what has a place was noted
  pub is_within : (oid : ℕ) → IsSome (place_on d oid) → (0 < oid) × (oid ≤ n)
  is_within zero h = absurd (lacks (trace_at d 0) h are.none)
  is_within (suc i) h = (
    omega arith,
    ⊎_elim
        (λ (l : suc i ≤ n). l)
        (λ (l : n < suc i). absurd (lacks (trace_at d (suc i)) h (are.past (suc i) l)))
        (within_or_past (suc i) n),
  )

  -- and what was noted has one
  pub noted_place : (oid : ℕ) → 0 < oid → oid ≤ n → IsSome (place_on d oid)
  noted_place oid p l = mapped (trace_at d oid) (are.noted oid p l)
    where
      mapped : (x : Option Trace) → IsSome x → IsSome (option_map (λ t. (newest_of t).node) x)
      mapped None h = absurd cc
      mapped (Some t) h = refl

  -- an object more
  module _ (d' : ObjectTraces) (oid at : ℕ) (next : oid ≡ suc n) (place : place_on d' oid ≡ Some at) (moves : moves_on d' oid ≡ 0)
      (others : (o : ℕ) → o ≢ oid → trace_at d' o ≡ trace_at d o) where
    pub one_more : AreNumbered d' oid
    one_more = record {
      noted = λ o p l. ⊎_elim
          (λ (e : o ≡ oid). is_noted (λ (t : Trace). (newest_of t).node) (trace_at d' o) at (ap (place_on d') e ∙ place))
          (λ (ne : o ≢ oid). rw (others o ne) (are.noted o p (omega (arith, l, next, ne))))
          (same_or_not o oid);
      none = others 0 (λ e. absurd (omega (arith, e, next))) ∙ are.none;
      past = λ o l. others o (λ e. absurd (omega (arith, e, l))) ∙ are.past o (omega (arith, l, next));
    }

  -- the same objects
  module _ (d' : ObjectTraces) (same : (o : ℕ) → IsSome (trace_at d o) → IsSome (trace_at d' o))
      (none : (o : ℕ) → trace_at d o ≡ None → trace_at d' o ≡ None) where
    pub as_many : AreNumbered d' n
    as_many = record {
      noted = λ o p l. same o (are.noted o p l);
      none = none 0 are.none;
      past = λ o l. none o (are.past o l);
    }

-- as it is seen
module _ (d : ObjectTraces) (n : ℕ) (are : AreNumbered d n) (now : Traces) (is : numbered d n ≡ now) where
  pub count_now : made_count now ≡ n
  count_now = sym (ap made_count is) ∙ count_is d n

  pub known_now : (oid : ℕ) → known_of now oid ≡ trace_at d oid
  known_now oid = sym (ap (λ (x : Traces). known_of x oid) is) ∙ known_is d n are oid

  pub place_now : (oid : ℕ) → place_at now oid ≡ place_on d oid
  place_now oid = ap (option_map (λ (t : Trace). (newest_of t).node)) (known_now oid)

  pub moves_now : (oid : ℕ) → moves_of now oid ≡ moves_on d oid
  moves_now oid = ap (λ (x : Option Trace). unwrap_or (option_map (λ t. (newest_of t).moves) x) 0) (known_now oid)

  -- it has a place just where it was noted
  pub is_made : (oid : ℕ) (place : Option ℕ) → place ≡ place_on d oid → IsSome place → (0 < oid) × (oid ≤ made_count now)
  is_made oid place e h =
      let l = is_within d n are oid (subst (λ (x : Option ℕ). IsSome x) e h) in
      let low = l.1 in
      (l.0, omega (arith, low, count_now))

  pub made_is : (oid : ℕ) (place : Option ℕ) → place ≡ place_on d oid → (0 < oid) × (oid ≤ made_count now) → IsSome place
  made_is oid place e l =
      let low = l.1 in
      subst (λ (x : Option ℕ). IsSome x) (sym e) (noted_place d n are oid l.0 (omega (arith, low, count_now)))

-- before any object is noted
pub none_numbered : (d : ObjectTraces) → d ≡ [] → AreNumbered d 0
none_numbered d e = record {
  noted = λ oid p l. absurd (omega (arith, p, l));
  none = ap (λ (x : ObjectTraces). trace_at x 0) e;
  past = λ oid l. ap (λ (x : ObjectTraces). trace_at x oid) e;
}

pub gives_none : (d : ObjectTraces) → d ≡ [] → Gives (numbered d 0) nothing_made
gives_none d e = record {
  made = count_is d 0;
  places = λ oid. place_is d 0 (none_numbered d e) oid ∙ ap (λ (x : ObjectTraces). place_on x oid) e;
  moves = λ oid. moves_is d 0 (none_numbered d e) oid ∙ ap (λ (x : ObjectTraces). moves_on x oid) e;
}

-- after an object is made
module _ (d d' : ObjectTraces) (n : ℕ) (are : AreNumbered d n) (oid at : ℕ) (next : oid ≡ suc n) (place : place_on d' oid ≡ Some at)
    (moves : moves_on d' oid ≡ 0) (others : (o : ℕ) → o ≢ oid → trace_at d' o ≡ trace_at d o) where
  place_then : (w : Located) (o : ℕ) → Gives (numbered d n) w → place_on d' o ≡ (made_at w oid at).place o
  place_then w o gives = ⊎_elim
      (λ (e : o ≡ oid). ap (place_on d') e ∙ place ∙ sym (with-same w.place oid o (Some at) e))
      (λ (ne : o ≢ oid).
      ap (option_map (λ (t : Trace). (newest_of t).node)) (others o ne) ∙ sym (place_is d n are o) ∙ gives.places o
      ∙ sym (with-other w.place oid o (Some at) ne))
      (same_or_not o oid)

  moves_then : (w : Located) (o : ℕ) → Gives (numbered d n) w → moves_on d' o ≡ (made_at w oid at).moves o
  moves_then w o gives = ⊎_elim
      (λ (e : o ≡ oid). ap (moves_on d') e ∙ moves ∙ sym (with-same w.moves oid o 0 e))
      (λ (ne : o ≢ oid).
      ap (λ (x : Option Trace). unwrap_or (option_map (λ t. (newest_of t).moves) x) 0) (others o ne) ∙ sym (moves_is d n are o)
      ∙ gives.moves o ∙ sym (with-other w.moves oid o 0 ne))
      (same_or_not o oid)

  pub gives_made : (w : Located) → Gives (numbered d n) w → Gives (numbered d' oid) (made_at w oid at)
  gives_made w gives =
      let are' = one_more d n are d' oid at next place moves others in
      record {
        made = count_is d' oid ∙ next ∙ ap suc (sym (count_is d n) ∙ gives.made);
        places = λ o. place_is d' oid are' o ∙ place_then w o gives;
        moves = λ o. moves_is d' oid are' o ∙ moves_then w o gives;
      }

-- after one goes
module _ (d d' : ObjectTraces) (n : ℕ) (are : AreNumbered d n) (oid from to : ℕ) (was : place_on d oid ≡ Some from)
    (place : place_on d' oid ≡ Some to) (moves : moves_on d' oid ≡ moves_on d oid + count_of_move from to)
    (others : (o : ℕ) → o ≢ oid → trace_at d' o ≡ trace_at d o) where
  pub numbered_on : AreNumbered d' n
  numbered_on = as_many d n are d'
      (λ o h. ⊎_elim
      (λ (e : o ≡ oid). is_noted (λ (t : Trace). (newest_of t).node) (trace_at d' o) to (ap (place_on d') e ∙ place))
      (λ (ne : o ≢ oid). rw (others o ne) h)
      (same_or_not o oid))
      (λ o h. others o (λ e.
      let there = is_noted (λ (t : Trace). (newest_of t).node) (trace_at d o) from (ap (place_on d) e ∙ was) in
      absurd (no (trace_at d o) there h)) ∙ h)
    where
      no : (x : Option Trace) → IsSome x → x ≡ None → ⊥
      no x h e = cc

  place_gone : (w : Located) (o : ℕ) → Gives (numbered d n) w → place_on d' o ≡ (moved_to w oid from to).place o
  place_gone w o gives = ⊎_elim
      (λ (e : o ≡ oid). ap (place_on d') e ∙ place ∙ sym (with-same w.place oid o (Some to) e))
      (λ (ne : o ≢ oid).
      ap (option_map (λ (t : Trace). (newest_of t).node)) (others o ne) ∙ sym (place_is d n are o) ∙ gives.places o
      ∙ sym (with-other w.place oid o (Some to) ne))
      (same_or_not o oid)

  moves_gone : (w : Located) (o : ℕ) → Gives (numbered d n) w → moves_on d' o ≡ (moved_to w oid from to).moves o
  moves_gone w o gives =
      let count = count_of_move from to in
      ⊎_elim
      (λ (e : o ≡ oid).
      ap (moves_on d') e ∙ moves ∙ ap (λ m. m + count) (sym (moves_is d n are oid) ∙ gives.moves oid)
      ∙ sym (with-same w.moves oid o (w.moves oid + count) e))
      (λ (ne : o ≢ oid).
      ap (λ (x : Option Trace). unwrap_or (option_map (λ t. (newest_of t).moves) x) 0) (others o ne) ∙ sym (moves_is d n are o)
      ∙ gives.moves o ∙ sym (with-other w.moves oid o (w.moves oid + count) ne))
      (same_or_not o oid)

  pub gives_gone : (w : Located) → Gives (numbered d n) w → Gives (numbered d' n) (moved_to w oid from to)
  gives_gone w gives = record {
    made = count_is d' n ∙ sym (count_is d n) ∙ gives.made;
    places = λ o. place_is d' n numbered_on o ∙ place_gone w o gives;
    moves = λ o. moves_is d' n numbered_on o ∙ moves_gone w o gives;
  }

-- where the move may not have been noted
pub numbered_moved : {A E : Type 0} (d d' : ObjectTraces) (n : ℕ) → AreNumbered d n → (oid from to : ℕ) → place_on d oid ≡ Some from →
    ((o : ℕ) → o ≢ oid → trace_at d' o ≡ trace_at d o) → (r : Result A E) → OnOk r (place_on d' oid ≡ Some to) →
    OnOk r (moves_on d' oid ≡ moves_on d oid + count_of_move from to) → OnErr r (d' ≡ d) → AreNumbered d' n
numbered_moved d d' n are oid from to was others (Ok a) place moves same = numbered_on d d' n are oid from to was place moves others
numbered_moved d d' n are oid from to was others (Err e) place moves same = subst (λ x. AreNumbered x n) (sym same) are

pub gives_moved : {A E : Type 0} (d d' : ObjectTraces) (n : ℕ) → AreNumbered d n → (oid from to : ℕ) → place_on d oid ≡ Some from →
    ((o : ℕ) → o ≢ oid → trace_at d' o ≡ trace_at d o) → (r : Result A E) → OnOk r (place_on d' oid ≡ Some to) →
    OnOk r (moves_on d' oid ≡ moves_on d oid + count_of_move from to) → (w : Located) → Gives (numbered d n) w →
    OnOk r (Gives (numbered d' n) (moved_to w oid from to))
gives_moved d d' n are oid from to was others (Ok a) place moves w gives =
    gives_gone d d' n are oid from to was place moves others w gives
gives_moved d d' n are oid from to was others (Err e) place moves w gives = tt

-- after one was looked for
module _ (d d' : ObjectTraces) (n : ℕ) (are : AreNumbered d n) (places : (o : ℕ) → place_on d' o ≡ place_on d o)
    (moves : (o : ℕ) → moves_on d' o ≡ moves_on d o) where
  same_some : (x y : Option Trace) → option_map (λ t. (newest_of t).node) x ≡ option_map (λ t. (newest_of t).node) y → IsSome y → IsSome x
  same_some x None e h = absurd cc
  same_some None (Some t) e h = absurd cc
  same_some (Some u) (Some t) e h = refl

  same_none : (x y : Option Trace) → option_map (λ t. (newest_of t).node) x ≡ option_map (λ t. (newest_of t).node) y → y ≡ None → x ≡ None
  same_none None y e h = refl
  same_none (Some u) None e h = absurd cc
  same_none (Some u) (Some t) e h = absurd cc

  pub numbered_still : AreNumbered d' n
  numbered_still = as_many d n are d' (λ o. same_some (trace_at d' o) (trace_at d o) (places o))
      (λ o. same_none (trace_at d' o) (trace_at d o) (places o))

  pub gives_still : (w : Located) → Gives (numbered d n) w → Gives (numbered d' n) w
  gives_still w gives = record {
    made = count_is d' n ∙ sym (count_is d n) ∙ gives.made;
    places = λ o. place_is d' n numbered_still o ∙ places o ∙ sym (place_is d n are o) ∙ gives.places o;
    moves = λ o. moves_is d' n numbered_still o ∙ moves o ∙ sym (moves_is d n are o) ∙ gives.moves o;
  }

-- a move to the node where the object is
pub same_stays : {A E : Type 0} (P : Type 0) (d d' : ObjectTraces) (n : ℕ) (now : Traces) → numbered d n ≡ now → (r : Result A E) →
    OnOk r (P → d' ≡ d) → OnOk r (P → numbered d' n ≡ now)
same_stays P d d' n now is (Ok a) same = λ p. ap (λ (x : ObjectTraces). numbered x n) (same p) ∙ is
same_stays P d d' n now is (Err e) same = tt

-- a test of a number by another that is the same
pub less_by : (m n most : ℕ) → m ≡ n → IsTrue (nat_lt m most) ↔ (n < most)
less_by m n most e = subst (λ (x : ℕ). IsTrue (nat_lt m most) ↔ (x < most)) e (Decides-ltb m most)
