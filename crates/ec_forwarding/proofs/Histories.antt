-- Addresses that are right by an object's history.
use Rattle.std.proofs.Common.{◌≡◌, ◌≢◌, ◌⊎◌, ℕ, zero, suc, ◌<◌, ◌≤◌}
use Rattle.std.proofs.Common.{List, [], ◌∷◌, ◌++◌, length, Some, None, Option, Bool, true, false, cond}
use Rattle.std.proofs.Common.{refl, ap, sym, ◌∙◌, arith, inl, inr, subst}
use Rattle.std.specs.Prelude.{Err, IfOk, Ok, OnErr, Result}
use Rattle.std.proofs.lemmas.Bool.Decides.{eqb_tells, nat_tests}
use Rattle.std.specs.Prelude.{◌==◌, IsSome, slice_get}
use Rattle.ec_base.proofs.Lists.{get_within}
use Rattle.ec_forwarding.proofs.Leading.{since, with_other, with_same}
use Rattle.ec_forwarding.proofs.Newest.{is_right}
use Rattle.ec_forwarding.proofs.Searching.{each}
use Rattle.ec_forwarding.specs.Addresses.{Addresses, AreRight, IsSince, address_in, with_address}
use Rattle.ec_forwarding.specs.Following.{AreNewer, IsFound, Leads, named, own_or_made}
use Rattle.ec_forwarding.specs.Traces.{IsTraceOf, Trace, addresses_of, first_trace, newest_of, start_of}
use Rattle.ec_forwarding.specs.declared.address.Address.{Address}
use Rattle.ec_forwarding.specs.declared.address.Known.{Known}

same_node : (i j : ℕ) → Some i ≡ Some j → i ≡ j
same_node i j e = cc

get_push_last : (h : List ℕ) (k : ℕ) → slice_get (h ++ k ∷ []) (length h) ≡ Some k
get_push_last [] k = refl
get_push_last (x ∷ xs) k = get_push_last xs k

get_push_other : (h : List ℕ) (k i : ℕ) → i ≢ length h → slice_get (h ++ k ∷ []) i ≡ slice_get h i
get_push_other [] k zero e = absurd (e refl)
get_push_other [] k (suc i) e = refl
get_push_other (x ∷ xs) k zero e = refl
get_push_other (x ∷ xs) k (suc i) e = get_push_other xs k i (λ q. e (ap suc q))

length_push : (h : List ℕ) (k : ℕ) → length (h ++ k ∷ []) ≡ suc (length h)
length_push [] k = refl
length_push (x ∷ xs) k = ap suc (length_push xs k)

some_since : (c : ℕ) (o : Option Address) → IsSince c o → IsSome o
some_since c o h = let it = since c o h in rw it.1 refl

is_since : (c : ℕ) (o : Option Address) (a : Address) → o ≡ Some a → c ≤ a.moves → IsSince c o
is_since c o a e h = rw e h

-- where the object is, and how often it has moved
pub record IsLast (h : List ℕ) (m : Address) : Type 0 where
  pub at : slice_get h m.moves ≡ Some m.node
  pub moves : suc m.moves ≡ length h

same_address : (a b : Address) → a.node ≡ b.node → a.moves ≡ b.moves → a ≡ b
same_address a b e f =
    let node : a ≡ record { node = b.node; moves = a.moves } = ap (λ (n : ℕ). record { node = n; moves = a.moves }) e in
    node ∙ ap (λ (n : ℕ). record { node = b.node; moves = n }) f

-- a history has one last node
pub same_last : (h : List ℕ) (a b : Address) → IsLast h a → IsLast h b → a ≡ b
same_last h a b p q =
    let one = p.moves in
    let other = q.moves in
    let moves : a.moves ≡ b.moves = omega arith in
    same_address a b (same_node a.node b.node (sym p.at ∙ ap (slice_get h) moves ∙ q.at)) moves

module _ (h : List ℕ) (A : Addresses) (m : Address) (right : AreRight h A) (last : IsLast h m) where
  -- an address that names the node itself is the newest's
  at_place : (k : ℕ) (a : Address) → A k ≡ Some a → a.node ≡ k → k ≡ m.node
  at_place k a e is =
      let own = right.own k a e is in
      let moves = last.moves in
      let same : a.moves ≡ m.moves = omega arith in
      sym is ∙ same_node a.node m.node (sym (right.say k a e) ∙ ap (slice_get h) same ∙ last.at)

  pub place_known : IsSome (A m.node)
  place_known = some_since m.moves (A m.node) (right.known m.moves m.node last.at)

  no_newer : (k : ℕ) (a : Address) → A k ≡ Some a → a.moves ≤ m.moves
  no_newer k a e =
      let less = get_within h a.moves a.node (right.say k a e) in
      let moves = last.moves in
      omega arith

  -- the node where the object is has the newest itself
  pub own_is : A m.node ≡ Some m
  own_is =
      let it = since m.moves (A m.node) (right.known m.moves m.node last.at) in
      let no_older = it.2 in
      let none_newer = no_newer m.node it.0 it.1 in
      let same : it.0.moves ≡ m.moves = omega (arith, no_older, none_newer) in
      let node = same_node it.0.node m.node (sym (right.say m.node it.0 it.1) ∙ ap (slice_get h) same ∙ last.at) in
      it.1 ∙ ap Some (same_address it.0 m node same)

  pub leads_to : Leads A m
  leads_to = record {
    on = λ k a e away.
        let says = right.say k a e in
        let it = since a.moves (A a.node) (right.known a.moves a.node says) in
        let newer : a.moves ≢ it.0.moves = λ same.
        let to : it.0.node ≡ a.node = same_node it.0.node a.node (sym (right.say a.node it.0 it.1) ∙ ap (slice_get h) (sym same) ∙ says) in
        away (at_place a.node it.0 it.1 to) in
        let no_older = it.2 in
        is_since (suc a.moves) (A a.node) it.0 it.1 (omega arith);
    own = own_is;
    old = no_newer;
  }

  -- so that it is found from there in no hop
  no_hop : (made hops : ℕ) → IsFound A (own_or_made (A m.node) m.node made) m.node hops → hops ≡ 0
  no_hop made zero found = refl
  no_hop made (suc n) found =
      absurd (found.first 0 (omega arith) (ap (λ (o : Option Address). named (A (own_or_made o m.node made))) own_is ∙ ap named own_is))

  -- addresses that are the newest in place of what they were are right
  pub still_right : (B : Addresses) → ((k : ℕ) → (B k ≡ A k) ⊎ (B k ≡ Some m)) → AreRight h B
  still_right B each = record {
    say = λ k a e. elim (each k) as (λ _. slice_get h a.moves ≡ Some a.node) [
      | inl same ↦ right.say k a (sym same ∙ e)
      | inr new ↦
          let is : m ≡ a = let it = sym new ∙ e in cc in
          sym (ap (λ (x : Address). slice_get h x.moves) is) ∙ last.at ∙ ap (λ (x : Address). Some x.node) is
    ];
    known = λ c k e. elim (each k) as (λ _. IsSince c (B k)) [
      | inl same ↦ rw same (right.known c k e)
      | inr new ↦
          let less = get_within h c k e in
          let moves = last.moves in
          is_since c (B k) m new (omega arith)
    ];
    own = λ k a e is. elim (each k) as (λ _. suc a.moves ≡ length h) [
      | inl same ↦ right.own k a (sym same ∙ e) is
      | inr new ↦
          let is : m ≡ a = let it = sym new ∙ e in cc in
          sym (ap (λ (x : Address). suc x.moves) is) ∙ last.moves
    ];
  }

  -- after a move
  module _ (to : ℕ) (elsewhere : m.node ≢ to) (B : Addresses) (u : Address) (at : u.node ≡ to) (one : u.moves ≡ suc m.moves)
      (known : (k : ℕ) → B k ≡ with_address (with_address A to u) m.node u k) where
    -- the two nodes of the move have the newest address, and the others what they had
    abbrev IsEither : ℕ → Type 0
    IsEither k = (B k ≡ Some u) ⊎ ((k ≢ m.node) × (B k ≡ A k))

    split : (k : ℕ) → IsEither k
    split k = elim (eqb_tells k m.node) as (λ _. IsEither k) [
      | inl is ↦ inl (known k ∙ with_same (with_address A to u) m.node u k is.1)
      | inr away ↦
          let rest = known k ∙ with_other (with_address A to u) m.node u k away.1 in
          elim (eqb_tells k to) as (λ _. IsEither k) [
            | inl is ↦ inl (rest ∙ with_same A to u k is.1)
            | inr apart ↦ inr (away.1, rest ∙ with_other A to u k apart.1)
          ]
    ]

    pub last_on : IsLast (h ++ to ∷ []) u
    last_on = record {
      at = ap (slice_get (h ++ to ∷ [])) (one ∙ last.moves) ∙ get_push_last h to ∙ ap Some (sym at);
      moves = ap suc (one ∙ last.moves) ∙ sym (length_push h to);
    }

    new_to : B to ≡ Some u
    new_to =
        known to ∙ with_other (with_address A to u) m.node u to (λ e. elsewhere (sym e)) ∙ with_same A to u to refl

    pub right_on : AreRight (h ++ to ∷ []) B
    right_on = record {
      say = λ k a e. elim (split k) as (λ _. slice_get (h ++ to ∷ []) a.moves ≡ Some a.node) [
        | inl new ↦
            let is : u ≡ a = let it = sym new ∙ e in cc in
            sym (ap (λ (x : Address). slice_get (h ++ to ∷ []) x.moves) is) ∙ last_on.at ∙ ap (λ (x : Address). Some x.node) is
        | inr old ↦
            let says = right.say k a (sym old.1 ∙ e) in
            let less = get_within h a.moves a.node says in
            get_push_other h to a.moves (λ q. omega arith) ∙ says
      ];
      known = λ c k e. elim (split k) as (λ _. IsSince c (B k)) [
        | inl new ↦
            let less = get_within (h ++ to ∷ []) c k e in
            let moves = last_on.moves in
            is_since c (B k) u new (omega arith)
        | inr old ↦ elim (eqb_tells c (length h)) as (λ _. IsSince c (B k)) [
          | inl is ↦
              let same : to ≡ k = same_node to k (sym (get_push_last h to) ∙ ap (slice_get (h ++ to ∷ [])) (sym is.1) ∙ e) in
              let moves = last_on.moves in
              let long = length_push h to in
              let at = is.1 in
              is_since c (B k) u (ap B (sym same) ∙ new_to) (omega arith)
          | inr away ↦ rw old.1 (right.known c k (sym (get_push_other h to c away.1) ∙ e))
        ]
      ];
      own = λ k a e is. elim (split k) as (λ _. suc a.moves ≡ length (h ++ to ∷ [])) [
        | inl new ↦
            let it : u ≡ a = let it = sym new ∙ e in cc in
            sym (ap (λ (x : Address). suc x.moves) it) ∙ last_on.moves
        | inr old ↦ absurd (old.0 (at_place k a (sym old.1 ∙ e) is))
      ];
    }

-- the newest of the addresses that nodes have is where the history ends
last_node : (h : List ℕ) (c : ℕ) → c < length h → (k : ℕ) × (slice_get h c ≡ Some k)
last_node [] c less = absurd (omega arith)
last_node (x ∷ xs) zero less = (x, refl)
last_node (x ∷ xs) (suc c) less = last_node xs c (omega arith)

newest_last : (h : List ℕ) (ns : List Known) (t : Trace) (c : ℕ) → suc c ≡ length h → IsTraceOf h t → IsLast h (newest_of t)
newest_last h ns t c long trace =
    let k = last_node h c (omega arith) in
    let it = since c (addresses_of t k.0) (trace.right.known c k.0 k.1) in
    let right = is_right h (addresses_of t) trace.right.say t.known k.0 it.0 it.1 (rw it.1 refl) in
    let less = get_within h (newest_of t).moves (newest_of t).node right.0 in
    let no_older = it.2 in
    let newer = right.1 in
    record { at = right.0; moves = omega (arith, less, no_older, newer, long) }

pub is_last : (h : List ℕ) (t : Trace) → IsTraceOf h t → IsLast h (newest_of t)
is_last [] t trace = absurd cc
is_last (x ∷ xs) t trace = newest_last (x ∷ xs) t.known t (length xs) refl trace

module _ (h : List ℕ) (t : Trace) (trace : IsTraceOf h t) where
  pub made_known : IsSome (addresses_of t t.made)
  made_known = some_since 0 (addresses_of t t.made) (trace.right.known 0 t.made trace.first)

  pub leads : Leads (addresses_of t) (newest_of t)
  leads = leads_to h (addresses_of t) (newest_of t) trace.right (is_last h t trace)

  pub place_own : addresses_of t (newest_of t).node ≡ Some (newest_of t)
  place_own = own_is h (addresses_of t) (newest_of t) trace.right (is_last h t trace)

  pub no_hops : {E : Type 0} (from : ℕ) (r : Result (ℕ × ℕ) E) → IfOk r (λ answer. answer.0 ≡ (newest_of t).node) →
      IfOk r (λ answer. IsFound (addresses_of t) (start_of t from) (newest_of t).node answer.1) →
      IfOk r (λ answer. from ≡ answer.0 → answer.1 ≡ 0)
  no_hops from (Ok answer) place found = λ e.
      no_hop h (addresses_of t) (newest_of t) trace.right (is_last h t trace) t.made answer.1
      (subst (λ k. IsFound (addresses_of t) (start_of t k) (newest_of t).node answer.1) (e ∙ place) found)
  no_hops from (Err x) place found = tt

-- after a search
searched : (h : List ℕ) (t : Trace) (new : List Known) (from k hops : ℕ) →
    AreNewer (addresses_of t) (address_in new) from k hops (newest_of t) → IsTraceOf h t → IsTraceOf h (record { made = t.made; known = new })
searched h t new from k hops newer trace = record {
  first = trace.first;
  right = still_right h (addresses_of t) (newest_of t) trace.right (is_last h t trace) (address_in new)
      (each (addresses_of t) (address_in new) from k hops (newest_of t) newer);
}

-- after a search that may have failed
pub kept : {E : Type 0} (h : List ℕ) (t : Trace) (new : List Known) (from k : ℕ) (r : Result (ℕ × ℕ) E) →
    IfOk r (λ answer. AreNewer (addresses_of t) (address_in new) from k answer.1 (newest_of t)) → OnErr r (new ≡ t.known) → IsTraceOf h t →
    IsTraceOf h (record { made = t.made; known = new })
kept h t new from k (Ok answer) newer same trace = searched h t new from k answer.1 newer trace
kept h t new from k (Err e) newer same trace =
    let P : List Known → Type 0 = λ ns. IsTraceOf h (record { made = t.made; known = ns }) in
    subst P (sym same) trace

pub newest_kept : (h : List ℕ) (t u : Trace) → IsTraceOf h t → IsTraceOf h u → newest_of u ≡ newest_of t
newest_kept h t u old new = same_last h (newest_of u) (newest_of t) (is_last h u new) (is_last h t old)

-- after a move
module _ (h : List ℕ) (t : Trace) (to : ℕ) (new : List Known) (newest : Address) (elsewhere : (newest_of t).node ≢ to)
    (at : newest.node ≡ to) (one : newest.moves ≡ suc (newest_of t).moves)
    (known : (k : ℕ) → address_in new k ≡ with_address (with_address (addresses_of t) to newest) (newest_of t).node newest k)
    (trace : IsTraceOf h t) where
  long : 0 ≢ length h
  long e = let last = is_last h t trace in let moves = last.moves in omega (arith, moves, e)

  pub on : IsTraceOf (h ++ to ∷ []) (record { made = t.made; known = new })
  on = record {
    first = get_push_other h to 0 long ∙ trace.first;
    right = right_on h (addresses_of t) (newest_of t) trace.right (is_last h t trace) to elsewhere (address_in new) newest at one known;
  }

  pub newest_on : newest_of (record { made = t.made; known = new }) ≡ newest
  newest_on =
      same_last (h ++ to ∷ []) (newest_of (record { made = t.made; known = new })) newest
      (is_last (h ++ to ∷ []) (record { made = t.made; known = new }) on)
      (last_on h (addresses_of t) (newest_of t) trace.right (is_last h t trace) to elsewhere (address_in new) newest at one known)

-- where an object was just made
one_is : (b : Bool) (x a : Address) → cond b (Some x) None ≡ Some a → x ≡ a
one_is true x a e = cc
one_is false x a e = cc

first_known : (at c k : ℕ) → slice_get (at ∷ []) c ≡ Some k → IsSince c (addresses_of (first_trace at) k)
first_known at zero k e =
    let same = same_node at k e in
    let is : (at == k) ≡ true = grind (arith, nat_tests) in
    rw is (omega arith)
first_known at (suc c) k e = cc

pub made : (at : ℕ) → IsTraceOf (at ∷ []) (first_trace at)
made at =
    let newest : Address = record { node = at; moves = 0 } in
    record {
      first = refl;
      right = record {
        say = λ k a e. let is = one_is (at == k) newest a e in
            sym (ap (λ (x : Address). slice_get (at ∷ []) x.moves) is) ∙ ap (λ (x : Address). Some x.node) is;
        known = first_known at;
        own = λ k a e _. let is = one_is (at == k) newest a e in sym (ap (λ (x : Address). suc x.moves) is);
      };
    }
