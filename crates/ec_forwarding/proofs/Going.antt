-- An object goes from the node where it is, which has the newest address, to another.
use Rattle.std.proofs.Common.{◌≡◌, ◌≢◌, ℕ, suc, ◌+◌, List, [], ◌∷◌, ◌++◌, Some, add-one, refl, ap, sym, ◌∙◌, subst}
use Rattle.std.specs.Prelude.{Err, IsSome, Ok, OnErr, OnOk, Result}
use Rattle.ec_forwarding.proofs.Histories.{newest_on, on, place_own}
use Rattle.ec_forwarding.specs.Addresses.{address_in, with_address}
use Rattle.ec_forwarding.specs.Traces.{IsTrace, IsTraceOf, Trace, addresses_of, newest_of}
use Rattle.ec_forwarding.specs.declared.address.Address.{Address}
use Rattle.ec_forwarding.specs.declared.address.Known.{Known}

same_some : (a b : Address) → Some a ≡ Some b → a ≡ b
same_some a b e = cc

module _ (t : Trace) (from : ℕ) (there : (newest_of t).node ≡ from) where
  has_own : (h : List ℕ) → IsTraceOf h t → addresses_of t from ≡ Some (newest_of t)
  has_own h trace = ap (addresses_of t) (sym there) ∙ place_own h t trace

  pub has_some : IsTrace t → IsSome (addresses_of t from)
  has_some it = rw (has_own it.0 it.1) refl

  module _ (last : Address) (has : addresses_of t from ≡ Some last) where
    own_of : (h : List ℕ) → IsTraceOf h t → last ≡ newest_of t
    own_of h trace = same_some last (newest_of t) (sym has ∙ has_own h trace)

    pub moves_of_own : IsTrace t → last.moves ≡ (newest_of t).moves
    moves_of_own it = ap (λ (x : Address). x.moves) (own_of it.0 it.1)

    module _ (to : ℕ) (elsewhere : from ≢ to) (new : List Known) where
      abbrev then : Trace
      then = record { made = t.made; known = new }

      abbrev now : Address
      now = record { node = to; moves = last.moves + 1 }

      abbrev AreSo : Address → Type 0
      AreSo a = (k : ℕ) → address_in new k ≡ with_address (with_address (addresses_of t) to a) from a k

      one : (h : List ℕ) → IsTraceOf h t → now.moves ≡ suc (newest_of t).moves
      one h trace = add-one last.moves ∙ ap (λ (x : Address). suc x.moves) (own_of h trace)

      away : (newest_of t).node ≢ to
      away e = elsewhere (sym there ∙ e)

      at_newest : AreSo now → (k : ℕ) →
          address_in new k ≡ with_address (with_address (addresses_of t) to now) (newest_of t).node now k
      at_newest known k = known k ∙ ap (λ n. with_address (with_address (addresses_of t) to now) n now k) (sym there)

      goes : (h : List ℕ) → AreSo now → IsTraceOf h t → IsTraceOf (h ++ to ∷ []) then
      goes h known trace = on h t to new now away refl (one h trace) (at_newest known) trace

      newest_then : (h : List ℕ) → AreSo now → IsTraceOf h t → newest_of then ≡ now
      newest_then h known trace = newest_on h t to new now away refl (one h trace) (at_newest known) trace

      -- it may have failed
      module _ {A E : Type 0} (r : Result A E) (ok : OnOk r (AreSo now)) (err : OnErr r (new ≡ t.known)) (it : IsTrace t) where
        pub still : IsTrace then
        still = by r ok err
          where
            by : (r : Result A E) → OnOk r (AreSo now) → OnErr r (new ≡ t.known) → IsTrace then
            by (Ok a) ok err = (it.0 ++ to ∷ [], goes it.0 ok it.1)
            by (Err e) ok err = subst (λ (ns : List Known). IsTrace (record { made = t.made; known = ns })) (sym err) it

        pub newest_is : OnOk r (newest_of then ≡ record { node = to; moves = suc (newest_of t).moves })
        newest_is = by r ok
          where
            by : (r : Result A E) → OnOk r (AreSo now) → OnOk r (newest_of then ≡ record { node = to; moves = suc (newest_of t).moves })
            by (Ok a) ok =
                newest_then it.0 ok it.1 ∙ ap (λ (n : ℕ). record { node = to; moves = n }) (one it.0 it.1)
            by (Err e) ok = tt

        pub known_is : OnOk r (AreSo (newest_of then))
        known_is = by r ok
          where
            by : (r : Result A E) → OnOk r (AreSo now) → OnOk r (AreSo (newest_of then))
            by (Ok a) ok = subst AreSo (sym (newest_then it.0 ok it.1)) ok
            by (Err e) ok = tt

        pub right_is : OnOk r ((h : List ℕ) → IsTraceOf h t → IsTraceOf (h ++ to ∷ []) then)
        right_is = by r ok
          where
            by : (r : Result A E) → OnOk r (AreSo now) → OnOk r ((h : List ℕ) → IsTraceOf h t → IsTraceOf (h ++ to ∷ []) then)
            by (Ok a) ok = λ h trace. goes h ok trace
            by (Err e) ok = tt
