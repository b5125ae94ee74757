-- The newest of the addresses that nodes have, by an object's history.
use Rattle.std.proofs.Common.{◌≡◌, ◌⊎◌, ℕ, ◌<◌, ◌≤◌, List, [], ◌∷◌, Some, None, Option, Bool, true, false, cond}
use Rattle.std.proofs.Common.{refl, ap, ◌∙◌, arith, inl, inr}
use Rattle.std.proofs.lemmas.Bool.Decides.{nat_tests}
use Rattle.std.specs.Prelude.{◌==◌, IsSome, nat_lt, slice_get}
use Rattle.ec_forwarding.specs.Addresses.{Addresses, address_in}
use Rattle.ec_forwarding.specs.Traces.{newer, newest_at}
use Rattle.ec_forwarding.specs.declared.address.Address.{Address}
use Rattle.ec_forwarding.specs.declared.address.Known.{Known}

-- it is one of the two
chosen : (t : Bool) (a b : Address) → nat_lt a.moves b.moves ≡ t →
    ((newer (Some a) b ≡ b) × (a.moves < b.moves)) ⊎ ((newer (Some a) b ≡ a) × (b.moves ≤ a.moves))
chosen true a b e = inl (rw e refl, grind (arith, nat_tests))
chosen false a b e = inr (rw e refl, grind (arith, nat_tests))

-- what an address says is right
abbrev Says : List ℕ → Address → Type 0
Says h a = slice_get h a.moves ≡ Some a.node

says_same : (h : List ℕ) (a b : Address) → a ≡ b → Says h b → Says h a
says_same h a b e s = rw e s

moves_same : (a b : Address) → a ≡ b → a.moves ≡ b.moves
moves_same a b e = ap (λ (x : Address). x.moves) e

module _ (h : List ℕ) (A : Addresses) (say : (k : ℕ) (a : Address) → A k ≡ Some a → Says h a) where
  -- one that was written at a move is right
  moved_step : (k : ℕ) (o : Option Address) (b : Address) → A k ≡ o → (0 < b.moves → Says h b) → 0 < (newer o b).moves →
      Says h (newer o b)
  moved_step k None b e rest some = rest some
  moved_step k (Some a) b e rest some = elim (chosen (nat_lt a.moves b.moves) a b refl) as (λ _. Says h (newer (Some a) b)) [
    | inl x ↦ let less = x.1 in says_same h (newer (Some a) b) b x.0 (rest (omega arith))
    | inr x ↦ says_same h (newer (Some a) b) a x.0 (say k a e)
  ]

  moved : (ns : List Known) → 0 < (newest_at A ns).moves → Says h (newest_at A ns)
  moved [] some = absurd (omega arith)
  moved (n ∷ ns) some = moved_step n.at (A n.at) (newest_at A ns) refl (moved ns) some

  -- where a node has an address, the newest is right, and no older
  abbrev IsRight : Address → Address → Type 0
  IsRight a b = Says h b × (a.moves ≤ b.moves)

  here : (a b : Address) → Says h a → (0 < b.moves → Says h b) → IsRight a (newer (Some a) b)
  here a b says rest = elim (chosen (nat_lt a.moves b.moves) a b refl) as (λ _. IsRight a (newer (Some a) b)) [
    | inl x ↦
        let less = x.1 in
        let moves = moves_same (newer (Some a) b) b x.0 in
        (says_same h (newer (Some a) b) b x.0 (rest (omega arith)), omega arith)
    | inr x ↦ let moves = moves_same (newer (Some a) b) a x.0 in (says_same h (newer (Some a) b) a x.0 says, omega arith)
  ]

  there : (k : ℕ) (o : Option Address) (a b : Address) → A k ≡ o → IsRight a b → IsRight a (newer o b)
  there k None a b e rest = rest
  there k (Some c) a b e rest = elim (chosen (nat_lt c.moves b.moves) c b refl) as (λ _. IsRight a (newer (Some c) b)) [
    | inl x ↦
        let no_older = rest.1 in
        let moves = moves_same (newer (Some c) b) b x.0 in
        (says_same h (newer (Some c) b) b x.0 rest.0, omega arith)
    | inr x ↦
        let no_older = rest.1 in
        let less = x.1 in
        let moves = moves_same (newer (Some c) b) c x.0 in
        (says_same h (newer (Some c) b) c x.0 (say k c e), omega arith)
  ]

  is_right_step : (b : Bool) (k : ℕ) (a : Address) (n : Known) (ns : List Known) → (n.at == k) ≡ b → A k ≡ Some a →
      IsSome (cond b (Some n.address) (address_in ns k)) → (IsSome (address_in ns k) → IsRight a (newest_at A ns)) →
      IsRight a (newest_at A (n ∷ ns))
  is_right_step true k a n ns e has some rest =
      let is : n.at ≡ k = grind (arith, nat_tests) in
      rw (ap A is ∙ has) (here a (newest_at A ns) (say k a has) (moved ns))
  is_right_step false k a n ns e has some rest = there n.at (A n.at) a (newest_at A ns) refl (rest some)

  pub is_right : (ns : List Known) (k : ℕ) (a : Address) → A k ≡ Some a → IsSome (address_in ns k) → IsRight a (newest_at A ns)
  is_right [] k a has some = absurd cc
  is_right (n ∷ ns) k a has some = is_right_step (n.at == k) k a n ns refl has some (is_right ns k a has)
