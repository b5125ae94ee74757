-- Where addresses lead.
use Rattle.std.proofs.Common.{◌≡◌, ◌≢◌, ℕ, zero, suc, ◌+◌, ◌-◌, ◌<◌, ◌≤◌, Some, None, Option}
use Rattle.std.proofs.Common.{refl, ap, sym, ◌∙◌, arith, inl, inr, subst}
use Rattle.std.proofs.lemmas.Bool.Decides.{eqb_tells, nat_tests}
use Rattle.std.specs.Prelude.{IsSome}
use Rattle.ec_forwarding.specs.Addresses.{Addresses, IsSince, with_address}
use Rattle.ec_forwarding.specs.Following.{AreShortened, IsFound, Leads, named, named_at, node_after}
use Rattle.ec_forwarding.specs.declared.address.Address.{Address}

pub since : (c : ℕ) (o : Option Address) → IsSince c o → (b : Address) × (o ≡ Some b) × (c ≤ b.moves)
since c None h = absurd h
since c (Some b) h = (b, refl, h)

pub given : (o : Option Address) → IsSome o → (b : Address) × (o ≡ Some b)
given None h = cc
given (Some b) h = (b, refl)

same_node : (i j : ℕ) → Some i ≡ Some j → i ≡ j
same_node i j e = cc

same_address : (a b : Address) → Some a ≡ Some b → a ≡ b
same_address a b e = cc

pub with_same : (A : Addresses) (k : ℕ) (a : Address) (j : ℕ) → j ≡ k → with_address A k a j ≡ Some a
with_same A k a j e = grind (arith, nat_tests)

pub with_other : (A : Addresses) (k : ℕ) (a : Address) (j : ℕ) → j ≢ k → with_address A k a j ≡ A j
with_other A k a j h = grind (arith, nat_tests)

module _ (A : Addresses) (s : ℕ) where
  -- following one address more
  pub next_node : (n k : ℕ) (a : Address) → node_after A s n ≡ Some k → A k ≡ Some a → node_after A s (suc n) ≡ Some a.node
  next_node n k a e f = ap (named_at A) e ∙ ap named f

  -- the node and the address that one comes to, which is no older
  pub record Climbed (n c : ℕ) : Type 0 where
    pub node : ℕ
    pub address : Address
    pub at : node_after A s n ≡ Some node
    pub has : A node ≡ Some address
    pub no_older : c ≤ address.moves

  -- the nodes that are passed in so many hops have the newest address m, and the others what they had
  pub record Stage (m : Address) (B : Addresses) (i k : ℕ) : Type 0 where
    pub at : node_after A s i ≡ Some k
    pub passed : (n j : ℕ) → n < i → node_after A s n ≡ Some j → B j ≡ Some m
    pub others : (j : ℕ) → ((n : ℕ) → n < i → node_after A s n ≢ Some j) → B j ≡ A j

  climbed : (n i c : ℕ) → n ≡ i → Climbed i c → Climbed n c
  climbed n i c e it = subst (λ j. Climbed j c) (sym e) it

  module _ (m : Address) (hops : ℕ) (leads : Leads A m) (found : IsFound A s m.node hops) where
    climb : (i k : ℕ) (a : Address) → node_after A s i ≡ Some k → A k ≡ Some a → (d n : ℕ) → n ≡ i + d → n ≤ hops → Climbed n (a.moves + d)
    climb i k a at has zero n e h =
        climbed n i (a.moves + 0) (omega arith) (record { node = k; address = a; at = at; has = has; no_older = omega arith })
    climb i k a at has (suc d) n e h =
        let before = climb i k a at has d (i + d) refl (omega arith) in
        let to = next_node (i + d) before.node before.address before.at before.has in
        let elsewhere : before.address.node ≢ m.node = λ q. found.first (i + d) (omega arith) (to ∙ ap Some q) in
        let next = since (suc before.address.moves) (A before.address.node) (leads.on before.node before.address before.has elsewhere) in
        let old = before.no_older in
        let newer = next.2 in
        climbed n (suc (i + d)) (a.moves + suc d) (omega arith)
        (record { node = before.address.node; address = next.0; at = to; has = next.1; no_older = omega arith })

    module _ (start : IsSome (A s)) where
      pub climbs : (n : ℕ) → n ≤ hops → Climbed n 0
      climbs n h =
          let first = given (A s) start in
          let it = climb 0 s first.0 refl first.1 n n (omega arith) h in
          record { node = it.node; address = it.address; at = it.at; has = it.has; no_older = omega arith }

      -- a node that is passed has an address
      pub has_one : (n k : ℕ) → n ≤ hops → node_after A s n ≡ Some k → (a : Address) × (A k ≡ Some a)
      has_one n k h e =
          let it = climbs n h in
          let same = same_node k it.node (sym e ∙ it.at) in
          (it.address, ap A same ∙ it.has)

      -- no node is passed twice
      pub apart : (i j k : ℕ) → i < j → j ≤ hops → node_after A s i ≡ Some k → node_after A s j ≢ Some k
      apart i j k less h at again =
          let a = has_one i k (omega arith) at in
          let it = climb i k a.0 at a.1 (j - i) j (omega arith) h in
          let same = same_node k it.node (sym again ∙ it.at) in
          let is = same_address a.0 it.address (sym a.1 ∙ ap A same ∙ it.has) in
          let moves : a.0.moves ≡ it.address.moves = ap (λ x. x.moves) is in
          let older = it.no_older in
          absurd (omega arith)

      -- the node that is passed next still has the address that it had
      pub as_before : (B : Addresses) (i k : ℕ) → i ≤ hops → Stage m B i k → B k ≡ A k
      as_before B i k h stage = stage.others k (λ n less e. apart n i k less h e stage.at)

      pub has_still : (B : Addresses) (i k : ℕ) → i ≤ hops → Stage m B i k → IsSome (B k)
      has_still B i k h stage = let it = has_one i k h stage.at in rw (as_before B i k h stage ∙ it.1) refl

      -- this node gets the newest
      passed_one : (B C : Addresses) (i k : ℕ) → Stage m B i k → ((j : ℕ) → C j ≡ with_address B k m j) → (n j : ℕ) → n < suc i →
          node_after A s n ≡ Some j → C j ≡ Some m
      passed_one B C i k stage is n j less e =
          elim (eqb_tells j k) as (λ _. C j ≡ Some m) [
            | inl h ↦ is j ∙ with_same B k m j h.1
            | inr h ↦
                let sooner : n < i = elim (eqb_tells n i) as (λ _. n < i) [
                  | inl at ↦ absurd (h.1 (same_node j k (sym e ∙ ap (node_after A s) at.1 ∙ stage.at)))
                  | inr away ↦ let apart = away.1 in omega arith
                ] in
                is j ∙ with_other B k m j h.1 ∙ stage.passed n j sooner e
          ]

      others_one : (B C : Addresses) (i k : ℕ) → Stage m B i k → ((j : ℕ) → C j ≡ with_address B k m j) → (j : ℕ) →
          ((n : ℕ) → n < suc i → node_after A s n ≢ Some j) → C j ≡ A j
      others_one B C i k stage is j none =
          let away : j ≢ k = λ e. none i (omega arith) (stage.at ∙ ap Some (sym e)) in
          is j ∙ with_other B k m j away ∙ stage.others j (λ n less. none n (omega arith))

      pub next : (B C : Addresses) (i k : ℕ) (a : Address) → i < hops → Stage m B i k → B k ≡ Some a →
          ((j : ℕ) → C j ≡ with_address B k m j) → Stage m C (suc i) a.node
      next B C i k a h stage has is = record {
        at = next_node i k a stage.at (sym (as_before B i k (omega arith) stage) ∙ has);
        passed = passed_one B C i k stage is;
        others = others_one B C i k stage is;
      }

      pub ends : (B C : Addresses) (k : ℕ) → Stage m B hops k → ((j : ℕ) → C j ≡ with_address B k m j) → AreShortened A C s hops m
      ends B C k stage is = record {
        passed = λ n j h. passed_one B C hops k stage is n j (omega arith);
        others = λ j none. others_one B C hops k stage is j (λ n h. none n (omega arith));
      }
