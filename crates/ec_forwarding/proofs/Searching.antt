-- What a search from a node changes.
use Rattle.std.proofs.Common.{◌≡◌, ◌≢◌, ◌⊎◌, ℕ, zero, suc, ◌≤◌, Some, None, Option}
use Rattle.std.proofs.Common.{refl, ap, sym, ◌∙◌, arith, inl, inr}
use Rattle.std.proofs.lemmas.Bool.Decides.{eqb_tells}
use Rattle.std.specs.Prelude.{IsSome, false, is_some, true}
use Rattle.ec_forwarding.proofs.Leading.{climbs, given, since, with_other, with_same}
use Rattle.ec_forwarding.specs.Addresses.{Addresses, IsSince, with_address}
use Rattle.ec_forwarding.specs.Following.{AreNewer, AreShortened, IsFound, IsNotPassed, Leads, named, named_at, node_after, own_or_made}
use Rattle.ec_forwarding.specs.declared.address.Address.{Address}

-- a node was passed, or it wasn't
abbrev IsPassed : Addresses → ℕ → ℕ → ℕ → Type 0
IsPassed A k hops j = (n : ℕ) × (n ≤ hops) × (node_after A k n ≡ Some j)

is_node : (o : Option ℕ) (j : ℕ) → (o ≡ Some j) ⊎ (o ≢ Some j)
is_node None j = inr (λ e. cc)
is_node (Some i) j = elim (eqb_tells i j) as (λ _. (Some i ≡ Some j) ⊎ (Some i ≢ Some j)) [
  | inl h ↦ inl (ap Some h.1)
  | inr h ↦ inr (λ e. h.1 (cc e))
]

decide : (A : Addresses) (k j hops : ℕ) → (IsPassed A k hops j) ⊎ (IsNotPassed A k hops j)
decide A k j zero = elim (is_node (node_after A k 0) j) as (λ _. (IsPassed A k 0 j) ⊎ (IsNotPassed A k 0 j)) [
  | inl e ↦ inl (0, omega arith, e)
  | inr h ↦ inr (λ n less e. let is : n ≡ 0 = omega arith in h (ap (node_after A k) (sym is) ∙ e))
]
decide A k j (suc hops) = elim (decide A k j hops) as (λ _. (IsPassed A k (suc hops) j) ⊎ (IsNotPassed A k (suc hops) j)) [
  | inl p ↦ let less = p.1 in inl (p.0, omega arith, p.2)
  | inr none ↦ elim (is_node (node_after A k (suc hops)) j) as (λ _. (IsPassed A k (suc hops) j) ⊎ (IsNotPassed A k (suc hops) j)) [
    | inl e ↦ inl (suc hops, omega arith, e)
    | inr h ↦ inr (λ n less e. elim (eqb_tells n (suc hops)) as (λ _. ⊥) [
      | inl is ↦ h (ap (node_after A k) (sym is.1) ∙ e)
      | inr other ↦ let away = other.1 in none n (omega arith) e
    ])
  ]
]

-- each address is what it was, or the newest
pub each : (A B : Addresses) (from k hops : ℕ) (m : Address) → AreNewer A B from k hops m → (j : ℕ) → (B j ≡ A j) ⊎ (B j ≡ Some m)
each A B from k hops m newer j = elim (eqb_tells j from) as (λ _. (B j ≡ A j) ⊎ (B j ≡ Some m)) [
  | inl is ↦ inr (ap B is.1 ∙ newer.own)
  | inr away ↦ elim (decide A k j hops) as (λ _. (B j ≡ A j) ⊎ (B j ≡ Some m)) [
    | inl p ↦ inr (newer.passed p.0 j p.1 p.2)
    | inr none ↦ inl (newer.others j (away.1, none))
  ]
]

-- where a node has an address the search begins there
pub from_own : (A B : Addresses) (from hops : ℕ) (m : Address) → AreShortened A B from hops m → AreNewer A B from from hops m
from_own A B from hops m s = record {
  own = s.passed 0 from (omega arith) refl;
  passed = s.passed;
  others = λ j h. s.others j h.1;
}

pub own_is : (o : Option Address) (from made : ℕ) → is_some o ≡ true → own_or_made o from made ≡ from
own_is None from made e = cc
own_is (Some a) from made e = refl

pub made_is : (o : Option Address) (from made : ℕ) → is_some o ≡ false → own_or_made o from made ≡ made
made_is None from made e = refl
made_is (Some a) from made e = cc

none_is : (o : Option Address) → is_some o ≡ false → o ≡ None
none_is None e = refl
none_is (Some a) e = cc

names : (o : Option Address) (j : ℕ) → named o ≡ Some j → (a : Address) × (o ≡ Some a) × (a.node ≡ j)
names None j e = cc
names (Some a) j e = (a, refl, cc)

came : (A : Addresses) (o : Option ℕ) (j : ℕ) → named_at A o ≡ Some j →
    (k : ℕ) × (a : Address) × (o ≡ Some k) × (A k ≡ Some a) × (a.node ≡ j)
came A None j e = cc
came A (Some k) j e = let it = names (A k) j e in (k, it.0, refl, it.1, it.2)

same_node : (i j : ℕ) → Some i ≡ Some j → i ≡ j
same_node i j e = cc

-- a node that had no address has the newest
module _ (A B : Addresses) (from : ℕ) (m : Address) (none : is_some (A from) ≡ false) (adds : (j : ℕ) → B j ≡ with_address A from m j) where
  keeps : (k : ℕ) (a : Address) → A k ≡ Some a → B k ≡ Some a
  keeps k a e = adds k ∙ with_other A from m k (λ is. let no = none_is (A from) none in let at = ap A is in cc) ∙ e

  same_way : (s n j : ℕ) → node_after A s n ≡ Some j → node_after B s n ≡ Some j
  same_way s zero j e = e
  same_way s (suc n) j e =
      let it = came A (node_after A s n) j e in
      let before = same_way s n it.0 it.2 in
      ap (named_at B) before ∙ ap named (keeps it.0 it.1 it.3) ∙ ap Some it.4

  pub leads_more : Leads A m → Leads B m
  leads_more leads = record {
    on = λ k a e away. elim (eqb_tells k from) as (λ _. IsSince (suc a.moves) (B a.node)) [
      | inl is ↦
          let new : m ≡ a = let at = ap B is.1 in let it = adds from in let same = with_same A from m from refl in cc in
          absurd (away (ap (λ x. x.node) (sym new)))
      | inr other ↦
          let it = since (suc a.moves) (A a.node) (leads.on k a (sym (adds k ∙ with_other A from m k other.1) ∙ e) away) in
          rw (keeps a.node it.0 it.1) it.2
    ];
    own = keeps m.node m leads.own;
    old = λ k a e. elim (eqb_tells k from) as (λ _. a.moves ≤ m.moves) [
      | inl is ↦
          let new : m ≡ a = let at = ap B is.1 in let it = adds from in let same = with_same A from m from refl in cc in
          let moves : m.moves ≡ a.moves = ap (λ x. x.moves) new in
          omega arith
      | inr other ↦ leads.old k a (sym (adds k ∙ with_other A from m k other.1) ∙ e)
    ];
  }

  pub start_more : (s : ℕ) → IsSome (A s) → IsSome (B s)
  start_more s start = let it = given (A s) start in rw (keeps s it.0 it.1) refl

  module _ (s hops : ℕ) (start : IsSome (A s)) (leads : Leads A m) (found : IsFound A s m.node hops) where
    back : (n j : ℕ) → n ≤ hops → node_after B s n ≡ Some j → node_after A s n ≡ Some j
    back n j h e =
        let it = climbs A s m hops leads found start n h in
        let same = same_node it.node j (sym (same_way s n it.node it.at) ∙ e) in
        it.at ∙ ap Some same

    pub found_more : IsFound B s m.node hops
    found_more = record {
      there = same_way s (suc hops) m.node found.there;
      first = λ n h e. found.first n h (back (suc n) m.node (omega arith) e);
    }

    pub from_made : (C : Addresses) → AreShortened B C s hops m → AreNewer A C from s hops m
    from_made C short = record {
      own = elim (decide B s from hops) as (λ _. C from ≡ Some m) [
        | inl p ↦ short.passed p.0 from p.1 p.2
        | inr away ↦ short.others from away ∙ adds from ∙ with_same A from m from refl
      ];
      passed = λ n j h e. short.passed n j h (same_way s n j e);
      others = λ j aside. short.others j (λ n h e. aside.1 n h (back n j h e)) ∙ adds j ∙ with_other A from m j aside.0;
    }
