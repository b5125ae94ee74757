-- The first place of a list at which a node's address is.
use Rattle.std.proofs.Common.{◌≡◌, ℕ, suc, ◌+◌, ◌<◌, Bool, true, false, cond, not, List, [], ◌∷◌, ◌++◌, length, Some, None, Option}
use Rattle.std.proofs.Common.{refl, sym, ◌∙◌, arith, drop, get_or, set, take}
use Rattle.std.proofs.lemmas.List.{take-append-le, take_all}
use Rattle.std.proofs.lemmas.Bool.Decides.{nat_tests}
use Rattle.std.specs.Prelude.{◌==◌, position, is_some, IsSome, nat_lt}
use Rattle.std.specs.List.{position_or_len}
use Rattle.ec_forwarding.specs.Addresses.{address_in, with_address}
use Rattle.ec_forwarding.specs.declared.address.Address.{Address}
use Rattle.ec_forwarding.specs.declared.address.Known.{Known}

-- where the address of node k is, or the list's length
abbrev pub place_in : List Known → ℕ → ℕ
place_in ns k = position_or_len (λ n. n.at == k) ns

next_is : (b : Bool) (n : Known) (ns : List Known) (q : ℕ) (r : Option Address) (d : Known) →
    (q < length ns → r ≡ Some (get_or ns q d).address) → cond (not b) (1 + q) 0 < length (n ∷ ns) →
    cond b (Some n.address) r ≡ Some (get_or (n ∷ ns) (cond (not b) (1 + q) 0) d).address
next_is true n ns q r d h less = refl
next_is false n ns q r d h less = let e : 1 + q ≡ suc q = omega arith in rw e (h (omega arith))

given : (ns : List Known) (k : ℕ) (d : Known) → place_in ns k < length ns → address_in ns k ≡ Some (get_or ns (place_in ns k) d).address
given [] k d h = absurd (omega arith)
given (n ∷ ns) k d h = next_is (n.at == k) n ns (place_in ns k) (address_in ns k) d (given ns k d) h

next_there : (b : Bool) (n : Known) (ns : List Known) (q : ℕ) (r : Option Address) → nat_lt q (length ns) ≡ is_some r →
    nat_lt (cond (not b) (1 + q) 0) (length (n ∷ ns)) ≡ is_some (cond b (Some n.address) r)
next_there true n ns q r h = grind (arith, nat_tests)
next_there false n ns q r h = grind (arith, nat_tests)

there : (ns : List Known) (k : ℕ) → nat_lt (place_in ns k) (length ns) ≡ is_some (address_in ns k)
there [] k = grind (arith, nat_tests)
there (n ∷ ns) k = next_there (n.at == k) n ns (place_in ns k) (address_in ns k) (there ns k)

some_is : (b : Bool) (q : ℕ) → is_some (cond b (Some q) None) ≡ b
some_is true q = refl
some_is false q = refl

pub is_known : (ns : List Known) (k : ℕ) → is_some (position (λ n. n.at == k) ns) ≡ is_some (address_in ns k)
is_known ns k = some_is (nat_lt (place_in ns k) (length ns)) (place_in ns k) ∙ there ns k

tells : (o : Option Address) → IsSome o → is_some o ≡ true
tells None h = cc
tells (Some a) h = refl

chosen : (b : Bool) (q : ℕ) → b ≡ true → cond b (Some q) None ≡ Some q
chosen true q e = refl
chosen false q e = cc

pub found : (ns : List Known) (k : ℕ) → IsSome (address_in ns k) → position (λ n. n.at == k) ns ≡ Some (place_in ns k)
found ns k h = chosen (nat_lt (place_in ns k) (length ns)) (place_in ns k) (there ns k ∙ tells (address_in ns k) h)

within : (ns : List Known) (k : ℕ) → IsSome (address_in ns k) → place_in ns k < length ns
within ns k h = let e = there ns k ∙ tells (address_in ns k) h in grind (arith, nat_tests)

same : (m n : ℕ) → Some m ≡ Some n → m ≡ n
same m n e = cc

pub read : (ns : List Known) (k i : ℕ) (d : Known) → IsSome (address_in ns k) → position (λ n. n.at == k) ns ≡ Some i →
    address_in ns k ≡ Some (get_or ns i d).address
read ns k i d h e = rw (same i (place_in ns k) (sym e ∙ found ns k h)) (given ns k d (within ns k h))

next_set : (b : Bool) (n new : Known) (ns : List Known) (k j q : ℕ) (a : Address) → new.at ≡ k → new.address ≡ a → (n.at == k) ≡ b →
    (q < length ns → address_in (set ns q new) j ≡ with_address (address_in ns) k a j) → cond (not b) (1 + q) 0 < length (n ∷ ns) →
    address_in (set (n ∷ ns) (cond (not b) (1 + q) 0) new) j ≡ with_address (address_in (n ∷ ns)) k a j
next_set true n new ns k j q a at is e h less = grind (arith, nat_tests)
next_set false n new ns k j q a at is e h less =
    let s : 1 + q ≡ suc q = omega arith in
    let rest = h (omega arith) in
    rw s (grind (arith, nat_tests))

renewed : (ns : List Known) (k j : ℕ) (a : Address) (new : Known) → new.at ≡ k → new.address ≡ a → place_in ns k < length ns →
    address_in (set ns (place_in ns k) new) j ≡ with_address (address_in ns) k a j
renewed [] k j a new at is h = absurd (omega arith)
renewed (n ∷ ns) k j a new at is h =
    next_set (n.at == k) n new ns k j (place_in ns k) a at is refl (λ less. renewed ns k j a new at is less) h

next_at : (b : Bool) (n : Known) (ns : List Known) (k q : ℕ) (d : Known) → (n.at == k) ≡ b → (q < length ns → (get_or ns q d).at ≡ k) →
    cond (not b) (1 + q) 0 < length (n ∷ ns) → (get_or (n ∷ ns) (cond (not b) (1 + q) 0) d).at ≡ k
next_at true n ns k q d e h less = grind (arith, nat_tests)
next_at false n ns k q d e h less = let s : 1 + q ≡ suc q = omega arith in rw s (h (omega arith))

is_at : (ns : List Known) (k : ℕ) (d : Known) → place_in ns k < length ns → (get_or ns (place_in ns k) d).at ≡ k
is_at [] k d h = absurd (omega arith)
is_at (n ∷ ns) k d h = next_at (n.at == k) n ns k (place_in ns k) d refl (is_at ns k d) h

-- one node's address is set
pub renews : (ns : List Known) (k i : ℕ) (a : Address) (d : Known) → IsSome (address_in ns k) → position (λ n. n.at == k) ns ≡ Some i →
    (j : ℕ) → address_in (set ns i (record { at = (get_or ns i d).at; address = a })) j ≡ with_address (address_in ns) k a j
renews ns k i a d h e j =
    rw (same i (place_in ns k) (sym e ∙ found ns k h))
    (renewed ns k j a (record { at = (get_or ns (place_in ns k) d).at; address = a }) (is_at ns k d (within ns k h)) refl (within ns k h))

-- one node more has an address
next_more : (b : Bool) (n new : Known) (ns : List Known) (k j : ℕ) → new.at ≡ k → (n.at == k) ≡ b →
    is_some (cond b (Some n.address) (address_in ns k)) ≡ false →
    (is_some (address_in ns k) ≡ false → address_in (ns ++ new ∷ []) j ≡ with_address (address_in ns) k new.address j) →
    address_in ((n ∷ ns) ++ new ∷ []) j ≡ with_address (address_in (n ∷ ns)) k new.address j
next_more true n new ns k j at e none h = cc
next_more false n new ns k j at e none h = let rest = h none in grind (arith, nat_tests)

more : (ns : List Known) (k j : ℕ) (new : Known) → new.at ≡ k → is_some (address_in ns k) ≡ false →
    address_in (ns ++ new ∷ []) j ≡ with_address (address_in ns) k new.address j
more [] k j new at none = grind (arith, nat_tests)
more (n ∷ ns) k j new at none = next_more (n.at == k) n new ns k j at refl none (λ e. more ns k j new at e)

pub adds : (ns : List Known) (k : ℕ) (a : Address) → is_some (address_in ns k) ≡ false →
    (j : ℕ) → address_in (ns ++ record { at = k; address = a } ∷ []) j ≡ with_address (address_in ns) k a j
adds ns k a none j = more ns k j (record { at = k; address = a }) refl none

-- what is read past the end
abbrev pub no_one : Known
no_one = record { at = 0; address = record { node = 0; moves = 0 } }

-- a list that was lent whole
pub whole : (n : ℕ) (new items : List Known) → length new ≡ n → length items ≡ n → take n (new ++ drop (length new) items) ≡ new
whole n new items a b =
    take-append-le n new (drop (length new) items) (omega arith) ∙ take_all n new (omega arith)
