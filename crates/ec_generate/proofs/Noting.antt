-- The map of addresses, with one stop more and with the stops of one operation more.
use Rattle.std.proofs.Common.{◌≡◌, ◌≢◌, ℕ, zero, suc, ◌+◌, ◌<◌, ◌≤◌, false, List, [], ◌∷◌, ◌++◌, length, map, take}
use Rattle.std.proofs.Common.{Some, refl}
use Rattle.std.proofs.Common.{sym, ap, ◌∙◌, subst, arith, ◌⊎◌, inl, inr, ⊎_elim}
use Rattle.std.specs.Prelude.{slice_get}
use Rattle.std.specs.BTreeMap.{BTreeMap, Updates, get, is_at}
use Rattle.std.specs.Ordering.{nat_cmp}
use Rattle.std.proofs.lemmas.Bool.{cases_eq, cases_lt}
use Rattle.std.proofs.lemmas.Option.{same_Some}
use Rattle.ec_machine_code.specs.Stops.{address_of, row_or_empty, stops_if}
use Rattle.ec_machine_code.specs.declared.code.Code.{Code}
use Rattle.ec_machine_code.specs.declared.code.OperationCode.{OperationCode}
use Rattle.ec_generate.specs.Addresses.{AreApart, AreFound, Notes, address_in}
use Rattle.ec_generate.specs.declared.table.StopId.{StopId}

abbrev pub id_of : ℕ → ℕ → StopId
id_of op n = record { operation = op; stop = n }

-- the map has the first so many of an operation's stops, and is as it was at all other addresses
pub record NotesBelow (below : ℕ) (old new : BTreeMap ℕ StopId) (op : ℕ) (stops : List ℕ) : Type 0 where
  pub each : (n address : ℕ) → n < below → slice_get stops n ≡ Some address → get nat_cmp new address ≡ Some (id_of op n)
  pub others : (address : ℕ) → ((n : ℕ) → n < below → slice_get stops n ≢ Some address) → get nat_cmp new address ≡ get nat_cmp old address

other_number : (a b : ℕ) → a ≢ b → is_at (nat_cmp a) b ≡ false
other_number a b ne = grind (arith, ne)

below_or_last : (n k : ℕ) → k < n + 1 → (k < n) ⊎ (k ≡ n)
below_or_last n k h = ⊎_elim (λ (lt : k < n). inl lt) (λ (le : n ≤ k). inr (omega (arith, le, h))) (cases_lt k n)

pub one_noted : (n : ℕ) (old now new : BTreeMap ℕ StopId) (op : ℕ) (stops : List ℕ) (x : ℕ) → slice_get stops n ≡ Some x →
    ((k m a : ℕ) → slice_get stops k ≡ Some a → slice_get stops m ≡ Some a → k ≡ m) →
    Updates nat_cmp now new x (Some (id_of op n)) → NotesBelow n old now op stops → NotesBelow (n + 1) old new op stops
one_noted n old now new op stops x there apart updates so_far = record {
  each = λ k a lt e. ⊎_elim
      (λ (below : k < n).
      let ne : x ≢ a = λ same. (let q : k ≡ n = apart k n x (e ∙ ap Some (sym same)) there in omega (arith, q, below)) in
      updates.2 a (other_number x a ne) ∙ so_far.each k a below e)
      (λ (last : k ≡ n).
      let same : a ≡ x = same_Some a x (sym e ∙ ap (slice_get stops) last ∙ there) in
      ap (get nat_cmp new) same ∙ updates.1 ∙ ap (λ j. Some (id_of op j)) (sym last))
      (below_or_last n k lt);
  others = λ a none.
      let ne : x ≢ a = λ same. none n (omega arith) (there ∙ ap Some same) in
      updates.2 a (other_number x a ne) ∙ so_far.others a (λ k lt. none k (omega (arith, lt)));
}

-- ---- the stops of one operation more

-- the map has the stops of the first so many operations at their addresses, and no others
pub record IsFoundBelow (below : ℕ) (found : BTreeMap ℕ StopId) (code : Code) : Type 0 where
  pub each : (op n address : ℕ) → op < below → address_of code op n ≡ Some address → get nat_cmp found address ≡ Some (id_of op n)
  pub only :
      (address : ℕ) (id : StopId) → get nat_cmp found address ≡ Some id →
      (id.operation < below) × (address_of code id.operation id.stop ≡ Some address)

-- an address is that of one of these stops, or of none
one_of : (stops : List ℕ) (address : ℕ) → ((n : ℕ) × (slice_get stops n ≡ Some address)) ⊎ ((n : ℕ) → slice_get stops n ≢ Some address)
one_of [] address = inr (λ n e. (cc))
one_of (a ∷ rest) address = ⊎_elim
    (λ (same : a ≡ address). inl (0, ap Some same))
    (λ (other : a ≡ address → ⊥). ⊎_elim
    (λ (found : (n : ℕ) × (slice_get rest n ≡ Some address)). inl (suc found.0, found.1))
    (λ (none : (n : ℕ) → slice_get rest n ≢ Some address). inr (none_in other none))
    (one_of rest address))
    (cases_eq a address)
  where
    none_in : (a ≡ address → ⊥) → ((n : ℕ) → slice_get rest n ≢ Some address) → (n : ℕ) → slice_get (a ∷ rest) n ≢ Some address
    none_in other none zero e = other (same_Some a address e)
    none_in other none (suc n) e = none n e

pub one_found : (op : ℕ) (now new : BTreeMap ℕ StopId) (code : Code) (stops : List ℕ) →
    ((n : ℕ) → address_of code op n ≡ slice_get stops n) → AreApart code → Notes now new op stops → IsFoundBelow op now code →
    IsFoundBelow (op + 1) new code
one_found op now new code stops are apart notes so_far = record {
  each = λ k n a lt e. ⊎_elim
      (λ (below : k < op).
      notes.others a (λ m same. (let q = apart k n op m a e (are m ∙ same) in let r = q.0 in omega (arith, r, below)))
      ∙ so_far.each k n a below e)
      (λ (last : k ≡ op).
      notes.each n a (sym (are n) ∙ ap (λ j. address_of code j n) (sym last) ∙ e) ∙ ap (λ j. Some (id_of j n)) (sym last))
      (below_or_last op k lt);
  only = λ a id e. ⊎_elim
      (λ (found : (n : ℕ) × (slice_get stops n ≡ Some a)).
      let same : id_of op found.0 ≡ id = same_Some (id_of op found.0) id (sym (notes.each found.0 a found.1) ∙ e) in
      subst (λ (j : StopId). (j.operation < op + 1) × (address_of code j.operation j.stop ≡ Some a)) same
      (omega arith, are found.0 ∙ found.1))
      (λ (none : (n : ℕ) → slice_get stops n ≢ Some a).
      let before = so_far.only a id (sym (notes.others a none) ∙ e) in
      (let lt = before.0 in omega (arith, lt), before.1))
      (one_of stops a);
}

-- ---- all operations

pub map_append : (os : List OperationCode) (o : OperationCode) → map (λ p. p.stops) (os ++ o ∷ []) ≡ map (λ p. p.stops) os ++ o.stops ∷ []
map_append [] o = refl
map_append (p ∷ os) o = ap (λ l. p.stops ∷ l) (map_append os o)

address_same : (os : List OperationCode) (op n : ℕ) →
    slice_get (row_or_empty (slice_get (map (λ p. p.stops) os) op)) n ≡ slice_get (stops_if (slice_get os op)) n
address_same [] op n = refl
address_same (o ∷ os) zero n = refl
address_same (o ∷ os) (suc op) n = address_same os op n

take_all : (os : List OperationCode) (n : ℕ) → length os ≤ n → take n os ≡ os
take_all [] zero h = refl
take_all [] (suc n) h = refl
take_all (o ∷ os) zero h = absurd (omega arith)
take_all (o ∷ os) (suc n) h = ap (λ l. o ∷ l) (take_all os n (omega arith))

pub found_all : (below : ℕ) (found : BTreeMap ℕ StopId) (code : Code) (of : List (List ℕ)) →
    of ≡ map (λ o. o.stops) (take below code.operations) → length code.operations ≤ below → IsFoundBelow below found code →
    AreFound found of
found_all below found code of is all so_far =
    let same : of ≡ map (λ o. o.stops) code.operations = is ∙ ap (map (λ o. o.stops)) (take_all code.operations below all) in
    let are : (op n : ℕ) → address_in of op n ≡ address_of code op n =
    λ op n. ap (λ l. address_in l op n) same ∙ address_same code.operations op n in
    record {
      each = λ op n a e.
          let there = are_in code op n a (sym (are op n) ∙ e) in
          so_far.each op n a (omega (arith, all, there)) (sym (are op n) ∙ e);
      only = λ a id e. are id.operation id.stop ∙ (so_far.only a id e).1;
    }
  where
    are_in : (code : Code) (op n a : ℕ) → address_of code op n ≡ Some a → op < length code.operations
    are_in code op n a e = in_list code.operations op n a e
      where
        in_list : (os : List OperationCode) (op n a : ℕ) → slice_get (stops_if (slice_get os op)) n ≡ Some a → op < length os
        in_list [] op n a e = absurd cc
        in_list (o ∷ os) zero n a e = omega arith
        in_list (o ∷ os) (suc op) n a e = let lt = in_list os op n a e in omega (arith, lt)
